use Rattle.std.proofs.Common.{ℕ, ◌+◌, ◌*◌, ◌/◌, ap, sym, ◌∙◌}
use Rattle.std.specs.Prelude.{option_map}
use Rattle.base64.specs.Engines.{standard}
use Rattle.esm_record.proofs.EncodedLengths.{split_from, not_symbols, counted, knows_standard}
use Rattle.esm_record.proofs.encoded.encoded_length.Goals as goal

pub returns-then-not-are_symbols : goal.returns-then-not-are_symbols
returns-then-not-are_symbols c =
    let split = split_from c.args.text.now c.split_at.result.0.now c.split_at.result.1.now c.saturating_sub-groups.result c.type_inv.text c.saturating_sub-groups.ensures c.split_at.ensures.front c.split_at.ensures.back in
    sym (not_symbols standard c.args.text.now c.split_at.result.0.now c.split_at.result.1.now (c.saturating_sub-groups.result / 4) knows_standard split (sym c.if-not-are_symbols.ensures))

pub returns-in-Some : goal.returns-in-Some
returns-in-Some c =
    let groups : ℕ = c.saturating_sub-groups.result / 4 in
    let split = split_from c.args.text.now c.split_at.result.0.now c.split_at.result.1.now c.saturating_sub-groups.result c.type_inv.text c.saturating_sub-groups.ensures c.split_at.ensures.front c.split_at.ensures.back in
    ap (option_map (λ (n : ℕ). 3 * groups + n)) c.in-Some.ensures.count
    ∙ sym (counted standard c.args.text.now c.split_at.result.0.now c.split_at.result.1.now groups knows_standard split (sym c.if-not-are_symbols.ensures))

pub returns-in-None : goal.returns-in-None
returns-in-None c =
    let groups : ℕ = c.saturating_sub-groups.result / 4 in
    let split = split_from c.args.text.now c.split_at.result.0.now c.split_at.result.1.now c.saturating_sub-groups.result c.type_inv.text c.saturating_sub-groups.ensures c.split_at.ensures.front c.split_at.ensures.back in
    ap (option_map (λ (n : ℕ). 3 * groups + n)) c.in-None.ensures.count
    ∙ sym (counted standard c.args.text.now c.split_at.result.0.now c.split_at.result.1.now groups knows_standard split (sym c.if-not-are_symbols.ensures))
