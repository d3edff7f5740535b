use Rattle.std.proofs.Common.{rules, ◌≡◌, ◌∙◌, ◌++◌, ℕ, List, false, sym, ap, subst}
use Rattle.esm_model.specs.declared.item.LineKind.{LineKind}
use Rattle.std.specs.List.{All}
use Rattle.esm_model.specs.Items.{IsValidItem}
use Rattle.esm_record.specs.Input.{input_so_far}
use Rattle.esm_record.specs.Splitting.{HasRead}
use Rattle.esm_record.proofs.Feeds.{fed_from, fed_to}
use Rattle.esm_record.proofs.Valid.{so_far_valid}
use Rattle.esm_record.proofs.lines.Lines.feed_parallel.Goals as goal

pub invariant_of-self-2 : goal.invariant_of-self-2
invariant_of-self-2 g c = λ _ going.
    let good : c.self.inside.failed ≡ false = first_of (cc, search rules) in
    let bytes : List ℕ = c.self.inside.fed in
    let before = (input_so_far c.self.inside.reading.kind bytes).items in
    let read = c.in_ok-fed.ensures.read bytes before (fed_from bytes c.self.inside.reading (c.self.invariant good going)) in
    let P : List ℕ → Type 0 = λ b. HasRead b before c.in_ok-fed.fed.items.items c.feed_piece_parallel.new.reading in
    fed_to c.note.new.self before c.in_ok-fed.fed.items.items c.feed_piece_parallel.new.reading (subst P (sym c.in_ok-note.ensures) read)

pub returns-clause-bad : goal.returns-clause-bad
returns-clause-bad g c =
    let good : c.self.inside.failed ≡ false = first_of (cc, search rules) in
    let going : c.self.inside.finished ≡ false = first_of (cc, search rules) in
    let kind : c.args.self.now.kind ≡ c.self.inside.reading.kind = first_of (cc, search rules) in
    let same : c.args.self.now.bytes ≡ c.self.inside.fed = first_of (cc, search rules) in
    let bytes : List ℕ = c.self.inside.fed in
    let read = c.in_ok-fed.ensures.read bytes (input_so_far c.self.inside.reading.kind bytes).items (fed_from bytes c.self.inside.reading (c.self.invariant good going)) in
    c.in_ok-fed.ensures.bad ∙ sym read.stands.bad
    ∙ ap (λ (k : LineKind). (input_so_far k (bytes ++ c.args.piece.now)).bad) (c.in_ok-fed.ensures.kind ∙ sym kind)
    ∙ ap (λ (b : List ℕ). (input_so_far c.args.self.now.kind (b ++ c.args.piece.now)).bad) (sym same)

pub returns-clause-valid : goal.returns-clause-valid
returns-clause-valid g c =
    let good : c.self.inside.failed ≡ false = first_of (cc, search rules) in
    let going : c.self.inside.finished ≡ false = first_of (cc, search rules) in
    let bytes : List ℕ = c.self.inside.fed in
    let before = (input_so_far c.self.inside.reading.kind bytes).items in
    let read = c.in_ok-fed.ensures.read bytes before (fed_from bytes c.self.inside.reading (c.self.invariant good going)) in
    let kind : c.args.self.now.kind ≡ c.self.inside.reading.kind = first_of (cc, search rules) in
    let P : LineKind → Type 0 = λ k. All (IsValidItem k) c.in_ok-fed.fed.items.items in
    subst P (c.in_ok-fed.ensures.kind ∙ sym kind) (so_far_valid c.feed_piece_parallel.new.reading.kind (bytes ++ c.args.piece.now) before c.in_ok-fed.fed.items.items read.stands.items)
