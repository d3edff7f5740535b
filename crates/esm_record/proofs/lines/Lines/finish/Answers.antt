use Rattle.std.proofs.Common.{rules, ◌≡◌, ◌∙◌, ℕ, List, false, sym, ap, subst}
use Rattle.esm_model.specs.declared.item.LineKind.{LineKind}
use Rattle.std.specs.List.{All}
use Rattle.esm_model.specs.Items.{IsValidItem}
use Rattle.esm_record.specs.Input.{input_so_far, input_of}
use Rattle.esm_record.proofs.Feeds.{fed_from}
use Rattle.esm_record.proofs.Valid.{whole_valid}
use Rattle.esm_record.proofs.lines.Lines.finish.Goals as goal

pub returns-clause-bad : goal.returns-clause-bad
returns-clause-bad c =
    let good : c.self.inside.failed ≡ false = first_of (cc, search rules) in
    let going : c.self.inside.finished ≡ false = first_of (cc, search rules) in
    let kind : c.args.self.now.kind ≡ c.self.inside.reading.kind = first_of (cc, search rules) in
    let same : c.args.self.now.bytes ≡ c.self.inside.fed = first_of (cc, search rules) in
    let bytes : List ℕ = c.self.inside.fed in
    let read = c.in_ok-fed.ensures.read bytes (input_so_far c.self.inside.reading.kind bytes).items (fed_from bytes c.self.inside.reading (c.self.invariant good going)) in
    c.in_ok-fed.ensures.bad ∙ sym read.bad
    ∙ ap (λ (k : LineKind). (input_of k bytes).bad) (sym kind)
    ∙ ap (λ (b : List ℕ). (input_of c.args.self.now.kind b).bad) (sym same)

pub returns-clause-valid : goal.returns-clause-valid
returns-clause-valid c =
    let good : c.self.inside.failed ≡ false = first_of (cc, search rules) in
    let going : c.self.inside.finished ≡ false = first_of (cc, search rules) in
    let bytes : List ℕ = c.self.inside.fed in
    let before = (input_so_far c.self.inside.reading.kind bytes).items in
    let read = c.in_ok-fed.ensures.read bytes before (fed_from bytes c.self.inside.reading (c.self.invariant good going)) in
    let kind : c.args.self.now.kind ≡ c.self.inside.reading.kind = first_of (cc, search rules) in
    let P : LineKind → Type 0 = λ k. All (IsValidItem k) c.in_ok-fed.fed.items.items in
    subst P (sym kind) (whole_valid c.self.inside.reading.kind bytes before c.in_ok-fed.fed.items.items read.items)
