use Rattle.std.proofs.Common.{◌≡◌, ℕ, ◌-◌, ◌∷◌, ◌∙◌, List, [], Option, Some, None, is_some, false, length, refl, sym, subst}
use Rattle.std.specs.Prelude.{slice_get}
use Rattle.esm_model.specs.declared.limits.TheConstants.{MAX_LINE}
use Rattle.esm_model.specs.Books.{entry_line}
use Rattle.esm_book.specs.Decided.{written_of, IsLineWithin}
use Rattle.esm_redrive_core.specs.RedriveView.{RedriveView}
use Rattle.esm_redrive_core.specs.Inside.{parts_of}
use Rattle.esm_redrive_core.specs.declared.owed.Gift.{Gift}
use Rattle.esm_redrive_core.specs.Kept.{HaveLineFirst, owed_entries}
use Rattle.esm_redrive_core.proofs.Lines.{last_first, none_owed, one_owed}
use Rattle.esm_redrive_core.proofs.redrive_core.RedriveCore.owes_line.Goals as goal

pub returns-in-Some-clause-yes : goal.returns-in-Some-clause-yes
returns-in-Some-clause-yes c = λ is.
    let p = parts_of c.self.inside in
    subst (λ (v : RedriveView). IsLineWithin (written_of entry_line v.owed) MAX_LINE) c.self.view_is (one_owed p.first p.gifts c.self.invariant.lines)

none_from : (line : Option (List ℕ)) → is_some line ≡ false → line ≡ None
none_from None is = refl
none_from (Some line) is = absurd (cc)

pub returns-in-Some-clause-no : goal.returns-in-Some-clause-no
returns-in-Some-clause-no c = λ is.
    let p = parts_of c.self.inside in
    let xs : List Gift = c.self.inside.gifts.items in
    let g : Gift = c.in-Some.gift.now in
    let at : slice_get xs (length xs - 1) ≡ Some g = subst (λ (ys : List Gift). slice_get ys (length ys - 1) ≡ Some g) c.deref.ensures.value (sym c.in-Some.ensures.value) in
    let found = last_first xs g at in
    let lines : HaveLineFirst (g ∷ found.0) = subst HaveLineFirst found.1 c.self.invariant.lines in
    let none : g.line ≡ None = none_from g.line (sym c.is_some.ensures ∙ is) in
    subst (λ (v : RedriveView). written_of entry_line v.owed ≡ []) c.self.view_is
    (subst (λ (gs : List Gift). written_of entry_line (owed_entries p.first gs) ≡ []) (sym found.1) (none_owed p.first g found.0 lines none))
