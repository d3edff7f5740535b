-- How a journal goes on as a destination of lines.
use Rattle.std.proofs.Common.{◌≡◌, inl, inr, ℕ, List, [], ◌∷◌, ◌++◌, Some, Result, Ok, Err, OnOk, ⊎_elim, sym, ap, subst, ◌∙◌}
use Rattle.esm_io.specs.Images.{LeavesOnly}
use Rattle.esm_io.specs.Meanings.{DiskMeaning}
use Rattle.esm_io.specs.Told.{IsEither}
use Rattle.esm_journal.specs.File.{header_of}
use Rattle.esm_journal.specs.State.{JournalState, OpensTo, OpensToEither, Keeps}

-- what is left of a file is read as these lines
abbrev pub reads_as : List ℕ → List (List ℕ) → Type 0
reads_as left lines = OpensTo (header_of 1) lines left

held_are : (payloads held : List (List ℕ)) → Some payloads ≡ Some held → payloads ≡ held
held_are payloads held is = cc

pub on_ok : {A E P : Type 0} (result : Result A E) → P → OnOk result P
on_ok (Ok x) is = is
on_ok (Err e) is = tt

pub on_err : {A E : Type 0} {e : E} (result : Result A E) (P : Type 0) → result ≡ Err e → OnOk result P
on_err (Ok x) P is = absurd (ok_is_no_error is)
  where
    ok_is_no_error : {A E : Type 0} {x : A} {e : E} → ◌≡◌ {A = Result A E} (Ok x) (Err e) → ⊥
    ok_is_no_error is = cc
on_err (Err e) P is = tt

module _ {D : Type 0} (m : DiskMeaning D) where
  -- over an append
  pub line_leaves : (old new : JournalState D) (held : List (List ℕ)) (line : List ℕ) → Some old.payloads ≡ Some held
      → LeavesOnly m.moment m.since old.disk new.disk (OpensToEither (header_of 1) old.payloads line)
      → LeavesOnly (λ (d : JournalState D). m.moment d.disk) (λ (d : JournalState D). m.since d.disk) old new (IsEither reads_as held line)
  line_leaves old new held line is any = record {
    later = any.later;
    each = λ left since. turned left (any.each left since);
    before = λ t left early since. ⊎_elim (λ was. inl was) (λ either. inr (turned left either)) (any.before t left early since);
  }
    where
      turned : (left : List ℕ) → OpensToEither (header_of 1) old.payloads line left → IsEither reads_as held line left
      turned left either = subst (λ l. OpensToEither (header_of 1) l line left) (held_are old.payloads held is) either

  -- once it was added
  pub line_kept : (old new : JournalState D) (held : List (List ℕ)) (line : List ℕ) → Some old.payloads ≡ Some held → new.payloads ≡ old.payloads ++ line ∷ []
      → Keeps m (header_of 1) new.payloads new.disk → ((left : List ℕ) → m.since new.disk (m.moment new.disk) left → m.image new.disk left)
      → (left : List ℕ) → m.since new.disk (m.moment new.disk) left → OpensTo (header_of 1) (held ++ line ∷ []) left
  line_kept old new held line is added keeps only_now left since =
      subst (λ l. OpensTo (header_of 1) l left) (added ∙ ap (λ l. l ++ line ∷ []) (held_are old.payloads held is))
      (subst (OpensTo (header_of 1) new.payloads) (sym (keeps.durable left (only_now left since))) keeps.opens)
