-- What a content says of windows' states is what the history that wrote it knows. Only this crate's proofs cite this.
use Rattle.std.proofs.Common.{◌≡◌, ℕ, Bool, true, false, ◌&&◌, List, [], ◌∷◌, ◌++◌, refl, ap, ◌∙◌, inl, inr, Option, Some, None}
use Rattle.std.specs.Prelude.{◌==◌, filter_map, if◌then◌else◌}
use Rattle.std.specs.Option.{option_or}
use Rattle.std.proofs.lemmas.Bool.{cases_Bool}
use Rattle.esm_model.specs.declared.entry.WindowState.{WindowState}
use Rattle.esm_model.specs.declared.entry.Entry.{Entry}
use Rattle.esm_model.specs.declared.entry.Entry.TheVariants.{Came, Began, Ended, Gave, Tried, Closed, Replayed, Shut}
use Rattle.esm_model.specs.Setting.{Setting, found_state}
use Rattle.esm_model.specs.Windows.{text_for, kept_state}
use Rattle.esm_journal_record.specs.declared.said.Said.{Said}
use Rattle.esm_journal_record.specs.EntryPayload.{entry_said}
use Rattle.esm_journal_state.specs.Meaning.{only_at, state_in, state_said}

same_text : (b : Bool) (state : Option WindowState) (w : ℕ) (before : Option (List ℕ)) → option_or (only_at b (state_in state w)) before ≡ (if b then text_for w before state else before)
same_text false state w before = refl
same_text true None w before = refl
same_text true (Some state) w before = elim (cases_Bool (state.window == w)) [ inl own ↦ rw own refl | inr other ↦ rw other refl ]

pub state_stands : (s : Setting) (old : List Said) (h : List Entry) → ((n w : ℕ) → state_said old n w ≡ found_state s n w) → (n w : ℕ) → state_said (filter_map (entry_said s) h ++ old) n w ≡ kept_state s h n w
state_stands s old [] found n w = found n w
state_stands s old (Gave by k places f line state m ∷ h) found n w =
    same_text (k == n) state w (state_said (filter_map (entry_said s) h ++ old) n w) ∙ ap (λ o. if k == n then text_for w o state else o) (state_stands s old h found n w)
state_stands s old (Closed at v m ∷ h) found n w = ap (λ o. if (at.shard == n) && (v == w) then None else o) (state_stands s old h found n w)
state_stands s old (Came k first count m ∷ h) found n w = state_stands s old h found n w
state_stands s old (Began at places c m ∷ h) found n w = state_stands s old h found n w
state_stands s old (Ended at reply m ∷ h) found n w = state_stands s old h found n w
state_stands s old (Tried at places None t m ∷ h) found n w = state_stands s old h found n w
state_stands s old (Tried at places (Some v) t m ∷ h) found n w = state_stands s old h found n w
state_stands s old (Replayed k places m ∷ h) found n w = state_stands s old h found n w
state_stands s old (Shut m ∷ h) found n w = state_stands s old h found n w
