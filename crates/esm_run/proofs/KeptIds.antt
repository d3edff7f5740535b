-- Where each message of an input that was found deleted has the id that the journal kept, so has each of its front.
use Rattle.std.proofs.Common.{◌≡◌, ◌∙◌, ◌+◌, ◌<◌, ℕ, Bool, true, false, List, Some, ap, arith, length, refl, reverse, sym}
use Rattle.std.specs.Prelude.{not, option_map, slice_get, unwrap_or}
use Rattle.std.specs.Str.{bytes_eq}
use Rattle.std.proofs.lemmas.Option.{slice_get_within}
use Rattle.std.proofs.lemmas.Slice.Eq.{bytes_eq-Decides}
use Rattle.esm_journal_state.specs.Meaning.{deletion_said, history}
use Rattle.esm_journal_state.specs.Tells.{deletion_of_found}
use Rattle.esm_model.specs.declared.book.Change.{Change}
use Rattle.esm_model.specs.declared.item.Message.{Message}
use Rattle.esm_model.specs.declared.setup.FoundDeletion.{FoundDeletion}
use Rattle.esm_queue_core.specs.Coming.{has_changed}
use Rattle.esm_queue_model.specs.QueueSetting.{QueueSetting, found_deletion, over_messages}
use Rattle.esm_runner.specs.QueueEnded.{IsChanged}
use Rattle.esm_runner.specs.QueueRan.{NoneDiffersBefore}
use Rattle.esm_run.specs.Redrive.{HaveKeptIds}
use Rattle.esm_run.proofs.Fronts.{IsFront, place_front}

same_of : (b : Bool) → not b ≡ false → b ≡ true
same_of true is = refl
same_of false is = absurd (cc)

pub same_ids : (s z : QueueSetting) (xs ys : List Message) (change : Change) → z ≡ over_messages s z.messages → NoneDiffersBefore s.deletions xs (length xs) → IsFront ys xs → IsChanged z ys change → ⊥
same_ids s z xs ys change same none front changed =
    let i = change.place in
    let here : slice_get xs i ≡ Some changed.message = place_front ys xs i changed.message front changed.at in
    let within : i < length xs = slice_get_within xs i changed.message here in
    let found : found_deletion s i ≡ Some changed.found = sym (ap (λ v. found_deletion v i) same) ∙ changed.deletion in
    let zero_is : i ≡ 0 + i = omega arith in
    let kept : has_changed s.deletions i changed.message ≡ false = ap (λ k. has_changed s.deletions k changed.message) zero_is ∙ none i changed.message within here in
    let seen : not (bytes_eq changed.found.text changed.message.id) ≡ false =
    sym (ap (λ o. unwrap_or (option_map (λ (f : FoundDeletion). not (bytes_eq f.text changed.message.id)) o) false) found) ∙ kept in
    let texts : changed.found.text ≡ changed.message.id = (bytes_eq-Decides changed.found.text changed.message.id).0 (same_of (bytes_eq changed.found.text changed.message.id) seen) in
    changed.differs (changed.given ∙ sym texts ∙ sym changed.kept)

-- where each message of an input of which payloads tell a deletion has the id that they kept, none of its front comes with another
pub kept_ids : (s : QueueSetting) (payloads found : List (List ℕ)) (xs ys : List Message) (change : Change) → payloads ≡ found
    → ((i : ℕ) → option_map deletion_of_found (found_deletion s i) ≡ deletion_said (history (reverse found)) i) → HaveKeptIds payloads xs → IsFront ys xs → IsChanged s ys change → ⊥
kept_ids s payloads found xs ys change same tells ids front is =
    let at : slice_get xs change.place ≡ Some is.message = place_front ys xs change.place is.message front is.at in
    let said : deletion_said (history (reverse payloads)) change.place ≡ Some (deletion_of_found is.found) =
    ap (λ (ps : List (List ℕ)). deletion_said (history (reverse ps)) change.place) same ∙ (sym (tells change.place) ∙ ap (option_map deletion_of_found) is.deletion) in
    is.differs (is.given ∙ (ids change.place is.message (deletion_of_found is.found) at said ∙ sym is.kept))
