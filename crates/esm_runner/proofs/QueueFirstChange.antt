-- The message that brought a change is the first of the input that differs: those that came before its list do not.
use Rattle.std.proofs.Common.{◌≡◌, ◌∙◌, ◌+◌, ◌-◌, ◌<◌, ℕ, zero, suc, false, List, [], ◌∷◌, ◌++◌, length, refl, sym, ap, subst, inl, inr, arith, length-append, Option, Some, None}
use Rattle.std.specs.Prelude.{not, slice_get, option_map, unwrap_or}
use Rattle.std.specs.Str.{bytes_eq}
use Rattle.std.proofs.lemmas.Bool.Decides.{leb_tells}
use Rattle.std.proofs.lemmas.Option.{slice_get_within}
use Rattle.std.proofs.lemmas.Slice.Eq.{bytes_eq-Decides}
use Rattle.esm_model.specs.declared.book.Change.{Change}
use Rattle.esm_model.specs.declared.entry.Entry.{Entry}
use Rattle.esm_model.specs.declared.item.Message.{Message}
use Rattle.esm_model.specs.declared.setup.FoundDeletion.{FoundDeletion}
use Rattle.esm_model.specs.declared.setup.Setup.{Setup}
use Rattle.esm_input.specs.Reading.{InputState, handed}
use Rattle.esm_pool.specs.Ran as pool
use Rattle.esm_queue_model.specs.QueueBooks.{messages_told, queue_setting_told}
use Rattle.esm_queue_model.specs.QueueEntries.{queue_count}
use Rattle.esm_queue_model.specs.QueueSetting.{QueueSetting, message_at}
use Rattle.esm_queue_model.specs.QueueStep.{LegalQueue}
use Rattle.esm_queue_book.specs.Left.{queue_items}
use Rattle.esm_queue_core.specs.Coming.{deletion_at, has_changed, NoneHasChanged}
use Rattle.esm_queue_core.specs.CoreView.{all_messages}
use Rattle.esm_queue_core.specs.Told.{told_of}
use Rattle.esm_queue_core.proofs.ToldMessages.{messages-append}
use Rattle.esm_queue_book.specs.Books.{BookState}
use Rattle.esm_queue_book.specs.Coming.{QueueDiffers}
use Rattle.esm_queue_book.specs.Keeping.{IsSound}
use Rattle.esm_runner.specs.QueueComing.{messages_in_items}
use Rattle.esm_runner.specs.QueueRan.{NoneDiffersBefore}
use Rattle.esm_runner.proofs.QueueItems.{get_behind, get_front, handed_is}
use Rattle.esm_runner.proofs.KeptIds.{kept_of_came}
use Rattle.esm_runner.proofs.Messages.{came_all}

get_back : (xs ys : List Message) (i : ℕ) (m : Message) → i < length xs → slice_get (xs ++ ys) i ≡ Some m → slice_get xs i ≡ Some m
get_back [] ys i m low at = absurd (omega (arith, low))
get_back (x ∷ xs) ys zero m low at = at
get_back (x ∷ xs) ys (suc i) m low at = get_back xs ys i m (omega (arith, low)) at

-- a message that has the id that was kept of its place

same_id : (o : Option FoundDeletion) (message : Message) → ((f : FoundDeletion) → o ≡ Some f → message.id ≡ f.text) → unwrap_or (option_map (λ (f : FoundDeletion). not (bytes_eq f.text message.id)) o) false ≡ false
same_id None message kept = refl
same_id (Some f) message kept = ap not ((bytes_eq-Decides f.text message.id).1 (sym (kept f refl)))

-- so those that came

came_same : (s : QueueSetting) (h : List Entry) (j : ℕ) (message : Message) → LegalQueue s h → j < queue_count h → message_at s j ≡ Some message → has_changed s.deletions j message ≡ false
came_same s h j message legal came at =
    let kept = kept_of_came s h j legal came in
    same_id (deletion_at s.deletions j) message (λ f found. kept.same f message at found)

-- of the messages told, and those behind them, none before the place has changed
none_before : (s : QueueSetting) (h : List Entry) (told later list rest : List Message) (position : ℕ) (message : Message) → LegalQueue s h → queue_count h ≡ length s.messages → s.messages ≡ told ++ later
    → slice_get list position ≡ Some message → NoneHasChanged s.deletions (length told) list position → NoneHasChanged s.deletions 0 (told ++ (list ++ rest)) (length told + position)
none_before s h told later list rest position message legal count is here before j other low at = elim (leb_tells (length told) j) [
  | inl past ↦
      let p : ℕ = j - length told in
      let high = past.1 in
      let sum : length told + p ≡ j = omega (arith, high) in
      let few : p < position = omega (arith, sum, low) in
      let within : position < length list = slice_get_within list position message here in
      let there : slice_get (list ++ rest) p ≡ Some other = sym (get_behind told (list ++ rest) p) ∙ ap (slice_get (told ++ (list ++ rest))) sum ∙ at in
      let own : slice_get list p ≡ Some other = get_back list rest p other (omega (arith, few, within)) there in
      let zero_is : 0 + j ≡ length told + p = omega (arith, sum) in
      ap (λ k. has_changed s.deletions k other) zero_is ∙ before p other few own
  | inr came ↦
      let first = came.1 in
      let within : j < length told = omega (arith, first) in
      let own : slice_get told j ≡ Some other = get_back told (list ++ rest) j other within at in
      let there : message_at s j ≡ Some other = ap (λ l. slice_get l j) is ∙ get_front told later j other own in
      let long : length s.messages ≡ length told + length later = ap (λ (ms : List Message). length ms) is ∙ length-append told later in
      let counted : j < queue_count h = omega (arith, within, long, count) in
      let zero_is : 0 + j ≡ j = omega arith in
      ap (λ k. has_changed s.deletions k other) zero_is ∙ came_same s h j other legal counted there
]

pub first_is : {S D : Type 0} (setup : Setup) (w : BookState D) (i : InputState S) (change : Change) → IsSound w → queue_setting_told setup (told_of w.core) ≡ w.core.setting
    → pool.IsChangeOf queue_items QueueDiffers setup (told_of w.core) i change → NoneDiffersBefore w.core.setting.deletions (messages_in_items (handed i)) change.place
first_is setup w i change sound is of =
    let differs : QueueDiffers setup of.before of.list change = of.differs_so in
    let told : List Message = messages_told of.before in
    let list : List Message = messages_in_items of.list in
    let rest : List Message = messages_in_items of.rest in
    let s : QueueSetting = w.core.setting in
    let parts : messages_in_items (handed i) ≡ told ++ (list ++ rest) = handed_is setup (told_of w.core) i change of in
    let all : w.core.setting.messages ≡ told ++ messages_told of.later = sound.messages ∙ (ap messages_told of.history ∙ messages-append of.before of.later) in
    let deletions : setup.deletions ≡ w.core.setting.deletions = ap (λ (t : QueueSetting). t.deletions) is in
    let before : NoneHasChanged w.core.setting.deletions (length told) list differs.position = subst (λ (ds : List FoundDeletion). NoneHasChanged ds (length told) list differs.position) deletions differs.before in
    let none : NoneHasChanged w.core.setting.deletions 0 (told ++ (list ++ rest)) (length told + differs.position) =
    none_before w.core.setting w.core.past told (messages_told of.later) list rest differs.position differs.message sound.legal
    (came_all w.core.setting (all_messages w.core) w.core.past sound.legal sound.messages) all differs.at before in
    subst (λ (ms : List Message). NoneHasChanged w.core.setting.deletions 0 ms change.place) (sym parts)
    (subst (λ (k : ℕ). NoneHasChanged w.core.setting.deletions 0 (told ++ (list ++ rest)) k) (sym differs.change_is.place_is) none)

-- where all of them came none differs
pub none_is : (s : QueueSetting) (h : List Entry) (messages : List Message) → LegalQueue s h → queue_count h ≡ length s.messages → s.messages ≡ messages → NoneDiffersBefore s.deletions messages (length messages)
none_is s h messages legal count list j message low at =
    let long : length s.messages ≡ length messages = ap (λ (ms : List Message). length ms) list in
    let came : j < queue_count h = omega (arith, low, long, count) in
    let zero_is : 0 + j ≡ j = omega arith in
    ap (λ k. has_changed s.deletions k message) zero_is ∙ came_same s h j message legal came (ap (λ l. slice_get l j) list ∙ at)
