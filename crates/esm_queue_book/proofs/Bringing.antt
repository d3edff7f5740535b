-- Items that came to a queue's book, as the seats of a turn see them.
use Rattle.std.proofs.Common.{◌≡◌, ◌+◌, ◌∙◌, ℕ, true, false, List, ◌++◌, length, ap, subst}
use Rattle.std.specs.Prelude.{◌⊎◌, All, Result, Ok, Err, IfErr, OnOk, IsErrOf}
use Rattle.std.specs.Coded.{Coded}
use Rattle.esm_model.specs.declared.item.Message.{Message}
use Rattle.esm_model.specs.declared.book.CameError.{CameError}
use Rattle.esm_model.specs.declared.book.CameError.TheVariants as refusal
use Rattle.esm_model.specs.declared.book.Change.{Change}
use Rattle.esm_model.specs.Books.{entries_told}
use Rattle.esm_model.specs.Entries.{is_shut}
use Rattle.esm_model.specs.Kept.{change_of, added}
use Rattle.esm_model.specs.declared.item.Item.{Item}
use Rattle.esm_model.specs.Coming.{Come, SomeCome}
use Rattle.esm_model.specs.GoingOn.{GoesOn, AllAt, change_told}
use Rattle.esm_queue_model.specs.QueueBooks.{messages_told}
use Rattle.esm_queue_book.specs.Left.{queue_items}
use Rattle.esm_queue_core.specs.Coming.{IsChangeOf, NoneHasChanged, IsFirstChange}
use Rattle.esm_queue_core.specs.Told.{told_of}
use Rattle.esm_queue_book.specs.Books.{BookState, setup_of, is_down}
use Rattle.esm_queue_book.specs.Coming.{IsMessage, messages_in_items, QueueDiffers}
use Rattle.esm_queue_book.specs.Keeping.{IsSound}
use Rattle.esm_queue_book.proofs.Standing.{past_told}
use Rattle.esm_queue_book.proofs.Items.{all_come, some_come}
use Rattle.esm_queue_book.proofs.Pooling.{as_kept, IsLegalTold, goes_on, moments}
use Rattle.esm_queue_book.proofs.PoolingCame.{HasCome}

pub record Brought {D : Type 0} (code : Coded D) (t : ℕ) (list : List Item) (old new : BookState D) (r : Result (Unit {0}) CameError) : Type 0 where
  pub goes_on : GoesOn (as_kept code) 0 old new
  pub moments : AllAt t (told_of old.core) (added (told_of old.core) (told_of new.core))
  pub going : is_shut (entries_told (told_of new.core)) ≡ false
  pub came : OnOk r (Come (queue_items (told_of old.core)) (queue_items (told_of new.core)) list)
  pub some : SomeCome (queue_items (told_of old.core)) (queue_items (told_of new.core)) list
  pub down : IfErr r (λ (e : CameError). (e ≡ refusal.OutOfMemory) ⊎ (is_down new ≡ true))
  pub changed : (change : Change) → IsErrOf r (refusal.StreamChanged change) → QueueDiffers (setup_of code old) (told_of old.core) list change
  pub tells : change_of new.trouble ≡ change_told (change_of old.trouble) r

if_ok : {T E : Type 0} (P Q : Type 0) (r : Result T E) → (P → Q) → OnOk r P → OnOk r Q
if_ok P Q (Ok x) then is = then is
if_ok P Q (Err e) then is = tt

differs : {D : Type 0} (code : Coded D) (list : List Item) (old : BookState D) (change : Change) → IsSound old → IsFirstChange old.core (messages_in_items list) change → QueueDiffers (setup_of code old) (told_of old.core) list change
differs code list old change sound first = record {
  position = first.position;
  message = first.message;
  at = first.at;
  change_is = subst (λ (ms : List Message). IsChangeOf old.core.setting.deletions (length ms + first.position) first.message change) sound.messages first.change_is;
  before = subst (λ (ms : List Message). NoneHasChanged old.core.setting.deletions (length ms) (messages_in_items list) first.position) sound.messages first.before;
}

pub brought : {D : Type 0} (code : Coded D) (t : ℕ) (list : List Item) (old new : BookState D) (r : Result (Unit {0}) CameError) → All IsMessage list → IsSound old → IsLegalTold new → HasCome t (messages_in_items list) old new r → Brought code t list old new r
brought code t list old new r all sound legal has =
    let messages : List Message = old.core.setting.messages ++ messages_in_items list in
    let before = told_of old.core in
    let after = told_of new.core in
    record {
      goes_on = goes_on code 0 t messages old new has.es has.gone legal;
      moments = moments code 0 t messages old new has.es has.gone;
      going = ap is_shut (past_told new.core) ∙ has.going;
      came = if_ok (messages_told after ≡ messages_told before ++ messages_in_items list) (Come (queue_items before) (queue_items after) list) r (all_come before after list all) has.came;
      some = some_come before after list all has.some;
      down = has.down;
      changed = λ change is. differs code list old change sound (has.changed change is);
      tells = has.tells;
    }
