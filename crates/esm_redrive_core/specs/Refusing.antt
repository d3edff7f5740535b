-- When a list of messages that arrives at a redrive is refused. This product's own.
use Rattle.std.specs.Prelude.{◌≡◌, ◌+◌, ℕ, List, length, slice_get, Some}
use Rattle.esm_model.specs.declared.item.Message.{Message}
use Rattle.esm_model.specs.declared.book.Change.{Change}
use Rattle.esm_queue_core.specs.Coming.{NoneHasChanged, IsChangeOf}
use Rattle.esm_redrive_core.specs.RedriveView.{RedriveView}

-- the change concerns the first message of the list that was found deleted with another id
pub record IsFirstChange (v : RedriveView) (items : List Message) (change : Change) : Type 0 where
  pub position : ℕ
  pub message : Message
  pub at : slice_get items position ≡ Some message
  pub change_is : IsChangeOf v.setting.queue.deletions (length v.setting.queue.messages + position) message change
  pub before : NoneHasChanged v.setting.queue.deletions (length v.setting.queue.messages) items position
