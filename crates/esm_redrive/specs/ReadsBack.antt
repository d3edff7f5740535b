-- A dead letter is an input line of its queue. This product's own.
use Rattle.std.specs.Prelude.{◌≡◌, Bool, false, List, [], Option, Some, None, Ok, ⊤, ℕ}
use Rattle.std.specs.List.{list_any}
use Rattle.std.specs.Str.{IsUtf8}
use Rattle.esm_model.specs.declared.item.Message.{Message}
use Rattle.esm_model.specs.ValidMessage.{IsValidMessage}
use Rattle.esm_model.specs.declared.item.Item.TheVariants as item
use Rattle.esm_model.specs.declared.item.LineKind.TheVariants as kinds
use Rattle.esm_model.specs.Items.{queue_kind}
use Rattle.esm_record.specs.Input.{is_line_feed, read_after}
use Rattle.esm_redrive_model.specs.DeadLetter.{dead_letter}
use Rattle.esm_redrive.specs.DeadFile.{dead_message}

-- its texts are UTF-8

abbrev pub IsUtf8Group : Option (List ℕ) → Type 0
IsUtf8Group None = ⊤
IsUtf8Group (Some group) = IsUtf8 group

pub record IsUtf8Message (m : Message) : Type 0 where
  pub id : IsUtf8 m.id
  pub body : IsUtf8 m.body
  pub group : IsUtf8Group m.group

-- the line has no line feed and reads as the message: on its own or as the first of an input, and as a payload of the
-- dead-letter file
pub record ReadsAs (fifo : Bool) (m : Message) (line : List ℕ) : Type 0 where
  pub read : read_after (kinds.Queue fifo) [] line ≡ Ok (Some (item.Queue m))
  pub one_line : list_any is_line_feed line ≡ false
  pub found : dead_message fifo line ≡ Some m

-- it does if the message is valid for a queue of this kind
abbrev pub ReadsBack : Message → List ℕ → Type 0
ReadsBack m line = (fifo : Bool) → IsValidMessage (queue_kind fifo) m → ReadsAs fifo m line

-- its dead letter reads back as this message
abbrev pub HasLetter : Bool → Message → Type 0
HasLetter fifo m = dead_message fifo (dead_letter m) ≡ Some m
