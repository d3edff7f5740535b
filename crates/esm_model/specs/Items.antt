-- Which items of an input are valid. Sources: those of a valid record and of a valid message.
use Rattle.std.specs.Prelude.{Bool, if◌then◌else◌}
use Rattle.esm_model.specs.Valid.{IsValidRecord}
use Rattle.esm_model.specs.ValidMessage.{IsValidMessage}
use Rattle.esm_model.specs.declared.config.Kind.{Kind}
use Rattle.esm_model.specs.declared.config.Kind.TheVariants.{Standard, Fifo}
use Rattle.esm_model.specs.declared.item.Item.{Item}
use Rattle.esm_model.specs.declared.item.Item.TheVariants.{Stream, Queue}
use Rattle.esm_model.specs.declared.item.LineKind.{LineKind}
use Rattle.esm_model.specs.declared.item.LineKind.TheVariants as kinds

abbrev pub queue_kind : Bool → Kind
queue_kind fifo = if fifo then Fifo else Standard

-- the item is one of lines of this kind, and its fields have values that the kind allows
abbrev pub IsValidItem : LineKind → Item → Type 0
IsValidItem kinds.Stream (Stream r) = IsValidRecord r
IsValidItem (kinds.Queue fifo) (Queue m) = IsValidMessage (queue_kind fifo) m
IsValidItem _ _ = ⊥
