-- The line of a message that is moved to the dead-letter file. It is an input line of its queue, so that it can be fed
-- again. This product's own.
use Rattle.std.specs.Prelude.{ℕ, List, [], ◌++◌, codes, Option, Some, None}
use Rattle.esm_model.specs.declared.item.Message.{Message}
use Rattle.esm_model.specs.Numbers.{decimal}
use Rattle.esm_model.specs.JsonText.{quoted}

-- a FIFO queue's message has a group
abbrev pub group_member : Option (List ℕ) → List ℕ
group_member None = []
group_member (Some group) = codes ",\"messageGroupId\":" ++ quoted group

-- the line, without its line feed; `sentTimestamp` is in milliseconds since 1970
unfoldable pub dead_letter : Message → List ℕ
dead_letter m =
    codes "{\"messageId\":" ++ quoted m.id
    ++ codes ",\"body\":" ++ quoted m.body
    ++ codes ",\"sentTimestamp\":" ++ decimal m.sent
    ++ group_member m.group ++ codes "}"
