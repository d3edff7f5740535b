-- What the report of a queue's run says of its messages. This product's own.
use Rattle.std.specs.Prelude.{ℕ, List, ◌++◌, codes}
use Rattle.esm_model.specs.declared.entry.Fate.TheVariants.{Succeeded, Filtered}
use Rattle.esm_model.specs.declared.entry.Entry.{Entry}
use Rattle.esm_model.specs.Numbers.{decimal}
use Rattle.esm_queue_model.specs.QueueSetting.{QueueSetting}
use Rattle.esm_queue_model.specs.QueueEntries.{queue_count, deleted_count, deleted_with}

-- the numbers of messages that arrived, that are deleted, that succeeded and that were filtered, found ones included;
-- without the line feed
abbrev pub queue_text : QueueSetting → List Entry → List ℕ
queue_text s h =
    codes "queue messages " ++ decimal (queue_count h)
    ++ codes " deleted " ++ decimal (deleted_count s h)
    ++ codes " succeeded " ++ decimal (deleted_with s h Succeeded)
    ++ codes " filtered " ++ decimal (deleted_with s h Filtered)
