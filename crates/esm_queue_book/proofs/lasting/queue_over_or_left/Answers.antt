use Rattle.std.proofs.lemmas.Bool.{both_ways}
use Rattle.esm_model.specs.Books.{entries_told}
use Rattle.esm_queue_model.specs.QueueEntries.{is_deleted}
use Rattle.esm_queue_model.specs.QueueBooks.{queue_setting_told}
use Rattle.esm_queue_book.proofs.lasting.queue_over_or_left.Goals as goal

pub returns : goal.returns
returns c = λ s h k over left. both_ways (is_deleted (queue_setting_told s h) (entries_told h) left.place) left.waits (over.deleted left.place left.came)
