use Rattle.std.proofs.Common.{◌≡◌, ◌++◌, take}
use Rattle.esm_journal_record.specs.EntryPayload.{ids_at}
use Rattle.esm_queue_core.specs.Kept.{messages_stored}
use Rattle.esm_queue_core.proofs.gift.texts_at.Given as goal

abbrev pub invariant-loop-place : goal.invariant-loop-place
invariant-loop-place l = l.ids ≡ ids_at (messages_stored l.queue.state ++ l.coming) (take l.place-index l.places)
