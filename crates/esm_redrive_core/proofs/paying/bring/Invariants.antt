use Rattle.std.proofs.Common.{◌≡◌, ◌+◌, ◌<◌, ◌≤◌, ◌^◌, length}
use Rattle.std.specs.Vec.Iter.{into_iter_items, into_iter_len}
use Rattle.esm_queue_model.specs.QueueSetting.{QueueSetting}
use Rattle.esm_queue_core.specs.Next.{deleted_number}
use Rattle.esm_queue_core.proofs.Bringing.{with_coming}
use Rattle.esm_redrive_core.proofs.paying.bring.Given as goal

abbrev pub invariant-loop-message : goal.invariant-loop-message
invariant-loop-message l = record {
  state : (s : QueueSetting) → s.deletions ≡ l.said.deletions → with_coming s l.moment l.queue.state (into_iter_items l.message-iterator) ≡ with_coming s l.moment l.initial.queue.state (into_iter_items l.initial.message-iterator);
  room : length (into_iter_items l.message-iterator) ≤ l.queue.spare;
  few : length l.queue.state.messages + length (into_iter_items l.message-iterator) < 2 ^ 32;
  low : l.deleted ≤ length l.queue.state.messages;
  count : deleted_number l.queue.state ≡ deleted_number l.initial.queue.state + l.deleted;
  limit : l.queue.max_receives ≡ l.initial.queue.max_receives;
  left : into_iter_len l.message-iterator ≡ length (into_iter_items l.message-iterator);
}
