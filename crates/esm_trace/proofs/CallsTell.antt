-- The replies in the log of a batcher's caller.
use Rattle.std.proofs.Common.{◌≡◌, ◌∙◌, refl, ap, inl, inr, List, [], ◌∷◌, ◌++◌, map}
use Rattle.std.specs.Prelude.{◌==◌}
use Rattle.std.proofs.lemmas.Bool.{cases_Bool}
use Rattle.std.proofs.lemmas.List.{map-append}
use Rattle.esm_model.specs.declared.called.Called.{Called}
use Rattle.esm_model.specs.declared.entry.Entry.TheVariants.{Came, Began, Ended, Gave, Tried, Closed, Replayed, Shut}
use Rattle.esm_model.specs.declared.entry.Reply.{Reply}
use Rattle.esm_model.specs.Entries.{batcher}
use Rattle.esm_model.specs.Calls.{calls, last_event}
use Rattle.esm_queue_model.specs.QueueBatch.{last_queue_event, queue_calls}
use Rattle.esm_trace.specs.Laws.{QueueCallsTell, StreamCallsTell}

one_more : (before : List Called) (c : Called) (replies : List Reply) → map (λ (x : Called). x.reply) before ≡ replies
    → map (λ (x : Called). x.reply) (before ++ c ∷ []) ≡ replies ++ c.reply ∷ []
one_more before c replies is = map-append (λ (x : Called). x.reply) before (c ∷ []) ∙ ap (λ rs. rs ++ c.reply ∷ []) is

pub stream_calls : StreamCallsTell
stream_calls s sends [] k = refl
stream_calls s sends (Ended lane reply m ∷ h) k = elim (cases_Bool (batcher s h lane == k)) [
  | inl same ↦ rw same (one_more (calls s sends h k) (record { name = s.config.function; event = sends (last_event s h lane); reply = reply }) _ (stream_calls s sends h k))
  | inr other ↦ rw other (stream_calls s sends h k)
]
stream_calls s sends (Came n first count m ∷ h) k = stream_calls s sends h k
stream_calls s sends (Began lane places closing m ∷ h) k = stream_calls s sends h k
stream_calls s sends (Gave from n places f line state m ∷ h) k = stream_calls s sends h k
stream_calls s sends (Tried lane places closing t m ∷ h) k = stream_calls s sends h k
stream_calls s sends (Closed lane w m ∷ h) k = stream_calls s sends h k
stream_calls s sends (Replayed n places m ∷ h) k = stream_calls s sends h k
stream_calls s sends (Shut m ∷ h) k = stream_calls s sends h k

pub calls_of_queue : QueueCallsTell
calls_of_queue s sends [] k = refl
calls_of_queue s sends (Ended lane reply m ∷ h) k = elim (cases_Bool (lane.lane == k)) [
  | inl same ↦ rw same (one_more (queue_calls s sends h k) (record { name = s.config.function; event = sends (last_queue_event s h lane); reply = reply }) _ (calls_of_queue s sends h k))
  | inr other ↦ rw other (calls_of_queue s sends h k)
]
calls_of_queue s sends (Came n first count m ∷ h) k = calls_of_queue s sends h k
calls_of_queue s sends (Began lane places closing m ∷ h) k = calls_of_queue s sends h k
calls_of_queue s sends (Gave from n places f line state m ∷ h) k = calls_of_queue s sends h k
calls_of_queue s sends (Tried lane places closing t m ∷ h) k = calls_of_queue s sends h k
calls_of_queue s sends (Closed lane w m ∷ h) k = calls_of_queue s sends h k
calls_of_queue s sends (Replayed n places m ∷ h) k = calls_of_queue s sends h k
calls_of_queue s sends (Shut m ∷ h) k = calls_of_queue s sends h k
