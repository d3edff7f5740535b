use Rattle.std.proofs.Common.{◌≡◌, ◌∙◌, List, ℕ, true, false, arith, length, take, sym, ap, subst, Some, None}
use Rattle.std.specs.Prelude.{All, slice_index}
use Rattle.esm_model.specs.declared.received.Received.{Received}
use Rattle.esm_model.specs.declared.book.Next.TheVariants as next
use Rattle.esm_model.specs.QueueEvent.{IsValidReceived, queue_event_text}
use Rattle.esm_queue_model.specs.QueueEntries.{queue_lane}
use Rattle.esm_queue_core.specs.Choosing.{window_of, ready_test, pause_with}
use Rattle.esm_queue_core.proofs.Gathered.{all_valid}
use Rattle.esm_queue_core.proofs.Choosing.{IsCutOf, none_next, waits_next, calls_next}
use Rattle.esm_queue_core.proofs.next.choose.Goals as goal

pub returns-then-count-eq0 : goal.returns-then-count-eq0
returns-then-count-eq0 c =
    let config = c.args.config.now in
    let q = c.args.queue.now.state in
    let cut : IsCutOf config q c.args.now c.args.all.now (length c.args.batch.now) = record { first = c.requires.eligible; within = c.requires.within; longest = c.requires.longest } in
    ap next.Idle c.pause_end-until.ensures ∙ none_next config q c.args.shut c.args.batcher c.args.now c.args.all.now (length c.args.batch.now) cut c.if-count-eq0.true

pub returns-then-not-is_ready : goal.returns-then-not-is_ready
returns-then-not-is_ready c =
    let config = c.args.config.now in
    let q = c.args.queue.now.state in
    let m = c.args.now in
    let all = c.args.all.now in
    let n = length c.args.batch.now in
    let cut : IsCutOf config q m all n = record { first = c.requires.eligible; within = c.requires.within; longest = c.requires.longest } in
    let tested : ready_test config.batch_size n (length all) (window_of config q (slice_index all 0)) c.args.shut m ≡ false =
    ap (λ (over : ℕ). ready_test config.batch_size n (length all) over c.args.shut m) (sym c.window_over-over.ensures) ∙ (sym c.is_ready.ensures ∙ c.if-not-is_ready.true) in
    ap next.Idle (c.pause_end-until-then-not-is_ready.ensures ∙ ap (λ (over : ℕ). pause_with q m (Some over)) c.window_over-over.ensures)
    ∙ waits_next config q c.args.shut c.args.batcher m all n cut (omega (arith, c.if-count-eq0.false)) tested

pub job_for-requires-clause-batch : goal.job_for-requires-clause-batch
job_for-requires-clause-batch c =
    let kind = c.args.config.now.kind in
    let q = c.args.queue.now.state in
    subst (λ (rs : List Received). All (IsValidReceived kind) rs) (sym c.requires.messages) (all_valid kind c.args.now q (take (length c.args.batch.now) c.args.all.now) c.requires.in_time c.requires.stored)

pub returns : goal.returns
returns c =
    let config = c.args.config.now in
    let q = c.args.queue.now.state in
    let m = c.args.now in
    let all = c.args.all.now in
    let n = length c.args.batch.now in
    let cut : IsCutOf config q m all n = record { first = c.requires.eligible; within = c.requires.within; longest = c.requires.longest } in
    let tested : ready_test config.batch_size n (length all) (window_of config q (slice_index all 0)) c.args.shut m ≡ true =
    ap (λ (over : ℕ). ready_test config.batch_size n (length all) over c.args.shut m) (sym c.window_over-over.ensures) ∙ (sym c.is_ready.ensures ∙ c.if-not-is_ready.false) in
    ap next.Call c.in_ok-job.ensures
    ∙ (ap (λ (rs : List Received). next.Call (record { lane = queue_lane c.args.batcher; places = take n all; closing = None; event = queue_event_text config rs })) c.requires.messages
    ∙ calls_next config q c.args.shut c.args.batcher m all n cut (omega (arith, c.if-count-eq0.false)) tested)
