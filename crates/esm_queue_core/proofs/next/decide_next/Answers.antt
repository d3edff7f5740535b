use Rattle.std.proofs.Common.{◌≡◌, ◌∙◌, sym, List}
use Rattle.std.proofs.lemmas.Result.{IfOk-weaker}
use Rattle.esm_model.specs.declared.entry.Entry.{Entry}
use Rattle.esm_queue_model.specs.QueueSetting.{QueueSetting}
use Rattle.esm_queue_core.specs.Next.{next_for, IsToldBy}
use Rattle.esm_queue_core.specs.Choosing.{batch_in, next_in}
use Rattle.esm_queue_core.proofs.Choosing.{rests_next, spent_next, chosen_next}
use Rattle.esm_queue_core.proofs.next.decide_next.Goals as goal

pub returns-then-counts-len : goal.returns-then-counts-len
returns-then-counts-len c = λ s h told.
    c.rest.ensures ∙ rests_next c.args.config.now c.args.queue.now.state c.args.counts c.args.batcher c.args.now s h told c.requires.deleted (c.if-counts-len.true ∙ c.len.ensures)

pub returns-then-counts : goal.returns-then-counts
returns-then-counts c = λ s h told.
    spent_next c.args.config.now c.args.queue.now.state c.args.counts c.args.batcher c.args.now s h told c.requires.deleted (λ all. c.if-counts-len.false (all ∙ sym c.len.ensures)) c.if-counts.true

pub returns : goal.returns
returns c =
    let config = c.args.config.now in
    let q = c.args.queue.now.state in
    let k = c.args.batcher in
    let m = c.args.now in
    IfOk-weaker c.decide_waiting.result (λ next. next ≡ next_in config q c.args.counts.shut k m (batch_in config q m)) (λ next. (s : QueueSetting) (h : List Entry) → IsToldBy config q c.args.counts s h → next ≡ next_for s h k m)
    (λ next is s h told. is ∙ chosen_next config q c.args.counts k m s h told c.requires.deleted (λ all. c.if-counts-len.false (all ∙ sym c.len.ensures)) c.if-counts.false)
    c.decide_waiting.ensures
