use Rattle.std.proofs.Common.{◌<◌, List, Option, IfSome, length, arith, subst}
use Rattle.esm_model.specs.declared.entry.Entry.{Entry}
use Rattle.esm_replay_model.specs.ReplaySetting.{ReplaySetting}
use Rattle.esm_replay.specs.declared.batch.Batch.{Batch}
use Rattle.esm_replay.specs.Batch.{IsAmong, IsNextBatch, batch_records}
use Rattle.esm_replay_core.specs.Choosing.{IsReady, IsChosen, IsBegunOf}
use Rattle.esm_replay_core.proofs.Choices.{ready_batch, ready_within, ready_valid, none_chosen, spent_chosen, call_chosen, chosen_if}
use Rattle.esm_replay_core.proofs.choosing.choose.Goals as goal

pub next_batch-requires-clause-stand : goal.next_batch-requires-clause-stand
next_batch-requires-clause-stand c =
    let r = c.requires.ready in
    ready_within r.0 r.1 c.args.config.now c.args.calls c.args.begun c.args.records.now c.args.waiting.now r.2

pub returns-in-None : goal.returns-in-None
returns-in-None c = λ s h ready.
    none_chosen s h c.args.config.now c.args.calls c.args.begun c.args.records.now c.args.waiting.now c.args.moment ready
    (subst (IsNextBatch s c.args.records.now c.args.waiting.now.pieces) c.in-None.is (ready_batch s h c.args.config.now c.args.calls c.args.begun c.args.records.now c.args.waiting.now c.in_ok-found.found ready c.in_ok-found.ensures.call))

pub returns-then-begun-calls : goal.returns-then-begun-calls
returns-then-begun-calls c = λ s h ready.
    spent_chosen s h c.args.config.now c.args.calls c.args.begun c.args.records.now c.args.waiting.now c.args.moment c.in-Some.batch ready
    (subst (IsNextBatch s c.args.records.now c.args.waiting.now.pieces) c.in-Some.is (ready_batch s h c.args.config.now c.args.calls c.args.begun c.args.records.now c.args.waiting.now c.in_ok-found.found ready c.in_ok-found.ensures.call)) (omega arith)

pub begin-requires-clause-among : goal.begin-requires-clause-among
begin-requires-clause-among c = subst (λ (found : Option Batch). IfSome found (IsAmong (length c.args.records.now))) c.in-Some.is c.in_ok-found.ensures.among

pub begin-requires-clause-valid : goal.begin-requires-clause-valid
begin-requires-clause-valid c =
    let r = c.requires.ready in
    ready_valid r.0 r.1 c.args.config.now c.args.calls c.args.begun c.args.records.now c.args.waiting.now c.in-Some.batch r.2 c.requires.valid
    (subst (IsNextBatch r.0 c.args.records.now c.args.waiting.now.pieces) c.in-Some.is (ready_batch r.0 r.1 c.args.config.now c.args.calls c.args.begun c.args.records.now c.args.waiting.now c.in_ok-found.found r.2 c.in_ok-found.ensures.call))

pub returns-else-begun-calls : goal.returns-else-begun-calls
returns-else-begun-calls c =
    let batch = c.in-Some.batch in
    let left : c.args.begun < c.args.calls = omega arith in
    chosen_if c.begin.result (IsBegunOf c.args.config.now batch.shard batch.places (batch_records c.args.records.now batch) c.args.moment)
    (λ chosen. (s : ReplaySetting) (h : List Entry) → IsReady s h c.args.config.now c.args.calls c.args.begun c.args.records.now c.args.waiting.now → IsChosen s h c.args.moment chosen)
    (λ chosen begins s h ready. call_chosen s h c.args.config.now c.args.calls c.args.begun c.args.records.now c.args.waiting.now c.args.moment batch chosen ready
    (subst (IsNextBatch s c.args.records.now c.args.waiting.now.pieces) c.in-Some.is (ready_batch s h c.args.config.now c.args.calls c.args.begun c.args.records.now c.args.waiting.now c.in_ok-found.found ready c.in_ok-found.ensures.call)) left begins)
    c.begin.ensures
