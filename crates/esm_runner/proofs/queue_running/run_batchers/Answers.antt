use denote.Param.Send.{sendable}
use Rattle.std.proofs.Common.{◌≡◌, ◌∙◌, Result, List, [], ap, subst, sym}
use Rattle.std.specs.Coded.{Coded}
use Rattle.esm_model.specs.declared.memory.OutOfMemory.{OutOfMemory}
use Rattle.esm_model.specs.Kept.{change_of}
use Rattle.esm_model.specs.Entries.{CallsFollowShut}
use Rattle.esm_input.specs.Reading.{InputState}
use Rattle.esm_queue_core.specs.Told.{told_of}
use Rattle.esm_workers.specs.Working.{Outside, outside}
use Rattle.esm_workers.proofs.Sent.{on_time_send}
use Rattle.esm_pool.specs.declared.running.RunEnd.{RunEnd}
use Rattle.esm_queue_book.specs.Books.{BookState, setup_of}
use Rattle.esm_queue_book.specs.Keeping.{IsSound}
use Rattle.esm_queue_book.specs.Moments.{IsTimedView}
use Rattle.esm_queue_book.proofs.Sent.{book_send}
use Rattle.esm_runner.specs.QueueRan.{HasRun, CameSo, EndsSo}
use Rattle.esm_runner.proofs.Numbers.{some_batcher, few_batchers}
use Rattle.esm_runner.proofs.Later.{calls_later}
use Rattle.esm_runner.proofs.Shared.{if_ran, on_ran}
use Rattle.esm_runner.proofs.Unbegun.{on_any_err}
use Rattle.esm_runner.proofs.QueueShared.{BookRan, told_new, ran_so, stopped_so, came_so, ended_so, cut_came}
use Rattle.esm_runner.proofs.queue_running.run_batchers.Goals as goal

pub run_book-end-requires-send-B : goal.run_book-end-requires-send-B
run_book-end-requires-send-B g c κs within = search (on_time_send, book_send, sendable) depth 12

pub run_book-end-requires-clause-new : goal.run_book-end-requires-clause-new
run_book-end-requires-clause-new g c κs within =
    subst (λ (b : BookState g.row.D.Denot). told_of b.core ≡ []) (sym c.new-on_time.ensures) (told_new c.args.book c.requires.new)

pub run_book-end-requires-clause-batchers : goal.run_book-end-requires-clause-batchers
run_book-end-requires-clause-batchers g c κs within = (
  some_batcher c.args.book.core.setting.config c.args.batchers c.requires.config c.requires.batchers,
  few_batchers c.args.book.core.setting.config c.args.batchers c.requires.batchers,
)

pub run_book-end-requires-clause-unchanged : goal.run_book-end-requires-clause-unchanged
run_book-end-requires-clause-unchanged g c κs within =
    ap (λ (b : BookState g.row.D.Denot). change_of b.trouble) c.new-on_time.ensures ∙ ap change_of c.requires.up

pub returns : goal.returns
returns g c =
    let code : Coded g.row.D.Denot = g.row.D.coded in
    let o : Outside g.row.F.Denot = outside g.C.Clock.gave g.F.Caller.sends g.F.Caller.log in
    let faults = g.S.Source.faults in
    let left = g.S.Source.left in
    let ran = c.run_book-end in
    let v : BookState g.row.D.Denot = c.args.book in
    let w : BookState g.row.D.Denot = c.into_book-book.result in
    let began : BookState g.row.D.Denot = c.new-on_time.result in
    let came : BookState g.row.D.Denot = c.run_book-end.result.book in
    let on : began ≡ v = c.new-on_time.ensures in
    let back : w ≡ came = c.into_book-book.ensures.book in
    let j : InputState g.row.S.Denot = c.run_book-end.result.input in
    let count = c.args.batchers in
    let old : List g.row.F.Denot = c.args.callers.items in
    let new : List g.row.F.Denot = c.run_book-end.result.callers.items in
    let r : Result RunEnd OutOfMemory = c.run_book-end.result.end in
    let number = c.requires.batchers in
    let sound : IsSound w = c.know.ensures in
    let ran_under : BookRan code o faults left began came j count old new r = record {
      setup_is = ran.ensures.setup;
      moments = ran.ensures.moments;
      timed = subst (λ (b : BookState g.row.D.Denot). IsTimedView o.gave b.core) back c.into_book-book.ensures.timed;
      called = ran.ensures.called;
      ended = ran.ensures.ended;
      left_one = ran.ensures.left;
      came = ran.ensures.came;
      changed = ran.ensures.changed;
      read = ran.ensures.read;
      good = ran.ensures.good;
      cut = ran.ensures.cut;
    } in
    let did : BookRan code o faults left v w j count old new r =
    subst (λ (b : BookState g.row.D.Denot). BookRan code o faults left v b j count old new r) (sym back)
    (subst (λ (b : BookState g.row.D.Denot). BookRan code o faults left b came j count old new r) on ran_under) in
    record {
      run = on_ran (HasRun o v w old new) r (ran_so code o faults left v w j count old new r number sound did);
      came = if_ran (CameSo j w) r (came_so code o faults left v w j count old new r number sound did);
      ended = if_ran (EndsSo left j w) r (λ e was. ended_so code o faults left v w j count old new r number sound did e (some_batcher v.core.setting.config count c.requires.config number) was);
      read = ran.ensures.read;
      good = ran.ensures.good;
      stopped = on_any_err r (stopped_so code o faults left v w j count old new r number sound did);
      cut = on_any_err r (cut_came code o faults left v w j count old new r number sound did);
      later = λ first. subst (λ (b : BookState g.row.D.Denot). CallsFollowShut b.core.past) (sym back) (calls_later (setup_of code began) came (ran.ensures.later first));
      input = (ran.ensures.input.kind, ran.ensures.input.factor, ran.ensures.input.start, ran.ensures.input.found);
    }
