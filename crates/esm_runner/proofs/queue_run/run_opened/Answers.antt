use Rattle.std.proofs.Common.{◌≡◌, ◌∙◌, List, Option, subst, sym}
use Rattle.std.specs.Prelude.{IfOk, OnErr, reverse}
use Rattle.std.specs.List.{All}
use Rattle.std.proofs.lemmas.List.{reverse-reverse}
use Rattle.std.proofs.lemmas.Result.{IfOk-weaker, on_err_weaker}
use Rattle.esm_io.specs.Meanings.{DiskMeaning, disk as meaning}
use Rattle.esm_journal.specs.Pair.{PairState, first_disk, second_disk}
use Rattle.esm_journal.specs.Reads.{IsOnlyRead}
use Rattle.esm_model.specs.declared.entry.Entry.{Entry}
use Rattle.esm_model.specs.declared.book.Trouble.{Trouble}
use Rattle.esm_model.specs.Entries.{CallsFollowShut}
use Rattle.esm_model.specs.ValidMessage.{IsValidMessage}
use Rattle.esm_input.specs.declared.ending.InputEnd.{InputEnd}
use Rattle.esm_input.specs.Reading.{InputState}
use Rattle.esm_queue_book.specs.Books.{BookState}
use Rattle.esm_queue_book.specs.Moments.{IsTimedView}
use Rattle.esm_queue_core.specs.CoreView.{all_messages}
use Rattle.esm_queue_core.specs.Told.{told_of}
use Rattle.esm_workers.specs.Working.{outside}
use Rattle.esm_runner.specs.Files.{FilesState}
use Rattle.esm_runner.specs.Headline.{Devices, Telling, telling}
use Rattle.esm_runner.specs.QueueEnded.{HasEnded, HasStoppedRun}
use Rattle.esm_runner.specs.Ending.{EndsBy, HasReason}
use Rattle.esm_runner.specs.QueueRuns.{IsLeft, files_of}
use Rattle.esm_runner.specs.declared.run.MappingEnd.{MappingEnd}
use Rattle.esm_runner.specs.QueueLaws.{AreLaws}
use Rattle.esm_runner.proofs.QueueHeadlines.{AreOf}
use Rattle.esm_runner.proofs.Messages.{came_all, valid_told}
use Rattle.esm_runner.proofs.QueueWays.{HasCome, IsMadeFor, StoodSo, deletions_found, ended_by, few_so, found_ran, found_stays, made_for, reason_of, stopped_by}
use Rattle.esm_runner.proofs.queue_run.run_opened.Goals as goal

pub returns : goal.returns
returns g c =
    let m : DiskMeaning g.row.D.Denot = meaning g.D.Disk in
    let t : Telling g.row.D.Denot g.row.F.Denot = telling (outside g.C.Clock.gave g.F.Caller.sends g.F.Caller.log) m (λ line. line) in
    let before : BookState g.row.D.Denot = c.args.run.book in
    let config = before.core.setting.config in
    let calls = before.core.setting.calls in
    let visibility = before.core.setting.visibility in
    let files : FilesState g.row.D.Denot = files_of c.args.before.now.journal.value c.args.before.now.spare.value c.args.before.now.failures.value c.args.said before c.args.dest in
    let b : BookState g.row.D.Denot = c.run_batchers-ran.result.book in
    let i : InputState g.row.S.Denot = c.run_batchers-ran.result.input in
    let ran = c.run_batchers-ran.result.end in
    let out = c.closed.result in
    let callers = c.args.callers.items in
    let new : Devices g.row.D.Denot g.row.F.Denot = record { journal = out.journal; spare = out.spare; failures = out.failures; callers = out.callers.items } in
    let laws : AreLaws = c.laws_hold.ensures in
    let sound = c.trouble.ensures.sound in
    let come : HasCome t g.S.Source.faults g.S.Source.left before b i callers new.callers ran = record {
      run = rw c.closed.ensures.callers c.run_batchers-ran.ensures.run;
      came = c.run_batchers-ran.ensures.came;
      ended = c.run_batchers-ran.ensures.ended;
      read = c.run_batchers-ran.ensures.read;
      good = c.run_batchers-ran.ensures.good;
      stopped = rw c.closed.ensures.callers c.run_batchers-ran.ensures.stopped;
      cut = c.run_batchers-ran.ensures.cut;
    } in
    let stays = found_stays t g.S.Source.faults g.S.Source.left before b i callers new.callers ran come in
    let stood : StoodSo config calls visibility files before = record { core = c.requires.begun.core } in
    let left : IsLeft m files b = record {
      files = c.requires.files;
      found = stays.0 ∙ c.requires.begun.found;
      legal = sound.legal;
      settled = sound.settled;
      came = came_all b.core.setting (all_messages b.core) b.core.past sound.legal sound.messages;
      deletions = deletions_found t g.S.Source.faults g.S.Source.left config calls visibility files before b i callers new.callers ran stood come;
      valid = subst (All (IsValidMessage b.core.setting.config.kind)) (sym sound.messages) (valid_told b.core.setting.config.kind (told_of b.core) sound.of_queue);
      few = few_so t g.S.Source.faults g.S.Source.left before b i callers new.callers ran laws come;
      journal = c.trouble.ensures.journal;
      since = c.since_before.ensures;
      pair_kept = c.trouble.ensures.kept;
      opened_since = c.trouble.ensures.images;
      pair_stopped = rw (← c.into_parts-history.ensures.pair) c.closed.ensures.pair_stopped;
      stays = sound.stays;
      hand = sound.hand;
      hand_follows = sound.hand_follows;
      hand_is_one = sound.hand_is_one;
    } in
    let of : AreOf files b new = record {
      journal = rw (← c.into_parts-history.ensures.pair) c.closed.ensures.journal;
      spare = rw (← c.into_parts-history.ensures.pair) c.closed.ensures.spare;
      failures = c.closed.ensures.failures;
    } in
    let made : IsMadeFor config c.args.run.input.source i = made_for config c.args.run.input.source c.args.run.input i c.requires.begun.input c.run_batchers-ran.ensures.input in
    let trace : reverse out.trace.items ≡ b.core.past = rw (c.closed.ensures.trace, c.into_parts-history.ensures.history) (reverse-reverse b.core.past) in
    let source : out.input ≡ i.source = c.closed.ensures.input ∙ c.into_parts-source.ensures.source in
    let reading : out.reading.value ≡ i.end = c.closed.ensures.reading ∙ (c.of-read_to.ensures ∙ c.into_parts-source.ensures.end) in
    let P : MappingEnd → Type 0 = HasEnded t g.S.Source.faults g.S.Source.left config calls visibility files c.args.run.input.source out.input out.reading.value callers (reverse out.trace.items) new in
    let Q : Type 0 = HasStoppedRun t g.S.Source.left config calls visibility files c.args.run.input.source out.input callers (reverse out.trace.items) new in
    record {
      ended = subst (λ r. IfOk r P) (sym c.closed.ensures.end)
          (IfOk-weaker c.end_of-end.result (EndsBy ran c.into_parts-history.result.trouble c.into_parts-source.result.1) P
          (λ e is.
          let by : EndsBy ran b.trouble i.end e =
          subst (λ (w : Option Trouble). EndsBy ran w i.end e) c.into_parts-history.ensures.trouble
          (subst (λ (x : Option InputEnd). EndsBy ran c.into_parts-history.result.trouble x e) c.into_parts-source.ensures.end is) in
          subst (λ (x : g.row.S.Denot × Option InputEnd). HasEnded t g.S.Source.faults g.S.Source.left config calls visibility files c.args.run.input.source x.0 x.1 callers (reverse out.trace.items) new e)
          (λ k. (sym source k, sym reading k))
          (subst (λ (h : List Entry). HasEnded t g.S.Source.faults g.S.Source.left config calls visibility files c.args.run.input.source i.source i.end callers h new e) (sym trace)
          (ended_by t g.S.Source.faults g.S.Source.left config calls visibility files c.args.run.input.source i callers before b new ran e laws stood left of c.trouble.ensures.cause made come by)))
          c.end_of-end.ensures.ended);
      stopped = subst (λ r. OnErr r Q) (sym c.closed.ensures.end)
          (on_err_weaker c.end_of-end.result
          (λ is.
          subst (λ (x : g.row.S.Denot). HasStoppedRun t g.S.Source.left config calls visibility files c.args.run.input.source x callers (reverse out.trace.items) new) (sym source)
          (subst (λ (h : List Entry). HasStoppedRun t g.S.Source.left config calls visibility files c.args.run.input.source i.source callers h new) (sym trace)
          (stopped_by t g.S.Source.faults g.S.Source.left config calls visibility files c.args.run.input.source i callers before b new ran laws stood left of c.trouble.ensures.cause made come is)))
          c.end_of-end.ensures.stopped);
      read_first = λ first. subst CallsFollowShut (sym trace) (c.run_batchers-ran.ensures.later first);
      said = c.closed.ensures.said;
      as_many = stays.1 ∙ c.requires.callers;
    }

pub run_batchers-ran-requires-clause-timed : goal.run_batchers-ran-requires-clause-timed
run_batchers-ran-requires-clause-timed g c κs within = subst (IsTimedView g.C.Clock.gave) (sym c.requires.begun.core) (record { past = tt; owed = tt })

pub since_before-requires-clause-first : goal.since_before-requires-clause-first
since_before-requires-clause-first g c =
    let m : DiskMeaning g.row.D.Denot = meaning g.D.Disk in
    let t : Telling g.row.D.Denot g.row.F.Denot = telling (outside g.C.Clock.gave g.F.Caller.sends g.F.Caller.log) m (λ line. line) in
    let ran = c.run_batchers-ran in
    let found : ran.result.book.found ≡ c.args.run.book.pair = found_ran t c.args.run.book ran.result.book c.args.callers.items ran.result.callers.items ran.result.end ran.ensures.run ran.ensures.stopped ∙ c.requires.begun.found in
    subst (λ (p : PairState g.row.D.Denot). IsOnlyRead m c.args.before.now.journal.value (first_disk p)) (sym found) c.requires.files.read.0

pub since_before-requires-clause-second : goal.since_before-requires-clause-second
since_before-requires-clause-second g c =
    let m : DiskMeaning g.row.D.Denot = meaning g.D.Disk in
    let t : Telling g.row.D.Denot g.row.F.Denot = telling (outside g.C.Clock.gave g.F.Caller.sends g.F.Caller.log) m (λ line. line) in
    let ran = c.run_batchers-ran in
    let found : ran.result.book.found ≡ c.args.run.book.pair = found_ran t c.args.run.book ran.result.book c.args.callers.items ran.result.callers.items ran.result.end ran.ensures.run ran.ensures.stopped ∙ c.requires.begun.found in
    subst (λ (p : PairState g.row.D.Denot). IsOnlyRead m c.args.before.now.spare.value (second_disk p)) (sym found) c.requires.files.read.1

pub end_of-end-requires : goal.end_of-end-requires
end_of-end-requires g c =
    let ran = c.run_batchers-ran in
    let b : BookState g.row.D.Denot = ran.result.book in
    record {
      reason = subst (λ (w : Option Trouble). IfOk ran.result.end (HasReason w c.into_parts-source.result.1)) (sym c.into_parts-history.ensures.trouble)
          (subst (λ (x : Option InputEnd). IfOk ran.result.end (HasReason b.trouble x)) (sym c.into_parts-source.ensures.end)
          (reason_of g.S.Source.left ran.result.input b ran.result.end ran.ensures.came ran.ensures.ended));
    }
