use Rattle.std.proofs.Common.{◌≡◌, ◌∙◌, ℕ, List, Option, ap, subst, sym}
use Rattle.std.specs.Prelude.{IfOk, OnErr, reverse}
use Rattle.std.proofs.lemmas.List.{reverse-reverse}
use Rattle.std.proofs.lemmas.Result.{IfOk-weaker, on_err_weaker}
use Rattle.esm_io.specs.Meanings.{DestMeaning, DiskMeaning, destination, disk as meaning}
use Rattle.esm_journal.specs.Pair.{PairState, first_disk, second_disk}
use Rattle.esm_journal.specs.Reads.{IsOnlyRead}
use Rattle.esm_journal.specs.State.{JournalState, KeepsWhileDown, KeepsWhileUp}
use Rattle.esm_model.specs.declared.config.Start.{Start}
use Rattle.esm_model.specs.declared.entry.Entry.{Entry}
use Rattle.esm_model.specs.declared.book.Trouble.{Trouble}
use Rattle.esm_model.specs.Entries.{CallsFollowShut}
use Rattle.esm_input.specs.declared.ending.InputEnd.{InputEnd}
use Rattle.esm_record_bounds.specs.Bounds.{AreCountedInFourBytes}
use Rattle.esm_input.specs.Reading.{InputState}
use Rattle.esm_stream_core.specs.CoreView.{full_setting}
use Rattle.esm_stream_book.specs.Books.{BookState}
use Rattle.esm_stream_book.specs.Keeping.{IsSound, entries_left}
use Rattle.esm_stream_book.specs.Moments.{IsTimedView}
use Rattle.esm_workers.specs.Working.{outside}
use Rattle.esm_runner.specs.Ended.{HasEnded, HasStoppedRun}
use Rattle.esm_runner.specs.FailureFile.{DeliversTo}
use Rattle.esm_runner.specs.Files.{FilesState}
use Rattle.esm_runner.specs.Headline.{Devices, Telling, telling}
use Rattle.esm_runner.specs.Ending.{EndsBy, HasReason}
use Rattle.esm_runner.specs.Runs.{IsLeft, file_dest, files_of, over_file}
use Rattle.esm_runner.specs.declared.run.MappingEnd.{MappingEnd}
use Rattle.esm_runner.specs.Laws.{AreLaws}
use Rattle.esm_runner.proofs.Headlines.{AreOf}
use Rattle.esm_runner.proofs.OverFiles.{cause_over, come_over, journal_over, leaves_over, lines_over, opens_over, sound_over}
use Rattle.esm_runner.proofs.Ways.{HasCome, IsCauseIn, IsMadeFor, StoodSo, ended_by, fates_found, found_ran, found_stays, made_for, reason_of, counted_so, stopped_by}
use Rattle.esm_runner.proofs.Records.{hand_said, may_be_said}
use Rattle.esm_runner.proofs.stream_run.run_opened.Goals as goal

pub returns : goal.returns
returns g c =
    let m : DiskMeaning g.row.D.Denot = meaning g.D.Disk in
    let t : Telling g.row.D.Denot g.row.F.Denot = telling (outside g.C.Clock.gave g.F.Caller.sends g.F.Caller.log) m g.W.FailureFile.line in
    let file : g.row.W-Dest.Denot → JournalState g.row.D.Denot = g.W.FailureFile.file in
    let line : List ℕ → List ℕ = g.W.FailureFile.line in
    let n : DestMeaning g.row.W-Dest.Denot = destination g.W.Dest.Dest in
    let means : DeliversTo (file_dest m (λ l. l)) n file line = c.means.ensures in
    let under : BookState g.row.D.Denot g.row.W-Dest.Denot = c.run_lanes-ran.result.book in
    let before : BookState g.row.D.Denot (JournalState g.row.D.Denot) = over_file file c.args.run.book in
    let config = before.core.setting.config in
    let calls = before.core.setting.calls in
    let start : Start = c.args.run.input.start in
    let files : FilesState g.row.D.Denot = files_of c.args.before.now.journal.value c.args.before.now.spare.value c.args.before.now.failures.value c.args.said before in
    let b : BookState g.row.D.Denot (JournalState g.row.D.Denot) = over_file file under in
    let i : InputState g.row.S.Denot = c.run_lanes-ran.result.input in
    let ran = c.run_lanes-ran.result.end in
    let out = c.closed.result in
    let callers = c.args.callers.items in
    let new : Devices g.row.D.Denot g.row.F.Denot = record { journal = out.journal; spare = out.spare; failures = out.failures; callers = out.callers.items } in
    let laws : AreLaws = c.laws_hold.ensures in
    let come : HasCome t g.S.Source.faults g.S.Source.left before b i callers new.callers ran =
    come_over file t g.S.Source.faults g.S.Source.left c.args.run.book under i callers new.callers ran (rw c.closed.ensures.callers c.run_lanes-ran.ensures.run) c.run_lanes-ran.ensures.came c.run_lanes-ran.ensures.ended
    c.run_lanes-ran.ensures.read c.run_lanes-ran.ensures.good (rw c.closed.ensures.callers c.run_lanes-ran.ensures.stopped) c.run_lanes-ran.ensures.cut in
    let sound : IsSound b = sound_over file under c.trouble.ensures.sound in
    let cause : IsCauseIn m b b.trouble = cause_over m n file line means under c.trouble.ensures.cause in
    let dest : c.file.result ≡ b.dest = c.file.ensures ∙ ap file c.into_parts-history.ensures.dest in
    let stays = found_stays t g.S.Source.faults g.S.Source.left before b i callers new.callers ran come in
    let stood : StoodSo config calls files before = record { core = c.requires.begun.core } in
    let counted : AreCountedInFourBytes b.core.past = counted_so t g.S.Source.faults g.S.Source.left before b i callers new.callers ran laws sound come in
    let left : IsLeft m line files b = record {
      files = c.requires.files;
      found = stays.0 ∙ c.requires.begun.found;
      found_dest = stays.1 ∙ c.requires.begun.found_dest;
      legal = sound.legal;
      settled = sound.settled;
      fates = fates_found t g.S.Source.faults g.S.Source.left config calls files before b i callers new.callers ran stood come;
      can_be_said = record { counted = counted; entries = may_be_said b laws sound c.trouble.ensures.bounds counted; in_hand = hand_said b laws sound c.trouble.ensures.bounds counted };
      journal = journal_over m file under c.trouble.ensures.journal;
      lines = lines_over m n file line means under c.trouble.ensures.lines;
      since = λ honest other_honest only other_only one other since other_since.
          opens_over m n file line means (full_setting under.core) under.found.epoch under.found.payloads under.found_dest under.dest (entries_left under) one other
          (c.since_before.ensures honest other_honest only other_only one other since other_since);
      pair_kept = c.trouble.ensures.kept;
      opened_since = leaves_over m n file line means (full_setting under.core) under.found under.pair under.found_dest under.dest (entries_left under) c.trouble.ensures.images;
      pair_stopped = rw (← c.into_parts-history.ensures.pair) c.closed.ensures.pair_stopped;
      dest_kept = subst (λ (d : JournalState g.row.D.Denot). KeepsWhileUp m d) dest c.closed.ensures.dest_kept;
      dest_stopped = subst (λ (d : JournalState g.row.D.Denot). KeepsWhileDown m d) dest c.closed.ensures.dest_stopped;
      hand = c.trouble.ensures.hand;
      hand_follows = sound.hand_follows;
      tried_follows = sound.tried_follows;
      hand_is_one = sound.hand_is_one;
      tried_is_one = sound.tried_is_one;
      now = c.disks_count_now.ensures;
    } in
    let of : AreOf b new = record {
      journal = rw (← c.into_parts-history.ensures.pair) c.closed.ensures.journal;
      spare = rw (← c.into_parts-history.ensures.pair) c.closed.ensures.spare;
      failures = c.closed.ensures.failures ∙ ap (λ (d : JournalState g.row.D.Denot). d.disk) dest;
    } in
    let made : IsMadeFor config start c.args.run.input.source i = made_for config start c.args.run.input.source c.args.run.input i c.requires.begun.input c.run_lanes-ran.ensures.input in
    let trace : reverse out.trace.items ≡ b.core.past = rw (c.closed.ensures.trace, c.into_parts-history.ensures.history) (reverse-reverse b.core.past) in
    let source : out.input ≡ i.source = c.closed.ensures.input ∙ c.into_parts-source.ensures.source in
    let reading : out.reading.value ≡ i.end = c.closed.ensures.reading ∙ (c.of-read_to.ensures ∙ c.into_parts-source.ensures.end) in
    let P : MappingEnd → Type 0 = HasEnded t g.S.Source.faults g.S.Source.left config start calls files c.args.run.input.source out.input out.reading.value callers (reverse out.trace.items) new in
    let Q : Type 0 = HasStoppedRun t g.S.Source.left config start calls files c.args.run.input.source out.input callers (reverse out.trace.items) new in
    record {
      ended = subst (λ r. IfOk r P) (sym c.closed.ensures.end)
          (IfOk-weaker c.end_of-end.result (EndsBy ran c.into_parts-history.result.trouble c.into_parts-source.result.1) P
          (λ e is.
          let by : EndsBy ran b.trouble i.end e =
          subst (λ (w : Option Trouble). EndsBy ran w i.end e) c.into_parts-history.ensures.trouble
          (subst (λ (x : Option InputEnd). EndsBy ran c.into_parts-history.result.trouble x e) c.into_parts-source.ensures.end is) in
          subst (λ (x : g.row.S.Denot × Option InputEnd). HasEnded t g.S.Source.faults g.S.Source.left config start calls files c.args.run.input.source x.0 x.1 callers (reverse out.trace.items) new e)
          (λ k. (sym source k, sym reading k))
          (subst (λ (h : List Entry). HasEnded t g.S.Source.faults g.S.Source.left config start calls files c.args.run.input.source i.source i.end callers h new e) (sym trace)
          (ended_by t g.S.Source.faults g.S.Source.left config start calls files c.args.run.input.source i callers before b new ran e laws stood left of sound cause made come by)))
          c.end_of-end.ensures.ended);
      stopped = subst (λ r. OnErr r Q) (sym c.closed.ensures.end)
          (on_err_weaker c.end_of-end.result
          (λ is.
          subst (λ (x : g.row.S.Denot). HasStoppedRun t g.S.Source.left config start calls files c.args.run.input.source x callers (reverse out.trace.items) new) (sym source)
          (subst (λ (h : List Entry). HasStoppedRun t g.S.Source.left config start calls files c.args.run.input.source i.source callers h new) (sym trace)
          (stopped_by t g.S.Source.faults g.S.Source.left config start calls files c.args.run.input.source i callers before b new ran laws stood left of cause made come is)))
          c.end_of-end.ensures.stopped);
      read_first = λ first. subst CallsFollowShut (sym trace) (c.run_lanes-ran.ensures.later first);
      said = c.closed.ensures.said;
      as_many = stays.2 ∙ c.requires.callers;
    }

pub run_lanes-ran-requires-clause-timed : goal.run_lanes-ran-requires-clause-timed
run_lanes-ran-requires-clause-timed g c κs within = subst (IsTimedView g.C.Clock.gave) (sym c.requires.begun.core) (record { past = tt; owed = tt })

pub since_before-requires-clause-first : goal.since_before-requires-clause-first
since_before-requires-clause-first g c =
    let m : DiskMeaning g.row.D.Denot = meaning g.D.Disk in
    let t : Telling g.row.D.Denot g.row.F.Denot = telling (outside g.C.Clock.gave g.F.Caller.sends g.F.Caller.log) m g.W.FailureFile.line in
    let ran = c.run_lanes-ran in
    let found : ran.result.book.found ≡ c.args.run.book.pair = found_ran t c.args.run.book ran.result.book c.args.callers.items ran.result.callers.items ran.result.end ran.ensures.run ran.ensures.stopped ∙ c.requires.begun.found in
    subst (λ (p : PairState g.row.D.Denot). IsOnlyRead m c.args.before.now.journal.value (first_disk p)) (sym found) c.requires.files.read.0

pub since_before-requires-clause-second : goal.since_before-requires-clause-second
since_before-requires-clause-second g c =
    let m : DiskMeaning g.row.D.Denot = meaning g.D.Disk in
    let t : Telling g.row.D.Denot g.row.F.Denot = telling (outside g.C.Clock.gave g.F.Caller.sends g.F.Caller.log) m g.W.FailureFile.line in
    let ran = c.run_lanes-ran in
    let found : ran.result.book.found ≡ c.args.run.book.pair = found_ran t c.args.run.book ran.result.book c.args.callers.items ran.result.callers.items ran.result.end ran.ensures.run ran.ensures.stopped ∙ c.requires.begun.found in
    subst (λ (p : PairState g.row.D.Denot). IsOnlyRead m c.args.before.now.spare.value (second_disk p)) (sym found) c.requires.files.read.1

pub end_of-end-requires : goal.end_of-end-requires
end_of-end-requires g c =
    let ran = c.run_lanes-ran in
    let b : BookState g.row.D.Denot g.row.W-Dest.Denot = ran.result.book in
    record {
      reason = subst (λ (w : Option Trouble). IfOk ran.result.end (HasReason w c.into_parts-source.result.1)) (sym c.into_parts-history.ensures.trouble)
          (subst (λ (x : Option InputEnd). IfOk ran.result.end (HasReason b.trouble x)) (sym c.into_parts-source.ensures.end)
          (reason_of g.S.Source.left ran.result.input b ran.result.end ran.ensures.came ran.ensures.ended));
    }
