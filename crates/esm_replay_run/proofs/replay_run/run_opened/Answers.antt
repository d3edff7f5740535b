use Rattle.std.proofs.Common.{◌≡◌, ◌∙◌, ◌-◌, ℕ, List, Option, ap, ap₂, arith, inr, subst, sym}
use Rattle.std.specs.Prelude.{IfOk, OnErr, reverse}
use Rattle.std.proofs.lemmas.List.{reverse-reverse}
use Rattle.std.proofs.lemmas.Result.{IfOk-weaker, on_err_weaker}
use Rattle.esm_io.specs.Meanings.{DiskMeaning, disk as meaning}
use Rattle.esm_journal.specs.Pair.{PairState, first_disk, second_disk}
use Rattle.esm_journal.specs.Reads.{IsOnlyRead}
use Rattle.esm_model.specs.declared.config.Config.{Config}
use Rattle.esm_model.specs.declared.entry.Entry.{Entry}
use Rattle.esm_model.specs.declared.book.Trouble.{Trouble}
use Rattle.esm_input.specs.declared.ending.InputEnd.{InputEnd}
use Rattle.esm_input.specs.Reading.{InputState}
use Rattle.esm_workers.specs.Working.{outside}
use Rattle.esm_replay_model.specs.ReplayReport.{named_count, replayed_in}
use Rattle.esm_replay_model.specs.ReplayRun.{IsReplay}
use Rattle.esm_replay_core.specs.declared.decisions.Opened.{Opened}
use Rattle.esm_replay_core.specs.View.{ReplayView, setting_of}
use Rattle.esm_replay_book.specs.Books.{BookState}
use Rattle.esm_runner.specs.Files.{FilesState}
use Rattle.esm_replay_run.specs.Counts.{AreCounts}
use Rattle.esm_replay_run.specs.Headline.{Disks}
use Rattle.esm_replay_run.specs.Ended.{Telling, telling, HasEnded, HasStoppedRun}
use Rattle.esm_replay_run.specs.Ending.{EndsBy, HasReason}
use Rattle.esm_replay_run.specs.Laws.{AreLaws}
use Rattle.esm_replay_run.specs.Runs.{IsLeft, files_of}
use Rattle.esm_replay_run.specs.declared.run.ReplayEnd.{ReplayEnd}
use Rattle.esm_replay_run.proofs.Begun.{ended_so}
use Rattle.esm_replay_run.proofs.Counting.{counted, replayed_within, replayed-reverse}
use Rattle.esm_replay_run.proofs.Headlines.{AreOf, settled_but}
use Rattle.esm_replay_run.proofs.Ways.{HasCome, IsMadeFor, StoodSo, ended_by, found_stays, made_for, opened_stays, reason_of, stopped_by}
use Rattle.esm_replay_run.proofs.replay_run.run_opened.Goals as goal

pub returns : goal.returns
returns g c =
    let m : DiskMeaning g.row.D.Denot = meaning g.D.Disk in
    let t : Telling g.row.D.Denot g.row.F.Denot = telling (outside g.C.Clock.gave g.F.Caller.sends g.F.Caller.log) m in
    let before : BookState g.row.D.Denot = c.args.run.book in
    let config : Config = c.args.before.now.config.value in
    let calls = before.core.opened.calls in
    let files : FilesState g.row.D.Denot = files_of c.args.before.now.journal.value c.args.before.now.spare.value c.args.before.now.failures.value before.core.opened.said before.pair c.args.lines in
    let b : BookState g.row.D.Denot = c.run_serial-ran.result.book in
    let i : InputState g.row.S.Denot = c.run_serial-ran.result.input in
    let ran = c.run_serial-ran.result.end in
    let e = c.run_serial-ran.ensures in
    let out = c.closed.result in
    let new : Disks g.row.D.Denot = record { journal = out.journal; spare = out.spare; failures = out.failures } in
    let laws : AreLaws = c.laws_hold.ensures in
    let sound = c.trouble.ensures.sound in
    let old_caller = c.args.caller.now in
    let new_caller = c.run_serial-ran.new.caller in
    let come : HasCome t g.S.Source.faults g.S.Source.left before b c.args.run.input i old_caller new_caller ran = record {
      called = e.called;
      rests = e.rests;
      stopped = e.stopped;
      ended = e.ended;
      came = e.came;
      changed = e.changed;
      no_change = e.no_change;
      read = e.read;
      good = e.good;
      cut = e.cut;
      input = e.input;
    } in
    let stood : StoodSo config calls files before = record { ranges = c.requires.begun.ranges; given = c.requires.begun.given; core = c.requires.begun.core } in
    let found : b.found ≡ files.pair = found_stays g.C.Clock.gave g.F.Caller.sends before b (g.F.Caller.log old_caller) (g.F.Caller.log new_caller) ran e.called e.stopped ∙ c.requires.begun.found in
    let left : IsLeft m files b = record {
      files = c.requires.files;
      found = found;
      run = sound.run;
      ahead = sound.ahead;
      may_be_said = sound.said;
      settled = settled_but _ b sound c.trouble.ensures.cause;
      owes = sound.owes;
      journal = c.trouble.ensures.journal;
      since = c.since_before.ensures;
      pair_kept = c.trouble.ensures.kept;
      opened_since = c.trouble.ensures.images;
      pair_stopped = rw (← c.into_parts-history.ensures.pair) c.closed.ensures.pair_stopped;
    } in
    let of : AreOf files b new = record {
      journal = rw (← c.into_parts-history.ensures.pair) c.closed.ensures.journal;
      spare = rw (← c.into_parts-history.ensures.pair) c.closed.ensures.spare;
      failures = c.closed.ensures.failures;
    } in
    let made : IsMadeFor config c.args.run.input.source i = made_for config c.args.run.input.source c.args.run.input i c.requires.begun.input e.input in
    let trace : reverse out.trace.items ≡ b.core.past = rw (c.closed.ensures.trace, c.into_parts-history.ensures.history) (reverse-reverse b.core.past) in
    let past : reverse c.into_parts-history.result.history.items ≡ b.core.past = rw (c.into_parts-history.ensures.history) (reverse-reverse b.core.past) in
    let source : out.input ≡ i.source = c.closed.ensures.input ∙ c.into_parts-source.ensures.source in
    let reading : out.reading.value ≡ i.end = c.closed.ensures.reading ∙ (c.of-read_to.ensures ∙ c.into_parts-source.ensures.end) in
    let counts : AreCounts (setting_of b.core) b.core.past out.counts =
    rw (c.closed.ensures.counts)
    (subst (λ (h : List Entry). AreCounts (setting_of b.core) h c.counts_of-counts.result) past
    (counted laws (setting_of b.core) (reverse c.into_parts-history.result.history.items) c.counts_of-counts.result
    (subst (IsReplay (setting_of b.core)) (sym past) sound.run)
    (c.counts_of-counts.ensures.named ∙ c.named-named.ensures)
    (c.counts_of-counts.ensures.replayed ∙ (ap (λ (xs : List Entry). replayed_in xs) c.as_slice.ensures.value ∙ sym (replayed-reverse c.into_parts-history.result.history.items)))
    (c.counts_of-counts.ensures.left ∙ ap₂ (λ (n k : ℕ). n - k) c.named-named.ensures (ap (λ (xs : List Entry). replayed_in xs) c.as_slice.ensures.value ∙ sym (replayed-reverse c.into_parts-history.result.history.items))))) in
    let P : ReplayEnd → Type 0 = HasEnded t g.S.Source.faults g.S.Source.left config calls files c.args.run.input.source out.input out.reading.value old_caller new_caller (reverse out.trace.items) out.counts new in
    let Q : Type 0 = HasStoppedRun t g.S.Source.faults g.S.Source.left config calls files c.args.run.input.source out.input out.reading.value old_caller new_caller (reverse out.trace.items) out.counts new in
    record {
      ended = subst (λ r. IfOk r P) (sym c.closed.ensures.end)
          (IfOk-weaker c.end_of-end.result (EndsBy ran c.into_parts-history.result.trouble c.into_parts-source.result.1) P
          (λ e is.
          let by : EndsBy ran b.trouble i.end e =
          subst (λ (w : Option Trouble). EndsBy ran w i.end e) c.into_parts-history.ensures.trouble
          (subst (λ (x : Option InputEnd). EndsBy ran c.into_parts-history.result.trouble x e) c.into_parts-source.ensures.end is) in
          subst (λ (x : g.row.S.Denot × Option InputEnd). HasEnded t g.S.Source.faults g.S.Source.left config calls files c.args.run.input.source x.0 x.1 old_caller new_caller (reverse out.trace.items) out.counts new e)
          (λ k. (sym source k, sym reading k))
          (subst (λ (h : List Entry). HasEnded t g.S.Source.faults g.S.Source.left config calls files c.args.run.input.source i.source i.end old_caller new_caller h out.counts new e) (sym trace)
          (ended_so t g.S.Source.faults g.S.Source.left config calls files c.args.run.input.source i.source i.end old_caller new_caller b.core.past out.counts new e
          (ended_by t g.S.Source.faults g.S.Source.left config calls files c.args.run.input.source i old_caller new_caller before b out.counts new c.args.run.input ran e laws stood left of c.trouble.ensures.cause sound counts made come by))))
          c.end_of-end.ensures.ended);
      stopped = subst (λ r. OnErr r Q) (sym c.closed.ensures.end)
          (on_err_weaker c.end_of-end.result
          (λ is.
          subst (λ (x : g.row.S.Denot × Option InputEnd). HasStoppedRun t g.S.Source.faults g.S.Source.left config calls files c.args.run.input.source x.0 x.1 old_caller new_caller (reverse out.trace.items) out.counts new)
          (λ k. (sym source k, sym reading k))
          (subst (λ (h : List Entry). HasStoppedRun t g.S.Source.faults g.S.Source.left config calls files c.args.run.input.source i.source i.end old_caller new_caller h out.counts new) (sym trace)
          (inr (stopped_by t g.S.Source.faults g.S.Source.left config calls files c.args.run.input.source i old_caller new_caller before b out.counts new c.args.run.input ran laws stood left of c.trouble.ensures.cause counts made come is))))
          c.end_of-end.ensures.stopped);
      said = c.closed.ensures.said
          ∙ c.into_parts-history.ensures.said
          ∙ ap (λ (o : Opened). o.said) (opened_stays g.C.Clock.gave g.F.Caller.sends before b (g.F.Caller.log old_caller) (g.F.Caller.log new_caller) ran e.called e.stopped);
    }

pub counts_of-counts-requires : goal.counts_of-counts-requires
counts_of-counts-requires g c =
    let b : BookState g.row.D.Denot = c.run_serial-ran.result.book in
    let items = c.into_parts-history.result.history.items in
    let past : reverse c.into_parts-history.result.history.items ≡ b.core.past = rw (c.into_parts-history.ensures.history) (reverse-reverse b.core.past) in
    let within = replayed_within c.laws_hold.ensures (setting_of b.core) (reverse items) (subst (IsReplay (setting_of b.core)) (sym past) c.trouble.ensures.sound.run) in
    let slice : replayed_in c.as_slice.result.now ≡ replayed_in (reverse items) = (ap (λ (xs : List Entry). replayed_in xs) c.as_slice.ensures.value ∙ sym (replayed-reverse c.into_parts-history.result.history.items)) in
    let named : c.named-named.result ≡ named_count (setting_of b.core) = c.named-named.ensures in
    omega (arith, within, slice, named)

pub since_before-requires-clause-first : goal.since_before-requires-clause-first
since_before-requires-clause-first g c =
    let m : DiskMeaning g.row.D.Denot = meaning g.D.Disk in
    let ran = c.run_serial-ran in
    let found : ran.result.book.found ≡ c.args.run.book.pair = found_stays g.C.Clock.gave g.F.Caller.sends c.args.run.book ran.result.book (g.F.Caller.log c.args.caller.now) (g.F.Caller.log ran.new.caller) ran.result.end ran.ensures.called ran.ensures.stopped ∙ c.requires.begun.found in
    subst (λ (p : PairState g.row.D.Denot). IsOnlyRead m c.args.before.now.journal.value (first_disk p)) (sym found) c.requires.files.read.0

pub since_before-requires-clause-second : goal.since_before-requires-clause-second
since_before-requires-clause-second g c =
    let m : DiskMeaning g.row.D.Denot = meaning g.D.Disk in
    let ran = c.run_serial-ran in
    let found : ran.result.book.found ≡ c.args.run.book.pair = found_stays g.C.Clock.gave g.F.Caller.sends c.args.run.book ran.result.book (g.F.Caller.log c.args.caller.now) (g.F.Caller.log ran.new.caller) ran.result.end ran.ensures.called ran.ensures.stopped ∙ c.requires.begun.found in
    subst (λ (p : PairState g.row.D.Denot). IsOnlyRead m c.args.before.now.spare.value (second_disk p)) (sym found) c.requires.files.read.1

pub end_of-end-requires : goal.end_of-end-requires
end_of-end-requires g c =
    let ran = c.run_serial-ran in
    let b : BookState g.row.D.Denot = ran.result.book in
    record {
      reason = subst (λ (w : Option Trouble). IfOk ran.result.end (HasReason w c.into_parts-source.result.1)) (sym c.into_parts-history.ensures.trouble)
          (subst (λ (x : Option InputEnd). IfOk ran.result.end (HasReason b.trouble x)) (sym c.into_parts-source.ensures.end)
          (reason_of (meaning g.D.Disk) g.C.Clock.gave c.args.run.book ran.result.input b (g.F.Caller.log c.args.caller.now) (g.F.Caller.log ran.new.caller) ran.result.end c.trouble.ensures.cause ran.ensures.came ran.ensures.ended));
    }

pub run_serial-ran-requires-clause-fresh : goal.run_serial-ran-requires-clause-fresh
run_serial-ran-requires-clause-fresh g c κs within =
    let core = c.requires.begun.core in
    record {
      past = ap (λ (v : ReplayView). v.past) core;
      records = ap (λ (v : ReplayView). v.records) core;
      up = c.requires.begun.up;
    }

pub run_serial-ran-requires-clause-kind : goal.run_serial-ran-requires-clause-kind
run_serial-ran-requires-clause-kind g c κs within = ap (λ (i : InputState g.row.S.Denot). i.kind) c.requires.begun.input

pub run_serial-ran-requires-clause-good : goal.run_serial-ran-requires-clause-good
run_serial-ran-requires-clause-good g c κs within = ap (λ (i : InputState g.row.S.Denot). i.failed) c.requires.begun.input

pub run_serial-ran-requires-clause-name : goal.run_serial-ran-requires-clause-name
run_serial-ran-requires-clause-name g c κs within =
    c.as_str.ensures ∙ (c.requires.begun.name_is ∙ sym (ap (λ (v : ReplayView). v.opened.config.function) c.requires.begun.core))

pub run_serial-ran-requires-clause-unread : goal.run_serial-ran-requires-clause-unread
run_serial-ran-requires-clause-unread g c κs within = c.requires.begun.unread
