use Rattle.std.proofs.Common.{◌≡◌, ◌∙◌, List, ap, refl, subst, sym}
use Rattle.std.specs.Prelude.{IfOk, OnErr, reverse}
use Rattle.std.proofs.lemmas.Result.{IfOk-weaker, on_err_weaker}
use Rattle.esm_io.specs.Meanings.{DiskMeaning, disk as meaning}
use Rattle.esm_journal.specs.Pair.{first_disk, second_disk}
use Rattle.esm_journal.specs.State.{JournalState}
use Rattle.esm_model.specs.declared.entry.Entry.{Entry}
use Rattle.esm_runner.specs.Files.{FilesState, IsOpenedFiles}
use Rattle.esm_workers.specs.Working.{outside}
use Rattle.esm_redrive_run.specs.Headline.{Disks, Words}
use Rattle.esm_redrive_run.specs.Ended.{Telling, telling, HasEnded, HasNotBegun, HasRun, HasStopped, HasStoppedRun}
use Rattle.esm_redrive_run.specs.Runs.{IsRefusal, files_of, words_of}
use Rattle.esm_redrive_run.proofs.Begins.{as_ended, as_stopped, begun_again, files_are, not_run, unwritten, words_are}
use Rattle.esm_redrive_run.proofs.redrive_run.run_redrive.Goals as goal

pub run_opened-requires-clause-begun : goal.run_opened-requires-clause-begun
run_opened-requires-clause-begun g c κs within =
    let parts = c.into_parts-pair in
    let run = c.in-Ok.run' in
    let w : Words = record { config = c.args.config; calls = c.args.calls; visibility = c.args.visibility_ms; max_receives = c.args.max_receives } in
    begun_again w parts.result.said parts.result.pair c.into_journal.result c.args.input run.book.redrive run.input run.name c.in-Ok.ensures.begun

pub run_opened-requires-clause-files : goal.run_opened-requires-clause-files
run_opened-requires-clause-files g c κs within =
    let m : DiskMeaning g.row.D.Denot = meaning g.D.Disk in
    let f : FilesState g.row.D.Denot = c.args.files in
    let parts = c.into_parts-pair in
    let run = c.in-Ok.run' in
    let begun = c.in-Ok.ensures.begun in
    let files = files_are parts.result.journal.value parts.result.spare.value parts.result.failures.value parts.result.said run.book.redrive f
    parts.ensures.before.0 parts.ensures.before.1 parts.ensures.before.2 (begun.pair_is ∙ parts.ensures.pair) parts.ensures.said (begun.dest_is ∙ (c.into_journal.ensures ∙ parts.ensures.dest)) in
    subst (IsOpenedFiles m) (sym files) parts.ensures.opened

pub returns : goal.returns
returns g c =
    let m : DiskMeaning g.row.D.Denot = meaning g.D.Disk in
    let t : Telling g.row.D.Denot g.row.F.Denot = telling (outside g.C.Clock.gave g.F.Caller.sends g.F.Caller.log) m in
    let f : FilesState g.row.D.Denot = c.args.files in
    let parts = c.into_parts-pair in
    let out = c.closed.result in
    let w : Words = record { config = c.args.config; calls = c.args.calls; visibility = c.args.visibility_ms; max_receives = c.args.max_receives } in
    let new : Disks g.row.D.Denot = record { journal = out.journal; spare = out.spare; dead = out.dead } in
    let refused = c.in-Err.refused in
    let back = c.in-Err.ensures.back in
    let pair : refused.pair ≡ f.pair = back.0 ∙ parts.ensures.pair in
    let dead : refused.dead ≡ f.dest = back.1 ∙ (c.into_journal.ensures ∙ parts.ensures.dest) in
    let none : HasNotBegun t f c.args.input out.input out.reading.value c.args.caller.now c.args.caller.now (reverse out.trace.items) new = record {
      input = c.closed.ensures.input ∙ back.2;
      unread = c.closed.ensures.reading ∙ c.of-read_to.ensures;
      caller = refl;
      no_trace = rw (c.closed.ensures.trace, c.new.ensures.items) refl;
      unwritten = unwritten m f out.journal out.spare out.dead parts.ensures.opened (c.closed.ensures.journal ∙ ap first_disk pair) (c.closed.ensures.spare ∙ ap second_disk pair)
          (c.closed.ensures.dead ∙ ap (λ (d : JournalState g.row.D.Denot). d.disk) dead);
    } in
    let lines : IsRefusal w f.dest.payloads refused.why =
    subst (λ (d : JournalState g.row.D.Denot). IsRefusal w d.payloads refused.why) (c.into_journal.ensures ∙ parts.ensures.dest) c.in-Err.ensures.refused in
    let both = not_run t g.S.Source.faults g.S.Source.left w f c.args.input out.input out.reading.value c.args.caller.now c.args.caller.now (reverse out.trace.items) new refused.why lines none in
    record {
      ended = subst (λ r. IfOk r (HasEnded t g.S.Source.faults g.S.Source.left w f c.args.input out.input out.reading.value c.args.caller.now c.args.caller.now (reverse out.trace.items) new)) (sym c.closed.ensures.end) both.0;
      stopped = subst (λ r. OnErr r (HasStoppedRun t g.S.Source.faults g.S.Source.left w f c.args.input out.input out.reading.value c.args.caller.now c.args.caller.now (reverse out.trace.items) new)) (sym c.closed.ensures.end) both.1;
      said = c.closed.ensures.said ∙ parts.ensures.said;
    }

pub returns-in-Ok : goal.returns-in-Ok
returns-in-Ok g c =
    let m : DiskMeaning g.row.D.Denot = meaning g.D.Disk in
    let t : Telling g.row.D.Denot g.row.F.Denot = telling (outside g.C.Clock.gave g.F.Caller.sends g.F.Caller.log) m in
    let f : FilesState g.row.D.Denot = c.args.files in
    let parts = c.into_parts-pair in
    let run = c.in-Ok.run' in
    let out = c.run_opened.result in
    let old : g.row.F.Denot = c.args.caller.now in
    let caller : g.row.F.Denot = c.run_opened.new.caller in
    let w : Words = record { config = c.args.config; calls = c.args.calls; visibility = c.args.visibility_ms; max_receives = c.args.max_receives } in
    let new : Disks g.row.D.Denot = record { journal = out.journal; spare = out.spare; dead = out.dead } in
    let begun = c.in-Ok.ensures.begun in
    let files : files_of parts.result.journal.value parts.result.spare.value parts.result.failures.value parts.result.said run.book.redrive ≡ f =
    files_are parts.result.journal.value parts.result.spare.value parts.result.failures.value parts.result.said run.book.redrive f
    parts.ensures.before.0 parts.ensures.before.1 parts.ensures.before.2 (begun.pair_is ∙ parts.ensures.pair) parts.ensures.said (begun.dest_is ∙ (c.into_journal.ensures ∙ parts.ensures.dest)) in
    let words : words_of run.book.redrive ≡ w = words_are w parts.result.said parts.result.pair c.into_journal.result c.args.input run.book.redrive run.input run.name begun in
    let source : run.input.source ≡ c.args.input = ap (λ i. i.source) begun.input in
    let h : List Entry = reverse out.trace.items in
    let faults = g.S.Source.faults in
    let left = g.S.Source.left in
    record {
      ended = IfOk-weaker out.end (HasRun t faults left (words_of run.book.redrive) (files_of parts.result.journal.value parts.result.spare.value parts.result.failures.value parts.result.said run.book.redrive) run.input.source out.input out.reading.value old caller h new)
          (HasEnded t faults left w f c.args.input out.input out.reading.value old caller h new)
          (λ e has. as_ended t faults left w f c.args.input out.input out.reading.value old caller h new e
          (subst (λ (v : Words). HasRun t faults left v f c.args.input out.input out.reading.value old caller h new e) words
          (subst (λ (x : FilesState g.row.D.Denot). HasRun t faults left (words_of run.book.redrive) x c.args.input out.input out.reading.value old caller h new e) files
          (subst (λ (s : g.row.S.Denot). HasRun t faults left (words_of run.book.redrive) (files_of parts.result.journal.value parts.result.spare.value parts.result.failures.value parts.result.said run.book.redrive) s out.input out.reading.value old caller h new e) source has))))
          c.run_opened.ensures.ended;
      stopped = on_err_weaker out.end
          (λ has. as_stopped t faults left w f c.args.input out.input out.reading.value old caller h new
          (subst (λ (v : Words). HasStopped t faults left v f c.args.input out.input out.reading.value old caller h new) words
          (subst (λ (x : FilesState g.row.D.Denot). HasStopped t faults left (words_of run.book.redrive) x c.args.input out.input out.reading.value old caller h new) files
          (subst (λ (s : g.row.S.Denot). HasStopped t faults left (words_of run.book.redrive) (files_of parts.result.journal.value parts.result.spare.value parts.result.failures.value parts.result.said run.book.redrive) s out.input out.reading.value old caller h new) source has))))
          c.run_opened.ensures.stopped;
      said = c.run_opened.ensures.said ∙ parts.ensures.said;
    }
