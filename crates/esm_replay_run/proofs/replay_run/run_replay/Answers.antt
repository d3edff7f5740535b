use Rattle.std.proofs.Common.{◌≡◌, ◌∙◌, ℕ, List, ap, refl, subst, sym}
use Rattle.std.specs.Prelude.{IfOk, OnErr, reverse}
use Rattle.esm_io.specs.Meanings.{DiskMeaning, disk as meaning}
use Rattle.esm_journal.specs.Pair.{first_disk, second_disk}
use Rattle.esm_journal.specs.State.{JournalState}
use Rattle.esm_workers.specs.Working.{outside}
use Rattle.esm_runner.specs.Files.{FilesState}
use Rattle.esm_replay_run.specs.Headline.{Disks}
use Rattle.esm_replay_run.specs.Ended.{Telling, telling, HasNotBegun, HasEnded, HasStoppedRun}
use Rattle.esm_replay_run.specs.Runs.{IsRefusal}
use Rattle.esm_replay_run.proofs.Begun.{refused, stopped_before, closed_unread}
use Rattle.esm_replay_run.proofs.replay_run.run_replay.Goals as goal

pub returns : goal.returns
returns g c =
    let m : DiskMeaning g.row.D.Denot = meaning g.D.Disk in
    let t : Telling g.row.D.Denot g.row.F.Denot = telling (outside g.C.Clock.gave g.F.Caller.sends g.F.Caller.log) m in
    let f : FilesState g.row.D.Denot = c.args.files in
    let out = c.closed.result in
    let new : Disks g.row.D.Denot = record { journal = out.journal; spare = out.spare; failures = out.failures } in
    let pair : c.in-Err.refused.pair ≡ f.pair = c.in-Err.ensures.back.0 ∙ c.into_parts-pair.ensures.pair in
    let dest : c.into_journal-lines.result ≡ f.dest = c.into_journal-lines.ensures ∙ c.into_parts-pair.ensures.dest in
    let none : HasNotBegun t f c.args.input out.input out.reading.value c.args.caller.now c.args.caller.now (reverse out.trace.items) new = record {
      input = c.closed.ensures.input ∙ c.in-Err.ensures.back.1;
      unread = c.closed.ensures.reading ∙ c.of-read_to.ensures;
      caller = refl;
      no_trace = rw (c.closed.ensures.trace, c.new.ensures.items) refl;
      unwritten = closed_unread m f new c.into_parts-pair.ensures.opened (c.closed.ensures.journal ∙ ap first_disk pair) (c.closed.ensures.spare ∙ ap second_disk pair)
          (c.closed.ensures.failures ∙ ap (λ (d : JournalState g.row.D.Denot). d.disk) dest);
    } in
    let why : IfOk c.in-Err.refused.why (IsRefusal f.dest.payloads) = subst (λ (lines : List (List ℕ)). IfOk c.in-Err.refused.why (IsRefusal lines)) (c.payloads.ensures.payloads ∙ ap (λ (d : JournalState g.row.D.Denot). d.payloads) dest) c.in-Err.ensures.why in
    let P = HasEnded t g.S.Source.faults g.S.Source.left c.args.config c.args.calls f c.args.input out.input out.reading.value c.args.caller.now c.args.caller.now (reverse out.trace.items) out.counts new in
    let Q = HasStoppedRun t g.S.Source.faults g.S.Source.left c.args.config c.args.calls f c.args.input out.input out.reading.value c.args.caller.now c.args.caller.now (reverse out.trace.items) out.counts new in
    record {
      ended = subst (λ r. IfOk r P) (sym c.closed.ensures.end)
          (refused t g.S.Source.faults g.S.Source.left c.args.config c.args.calls f c.args.input out.input out.reading.value c.args.caller.now c.args.caller.now (reverse out.trace.items) out.counts new c.in-Err.refused.why none why);
      stopped = subst (λ r. OnErr r Q) (sym c.closed.ensures.end)
          (stopped_before t g.S.Source.faults g.S.Source.left c.args.config c.args.calls f c.args.input out.input out.reading.value c.args.caller.now c.args.caller.now (reverse out.trace.items) out.counts new c.in-Err.refused.why none);
      said = c.closed.ensures.said ∙ c.in-Err.ensures.back.2 ∙ c.into_parts-pair.ensures.said;
    }
