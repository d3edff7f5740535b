use Rattle.std.proofs.Common.{◌≡◌, ◌∙◌, [], List, ap, refl, subst, sym}
use Rattle.std.specs.Prelude.{reverse}
use Rattle.esm_io.specs.Meanings.{DiskMeaning, disk as meaning}
use Rattle.esm_journal.specs.Pair.{PairState, first_disk, second_disk}
use Rattle.esm_journal.specs.State.{JournalState}
use Rattle.esm_model.specs.declared.entry.Entry.{Entry}
use Rattle.esm_model.specs.Entries.{CallsFollowShut}
use Rattle.esm_workers.specs.Working.{outside}
use Rattle.esm_runner.specs.Files.{FilesState}
use Rattle.esm_runner.specs.Headline.{Devices, Telling, telling}
use Rattle.esm_runner.proofs.Unbegun.{on_any_err}
use Rattle.esm_runner.specs.QueueEnded.{HasStoppedRun}
use Rattle.esm_runner.specs.QueueLaws.{AreLaws}
use Rattle.esm_runner.proofs.QueueUnbegun.{not_begun}
use Rattle.esm_runner.proofs.queue_run.run_queue.Goals as goal

pub returns-clause-stopped : goal.returns-clause-stopped
returns-clause-stopped g c =
    let m : DiskMeaning g.row.D.Denot = meaning g.D.Disk in
    let t : Telling g.row.D.Denot g.row.F.Denot = telling (outside g.C.Clock.gave g.F.Caller.sends g.F.Caller.log) m (λ line. line) in
    let f : FilesState g.row.D.Denot = c.args.files in
    let out = c.closed.result in
    let new : Devices g.row.D.Denot g.row.F.Denot = record { journal = out.journal; spare = out.spare; failures = out.failures; callers = out.callers.items } in
    let laws : AreLaws = c.laws_hold.ensures in
    let back : c.in-Err.refused.back ≡ (c.into_parts-pair.result.pair, c.args.input) = c.in-Err.ensures.back in
    let pair : c.in-Err.refused.back.0 ≡ f.pair = ap (λ (x : PairState g.row.D.Denot × g.row.S.Denot). x.0) back ∙ c.into_parts-pair.ensures.pair in
    let input : out.input ≡ c.args.input = c.closed.ensures.input ∙ ap (λ (x : PairState g.row.D.Denot × g.row.S.Denot). x.1) back in
    let none : reverse out.trace.items ≡ [] = rw (c.closed.ensures.trace, c.new.ensures.items) refl in
    let all : HasStoppedRun t g.S.Source.left c.args.config c.args.calls c.args.visibility_ms f c.args.input c.args.input c.args.callers.items [] new =
    not_begun t g.S.Source.left c.args.config c.args.calls c.args.visibility_ms f c.args.input c.args.callers.items new (record {}) laws c.disks_count_now.ensures.only_now c.into_parts-pair.ensures.opened
    (c.closed.ensures.journal ∙ ap first_disk pair) (c.closed.ensures.spare ∙ ap second_disk pair)
    (c.closed.ensures.failures ∙ ap (λ (d : JournalState g.row.D.Denot). d.disk) c.into_parts-pair.ensures.dest) (rw c.closed.ensures.callers refl) in
    on_any_err out.end
    (subst (λ (x : g.row.S.Denot). HasStoppedRun t g.S.Source.left c.args.config c.args.calls c.args.visibility_ms f c.args.input x c.args.callers.items (reverse out.trace.items) new) (sym input)
    (subst (λ (h : List Entry). HasStoppedRun t g.S.Source.left c.args.config c.args.calls c.args.visibility_ms f c.args.input c.args.input c.args.callers.items h new) (sym none) all))

pub returns-clause-read_first : goal.returns-clause-read_first
returns-clause-read_first g c =
    let none : reverse c.closed.result.trace.items ≡ [] = rw (c.closed.ensures.trace, c.new.ensures.items) refl in
    λ first. subst CallsFollowShut (sym none) tt
