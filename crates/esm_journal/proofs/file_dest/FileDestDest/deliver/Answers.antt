use Rattle.std.proofs.Common.{◌≡◌, false, sym, subst, ◌∙◌}
use Rattle.esm_io.specs.Meanings.{disk}
use Rattle.esm_journal.specs.State.{JournalState}
use Rattle.esm_journal.proofs.Destinations.{line_leaves, line_kept, on_ok, on_err}
use Rattle.esm_journal.proofs.file_dest.FileDestDest.deliver.Goals.{in-Ok, in-Err-OutOfMemory, in-Err-DiskFault}
use Rattle.esm_journal.proofs.file_dest.FileDestDest.deliver.Goals as goal

pub returns-clause-any_moment : goal.returns-clause-any_moment
returns-clause-any_moment g c =
    rw (← c.self.view_is) (λ honest _ held is.
    line_leaves (disk g.D.Disk) c.self.inside.journal c.append.new.self held c.args.line.now is (c.append.ensures.any_moment honest (subst (λ (j : JournalState g.row.D.Denot). j.down ≡ false) (sym c.self.view_is) c.requires.usable)))

pub returns-clause-durable : goal.returns-clause-durable
returns-clause-durable g c =
    rw (← c.self.view_is) (λ honest held is.
    elim c.match-append.branch [
      | in-Ok w ↦
          on_ok c.match-append.result
          (line_kept (disk g.D.Disk) c.self.inside.journal c.append.new.self held c.args.line.now is w.in-Ok.ensures.told.added
          (w.in-Ok.ensures.kept (w.in-Ok.ensures.told.honesty ∙ honest) w.in-Ok.ensures.told.up)
          (λ left now. g.met.D.Disk.only_now c.append.new.self.disk left (w.in-Ok.ensures.told.honesty ∙ honest) now))
      | in-Err-OutOfMemory w ↦ on_err c.match-append.result _ w.result-is
      | in-Err-DiskFault w ↦ on_err c.match-append.result _ w.result-is
    ])
