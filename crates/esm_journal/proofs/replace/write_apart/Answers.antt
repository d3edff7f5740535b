use Rattle.std.proofs.Common.{◌∙◌, length}
use Rattle.esm_journal.specs.Replace.{IsClosed}
use Rattle.esm_io.proofs.Leaving.{called}
use Rattle.esm_journal.proofs.Replaced.{torn_apart}
use Rattle.esm_journal.proofs.replace.write_apart.Goals as goal

pub returns-clause-closed : goal.returns-clause-closed
returns-clause-closed g c = λ h image now.
    let old = c.args.disk.now in
    let new = c.write_at.new.self in
    let since = g.met.D.Disk.counts_now new (g.D.Disk.moment old) image (c.write_at.ensures.honesty ∙ h) (c.write_at.ensures.time h).later now in
    let was = c.write_at.ensures.images h image since in
    torn_apart c.args.at (length c.args.from.now) was.0 image c.requires.apart (c.requires.closed h was.0 was.1) was.2

pub returns-clause-any_moment : goal.returns-clause-any_moment
returns-clause-any_moment g c = λ h.
    called g.D.Disk.moment g.D.Disk.image_since c.args.disk.now c.write_at.new.self IsClosed (c.write_at.ensures.time h)
    (λ image since. let was = c.write_at.ensures.images h image since in torn_apart c.args.at (length c.args.from.now) was.0 image c.requires.apart (c.requires.closed h was.0 was.1) was.2)
