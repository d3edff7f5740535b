use Rattle.std.proofs.Common.{◌∙◌, sym, ap}
use Rattle.esm_io.specs.Meanings.{disk}
use Rattle.esm_journal.proofs.Stops.{is_pair_added}
use Rattle.esm_journal.proofs.pair.Pair.reserve.Goals as goal

pub invariant_of-self : goal.invariant_of-self
invariant_of-self g c = (
  c.reserve.ensures.log,
  is_pair_added (disk g.D.Disk) c.self.inside.log c.self.inside.spare c.self.inside.spare_sealed c.self.invariant.0 c.self.invariant.1
      c.reserve.new.self c.reserve.ensures.log c.reserve.ensures.header c.reserve.ensures.epoch (ap g.D.Disk.honest c.reserve.ensures.disk)
      (λ up. sym c.reserve.ensures.down ∙ up) (λ _. (c.reserve.ensures.disk, c.reserve.ensures.payloads)),
)
