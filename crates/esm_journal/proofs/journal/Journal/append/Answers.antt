use Rattle.std.proofs.Common.{◌∙◌, subst}
use Rattle.esm_io.specs.Meanings.{disk}
use Rattle.esm_journal.specs.File.{header_of}
use Rattle.esm_journal.specs.State.{OpensToEither}
use Rattle.esm_io.proofs.Leaving.{weaker}
use Rattle.esm_journal.proofs.States.{keeps, opens_to_either, still_opens}
use Rattle.esm_journal.proofs.journal.Journal.append.Goals as goal

pub returns-clause-told : goal.returns-clause-told
returns-clause-told g c = rw (← c.self.view_is) c.append.ensures.told

pub returns-clause-kept : goal.returns-clause-kept
returns-clause-kept g c =
    keeps (disk g.D.Disk) (header_of 1) c.append.new.self (c.append.ensures.header ∙ c.self.invariant.1) c.append.ensures.log

pub returns-clause-any_moment : goal.returns-clause-any_moment
returns-clause-any_moment g c =
    rw (← c.self.view_is) (λ h up.
    let log = c.self.inside.log in
    weaker g.D.Disk.moment g.D.Disk.image_since log.disk c.append.new.self.disk _ _ (c.append.ensures.any_moment h up)
    (λ image either. subst (λ l. OpensToEither l log.payloads.items c.args.payload.now image) c.self.invariant.1
    (opens_to_either log.header log.epoch log.payloads.items c.args.payload.now image c.self.invariant.0.header either)))

pub returns-clause-stopped : goal.returns-clause-stopped
returns-clause-stopped g c =
    still_opens (disk g.D.Disk) (header_of 1) c.append.new.self (c.append.ensures.header ∙ c.self.invariant.1) c.append.ensures.log
