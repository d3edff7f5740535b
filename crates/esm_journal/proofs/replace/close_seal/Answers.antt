use Rattle.std.proofs.Common.{◌∙◌, ap, drop}
use Rattle.esm_journal.specs.Pair.{IsSpare}
use Rattle.esm_io.proofs.Leaving.{weaker}
use Rattle.esm_journal.proofs.Adds.{on_ok_more}
use Rattle.esm_journal.proofs.Replaced.{torn_seal, is_open, behind_seal}
use Rattle.esm_journal.proofs.replace.close_seal.Goals as goal

pub returns-clause-any_moment : goal.returns-clause-any_moment
returns-clause-any_moment g c = λ h kept lower spare.
    let old = g.D.Disk.content c.args.disk.now in
    weaker g.D.Disk.moment g.D.Disk.image_since c.args.disk.now c.write_through.new.disk _ (IsSpare kept lower) (c.write_through.ensures.any_moment h)
    (λ image torn. torn_seal kept lower old image spare (is_open _ _ c.if-not-sealed.false (c.requires.seal h)) torn)

pub returns-clause-behind : goal.returns-clause-behind
returns-clause-behind g c = λ h.
    on_ok_more c.write_through.result (c.write_through.ensures.written h) (λ is. ap (drop 17) is ∙ behind_seal (g.D.Disk.content c.args.disk.now) (c.requires.long h))
