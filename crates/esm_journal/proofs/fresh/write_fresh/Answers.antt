use Rattle.std.proofs.Common.{ap, ◌∙◌, ◌∷◌, [], inr}
use Rattle.esm_io.specs.Images.{overwritten, Torn}
use Rattle.esm_io.proofs.Leaving.{goes_on}
use Rattle.esm_journal.specs.Fresh.{WasOrHoldsNone}
use Rattle.esm_journal.proofs.FreshFiles.{sealed, torn_fresh}
use Rattle.esm_journal.proofs.fresh.write_fresh.Goals as goal

pub returns-clause-made : goal.returns-clause-made
returns-clause-made g c = λ h.
    c.in_ok-write_through.ensures.written (c.write_blank.ensures.honesty ∙ h) ∙ ap (λ l. overwritten l 16 (1 ∷ [])) (c.in_ok-write_blank.ensures.made h) ∙ sealed c.args.header c.requires

pub returns-clause-any_moment : goal.returns-clause-any_moment
returns-clause-any_moment g c = λ h.
    let P = WasOrHoldsNone (g.D.Disk.image c.args.disk.now) in
    let made = g.D.Disk.content c.write_blank.new.disk in
    goes_on g.D.Disk.moment g.D.Disk.image_since c.args.disk.now c.write_blank.new.disk c.write_through.new.disk P (Torn 16 1 made) P
    (c.write_blank.ensures.any_moment h) (c.write_through.ensures.any_moment (c.write_blank.ensures.honesty ∙ h))
    (λ image p. p) (λ image torn. inr (torn_fresh c.args.header made image c.requires (c.in_ok-write_blank.ensures.made h) torn))

pub returns-in_err-write_through-clause-any_moment : goal.returns-in_err-write_through-clause-any_moment
returns-in_err-write_through-clause-any_moment g c = λ h.
    let P = WasOrHoldsNone (g.D.Disk.image c.args.disk.now) in
    let made = g.D.Disk.content c.write_blank.new.disk in
    goes_on g.D.Disk.moment g.D.Disk.image_since c.args.disk.now c.write_blank.new.disk c.write_through.new.disk P (Torn 16 1 made) P
    (c.write_blank.ensures.any_moment h) (c.write_through.ensures.any_moment (c.write_blank.ensures.honesty ∙ h))
    (λ image p. p) (λ image torn. inr (torn_fresh c.args.header made image c.requires (c.in_ok-write_blank.ensures.made h) torn))
