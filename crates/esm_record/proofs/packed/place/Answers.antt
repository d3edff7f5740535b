use Rattle.std.proofs.Common.{refl}
use Rattle.esm_record.proofs.Packs.{placed_behind}
use Rattle.esm_record.proofs.packed.place.Goals as goal

pub returns-clause-placed : goal.returns-clause-placed
returns-clause-placed c = placed_behind _ _ _ _ c.args.fields.now c.in_ok-key.ensures.text c.in_ok-payload.ensures.text c.in_ok-seq.ensures.part c.in_ok-key.ensures.part c.in_ok-payload.ensures.part refl
