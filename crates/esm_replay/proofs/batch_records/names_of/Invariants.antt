use Rattle.std.proofs.Common.{◌≡◌, take}
use Rattle.std.specs.Prelude.{map}
use Rattle.esm_model.specs.Records.{Record}
use Rattle.esm_replay.proofs.batch_records.names_of.Given as goal

abbrev pub invariant-loop-item : goal.invariant-loop-item
invariant-loop-item l = l.names ≡ map (λ (r : Record). r.seq) (take l.item-index l.records)
