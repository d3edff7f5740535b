use Rattle.esm_io.specs.Meanings.{disk as meaning}
use Rattle.esm_mapping.proofs.Ids.{only_read_same}
use Rattle.esm_mapping.proofs.reading.read_mapping.Goals as goal

pub returns-in-Config-clause-only_read : goal.returns-in-Config-clause-only_read
returns-in-Config-clause-only_read g c =
    let m = meaning g.D.Disk in
    only_read_same m c.args.registry (λ bytes. g.met.D.Disk.only_now c.args.registry bytes)
