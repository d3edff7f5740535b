use Rattle.esm_io.specs.Meanings.{disk as meaning}
use Rattle.esm_runner.proofs.Openings.{not_called, refused_first}
use Rattle.esm_runner.proofs.files.open_files.Goals as goal

pub returns-in-Err-clause-refused : goal.returns-in-Err-clause-refused
returns-in-Err-clause-refused g c =
    let m = meaning g.D.Disk in
    let back = c.in-Err.refused.back in
    let lines = c.args.failures in
    refused_first m c.args.journal c.args.spare lines back.0 back.1 c.in-Err.refused.why
    (not_called m lines (λ honest image now. g.met.D.Disk.only_now lines image honest now)) c.in-Err.ensures.refused
