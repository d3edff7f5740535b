use Rattle.std.proofs.Common.{arith}
use Rattle.esm_api.proofs.TalkLemmas.{read_behind_if}
use Rattle.esm_api.proofs.receive.read_behind.Goals as goal

pub returns-clause-read : goal.returns-clause-read
returns-clause-read g c =
    read_behind_if _ _ c.args.bytes.now _ c.read.new.into c.args.filled (omega (arith, c.requires)) c.split_at_mut-rest.ensures.front c.split_at_mut-rest.ensures.front_len
    c.read.result c.read.ensures.taken
