use Rattle.std.proofs.Common.{◌≡◌, arith, vec_len}
use Rattle.esm_ddb.proofs.input.room.Goals as goal

pub returns : goal.returns
returns c = let size : vec_len c.in_ok-buffer.buffer ≡ 1048576 = c.in_ok-buffer.ensures.len in omega (arith, size)
