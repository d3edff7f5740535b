-- What is read of the first bytes of a file.
use Rattle.std.specs.Prelude.{◌≡◌, ◌<◌, ◌^◌, List, ℕ, length, slice_index}
use Rattle.std.specs.Int.{w64, to_be_bytes}
use Rattle.esm_journal.specs.File.{eight_at, epoch_in}
use Rattle.esm_journal.specs.declared.head.Head.{Head}

-- this was read of the first bytes of the file, with 0 for each byte that is missing
pub record IsHead (bytes : List ℕ) (head : Head) : Type 0 where
  pub size : head.size ≡ length bytes
  pub first : head.first ≡ eight_at bytes 0
  pub epoch : head.epoch ≡ epoch_in bytes
  pub fits : head.epoch < 2 ^ 64
  pub written : to_be_bytes w64 head.epoch ≡ eight_at bytes 8
  pub seal : head.seal ≡ slice_index bytes 16
