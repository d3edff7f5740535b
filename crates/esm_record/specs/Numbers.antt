-- What a reader of lines keeps of the sequence numbers. Only this crate's proofs cite this.
use Rattle.std.specs.Prelude.{ℕ, List, Option, option_map}
use Rattle.std.specs.Ordering.{nat_cmp}
use Rattle.std.specs.String.{string_bytes}
use Rattle.std.specs.BTreeMap as map
use Rattle.esm_record.specs.declared.numbers.Numbers.{Numbers}

-- the last sequence number of the shard
abbrev pub number_in : Numbers → ℕ → Option (List ℕ)
number_in n shard = option_map (λ text. string_bytes text) (map.get nat_cmp n.of_shards shard)
