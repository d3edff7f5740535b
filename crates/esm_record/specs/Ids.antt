-- The ids that a reader of lines has seen, in an ordered set. Only this crate's proofs cite this.
use Rattle.std.specs.Prelude.{ℕ, ◌+◌, ◌*◌, ◌%◌, ◌^◌, Bool, List, take, fold}
use Rattle.std.specs.declared.cmp.Ordering.{Ordering}
use Rattle.std.specs.Ordering.{nat_cmp, ordering_then}
use Rattle.std.specs.Cmp.Lexicographic.{slice_cmp}
use Rattle.std.specs.String.{string_bytes}
use Rattle.std.specs.declared.string.String.{String}
use Rattle.std.specs.Global.{Global}
use Rattle.std.specs.BTreeSet.{BTreeSet, contains_by}

-- an id's first eight bytes as a number: it orders most ids, so their texts are rarely compared
abbrev pub next_byte : ℕ → ℕ → ℕ
next_byte n b = (n * 256 % 2 ^ 64 + b) % 2 ^ 64

abbrev pub front_of : List ℕ → ℕ
front_of id = fold next_byte 0 (take 8 id)

abbrev pub Ids : Type 0
Ids = BTreeSet (ℕ × String Global)

abbrev pub id_cmp : List ℕ → ℕ × String Global → Ordering
id_cmp id key = ordering_then (nat_cmp (front_of id) key.0) (slice_cmp nat_cmp id (string_bytes key.1))

-- the id was seen before
abbrev pub stood_in : Ids → List ℕ → Bool
stood_in ids id = contains_by (id_cmp id) ids
