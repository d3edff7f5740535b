-- The bytes that a reader of lines was fed, in blocks that only contracts see.
use Rattle.std.specs.Prelude.{ℕ, List}
use Rattle.std.specs.List.{flat_map}
use Rattle.std.specs.declared.snapshot.Snapshot.{Snapshot}

abbrev pub in_blocks : List (Snapshot (List ℕ)) → List ℕ
in_blocks blocks = flat_map (λ block. block.value) blocks
