-- What holds of the bytes of a file that were read ahead.
use Rattle.std.specs.Prelude.{◌≡◌, ℕ, true, List, length, take, drop}
use Rattle.esm_io.specs.Meanings.{DiskMeaning}
use Rattle.esm_journal.specs.declared.ahead.Ahead.{Ahead}

-- this file has these bytes from their place on
abbrev pub IsReadFrom : List ℕ → Ahead → Type 0
IsReadFrom content ahead = ahead.bytes ≡ take (length ahead.bytes) (drop ahead.start content)

-- an honest disk has them
abbrev pub IsAhead : {D : Type 0} → DiskMeaning D → D → Ahead → Type 0
IsAhead m disk ahead = m.honest disk ≡ true → IsReadFrom (m.content disk) ahead
