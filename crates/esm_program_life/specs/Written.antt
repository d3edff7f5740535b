-- What `compact` and `migrate` leave of the pair once they wrote it and ended. Each definition takes the disks first as they
-- were handed in, and then as they were handed back. This product's own.
use Rattle.std.specs.Prelude.{ℕ, List}
use Rattle.esm_cli.specs.declared.command.Command.{Command}
use Rattle.esm_cli.specs.declared.command.Command.TheVariants as command
use Rattle.esm_folder.specs.Upkeep.{HasCompacted, HasMigrated}
use Rattle.esm_io.specs.Meanings.{DiskMeaning}

-- the command wrote the pair: `compact` a list that says the same, `migrate` the payloads of a pair of version 1
abbrev pub HasWritten : {D : Type 0} → DiskMeaning D → Command → (journal spare journal' spare' : D) → Type 0
HasWritten m command.Compact journal spare journal' spare' = (before : ℕ) × (after : ℕ) × HasCompacted m journal spare journal' spare' before after
HasWritten m command.Migrate journal spare journal' spare' = (payloads : List (List ℕ)) × HasMigrated m journal spare journal' spare' payloads
HasWritten m _ journal spare journal' spare' = ⊥

-- a crash at its end may leave these bytes, such as what the disks read as, whatever one might have left of them before
pub record IsWrittenAtEnd {D : Type 0} (m : DiskMeaning D) (c : Command) (journal spare journal' spare' : D) (one other : List ℕ) : Type 0 where
  pub written : HasWritten m c journal spare journal' spare'
  pub journal_now : m.image journal' one
  pub spare_now : m.image spare' other
