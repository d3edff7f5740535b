-- Whether a limit of time has begun: the reading of the steady clock then, none before. This product's own.
use Rattle.std.specs.Prelude.{◌≡◌, Option, Some, None, IsSome}
use Rattle.std.specs.declared.time.Duration.{Duration}
use Rattle.esm_host.specs.Forms.{TimeLimit}

-- a limit that has begun continues, and does not begin again
abbrev pub GoesOn : Option Duration → Option Duration → Type 0
GoesOn before now = IsSome before → now ≡ before

-- a limit of its own keeps its length, and continues once it has begun
abbrev pub HasBegunOnce : Option TimeLimit → Option TimeLimit → Type 0
HasBegunOnce None now = now ≡ None
HasBegunOnce (Some before) None = ⊥
HasBegunOnce (Some before) (Some now) = (now.limit ≡ before.limit) × GoesOn before.begun now.begun
