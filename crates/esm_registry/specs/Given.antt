-- What is known of a change that was read, and of whether it was made. Only this crate's proofs cite this.
use Rattle.std.specs.Prelude.{◌≡◌, Bool, true, false, Option, Some, None}
use Rattle.esm_config.specs.Given.{IsGiven}
use Rattle.esm_registry.specs.Lists.{Mappings}
use Rattle.esm_registry.specs.declared.change.Change.{Change}
use Rattle.esm_registry.specs.declared.change.Change.TheVariants.{Created, Updated, Deleted}

-- its configuration, where it has one, is one that `esm_config` returns
abbrev pub HoldsGiven : Change → Type 0
HoldsGiven (Created id moment config) = IsGiven config
HoldsGiven (Updated id moment config) = IsGiven config
HoldsGiven (Deleted id moment) = Unit {0}

-- the change was made and these are the mappings after it; or it cannot be made
abbrev pub Makes : Bool → Option Mappings → Mappings → Type 0
Makes true after new = after ≡ Some new
Makes false after new = after ≡ None
