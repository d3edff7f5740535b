-- How far more can be decided after an entry was added. This product's own.
use Rattle.std.specs.Prelude.{Bool, true, false}
use Rattle.esm_stream_core.specs.declared.standing.Standing.{Standing}
use Rattle.esm_stream_core.specs.declared.standing.Standing.TheVariants.{Whole, Paying, Left}

-- an owed entry was added, and more are owed or not
abbrev pub standing_paid : Standing → Bool → Standing
standing_paid Left more = Left
standing_paid Whole true = Paying
standing_paid Whole false = Whole
standing_paid Paying true = Paying
standing_paid Paying false = Whole

-- what was owed is discarded
abbrev pub standing_forgotten : Standing → Standing
standing_forgotten Whole = Whole
standing_forgotten Paying = Left
standing_forgotten Left = Left

-- the input ended, when nothing was owed or when something was
abbrev pub standing_shut : Standing → Bool → Standing
standing_shut Whole true = Whole
standing_shut Whole false = Left
standing_shut Paying none = Left
standing_shut Left none = Left

-- what is owed can be added
abbrev pub can_pay : Standing → Bool
can_pay Whole = true
can_pay Paying = true
can_pay Left = false

-- more can be decided, once nothing is owed
abbrev pub is_whole : Standing → Bool
is_whole Whole = true
is_whole Paying = false
is_whole Left = false
