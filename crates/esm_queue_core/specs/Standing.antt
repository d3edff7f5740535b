-- How far a core can decide after an owed entry was added. Only this crate's proofs cite this.
use Rattle.std.specs.Prelude.{Bool, true, false, Option, Some, None}
use Rattle.esm_queue_core.specs.declared.owed.First.{First}
use Rattle.esm_queue_core.specs.declared.owed.Gift.{Gift}
use Rattle.esm_queue_core.specs.declared.standing.Standing.{Standing}
use Rattle.esm_queue_core.specs.declared.standing.Standing.TheVariants.{Whole, Paying, Left}

abbrev pub standing_paid : Standing → Bool → Standing
standing_paid Left more = Left
standing_paid Whole true = Paying
standing_paid Whole false = Whole
standing_paid Paying true = Paying
standing_paid Paying false = Whole

-- after what was owed is discarded
abbrev pub standing_left : Standing → Standing
standing_left Whole = Whole
standing_left Paying = Left
standing_left Left = Left

-- after the end of the input is noted: what is owed then is left
abbrev pub standing_shut : Standing → Option First → Option Gift → Standing
standing_shut st None None = st
standing_shut st (Some first) gift = Left
standing_shut st None (Some gift) = Left
