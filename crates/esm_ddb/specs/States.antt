-- The code's splitter, as the definitions have its state. Only this crate's proofs cite this.
use Rattle.esm_ddb.specs.Translating.{State}
use Rattle.esm_ddb.specs.declared.splitter.Splitter.{Splitter}

abbrev pub state_of : Splitter → State
state_of r = record { source = r.source; good = r.good; begun = r.begun.items; bad = r.bad }
