-- The judgement of a whole request, as the definitions have it. Only this crate's proofs cite this.
use Rattle.esm_registry.specs.Machine.{asked}
use Rattle.esm_api.specs.declared.judge.Judged.{Judged}
use Rattle.esm_api.specs.declared.judge.Judged.TheVariants as judged
use Rattle.esm_api.specs.Request.{Judgement, Refused, Asks}

abbrev pub judgement_of : Judged → Judgement
judgement_of (judged.Refused row) = Refused row
judgement_of (judged.Asks command) = Asks (asked command)
