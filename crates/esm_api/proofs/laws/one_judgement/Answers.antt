use Rattle.esm_api.proofs.RequestLemmas.{one_judgement}
use Rattle.esm_api.proofs.laws.one_judgement.Goals as goal

pub returns : goal.returns
returns c = λ bytes one other first second. one_judgement bytes one other first second
