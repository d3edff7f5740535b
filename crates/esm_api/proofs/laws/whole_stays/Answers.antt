use Rattle.esm_api.proofs.RequestLemmas.{whole_stays}
use Rattle.esm_api.proofs.laws.whole_stays.Goals as goal

pub returns : goal.returns
returns c = λ bytes more judgement judged whole. whole_stays bytes more judgement judged whole
