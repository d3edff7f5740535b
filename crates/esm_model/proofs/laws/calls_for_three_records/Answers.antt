use Rattle.std.proofs.Common.{refl}
use Rattle.esm_model.proofs.laws.calls_for_three_records.Goals as goal

pub returns : goal.returns
returns c = λ s retries none. rw (retries, none) refl
