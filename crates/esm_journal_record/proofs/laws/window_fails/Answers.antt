use Rattle.std.proofs.Common.{refl}
use Rattle.esm_journal_record.specs.Payload.{eight, four, named_bytes}
use Rattle.esm_journal_record.proofs.laws.window_fails.Goals as goal

pub returns : goal.returns
unfolding eight four named_bytes
returns c = refl
