use Rattle.std.proofs.lemmas.Str.{is_utf8-from_IsUtf8}
use Rattle.esm_record.proofs.stream.fields_of.Goals as goal

pub invariant_of-result : goal.invariant_of-result
invariant_of-result c = record { number = c.in_ok-seq.ensures.spelled; utf8 = is_utf8-from_IsUtf8 c.in_ok-key.key.now c.in_ok-key.ensures.utf8 }
