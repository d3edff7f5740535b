use Rattle.std.proofs.lemmas.Str.{IsUtf8-from_is_utf8}
use Rattle.esm_record.proofs.object.Leaf.text.Goals as goal

pub unreachable-requires : goal.unreachable-requires
unreachable-requires c = c.in-Err.ensures.cases.0 (IsUtf8-from_is_utf8 c.in-Plain.plain.bytes.now c.in-Plain.plain.utf8)
