use Rattle.std.proofs.lemmas.Str.{IsUtf8-from_is_utf8}
use Rattle.esm_record.proofs.object.Leaf.bytes.Goals as goal

pub returns-in-Plain-clause-utf8 : goal.returns-in-Plain-clause-utf8
returns-in-Plain-clause-utf8 c = IsUtf8-from_is_utf8 c.in-Plain.plain.bytes.now c.in-Plain.plain.utf8
