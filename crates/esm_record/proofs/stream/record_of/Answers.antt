use Rattle.std.proofs.lemmas.Str.{IsUtf8-from_is_utf8}
use Rattle.esm_record.proofs.stream.record_of.Goals as goal

pub unreachable-requires : goal.unreachable-requires
unreachable-requires c = c.in-Err.ensures.cases.0 (IsUtf8-from_is_utf8 c.args.fields.now.key.now c.args.fields.now.utf8)
