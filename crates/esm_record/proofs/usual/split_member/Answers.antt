use Rattle.std.proofs.Common.{take, sym, ◌∙◌}
use Rattle.std.proofs.lemmas.Str.{is_utf8-from_IsUtf8}
use Rattle.esm_record.proofs.PlainTexts.{plain_utf8}
use Rattle.esm_record.proofs.usual.split_member.Goals as goal

pub invariant_of-result : goal.invariant_of-result
invariant_of-result c =
    let bytes = take c.in_ok-at.at c.in_ok-begun.begun.now in
    record { utf8 = is_utf8-from_IsUtf8 bytes (plain_utf8 bytes (sym c.are_plain.ensures ∙ c.if-are_plain.true)) }
