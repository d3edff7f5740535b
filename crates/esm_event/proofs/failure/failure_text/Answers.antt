use Rattle.std.proofs.Common.{◌≡◌, true, false, sym, subst, IsUtf8}
use Rattle.esm_event.proofs.FailureLines.{line_utf8}
use Rattle.esm_event.proofs.failure.failure_text.Goals as goal

pub unreachable-requires : goal.unreachable-requires
unreachable-requires c =
    let line =
    line_utf8 c.args.config.now c.args.failure.now (subst IsUtf8 c.as_str-function.ensures c.as_str-function.utf8) (subst IsUtf8 c.as_str-source.ensures c.as_str-source.utf8)
    (subst IsUtf8 c.text-first.ensures.value c.text-first.utf8) (subst IsUtf8 c.text-last.ensures.value c.text-last.utf8) in
    absurd (let clash : false ≡ true = c.in-Err.ensures.succeeds (subst IsUtf8 (sym c.in_ok-bytes.ensures) line) in cc)
