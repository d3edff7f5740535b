use Rattle.std.proofs.Common.{◌≡◌, ◌++◌, ℕ, List, append_assoc, ap, ◌∙◌}
use Rattle.std.specs.Prelude.{codes}
use Rattle.httparse.specs.Ascii.{crlf_bytes}
use Rattle.esm_model.specs.Numbers.{decimal}
use Rattle.esm_api.specs.Answer.{last_lines}
use Rattle.esm_api.proofs.answer.push_last.Goals as goal

lines_appended : (old : List ℕ) (count : ℕ) → ((old ++ codes "Content-Length: ") ++ decimal count) ++ (crlf_bytes ++ codes "Connection: close" ++ crlf_bytes ++ crlf_bytes) ≡ old ++ last_lines count
unfolding last_lines
lines_appended old count = simp append_assoc

pub returns : goal.returns
returns c =
    c.in_ok-extend_from_slice-3.ensures.items
    ∙ ap (λ t. t ++ (crlf_bytes ++ codes "Connection: close" ++ crlf_bytes ++ crlf_bytes))
    (c.in_ok-extend_from_slice-2.ensures.items
    ∙ ap (λ t. t ++ c.as_bytes.result.now) c.in_ok-extend_from_slice.ensures.items
    ∙ ap (λ t. (c.args.text.now.items ++ codes "Content-Length: ") ++ t) (c.as_bytes.ensures.value ∙ c.format.ensures.text))
    ∙ lines_appended c.args.text.now.items c.args.count
