use Rattle.std.proofs.Common.{◌≡◌, ◌++◌, ℕ, List, append_assoc, ap, ◌∙◌}
use Rattle.std.specs.Prelude.{codes}
use Rattle.httparse.specs.Ascii.{crlf_bytes}
use Rattle.esm_api.specs.Answer.{error_line}
use Rattle.esm_api.proofs.answer.push_error.Goals as goal

line_appended : (old name : List ℕ) → ((old ++ codes "x-amzn-ErrorType: ") ++ name) ++ crlf_bytes ≡ old ++ error_line name
unfolding error_line
line_appended old name = simp append_assoc

pub returns : goal.returns
returns c =
    c.in_ok-extend_from_slice-3.ensures.items
    ∙ ap (λ t. t ++ crlf_bytes)
    (c.in_ok-extend_from_slice-2.ensures.items
    ∙ ap (λ t. t ++ c.as_bytes.result.now) c.in_ok-extend_from_slice.ensures.items
    ∙ ap (λ t. (c.args.text.now.items ++ codes "x-amzn-ErrorType: ") ++ t) c.as_bytes.ensures.value)
    ∙ line_appended c.args.text.now.items c.args.name.now
