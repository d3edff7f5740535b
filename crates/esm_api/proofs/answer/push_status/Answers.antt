use Rattle.std.proofs.Common.{◌≡◌, ◌++◌, ℕ, List, append_assoc, ap, ◌∙◌}
use Rattle.std.specs.Prelude.{codes}
use Rattle.httparse.specs.Ascii.{crlf_bytes}
use Rattle.esm_model.specs.Numbers.{decimal}
use Rattle.esm_api.specs.Answer.{status_lines, phrase_of}
use Rattle.esm_api.proofs.answer.push_status.Goals as goal

lines_appended : (old : List ℕ) (status : ℕ)
    → ((((old ++ codes "HTTP/1.1 ") ++ decimal status) ++ codes " ") ++ phrase_of status) ++ (crlf_bytes ++ codes "Content-Type: application/json" ++ crlf_bytes)
    ≡ old ++ status_lines status
unfolding status_lines
lines_appended old status = simp append_assoc

pub returns : goal.returns
returns c =
    let old = c.args.text.now.items in
    c.in_ok-extend_from_slice-5.ensures.items
    ∙ ap (λ t. t ++ (crlf_bytes ++ codes "Content-Type: application/json" ++ crlf_bytes))
    (c.in_ok-extend_from_slice-4.ensures.items
    ∙ ap (λ t. t ++ c.as_bytes-2.result.now)
    (c.in_ok-extend_from_slice-3.ensures.items
    ∙ ap (λ t. t ++ codes " ")
    (c.in_ok-extend_from_slice-2.ensures.items
    ∙ ap (λ t. t ++ c.as_bytes.result.now) c.in_ok-extend_from_slice.ensures.items
    ∙ ap (λ t. (old ++ codes "HTTP/1.1 ") ++ t) (c.as_bytes.ensures.value ∙ c.format.ensures.text ∙ ap decimal c.from.ensures)))
    ∙ ap (λ t. (((old ++ codes "HTTP/1.1 ") ++ decimal c.args.status) ++ codes " ") ++ t) (c.as_bytes-2.ensures.value ∙ c.phrase.ensures))
    ∙ lines_appended old c.args.status
