use Rattle.std.proofs.Common.{◌≡◌, ◌++◌, ℕ, List, append_assoc, ap, ◌∙◌}
use Rattle.std.specs.Prelude.{codes}
use Rattle.httparse.specs.Ascii.{crlf_bytes}
use Rattle.esm_invoke.specs.Request.{request_line}
use Rattle.esm_invoke.proofs.request.push_line.Goals as goal

line_appended : (old name : List ℕ)
    → (((old ++ codes "POST") ++ codes " /2015-03-31/functions/") ++ name) ++ (codes "/invocations HTTP/1.1" ++ crlf_bytes)
    ≡ old ++ request_line name
unfolding request_line
line_appended old name = simp append_assoc

pub returns : goal.returns
returns c =
    c.in_ok-extend_from_slice-4.ensures.items
    ∙ ap (λ t. t ++ (codes "/invocations HTTP/1.1" ++ crlf_bytes))
    (c.in_ok-extend_from_slice-3.ensures.items
    ∙ ap (λ t. t ++ c.as_bytes-2.result.now) (c.in_ok-extend_from_slice-2.ensures.items
    ∙ ap (λ t. t ++ codes " /2015-03-31/functions/") (c.in_ok-extend_from_slice.ensures.items
    ∙ ap (λ t. c.args.text.now.items ++ t) (c.as_bytes.ensures.value ∙ c.as_str.ensures.value)))
    ∙ ap (λ t. ((c.args.text.now.items ++ codes "POST") ++ codes " /2015-03-31/functions/") ++ t) c.as_bytes-2.ensures.value)
    ∙ line_appended c.args.text.now.items c.args.name.now
