use Rattle.std.proofs.Common.{◌≡◌, ◌++◌, ℕ, List, append_assoc, ap, ◌∙◌}
use Rattle.std.specs.Prelude.{codes}
use Rattle.httparse.specs.Ascii.{crlf_bytes}
use Rattle.esm_model.specs.Numbers.{decimal}
use Rattle.esm_invoke.specs.Request.{header_lines}
use Rattle.esm_invoke.proofs.request.push_headers.Goals as goal

headers_appended : (old : List ℕ) (len : ℕ)
    → ((old ++ (codes "Host: 127.0.0.1" ++ crlf_bytes ++ codes "Content-Type: application/json" ++ crlf_bytes ++ codes "Content-Length: ")) ++ decimal len)
    ++ (crlf_bytes ++ codes "Connection: close" ++ crlf_bytes ++ crlf_bytes)
    ≡ old ++ header_lines len
unfolding header_lines
headers_appended old len = simp append_assoc

pub returns : goal.returns
returns c =
    c.in_ok-extend_from_slice-3.ensures.items
    ∙ ap (λ t. t ++ (crlf_bytes ++ codes "Connection: close" ++ crlf_bytes ++ crlf_bytes))
    (c.in_ok-extend_from_slice-2.ensures.items
    ∙ ap (λ t. t ++ c.as_bytes.result.now) c.in_ok-extend_from_slice.ensures.items
    ∙ ap (λ t. (c.args.text.now.items ++ (codes "Host: 127.0.0.1" ++ crlf_bytes ++ codes "Content-Type: application/json" ++ crlf_bytes ++ codes "Content-Length: ")) ++ t) (c.as_bytes.ensures.value ∙ c.format.ensures.text))
    ∙ headers_appended c.args.text.now.items c.args.len
