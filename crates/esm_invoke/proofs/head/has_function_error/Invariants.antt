use Rattle.std.proofs.Common.{◌≡◌, take, false}
use Rattle.std.specs.List.{list_any}
use Rattle.std.specs.Prelude.{codes}
use Rattle.httparse.specs.Spans.{header_bytes}
use Rattle.http1.specs.Fields.{is_named}
use Rattle.esm_invoke.proofs.head.has_function_error.Given as goal

abbrev pub invariant-loop-field : goal.invariant-loop-field
invariant-loop-field l =
    list_any (λ f. is_named (codes "X-Amz-Function-Error") (header_bytes l.bytes f)) (take l.field-index l.fields) ≡ false
