use Rattle.std.proofs.Common.{◌≡◌, ◌++◌, length, min, ◌∙◌, subst}
use Rattle.std.proofs.lemmas.List.{take-append-drop}
use Rattle.esm_model.specs.declared.limits.TheConstants.{MAX_HEAD}
use Rattle.esm_invoke.specs.ResponseRead.{ParsesHead}
use Rattle.esm_invoke.proofs.HeadLemmas.{no_head_without_empty_line, ParsesHead-append}
use Rattle.esm_invoke.proofs.head.look.Goals as goal

pub returns-then-not-has_empty_line : goal.returns-then-not-has_empty_line
returns-then-not-has_empty_line c =
    no_head_without_empty_line c.args.bytes.now c.args.looked c.requires.looked (c.has_empty_line.ensures c.if-not-has_empty_line.true)

pub returns : goal.returns
returns c =
    let bytes = c.args.bytes.now in
    let front = c.split_at.result.0.now in
    let whole : front ++ c.split_at.result.1.now ≡ bytes =
    (λ i. c.split_at.ensures.front i ++ c.split_at.ensures.back i) ∙ take-append-drop c.min-count.result bytes in
    let len : length front ≡ min (length bytes) MAX_HEAD = c.split_at.ensures.front_len ∙ c.min-count.ensures in
    subst (λ t. ParsesHead t (min (length bytes) MAX_HEAD) c.parse.result) whole
    (subst (λ n. ParsesHead (front ++ c.split_at.result.1.now) n c.parse.result) len
    (ParsesHead-append front c.split_at.result.1.now c.parse.result c.parse.ensures))
