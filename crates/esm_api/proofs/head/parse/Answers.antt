use Rattle.std.proofs.Common.{sym, refl, inl, ◌∙◌, arith}
use Rattle.std.proofs.lemmas.Bool.{leb-false}
use Rattle.esm_api.proofs.HeadLemmas.{planned_if_complete, none_yet_if_partial, bad_if_exceeds}
use Rattle.esm_api.proofs.head.parse.Goals as goal

pub returns-in_ok-said-in-Ok-Complete : goal.returns-in_ok-said-in-Ok-Complete
returns-in_ok-said-in-Ok-Complete c =
    planned_if_complete c.args.lines.now c.parse_request.new.headers c.in-Ok-Complete.spans c.in_ok-said-in-Ok-Complete.field-0 c.requires.short
    (omega (arith, c.parse_request.auto.headers))
    (rw c.in-Ok-Complete.field-0-is at c.in-Ok-Complete.ensures.within)
    (rw c.in-Ok-Complete.field-0-is at c.in-Ok-Complete.ensures.complete)
    c.in_ok-said-in-Ok-Complete.ensures

pub returns-in-Ok-Partial-2 : goal.returns-in-Ok-Partial-2
returns-in-Ok-Partial-2 c =
    none_yet_if_partial c.args.lines.now c.requires.ends
    (rw c.in-Ok-Partial.field-0-is at c.in-Ok-Partial.ensures.partial)
    (rw c.in-Ok-Partial.field-0-is at c.in-Ok-Partial.ensures.unfinished)
    (leb-false _ _ (sym c.has_many_lines.ensures ∙ c.if-has_many_lines.false))

pub returns-in-Err-TooManyHeaders : goal.returns-in-Err-TooManyHeaders
returns-in-Err-TooManyHeaders c =
    let too_many = rw c.in-Err-TooManyHeaders.field-0-is at c.in-Err-TooManyHeaders.ensures.too_many in
    (inl (bad_if_exceeds c.args.lines.now c.in-Err-TooManyHeaders.ensures.no_room (too_many refl), refl), omega arith)
