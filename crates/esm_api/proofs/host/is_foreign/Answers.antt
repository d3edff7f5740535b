use Rattle.std.proofs.Common.{◌≡◌, ℕ, Bool, List, [], ◌∷◌, map, refl, sym, ap, ◌∙◌, arith}
use Rattle.std.specs.Prelude.{◌||◌}
use Rattle.std.specs.List.{list_any}
use Rattle.std.proofs.lemmas.List.{take_all}
use Rattle.std.proofs.lemmas.List.Folds.{list_any_at}
use Rattle.httparse.specs.declared.spans.HeaderSpan.{HeaderSpan}
use Rattle.httparse.specs.Spans.{header_bytes}
use Rattle.esm_api.specs.Host.{is_foreign_field, is_foreign}
use Rattle.esm_api.proofs.host.is_foreign.Goals as goal

-- the field that a header's spans cover is foreign
abbrev is_foreign_at : List ℕ → HeaderSpan → Bool
is_foreign_at bytes field = is_foreign_field (header_bytes bytes field)

foreign_by_spans : (bytes : List ℕ) (fields : List HeaderSpan) → list_any (is_foreign_at bytes) fields ≡ is_foreign (map (header_bytes bytes) fields)
foreign_by_spans bytes [] = refl
foreign_by_spans bytes (field ∷ fields) = ap (λ t. is_foreign_at bytes field || t) (foreign_by_spans bytes fields)

pub returns-then-is_foreign_field : goal.returns-then-is_foreign_field
returns-then-is_foreign_field c =
    sym (list_any_at (is_foreign_at c.args.bytes.now) c.args.fields.now c.loop-field.field-index _ c.loop-field-test.true (sym c.is_foreign_field.ensures ∙ c.if-is_foreign_field.true))
    ∙ foreign_by_spans c.args.bytes.now c.args.fields.now

pub returns : goal.returns
returns c =
    sym c.loop-field.invariant.none
    ∙ ap (list_any (is_foreign_at c.args.bytes.now)) (take_all c.loop-field.field-index c.args.fields.now (omega (arith, c.loop-field-test.false)))
    ∙ foreign_by_spans c.args.bytes.now c.args.fields.now
