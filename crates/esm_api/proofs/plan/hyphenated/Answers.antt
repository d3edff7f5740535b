use Rattle.std.proofs.Common.{◌≡◌, ℕ, eqb, List, length, Option, Some, None, refl, ◌∙◌, arith}
use Rattle.std.proofs.lemmas.Bool.{ne_eqb, eq-eqb, cond-true, cond-false, false≢true}
use Rattle.uuid.specs.Text.{parsed, parsed_simple, parsed_hyphenated}
use Rattle.esm_api.proofs.plan.hyphenated.Goals as goal

parsed_is : (text : List ℕ) → length text ≡ 36 → parsed text ≡ parsed_hyphenated text
parsed_is text e =
    cond-false (eqb (length text) 32) (parsed_simple text) _ (ne_eqb (length text) 32 (λ other. omega (arith, other, e)))
    ∙ cond-true (eqb (length text) 36) (parsed_hyphenated text) _ (eq-eqb (length text) 36 e)

none_if : {A : Type 0} (o : Option A) → ((a : A) × (o ≡ Some a) → ⊥) → None ≡ o
none_if None never = refl
none_if (Some a) never = absurd (never (a, refl))

pub returns-in-Err : goal.returns-in-Err
returns-in-Err c =
    none_if (parsed c.args.text.now) (λ found. false≢true (c.in-Err.ensures.ok.1 found))
    ∙ parsed_is c.args.text.now (omega (arith, c.if-text-ne36.false))
