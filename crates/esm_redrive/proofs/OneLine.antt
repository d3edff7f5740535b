-- A dead letter has no line feed.
use Rattle.std.proofs.Common.{◌≡◌, ℕ, zero, suc, ◌<◌, ◌^◌, ◌+◌, Bool, true, false, not, ◌&&◌, ◌||◌, List, [], ◌∷◌, ◌++◌, refl, sym, ap, ◌∙◌, subst, inl, inr, arith, Option, Some, None}
use Rattle.std.specs.Prelude.{codes, flat_map}
use Rattle.std.specs.List.{list_any}
use Rattle.std.proofs.lemmas.Bool.{and_parts, cases_lt, cases_eq, ne_eqb, not-true}
use Rattle.std.proofs.lemmas.Fmt.{decimal_by_steps}
use Rattle.std.proofs.lemmas.List.Folds.{list_any-append}
use Rattle.esm_model.specs.declared.item.Message.{Message}
use Rattle.esm_model.specs.Numbers.{decimal, last_digits}
use Rattle.esm_model.specs.JsonText.{escaped_byte, quoted}
use Rattle.esm_record.specs.Input.{is_line_feed}
use Rattle.esm_redrive_model.specs.DeadLetter.{group_member, dead_letter}
use Rattle.esm_redrive.proofs.Escapes.{high_plain}

abbrev HasNoFeed : List ℕ → Type 0
HasNoFeed text = list_any is_line_feed text ≡ false

joined : (a b : List ℕ) → HasNoFeed a → HasNoFeed b → HasNoFeed (a ++ b)
joined a b none rest = list_any-append is_line_feed a b ∙ (ap (λ (c : Bool). c || list_any is_line_feed b) none ∙ rest)

not_feed : (b : ℕ) → 10 < b → HasNoFeed (b ∷ [])
not_feed b high = ap (λ (c : Bool). c || false) (ne_eqb b 10 (λ e. omega arith))

-- the bytes below n
abbrev clear_below : ℕ → Bool
clear_below zero = true
clear_below (suc n) = not (list_any is_line_feed (escaped_byte n)) && clear_below n

clear_at : (n : ℕ) → clear_below n ≡ true → (b : ℕ) → b < n → HasNoFeed (escaped_byte b)
clear_at zero e b low = absurd (omega arith)
clear_at (suc n) e b low =
    let parts = and_parts _ _ e in
    elim (cases_eq b n) [
      | inl same ↦ subst (λ (x : ℕ). HasNoFeed (escaped_byte x)) (sym same) (not-true (list_any is_line_feed (escaped_byte n)) parts.0)
      | inr other ↦ clear_at n parts.1 b (omega arith)
    ]

clear_ascii : clear_below 128 ≡ true
unfolding escaped_byte last_digits
clear_ascii = refl

byte_clear : (b : ℕ) → HasNoFeed (escaped_byte b)
byte_clear b = elim (cases_lt b 128) [
  | inl low ↦ clear_at 128 clear_ascii b low
  | inr high ↦ subst HasNoFeed (sym (high_plain b high)) (not_feed b (omega (arith, high)))
]

text_clear : (text : List ℕ) → HasNoFeed (flat_map escaped_byte text)
text_clear [] = refl
text_clear (b ∷ text) = joined (escaped_byte b) (flat_map escaped_byte text) (byte_clear b) (text_clear text)

quoted_clear : (text : List ℕ) → HasNoFeed (quoted text)
quoted_clear text = joined (34 ∷ flat_map escaped_byte text) (34 ∷ []) (text_clear text) refl

decimal_clear : (n : ℕ) → n < 2 ^ 64 → HasNoFeed (decimal n)
decimal_clear = decimal_by_steps (λ n ds. HasNoFeed ds) (λ n low. not_feed (48 + n) (omega arith)) (λ n ds high before. joined ds _ before (not_feed _ (omega arith)))

group_clear : (group : Option (List ℕ)) → HasNoFeed (group_member group)
group_clear None = refl
group_clear (Some group) = joined (codes ",\"messageGroupId\":") (quoted group) refl (quoted_clear group)

in_a_row : (a i b c d e g z : List ℕ) → HasNoFeed a → HasNoFeed i → HasNoFeed b → HasNoFeed c → HasNoFeed d → HasNoFeed e → HasNoFeed g → HasNoFeed z → HasNoFeed (((((((a ++ i) ++ b) ++ c) ++ d) ++ e) ++ g) ++ z)
in_a_row a i b c d e g z na ni nb nc nd ne ng nz = simp (list_any-append, na, ni, nb, nc, nd, ne, ng, nz)

pub letter_clear : (m : Message) → m.sent < 2 ^ 64 → HasNoFeed (dead_letter m)
unfolding dead_letter
letter_clear m low =
    in_a_row (codes "{\"messageId\":") (quoted m.id) (codes ",\"body\":") (quoted m.body) (codes ",\"sentTimestamp\":") (decimal m.sent) (group_member m.group) (codes "}")
    refl (quoted_clear m.id) refl (quoted_clear m.body) refl (decimal_clear m.sent low) (group_clear m.group) refl
