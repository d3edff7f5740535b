-- Where texts are cut: two that begin with parts which end alike have the same parts and the same rest; and how their parts
-- are put together.
use Rattle.std.proofs.Common.{◌≡◌, ◌∙◌, ℕ, suc, Bool, true, false, ◌==◌, refl, sym, ap, List, [], ◌∷◌, ◌++◌, append_assoc, All, length, drop, arith}
use Rattle.std.proofs.lemmas.Bool.{false≢true, and_parts}
use Rattle.std.proofs.lemmas.Bool.Decides.{nat_tests}
use Rattle.std.specs.List.{list_all}

-- the first element, 0 where there is none
abbrev pub first : List ℕ → ℕ
first [] = 0
first (x ∷ xs) = x

-- the text does not begin with an element that passes
abbrev pub Stops : (ℕ → Bool) → List ℕ → Type 0
Stops p [] = Unit {0}
Stops p (x ∷ xs) = p x ≡ false

pub apart : (n m : ℕ) → (n == m) ≡ false → n ≡ m → ⊥
apart n m differs same = grind (arith, nat_tests)

nothing : (x : ℕ) (xs : List ℕ) → [] ≡ x ∷ xs → ⊥
nothing x xs e = let long : 0 ≡ suc (length xs) = ap length e in omega arith

pub cons_same : {X : Type 0} (x y : X) (xs ys : List X) → x ≡ y → xs ≡ ys → x ∷ xs ≡ y ∷ ys
cons_same x y xs ys p q = rw (p, q) refl

differs : (p : ℕ → Bool) (x y : ℕ) → p x ≡ false → p y ≡ true → x ≡ y → ⊥
differs p x y fails passes same = false≢true (sym fails ∙ (ap p same ∙ passes))

-- the parts pass, and what follows them stops
pub span : (p : ℕ → Bool) (a b r s : List ℕ) → list_all p a ≡ true → list_all p b ≡ true → Stops p r → Stops p s → a ++ r ≡ b ++ s → (a ≡ b) × (r ≡ s)
span p [] [] r s ha hb hr hs e = (refl, e)
span p [] (y ∷ b) [] s ha hb hr hs e = absurd (nothing y (b ++ s) e)
span p [] (y ∷ b) (x ∷ r) s ha hb hr hs e =
    absurd (differs p x y hr (and_parts (p y) (list_all p b) hb).0 (ap first e))
span p (x ∷ a) [] r [] ha hb hr hs e = absurd (nothing x (a ++ r) (sym e))
span p (x ∷ a) [] r (y ∷ s) ha hb hr hs e =
    absurd (differs p y x hs (and_parts (p x) (list_all p a) ha).0 (sym (ap first e)))
span p (x ∷ a) (y ∷ b) r s ha hb hr hs e =
    let rest = span p a b r s (and_parts (p x) (list_all p a) ha).1 (and_parts (p y) (list_all p b) hb).1 hr hs (ap (drop 1) e) in
    (cons_same x y a b (ap first e) rest.0, rest.1)

-- the parts are as long as each other
pub same_length : (a b r s : List ℕ) → length a ≡ length b → a ++ r ≡ b ++ s → (a ≡ b) × (r ≡ s)
same_length [] [] r s long e = (refl, e)
same_length [] (y ∷ b) r s long e = absurd (omega arith)
same_length (x ∷ a) [] r s long e = absurd (omega arith)
same_length (x ∷ a) (y ∷ b) r s long e =
    let rest = same_length a b r s (omega arith) (ap (drop 1) e) in
    (cons_same x y a b (ap first e) rest.0, rest.1)

-- elements

pub head_is : {X : Type 0} (P : X → Type 0) (x : X) (xs : List X) → All P (x ∷ xs) → P x
head_is P x xs h = h 0 x (omega arith)

pub tail_is : {X : Type 0} (P : X → Type 0) (x : X) (xs : List X) → All P (x ∷ xs) → All P xs
tail_is P x xs h k d below = h (suc k) d (omega arith)

-- brackets

pub three : (a b c r : List ℕ) → (a ++ b ++ c) ++ r ≡ a ++ (b ++ (c ++ r))
three a b c r = simp append_assoc

pub four : (a b c d r : List ℕ) → (a ++ b ++ c ++ d) ++ r ≡ a ++ (b ++ (c ++ (d ++ r)))
four a b c d r = simp append_assoc

pub five : (a b c d e r : List ℕ) → (a ++ b ++ c ++ d ++ e) ++ r ≡ a ++ (b ++ (c ++ (d ++ (e ++ r))))
five a b c d e r = simp append_assoc

pub six : (a b c d e f r : List ℕ) → (a ++ b ++ c ++ d ++ e ++ f) ++ r ≡ a ++ (b ++ (c ++ (d ++ (e ++ (f ++ r)))))
six a b c d e f r = simp append_assoc

pub seven : (a b c d e f g r : List ℕ) → (a ++ b ++ c ++ d ++ e ++ f ++ g) ++ r ≡ a ++ (b ++ (c ++ (d ++ (e ++ (f ++ (g ++ r))))))
seven a b c d e f g r = simp append_assoc

-- three parts, one after the other
pub appended : (old one two now a b c : List ℕ) → one ≡ old ++ a → two ≡ one ++ b → now ≡ two ++ c → now ≡ old ++ (a ++ b ++ c)
appended old one two now a b c first second third =
    third ∙ (ap (λ t. t ++ c) (second ∙ ap (λ t. t ++ b) first) ∙ bracketed old a b c)
  where
    bracketed : (o x y z : List ℕ) → ((o ++ x) ++ y) ++ z ≡ o ++ ((x ++ y) ++ z)
    bracketed o x y z = simp append_assoc

-- five parts, and two that belong together
pub five_two : (a b c d e f g r : List ℕ) → (a ++ b ++ c ++ d ++ e ++ (f ++ g)) ++ r ≡ a ++ (b ++ (c ++ (d ++ (e ++ (f ++ (g ++ r))))))
five_two a b c d e f g r = simp append_assoc
