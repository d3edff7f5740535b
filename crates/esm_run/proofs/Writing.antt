-- A text that is written in parts.
use Rattle.std.proofs.Common.{◌≡◌, ℕ, zero, suc, ◌+◌, ◌≤◌, ◌<◌, List, [], ◌∷◌, ◌++◌, take, drop, refl, sym, ap, ◌∙◌, subst, arith, append_assoc, Option, Some, None}
use Rattle.std.proofs.lemmas.List.{append-nil, take-append-drop}
use Rattle.esm_io.specs.Faults.{Rose}
use Rattle.esm_io.specs.Told.{Grows}
use Rattle.esm_run.specs.Endings.{IsCutShort}

pub grows_none : {A : Type 0} (o : Option (List A)) → Grows o o []
grows_none None = refl
grows_none (Some l) = ap Some (sym (append-nil l))

pub grows_then : {A : Type 0} (a b c : Option (List A)) (x y : List A) → Grows a b x → Grows b c y → Grows a c (x ++ y)
grows_then None None c x y first second = second
grows_then None (Some b) c x y first second = absurd (cc)
grows_then (Some a) None c x y first second = absurd (cc)
grows_then (Some a) (Some b) c x y first second =
    let is : b ≡ a ++ x = cc in
    second ∙ ap (λ l. Some (l ++ y)) is ∙ ap Some (append_assoc a x y)

take_nil : (xs : List ℕ) (k : ℕ) → xs ≡ [] → take k xs ≡ []
take_nil [] zero is = refl
take_nil [] (suc k) is = refl
take_nil (x ∷ xs) k is = absurd (cc)

pub take_add : (xs : List ℕ) (i n : ℕ) → take (i + n) xs ≡ take i xs ++ take n (drop i xs)
take_add xs zero n = ap (λ k. take k xs) (let none : 0 + n ≡ n = omega arith in none)
take_add [] (suc i) n = take_nil [] (suc i + n) refl ∙ sym (take_nil [] n refl)
take_add (x ∷ xs) (suc i) n =
    ap (λ k. take k (x ∷ xs)) (let more : suc i + n ≡ suc (i + n) = omega arith in more) ∙ ap (λ l. x ∷ l) (take_add xs i n)

pub written_more : (a b c : Option (List ℕ)) (text : List ℕ) (i n : ℕ) → Grows a b (take i text) → Grows b c (take n (drop i text)) → Grows a c (take (i + n) text)
written_more a b c text i n first second = subst (Grows a c) (sym (take_add text i n)) (grows_then a b c (take i text) (take n (drop i text)) first second)

-- a failed write
pub cut_short : (first faults now : ℕ) (a b c : Option (List ℕ)) (text : List ℕ) (i : ℕ) → first ≤ faults → Rose faults now → Grows a b (take i text) → c ≡ b → IsCutShort first now a c text
cut_short first faults now a b c text i before rose told same = record {
  fault = λ under. (let above : faults < now = rose under in omega (arith, above, before));
  front = take i text;
  rest = drop i text;
  parts = sym (take-append-drop i text);
  told = subst (λ o. Grows a o (take i text)) (sym same) told;
}
