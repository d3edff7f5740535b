-- A word reads the same where a text follows it that begins with an operator or a space, or where nothing follows.
use Rattle.std.proofs.Common.{◌≡◌, ℕ, suc, ◌+◌, ◌-◌, ◌≤◌, Bool, true, false, cond, ◌&&◌, ◌||◌, ◌==◌, nat_eq, List, [], ◌∷◌, ◌++◌, length, take, drop, Option, Some, None, option_and_then, inl, inr, ◌⊎◌, refl, sym, ap, ap₂, ◌∙◌, subst, arith, length-append, length-drop}
use Rattle.std.specs.Prelude.{⊤}
use Rattle.std.specs.Char.{is_ascii_digit}
use Rattle.std.specs.Cmp.Lexicographic.{pointwise}
use Rattle.std.specs.List.{prefix_len, starts_with}
use Rattle.std.proofs.lemmas.Bool.{true≢false, false≢true, eqb-true, ne_eqb, or_cases, cases_Bool}
use Rattle.std.proofs.lemmas.Bool.Decides.{nat_tests}
use Rattle.std.proofs.lemmas.List.{take-append-le}
use Rattle.json.specs.Ascii.{true_text, false_text, null_text}
use Rattle.json.specs.Token.{Token}
use Rattle.json.specs.Word.{is_operator, is_space, head, ends_word, after_digits, after_minus, after_sign, after_whole, after_fraction, after_exponent, after_number, literal, number_before, word}

abbrev stops : ℕ → Bool
stops x = is_operator x || is_space x

-- no byte of it ends a word
abbrev Passing : List ℕ → Type 0
Passing [] = ⊤
Passing (n ∷ ns) = (stops n ≡ false) × Passing ns

digit_passes : (x : ℕ) → is_ascii_digit x ≡ true → stops x ≡ false
digit_passes x h = grind (arith, nat_tests)

no_digit : (r : List ℕ) → ends_word r ≡ true → prefix_len is_ascii_digit r ≡ 0
no_digit [] h = refl
no_digit (x ∷ xs) h = go (cases_Bool (is_ascii_digit x))
  where
    go : (is_ascii_digit x ≡ true) ⊎ (is_ascii_digit x ≡ false) → prefix_len is_ascii_digit (x ∷ xs) ≡ 0
    go (inr e) = ap (λ b. cond b (1 + prefix_len is_ascii_digit xs) 0) e
    go (inl e) = absurd (true≢false (sym h ∙ digit_passes x e))

not_at : (n : ℕ) (ns r : List ℕ) → stops n ≡ false → ends_word r ≡ true → pointwise nat_eq (n ∷ ns) (take (length (n ∷ ns)) r) ≡ false
not_at n ns [] pass ended = refl
not_at n ns (y ∷ ys) pass ended =
    ap (λ b. b && pointwise nat_eq ns (take (length ns) ys)) (ne_eqb n y (λ e. true≢false (sym ended ∙ ap stops (sym e) ∙ pass)))

module _ (rest : List ℕ) (ended : ends_word rest ≡ true) where
  -- o is what a part leaves of t, and p what it leaves of t with the rest
  abbrev Extends : List ℕ → Option (List ℕ) → Option (List ℕ) → Type 0
  Extends t None p = p ≡ None
  Extends t (Some r) p = (p ≡ Some (r ++ rest)) × (length r ≤ length t)

  abbrev Follows : List ℕ → List ℕ → List ℕ → Type 0
  Follows t u v = (v ≡ u ++ rest) × (length u ≤ length t)

  same_test : (c : ℕ) (t : List ℕ) → stops c ≡ false → (head (t ++ rest) == c) ≡ (head t == c)
  same_test c [] h =
      ne_eqb (head rest) c (λ e. true≢false (sym ended ∙ ap stops e ∙ h))
      ∙ sym (ne_eqb 32 c (λ e. true≢false (ap stops e ∙ h)))
  same_test c (x ∷ xs) h = refl

  -- one byte c is passed
  one : (c : ℕ) (t : List ℕ) → stops c ≡ false → (head t == c) ≡ true → Follows t (drop 1 t) (drop 1 (t ++ rest))
  one c [] k e = absurd (true≢false (ap stops (eqb-true 32 c e) ∙ k))
  one c (x ∷ xs) k e = (refl, omega arith)

  either : (a b : ℕ) (t : List ℕ) → stops a ≡ false → stops b ≡ false → ((head t == a) ≡ true) ⊎ ((head t == b) ≡ true) → Follows t (drop 1 t) (drop 1 (t ++ rest))
  either a b t p q (inl e) = one a t p e
  either a b t p q (inr e) = one b t q e

  record Digits (t : List ℕ) (n m : ℕ) : Type 0 where
    count : m ≡ n
    after : drop n (t ++ rest) ≡ drop n t ++ rest

  digits_at : (d : Bool) (x : ℕ) (xs : List ℕ) (n m : ℕ) → Digits xs n m → Digits (x ∷ xs) (cond d (1 + n) 0) (cond d (1 + m) 0)
  digits_at false x xs n m ih = record { count = refl; after = refl }
  digits_at true x xs n m ih =
      let e : suc n ≡ 1 + n = omega arith in
      subst (λ j. Digits (x ∷ xs) j (1 + m)) e (record { count = omega (arith, ih.count); after = ih.after })

  digit_run : (t : List ℕ) → Digits t (prefix_len is_ascii_digit t) (prefix_len is_ascii_digit (t ++ rest))
  digit_run [] = record { count = no_digit rest ended; after = refl }
  digit_run (x ∷ xs) = digits_at (is_ascii_digit x) x xs _ _ (digit_run xs)

  -- both take the same side of a test
  by_test : (t : List ℕ) (b c : Bool) (x y p q : Option (List ℕ)) → c ≡ b → (b ≡ true → Extends t x p) → Extends t y q → Extends t (cond b x y) (cond c p q)
  by_test t true true x y p q e f g = f refl
  by_test t false false x y p q e f g = g
  by_test t true false x y p q e f g = absurd (false≢true e)
  by_test t false true x y p q e f g = absurd (true≢false e)

  -- a part that goes on at u
  after : (t u v : List ℕ) (f : List ℕ → Option (List ℕ)) → Follows t u v → Extends u (f u) (f (u ++ rest)) → Extends t (f u) (f v)
  after t u v f s = go (f u)
    where
      go : (o : Option (List ℕ)) → Extends u o (f (u ++ rest)) → Extends t o (f v)
      go None h = ap f s.0 ∙ h
      go (Some r) h = (ap f s.0 ∙ h.0, omega (arith, s.1, h.1))

  optional : (t : List ℕ) (b c : Bool) → c ≡ b → (b ≡ true → Follows t (drop 1 t) (drop 1 (t ++ rest))) → Follows t (cond b (drop 1 t) t) (cond c (drop 1 (t ++ rest)) (t ++ rest))
  optional t true true e f = f refl
  optional t false false e f = (refl, omega arith)
  optional t true false e f = absurd (false≢true e)
  optional t false true e f = absurd (true≢false e)

  digits : (t : List ℕ) → Extends t (after_digits t) (after_digits (t ++ rest))
  digits t =
      let d = digit_run t in
      by_test t (prefix_len is_ascii_digit t == 0) (prefix_len is_ascii_digit (t ++ rest) == 0) None _ None _ (ap (λ n. n == 0) d.count) (λ e. refl)
      (ap Some (ap (λ n. drop n (t ++ rest)) d.count ∙ d.after), omega (arith, length-drop (prefix_len is_ascii_digit t) t))

  whole : (t : List ℕ) → Extends t (after_whole t) (after_whole (t ++ rest))
  whole t = by_test t (head t == 48) _ (Some (drop 1 t)) _ _ _ (same_test 48 t refl) (λ e. let s = one 48 t refl e in (ap Some s.0, s.1)) (digits t)

  fraction : (t : List ℕ) → Extends t (after_fraction t) (after_fraction (t ++ rest))
  fraction t =
      by_test t (head t == 46) _ _ (Some t) _ _ (same_test 46 t refl) (λ e. after t (drop 1 t) _ after_digits (one 46 t refl e) (digits (drop 1 t))) (refl, omega arith)

  signed : (t : List ℕ) → Extends t (after_digits (after_sign t)) (after_digits (after_sign (t ++ rest)))
  signed t =
      after t (after_sign t) _ after_digits
      (optional t _ _ (ap₂ (λ a b. a || b) (same_test 45 t refl) (same_test 43 t refl)) (λ e. either 45 43 t refl refl (or_cases _ _ e))) (digits (after_sign t))

  exponent : (t : List ℕ) → Extends t (after_exponent t) (after_exponent (t ++ rest))
  exponent t =
      by_test t ((head t == 101) || (head t == 69)) _ _ (Some t) _ _ (ap₂ (λ a b. a || b) (same_test 101 t refl) (same_test 69 t refl))
      (λ e. after t (drop 1 t) _ (λ u. after_digits (after_sign u)) (either 101 69 t refl refl (or_cases _ _ e)) (signed (drop 1 t))) (refl, omega arith)

  then : (t : List ℕ) (f : List ℕ → Option (List ℕ)) → ((u : List ℕ) → Extends u (f u) (f (u ++ rest))) → (o p : Option (List ℕ)) → Extends t o p
      → Extends t (option_and_then f o) (option_and_then f p)
  then t f g None p h = ap (option_and_then f) h
  then t f g (Some r) p h = subst (λ q. Extends t (f r) (option_and_then f q)) (sym h.0) (after t r (r ++ rest) f (refl, h.1) (g r))

  whole_number : (t : List ℕ) → Extends t (after_number t) (after_number (t ++ rest))
  unfolding after_number
  whole_number t =
      then t after_exponent exponent _ _ (then t after_fraction fraction _ _
      (after t (after_minus t) _ after_whole (optional t _ _ (same_test 45 t refl) (one 45 t refl)) (whole (after_minus t))))

  same_end : (r : List ℕ) → ends_word (r ++ rest) ≡ ends_word r
  same_end [] = ended
  same_end (x ∷ xs) = refl

  number_by : (t : List ℕ) (o : Option (List ℕ)) → Extends t o (after_number (t ++ rest)) → number_before (t ++ rest) (after_number (t ++ rest)) ≡ number_before t o
  number_by t None h = ap (number_before (t ++ rest)) h
  number_by t (Some r) h =
      let n : length (t ++ rest) - length (r ++ rest) ≡ length t - length r = omega (arith, length-append t rest, length-append r rest) in
      let s : take (length (t ++ rest) - length (r ++ rest)) (t ++ rest) ≡ take (length t - length r) t =
      ap (λ k. take k (t ++ rest)) n ∙ take-append-le (length t - length r) t rest (omega arith) in
      ap (number_before (t ++ rest)) h.0 ∙ ap₂ (λ b l. cond b (Token.number l) Token.bad) (same_end r) s

  -- a literal's name and the end behind it
  abbrev stands : List ℕ → List ℕ → Bool
  stands name t = starts_with nat_eq t name && ends_word (drop (length name) t)

  step : (b x y : Bool) (p q : Bool) → (x && p) ≡ (y && q) → ((b && x) && p) ≡ ((b && y) && q)
  step true x y p q e = e
  step false x y p q e = refl

  name_stands : (name t : List ℕ) → Passing name → stands name (t ++ rest) ≡ stands name t
  name_stands [] t pass = same_end t
  name_stands (n ∷ ns) [] pass = ap (λ b. b && ends_word (drop (length (n ∷ ns)) rest)) (not_at n ns rest pass.0 ended)
  name_stands (n ∷ ns) (x ∷ xs) pass =
      step (nat_eq n x) (pointwise nat_eq ns (take (length ns) (xs ++ rest))) (pointwise nat_eq ns (take (length ns) xs)) (ends_word (drop (length ns) (xs ++ rest))) (ends_word (drop (length ns) xs))
      (name_stands ns xs pass.1)

  same_literal : (name : List ℕ) (u : Token) (t : List ℕ) → Passing name → literal name u (t ++ rest) ≡ literal name u t
  same_literal name u t pass = ap (λ b. cond b u Token.bad) (name_stands name t pass)

  pub word_front : (t : List ℕ) → word (t ++ rest) ≡ word t
  unfolding word
  word_front t =
      let b = same_test 116 t refl in
      let c = same_test 102 t refl in
      let d = same_test 110 t refl in
      let x = same_literal true_text (Token.boolean true) t (refl, (refl, (refl, (refl, tt)))) in
      let y = same_literal false_text (Token.boolean false) t (refl, (refl, (refl, (refl, (refl, tt))))) in
      let z = same_literal null_text Token.null t (refl, (refl, (refl, (refl, tt)))) in
      let n = number_by t (after_number t) (whole_number t) in
      λ i. cond (b i) (x i) (cond (c i) (y i) (cond (d i) (z i) (n i)))
