-- The first window that is due is the least one.
use Rattle.std.proofs.Common.{◌≡◌, ℕ, ◌<◌, ◌≤◌, Bool, true, false, ◌&&◌, ◌||◌, List, [], ◌∷◌, refl, sym, ap, ◌∙◌, subst, inl, inr, Option, Some, None, arith}
use Rattle.std.specs.Prelude.{◌==◌, nat_lt, is_some, IsSome, if◌then◌else◌, MatchOption}
use Rattle.std.specs.Map.{keys_of}
use Rattle.std.specs.List.{AllByRecursion}
use Rattle.std.specs.List.Sorted.{IsStrictlySortedBy}
use Rattle.std.specs.Ordering.{nat_cmp, is_eq}
use Rattle.std.specs.declared.cmp.Ordering.TheVariants.{Less}
use Rattle.std.proofs.lemmas.Bool.{cases_Bool, cases_lt, eq-eqb, ne_eqb, lt-ltb, ltb-true, or_cases}
use Rattle.std.proofs.lemmas.Cmp.{ranked}
use Rattle.esm_shard_index.specs.WindowEntries.{count_at, text_at}
use Rattle.esm_shard_index.specs.Windows.{WindowTable, IsLeastDue, some_text, due_at, due_from}

abbrev Texts : Type 0
Texts = List (ℕ × Option (List ℕ))

-- keys

at_same : (w : ℕ) → is_eq (nat_cmp w w) ≡ true
at_same w = elim (cases_Bool (nat_lt w w)) [
  | inl less ↦ absurd (let l : w < w = ltb-true w w less in omega arith)
  | inr not' ↦ rw (not', eq-eqb w w refl) refl
]

at_below : (w k : ℕ) → w < k → is_eq (nat_cmp w k) ≡ false
at_below w k less = rw (lt-ltb w k less) refl

at_above : (w k : ℕ) → k < w → is_eq (nat_cmp w k) ≡ false
at_above w k more = elim (cases_Bool (nat_lt w k)) [
  | inl less ↦ absurd (let l : w < k = ltb-true w k less in omega arith)
  | inr not' ↦ rw (not', ne_eqb w k (λ e. absurd (omega arith))) refl
]

less_is : (x y : ℕ) → nat_cmp x y ≡ Less → x < y
less_is x y is = ranked x y Less (sym is)

abbrev AllAbove : ℕ → Texts → Type 0
AllAbove x [] = Unit {0}
AllAbove x (e ∷ es) = (x < e.0) × AllAbove x es

abbrev Rising : Texts → Type 0
Rising [] = Unit {0}
Rising (e ∷ es) = AllAbove e.0 es × Rising es

above_from : (x : ℕ) (es : Texts) → AllByRecursion (λ y. nat_cmp x y ≡ Less) (keys_of es) → AllAbove x es
above_from x [] all = tt
above_from x (e ∷ es) all = (less_is x e.0 all.0, above_from x es all.1)

rising_from : (es : Texts) → IsStrictlySortedBy nat_cmp (keys_of es) → Rising es
unfolding IsStrictlySortedBy
rising_from [] sorted = tt
rising_from (e ∷ es) sorted = (above_from e.0 es sorted.0, rising_from es sorted.1)

-- look-ups

here : (e : ℕ × Option (List ℕ)) (es : Texts) → text_at (e ∷ es) e.0 ≡ e.1
here e es = rw (at_same e.0) refl

there : (w : ℕ) (e : ℕ × Option (List ℕ)) (es : Texts) → is_eq (nat_cmp w e.0) ≡ false → text_at (e ∷ es) w ≡ text_at es w
there w e es other = rw other refl

none_below : (w x : ℕ) (es : Texts) → w ≤ x → AllAbove x es → text_at es w ≡ None
none_below w x [] low above = refl
none_below w x (e ∷ es) low above = there w e es (at_below w e.0 (omega (arith, above.0))) ∙ none_below w x es low above.1

-- which windows are due

abbrev due_of : List (ℕ × ℕ) → ℕ → Bool → Texts → ℕ → Bool
due_of opened last shut es w = is_some (text_at es w) && (count_at opened w == 0) && (nat_lt w last || shut)

abbrev IsLeast : (ℕ → Bool) → Option ℕ → Type 0
IsLeast due r = MatchOption r ((w : ℕ) → due w ≡ false) (λ v. (due v ≡ true) × ((w : ℕ) → due w ≡ true → v ≤ w))

least_same : (p q : ℕ → Bool) (r : Option ℕ) → ((w : ℕ) → q w ≡ p w) → IsLeast p r → IsLeast q r
least_same p q None same is = λ w. same w ∙ is w
least_same p q (Some v) same is = (same v ∙ is.0, λ w due. is.1 w (sym (same w) ∙ due))

not_due : (opened : List (ℕ × ℕ)) (last : ℕ) (shut : Bool) (es : Texts) (w : ℕ) → text_at es w ≡ None → due_of opened last shut es w ≡ false
not_due opened last shut es w none = rw none refl

-- past an entry whose window is not due the same windows are
due_past : (opened : List (ℕ × ℕ)) (last : ℕ) (shut : Bool) (e : ℕ × Option (List ℕ)) (es : Texts) → AllAbove e.0 es
    → due_of opened last shut (e ∷ es) e.0 ≡ false → (w : ℕ) → due_of opened last shut (e ∷ es) w ≡ due_of opened last shut es w
due_past opened last shut e es above not' w =
    elim (cases_Bool (is_eq (nat_cmp w e.0))) [
      | inr other ↦ ap (λ (o : Option (List ℕ)). is_some o && (count_at opened w == 0) && (nat_lt w last || shut)) (there w e es other)
      | inl same ↦ (
          let at : w ≡ e.0 = key_is w e.0 same in
          subst (λ x. due_of opened last shut (e ∷ es) x ≡ due_of opened last shut es x) (sym at)
          (not' ∙ sym (not_due opened last shut es e.0 (none_below e.0 e.0 es (omega arith) above))))
    ]
  where
    key_is : (w k : ℕ) → is_eq (nat_cmp w k) ≡ true → w ≡ k
    key_is w k same = elim (cases_lt w k) [
      | inl less ↦ absurd (clash (is_eq (nat_cmp w k)) same (at_below w k less))
      | inr le ↦ elim (cases_lt k w) [ inl more ↦ absurd (clash (is_eq (nat_cmp w k)) same (at_above w k more)) | inr ge ↦ omega arith ]
    ]
      where
        clash : (b : Bool) → b ≡ true → b ≡ false → ⊥
        clash b is not' = cc

and_false : (a b : Bool) → (a && b && false) ≡ false
and_false true true = refl
and_false true false = refl
and_false false b = refl

not_later : (w k last : ℕ) (shut : Bool) → k ≤ w → (nat_lt k last || shut) ≡ false → (nat_lt w last || shut) ≡ false
not_later w k last true le not' = absurd (clash (nat_lt k last) not')
  where
    clash : (b : Bool) → (b || true) ≡ false → ⊥
    clash true is = cc
    clash false is = cc
not_later w k last false le not' = elim (cases_Bool (nat_lt w last)) [
  | inr past ↦ rw past refl
  | inl before ↦ absurd (let l : w < last = ltb-true w last before in let e : nat_lt k last ≡ true = lt-ltb k last (omega arith) in clash (nat_lt k last) e not')
]
  where
    clash : (b : Bool) → b ≡ true → (b || false) ≡ false → ⊥
    clash true is not' = cc
    clash false is not' = cc

-- one entry before the others
due_cons : (opened : List (ℕ × ℕ)) (last : ℕ) (shut : Bool) (e : ℕ × Option (List ℕ)) (es : Texts) (rest : Option ℕ) → AllAbove e.0 es
    → IsLeast (due_of opened last shut es) rest → (o : Option (List ℕ)) → e.1 ≡ o → IsLeast (due_of opened last shut (e ∷ es)) (due_at opened last shut e.0 o rest)
due_cons opened last shut e es rest above least None is =
    least_same (due_of opened last shut es) (due_of opened last shut (e ∷ es)) rest
    (due_past opened last shut e es above (not_due opened last shut (e ∷ es) e.0 (here e es ∙ is))) least
due_cons opened last shut e es rest above least (Some text) is =
    let due = due_of opened last shut (e ∷ es) in
    let at : due_of opened last shut (e ∷ es) e.0 ≡ ((count_at opened e.0 == 0) && (nat_lt e.0 last || shut)) =
    ap (λ (o : Option (List ℕ)). is_some o && (count_at opened e.0 == 0) && (nat_lt e.0 last || shut)) (here e es ∙ is) in
    let below : (w : ℕ) → w < e.0 → due_of opened last shut (e ∷ es) w ≡ false =
    λ (w : ℕ) (low : w < e.0). not_due opened last shut (e ∷ es) w (there w e es (at_below w e.0 low) ∙ none_below w e.0 es (omega arith) above) in
    elim (cases_Bool (nat_lt e.0 last || shut)) [
      | inl later ↦ elim (cases_Bool (count_at opened e.0 == 0)) [
        | inl none_open ↦ subst (λ (r : Option ℕ). IsLeast (due_of opened last shut (e ∷ es)) r)
            (sym (ap (λ b. if b then (if count_at opened e.0 == 0 then Some e.0 else rest) else None) later ∙ ap (λ b. if b then Some e.0 else rest) none_open)) (
              at ∙ ap (λ b. b && (nat_lt e.0 last || shut)) none_open ∙ later,
              λ w is_due. elim (cases_lt w e.0) [ inl low ↦ absurd (clash (due_of opened last shut (e ∷ es) w) is_due (below w low)) | inr le ↦ le ],
            )
        | inr some_open ↦ subst (λ (r : Option ℕ). IsLeast (due_of opened last shut (e ∷ es)) r)
            (sym (ap (λ b. if b then (if count_at opened e.0 == 0 then Some e.0 else rest) else None) later ∙ ap (λ b. if b then Some e.0 else rest) some_open))
            (least_same (due_of opened last shut es) (due_of opened last shut (e ∷ es)) rest
            (due_past opened last shut e es above (at ∙ ap (λ b. b && (nat_lt e.0 last || shut)) some_open)) least)
      ]
      | inr not' ↦ subst (λ (r : Option ℕ). IsLeast (due_of opened last shut (e ∷ es)) r)
          (sym (ap (λ b. if b then (if count_at opened e.0 == 0 then Some e.0 else rest) else None) not'))
          (λ w. elim (cases_lt w e.0) [
            | inl low ↦ below w low
            | inr le ↦ ap (λ b. is_some (text_at (e ∷ es) w) && (count_at opened w == 0) && b) (not_later w e.0 last shut le not')
                ∙ and_false (is_some (text_at (e ∷ es) w)) (count_at opened w == 0)
          ])
    ]
  where
    clash : (b : Bool) → b ≡ true → b ≡ false → ⊥
    clash b is not' = cc

pub due_least : (opened : List (ℕ × ℕ)) (last : ℕ) (shut : Bool) (es : Texts) → Rising es → IsLeast (due_of opened last shut es) (due_from opened last shut es)
due_least opened last shut [] rising = λ w. refl
due_least opened last shut (e ∷ es) rising =
    due_cons opened last shut e es (due_from opened last shut es) rising.0 (due_least opened last shut es rising.1) e.1 refl

pub least_of : (t : WindowTable) (shut : Bool) → IsStrictlySortedBy nat_cmp (keys_of t.states) → IsLeastDue t shut (due_from t.opened t.last shut t.states)
least_of t shut sorted = due_least t.opened t.last shut t.states (rising_from t.states sorted)

-- whether there is a state

some_rising : (es : Texts) → Rising es → some_text es ≡ true → (w : ℕ) × IsSome (text_at es w)
some_rising [] rising some = cc
some_rising (e ∷ es) rising some =
    elim (or_cases (is_some e.1) (some_text es) some) [
      | inl first ↦ (e.0, ap is_some (here e es) ∙ first)
      | inr later ↦ (
          let found = some_rising es rising.1 later in
          elim (cases_lt e.0 found.0) [
            | inl above ↦ (found.0, ap is_some (there found.0 e es (at_above found.0 e.0 above)) ∙ found.1)
            | inr le ↦ absurd (none_some (text_at es found.0) (none_below found.0 e.0 es le rising.0) found.1)
          ])
    ]
  where
    none_some : (o : Option (List ℕ)) → o ≡ None → is_some o ≡ true → ⊥
    none_some None none some = cc
    none_some (Some x) none some = cc

pub some_state : (es : Texts) → IsStrictlySortedBy nat_cmp (keys_of es) → some_text es ≡ true → (w : ℕ) × IsSome (text_at es w)
some_state es sorted some = some_rising es (rising_from es sorted) some

pub no_state : (es : Texts) → some_text es ≡ false → (w : ℕ) → text_at es w ≡ None
no_state [] none w = refl
no_state (e ∷ es) none w =
    elim (cases_Bool (is_eq (nat_cmp w e.0))) [
      | inl same ↦ rw same (none_from e.1 (first (is_some e.1) (some_text es) none))
      | inr other ↦ there w e es other ∙ no_state es (second (is_some e.1) (some_text es) none) w
    ]
  where
    none_from : (o : Option (List ℕ)) → is_some o ≡ false → o ≡ None
    none_from None none = refl
    none_from (Some x) none = cc

    first : (a b : Bool) → (a || b) ≡ false → a ≡ false
    first true b none = none
    first false b none = refl

    second : (a b : Bool) → (a || b) ≡ false → b ≡ false
    second true b none = cc
    second false b none = none
