-- Lists in which nothing stands twice, and how long they can be. Only this crate's proofs cite this.
use Rattle.std.proofs.Common.{◌≡◌, suc, ◌+◌, ◌≤◌, Bool, true, false, List, [], ◌∷◌, ◌++◌, length, refl, sym, ap, ◌∙◌, subst, ◌⊎◌, inl, inr, arith, length-append}
use Rattle.std.specs.Prelude.{if◌then◌else◌}
use Rattle.std.proofs.lemmas.Bool.{cases_Bool}

-- a stands in the list
abbrev pub Has : {A : Type 0} → List A → A → Type 0
Has [] a = ⊥
Has (x ∷ xs) a = (x ≡ a) ⊎ Has xs a

-- nothing stands in it twice
abbrev pub AllApart : {A : Type 0} → List A → Type 0
AllApart [] = Unit {0}
AllApart (x ∷ xs) = (Has xs x → ⊥) × AllApart xs

pub Has-left : {A : Type 0} (xs ys : List A) (a : A) → Has xs a → Has (xs ++ ys) a
Has-left [] ys a h = absurd h
Has-left (x ∷ xs) ys a (inl e) = inl e
Has-left (x ∷ xs) ys a (inr h) = inr (Has-left xs ys a h)

pub Has-right : {A : Type 0} (xs ys : List A) (a : A) → Has ys a → Has (xs ++ ys) a
Has-right [] ys a h = h
Has-right (x ∷ xs) ys a h = inr (Has-right xs ys a h)

-- the list, parted before a
record Parted {A : Type 0} (ys : List A) (a : A) : Type 0 where
  front : List A
  rest : List A
  is : ys ≡ front ++ a ∷ rest

parted : {A : Type 0} (ys : List A) (a : A) → Has ys a → Parted ys a
parted [] a h = absurd h
parted (y ∷ ys) a (inl e) = record { front = []; rest = ys; is = ap (λ z. z ∷ ys) e }
parted (y ∷ ys) a (inr h) = (let p = parted ys a h in record { front = y ∷ p.front; rest = p.rest; is = ap (λ zs. y ∷ zs) p.is })

without : {A : Type 0} (front rest : List A) (a b : A) → Has (front ++ a ∷ rest) b → (a ≡ b → ⊥) → Has (front ++ rest) b
without [] rest a b (inl e) apart = absurd (apart e)
without [] rest a b (inr h) apart = h
without (x ∷ front) rest a b (inl e) apart = inl e
without (x ∷ front) rest a b (inr h) apart = inr (without front rest a b h apart)

-- it is no longer than a list that has all of its members
pub no_longer : {A : Type 0} (xs ys : List A) → AllApart xs → ((a : A) → Has xs a → Has ys a) → length xs ≤ length ys
no_longer [] ys apart within = omega arith
no_longer (x ∷ xs) ys apart within =
    let p = parted ys x (within x (inl refl)) in
    let rest : length xs ≤ length (p.front ++ p.rest) = no_longer xs (p.front ++ p.rest) apart.1
    (λ a h. without p.front p.rest x a (subst (λ zs. Has zs a) p.is (within a (inr h))) (λ e. apart.0 (subst (λ b. Has xs b) (sym e) h))) in
    let long : length ys ≡ length p.front + suc (length p.rest) = ap length p.is ∙ length-append p.front (x ∷ p.rest) in
    let short : length (p.front ++ p.rest) ≡ length p.front + length p.rest = length-append p.front p.rest in
    omega (arith, rest, long, short)

-- without the first member that passes the test
abbrev pub removed : {A : Type 0} → (A → Bool) → List A → List A
removed test [] = []
removed test (x ∷ xs) = if test x then xs else x ∷ removed test xs

pub removed-Has : {A : Type 0} (test : A → Bool) (xs : List A) (b : A) → Has (removed test xs) b → Has xs b
removed-Has test [] b h = h
removed-Has test (x ∷ xs) b h =
    elim (cases_Bool (test x)) [
      | inl is ↦ (let there : Has xs b = rw is at h in inr there)
      | inr fails ↦ (
          let both : Has (x ∷ removed test xs) b = rw fails at h in
          elim both [ inl e ↦ inl e | inr there ↦ inr (removed-Has test xs b there) ])
    ]

pub removed-apart : {A : Type 0} (test : A → Bool) (xs : List A) → AllApart xs → AllApart (removed test xs)
removed-apart test [] apart = tt
removed-apart test (x ∷ xs) apart =
    elim (cases_Bool (test x)) [
      | inl is ↦ rw is apart.1
      | inr fails ↦ rw fails (λ h. apart.0 (removed-Has test xs x h), removed-apart test xs apart.1)
    ]

-- one that fails the test stays
pub removed-kept : {A : Type 0} (test : A → Bool) (xs : List A) (b : A) → Has xs b → test b ≡ false → Has (removed test xs) b
removed-kept test [] b h fails = h
removed-kept test (x ∷ xs) b (inl e) fails = (let here : test x ≡ false = ap test e ∙ fails in rw here (inl e))
removed-kept test (x ∷ xs) b (inr h) fails =
    elim (cases_Bool (test x)) [
      | inl is ↦ rw is h
      | inr not ↦ rw not (inr (removed-kept test xs b h fails))
    ]

-- where a alone passes, the list is one shorter, and a is gone
pub removed-length : {A : Type 0} (test : A → Bool) (a : A) (xs : List A) → test a ≡ true → Has xs a → suc (length (removed test xs)) ≡ length xs
removed-length test a [] passes h = absurd h
removed-length test a (x ∷ xs) passes (inl e) = (let here : test x ≡ true = ap test e ∙ passes in rw here refl)
removed-length test a (x ∷ xs) passes (inr h) =
    elim (cases_Bool (test x)) [
      | inl is ↦ rw is refl
      | inr not ↦ rw not (ap suc (removed-length test a xs passes h))
    ]

pub removed-gone : {A : Type 0} (test : A → Bool) (a : A) (xs : List A) → ((x : A) → test x ≡ true → x ≡ a) → test a ≡ true → AllApart xs → Has (removed test xs) a → ⊥
removed-gone test a [] one passes apart h = h
removed-gone test a (x ∷ xs) one passes apart h =
    elim (cases_Bool (test x)) [
      | inl is ↦ (let there : Has xs a = rw is at h in apart.0 (subst (λ b. Has xs b) (sym (one x is)) there))
      | inr fails ↦ (
          let both : Has (x ∷ removed test xs) a = rw fails at h in
          elim both [
            | inl e ↦ (let clash : false ≡ true = sym fails ∙ ap test e ∙ passes in cc)
            | inr there ↦ removed-gone test a xs one passes apart.1 there
          ])
    ]
