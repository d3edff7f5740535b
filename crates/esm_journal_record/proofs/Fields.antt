-- What is read from the front is what is spelled there, and what is spelled is read again.
use Rattle.std.proofs.Common.{◌≡◌, ℕ, suc, ◌+◌, ◌^◌, ◌<◌, ◌≤◌, Bool, true, false, cond, ltb, List, [], ◌∷◌, ◌++◌, length, get_or, take, drop, Option, Some, None, refl, sym, ap, subst, ◌∙◌, append_assoc, arith, inl, inr, ◌⊎◌}
use Rattle.std.specs.Int.{Width, w32, w64, byte_len, from_be_bytes, to_be_bytes}
use Rattle.std.proofs.lemmas.Bool.{cases_lt, ltb-false, le-ltb}
use Rattle.std.proofs.lemmas.Option.{cond_some}
use Rattle.std.proofs.lemmas.List.{take_at, drop_at, take-append-drop, length-append, length-take, get_or-drop, get_or-take, get_or_past, append-nil}
use Rattle.std.proofs.lemmas.Nat.{be_bytes_4, be_bytes_8, from_be_bytes-to_be_bytes_4, from_be_bytes-to_be_bytes_8}
use Rattle.esm_journal_record.specs.Parsing.{◌>>=◌, ◌⊗◌, only, made, number_at, byte_at, taken}

abbrev pub IsBytes : List ℕ → Type 0
IsBytes bytes = (i : ℕ) → get_or bytes i 0 < 256

IsBytes-drop : (n : ℕ) (bytes : List ℕ) → IsBytes bytes → IsBytes (drop n bytes)
IsBytes-drop n bytes h i = rw get_or-drop (h (n + i))

IsBytes-take : (n : ℕ) (bytes : List ℕ) → IsBytes bytes → IsBytes (take n bytes)
IsBytes-take n bytes h i =
    elim (cases_lt i n) [
      | inl lt ↦ rw (get_or-take n bytes i 0 lt) (h i)
      | inr le ↦ rw (get_or_past (take n bytes) i 0 (omega (arith, length-take n bytes))) (omega arith)
    ]

pub IsBytes-rest : (b : ℕ) (bytes : List ℕ) → IsBytes (b ∷ bytes) → IsBytes bytes
IsBytes-rest b bytes h i = h (suc i)

-- the value of a step that did not fail
pub bind_some : {A B : Type 0} (r : Option A) (f : A → Option B) (y : B) → (r >>= f) ≡ Some y → (x : A) × (r ≡ Some x) × (f x ≡ Some y)
bind_some (Some x) f y e = (x, refl, e)
bind_some None f y e = absurd cc

abbrev some : {A : Type 0} → A → Option A
some x = Some x

pub some_is : {A : Type 0} (x y : A) → some x ≡ some y → x ≡ y
some_is x y e = cc

-- which way a choice went
pub chosen : {A : Type 0} (b : Bool) (x y z : A) → cond b x y ≡ z → ((b ≡ true) × (x ≡ z)) ⊎ ((b ≡ false) × (y ≡ z))
chosen true x y z e = inl (refl, e)
chosen false x y z e = inr (refl, e)

-- what was taken from the front
pub record Took (bytes text rest : List ℕ) : Type 0 where
  pub parts : bytes ≡ text ++ rest
  pub fits : IsBytes rest

pub Took-then : (a x b y c : List ℕ) → Took a x b → Took b y c → Took a (x ++ y) c
Took-then a x b y c p q = record { parts = p.parts ∙ ap (λ t. x ++ t) q.parts ∙ sym (append_assoc x y c); fits = q.fits }

-- a field reads what is spelled so, and that alone
pub record Reads (A : Type 0) (field : List ℕ → Option (A × List ℕ)) (spelled : A → List ℕ) (Holds : A → Type 0) : Type 0 where
  pub takes : (bytes : List ℕ) (x : A) (rest : List ℕ) → IsBytes bytes → field bytes ≡ Some (x, rest) → Took bytes (spelled x) rest × Holds x
  pub again : (x : A) (rest : List ℕ) → Holds x → field (spelled x ++ rest) ≡ Some (x, rest)

-- in other words
pub Reads-as : {A : Type 0} (f : List ℕ → Option (A × List ℕ)) (w : A → List ℕ) (P Q : A → Type 0) → ((x : A) → P x → Q x) → ((x : A) → Q x → P x) → Reads A f w P → Reads A f w Q
Reads-as f w P Q to from reads = record {
  takes = λ bytes x rest fits e. let t = reads.takes bytes x rest fits e in (t.0, to x t.1);
  again = λ x rest holds. reads.again x rest (from x holds);
}

pub Reads-both : {A B : Type 0} (f : List ℕ → Option (A × List ℕ)) (g : List ℕ → Option (B × List ℕ)) (w : A → List ℕ) (v : B → List ℕ) (P : A → Type 0) (Q : B → Type 0)
    → Reads A f w P → Reads B g v Q → Reads (A × B) (f ⊗ g) (λ x. w x.0 ++ v x.1) (λ x. P x.0 × Q x.1)
Reads-both {A} {B} f g w v P Q first second = record {
  takes = λ bytes x rest fits e.
      let a = bind_some (f bytes) (λ x. g x.1 >>= λ y. Some ((x.0, y.0), y.1)) (x, rest) e in
      let b = bind_some (g a.0.1) (λ y. Some ((a.0.0, y.0), y.1)) (x, rest) a.2 in
      let t = first.takes bytes a.0.0 a.0.1 fits a.1 in
      let u = second.takes a.0.1 b.0.0 b.0.1 t.0.fits b.1 in
      let is = some_is ((a.0.0, b.0.0), b.0.1) (x, rest) b.2 in
      subst (λ (z : (A × B) × List ℕ). Took bytes (w z.0.0 ++ v z.0.1) z.1 × (P z.0.0 × Q z.0.1)) is
      (Took-then bytes (w a.0.0) a.0.1 (v b.0.0) b.0.1 t.0 u.0, (t.1, u.1));
  again = λ x rest holds.
      ap (f ⊗ g) (append_assoc (w x.0) (v x.1) rest) ∙ rw (first.again x.0 (v x.1 ++ rest) holds.0, second.again x.1 rest holds.1) refl;
}

pub Reads-only : {A : Type 0} (f : List ℕ → Option (A × List ℕ)) (w : A → List ℕ) (P : A → Type 0) (passes : A → Bool)
    → Reads A f w P → Reads A (only passes f) w (λ x. P x × (passes x ≡ true))
Reads-only {A} f w P passes reads = record {
  takes = λ bytes x rest fits e.
      let a = bind_some (f bytes) (λ x. cond (passes x.0) (Some x) None) (x, rest) e in
      let b = cond_some (passes a.0.0) a.0 (x, rest) a.2 in
      let t = reads.takes bytes a.0.0 a.0.1 fits a.1 in
      subst (λ (z : A × List ℕ). Took bytes (w z.0) z.1 × (P z.0 × (passes z.0 ≡ true))) b.1 (t.0, (t.1, b.0));
  again = λ x rest holds. rw (reads.again x rest holds.0, holds.1) refl;
}

-- what is made of a field

pub made_takes : {A B : Type 0} (make : A → B) (f : List ℕ → Option (A × List ℕ)) (w : A → List ℕ) (P : A → Type 0) → Reads A f w P
    → (bytes : List ℕ) (y : B) (rest : List ℕ) → IsBytes bytes → made make f bytes ≡ Some (y, rest) → (x : A) × (make x ≡ y) × Took bytes (w x) rest × P x
made_takes {A} {B} make f w P reads bytes y rest fits e =
    let a = bind_some (f bytes) (λ x. Some (make x.0, x.1)) (y, rest) e in
    let is = some_is (make a.0.0, a.0.1) (y, rest) a.2 in
    let t = reads.takes bytes a.0.0 a.0.1 fits a.1 in
    (a.0.0, ap (λ (z : B × List ℕ). z.0) is, subst (λ (r : List ℕ). Took bytes (w a.0.0) r) (ap (λ (z : B × List ℕ). z.1) is) t.0, t.1)

pub made_again : {A B : Type 0} (make : A → B) (f : List ℕ → Option (A × List ℕ)) (w : A → List ℕ) (P : A → Type 0) → Reads A f w P
    → (x : A) → P x → made make f (w x) ≡ Some (make x, [])
made_again make f w P reads x holds = ap (made make f) (sym (append-nil (w x))) ∙ rw (reads.again x [] holds) refl

-- numbers

pub record IsWide (w : Width) (limit : ℕ) : Type 0 where
  pub len : (n : ℕ) → length (to_be_bytes w n) ≡ byte_len w
  pub back : (bytes : List ℕ) → length bytes ≡ byte_len w → IsBytes bytes → to_be_bytes w (from_be_bytes w bytes) ≡ bytes
  pub again : (n : ℕ) → n < limit → from_be_bytes w (to_be_bytes w n) ≡ n
  pub below : (bytes : List ℕ) → IsBytes bytes → from_be_bytes w bytes < limit

pub wide32 : IsWide w32 (2 ^ 32)
wide32 = record {
  len = λ n. refl;
  back = λ bytes len fits. be_bytes_4 bytes _ len fits refl;
  again = λ n lt. from_be_bytes-to_be_bytes_4 n lt;
  below = λ bytes fits. omega (arith, fits 0, fits 1, fits 2, fits 3);
}

pub wide64 : IsWide w64 (2 ^ 64)
wide64 = record {
  len = λ n. refl;
  back = λ bytes len fits. be_bytes_8 bytes _ len fits refl;
  again = λ n lt. from_be_bytes-to_be_bytes_8 n lt;
  below = λ bytes fits. omega (arith, fits 0, fits 1, fits 2, fits 3, fits 4, fits 5, fits 6, fits 7);
}

-- a part of known length

pub taken_takes : (n : ℕ) (bytes text rest : List ℕ) → IsBytes bytes → taken n bytes ≡ Some (text, rest) → Took bytes text rest × (length text ≡ n)
unfolding taken
taken_takes n bytes text rest fits e =
    let g = chosen (ltb (length bytes) n) None (Some (take n bytes, drop n bytes)) (Some (text, rest)) e in
    elim g [
      | inl short ↦ absurd cc
      | inr long ↦
          (let enough : n ≤ length bytes = ltb-false _ _ long.0 in
          let is = some_is (take n bytes, drop n bytes) (text, rest) long.1 in
          subst (λ (z : List ℕ × List ℕ). Took bytes z.0 z.1 × (length z.0 ≡ n)) is
          (record { parts = sym (take-append-drop n bytes); fits = IsBytes-drop n bytes fits }, omega (arith, length-take n bytes)))
    ]

pub taken_again : (n : ℕ) (text rest : List ℕ) → length text ≡ n → taken n (text ++ rest) ≡ Some (text, rest)
unfolding taken
taken_again n text rest len =
    let long : ltb (length (text ++ rest)) n ≡ false = le-ltb _ _ (omega (arith, length-append text rest)) in
    rw (long, take_at text rest n len, drop_at text rest n len) refl

pub number_reads : (w : Width) (limit : ℕ) → IsWide w limit → Reads ℕ (number_at w) (to_be_bytes w) (λ n. n < limit)
unfolding number_at
number_reads w limit wide = record {
  takes = λ bytes n rest fits e.
      let g = chosen (ltb (length bytes) (byte_len w)) None (Some (from_be_bytes w (take (byte_len w) bytes), drop (byte_len w) bytes)) (Some (n, rest)) e in
      elim g [
        | inl short ↦ absurd cc
        | inr long ↦
            (let enough : byte_len w ≤ length bytes = ltb-false _ _ long.0 in
            let front = take (byte_len w) bytes in
            let front_fits = IsBytes-take (byte_len w) bytes fits in
            let is = some_is (from_be_bytes w front, drop (byte_len w) bytes) (n, rest) long.1 in
            let back : to_be_bytes w (from_be_bytes w front) ≡ front = wide.back front (omega (arith, length-take (byte_len w) bytes)) front_fits in
            subst (λ (z : ℕ × List ℕ). Took bytes (to_be_bytes w z.0) z.1 × (z.0 < limit)) is
            (record { parts = sym (take-append-drop (byte_len w) bytes) ∙ ap (λ t. t ++ drop (byte_len w) bytes) (sym back); fits = IsBytes-drop (byte_len w) bytes fits }, wide.below front front_fits))
      ];
  again = λ n rest lt.
      let len = wide.len n in
      let long : ltb (length (to_be_bytes w n ++ rest)) (byte_len w) ≡ false = le-ltb _ _ (omega (arith, length-append (to_be_bytes w n) rest)) in
      rw (long, take_at (to_be_bytes w n) rest (byte_len w) len, drop_at (to_be_bytes w n) rest (byte_len w) len, wide.again n lt) refl;
}

byte_takes : (bytes : List ℕ) (b : ℕ) (rest : List ℕ) → IsBytes bytes → byte_at bytes ≡ Some (b, rest) → Took bytes (b ∷ []) rest × (b < 256)
unfolding byte_at
byte_takes [] b rest fits e = absurd cc
byte_takes (c ∷ bytes) b rest fits e =
    subst (λ (z : ℕ × List ℕ). Took (c ∷ bytes) (z.0 ∷ []) z.1 × (z.0 < 256)) (some_is (c, bytes) (b, rest) e)
    (record { parts = refl; fits = IsBytes-rest c bytes fits }, fits 0)

pub byte_reads : Reads ℕ byte_at (λ b. b ∷ []) (λ b. b < 256)
unfolding byte_at
byte_reads = record { takes = byte_takes; again = λ b rest holds. refl }
