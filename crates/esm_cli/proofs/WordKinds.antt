-- What a word is to a command with a list of options.
use Rattle.std.proofs.Common.{◌≡◌, ◌∙◌, ◌+◌, ◌&&◌, ◌||◌, ℕ, Bool, cond, true, false, not, suc, refl, sym, ap, ap₂, subst, arith, [], ◌∷◌, ◌++◌, length, take, drop, Option, Some, None, inl, inr, true≢false, is_some}
use Rattle.std.specs.Prelude.{◌==◌, nat_lt}
use Rattle.std.specs.List.{list_all, position_or_len}
use Rattle.std.specs.Str.{bytes_eq}
use Rattle.std.proofs.lemmas.Bool.Decides.{Decides-eqb}
use Rattle.clap.specs.Lexer.{has_byte, name_and_value}
use Rattle.clap.specs.Walk.{Text}
use Rattle.esm_cli.specs.Spelling.{Options, begins_dash, is_stray_dash, listed}
use Rattle.esm_cli.proofs.Bools.{either, and_left, and_right, or_left, or_right, not_true, not_false}
use Rattle.esm_cli.proofs.Rules.{listed_name}
use Rattle.esm_cli.proofs.Steps.{IsLong, long}

pub data WordKind (os : Options) (word : Text) : Type 0 where
  plain : begins_dash word ≡ false → WordKind os word
  named : (c : ℕ) (rest name : Text) (b : Bool) (v : Option Text) → word ≡ long c rest → IsLong c rest name v → listed os name ≡ Some (name, b) → WordKind os word
  other : (c : ℕ) (rest name : Text) (v : Option Text) → word ≡ long c rest → IsLong c rest name v → listed os name ≡ None → WordKind os word

-- `=` and a value, where there is one
abbrev pub suffix : Option Text → Text
suffix None = []
suffix (Some v) = 61 ∷ v

cut_miss : (x : ℕ) (xs : Text) (n : ℕ) (b : Bool) → xs ≡ take n xs ++ suffix (cond b (Some (drop (n + 1) xs)) None)
    → x ∷ xs ≡ take (1 + n) (x ∷ xs) ++ suffix (cond b (Some (drop (1 + n + 1) (x ∷ xs))) None)
cut_miss x xs n b h =
    let one : 1 + n ≡ suc n = omega arith in
    let two : suc n + 1 ≡ suc (n + 1) = omega arith in
    rw (one, two) (ap (λ t. x ∷ t) h)

cut : (text : Text) → text ≡ (name_and_value text).0 ++ suffix (name_and_value text).1
cut [] = refl
cut (x ∷ xs) =
    let n = position_or_len (λ (y : ℕ). y == 61) xs in
    let P : Bool → Type 0 = λ b. x ∷ xs ≡ take (cond (not b) (1 + n) 0) (x ∷ xs) ++ suffix (cond (b || has_byte 61 xs) (Some (drop (cond (not b) (1 + n) 0 + 1) (x ∷ xs))) None) in
    elim (either (x == 61)) [
      | inl t ↦ let hit : P true = ap (λ y. y ∷ xs) ((Decides-eqb x 61).0 t) in subst P (sym t) hit
      | inr f ↦ let miss : P false = cut_miss x xs n (has_byte 61 xs) (cut xs) in subst P (sym f) miss
    ]

-- the words of an option of this name
pub parts_of : (c : ℕ) (rest name : Text) (v : Option Text) → IsLong c rest name v → c ∷ rest ≡ name ++ suffix v
parts_of c rest name v is = cut (c ∷ rest) ∙ ap (λ (p : Text × Option Text). p.0 ++ suffix p.1) is

-- and the other way: a name without `=`

abbrev pair : Text → Option Text → Text × Option Text
pair name v = (name, v)

abbrev place : Text → ℕ
place text = position_or_len (λ (y : ℕ). y == 61) text

name_half : (x : ℕ) (ys : Text) → take (1 + place ys) (x ∷ ys) ≡ x ∷ take (place ys) ys
name_half x ys = let one : 1 + place ys ≡ suc (place ys) = omega arith in rw one refl

value_half : (x n : ℕ) (ys : Text) (b : Bool) → cond b (Some (drop (1 + n + 1) (x ∷ ys))) None ≡ cond b (Some (drop (n + 1) ys)) None
value_half x n ys b =
    let all : 1 + n + 1 ≡ suc (n + 1) = omega arith in rw all refl

cut_by : (x : ℕ) (ys : Text) (b : Bool) → b ≡ false
    → pair (take (cond (not b) (1 + place ys) 0) (x ∷ ys)) (cond (b || has_byte 61 ys) (Some (drop (cond (not b) (1 + place ys) 0 + 1) (x ∷ ys))) None)
    ≡ pair (x ∷ (name_and_value ys).0) (name_and_value ys).1
cut_by x ys true e = absurd (true≢false e)
cut_by x ys false e = ap₂ pair (name_half x ys) (value_half x (place ys) ys (has_byte 61 ys))

cut_name : (name : Text) (v : Option Text) → has_byte 61 name ≡ false → name_and_value (name ++ suffix v) ≡ pair name v
cut_name [] None well = refl
cut_name [] (Some v) well = refl
cut_name (x ∷ xs) v well =
    cut_by x (xs ++ suffix v) (x == 61) (or_left (x == 61) (has_byte 61 xs) well)
    ∙ ap (λ (p : Text × Option Text). pair (x ∷ p.0) p.1) (cut_name xs v (or_right (x == 61) (has_byte 61 xs) well))

-- a name that is not empty and has no `=`
abbrev pub is_named_well : Text × Bool → Bool
is_named_well o = nat_lt 0 (length o.0) && not (has_byte 61 o.0)

abbrev pub AreNamedWell : Options → Type 0
AreNamedWell os = list_all is_named_well os ≡ true

well_by : (b : Bool) (o : Text × Bool) (rest : Option (Text × Bool)) (p : Text × Bool) → is_named_well o ≡ true → (rest ≡ Some p → is_named_well p ≡ true)
    → cond b (Some o) rest ≡ Some p → is_named_well p ≡ true
well_by true o rest p here later e = (let same : o ≡ p = cc in ap is_named_well (sym same) ∙ here)
well_by false o rest p here later e = later e

pub listed_well : (os : Options) (name : Text) (p : Text × Bool) → AreNamedWell os → listed os name ≡ Some p → is_named_well p ≡ true
listed_well [] name p well e = absurd (true≢false (sym (ap is_some e)))
listed_well (o ∷ os) name p well e = well_by (bytes_eq o.0 name) o (listed os name) p
    (and_left (is_named_well o) (list_all is_named_well os) well)
    (listed_well os name p (and_right (is_named_well o) (list_all is_named_well os) well)) e

-- the word of an option, with a value that is attached or without one
abbrev pub word_of : Text → Option Text → Text
word_of name v = 45 ∷ 45 ∷ (name ++ suffix v)

pub record LongWord (word name : Text) (v : Option Text) : Type 0 where
  pub first : ℕ
  pub rest : Text
  pub is_word : word ≡ long first rest
  pub parts : IsLong first rest name v

pub long_word : (name : Text) (b : Bool) (v : Option Text) → is_named_well (name, b) ≡ true → LongWord (word_of name v) name v
long_word [] b v well = absurd (true≢false (sym well))
long_word (x ∷ xs) b v well = record {
  first = x;
  rest = xs ++ suffix v;
  is_word = refl;
  parts = cut_name (x ∷ xs) v (not_true (has_byte 61 (x ∷ xs)) (and_right (nat_lt 0 (length (x ∷ xs))) (not (has_byte 61 (x ∷ xs))) well));
}

-- every word without a stray dash is of one kind

found_kind : (os : Options) (c : ℕ) (rest : Text) (o : Option (Text × Bool)) → listed os (name_and_value (c ∷ rest)).0 ≡ o → WordKind os (long c rest)
found_kind os c rest None e = other c rest (name_and_value (c ∷ rest)).0 (name_and_value (c ∷ rest)).1 refl refl e
found_kind os c rest (Some o) e =
    let name = (name_and_value (c ∷ rest)).0 in
    let same : o.0 ≡ name = listed_name os name o e in
    let found : listed os name ≡ Some (name, o.1) = e ∙ ap (λ n. Some (n, o.1)) same in
    named c rest name o.1 (name_and_value (c ∷ rest)).1 refl refl found

pub word_kind : (os : Options) (word : Text) → is_stray_dash word ≡ false → WordKind os word
word_kind os [] h = plain refl
word_kind os (a ∷ []) h = plain h
word_kind os (a ∷ b ∷ []) h = plain h
word_kind os (a ∷ b ∷ c ∷ rest) h = elim (either (a == 45)) [
  | inl t ↦
      let dashes : b == 45 ≡ true = not_false (b == 45) (ap (λ x. x && not (b == 45)) (sym t) ∙ h) in
      let P : ℕ → Type 0 = λ x. WordKind os (x ∷ b ∷ c ∷ rest) in
      let Q : ℕ → Type 0 = λ y. WordKind os (45 ∷ y ∷ c ∷ rest) in
      subst P (sym ((Decides-eqb a 45).0 t)) (subst Q (sym ((Decides-eqb b 45).0 dashes)) (found_kind os c rest (listed os (name_and_value (c ∷ rest)).0) refl))
  | inr f ↦ plain f
]
