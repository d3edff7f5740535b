-- How often a record stands in the pieces of a replay: a call takes each of its records away once.
use Rattle.std.proofs.Common.{◌≡◌, ℕ, zero, suc, ◌+◌, ◌<◌, ◌≤◌, Bool, true, false, cond, List, [], ◌∷◌, ◌++◌, length, take, drop, refl, sym, ap, ◌∙◌, subst, inl, inr, arith, append_assoc}
use Rattle.std.specs.Prelude.{◌==◌, nat_lt, filter}
use Rattle.std.proofs.Math.Seq.{drop-append_seam}
use Rattle.std.proofs.lemmas.List.{take-append-drop}
use Rattle.std.proofs.lemmas.Bool.{cases_Bool, eqb-true, eq-eqb, ltb-true, lt-ltb, cases_lt, or_cases}
use Rattle.esm_model.specs.declared.verdict.Rest.{Rest}
use Rattle.esm_model.specs.declared.verdict.Rest.TheVariants.{Nothing, Again, Counted, Split, Exhausted}
use Rattle.esm_model.specs.Setting.{Stream, records_of}
use Rattle.esm_model.specs.Entries.{holds}
use Rattle.esm_model.specs.Fates.{below}
use Rattle.esm_model.specs.Batches.{longest}
use Rattle.esm_model.proofs.Lists.{In, In-below}
use Rattle.esm_replay_model.specs.ReplaySetting.{ReplaySetting, is_named, named_places}
use Rattle.esm_replay_model.specs.Pieces.{ReplayPiece, piece, no_piece, ahead, inserted, rising_shards, named_pieces, first_pieces, split_ahead}

-- how often a place stands in a list

abbrev pub times : List ℕ → ℕ → ℕ
times [] i = 0
times (x ∷ xs) i = cond (x == i) 1 0 + times xs i

pub times-append : (xs ys : List ℕ) (i : ℕ) → times (xs ++ ys) i ≡ times xs i + times ys i
times-append [] ys i = omega arith
times-append (x ∷ xs) ys i = let behind : times (xs ++ ys) i ≡ times xs i + times ys i = times-append xs ys i in omega arith

pub times-cut : (k : ℕ) (xs : List ℕ) (i : ℕ) → times (take k xs) i + times (drop k xs) i ≡ times xs i
times-cut k xs i = sym (times-append (take k xs) (drop k xs) i) ∙ ap (λ ys. times ys i) (take-append-drop k xs)

pub In-times : (xs : List ℕ) (i : ℕ) → In xs i → 1 ≤ times xs i
In-times [] i h = cc
In-times (x ∷ xs) i h =
    elim (or_cases (x == i) (holds xs i) h) [
      | inl here ↦ rw here (omega arith)
      | inr there ↦ (let some : 1 ≤ times xs i = In-times xs i there in omega arith)
    ]

-- at most as often as in the list, and not where the test fails
times-filter : (p : ℕ → Bool) (xs : List ℕ) (i : ℕ) → times (filter p xs) i ≤ times xs i
times-filter p [] i = omega arith
times-filter p (x ∷ xs) i =
    let behind : times (filter p xs) i ≤ times xs i = times-filter p xs i in
    elim (cases_Bool (p x)) [ inl is ↦ rw is (omega arith) | inr fails ↦ rw fails (omega arith) ]

times-filter_none : (p : ℕ → Bool) (xs : List ℕ) (i : ℕ) → p i ≡ false → times (filter p xs) i ≡ 0
times-filter_none p [] i none = refl
times-filter_none p (x ∷ xs) i none =
    let behind : times (filter p xs) i ≡ 0 = times-filter_none p xs i none in
    elim (cases_Bool (p x)) [
      | inl is ↦ elim (cases_Bool (x == i)) [
        | inl same ↦ (let clash : true ≡ false = sym is ∙ ap p (eqb-true x i same) ∙ none in cc)
        | inr other ↦ rw (is, other) (omega arith)
      ]
      | inr fails ↦ rw fails behind
    ]

times-none : (xs : List ℕ) (i : ℕ) → (In xs i → ⊥) → times xs i ≡ 0
times-none [] i h = refl
times-none (x ∷ xs) i h =
    elim (cases_Bool (x == i)) [
      | inl same ↦ absurd (h (rw same refl))
      | inr other ↦ (let behind : times xs i ≡ 0 = times-none xs i (λ m. h (rw other m)) in rw other (omega arith))
    ]

times-below : (n i : ℕ) → times (below n) i ≤ 1
times-below zero i = omega arith
times-below (suc n) i =
    rw (times-append (below n) (n ∷ []) i)
    (elim (cases_Bool (n == i)) [
      | inl same ↦
          (let e : n ≡ i = eqb-true n i same in
          let none : times (below n) i ≡ 0 = times-none (below n) i (λ m. let l : i < n = In-below n i m in absurd (omega arith)) in
          rw same (omega arith))
      | inr other ↦ rw other (let behind : times (below n) i ≤ 1 = times-below n i in omega arith)
    ])

-- how often a record stands in pieces

abbrev pub in_piece : ReplayPiece → ℕ → ℕ → ℕ
in_piece p n i = cond (p.shard == n) (times p.places i) 0

abbrev pub in_pieces : List ReplayPiece → ℕ → ℕ → ℕ
in_pieces [] n i = 0
in_pieces (p ∷ others) n i = in_piece p n i + in_pieces others n i

pub in_piece-own : (n : ℕ) (places : List ℕ) (i : ℕ) → in_piece (piece n places) n i ≡ times places i
in_piece-own n places i = rw (eq-eqb n n refl) refl

in_piece-empty : (m n i : ℕ) → in_piece (piece m []) n i ≡ 0
in_piece-empty m n i = elim (cases_Bool (m == n)) [ inl same ↦ rw same refl | inr other ↦ rw other refl ]

pub in_no_piece : (n i : ℕ) → in_piece no_piece n i ≡ 0
in_no_piece n i = in_piece-empty 0 n i

pub in_piece-append : (m : ℕ) (xs ys : List ℕ) (n i : ℕ) → in_piece (piece m (xs ++ ys)) n i ≡ in_piece (piece m xs) n i + in_piece (piece m ys) n i
in_piece-append m xs ys n i = elim (cases_Bool (m == n)) [ inl same ↦ rw same (times-append xs ys i) | inr other ↦ rw other refl ]

pub in_piece-cut : (m k : ℕ) (xs : List ℕ) (n i : ℕ) → in_piece (piece m (take k xs)) n i + in_piece (piece m (drop k xs)) n i ≡ in_piece (piece m xs) n i
in_piece-cut m k xs n i = elim (cases_Bool (m == n)) [ inl same ↦ rw same (times-cut k xs i) | inr other ↦ rw other refl ]

pub in_ahead : (m : ℕ) (places : List ℕ) (others : List ReplayPiece) (n i : ℕ) → in_pieces (ahead m places others) n i ≡ in_piece (piece m places) n i + in_pieces others n i
in_ahead m [] others n i = let none : in_piece (piece m []) n i ≡ 0 = in_piece-empty m n i in omega arith
in_ahead m (x ∷ places) others n i = refl

-- what remains of a call stands no more often behind it
in_split : (r : Rest) (m : ℕ) (remaining : List ℕ) (others : List ReplayPiece) (n i : ℕ) → in_pieces (split_ahead r m remaining others) n i ≤ in_piece (piece m remaining) n i + in_pieces others n i
in_split Nothing m remaining others n i = omega arith
in_split Again m remaining others n i = omega arith
in_split Counted m remaining others n i = omega arith
in_split Exhausted m remaining others n i = omega arith
in_split (Split k) m remaining others n i =
    let first : in_pieces (ahead m (take k remaining) (ahead m (drop k remaining) others)) n i ≡ in_piece (piece m (take k remaining)) n i + in_pieces (ahead m (drop k remaining) others) n i = in_ahead m (take k remaining) (ahead m (drop k remaining) others) n i in
    let second : in_pieces (ahead m (drop k remaining) others) n i ≡ in_piece (piece m (drop k remaining)) n i + in_pieces others n i = in_ahead m (drop k remaining) others n i in
    let cut : in_piece (piece m (take k remaining)) n i + in_piece (piece m (drop k remaining)) n i ≡ in_piece (piece m remaining) n i = in_piece-cut m k remaining n i in
    omega arith

-- the records that succeeded, and the pieces behind a call of the front of the first piece
pub in_after_call : (r : Rest) (m k : ℕ) (batch back : List ℕ) (others : List ReplayPiece) (n i : ℕ) →
    in_piece (piece m (take k batch)) n i + in_pieces (split_ahead r m (drop k batch) (ahead m (drop (length batch) (batch ++ back)) others)) n i ≤ in_piece (piece m (batch ++ back)) n i + in_pieces others n i
in_after_call r m k batch back others n i =
    rw (drop-append_seam batch back)
    (let split : in_pieces (split_ahead r m (drop k batch) (ahead m back others)) n i ≤ in_piece (piece m (drop k batch)) n i + in_pieces (ahead m back others) n i = in_split r m (drop k batch) (ahead m back others) n i in
    let behind : in_pieces (ahead m back others) n i ≡ in_piece (piece m back) n i + in_pieces others n i = in_ahead m back others n i in
    let cut : in_piece (piece m (take k batch)) n i + in_piece (piece m (drop k batch)) n i ≡ in_piece (piece m batch) n i = in_piece-cut m k batch n i in
    let whole : in_piece (piece m (batch ++ back)) n i ≡ in_piece (piece m batch) n i + in_piece (piece m back) n i = in_piece-append m batch back n i in
    omega arith)

-- the longest prefix is a front
pub longest_front : (p : List ℕ → Bool) (seen xs : List ℕ) → (back : List ℕ) × (seen ++ xs ≡ longest p seen xs ++ back)
longest_front p seen [] = ([], refl)
longest_front p seen (x ∷ xs) =
    elim (cases_Bool (p (seen ++ x ∷ []))) [
      | inl passes ↦ rw passes (let found = longest_front p (seen ++ x ∷ []) xs in (found.0, sym (append_assoc seen (x ∷ []) xs) ∙ found.1))
      | inr fails ↦ rw fails (x ∷ xs, refl)
    ]

-- the first list

-- each number of the list is greater
abbrev pub Above : ℕ → List ℕ → Type 0
Above n [] = Unit {0}
Above n (m ∷ ms) = (n < m) × Above n ms

abbrev pub Rising : List ℕ → Type 0
Rising [] = Unit {0}
Rising (n ∷ ns) = Above n ns × Rising ns

Above-less : (n m : ℕ) (ms : List ℕ) → n < m → Above m ms → Above n ms
Above-less n m [] l above = tt
Above-less n m (k ∷ ms) l above = let first : m < k = above.0 in (omega arith, Above-less n m ms l above.1)

Above-inserted : (m n : ℕ) (ms : List ℕ) → m < n → Above m ms → Above m (inserted n ms)
Above-inserted m n [] l above = (l, tt)
Above-inserted m n (k ∷ ms) l above =
    elim (cases_Bool (n == k)) [
      | inl same ↦ rw same above
      | inr other ↦ rw other (elim (cases_Bool (nat_lt n k)) [
        | inl less ↦ rw less (l, above)
        | inr more ↦ rw more (above.0, Above-inserted m n ms l above.1)
      ])
    ]

greater : (n k : ℕ) → (n == k) ≡ false → nat_lt n k ≡ false → k < n
greater n k other more =
    elim (cases_lt k n) [
      | inl l ↦ l
      | inr ge ↦ elim (cases_lt n k) [
        | inl less ↦ (let clash : true ≡ false = sym (lt-ltb n k less) ∙ more in cc)
        | inr le ↦ (let same : n ≡ k = omega arith in let clash : true ≡ false = sym (eq-eqb n k same) ∙ other in cc)
      ]
    ]

pub Rising-inserted : (n : ℕ) (ms : List ℕ) → Rising ms → Rising (inserted n ms)
Rising-inserted n [] rising = (tt, tt)
Rising-inserted n (k ∷ ms) rising =
    elim (cases_Bool (n == k)) [
      | inl same ↦ rw same rising
      | inr other ↦ rw other (elim (cases_Bool (nat_lt n k)) [
        | inl less ↦ (let l : n < k = ltb-true n k less in rw less ((l, Above-less n k ms l rising.0), rising))
        | inr more ↦ (let l : k < n = greater n k other more in rw more (Above-inserted k n ms l rising.0, Rising-inserted n ms rising.1))
      ])
    ]

rising-shards : (ts : List Stream) → Rising (rising_shards ts)
rising-shards [] = tt
rising-shards (t ∷ ts) = Rising-inserted t.shard (rising_shards ts) (rising-shards ts)

elsewhere : (m n : ℕ) (places : List ℕ) (i : ℕ) → n < m → in_piece (piece m places) n i ≡ 0
elsewhere m n places i l =
    elim (cases_Bool (m == n)) [
      | inl same ↦ (let e : m ≡ n = eqb-true m n same in absurd (omega arith))
      | inr other ↦ rw other refl
    ]

-- a shard below all has no named pieces
none_below : (s : ReplaySetting) (n : ℕ) (ns : List ℕ) (i : ℕ) → Above n ns → in_pieces (named_pieces s ns) n i ≡ 0
none_below s n [] i above = refl
none_below s n (m ∷ ns) i above =
    let first : n < m = above.0 in
    let behind : in_pieces (named_pieces s ns) n i ≡ 0 = none_below s n ns i above.1 in
    let here : in_piece (piece m (named_places s m)) n i ≡ 0 = elsewhere m n (named_places s m) i first in
    let both : in_pieces (ahead m (named_places s m) (named_pieces s ns)) n i ≡ in_piece (piece m (named_places s m)) n i + in_pieces (named_pieces s ns) n i = in_ahead m (named_places s m) (named_pieces s ns) n i in
    omega arith

-- so often does a record stand in a list of named pieces: once at most, and not where it is not named
pub record IsNamedOnce (s : ReplaySetting) (ps : List ReplayPiece) (n i : ℕ) : Type 0 where
  pub once : in_pieces ps n i ≤ 1
  pub named : is_named s n i ≡ false → in_pieces ps n i ≡ 0

named_once : (s : ReplaySetting) (ns : List ℕ) (n i : ℕ) → Rising ns → IsNamedOnce s (named_pieces s ns) n i
named_once s [] n i rising = record { once = omega arith; named = λ none. refl }
named_once s (m ∷ ns) n i rising =
    let behind : IsNamedOnce s (named_pieces s ns) n i = named_once s ns n i rising.1 in
    let both : in_pieces (ahead m (named_places s m) (named_pieces s ns)) n i ≡ in_piece (piece m (named_places s m)) n i + in_pieces (named_pieces s ns) n i = in_ahead m (named_places s m) (named_pieces s ns) n i in
    elim (cases_Bool (m == n)) [
      | inl same ↦
          (let e : m ≡ n = eqb-true m n same in
          subst (λ k. IsNamedOnce s (ahead k (named_places s k) (named_pieces s ns)) n i) (sym e) (own (subst (λ k. Above k ns) e rising.0)))
      | inr other ↦
          (let none : in_piece (piece m (named_places s m)) n i ≡ 0 = rw other refl in
          let once : in_pieces (named_pieces s ns) n i ≤ 1 = behind.once in
          record { once = omega arith; named = λ fails. (let nothing : in_pieces (named_pieces s ns) n i ≡ 0 = behind.named fails in omega arith) })
    ]
  where
    own : Above n ns → IsNamedOnce s (ahead n (named_places s n) (named_pieces s ns)) n i
    own above =
        let behind : in_pieces (named_pieces s ns) n i ≡ 0 = none_below s n ns i above in
        let all : in_pieces (ahead n (named_places s n) (named_pieces s ns)) n i ≡ in_piece (piece n (named_places s n)) n i + in_pieces (named_pieces s ns) n i = in_ahead n (named_places s n) (named_pieces s ns) n i in
        let here : in_piece (piece n (named_places s n)) n i ≡ times (named_places s n) i = in_piece-own n (named_places s n) i in
        let few : times (named_places s n) i ≤ times (below (length (records_of s.base n))) i = times-filter (is_named s n) (below (length (records_of s.base n))) i in
        let one : times (below (length (records_of s.base n))) i ≤ 1 = times-below (length (records_of s.base n)) i in
        record {
          once = omega arith;
          named = λ fails. (let nothing : times (named_places s n) i ≡ 0 = times-filter_none (is_named s n) (below (length (records_of s.base n))) i fails in omega arith);
        }

pub first_once : (s : ReplaySetting) (n i : ℕ) → IsNamedOnce s (first_pieces s) n i
first_once s n i = named_once s (rising_shards s.base.streams) n i (rising-shards s.base.streams)
