-- The names of records, written one after the other.
use Rattle.std.proofs.Common.{◌≡◌, ℕ, zero, suc, ◌+◌, ◌<◌, ◌≤◌, List, [], ◌∷◌, ◌++◌, length, map, drop, get_or, refl, sym, ap, ◌∙◌, append_assoc, Option, Some, None, arith}
use Rattle.std.specs.Prelude.{filter_map}
use Rattle.std.specs.List.{cons_option}
use Rattle.std.proofs.Math.Seq.{drop-cons}
use Rattle.esm_model.specs.Records.{Record}
use Rattle.esm_journal_record.specs.Payload.{name_bytes, names_bytes}

-- the sequence numbers of the records that stand at the places
abbrev pub named : (ℕ → Option Record) → List ℕ → List (List ℕ)
named f places = map (λ (r : Record). r.seq) (filter_map f places)

one_more : (o : Option Record) (rs : List Record) → length (map (λ (r : Record). r.seq) (cons_option o rs)) ≤ suc (length (map (λ (r : Record). r.seq) rs))
one_more None rs = omega arith
one_more (Some r) rs = omega arith

named_few : (f : ℕ → Option Record) (places : List ℕ) → length (named f places) ≤ length places
named_few f [] = omega arith
named_few f (p ∷ places) =
    let more : length (named f (p ∷ places)) ≤ suc (length (named f places)) = one_more (f p) (filter_map f places) in
    let rest = named_few f places in
    omega (arith, more, rest)

-- where there are as many as places, one stands at each
none_stands : (f : ℕ → Option Record) (places : List ℕ) (i : ℕ) → length (named f places) ≡ length places → i < length places → f (get_or places i 0) ≡ None → ⊥
none_stands f [] i same low none = omega (arith, low)
none_stands f (p ∷ places) zero same low none =
    let rest = named_few f places in
    let short : length (named f (p ∷ places)) ≡ length (named f places) = ap (λ (o : Option Record). length (map (λ (r : Record). r.seq) (cons_option o (filter_map f places)))) none in
    omega (arith, same, rest, short)
none_stands f (p ∷ places) (suc i) same low none =
    let more : length (named f (p ∷ places)) ≤ suc (length (named f places)) = one_more (f p) (filter_map f places) in
    let rest = named_few f places in
    let all : length (named f places) ≡ length places = omega (arith, same, more, rest) in
    none_stands f places i all (omega (arith, low)) none

named_cons : (f : ℕ → Option Record) (p : ℕ) (r : Record) (places : List ℕ) → f p ≡ Some r → named f (p ∷ places) ≡ r.seq ∷ named f places
named_cons f p r places at = ap (λ (o : Option Record). map (λ (x : Record). x.seq) (cons_option o (filter_map f places))) at

-- the name of the next record is written
pub name_next : (f : ℕ → Option Record) (places : List ℕ) (i : ℕ) (r : Record) (out now all : List ℕ) → i < length places → f (get_or places i 0) ≡ Some r → now ≡ out ++ name_bytes (get_or places i 0) r.seq
    → out ++ names_bytes (drop i places) (named f (drop i places)) ≡ all → now ++ names_bytes (drop (i + 1) places) (named f (drop (i + 1) places)) ≡ all
name_next f places i r out now all low at more so_far =
    let place = get_or places i 0 in
    let rest = drop (i + 1) places in
    let e : suc i ≡ i + 1 = omega arith in
    let next : drop i places ≡ place ∷ drop (i + 1) places = drop-cons places i 0 low ∙ ap (λ (n : ℕ). place ∷ drop n places) e in
    let spelled : names_bytes (drop i places) (named f (drop i places)) ≡ name_bytes place r.seq ++ names_bytes rest (named f rest)
    = ap (λ (ys : List ℕ). names_bytes ys (named f ys)) next ∙ ap (names_bytes (place ∷ rest)) (named_cons f place r rest at) in
    ap (λ (xs : List ℕ). xs ++ names_bytes rest (named f rest)) more
    ∙ (append_assoc out (name_bytes place r.seq) (names_bytes rest (named f rest))
    ∙ (ap (λ (xs : List ℕ). out ++ xs) (sym spelled) ∙ so_far))

-- and so where it is looked up
pub name_found : (f : ℕ → Option Record) (places : List ℕ) (i : ℕ) (o : Option Record) (out now all : List ℕ) → length (named f places) ≡ length places → i < length places → o ≡ f (get_or places i 0)
    → ((r : Record) → o ≡ Some r → now ≡ out ++ name_bytes (get_or places i 0) r.seq)
    → out ++ names_bytes (drop i places) (named f (drop i places)) ≡ all → now ++ names_bytes (drop (i + 1) places) (named f (drop (i + 1) places)) ≡ all
name_found f places i None out now all same low is more so_far = absurd (none_stands f places i same low (sym is))
name_found f places i (Some r) out now all same low is more so_far = name_next f places i r out now all low (sym is) (more r refl) so_far
