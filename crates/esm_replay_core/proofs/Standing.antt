-- Where records stand, among those that came and in the list of their shard.
use Rattle.std.proofs.Common.{◌≡◌, ℕ, zero, suc, ◌<◌, ◌≤◌, ◌^◌, List, [], ◌∷◌, ◌++◌, length, take, drop, refl, sym, ap, ◌∙◌, subst, inl, inr, arith, Option, Some, None}
use Rattle.std.specs.Prelude.{◌==◌, map, slice_get}
use Rattle.std.specs.List.{All, filter_map, cons_option}
use Rattle.std.proofs.lemmas.Bool.{cases_Bool, eqb-true}
use Rattle.std.proofs.lemmas.Option.{same_Some}
use Rattle.std.proofs.lemmas.List.{take-append-drop}
use Rattle.std.proofs.lemmas.List.Elements.{All-nil, All-cons, All-head, All-tail, All-weaker, All-filter}
use Rattle.esm_model.specs.Records.{Record}
use Rattle.esm_model.specs.Setting.{Setting, records_of, record_at, records_at, sequences_at}
use Rattle.esm_model.specs.Valid.{IsValidRecord}
use Rattle.esm_record_bounds.specs.Bounds.{AreWithinBounds}
use Rattle.esm_replay_model.specs.ReplaySetting.{ReplaySetting}
use Rattle.esm_replay.specs.declared.rows.Named.{Named}
use Rattle.esm_replay.specs.Records.{of_shard}
use Rattle.esm_replay.specs.Rows.{places_of, Stands}
use Rattle.esm_replay.specs.Waiting.{NamedPiece, IsPlaced}
use Rattle.esm_replay.specs.Batch.{AreWithin, StandWithin}
use Rattle.esm_replay.specs.Saying.{HaveFewRecords}
use Rattle.esm_replay.proofs.Gathering.{records_are}
use Rattle.esm_replay_core.specs.declared.decisions.Opened.{Opened}
use Rattle.esm_replay_core.specs.Kept.{setting_for}
use Rattle.esm_replay_core.proofs.Stateless.{stateless}

-- one of a list

pub found_all : (P : Record → Type 0) (xs : List Record) (i : ℕ) (x : Record) → All P xs → slice_get xs i ≡ Some x → P x
found_all P [] i x all at = absurd cc
found_all P (y ∷ xs) zero x all at = subst P (same_Some y x at) (All-head P y xs all)
found_all P (y ∷ xs) (suc i) x all at = found_all P xs i x (All-tail P y xs all) at

at_within : (xs : List Record) (i : ℕ) (x : Record) → slice_get xs i ≡ Some x → i < length xs
at_within [] i x at = absurd cc
at_within (y ∷ xs) zero x at = omega arith
at_within (y ∷ xs) (suc i) x at = let l = at_within xs i x at in omega arith

pub found_valid : (xs : List Record) (places : List ℕ) → All IsValidRecord xs → All IsValidRecord (filter_map (slice_get xs) places)
found_valid xs [] all = All-nil IsValidRecord
found_valid xs (i ∷ places) all = one (slice_get xs i) (λ x at. found_all IsValidRecord xs i x all at) (filter_map (slice_get xs) places) (found_valid xs places all)
  where
    one : (o : Option Record) → ((x : Record) → o ≡ Some x → IsValidRecord x) → (rest : List Record) → All IsValidRecord rest → All IsValidRecord (cons_option o rest)
    one None valid rest all = all
    one (Some x) valid rest all = All-cons IsValidRecord x rest (valid x refl) all

-- those of a shard

pub own_shard : (n : ℕ) (rs : List Record) (i : ℕ) (r : Record) → slice_get (of_shard n rs) i ≡ Some r → r.shard ≡ n
own_shard n [] i r at = absurd cc
own_shard n (x ∷ rs) zero r at =
    elim (cases_Bool (x.shard == n)) [
      | inl same ↦ (let here : slice_get (of_shard n (x ∷ rs)) 0 ≡ Some x = rw same refl in let is : x ≡ r = same_Some x r (sym here ∙ at) in ap (λ (y : Record). y.shard) (sym is) ∙ eqb-true x.shard n same)
      | inr other ↦ (let there : slice_get (of_shard n (x ∷ rs)) 0 ≡ slice_get (of_shard n rs) 0 = rw other refl in own_shard n rs 0 r (sym there ∙ at))
    ]
own_shard n (x ∷ rs) (suc i) r at =
    elim (cases_Bool (x.shard == n)) [
      | inl same ↦ (let there : slice_get (of_shard n (x ∷ rs)) (suc i) ≡ slice_get (of_shard n rs) i = rw same refl in own_shard n rs i r (sym there ∙ at))
      | inr other ↦ (let there : slice_get (of_shard n (x ∷ rs)) (suc i) ≡ slice_get (of_shard n rs) (suc i) = rw other refl in own_shard n rs (suc i) r (sym there ∙ at))
    ]

pub few_of_shard : (n : ℕ) (rs : List Record) → length (of_shard n rs) ≤ length rs
few_of_shard n [] = omega arith
few_of_shard n (r ∷ rs) =
    let behind : length (of_shard n rs) ≤ length rs = few_of_shard n rs in
    elim (cases_Bool (r.shard == n)) [ inl same ↦ rw same (omega arith) | inr other ↦ rw other (omega arith) ]

pub records_there : (o : Opened) (rs : List Record) (n : ℕ) → records_of (setting_for o rs).base n ≡ of_shard n rs
records_there o rs n = records_are n rs

pub batch_valid : (o : Opened) (rs : List Record) (n : ℕ) (places : List ℕ) → All IsValidRecord rs → All IsValidRecord (records_at (setting_for o rs).base n places)
batch_valid o rs n places all =
    subst (λ (xs : List Record). All IsValidRecord (filter_map (slice_get xs) places)) (sym (records_there o rs n))
    (found_valid (of_shard n rs) places (All-filter (λ (r : Record). r.shard == n) IsValidRecord rs all))

pub within_bounds : (o : Opened) (rs : List Record) → All IsValidRecord rs → AreWithinBounds (stateless (setting_for o rs)).base
within_bounds o rs all = record {
  own_shard = λ n i r at. own_shard n rs i r (ap (λ (xs : List Record). slice_get xs i) (sym (records_there o rs n)) ∙ at);
  valid = λ n i r at. found_all IsValidRecord (of_shard n rs) i r (All-filter (λ (x : Record). x.shard == n) IsValidRecord rs all) (ap (λ (xs : List Record). slice_get xs i) (sym (records_there o rs n)) ∙ at);
  states = λ n w text found. absurd (cc);
}

pub few_records : (o : Opened) (rs : List Record) → length rs < 2 ^ 32 → HaveFewRecords (stateless (setting_for o rs)).base
few_records o rs few n =
    let of : length (of_shard n rs) ≤ length rs = few_of_shard n rs in
    subst (λ (xs : List Record). length xs < 2 ^ 32) (sym (records_there o rs n)) (omega arith)

-- sequence numbers

sequences-append : (s : Setting) (n : ℕ) (xs ys : List ℕ) → sequences_at s n (xs ++ ys) ≡ sequences_at s n xs ++ sequences_at s n ys
sequences-append s n [] ys = refl
sequences-append s n (i ∷ xs) ys = one (record_at s n i) (records_at s n (xs ++ ys)) (records_at s n xs) (sequences_at s n ys) (sequences-append s n xs ys)
  where
    one : (o : Option Record) (all front : List Record) (back : List (List ℕ)) → map (λ (r : Record). r.seq) all ≡ map (λ (r : Record). r.seq) front ++ back
        → map (λ (r : Record). r.seq) (cons_option o all) ≡ map (λ (r : Record). r.seq) (cons_option o front) ++ back
    one None all front back is = is
    one (Some r) all front back is = ap (λ (xs : List (List ℕ)). r.seq ∷ xs) is

pub sequences-take : (s : Setting) (n k : ℕ) (places : List ℕ) → length (sequences_at s n (take k places)) ≡ k → take k (sequences_at s n places) ≡ sequences_at s n (take k places)
sequences-take s n k places long =
    let front : List (List ℕ) = sequences_at s n (take k places) in
    let back : List (List ℕ) = sequences_at s n (drop k places) in
    ap (take k) (ap (sequences_at s n) (sym (take-append-drop k places)) ∙ sequences-append s n (take k places) (drop k places))
    ∙ ap (λ (j : ℕ). take j (front ++ back)) (sym long)
    ∙ take_front front back
  where
    take_front : (xs ys : List (List ℕ)) → take (length xs) (xs ++ ys) ≡ xs
    take_front [] ys = refl
    take_front (x ∷ xs) ys = ap (λ (zs : List (List ℕ)). x ∷ zs) (take_front xs ys)

-- where named records stand

pub stand_within : (s : ReplaySetting) (rs : List Record) (ps : List NamedPiece) → All (IsPlaced s rs) ps → StandWithin (length rs) ps
stand_within s rs ps all =
    All-weaker (IsPlaced s rs) (λ (p : NamedPiece). AreWithin (length rs) p.named) (λ p own. All-weaker (Stands s rs p.shard) (λ (d : Named). d.at < length rs) (λ d stands. at_within rs d.at stands.own stands.among) p.named own) ps all

pub as_many : (s : ReplaySetting) (rs : List Record) (n : ℕ) (ds : List Named) → All (Stands s rs n) ds → length (sequences_at s.base n (places_of ds)) ≡ length ds
as_many s rs n [] all = refl
as_many s rs n (d ∷ ds) all =
    let own : Stands s rs n d = All-head (Stands s rs n) d ds all in
    ap (λ (o : Option Record). length (map (λ (r : Record). r.seq) (cons_option o (records_at s.base n (places_of ds))))) own.there
    ∙ ap suc (as_many s rs n ds (All-tail (Stands s rs n) d ds all))
