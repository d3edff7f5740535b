-- The records that are gathered for a call are the longest front that one event may have.
use Rattle.std.proofs.Common.{◌≡◌, ℕ, zero, suc, ◌+◌, ◌<◌, ◌≤◌, Bool, true, false, List, [], ◌∷◌, ◌++◌, length, length-append, get_or, take, drop, sum_by, refl, sym, ap, ap₂, ◌∙◌, subst, arith, add-one, Option, Some, None}
use Rattle.std.specs.Prelude.{slice_get, nat_le}
use Rattle.std.specs.List.{All, cons_option}
use Rattle.std.proofs.Math.Seq.{drop-cons}
use Rattle.std.proofs.lemmas.List.{length-take-le, take_more, take-map, length-map}
use Rattle.std.proofs.lemmas.Option.{same_Some}
use Rattle.std.proofs.lemmas.List.Sums.{sum_by-append}
use Rattle.std.proofs.lemmas.List.Elements.{All-head, All-tail, All-take}
use Rattle.std.proofs.lemmas.Bool.{and_from, and_left, and_right, and_parts, le-leb, lt-leb, leb-true}
use Rattle.esm_model.specs.declared.limits.TheConstants.{MAX_EVENT}
use Rattle.esm_model.specs.declared.config.Config.{Config}
use Rattle.esm_model.specs.declared.config.Kind.{Kind}
use Rattle.esm_model.specs.declared.config.Kind.TheVariants.{Stream, Standard, Fifo}
use Rattle.esm_model.specs.Valid.{IsStreamConfig, IsValidRecord, is_batch_size}
use Rattle.esm_model.specs.Records.{Record}
use Rattle.esm_model.specs.Setting.{records_at}
use Rattle.esm_model.specs.Batches.{longest}
use Rattle.esm_model.specs.EventText.{event_text, record_text}
use Rattle.esm_model.proofs.EventLength.{length-event_text}
use Rattle.esm_event.proofs.LengthLemmas.{frame_length}
use Rattle.esm_replay_model.specs.ReplaySetting.{ReplaySetting, config_of}
use Rattle.esm_replay.specs.declared.rows.Named.{Named}
use Rattle.esm_replay.specs.Rows.{places_of, Stands}
use Rattle.esm_replay.specs.Batch.{record_named, records_named, fits_for, AreWithin, IsPlacedIn}

-- the longest front, item by item

next : (xs : List ℕ) (i : ℕ) → i < length xs → drop i xs ≡ get_or xs i 0 ∷ drop (i + 1) xs
next xs i h = drop-cons xs i 0 h ∙ ap (λ k. get_or xs i 0 ∷ drop k xs) (sym (add-one i))

-- the next item does not pass
pub cut_stops : (p : List ℕ → Bool) (xs : List ℕ) (i : ℕ) → i < length xs → p (take (i + 1) xs) ≡ false → longest p (take i xs) (drop i xs) ≡ longest p [] xs → take i xs ≡ longest p [] xs
cut_stops p xs i h fails so_far =
    let more : take (i + 1) xs ≡ take i xs ++ get_or xs i 0 ∷ [] = take_more xs i 0 h in
    let fails' : p (take i xs ++ get_or xs i 0 ∷ []) ≡ false = ap p (sym more) ∙ fails in
    let here : longest p (take i xs) (get_or xs i 0 ∷ drop (i + 1) xs) ≡ take i xs = rw fails' in
    sym here ∙ ap (longest p (take i xs)) (sym (next xs i h)) ∙ so_far

-- it passes
pub cut_goes : (p : List ℕ → Bool) (xs : List ℕ) (i : ℕ) → i < length xs → p (take (i + 1) xs) ≡ true → longest p (take i xs) (drop i xs) ≡ longest p [] xs → longest p (take (i + 1) xs) (drop (i + 1) xs) ≡ longest p [] xs
cut_goes p xs i h passes so_far =
    let more : take (i + 1) xs ≡ take i xs ++ get_or xs i 0 ∷ [] = take_more xs i 0 h in
    let passes' : p (take i xs ++ get_or xs i 0 ∷ []) ≡ true = ap p (sym more) ∙ passes in
    let here : longest p (take i xs) (get_or xs i 0 ∷ drop (i + 1) xs) ≡ longest p (take i xs ++ get_or xs i 0 ∷ []) (drop (i + 1) xs) = rw passes' in
    ap (λ ys. longest p ys (drop (i + 1) xs)) more ∙ sym here ∙ ap (longest p (take i xs)) (sym (next xs i h)) ∙ so_far

-- there is none
pub cut_ends : (p : List ℕ → Bool) (xs : List ℕ) (i : ℕ) → length xs ≤ i → longest p (take i xs) (drop i xs) ≡ longest p [] xs → take i xs ≡ longest p [] xs
cut_ends p xs i h so_far = ap (longest p (take i xs)) (sym (drop_all xs i h)) ∙ so_far
  where
    drop_all : (xs : List ℕ) (i : ℕ) → length xs ≤ i → drop i xs ≡ []
    drop_all [] zero h = refl
    drop_all [] (suc i) h = refl
    drop_all (x ∷ xs) zero h = absurd (omega arith)
    drop_all (x ∷ xs) (suc i) h = drop_all xs i (omega arith)

-- records

records_next : (rs : List Record) (ds : List Named) (i : ℕ) (r : Record) → record_named rs ds i ≡ Some r → records_named rs (take (suc i) ds) ≡ records_named rs (take i ds) ++ r ∷ []
records_next rs [] i r at = absurd cc
records_next rs (d ∷ ds) zero r at = ap (λ (o : Option Record). cons_option o []) at
records_next rs (d ∷ ds) (suc i) r at = after (slice_get rs d.at) (records_named rs (take (suc i) ds)) (records_named rs (take i ds)) r (records_next rs ds i r at)
  where
    after : (o : Option Record) (xs ys : List Record) (r : Record) → xs ≡ ys ++ r ∷ [] → cons_option o xs ≡ cons_option o ys ++ r ∷ []
    after None xs ys r is = is
    after (Some q) xs ys r is = ap (λ (zs : List Record). q ∷ zs) is

pub records_more : (rs : List Record) (ds : List Named) (i : ℕ) (r : Record) → record_named rs ds i ≡ Some r → records_named rs (take (i + 1) ds) ≡ records_named rs (take i ds) ++ r ∷ []
records_more rs ds i r at = ap (λ (k : ℕ). records_named rs (take k ds)) (add-one i) ∙ records_next rs ds i r at

-- what holds of each record that came holds of a named one
pub named_valid : (rs : List Record) (ds : List Named) (i : ℕ) (r : Record) → All IsValidRecord rs → record_named rs ds i ≡ Some r → IsValidRecord r
named_valid rs [] i r all at = absurd cc
named_valid rs (d ∷ ds) zero r all at = found rs d.at all at
  where
    found : (rs : List Record) (k : ℕ) → All IsValidRecord rs → slice_get rs k ≡ Some r → IsValidRecord r
    found [] k all at = absurd cc
    found (q ∷ rs) zero all at = subst IsValidRecord (same_Some q r at) (All-head IsValidRecord q rs all)
    found (q ∷ rs) (suc k) all at = found rs k (All-tail IsValidRecord q rs all) at
named_valid rs (d ∷ ds) (suc i) r all at = named_valid rs ds i r all at

-- a named record stands among those that came
pub no_record : (rs : List Record) (ds : List Named) (i : ℕ) → i < length ds → AreWithin (length rs) ds → None ≡ record_named rs ds i → ⊥
no_record rs [] i l all none = absurd (omega arith)
no_record rs (d ∷ ds) zero l all none = found rs d.at (All-head (λ (x : Named). x.at < length rs) d ds all) none
  where
    found : (rs : List Record) (k : ℕ) → k < length rs → None ≡ slice_get rs k → ⊥
    found [] k l none = absurd (omega arith)
    found (r ∷ rs) zero l none = absurd cc
    found (r ∷ rs) (suc k) l none = found rs k (omega arith) none
no_record rs (d ∷ ds) (suc i) l all none = no_record rs ds i (omega arith) (All-tail (λ (x : Named). x.at < length rs) d ds all) none

-- those at the places are those that are named
pub records_there : (s : ReplaySetting) (rs : List Record) (n : ℕ) (ds : List Named) → All (Stands s rs n) ds → records_at s.base n (places_of ds) ≡ records_named rs ds
records_there s rs n [] stand = refl
records_there s rs n (d ∷ ds) stand =
    let own : Stands s rs n d = All-head (Stands s rs n) d ds stand in
    ap₂ (λ (o : Option Record) (xs : List Record). cons_option o xs) (own.there ∙ sym own.among) (records_there s rs n ds (All-tail (Stands s rs n) d ds stand))

-- bytes

abbrev pub element_bytes : Config → List Record → ℕ
element_bytes c rs = sum_by (λ (r : Record). length (record_text c r)) rs

pub bytes_more : (c : Config) (rs : List Record) (r : Record) → element_bytes c (rs ++ r ∷ []) ≡ element_bytes c rs + length (record_text c r)
bytes_more c rs r = let s = sum_by-append (λ (x : Record). length (record_text c x)) rs (r ∷ []) in omega (arith, s)

event_more : (c : Config) (rs : List Record) (r : Record) → length (event_text c (rs ++ r ∷ []) None) ≡ 14 + (element_bytes c rs + length (record_text c r)) + length rs
event_more c rs r =
    let e = length-event_text c (rs ++ r ∷ []) None in
    let empty = frame_length c None in
    let s = bytes_more c rs r in
    let l = length-append rs (r ∷ []) in
    omega (arith, e, empty, s, l)

module _ (s : ReplaySetting) (c : Config) (rs : List Record) (n : ℕ) (ds : List Named) (i : ℕ) (placed : IsPlacedIn s c rs n ds) (h : i < length ds) where
  within : i < length (places_of ds)
  within = omega (arith, length-map ds (λ (d : Named). d.place))

  taken : length (take (i + 1) (places_of ds)) ≡ i + 1
  taken = length-take-le (i + 1) (places_of ds) (let w = within in omega arith)

  batch_size : (config_of s).batch_size ≡ c.batch_size
  batch_size = ap (λ (x : Config). x.batch_size) placed.config_is

  -- the batch has its size
  pub fits_not_count : c.batch_size ≤ i → fits_for s n (take (i + 1) (places_of ds)) ≡ false
  fits_not_count full = and_left _ _ (let t = taken in let b = batch_size in lt-leb (length (take (i + 1) (places_of ds))) (config_of s).batch_size (omega (arith, t, b, full)))

  module _ (r : Record) (at : record_named rs ds i ≡ Some r) (batch : List Record) (so_far : batch ≡ records_named rs (take i ds)) (count : length batch ≡ i) where
    event_at : length (event_text (config_of s) (records_at s.base n (take (i + 1) (places_of ds))) None) ≡ 14 + (element_bytes c batch + length (record_text c r)) + i
    event_at =
        let there : records_at s.base n (take (i + 1) (places_of ds)) ≡ records_named rs (take (i + 1) ds) =
        ap (records_at s.base n) (take-map (λ (x : Named). x.place) (i + 1) ds) ∙ records_there s rs n (take (i + 1) ds) (All-take (Stands s rs n) (i + 1) ds placed.stand) in
        let more : records_named rs (take (i + 1) ds) ≡ batch ++ r ∷ [] = records_more rs ds i r at ∙ ap (λ (ys : List Record). ys ++ r ∷ []) (sym so_far) in
        ap₂ (λ (x : Config) (ys : List Record). length (event_text x ys None)) placed.config_is (there ∙ more) ∙ event_more c batch r ∙ ap (λ (k : ℕ). 14 + (element_bytes c batch + length (record_text c r)) + k) count

    -- one more record makes the event too long
    pub fits_not_bytes : MAX_EVENT < 14 + (element_bytes c batch + length (record_text c r)) + i → fits_for s n (take (i + 1) (places_of ds)) ≡ false
    fits_not_bytes big = and_right _ _ (lt-leb (length (event_text (config_of s) (records_at s.base n (take (i + 1) (places_of ds))) None)) MAX_EVENT (subst (λ (k : ℕ). MAX_EVENT < k) (sym event_at) big))

    -- it finds room
    pub fits_yes : i < c.batch_size → 14 + (element_bytes c batch + length (record_text c r)) + i ≤ MAX_EVENT → fits_for s n (take (i + 1) (places_of ds)) ≡ true
    fits_yes few small =
        and_from _ _ (let t = taken in let b = batch_size in le-leb (length (take (i + 1) (places_of ds))) (config_of s).batch_size (omega (arith, t, b, few)))
        (le-leb (length (event_text (config_of s) (records_at s.base n (take (i + 1) (places_of ds))) None)) MAX_EVENT (subst (λ (k : ℕ). k ≤ MAX_EVENT) (sym event_at) small))

-- a mapping's batch has room for one record
pub some_in_batch : (c : Config) → IsStreamConfig c → 1 ≤ c.batch_size
some_in_batch c is = sized c.kind is.kind is.valid.batch_size
  where
    sized : (k : Kind) → k ≡ Stream → is_batch_size k c.batch_size ≡ true → 1 ≤ c.batch_size
    sized Stream e within = leb-true 1 c.batch_size (and_parts (nat_le 1 c.batch_size) _ within).0
    sized Standard e within = absurd cc
    sized Fifo e within = absurd cc

-- what is gathered is a call of the piece
pub batch_is : (s : ReplaySetting) (c : Config) (rs : List Record) (n : ℕ) (ds : List Named) (count : ℕ) (batch : List Record) (places : List ℕ) → IsPlacedIn s c rs n ds → count ≤ length ds → 1 ≤ count
    → batch ≡ records_named rs (take count ds) → take count (places_of ds) ≡ longest (fits_for s n) [] (places_of ds) → places ≡ places_of (take count ds)
    → (places ≡ longest (fits_for s n) [] (places_of ds)) × (batch ≡ records_at s.base n places) × (1 ≤ length places)
batch_is s c rs n ds count batch places placed within some records all is =
    let front : take count (places_of ds) ≡ places_of (take count ds) = take-map (λ (d : Named). d.place) count ds in
    let long : length places ≡ count = ap (λ (xs : List ℕ). length xs) is ∙ length-map (take count ds) (λ (d : Named). d.place) ∙ length-take-le count ds within in (
      is ∙ sym front ∙ all,
      records ∙ sym (records_there s rs n (take count ds) (All-take (Stands s rs n) count ds placed.stand)) ∙ ap (records_at s.base n) (sym is),
      omega (arith, long, some),
    )
