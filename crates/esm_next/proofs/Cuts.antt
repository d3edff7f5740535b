-- The cut of the front's pieces is the batch, and why it may begin is whether the group is ready.
use Rattle.std.proofs.Common.{◌≡◌, ℕ, zero, suc, ◌+◌, ◌<◌, ◌≤◌, Bool, true, false, not, cond, ◌&&◌, ◌||◌, List, [], ◌∷◌, length, take, map, refl, sym, ap, ◌∙◌, subst, ◌⊎◌, inl, inr, Option, Some, None, arith, take-take}
use Rattle.std.specs.Prelude.{◌==◌, nat_le, nat_lt, slice_index, sum_by, is_some, option_map, unwrap_or}
use Rattle.std.specs.List.{list_all, All, AllByRecursion}
use Rattle.std.proofs.lemmas.Bool.{cases_Bool, and_parts, and_from, or_cases, or_left, or_right, leb-true, le-leb, eqb-true, eq-eqb, ltb-true, ltb-false, lt-ltb, le-ltb}
use Rattle.std.proofs.lemmas.List.{length-take-le}
use Rattle.std.proofs.lemmas.List.Elements.{All-from_recursion, recursion_from_All}
use Rattle.std.proofs.lemmas.List.Sums.{sum_by-cons}
use Rattle.esm_model.specs.declared.limits.TheConstants.{MAX_EVENT}
use Rattle.esm_model.specs.Moment.{moment_after}
use Rattle.esm_model.specs.Records.{Record}
use Rattle.esm_model.specs.declared.lane.LaneId.{LaneId}
use Rattle.esm_model.specs.declared.entry.Entry.{Entry}
use Rattle.esm_model.specs.declared.book.Next.TheVariants as next
use Rattle.esm_model.specs.Setting.{Setting, record_at, records_at}
use Rattle.esm_model.specs.Entries.{came_moment, is_shut}
use Rattle.esm_model.specs.Tries.{is_fresh}
use Rattle.esm_model.specs.Windows.{has_windows, window_of}
use Rattle.esm_model.specs.EventText.{record_text}
use Rattle.esm_model.specs.Calls.{window_call, event_of}
use Rattle.esm_model.specs.Batches.{is_older, is_expired, is_one_window, fits, group, batch, is_group_ready}
use Rattle.esm_model.specs.Laws.{IsLongestPrefix as IsModelPrefix}
use Rattle.esm_model.proofs.EventLength.{length-event_text}
use Rattle.esm_model.proofs.Fits.{batch_longest}
use Rattle.esm_model.proofs.Lists.{In, In-here, In-there, In-take}
use Rattle.esm_next.specs.declared.piece.SizedItem.{SizedItem}
use Rattle.esm_next.specs.declared.piece.Limits.{Limits}
use Rattle.esm_next.specs.declared.piece.Why.{Why}
use Rattle.esm_next.specs.declared.piece.Why.TheVariants.{Full, Waited, Shut, Waiting}
use Rattle.esm_next.specs.Cuts.{Fits, IsLongestPrefix, first_came, payload_bytes, why_of, wait_end}
use Rattle.esm_next.specs.Cuts as cuts
use Rattle.esm_next.specs.Following.{job_of, next_batch}
use Rattle.esm_next.specs.Gathering.{element_bytes, window_in, piece_of, frame_of, limits_of, wait_of}

-- the records at the places came
abbrev pub Stand : Setting → ℕ → List ℕ → Type 0
Stand s n places = (i : ℕ) → In places i → is_some (record_at s n i) ≡ true

module _ (s : Setting) (h : List Entry) (n : ℕ) where
  piece : ℕ → SizedItem
  piece = piece_of s h n

  -- the elements' bytes

  record_bytes : Record → ℕ
  record_bytes r = length (record_text s.config r)

  piece_bytes : SizedItem → ℕ
  piece_bytes p = p.bytes

  pub record Measured (places : List ℕ) : Type 0 where
    pub sum : sum_by (λ (r : Record). length (record_text s.config r)) (records_at s n places) ≡ sum_by (λ (p : SizedItem). p.bytes) (map (piece_of s h n) places)
    pub long : length (records_at s n places) ≡ length (map (piece_of s h n) places)

  measured_more : (x : ℕ) (xs : List ℕ) (o : Option Record) → record_at s n x ≡ o → is_some o ≡ true → Measured xs → Measured (x ∷ xs)
  measured_more x xs None is some before = cc
  measured_more x xs (Some r) is some before =
      let all : records_at s n (x ∷ xs) ≡ r ∷ records_at s n xs = rw is refl in
      let bytes : element_bytes s n x ≡ length (record_text s.config r) = rw is refl in
      record {
        sum = ap (sum_by (λ (q : Record). length (record_text s.config q))) all ∙ omega (
          arith,
          sum_by-cons (λ (q : Record). length (record_text s.config q)) r (records_at s n xs),
          sum_by-cons (λ (p : SizedItem). p.bytes) (piece_of s h n x) (map (piece_of s h n) xs),
          before.sum,
          bytes,
        );
        long = ap length all ∙ ap suc before.long;
      }

  pub measured : (places : List ℕ) → Stand s n places → Measured places
  measured [] stand = record { sum = refl; long = refl }
  measured (x ∷ xs) stand = measured_more x xs (record_at s n x) refl (stand x (In-here x xs x refl)) (measured xs (λ i member. stand i (In-there x xs i member)))

  event_bytes : (x : ℕ) (xs : List ℕ) → Stand s n (x ∷ xs) → length (event_of s h n (x ∷ xs) None) ≡ frame_of s (window_call s h n (x ∷ []) None) + payload_bytes (map (piece_of s h n) (x ∷ xs))
  event_bytes x xs stand =
      let m = measured (x ∷ xs) stand in
      omega (arith, length-event_text s.config (records_at s n (x ∷ xs)) (window_call s h n (x ∷ xs) None), m.sum, m.long)

  -- what holds of each

  all_to : (p : ℕ → Bool) (Q : SizedItem → Type 0) (zs : List ℕ) → ((i : ℕ) → In zs i → p i ≡ true → Q (piece_of s h n i)) → list_all p zs ≡ true → AllByRecursion Q (map (piece_of s h n) zs)
  all_to p Q [] each all = tt
  all_to p Q (x ∷ xs) each all =
      let both = and_parts (p x) (list_all p xs) all in
      (each x (In-here x xs x refl) both.0, all_to p Q xs (λ i member. each i (In-there x xs i member)) both.1)

  all_back : (p : ℕ → Bool) (Q : SizedItem → Type 0) (zs : List ℕ) → ((i : ℕ) → In zs i → Q (piece_of s h n i) → p i ≡ true) → AllByRecursion Q (map (piece_of s h n) zs) → list_all p zs ≡ true
  all_back p Q [] each all = refl
  all_back p Q (x ∷ xs) each all = and_from (p x) (list_all p xs) (each x (In-here x xs x refl) all.0) (all_back p Q xs (λ i member. each i (In-there x xs i member)) all.1)

  -- the age

  expired_at : (age : Option ℕ) (m : ℕ) (o : Option Record) (b c w : ℕ) → is_some o ≡ true
      → unwrap_or (option_map (λ (r : Record). is_older age r m) o) false ≡ cuts.is_expired age m (record { bytes = b; came = c; arrival = unwrap_or (option_map (λ (r : Record). r.arrival) o) 0; window = w })
  expired_at age m None b c w some = cc
  expired_at None m (Some r) b c w some = refl
  expired_at (Some age) m (Some r) b c w some = refl

  pub expired_is : (m i : ℕ) → is_some (record_at s n i) ≡ true → is_expired s n m i ≡ cuts.is_expired s.config.age_ms m (piece_of s h n i)
  expired_is m i stands = expired_at s.config.age_ms m (record_at s n i) (element_bytes s n i) (came_moment h n i) (window_in s n i) stands

  young_from : (a b : Bool) → a ≡ b → not a ≡ true → b ≡ false
  young_from true b e is = cc
  young_from false b e is = sym e

  young_back : (a b : Bool) → a ≡ b → b ≡ false → not a ≡ true
  young_back true b e is = (let clash : true ≡ false = e ∙ is in cc)
  young_back false b e is = refl

  -- the windows

  window_to : (x : ℕ) (zs : List ℕ) → is_one_window s n (x ∷ zs) ≡ true → All (λ (p : SizedItem). p.window ≡ window_in s n x) (map (piece_of s h n) (x ∷ zs))
  window_to x zs is =
      let Q : SizedItem → Type 0 = λ p. p.window ≡ window_in s n x in
      All-from_recursion Q (map (piece_of s h n) (x ∷ zs)) (elim (cases_Bool (has_windows s.config)) [
        | inr none ↦ all_to (λ i. true) Q (x ∷ zs) (λ i member _. rw none refl) (everything (x ∷ zs))
        | inl has ↦ all_to (λ i. window_of s n i == window_of s n x) Q (x ∷ zs) (λ i member same. rw has (eqb-true (window_of s n i) (window_of s n x) same)) (of_one has (or_cases (not (has_windows s.config)) (list_all (λ i. window_of s n i == window_of s n x) (x ∷ zs)) is))
      ])
    where
      everything : (ys : List ℕ) → list_all (λ i. true) ys ≡ true
      everything [] = refl
      everything (y ∷ ys) = everything ys

      of_one : has_windows s.config ≡ true → (not (has_windows s.config) ≡ true) ⊎ (list_all (λ i. window_of s n i == window_of s n x) (x ∷ zs) ≡ true) → list_all (λ i. window_of s n i == window_of s n x) (x ∷ zs) ≡ true
      of_one has (inl none) = (let clash : false ≡ true = ap not (sym has) ∙ none in absurd cc)
      of_one has (inr one) = one

  window_back : (x : ℕ) (zs : List ℕ) → All (λ (p : SizedItem). p.window ≡ window_in s n x) (map (piece_of s h n) (x ∷ zs)) → is_one_window s n (x ∷ zs) ≡ true
  window_back x zs all =
      let Q : SizedItem → Type 0 = λ p. p.window ≡ window_in s n x in
      let one = list_all (λ i. window_of s n i == window_of s n x) (x ∷ zs) in
      elim (cases_Bool (has_windows s.config)) [
        | inr none ↦ or_left (not (has_windows s.config)) one (ap not none)
        | inl has ↦ or_right (not (has_windows s.config)) one (all_back (λ i. window_of s n i == window_of s n x) Q (x ∷ zs) (λ i member same. eq-eqb (window_of s n i) (window_of s n x) (rw has at same)) (recursion_from_All Q (map (piece_of s h n) (x ∷ zs)) all))
      ]

  -- the four limits

  length-map : (zs : List ℕ) → length (map (piece_of s h n) zs) ≡ length zs
  length-map [] = refl
  length-map (z ∷ zs) = ap suc (length-map zs)

  abbrev limits : ℕ → Limits
  limits x = limits_of s h (window_call s h n (x ∷ []) None)

  fits_to : (m x : ℕ) (zs : List ℕ) → Stand s n (x ∷ zs) → fits s h n m (x ∷ zs) ≡ true → Fits (limits x) m (map (piece_of s h n) (x ∷ zs))
  fits_to m x zs stand passes =
      let size = nat_le (length (x ∷ zs)) s.config.batch_size in
      let event = nat_le (length (event_of s h n (x ∷ zs) None)) MAX_EVENT in
      let window = is_one_window s n (x ∷ zs) in
      let young = list_all (λ i. not (is_expired s n m i)) (x ∷ zs) in
      let first = and_parts (size && event && window) young passes in
      let second = and_parts (size && event) window first.0 in
      let third = and_parts size event second.0 in
      let Q : SizedItem → Type 0 = λ p. cuts.is_expired s.config.age_ms m p ≡ false in
      record {
        count = omega (arith, length-map (x ∷ zs), leb-true (length (x ∷ zs)) s.config.batch_size third.0);
        payload = omega (arith, leb-true (length (event_of s h n (x ∷ zs) None)) MAX_EVENT third.1, event_bytes x zs stand);
        window = window_to x zs second.1;
        fresh = All-from_recursion Q (map (piece_of s h n) (x ∷ zs)) (all_to (λ i. not (is_expired s n m i)) Q (x ∷ zs) (λ i member is. young_from (is_expired s n m i) (cuts.is_expired s.config.age_ms m (piece_of s h n i)) (expired_is m i (stand i member)) is) first.1);
      }

  fits_back : (m x : ℕ) (zs : List ℕ) → Stand s n (x ∷ zs) → frame_of s (window_call s h n (x ∷ []) None) ≤ MAX_EVENT → Fits (limits x) m (map (piece_of s h n) (x ∷ zs)) → fits s h n m (x ∷ zs) ≡ true
  fits_back m x zs stand framed is =
      let Q : SizedItem → Type 0 = λ p. cuts.is_expired s.config.age_ms m p ≡ false in
      let size : length (x ∷ zs) ≤ s.config.batch_size = omega (arith, length-map (x ∷ zs), is.count) in
      let event : length (event_of s h n (x ∷ zs) None) ≤ MAX_EVENT = omega (arith, is.payload, event_bytes x zs stand, framed) in
      and_from _ _ (and_from _ _ (and_from _ _ (le-leb (length (x ∷ zs)) s.config.batch_size size) (le-leb (length (event_of s h n (x ∷ zs) None)) MAX_EVENT event))
      (window_back x zs is.window))
      (all_back (λ i. not (is_expired s n m i)) Q (x ∷ zs) (λ i member fresh. young_back (is_expired s n m i) (cuts.is_expired s.config.age_ms m (piece_of s h n i)) (expired_is m i (stand i member)) fresh) (recursion_from_All Q (map (piece_of s h n) (x ∷ zs)) is.fresh))

  take-map : (k : ℕ) (zs : List ℕ) → take k (map (piece_of s h n) zs) ≡ map (piece_of s h n) (take k zs)
  take-map zero zs = refl
  take-map (suc k) [] = refl
  take-map (suc k) (z ∷ zs) = ap (λ ys. piece_of s h n z ∷ ys) (take-map k zs)

  -- the same of a prefix that is not empty of places that begin with x

  prefix_to : (m x : ℕ) (rest : List ℕ) (k : ℕ) → 1 ≤ k → Stand s n (x ∷ rest) → fits s h n m (take k (x ∷ rest)) ≡ true → Fits (limits x) m (map (piece_of s h n) (take k (x ∷ rest)))
  prefix_to m x rest zero some stand passes = absurd (omega arith)
  prefix_to m x rest (suc k) some stand passes = fits_to m x (take k rest) (λ i member. stand i (In-take (suc k) (x ∷ rest) i member)) passes

  prefix_back : (m x : ℕ) (rest : List ℕ) (k : ℕ) → 1 ≤ k → Stand s n (x ∷ rest) → frame_of s (window_call s h n (x ∷ []) None) ≤ MAX_EVENT → Fits (limits x) m (map (piece_of s h n) (take k (x ∷ rest))) → fits s h n m (take k (x ∷ rest)) ≡ true
  prefix_back m x rest zero some stand framed is = absurd (omega arith)
  prefix_back m x rest (suc k) some stand framed is = fits_back m x (take k rest) (λ i member. stand i (In-take (suc k) (x ∷ rest) i member)) framed is

  within_size : (m : ℕ) (places : List ℕ) → fits s h n m places ≡ true → length places ≤ s.config.batch_size
  within_size m places passes =
      let size = nat_le (length places) s.config.batch_size in
      let event = nat_le (length (event_of s h n places None)) MAX_EVENT in
      let first = and_parts (size && event && is_one_window s n places) (list_all (λ i. not (is_expired s n m i)) places) passes in
      leb-true (length places) s.config.batch_size (and_parts size event (and_parts (size && event) (is_one_window s n places) first.0).0).0

-- the cut of the group's front, of at most one place more than the batch size

pub record IsCutOf (s : Setting) (h : List Entry) (lane : LaneId) (m x : ℕ) (rest front : List ℕ) (count : ℕ) : Type 0 where
  pub group_is : group s h lane ≡ x ∷ rest
  pub front_is : front ≡ take (s.config.batch_size + 1) (x ∷ rest)
  pub stand : Stand s lane.shard (x ∷ rest)
  pub framed : frame_of s (window_call s h lane.shard (x ∷ []) None) ≤ MAX_EVENT
  pub cut : IsLongestPrefix (limits_of s h (window_call s h lane.shard (x ∷ []) None)) m (map (piece_of s h lane.shard) front) count

length_take : (k : ℕ) (xs : List ℕ) → length (take k xs) ≤ length xs
length_take zero xs = omega arith
length_take (suc k) [] = omega arith
length_take (suc k) (x ∷ xs) = (let rest = length_take k xs in omega (arith, rest))

long_take : (k j : ℕ) (xs : List ℕ) → j ≤ k → j ≤ length xs → j ≤ length (take k xs)
long_take zero zero xs low within = omega arith
long_take zero (suc j) xs low within = absurd (omega arith)
long_take (suc k) j [] low within = within
long_take (suc k) zero (x ∷ xs) low within = omega arith
long_take (suc k) (suc j) (x ∷ xs) low within = (let rest = long_take k j xs (omega arith) (omega arith) in omega (arith, rest))

few_take : (k : ℕ) (xs : List ℕ) → length (take k xs) ≤ k
few_take zero xs = omega arith
few_take (suc k) [] = omega arith
few_take (suc k) (x ∷ xs) = (let rest = few_take k xs in omega (arith, rest))

-- by whether the batch is full, the book shut and the window over

abbrev why_at : Bool → Bool → Bool → ℕ → Why
why_at full shut over' e = cond full Full (cond shut Shut (cond over' Waited (Waiting e)))

waits_at : (f full shut over' : Bool) (e until : ℕ) → wait_of f (why_at full shut over' e) ≡ Some until → ((not f || full || shut || over') ≡ false) × (until ≡ e)
waits_at false full shut over' e until is = absurd cc
waits_at true true shut over' e until is = absurd cc
waits_at true false true over' e until is = absurd cc
waits_at true false false true e until is = absurd cc
waits_at true false false false e until is = (refl, cc)

goes_at : (f full shut over' : Bool) (e : ℕ) → wait_of f (why_at full shut over' e) ≡ None → (not f || full || shut || over') ≡ true
goes_at false full shut over' e is = refl
goes_at true true shut over' e is = refl
goes_at true false true over' e is = refl
goes_at true false false true e is = refl
goes_at true false false false e is = absurd cc

module _ (s : Setting) (h : List Entry) (lane : LaneId) (m x : ℕ) (rest front : List ℕ) (count : ℕ) (is : IsCutOf s h lane m x rest front count) where
  model : IsModelPrefix (fits s h lane.shard m) (group s h lane) (batch s h lane m)
  model = batch_longest s h lane m

  long_front : length (map (piece_of s h lane.shard) front) ≡ length front
  long_front = length-map s h lane.shard front

  front_within : length front ≤ length (x ∷ rest)
  front_within = subst (λ (ys : List ℕ). length ys ≤ length (x ∷ rest)) (sym is.front_is) (length_take (s.config.batch_size + 1) (x ∷ rest))

  front_few : length front ≤ s.config.batch_size + 1
  front_few = subst (λ (ys : List ℕ). length ys ≤ s.config.batch_size + 1) (sym is.front_is) (few_take (s.config.batch_size + 1) (x ∷ rest))

  count_within : count ≤ length front
  count_within = (let w = is.cut.within in omega (arith, w, long_front))

  -- a prefix of the front is one of the group
  same_prefix : (k : ℕ) → k ≤ s.config.batch_size + 1 → take k front ≡ take k (x ∷ rest)
  same_prefix k low = ap (take k) is.front_is ∙ take-take k (s.config.batch_size + 1) (x ∷ rest) low

  batch_is : batch s h lane m ≡ take (length (batch s h lane m)) (x ∷ rest)
  batch_is = model.front ∙ ap (take (length (batch s h lane m))) is.group_is

  batch_within : length (batch s h lane m) ≤ length (x ∷ rest)
  batch_within = subst (λ (ys : List ℕ). length (batch s h lane m) ≤ length ys) is.group_is model.within

  not_less : count < length (batch s h lane m) → ⊥
  not_less less = elim model.met [
    | inl none ↦ (let short : length (batch s h lane m) ≡ 0 = ap length none in omega (arith, short))
    | inr passes ↦ (
        let few : length (batch s h lane m) ≤ s.config.batch_size = within_size s h lane.shard m (batch s h lane m) passes in
        let b = length (batch s h lane m) in
        let there : length (batch s h lane m) ≤ length front = subst (λ (ys : List ℕ). length (batch s h lane m) ≤ length ys) (sym is.front_is) (long_take (s.config.batch_size + 1) (length (batch s h lane m)) (x ∷ rest) (omega arith) batch_within) in
        let all = prefix_to s h lane.shard m x rest (length (batch s h lane m)) (omega arith) is.stand (subst (λ (ys : List ℕ). fits s h lane.shard m ys ≡ true) batch_is passes) in
        let pieces : map (piece_of s h lane.shard) (take (length (batch s h lane m)) (x ∷ rest)) ≡ take (length (batch s h lane m)) (map (piece_of s h lane.shard) front) =
        ap (map (piece_of s h lane.shard)) (sym (same_prefix (length (batch s h lane m)) (omega arith))) ∙ sym (take-map s h lane.shard (length (batch s h lane m)) front) in
        is.cut.longest (length (batch s h lane m)) less (omega (arith, there, long_front)) (subst (λ (ps : List SizedItem). Fits (limits_of s h (window_call s h lane.shard (x ∷ []) None)) m ps) pieces all))
  ]

  cut_few : count ≤ s.config.batch_size
  cut_few =
      let most = is.cut.fits.count in
      let long : length (take count (map (piece_of s h lane.shard) front)) ≡ count = length-take-le count (map (piece_of s h lane.shard) front) is.cut.within in
      omega (arith, most, long)

  not_more : length (batch s h lane m) < count → ⊥
  not_more more =
      let pieces : take count (map (piece_of s h lane.shard) front) ≡ map (piece_of s h lane.shard) (take count (x ∷ rest)) =
      take-map s h lane.shard count front ∙ ap (map (piece_of s h lane.shard)) (same_prefix count (omega (arith, cut_few))) in
      let passes = prefix_back s h lane.shard m x rest count (omega arith) is.stand is.framed (subst (λ (ps : List SizedItem). Fits (limits_of s h (window_call s h lane.shard (x ∷ []) None)) m ps) pieces is.cut.fits) in
      let fails : fits s h lane.shard m (take count (x ∷ rest)) ≡ false =
      subst (λ (ys : List ℕ). fits s h lane.shard m (take count ys) ≡ false) is.group_is (model.longest count more (subst (λ (ys : List ℕ). count ≤ length ys) (sym is.group_is) (omega (arith, count_within, front_within)))) in
      let clash : true ≡ false = sym passes ∙ fails in
      cc

  same_count : length (batch s h lane m) ≡ count
  same_count = omega (arith, not_less, not_more)

  pub cut_is_batch : take count front ≡ batch s h lane m
  cut_is_batch = same_prefix count (omega (arith, cut_few)) ∙ ap (λ k. take k (x ∷ rest)) (sym same_count) ∙ sym batch_is

  -- whether it is ready

  group_long : length (group s h lane) ≡ length (x ∷ rest)
  group_long = ap length is.group_is

  more_eq : nat_lt (length (batch s h lane m)) (length (group s h lane)) ≡ nat_lt count (length front)
  more_eq = elim (cases_Bool (nat_lt count (length front))) [
    | inl more ↦ (let less : count < length front = ltb-true count (length front) more in
        lt-ltb (length (batch s h lane m)) (length (group s h lane)) (omega (arith, less, same_count, group_long, front_within)) ∙ sym more)
    | inr end' ↦ (
        let last : length front ≤ count = ltb-false count (length front) end' in
        let all : count < length (x ∷ rest) → ⊥ = λ less. (
        let one_more : count + 1 ≤ length (take (s.config.batch_size + 1) (x ∷ rest)) = long_take (s.config.batch_size + 1) (count + 1) (x ∷ rest) (omega (arith, cut_few)) (omega arith) in
        let long : length front ≡ length (take (s.config.batch_size + 1) (x ∷ rest)) = ap length is.front_is in
        omega (arith, one_more, long, last)) in
        le-ltb (length (batch s h lane m)) (length (group s h lane)) (omega (arith, same_count, group_long, all)) ∙ sym end')
  ]

  abbrev ready_by : Bool → Bool
  ready_by f = not f || ((count == s.config.batch_size) || nat_lt count (length front)) || is_shut h || nat_le (moment_after (came_moment h lane.shard x) s.config.window_ms) m

  ready_is : (f : Bool) → is_fresh s h lane.shard x ≡ f → is_group_ready s h lane m (group s h lane) (batch s h lane m) ≡ ready_by f
  ready_is f fresh =
      ap (λ g. not (is_fresh s h lane.shard (slice_index g 0)) || ((length (batch s h lane m) == s.config.batch_size) || nat_lt (length (batch s h lane m)) (length (group s h lane))) || is_shut h || nat_le (moment_after (came_moment h lane.shard (slice_index g 0)) s.config.window_ms) m) is.group_is
      ∙ ap (λ b. not b || ((length (batch s h lane m) == s.config.batch_size) || nat_lt (length (batch s h lane m)) (length (group s h lane))) || is_shut h || nat_le (moment_after (came_moment h lane.shard x) s.config.window_ms) m) fresh
      ∙ ap (λ b. not f || ((length (batch s h lane m) == s.config.batch_size) || b) || is_shut h || nat_le (moment_after (came_moment h lane.shard x) s.config.window_ms) m) more_eq
      ∙ ap (λ k. not f || ((k == s.config.batch_size) || nat_lt count (length front)) || is_shut h || nat_le (moment_after (came_moment h lane.shard x) s.config.window_ms) m) same_count

  abbrev why : Why
  why = why_of (limits_of s h (window_call s h lane.shard (x ∷ []) None)) m (map (piece_of s h lane.shard) front) count

  came_first : (k : ℕ) → 0 < k → first_came (map (piece_of s h lane.shard) (take k (x ∷ rest))) ≡ came_moment h lane.shard x
  came_first zero some = absurd (omega arith)
  came_first (suc k) some = refl

  ends_at : wait_end (limits_of s h (window_call s h lane.shard (x ∷ []) None)) (map (piece_of s h lane.shard) front) ≡ moment_after (came_moment h lane.shard x) s.config.window_ms
  ends_at =
      ap (λ (ys : List ℕ). moment_after (first_came (map (piece_of s h lane.shard) ys)) s.config.window_ms) is.front_is
      ∙ ap (λ k. moment_after k s.config.window_ms) (came_first (s.config.batch_size + 1) (omega arith))

  why_is : why ≡ why_at ((count == s.config.batch_size) || nat_lt count (length front)) (is_shut h) (nat_le (moment_after (came_moment h lane.shard x) s.config.window_ms) m) (moment_after (came_moment h lane.shard x) s.config.window_ms)
  why_is =
      let shut = is_shut h in
      ap (λ (k : ℕ). why_at ((count == s.config.batch_size) || nat_lt count k) shut (nat_le (wait_end (limits_of s h (window_call s h lane.shard (x ∷ []) None)) (map (piece_of s h lane.shard) front)) m) (wait_end (limits_of s h (window_call s h lane.shard (x ∷ []) None)) (map (piece_of s h lane.shard) front))) long_front
      ∙ ap (λ (k : ℕ). why_at ((count == s.config.batch_size) || nat_lt count (length front)) shut (nat_le k m) k) ends_at

  pub batch_waits : (f : Bool) (until : ℕ) → is_fresh s h lane.shard x ≡ f → wait_of f why ≡ Some until → next.Idle until ≡ next_batch s h lane m
  batch_waits f until fresh waits =
      let at = waits_at f ((count == s.config.batch_size) || nat_lt count (length front)) (is_shut h) (nat_le (moment_after (came_moment h lane.shard x) s.config.window_ms) m) (moment_after (came_moment h lane.shard x) s.config.window_ms) until (ap (wait_of f) (sym why_is) ∙ waits) in
      let not_ready : is_group_ready s h lane m (group s h lane) (batch s h lane m) ≡ false = ready_is f fresh ∙ at.0 in
      rw not_ready (ap next.Idle (at.1 ∙ ap (λ (g : List ℕ). moment_after (came_moment h lane.shard (slice_index g 0)) s.config.window_ms) (sym is.group_is)))

  pub batch_goes : (f : Bool) → is_fresh s h lane.shard x ≡ f → wait_of f why ≡ None → next.Call (job_of s h lane (take count front) None) ≡ next_batch s h lane m
  batch_goes f fresh goes =
      let at = goes_at f ((count == s.config.batch_size) || nat_lt count (length front)) (is_shut h) (nat_le (moment_after (came_moment h lane.shard x) s.config.window_ms) m) (moment_after (came_moment h lane.shard x) s.config.window_ms) (ap (wait_of f) (sym why_is) ∙ goes) in
      let ready : is_group_ready s h lane m (group s h lane) (batch s h lane m) ≡ true = ready_is f fresh ∙ at in
      rw ready (ap (λ (b : List ℕ). next.Call (job_of s h lane b None)) cut_is_batch)
