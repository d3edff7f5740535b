-- What records that come make of a shard that is kept.
use Rattle.std.proofs.Common.{◌≡◌, ℕ, zero, suc, ◌+◌, ◌-◌, ◌<◌, ◌≤◌, Bool, true, false, List, [], ◌∷◌, ◌++◌, length, length-append, map, filter, take, drop, get_or, add-one, refl, sym, ap, ◌∙◌, subst, inl, inr, Option, Some, None, arith, is_some, is_none, add-zero, Vec, Global}
use Rattle.std.specs.Prelude.{◌==◌, ◌⊎◌, IfSome, slice_get, if◌then◌else◌}
use Rattle.std.proofs.lemmas.Bool.{cases_Bool, cases_lt, eq-eqb}
use Rattle.std.proofs.lemmas.Option.{slice_get_within}
use Rattle.std.proofs.Math.ListN.{get_or-append}
use Rattle.std.proofs.Math.Seq.{drop-cons}
use Rattle.std.proofs.lemmas.List.{get_or-append-add, map_more}
use Rattle.std.proofs.lemmas.List.Elements.{filter-append}
use Rattle.esm_model.specs.Records.{Record}
use Rattle.esm_model.specs.declared.entry.Fate.{Fate}
use Rattle.esm_model.specs.declared.entry.Entry.{Entry}
use Rattle.esm_model.specs.declared.entry.Entry.TheVariants.{Came}
use Rattle.esm_model.specs.Setting.{Setting, record_at}
use Rattle.esm_model.specs.EventText.{record_text}
use Rattle.esm_model.specs.Entries.{came_count}
use Rattle.esm_model.specs.Fates.{is_fate}
use Rattle.esm_model.specs.Windows.{window_of}
use Rattle.esm_model.specs.Step.{Legal}
use Rattle.esm_model.proofs.Steps.{came_of_shard}
use Rattle.esm_lanes.specs.declared.standing.Standing.{Standing}
use Rattle.esm_lanes.specs.Piece as piece
use Rattle.esm_shard_index.specs.FateCounts.{count_in}
use Rattle.esm_shard_index.specs.LaneView.{LaneView, Table, lane_in, after_came, after_arrivals, standing_of}
use Rattle.esm_shard_index.specs.LaneHistory.{IsLane, HasFoundTries, arrives, arriving, standing_at, places_from}
use Rattle.esm_shard_index.specs.LaneSteps.{after_entry}
use Rattle.esm_shard_index.specs.Progress.{Tally}
use Rattle.esm_shard_index.specs.Arrivals.{Coming, arrival}
use Rattle.esm_shard_index.specs.Callings.{Called, calls_at, response_at}
use Rattle.esm_shard_index.specs.Windows.{WindowTable, open_in, times}
use Rattle.esm_shard_index.proofs.ArrivalSteps.{arrivals_come}
use Rattle.esm_shard_index.proofs.CallingSteps.{callings_come}
use Rattle.esm_shard_index.proofs.ProgressSteps.{progress_comes}
use Rattle.esm_shard_index.proofs.WindowSteps.{windows_come}
use Rattle.esm_ledger.specs.declared.arriving.Arriving.{Arriving}
use Rattle.esm_ledger.specs.declared.arriving.Landing.{Landing}
use Rattle.esm_ledger.specs.declared.measure.Measure.{Measure}
use Rattle.esm_ledger.specs.declared.shard.ShardLedger.{ShardLedger}
use Rattle.esm_ledger.specs.Held.{Held}
use Rattle.esm_ledger.specs.Shard.{IsShard, AreRecords, lane_id, nothing, measure_at}
use Rattle.esm_ledger.proofs.Holding.{held_came}
use Rattle.esm_ledger.specs.Arriving.{AreArriving, IsEven, IsLanding, landing_at, IsWithin, landing_count, lands_in, land_in, landed}
use Rattle.esm_shard_index.proofs.LaneArrivals.{arrived_places}
use Rattle.esm_shard_index.proofs.LaneSteps.{lane_step}

-- lanes

places_front : (first count : ℕ) → places_from first (suc count) ≡ first ∷ places_from (suc first) count
places_front first zero = ap (λ i. i ∷ []) (add-zero first)
places_front first (suc count) =
    let next : first + suc count ≡ suc first + count = omega arith in
    ap (λ xs. xs ++ (first + suc count) ∷ []) (places_front first count) ∙ ap (λ i. first ∷ (places_from (suc first) count ++ i ∷ [])) next

-- one record does to its lane what it does by the history
land_step : (s : Setting) (n k i : ℕ) (l : Option Landing) (v : LaneView) → k < s.config.factor → IsLanding s n i l
    → land_in k i l v ≡ (if arrives s (lane_id n k) i then after_came (standing_at s n i) i v else v)
land_step s n k i None v low is = ap (λ b. if b then after_came (standing_at s n i) i v else v) (is.lanes k low)
land_step s n k i (Some l) v low is =
    let tried : l.tries ≡ _ = is.tries in
    ap (λ (t : Option ℕ). if l.lane == k then after_came (standing_of t) i v else v) tried
    ∙ ap (λ b. if b then after_came (standing_at s n i) i v else v) (is.lanes k low)

arrivals_front : (standing : ℕ → Standing) (p : ℕ → Bool) (i : ℕ) (xs : List ℕ) (v : LaneView)
    → after_arrivals standing (filter p (i ∷ xs)) v ≡ after_arrivals standing (filter p xs) (if p i then after_came (standing i) i v else v)
arrivals_front standing p i xs v = elim (cases_Bool (p i)) [ inl is ↦ rw is refl | inr off ↦ rw off refl ]

-- and so do all of them
pub all_land : (s : Setting) (n k first : ℕ) (ls : List (Option Landing)) (v : LaneView) → k < s.config.factor
    → ((j : ℕ) → j < length ls → IsLanding s n (first + j) (landing_at ls j))
    → landed k first ls v ≡ after_arrivals (standing_at s n) (arriving s (lane_id n k) first (length ls)) v
all_land s n k first [] v low each = refl
all_land s n k first (l ∷ ls) v low each =
    let p = arrives s (lane_id n k) in
    let here : IsLanding s n first l = subst (λ (i : ℕ). IsLanding s n i l) (add-zero first) (each 0 (omega arith)) in
    let rest : (j : ℕ) → j < length ls → IsLanding s n (suc first + j) (landing_at ls j) = λ j within.
    (let next : first + suc j ≡ suc first + j = omega arith in subst (λ (i : ℕ). IsLanding s n i (landing_at ls j)) next (each (suc j) (omega (arith, within)))) in
    all_land s n k (suc first) ls (land_in k first l v) low rest
    ∙ ap (after_arrivals (standing_at s n) (filter p (places_from (suc first) (length ls)))) (land_step s n k first l v low here)
    ∙ sym (arrivals_front (standing_at s n) p first (places_from (suc first) (length ls)) v)
    ∙ ap (λ xs. after_arrivals (standing_at s n) (filter p xs) v) (sym (places_front first (length ls)))

-- no split is used
land_splits : (k place : ℕ) (l : Option Landing) (v : LaneView) → (land_in k place l v).kept.splits ≡ v.kept.splits
land_splits k place None v = refl
land_splits k place (Some l) v = elim (cases_Bool (l.lane == k)) [ inl is ↦ rw is refl | inr off ↦ rw off refl ]

pub landed_splits : (k first : ℕ) (ls : List (Option Landing)) (v : LaneView) → (landed k first ls v).kept.splits ≡ v.kept.splits
landed_splits k first [] v = refl
landed_splits k first (l ∷ ls) v = landed_splits k (suc first) ls (land_in k first l v) ∙ land_splits k first l v

land_state : (k place : ℕ) (l : Option Landing) (v : LaneView) → (land_in k place l v).state ≡ v.state
land_state k place None v = refl
land_state k place (Some l) v = elim (cases_Bool (l.lane == k)) [ inl is ↦ rw is refl | inr off ↦ rw off refl ]

pub landed_state : (k first : ℕ) (ls : List (Option Landing)) (v : LaneView) → (landed k first ls v).state ≡ v.state
landed_state k first [] v = refl
landed_state k first (l ∷ ls) v = landed_state k (suc first) ls (land_in k first l v) ∙ land_state k first l v

-- records

-- an element of two lists is one of the first or of the second
parts : {A : Type 0} (xs ys : List A) (i : ℕ) (r : A) → slice_get (xs ++ ys) i ≡ Some r → (slice_get xs i ≡ Some r) ⊎ ((j : ℕ) × (i ≡ length xs + j) × (slice_get ys j ≡ Some r))
parts [] ys i r at = inr (i, omega arith, at)
parts (x ∷ xs) ys zero r at = inl at
parts (x ∷ xs) ys (suc i) r at = elim (parts xs ys i r at) [
  | inl first ↦ inl first
  | inr second ↦ inr (second.0, (let same : i ≡ length xs + second.0 = second.1 in omega (arith, same)), second.2)
]

measure_first : (ms ns : List Measure) (i : ℕ) → i < length ms → measure_at (ms ++ ns) i ≡ measure_at ms i
measure_first ms ns i low = get_or-append ms ns nothing i low

measure_second : (ms ns : List Measure) (i j : ℕ) → i ≡ length ms + j → measure_at (ms ++ ns) i ≡ measure_at ns j
measure_second ms ns i j at = ap (measure_at (ms ++ ns)) at ∙ get_or-append-add ms ns j nothing

records_came : (s : Setting) (h : List Entry) (n m : ℕ) (rs qs : List Record) (ms ns : List Measure)
    → AreRecords s h n rs ms
    → length ns ≡ length qs
    → ((k : ℕ) (r : Record) → slice_get qs k ≡ Some r → record_at s n (came_count h n + k) ≡ Some r)
    → ((k : ℕ) (r : Record) → slice_get qs k ≡ Some r → (measure_at ns k).length ≡ length (record_text s.config r))
    → ((k : ℕ) → k < length qs → (measure_at ns k).window ≡ window_of s n (came_count h n + k))
    → AreRecords s (Came n (came_count h n) (length qs) m ∷ h) n (rs ++ qs) (ms ++ ns)
records_came s h n m rs qs ms ns is even stand lengths windows =
    let count = came_of_shard n (came_count h n) (length qs) m h in
    record {
      came = omega (arith, length-append rs qs, is.came, count);
      measured = omega (arith, length-append ms ns, is.measured, even, count);
      stand = λ i r at. elim (parts rs qs i r at) [
        | inl first ↦ is.stand i r first
        | inr second ↦ (
            let there : i ≡ came_count h n + second.0 = second.1 ∙ ap (λ (c : ℕ). c + second.0) is.came in
            subst (λ (x : ℕ). record_at s n x ≡ Some r) (sym there) (stand second.0 r second.2))
      ];
      lengths = λ i r at. elim (parts rs qs i r at) [
        | inl first ↦ (
            let low : i < length rs = slice_get_within rs i r first in
            ap (λ (x : Measure). x.length) (measure_first ms ns i (omega (arith, low, is.came, is.measured))) ∙ is.lengths i r first)
        | inr second ↦ (
            let there : i ≡ length ms + second.0 = second.1 ∙ ap (λ (c : ℕ). c + second.0) (is.came ∙ sym is.measured) in
            ap (λ (x : Measure). x.length) (measure_second ms ns i second.0 there) ∙ lengths second.0 r second.2)
      ];
      windows = λ i low. elim (below_or_past i (length ms)) [
        | inl first ↦ ap (λ (x : Measure). x.window) (measure_first ms ns i first) ∙ is.windows i (omega (arith, first, is.measured))
        | inr second ↦ (
            let there : i ≡ came_count h n + second.0 = second.1 ∙ ap (λ (c : ℕ). c + second.0) is.measured in
            ap (λ (x : Measure). x.window) (measure_second ms ns i second.0 second.1)
            ∙ windows second.0 (omega (arith, low, there, count))
            ∙ ap (window_of s n) (sym there))
      ];
    }
  where
    below_or_past : (i n : ℕ) → (i < n) ⊎ ((j : ℕ) × (i ≡ n + j))
    below_or_past i n = elim (cases_lt i n) [
      | inl low ↦ inl low
      | inr past ↦ inr (i - n, omega (arith, past))
    ]

-- the entry

pub record IsCome (c : ShardLedger) (a : Arriving) (m : ℕ) (progress : Tally) (arrivals : Coming) (callings : Called) (windows : WindowTable) (lanes : Table) : Type 0 where
  pub fated : progress.fated ≡ c.progress.fated ++ map is_some a.fates.items
  pub counts : (f : Fate) → count_in progress.counts f ≡ count_in c.progress.counts f + length (filter (is_fate f) a.fates.items)
  pub runs : arrivals.runs ≡ c.arrivals.runs ++ arrival c.arrivals.came m ∷ []
  pub came : arrivals.came ≡ c.arrivals.came + length a.records.items
  pub len : length callings.records ≡ length c.callings.records + length a.records.items
  pub calls : (i : ℕ) → calls_at callings i ≡ calls_at c.callings i
  pub responses : (i : ℕ) → response_at callings i ≡ response_at c.callings i
  pub opened : (w : ℕ) → open_in windows w ≡ open_in c.windows w + times a.windows.items w
  pub last : windows.last ≡ a.last
  pub states : windows.states ≡ c.windows.states
  pub tries : windows.tries ≡ c.windows.tries
  pub lands : (k : ℕ) → lane_in lanes k ≡ landed k (length c.progress.fated) a.landings.items (lane_in c.lanes k)
  pub size : length lanes.lanes ≡ length c.lanes.lanes

pub shard_came : (s : Setting) (h : List Entry) (c : ShardLedger) (a : Arriving) (m : ℕ) (records : Held) (measures : Vec Measure Global) (progress : Tally) (arrivals : Coming) (callings : Called) (windows : WindowTable) (lanes : Table)
    → records.items ≡ c.records.items ++ a.records.items → records.held ≡ c.records.held ++ map is_none a.fates.items → measures.items ≡ c.measures.items ++ a.measures.items
    → IsEven a → IsCome c a m progress arrivals callings windows lanes
    → HasFoundTries s c.shard → Legal s (Came c.shard (came_count h c.shard) (length a.records.items) m ∷ h)
    → AreArriving s c.shard (came_count h c.shard) a → IsShard s h c
    → IsShard s (Came c.shard (came_count h c.shard) (length a.records.items) m ∷ h) (record c { records = records; measures = measures; progress = progress; arrivals = arrivals; callings = callings; windows = windows; lanes = lanes })
shard_came s h c a m records measures progress arrivals callings windows lanes more held longer even comes some legal stand is =
    let n = c.shard in
    let first = came_count h n in
    let count = length a.records.items in
    let e = Came n first count m in
    record {
      records = subst (λ (rs : List Record). AreRecords s (e ∷ h) n rs measures.items) (sym more)
          (subst (λ (ms : List Measure). AreRecords s (e ∷ h) n (c.records.items ++ a.records.items) ms) (sym longer)
          (records_came s h n m c.records.items a.records.items c.measures.items a.measures.items is.records even.measures stand.stand stand.lengths stand.measured));
      progress = progress_comes s h n c.progress progress a.fates.items first count m is.progress (sym even.fates) stand.fates comes.fated comes.counts;
      held = held_came c.records.held records.held c.progress.fated progress.fated a.fates.items is.held held comes.fated;
      arrivals = arrivals_come h n c.arrivals arrivals count m is.arrivals comes.runs comes.came;
      callings = callings_come h n c.callings callings first count m is.callings comes.len comes.calls comes.responses;
      windows = windows_come s h n c.windows windows first count m is.windows
          (λ w. comes.opened w ∙ ap (λ (ws : List ℕ). open_in c.windows w + times ws w) stand.windows)
          (comes.last ∙ stand.last) comes.states comes.tries;
      factor = comes.size ∙ is.factor;
      lanes = λ k low.
          (let here : lane_in lanes k ≡ after_entry s h (lane_id n k) (lane_in c.lanes k) e =
          comes.lands k
          ∙ ap (λ (i : ℕ). landed k i a.landings.items (lane_in c.lanes k)) is.progress.came
          ∙ all_land s n k first a.landings.items (lane_in c.lanes k) low (λ j within. stand.landings j (omega (arith, within, even.landings)))
          ∙ ap (λ (x : ℕ). after_arrivals (standing_at s n) (arriving s (lane_id n k) first x) (lane_in c.lanes k)) even.landings
          ∙ own n (after_arrivals (standing_at s n) (arriving s (lane_id n k) first count) (lane_in c.lanes k)) (lane_in c.lanes k) in
          subst (λ (v : LaneView). IsLane s (e ∷ h) (lane_id n k) v) (sym here) (lane_step s h e (lane_id n k) (lane_in c.lanes k) some legal (is.lanes k low)));
    }
  where
    own : (n : ℕ) (v w : LaneView) → v ≡ (if n == n then v else w)
    own n v w = rw (eq-eqb n n refl) refl

-- one landing after the other

-- what is left of the landings begins with the next one
left_here : (ls : List (Option Landing)) (i : ℕ) (l : Option Landing) → i < length ls → l ≡ get_or ls i None → drop i ls ≡ l ∷ drop (i + 1) ls
left_here ls i l low is = drop-cons ls i None low ∙ ap (λ x. x ∷ drop (suc i) ls) (sym is) ∙ ap (λ n. l ∷ drop n ls) (sym (add-one i))

pub one_lands : (k place i : ℕ) (ls : List (Option Landing)) (l : Option Landing) (v : LaneView) → i < length ls → l ≡ get_or ls i None
    → landed k place (drop i ls) v ≡ landed k (place + 1) (drop (i + 1) ls) (land_in k place l v)
one_lands k place i ls l v low is = ap (λ xs. landed k place xs v) (left_here ls i l low is) ∙ ap (λ n. landed k n (drop (i + 1) ls) (land_in k place l v)) (sym (add-one place))

count_here : (k : ℕ) (l : Option Landing) (ls : List (Option Landing)) → landing_count k (l ∷ ls) ≡ (if lands_in k l then suc (landing_count k ls) else landing_count k ls)
count_here k l ls = elim (cases_Bool (lands_in k l)) [ inl is ↦ rw is refl | inr off ↦ rw off refl ]

pub room_here : (i : ℕ) (ls : List (Option Landing)) (l : Landing) (adds : ℕ) → i < length ls → Some l ≡ get_or ls i None → landing_count l.lane (drop i ls) ≤ adds → 1 ≤ adds
room_here i ls l adds low is room =
    let first : landing_count l.lane (Some l ∷ drop (i + 1) ls) ≡ suc (landing_count l.lane (drop (i + 1) ls)) = count_here l.lane (Some l) (drop (i + 1) ls) ∙ rw (eq-eqb l.lane l.lane refl) refl in
    let all : landing_count l.lane (drop i ls) ≡ suc (landing_count l.lane (drop (i + 1) ls)) = ap (landing_count l.lane) (left_here ls i (Some l) low is) ∙ first in
    omega (arith, all, room)

room_added : (b : Bool) (count adds : ℕ) → (if b then suc count else count) ≤ adds → count ≤ adds - (if b then 1 else 0)
room_added true count adds room = omega (arith, room)
room_added false count adds room = omega (arith, room)

land_adds : (k place : ℕ) (l : Option Landing) (v : LaneView) → (land_in k place l v).kept.adds ≡ v.kept.adds - (if lands_in k l then 1 else 0)
land_adds k place None v = omega arith
land_adds k place (Some l) v = elim (cases_Bool (l.lane == k)) [ inl is ↦ rw is refl | inr off ↦ rw off (omega arith) ]

-- room for the others is left
pub room_left : (k place i : ℕ) (ls : List (Option Landing)) (l : Option Landing) (v : LaneView) → i < length ls → l ≡ get_or ls i None
    → landing_count k (drop i ls) ≤ v.kept.adds → landing_count k (drop (i + 1) ls) ≤ (land_in k place l v).kept.adds
room_left k place i ls l v low is room =
    let all : landing_count k (drop i ls) ≡ (if lands_in k l then suc (landing_count k (drop (i + 1) ls)) else landing_count k (drop (i + 1) ls)) = ap (landing_count k) (left_here ls i l low is) ∙ count_here k l (drop (i + 1) ls) in
    let added = room_added (lands_in k l) (landing_count k (drop (i + 1) ls)) v.kept.adds (subst (λ n. n ≤ v.kept.adds) all room) in
    subst (λ n. landing_count k (drop (i + 1) ls) ≤ n) (sym (land_adds k place l v)) added

came_places_added : (standing : Standing) (place : ℕ) (v : LaneView) → length (piece.open_places (after_came standing place v).kept.pieces) ≡ suc (length (piece.open_places v.kept.pieces))
came_places_added standing place v =
    ap length (arrived_places (λ i. standing) (place ∷ []) v) ∙ length-append (piece.open_places v.kept.pieces) (place ∷ []) ∙ add-one (length (piece.open_places v.kept.pieces))

land_places : (k place : ℕ) (l : Option Landing) (v : LaneView) → length (piece.open_places (land_in k place l v).kept.pieces) ≤ suc (length (piece.open_places v.kept.pieces))
land_places k place None v = omega arith
land_places k place (Some l) v = elim (cases_Bool (l.lane == k)) [
  | inl is ↦ rw is (let more = came_places_added (standing_of l.tries) place v in omega (arith, more))
  | inr off ↦ rw off (omega arith)
]

-- and so is the number
pub few_left : (k place i n : ℕ) (ls : List (Option Landing)) (l : Option Landing) (v : LaneView) → i < length ls → l ≡ get_or ls i None
    → length (piece.open_places v.kept.pieces) + length (drop i ls) ≤ n → length (piece.open_places (land_in k place l v).kept.pieces) + length (drop (i + 1) ls) ≤ n
few_left k place i n ls l v low is few =
    let all : length (drop i ls) ≡ suc (length (drop (i + 1) ls)) = ap length (left_here ls i l low is) in
    let more = land_places k place l v in
    omega (arith, all, more, few)

-- what one landing needs

pub some_room : (o : Option Landing) (i : ℕ) (ls : List (Option Landing)) (lanes : Table) → i < length ls → o ≡ get_or ls i None → IsWithin (length lanes.lanes) o
    → ((k : ℕ) → k < length lanes.lanes → landing_count k (drop i ls) ≤ (lane_in lanes k).kept.adds) → IfSome o (λ (l : Landing). 1 ≤ (lane_in lanes l.lane).kept.adds)
some_room None i ls lanes low is within room = tt
some_room (Some l) i ls lanes low is within room = room_here i ls l (lane_in lanes l.lane).kept.adds low is (room l.lane within.0)

pub some_few : (o : Option Landing) (i : ℕ) (ls : List (Option Landing)) (lanes : Table) → i < length ls → o ≡ get_or ls i None → IsWithin (length lanes.lanes) o
    → ((k : ℕ) → k < length lanes.lanes → length (piece.open_places (lane_in lanes k).kept.pieces) + length (drop i ls) ≤ 4294967295)
    → IfSome o (λ (l : Landing). length (piece.open_places (lane_in lanes l.lane).kept.pieces) < 4294967295)
some_few None i ls lanes low is within few = tt
some_few (Some l) i ls lanes low is within few =
    let all : length (drop i ls) ≡ suc (length (drop (i + 1) ls)) = ap length (left_here ls i (Some l) low is) in
    let most = few l.lane within.0 in
    omega (arith, all, most)

-- one window after the other

times_push : (xs : List ℕ) (x w : ℕ) → times (xs ++ x ∷ []) w ≡ times xs w + times (x ∷ []) w
times_push xs x w = ap length (filter-append (λ y. y == w) xs (x ∷ [])) ∙ length-append (filter (λ y. y == w) xs) (filter (λ y. y == w) (x ∷ []))

pub leave_more : (f : ℕ → ℕ) (places : List ℕ) (i w a b d : ℕ) → i < length places → a ≡ b - times (map f (take i places)) w → d ≡ a - times (f (get_or places i 0) ∷ []) w
    → d ≡ b - times (map f (take (i + 1) places)) w
leave_more f places i w a b d low before after =
    let more : times (map f (take (i + 1) places)) w ≡ times (map f (take i places)) w + times (f (get_or places i 0) ∷ []) w =
    ap (λ xs. times xs w) (map_more f places i 0 low) ∙ times_push (map f (take i places)) (f (get_or places i 0)) w in
    omega (arith, before, after, more)
