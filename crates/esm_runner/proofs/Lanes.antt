-- How a run ends: what batchers that have finished tell of all records and windows, and one for which something is left.
use Rattle.std.proofs.Common.{◌≡◌, ℕ, zero, suc, ◌+◌, ◌*◌, ◌<◌, ◌≤◌, Bool, true, false, not, List, [], ◌∷◌, ◌++◌, length, refl, sym, ap, ◌∙◌, subst, inl, inr, arith, Option, Some, None}
use Rattle.std.specs.Prelude.{◌==◌, ◌&&◌, ◌⊎◌, ◌%◌, nat_lt, filter, fold, slice_get, option_map, unwrap_or, is_none, is_some, IsSome, if◌then◌else◌}
use Rattle.std.proofs.lemmas.Bool.{cases_Bool, eq-eqb, eqb-true, and_parts}
use Rattle.std.proofs.lemmas.Bool.Decides.{nat_tests}
use Rattle.std.proofs.Math.Nat.{mod-lt, mul-le-mul_right, suc-mul}
use Rattle.std.proofs.lemmas.Nat.{div-mul-add, mod-mul-add}
use Rattle.esm_model.specs.Records.{Record}
use Rattle.esm_model.specs.declared.lane.LaneId.{LaneId}
use Rattle.esm_model.specs.declared.entry.Fate.{Fate}
use Rattle.esm_model.specs.declared.entry.Entry.{Entry}
use Rattle.esm_model.specs.declared.entry.Entry.TheVariants.{Came, Began, Ended, Gave, Tried, Closed, Replayed, Shut}
use Rattle.esm_model.specs.Lane.{lane_of}
use Rattle.esm_model.specs.Setting.{Setting, records_of, is_in_lane, is_key_of}
use Rattle.esm_model.specs.Entries.{holds, came_count, shards_that_came}
use Rattle.esm_model.specs.Fates.{below, fate, lacks_fate, open_places}
use Rattle.esm_model.specs.Windows.{has_windows, kept_state, is_outstanding}
use Rattle.esm_model.specs.Step.{Legal}
use Rattle.esm_model.proofs.Lists.{In, In-none, In-cases, In-append_left, In-append_right, In-append_cases, In-here, In-there, In-one, below-In, filter-In, apart, Distinct}
use Rattle.esm_model.proofs.Sound.{open_In}
use Rattle.esm_model.specs.declared.item.Item.{Item}
use Rattle.esm_model.specs.declared.item.Item.TheVariants.{Stream, Queue}
use Rattle.esm_ledger.specs.Reading.{lane_of_batcher}
use Rattle.esm_ledger.proofs.Ledgers.{shards_distinct}
use Rattle.esm_stream_core.specs.Quiet.{IsQuietLane, IsQuiet, HasWindow, IsWanting}
use Rattle.esm_stream_book.specs.Items.{records_in_items}
use Rattle.esm_ingest.specs.Coming.{of_shard}
use Rattle.esm_input.specs.Limits.{shards_with, shards_in}
use Rattle.esm_runner.specs.Ran.{AllFated, NoneOutstanding, HasOpen, HasOutstanding}

-- not more shards came than the input has

more_than : (xs : List ℕ) (p : ℕ → Bool) → length (filter p xs) ≤ length xs
more_than [] p = omega arith
more_than (x ∷ xs) p = elim (cases_Bool (p x)) [
  | inl is ↦ rw is (let rest = more_than xs p in omega (arith, rest))
  | inr not ↦ rw not (let rest = more_than xs p in omega (arith, rest))
]

abbrev others : ℕ → List ℕ → List ℕ
others x ys = filter (λ n. not (n == x)) ys

one_less : (ys : List ℕ) (x : ℕ) → In ys x → length (others x ys) + 1 ≤ length ys
one_less [] x member = absurd (In-none x member)
one_less (y ∷ ys) x member = elim (cases_Bool (y == x)) [
  | inl is ↦ rw is (let rest = more_than ys (λ n. not (n == x)) in omega (arith, rest))
  | inr off ↦ rw off (let rest = one_less ys x (elim (In-cases y ys x member) [ inl here ↦ absurd (let clash : true ≡ false = sym (eq-eqb y x here) ∙ off in cc) | inr later ↦ later ]) in omega (arith, rest))
]

among : (xs ys : List ℕ) → Distinct xs → ((n : ℕ) → In xs n → In ys n) → length xs ≤ length ys
among [] ys distinct within = omega arith
among (x ∷ xs) ys distinct within =
    let less = one_less ys x (within x (In-here x xs x refl)) in
    let rest = among xs (others x ys) distinct.1 (λ n member. filter-In (λ k. not (k == x)) ys n (within n (In-there x xs n member)) (ap not (apart_from n member))) in
    omega (arith, less, rest)
  where
    apart_from : (n : ℕ) → In xs n → (n == x) ≡ false
    apart_from n member = elim (cases_Bool (n == x)) [
      | inl same ↦ absurd (apart xs x distinct.0 (subst (In xs) (eqb-true n x same) member))
      | inr off ↦ off
    ]

in_if : (ns : List ℕ) (m n : ℕ) → In (if holds ns m then ns else ns ++ m ∷ []) n → In ns n ⊎ (m ≡ n)
in_if ns m n member = elim (cases_Bool (holds ns m)) [
  | inl here ↦ inl (rw here at member)
  | inr new ↦ (let there : In (ns ++ m ∷ []) n = rw new at member in elim (In-append_cases ns (m ∷ []) n there) [ inl old ↦ inl old | inr one ↦ inr (In-one m n one) ])
]

came_some : (s : Setting) (h : List Entry) (n : ℕ) → Legal s h → In (shards_that_came h) n → 0 < came_count h n
came_some s [] n legal member = absurd (In-none n member)
came_some s (Came m first count t ∷ h) n legal member = elim (cases_Bool (m == n)) [
  | inl is ↦ rw is (let some : 1 ≤ count = legal.1.1.some in omega (arith, some))
  | inr off ↦ rw off (elim (in_if (shards_that_came h) m n member) [ inl old ↦ came_some s h n legal.0 old | inr same ↦ absurd (let clash : true ≡ false = sym (eq-eqb m n same) ∙ off in cc) ])
]
came_some s (Began lane places closing m ∷ h) n legal member = came_some s h n legal.0 member
came_some s (Ended lane reply m ∷ h) n legal member = came_some s h n legal.0 member
came_some s (Gave by k places f line state m ∷ h) n legal member = came_some s h n legal.0 member
came_some s (Tried lane places closing t m ∷ h) n legal member = came_some s h n legal.0 member
came_some s (Closed lane w m ∷ h) n legal member = came_some s h n legal.0 member
came_some s (Replayed k places m ∷ h) n legal member = came_some s h n legal.0 member
came_some s (Shut m ∷ h) n legal member = came_some s h n legal.0 member

in_with : (ns : List ℕ) (x : Item) (n : ℕ) → In ns n → In (shards_with ns x) n
in_with ns (Stream r) n member = elim (cases_Bool (holds ns r.shard)) [ inl here ↦ rw here member | inr new ↦ rw new (In-append_left ns (r.shard ∷ []) n member) ]
in_with ns (Queue m) n member = member

in_fold : (xs : List Item) (ns : List ℕ) (n : ℕ) → In ns n → In (fold shards_with ns xs) n
in_fold [] ns n member = member
in_fold (x ∷ xs) ns n member = in_fold xs (shards_with ns x) n (in_with ns x n member)

in_new : (ns : List ℕ) (m n : ℕ) → m ≡ n → In (if holds ns m then ns else ns ++ m ∷ []) n
in_new ns m n is = elim (cases_Bool (holds ns m)) [
  | inl here ↦ rw here (subst (In ns) is here)
  | inr new ↦ rw new (In-append_right ns (m ∷ []) n (In-here m [] n is))
]

in_items : (xs : List Item) (ns : List ℕ) (n : ℕ) → 0 < length (of_shard n (records_in_items xs)) → In (fold shards_with ns xs) n
in_items [] ns n some = absurd (omega (arith, some))
in_items (Queue m ∷ xs) ns n some = in_items xs ns n some
in_items (Stream r ∷ xs) ns n some = elim (cases_Bool (r.shard == n)) [
  | inl is ↦ in_fold xs (shards_with ns (Stream r)) n (in_new ns r.shard n (eqb-true r.shard n is))
  | inr off ↦ in_items xs (shards_with ns (Stream r)) n (rw off at some)
]

pub few_shards : (s : Setting) (h : List Entry) (xs : List Item) → Legal s h → ((n : ℕ) → came_count h n ≡ length (of_shard n (records_in_items xs))) → length (shards_that_came h) ≤ length (shards_in xs)
few_shards s h xs legal count = among (shards_that_came h) (shards_in xs) (shards_distinct h)
    (λ n member. in_items xs [] n (subst (λ k. 0 < k) (count n) (came_some s h n legal member)))

-- the batcher of a lane

placed : (xs : List ℕ) (n : ℕ) → In xs n → (i : ℕ) × (slice_get xs i ≡ Some n) × (i < length xs)
placed [] n member = absurd (In-none n member)
placed (x ∷ xs) n member = elim (cases_Bool (x == n)) [
  | inl is ↦ (zero, ap Some (eqb-true x n is), omega arith)
  | inr off ↦ (
      let rest = placed xs n (elim (In-cases x xs n member) [ inl here ↦ absurd (let clash : true ≡ false = sym (eq-eqb x n here) ∙ off in cc) | inr later ↦ later ]) in
      let within : suc rest.0 < length (x ∷ xs) = (let less = rest.2 in omega (arith, less)) in
      (suc rest.0, rest.1, within))
]

below_product : (i l m f most : ℕ) → i < l → m < f → l * f ≤ most → i * f + m < most
below_product i l m f most less short few =
    let step : suc i * f ≤ l * f = mul-le-mul_right f (let more : suc i ≤ l = omega (arith, less) in more) in
    let next : suc i * f ≡ i * f + f = suc-mul i f in
    omega (arith, step, next, short, few)

-- each lane of a shard that came is served by a batcher below the number
pub record IsServed (s : Setting) (h : List Entry) (lane : LaneId) (most : ℕ) : Type 0 where
  pub batcher : ℕ
  pub within : batcher < most
  pub serves : lane_of_batcher s h batcher ≡ Some lane

pub served : (s : Setting) (h : List Entry) (n m most : ℕ) → In (shards_that_came h) n → m < s.config.factor → length (shards_that_came h) * s.config.factor ≤ most → IsServed s h (record { shard = n; lane = m }) most
served s h n m most member short few =
    let at = placed (shards_that_came h) n member in
    let f : ℕ = s.config.factor in
    let k : ℕ = at.0 * f + m in
    record {
      batcher = k;
      within = below_product at.0 (length (shards_that_came h)) m f most at.2 short few;
      serves = ap (λ i. option_map (λ (j : ℕ). record { shard = j; lane = k % f }) (slice_get (shards_that_came h) i)) (div-mul-add at.0 f m short)
          ∙ ap (λ o. option_map (λ (j : ℕ). record { shard = j; lane = k % f }) o) at.1
          ∙ ap (λ i. Some (record { shard = n; lane = i })) (mod-mul-add at.0 f m short);
    }

found : (rs : List Record) (i : ℕ) → i < length rs → (r : Record) × (slice_get rs i ≡ Some r)
found [] i within = absurd (omega (arith, within))
found (r ∷ rs) zero within = (r, refl)
found (r ∷ rs) (suc i) within = found rs i (omega (arith, within))

listed_more : (ns : List ℕ) (m n : ℕ) → ((m == n) ≡ false → In ns n) → In (if holds ns m then ns else ns ++ m ∷ []) n
listed_more ns m n before = elim (cases_Bool (m == n)) [
  | inl same ↦ in_new ns m n (eqb-true m n same)
  | inr other ↦ elim (cases_Bool (holds ns m)) [
    | inl here ↦ rw here (before other)
    | inr new ↦ rw new (In-append_left ns (m ∷ []) n (before other))
  ]
]

came_before : (m n count before : ℕ) → 0 < (if m == n then count + before else before) → (m == n) ≡ false → 0 < before
came_before m n count before some other = rw other at some

listed : (h : List Entry) (n : ℕ) → 0 < came_count h n → In (shards_that_came h) n
listed [] n some = absurd (omega (arith, some))
listed (Came m first count t ∷ h) n some = listed_more (shards_that_came h) m n (λ other. listed h n (came_before m n count (came_count h n) some other))
listed (Began lane places closing m ∷ h) n some = listed h n some
listed (Ended lane reply m ∷ h) n some = listed h n some
listed (Gave by k places f line state m ∷ h) n some = listed h n some
listed (Tried lane places closing t m ∷ h) n some = listed h n some
listed (Closed lane w m ∷ h) n some = listed h n some
listed (Replayed k places m ∷ h) n some = listed h n some
listed (Shut m ∷ h) n some = listed h n some

-- all batchers below the number have finished

abbrev pub AllQuiet : Setting → List Entry → ℕ → Type 0
AllQuiet s h most = (k : ℕ) → k < most → IsQuiet s h k

at_rest : (s : Setting) (h : List Entry) (n lane most : ℕ) → AllQuiet s h most → 0 < came_count h n → lane < s.config.factor → length (shards_that_came h) * s.config.factor ≤ most
    → IsQuietLane s h (record { shard = n; lane = lane })
at_rest s h n lane most all some short few =
    let by = served s h n lane most (listed h n some) short few in
    all by.batcher by.within (record { shard = n; lane = lane }) by.serves

lane_short : (key : List ℕ) (factor : ℕ) → 0 < factor → lane_of key factor < factor
lane_short key factor some = mod-lt _ some

fated_if : (s : Setting) (h : List Entry) (n i most : ℕ) (o : Option Fate) → fate s h n i ≡ o → AllQuiet s h most → 0 < s.config.factor → length (shards_that_came h) * s.config.factor ≤ most
    → came_count h n ≤ length (records_of s n) → i < came_count h n → IsSome (fate s h n i)
fated_if s h n i most (Some f) is all some few within came = subst (λ o. IsSome o) (sym is) refl
fated_if s h n i most None is all some few within came =
    let there = found (records_of s n) i (omega (arith, within, came)) in
    let m : ℕ = lane_of there.0.key s.config.factor in
    let lane : LaneId = record { shard = n; lane = m } in
    let rest = at_rest s h n m most all (omega (arith, came)) (lane_short there.0.key s.config.factor some) few in
    let here : is_in_lane s lane i ≡ true = ap (λ o. unwrap_or (option_map (is_key_of s lane) o) false) there.1 ∙ eq-eqb m m refl in
    let lacks : lacks_fate s h n i ≡ true = ap is_none is in
    let both : (is_in_lane s lane i && lacks_fate s h n i) ≡ true = ap (λ b. b && lacks_fate s h n i) here ∙ lacks in
    let open' : In (open_places s h lane) i = filter-In (λ j. is_in_lane s lane j && lacks_fate s h n j) (below (came_count h n)) i (below-In (came_count h n) i came) both in
    absurd (In-none i (subst (λ ps. In ps i) rest.none_open open'))

pub all_fated : (s : Setting) (h : List Entry) (most : ℕ) → AllQuiet s h most → 0 < s.config.factor → length (shards_that_came h) * s.config.factor ≤ most → ((n : ℕ) → came_count h n ≡ length (records_of s n)) → AllFated s h
all_fated s h most all some few count = λ n i came. fated_if s h n i most (fate s h n i) refl all some few (let same = count n in omega (arith, same)) came

-- where windows are configured, a shard has one lane
pub none_outstanding : (s : Setting) (h : List Entry) (most : ℕ) → AllQuiet s h most → 0 < s.config.factor → (has_windows s.config ≡ true → s.config.factor ≡ 1) → length (shards_that_came h) * s.config.factor ≤ most → NoneOutstanding s h
none_outstanding s h most all some one few = λ n w. elim (cases_Bool (is_outstanding s h n w)) [
  | inl is ↦ (
      let parts = and_parts (has_windows s.config) (nat_lt 0 (came_count h n)) (and_parts (has_windows s.config && nat_lt 0 (came_count h n)) (is_some (kept_state s h n w)) is).0 in
      let came : nat_lt 0 (came_count h n) ≡ true = parts.1 in
      let some_came : 0 < came_count h n = grind (arith, nat_tests, came) in
      let rest = at_rest s h n 0 most all some_came some few in
      absurd (let clash : true ≡ false = sym is ∙ rest.none_outstanding (one parts.0) w in cc))
  | inr not' ↦ not'
]

-- something is left for a batcher

open_first : (s : Setting) (h : List Entry) (lane : LaneId) (i : ℕ) (places : List ℕ) → open_places s h lane ≡ i ∷ places → HasOpen s h
open_first s h lane i places is =
    let at = open_In s h lane i (subst (λ ps. In ps i) (sym is) (In-here i places i refl)) in
    record { shard = lane.shard; place = i; came = at.0; no_fate = none_of (fate s h lane.shard i) at.2 }
  where
    none_of : (o : Option Fate) → is_none o ≡ true → o ≡ None
    none_of None none = refl
    none_of (Some f) none = absurd (cc)

left_open : (s : Setting) (h : List Entry) (lane : LaneId) (places : List ℕ) → open_places s h lane ≡ places → 1 ≤ length places → HasOpen s h
left_open s h lane [] is some = absurd (omega (arith, some))
left_open s h lane (i ∷ places) is some = open_first s h lane i places is

left_window : (s : Setting) (h : List Entry) (n : ℕ) → HasWindow s h n → HasOutstanding s h
left_window s h n w = record { shard = n; window = w.window; outstanding = w.outstanding }

pub is_wanting : (s : Setting) (h : List Entry) (k : ℕ) → IsWanting s h k → HasOpen s h ⊎ HasOutstanding s h
is_wanting s h k wanting = elim wanting.left [
  | inl some ↦ inl (left_open s h wanting.lane (open_places s h wanting.lane) refl some)
  | inr window ↦ inr (left_window s h wanting.lane.shard window)
]
