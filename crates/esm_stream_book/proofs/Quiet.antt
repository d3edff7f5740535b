-- Where the input has ended and nothing is left for a batcher, nothing comes to be left for it by one more entry of another.
use Rattle.std.proofs.Common.{◌≡◌, ◌≢◌, ℕ, suc, ◌+◌, ◌<◌, ◌≤◌, Bool, true, false, List, [], ◌∷◌, ◌++◌, refl, sym, ap, ◌∙◌, subst, inl, inr, arith, Option, Some, None}
use Rattle.std.specs.Prelude.{◌==◌, ◌&&◌, ◌||◌, ◌/◌, ◌%◌, ⊤, nat_lt, slice_get, option_map, map, is_some, is_none}
use Rattle.std.proofs.lemmas.Bool.{cases_Bool, eqb-true, and_parts, and_from}
use Rattle.std.proofs.Math.Nat.{mod-lt}
use Rattle.esm_model.specs.Records.{Record}
use Rattle.esm_model.specs.declared.lane.LaneId.{LaneId}
use Rattle.esm_model.specs.declared.entry.Fate.{Fate}
use Rattle.esm_model.specs.declared.entry.Fate.TheVariants.{Succeeded, Filtered, Expired, Exhausted}
use Rattle.esm_model.specs.declared.entry.WindowState.{WindowState}
use Rattle.esm_model.specs.declared.entry.Entry.{Entry}
use Rattle.esm_model.specs.declared.entry.Entry.TheVariants.{Came, Began, Ended, Gave, Tried, Closed, Replayed, Shut}
use Rattle.esm_model.specs.declared.setup.Told.{Told}
use Rattle.esm_model.specs.Setting.{Setting, Stream, is_in_lane}
use Rattle.esm_model.specs.Entries.{came_count, shards_that_came, is_shut, is_shut_entry, batcher, calls_begun}
use Rattle.esm_model.specs.Fates.{below, fate, lacks_fate, open_places}
use Rattle.esm_model.specs.Windows.{has_windows, kept_state, state_after, is_outstanding}
use Rattle.esm_model.specs.Owed.{IsOwed}
use Rattle.esm_model.specs.Step.{Legal}
use Rattle.esm_model.specs.Books.{entries_told, came_with, records_told, stream_told, streams_told}
use Rattle.esm_model.proofs.Lists.{In, In-none, filter-In, filter_none}
use Rattle.esm_model.proofs.Steps.{lane_from, fated_stays}
use Rattle.esm_model.proofs.TellingFacts.{entries_more, records-append}
use Rattle.esm_ledger.specs.Reading.{lane_of_batcher}
use Rattle.esm_stream_core.specs.Quiet.{IsQuietLane, IsQuiet}
use Rattle.esm_stream_book.proofs.OneMore.{IsElse, CanRun}
use Rattle.esm_stream_book.proofs.Lanes.{batcher_is, number_is, owed_can, some_owed, owed_shard}

-- no records come

-- it brings no records
abbrev pub IsOther : Entry → Type 0
IsOther (Came n first count m) = ⊥
IsOther _ = ⊤

pub not_came : (s : Setting) (h : List Entry) (e : Entry) → Legal s (e ∷ h) → is_shut h ≡ true → IsOther e
not_came s h (Came n first count m) legal shut = absurd (let clash : true ≡ false = sym shut ∙ legal.1.1.not_shut in cc)
not_came s h (Began lane places closing m) legal shut = tt
not_came s h (Ended lane reply m) legal shut = tt
not_came s h (Gave by n places f line state m) legal shut = tt
not_came s h (Tried lane places closing t m) legal shut = tt
not_came s h (Closed lane w m) legal shut = tt
not_came s h (Replayed n places m) legal shut = tt
not_came s h (Shut m) legal shut = tt

-- what such an entry leaves as it is
record Leaves (h : List Entry) (e : Entry) : Type 0 where
  shards : shards_that_came (e ∷ h) ≡ shards_that_came h
  came : (n : ℕ) → came_count (e ∷ h) n ≡ came_count h n
  records : (n : ℕ) (rs : List Record) → came_with n rs e ≡ []

leaves : (h : List Entry) (e : Entry) → IsOther e → Leaves h e
leaves h (Came n first count m) other = absurd other
leaves h (Began lane places closing m) other = record { shards = refl; came = λ n. refl; records = λ n rs. refl }
leaves h (Ended lane reply m) other = record { shards = refl; came = λ n. refl; records = λ n rs. refl }
leaves h (Gave by n places f line state m) other = record { shards = refl; came = λ k. refl; records = λ k rs. refl }
leaves h (Tried lane places closing t m) other = record { shards = refl; came = λ n. refl; records = λ n rs. refl }
leaves h (Closed lane w m) other = record { shards = refl; came = λ n. refl; records = λ n rs. refl }
leaves h (Replayed n places m) other = record { shards = refl; came = λ k. refl; records = λ k rs. refl }
leaves h (Shut m) other = record { shards = refl; came = λ n. refl; records = λ n rs. refl }

each_same : (f g : ℕ → Stream) (ns : List ℕ) → ((n : ℕ) → f n ≡ g n) → map f ns ≡ map g ns
each_same f g [] same = refl
each_same f g (n ∷ ns) same = ap (λ x. x ∷ map f ns) (same n) ∙ ap (λ xs. g n ∷ xs) (each_same f g ns same)

none_behind : (xs ys : List Record) → ys ≡ [] → xs ++ ys ≡ xs
none_behind [] ys none = none
none_behind (x ∷ xs) ys none = ap (λ l. x ∷ l) (none_behind xs ys none)

-- the lists of records stay
pub streams_stay : (history : List Told) (t : Told) → IsOther t.entry → streams_told (history ++ t ∷ []) ≡ streams_told history
streams_stay history t other =
    let left = leaves (entries_told history) t.entry other in
    let records : (n : ℕ) → records_told n (history ++ t ∷ []) ≡ records_told n history
    = λ n. records-append n history (t ∷ []) ∙ none_behind (records_told n history) (records_told n (t ∷ [])) (none_behind (came_with n t.records t.entry) [] refl ∙ left.records n t.records) in
    each_same (stream_told (history ++ t ∷ [])) (stream_told history) (shards_that_came (entries_told (history ++ t ∷ [])))
    (λ n. ap (λ rs. record { shard = n; records = rs }) (records n))
    ∙ ap (λ ns. map (stream_told history) ns) (ap shards_that_came (entries_more history t) ∙ left.shards)

-- no record of the lane is open

lacks_still : (s : Setting) (h : List Entry) (e : Entry) (n i : ℕ) → lacks_fate s h n i ≡ false → lacks_fate s (e ∷ h) n i ≡ false
lacks_still s h e n i has = lacking (fate s (e ∷ h) n i) (fated_stays s e h n i (having (fate s h n i) has))
  where
    having : (o : Option Fate) → is_none o ≡ false → is_some o ≡ true
    having None is = absurd (cc)
    having (Some f) is = refl

    lacking : (o : Option Fate) → is_some o ≡ true → is_none o ≡ false
    lacking None is = absurd (cc)
    lacking (Some f) is = refl

and_still : (a b c : Bool) → (a && b) ≡ false → (b ≡ false → c ≡ false) → (a && c) ≡ false
and_still true b c none still = still none
and_still false b c none still = refl

open_stays : (s : Setting) (h : List Entry) (e : Entry) (lane : LaneId) → IsOther e → open_places s h lane ≡ [] → open_places s (e ∷ h) lane ≡ []
open_stays s h e lane other none =
    let p : ℕ → Bool = λ i. is_in_lane s lane i && lacks_fate s h lane.shard i in
    let before : (i : ℕ) → In (below (came_count h lane.shard)) i → p i ≡ false
    = λ i member. elim (cases_Bool (p i)) [
      | inl is ↦ absurd (In-none i (subst (λ ps. In ps i) none (filter-In p (below (came_count h lane.shard)) i member is)))
      | inr not' ↦ not'
    ] in
    filter_none (λ i. is_in_lane s lane i && lacks_fate s (e ∷ h) lane.shard i) (below (came_count (e ∷ h) lane.shard))
    (λ i member. and_still (is_in_lane s lane i) (lacks_fate s h lane.shard i) (lacks_fate s (e ∷ h) lane.shard i)
    (before i (subst (λ c. In (below c) i) ((leaves h e other).came lane.shard) member)) (lacks_still s h e lane.shard i))

-- no window of its shard is outstanding

-- it gives no state to a window of the shard
abbrev GivesNone : ℕ → Entry → Type 0
GivesNone n (Gave by shard places f line (Some state) m) = (shard == n) ≡ false
GivesNone n _ = ⊤

kept_before : (n w : ℕ) (before : Option (List ℕ)) (e : Entry) → GivesNone n e → is_some (state_after n w before e) ≡ true → is_some before ≡ true
kept_before n w before (Gave by shard places f line None m) none is = elim (cases_Bool (shard == n)) [ inl here ↦ rw here at is | inr off ↦ rw off at is ]
kept_before n w before (Gave by shard places f line (Some state) m) none is = rw none at is
kept_before n w before (Closed lane window m) none is = elim (cases_Bool ((lane.shard == n) && (window == w))) [
  | inl gone ↦ absurd (let clash : false ≡ true = rw gone at is in cc)
  | inr stays ↦ rw stays at is
]
kept_before n w before (Came k first count m) none is = is
kept_before n w before (Began lane places closing m) none is = is
kept_before n w before (Ended lane reply m) none is = is
kept_before n w before (Tried lane places closing t m) none is = is
kept_before n w before (Replayed k places m) none is = is
kept_before n w before (Shut m) none is = is

still_none : (s : Setting) (h : List Entry) (e : Entry) (n w : ℕ) → IsOther e → GivesNone n e → is_outstanding s h n w ≡ false → is_outstanding s (e ∷ h) n w ≡ false
still_none s h e n w other gives none = elim (cases_Bool (is_outstanding s (e ∷ h) n w)) [
  | inr not' ↦ not'
  | inl is ↦ (
      let parts = and_parts (has_windows s.config && nat_lt 0 (came_count (e ∷ h) n)) (is_some (kept_state s (e ∷ h) n w)) is in
      let came : (has_windows s.config && nat_lt 0 (came_count h n)) ≡ true = subst (λ c. (has_windows s.config && nat_lt 0 c) ≡ true) ((leaves h e other).came n) parts.0 in
      let kept : is_some (kept_state s h n w) ≡ true = kept_before n w (kept_state s h n w) e gives parts.1 in
      absurd (let clash : true ≡ false = sym (and_from (has_windows s.config && nat_lt 0 (came_count h n)) (is_some (kept_state s h n w)) came kept) ∙ none in cc))
]

-- a state of the shard's only lane is given by its batcher
mine : (s : Setting) (h : List Entry) (k n m : ℕ) (at lane : LaneId) (places : List ℕ) (f : Fate) (line : Option (List ℕ)) (state : Option WindowState) → Legal s h → s.config.factor ≡ 1
    → suc (batcher s h at) ≢ k + 1 → lane_of_batcher s h k ≡ Some lane → IsOwed s h at (Gave (Some at) n places f line state m) → (n == lane.shard) ≡ false
mine s h k n m at lane places f line state legal one other serves owed = elim (cases_Bool (n == lane.shard)) [
  | inr off ↦ off
  | inl here ↦ (
      let can : CanRun s h at = owed_can s h at legal (some_owed s h at (Gave (Some at) n places f line state m) owed) in
      let short : at.lane < 1 = subst (λ f. at.lane < f) one can.below_factor in
      let number : lane.lane ≡ k % 1 = number_is s h k lane serves ∙ ap (λ f. k % f) one in
      let low : k % 1 < 1 = mod-lt k (omega arith) in
      let lanes : at.lane ≡ lane.lane = omega (arith, short, number, low) in
      let shards : at.shard ≡ lane.shard = owed_shard s h at n m (Some at) places f line state owed ∙ eqb-true n lane.shard here in
      let same : batcher s h at ≡ k = ap (λ (l : LaneId). batcher s h l) (lane_from at lane shards lanes) ∙ batcher_is s h k lane serves in
      absurd (other (omega (arith, same))))
]

gives_none : (s : Setting) (h : List Entry) (k : ℕ) (lane : LaneId) (e : Entry) → Legal s (e ∷ h) → s.config.factor ≡ 1 → IsElse s h k e → lane_of_batcher s h k ≡ Some lane → GivesNone lane.shard e
gives_none s h k lane (Gave by n places f line None m) legal one other serves = tt
gives_none s h k lane (Gave None n places Filtered line (Some state) m) legal one other serves = absurd (let clash : Some state ≡ None = legal.1.1.no_state in cc)
gives_none s h k lane (Gave None n places Succeeded line (Some state) m) legal one other serves = absurd legal.1.1
gives_none s h k lane (Gave None n places Expired line (Some state) m) legal one other serves = absurd legal.1.1
gives_none s h k lane (Gave None n places Exhausted line (Some state) m) legal one other serves = absurd legal.1.1
gives_none s h k lane (Gave (Some at) n places Succeeded line (Some state) m) legal one other serves = mine s h k n m at lane places Succeeded line (Some state) legal.0 one other serves legal.1.1
gives_none s h k lane (Gave (Some at) n places Exhausted line (Some state) m) legal one other serves = mine s h k n m at lane places Exhausted line (Some state) legal.0 one other serves legal.1.1
gives_none s h k lane (Gave (Some at) n places Expired line (Some state) m) legal one other serves = absurd (let clash : Some state ≡ None = legal.1.1.no_state in cc)
gives_none s h k lane (Gave (Some at) n places Filtered line (Some state) m) legal one other serves = absurd legal.1.1
gives_none s h k lane (Came n first count m) legal one other serves = tt
gives_none s h k lane (Began at places closing m) legal one other serves = tt
gives_none s h k lane (Ended at reply m) legal one other serves = tt
gives_none s h k lane (Tried at places closing t m) legal one other serves = tt
gives_none s h k lane (Closed at w m) legal one other serves = tt
gives_none s h k lane (Replayed n places m) legal one other serves = tt
gives_none s h k lane (Shut m) legal one other serves = tt

-- so nothing is left for the batcher

pub quiet_on : (s : Setting) (h : List Entry) (k : ℕ) (e : Entry) → Legal s (e ∷ h) → is_shut h ≡ true → IsElse s h k e → IsQuiet s h k → IsQuiet s (e ∷ h) k
quiet_on s h k e legal shut other quiet lane is =
    let brings : IsOther e = not_came s h e legal shut in
    let before : lane_of_batcher s h k ≡ Some lane
    = ap (λ ns. option_map (λ (n : ℕ). record { shard = n; lane = k % s.config.factor }) (slice_get ns (k / s.config.factor))) (sym (leaves h e brings).shards) ∙ is in
    let was : IsQuietLane s h lane = quiet lane before in
    record {
      none_open = open_stays s h e lane brings was.none_open;
      none_outstanding = λ one w. still_none s h e lane.shard w brings (gives_none s h k lane e legal one other before) (was.none_outstanding one w);
    }

-- the input's end and the calls that began stay

pub shut_on : (e : Entry) (h : List Entry) → is_shut h ≡ true → is_shut (e ∷ h) ≡ true
shut_on e h shut = either (is_shut_entry e) (is_shut h) shut
  where
    either : (a b : Bool) → b ≡ true → (a || b) ≡ true
    either true b is = refl
    either false b is = is

pub begun_on : (e : Entry) (h : List Entry) (n : ℕ) → n ≤ calls_begun h → n ≤ calls_begun (e ∷ h)
begun_on (Began lane places closing m) h n few = omega (arith, few)
begun_on (Came k first count m) h n few = few
begun_on (Ended lane reply m) h n few = few
begun_on (Gave by k places f line state m) h n few = few
begun_on (Tried lane places closing t m) h n few = few
begun_on (Closed lane w m) h n few = few
begun_on (Replayed k places m) h n few = few
begun_on (Shut m) h n few = few
