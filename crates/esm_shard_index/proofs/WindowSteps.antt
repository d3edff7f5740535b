-- How the windows of a shard as they are kept follow the history.
use Rattle.std.proofs.Common.{◌≡◌, ℕ, zero, suc, ◌+◌, ◌-◌, ◌<◌, ◌≤◌, min, max, Bool, true, false, cond, not, ◌&&◌, ◌||◌, List, [], ◌∷◌, length, take, map, refl, sym, ap, ◌∙◌, subst, inl, inr, Option, Some, None, arith, length-append}
use Rattle.std.specs.Prelude.{◌==◌, nat_lt, filter, slice_get, is_none, is_some, if◌then◌else◌}
use Rattle.std.specs.List.{list_any}
use Rattle.std.specs.Option.{option_or}
use Rattle.std.proofs.lemmas.Bool.{cases_Bool, cases_lt, eq-eqb, ne_eqb, eqb-true, lt-ltb, ltb-true}
use Rattle.std.proofs.lemmas.List.Elements.{filter-append, filter_agree}
use Rattle.std.proofs.lemmas.List.Folds.{list_any-append}
use Rattle.esm_model.specs.Records.{Record}
use Rattle.esm_model.specs.declared.lane.LaneId.{LaneId}
use Rattle.esm_model.specs.declared.entry.Fate.{Fate}
use Rattle.esm_model.specs.declared.entry.Reply.{Reply}
use Rattle.esm_model.specs.declared.entry.Entry.{Entry}
use Rattle.esm_model.specs.declared.entry.Entry.TheVariants.{Came, Began, Ended, Gave, Tried, Closed, Replayed, Shut}
use Rattle.esm_model.specs.declared.limits.TheConstants.{MAX_TRIES}
use Rattle.esm_model.specs.Setting.{Setting, records_of}
use Rattle.esm_model.specs.Entries.{Call, holds, came_count, is_shut, last_call}
use Rattle.esm_model.specs.Fates.{given, lacks_fate, below}
use Rattle.esm_model.specs.Ruling.{capped_tries, is_counted}
use Rattle.esm_model.specs.Tries.{is_closed_by, call_verdict, tries_for, window_tries_sum, counts_in_final_call, verdict_after, verdict_on}
use Rattle.esm_model.specs.Windows.{has_windows, window_floor, window_from, window_of, text_for, kept_state, is_outstanding, has_open_record, has_later_record}
use Rattle.esm_model.proofs.Lists.{In-below, not_in, filter_none}
use Rattle.esm_model.proofs.Steps.{came_of_shard, lacks_gave}
use Rattle.esm_shard_index.specs.Callings.{StandOnce}
use Rattle.esm_shard_index.specs.Places.{places_from}
use Rattle.esm_shard_index.specs.Progress.{found_at}
use Rattle.esm_shard_index.specs.WindowEntries.{count_at, text_at}
use Rattle.esm_shard_index.specs.Windows.{WindowTable, open_in, state_in, times, window_before, is_open_in, IsWindows}
use Rattle.esm_shard_index.specs.WindowsLaws.{open_windows, closing_of, WindowsBegin, WindowsCome, WindowsGive, WindowsEnd, WindowsClose, WindowsStay, WindowsTell, WindowsRise, WindowFollows}
use Rattle.esm_shard_index.proofs.Places.{below_from}

-- counting

times-cons : (b : Bool) (x : ℕ) (xs : List ℕ) → length (if b then x ∷ xs else xs) ≤ suc (length xs)
times-cons true x xs = omega arith
times-cons false x xs = omega arith

pub times-take : (k : ℕ) (xs : List ℕ) (w : ℕ) → times (take k xs) w ≤ k
times-take zero xs w = omega arith
times-take (suc k) [] w = omega arith
times-take (suc k) (x ∷ xs) w = omega (arith, times-cons (x == w) x (filter (λ y. y == w) (take k xs)), times-take k xs w)

abbrev one : Bool → ℕ
one true = 1
one false = 0

length-filter : (p : ℕ → Bool) (x : ℕ) (xs : List ℕ) → length (filter p (x ∷ xs)) ≡ one (p x) + length (filter p xs)
length-filter p x xs = by (p x)
  where
    by : (b : Bool) → length (if b then x ∷ filter p xs else filter p xs) ≡ one b + length (filter p xs)
    by true = omega arith
    by false = omega arith

-- so many of the windows of places are w as there are places of the window w
times-map : (f : ℕ → ℕ) (w : ℕ) (xs : List ℕ) → times (map f xs) w ≡ length (filter (λ i. f i == w) xs)
times-map f w [] = refl
times-map f w (x ∷ xs) =
    omega (arith, length-filter (λ y. y == w) (f x) (map f xs), length-filter (λ i. f i == w) x xs, times-map f w xs)

filter_twice : (p q : ℕ → Bool) (xs : List ℕ) → length (filter q (filter p xs)) ≡ length (filter (λ i. p i && q i) xs)
filter_twice p q [] = refl
filter_twice p q (x ∷ xs) = by (p x) (filter_twice p q xs)
  where
    by : (b : Bool) → length (filter q (filter p xs)) ≡ length (filter (λ i. p i && q i) xs)
        → length (filter q (if b then x ∷ filter p xs else filter p xs)) ≡ length (if b && q x then x ∷ filter (λ i. p i && q i) xs else filter (λ i. p i && q i) xs)
    by true e = length-filter q x (filter p xs) ∙ ap (λ k. one (q x) + k) e ∙ sym (by_q (q x) (filter (λ i. p i && q i) xs))
      where
        by_q : (b : Bool) (ys : List ℕ) → length (if b then x ∷ ys else ys) ≡ one b + length ys
        by_q true ys = omega arith
        by_q false ys = omega arith
    by false e = e

filter_from : (p q : ℕ → Bool) (first k : ℕ) → ((i : ℕ) → first ≤ i → p i ≡ q i) → filter p (places_from first k) ≡ filter q (places_from first k)
filter_from p q first zero same = refl
filter_from p q first (suc k) same =
    ap (λ b. if b then first ∷ filter p (places_from (suc first) k) else filter p (places_from (suc first) k)) (same first (omega arith))
    ∙ ap (λ (ys : List ℕ). if q first then first ∷ ys else ys) (filter_from p q (suc first) k (λ i low. same i (omega arith)))

filter_below : (p : ℕ → Bool) (n : ℕ) → length (filter p (below (suc n))) ≡ length (filter p (below n)) + one (p n)
filter_below p n =
    ap length (filter-append p (below n) (n ∷ [])) ∙ length-append (filter p (below n)) (filter p (n ∷ []))
    ∙ ap (λ k. length (filter p (below n)) + k) (length-filter p n [] ∙ add_zero (one (p n)))
  where
    add_zero : (k : ℕ) → k + 0 ≡ k
    add_zero k = omega arith

single : (q : ℕ → Bool) (p n : ℕ) → p < n → length (filter (λ i. (p == i) && q i) (below n)) ≡ one (q p)
single q p zero low = absurd (omega arith)
single q p (suc n) low =
    filter_below (λ i. (p == i) && q i) n
    ∙ elim (cases_lt p n) [
      | inl less ↦ (let none : one ((p == n) && q n) ≡ 0 = rw (ne_eqb p n (λ e. absurd (omega arith))) refl in omega (arith, single q p n less))
      | inr ge ↦ (
          let e : p ≡ n = omega arith in
          let none : length (filter (λ i. (p == i) && q i) (below n)) ≡ 0 =
          ap length (filter_none (λ i. (p == i) && q i) (below n) (λ i m. rw (ne_eqb p i (λ same. absurd (let l : i < n = In-below n i m in omega arith))) refl)) in
          let here : one ((p == n) && q n) ≡ one (q p) = ap (λ b. one (b && q n)) (eq-eqb p n e) ∙ ap (λ k. one (q k)) (sym e) in
          omega (arith, none, here))
    ]

sums_of : (p q r : ℕ → Bool) → ((i : ℕ) → one (p i) ≡ one (q i) + one (r i)) → (xs : List ℕ) → length (filter p xs) ≡ length (filter q xs) + length (filter r xs)
sums_of p q r each [] = refl
sums_of p q r each (x ∷ xs) = omega (arith, length-filter p x xs, length-filter q x xs, length-filter r x xs, each x, sums_of p q r each xs)

-- places that stand once are counted among the numbers
counted : (q : ℕ → Bool) (n : ℕ) (places : List ℕ) → StandOnce places → ((i : ℕ) → holds places i ≡ true → i < n)
    → length (filter (λ i. holds places i && q i) (below n)) ≡ length (filter q places)
counted q n [] once within = ap length (filter_none (λ i. false) (below n) (λ i m. refl))
counted q n (p ∷ places) once within =
    let split : length (filter (λ i. holds (p ∷ places) i && q i) (below n)) ≡ length (filter (λ i. (p == i) && q i) (below n)) + length (filter (λ i. holds places i && q i) (below n)) =
    sums_of (λ i. holds (p ∷ places) i && q i) (λ i. (p == i) && q i) (λ i. holds places i && q i) (λ i. one_of (p == i) (holds places i) (q i) (λ same. subst (λ k. holds places k ≡ false) (eqb-true p i same) once.0)) (below n) in
    omega (
      arith,
      split,
      single q p n (within p (or_here (p == p) (holds places p) (eq-eqb p p refl))),
      length-filter q p places,
      counted q n places once.1 (λ i m. within i (or_there (p == i) (holds places i) m)),
    )
  where
    one_of : (a b c : Bool) → (a ≡ true → b ≡ false) → one ((a || b) && c) ≡ one (a && c) + one (b && c)
    one_of true b c apart = rw (apart refl) (omega arith)
    one_of false b c apart = omega arith

    or_here : (a b : Bool) → a ≡ true → (a || b) ≡ true
    or_here true b is = refl
    or_here false b is = cc

    or_there : (a b : Bool) → b ≡ true → (a || b) ≡ true
    or_there true b is = refl
    or_there false b is = is

-- windows never go back

from_least : (width before : ℕ) (rs : List Record) (i : ℕ) → before ≤ window_from width before rs i
from_least width before [] i = omega arith
from_least width before (r ∷ rs) zero = omega arith
from_least width before (r ∷ rs) (suc i) = omega (arith, from_least width (max before (window_floor width r.arrival)) rs i)

one_on : (width before : ℕ) (rs : List Record) (i : ℕ) → window_from width before rs i ≤ window_from width before rs (suc i)
one_on width before [] i = omega arith
one_on width before (r ∷ rs) zero = from_least width (max before (window_floor width r.arrival)) rs 0
one_on width before (r ∷ rs) (suc i) = one_on width (max before (window_floor width r.arrival)) rs i

rise_by : (s : Setting) (n i k : ℕ) → window_of s n i ≤ window_of s n (k + i)
rise_by s n i zero = (let e : 0 + i ≡ i = omega arith in rw e (omega arith))
rise_by s n i (suc k) = (let e : suc k + i ≡ suc (k + i) = omega arith in rw e (omega (arith, rise_by s n i k, one_on s.config.tumbling_ms 0 (records_of s n) (k + i))))

pub windows_rise : (s : Setting) (n : ℕ) → WindowsRise s n
windows_rise s n i j le = (let e : (j - i) + i ≡ j = omega arith in subst (λ k. window_of s n i ≤ window_of s n k) e (rise_by s n i (j - i)))

abbrev before_in : ℕ → ℕ → List Record → ℕ → ℕ
before_in width before rs zero = before
before_in width before rs (suc i) = window_from width before rs i

before_past : (width before : ℕ) (r : Record) (rs : List Record) (i : ℕ) → before_in width (max before (window_floor width r.arrival)) rs i ≡ window_from width before (r ∷ rs) i
before_past width before r rs zero = refl
before_past width before r rs (suc i) = refl

follows_in : (width before : ℕ) (rs : List Record) (i : ℕ) (r : Record) → slice_get rs i ≡ Some r → window_from width before rs i ≡ max (before_in width before rs i) (window_floor width r.arrival)
follows_in width before [] i r at = cc
follows_in width before (x ∷ rs) zero r at = (let e : x ≡ r = cc in ap (λ (y : Record). max before (window_floor width y.arrival)) e)
follows_in width before (x ∷ rs) (suc i) r at =
    follows_in width (max before (window_floor width x.arrival)) rs i r at
    ∙ ap (λ k. max k (window_floor width r.arrival)) (before_past width before x rs i)

pub window_follows : (s : Setting) (n : ℕ) → WindowFollows s n
window_follows s n zero r at = follows_in s.config.tumbling_ms 0 (records_of s n) 0 r at
window_follows s n (suc i) r at = follows_in s.config.tumbling_ms 0 (records_of s n) (suc i) r at

-- laws

pub windows_begin : (s : Setting) (n : ℕ) (t : WindowTable) → WindowsBegin s n t
windows_begin s n t none states tries last = record { opened = none; states = states; tries = tries; last = last; ahead = λ i low. refl }

stays_none : {A : Type 0} (o : Option A) → option_or o None ≡ o
stays_none None = refl
stays_none (Some x) = refl

pub windows_stay : (s : Setting) (h : List Entry) (n : ℕ) (t : WindowTable) → WindowsStay s h n t
windows_stay s h n t (Came shard first count m) off is = record {
  opened = λ w. is.opened w ∙ rw off refl;
  states = is.states;
  tries = is.tries;
  last = is.last ∙ rw off refl;
  ahead = λ i low. is.ahead i (rw off at low);
}
windows_stay s h n t (Gave by shard places f line state m) off is =
    let same : (i : ℕ) → given (Gave by shard places f line state m ∷ h) n i ≡ given h n i = λ (i : ℕ). rw off (stays_none (given h n i)) in
    record {
      opened = λ w. is.opened w ∙ sym (ap length (filter_agree (is_open_in s (Gave by shard places f line state m ∷ h) n w) (is_open_in s h n w)
          (λ i. ap (λ (o : Option Fate). is_none (option_or (found_at s n i) o) && (window_of s n i == w)) (same i)) (below (came_count h n))));
      states = λ w. is.states w ∙ rw off refl;
      tries = is.tries;
      last = is.last;
      ahead = λ i low. same i ∙ is.ahead i low;
    }
windows_stay s h n t (Ended lane reply m) off is = record { opened = is.opened; states = is.states; tries = λ w. is.tries w ∙ rw off refl; last = is.last; ahead = is.ahead }
windows_stay s h n t (Closed lane w m) off is = record { opened = is.opened; states = λ w. is.states w ∙ rw off refl; tries = λ w. is.tries w ∙ rw off refl; last = is.last; ahead = is.ahead }
windows_stay s h n t (Began lane places closing m) off is = record { opened = is.opened; states = is.states; tries = is.tries; last = is.last; ahead = is.ahead }
windows_stay s h n t (Tried lane places closing tries m) off is = record { opened = is.opened; states = is.states; tries = is.tries; last = is.last; ahead = is.ahead }
windows_stay s h n t (Replayed shard places m) off is = record { opened = is.opened; states = is.states; tries = is.tries; last = is.last; ahead = is.ahead }
windows_stay s h n t (Shut m) off is = record { opened = is.opened; states = is.states; tries = is.tries; last = is.last; ahead = is.ahead }

-- records come

pub windows_come : (s : Setting) (h : List Entry) (n : ℕ) (t : WindowTable) → WindowsCome s h n t
windows_come s h n t after first count m is opened last states tries =
    let more : came_count (Came n first count m ∷ h) n ≡ count + came_count h n = came_of_shard n first count m h in
    record {
      opened = λ w.
          let new : times (open_windows s n (came_count h n) count) w ≡ length (filter (is_open_in s h n w) (places_from (came_count h n) count)) =
          times-map (window_of s n) w (filter (λ i. is_none (found_at s n i)) (places_from (came_count h n) count))
          ∙ filter_twice (λ i. is_none (found_at s n i)) (λ i. window_of s n i == w) (places_from (came_count h n) count)
          ∙ ap length (filter_from (λ i. is_none (found_at s n i) && (window_of s n i == w)) (is_open_in s h n w) (came_count h n) count
          (λ i low. sym (ap (λ (o : Option Fate). is_none o && (window_of s n i == w)) (ap (option_or (found_at s n i)) (is.ahead i low) ∙ stays_none (found_at s n i))))) in
          let all : length (filter (is_open_in s h n w) (below (count + came_count h n))) ≡ length (filter (is_open_in s h n w) (below (came_count h n))) + length (filter (is_open_in s h n w) (places_from (came_count h n) count)) =
          ap (λ (xs : List ℕ). length (filter (is_open_in s h n w) xs)) (below_from (came_count h n) count)
          ∙ ap length (filter-append (is_open_in s h n w) (below (came_count h n)) (places_from (came_count h n) count))
          ∙ length-append (filter (is_open_in s h n w) (below (came_count h n))) (filter (is_open_in s h n w) (places_from (came_count h n) count)) in
          let sum : open_in after w ≡ length (filter (is_open_in s h n w) (below (count + came_count h n))) = omega (arith, opened w, is.opened w, new, all) in
          sum ∙ ap (λ k. length (filter (is_open_in s h n w) (below k))) (sym more);
      states = λ w. ap (λ (es : List (ℕ × Option (List ℕ))). text_at es w) states ∙ is.states w;
      tries = λ w. ap (λ (es : List (ℕ × ℕ)). count_at es w) tries ∙ is.tries w;
      last = last ∙ ap (window_before s n) (let e : came_count h n + count ≡ came_count (Came n first count m ∷ h) n = omega (arith, more) in e);
      ahead = λ i low. is.ahead i (omega (arith, more, low));
    }

-- places get a fate

pub windows_give : (s : Setting) (h : List Entry) (n : ℕ) (t : WindowTable) → WindowsGive s h n t
windows_give s h n t after by places f line state m is once named opened states tries last =
    let e = Gave by n places f line state m in
    let here : (i : ℕ) → ((n == n) && holds places i) ≡ holds places i = λ (i : ℕ). ap (λ b. b && holds places i) (eq-eqb n n refl) in
    record {
      opened = λ w.
          let parts : length (filter (is_open_in s h n w) (below (came_count h n)))
          ≡ length (filter (is_open_in s (Gave by n places f line state m ∷ h) n w) (below (came_count h n))) + length (filter (λ i. holds places i && (window_of s n i == w)) (below (came_count h n))) =
          sums_of (is_open_in s h n w) (is_open_in s (Gave by n places f line state m ∷ h) n w) (λ i. holds places i && (window_of s n i == w))
          (λ i. ap (λ b. one (lacks_fate s h n i && (window_of s n i == w))) (here i)
          ∙ part (lacks_fate s h n i) (holds places i) (window_of s n i == w) (λ m. (named i m).1)
          ∙ ap (λ b. one (b && (window_of s n i == w)) + one (holds places i && (window_of s n i == w)))
          (sym (lacks_gave s by n places f line state m h n i ∙ ap (λ b. lacks_fate s h n i && not b) (here i))))
          (below (came_count h n)) in
          let taken : length (filter (λ i. holds places i && (window_of s n i == w)) (below (came_count h n))) ≡ times (map (window_of s n) places) w =
          counted (λ i. window_of s n i == w) (came_count h n) places once (λ i m. (named i m).0) ∙ sym (times-map (window_of s n) w places) in
          omega (arith, opened w, is.opened w, parts, taken);
      states = λ w. states w ∙ ap (λ (o : Option (List ℕ)). text_for w o state) (is.states w) ∙ sym (rw (eq-eqb n n refl) refl);
      tries = λ w. ap (λ (es : List (ℕ × ℕ)). count_at es w) tries ∙ is.tries w;
      last = last ∙ is.last;
      ahead = λ i low. ap (λ (o : Option Fate). option_or o (cond ((n == n) && holds places i) (Some f) None)) (is.ahead i low)
          ∙ ap (λ b. cond b (Some f) None) (here i ∙ not_in places i (λ m. absurd (let l : i < came_count h n = (named i m).0 in omega arith)));
    }
  where
    part : (a b c : Bool) → (b ≡ true → a ≡ true) → one (a && c) ≡ one ((a && not b) && c) + one (b && c)
    part true true c named = omega arith
    part true false c named = omega arith
    part false true c named = (let e : false ≡ true = named refl in cc)
    part false false c named = omega arith

-- calls end, and windows are closed

capped_more : (most n : ℕ) → min most (suc n) ≡ min most (min most n + 1)
capped_more most n = omega arith

closed_is : (o : Option ℕ) (w : ℕ) → is_closed_by o w ≡ true → o ≡ Some w
closed_is None w is = cc
closed_is (Some v) w is = ap Some (eqb-true v w is)

final_counts : (s : Setting) (h : List Entry) (n : ℕ) (o : Option Call) (w : ℕ) (reply : Reply)
    → counts_in_final_call s n o w (window_tries_sum s h n w) reply ≡ (is_closed_by (closing_of o) w && is_counted (verdict_on s h n o reply).rest)
final_counts s h n None w reply = refl
final_counts s h n (Some call) w reply =
    elim (cases_Bool (is_closed_by call.closing w)) [
      | inr other ↦ rw other refl
      | inl same ↦ ap (λ (v : Option ℕ). is_closed_by call.closing w && is_counted (call_verdict s n call (tries_for s h n call.places v) reply).rest) (sym (closed_is call.closing w same))
    ]

pub windows_end : (s : Setting) (h : List Entry) (lane : LaneId) (t : WindowTable) → WindowsEnd s h lane t
windows_end s h lane t after reply m is tries opened states last = record {
  opened = λ w. ap (λ (es : List (ℕ × ℕ)). count_at es w) opened ∙ is.opened w;
  states = λ w. ap (λ (es : List (ℕ × Option (List ℕ))). text_at es w) states ∙ is.states w;
  tries = λ w.
      let n = lane.shard in
      let counts : ((lane.shard == lane.shard) && counts_in_final_call s lane.shard (last_call h lane) w (window_tries_sum s h lane.shard w) reply)
      ≡ (is_closed_by (closing_of (last_call h lane)) w && is_counted (verdict_after s h lane reply).rest) =
      ap (λ b. b && counts_in_final_call s lane.shard (last_call h lane) w (window_tries_sum s h lane.shard w) reply) (eq-eqb lane.shard lane.shard refl)
      ∙ final_counts s h lane.shard (last_call h lane) w reply in
      tries w
      ∙ ap (λ k. if is_closed_by (closing_of (last_call h lane)) w && is_counted (verdict_after s h lane reply).rest then capped_tries (k + 1) else k) (is.tries w)
      ∙ more (is_closed_by (closing_of (last_call h lane)) w && is_counted (verdict_after s h lane reply).rest) (window_tries_sum s h lane.shard w)
      ∙ ap (λ b. capped_tries (if b then suc (window_tries_sum s h lane.shard w) else window_tries_sum s h lane.shard w)) (sym counts);
  last = last ∙ is.last;
  ahead = is.ahead;
}
  where
    more : (b : Bool) (sum : ℕ) → (if b then capped_tries (capped_tries sum + 1) else capped_tries sum) ≡ capped_tries (if b then suc sum else sum)
    more true sum = sym (capped_more MAX_TRIES sum)
    more false sum = refl

pub windows_close : (s : Setting) (h : List Entry) (lane : LaneId) (t : WindowTable) → WindowsClose s h lane t
windows_close s h lane t after window m is states tries opened last = record {
  opened = λ w. ap (λ (es : List (ℕ × ℕ)). count_at es w) opened ∙ is.opened w;
  states = λ w. states w ∙ ap (λ (o : Option (List ℕ)). if window == w then None else o) (is.states w) ∙ sym (ap (λ b. if b then None else kept_state s h lane.shard w) (here (window == w)));
  tries = λ w. tries w ∙ ap (λ k. if window == w then 0 else k) (is.tries w) ∙ none (window == w) (window_tries_sum s h lane.shard w)
      ∙ sym (ap (λ b. capped_tries (if b then 0 else window_tries_sum s h lane.shard w)) (here (window == w)));
  last = last ∙ is.last;
  ahead = is.ahead;
}
  where
    here : (b : Bool) → ((lane.shard == lane.shard) && b) ≡ b
    here b = ap (λ t. t && b) (eq-eqb lane.shard lane.shard refl)

    none : (b : Bool) (sum : ℕ) → (if b then 0 else capped_tries sum) ≡ capped_tries (if b then 0 else sum)
    none true sum = refl
    none false sum = refl

-- what is read off

none_open : (p : ℕ → Bool) (xs : List ℕ) → not (list_any p xs) ≡ (length (filter p xs) == 0)
none_open p [] = refl
none_open p (x ∷ xs) = by (p x) (none_open p xs)
  where
    by : (b : Bool) → not (list_any p xs) ≡ (length (filter p xs) == 0) → not (b || list_any p xs) ≡ (length (if b then x ∷ filter p xs else filter p xs) == 0)
    by true e = sym (ne_eqb (suc (length (filter p xs))) 0 (λ z. absurd (omega arith)))
    by false e = e

later_is : (s : Setting) (n w c : ℕ) → list_any (λ i. nat_lt w (window_of s n i)) (below c) ≡ nat_lt w (window_before s n c)
later_is s n w zero = sym (not_below w)
  where
    not_below : (w : ℕ) → nat_lt w 0 ≡ false
    not_below w = elim (cases_Bool (nat_lt w 0)) [ inl is ↦ absurd (let l : w < 0 = ltb-true w 0 is in omega arith) | inr not' ↦ not' ]
later_is s n w (suc k) =
    list_any-append (λ i. nat_lt w (window_of s n i)) (below k) (k ∷ [])
    ∙ ap (λ b. b || (nat_lt w (window_of s n k) || false)) (later_is s n w k)
    ∙ joined (nat_lt w (window_before s n k)) (nat_lt w (window_of s n k)) (λ is. lt-ltb w (window_of s n k) (let l : w < window_before s n k = ltb-true w (window_before s n k) is in let le : window_before s n k ≤ window_of s n k = before_le s n k in omega arith))
  where
    joined : (a b : Bool) → (a ≡ true → b ≡ true) → (a || (b || false)) ≡ b
    joined true b leads = sym (leads refl)
    joined false true leads = refl
    joined false false leads = refl

    before_le : (s : Setting) (n k : ℕ) → window_before s n k ≤ window_of s n k
    before_le s n zero = omega arith
    before_le s n (suc k) = windows_rise s n k (suc k) (omega arith)

pub windows_tell : (s : Setting) (h : List Entry) (n : ℕ) (t : WindowTable) → has_windows s.config ≡ true → 1 ≤ came_count h n → IsWindows s h n t → WindowsTell s h n t
windows_tell s h n t windows came is = record {
  outstanding_is = outstanding;
  due_is = λ w.
      ap (λ b. b && not (has_open_record s h n w) && (has_later_record s h n w || is_shut h)) (outstanding w)
      ∙ ap (λ b. is_some (state_in t w) && b && (has_later_record s h n w || is_shut h)) (none_open (is_open_in s h n w) (below (came_count h n)) ∙ ap (λ k. k == 0) (sym (is.opened w)))
      ∙ ap (λ b. is_some (state_in t w) && (open_in t w == 0) && (b || is_shut h)) (later_is s n w (came_count h n) ∙ ap (nat_lt w) (sym is.last));
}
  where
    outstanding : (w : ℕ) → is_outstanding s h n w ≡ is_some (state_in t w)
    outstanding w =
        ap (λ b. b && nat_lt 0 (came_count h n) && is_some (kept_state s h n w)) windows
        ∙ ap (λ b. b && is_some (kept_state s h n w)) (lt-ltb 0 (came_count h n) came)
        ∙ ap is_some (sym (is.states w))
