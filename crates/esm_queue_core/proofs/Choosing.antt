-- What comes next by the queue's state is what comes next by the history.
use Rattle.std.proofs.Common.{◌≡◌, ℕ, zero, suc, ◌+◌, ◌<◌, ◌≤◌, Bool, true, false, cond, ◌||◌, List, [], ◌∷◌, length, take, refl, sym, ap, ap₂, ◌∙◌, subst, arith, Option, Some, None}
use Rattle.std.specs.Prelude.{◌==◌, All, nat_le, nat_lt, option_map, unwrap_or, slice_index}
use Rattle.std.proofs.lemmas.List.{length-take-le}
use Rattle.std.proofs.lemmas.Bool.{both_ways, and_parts, leb-true, le-leb, lt-leb}
use Rattle.esm_model.specs.declared.limits.TheConstants.{MAX_EVENT}
use Rattle.esm_model.specs.declared.config.Config.{Config}
use Rattle.esm_model.specs.declared.config.Kind.{Kind}
use Rattle.esm_model.specs.declared.config.Kind.TheVariants.{Stream, Standard, Fifo}
use Rattle.esm_model.specs.declared.book.Next.TheVariants as next
use Rattle.esm_model.specs.declared.entry.Entry.{Entry}
use Rattle.esm_model.specs.Moment.{moment_after}
use Rattle.esm_model.specs.Entries.{is_shut, calls_begun, came_moment}
use Rattle.esm_model.specs.Fates.{below}
use Rattle.esm_model.specs.Batches.{longest}
use Rattle.esm_model.specs.Valid.{is_batch_size}
use Rattle.esm_model.specs.QueueEvent.{IsQueueConfig, queue_event_text}
use Rattle.esm_queue_model.specs.declared.stored.Stored.{Stored}
use Rattle.esm_queue_model.specs.Queue.{QueueState, stored_at, is_receivable, is_eligible, eligible, receivable}
use Rattle.esm_queue_model.specs.QueueSetting.{QueueSetting}
use Rattle.esm_queue_model.specs.QueueEntries.{queue_lane, queue_of, queue_count}
use Rattle.esm_queue_model.specs.QueueBatch.{queue_batch, is_batch_ready, is_queue_ready}
use Rattle.esm_queue_model.proofs.Places.{In, In-here, In-take, In-filter}
use Rattle.esm_queue_model.proofs.QueueHistories.{longest_front}
use Rattle.esm_queue.proofs.Fronts.{Rises-take, Rises_at, Rises-filter_below}
use Rattle.esm_queue_core.specs.declared.next.Counts.{Counts}
use Rattle.esm_queue_core.specs.Next.{is_all_deleted, deleted_number, next_batch, next_allowed, next_for, job_of, IsToldBy}
use Rattle.esm_queue_core.specs.Choosing.{received, event_in, fits_in, batch_in, came_in, window_of, ready_test, ready_in, rest_of, pause_with, next_in}
use Rattle.esm_queue_core.proofs.Cutting.{IsBounded, longest_of_front, longest_few, more_behind}
use Rattle.esm_queue_core.proofs.Deleted.{none_waits, one_waits}
use Rattle.esm_queue_core.proofs.Gathered.{event_is}

pub queue_size : (c : Config) → IsQueueConfig c → c.batch_size ≤ 10000
queue_size c is = by_kind c.kind is.valid.batch_size
  where
    by_kind : (kind : Kind) → is_batch_size kind c.batch_size ≡ true → c.batch_size ≤ 10000
    by_kind Fifo bounds = let most : c.batch_size ≤ 10 = leb-true c.batch_size 10 (and_parts (nat_le 1 c.batch_size) (nat_le c.batch_size 10) bounds).1 in omega arith
    by_kind Standard bounds = leb-true c.batch_size 10000 (and_parts (nat_le 1 c.batch_size) (nat_le c.batch_size 10000) bounds).1
    by_kind Stream bounds = leb-true c.batch_size 10000 (and_parts (nat_le 1 c.batch_size) (nat_le c.batch_size 10000) bounds).1

bounded : (c : Config) (q : QueueState) (m : ℕ) → IsBounded (fits_in c q m) c.batch_size
bounded c q m xs is = leb-true (length xs) c.batch_size (and_parts (nat_le (length xs) c.batch_size) (nat_le (length (event_in c q m xs)) MAX_EVENT) is).0

-- with a batch

waits_with : (c : Config) (q : QueueState) (shut : Bool) (k m : ℕ) (places : List ℕ) → 1 ≤ length places → ready_in c q shut m places ≡ false → next.Idle (pause_with q m (Some (window_of c q (slice_index places 0)))) ≡ next_in c q shut k m places
waits_with c q shut k m [] some early = absurd (omega arith)
waits_with c q shut k m (i ∷ places) some early =
    sym (ap (λ (b : Bool). cond b (next.Call (record { lane = queue_lane k; places = i ∷ places; closing = None; event = event_in c q m (i ∷ places) })) (next.Idle (pause_with q m (Some (window_of c q i))))) early)

calls_with : (c : Config) (q : QueueState) (shut : Bool) (k m : ℕ) (places : List ℕ) → 1 ≤ length places → ready_in c q shut m places ≡ true → next.Call (record { lane = queue_lane k; places = places; closing = None; event = event_in c q m places }) ≡ next_in c q shut k m places
calls_with c q shut k m [] some ready = absurd (omega arith)
calls_with c q shut k m (i ∷ places) some ready =
    sym (ap (λ (b : Bool). cond b (next.Call (record { lane = queue_lane k; places = i ∷ places; closing = None; event = event_in c q m (i ∷ places) })) (next.Idle (pause_with q m (Some (window_of c q i))))) ready)

first_taken : (n : ℕ) (xs : List ℕ) → 1 ≤ n → slice_index (take n xs) 0 ≡ slice_index xs 0
first_taken zero xs some = absurd (omega arith)
first_taken (suc n) [] some = refl
first_taken (suc n) (x ∷ xs) some = refl

-- the first of the eligible messages, one more than a batch takes, and so many of them that are the batch
pub record IsCutOf (c : Config) (q : QueueState) (m : ℕ) (all : List ℕ) (n : ℕ) : Type 0 where
  pub first : all ≡ take (c.batch_size + 1) (eligible q m)
  pub within : n ≤ length all
  pub longest : take n all ≡ longest (fits_in c q m) [] all

module _ (c : Config) (q : QueueState) (shut : Bool) (k m : ℕ) (all : List ℕ) (n : ℕ) (cut : IsCutOf c q m all n) where
  batch_is : take n all ≡ batch_in c q m
  batch_is =
      cut.longest ∙ (ap (longest (fits_in c q m) []) cut.first
      ∙ longest_of_front (fits_in c q m) c.batch_size (c.batch_size + 1) [] (eligible q m) (bounded c q m) (omega arith) (omega arith))

  long : length (take n all) ≡ n
  long = length-take-le n all cut.within

  few : n ≤ c.batch_size
  few = subst (λ j. j ≤ c.batch_size) (ap length (sym batch_is) ∙ long) (longest_few (fits_in c q m) c.batch_size [] (eligible q m) (bounded c q m) (omega arith))

  more : nat_lt n (length all) ≡ nat_lt n (length (eligible q m))
  more = ap (λ xs. nat_lt n (length xs)) cut.first ∙ more_behind n c.batch_size (eligible q m) few

  pub none_next : n ≡ 0 → next.Idle (pause_with q m None) ≡ next_in c q shut k m (batch_in c q m)
  none_next none = ap (λ j. next_in c q shut k m (take j all)) (sym none) ∙ ap (next_in c q shut k m) batch_is

  module _ (some : 1 ≤ n) where
    ready_is : ready_test c.batch_size n (length all) (window_of c q (slice_index all 0)) shut m ≡ ready_in c q shut m (take n all)
    ready_is =
        ap (λ (b : Bool). (n == c.batch_size) || b || nat_le (window_of c q (slice_index all 0)) m || shut) more
        ∙ ap₂ (λ (j i : ℕ). ready_test c.batch_size j (length (eligible q m)) (window_of c q i) shut m) (sym long) (sym (first_taken n all some))

    pub waits_next : ready_test c.batch_size n (length all) (window_of c q (slice_index all 0)) shut m ≡ false → next.Idle (pause_with q m (Some (window_of c q (slice_index all 0)))) ≡ next_in c q shut k m (batch_in c q m)
    waits_next early =
        ap (λ i. next.Idle (pause_with q m (Some (window_of c q i)))) (sym (first_taken n all some))
        ∙ (waits_with c q shut k m (take n all) (let l = long in omega (arith, l)) (sym ready_is ∙ early) ∙ ap (next_in c q shut k m) batch_is)

    pub calls_next : ready_test c.batch_size n (length all) (window_of c q (slice_index all 0)) shut m ≡ true → next.Call (record { lane = queue_lane k; places = take n all; closing = None; event = queue_event_text c (received m q (take n all)) }) ≡ next_in c q shut k m (batch_in c q m)
    calls_next ready =
        ap (λ text. next.Call (record { lane = queue_lane k; places = take n all; closing = None; event = text })) (event_is c q m (take n all))
        ∙ (calls_with c q shut k m (take n all) (let l = long in omega (arith, l)) (sym ready_is ∙ ready) ∙ ap (next_in c q shut k m) batch_is)

-- the first eligible messages are of the queue
pub receivable_within : (q : QueueState) (m max : ℕ) → All (λ p. p < length q.messages) (receivable q m max)
receivable_within q m max k d within =
    Rises_at 0 (length q.messages) (receivable q m max) k d (Rises-take 0 (length q.messages) max (eligible q m) (Rises-filter_below (is_eligible q m) (length q.messages))) within

-- by the history

-- an eligible message is stored
eligible_came : (q : QueueState) (m : ℕ) (h : List Entry) → ((i : ℕ) (x : Stored) → stored_at q i ≡ Some x → x.came ≡ came_moment h 0 i) → (i : ℕ) → is_eligible q m i ≡ true → came_in q i ≡ came_moment h 0 i
eligible_came q m h arrivals i is = stored (stored_at q i) refl
  where
    stored : (o : Option Stored) → stored_at q i ≡ o → came_in q i ≡ came_moment h 0 i
    stored None at = absurd (both_ways (is_eligible q m i) (ap (λ (p : Option Stored). unwrap_or (option_map (is_receivable q m (take i q.messages)) p) false) at) is)
    stored (Some x) at = ap (λ (p : Option Stored). unwrap_or (option_map (λ (x : Stored). x.came) p) 0) at ∙ arrivals i x at

batch_eligible : (c : Config) (q : QueueState) (m i : ℕ) (places : List ℕ) → batch_in c q m ≡ i ∷ places → is_eligible q m i ≡ true
batch_eligible c q m i places is =
    let front = longest_front (fits_in c q m) [] (eligible q m) in
    let here : In (take front.0 (eligible q m)) i = subst (λ ps. In ps i) (sym is ∙ front.1) (In-here i places i refl) in
    (In-filter (is_eligible q m) (below (length q.messages)) i (In-take front.0 (eligible q m) i here)).1

module _ (s : QueueSetting) (h : List Entry) (k m : ℕ) (arrivals : (i : ℕ) (x : Stored) → stored_at (queue_of s h) i ≡ Some x → x.came ≡ came_moment h 0 i) where
  chosen_with : (places : List ℕ) → queue_batch s h m ≡ places → next_in s.config (queue_of s h) (is_shut h) k m places ≡ next_batch s h k m places
  chosen_with [] is = refl
  chosen_with (i ∷ places) is =
      let q = queue_of s h in
      let came : came_in q i ≡ came_moment h 0 i = eligible_came q m h arrivals i (batch_eligible s.config q m i places is) in
      let ready : ready_in s.config q (is_shut h) m (i ∷ places) ≡ is_queue_ready s h m =
      ap (λ (n : ℕ). ready_test s.config.batch_size (length (i ∷ places)) (length (eligible q m)) (moment_after n s.config.window_ms) (is_shut h) m) came
      ∙ ap (λ (batch : List ℕ). is_batch_ready s h m (eligible q m) batch) (sym is) in
      ap₂ (λ (b : Bool) (n : ℕ). cond b (next.Call (job_of s h k (i ∷ places) m)) (next.Idle (pause_with q m (Some (moment_after n s.config.window_ms))))) ready came

module _ (c : Config) (q : QueueState) (counts : Counts) (k m : ℕ) (s : QueueSetting) (h : List Entry) (told : IsToldBy c q counts s h) where
  all_deleted : counts.deleted ≡ deleted_number q → counts.deleted ≡ length q.messages → is_all_deleted s h ≡ true
  all_deleted number all =
      let came = told.came_is in
      subst (λ (p : QueueState). length p.messages ≡ queue_count h → deleted_number p ≡ queue_count h → is_all_deleted s h ≡ true) (sym told.queue_is) (none_waits (queue_of s h) (queue_count h)) came (omega (arith, came, number, all))

  some_waits : counts.deleted ≡ deleted_number q → (counts.deleted ≡ length q.messages → ⊥) → is_all_deleted s h ≡ false
  some_waits number some =
      let came = told.came_is in
      subst (λ (p : QueueState). length p.messages ≡ queue_count h → (deleted_number p ≡ queue_count h → ⊥) → is_all_deleted s h ≡ false) (sym told.queue_is) (one_waits (queue_of s h) (queue_count h)) came (λ e. some (number ∙ (e ∙ sym came)))

  pub rests_next : counts.deleted ≡ deleted_number q → counts.deleted ≡ length q.messages → rest_of counts.shut m ≡ next_for s h k m
  rests_next number all =
      ap (λ (b : Bool). rest_of b m) told.shut_is
      ∙ sym (ap (λ (b : Bool). cond b (rest_of (is_shut h) m) (next_allowed s h k m)) (all_deleted number all))

  allowed : counts.deleted ≡ deleted_number q → (counts.deleted ≡ length q.messages → ⊥) → next_for s h k m ≡ next_allowed s h k m
  allowed number some = ap (λ (b : Bool). cond b (rest_of (is_shut h) m) (next_allowed s h k m)) (some_waits number some)

  pub spent_next : counts.deleted ≡ deleted_number q → (counts.deleted ≡ length q.messages → ⊥) → counts.calls ≤ counts.begun → next.Spent ≡ next_for s h k m
  spent_next number some spent =
      let calls = told.calls_are in
      let begun = told.begun_is in
      sym (allowed number some ∙ ap (λ (b : Bool). cond b next.Spent (next_batch s h k m (queue_batch s h m))) (le-leb s.calls (calls_begun h) (omega (arith, calls, begun, spent))))

  pub chosen_next : counts.deleted ≡ deleted_number q → (counts.deleted ≡ length q.messages → ⊥) → counts.begun < counts.calls → next_in c q counts.shut k m (batch_in c q m) ≡ next_for s h k m
  chosen_next number some left =
      let calls = told.calls_are in
      let begun = told.begun_is in
      let going : nat_le s.calls (calls_begun h) ≡ false = lt-leb s.calls (calls_begun h) (omega (arith, calls, begun, left)) in
      ap (λ (d : Config). next_in d q counts.shut k m (batch_in d q m)) told.config_is
      ∙ (ap (λ (p : QueueState). next_in s.config p counts.shut k m (batch_in s.config p m)) told.queue_is
      ∙ (ap (λ (b : Bool). next_in s.config (queue_of s h) b k m (batch_in s.config (queue_of s h) m)) told.shut_is
      ∙ (chosen_with s h k m (λ i x at. told.arrivals i x (ap (λ (p : QueueState). stored_at p i) told.queue_is ∙ at)) (queue_batch s h m) refl
      ∙ sym (allowed number some ∙ ap (λ (b : Bool). cond b next.Spent (next_batch s h k m (queue_batch s h m))) going))))
