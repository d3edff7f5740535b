-- What is kept of the core of a redrive stays true where an owed entry is added, is given up, or is noted.
use Rattle.std.proofs.Common.{◌≡◌, ℕ, zero, suc, ◌+◌, ◌<◌, ◌≤◌, ◌^◌, Bool, true, false, cond, List, [], ◌∷◌, ◌++◌, length, take, drop, reverse, refl, sym, ap, ap₂, ◌∙◌, subst, inl, inr, arith, Option, Some, None}
use Rattle.std.specs.Prelude.{nat_le, nat_lt, slice_get}
use Rattle.std.specs.List.{All}
use Rattle.std.proofs.lemmas.List.{append-nil, length-append, length-map, drop-take, reverse-append}
use Rattle.std.proofs.lemmas.List.Elements.{All-nil, All-cons, All-head, All-tail, All-append}
use Rattle.std.proofs.lemmas.Option.{none-some}
use Rattle.std.proofs.lemmas.Bool.{and_from, and_left, le-leb, lt-leb, lt-ltb}
use Rattle.esm_model.specs.declared.limits.TheConstants.{MAX_BATCH}
use Rattle.esm_model.specs.declared.moment.TheConstants.{MAX_MOMENT}
use Rattle.esm_model.specs.declared.config.Kind.{Kind}
use Rattle.esm_model.specs.declared.item.Message.{Message}
use Rattle.esm_model.specs.declared.lane.LaneId.{LaneId}
use Rattle.esm_model.specs.declared.entry.Reply.{Reply}
use Rattle.esm_model.specs.declared.entry.Entry.{Entry}
use Rattle.esm_model.specs.declared.entry.Entry.TheVariants as entry
use Rattle.esm_model.specs.Lane.{same_lane}
use Rattle.esm_model.specs.Fates.{below}
use Rattle.esm_model.specs.Entries.{is_shut, is_running, calls_begun, moment_of, last_call, batch_of, covers, came_moment}
use Rattle.esm_model.specs.ValidMessage.{IsValidMessage}
use Rattle.esm_queue_model.specs.declared.stored.Stored.{Stored}
use Rattle.esm_queue_model.specs.Queue.{QueueState, received_once, deleted_once, after_receipt, after_deletion, eligible, is_eligible, receivable, stored_at}
use Rattle.esm_queue_model.specs.QueueSetting.{QueueSetting, ExtendsMessages, over_messages}
use Rattle.esm_queue_model.specs.QueueEntries.{queue_lane, queue_of, queue_count, coming_from, after_coming}
use Rattle.esm_queue_model.proofs.Places.{In, In-cases, In-none, In-take, In-filter, In-below}
use Rattle.esm_queue_model.proofs.MoreMessages.{extends_front}
use Rattle.esm_queue.proofs.Changing.{length-changed_from}
use Rattle.esm_queue.proofs.Fronts.{Rises-take, Rises-filter_below}
use Rattle.esm_queue_core.specs.declared.owed.First.{First}
use Rattle.esm_queue_core.specs.declared.owed.First.TheVariants.{Came, Began, Ended}
use Rattle.esm_queue_core.specs.Next.{deleted_number, IsValidStored}
use Rattle.esm_queue_core.specs.Kept.{messages_stored, IsRisingFrom}
use Rattle.esm_queue_core.proofs.ByPlace.{joined_at, coming_at}
use Rattle.esm_queue_core.proofs.Arrivals.{kept_came}
use Rattle.esm_queue_core.proofs.StoredMessages.{all_changed, coming_stored, received_stored, deleted_stored}
use Rattle.esm_queue_core.proofs.Adding.{received_counts}
use Rattle.esm_queue_core.proofs.Added.{messages_came, messages_received, messages_deleted}
use Rattle.esm_queue_core.proofs.Named.{rising_of}
use Rattle.esm_queue_core.proofs.Giving.{all_in}
use Rattle.esm_queue_core.proofs.Bringing.{with_coming}
use Rattle.esm_redrive.specs.Limited.{Limited}
use Rattle.esm_redrive.specs.ReadsBack.{IsUtf8Message}
use Rattle.esm_redrive_core.specs.declared.owed.Gift.{Gift}
use Rattle.esm_redrive_core.specs.RedriveView.{RedriveView, paid, forgotten}
use Rattle.esm_redrive_core.proofs.Lines.{fewer_lines}
use Rattle.esm_redrive_core.specs.Kept.{Parts, IsKept, IsBatch, IsGiftOf, IsCovered, HaveLineFirst, CanAddFirst, own, setting_of, seen_of, all_of, gift_entry, gift_entries, owed_entries, cost}

-- lists that go on

pub goes_before : (a b messages : List Message) → ExtendsMessages (a ++ b) messages → ExtendsMessages a messages
goes_before a b messages goes i m at = goes i m (left_at a b i m at)
  where
    left_at : (a b : List Message) (i : ℕ) (m : Message) → slice_get a i ≡ Some m → slice_get (a ++ b) i ≡ Some m
    left_at [] b i m at = absurd (none-some m at)
    left_at (x ∷ a) b zero m at = at
    left_at (x ∷ a) b (suc i) m at = left_at a b i m at

pub goes_same : (a b messages : List Message) → a ≡ b → ExtendsMessages b messages → ExtendsMessages a messages
goes_same a b messages is goes = subst (λ (xs : List Message). ExtendsMessages xs messages) (sym is) goes

pub goes_itself : (a : List Message) → ExtendsMessages a a
goes_itself a i m at = at

-- the part of a longer list that comes
pub part_of : (old xs after : List Message) → ExtendsMessages (old ++ xs) after → take (length xs) (drop (length old) after) ≡ xs
part_of old xs after goes =
    let front = extends_front (old ++ xs) after goes in
    let long : length (old ++ xs) ≡ length old + length xs = length-append old xs in
    sym (drop-take (length old) (length xs) after)
    ∙ (ap (λ (n : ℕ). drop (length old) (take n after)) (sym long)
    ∙ (ap (drop (length old)) front.0 ∙ passed old xs))
  where
    passed : (xs ys : List Message) → drop (length xs) (xs ++ ys) ≡ ys
    passed [] ys = refl
    passed (x ∷ xs) ys = passed xs ys

-- batches

fewer : (n n' : ℕ) (xs : List ℕ) → n ≤ n' → All (λ i. i < n) xs → All (λ i. i < n') xs
fewer n n' [] le all = All-nil (λ i. i < n')
fewer n n' (x ∷ xs) le all =
    let low : x < n = All-head (λ i. i < n) x xs all in
    All-cons (λ i. i < n') x xs (omega arith) (fewer n n' xs le (All-tail (λ i. i < n) x xs all))

pub batch_more : (n n' : ℕ) (places : List ℕ) → n ≤ n' → IsBatch n places → IsBatch n' places
batch_more n n' places le is = record { within = fewer n n' places le is.within; rising = is.rising; few = is.few }

no_batch : IsBatch 0 []
no_batch = record { within = All-nil (λ i. i < 0); rising = tt; few = omega arith }

-- the first eligible messages make one
pub receivable_batch : (q : QueueState) (m : ℕ) (places : List ℕ) → places ≡ receivable q m (length places) → length places ≤ MAX_BATCH → IsBatch (length q.messages) places
receivable_batch q m places is few =
    let n = length q.messages in
    record {
      within = all_in places n (λ i member. In-below n i (In-filter (is_eligible q m) (below n) i (In-take (length places) (eligible q m) i (subst (λ ps. In ps i) is member))).0);
      rising = subst (IsRisingFrom 0) (sym is) (rising_of 0 n (take (length places) (eligible q m)) (Rises-take 0 n (length places) (eligible q m) (Rises-filter_below (is_eligible q m) n)));
      few = few;
    }

-- what entries cover

covers_more : (n n' : ℕ) (e : Entry) → n ≤ n' → IsCovered n e → IsCovered n' e
covers_more n n' (entry.Came shard first count m) le is = omega (arith, le, is)
covers_more n n' (entry.Gave by shard places fate line state m) le is = fewer n n' places le is
covers_more n n' (entry.Began lane places closing m) le is = tt
covers_more n n' (entry.Ended lane reply m) le is = tt
covers_more n n' (entry.Tried lane places closing tries m) le is = tt
covers_more n n' (entry.Closed lane window m) le is = tt
covers_more n n' (entry.Replayed shard places m) le is = tt
covers_more n n' (entry.Shut m) le is = tt

pub covered_more : (n n' : ℕ) (h : List Entry) → n ≤ n' → All (IsCovered n) h → All (IsCovered n') h
covered_more n n' [] le all = All-nil (IsCovered n')
covered_more n n' (e ∷ h) le all =
    All-cons (IsCovered n') e h (covers_more n n' e le (All-head (IsCovered n) e h all)) (covered_more n n' h le (All-tail (IsCovered n) e h all))

-- a member of a list within
pub within_of : (n : ℕ) (xs : List ℕ) (i : ℕ) → All (λ j. j < n) xs → In xs i → i < n
within_of n [] i all member = absurd (In-none i member)
within_of n (x ∷ xs) i all member = elim (In-cases x xs i member) [
  | inl here ↦ subst (λ (j : ℕ). j < n) here (All-head (λ j. j < n) x xs all)
  | inr there ↦ within_of n xs i (All-tail (λ j. j < n) x xs all) there
]

-- adding

-- the core after an entry is added
abbrev pub adding : Parts → Limited → Entry → ℕ → ℕ → Bool → List Gift → Parts
adding p q e begun deleted running gifts = record p {
  limited = q;
  past = e ∷ p.past;
  number = p.number + 1;
  last = moment_of e;
  begun = begun;
  deleted = deleted;
  running = running;
  coming = [];
  first = None;
  gifts = gifts;
}

pub record Adds (p : Parts) (q : Limited) (e : Entry) (begun deleted : ℕ) (running : Bool) (gifts : List Gift) : Type 0 where
  pub messages : messages_stored q.state ≡ all_of p
  pub state : (messages : List Message) → ExtendsMessages (all_of p) messages → q.state ≡ queue_of (over_messages (own p) messages) (e ∷ p.past)
  pub stored : All (IsValidStored p.config.kind) q.state.messages
  pub count : length q.state.messages ≡ queue_count (e ∷ p.past)
  pub arrivals : (i : ℕ) (x : Stored) → stored_at q.state i ≡ Some x → x.came ≡ came_moment (e ∷ p.past) 0 i
  pub covers : IsCovered (length (all_of p)) e
  pub limit : q.max_receives ≡ p.limited.max_receives
  pub in_time : moment_of e ≤ MAX_MOMENT
  pub open' : is_shut (e ∷ p.past) ≡ is_shut p.past
  pub begun_is : begun ≡ calls_begun (e ∷ p.past)
  pub deleted_is : deleted ≡ deleted_number q.state
  pub running_is : running ≡ is_running (e ∷ p.past) (queue_lane 0)
  pub batch : IsBatch (length q.state.messages) (batch_of (last_call (e ∷ p.past) (queue_lane 0)))
  pub cost_is : cost None gifts running p.shut + 1 ≤ cost p.first p.gifts p.running p.shut
  pub given : All (IsGiftOf (all_of p)) gifts
  pub lines : HaveLineFirst gifts

-- as many messages are stored then as came or are coming
all_length : (p : Parts) (q : Limited) → messages_stored q.state ≡ all_of p → length (all_of p) ≡ length q.state.messages
all_length p q is = sym (ap (λ (ms : List Message). length ms) is) ∙ length-map q.state.messages (λ (x : Stored). x.message)

stored_length : (p : Parts) → length p.limited.state.messages ≤ length (all_of p)
stored_length p =
    let a = length-append (messages_stored p.limited.state) p.coming in
    let b = length-map p.limited.state.messages (λ (x : Stored). x.message) in
    omega (arith, a, b)

all_added : (p : Parts) (q : Limited) → messages_stored q.state ≡ all_of p → messages_stored q.state ++ [] ≡ all_of p
all_added p q is = append-nil (messages_stored q.state) ∙ is

pub kept_added : (p : Parts) (q : Limited) (e : Entry) (begun deleted : ℕ) (running : Bool) (gifts : List Gift) → IsKept p → Adds p q e begun deleted running gifts → IsKept (adding p q e begun deleted running gifts)
kept_added p q e begun deleted running gifts k a =
    let all = all_added p q a.messages in
    record {
      config = k.config;
      criteria = k.criteria;
      valid = subst (All (IsValidMessage p.config.kind)) (sym all) k.valid;
      texts = subst (All IsUtf8Message) (sym all) k.texts;
      few = subst (λ (ms : List Message). length ms < 2 ^ 32) (sym all) k.few;
      queue = λ messages goes. a.state messages (goes_same (all_of p) (messages_stored q.state) messages (sym a.messages) goes);
      stored = a.stored;
      count = a.count;
      arrivals = a.arrivals;
      covered = (let long = all_length p q a.messages in
          let more = stored_length p in
          All-cons (IsCovered (length q.state.messages)) e p.past
          (subst (λ (n : ℕ). IsCovered n e) long a.covers)
          (covered_more (length p.limited.state.messages) (length q.state.messages) p.past (omega (arith, long, more)) k.covered));
      last = refl;
      in_time = a.in_time;
      shut = k.shut ∙ sym a.open';
      begun = a.begun_is;
      deleted = a.deleted_is;
      running = a.running_is;
      batch = a.batch;
      room = (let r = k.room in let c = a.cost_is in omega (arith, r, c));
      short = (let r = k.short in let c = a.cost_is in omega (arith, r, c));
      some_receives = (let l = a.limit in let r = k.some_receives in omega (arith, l, r));
      few_receives = (let l = a.limit in let r = k.few_receives in omega (arith, l, r));
      first = refl;
      gifts = subst (λ (ms : List Message). All (IsGiftOf ms) gifts) (sym all) a.given;
      lines = a.lines;
    }

-- and is seen so
pub seen_added : (p : Parts) (q : Limited) (e : Entry) (begun deleted : ℕ) (running : Bool) (gifts : List Gift) → messages_stored q.state ≡ all_of p → q.max_receives ≡ p.limited.max_receives → owed_entries p.first p.gifts ≡ e ∷ gift_entries gifts
    → seen_of (adding p q e begun deleted running gifts) ≡ paid (seen_of p)
seen_added p q e begun deleted running gifts messages limit owed =
    ap₂ (λ (ms : List Message) (n : ℕ). record { setting = record { queue = over_messages (own p) ms; max_receives = n; dead_ids = p.dead }; past = e ∷ p.past; coming = []; owed = gift_entries gifts }) messages limit
    ∙ ap (λ (es : List Entry). record { setting = record { queue = over_messages (own p) (all_of p); max_receives = p.limited.max_receives; dead_ids = p.dead }; past = take 1 es ++ p.past; coming = []; owed = drop 1 es }) (sym owed)

-- what is owed, where it is known

pub can_first : (p : Parts) (f : First) → IsKept p → p.first ≡ Some f → CanAddFirst p.limited p.coming (Some f)
can_first p f k is = subst (λ (o : Option First). CanAddFirst p.limited p.coming o) is k.first

pub none_coming : (p : Parts) → IsKept p → p.first ≡ None → p.coming ≡ []
none_coming p k none = subst (λ (o : Option First). CanAddFirst p.limited p.coming o) none k.first

pub all_own : (p : Parts) → p.coming ≡ [] → messages_stored p.limited.state ≡ all_of p
all_own p none = sym (append-nil (messages_stored p.limited.state)) ∙ ap (λ (ms : List Message). messages_stored p.limited.state ++ ms) (sym none)

own_state : (p : Parts) (messages : List Message) → IsKept p → ExtendsMessages (all_of p) messages → p.limited.state ≡ queue_of (over_messages (own p) messages) p.past
own_state p messages k goes = k.queue messages (goes_before (messages_stored p.limited.state) p.coming messages goes)

-- messages come

covered : (h : List Entry) (first count m i : ℕ) → first ≤ i → i < first + count → came_moment (entry.Came 0 first count m ∷ h) 0 i ≡ m
covered h first count m i low high =
    let is : covers 0 i (entry.Came 0 first count m) ≡ true = and_from (nat_le first i) (nat_lt i (first + count)) (le-leb first i low) (lt-ltb i (first + count) high) in
    rw is refl

not_covered : (h : List Entry) (first count m i : ℕ) → i < first → came_moment (entry.Came 0 first count m ∷ h) 0 i ≡ came_moment h 0 i
not_covered h first count m i low =
    let is : covers 0 i (entry.Came 0 first count m) ≡ false = and_left (nat_le first i) (nat_lt i (first + count)) (lt-leb first i low) in
    rw is refl

came_arrivals : (s : QueueSetting) (q : QueueState) (h : List Entry) (xs : List Message) (m : ℕ) → ((i : ℕ) (x : Stored) → stored_at q i ≡ Some x → x.came ≡ came_moment h 0 i) → (i : ℕ) (x : Stored) → slice_get (q.messages ++ coming_from s m (length q.messages) xs) i ≡ Some x → x.came ≡ came_moment (entry.Came 0 (length q.messages) (length xs) m ∷ h) 0 i
came_arrivals s q h xs m before i x at =
    let n = length q.messages in
    elim (joined_at q.messages (coming_from s m n xs) i x at) [
      | inl old ↦ (let l = old.0 in before i x old.1 ∙ sym (not_covered h n (length xs) m i l))
      | inr new ↦
          (let is = coming_at s m n xs new.0 x new.2 in
          let e = new.1 in
          let l = is.1 in
          ap (λ (z : Stored). z.came) is.3 ∙ sym (covered h n (length xs) m i (omega (arith, e)) (omega (arith, e, l))))
    ]

length-coming : (s : QueueSetting) (m k : ℕ) (xs : List Message) → length (coming_from s m k xs) ≡ length xs
length-coming s m k [] = refl
length-coming s m k (x ∷ xs) = ap suc (length-coming s m (k + 1) xs)

cost_came : (g r s : ℕ) → 0 + g + r + s + 1 ≤ 1 + g + r + s
cost_came g r s = omega arith

some_valid : (kind : Kind) (xs ys : List Message) → All (IsValidMessage kind) (xs ++ ys) → All (IsValidMessage kind) ys
some_valid kind [] ys all = all
some_valid kind (x ∷ xs) ys all = some_valid kind xs ys (All-tail (IsValidMessage kind) x (xs ++ ys) all)

pub came_adds : (p : Parts) (q : Limited) (from count m deleted : ℕ) → IsKept p → p.first ≡ Some (Came from count m) → ((s : QueueSetting) → s.deletions ≡ p.deletions → q.state ≡ with_coming s m p.limited.state p.coming) → q.max_receives ≡ p.limited.max_receives → deleted ≡ deleted_number q.state
    → Adds p q (entry.Came 0 from count m) p.begun deleted p.running p.gifts
came_adds p q from count m deleted k is brings limit deleted_is =
    let can = can_first p (Came from count m) k is in
    let state = brings (own p) refl in
    let old = p.limited.state in
    let xs = p.coming in
    let new = coming_from (own p) m (length old.messages) xs in
    let long : length (messages_stored old) ≡ length old.messages = length-map old.messages (λ (x : Stored). x.message) in
    let all : length q.state.messages ≡ length old.messages + length xs = ap (λ (r : QueueState). length r.messages) state ∙ (length-append old.messages new ∙ ap (λ (n : ℕ). length old.messages + n) (length-coming (own p) m (length old.messages) xs)) in
    let count_is = k.count in
    let from_is = can.0 in
    let many = can.1 in
    record {
      messages = ap messages_stored state ∙ messages_came (own p) old m (length old.messages) xs;
      state = λ messages goes.
          let s = over_messages (own p) messages in
          let part : take count (drop from messages) ≡ xs = ap₂ (λ (a b : ℕ). take a (drop b messages)) many (from_is ∙ sym long) ∙ part_of (messages_stored old) xs messages goes in
          brings s refl
          ∙ (ap₂ (λ (n : ℕ) (ys : List Message). record { fifo = old.fifo; visibility = old.visibility; messages = old.messages ++ coming_from s m n ys }) (sym from_is) (sym part)
          ∙ ap (λ (r : QueueState). after_coming s from count m r) (own_state p messages k goes));
      stored = subst (λ (r : QueueState). All (IsValidStored p.config.kind) r.messages) (sym state)
          (All-append (IsValidStored p.config.kind) old.messages new k.stored (coming_stored (own p) p.config.kind m (length old.messages) can.3 xs (some_valid p.config.kind (messages_stored old) xs k.valid)));
      count = omega (arith, all, count_is, many);
      arrivals = λ i x at.
          came_arrivals (own p) old p.past xs m k.arrivals i x (ap (λ (r : QueueState). slice_get r.messages i) (sym state) ∙ at)
          ∙ ap₂ (λ (a b : ℕ). came_moment (entry.Came 0 a b m ∷ p.past) 0 i) (sym from_is) (sym many);
      covers = (let size = length-append (messages_stored old) xs in omega (arith, size, from_is, many, long));
      limit = limit;
      in_time = can.3;
      open' = refl;
      begun_is = k.begun;
      deleted_is = deleted_is;
      running_is = k.running;
      batch = batch_more (length old.messages) (length q.state.messages) (batch_of (last_call p.past (queue_lane 0))) (omega (arith, all)) k.batch;
      cost_is = subst (λ (f : Option First). cost None p.gifts p.running p.shut + 1 ≤ cost f p.gifts p.running p.shut) (sym is) (cost_came (length p.gifts) (cond p.running 1 0) (cond p.shut 0 1));
      given = k.gifts;
      lines = k.lines;
    }

-- a call begins

pub same_lane-refl : (lane : LaneId) → same_lane lane lane ≡ true
same_lane-refl lane = grind arith

cost_began : (g r s : ℕ) → 0 + g + 1 + s + 1 ≤ 2 + g + r + s
cost_began g r s = omega arith

one_after : (a b : ℕ) → a ≡ b → a + 1 ≡ suc b
one_after a b is = omega arith

pub began_adds : (p : Parts) (q : Limited) (lane : LaneId) (places : List ℕ) (m begun : ℕ) → IsKept p → p.first ≡ Some (Began lane places m) → q.state ≡ after_receipt m places p.limited.state → q.max_receives ≡ p.limited.max_receives → begun ≡ p.begun + 1
    → Adds p q (entry.Began lane places None m) begun p.deleted true p.gifts
began_adds p q lane places m begun k is state limit begun_is =
    let can = can_first p (Began lane places m) k is in
    let old = p.limited.state in
    let own_lane : same_lane lane (queue_lane 0) ≡ true = ap (λ (l : LaneId). same_lane l (queue_lane 0)) can.1 ∙ same_lane-refl (queue_lane 0) in
    let sized : length q.state.messages ≡ length old.messages = ap (λ (r : QueueState). length r.messages) state ∙ length-changed_from (received_once m) places 0 old.messages in
    record {
      messages = ap messages_stored state ∙ (messages_received old m places ∙ all_own p can.0);
      state = λ messages goes. state ∙ ap (λ (r : QueueState). after_receipt m places r) (own_state p messages k goes);
      stored = subst (λ (r : QueueState). All (IsValidStored p.config.kind) r.messages) (sym state) (all_changed (IsValidStored p.config.kind) (received_once m) (received_stored p.config.kind m can.2.in_time) places 0 old.messages k.stored);
      count = sized ∙ k.count;
      arrivals = λ i x at. kept_came (received_once m) (λ y. refl) places old.messages i (came_moment p.past 0 i) x (ap (λ (r : QueueState). slice_get r.messages i) (sym state) ∙ at) (k.arrivals i);
      covers = tt;
      limit = limit;
      in_time = can.2.in_time;
      open' = refl;
      begun_is = begun_is ∙ one_after p.begun (calls_begun p.past) k.begun;
      deleted_is = k.deleted ∙ (sym (received_counts m places 0 old.messages) ∙ ap deleted_number (sym state));
      running_is = sym (ap (λ (b : Bool). cond b true (is_running p.past (queue_lane 0))) own_lane);
      batch = rw own_lane (subst (λ (n : ℕ). IsBatch n places) (sym sized) (receivable_batch old m places can.2.receives can.2.few));
      cost_is = subst (λ (f : Option First). cost None p.gifts true p.shut + 1 ≤ cost f p.gifts p.running p.shut) (sym is) (cost_began (length p.gifts) (cond p.running 1 0) (cond p.shut 0 1));
      given = k.gifts;
      lines = k.lines;
    }

-- the call ends

cost_ended : (g r s : ℕ) → 0 + g + 0 + s + 1 ≤ 1 + g + r + s
cost_ended g r s = omega arith

pub ended_adds : (p : Parts) (lane : LaneId) (reply : Reply) (m : ℕ) → IsKept p → p.first ≡ Some (Ended lane reply m) → Adds p p.limited (entry.Ended lane reply m) p.begun p.deleted false p.gifts
ended_adds p lane reply m k is =
    let can = can_first p (Ended lane reply m) k is in
    let own_lane : same_lane lane (queue_lane 0) ≡ true = ap (λ (l : LaneId). same_lane l (queue_lane 0)) can.1 ∙ same_lane-refl (queue_lane 0) in
    record {
      messages = all_own p can.0;
      state = λ messages goes. own_state p messages k goes;
      stored = k.stored;
      count = k.count;
      arrivals = k.arrivals;
      covers = tt;
      limit = refl;
      in_time = can.2;
      open' = refl;
      begun_is = k.begun;
      deleted_is = k.deleted;
      running_is = sym (ap (λ (b : Bool). cond b false (is_running p.past (queue_lane 0))) own_lane);
      batch = k.batch;
      cost_is = subst (λ (f : Option First). cost None p.gifts false p.shut + 1 ≤ cost f p.gifts p.running p.shut) (sym is) (cost_ended (length p.gifts) (cond p.running 1 0) (cond p.shut 0 1));
      given = k.gifts;
      lines = k.lines;
    }

-- messages are deleted

cost_gave : (g r s : ℕ) → 0 + g + r + s + 1 ≤ 0 + suc g + r + s
cost_gave g r s = omega arith

pub gave_adds : (p : Parts) (q : Limited) (g : Gift) (rest : List Gift) (deleted : ℕ) → IsKept p → p.first ≡ None → p.gifts ≡ g ∷ rest → q.state ≡ after_deletion g.places p.limited.state → q.max_receives ≡ p.limited.max_receives → deleted ≡ deleted_number q.state
    → Adds p q (gift_entry g) p.begun deleted p.running rest
gave_adds p q g rest deleted k none is state limit deleted_is =
    let old = p.limited.state in
    let gifts : All (IsGiftOf (all_of p)) (g ∷ rest) = subst (All (IsGiftOf (all_of p))) is k.gifts in
    let sized : length q.state.messages ≡ length old.messages = ap (λ (r : QueueState). length r.messages) state ∙ length-changed_from deleted_once g.places 0 old.messages in
    record {
      messages = ap messages_stored state ∙ (messages_deleted old g.places ∙ all_own p (none_coming p k none));
      state = λ messages goes. state ∙ ap (λ (r : QueueState). after_deletion g.places r) (own_state p messages k goes);
      stored = subst (λ (r : QueueState). All (IsValidStored p.config.kind) r.messages) (sym state) (all_changed (IsValidStored p.config.kind) deleted_once (deleted_stored p.config.kind) g.places 0 old.messages k.stored);
      count = sized ∙ k.count;
      arrivals = λ i x at. kept_came deleted_once (λ y. refl) g.places old.messages i (came_moment p.past 0 i) x (ap (λ (r : QueueState). slice_get r.messages i) (sym state) ∙ at) (k.arrivals i);
      covers = (All-head (IsGiftOf (all_of p)) g rest gifts).within;
      limit = limit;
      in_time = (All-head (IsGiftOf (all_of p)) g rest gifts).in_time;
      open' = refl;
      begun_is = k.begun;
      deleted_is = deleted_is;
      running_is = k.running;
      batch = subst (λ (n : ℕ). IsBatch n (batch_of (last_call p.past (queue_lane 0)))) (sym sized) k.batch;
      cost_is = subst (λ (f : Option First). cost None rest p.running p.shut + 1 ≤ cost f p.gifts p.running p.shut) (sym none)
          (subst (λ (gs : List Gift). cost None rest p.running p.shut + 1 ≤ cost None gs p.running p.shut) (sym is) (cost_gave (length rest) (cond p.running 1 0) (cond p.shut 0 1)));
      given = All-tail (IsGiftOf (all_of p)) g rest gifts;
      lines = fewer_lines g rest (subst HaveLineFirst is k.lines);
    }

-- giving up

abbrev pub forgetting : Parts → Parts
forgetting p = record p { coming = []; first = None; gifts = [] }

front_all : (P : Message → Type 0) (xs ys : List Message) → All P (xs ++ ys) → All P xs
front_all P [] ys all = All-nil P
front_all P (x ∷ xs) ys all = All-cons P x xs (All-head P x (xs ++ ys) all) (front_all P xs ys (All-tail P x (xs ++ ys) all))

pub own_valid : (p : Parts) → IsKept p → All (IsValidMessage p.config.kind) (messages_stored p.limited.state)
own_valid p k = front_all (IsValidMessage p.config.kind) (messages_stored p.limited.state) p.coming k.valid

pub own_texts : (p : Parts) → IsKept p → All IsUtf8Message (messages_stored p.limited.state)
own_texts p k = front_all IsUtf8Message (messages_stored p.limited.state) p.coming k.texts

pub cost_low : (f : Option First) (g : List Gift) (r s : Bool) → cost None [] r s ≤ cost f g r s
cost_low f g r s = omega arith

pub kept_forgotten : (p : Parts) → IsKept p → IsKept (forgetting p)
kept_forgotten p k =
    let low = cost_low p.first p.gifts p.running p.shut in
    record {
      config = k.config;
      criteria = k.criteria;
      valid = subst (All (IsValidMessage p.config.kind)) (sym (append-nil (messages_stored p.limited.state))) (own_valid p k);
      texts = subst (All IsUtf8Message) (sym (append-nil (messages_stored p.limited.state))) (own_texts p k);
      few = (let f = k.few in omega (arith, f, length-append (messages_stored p.limited.state) p.coming, length-append (messages_stored p.limited.state) []));
      queue = k.queue;
      stored = k.stored;
      count = k.count;
      arrivals = k.arrivals;
      covered = k.covered;
      last = k.last;
      in_time = k.in_time;
      shut = k.shut;
      begun = k.begun;
      deleted = k.deleted;
      running = k.running;
      batch = k.batch;
      room = (let r = k.room in omega (arith, r, low));
      short = (let r = k.short in omega (arith, r, low));
      some_receives = k.some_receives;
      few_receives = k.few_receives;
      first = refl;
      gifts = All-nil (IsGiftOf (messages_stored p.limited.state ++ []));
      lines = tt;
    }

-- and is seen so
pub seen_forgotten : (p : Parts) (ms : List Message) (gifts : List Gift) → ms ≡ [] → gifts ≡ [] → seen_of (record (forgetting p) { coming = ms; gifts = gifts }) ≡ forgotten (seen_of p)
seen_forgotten p ms gifts none nothing = ap₂ (λ (xs : List Message) (gs : List Gift). record { setting = setting_of p; past = p.past; coming = xs; owed = gift_entries gs }) none nothing

-- with the entries of the history as they stand after a push

pub kept_pushed : (q : Parts) (items : List Entry) (capacity : ℕ) → IsKept q → q.past ≡ reverse items → q.number ≡ length items → q.capacity ≡ capacity → IsKept (record q { past = reverse items; number = length items; capacity = capacity })
kept_pushed q items capacity k past_is number_is same =
    subst (λ (n : ℕ). IsKept (record q { past = reverse items; number = length items; capacity = n })) same
    (subst (λ (n : ℕ). IsKept (record q { past = reverse items; number = n })) number_is (subst (λ (h : List Entry). IsKept (record q { past = h })) past_is k))

pub pushed_past : (old new : List Entry) (e : Entry) → new ≡ old ++ e ∷ [] → e ∷ reverse old ≡ reverse new
pushed_past old new e is = sym (ap reverse is ∙ reverse-append old (e ∷ []))

pub pushed_number : (old new : List Entry) (e : Entry) → new ≡ old ++ e ∷ [] → length old + 1 ≡ length new
pushed_number old new e is = sym (ap (λ (es : List Entry). length es) is ∙ length-append old (e ∷ []))

-- the core after an entry is added, as its parts stand then

pub record IsPaid (q : Parts) (v : RedriveView) : Type 0 where
  pub kept : IsKept q
  pub seen : seen_of q ≡ paid v

abbrev pub standing_after : Parts → List Entry → ℕ → List Message → List Gift → Option First → Parts
standing_after q items capacity coming gifts first = record q { past = reverse items; number = length items; capacity = capacity; coming = coming; gifts = gifts; first = first }

same_parts : (q : Parts) (items : List Entry) (capacity : ℕ) (coming : List Message) (gifts : List Gift) (first : Option First) → q.past ≡ reverse items → q.number ≡ length items → q.capacity ≡ capacity → q.coming ≡ coming → q.gifts ≡ gifts → q.first ≡ first → q ≡ standing_after q items capacity coming gifts first
same_parts q items capacity coming gifts first past_is number_is capacity_is coming_is gifts_is first_is =
    ap₂ (λ (h : List Entry) (n : ℕ). record q { past = h; number = n }) past_is number_is
    ∙ (ap₂ (λ (n : ℕ) (ms : List Message). record q { past = reverse items; number = length items; capacity = n; coming = ms }) capacity_is coming_is
    ∙ ap₂ (λ (gs : List Gift) (f : Option First). record q { past = reverse items; number = length items; capacity = capacity; coming = coming; gifts = gs; first = f }) gifts_is first_is)

pub is_paid : (p : Parts) (v : RedriveView) (q : Limited) (e : Entry) (begun deleted : ℕ) (running : Bool) (gifts : List Gift) (old items : List Entry) (capacity : ℕ) (coming : List Message) (given : List Gift) (first : Option First)
    → IsKept p → seen_of p ≡ v → Adds p q e begun deleted running gifts → owed_entries p.first p.gifts ≡ e ∷ gift_entries gifts
    → p.past ≡ reverse old → p.number ≡ length old → items ≡ old ++ e ∷ [] → p.capacity ≡ capacity → coming ≡ [] → given ≡ gifts → first ≡ None
    → IsPaid (standing_after (adding p q e begun deleted running gifts) items capacity coming given first) v
is_paid p v q e begun deleted running gifts old items capacity coming given first k seen a owed past_is number_is pushed same none given_is first_is =
    let r = adding p q e begun deleted running gifts in
    let past_then : e ∷ p.past ≡ reverse items = ap (λ (h : List Entry). e ∷ h) past_is ∙ pushed_past old items e pushed in
    let number_then : p.number + 1 ≡ length items = ap (λ (n : ℕ). n + 1) number_is ∙ pushed_number old items e pushed in
    subst (λ (x : Parts). IsPaid x v) (same_parts r items capacity coming given first past_then number_then same (sym none) (sym given_is) (sym first_is))
    (record {
      kept = kept_added p q e begun deleted running gifts k a;
      seen = seen_added p q e begun deleted running gifts a.messages a.limit owed ∙ ap paid seen;
    })

pub owed_first : (p : Parts) (f : First) → p.first ≡ Some f → owed_entries p.first p.gifts ≡ owed_entries (Some f) p.gifts
owed_first p f is = ap (λ (o : Option First). owed_entries o p.gifts) is

pub owed_gift : (p : Parts) (g : Gift) (rest : List Gift) → p.first ≡ None → p.gifts ≡ g ∷ rest → owed_entries p.first p.gifts ≡ gift_entry g ∷ gift_entries rest
owed_gift p g rest none is = ap₂ (λ (o : Option First) (gs : List Gift). owed_entries o gs) none is
