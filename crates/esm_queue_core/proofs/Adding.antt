-- What is kept of a core stays true where an owed entry is added, kind by kind.
use Rattle.std.proofs.Common.{◌≡◌, ℕ, suc, ◌+◌, ◌-◌, ◌<◌, ◌≤◌, ◌^◌, min, Bool, true, false, not, cond, List, [], ◌∷◌, ◌++◌, length, take, drop, reverse, refl, sym, ap, ap₂, ◌∙◌, subst, arith, Option, Some, None}
use Rattle.std.specs.Prelude.{is_some, count_by}
use Rattle.std.specs.List.{All}
use Rattle.std.proofs.lemmas.List.{append-nil, length-map, take_all}
use Rattle.std.proofs.lemmas.List.Sums.{sum_by-cons, count_by-le-length}
use Rattle.esm_model.specs.declared.moment.TheConstants.{MAX_MOMENT}
use Rattle.esm_model.specs.declared.item.Message.{Message}
use Rattle.esm_model.specs.declared.lane.LaneId.{LaneId}
use Rattle.esm_model.specs.declared.entry.Reply.{Reply}
use Rattle.esm_model.specs.declared.entry.Entry.{Entry}
use Rattle.esm_model.specs.declared.entry.Entry.TheVariants as entry
use Rattle.esm_model.specs.Lane.{same_lane}
use Rattle.esm_model.specs.Entries.{holds, is_shut, is_running, calls_begun}
use Rattle.esm_model.specs.Moment.{moment_after, capped_moment}
use Rattle.esm_queue.specs.Held.{Held}
use Rattle.esm_queue_model.specs.declared.stored.Stored.{Stored}
use Rattle.esm_queue_model.specs.Queue.{QueueState, after_receipt, after_deletion, changed_from, received_once, receivable}
use Rattle.esm_queue_model.specs.QueueSetting.{QueueSetting}
use Rattle.esm_queue_model.specs.QueueEntries.{queue_of, after_coming}
use Rattle.esm_queue_core.specs.declared.owed.First.{First}
use Rattle.esm_queue_core.specs.declared.owed.First.TheVariants.{Came, Began, Ended}
use Rattle.esm_queue_core.specs.declared.owed.Gift.{Gift}
use Rattle.esm_queue_core.specs.declared.standing.Standing.{Standing}
use Rattle.esm_queue_core.specs.CoreView.{CoreView, paid}
use Rattle.esm_queue_core.specs.Next.{deleted_number}
use Rattle.esm_queue_core.specs.Standing.{standing_paid}
use Rattle.esm_queue_core.specs.Kept.{Parts, IsKept, StandsSo, CanAddFirst, IsGift, IsGiftOf, own, full, all_of, seen_of, owed_entries, gift_entry, first_entry, with_owed, with_gift, cost, gift_cost, shut_cost, running_lanes, messages_stored}
use Rattle.esm_queue_core.specs.Sound.{Sound}
use Rattle.esm_queue_core.proofs.Rooms.{ended_fewer, filter_fewer}
use Rattle.esm_queue_core.proofs.Bringing.{with_coming}
use Rattle.esm_queue_core.proofs.Added.{Adds, adding, kept_added, seen_added, pays_stands, messages_came, messages_received, messages_deleted, pushed_past, pushed_number}

-- the core after an entry is added, as its parts stand then

pub record IsPaid (q : Parts) (v : CoreView) : Type 0 where
  pub kept : IsKept q
  pub seen : seen_of q ≡ paid v

abbrev pub standing_after : Parts → List Entry → ℕ → List Message → Parts
standing_after q items capacity coming = record q { past = reverse items; number = length items; capacity = capacity; coming = coming }

same_parts : (q : Parts) (items : List Entry) (capacity : ℕ) (coming : List Message) → q.past ≡ reverse items → q.number ≡ length items → q.capacity ≡ capacity → q.coming ≡ coming → standing_after q items capacity coming ≡ q
same_parts q items capacity coming past_is number_is capacity_is coming_is =
    ap₂ (λ (h : List Entry) (n : ℕ). record q { past = h; number = n; capacity = capacity; coming = coming }) (sym past_is) (sym number_is)
    ∙ ap₂ (λ (n : ℕ) (ms : List Message). record q { capacity = n; coming = ms }) (sym capacity_is) (sym coming_is)

pub is_paid : (p : Parts) (v : CoreView) (held : Held) (e : Entry) (begun deleted running : ℕ) (first : Option First) (gift : Option Gift) (standing : Standing) (old items : List Entry) (capacity : ℕ) (coming : List Message)
    → IsKept p → seen_of p ≡ v → Adds p held e begun deleted running first gift standing → take 1 (owed_entries p.first p.gift) ≡ e ∷ [] → drop 1 (owed_entries p.first p.gift) ≡ owed_entries first gift
    → p.past ≡ reverse old → p.number ≡ length old → items ≡ old ++ e ∷ [] → p.capacity ≡ capacity → coming ≡ []
    → IsPaid (standing_after (adding p held e begun deleted running first gift standing) items capacity coming) v
is_paid p v held e begun deleted running first gift standing old items capacity coming k seen a front rest past_is number_is pushed same none =
    let q = adding p held e begun deleted running first gift standing in
    let past_then : e ∷ p.past ≡ reverse items = ap (λ (h : List Entry). e ∷ h) past_is ∙ pushed_past old items e pushed in
    let number_then : p.number + 1 ≡ length items = ap (λ (n : ℕ). n + 1) number_is ∙ pushed_number old items e pushed in
    subst (λ (r : Parts). IsPaid r v) (sym (same_parts q items capacity coming past_then number_then same (sym none)))
    (record {
      kept = kept_added p held e begun deleted running first gift standing k a;
      seen = seen_added p held e begun deleted running first gift standing a.messages front rest ∙ ap paid seen;
    })

-- room

-- an entry that is owed finds room
pub first_room : (p : Parts) (f : First) → IsKept p → p.first ≡ Some f → p.number < p.capacity
first_room p f k is =
    let room : p.number + cost (Some f) p.gift p.past ≤ p.capacity = subst (λ (o : Option First). p.number + cost o p.gift p.past ≤ p.capacity) is k.room in
    let some = some_cost f p.gift p.past in
    omega (arith, room, some)
  where
    some_cost : (f : First) (g : Option Gift) (h : List Entry) → 1 ≤ cost (Some f) g h
    some_cost (Came from count m) g h = omega arith
    some_cost (Began lane places m) g h = omega arith
    some_cost (Ended lane reply m) g h = omega arith

pub gift_room : (p : Parts) (g : Gift) → IsKept p → p.first ≡ None → p.gift ≡ Some g → p.number < p.capacity
gift_room p g k none is =
    let room : p.number + cost None (Some g) p.past ≤ p.capacity = subst (λ (o : Option Gift). p.number + cost None o p.past ≤ p.capacity) is (subst (λ (o : Option First). p.number + cost o p.gift p.past ≤ p.capacity) none k.room) in
    let some : 1 ≤ cost None (Some g) p.past = omega arith in
    omega (arith, room, some)

cost_came : (g r s : ℕ) → 0 + g + r + s + 1 ≤ 1 + g + r + s
cost_came g r s = omega arith

cost_began : (g r s : ℕ) → 0 + g + suc r + s + 1 ≤ 2 + g + r + s
cost_began g r s = omega arith

cost_ended : (g r r' s : ℕ) → r' ≤ r → 0 + g + r' + s + 1 ≤ 1 + g + r + s
cost_ended g r r' s fewer = omega arith

cost_gave : (r s : ℕ) → 0 + 0 + r + s + 1 ≤ 0 + 1 + r + s
cost_gave r s = omega arith

-- what is owed, where it is known

pub can_first : (p : Parts) (f : First) → IsKept p → p.first ≡ Some f → CanAddFirst p.held p.coming (Some f)
can_first p f k is = subst (λ (o : Option First). CanAddFirst p.held p.coming o) is k.first

stands_first : (p : Parts) (f : Option First) → IsKept p → p.first ≡ f → StandsSo (own p) (full p) p.past (with_owed f p.gift p.past) p.running p.standing
stands_first p f k is = subst (λ (o : Option First). StandsSo (own p) (full p) p.past (with_owed o p.gift p.past) p.running p.standing) is k.standing

pub all_own : (p : Parts) → p.coming ≡ [] → messages_stored p.held.state ≡ all_of p
all_own p none = sym (append-nil (messages_stored p.held.state)) ∙ ap (λ (ms : List Message). messages_stored p.held.state ++ ms) (sym none)

-- messages come

passed : (xs ys : List Message) → drop (length xs) (xs ++ ys) ≡ ys
passed [] ys = refl
passed (x ∷ xs) ys = passed xs ys

came_taken : (p : Parts) → take (length p.coming) (drop (length p.held.state.messages) (all_of p)) ≡ p.coming
came_taken p =
    let at : length p.held.state.messages ≡ length (messages_stored p.held.state) = sym (length-map p.held.state.messages (λ (x : Stored). x.message)) in
    ap (λ (n : ℕ). take (length p.coming) (drop n (all_of p))) at
    ∙ (ap (λ (xs : List Message). take (length p.coming) xs) (passed (messages_stored p.held.state) p.coming) ∙ take_all (length p.coming) p.coming (omega arith))

came_state : (p : Parts) (held : Held) (from count m : ℕ) → IsKept p → from ≡ length p.held.state.messages → count ≡ length p.coming → held.state ≡ with_coming (full p) m p.held.state p.coming → held.state ≡ queue_of (full p) (entry.Came 0 from count m ∷ p.past)
came_state p held from count m k at many is =
    let q = p.held.state in
    is ∙ (ap (λ (xs : List Message). with_coming (full p) m q xs) (sym (came_taken p))
    ∙ (ap₂ (λ (a b : ℕ). after_coming (full p) a b m q) (sym at) (sym many)
    ∙ ap (λ (r : QueueState). after_coming (full p) from count m r) k.queue_ahead))

pub came_adds : (p : Parts) (held : Held) (from count m deleted : ℕ) → IsKept p → p.first ≡ Some (Came from count m) → held.state ≡ with_coming (full p) m p.held.state p.coming → deleted ≡ deleted_number held.state
    → Adds p held (entry.Came 0 from count m) p.begun deleted p.running None p.gift (standing_paid p.standing (is_some p.gift))
came_adds p held from count m deleted k is state deleted_is =
    let can = can_first p (Came from count m) k is in
    let e : Entry = entry.Came 0 from count m in
    record {
      messages = ap messages_stored state ∙ messages_came (full p) p.held.state m (length p.held.state.messages) p.coming;
      state = came_state p held from count m k can.0 can.1 state;
      in_time = can.3;
      open' = refl;
      begun_is = k.begun;
      deleted_is = deleted_is;
      cost_is = subst (λ (f : Option First). cost None p.gift (e ∷ p.past) + 1 ≤ cost f p.gift p.past) (sym is) (cost_came (gift_cost p.gift) (length (running_lanes p.past)) (shut_cost (is_shut p.past)));
      can = refl;
      given = k.gift;
      stands = pays_stands (own p) (full p) p.past e p.gift p.running p.running p.standing (stands_first p (Some (Came from count m)) k is) (λ sound few. few);
    }

-- what bringing them needs

pub came_room : (p : Parts) (from count m : ℕ) → IsKept p → p.first ≡ Some (Came from count m) → length p.coming ≤ p.held.spare
came_room p from count m k is = (can_first p (Came from count m) k is).2

pub came_in_time : (p : Parts) (from count m : ℕ) → IsKept p → p.first ≡ Some (Came from count m) → m ≤ MAX_MOMENT
came_in_time p from count m k is = (can_first p (Came from count m) k is).3

-- a call begins

same_deleted : (b : Bool) (m : ℕ) (x : Stored) → (cond b (received_once m x) x).deleted ≡ x.deleted
same_deleted true m x = refl
same_deleted false m x = refl

pub received_counts : (m : ℕ) (places : List ℕ) (k : ℕ) (xs : List Stored) → count_by (λ (x : Stored). x.deleted) (changed_from (received_once m) places k xs) ≡ count_by (λ (x : Stored). x.deleted) xs
received_counts m places k [] = refl
received_counts m places k (x ∷ xs) =
    sum_by-cons (λ (y : Stored). cond y.deleted 1 0) (cond (holds places k) (received_once m x) x) (changed_from (received_once m) places (k + 1) xs)
    ∙ (ap₂ (λ (b : Bool) (n : ℕ). cond b 1 0 + n) (same_deleted (holds places k) m x) (received_counts m places (k + 1) xs)
    ∙ sym (sum_by-cons (λ (y : Stored). cond y.deleted 1 0) x xs))

one_after : (a b : ℕ) → a ≡ b → a + 1 ≡ suc b
one_after a b is = omega arith

more_running : (r running running' : ℕ) → r ≤ 2 ^ 40 → running' ≡ min (running + 1) (2 ^ 64 - 1) → r ≤ running → suc r ≤ running'
more_running r running running' low is few = omega arith

lanes_few : (p : Parts) → IsKept p → length (running_lanes p.past) ≤ 2 ^ 40
lanes_few p k = let s = k.short in omega arith

pub began_adds : (p : Parts) (held : Held) (lane : LaneId) (places : List ℕ) (m begun running : ℕ) → IsKept p → p.first ≡ Some (Began lane places m) → held.state ≡ after_receipt m places p.held.state → begun ≡ p.begun + 1 → running ≡ min (p.running + 1) (2 ^ 64 - 1)
    → Adds p held (entry.Began lane places None m) begun p.deleted running None p.gift (standing_paid p.standing (is_some p.gift))
began_adds p held lane places m begun running k is state begun_is running_is =
    let can = can_first p (Began lane places m) k is in
    let e : Entry = entry.Began lane places None m in
    record {
      messages = ap messages_stored state ∙ (messages_received p.held.state m places ∙ all_own p can.0);
      state = state ∙ ap (λ (q : QueueState). after_receipt m places q) k.queue_ahead;
      in_time = can.3;
      open' = refl;
      begun_is = begun_is ∙ one_after p.begun (calls_begun p.past) k.begun;
      deleted_is = k.deleted ∙ (sym (received_counts m places 0 p.held.state.messages) ∙ ap deleted_number (sym state));
      cost_is = subst (λ (f : Option First). cost None p.gift (e ∷ p.past) + 1 ≤ cost f p.gift p.past) (sym is) (cost_began (gift_cost p.gift) (length (running_lanes p.past)) (shut_cost (is_shut p.past)));
      can = refl;
      given = k.gift;
      stands = pays_stands (own p) (full p) p.past e p.gift p.running running p.standing (stands_first p (Some (Began lane places m)) k is) (λ sound few. more_running (length (running_lanes p.past)) p.running running (lanes_few p k) running_is few);
    }

-- what hiding them needs

pub began_ready : (p : Parts) (lane : LaneId) (places : List ℕ) (m : ℕ) → IsKept p → p.first ≡ Some (Began lane places m) → p.held.ready ≡ moment_after (capped_moment m) p.held.state.visibility
began_ready p lane places m k is =
    let can = can_first p (Began lane places m) k is in
    let within : m ≤ MAX_MOMENT = can.3 in
    let capped : m ≡ capped_moment m = omega arith in
    can.1 ∙ ap (λ (n : ℕ). moment_after n p.held.state.visibility) capped

pub began_first : (p : Parts) (lane : LaneId) (places : List ℕ) (m : ℕ) → IsKept p → p.first ≡ Some (Began lane places m) → places ≡ receivable p.held.state (capped_moment m) (length places)
began_first p lane places m k is =
    let can = can_first p (Began lane places m) k is in
    let within : m ≤ MAX_MOMENT = can.3 in
    let capped : m ≡ capped_moment m = omega arith in
    can.2 ∙ ap (λ (n : ℕ). receivable p.held.state n (length places)) capped

pub began_state : (p : Parts) (held : Held) (lane : LaneId) (places : List ℕ) (m : ℕ) → IsKept p → p.first ≡ Some (Began lane places m) → held.state ≡ after_receipt (capped_moment m) places p.held.state → held.state ≡ after_receipt m places p.held.state
began_state p held lane places m k is state =
    let within : m ≤ MAX_MOMENT = (can_first p (Began lane places m) k is).3 in
    let capped : capped_moment m ≡ m = omega arith in
    state ∙ ap (λ (n : ℕ). after_receipt n places p.held.state) capped

-- as many calls began as fit 64 bits
calls_few : (h : List Entry) → calls_begun h ≤ length h
calls_few [] = omega arith
calls_few (entry.Came shard first count m ∷ h) = let rest = calls_few h in omega arith
calls_few (entry.Began lane places closing m ∷ h) = let rest = calls_few h in omega arith
calls_few (entry.Ended lane reply m ∷ h) = let rest = calls_few h in omega arith
calls_few (entry.Gave by shard places fate line state m ∷ h) = let rest = calls_few h in omega arith
calls_few (entry.Tried lane places closing tries m ∷ h) = let rest = calls_few h in omega arith
calls_few (entry.Closed lane window m ∷ h) = let rest = calls_few h in omega arith
calls_few (entry.Replayed shard places m ∷ h) = let rest = calls_few h in omega arith
calls_few (entry.Shut m ∷ h) = let rest = calls_few h in omega arith

pub begun_few : (p : Parts) → IsKept p → length p.past ≡ p.number → p.begun ≤ 2 ^ 40
begun_few p k sized = let few = calls_few p.past in let s = k.short in let b = k.begun in omega arith

-- a call ends

ends_running : (t : QueueSetting) (h : List Entry) (lane : LaneId) (reply : Reply) (m : ℕ) (g : Option Gift) → Sound t (with_gift g (entry.Ended lane reply m ∷ h)) → is_running h lane ≡ true
ends_running t h lane reply m None sound = sound.legal.1.1
ends_running t h lane reply m (Some g) sound = sound.legal.0.1.1

fewer_running : (r r' running : ℕ) → r' + 1 ≤ r → r ≤ running → r' ≤ running - 1
fewer_running r r' running fewer few = omega arith

pub ended_adds : (p : Parts) (lane : LaneId) (reply : Reply) (m running : ℕ) → IsKept p → p.first ≡ Some (Ended lane reply m) → running ≡ p.running - 1
    → Adds p p.held (entry.Ended lane reply m) p.begun p.deleted running None p.gift (standing_paid p.standing (is_some p.gift))
ended_adds p lane reply m running k is running_is =
    let can = can_first p (Ended lane reply m) k is in
    let e : Entry = entry.Ended lane reply m in
    record {
      messages = all_own p can.0;
      state = k.queue_ahead;
      in_time = can.1;
      open' = refl;
      begun_is = k.begun;
      deleted_is = k.deleted;
      cost_is = subst (λ (f : Option First). cost None p.gift (e ∷ p.past) + 1 ≤ cost f p.gift p.past) (sym is)
          (cost_ended (gift_cost p.gift) (length (running_lanes p.past)) (length (running_lanes (e ∷ p.past))) (shut_cost (is_shut p.past)) (filter_fewer (λ (at : LaneId). not (same_lane lane at)) (running_lanes p.past)));
      can = refl;
      given = k.gift;
      stands = pays_stands (own p) (full p) p.past e p.gift p.running running p.standing (stands_first p (Some (Ended lane reply m)) k is)
          (λ sound few. subst (λ (n : ℕ). length (running_lanes (e ∷ p.past)) ≤ n) (sym running_is)
          (fewer_running (length (running_lanes p.past)) (length (running_lanes (e ∷ p.past))) p.running (ended_fewer p.past lane reply m (ends_running (full p) p.past lane reply m p.gift sound)) few));
    }

-- messages are deleted

pub none_coming : (p : Parts) → IsKept p → p.first ≡ None → p.coming ≡ []
none_coming p k none = subst (λ (o : Option First). CanAddFirst p.held p.coming o) none k.first

is_gift : (p : Parts) (g : Gift) → IsKept p → p.gift ≡ Some g → IsGiftOf (all_of p) g
is_gift p g k is = subst (λ (o : Option Gift). IsGift (all_of p) o) is k.gift

pub gave_within : (p : Parts) (g : Gift) → IsKept p → p.first ≡ None → p.gift ≡ Some g → All (λ i. i < length p.held.state.messages) g.places
gave_within p g k none is =
    subst (λ (n : ℕ). All (λ i. i < n) g.places) (length-map p.held.state.messages (λ (x : Stored). x.message))
    (subst (λ (ms : List Message). All (λ i. i < length ms) g.places) (sym (all_own p (none_coming p k none))) (is_gift p g k is).within)

pub gave_adds : (p : Parts) (held : Held) (g : Gift) (deleted : ℕ) → IsKept p → p.first ≡ None → p.gift ≡ Some g → held.state ≡ after_deletion g.places p.held.state → deleted ≡ deleted_number held.state
    → Adds p held (gift_entry g) p.begun deleted p.running None None (standing_paid p.standing false)
gave_adds p held g deleted k none is state deleted_is =
    let e : Entry = gift_entry g in
    record {
      messages = ap messages_stored state ∙ (messages_deleted p.held.state g.places ∙ all_own p (none_coming p k none));
      state = state ∙ ap (λ (q : QueueState). after_deletion g.places q) k.queue_ahead;
      in_time = (is_gift p g k is).in_time;
      open' = refl;
      begun_is = k.begun;
      deleted_is = deleted_is;
      cost_is = subst (λ (o : Option First). cost None None (e ∷ p.past) + 1 ≤ cost o p.gift p.past) (sym none)
          (subst (λ (o : Option Gift). cost None None (e ∷ p.past) + 1 ≤ cost None o p.past) (sym is) (cost_gave (length (running_lanes p.past)) (shut_cost (is_shut p.past))));
      can = refl;
      given = tt;
      stands = pays_stands (own p) (full p) p.past e None p.running p.running p.standing
          (subst (λ (o : Option Gift). StandsSo (own p) (full p) p.past (with_owed None o p.past) p.running p.standing) is (stands_first p None k none)) (λ sound few. few);
    }

-- as many are deleted as fit 32 bits
pub deleted_within : (p : Parts) (held : Held) → IsKept p → messages_stored held.state ≡ all_of p → deleted_number held.state < 2 ^ 32
deleted_within p held k is =
    let few = k.few in
    let sized : length (all_of p) ≡ length held.state.messages = sym (ap (λ (ms : List Message). length ms) is) ∙ length-map held.state.messages (λ (x : Stored). x.message) in
    let most = count_by-le-length (λ (x : Stored). x.deleted) held.state.messages in
    omega (arith, few, sized, most)

-- as it stands in a core that was taken apart
pub adds_as : (p : Parts) (held : Held) (e : Entry) (begun deleted running : ℕ) (first f : Option First) (gift g : Option Gift) (standing st : Standing) → first ≡ f → gift ≡ g → standing ≡ st → Adds p held e begun deleted running f g st → Adds p held e begun deleted running first gift standing
adds_as p held e begun deleted running first f gift g standing st first_is gift_is standing_is a =
    subst (λ (o : Option First). Adds p held e begun deleted running o gift standing) (sym first_is)
    (subst (λ (o : Option Gift). Adds p held e begun deleted running f o standing) (sym gift_is)
    (subst (λ (s : Standing). Adds p held e begun deleted running f g s) (sym standing_is) a))

pub front_first : (p : Parts) (f : First) → p.first ≡ Some f → take 1 (owed_entries p.first p.gift) ≡ first_entry f ∷ []
front_first p f is = ap (λ (o : Option First). take 1 (owed_entries o p.gift)) is

pub rest_first : (p : Parts) (f : First) (first : Option First) → p.first ≡ Some f → first ≡ None → drop 1 (owed_entries p.first p.gift) ≡ owed_entries first p.gift
rest_first p f first is none = ap (λ (o : Option First). drop 1 (owed_entries o p.gift)) is ∙ ap (λ (o : Option First). owed_entries o p.gift) (sym none)
