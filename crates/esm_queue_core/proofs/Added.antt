-- What is kept of a core stays true where an owed entry is added, is given up, or an entry is noted.
use Rattle.std.proofs.Common.{◌≡◌, ℕ, ◌+◌, ◌<◌, ◌≤◌, ◌^◌, Bool, true, List, [], ◌∷◌, ◌++◌, length, take, drop, map, reverse, refl, sym, ap, ap₂, ◌∙◌, subst, inl, inr, arith, Option, Some, None}
use Rattle.std.specs.Prelude.{is_some}
use Rattle.std.specs.List.{All}
use Rattle.std.proofs.lemmas.List.{append-nil, length-append, map-append, reverse-append}
use Rattle.esm_model.specs.declared.moment.TheConstants.{MAX_MOMENT}
use Rattle.std.proofs.lemmas.List.Elements.{All-nil, All-cons, All-head, All-tail}
use Rattle.esm_model.specs.declared.config.Kind.{Kind}
use Rattle.esm_model.specs.declared.item.Message.{Message}
use Rattle.esm_model.specs.declared.lane.LaneId.{LaneId}
use Rattle.esm_model.specs.declared.entry.Reply.{Reply}
use Rattle.esm_model.specs.declared.entry.Entry.{Entry}
use Rattle.esm_model.specs.declared.entry.Entry.TheVariants as entry
use Rattle.std.proofs.lemmas.Bool.{cases_Bool}
use Rattle.esm_model.specs.Entries.{holds, is_shut, is_running, calls_begun, moment_of}
use Rattle.esm_model.specs.ValidMessage.{IsValidMessage}
use Rattle.esm_queue.specs.Held.{Held}
use Rattle.esm_queue_model.specs.declared.stored.Stored.{Stored}
use Rattle.esm_queue_model.specs.Queue.{QueueState, after_receipt, after_deletion, changed_from, received_once, deleted_once}
use Rattle.esm_queue_model.specs.QueueSetting.{QueueSetting, over_messages}
use Rattle.esm_queue_model.specs.QueueEntries.{queue_of, coming_from}
use Rattle.esm_queue_core.specs.declared.owed.First.{First}
use Rattle.esm_queue_core.specs.declared.owed.Gift.{Gift}
use Rattle.esm_queue_core.specs.declared.standing.Standing.{Standing}
use Rattle.esm_queue_core.specs.declared.standing.Standing.TheVariants.{Whole, Paying, Left}
use Rattle.esm_queue_core.specs.CoreView.{paid, forgotten}
use Rattle.esm_queue_core.specs.Next.{deleted_number}
use Rattle.esm_queue_core.specs.Standing.{standing_paid, standing_left}
use Rattle.esm_queue_core.specs.Kept.{Parts, IsKept, StandsSo, CanAddFirst, IsGift, own, full, all_of, seen_of, owed_entries, with_owed, with_gift, cost, running_lanes, messages_stored}
use Rattle.esm_queue_core.specs.Sound.{Sound}
use Rattle.esm_queue_core.proofs.Rooms.{ended_fewer}

-- giving up

abbrev pub forgetting : Parts → Parts
forgetting p = record p { coming = []; first = None; gift = None; standing = standing_left p.standing }

first_low : (f : Option First) (g : Option Gift) (h : List Entry) → cost None None h ≤ cost f g h
first_low f g h = omega arith

own_all : (p : Parts) → over_messages (own p) (messages_stored p.held.state ++ []) ≡ own p
own_all p = ap (λ (ms : List Message). over_messages (own p) ms) (append-nil (messages_stored p.held.state))

forgotten_stands : (st : Standing) (p : Parts) → StandsSo (own p) (full p) p.past (with_owed p.first p.gift p.past) p.running st → StandsSo (own p) (own p) p.past p.past p.running (standing_left st)
forgotten_stands Whole p s = (s.0, s.0, s.2)
forgotten_stands Paying p s = tt
forgotten_stands Left p s = tt

front_valid : (kind : Kind) (xs ys : List Message) → All (IsValidMessage kind) (xs ++ ys) → All (IsValidMessage kind) xs
front_valid kind [] ys all = All-nil (IsValidMessage kind)
front_valid kind (x ∷ xs) ys all = All-cons (IsValidMessage kind) x xs (All-head (IsValidMessage kind) x (xs ++ ys) all) (front_valid kind xs ys (All-tail (IsValidMessage kind) x (xs ++ ys) all))

pub kept_forgotten : (p : Parts) → IsKept p → IsKept (forgetting p)
kept_forgotten p k =
    let low = first_low p.first p.gift p.past in
    record {
      config = k.config;
      criteria = k.criteria;
      valid = subst (All (IsValidMessage p.config.kind)) (sym (append-nil (messages_stored p.held.state))) (front_valid p.config.kind (messages_stored p.held.state) p.coming k.valid);
      few = (let f = k.few in omega (arith, length-append (messages_stored p.held.state) p.coming, length-append (messages_stored p.held.state) []));
      queue = k.queue;
      queue_ahead = k.queue ∙ ap (λ (s : QueueSetting). queue_of s p.past) (sym (own_all p));
      last = k.last;
      in_time = k.in_time;
      shut = k.shut;
      begun = k.begun;
      deleted = k.deleted;
      room = (let r = k.room in omega arith);
      short = (let r = k.short in omega arith);
      first = refl;
      gift = tt;
      standing = subst (λ (s : QueueSetting). StandsSo (own p) s p.past p.past p.running (standing_left p.standing)) (sym (own_all p)) (forgotten_stands p.standing p k.standing);
    }

-- and is seen so
pub seen_forgotten : (p : Parts) (ms : List Message) (st : Standing) → ms ≡ [] → seen_of (record (forgetting p) { coming = ms; standing = st }) ≡ forgotten (seen_of p)
seen_forgotten p ms st none = ap (λ (xs : List Message). record { setting = own p; past = p.past; coming = xs; owed = [] }) none

-- with the entries of the history as they stand after a push
pub kept_pushed : (q : Parts) (items : List Entry) (capacity : ℕ) → IsKept q → q.past ≡ reverse items → q.number ≡ length items → q.capacity ≡ capacity → IsKept (record q { past = reverse items; number = length items; capacity = capacity })
kept_pushed q items capacity k past_is number_is same =
    subst (λ (n : ℕ). IsKept (record q { past = reverse items; number = length items; capacity = n })) same
    (subst (λ (n : ℕ). IsKept (record q { past = reverse items; number = n })) number_is (subst (λ (h : List Entry). IsKept (record q { past = h })) past_is k))

pub pushed_past : (old new : List Entry) (e : Entry) → new ≡ old ++ e ∷ [] → e ∷ reverse old ≡ reverse new
pushed_past old new e is = sym (ap reverse is ∙ reverse-append old (e ∷ []))

pub pushed_number : (old new : List Entry) (e : Entry) → new ≡ old ++ e ∷ [] → length old + 1 ≡ length new
pushed_number old new e is = sym (ap (λ (es : List Entry). length es) is ∙ length-append old (e ∷ []))

-- noting

abbrev pub noting : Parts → Entry → Bool → Standing → Parts
noting p e shut standing = record p { past = e ∷ p.past; number = p.number + 1; last = moment_of e; shut = shut; standing = standing }

pub record Notes (p : Parts) (e : Entry) (shut : Bool) (standing : Standing) : Type 0 where
  pub plain : (s : QueueSetting) → queue_of s (e ∷ p.past) ≡ queue_of s p.past
  pub calls : calls_begun (e ∷ p.past) ≡ calls_begun p.past
  pub in_time : moment_of e ≤ MAX_MOMENT
  pub shut_is : shut ≡ is_shut (e ∷ p.past)
  pub cost_is : cost p.first p.gift (e ∷ p.past) + 1 ≤ cost p.first p.gift p.past
  pub stands : StandsSo (own p) (full p) (e ∷ p.past) (with_owed p.first p.gift (e ∷ p.past)) p.running standing

pub kept_noted : (p : Parts) (e : Entry) (shut : Bool) (standing : Standing) → IsKept p → Notes p e shut standing → IsKept (noting p e shut standing)
kept_noted p e shut standing k n = record {
  config = k.config;
  criteria = k.criteria;
  valid = k.valid;
  few = k.few;
  queue = k.queue ∙ sym (n.plain (own p));
  queue_ahead = k.queue_ahead ∙ sym (n.plain (full p));
  last = refl;
  in_time = n.in_time;
  shut = n.shut_is;
  begun = k.begun ∙ sym n.calls;
  deleted = k.deleted;
  room = (let r = k.room in let c = n.cost_is in omega arith);
  short = (let r = k.short in let c = n.cost_is in omega arith);
  first = k.first;
  gift = k.gift;
  standing = n.stands;
}

pub ended_notes : (p : Parts) (lane : LaneId) (reply : Reply) (m : ℕ) → IsKept p → m ≤ MAX_MOMENT → is_running p.past lane ≡ true → Notes p (entry.Ended lane reply m) p.shut Left
ended_notes p lane reply m k within runs = record {
  plain = λ s. refl;
  calls = refl;
  in_time = within;
  shut_is = k.shut;
  cost_is = (let fewer = ended_fewer p.past lane reply m runs in omega arith);
  stands = tt;
}

-- adding

abbrev pub adding : Parts → Held → Entry → ℕ → ℕ → ℕ → Option First → Option Gift → Standing → Parts
adding p held e begun deleted running first gift standing = record p {
  held = held;
  past = e ∷ p.past;
  number = p.number + 1;
  last = moment_of e;
  begun = begun;
  deleted = deleted;
  running = running;
  coming = [];
  first = first;
  gift = gift;
  standing = standing;
}

pub record Adds (p : Parts) (held : Held) (e : Entry) (begun deleted running : ℕ) (first : Option First) (gift : Option Gift) (standing : Standing) : Type 0 where
  pub messages : messages_stored held.state ≡ all_of p
  pub state : held.state ≡ queue_of (full p) (e ∷ p.past)
  pub in_time : moment_of e ≤ MAX_MOMENT
  pub open' : is_shut (e ∷ p.past) ≡ is_shut p.past
  pub begun_is : begun ≡ calls_begun (e ∷ p.past)
  pub deleted_is : deleted ≡ deleted_number held.state
  pub cost_is : cost first gift (e ∷ p.past) + 1 ≤ cost p.first p.gift p.past
  pub can : CanAddFirst held [] first
  pub given : IsGift (all_of p) gift
  pub stands : StandsSo (full p) (full p) (e ∷ p.past) (with_owed first gift (e ∷ p.past)) running standing

own_added : (p : Parts) (held : Held) → messages_stored held.state ≡ all_of p → over_messages (own p) (messages_stored held.state) ≡ full p
own_added p held is = ap (λ (ms : List Message). over_messages (own p) ms) is

all_added : (p : Parts) (held : Held) → messages_stored held.state ≡ all_of p → messages_stored held.state ++ [] ≡ all_of p
all_added p held is = append-nil (messages_stored held.state) ∙ is

pub kept_added : (p : Parts) (held : Held) (e : Entry) (begun deleted running : ℕ) (first : Option First) (gift : Option Gift) (standing : Standing) → IsKept p → Adds p held e begun deleted running first gift standing
    → IsKept (adding p held e begun deleted running first gift standing)
kept_added p held e begun deleted running first gift standing k a =
    let same = own_added p held a.messages in
    let all = all_added p held a.messages in
    let same_full : over_messages (own p) (messages_stored held.state ++ []) ≡ full p = ap (λ (ms : List Message). over_messages (own p) ms) all in
    record {
      config = k.config;
      criteria = k.criteria;
      valid = subst (All (IsValidMessage p.config.kind)) (sym all) k.valid;
      few = subst (λ (ms : List Message). length ms < 2 ^ 32) (sym all) k.few;
      queue = a.state ∙ ap (λ (s : QueueSetting). queue_of s (e ∷ p.past)) (sym same);
      queue_ahead = a.state ∙ ap (λ (s : QueueSetting). queue_of s (e ∷ p.past)) (sym same_full);
      last = refl;
      in_time = a.in_time;
      shut = k.shut ∙ sym a.open';
      begun = a.begun_is;
      deleted = a.deleted_is;
      room = (let r = k.room in let c = a.cost_is in omega arith);
      short = (let r = k.short in let c = a.cost_is in omega arith);
      first = a.can;
      gift = subst (λ (ms : List Message). IsGift ms gift) (sym all) a.given;
      standing = subst (λ (s : QueueSetting). StandsSo s (over_messages (own p) (messages_stored held.state ++ [])) (e ∷ p.past) (with_owed first gift (e ∷ p.past)) running standing) (sym same)
          (subst (λ (s : QueueSetting). StandsSo (full p) s (e ∷ p.past) (with_owed first gift (e ∷ p.past)) running standing) (sym same_full) a.stands);
    }

-- and is seen so
pub seen_added : (p : Parts) (held : Held) (e : Entry) (begun deleted running : ℕ) (first : Option First) (gift : Option Gift) (standing : Standing) → messages_stored held.state ≡ all_of p → take 1 (owed_entries p.first p.gift) ≡ e ∷ [] → drop 1 (owed_entries p.first p.gift) ≡ owed_entries first gift
    → seen_of (adding p held e begun deleted running first gift standing) ≡ paid (seen_of p)
seen_added p held e begun deleted running first gift standing is front rest =
    ap₂ (λ (s : QueueSetting) (h : List Entry). record { setting = s; past = h; coming = []; owed = owed_entries first gift }) (own_added p held is) (ap (λ (es : List Entry). es ++ p.past) (sym front))
    ∙ ap (λ (es : List Entry). record { setting = full p; past = take 1 (owed_entries p.first p.gift) ++ p.past; coming = []; owed = es }) (sym rest)

-- where all is legal and settled with the owed entries, it stays so
pub pays_stands : (s t : QueueSetting) (h : List Entry) (e : Entry) (gift : Option Gift) (running running' : ℕ) (st : Standing) → StandsSo s t h (with_gift gift (e ∷ h)) running st → (Sound t (with_gift gift (e ∷ h)) → length (running_lanes h) ≤ running → length (running_lanes (e ∷ h)) ≤ running')
    → StandsSo t t (e ∷ h) (with_gift gift (e ∷ h)) running' (standing_paid st (is_some gift))
pays_stands s t h e None running running' Whole w goes = (w.1, w.1, goes w.1 w.2)
pays_stands s t h e (Some g) running running' Whole w goes = (w.1, goes w.1 w.2)
pays_stands s t h e None running running' Paying w goes = (w.0, w.0, goes w.0 w.1)
pays_stands s t h e (Some g) running running' Paying w goes = (w.0, goes w.0 w.1)
pays_stands s t h e None running running' Left w goes = tt
pays_stands s t h e (Some g) running running' Left w goes = tt

-- messages

messages-coming_from : (s : QueueSetting) (m k : ℕ) (xs : List Message) → map (λ (x : Stored). x.message) (coming_from s m k xs) ≡ xs
messages-coming_from s m k [] = refl
messages-coming_from s m k (x ∷ xs) = ap (λ (ms : List Message). x ∷ ms) (messages-coming_from s m (k + 1) xs)

pub messages_came : (s : QueueSetting) (q : QueueState) (m k : ℕ) (xs : List Message) → messages_stored (record q { messages = q.messages ++ coming_from s m k xs }) ≡ messages_stored q ++ xs
messages_came s q m k xs = map-append (λ (x : Stored). x.message) q.messages (coming_from s m k xs) ∙ ap (λ (ms : List Message). messages_stored q ++ ms) (messages-coming_from s m k xs)

messages-changed_from : (f : Stored → Stored) → ((x : Stored) → (f x).message ≡ x.message) → (places : List ℕ) (k : ℕ) (xs : List Stored) → map (λ (x : Stored). x.message) (changed_from f places k xs) ≡ map (λ (x : Stored). x.message) xs
messages-changed_from f same places k [] = refl
messages-changed_from f same places k (x ∷ xs) =
    let rest = messages-changed_from f same places (k + 1) xs in
    elim (cases_Bool (holds places k)) [
      | inl is ↦ rw is (ap₂ (λ (m : Message) (ms : List Message). m ∷ ms) (same x) rest)
      | inr out ↦ rw out (ap (λ (ms : List Message). x.message ∷ ms) rest)
    ]

pub messages_received : (q : QueueState) (m : ℕ) (places : List ℕ) → messages_stored (after_receipt m places q) ≡ messages_stored q
messages_received q m places = messages-changed_from (received_once m) (λ x. refl) places 0 q.messages

pub messages_deleted : (q : QueueState) (places : List ℕ) → messages_stored (after_deletion places q) ≡ messages_stored q
messages_deleted q places = messages-changed_from deleted_once (λ x. refl) places 0 q.messages
