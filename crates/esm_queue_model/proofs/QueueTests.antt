-- A history that passes the tests is legal.
use Rattle.std.proofs.Common.{◌≡◌, ℕ, ◌+◌, Bool, true, false, not, cond, List, [], ◌∷◌, refl, sym, ap, ◌∙◌, subst, inl, inr, Option, Some, None}
use Rattle.std.specs.Prelude.{◌==◌, filter, option_map, is_none}
use Rattle.std.specs.List.{list_any, list_all}
use Rattle.std.specs.Str.{bytes_eq}
use Rattle.std.proofs.lemmas.Bool.{cases_Bool, and_parts, or_parts, eqb-true, leb-true, ltb-true, not-true}
use Rattle.esm_model.specs.Lane.{same_lane}
use Rattle.esm_model.specs.declared.item.Message.{Message}
use Rattle.esm_model.specs.declared.lane.LaneId.{LaneId}
use Rattle.esm_model.specs.declared.entry.Fate.{Fate}
use Rattle.esm_model.specs.declared.entry.Fate.TheVariants.{Succeeded, Filtered, Expired, Exhausted}
use Rattle.esm_model.specs.declared.entry.WindowState.{WindowState}
use Rattle.esm_model.specs.declared.entry.Entry.{Entry}
use Rattle.esm_model.specs.declared.entry.Entry.TheVariants.{Came, Began, Ended, Gave, Tried, Closed, Replayed, Shut}
use Rattle.esm_model.specs.declared.setup.FoundDeletion.{FoundDeletion}
use Rattle.esm_model.specs.Entries.{moment_of, holds}
use Rattle.esm_model.specs.Fates.{below}
use Rattle.esm_model.specs.Step.{IsLater}
use Rattle.esm_queue_model.specs.QueueSetting.{QueueSetting, message_at, found_deletion}
use Rattle.esm_queue_model.specs.QueueEntries.{is_deleted}
use Rattle.esm_queue_model.specs.QueueStep.{unsorted_messages, succeeded_places, owed_places, SettledQueue, MayComeQueue, MayBeginQueue, MayGiveQueue, QueueMayFollow, LegalQueue}
use Rattle.esm_queue_model.specs.QueueTests.{ended_lanes, is_later_entry, is_id_of, is_kept_message, may_come_queue, is_settled_queue, may_begin_queue, may_give_queue, may_follow_queue, is_legal_queue}
use Rattle.esm_queue_model.proofs.Groups.{bytes_eq-true}
use Rattle.esm_queue_model.proofs.Places.{below-In}

pub same_lane-true : (a b : LaneId) → same_lane a b ≡ true → a ≡ b
same_lane-true a b t =
    let parts = and_parts (a.shard == b.shard) (a.lane == b.lane) t in
    ap (λ n. record { shard = n; lane = a.lane }) (eqb-true a.shard b.shard parts.0)
    ∙ ap (λ n. record { shard = b.shard; lane = n }) (eqb-true a.lane b.lane parts.1)

-- a list of which each element passes the one test, and some element the other
found_passing : {A : Type 0} (p q : A → Bool) (xs : List A) → list_all p xs ≡ true → list_any q xs ≡ true → (x : A) × (p x ≡ true) × (q x ≡ true)
found_passing p q [] all some = cc
found_passing p q (x ∷ xs) all some =
    let parts = and_parts (p x) (list_all p xs) all in
    elim (cases_Bool (q x)) [ inl is ↦ (x, parts.0, is) | inr fails ↦ found_passing p q xs parts.1 (rw fails at some) ]

all_at : (p : ℕ → Bool) (xs : List ℕ) (i : ℕ) → list_all p xs ≡ true → holds xs i ≡ true → p i ≡ true
all_at p xs i all member =
    let found = found_passing p (λ x. x == i) xs all member in
    subst (λ x. p x ≡ true) (eqb-true found.0 i found.2) found.1

none_from : {A : Type 0} (o : Option A) → is_none o ≡ true → o ≡ None
none_from None t = refl
none_from (Some x) t = cc

emptied : (b : Bool) (xs : List ℕ) → xs ≡ [] → cond b [] xs ≡ []
emptied true xs none = refl
emptied false xs none = none

-- a lane of which no call ended is owed nothing
not_ended : (s : QueueSetting) (h : List Entry) (lane : LaneId) → list_any (λ at. same_lane at lane) (ended_lanes h) ≡ false → succeeded_places s h lane ≡ []
not_ended s [] lane none = refl
not_ended s (Ended at reply m ∷ h) lane none =
    let parts = or_parts (same_lane at lane) (list_any (λ l. same_lane l lane) (ended_lanes h)) none in
    rw (parts.0) (not_ended s h lane parts.1)
not_ended s (Came shard first count m ∷ h) lane none = not_ended s h lane none
not_ended s (Began at places closing m ∷ h) lane none = emptied (same_lane at lane) (succeeded_places s h lane) (not_ended s h lane none)
not_ended s (Gave by shard places f line state m ∷ h) lane none = not_ended s h lane none
not_ended s (Tried at places closing tries m ∷ h) lane none = not_ended s h lane none
not_ended s (Closed at window m ∷ h) lane none = not_ended s h lane none
not_ended s (Replayed shard places m ∷ h) lane none = not_ended s h lane none
not_ended s (Shut m ∷ h) lane none = not_ended s h lane none

settled : (s : QueueSetting) (h : List Entry) → is_settled_queue s h ≡ true → SettledQueue s h
settled s h t =
    let parts = and_parts (bytes_eq (unsorted_messages s h) []) (list_all (λ lane. bytes_eq (owed_places s h lane) []) (ended_lanes h)) t in
    record {
      sorted = bytes_eq-true (unsorted_messages s h) [] parts.0;
      paid = λ lane. elim (cases_Bool (list_any (λ at. same_lane at lane) (ended_lanes h))) [
        | inl ended ↦
            (let found = found_passing (λ at. bytes_eq (owed_places s h at) []) (λ at. same_lane at lane) (ended_lanes h) parts.1 ended in
            subst (λ l. owed_places s h l ≡ []) (same_lane-true found.0 lane found.2) (bytes_eq-true (owed_places s h found.0) [] found.1))
        | inr none ↦ ap (λ places. filter (λ i. not (is_deleted s h i)) places) (not_ended s h lane none)
      ];
    }

-- the rows

later : (h : List Entry) (m : ℕ) → is_later_entry h m ≡ true → IsLater h m
later h m t = let parts = and_parts _ _ t in record { not_back = leb-true _ _ parts.0; within = leb-true _ _ parts.1 }

id_of : (f : FoundDeletion) (m : Message) (o : Option FoundDeletion) (p : Option Message) → is_id_of (option_map (λ (g : FoundDeletion). g.text) o) p ≡ true → o ≡ Some f → p ≡ Some m → m.id ≡ f.text
id_of f m o p t is at =
    let here : bytes_eq m.id f.text ≡ true = sym (ap (λ (x : Option FoundDeletion). is_id_of (option_map (λ (g : FoundDeletion). g.text) x) p) is ∙ ap (λ (x : Option Message). is_id_of (Some f.text) x) at) ∙ t in
    bytes_eq-true m.id f.text here

come : (s : QueueSetting) (h : List Entry) (shard first count : ℕ) → may_come_queue s h shard first count ≡ true → MayComeQueue s h shard first count
come s h shard first count t =
    let p1 = and_parts _ _ t in
    let p2 = and_parts _ _ p1.1 in
    let p3 = and_parts _ _ p2.1 in
    let p4 = and_parts _ _ p3.1 in
    let p5 = and_parts _ _ p4.1 in
    record {
      not_shut = not-true _ p1.0;
      queue = eqb-true _ _ p2.0;
      next = eqb-true _ _ p3.0;
      some = leb-true _ _ p4.0;
      within = leb-true _ _ p5.0;
      kept = λ i f m low high at is. id_of f m (found_deletion s i) (message_at s i) (all_at (is_kept_message s) (below (first + count)) i p5.1 (below-In (first + count) i high)) is at;
    }

begin : (s : QueueSetting) (h : List Entry) (lane : LaneId) (places : List ℕ) (m : ℕ) → may_begin_queue s h lane places m ≡ true → MayBeginQueue s h lane places m
begin s h lane places m t =
    let p1 = and_parts _ _ t in
    let p2 = and_parts _ _ p1.1 in
    let p3 = and_parts _ _ p2.1 in
    let p4 = and_parts _ _ p3.1 in
    let p5 = and_parts _ _ p4.1 in
    let p6 = and_parts _ _ p5.1 in
    record {
      settled = settled s h p1.0;
      queue = eqb-true _ _ p2.0;
      rests = not-true _ p3.0;
      calls_left = ltb-true _ _ p4.0;
      exact = bytes_eq-true _ _ p5.0;
      some = leb-true _ _ p6.0;
      ready = p6.1;
    }

give : (s : QueueSetting) (h : List Entry) (by : Option LaneId) (shard : ℕ) (places : List ℕ) (f : Fate) (line : Option (List ℕ)) (state : Option WindowState) (m : ℕ) → may_give_queue s h by shard places f line state m ≡ true → MayGiveQueue s h by shard places f line state m
give s h None shard places Filtered line state m t =
    let p1 = and_parts _ _ t in
    let p2 = and_parts _ _ p1.1 in
    let p3 = and_parts _ _ p2.1 in
    let p4 = and_parts _ _ p3.1 in
    let p5 = and_parts _ _ p4.1 in
    record { queue = eqb-true _ _ p1.0; exact = bytes_eq-true _ _ p2.0; some = leb-true _ _ p3.0; no_line = none_from line p4.0; no_state = none_from state p5.0; same_moment = eqb-true _ _ p5.1 }
give s h (Some lane) shard places Succeeded line state m t =
    let p1 = and_parts _ _ t in
    let p2 = and_parts _ _ p1.1 in
    let p3 = and_parts _ _ p2.1 in
    let p4 = and_parts _ _ p3.1 in
    let p5 = and_parts _ _ p4.1 in
    record { queue = eqb-true _ _ p1.0; exact = bytes_eq-true _ _ p2.0; some = leb-true _ _ p3.0; no_line = none_from line p4.0; no_state = none_from state p5.0; same_moment = eqb-true _ _ p5.1 }
give s h None shard places Succeeded line state m t = cc
give s h None shard places Expired line state m t = cc
give s h None shard places Exhausted line state m t = cc
give s h (Some lane) shard places Filtered line state m t = cc
give s h (Some lane) shard places Expired line state m t = cc
give s h (Some lane) shard places Exhausted line state m t = cc

follows : (s : QueueSetting) (h : List Entry) (e : Entry) → may_follow_queue s h e ≡ true → QueueMayFollow s h e
follows s h (Came shard first count m) t = come s h shard first count t
follows s h (Began lane places None m) t = begin s h lane places m t
follows s h (Began lane places (Some window) m) t = cc
follows s h (Ended lane reply m) t = t
follows s h (Gave by shard places f line state m) t = give s h by shard places f line state m t
follows s h (Tried lane places closing tries m) t = cc
follows s h (Closed lane window m) t = cc
follows s h (Replayed shard places m) t = cc
follows s h (Shut m) t = let parts = and_parts _ _ t in (settled s h parts.0, not-true _ parts.1)

pub is_legal_queue_sound : (s : QueueSetting) (h : List Entry) → is_legal_queue s h ≡ true → LegalQueue s h
is_legal_queue_sound s [] t = tt
is_legal_queue_sound s (e ∷ h) t =
    let p1 = and_parts _ _ t in
    let p2 = and_parts _ _ p1.1 in
    (is_legal_queue_sound s h p1.0, (later h (moment_of e) p2.0, follows s h e p2.1))
