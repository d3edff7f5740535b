-- Legality of a queue's history as a test that computes: the conditions of each entry, over the lanes that occur in the
-- history. A history that passes is legal; the worked histories are proved legal by it. A legal history need not pass.
use Rattle.std.specs.Prelude.{ℕ, ◌+◌, ◌==◌, nat_le, nat_lt, Bool, true, false, not, ◌&&◌, List, [], ◌∷◌, length, Option, Some, None, option_map, is_none}
use Rattle.std.specs.List.{list_all}
use Rattle.std.specs.Str.{bytes_eq}
use Rattle.esm_model.specs.declared.moment.TheConstants.{MAX_MOMENT}
use Rattle.esm_model.specs.declared.item.Message.{Message}
use Rattle.esm_model.specs.declared.lane.LaneId.{LaneId}
use Rattle.esm_model.specs.declared.entry.Fate.{Fate}
use Rattle.esm_model.specs.declared.entry.Fate.TheVariants.{Succeeded, Filtered}
use Rattle.esm_model.specs.declared.entry.WindowState.{WindowState}
use Rattle.esm_model.specs.declared.entry.Entry.{Entry}
use Rattle.esm_model.specs.declared.entry.Entry.TheVariants.{Came, Began, Ended, Gave, Tried, Closed, Replayed, Shut}
use Rattle.esm_model.specs.declared.setup.FoundDeletion.{FoundDeletion}
use Rattle.esm_model.specs.Entries.{moment_of, last_moment, is_shut, calls_begun, is_running}
use Rattle.esm_model.specs.Fates.{below}
use Rattle.esm_queue_model.specs.QueueSetting.{QueueSetting, message_at, found_deletion}
use Rattle.esm_queue_model.specs.QueueEntries.{queue_count}
use Rattle.esm_queue_model.specs.QueueBatch.{queue_batch, is_queue_ready}
use Rattle.esm_queue_model.specs.QueueStep.{unsorted_messages, owed_places}

abbrev pub ended_after : List LaneId → Entry → List LaneId
ended_after before (Ended lane reply moment) = lane ∷ before
ended_after before _ = before

-- the lanes in which a call ended: no other lane owes anything
abbrev pub ended_lanes : List Entry → List LaneId
ended_lanes [] = []
ended_lanes (e ∷ h) = ended_after (ended_lanes h) e

-- the conditions of each entry

abbrev pub is_later_entry : List Entry → ℕ → Bool
is_later_entry h m = nat_le (last_moment h) m && nat_le m MAX_MOMENT

abbrev pub is_id_of : Option (List ℕ) → Option Message → Bool
is_id_of (Some text) (Some m) = bytes_eq m.id text
is_id_of _ _ = true

-- the message at the place has the id that the journal kept of it
abbrev pub is_kept_message : QueueSetting → ℕ → Bool
is_kept_message s i = is_id_of (option_map (λ (f : FoundDeletion). f.text) (found_deletion s i)) (message_at s i)

abbrev pub may_come_queue : QueueSetting → List Entry → ℕ → ℕ → ℕ → Bool
may_come_queue s h shard first count =
    not (is_shut h)
    && ((shard == 0) && ((first == queue_count h) && (nat_le 1 count && (nat_le (first + count) (length s.messages) && list_all (is_kept_message s) (below (first + count))))))

abbrev pub is_settled_queue : QueueSetting → List Entry → Bool
is_settled_queue s h = bytes_eq (unsorted_messages s h) [] && list_all (λ lane. bytes_eq (owed_places s h lane) []) (ended_lanes h)

abbrev pub may_begin_queue : QueueSetting → List Entry → LaneId → List ℕ → ℕ → Bool
may_begin_queue s h lane places m =
    is_settled_queue s h
    && ((lane.shard == 0) && (not (is_running h lane) && (nat_lt (calls_begun h) s.calls && (bytes_eq places (queue_batch s h m) && (nat_le 1 (length places) && is_queue_ready s h m)))))

-- a `Gave` of exactly these places
abbrev pub may_give_exactly : List Entry → List ℕ → ℕ → List ℕ → Option (List ℕ) → Option WindowState → ℕ → Bool
may_give_exactly h exact shard places line state m =
    (shard == 0) && (bytes_eq places exact && (nat_le 1 (length places) && (is_none line && (is_none state && (m == last_moment h)))))

abbrev pub may_give_queue : QueueSetting → List Entry → Option LaneId → ℕ → List ℕ → Fate → Option (List ℕ) → Option WindowState → ℕ → Bool
may_give_queue s h None shard places Filtered line state m = may_give_exactly h (unsorted_messages s h) shard places line state m
may_give_queue s h (Some lane) shard places Succeeded line state m = may_give_exactly h (owed_places s h lane) shard places line state m
may_give_queue s h _ shard places _ line state m = false

abbrev pub may_follow_queue : QueueSetting → List Entry → Entry → Bool
may_follow_queue s h (Came shard first count moment) = may_come_queue s h shard first count
may_follow_queue s h (Began lane places None moment) = may_begin_queue s h lane places moment
may_follow_queue s h (Began lane places (Some window) moment) = false
may_follow_queue s h (Ended lane reply moment) = is_running h lane
may_follow_queue s h (Gave by shard places fate line state moment) = may_give_queue s h by shard places fate line state moment
may_follow_queue s h (Tried lane places closing tries moment) = false
may_follow_queue s h (Closed lane window moment) = false
may_follow_queue s h (Replayed shard places moment) = false
may_follow_queue s h (Shut moment) = is_settled_queue s h && not (is_shut h)

-- each entry may follow those before it
abbrev pub is_legal_queue : QueueSetting → List Entry → Bool
is_legal_queue s [] = true
is_legal_queue s (e ∷ h) = is_legal_queue s h && (is_later_entry h (moment_of e) && may_follow_queue s h e)
