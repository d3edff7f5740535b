-- Which histories the rules decide: each call that begins and each record that expires is what `next_for` answers; right
-- after each end of a call come the entries that it requires; and after the arrival of records those that do not pass the
-- filter are filtered. This product's own.
use Rattle.std.specs.Prelude.{◌≡◌, ℕ, ◌==◌, nat_eq, Bool, true, false, ◌&&◌, List, [], ◌∷◌, length, Option, Some, None}
use Rattle.std.specs.List.{list_all}
use Rattle.std.specs.Option.{option_eq}
use Rattle.esm_model.specs.Lane.{same_lane}
use Rattle.esm_model.specs.declared.lane.LaneId.{LaneId}
use Rattle.esm_model.specs.declared.book.Next.{Next}
use Rattle.esm_model.specs.declared.book.Next.TheVariants as next
use Rattle.esm_model.specs.declared.entry.Fate.TheVariants.{Expired}
use Rattle.esm_model.specs.declared.entry.Entry.{Entry}
use Rattle.esm_model.specs.declared.entry.Entry.TheVariants.{Came, Began, Ended, Gave, Tried, Closed, Replayed, Shut}
use Rattle.esm_model.specs.Setting.{Setting}
use Rattle.esm_model.specs.Entries.{last_moment, shards_that_came, batcher}
use Rattle.esm_model.specs.Owed.{unsorted, same_places, owed}
use Rattle.esm_model.specs.WorkedLegal.{same_entry, is_sorted}
use Rattle.esm_ingest.specs.Entries.{filtered_at}
use Rattle.esm_next.specs.Following.{next_for, next_entries}

-- the same entries in the same order, for the kinds that a lane may owe
abbrev pub same_entries : List Entry → List Entry → Bool
same_entries [] [] = true
same_entries (e ∷ es) (f ∷ fs) = same_entry e f && same_entries es fs
same_entries _ _ = false

-- the answer is a call of the lane with these places that closes this window or none; its event is not compared
abbrev pub is_call_of : LaneId → List ℕ → Option ℕ → Next → Bool
is_call_of lane places closing (next.Call job) = same_lane job.lane lane && (same_places job.places places && option_eq nat_eq job.closing closing)
is_call_of lane places closing _ = false

-- the answer is that this many records got their fate
abbrev pub is_gift_of : ℕ → Next → Bool
is_gift_of count (next.Gave n) = n == count
is_gift_of count _ = false

-- the answer to the lane's batcher is this call
abbrev pub begins_by_rule : Setting → List Entry → LaneId → List ℕ → Option ℕ → ℕ → Bool
begins_by_rule s h lane places closing m = is_call_of lane places closing (next_for s h (batcher s h lane) m)

-- the answer to the lane's batcher is that this many records expired, which is the entry
abbrev pub expires_by_rule : Setting → List Entry → LaneId → ℕ → ℕ → Entry → Bool
expires_by_rule s h lane count m e =
    is_gift_of count (next_for s h (batcher s h lane) m) && same_entries (next_entries s h (batcher s h lane) m (next.Gave count)) (e ∷ [])

-- the entry gives their fate, at the last moment, to the shard's open records that do not pass the filter
abbrev pub filters_by_rule : Setting → List Entry → ℕ → Entry → Bool
filters_by_rule s h shard e = same_entries (filtered_at (last_moment h) shard (unsorted s h shard)) (e ∷ [])

-- each open record passes the filter
abbrev pub is_filtered : Setting → List Entry → Bool
is_filtered s h = list_all (is_sorted s h) (shards_that_came h)

-- the history is decided, given the entries, oldest first, that come after it and pay what the end of a call requires. Right
-- after an `Ended` come all entries that it owes, in their order, and after any other entry none. Records are filtered
-- before anything but the arrival of records happens.
abbrev pub is_decided_with : Setting → List Entry → List Entry → Bool
is_decided_with s paid [] = same_entries paid []
is_decided_with s paid (Came shard first count moment ∷ h) = same_entries paid [] && is_decided_with s [] h
is_decided_with s paid (Began lane places closing moment ∷ h) =
    same_entries paid [] && (is_filtered s h && (begins_by_rule s h lane places closing moment && is_decided_with s [] h))
is_decided_with s paid (Ended lane reply moment ∷ h) =
    same_entries paid (owed s (Ended lane reply moment ∷ h) lane) && (is_filtered s h && is_decided_with s [] h)
is_decided_with s paid (Gave None shard places fate line state moment ∷ h) =
    same_entries paid [] && (filters_by_rule s h shard (Gave None shard places fate line state moment) && is_decided_with s [] h)
is_decided_with s paid (Gave (Some lane) shard places Expired line state moment ∷ h) =
    same_entries paid []
    && (is_filtered s h && (expires_by_rule s h lane (length places) moment (Gave (Some lane) shard places Expired line state moment) && is_decided_with s [] h))
is_decided_with s paid (Gave (Some lane) shard places fate line state moment ∷ h) = is_decided_with s (Gave (Some lane) shard places fate line state moment ∷ paid) h
is_decided_with s paid (Tried lane places closing tries moment ∷ h) = is_decided_with s (Tried lane places closing tries moment ∷ paid) h
is_decided_with s paid (Closed lane window moment ∷ h) = is_decided_with s (Closed lane window moment ∷ paid) h
is_decided_with s paid (Replayed shard places moment ∷ h) = false
is_decided_with s paid (Shut moment ∷ h) = same_entries paid [] && (is_filtered s h && is_decided_with s [] h)

-- the history, newest entry first, is decided; which records arrive, what the calls answer and when the input ends is given
abbrev pub is_decided : Setting → List Entry → Bool
is_decided s h = is_filtered s h && is_decided_with s [] h

-- the rules decide the history
abbrev pub IsDecided : Setting → List Entry → Type 0
IsDecided s h = is_decided s h ≡ true

-- the rules do not decide the history
abbrev pub IsUndecided : Setting → List Entry → Type 0
IsUndecided s h = is_decided s h ≡ false
