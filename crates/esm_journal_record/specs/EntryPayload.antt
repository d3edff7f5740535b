-- What a book's journal keeps of an entry. This product's own: one payload for each fate, counted try, window's end and
-- replay, and nothing for any other entry.
use Rattle.std.specs.Prelude.{ℕ, ◌<◌, List, map, reverse, length, Option, Some, None, option_map, filter_map, slice_get, IfSome, [], ◌∷◌}
use Rattle.std.specs.List.{All}
use Rattle.esm_model.specs.declared.item.Message.{Message}
use Rattle.esm_model.specs.declared.entry.Entry.{Entry}
use Rattle.esm_model.specs.declared.entry.Entry.TheVariants as entry
use Rattle.esm_model.specs.declared.setup.Told.{Told}
use Rattle.esm_model.specs.declared.setup.Setup.{Setup}
use Rattle.esm_model.specs.Books.{setting_told}
use Rattle.esm_model.specs.Setting.{Setting, records_of, sequences_at}
use Rattle.esm_journal_record.specs.declared.said.Said.{Said}
use Rattle.esm_journal_record.specs.declared.said.Said.TheVariants.{Fates, Closed, Deleted, Tried, WindowTried, Replayed}
use Rattle.esm_journal_record.specs.Payload.{payload_of, IsSaid}

-- a stream's book

-- what is said of an entry; a try of a window's final call counts for the window
abbrev pub entry_said : Setting → Entry → Option Said
entry_said s (entry.Gave by shard places fate line state moment) = Some (Fates shard fate moment state places (sequences_at s shard places))
entry_said s (entry.Tried lane places None tries moment) = Some (Tried lane.shard moment tries places (sequences_at s lane.shard places))
entry_said s (entry.Tried lane places (Some window) tries moment) = Some (WindowTried lane.shard window moment tries)
entry_said s (entry.Closed lane window moment) = Some (Closed lane.shard window moment)
entry_said s (entry.Replayed shard places moment) = Some (Replayed shard moment places (sequences_at s shard places))
entry_said s _ = None

abbrev pub entry_payload : Setting → Entry → Option (List ℕ)
entry_payload s e = option_map payload_of (entry_said s e)

-- the payloads of a history, oldest first
abbrev pub history_payloads : Setting → List Entry → List (List ℕ)
history_payloads s h = filter_map (entry_payload s) (reverse h)

-- of a history as threads pass it, over the setting that it gives
abbrev pub payloads_told : Setup → List Told → List (List ℕ)
payloads_told setup history = filter_map (λ (t : Told). entry_payload (setting_told setup history) t.entry) history

-- each entry that the journal keeps may be said
abbrev pub AllMayBeSaid : Setting → List Entry → Type 0
AllMayBeSaid s [] = Unit {0}
AllMayBeSaid s (e ∷ h) = AllMayBeSaid s h × IfSome (entry_said s e) IsSaid

-- a queue's book

-- the ids of the messages at the places
abbrev pub ids_at : List Message → List ℕ → List (List ℕ)
ids_at messages places = map (λ (m : Message). m.id) (filter_map (slice_get messages) places)

-- a fate of messages is their deletion
abbrev pub queue_said : List Message → Entry → Option Said
queue_said messages (entry.Gave by shard places fate line state moment) = Some (Deleted fate moment places (ids_at messages places))
queue_said messages _ = None

abbrev pub queue_payload : List Message → Entry → Option (List ℕ)
queue_payload messages e = option_map payload_of (queue_said messages e)

-- lists that grow

-- the shard's list has the places
abbrev pub StandIn : Setting → ℕ → List ℕ → Type 0
StandIn s n places = All (λ i. i < length (records_of s n)) places

-- the shard's list has the places that the entry names
abbrev pub NamesStand : Setting → Entry → Type 0
NamesStand s (entry.Gave by shard places fate line state moment) = StandIn s shard places
NamesStand s (entry.Tried lane places closing tries moment) = StandIn s lane.shard places
NamesStand s (entry.Replayed shard places moment) = StandIn s shard places
NamesStand s _ = Unit {0}
