-- Entries that are owed, and what is written of them. Only this crate's proofs cite this.
use Rattle.std.specs.Prelude.{◌≡◌, ℕ, ◌≤◌, List, [], ◌∷◌, length, map, Vec, Some, None, IfSome, ⊤}
use Rattle.std.specs.List.{filter_map}
use Rattle.std.specs.declared.alloc.Global.{Global}
use Rattle.esm_model.specs.declared.limits.TheConstants.{MAX_PAYLOAD}
use Rattle.esm_model.specs.declared.moment.TheConstants.{MAX_MOMENT}
use Rattle.esm_model.specs.declared.lane.LaneId.{LaneId}
use Rattle.esm_model.specs.declared.entry.Fate.TheVariants as fates
use Rattle.esm_model.specs.declared.entry.Entry.{Entry}
use Rattle.esm_model.specs.declared.entry.Entry.TheVariants as entry
use Rattle.esm_model.specs.Setting.{Setting, Stream}
use Rattle.esm_model.specs.Entries.{moment_of}
use Rattle.esm_model.specs.Step.{Legal}
use Rattle.esm_model.specs.Books.{entry_line}
use Rattle.esm_journal_record.specs.declared.said.Said.{Said}
use Rattle.esm_journal_record.specs.Payload.{payload_of, IsSaid}
use Rattle.esm_journal_record.specs.EntryPayload.{entry_said, entry_payload}
use Rattle.esm_ledger.specs.declared.coming.Coming.{Coming}
use Rattle.esm_ledger.specs.Reading.{AreOpen}
use Rattle.esm_outcome.specs.declared.outcome.Due.{Due}
use Rattle.esm_outcome.specs.declared.outcome.Due.TheVariants as due
use Rattle.esm_record_bounds.specs.Bounds.{AreCountedInFourBytes, FiltersFew}
use Rattle.esm_stream_core.specs.declared.owed.Act.{Act}
use Rattle.esm_stream_core.specs.declared.owed.Act.TheVariants as act
use Rattle.esm_stream_core.specs.declared.owed.Owed.{Owed}

-- the entry in the history
abbrev pub act_entry : Act → Entry
act_entry (act.Came shard first count moment) = entry.Came shard first count moment
act_entry (act.Began lane places closing moment) = entry.Began lane places closing moment
act_entry (act.Ended lane reply verdict moment) = entry.Ended lane reply moment
act_entry (act.Gave by shard places fate line state copy moment) = entry.Gave by shard places fate line state moment
act_entry (act.Expired lane places line moment) = entry.Gave (Some lane) lane.shard places fates.Expired line None moment
act_entry (act.Tried lane places closing tries moment) = entry.Tried lane places closing tries moment
act_entry (act.Closed lane window moment) = entry.Closed lane window moment

abbrev pub owed_entry : Owed → Entry
owed_entry o = act_entry o.act

abbrev pub entries_of : List Owed → List Entry
entries_of owed = map owed_entry owed

-- the records that are coming, as a list of their shard
abbrev pub part_of : Coming → Stream
part_of x = record { shard = x.shard; records = x.arriving.records.items }

abbrev pub parts_of : List Coming → List Stream
parts_of xs = map part_of xs

-- what is written of it: its payload and its line, both short
pub record IsWritten (s : Setting) (o : Owed) : Type 0 where
  pub payload : entry_payload s (owed_entry o) ≡ o.payload
  pub short : IfSome o.payload (λ (bytes : List ℕ). length bytes ≤ MAX_PAYLOAD)
  pub line : IfSome (entry_line (owed_entry o)) (λ (bytes : List ℕ). length bytes ≤ MAX_PAYLOAD)
  pub in_time : moment_of (owed_entry o) ≤ MAX_MOMENT

abbrev pub AreWritten : Setting → List Owed → Type 0
AreWritten s [] = ⊤
AreWritten s (o ∷ owed) = IsWritten s o × AreWritten s owed

abbrev pub HasShortPayload : Owed → Type 0
HasShortPayload o = IfSome o.payload (λ (bytes : List ℕ). length bytes ≤ MAX_PAYLOAD)

-- the bytes are the payload that says this
abbrev pub IsPayloadOf : Said → Vec ℕ Global → Type 0
IsPayloadOf said out = out.items ≡ payload_of said

-- the payloads of those that have one
abbrev pub payloads_in : List Owed → List (List ℕ)
payloads_in owed = filter_map (λ (o : Owed). o.payload) owed

-- what may be written of entries that are to be owed

-- its payload and its line, if it has them, may be said and are short
pub record IsWritable (s : Setting) (e : Entry) : Type 0 where
  pub said : IfSome (entry_said s e) IsSaid
  pub short : IfSome (entry_said s e) (λ (said : Said). length (payload_of said) ≤ MAX_PAYLOAD)
  pub line : IfSome (entry_line e) (λ (bytes : List ℕ). length bytes ≤ MAX_PAYLOAD)
  pub in_time : moment_of e ≤ MAX_MOMENT

abbrev pub AreWritable : Setting → List Entry → Type 0
AreWritable s [] = ⊤
AreWritable s (e ∷ es) = IsWritable s e × AreWritable s es

-- the records that are named

-- no record that the entry's payload names has a fate
abbrev pub NamesOpen : Setting → List Entry → Entry → Type 0
NamesOpen s h (entry.Gave by shard places fate line state moment) = AreOpen s h shard places
NamesOpen s h (entry.Tried lane places closing tries moment) = AreOpen s h lane.shard places
NamesOpen s h _ = ⊤

-- and none that any of their payloads names
abbrev pub AllNameOpen : Setting → List Entry → List Entry → Type 0
AllNameOpen s h [] = ⊤
AllNameOpen s h (e ∷ es) = NamesOpen s h e × AllNameOpen s h es

-- the entry may follow the history, in which places fit four bytes
pub record IsNext (s : Setting) (h : List Entry) (e : Entry) : Type 0 where
  pub legal : Legal s (e ∷ h)
  pub before : AreCountedInFourBytes h
  pub after : AreCountedInFourBytes (e ∷ h)
  pub few : FiltersFew e

-- they may follow it one after another
abbrev pub AreNext : Setting → List Entry → List Entry → Type 0
AreNext s h [] = ⊤
AreNext s h (e ∷ es) = IsNext s h e × AreNext s (e ∷ h) es

-- what the end of a call requires, as an act of its lane
abbrev pub due_act : LaneId → ℕ → Due → Act
due_act lane m (due.Gave places fate line state) = act.Gave (Some lane) lane.shard places fate line state state m
due_act lane m (due.Tried places closing tries) = act.Tried lane places closing tries m
due_act lane m (due.Closed window) = act.Closed lane window m

-- it is owed, with what is written of it
pub record IsDue (s : Setting) (lane : LaneId) (m : ℕ) (d : Due) (o : Owed) : Type 0 where
  pub act : o.act ≡ due_act lane m d
  pub written : IsWritten s o

-- each of them is, in their order
abbrev pub AreDue : Setting → LaneId → ℕ → List Due → List Owed → Type 0
AreDue s lane m [] [] = ⊤
AreDue s lane m [] (o ∷ owed) = ⊥
AreDue s lane m (d ∷ dues) [] = ⊥
AreDue s lane m (d ∷ dues) (o ∷ owed) = IsDue s lane m d o × AreDue s lane m dues owed
