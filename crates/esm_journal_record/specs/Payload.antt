-- What one payload of a mapping's journal says, and the bytes that say it. Numbers are big-endian. This product's own.
use Rattle.std.specs.Prelude.{◌≡◌, ℕ, suc, ◌<◌, ◌≤◌, ◌^◌, nat_le, nat_lt, Bool, true, false, ◌&&◌, List, [], ◌∷◌, ◌++◌, length, Option, Some, None, IfSome}
use Rattle.std.specs.List.{list_all}
use Rattle.std.specs.Int.{w32, w64, to_be_bytes}
use Rattle.esm_model.specs.declared.limits.TheConstants.{MAX_SHARD, MAX_DATA, MAX_TRIES}
use Rattle.esm_model.specs.declared.moment.TheConstants.{MAX_MOMENT}
use Rattle.esm_model.specs.Sequence.{is_sequence}
use Rattle.esm_model.specs.Valid.{is_between, is_word, is_name_byte}
use Rattle.esm_model.specs.declared.entry.Fate.{Fate}
use Rattle.esm_model.specs.declared.entry.Fate.TheVariants.{Succeeded, Filtered, Expired, Exhausted}
use Rattle.esm_model.specs.declared.entry.WindowState.{WindowState}
use Rattle.esm_journal_record.specs.declared.said.Said.{Said}
use Rattle.esm_journal_record.specs.declared.said.Said.TheVariants.{Fates, Closed, Deleted, State, Tried, WindowTried, Replayed}

-- the bytes of a payload

-- a number in eight bytes, and in four
unfoldable pub eight : ℕ → List ℕ
eight n = to_be_bytes w64 n

unfoldable pub four : ℕ → List ℕ
four n = to_be_bytes w32 n

abbrev pub fate_byte : Fate → ℕ
fate_byte Succeeded = 1
fate_byte Filtered = 2
fate_byte Expired = 3
fate_byte Exhausted = 4

-- the length of a text, then the text
abbrev pub text_bytes : List ℕ → List ℕ
text_bytes text = four (length text) ++ text

-- a flag, and if it is 1 the window and its state
abbrev pub flagged_bytes : Option WindowState → List ℕ
flagged_bytes None = 0 ∷ []
flagged_bytes (Some state) = 1 ∷ (eight state.window ++ text_bytes state.text)

-- the length of a text fits in one byte
abbrev pub is_short : List ℕ → Bool
is_short text = nat_lt (length text) 256

-- a place, then the length, in one byte, of the text that is kept of it, and the text
abbrev pub name_bytes : ℕ → List ℕ → List ℕ
name_bytes place text = four place ++ length text ∷ text

abbrev pub names_bytes : List ℕ → List (List ℕ) → List ℕ
names_bytes [] texts = []
names_bytes (place ∷ places) [] = []
names_bytes (place ∷ places) (text ∷ texts) = name_bytes place text ++ names_bytes places texts

-- the number of places, and each with its text
unfoldable pub named_bytes : List ℕ → List (List ℕ) → List ℕ
named_bytes places texts = four (length places) ++ names_bytes places texts

-- the payload: a byte for the kind, and then its fields
abbrev pub payload_of : Said → List ℕ
payload_of (Fates shard fate moment state places texts) =
    1 ∷ (eight shard ++ (fate_byte fate ∷ (eight moment ++ (flagged_bytes state ++ named_bytes places texts))))
payload_of (Closed shard window moment) = 2 ∷ (eight shard ++ (eight window ++ eight moment))
payload_of (Deleted fate moment places texts) = 3 ∷ fate_byte fate ∷ (eight moment ++ named_bytes places texts)
payload_of (State shard moment state) = 4 ∷ (eight shard ++ (eight state.window ++ (eight moment ++ text_bytes state.text)))
payload_of (Tried shard moment tries places texts) =
    5 ∷ (eight shard ++ (eight moment ++ (four tries ++ named_bytes places texts)))
payload_of (WindowTried shard window moment tries) = 6 ∷ (eight shard ++ (eight window ++ (eight moment ++ four tries)))
payload_of (Replayed shard moment places texts) = 7 ∷ (eight shard ++ (eight moment ++ named_bytes places texts))

-- what may be said

-- each number is at least the bound and above those before it
abbrev pub rises_from : ℕ → List ℕ → Bool
rises_from low [] = true
rises_from low (n ∷ ns) = nat_le low n && rises_from (suc n) ns

-- each number is above those before it
abbrev pub rises : List ℕ → Bool
rises ns = rises_from 0 ns

-- the id of a message
abbrev pub is_message_id : List ℕ → Bool
is_message_id text = is_word is_name_byte 1 100 text

-- a place fits in four bytes
abbrev pub is_place : ℕ → Bool
is_place place = nat_lt place (2 ^ 32)

-- at least one place, in rising order, and of each a text of its kind
pub record AreNamed (is_text : List ℕ → Bool) (places : List ℕ) (texts : List (List ℕ)) : Type 0 where
  pub some : 1 ≤ length places
  pub few : length places < 2 ^ 32
  pub small : list_all is_place places ≡ true
  pub rising : rises places ≡ true
  pub same : length texts ≡ length places
  pub spelled : list_all is_text texts ≡ true

abbrev pub IsShard : ℕ → Type 0
IsShard shard = shard ≤ MAX_SHARD

-- a moment, or the start of a window
abbrev pub IsMoment : ℕ → Type 0
IsMoment moment = moment ≤ MAX_MOMENT

abbrev pub IsTries : ℕ → Type 0
IsTries tries = is_between 1 MAX_TRIES tries ≡ true

abbrev pub IsState : WindowState → Type 0
IsState state = IsMoment state.window × (length state.text ≤ MAX_DATA)

-- only records that succeeded may have a state
abbrev pub may_keep : Fate → Option WindowState → Bool
may_keep Succeeded state = true
may_keep _ None = true
may_keep _ (Some state) = false

-- a message does not expire
abbrev pub is_deletion : Fate → Bool
is_deletion Expired = false
is_deletion _ = true

-- a payload may say this
abbrev pub IsSaid : Said → Type 0
IsSaid (Fates shard fate moment state places texts) =
    IsShard shard × IsMoment moment × IfSome state IsState × (may_keep fate state ≡ true) × AreNamed is_sequence places texts
IsSaid (Closed shard window moment) = IsShard shard × IsMoment window × IsMoment moment
IsSaid (Deleted fate moment places texts) = (is_deletion fate ≡ true) × IsMoment moment × AreNamed is_message_id places texts
IsSaid (State shard moment state) = IsShard shard × IsMoment moment × IsState state
IsSaid (Tried shard moment tries places texts) = IsShard shard × IsMoment moment × IsTries tries × AreNamed is_sequence places texts
IsSaid (WindowTried shard window moment tries) = IsShard shard × IsMoment window × IsMoment moment × IsTries tries
IsSaid (Replayed shard moment places texts) = IsShard shard × IsMoment moment × AreNamed is_sequence places texts
