-- What a list of payloads says. A history is the list of what its payloads say, the newest first. This product's own.
use Rattle.std.specs.Prelude.{ℕ, ◌==◌, nat_eq, Bool, true, false, not, ◌&&◌, ◌||◌, List, [], ◌∷◌, Option, Some, None, is_some, option_map, filter_map, if◌then◌else◌}
use Rattle.std.specs.Option.{option_or}
use Rattle.std.specs.Cmp.Lexicographic.{pointwise}
use Rattle.esm_model.specs.Entries.{holds}
use Rattle.esm_model.specs.declared.entry.Fate.{Fate}
use Rattle.esm_model.specs.declared.entry.Fate.TheVariants.{Succeeded, Filtered, Expired, Exhausted}
use Rattle.esm_model.specs.declared.entry.WindowState.{WindowState}
use Rattle.esm_journal_state.specs.declared.kept.KeptFate.{KeptFate}
use Rattle.esm_journal_state.specs.declared.kept.KeptTries.{KeptTries}
use Rattle.esm_journal_record.specs.declared.said.Said.{Said}
use Rattle.esm_journal_record.specs.declared.said.Said.TheVariants.{Fates, Closed, Deleted, State, Tried, WindowTried, Replayed}
use Rattle.esm_journal_record.specs.Parsing.{said_of}

-- the text that the places have for place i
abbrev pub text_named : List ℕ → List (List ℕ) → ℕ → Option (List ℕ)
text_named [] texts i = None
text_named (place ∷ places) [] i = None
text_named (place ∷ places) (text ∷ texts) i = if place == i then Some text else text_named places texts i

-- the value if this is the one, else none
abbrev pub only_at : {A : Type 0} → Bool → Option A → Option A
only_at true x = x
only_at false x = None

-- fates

abbrev pub fate_kept : Fate → List ℕ → KeptFate
fate_kept fate text = record { fate = fate; text = text }

abbrev pub fate_after : ℕ → ℕ → Option KeptFate → Said → Option KeptFate
fate_after n i before (Fates shard fate moment state places texts) =
    option_or (only_at (shard == n) (option_map (fate_kept fate) (text_named places texts i))) before
fate_after n i before _ = before

-- the fate of a place of the shard, with its text: from the last payload of kind 1 that names it
abbrev pub fate_said : List Said → ℕ → ℕ → Option KeptFate
fate_said [] n i = None
fate_said (s ∷ h) n i = fate_after n i (fate_said h n i) s

-- tries

abbrev pub tries_kept : ℕ → List ℕ → KeptTries
tries_kept tries text = record { tries = tries; text = text }

abbrev pub tries_after : ℕ → ℕ → Option KeptTries → Said → Option KeptTries
tries_after n i before (Fates shard fate moment state places texts) = if (shard == n) && holds places i then None else before
tries_after n i before (Tried shard moment tries places texts) =
    option_or (only_at (shard == n) (option_map (tries_kept tries) (text_named places texts i))) before
tries_after n i before _ = before

-- the tries of a place without a fate: from the last payload of kind 5 that names it
abbrev pub tries_said : List Said → ℕ → ℕ → Option KeptTries
tries_said [] n i = None
tries_said (s ∷ h) n i = tries_after n i (tries_said h n i) s

-- windows

abbrev pub state_in : Option WindowState → ℕ → Option (List ℕ)
state_in None w = None
state_in (Some state) w = if state.window == w then Some state.text else None

abbrev pub state_after : ℕ → ℕ → Option (List ℕ) → Said → Option (List ℕ)
state_after n w before (Fates shard fate moment state places texts) = option_or (only_at (shard == n) (state_in state w)) before
state_after n w before (State shard moment state) = option_or (only_at (shard == n) (state_in (Some state) w)) before
state_after n w before (Closed shard window moment) = if (shard == n) && (window == w) then None else before
state_after n w before _ = before

-- the state of a window: from the last payload of kind 1 or 4 that names it, and none after it was closed
abbrev pub state_said : List Said → ℕ → ℕ → Option (List ℕ)
state_said [] n w = None
state_said (s ∷ h) n w = state_after n w (state_said h n w) s

abbrev pub window_tries_after : ℕ → ℕ → Option ℕ → Said → Option ℕ
window_tries_after n w before (WindowTried shard window moment tries) = if (shard == n) && (window == w) then Some tries else before
window_tries_after n w before (Closed shard window moment) = if (shard == n) && (window == w) then None else before
window_tries_after n w before _ = before

-- the tries of a window's final call: from the last payload of kind 6 that names it, and none after it was closed
abbrev pub window_tries_said : List Said → ℕ → ℕ → Option ℕ
window_tries_said [] n w = None
window_tries_said (s ∷ h) n w = window_tries_after n w (window_tries_said h n w) s

-- replays and deletions

abbrev pub replayed_after : ℕ → ℕ → Bool → Said → Bool
replayed_after n i before (Replayed shard moment places texts) = ((shard == n) && holds places i) || before
replayed_after n i before _ = before

-- a payload of kind 7 names the place
abbrev pub replayed_said : List Said → ℕ → ℕ → Bool
replayed_said [] n i = false
replayed_said (s ∷ h) n i = replayed_after n i (replayed_said h n i) s

abbrev pub deletion_after : ℕ → Option KeptFate → Said → Option KeptFate
deletion_after i before (Deleted fate moment places texts) = option_or (option_map (fate_kept fate) (text_named places texts i)) before
deletion_after i before _ = before

-- the deletion of a message, with its text: from the last payload of kind 3 that names its place
abbrev pub deletion_said : List Said → ℕ → Option KeptFate
deletion_said [] i = None
deletion_said (s ∷ h) i = deletion_after i (deletion_said h i) s

-- bad payloads

abbrev pub fate_text : Option KeptFate → Option (List ℕ)
fate_text None = None
fate_text (Some kept) = Some kept.text

abbrev pub tries_text : Option KeptTries → Option (List ℕ)
tries_text None = None
tries_text (Some kept) = Some kept.text

-- another text was kept
abbrev pub differs : Option (List ℕ) → List ℕ → Bool
differs None text = false
differs (Some kept) text = not (pointwise nat_eq kept text)

-- one of the places with their texts fails the test
abbrev pub any_named : (ℕ → List ℕ → Bool) → List ℕ → List (List ℕ) → Bool
any_named fails [] texts = false
any_named fails (place ∷ places) [] = false
any_named fails (place ∷ places) (text ∷ texts) = fails place text || any_named fails places texts

abbrev pub is_failure : Fate → Bool
is_failure Succeeded = false
is_failure Filtered = false
is_failure Expired = true
is_failure Exhausted = true

-- there is a fate, and it is that of a record that failed for good
abbrev pub has_failed : Option KeptFate → Bool
has_failed None = false
has_failed (Some kept) = is_failure kept.fate

-- what is known of records and messages when a payload is judged
pub record Known : Type 0 where
  pub fates : ℕ → ℕ → Option KeptFate
  pub tries : ℕ → ℕ → Option KeptTries
  pub replays : ℕ → ℕ → Bool
  pub deletions : ℕ → Option KeptFate

-- by a history
abbrev pub known : List Said → Known
known h = record { fates = fate_said h; tries = tries_said h; replays = replayed_said h; deletions = deletion_said h }

-- the text with which a place of the shard was named before
abbrev pub known_text : Known → ℕ → ℕ → Option (List ℕ)
known_text k n i = option_or (fate_text (k.fates n i)) (tries_text (k.tries n i))

-- the place has a fate, or had another text
abbrev pub is_spent : Known → ℕ → ℕ → List ℕ → Bool
is_spent k n i text = is_some (k.fates n i) || differs (known_text k n i) text

-- the place did not fail for good, was replayed, or had another text
abbrev pub is_no_replay : Known → ℕ → ℕ → List ℕ → Bool
is_no_replay k n i text = not (has_failed (k.fates n i)) || k.replays n i || differs (known_text k n i) text

-- the message was deleted
abbrev pub is_deleted : Known → ℕ → List ℕ → Bool
is_deleted k i text = is_some (k.deletions i)

-- a payload that says this is bad for a book, given what is known
abbrev pub is_bad : Known → Said → Bool
is_bad k (Fates shard fate moment state places texts) = any_named (is_spent k shard) places texts
is_bad k (Tried shard moment tries places texts) = any_named (is_spent k shard) places texts
is_bad k (Replayed shard moment places texts) = any_named (is_no_replay k shard) places texts
is_bad k (Deleted fate moment places texts) = any_named (is_deleted k) places texts
is_bad k _ = false

abbrev pub is_good_said : List Said → Option Said → Bool
is_good_said h None = false
is_good_said h (Some said) = not (is_bad (known h) said)

-- after the history the bytes are a payload, and it is not bad for a book
abbrev pub is_good : List Said → List ℕ → Bool
is_good h payload = is_good_said h (said_of payload)

-- what the payloads say, the newest first
abbrev pub history : List (List ℕ) → List Said
history payloads = filter_map said_of payloads

-- each payload is good after those before it; the newest is first
abbrev pub are_good : List (List ℕ) → Bool
are_good [] = true
are_good (payload ∷ payloads) = are_good payloads && is_good (history payloads) payload
