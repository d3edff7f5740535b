-- The shorter list of payloads that says the same as a list. This product's own.
use Rattle.std.specs.Prelude.{ℕ, ◌≡◌, ◌==◌, max, ◌&&◌, List, [], ◌∷◌, ◌++◌, map, Option, Some, None, if◌then◌else◌}
use Rattle.std.specs.List.Sorted.{IsStrictlySortedBy}
use Rattle.std.specs.Map.{lookup, keys_of}
use Rattle.std.specs.BTreeMap.{is_at}
use Rattle.std.specs.declared.cmp.Ordering.{Ordering}
use Rattle.esm_model.specs.declared.entry.Fate.{Fate}
use Rattle.esm_model.specs.declared.entry.Fate.TheVariants.{Succeeded, Filtered, Expired, Exhausted}
use Rattle.esm_journal_state.specs.declared.kept.KeptFate.{KeptFate}
use Rattle.esm_journal_state.specs.declared.kept.KeptTries.{KeptTries}
use Rattle.esm_journal_record.specs.declared.said.Said.{Said}
use Rattle.esm_journal_record.specs.declared.said.Said.TheVariants.{Fates, Closed, Deleted, State, Tried, WindowTried, Replayed}
use Rattle.esm_journal_record.specs.Payload.{fate_byte}
use Rattle.esm_journal_state.specs.SaidLists.{pair_cmp}
use Rattle.esm_journal_state.specs.Pieces.{Piece, Key, Entry, key_cmp, pieces}
use Rattle.esm_journal_state.specs.Meaning.{fate_said, tries_said, state_said, window_tries_said, replayed_said, deletion_said, fate_text}

-- moments

abbrev pub moment_of : Said → ℕ
moment_of (Fates shard fate moment state places texts) = moment
moment_of (Closed shard window moment) = moment
moment_of (Deleted fate moment places texts) = moment
moment_of (State shard moment state) = moment
moment_of (Tried shard moment tries places texts) = moment
moment_of (WindowTried shard window moment tries) = moment
moment_of (Replayed shard moment places texts) = moment

-- the greatest moment of the history, or 0
abbrev pub greatest_moment : List Said → ℕ
greatest_moment [] = 0
greatest_moment (s ∷ h) = max (greatest_moment h) (moment_of s)

-- what is listed

-- the entries are in order, and have what the look-up finds
pub record IsListing {K X : Type 0} (cmp : K → K → Ordering) (es : List (K × X)) (look : K → Option X) : Type 0 where
  pub order : IsStrictlySortedBy cmp (keys_of es)
  pub has : (q : K) → lookup (is_at (cmp q)) es ≡ look q

-- the text of a fate with this byte
abbrev pub fate_text_of : Option KeptFate → ℕ → Option (List ℕ)
fate_text_of None b = None
fate_text_of (Some kept) b = if fate_byte kept.fate == b then Some kept.text else None

-- the text of tries with this number
abbrev pub tries_text_of : Option KeptTries → ℕ → Option (List ℕ)
tries_text_of None b = None
tries_text_of (Some kept) b = if kept.tries == b then Some kept.text else None

-- fates by shard, fate and place; tries by shard, number and place; replays by shard and place; deletions by fate and place
abbrev pub fates_look : List Said → Key → Option (List ℕ)
fates_look h q = fate_text_of (fate_said h q.0.0 q.1) q.0.1

abbrev pub tries_look : List Said → Key → Option (List ℕ)
tries_look h q = tries_text_of (tries_said h q.0.0 q.1) q.0.1

abbrev pub replays_look : List Said → Key → Option (List ℕ)
replays_look h q = if replayed_said h q.0.0 q.1 && (q.0.1 == 0) then fate_text (fate_said h q.0.0 q.1) else None

abbrev pub deletions_look : List Said → Key → Option (List ℕ)
deletions_look h q = if q.0.0 == 0 then fate_text_of (deletion_said h q.1) q.0.1 else None

-- what is said of them

abbrev pub fate_from : ℕ → Fate
fate_from b = if b == 1 then Succeeded else (if b == 2 then Filtered else (if b == 3 then Expired else Exhausted))

abbrev pub fates_of : ℕ → Piece → Said
fates_of m p = Fates p.group.0 (fate_from p.group.1) m None p.places p.texts

abbrev pub tried_of : ℕ → Piece → Said
tried_of m p = Tried p.group.0 m p.group.1 p.places p.texts

abbrev pub replayed_of : ℕ → Piece → Said
replayed_of m p = Replayed p.group.0 m p.places p.texts

abbrev pub deleted_of : ℕ → Piece → Said
deleted_of m p = Deleted (fate_from p.group.1) m p.places p.texts

abbrev pub state_of_window : ℕ → (ℕ × ℕ) × List ℕ → Said
state_of_window m e = State e.0.0 m (record { window = e.0.1; text = e.1 })

abbrev pub tried_of_window : ℕ → (ℕ × ℕ) × ℕ → Said
tried_of_window m e = WindowTried e.0.0 e.0.1 m e.1

-- the shorter list, the oldest first: kinds 1, 5, 7, 4, 6 and 3, each in order, with the greatest moment
pub record IsCompacted (h saids : List Said) : Type 0 where
  pub fates : List Entry
  pub fates_listed : IsListing key_cmp fates (fates_look h)
  pub tries : List Entry
  pub tries_listed : IsListing key_cmp tries (tries_look h)
  pub replays : List Entry
  pub replays_listed : IsListing key_cmp replays (replays_look h)
  pub states : List ((ℕ × ℕ) × List ℕ)
  pub states_listed : IsListing pair_cmp states (λ q. state_said h q.0 q.1)
  pub window_tries : List ((ℕ × ℕ) × ℕ)
  pub window_tries_listed : IsListing pair_cmp window_tries (λ q. window_tries_said h q.0 q.1)
  pub deletions : List Entry
  pub deletions_listed : IsListing key_cmp deletions (deletions_look h)
  pub parts : saids
      ≡ map (fates_of (greatest_moment h)) (pieces fates)
      ++ map (tried_of (greatest_moment h)) (pieces tries)
      ++ map (replayed_of (greatest_moment h)) (pieces replays)
      ++ map (state_of_window (greatest_moment h)) states
      ++ map (tried_of_window (greatest_moment h)) window_tries
      ++ map (deleted_of (greatest_moment h)) (pieces deletions)

-- two histories say the same of each place and each window
pub record SameSaid (g h : List Said) : Type 0 where
  pub fates : (n i : ℕ) → fate_said g n i ≡ fate_said h n i
  pub tries : (n i : ℕ) → tries_said g n i ≡ tries_said h n i
  pub states : (n w : ℕ) → state_said g n w ≡ state_said h n w
  pub window_tries : (n w : ℕ) → window_tries_said g n w ≡ window_tries_said h n w
  pub replays : (n i : ℕ) → replayed_said g n i ≡ replayed_said h n i
  pub deletions : (i : ℕ) → deletion_said g i ≡ deletion_said h i
