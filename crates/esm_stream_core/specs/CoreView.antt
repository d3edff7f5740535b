-- What contracts see of a core: a stream's history with entries that are decided and not yet added, and what calls make of
-- it. This product's own.
use Rattle.std.specs.Prelude.{◌≡◌, ℕ, Bool, true, false, List, [], ◌∷◌, ◌++◌, reverse, take, drop}
use Rattle.std.specs.List.{filter_map}
use Rattle.esm_model.specs.declared.entry.Entry.{Entry}
use Rattle.esm_model.specs.Setting.{Setting, Stream, over}
use Rattle.esm_model.specs.Books.{entry_line}
use Rattle.esm_journal_record.specs.EntryPayload.{entry_payload}
use Rattle.esm_book.specs.Hand.{FollowsFront}
use Rattle.esm_ledger.specs.Ledger.{LegalOver}
use Rattle.esm_ledger.specs.Coming.{with_list, grown}
use Rattle.esm_outcome.specs.Ending.{SettledOver}
use Rattle.esm_stream_core.specs.declared.standing.Standing.{Standing}
use Rattle.esm_stream_core.specs.declared.standing.Standing.TheVariants.{Whole, Left}
use Rattle.esm_stream_core.specs.Standing.{standing_paid, standing_forgotten, standing_shut}

-- The setting has the records that came; the newest entry of the history is first, and the oldest of the owed ones. For each
-- `Came` that is owed the records of a shard are coming, in the order of these entries, which come before all others that
-- are owed.
pub record CoreView : Type 0 where
  pub setting : Setting
  pub past : List Entry
  pub coming : List Stream
  pub owed : List Entry
  pub standing : Standing

-- a new core: no record came
abbrev pub new_view : Setting → CoreView
new_view s = record { setting = s; past = []; coming = []; owed = []; standing = Whole }

-- the lists of records, with those that are coming appended
abbrev pub with_coming : List Stream → List Stream → List Stream
with_coming streams [] = streams
with_coming streams (p ∷ parts) = with_coming (with_list streams p.shard p.records) parts

-- the setting with all that is coming
abbrev pub setting_with : Setting → List Stream → Setting
setting_with s parts = over s (with_coming s.streams parts)

abbrev pub full_setting : CoreView → Setting
full_setting v = setting_with v.setting v.coming

-- the history with all owed entries on it
abbrev pub ahead : CoreView → List Entry
ahead v = reverse v.owed ++ v.past

-- the history with all that is owed is legal over all lists of records that extend those that came or are coming
abbrev pub LegalAhead : CoreView → Type 0
LegalAhead v = LegalOver (full_setting v) (ahead v)

-- and over all of them nothing is required that is not owed
abbrev pub SettledAhead : CoreView → Type 0
SettledAhead v = SettledOver (full_setting v) (ahead v)

-- the entry may follow the history, or a prefix of it that only ends of calls and of the input follow, over all lists of
-- records that extend the setting's own
abbrev pub MayFollowFront : Setting → List Entry → Entry → Type 0
MayFollowFront s h e = FollowsFront (λ before x. LegalOver s (x ∷ before)) h e

-- the first of these entries may
abbrev pub FirstFollows : Setting → List Entry → List Entry → Type 0
FirstFollows s h es = (e : Entry) → take 1 es ≡ e ∷ [] → MayFollowFront s h e

-- the first owed entry may, which is the one that is being written
abbrev pub HandFollows : CoreView → Type 0
HandFollows v = FirstFollows (full_setting v) v.past v.owed

-- the setting when the next part has come, if one is coming
abbrev pub setting_after : Setting → List Stream → Setting
setting_after s [] = s
setting_after s (p ∷ parts) = grown s p.shard p.records

-- what calls make of it

abbrev pub is_none_left : List Entry → Bool
is_none_left [] = true
is_none_left (e ∷ es) = false

abbrev pub are_left : List Entry → Bool
are_left [] = false
are_left (e ∷ es) = true

-- parts are coming, and entries are owed
abbrev pub owing : CoreView → List Stream → List Entry → CoreView
owing v coming entries = record v { coming = coming; owed = entries }

-- the first owed entry is added, and with it the part that comes, if one is coming
abbrev pub paid : CoreView → CoreView
paid v = record {
  setting = setting_after v.setting v.coming;
  past = take 1 v.owed ++ v.past;
  coming = drop 1 v.coming;
  owed = drop 1 v.owed;
  standing = standing_paid v.standing (are_left (drop 1 v.owed));
}

-- nothing is owed any more
abbrev pub forgotten : CoreView → CoreView
forgotten v = record v { coming = []; owed = []; standing = standing_forgotten v.standing }

-- one more entry is added, and what it requires is not
abbrev pub noted : CoreView → Entry → CoreView
noted v e = record v { past = e ∷ v.past; standing = Left }

-- the end of the input is added, which requires nothing; what is owed then is no longer added
abbrev pub noted_shut : CoreView → Entry → CoreView
noted_shut v e = record v { past = e ∷ v.past; standing = standing_shut v.standing (is_none_left v.owed) }

-- what is written of entries, in their order

-- in the journal, over all that came or is coming
abbrev pub payloads_of : CoreView → List Entry → List (List ℕ)
payloads_of v es = filter_map (entry_payload (full_setting v)) es

-- at the failure destination
abbrev pub lines_of : List Entry → List (List ℕ)
lines_of es = filter_map entry_line es
