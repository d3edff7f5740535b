-- The view of a core, and what holds of each. Only this crate's proofs cite this.
use Rattle.std.specs.Prelude.{◌≡◌, ℕ, List, [], ◌∷◌, length, map, reverse, ⊤}
use Rattle.esm_model.specs.declared.entry.Entry.{Entry}
use Rattle.esm_model.specs.declared.entry.Entry.TheVariants.{Came}
use Rattle.esm_model.specs.Setting.{Setting, Stream, records_of}
use Rattle.esm_model.specs.Entries.{came_count, shards_that_came}
use Rattle.esm_filter.specs.Criteria.{JudgesRecords}
use Rattle.esm_filter.specs.declared.criteria.Criteria.{Criteria}
use Rattle.esm_ledger.specs.Ledger.{past_of, setting_of}
use Rattle.esm_stream_core.specs.declared.stream_core.StreamCore.TheInside.{Inside}
use Rattle.esm_stream_core.specs.CoreView.{CoreView}
use Rattle.esm_stream_core.specs.Acts.{entries_of, parts_of}
use Rattle.esm_stream_core.specs.Kept.{IsKept}

abbrev pub view_of : Inside → CoreView
view_of c = record { setting = setting_of c.ledger; past = past_of c.ledger; coming = parts_of (reverse c.coming.items); owed = entries_of (reverse c.owed.items); standing = c.standing }

-- the records that came

-- if the entry is a `Came`, its records are the next of their shard
abbrev pub GoesOn : List Entry → Entry → Type 0
GoesOn h (Came shard first count moment) = first ≡ came_count h shard
GoesOn h _ = ⊤

abbrev pub GoOn : List Entry → Type 0
GoOn [] = ⊤
GoOn (e ∷ h) = GoesOn h e × GoOn h

-- the lists are of the shards that came, in their order, and each has as many records as came of its shard
pub record AreTold (s : Setting) (h : List Entry) : Type 0 where
  pub shards : map (λ (t : Stream). t.shard) s.streams ≡ shards_that_came h
  pub counted : (n : ℕ) → came_count h n ≡ length (records_of s n)
  pub go_on : GoOn h

-- the records that are coming

-- the entry is no `Came`
abbrev pub BringsNone : Entry → Type 0
BringsNone (Came shard first count moment) = ⊥
BringsNone _ = ⊤

abbrev pub BringNone : List Entry → Type 0
BringNone [] = ⊤
BringNone (e ∷ es) = BringsNone e × BringNone es

-- the entry is the `Came` of all these records
abbrev pub Brings : List Entry → Stream → Entry → Type 0
Brings h p (Came shard first count moment) = (shard ≡ p.shard) × (first ≡ came_count h shard) × (count ≡ length p.records)
Brings h p _ = ⊥

-- the first of the entries bring the lists one by one, and the others bring none
abbrev pub BringAll : List Entry → List Stream → List Entry → Type 0
BringAll h [] es = BringNone es
BringAll h (p ∷ parts) [] = ⊥
BringAll h (p ∷ parts) (e ∷ es) = Brings h p e × BringAll (e ∷ h) parts es

-- the criteria are those of the mapping's filters, the records are those that came by the history, and those that are
-- coming are brought by what is owed
pub record IsAccounted (q : Criteria) (v : CoreView) : Type 0 where
  pub judges : JudgesRecords v.setting.config.kind v.setting.config.filters q
  pub told : AreTold v.setting v.past
  pub brought : BringAll v.past v.coming v.owed

-- the ledger keeps what the history says, and can add what is owed; and all is accounted for
pub record IsCore (c : Inside) : Type 0 where
  pub kept : IsKept c.ledger (reverse c.coming.items) (reverse c.owed.items) c.standing
  pub seen : IsAccounted c.criteria (view_of c)
