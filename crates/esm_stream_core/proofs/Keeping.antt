-- What is true of a core's view stays true, whatever becomes of it.
use Rattle.std.proofs.Common.{◌≡◌, ℕ, ◌<◌, List, [], ◌∷◌, reverse, length, refl, sym, subst}
use Rattle.esm_model.specs.declared.config.Config.{Config}
use Rattle.esm_model.specs.declared.entry.Entry.{Entry}
use Rattle.esm_model.specs.Setting.{Setting, Stream}
use Rattle.esm_model.specs.Entries.{came_count}
use Rattle.esm_model.proofs.Lists.{Distinct}
use Rattle.esm_filter.specs.Criteria.{JudgesRecords}
use Rattle.esm_filter.specs.declared.criteria.Criteria.{Criteria}
use Rattle.esm_journal_state.specs.SaidLists.{SaidLists}
use Rattle.esm_ledger.specs.Ledger.{opened_with}
use Rattle.esm_ingest.specs.Entries.{part_entries}
use Rattle.esm_ingest.specs.Parts.{Part, parts_of}
use Rattle.esm_ingest.proofs.Places.{shards, IsPartOf, every_map, parts_are, parts_distinct}
use Rattle.esm_stream_core.specs.Calls.{streams_of}
use Rattle.esm_stream_core.specs.CoreView.{CoreView, new_view, owing, setting_after, paid, forgotten, noted, noted_shut}
use Rattle.esm_stream_core.specs.Gathered.{MayBring}
use Rattle.esm_stream_core.specs.declared.stream_core.StreamCore.TheInside.{Inside}
use Rattle.esm_stream_core.specs.Inside.{view_of, BringsNone, BringAll, IsAccounted, IsCore}
use Rattle.esm_stream_core.specs.Kept.{IsKept}
use Rattle.esm_stream_core.proofs.Bringing.{StartNext, stays_over, told_alone, told_paid, brought_paid, brought_over, brought_parts}

-- the parts of a list that comes, one after the other
pub brought_arrival : (s : Setting) (h : List Entry) (ps : List Part) (m : ℕ) → MayBring s h ps m → BringAll h (streams_of ps) (part_entries m ps)
brought_arrival s h ps m may =
    let items = may.items in
    let starts : StartNext h (parts_of s h items) = every_map (IsPartOf s h items) (λ (p : Part). p.first ≡ came_count h p.shard) (parts_of s h items) (λ p member of. of.first) (parts_are s h items) in
    brought_parts h m ps (subst (λ (qs : List Part). Distinct (shards qs)) (sym may.parts) (parts_distinct s h items)) (subst (StartNext h) (sym may.parts) starts)

-- where no record came
pub accounts_new : (q : Criteria) (config : Config) (calls : ℕ) (found : SaidLists) → JudgesRecords config.kind config.filters q → IsAccounted q (new_view (opened_with config calls found))
accounts_new q config calls found judges = record { judges = judges; told = record { shards = refl; counted = λ n. refl; go_on = tt }; brought = tt }

-- where so much is owed
pub accounts_owing : (q : Criteria) (v : CoreView) (coming : List Stream) (es : List Entry) → IsAccounted q v → BringAll v.past coming es → IsAccounted q (owing v coming es)
accounts_owing q v coming es all brought = record { judges = all.judges; told = all.told; brought = brought }

-- where nothing is owed any more
pub accounts_forgotten : (q : Criteria) (v : CoreView) → IsAccounted q v → IsAccounted q (forgotten v)
accounts_forgotten q v all = record { judges = all.judges; told = all.told; brought = tt }

judges_after : (s : Setting) (parts : List Stream) (q : Criteria) → JudgesRecords s.config.kind s.config.filters q → JudgesRecords (setting_after s parts).config.kind (setting_after s parts).config.filters q
judges_after s [] q judges = judges
judges_after s (p ∷ parts) q judges = judges

-- where the first owed entry was added
pub accounts_paid : (q : Criteria) (v : CoreView) → 0 < length v.owed → IsAccounted q v → IsAccounted q (paid v)
accounts_paid q v some all = record {
  judges = judges_after v.setting v.coming q all.judges;
  told = told_paid v.setting v.past v.coming v.owed some all.brought all.told;
  brought = brought_paid v.past v.coming v.owed some all.brought;
}

-- where an entry was added that brings no records
pub accounts_noted : (q : Criteria) (v : CoreView) (e : Entry) → BringsNone e → IsAccounted q v → IsAccounted q (noted v e)
accounts_noted q v e none all = record {
  judges = all.judges;
  told = told_alone v.setting v.past e none all.told;
  brought = brought_over v.past (e ∷ v.past) v.coming v.owed (stays_over v.past e none).counted all.brought;
}

-- and where it is the end of the input
pub accounts_shut : (q : Criteria) (v : CoreView) (e : Entry) → BringsNone e → IsAccounted q v → IsAccounted q (noted_shut v e)
accounts_shut q v e none all = let over = accounts_noted q v e none all in record { judges = over.judges; told = over.told; brought = over.brought }

-- a core that is seen so
pub record IsCoreOf (v : CoreView) (y : Inside) : Type 0 where
  pub core : IsCore y
  pub is : view_of y ≡ v

pub core_of : (v : CoreView) (y : Inside) → IsKept y.ledger (reverse y.coming.items) (reverse y.owed.items) y.standing → view_of y ≡ v → IsAccounted y.criteria v → IsCoreOf v y
core_of v y kept is all = record { core = record { kept = kept; seen = subst (IsAccounted y.criteria) (sym is) all }; is = is }
