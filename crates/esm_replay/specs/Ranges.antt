-- How ranges are ordered and widened, so that one is found by its start. Only this crate's proofs cite this.
use Rattle.std.specs.Prelude.{◌≡◌, ℕ, ◌-◌, ◌==◌, false, true, not, ◌&&◌, Bool, List, [], ◌∷◌, length, slice_get, Option, Some, None, if◌then◌else◌}
use Rattle.std.specs.Ordering.{nat_cmp, ordering_then, is_lt, is_gt}
use Rattle.std.specs.declared.cmp.Ordering.{Ordering}
use Rattle.esm_model.specs.Sequence.{sequence_order}
use Rattle.esm_replay_model.specs.declared.range.Range.{Range}
use Rattle.esm_replay_model.specs.ReplaySetting.{is_up_to, is_in_ranges}

-- where a range starts: a shard and a sequence number
abbrev pub Start : Type 0
Start = ℕ × List ℕ

abbrev pub start_of : Range → Start
start_of r = (r.shard, r.first)

abbrev pub start_cmp : Start → Start → Ordering
start_cmp x y = ordering_then (nat_cmp x.0 y.0) (sequence_order x.1 y.1)

-- the first range starts before the second
abbrev pub starts_before : Range → Range → Bool
starts_before a b = is_lt (start_cmp (start_of a) (start_of b))

-- the range starts there or before
abbrev pub starts_by : Start → Range → Bool
starts_by x r = not (is_gt (start_cmp (start_of r) x))

-- ranges that extend as far as those before them

-- the range, extended as far as the one before it if that is of the same shard
abbrev pub reaching : Option Range → Range → Range
reaching None r = r
reaching (Some before) r = if (before.shard == r.shard) && not (is_up_to before.last r.last) then record r { last = before.last } else r

abbrev pub all_reaching : Option Range → List Range → List Range
all_reaching before [] = []
all_reaching before (r ∷ rs) = reaching before r ∷ all_reaching (Some (reaching before r)) rs

-- the last range
abbrev pub last_range : List Range → Option Range
last_range rs = slice_get rs (length rs - 1)

-- the range starts no later than any after it
abbrev pub StartsAll : Range → List Range → Type 0
StartsAll a [] = Unit {0}
StartsAll a (b ∷ rs) = (starts_before b a ≡ false) × StartsAll a rs

abbrev pub AllStart : List Range → Type 0
AllStart [] = Unit {0}
AllStart (r ∷ rs) = StartsAll r rs × AllStart rs

-- the first range starts no later, and in the same shard extends no farther
pub record Leads (a b : Range) : Type 0 where
  pub start : starts_before b a ≡ false
  pub reach : a.shard ≡ b.shard → is_up_to a.last b.last ≡ true

-- the range leads all after it
abbrev pub LeadsAll : Range → List Range → Type 0
LeadsAll a [] = Unit {0}
LeadsAll a (b ∷ rs) = Leads a b × LeadsAll a rs

abbrev pub AllLead : List Range → Type 0
AllLead [] = Unit {0}
AllLead (r ∷ rs) = LeadsAll r rs × AllLead rs

-- both lists hold the same records
abbrev pub HoldAlike : List Range → List Range → Type 0
HoldAlike rs qs = (n : ℕ) (seq : List ℕ) → is_in_ranges rs n seq ≡ is_in_ranges qs n seq
