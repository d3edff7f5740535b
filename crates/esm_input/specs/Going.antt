-- What is kept of an input while it is read. Only this crate's proofs cite this.
use Rattle.std.specs.Prelude.{◌≡◌, ◌≤◌, ◌<◌, ℕ, Bool, true, false, List, [], take, Option, Some, None}
use Rattle.esm_model.specs.declared.config.Start.{Start}
use Rattle.esm_record.specs.declared.error.BadLine.{BadLine}
use Rattle.esm_model.specs.declared.item.Item.{Item}
use Rattle.esm_record.specs.Input.{input_so_far}
use Rattle.esm_model.specs.declared.names.LimitName.{LimitName}
use Rattle.esm_input.specs.Reading.{InputState, IsInput}
use Rattle.esm_input.specs.Counting.{IsCountOf, IsWithin, IsFront, CountsOn}
use Rattle.esm_input.specs.Begun.{kept_from, begun_from}
use Rattle.esm_input.specs.declared.counted.Counted.{Counted}
use Rattle.esm_input.specs.declared.ending.InputEnd.{InputEnd}
use Rattle.esm_input.specs.declared.ending.InputEnd.TheVariants as ends

-- the items of all lines that ended are counted, and so are the shards that have begun; the buffer has room for a piece
pub record IsGoing {S : Type 0} (i : InputState S) (finished : Bool) (c : Counted) (begun : List ℕ) (room : ℕ) : Type 0 where
  pub going : finished ≡ false
  pub within : IsWithin c
  pub counted : IsCountOf c (input_so_far i.kind i.bytes).items
  pub shards : begun ≡ begun_from i.start [] (input_so_far i.kind i.bytes).items
  pub some : 0 < room

-- the state of an input, and what is kept of it while its reading goes on
pub record IsReading {S : Type 0} (faults : S → ℕ) (left : S → Option (List ℕ)) (i : InputState S) (finished : Bool) (c : Counted) (begun : List ℕ) (room : ℕ) : Type 0 where
  pub few : i.factor ≤ 10
  pub input : IsInput faults left i
  pub count : faults i.found ≤ faults i.source
  pub going : i.end ≡ None → IsGoing i finished c begun room

-- why the reading ends, if it does: a limit was exceeded, a line is bad, or the source ended
abbrev pub end_by : (whole : Bool) → Option LimitName → Option BadLine → Option InputEnd
end_by whole (Some limit) bad = Some (ends.Limit limit)
end_by whole None (Some bad) = Some (ends.BadLine bad)
end_by true None None = Some ends.End
end_by false None None = None

-- what a piece does: its first `count` items are within the limits and are counted, and those from the start on are kept
pub record IsTaken (factor : ℕ) (start : Start) (whole : Bool) (old new : Counted) (begun now : List ℕ) (items : List Item) (bad : Option BadLine) (kept : List Item) (end : Option InputEnd) : Type 0 where
  pub count : ℕ
  pub limit : Option LimitName
  pub limited : IsFront factor old items count limit
  pub all : limit ≡ None → take count items ≡ items
  pub counted : limit ≡ None → CountsOn old new items
  pub gives : kept ≡ kept_from start begun (take count items)
  pub begins : now ≡ begun_from start begun (take count items)
  pub ends : end ≡ end_by whole limit bad
