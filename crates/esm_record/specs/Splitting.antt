-- What a reader of lines keeps of what it has read. Only this crate's proofs cite this.
use Rattle.std.specs.Prelude.{◌≡◌, ℕ, ◌≤◌, List, [], ◌++◌, length, IsNone}
use Rattle.esm_model.specs.declared.item.Item.{Item}
use Rattle.esm_record.specs.declared.splitter.Splitter.{Splitter}
use Rattle.esm_model.specs.declared.limits.TheConstants.{MAX_LINE}
use Rattle.esm_record.specs.Input.{Input, lines_of, begun, input_so_far}
use Rattle.esm_record.specs.Seen.{Follows}

-- the reader stands at the end of this input, whose items are those before the call and the call's
pub record Stands (input : Input) (before given : List Item) (r : Splitter) : Type 0 where
  pub items : input.items ≡ before ++ given
  pub bad : input.bad ≡ r.bad
  pub lines : IsNone r.bad → input.lines ≡ r.good
  pub seen : IsNone r.bad → Follows input.items r.seen

-- the reader was fed these bytes
pub record HasRead (bytes : List ℕ) (before given : List Item) (r : Splitter) : Type 0 where
  pub stands : Stands (input_so_far r.kind bytes) before given r
  pub line : IsNone r.bad → begun (lines_of bytes) ≡ r.begun.items
  pub short : IsNone r.bad → length r.begun.items ≤ MAX_LINE

abbrev pub IsFed : List ℕ → Splitter → Type 0
IsFed bytes r = HasRead bytes [] (input_so_far r.kind bytes).items r
