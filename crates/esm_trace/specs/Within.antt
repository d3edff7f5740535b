-- Entries that a run can have: numbers within their types, the lane of a fate in the shard of its records, and no shard that
-- the source cannot have. This product's own.
use Rattle.std.specs.Prelude.{◌≡◌, ℕ, ◌<◌, ◌≤◌, ◌^◌, All, IfSome}
use Rattle.base64.specs.GeneralPurpose.{IsBytes}
use Rattle.esm_model.specs.declared.limits.TheConstants.{MAX_SHARD}
use Rattle.esm_model.specs.declared.config.Kind.{Kind}
use Rattle.esm_model.specs.declared.config.Kind.TheVariants.{Stream, Standard, Fifo}
use Rattle.esm_model.specs.declared.lane.LaneId.{LaneId}
use Rattle.esm_model.specs.declared.entry.Reply.{Reply}
use Rattle.esm_model.specs.declared.entry.Reply.TheVariants.{Answered, Garbled, Lost}
use Rattle.esm_model.specs.declared.entry.WindowState.{WindowState}
use Rattle.esm_model.specs.declared.entry.Entry.{Entry}
use Rattle.esm_model.specs.declared.entry.Entry.TheVariants.{Came, Began, Ended, Gave, Tried, Closed, Replayed, Shut}
use Rattle.esm_model.specs.Entries.{moment_of}

-- a number of 64 bits
abbrev pub IsNumber : ℕ → Type 0
IsNumber n = n < 2 ^ 64

-- a stream's shard has a number of twelve digits, and a queue is the shard 0
abbrev pub IsShard : Kind → ℕ → Type 0
IsShard Stream shard = shard ≤ MAX_SHARD
IsShard Standard shard = shard ≡ 0
IsShard Fifo shard = shard ≡ 0

pub record IsLane (kind : Kind) (l : LaneId) : Type 0 where
  pub shard : IsShard kind l.shard
  pub lane : IsNumber l.lane

-- the lane that gives a fate to records of the shard
pub record IsLaneOf (n : ℕ) (l : LaneId) : Type 0 where
  pub shard : l.shard ≡ n
  pub lane : IsNumber l.lane

-- its bytes are bytes, and its status is a number of 64 bits
abbrev pub IsReply : Reply → Type 0
IsReply (Answered status error body) = IsNumber status × IsBytes body
IsReply (Garbled bytes) = IsBytes bytes
IsReply Lost = Unit {0}

pub record IsState (state : WindowState) : Type 0 where
  pub window : IsNumber state.window
  pub text : IsBytes state.text

-- the entry's fields besides its moment
abbrev pub HasFields : Kind → Entry → Type 0
HasFields kind (Came shard first count moment) = IsShard kind shard × IsNumber first × IsNumber count
HasFields kind (Began lane places closing moment) = IsLane kind lane × All IsNumber places × IfSome closing IsNumber
HasFields kind (Ended lane reply moment) = IsLane kind lane × IsReply reply
HasFields kind (Gave by shard places fate line state moment) = IsShard kind shard × IfSome by (IsLaneOf shard) × All IsNumber places × IfSome state IsState
HasFields kind (Tried lane places closing tries moment) = IsLane kind lane × All IsNumber places × IsNumber tries × IfSome closing IsNumber
HasFields kind (Closed lane window moment) = IsLane kind lane × IsNumber window
HasFields kind (Replayed shard places moment) = IsShard kind shard × All IsNumber places
HasFields kind (Shut moment) = Unit {0}

-- an entry of a run over a source of the kind
pub record IsWithin (kind : Kind) (e : Entry) : Type 0 where
  pub moment : IsNumber (moment_of e)
  pub fields : HasFields kind e
