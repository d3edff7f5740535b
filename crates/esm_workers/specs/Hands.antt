-- What hands are before and after their work, and what the book then says of it. Only this crate's proofs cite this.
use Rattle.std.specs.Prelude.{◌≡◌, ◌⊎◌, ◌+◌, ◌<◌, ◌≤◌, ◌++◌, ℕ, Bool, true, false, List, [], length, slice_index_or, Option}
use Rattle.esm_io.specs.declared.caller.Caller.{Ghosts as Caller}
use Rattle.esm_io.specs.declared.clock.Clock.{Ghosts as Clock}
use Rattle.esm_io.specs.Told.{Grows}
use Rattle.esm_model.specs.declared.book.Change.{Change}
use Rattle.esm_model.specs.declared.book.Job.{Job}
use Rattle.esm_model.specs.declared.called.Called.{Called}
use Rattle.esm_model.specs.declared.kept.Kept.{Ghosts as Kept}
use Rattle.esm_model.specs.declared.setup.Setup.{Setup}
use Rattle.esm_model.specs.declared.setup.Told.{Told}
use Rattle.esm_model.specs.Books.{entries_told}
use Rattle.esm_model.specs.Entries.{is_shut}
use Rattle.esm_model.specs.Kept.{IsLegal, entries_of}
use Rattle.esm_model.specs.declared.pooled.Pooled.{Ghosts as Pooled}
use Rattle.esm_model.specs.GoingOn.{AllGiven, OthersFollow, OwnFollowShut}
use Rattle.esm_turn.specs.Seats.{TurnView, SeatView, AreBegun}
use Rattle.esm_workers.specs.Seated.{IsSeated}
use Rattle.esm_workers.specs.Working.{Outside, outside, HasLogged, HasEnded}
use Rattle.esm_workers.specs.declared.hand.Hand.{Hand}
use Rattle.esm_workers.specs.Shared.{HaveCalled}

-- the meanings of batchers and callers over one kind of book
pub record Meanings (F : Type 0) : Type 1 where
  pub author : Setup → List Told → Told → ℕ
  pub may_follow : Setup → List Told → Told → Type 0
  pub calls : Setup → (List ℕ → List ℕ) → List Told → ℕ → List Called
  pub rests : Setup → List Told → ℕ → Type 0
  pub runs : Setup → List Told → ℕ → Job → Type 0
  pub finished : Setup → List Told → ℕ → Type 0
  pub spent : Setup → List Told → Type 0
  pub outside : Outside F

-- the meanings of a book, a clock and callers, by the members of their traits
abbrev pub meanings : {T C F : Type 0} → Kept T → Pooled T → Clock C → Caller F → Meanings F
meanings kept pooled clock caller = record { author = kept.author; may_follow = kept.may_follow; calls = pooled.calls; rests = pooled.rests; runs = pooled.runs; finished = pooled.finished; spent = pooled.spent; outside = outside clock.gave caller.sends caller.log }

-- the hand of batcher k before its work: its seat has added nothing
pub record IsReady {T F : Type 0} (m : Meanings F) (t : TurnView) (k : ℕ) (h : Hand T F) : Type 0 where
  pub seated : IsSeated m.author m.may_follow m.outside.gave t (k + 1) h.seat
  pub unused : h.seat.mine ≡ []

-- these are hands of batchers, in the order of their numbers
abbrev pub AreReady : {T F : Type 0} → Meanings F → TurnView → List (Hand T F) → Type 0
AreReady {T} {F} m t hands = (k : ℕ) (d : Hand T F) → k < length hands → IsReady m t k (slice_index_or hands k d)

-- The caller of batcher k went from f to g, by what its seat has seen.
pub record HasCalled {F : Type 0} (m : Meanings F) (setup : Setup) (k : ℕ) (seen : List Told) (short : Bool) (f g : F) : Type 0 where
  pub rest : short ≡ false → m.rests setup seen k
  pub called : short ≡ false → Grows (m.outside.log f) (m.outside.log g) (m.calls setup m.outside.sends seen k)
  pub logged : HasLogged (m.runs setup seen k) setup m.outside.sends (m.calls setup m.outside.sends seen k) (m.outside.log f) (m.outside.log g)

-- what the hand of batcher k has done, and why it ended, by what its seat has seen
pub record HasWorked {T F : Type 0} (m : Meanings F) (t : TurnView) (k : ℕ) (before after : Hand T F) : Type 0 where
  pub seated : IsSeated m.author m.may_follow m.outside.gave t (k + 1) after.seat
  pub did : HasCalled m t.setup k after.seat.seen after.short before.caller after.caller
  pub later : is_shut (entries_told before.seat.seen) ≡ true → OwnFollowShut (m.author t.setup) (k + 1) [] after.seat.seen
  pub ended : after.short ≡ false → HasEnded m.finished m.spent t.setup k after.seat

-- the first `count` hands have worked, and the others are as they were
pub record HaveWorked {T F : Type 0} (m : Meanings F) (t : TurnView) (count : ℕ) (before after : List (Hand T F)) : Type 0 where
  pub as_many : length after ≡ length before
  pub worked : (k : ℕ) (d : Hand T F) → k < count → HasWorked m t k (slice_index_or before k d) (slice_index_or after k d)
  pub idle : (k : ℕ) (d : Hand T F) → count ≤ k → slice_index_or after k d ≡ slice_index_or before k d

-- memory ran out for none of these hands
abbrev pub AreLong : {T F : Type 0} → List (Hand T F) → Type 0
AreLong {T} {F} hands = (k : ℕ) (d : Hand T F) → k < length hands → (slice_index_or hands k d).short ≡ false

-- the history continues after what was seen with entries of other authors than n
pub record GoesOnFrom (author : Setup → List Told → Told → ℕ) (may_follow : Setup → List Told → Told → Type 0) (setup : Setup) (n : ℕ) (seen h : List Told) : Type 0 where
  pub rest : List Told
  pub whole : h ≡ seen ++ rest
  pub others : OthersFollow author may_follow setup n seen rest

-- these are the seats of a turn that was made over a legal history without an entry of a batcher, and over the change
pub record HasBegun {F : Type 0} (m : Meanings F) (t : TurnView) (h : List Told) (change : Option Change) (seats : List SeatView) : Type 0 where
  pub begun : AreBegun m.author h change t seats
  pub legal : IsLegal (m.may_follow t.setup) h
  pub given : AllGiven m.outside.gave [] h
  pub unused : (n : ℕ) → 0 < n → entries_of (m.author t.setup) n h ≡ []

-- What the book says of its batchers, of which `batchers` have worked: its history is h, and their callers went from old to
-- new.
pub record TellsOf {F : Type 0} (m : Meanings F) (setup : Setup) (batchers : ℕ) (h : List Told) (mark short : Bool) (old new : List F) : Type 0 where
  pub legal : IsLegal (m.may_follow setup) h
  pub moments : AllGiven m.outside.gave [] h
  pub called : HaveCalled m.calls m.rests m.runs m.outside setup h short batchers old new
  pub ended : short ≡ false → mark ≡ false → (k : ℕ) → k < batchers → m.finished setup h k ⊎ m.spent setup h
