-- What a core means, as one value, so that a contract takes one argument for it. This product's own.
use Rattle.std.specs.Prelude.{ℕ, List, Option}
use Rattle.esm_book.specs.declared.decisions.Decisions.{Ghosts as Decisions}

-- a core's history, newest entry first; what it owes, oldest first; and what an entry has in the journal and at the
-- destination
pub record CoreMeaning (C E : Type 0) : Type 1 where
  pub history : C → List E
  pub owed : C → List E
  pub payload : E → Option (List ℕ)
  pub line : E → Option (List ℕ)

-- by the members of its trait
abbrev pub decisions : {C O E Q A : Type 0} → Decisions C O E Q A → CoreMeaning C E
decisions members = record { history = members.history; owed = members.owed; payload = members.payload; line = members.line }
