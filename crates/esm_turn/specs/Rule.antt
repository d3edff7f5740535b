-- The rule of the turn, and what each step of it says. This product's own.
use Rattle.std.specs.Prelude.{◌≡◌, ◌≢◌, ℕ, ◌+◌, ◌*◌, ◌<◌, ◌≤◌, if◌then◌else◌, Bool, true, false, List, [], ◌∷◌, ◌++◌, length, Option, None, Some}
use mathlib.Core.List.{IsPrefix}
use mathlib.Core.Option.{none, some}
use lib.ListN.{get_elem?}
use Rattle.atomic_table.specs.Table.{State, Me, Step}
use Rattle.esm_model.specs.declared.book.Change.{Change}
use Rattle.esm_model.specs.declared.setup.Told.{Told}
use Rattle.esm_model.specs.declared.setup.Setup.{Setup}
use Rattle.esm_model.specs.Kept.{Meaning, entries_of, IsLegal, added}
use Rattle.esm_turn.specs.declared.part.Part.{Part}
use Rattle.esm_turn.specs.Parts.{Each}

-- 1 if a seat has the value; the holder is its number
abbrev pub out_bit : Option ℕ → ℕ
out_bit None = 0
out_bit (Some n) = 1

-- 4 times the length of the history, plus 2 if the mark is true, plus 1 if the value is out
abbrev pub word_of : List Told → Bool → Option ℕ → ℕ
word_of log mark holder = length log * 4 + (if mark then 2 else 0) + out_bit holder

module _ {T : Type 0} (m : Meaning T) (setup : Setup) where
  -- What part p, which is in view j, knows fits the history `log`, the mark, the change and the holder. Each number's part
  -- is in exactly one view, and `view_of` says in which.
  pub record FitsPart (seats : ℕ) (log : List Told) (mark : Bool) (change : Option Change) (holder : Option ℕ) (view_of : ℕ → ℕ) (j : ℕ) (p : Part) : Type 0 where
    pub setup_is : p.setup ≡ setup
    pub seated : p.number < seats
    pub in_view : view_of p.number ≡ j
    pub seen : IsPrefix p.seen log
    pub marked : p.mark ≡ true → mark ≡ true
    pub told : p.number ≡ 0 → p.change ≡ change
    pub mine : entries_of (m.author setup) p.number log ≡ p.mine
    pub holding : p.holds ≡ true → (holder ≡ Some p.number) × (p.seen ≡ log) × (p.mark ≡ mark) × (p.change ≡ change)
    pub idle : p.holds ≡ false → holder ≢ Some p.number

  -- the value has this setup, history, mark and change
  pub record IsAt (log : List Told) (mark : Bool) (change : Option Change) (x : T) : Type 0 where
    pub setup_is : m.setup x ≡ setup
    pub history_is : m.history x ≡ log
    pub mark_is : m.mark x ≡ mark
    pub change_is : m.change x ≡ change

  -- the value is at home, or out with one of the seats
  abbrev pub IsHomeOrOut : ℕ → List Told → Bool → Option Change → Option ℕ → List (mathlib.Core.Option.Option (Option T)) → Type 0
  IsHomeOrOut seats log mark change None homes = (x : T) × (homes ≡ some (Some x) ∷ []) × IsAt log mark change x
  IsHomeOrOut seats log mark change (Some n) homes = (n < seats) × (homes ≡ none ∷ [])

  -- Between any two steps, the value has a history, a mark, a change and a holder that each seat's part fits; the word
  -- encodes all of them except the change
  pub record IsKept (seats : ℕ) (s : State (Option T) (List Part)) : Type 0 where
    pub log : List Told
    pub mark : Bool
    pub change : Option Change
    pub holder : Option ℕ
    pub view_of : ℕ → ℕ
    pub words : s.words ≡ word_of log mark holder ∷ []
    pub home : IsHomeOrOut seats log mark change holder s.homes
    pub legal : IsLegal (m.may_follow setup) log
    pub others : (n : ℕ) → seats ≤ n → entries_of (m.author setup) n log ≡ []
    pub each : (j : ℕ) (v : List Part) → get_elem? s.views j ≡ some v → Each (FitsPart seats log mark change holder view_of j) v

-- the part of a seat that has taken the value with this history, mark and change
abbrev pub found_by : Part → List Told → Bool → Option Change → Part
found_by p log mark change = record p { seen = log; mark = mark; change = change; holds = true }

-- the part of a seat that has given the value back with this history, mark and change
abbrev pub given_by : Part → List Told → Bool → Option Change → Part
given_by p log mark change = record p { seen = log; mine = p.mine ++ added p.seen log; mark = mark; change = change; holds = false }

module _ {T : Type 0} (m : Meaning T) where
  -- what a seat knows of a value that it has taken
  pub record IsTaken (p : Part) (x : T) : Type 0 where
    pub setup_is : m.setup x ≡ p.setup
    pub legal : IsLegal (m.may_follow p.setup) (m.history x)
    pub begins : IsPrefix p.seen (m.history x)
    pub mine : entries_of (m.author p.setup) p.number (m.history x) ≡ p.mine
    pub marked : p.mark ≡ true → m.mark x ≡ true
    pub told : p.number ≡ 0 → m.change x ≡ p.change

  -- if the word was the one that was read, the seat has the value; otherwise it is as before
  abbrev pub Took : Step (Option T) → Me (Option T) (List Part) → ℕ → Me (Option T) (List Part) → Type 0
  Took st before n after =
      (n ≡ st.first → (p : Part) → before.0 ≡ p ∷ []
      → (x : T) × IsTaken p x × (after ≡ (found_by p (m.history x) (m.mark x) (m.change x) ∷ [], (0, Some x) ∷ [])))
      × (n ≢ st.first → after ≡ before)

  -- the seat has given the value back
  abbrev pub Gave : Me (Option T) (List Part) → Me (Option T) (List Part) → Type 0
  Gave before after = (p : Part) (x : T) → before ≡ (p ∷ [], (0, Some x) ∷ []) → after ≡ (given_by p (m.history x) (m.mark x) (m.change x) ∷ [], [])
