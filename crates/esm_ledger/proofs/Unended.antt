-- Calls that began and have not ended.
use Rattle.std.proofs.Common.{◌≡◌, ℕ, suc, ◌≤◌, Bool, true, false, List, [], ◌∷◌, length, refl, sym, ◌∙◌, subst, inl, inr, Option, arith}
use Rattle.std.specs.Prelude.{if◌then◌else◌}
use Rattle.std.specs.List.{list_any}
use Rattle.std.proofs.lemmas.Bool.{cases_Bool, or_parts, or_from}
use Rattle.esm_model.specs.Lane.{same_lane}
use Rattle.esm_model.specs.declared.lane.LaneId.{LaneId}
use Rattle.esm_model.specs.declared.entry.Reply.{Reply}
use Rattle.esm_model.specs.declared.entry.Entry.{Entry}
use Rattle.esm_model.specs.declared.entry.Entry.TheVariants.{Came, Began, Ended, Gave, Tried, Closed, Replayed, Shut}
use Rattle.esm_model.specs.Setting.{Setting}
use Rattle.esm_model.specs.Entries.{is_running, calls_begun}
use Rattle.esm_model.specs.Step.{Legal}
use Rattle.esm_model.proofs.Sound.{same_lane-true}
use Rattle.esm_ledger.specs.Ledger.{unended}

-- no more than began
pub unended_begun : (h : List Entry) → unended h ≤ calls_begun h
unended_begun [] = omega arith
unended_begun (Began lane places closing m ∷ h) = omega (arith, unended_begun h)
unended_begun (Ended lane reply m ∷ h) = omega (arith, unended_begun h)
unended_begun (Came n first count m ∷ h) = unended_begun h
unended_begun (Gave by n places f line state m ∷ h) = unended_begun h
unended_begun (Tried lane places closing t m ∷ h) = unended_begun h
unended_begun (Closed lane w m ∷ h) = unended_begun h
unended_begun (Replayed n places m ∷ h) = unended_begun h
unended_begun (Shut m ∷ h) = unended_begun h

-- lanes that all run are no more than the calls that have not ended

abbrev has : List LaneId → LaneId → Bool
has ls l = list_any (same_lane l) ls

abbrev Apart : List LaneId → Type 0
Apart [] = Unit {0}
Apart (l ∷ ls) = (has ls l ≡ false) × Apart ls

abbrev AllRun : List Entry → List LaneId → Type 0
AllRun h [] = Unit {0}
AllRun h (l ∷ ls) = (is_running h l ≡ true) × AllRun h ls

-- the list without its first such lane
abbrev without : LaneId → List LaneId → List LaneId
without at [] = []
without at (l ∷ ls) = if same_lane at l then ls else l ∷ without at ls

without_length : (at : LaneId) (ls : List LaneId) → length ls ≤ suc (length (without at ls))
without_length at [] = omega arith
without_length at (l ∷ ls) = elim (cases_Bool (same_lane at l)) [
  | inl same ↦ rw same (omega arith)
  | inr off ↦ rw off (omega (arith, without_length at ls))
]

without_has : (at l : LaneId) (ls : List LaneId) → has ls l ≡ false → has (without at ls) l ≡ false
without_has at l [] none = refl
without_has at l (x ∷ ls) none =
    let parts = or_parts (same_lane l x) (has ls l) none in
    elim (cases_Bool (same_lane at x)) [
      | inl same ↦ rw same parts.1
      | inr off ↦ rw off (or_from (same_lane l x) (has (without at ls) l) parts.0 (without_has at l ls parts.1))
    ]

without_apart : (at : LaneId) (ls : List LaneId) → Apart ls → Apart (without at ls)
without_apart at [] apart = tt
without_apart at (l ∷ ls) apart = elim (cases_Bool (same_lane at l)) [
  | inl same ↦ rw same apart.1
  | inr off ↦ rw off (without_has at l ls apart.0, without_apart at ls apart.1)
]

began_others : (at : LaneId) (places : List ℕ) (closing : Option ℕ) (m : ℕ) (h : List Entry) (ls : List LaneId) → has ls at ≡ false → AllRun (Began at places closing m ∷ h) ls → AllRun h ls
began_others at places closing m h [] none run = tt
began_others at places closing m h (l ∷ ls) none run =
    let parts = or_parts (same_lane at l) (has ls at) none in
    let here : is_running h l ≡ true = rw parts.0 at run.0 in
    (here, began_others at places closing m h ls parts.1 run.1)

began_without : (at : LaneId) (places : List ℕ) (closing : Option ℕ) (m : ℕ) (h : List Entry) (ls : List LaneId) → Apart ls → AllRun (Began at places closing m ∷ h) ls → AllRun h (without at ls)
began_without at places closing m h [] apart run = tt
began_without at places closing m h (l ∷ ls) apart run = elim (cases_Bool (same_lane at l)) [
  | inl same ↦ rw same (began_others at places closing m h ls (subst (λ (x : LaneId). has ls x ≡ false) (sym (same_lane-true at l same)) apart.0) run.1)
  | inr off ↦ (
      let here : is_running h l ≡ true = rw off at run.0 in
      rw off (here, began_without at places closing m h ls apart.1 run.1))
]

record StillRun (at : LaneId) (h : List Entry) (ls : List LaneId) : Type 0 where
  run : AllRun h ls
  none : has ls at ≡ false

ended_others : (at : LaneId) (reply : Reply) (m : ℕ) (h : List Entry) (ls : List LaneId) → AllRun (Ended at reply m ∷ h) ls → StillRun at h ls
ended_others at reply m h [] run = record { run = tt; none = refl }
ended_others at reply m h (l ∷ ls) run =
    let rest = ended_others at reply m h ls run.1 in
    elim (cases_Bool (same_lane at l)) [
      | inl same ↦ absurd (let clash : false ≡ true = rw same at run.0 in cc)
      | inr off ↦ (
          let here : is_running h l ≡ true = rw off at run.0 in
          record { run = (here, rest.run); none = or_from (same_lane at l) (has ls at) off rest.none })
    ]

same_run : (e : Entry) (h : List Entry) (ls : List LaneId) → ((l : LaneId) → is_running (e ∷ h) l ≡ is_running h l) → AllRun (e ∷ h) ls → AllRun h ls
same_run e h [] same run = tt
same_run e h (l ∷ ls) same run = (sym (same l) ∙ run.0, same_run e h ls same run.1)

all_run : (s : Setting) (h : List Entry) (ls : List LaneId) → Legal s h → Apart ls → AllRun h ls → length ls ≤ unended h
all_run s [] [] legal apart run = omega arith
all_run s [] (l ∷ ls) legal apart run = absurd (let clash : false ≡ true = run.0 in cc)
all_run s (Began at places closing m ∷ h) ls legal apart run =
    omega (arith, without_length at ls, all_run s h (without at ls) legal.0 (without_apart at ls apart) (began_without at places closing m h ls apart run))
all_run s (Ended at reply m ∷ h) ls legal apart run =
    let rest = ended_others at reply m h ls run in
    omega (arith, all_run s h (at ∷ ls) legal.0 (rest.none, apart) (legal.1.1, rest.run))
all_run s (Came n first count m ∷ h) ls legal apart run = all_run s h ls legal.0 apart (same_run (Came n first count m) h ls (λ l. refl) run)
all_run s (Gave by n places f line state m ∷ h) ls legal apart run = all_run s h ls legal.0 apart (same_run (Gave by n places f line state m) h ls (λ l. refl) run)
all_run s (Tried lane places closing t m ∷ h) ls legal apart run = all_run s h ls legal.0 apart (same_run (Tried lane places closing t m) h ls (λ l. refl) run)
all_run s (Closed lane w m ∷ h) ls legal apart run = all_run s h ls legal.0 apart (same_run (Closed lane w m) h ls (λ l. refl) run)
all_run s (Replayed n places m ∷ h) ls legal apart run = absurd legal.1.1
all_run s (Shut m ∷ h) ls legal apart run = all_run s h ls legal.0 apart (same_run (Shut m) h ls (λ l. refl) run)

-- a lane that runs has one of them
pub some_unended : (s : Setting) (h : List Entry) (lane : LaneId) → Legal s h → is_running h lane ≡ true → 1 ≤ unended h
some_unended s h lane legal runs = all_run s h (lane ∷ []) legal (refl, tt) (runs, tt)
