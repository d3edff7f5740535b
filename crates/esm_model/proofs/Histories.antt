-- The laws of whole histories.
use Rattle.std.proofs.Common.{◌≡◌, ℕ, ◌<◌, ◌≤◌, Bool, true, false, ◌&&◌, ◌||◌, cond, List, [], ◌∷◌, ◌++◌, refl, sym, ◌∙◌, subst, ◌⊎◌, inl, inr, Option, Some, None, arith}
use Rattle.std.specs.Prelude.{◌==◌, IsTrue, IsSome, is_none, unwrap_or, option_map}
use Rattle.std.specs.Option.{option_or}
use Rattle.std.specs.List.{list_any}
use Rattle.esm_model.specs.Lane.{lane_of}
use Rattle.esm_model.specs.Records.{Record}
use Rattle.esm_model.specs.declared.lane.LaneId.{LaneId}
use Rattle.esm_model.specs.declared.entry.Fate.{Fate}
use Rattle.esm_model.specs.declared.entry.Entry.{Entry}
use Rattle.esm_model.specs.declared.entry.Entry.TheVariants.{Came, Began, Ended, Gave, Tried, Closed, Replayed, Shut}
use Rattle.esm_model.specs.Setting.{Setting, record_at, is_in_lane, found_fate}
use Rattle.esm_model.specs.declared.setup.FoundFate.{FoundFate}
use Rattle.esm_model.specs.Entries.{holds}
use Rattle.esm_model.specs.Fates.{fate, given, names_place, open_places}
use Rattle.esm_model.specs.Checkpoint.{checkpoint}
use Rattle.esm_model.specs.Step.{Legal, MayBegin}
use Rattle.esm_model.specs.Laws.{OrderPerKey, OneFate, NoRepeat, CheckpointKept}
use Rattle.esm_model.proofs.Lists.{In, In-none, In-take}
use Rattle.esm_model.proofs.Steps.{checkpoint_grows, order_in_lane, batch_front}
use Rattle.esm_model.proofs.Sound.{open_In}
use Rattle.esm_model.proofs.Paid.{gave_open}

-- what a legal history follows is legal
pub legal_before : (s : Setting) (later before : List Entry) → Legal s (later ++ before) → Legal s before
legal_before s [] before legal = legal
legal_before s (e ∷ later) before legal = legal_before s later before legal.0

some_of_not_none : (o : Option Fate) → is_none o ≡ false → IsSome o
some_of_not_none None is = cc
some_of_not_none (Some x) is = refl

none_of : (o : Option Fate) → is_none o ≡ true → o ≡ None
none_of None is = refl
none_of (Some x) is = cc

-- a batch is of open records of its lane
pub began_In : (s : Setting) (before : List Entry) (lane : LaneId) (places : List ℕ) (m : ℕ) → MayBegin s before lane places m → (i : ℕ) → In places i → In (open_places s before lane) i
began_In s before lane places m may i member =
    let cut = batch_front s before lane m in
    In-take cut.0 (open_places s before lane) i (subst (λ xs. In xs i) (may.exact ∙ cut.1) member)

-- records of one key are in one lane
in_same_lane : (s : Setting) (lane : LaneId) (i j : ℕ) (r q : Record) → record_at s lane.shard i ≡ Some r → record_at s lane.shard j ≡ Some q → q.key ≡ r.key → is_in_lane s lane i ≡ true → is_in_lane s lane j ≡ true
in_same_lane s lane i j r q at_i at_j same in_lane =
    let now : (lane_of r.key s.config.factor == lane.lane) ≡ true = subst (λ (o : Option Record). unwrap_or (option_map (λ (x : Record). lane_of x.key s.config.factor == lane.lane) o) false ≡ true) at_i in_lane in
    subst (λ (o : Option Record). unwrap_or (option_map (λ (x : Record). lane_of x.key s.config.factor == lane.lane) o) false ≡ true) (sym at_j)
    (subst (λ k. (lane_of k s.config.factor == lane.lane) ≡ true) (sym same) now)

began_order : (s : Setting) (before : List Entry) (lane : LaneId) (places : List ℕ) (m : ℕ) → MayBegin s before lane places m
    → (i j : ℕ) (r q : Record) → record_at s lane.shard i ≡ Some r → record_at s lane.shard j ≡ Some q → q.key ≡ r.key → In places i → j < i
    → IsTrue (holds places j) ⊎ IsSome (fate s before lane.shard j)
began_order s before lane places m may i j r q at_i at_j same member earlier =
    let facts = open_In s before lane i (began_In s before lane places m may i member) in
    elim (order_in_lane s before lane places m may i j member earlier (in_same_lane s lane i j r q at_i at_j same facts.1)) [
      | inl inside ↦ inl inside
      | inr fated ↦ inr (some_of_not_none (fate s before lane.shard j) fated)
    ]

pub order_of_legal : (s : Setting) (h : List Entry) → Legal s h → OrderPerKey s h
order_of_legal s h legal later before lane places None m is =
    let began : Legal s (Began lane places None m ∷ before) = legal_before s later (Began lane places None m ∷ before) (subst (Legal s) is legal) in
    began_order s before lane places m began.1.1
order_of_legal s h legal later before lane places (Some w) m is =
    let began : Legal s (Began lane places (Some w) m ∷ before) = legal_before s later (Began lane places (Some w) m ∷ before) (subst (Legal s) is legal) in
    λ i j r q at_i at_j same member earlier. absurd (In-none i (subst (λ xs. In xs i) began.1.1.no_places member))

pub one_of_legal : (s : Setting) (h : List Entry) → Legal s h → OneFate s h
one_of_legal s h legal later before by n places f line state m is i member =
    none_of (fate s before n i) (gave_open s before by n places f line state m (legal_before s later (Gave by n places f line state m ∷ before) (subst (Legal s) is legal)) i member)

-- without a fate nothing was found, and nothing was given

none_parts : (o : Option FoundFate) (g : Option Fate) → is_none (option_or (option_map (λ (f : FoundFate). f.fate) o) g) ≡ true → (o ≡ None) × (is_none g ≡ true)
none_parts None g is = (refl, is)
none_parts (Some f) g is = cc

not_named_at : (a : Option Fate) (f : Fate) (t : Bool) → is_none (option_or a (cond t (Some f) None)) ≡ true → (t ≡ false) × (is_none a ≡ true)
not_named_at None f true is = cc
not_named_at None f false is = (refl, refl)
not_named_at (Some x) f t is = cc

or_none : (a b : Bool) → a ≡ false → b ≡ false → (a || b) ≡ false
or_none a b first second = rw (first, second)

not_named : (h : List Entry) (n i : ℕ) → is_none (given h n i) ≡ true → list_any (names_place n i) h ≡ false
not_named [] n i none = refl
not_named (Gave by shard places f line state m ∷ h) n i none =
    let parts = not_named_at (given h n i) f ((shard == n) && holds places i) none in
    or_none ((shard == n) && holds places i) (list_any (names_place n i) h) parts.0 (not_named h n i parts.1)
not_named (Came shard first count m ∷ h) n i none = not_named h n i none
not_named (Began lane places closing m ∷ h) n i none = not_named h n i none
not_named (Ended lane reply m ∷ h) n i none = not_named h n i none
not_named (Tried lane places closing t m ∷ h) n i none = not_named h n i none
not_named (Closed lane w m ∷ h) n i none = not_named h n i none
not_named (Replayed shard places m ∷ h) n i none = not_named h n i none
not_named (Shut m ∷ h) n i none = not_named h n i none

pub no_repeat_of_legal : (s : Setting) (h : List Entry) → Legal s h → NoRepeat s h
no_repeat_of_legal s h legal later before lane places None m is i member =
    let began : Legal s (Began lane places None m ∷ before) = legal_before s later (Began lane places None m ∷ before) (subst (Legal s) is legal) in
    let facts = open_In s before lane i (began_In s before lane places m began.1.1 i member) in
    let parts = none_parts (found_fate s lane.shard i) (given before lane.shard i) facts.2 in
    (parts.0, not_named before lane.shard i parts.1)
no_repeat_of_legal s h legal later before lane places (Some w) m is i member =
    let began : Legal s (Began lane places (Some w) m ∷ before) = legal_before s later (Began lane places (Some w) m ∷ before) (subst (Legal s) is legal) in
    absurd (In-none i (subst (λ xs. In xs i) began.1.1.no_places member))

pub checkpoint_stays : (s : Setting) (later before : List Entry) → CheckpointKept s later before
checkpoint_stays s [] before n = omega arith
checkpoint_stays s (e ∷ later) before n =
    let rest : checkpoint s before n ≤ checkpoint s (later ++ before) n = checkpoint_stays s later before n in
    let step : checkpoint s (later ++ before) n ≤ checkpoint s (e ∷ (later ++ before)) n = checkpoint_grows s e (later ++ before) n in
    omega (arith, rest, step)
