-- What was found at opening of records and windows of a shard.
use Rattle.std.proofs.Common.{◌≡◌, ℕ, zero, suc, ◌+◌, ◌<◌, ◌≤◌, Bool, true, false, not, ◌&&◌, List, [], ◌∷◌, length, map, filter, refl, sym, ap, ◌∙◌, subst, inl, inr, Option, Some, None, arith, is_none}
use Rattle.std.specs.Prelude.{◌==◌, IfSome, All, option_map, unwrap_or, find, slice_get, slice_index_or, if◌then◌else◌}
use Rattle.std.proofs.Math.Nat.{mod-lt}
use Rattle.std.proofs.lemmas.Bool.{cases_Bool}
use Rattle.std.proofs.lemmas.List.Elements.{All-nil, All-cons}
use Rattle.esm_model.specs.declared.limits.TheConstants.{MAX_TRIES}
use Rattle.esm_model.specs.Records.{Record}
use Rattle.esm_model.specs.declared.setup.FoundFate.{FoundFate}
use Rattle.esm_model.specs.declared.setup.FoundTries.{FoundTries}
use Rattle.esm_model.specs.declared.setup.FoundState.{FoundState}
use Rattle.esm_model.specs.declared.setup.FoundWindowTries.{FoundWindowTries}
use Rattle.esm_model.specs.Lane.{lane_of}
use Rattle.esm_model.specs.Setting.{Setting, record_at, found_fate, found_try, is_key_of}
use Rattle.esm_model.specs.Owed.{is_refused}
use Rattle.esm_model.specs.Ruling.{capped_tries}
use Rattle.esm_journal_state.specs.declared.kept.KeptFate.{KeptFate}
use Rattle.esm_journal_state.specs.declared.kept.KeptTries.{KeptTries}
use Rattle.esm_journal_state.specs.declared.lookup.SaidState.{SaidState}
use Rattle.esm_journal_state.specs.declared.lookup.SaidWindowTries.{SaidWindowTries}
use Rattle.esm_journal_state.specs.SaidLists.{SaidLists, fate_told, tries_told}
use Rattle.esm_journal_state.specs.Tells.{fate_of_found, tries_of_found}
use Rattle.esm_journal_state.specs.View.{found_state, of_window}
use Rattle.esm_shard_index.specs.LaneHistory.{HasFoundTries}
use Rattle.esm_shard_index.specs.Progress.{AreFound, found_at}
use Rattle.esm_ledger.specs.declared.arriving.Landing.{Landing}
use Rattle.esm_ledger.specs.Shard.{lane_id}
use Rattle.esm_ledger.specs.Arriving.{IsLanding, IsWithin, landing_at, lands_in, tries_found}
use Rattle.esm_ledger.specs.Coming.{TellsPassing}
use Rattle.esm_ledger.specs.Measuring.{fate_for, tries_for, landing_for, fates_from, landings_from, state_from, tries_from}

-- what is read of one place

pub fate_read : (x : Option KeptFate) (o : Option FoundFate) → x ≡ option_map fate_of_found o → option_map (λ (k : KeptFate). k.fate) x ≡ option_map (λ (f : FoundFate). f.fate) o
fate_read x None e = ap (option_map (λ (k : KeptFate). k.fate)) e
fate_read x (Some f) e = ap (option_map (λ (k : KeptFate). k.fate)) e

pub tries_read : (x : Option KeptTries) (o : Option FoundTries) → x ≡ option_map tries_of_found o → option_map (λ (k : KeptTries). capped_tries k.tries) x ≡ option_map (λ (f : FoundTries). capped_tries f.tries) o
tries_read x None e = ap (option_map (λ (k : KeptTries). capped_tries k.tries)) e
tries_read x (Some f) e = ap (option_map (λ (k : KeptTries). capped_tries k.tries)) e

-- the fates of records one after the other

pub length_fates : (t : SaidLists) (n first : ℕ) (rs : List Record) → length (fates_from t n first rs) ≡ length rs
length_fates t n first [] = refl
length_fates t n first (r ∷ rs) = ap suc (length_fates t n (suc first) rs)

fates_at : (t : SaidLists) (n first : ℕ) (rs : List Record) (k : ℕ) → k < length rs → slice_index_or (fates_from t n first rs) k None ≡ fate_for t n (first + k)
fates_at t n first [] k low = absurd (omega (arith, low))
fates_at t n first (r ∷ rs) zero low = (let same : first ≡ first + 0 = omega arith in ap (fate_for t n) same)
fates_at t n first (r ∷ rs) (suc k) low =
    let same : suc first + k ≡ first + suc k = omega arith in
    fates_at t n (suc first) rs k (omega (arith, low)) ∙ ap (fate_for t n) same

fate_told_so : (s : Setting) (t : SaidLists) (n i : ℕ) → s.fates ≡ t.fates → fate_for t n i ≡ found_at s n i
fate_told_so s t n i same = ap (λ (fs : List FoundFate). option_map (λ (f : FoundFate). f.fate) (find (λ (f : FoundFate). (f.shard == n) && (f.place == i)) fs)) (sym same)

tries_told_so : (s : Setting) (t : SaidLists) (n i : ℕ) → s.tries ≡ t.tries → tries_for t n i ≡ tries_found s n i
tries_told_so s t n i same = ap (λ (fs : List FoundTries). option_map (λ (f : FoundTries). capped_tries f.tries) (find (λ (f : FoundTries). (f.shard == n) && (f.place == i)) fs)) (sym same)

pub fates_found : (s : Setting) (t : SaidLists) (n first : ℕ) (rs : List Record) → s.fates ≡ t.fates → AreFound s n first (fates_from t n first rs)
fates_found s t n first rs same k low =
    let size = length_fates t n first rs in
    fates_at t n first rs k (omega (arith, size, low)) ∙ fate_told_so s t n (first + k) same

-- where they come to

pub length_landings : (factor : ℕ) (t : SaidLists) (n first : ℕ) (rs : List Record) (ps : List Bool) → length ps ≡ length rs → length (landings_from factor t n first rs ps) ≡ length rs
length_landings factor t n first [] ps all = refl
length_landings factor t n first (r ∷ rs) [] all = absurd (omega (arith, all))
length_landings factor t n first (r ∷ rs) (p ∷ ps) all = ap suc (length_landings factor t n (suc first) rs ps (omega (arith, all)))

landings_at : (factor : ℕ) (t : SaidLists) (n first : ℕ) (rs : List Record) (ps : List Bool) (k : ℕ) (r : Record) → length ps ≡ length rs → slice_get rs k ≡ Some r
    → landing_at (landings_from factor t n first rs ps) k ≡ landing_for factor t n (first + k) r (slice_index_or ps k false)
landings_at factor t n first [] ps k r all at = absurd cc
landings_at factor t n first (x ∷ rs) [] k r all at = absurd (omega (arith, all))
landings_at factor t n first (x ∷ rs) (p ∷ ps) zero r all at =
    let e : x ≡ r = cc in
    let same : first ≡ first + 0 = omega arith in
    ap (λ (q : Record). landing_for factor t n first q p) e ∙ ap (λ (i : ℕ). landing_for factor t n i r p) same
landings_at factor t n first (x ∷ rs) (p ∷ ps) (suc k) r all at =
    let same : suc first + k ≡ first + suc k = omega arith in
    landings_at factor t n (suc first) rs ps k r (omega (arith, all)) at ∙ ap (λ (i : ℕ). landing_for factor t n i r (slice_index_or ps k false)) same

and_some : (a b : Bool) → false ≡ (a && false && b)
and_some true b = refl
and_some false b = refl

and_all : (a : Bool) → a ≡ (a && true && true)
and_all true = refl
and_all false = refl

and_none : (a : Bool) → false ≡ (a && true && false)
and_none true = refl
and_none false = refl

-- by cases
landing_lanes : (a : Bool) (o : Option FoundFate) (p b : Bool) (l : Landing) (k : ℕ) → (l.lane == k) ≡ a → (o ≡ None → p ≡ b)
    → lands_in k (if p && is_none (option_map (λ (f : FoundFate). f.fate) o) then Some l else None) ≡ (a && is_none o && b)
landing_lanes a (Some f) true b l k same passes = and_some a b
landing_lanes a (Some f) false b l k same passes = and_some a b
landing_lanes a None true true l k same passes = same ∙ and_all a
landing_lanes a None true false l k same passes = absurd (let clash : true ≡ false = passes refl in cc)
landing_lanes a None false true l k same passes = absurd (let clash : false ≡ true = passes refl in cc)
landing_lanes a None false false l k same passes = and_none a

if_landing : (c : Bool) (l : Landing) (P : Landing → Type 0) → P l → IfSome (if c then Some l else None) P
if_landing true l P p = p
if_landing false l P p = tt

landing_is : (s : Setting) (t : SaidLists) (n i : ℕ) (r : Record) (p : Bool) → s.fates ≡ t.fates → s.tries ≡ t.tries → record_at s n i ≡ Some r → (found_fate s n i ≡ None → p ≡ not (is_refused s r))
    → IsLanding s n i (landing_for s.config.factor t n i r p)
landing_is s t n i r p fates tries at passes =
    let l : Landing = record { lane = lane_of r.key s.config.factor; tries = tries_for t n i } in
    let given : fate_told t n i ≡ found_fate s n i = ap (find (λ (f : FoundFate). (f.shard == n) && (f.place == i))) (sym fates) in
    record {
      lanes = λ k low.
          ap (λ (o : Option FoundFate). lands_in k (if p && is_none (option_map (λ (f : FoundFate). f.fate) o) then Some l else None)) given
          ∙ landing_lanes (is_key_of s (lane_id n k) r) (found_fate s n i) p (not (is_refused s r)) l k refl passes
          ∙ ap (λ (o : Option Record). unwrap_or (option_map (is_key_of s (lane_id n k)) o) false && is_none (found_fate s n i) && not (unwrap_or (option_map (is_refused s) o) false)) (sym at);
      tries = if_landing (p && is_none (fate_for t n i)) l (λ (x : Landing). x.tries ≡ tries_found s n i) (tries_told_so s t n i tries);
    }

pub landings_told : (s : Setting) (t : SaidLists) (n first : ℕ) (rs : List Record) (ps : List Bool) → s.fates ≡ t.fates → s.tries ≡ t.tries
    → ((k : ℕ) (r : Record) → slice_get rs k ≡ Some r → record_at s n (first + k) ≡ Some r) → TellsPassing s n first rs ps
    → (k : ℕ) → k < length rs → IsLanding s n (first + k) (landing_at (landings_from s.config.factor t n first rs ps) k)
landings_told s t n first rs ps fates tries stand tells k low = by (slice_get rs k) refl
  where
    past : (xs : List Record) (j : ℕ) → j < length xs → slice_get xs j ≡ None → ⊥
    past [] j small none = omega (arith, small)
    past (x ∷ xs) zero small none = cc
    past (x ∷ xs) (suc j) small none = past xs j (omega (arith, small)) none

    by : (o : Option Record) → slice_get rs k ≡ o → IsLanding s n (first + k) (landing_at (landings_from s.config.factor t n first rs ps) k)
    by None at = absurd (past rs k low at)
    by (Some r) at = subst (λ (l : Option Landing). IsLanding s n (first + k) l) (sym (landings_at s.config.factor t n first rs ps k r tells.all at))
        (landing_is s t n (first + k) r (slice_index_or ps k false) fates tries (stand k r at) (λ none. tells.each k r at none))

-- within the bounds

capped_within : (o : Option FoundTries) → ((f : FoundTries) → o ≡ Some f → 1 ≤ f.tries) → IfSome (option_map (λ (f : FoundTries). capped_tries f.tries) o) (λ t. (1 ≤ t) × (t ≤ 10001))
capped_within None some = tt
capped_within (Some f) some = (let least = some f refl in (omega (arith, least), omega arith))

landing_within : (s : Setting) (factor : ℕ) (t : SaidLists) (n i : ℕ) (r : Record) (p : Bool) → 1 ≤ factor → s.tries ≡ t.tries → HasFoundTries s n → IsWithin factor (landing_for factor t n i r p)
landing_within s factor t n i r p some tries found =
    let l : Landing = record { lane = lane_of r.key factor; tries = tries_for t n i } in
    let told : found_try s n i ≡ tries_told t n i = ap (find (λ (f : FoundTries). (f.shard == n) && (f.place == i))) tries in
    if_landing (p && is_none (fate_for t n i)) l (λ (x : Landing). (x.lane < factor) × IfSome x.tries (λ m. (1 ≤ m) × (m ≤ MAX_TRIES)))
    (mod-lt _ some, capped_within (tries_told t n i) (λ f e. found i f (told ∙ e)))

pub landings_within : (s : Setting) (factor : ℕ) (t : SaidLists) (n first : ℕ) (rs : List Record) (ps : List Bool) → 1 ≤ factor → s.tries ≡ t.tries → HasFoundTries s n → All (IsWithin factor) (landings_from factor t n first rs ps)
landings_within s factor t n first [] ps some tries found = All-nil (IsWithin factor)
landings_within s factor t n first (r ∷ rs) [] some tries found = All-nil (IsWithin factor)
landings_within s factor t n first (r ∷ rs) (p ∷ ps) some tries found =
    All-cons (IsWithin factor) (landing_for factor t n first r p) (landings_from factor t n (suc first) rs ps) (landing_within s factor t n first r p some tries found)
    (landings_within s factor t n (suc first) rs ps some tries found)

-- windows

pub state_is : (xs : List SaidState) (n w : ℕ) → state_from xs n w None ≡ option_map (λ (f : FoundState). f.text) (find (λ (f : FoundState). (f.shard == n) && (f.window == w)) (map found_state xs))
state_is [] n w = refl
state_is (x ∷ xs) n w = elim (cases_Bool ((x.shard == n) && (x.state.window == w))) [
  | inl here ↦ rw here refl
  | inr off ↦ rw off (state_is xs n w)
]

tries_is : (xs : List SaidWindowTries) (n w : ℕ) → tries_from xs w 0 ≡ capped_tries (unwrap_or (option_map (λ (f : FoundWindowTries). f.tries) (find (λ (f : FoundWindowTries). f.window == w) (map (of_window n) xs))) 0)
tries_is [] n w = refl
tries_is (x ∷ xs) n w = elim (cases_Bool (x.window == w)) [
  | inl here ↦ rw here refl
  | inr off ↦ rw off (tries_is xs n w)
]

find_of_shard : (fs : List FoundWindowTries) (n w : ℕ) → find (λ (f : FoundWindowTries). f.window == w) (filter (λ (f : FoundWindowTries). f.shard == n) fs) ≡ find (λ (f : FoundWindowTries). (f.shard == n) && (f.window == w)) fs
find_of_shard [] n w = refl
find_of_shard (f ∷ fs) n w = elim (cases_Bool (f.shard == n)) [
  | inl here ↦ elim (cases_Bool (f.window == w)) [
    | inl same ↦ rw (here, same) refl
    | inr other ↦ rw (here, other) (find_of_shard fs n w)
  ]
  | inr off ↦ rw off (find_of_shard fs n w)
]

pub window_tries_is : (xs : List SaidWindowTries) (fs : List FoundWindowTries) (n w : ℕ) → map (of_window n) xs ≡ filter (λ (f : FoundWindowTries). f.shard == n) fs
    → tries_from xs w 0 ≡ capped_tries (unwrap_or (option_map (λ (f : FoundWindowTries). f.tries) (find (λ (f : FoundWindowTries). (f.shard == n) && (f.window == w)) fs)) 0)
window_tries_is xs fs n w same =
    tries_is xs n w
    ∙ ap (λ (o : Option FoundWindowTries). capped_tries (unwrap_or (option_map (λ (f : FoundWindowTries). f.tries) o) 0)) (ap (find (λ (f : FoundWindowTries). f.window == w)) same ∙ find_of_shard fs n w)
