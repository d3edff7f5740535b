-- A lane may be given all that it is owed, one entry after the other, and then the history is settled.
use Rattle.std.proofs.Common.{◌≡◌, ℕ, ◌≤◌, Bool, true, false, not, ◌&&◌, List, [], ◌∷◌, ◌++◌, drop, map, reverse, refl, sym, ap, ◌∙◌, subst, inl, inr, Option, Some, None, arith, append_assoc}
use Rattle.std.specs.Prelude.{◌==◌, filter, option_map, unwrap_or, slice_get}
use Rattle.std.proofs.lemmas.List.{reverse-append}
use Rattle.std.proofs.lemmas.Bool.{cases_Bool}
use Rattle.std.proofs.lemmas.List.Elements.{filter_agree}
use Rattle.esm_model.specs.declared.moment.TheConstants.{MAX_MOMENT}
use Rattle.esm_model.specs.Lane.{same_lane}
use Rattle.esm_model.specs.declared.lane.LaneId.{LaneId}
use Rattle.esm_model.specs.declared.entry.Fate.{Fate}
use Rattle.esm_model.specs.declared.entry.Fate.TheVariants.{Succeeded, Exhausted}
use Rattle.esm_model.specs.declared.entry.Reply.{Reply}
use Rattle.esm_model.specs.declared.entry.WindowState.{WindowState}
use Rattle.esm_model.specs.declared.entry.Entry.{Entry}
use Rattle.esm_model.specs.declared.entry.Entry.TheVariants.{Ended, Gave}
use Rattle.esm_model.specs.Setting.{Setting, record_at}
use Rattle.esm_model.specs.Entries.{holds, moment_of, last_moment, came_count}
use Rattle.esm_model.specs.Fates.{below, lacks_fate}
use Rattle.esm_model.specs.FailureLine.{failure_line}
use Rattle.esm_model.specs.Owed.{Debt, Success, GiveUp, Try, Close, debts, debt_entry, owed, IsOwed, is_refused, is_unsorted, unsorted, Settled}
use Rattle.esm_model.specs.Step.{Legal, MayFollow, IsLater}
use Rattle.esm_model.proofs.Lists.{filter_both}
use Rattle.esm_model.proofs.Steps.{lacks_gave}
use Rattle.esm_model.proofs.Debts.{debt_brought}
use Rattle.esm_model.proofs.Sound.{same_lane-true}

-- an entry that pays what is owed

pub moment_brought : (s : Setting) (h : List Entry) (lane : LaneId) (m : ℕ) (d : Debt) → moment_of (debt_entry s h lane m d) ≡ m
moment_brought s h lane m (Success places state) = refl
moment_brought s h lane m (GiveUp places) = refl
moment_brought s h lane m (Try places closing tries) = refl
moment_brought s h lane m (Close window) = refl

-- it leaves the other lanes
pub debts_elsewhere : (s : Setting) (h : List Entry) (lane at : LaneId) (m : ℕ) (d : Debt) → same_lane lane at ≡ false → debts s (debt_entry s h lane m d ∷ h) at ≡ debts s h at
debts_elsewhere s h lane at m (Success places state) other = rw other
debts_elsewhere s h lane at m (GiveUp places) other = rw other
debts_elsewhere s h lane at m (Try places closing tries) other = rw other
debts_elsewhere s h lane at m (Close window) other = rw other

-- it changes no failure line
line_brought : (s : Setting) (h : List Entry) (lane : LaneId) (m : ℕ) (d : Debt) (n : ℕ) (places : List ℕ) (expired : Bool) (k : ℕ) → failure_line s (debt_entry s h lane m d ∷ h) n places expired k ≡ failure_line s h n places expired k
line_brought s h lane m (Success given state) n places expired k = refl
line_brought s h lane m (GiveUp given) n places expired k = refl
line_brought s h lane m (Try given closing tries) n places expired k = refl
line_brought s h lane m (Close window) n places expired k = refl

entry_brought : (s : Setting) (h : List Entry) (lane : LaneId) (m : ℕ) (d : Debt) (at : LaneId) (k : ℕ) (next : Debt) → debt_entry s (debt_entry s h lane m d ∷ h) at k next ≡ debt_entry s h at k next
entry_brought s h lane m d at k (Success places state) = refl
entry_brought s h lane m d at k (GiveUp places) = ap (λ line. Gave (Some at) at.shard places Exhausted line None k) (line_brought s h lane m d at.shard places false k)
entry_brought s h lane m d at k (Try places closing tries) = refl
entry_brought s h lane m d at k (Close window) = refl

map_same : (f g : Debt → Entry) → ((d : Debt) → f d ≡ g d) → (ds : List Debt) → map f ds ≡ map g ds
map_same f g same [] = refl
map_same f g same (d ∷ ds) = ap (λ e. e ∷ map f ds) (same d) ∙ ap (λ es. g d ∷ es) (map_same f g same ds)

-- the first of what is owed

next_at : (f : Debt → Entry) (ds : List Debt) (e : Entry) (rest : List Entry) → map f ds ≡ e ∷ rest → (d : Debt) × (f d ≡ e) × (map f (drop 1 ds) ≡ rest) × (ds ≡ d ∷ drop 1 ds)
next_at f [] e rest is = cc
next_at f (d ∷ ds) e rest is = (d, cc, cc, refl)

-- where it is added, the rest is owed
pub owed_goes_on : (s : Setting) (h : List Entry) (lane : LaneId) (e : Entry) (rest : List Entry) → owed s h lane ≡ e ∷ rest → owed s (e ∷ h) lane ≡ rest
owed_goes_on s h lane e rest is =
    let m = last_moment h in
    let found = next_at (debt_entry s h lane m) (debts s h lane) e rest is in
    let brought = debt_entry s h lane m found.0 in
    subst (λ x. owed s (x ∷ h) lane ≡ rest) found.1
    (ap (λ k. map (debt_entry s (brought ∷ h) lane k) (debts s (brought ∷ h) lane)) (moment_brought s h lane m found.0)
    ∙ ap (map (debt_entry s (brought ∷ h) lane m)) (debt_brought s h lane m found.0 (drop 1 (debts s h lane)) found.3)
    ∙ map_same (debt_entry s (brought ∷ h) lane m) (debt_entry s h lane m) (entry_brought s h lane m found.0 lane m) (drop 1 (debts s h lane))
    ∙ found.2)

may_bring : (s : Setting) (h : List Entry) (lane : LaneId) (m : ℕ) (d : Debt) → IsOwed s h lane (debt_entry s h lane m d) → MayFollow s h (debt_entry s h lane m d)
may_bring s h lane m (Success places state) is = is
may_bring s h lane m (GiveUp places) is = is
may_bring s h lane m (Try places closing tries) is = is
may_bring s h lane m (Close window) is = is

last_within : (s : Setting) (h : List Entry) → Legal s h → last_moment h ≤ MAX_MOMENT
last_within s [] legal = omega arith
last_within s (e ∷ h) legal = legal.1.0.within

-- and it may be added
pub owed_legal : (s : Setting) (h : List Entry) (lane : LaneId) (e : Entry) (rest : List Entry) → Legal s h → owed s h lane ≡ e ∷ rest → Legal s (e ∷ h)
owed_legal s h lane e rest legal is =
    let m = last_moment h in
    let found = next_at (debt_entry s h lane m) (debts s h lane) e rest is in
    let first : IsOwed s h lane e = ap (λ es. slice_get es 0) is in
    let within : last_moment h ≤ MAX_MOMENT = last_within s h legal in
    subst (λ x. Legal s (x ∷ h)) found.1 (
      legal,
      (
        subst (λ k. IsLater h k) (sym (moment_brought s h lane m found.0)) (record { not_back = omega arith; within = within }),
        may_bring s h lane m found.0 (subst (IsOwed s h lane) (sym found.1) first),
      ),
    )

-- what is settled but for one lane

-- a `Gave` takes its places from them
pub unsorted_after_gave : (s : Setting) (by : Option LaneId) (n : ℕ) (places : List ℕ) (f : Fate) (line : Option (List ℕ)) (state : Option WindowState) (m : ℕ) (h : List Entry) (k : ℕ)
    → unsorted s (Gave by n places f line state m ∷ h) k ≡ filter (λ i. not ((n == k) && holds places i)) (unsorted s h k)
unsorted_after_gave s by n places f line state m h k =
    filter_agree (is_unsorted s (Gave by n places f line state m ∷ h) k) (λ i. is_unsorted s h k i && not ((n == k) && holds places i))
    (λ i. ap (λ b. b && unwrap_or (option_map (is_refused s) (record_at s k i)) false) (lacks_gave s by n places f line state m h k i)
    ∙ swap (lacks_fate s h k i) (not ((n == k) && holds places i)) (unwrap_or (option_map (is_refused s) (record_at s k i)) false))
    (below (came_count h k))
    ∙ filter_both (is_unsorted s h k) (λ i. not ((n == k) && holds places i)) (below (came_count h k))
  where
    swap : (a b c : Bool) → ((a && b) && c) ≡ ((a && c) && b)
    swap true true true = refl
    swap true true false = refl
    swap true false true = refl
    swap true false false = refl
    swap false b c = refl

-- and leaves none where there were none
pub unsorted_gave : (s : Setting) (by : Option LaneId) (n : ℕ) (places : List ℕ) (f : Fate) (line : Option (List ℕ)) (state : Option WindowState) (m : ℕ) (h : List Entry) (k : ℕ)
    → unsorted s h k ≡ [] → unsorted s (Gave by n places f line state m ∷ h) k ≡ []
unsorted_gave s by n places f line state m h k none = unsorted_after_gave s by n places f line state m h k ∙ ap (filter (λ i. not ((n == k) && holds places i))) none

unsorted_brought : (s : Setting) (h : List Entry) (lane : LaneId) (m : ℕ) (d : Debt) (n : ℕ) → unsorted s h n ≡ [] → unsorted s (debt_entry s h lane m d ∷ h) n ≡ []
unsorted_brought s h lane m (Success places state) n none = unsorted_gave s (Some lane) lane.shard places Succeeded None state m h n none
unsorted_brought s h lane m (GiveUp places) n none = unsorted_gave s (Some lane) lane.shard places Exhausted (failure_line s h lane.shard places false m) None m h n none
unsorted_brought s h lane m (Try places closing tries) n none = none
unsorted_brought s h lane m (Close window) n none = none

pub record SettledBut (s : Setting) (h : List Entry) (lane : LaneId) : Type 0 where
  pub sorted : (n : ℕ) → unsorted s h n ≡ []
  pub others : (at : LaneId) → same_lane lane at ≡ false → debts s h at ≡ []

pub settled_ended : (s : Setting) (h : List Entry) (lane : LaneId) (reply : Reply) (m : ℕ) → Settled s h → SettledBut s (Ended lane reply m ∷ h) lane
settled_ended s h lane reply m settled = record { sorted = settled.sorted; others = λ at other. rw other (settled.paid at) }

but_goes_on : (s : Setting) (h : List Entry) (lane : LaneId) (e : Entry) (rest : List Entry) → owed s h lane ≡ e ∷ rest → SettledBut s h lane → SettledBut s (e ∷ h) lane
but_goes_on s h lane e rest is but =
    let m = last_moment h in
    let found = next_at (debt_entry s h lane m) (debts s h lane) e rest is in
    subst (λ x. SettledBut s (x ∷ h) lane) found.1 (record {
      sorted = λ n. unsorted_brought s h lane m found.0 n (but.sorted n);
      others = λ at other. debts_elsewhere s h lane at m found.0 other ∙ but.others at other;
    })

no_debts : (f : Debt → Entry) (ds : List Debt) → map f ds ≡ [] → ds ≡ []
no_debts f [] is = refl
no_debts f (d ∷ ds) is = cc

pub but_settled : (s : Setting) (h : List Entry) (lane : LaneId) → owed s h lane ≡ [] → SettledBut s h lane → Settled s h
but_settled s h lane none but = record {
  sorted = but.sorted;
  paid = λ at. elim (cases_Bool (same_lane lane at)) [
    | inl same ↦ subst (λ l. debts s h l ≡ []) (same_lane-true lane at same) (no_debts (debt_entry s h lane (last_moment h)) (debts s h lane) none)
    | inr other ↦ but.others at other
  ];
}

-- all of it

-- the entries, oldest first, added to the history
abbrev pub added : List Entry → List Entry → List Entry
added [] h = h
added (e ∷ es) h = added es (e ∷ h)

pub added_reversed : (es h : List Entry) → added es h ≡ reverse es ++ h
added_reversed [] h = refl
added_reversed (e ∷ es) h = added_reversed es (e ∷ h) ∙ sym (ap (λ xs. xs ++ h) (reverse-append (e ∷ []) es) ∙ append_assoc (reverse es) (e ∷ []) h)

pub record IsPaidUp (s : Setting) (h : List Entry) (lane : LaneId) : Type 0 where
  pub legal : Legal s h
  pub paid : owed s h lane ≡ []
  pub but : SettledBut s h lane

pub paid_up : (s : Setting) (lane : LaneId) (es h : List Entry) → Legal s h → SettledBut s h lane → owed s h lane ≡ es → IsPaidUp s (added es h) lane
paid_up s lane [] h legal but is = record { legal = legal; paid = is; but = but }
paid_up s lane (e ∷ es) h legal but is = paid_up s lane es (e ∷ h) (owed_legal s h lane e es legal is) (but_goes_on s h lane e es is but) (owed_goes_on s h lane e es is)

-- an `Ended` of a settled history, with all that it calls for, leaves a legal and settled history
pub ended_settles : (s : Setting) (h : List Entry) (lane : LaneId) (reply : Reply) (m : ℕ) → Settled s h → Legal s (Ended lane reply m ∷ h)
    → Legal s (added (owed s (Ended lane reply m ∷ h) lane) (Ended lane reply m ∷ h)) × Settled s (added (owed s (Ended lane reply m ∷ h) lane) (Ended lane reply m ∷ h))
ended_settles s h lane reply m settled legal =
    let es = owed s (Ended lane reply m ∷ h) lane in
    let is = paid_up s lane es (Ended lane reply m ∷ h) legal (settled_ended s h lane reply m settled) refl in
    (is.legal, but_settled s (added es (Ended lane reply m ∷ h)) lane is.paid is.but)
