-- A window that is outstanding is one of those of which a state was told, so the least one that is due is the least of
-- these.
use Rattle.std.proofs.Common.{◌≡◌, ℕ, ◌≤◌, Bool, true, false, not, ◌&&◌, ◌||◌, List, [], ◌∷◌, map, refl, sym, ap, ◌∙◌, subst, inl, inr, Option, Some, None, arith}
use Rattle.std.specs.Prelude.{◌==◌, nat_lt, nat_le, min, filter, find, option_map, is_some}
use Rattle.std.proofs.Math.Nat.{min-eq_left, min-eq_right}
use Rattle.std.proofs.lemmas.Bool.{cases_Bool, eqb-true, and_parts, leb-true, leb-false}
use Rattle.esm_model.specs.declared.setup.FoundState.{FoundState}
use Rattle.esm_model.specs.declared.entry.Entry.{Entry}
use Rattle.esm_model.specs.declared.entry.Entry.TheVariants.{Came, Began, Ended, Gave, Tried, Closed, Replayed, Shut}
use Rattle.esm_model.specs.Setting.{Setting}
use Rattle.esm_model.specs.Entries.{came_count, is_shut}
use Rattle.esm_model.specs.Windows.{has_windows, kept_state, state_after, is_outstanding, has_open_record, has_later_record, is_due}
use Rattle.esm_model.proofs.Lists.{In, In-here, In-there, In-cases, In-none, In-filter, filter-In, filter_none}
use Rattle.esm_ledger.specs.Reading.{IsLeastDueWindow}
use Rattle.esm_next.specs.Following.{windows_after, told_windows, outstanding, due_windows, lesser, least, is_nothing}

-- the least of a list

one_number : (u v : ℕ) → ◌≡◌ {A = Option ℕ} (Some u) (Some v) → u ≡ v
one_number u v e = cc

in_more : (x : ℕ) (xs : List ℕ) (v : ℕ) (o : Option ℕ) → lesser x o ≡ Some v → ((u : ℕ) → o ≡ Some u → In xs u) → In (x ∷ xs) v
in_more x xs v None is rest = In-here x xs v (one_number x v is)
in_more x xs v (Some u) is rest =
    let lowest : min x u ≡ v = one_number (min x u) v is in
    elim (cases_Bool (nat_le x u)) [
      | inl low ↦ In-here x xs v (sym (min-eq_left (leb-true x u low)) ∙ lowest)
      | inr high ↦ (let less = leb-false x u high in In-there x xs v (rest v (ap Some (sym (min-eq_right (omega arith)) ∙ lowest))))
    ]

pub least_In : (xs : List ℕ) (v : ℕ) → least xs ≡ Some v → In xs v
least_In [] v is = cc
least_In (x ∷ xs) v is = in_more x xs v (least xs) is (λ u e. least_In xs u e)

pub least_none : (xs : List ℕ) → least xs ≡ None → xs ≡ []
least_none [] is = refl
least_none (x ∷ xs) is = absurd (at (least xs) is)
  where
    at : (o : Option ℕ) → lesser x o ≡ None → ⊥
    at None e = cc
    at (Some u) e = cc

le_more : (x : ℕ) (xs : List ℕ) (v w : ℕ) (o : Option ℕ) → lesser x o ≡ Some v → In (x ∷ xs) w → (o ≡ None → In xs w → ⊥) → ((u : ℕ) → o ≡ Some u → In xs w → u ≤ w) → v ≤ w
le_more x xs v w None is member none rest =
    let only : x ≡ v = one_number x v is in
    elim (In-cases x xs w member) [
      | inl here ↦ omega (arith, here, only)
      | inr there ↦ absurd (none refl there)
    ]
le_more x xs v w (Some u) is member none rest =
    let lowest : min x u ≡ v = one_number (min x u) v is in
    elim (In-cases x xs w member) [
      | inl here ↦ omega (arith, here, lowest)
      | inr there ↦ (let low : u ≤ w = rest u refl there in omega (arith, low, lowest))
    ]

pub least_le : (xs : List ℕ) (v w : ℕ) → least xs ≡ Some v → In xs w → v ≤ w
least_le [] v w is member = absurd (In-none w member)
least_le (x ∷ xs) v w is member =
    le_more x xs v w (least xs) is member (λ none there. In-none w (subst (λ ys. In ys w) (least_none xs none) there)) (λ u e there. least_le xs u w e there)

pub least_is : (xs : List ℕ) (v : ℕ) → In xs v → ((w : ℕ) → In xs w → v ≤ w) → least xs ≡ Some v
least_is xs v member low = at (least xs) refl
  where
    at : (o : Option ℕ) → least xs ≡ o → least xs ≡ Some v
    at None e = absurd (In-none v (subst (λ ys. In ys v) (least_none xs e) member))
    at (Some u) e =
        let above : v ≤ u = low u (least_In xs u e) in
        let below' : u ≤ v = least_le xs u v e member in
        let same : u ≡ v = omega arith in
        e ∙ ap Some same

pub nothing_from_none : (p : ℕ → Bool) (xs : List ℕ) → ((w : ℕ) → p w ≡ false) → is_nothing (filter p xs) ≡ true
nothing_from_none p xs none = ap is_nothing (filter_none p xs (λ w member. none w))

pub something_from_In : (xs : List ℕ) (w : ℕ) → In xs w → is_nothing xs ≡ false
something_from_In [] w member = absurd (In-none w member)
something_from_In (x ∷ xs) w member = refl

-- the windows that were told of

found_told : (fs : List FoundState) (n w : ℕ) → is_some (find (λ (f : FoundState). (f.shard == n) && (f.window == w)) fs) ≡ true
    → In (map (λ (f : FoundState). f.window) (filter (λ (f : FoundState). f.shard == n) fs)) w
found_told [] n w is = cc
found_told (f ∷ fs) n w is =
    elim (cases_Bool (f.shard == n)) [
      | inr other ↦ rw other (found_told fs n w (rw other at is))
      | inl here ↦ elim (cases_Bool (f.window == w)) [
        | inl hit ↦ rw here (In-here f.window (map (λ (f : FoundState). f.window) (filter (λ (f : FoundState). f.shard == n) fs)) w (eqb-true f.window w hit))
        | inr miss ↦ rw here (In-there f.window (map (λ (f : FoundState). f.window) (filter (λ (f : FoundState). f.shard == n) fs)) w (found_told fs n w (rw (here, miss) at is)))
      ]
    ]

some_found : (o : Option FoundState) → is_some (option_map (λ (f : FoundState). f.text) o) ≡ true → is_some o ≡ true
some_found None is = is
some_found (Some f) is = refl

told_after : (n w : ℕ) (before : Option (List ℕ)) (ws : List ℕ) (e : Entry) → (is_some before ≡ true → In ws w) → is_some (state_after n w before e) ≡ true → In (windows_after n ws e) w
told_after n w before ws (Gave by k places fate line None m) was is =
    elim (cases_Bool (k == n)) [
      | inl here ↦ was (rw here at is)
      | inr other ↦ was (rw other at is)
    ]
told_after n w before ws (Gave by k places fate line (Some state) m) was is =
    elim (cases_Bool (k == n)) [
      | inr other ↦ rw other (was (rw other at is))
      | inl here ↦ elim (cases_Bool (state.window == w)) [
        | inl hit ↦ rw here (In-here state.window ws w (eqb-true state.window w hit))
        | inr miss ↦ rw here (In-there state.window ws w (was (rw (here, miss) at is)))
      ]
    ]
told_after n w before ws (Closed lane window m) was is =
    elim (cases_Bool ((lane.shard == n) && (window == w))) [
      | inl gone ↦ absurd (nothing_left (rw gone at is))
      | inr stays ↦ was (rw stays at is)
    ]
  where
    nothing_left : false ≡ true → ⊥
    nothing_left e = cc
told_after n w before ws (Came k first count m) was is = was is
told_after n w before ws (Began lane places closing m) was is = was is
told_after n w before ws (Ended lane reply m) was is = was is
told_after n w before ws (Tried lane places closing t m) was is = was is
told_after n w before ws (Replayed k places m) was is = was is
told_after n w before ws (Shut m) was is = was is

pub told_kept : (s : Setting) (h : List Entry) (n w : ℕ) → is_some (kept_state s h n w) ≡ true → In (told_windows s h n) w
told_kept s [] n w is = found_told s.states n w (some_found (find (λ (f : FoundState). (f.shard == n) && (f.window == w)) s.states) is)
told_kept s (e ∷ h) n w is = told_after n w (kept_state s h n w) (told_windows s h n) e (told_kept s h n w) is

pub told_outstanding : (s : Setting) (h : List Entry) (n w : ℕ) → is_outstanding s h n w ≡ true → In (told_windows s h n) w
told_outstanding s h n w is = told_kept s h n w (and_parts (has_windows s.config && nat_lt 0 (came_count h n)) (is_some (kept_state s h n w)) is).1

pub due_outstanding : (s : Setting) (h : List Entry) (n w : ℕ) → is_due s h n w ≡ true → is_outstanding s h n w ≡ true
due_outstanding s h n w is =
    (and_parts (is_outstanding s h n w) (not (has_open_record s h n w)) (and_parts (is_outstanding s h n w && not (has_open_record s h n w)) (has_later_record s h n w || is_shut h) is).0).0

pub told_due : (s : Setting) (h : List Entry) (n w : ℕ) → is_due s h n w ≡ true → In (due_windows s h n) w
told_due s h n w is = filter-In (is_due s h n) (told_windows s h n) w (told_outstanding s h n w (due_outstanding s h n w is)) is

-- what the ledger reads is what the rules ask

pub least_due_is : (s : Setting) (h : List Entry) (n : ℕ) (r : Option ℕ) → IsLeastDueWindow s h n r → least (due_windows s h n) ≡ r
least_due_is s h n None none = ap least (filter_none (is_due s h n) (told_windows s h n) (λ w member. none w))
least_due_is s h n (Some v) is = least_is (due_windows s h n) v (told_due s h n v is.0) (λ w member. is.1 w (In-filter (is_due s h n) (told_windows s h n) w member).1)

pub none_due : (s : Setting) (h : List Entry) (n : ℕ) → IsLeastDueWindow s h n None → is_nothing (due_windows s h n) ≡ true
none_due s h n none = nothing_from_none (is_due s h n) (told_windows s h n) none

pub some_due : (s : Setting) (h : List Entry) (n v : ℕ) → IsLeastDueWindow s h n (Some v) → is_nothing (due_windows s h n) ≡ false
some_due s h n v is = something_from_In (due_windows s h n) v (told_due s h n v is.0)

pub none_outstanding : (s : Setting) (h : List Entry) (n : ℕ) → ((w : ℕ) → is_outstanding s h n w ≡ false) → is_nothing (outstanding s h n) ≡ true
none_outstanding s h n none = nothing_from_none (is_outstanding s h n) (told_windows s h n) none

pub some_outstanding : (s : Setting) (h : List Entry) (n w : ℕ) → is_outstanding s h n w ≡ true → is_nothing (outstanding s h n) ≡ false
some_outstanding s h n w is = something_from_In (outstanding s h n) w (filter-In (is_outstanding s h n) (told_windows s h n) w (told_outstanding s h n w is) is)

-- and back: what the rules call least is due, and no window that is due is less

pub least_due : (s : Setting) (h : List Entry) (n : ℕ) (r : Option ℕ) → least (due_windows s h n) ≡ r → IsLeastDueWindow s h n r
least_due s h n None is = λ w. elim (cases_Bool (is_due s h n w)) [
  | inr no' ↦ no'
  | inl due ↦ absurd (In-none w (subst (λ ys. In ys w) (least_none (due_windows s h n) is) (told_due s h n w due)))
]
least_due s h n (Some v) is = (
  (In-filter (is_due s h n) (told_windows s h n) v (least_In (due_windows s h n) v is)).1,
  λ w due. least_le (due_windows s h n) v w is (told_due s h n w due),
)
