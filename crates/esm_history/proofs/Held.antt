-- What is owed to a record stays owed until it has its fate. Only this crate's proofs cite this.
use Rattle.std.proofs.Common.{◌≡◌, ℕ, Bool, true, ◌&&◌, List, [], ◌∷◌, ◌++◌, drop, refl, sym, ap, ◌∙◌, subst, ◌⊎◌, inl, inr, Option, Some, None}
use Rattle.std.specs.Prelude.{◌==◌, option_map, is_some, if◌then◌else◌}
use Rattle.std.specs.Option.{option_or}
use Rattle.std.proofs.lemmas.Bool.{cases_Bool, and_from, eq-eqb}
use Rattle.esm_model.specs.Lane.{same_lane}
use Rattle.esm_model.specs.declared.lane.LaneId.{LaneId}
use Rattle.esm_model.specs.declared.entry.Fate.{Fate}
use Rattle.esm_model.specs.declared.entry.Fate.TheVariants.{Succeeded, Filtered, Expired, Exhausted}
use Rattle.esm_model.specs.declared.entry.WindowState.{WindowState}
use Rattle.esm_model.specs.declared.entry.Entry.{Entry}
use Rattle.esm_model.specs.declared.entry.Entry.TheVariants.{Came, Began, Ended, Gave, Tried, Closed, Replayed, Shut}
use Rattle.esm_model.specs.declared.setup.FoundFate.{FoundFate}
use Rattle.esm_model.specs.Setting.{Setting, found_fate}
use Rattle.esm_model.specs.Entries.{holds, is_running}
use Rattle.esm_model.specs.Fates.{given, has_fate}
use Rattle.esm_model.specs.Owed.{debts, IsOwed}
use Rattle.esm_model.specs.Step.{Legal}
use Rattle.esm_model.proofs.Lists.{In, In-none, In-append_cases}
use Rattle.esm_model.proofs.Debts.{debt_places, gave_places, first_debt, debt_paid, gives_in_shard}
use Rattle.esm_model.proofs.Sound.{same_lane-true, sound}

some_named : {A : Type 0} (a b : Option A) (x : A) (t : Bool) → t ≡ true → is_some (option_or a (option_or b (if t then Some x else None))) ≡ true
some_named None None x t named = rw named refl
some_named None (Some y) x t named = refl
some_named (Some y) b x t named = refl

-- a `Gave` gives each place that it names a fate, or that has one
pub named_fated : (s : Setting) (h : List Entry) (by : Option LaneId) (n : ℕ) (places : List ℕ) (f : Fate) (line : Option (List ℕ)) (state : Option WindowState) (m : ℕ) (i : ℕ)
    → In places i → has_fate s (Gave by n places f line state m ∷ h) n i ≡ true
named_fated s h by n places f line state m i member =
    some_named (option_map (λ (f : FoundFate). f.fate) (found_fate s n i)) (given h n i) f ((n == n) && holds places i) (and_from (n == n) (holds places i) (eq-eqb n n refl) member)

-- what the lane owes is still owed after the entry, or the record has its fate
abbrev pub StaysOwed : Setting → List Entry → Entry → LaneId → ℕ → Type 0
StaysOwed s h e lane i = In (debt_places (debts s (e ∷ h) lane)) i ⊎ (has_fate s (e ∷ h) lane.shard i ≡ true)

-- what the lane's first debt brings is no more owed
paid_cases : (s : Setting) (h : List Entry) (at : LaneId) (e : Entry) (i : ℕ) → IsOwed s h at e → (In (gave_places e) i → has_fate s (e ∷ h) at.shard i ≡ true) → In (debt_places (debts s h at)) i → StaysOwed s h e at i
paid_cases s h at e i owed fated member =
    let first = first_debt s h at e owed in
    let parts : debt_places (debts s h at) ≡ gave_places e ++ debt_places (drop 1 (debts s h at)) = ap debt_places first.parts ∙ ap (λ xs. xs ++ debt_places (drop 1 (debts s h at))) first.places in
    elim (In-append_cases (gave_places e) (debt_places (drop 1 (debts s h at))) i (subst (λ xs. In xs i) parts member)) [
      | inl named ↦ inr (fated named)
      | inr rest ↦ inl (subst (λ ds. In (debt_places ds) i) (sym (debt_paid s h at e owed)) rest)
    ]

paid_there : (s : Setting) (h : List Entry) (at lane : LaneId) (e : Entry) (i : ℕ) → same_lane at lane ≡ true → IsOwed s h at e → (In (gave_places e) i → has_fate s (e ∷ h) at.shard i ≡ true) → In (debt_places (debts s h lane)) i → StaysOwed s h e lane i
paid_there s h at lane e i same owed fated member =
    let is : at ≡ lane = same_lane-true at lane same in
    subst (λ l. StaysOwed s h e l i) is (paid_cases s h at e i owed fated (subst (λ l. In (debt_places (debts s h l)) i) (sym is) member))

gave_fated : (s : Setting) (h : List Entry) (at : LaneId) (n : ℕ) (places : List ℕ) (f : Fate) (line : Option (List ℕ)) (state : Option WindowState) (m i : ℕ)
    → IsOwed s h at (Gave (Some at) n places f line state m) → In places i → has_fate s (Gave (Some at) n places f line state m ∷ h) at.shard i ≡ true
gave_fated s h at n places f line state m i owed named =
    let first = first_debt s h at (Gave (Some at) n places f line state m) owed in
    subst (λ k. has_fate s (Gave (Some at) n places f line state m ∷ h) k i ≡ true) (gives_in_shard s h at _ first.first (Some at) n places f line state m first.brings)
    (named_fated s h (Some at) n places f line state m i named)

none_owed : (s : Setting) (h : List Entry) (lane : LaneId) (i : ℕ) → debts s h lane ≡ [] → In (debt_places (debts s h lane)) i → ⊥
none_owed s h lane i none member = In-none i (subst (λ ds. In (debt_places ds) i) none member)

pub stays_owed : (s : Setting) (h : List Entry) (e : Entry) (lane : LaneId) (i : ℕ) → Legal s (e ∷ h) → In (debt_places (debts s h lane)) i → StaysOwed s h e lane i
stays_owed s h (Came n first count m) lane i legal member = inl member
stays_owed s h (Replayed n places m) lane i legal member = inl member
stays_owed s h (Shut m) lane i legal member = inl member
stays_owed s h (Began at places None m) lane i legal member = absurd (none_owed s h lane i (legal.1.1.call.settled.paid lane) member)
stays_owed s h (Began at places (Some w) m) lane i legal member = absurd (none_owed s h lane i (legal.1.1.call.settled.paid lane) member)
stays_owed s h (Ended at reply m) lane i legal member =
    elim (cases_Bool (same_lane at lane)) [
      | inl same ↦ absurd (none_owed s h lane i ((sound s h legal.0 lane).quiet (subst (λ l. is_running h l ≡ true) (same_lane-true at lane same) legal.1.1)) member)
      | inr other ↦ inl (rw other member)
    ]
stays_owed s h (Gave None n places f line state m) lane i legal member = inl member
stays_owed s h (Gave (Some at) n places Filtered line state m) lane i legal member = absurd legal.1.1
stays_owed s h (Gave (Some at) n places Expired line state m) lane i legal member = absurd (none_owed s h lane i (legal.1.1.settled.paid lane) member)
stays_owed s h (Gave (Some at) n places Succeeded line state m) lane i legal member =
    elim (cases_Bool (same_lane at lane)) [
      | inl same ↦ paid_there s h at lane (Gave (Some at) n places Succeeded line state m) i same legal.1.1 (gave_fated s h at n places Succeeded line state m i legal.1.1) member
      | inr other ↦ inl (rw other member)
    ]
stays_owed s h (Gave (Some at) n places Exhausted line state m) lane i legal member =
    elim (cases_Bool (same_lane at lane)) [
      | inl same ↦ paid_there s h at lane (Gave (Some at) n places Exhausted line state m) i same legal.1.1 (gave_fated s h at n places Exhausted line state m i legal.1.1) member
      | inr other ↦ inl (rw other member)
    ]
stays_owed s h (Tried at places c t m) lane i legal member =
    elim (cases_Bool (same_lane at lane)) [
      | inl same ↦ paid_there s h at lane (Tried at places c t m) i same legal.1.1 (λ named. absurd (In-none i named)) member
      | inr other ↦ inl (rw other member)
    ]
stays_owed s h (Closed at w m) lane i legal member =
    elim (cases_Bool (same_lane at lane)) [
      | inl same ↦ paid_there s h at lane (Closed at w m) i same legal.1.1 (λ named. absurd (In-none i named)) member
      | inr other ↦ inl (rw other member)
    ]
