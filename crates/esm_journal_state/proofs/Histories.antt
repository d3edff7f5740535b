-- What holds of a history whose payloads may all be said, and none of which was bad.
use Rattle.std.proofs.Common.{◌≡◌, ℕ, ◌≤◌, ◌&&◌, ◌||◌, Bool, true, false, cond, eqb, not, List, [], ◌∷◌, length, Option, Some, None, refl, sym, ap, subst, ◌∙◌, inl, inr, ◌⊎◌, arith}
use Rattle.std.specs.Prelude.{is_some, IfSome, option_map}
use Rattle.std.specs.List.{AllByRecursion, list_all}
use Rattle.std.specs.Option.{option_or}
use Rattle.std.proofs.lemmas.Bool.{and_parts, cases_Bool, eqb-true, eq-eqb, or_parts}
use Rattle.esm_model.specs.Entries.{holds}
use Rattle.esm_model.specs.declared.limits.TheConstants.{MAX_DATA}
use Rattle.esm_model.specs.declared.moment.TheConstants.{MAX_MOMENT}
use Rattle.esm_model.specs.Sequence.{is_sequence}
use Rattle.esm_model.specs.declared.entry.WindowState.{WindowState}
use Rattle.esm_journal_state.specs.declared.kept.KeptFate.{KeptFate}
use Rattle.esm_journal_state.specs.declared.kept.KeptTries.{KeptTries}
use Rattle.esm_journal_record.specs.declared.said.Said.{Said}
use Rattle.esm_journal_record.specs.declared.said.Said.TheVariants.{Fates, Closed, Deleted, State, Tried, WindowTried, Replayed}
use Rattle.esm_journal_record.specs.Payload.{is_place, IsShard, IsMoment, IsTries, IsState, IsSaid, is_message_id, is_deletion}
use Rattle.esm_journal_state.specs.Meaning.{text_named, only_at, fate_kept, tries_kept, state_in, fate_said, tries_said, state_said, window_tries_said, replayed_said, deletion_said, has_failed, known, is_bad, is_spent, is_no_replay, any_named, is_good, is_good_said, history, are_good}
use Rattle.esm_journal_record.specs.Parsing.{said_of}
use Rattle.esm_journal_state.specs.Compact.{moment_of, greatest_moment}
use Rattle.esm_journal_state.proofs.Cutting.{Pair, pair_from_named}

-- none of the payloads was bad after those before it
abbrev pub Good : List Said → Type 0
Good [] = Unit {0}
Good (s ∷ h) = (is_bad (known h) s ≡ false) × Good h

abbrev pub AllSaid : List Said → Type 0
AllSaid h = AllByRecursion IsSaid h

contradicts : (b : Bool) → b ≡ true → not b ≡ true → ⊥
contradicts true p q = absurd cc
contradicts false p q = absurd cc

some_or_none : {A : Type 0} (o : Option A) → ((x : A) × (o ≡ Some x)) ⊎ (o ≡ None)
some_or_none None = inr refl
some_or_none (Some x) = inl (x, refl)

pub good_from : (payloads : List (List ℕ)) → are_good payloads ≡ true → Good (history payloads)
good_from [] good = tt
good_from (payload ∷ payloads) good =
    let parts = and_parts (are_good payloads) (is_good (history payloads) payload) good in
    elim (some_or_none (said_of payload)) [
      | inl said ↦
          (let passes : not (is_bad (known (history payloads)) said.0) ≡ true = sym (ap (is_good_said (history payloads)) said.1) ∙ parts.1 in
          let fine : is_bad (known (history payloads)) said.0 ≡ false =
          elim (cases_Bool (is_bad (known (history payloads)) said.0)) [ inl bad ↦ absurd (contradicts (is_bad (known (history payloads)) said.0) bad passes) | inr fine ↦ fine ] in
          let whole : Good (said.0 ∷ history payloads) = (fine, good_from payloads parts.0) in
          rw said.1 whole)
      | inr none ↦ (let never : is_good_said (history payloads) None ≡ true = sym (ap (is_good_said (history payloads)) none) ∙ parts.1 in absurd cc)
    ]

-- places with texts

pub valid_pair : (is_text : List ℕ → Bool) (places : List ℕ) (texts : List (List ℕ)) (i : ℕ) (t : List ℕ) → list_all is_place places ≡ true → list_all is_text texts ≡ true → Pair places texts i t
    → (is_place i ≡ true) × (is_text t ≡ true)
valid_pair is_text [] texts i t small spelled pair = absurd pair
valid_pair is_text (place ∷ places) [] i t small spelled pair = absurd pair
valid_pair is_text (place ∷ places) (text ∷ texts) i t small spelled pair =
    let a = and_parts (is_place place) (list_all is_place places) small in
    let b = and_parts (is_text text) (list_all is_text texts) spelled in
    elim pair [
      | inl here ↦ (ap is_place (sym here.0) ∙ a.0, ap is_text (sym here.1) ∙ b.0)
      | inr there ↦ valid_pair is_text places texts i t a.1 b.1 there
    ]

pub holds_pair : (places : List ℕ) (texts : List (List ℕ)) (i : ℕ) → length texts ≡ length places → holds places i ≡ true → (t : List ℕ) × Pair places texts i t
holds_pair [] texts i same e = absurd cc
holds_pair (place ∷ places) [] i same e = absurd (omega arith)
holds_pair (place ∷ places) (text ∷ texts) i same e =
    let fewer : length texts ≡ length places = omega arith in
    elim (cases_Bool (eqb place i)) [
      | inl hit ↦ (text, inl (eqb-true place i hit, refl))
      | inr miss ↦ (let later = holds_pair places texts i fewer (sym (ap (λ b. b || holds places i) miss) ∙ e) in (later.0, inr later.1))
    ]

or_after : (a b : Bool) → b ≡ true → (a || b) ≡ true
or_after true b e = refl
or_after false b e = e

pub pair_holds : (places : List ℕ) (texts : List (List ℕ)) (i : ℕ) (t : List ℕ) → Pair places texts i t → holds places i ≡ true
pair_holds [] texts i t pair = absurd pair
pair_holds (place ∷ places) [] i t pair = absurd pair
pair_holds (place ∷ places) (text ∷ texts) i t pair =
    elim pair [
      | inl here ↦ ap (λ b. b || holds places i) (eq-eqb place i here.0)
      | inr there ↦ or_after (eqb place i) (holds places i) (pair_holds places texts i t there)
    ]

pub not_any : (fails : ℕ → List ℕ → Bool) (places : List ℕ) (texts : List (List ℕ)) (i : ℕ) (t : List ℕ) → any_named fails places texts ≡ false → Pair places texts i t → fails i t ≡ false
not_any fails [] texts i t none pair = absurd pair
not_any fails (place ∷ places) [] i t none pair = absurd pair
not_any fails (place ∷ places) (text ∷ texts) i t none pair =
    let parts = or_parts (fails place text) (any_named fails places texts) none in
    elim pair [
      | inl here ↦ ap (λ x. fails x t) (sym here.0) ∙ ap (λ y. fails place y) (sym here.1) ∙ parts.0
      | inr there ↦ not_any fails places texts i t parts.1 there
    ]

pub none_of : (fails : ℕ → List ℕ → Bool) (places : List ℕ) (texts : List (List ℕ)) → ((i : ℕ) (t : List ℕ) → Pair places texts i t → fails i t ≡ false) → any_named fails places texts ≡ false
none_of fails [] texts passes = refl
none_of fails (place ∷ places) [] passes = refl
none_of fails (place ∷ places) (text ∷ texts) passes =
    ap (λ b. b || any_named fails places texts) (passes place text (inl (refl, refl))) ∙ none_of fails places texts (λ i t pair. passes i t (inr pair))

-- options

pub first_or_before : {A : Type 0} (f : List ℕ → A) (b : Bool) (o : Option (List ℕ)) (before : Option A) (x : A) → option_or (only_at b (option_map f o)) before ≡ Some x
    → ((b ≡ true) × ((t : List ℕ) × (o ≡ Some t) × (f t ≡ x))) ⊎ (before ≡ Some x)
first_or_before f true None before x e = inr e
first_or_before f true (Some t) before x e = inl (refl, (t, refl, cc))
first_or_before f false o before x e = inr e

pub unless_named : {A : Type 0} (b : Bool) (before : Option A) (x : A) → cond b None before ≡ Some x → (b ≡ false) × (before ≡ Some x)
unless_named true before x e = absurd cc
unless_named false before x e = (refl, e)

-- what may be said of a place, a window or a moment

abbrev FateValid : ℕ → ℕ → KeptFate → Type 0
FateValid n i k = IsShard n × (is_place i ≡ true) × (is_sequence k.text ≡ true)

pub fate_valid : (h : List Said) (n i : ℕ) (k : KeptFate) → AllSaid h → fate_said h n i ≡ Some k → FateValid n i k
fate_valid [] n i k said e = absurd cc
fate_valid (Fates shard fate moment state places texts ∷ h) n i k said e =
    elim (first_or_before (fate_kept fate) (eqb shard n) (text_named places texts i) (fate_said h n i) k e) [
      | inl here ↦
          (let s = said.0 in
          let t = here.1 in
          let v = valid_pair is_sequence places texts i t.0 s.4.small s.4.spelled (pair_from_named places texts i t.0 t.1) in
          (subst IsShard (eqb-true shard n here.0) s.0, v.0, ap (λ (x : KeptFate). is_sequence x.text) (sym t.2) ∙ v.1))
      | inr before ↦ fate_valid h n i k said.1 before
    ]
fate_valid (Closed shard window moment ∷ h) n i k said e = fate_valid h n i k said.1 e
fate_valid (Deleted fate moment places texts ∷ h) n i k said e = fate_valid h n i k said.1 e
fate_valid (State shard moment state ∷ h) n i k said e = fate_valid h n i k said.1 e
fate_valid (Tried shard moment tries places texts ∷ h) n i k said e = fate_valid h n i k said.1 e
fate_valid (WindowTried shard window moment tries ∷ h) n i k said e = fate_valid h n i k said.1 e
fate_valid (Replayed shard moment places texts ∷ h) n i k said e = fate_valid h n i k said.1 e

abbrev TriesValid : ℕ → ℕ → KeptTries → Type 0
TriesValid n i k = IsShard n × (is_place i ≡ true) × (is_sequence k.text ≡ true) × IsTries k.tries

pub tries_valid : (h : List Said) (n i : ℕ) (k : KeptTries) → AllSaid h → tries_said h n i ≡ Some k → TriesValid n i k
tries_valid [] n i k said e = absurd cc
tries_valid (Fates shard fate moment state places texts ∷ h) n i k said e =
    tries_valid h n i k said.1 (unless_named (eqb shard n && holds places i) (tries_said h n i) k e).1
tries_valid (Closed shard window moment ∷ h) n i k said e = tries_valid h n i k said.1 e
tries_valid (Deleted fate moment places texts ∷ h) n i k said e = tries_valid h n i k said.1 e
tries_valid (State shard moment state ∷ h) n i k said e = tries_valid h n i k said.1 e
tries_valid (Tried shard moment tries places texts ∷ h) n i k said e =
    elim (first_or_before (tries_kept tries) (eqb shard n) (text_named places texts i) (tries_said h n i) k e) [
      | inl here ↦
          (let s = said.0 in
          let t = here.1 in
          let v = valid_pair is_sequence places texts i t.0 s.3.small s.3.spelled (pair_from_named places texts i t.0 t.1) in
          (subst IsShard (eqb-true shard n here.0) s.0, v.0, ap (λ (x : KeptTries). is_sequence x.text) (sym t.2) ∙ v.1, subst IsTries (ap (λ (x : KeptTries). x.tries) t.2) s.2))
      | inr before ↦ tries_valid h n i k said.1 before
    ]
tries_valid (WindowTried shard window moment tries ∷ h) n i k said e = tries_valid h n i k said.1 e
tries_valid (Replayed shard moment places texts ∷ h) n i k said e = tries_valid h n i k said.1 e

abbrev DeletionValid : ℕ → KeptFate → Type 0
DeletionValid i k = (is_place i ≡ true) × (is_message_id k.text ≡ true) × (is_deletion k.fate ≡ true)

pub deletion_valid : (h : List Said) (i : ℕ) (k : KeptFate) → AllSaid h → deletion_said h i ≡ Some k → DeletionValid i k
deletion_valid [] i k said e = absurd cc
deletion_valid (Fates shard fate moment state places texts ∷ h) i k said e = deletion_valid h i k said.1 e
deletion_valid (Closed shard window moment ∷ h) i k said e = deletion_valid h i k said.1 e
deletion_valid (Deleted fate moment places texts ∷ h) i k said e =
    elim (first_or_before (fate_kept fate) true (text_named places texts i) (deletion_said h i) k e) [
      | inl here ↦
          (let s = said.0 in
          let t = here.1 in
          let v = valid_pair is_message_id places texts i t.0 s.2.small s.2.spelled (pair_from_named places texts i t.0 t.1) in
          (v.0, ap (λ (x : KeptFate). is_message_id x.text) (sym t.2) ∙ v.1, ap (λ (x : KeptFate). is_deletion x.fate) (sym t.2) ∙ s.0))
      | inr before ↦ deletion_valid h i k said.1 before
    ]
deletion_valid (State shard moment state ∷ h) i k said e = deletion_valid h i k said.1 e
deletion_valid (Tried shard moment tries places texts ∷ h) i k said e = deletion_valid h i k said.1 e
deletion_valid (WindowTried shard window moment tries ∷ h) i k said e = deletion_valid h i k said.1 e
deletion_valid (Replayed shard moment places texts ∷ h) i k said e = deletion_valid h i k said.1 e

abbrev StateValid : ℕ → ℕ → List ℕ → Type 0
StateValid n w t = IsShard n × IsMoment w × (length t ≤ MAX_DATA)

state_or_before : (b : Bool) (state : Option WindowState) (w : ℕ) (before : Option (List ℕ)) (t : List ℕ) → option_or (only_at b (state_in state w)) before ≡ Some t → IfSome state IsState
    → ((b ≡ true) × (IsMoment w × (length t ≤ MAX_DATA))) ⊎ (before ≡ Some t)
state_or_before false state w before t e valid = inr e
state_or_before true None w before t e valid = inr e
state_or_before true (Some state) w before t e valid =
    elim (cases_Bool (eqb state.window w)) [
      | inl hit ↦
          (let same : Some state.text ≡ Some t = sym (ap (λ b. option_or (cond b (Some state.text) None) before) hit) ∙ e in
          let is : state.text ≡ t = cc in
          inl (refl, (subst IsMoment (eqb-true state.window w hit) valid.0, subst (λ x. length x ≤ MAX_DATA) is valid.1)))
      | inr miss ↦ inr (sym (ap (λ b. option_or (cond b (Some state.text) None) before) miss) ∙ e)
    ]

pub state_valid : (h : List Said) (n w : ℕ) (t : List ℕ) → AllSaid h → state_said h n w ≡ Some t → StateValid n w t
state_valid [] n w t said e = absurd cc
state_valid (Fates shard fate moment state places texts ∷ h) n w t said e =
    elim (state_or_before (eqb shard n) state w (state_said h n w) t e said.0.2) [
      | inl here ↦ (subst IsShard (eqb-true shard n here.0) said.0.0, here.1.0, here.1.1)
      | inr before ↦ state_valid h n w t said.1 before
    ]
state_valid (Closed shard window moment ∷ h) n w t said e = state_valid h n w t said.1 (unless_named (eqb shard n && eqb window w) (state_said h n w) t e).1
state_valid (Deleted fate moment places texts ∷ h) n w t said e = state_valid h n w t said.1 e
state_valid (State shard moment state ∷ h) n w t said e =
    elim (state_or_before (eqb shard n) (Some state) w (state_said h n w) t e said.0.2) [
      | inl here ↦ (subst IsShard (eqb-true shard n here.0) said.0.0, here.1.0, here.1.1)
      | inr before ↦ state_valid h n w t said.1 before
    ]
state_valid (Tried shard moment tries places texts ∷ h) n w t said e = state_valid h n w t said.1 e
state_valid (WindowTried shard window moment tries ∷ h) n w t said e = state_valid h n w t said.1 e
state_valid (Replayed shard moment places texts ∷ h) n w t said e = state_valid h n w t said.1 e

abbrev WindowTriesValid : ℕ → ℕ → ℕ → Type 0
WindowTriesValid n w k = IsShard n × IsMoment w × IsTries k

pub window_tries_valid : (h : List Said) (n w k : ℕ) → AllSaid h → window_tries_said h n w ≡ Some k → WindowTriesValid n w k
window_tries_valid [] n w k said e = absurd cc
window_tries_valid (Fates shard fate moment state places texts ∷ h) n w k said e = window_tries_valid h n w k said.1 e
window_tries_valid (Closed shard window moment ∷ h) n w k said e = window_tries_valid h n w k said.1 (unless_named (eqb shard n && eqb window w) (window_tries_said h n w) k e).1
window_tries_valid (Deleted fate moment places texts ∷ h) n w k said e = window_tries_valid h n w k said.1 e
window_tries_valid (State shard moment state ∷ h) n w k said e = window_tries_valid h n w k said.1 e
window_tries_valid (Tried shard moment tries places texts ∷ h) n w k said e = window_tries_valid h n w k said.1 e
window_tries_valid (WindowTried shard window moment tries ∷ h) n w k said e =
    elim (cases_Bool (eqb shard n && eqb window w)) [
      | inl hit ↦
          (let parts = and_parts (eqb shard n) (eqb window w) hit in
          let same : Some tries ≡ Some k = sym (ap (λ b. cond b (Some tries) (window_tries_said h n w)) hit) ∙ e in
          let is : tries ≡ k = cc in
          (subst IsShard (eqb-true shard n parts.0) said.0.0, subst IsMoment (eqb-true window w parts.1) said.0.1, subst IsTries is said.0.3))
      | inr miss ↦ window_tries_valid h n w k said.1 (sym (ap (λ b. cond b (Some tries) (window_tries_said h n w)) miss) ∙ e)
    ]
window_tries_valid (Replayed shard moment places texts ∷ h) n w k said e = window_tries_valid h n w k said.1 e

moment_valid : (s : Said) → IsSaid s → moment_of s ≤ MAX_MOMENT
moment_valid (Fates shard fate moment state places texts) said = said.1
moment_valid (Closed shard window moment) said = said.2
moment_valid (Deleted fate moment places texts) said = said.1
moment_valid (State shard moment state) said = said.1
moment_valid (Tried shard moment tries places texts) said = said.1
moment_valid (WindowTried shard window moment tries) said = said.2
moment_valid (Replayed shard moment places texts) said = said.1

pub greatest_valid : (h : List Said) → AllSaid h → greatest_moment h ≤ MAX_MOMENT
greatest_valid [] said = omega arith
greatest_valid (s ∷ h) said = omega (arith, moment_valid s said.0, greatest_valid h said.1)

-- in a good history

named_or_not : (b : Bool) (o : Option (List ℕ)) {A : Type 0} (f : List ℕ → A) (before : Option A) → ((t : List ℕ) → b ≡ true → o ≡ Some t → ⊥) → option_or (only_at b (option_map f o)) before ≡ before
named_or_not true None f before never = refl
named_or_not true (Some t) f before never = absurd (never t refl refl)
named_or_not false o f before never = refl

-- a place that a good payload names with a new fate or with tries has no fate
no_fate : (h : List Said) (shard n i : ℕ) (places : List ℕ) (texts : List (List ℕ)) (t : List ℕ) → any_named (is_spent (known h) shard) places texts ≡ false → eqb shard n ≡ true → Pair places texts i t → is_some (fate_said h n i) ≡ false
no_fate h shard n i places texts t fine at pair =
    let spent = not_any (is_spent (known h) shard) places texts i t fine pair in
    sym (ap (λ k. is_some (fate_said h k i)) (eqb-true shard n at)) ∙ (or_parts (is_some (fate_said h shard i)) _ spent).0

none_from_false : {A : Type 0} (o : Option A) → is_some o ≡ false → o ≡ None
none_from_false None e = refl
none_from_false (Some x) e = absurd cc

-- a place with tries has no fate
pub tries_without_fate : (h : List Said) (n i : ℕ) (k : KeptTries) → AllSaid h → Good h → tries_said h n i ≡ Some k → fate_said h n i ≡ None
tries_without_fate [] n i k said good e = refl
tries_without_fate (Fates shard fate moment state places texts ∷ h) n i k said good e =
    let u = unless_named (eqb shard n && holds places i) (tries_said h n i) k e in
    named_or_not (eqb shard n) (text_named places texts i) (fate_kept fate) (fate_said h n i)
    (λ t at named. let held = pair_holds places texts i t (pair_from_named places texts i t named) in
    let both : (eqb shard n && holds places i) ≡ true = rw (at, held) refl in
    absurd cc)
    ∙ tries_without_fate h n i k said.1 good.1 u.1
tries_without_fate (Closed shard window moment ∷ h) n i k said good e = tries_without_fate h n i k said.1 good.1 e
tries_without_fate (Deleted fate moment places texts ∷ h) n i k said good e = tries_without_fate h n i k said.1 good.1 e
tries_without_fate (State shard moment state ∷ h) n i k said good e = tries_without_fate h n i k said.1 good.1 e
tries_without_fate (Tried shard moment tries places texts ∷ h) n i k said good e =
    elim (first_or_before (tries_kept tries) (eqb shard n) (text_named places texts i) (tries_said h n i) k e) [
      | inl here ↦ none_from_false (fate_said h n i) (no_fate h shard n i places texts here.1.0 good.0 here.0 (pair_from_named places texts i here.1.0 here.1.1))
      | inr before ↦ tries_without_fate h n i k said.1 good.1 before
    ]
tries_without_fate (WindowTried shard window moment tries ∷ h) n i k said good e = tries_without_fate h n i k said.1 good.1 e
tries_without_fate (Replayed shard moment places texts ∷ h) n i k said good e = tries_without_fate h n i k said.1 good.1 e

failed_is_some : (o : Option KeptFate) → has_failed o ≡ true → is_some o ≡ true
failed_is_some None e = absurd cc
failed_is_some (Some k) e = refl

true_from_not : (b : Bool) → not b ≡ false → b ≡ true
true_from_not true e = refl
true_from_not false e = absurd cc

-- a place that was replayed had failed for good
pub replayed_failed : (h : List Said) (n i : ℕ) → AllSaid h → Good h → replayed_said h n i ≡ true → has_failed (fate_said h n i) ≡ true
replayed_failed [] n i said good e = absurd cc
replayed_failed (Fates shard fate moment state places texts ∷ h) n i said good e =
    let failed = replayed_failed h n i said.1 good.1 e in
    let same : option_or (only_at (eqb shard n) (option_map (fate_kept fate) (text_named places texts i))) (fate_said h n i) ≡ fate_said h n i =
    named_or_not (eqb shard n) (text_named places texts i) (fate_kept fate) (fate_said h n i)
    (λ t at named. let none = no_fate h shard n i places texts t good.0 at (pair_from_named places texts i t named) in
    let some = failed_is_some (fate_said h n i) failed in
    absurd cc) in
    ap has_failed same ∙ failed
replayed_failed (Closed shard window moment ∷ h) n i said good e = replayed_failed h n i said.1 good.1 e
replayed_failed (Deleted fate moment places texts ∷ h) n i said good e = replayed_failed h n i said.1 good.1 e
replayed_failed (State shard moment state ∷ h) n i said good e = replayed_failed h n i said.1 good.1 e
replayed_failed (Tried shard moment tries places texts ∷ h) n i said good e = replayed_failed h n i said.1 good.1 e
replayed_failed (WindowTried shard window moment tries ∷ h) n i said good e = replayed_failed h n i said.1 good.1 e
replayed_failed (Replayed shard moment places texts ∷ h) n i said good e =
    elim (cases_Bool (eqb shard n && holds places i)) [
      | inl hit ↦
          (let parts = and_parts (eqb shard n) (holds places i) hit in
          let pair = holds_pair places texts i said.0.2.same parts.1 in
          let fine = not_any (is_no_replay (known h) shard) places texts i pair.0 good.0 pair.1 in
          let first = (or_parts (not (has_failed (fate_said h shard i))) (replayed_said h shard i) (or_parts (not (has_failed (fate_said h shard i)) || replayed_said h shard i) _ fine).0).0 in
          sym (ap (λ x. has_failed (fate_said h x i)) (eqb-true shard n parts.0)) ∙ true_from_not (has_failed (fate_said h shard i)) first)
      | inr miss ↦ replayed_failed h n i said.1 good.1 (sym (ap (λ b. b || replayed_said h n i) miss) ∙ e)
    ]
