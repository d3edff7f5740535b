-- What payloads say lies within its bounds: a number of tries, and a window with its state.
use Rattle.std.proofs.Common.{◌≡◌, ℕ, ◌≤◌, Bool, true, false, cond, leb, ltb, eqb, ◌&&◌, List, [], ◌∷◌, map, length, take, drop, refl, sym, ap, ◌∙◌, subst, arith, inl, inr, ◌⊎◌, Option, Some, None}
use Rattle.std.specs.Prelude.{IfSome, find, option_map}
use Rattle.std.specs.Option.{option_or}
use Rattle.std.specs.List.{AllByRecursion, cons_option}
use Rattle.std.specs.List.Sorted.{IsStrictlySortedBy}
use Rattle.std.specs.Map.{lookup, keys_of}
use Rattle.std.specs.BTreeMap.{is_at}
use Rattle.std.specs.Int.{w32, w64}
use Rattle.std.proofs.lemmas.Bool.{cases_Bool, and_parts, leb-true, eqb-true}
use Rattle.std.proofs.lemmas.List.{length-take}
use Rattle.std.proofs.lemmas.List.Elements.{All-from_recursion}
use Rattle.std.proofs.lemmas.Option.{cond_some}
use Rattle.esm_model.specs.declared.limits.TheConstants.{MAX_DATA, MAX_TRIES}
use Rattle.esm_model.specs.declared.moment.TheConstants.{MAX_MOMENT}
use Rattle.esm_model.specs.declared.config.Config.{Config}
use Rattle.esm_model.specs.declared.entry.WindowState.{WindowState}
use Rattle.esm_model.specs.declared.setup.FoundState.{FoundState}
use Rattle.esm_model.specs.declared.setup.FoundTries.{FoundTries}
use Rattle.esm_model.specs.Entries.{holds}
use Rattle.esm_model.specs.Valid.{is_between}
use Rattle.esm_journal_record.specs.declared.said.Said.{Said}
use Rattle.esm_journal_record.specs.declared.said.Said.TheVariants.{Fates, Closed, Deleted, State, Tried, WindowTried, Replayed}
use Rattle.esm_journal_record.specs.Payload.{may_keep, IsMoment, IsTries, IsState}
use Rattle.esm_journal_record.specs.Parsing.{◌>>=◌, ◌⊗◌, only, made, number_at, byte_at, taken, shard_at, moment_at, tries_at, fate_at, text_at, state_of, flagged_at, named_at, fates_at, closed_at, deleted_at, state_at, tried_at, window_tried_at, replayed_at, said_at, said_of}
use Rattle.esm_model.specs.Sequence.{is_sequence}
use Rattle.esm_journal_record.proofs.Fields.{bind_some, some_is, chosen}
use Rattle.esm_journal_state.specs.declared.kept.KeptTries.{KeptTries}
use Rattle.esm_journal_state.specs.Meaning.{text_named, only_at, tries_kept, tries_said, state_in, state_said, history}
use Rattle.esm_journal_state.specs.SaidLists.{SaidLists, IsInOrder, pair_cmp, state_told}
use Rattle.esm_journal_state.specs.Tells.{Tells, tries_of_found}
use Rattle.esm_journal_state.specs.View.{found_state, stated}
use Rattle.esm_journal_state.proofs.Finding.{state_found}
use Rattle.esm_journal_state.proofs.Histories.{first_or_before, unless_named}
use Rattle.esm_journal_state.proofs.KindLemmas.{all_found}
use Rattle.esm_shard_index.specs.LaneHistory.{HasFoundTries}
use Rattle.esm_ledger.specs.Ledger.{opened_with}
use Rattle.esm_record_bounds.specs.Bounds.{IsStateWithin, AreStatesWithin}

-- what is read of one payload

-- whatever bytes the field reads, its value has the property
abbrev Yields : (A : Type 0) → (List ℕ → Option (A × List ℕ)) → (A → Type 0) → Type 0
Yields A field P = (bytes : List ℕ) (x : A × List ℕ) → field bytes ≡ Some x → P x.0

yields_any : {A : Type 0} (field : List ℕ → Option (A × List ℕ)) → Yields A field (λ x. Unit {0})
yields_any field bytes x e = tt

yields_both : {A B : Type 0} (f : List ℕ → Option (A × List ℕ)) (g : List ℕ → Option (B × List ℕ)) (P : A → Type 0) (Q : B → Type 0) → Yields A f P → Yields B g Q → Yields (A × B) (f ⊗ g) (λ x. P x.0 × Q x.1)
yields_both {A} {B} f g P Q first second bytes x e =
    let a = bind_some (f bytes) (λ y. g y.1 >>= λ z. Some ((y.0, z.0), z.1)) x e in
    let b = bind_some (g a.0.1) (λ z. Some ((a.0.0, z.0), z.1)) x a.2 in
    let is = some_is ((a.0.0, b.0.0), b.0.1) x b.2 in
    subst (λ (z : (A × B) × List ℕ). P z.0.0 × Q z.0.1) is (first bytes a.0 a.1, second a.0.1 b.0 b.1)

yields_only : {A : Type 0} (passes : A → Bool) (f : List ℕ → Option (A × List ℕ)) (P : A → Type 0) → Yields A f P → Yields A (only passes f) (λ x. P x × (passes x ≡ true))
yields_only {A} passes f P yields bytes x e =
    let a = bind_some (f bytes) (λ y. cond (passes y.0) (Some y) None) x e in
    let b = cond_some (passes a.0.0) a.0 x a.2 in
    subst (λ (z : A × List ℕ). P z.0 × (passes z.0 ≡ true)) b.1 (yields bytes a.0 a.1, b.0)

yields_made : {A B : Type 0} (make : A → B) (f : List ℕ → Option (A × List ℕ)) (P : A → Type 0) (Q : B → Type 0) → Yields A f P → ((x : A) → P x → Q (make x)) → Yields B (made make f) Q
yields_made {A} {B} make f P Q yields makes bytes y e =
    let a = bind_some (f bytes) (λ x. Some (make x.0, x.1)) y e in
    let is = some_is (make a.0.0, a.0.1) y a.2 in
    subst (λ (z : B × List ℕ). Q z.0) is (makes a.0.0 (yields bytes a.0 a.1))

moment_yields : Yields ℕ moment_at IsMoment
unfolding moment_at
moment_yields bytes x e = leb-true x.0 MAX_MOMENT (yields_only (λ n. leb n MAX_MOMENT) (number_at w64) (λ n. Unit {0}) (yields_any (number_at w64)) bytes x e).1

tries_yield : Yields ℕ tries_at IsTries
unfolding tries_at
tries_yield bytes x e = (yields_only (is_between 1 MAX_TRIES) (number_at w32) (λ n. Unit {0}) (yields_any (number_at w32)) bytes x e).1

taken_short : (n : ℕ) → Yields (List ℕ) (taken n) (λ text. length text ≤ n)
unfolding taken
taken_short n bytes x e = elim (chosen (ltb (length bytes) n) None (Some (take n bytes, drop n bytes)) (Some x) e) [
  | inl short ↦ absurd (cc)
  | inr fits ↦ (
      let is = some_is (take n bytes, drop n bytes) x fits.1 in
      subst (λ (z : List ℕ × List ℕ). length z.0 ≤ n) is (omega (arith, length-take n bytes)))
]

text_yields : Yields (List ℕ) text_at (λ text. length text ≤ MAX_DATA)
unfolding text_at
text_yields bytes x e =
    let a = bind_some (only (λ n. leb n MAX_DATA) (number_at w32) bytes) (λ n. taken n.0 n.1) x e in
    let few = leb-true a.0.0 MAX_DATA (yields_only (λ n. leb n MAX_DATA) (number_at w32) (λ n. Unit {0}) (yields_any (number_at w32)) bytes a.0 a.1).1 in
    let short = taken_short a.0.0 a.0.1 x a.2 in
    omega (arith, few, short)

window_yields : Yields (ℕ × List ℕ) (moment_at ⊗ text_at) (λ x. IsMoment x.0 × (length x.1 ≤ MAX_DATA))
window_yields = yields_both moment_at text_at IsMoment (λ text. length text ≤ MAX_DATA) moment_yields text_yields

abbrev window_of : ℕ × List ℕ → Option WindowState
window_of x = Some (state_of x)

flagged_yields : Yields (Option WindowState) flagged_at (λ state. IfSome state IsState)
unfolding flagged_at
flagged_yields bytes x e =
    let a = bind_some (byte_at bytes) (λ flag. cond (eqb flag.0 0) (Some (None, flag.1)) (cond (eqb flag.0 1) (made window_of (moment_at ⊗ text_at) flag.1) None)) x e in
    elim (chosen (eqb a.0.0 0) (Some (None, a.0.1)) (cond (eqb a.0.0 1) (made window_of (moment_at ⊗ text_at) a.0.1) None) (Some x) a.2) [
      | inl none ↦ (let is = some_is (None, a.0.1) x none.1 in subst (λ (z : Option WindowState × List ℕ). IfSome z.0 IsState) is tt)
      | inr other ↦ (elim (chosen (eqb a.0.0 1) (made window_of (moment_at ⊗ text_at) a.0.1) None (Some x) other.1) [
        | inl some ↦
            yields_made window_of (moment_at ⊗ text_at) (λ y. IsMoment y.0 × (length y.1 ≤ MAX_DATA)) (λ state. IfSome state IsState) window_yields (λ y p. (p.0, p.1)) a.0.1 x some.1
        | inr neither ↦ absurd (cc)
      ])
    ]

-- what is said keeps its bounds
abbrev IsWithin : Said → Type 0
IsWithin (Fates shard fate moment state places texts) = IfSome state IsState
IsWithin (State shard moment state) = IsState state
IsWithin (Tried shard moment tries places texts) = IsTries tries
IsWithin _ = Unit {0}

fates_yield : Yields Said fates_at IsWithin
unfolding fates_at
fates_yield =
    yields_made (λ x. Fates x.0 x.1.0 x.1.1.0 x.1.1.1.0 x.1.1.1.1.places x.1.1.1.1.texts) (only (λ x. may_keep x.1.0 x.1.1.1.0) (shard_at ⊗ fate_at ⊗ moment_at ⊗ flagged_at ⊗ named_at is_sequence))
    (λ x. (Unit {0} × (Unit {0} × (Unit {0} × (IfSome x.1.1.1.0 IsState × Unit {0})))) × (may_keep x.1.0 x.1.1.1.0 ≡ true)) IsWithin
    (yields_only (λ x. may_keep x.1.0 x.1.1.1.0) (shard_at ⊗ fate_at ⊗ moment_at ⊗ flagged_at ⊗ named_at is_sequence) (λ x. Unit {0} × (Unit {0} × (Unit {0} × (IfSome x.1.1.1.0 IsState × Unit {0}))))
    (yields_both shard_at (fate_at ⊗ moment_at ⊗ flagged_at ⊗ named_at is_sequence) (λ x. Unit {0}) (λ x. Unit {0} × (Unit {0} × (IfSome x.1.1.0 IsState × Unit {0}))) (yields_any shard_at)
    (yields_both fate_at (moment_at ⊗ flagged_at ⊗ named_at is_sequence) (λ x. Unit {0}) (λ x. Unit {0} × (IfSome x.1.0 IsState × Unit {0})) (yields_any fate_at)
    (yields_both moment_at (flagged_at ⊗ named_at is_sequence) (λ x. Unit {0}) (λ x. IfSome x.0 IsState × Unit {0}) (yields_any moment_at)
    (yields_both flagged_at (named_at is_sequence) (λ state. IfSome state IsState) (λ x. Unit {0}) flagged_yields (yields_any (named_at is_sequence)))))))
    (λ x p. p.0.1.1.1.0)

state_yields : Yields Said state_at IsWithin
unfolding state_at
state_yields =
    yields_made (λ x. State x.0 x.1.1.0 (state_of (x.1.0, x.1.1.1))) (shard_at ⊗ moment_at ⊗ moment_at ⊗ text_at) (λ x. Unit {0} × (IsMoment x.1.0 × (IsMoment x.1.1.0 × (length x.1.1.1 ≤ MAX_DATA)))) IsWithin
    (yields_both shard_at (moment_at ⊗ moment_at ⊗ text_at) (λ x. Unit {0}) (λ x. IsMoment x.0 × (IsMoment x.1.0 × (length x.1.1 ≤ MAX_DATA))) (yields_any shard_at)
    (yields_both moment_at (moment_at ⊗ text_at) IsMoment (λ x. IsMoment x.0 × (length x.1 ≤ MAX_DATA)) moment_yields window_yields))
    (λ x p. (p.1.0, p.1.1.1))

tried_yields : Yields Said tried_at IsWithin
unfolding tried_at
tried_yields =
    yields_made (λ x. Tried x.0 x.1.0 x.1.1.0 x.1.1.1.places x.1.1.1.texts) (shard_at ⊗ moment_at ⊗ tries_at ⊗ named_at is_sequence) (λ x. Unit {0} × (Unit {0} × (IsTries x.1.1.0 × Unit {0}))) IsWithin
    (yields_both shard_at (moment_at ⊗ tries_at ⊗ named_at is_sequence) (λ x. Unit {0}) (λ x. Unit {0} × (IsTries x.1.0 × Unit {0})) (yields_any shard_at)
    (yields_both moment_at (tries_at ⊗ named_at is_sequence) (λ x. Unit {0}) (λ x. IsTries x.0 × Unit {0}) (yields_any moment_at)
    (yields_both tries_at (named_at is_sequence) IsTries (λ x. Unit {0}) tries_yield (yields_any (named_at is_sequence)))))
    (λ x p. p.1.1.0)

-- the kinds of which nothing is to be kept
closed_yields : Yields Said closed_at IsWithin
unfolding closed_at
closed_yields = yields_made (λ x. Closed x.0 x.1.0 x.1.1) (shard_at ⊗ moment_at ⊗ moment_at) (λ x. Unit {0}) IsWithin (yields_any (shard_at ⊗ moment_at ⊗ moment_at)) (λ x p. tt)

deleted_yields : Yields Said deleted_at IsWithin
unfolding deleted_at
deleted_yields = yields_made _ _ (λ x. Unit {0}) IsWithin (yields_any _) (λ x p. tt)

window_tried_yields : Yields Said window_tried_at IsWithin
unfolding window_tried_at
window_tried_yields = yields_made (λ x. WindowTried x.0 x.1.0 x.1.1.0 x.1.1.1) (shard_at ⊗ moment_at ⊗ moment_at ⊗ tries_at) (λ x. Unit {0}) IsWithin (yields_any (shard_at ⊗ moment_at ⊗ moment_at ⊗ tries_at)) (λ x p. tt)

replayed_yields : Yields Said replayed_at IsWithin
unfolding replayed_at
replayed_yields = yields_made (λ x. Replayed x.0 x.1.0 x.1.1.places x.1.1.texts) (shard_at ⊗ moment_at ⊗ named_at is_sequence) (λ x. Unit {0}) IsWithin (yields_any (shard_at ⊗ moment_at ⊗ named_at is_sequence)) (λ x p. tt)

-- the one kind, or one of the others
either_yields : (b : Bool) (one other : List ℕ → Option (Said × List ℕ)) → Yields Said one IsWithin → Yields Said other IsWithin → Yields Said (λ bytes. cond b (one bytes) (other bytes)) IsWithin
either_yields true one other i j = i
either_yields false one other i j = j

no_kind : Yields Said (λ bytes. None) IsWithin
no_kind bytes x e = absurd (cc)

kinds_yield : (kind : ℕ) → Yields Said (said_at kind) IsWithin
unfolding said_at
kinds_yield kind =
    either_yields (eqb kind 1) fates_at _ fates_yield
    (either_yields (eqb kind 2) closed_at _ closed_yields
    (either_yields (eqb kind 3) deleted_at _ deleted_yields
    (either_yields (eqb kind 4) state_at _ state_yields
    (either_yields (eqb kind 5) tried_at _ tried_yields
    (either_yields (eqb kind 6) window_tried_at _ window_tried_yields
    (either_yields (eqb kind 7) replayed_at (λ bytes. None) replayed_yields no_kind))))))

said_within : (bytes : List ℕ) (said : Said) → said_of bytes ≡ Some said → IsWithin said
unfolding said_of
said_within bytes said e =
    let k = bind_some (byte_at bytes) (λ kind. said_at kind.0 kind.1 >>= λ x. cond (eqb (length x.1) 0) (Some x.0) None) said e in
    let a = bind_some (said_at k.0.0 k.0.1) (λ x. cond (eqb (length x.1) 0) (Some x.0) None) said k.2 in
    let b = cond_some (eqb (length a.0.1) 0) a.0.0 said a.2 in
    subst IsWithin b.1 (kinds_yield k.0.0 k.0.1 a.0 a.1)

-- what all payloads say

cons_within : (o : Option Said) (h : List Said) → ((said : Said) → o ≡ Some said → IsWithin said) → AllByRecursion IsWithin h → AllByRecursion IsWithin (cons_option o h)
cons_within None h within all = all
cons_within (Some said) h within all = (within said refl, all)

all_within : (payloads : List (List ℕ)) → AllByRecursion IsWithin (history payloads)
all_within [] = tt
all_within (payload ∷ payloads) = cons_within (said_of payload) (history payloads) (said_within payload) (all_within payloads)

tries_within : (h : List Said) (n i : ℕ) (k : KeptTries) → AllByRecursion IsWithin h → tries_said h n i ≡ Some k → IsTries k.tries
tries_within [] n i k all e = absurd (cc)
tries_within (Fates shard fate moment state places texts ∷ h) n i k all e = tries_within h n i k all.1 (unless_named ((eqb shard n) && holds places i) (tries_said h n i) k e).1
tries_within (Closed shard window moment ∷ h) n i k all e = tries_within h n i k all.1 e
tries_within (Deleted fate moment places texts ∷ h) n i k all e = tries_within h n i k all.1 e
tries_within (State shard moment state ∷ h) n i k all e = tries_within h n i k all.1 e
tries_within (Tried shard moment tries places texts ∷ h) n i k all e =
    elim (first_or_before (tries_kept tries) (eqb shard n) (text_named places texts i) (tries_said h n i) k e) [
      | inl here ↦ subst IsTries (ap (λ (x : KeptTries). x.tries) here.1.2) all.0
      | inr before ↦ tries_within h n i k all.1 before
    ]
tries_within (WindowTried shard window moment tries ∷ h) n i k all e = tries_within h n i k all.1 e
tries_within (Replayed shard moment places texts ∷ h) n i k all e = tries_within h n i k all.1 e

state_or_before : (b : Bool) (state : Option WindowState) (w : ℕ) (before : Option (List ℕ)) (text : List ℕ) → option_or (only_at b (state_in state w)) before ≡ Some text → IfSome state IsState → IsStateWithin w text ⊎ (before ≡ Some text)
state_or_before false state w before text e within = inr e
state_or_before true None w before text e within = inr e
state_or_before true (Some state) w before text e within =
    elim (cases_Bool (eqb state.window w)) [
      | inl hit ↦
          (let same : Some state.text ≡ Some text = sym (ap (λ b. option_or (cond b (Some state.text) None) before) hit) ∙ e in
          let is : state.text ≡ text = cc in
          inl (record { in_time = subst IsMoment (eqb-true state.window w hit) within.0; short = subst (λ (x : List ℕ). length x ≤ MAX_DATA) is within.1 }))
      | inr miss ↦ inr (sym (ap (λ b. option_or (cond b (Some state.text) None) before) miss) ∙ e)
    ]

state_within : (h : List Said) (n w : ℕ) (text : List ℕ) → AllByRecursion IsWithin h → state_said h n w ≡ Some text → IsStateWithin w text
state_within [] n w text all e = absurd (cc)
state_within (Fates shard fate moment state places texts ∷ h) n w text all e = elim (state_or_before (eqb shard n) state w (state_said h n w) text e all.0) [
  | inl here ↦ here
  | inr before ↦ state_within h n w text all.1 before
]
state_within (Closed shard window moment ∷ h) n w text all e = state_within h n w text all.1 (unless_named ((eqb shard n) && (eqb window w)) (state_said h n w) text e).1
state_within (Deleted fate moment places texts ∷ h) n w text all e = state_within h n w text all.1 e
state_within (State shard moment state ∷ h) n w text all e = elim (state_or_before (eqb shard n) (Some state) w (state_said h n w) text e all.0) [
  | inl here ↦ here
  | inr before ↦ state_within h n w text all.1 before
]
state_within (Tried shard moment tries places texts ∷ h) n w text all e = state_within h n w text all.1 e
state_within (WindowTried shard window moment tries ∷ h) n w text all e = state_within h n w text all.1 e
state_within (Replayed shard moment places texts ∷ h) n w text all e = state_within h n w text all.1 e

-- what is found

pub found_tries : (config : Config) (calls : ℕ) (said : SaidLists) (payloads : List (List ℕ)) → Tells said (history payloads) → (n : ℕ) → HasFoundTries (opened_with config calls said) n
found_tries config calls said payloads tells n i f found =
    let kept : tries_said (history payloads) n i ≡ Some (tries_of_found f) = sym (tells.tries n i) ∙ ap (λ (o : Option FoundTries). option_map tries_of_found o) found in
    leb-true 1 f.tries (and_parts (leb 1 f.tries) (leb f.tries MAX_TRIES) (tries_within (history payloads) n i (tries_of_found f) (all_within payloads) kept)).0

abbrev entry_of : FoundState → (ℕ × ℕ) × List ℕ
entry_of f = ((f.shard, f.window), f.text)

states_back : (fs : List FoundState) → map found_state (map stated (map entry_of fs)) ≡ fs
states_back [] = refl
states_back (f ∷ fs) = ap (λ (gs : List FoundState). f ∷ gs) (states_back fs)

keys_are : (fs : List FoundState) → keys_of (map entry_of fs) ≡ map (λ (f : FoundState). (f.shard, f.window)) fs
keys_are [] = refl
keys_are (f ∷ fs) = ap (λ (ks : List (ℕ × ℕ)). (f.shard, f.window) ∷ ks) (keys_are fs)

-- each state of the lists is what is said of its window
each_within : (said : SaidLists) (payloads : List (List ℕ)) (fs : List FoundState) → Tells said (history payloads) → AllByRecursion (λ (e : (ℕ × ℕ) × List ℕ). lookup (is_at (pair_cmp e.0)) (map entry_of said.states) ≡ Some e.1) (map entry_of fs)
    → AllByRecursion (λ (f : FoundState). IsStateWithin f.window f.text) fs
each_within said payloads [] tells found = tt
each_within said payloads (f ∷ fs) tells found =
    let looked : option_map (λ (g : FoundState). g.text) (state_told said f.shard f.window) ≡ Some f.text =
    ap (λ (gs : List FoundState). option_map (λ (g : FoundState). g.text) (find (λ (g : FoundState). (eqb g.shard f.shard) && (eqb g.window f.window)) gs)) (sym (states_back said.states))
    ∙ (state_found (map entry_of said.states) f.shard f.window ∙ found.0) in
    (state_within (history payloads) f.shard f.window f.text (all_within payloads) (sym (tells.states f.shard f.window) ∙ looked), each_within said payloads fs tells found.1)

pub found_states : (said : SaidLists) (payloads : List (List ℕ)) → Tells said (history payloads) → IsInOrder said → AreStatesWithin said.states
found_states said payloads tells order =
    All-from_recursion (λ (f : FoundState). IsStateWithin f.window f.text) said.states
    (each_within said payloads said.states tells (all_found (map entry_of said.states) (subst (IsStrictlySortedBy pair_cmp) (sym (keys_are said.states)) order.states)))
