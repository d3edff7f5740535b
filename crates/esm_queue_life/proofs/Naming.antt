-- A list of good payloads says of each message once at most that it was deleted.
use Rattle.std.proofs.Common.{◌≡◌, ◌∙◌, ℕ, ◌+◌, ◌≤◌, Bool, true, false, cond, List, [], ◌∷◌, Option, Some, None, ap, arith, inl, inr, refl, sym}
use Rattle.std.specs.Prelude.{◌==◌, is_some, option_map}
use Rattle.std.specs.List.{cons_option}
use Rattle.std.specs.Option.{option_or}
use Rattle.std.proofs.lemmas.Bool.{and_parts, cases_Bool, eqb-true, not-true, or_parts}
use Rattle.std.proofs.lemmas.Option.{none-some, same_Some}
use Rattle.esm_model.specs.declared.entry.Fate.{Fate}
use Rattle.esm_journal_record.specs.declared.said.Said.{Said}
use Rattle.esm_journal_record.specs.declared.said.Said.TheVariants.{Fates, Closed, Deleted, State, Tried, WindowTried, Replayed}
use Rattle.esm_journal_record.specs.Parsing.{said_of}
use Rattle.esm_journal_state.specs.declared.kept.KeptFate.{KeptFate}
use Rattle.esm_journal_state.specs.Meaning.{any_named, are_good, deletion_said, fate_kept, history, is_deleted as is_gone, is_good, is_good_said, known, text_named}
use Rattle.esm_queue_life.specs.Life.{deletions_naming}

-- a place that is named with a text passes the test that none fails
pub named_passes : (fails : ℕ → List ℕ → Bool) (places : List ℕ) (texts : List (List ℕ)) (i : ℕ) (t : List ℕ) → text_named places texts i ≡ Some t → any_named fails places texts ≡ false → fails i t ≡ false
named_passes fails [] texts i t named none = absurd (none-some t named)
named_passes fails (place ∷ places) [] i t named none = absurd (none-some t named)
named_passes fails (place ∷ places) (text ∷ texts) i t named none =
    let parts = or_parts (fails place text) (any_named fails places texts) none in
    elim (cases_Bool (place == i)) [
      | inl same ↦
          (let own : text ≡ t = same_Some text t (rw same at named) in
          ap (λ (j : ℕ). fails j t) (sym (eqb-true place i same)) ∙ (ap (fails place) (sym own) ∙ parts.0))
      | inr other ↦ named_passes fails places texts i t (rw other at named) parts.1
    ]

none_more : (f : Fate) (o : Option (List ℕ)) (d : Option KeptFate) (n : ℕ) → option_or (option_map (fate_kept f) o) d ≡ None → (d ≡ None → n ≡ 0) → cond (is_some o) 1 0 + n ≡ 0
none_more f None d n none rest = (let e : n ≡ 0 = rest none in omega arith)
none_more f (Some t) d n none rest = cc

-- none names what is not deleted
none_named : (g : List Said) (i : ℕ) → deletion_said g i ≡ None → deletions_naming g i ≡ 0
none_named [] i none = refl
none_named (Deleted f m places texts ∷ g) i none = none_more f (text_named places texts i) (deletion_said g i) (deletions_naming g i) none (none_named g i)
none_named (Fates shard f m state places texts ∷ g) i none = none_named g i none
none_named (Closed shard window m ∷ g) i none = none_named g i none
none_named (State shard m state ∷ g) i none = none_named g i none
none_named (Tried shard m tries places texts ∷ g) i none = none_named g i none
none_named (WindowTried shard window m tries ∷ g) i none = none_named g i none
none_named (Replayed shard m places texts ∷ g) i none = none_named g i none

is_none : (o : Option KeptFate) → is_some o ≡ false → o ≡ None
is_none None is = refl
is_none (Some k) is = cc

one_more : (o : Option (List ℕ)) (n : ℕ) → ((t : List ℕ) → o ≡ Some t → n ≡ 0) → n ≤ 1 → cond (is_some o) 1 0 + n ≤ 1
one_more None n fresh once = omega (arith, once)
one_more (Some t) n fresh once = (let e : n ≡ 0 = fresh t refl in omega (arith, e))

good_more : (g : List Said) (o : Option Said) (i : ℕ) → is_good_said g o ≡ true → deletions_naming g i ≤ 1 → deletions_naming (cons_option o g) i ≤ 1
good_more g None i good once = once
good_more g (Some (Deleted f m places texts)) i good once =
    one_more (text_named places texts i) (deletions_naming g i)
    (λ t named. none_named g i (is_none (deletion_said g i) (named_passes (is_gone (known g)) places texts i t named (not-true (any_named (is_gone (known g)) places texts) good))))
    once
good_more g (Some (Fates shard f m state places texts)) i good once = once
good_more g (Some (Closed shard window m)) i good once = once
good_more g (Some (State shard m state)) i good once = once
good_more g (Some (Tried shard m tries places texts)) i good once = once
good_more g (Some (WindowTried shard window m tries)) i good once = once
good_more g (Some (Replayed shard m places texts)) i good once = once

pub good_once : (ps : List (List ℕ)) (i : ℕ) → are_good ps ≡ true → deletions_naming (history ps) i ≤ 1
good_once [] i good = omega arith
good_once (p ∷ ps) i good =
    let parts = and_parts (are_good ps) (is_good (history ps) p) good in
    good_more (history ps) (said_of p) i parts.1 (good_once ps i parts.0)
