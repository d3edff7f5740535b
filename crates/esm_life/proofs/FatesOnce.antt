-- A list of good payloads says the fate of each record once at most.
use Rattle.std.proofs.Common.{◌≡◌, ℕ, ◌+◌, ◌≤◌, Bool, true, false, cond, ◌&&◌, List, [], ◌∷◌, Option, Some, None, arith, refl, subst}
use Rattle.std.specs.Prelude.{◌==◌, is_some, option_map, reverse}
use Rattle.std.specs.List.{cons_option}
use Rattle.std.specs.Option.{option_or}
use Rattle.std.proofs.lemmas.Bool.{and_parts, eqb-true, not-true, or_parts}
use Rattle.esm_model.specs.declared.entry.Fate.{Fate}
use Rattle.esm_journal_record.specs.declared.said.Said.{Said}
use Rattle.esm_journal_record.specs.declared.said.Said.TheVariants.{Fates, Closed, Deleted, State, Tried, WindowTried, Replayed}
use Rattle.esm_journal_record.specs.Parsing.{said_of}
use Rattle.esm_journal_state.specs.declared.kept.KeptFate.{KeptFate}
use Rattle.esm_journal_state.specs.Meaning.{any_named, are_good, differs, fate_kept, fate_said, history, is_good, is_good_said, is_spent, known, known_text, only_at, text_named}
use Rattle.esm_life.specs.Life.{EachFateOnce, IsLife, Stage, content, fates_naming}
use Rattle.esm_life.specs.ReplayLaws.{AreReplayLaws}
use Rattle.esm_life.proofs.ReplayLives.{good}
use Rattle.esm_queue_life.proofs.Naming.{named_passes}

none_more : (f : Fate) (b : Bool) (o : Option (List ℕ)) (d : Option KeptFate) (n : ℕ) → option_or (only_at b (option_map (fate_kept f) o)) d ≡ None → (d ≡ None → n ≡ 0) → cond (b && is_some o) 1 0 + n ≡ 0
none_more f true None d n none rest = (let e : n ≡ 0 = rest none in omega arith)
none_more f true (Some t) d n none rest = cc
none_more f false o d n none rest = (let e : n ≡ 0 = rest none in omega arith)

-- none names what has no fate
none_named : (g : List Said) (n i : ℕ) → fate_said g n i ≡ None → fates_naming g n i ≡ 0
none_named [] n i none = refl
none_named (Fates shard f m state places texts ∷ g) n i none = none_more f (shard == n) (text_named places texts i) (fate_said g n i) (fates_naming g n i) none (none_named g n i)
none_named (Deleted f m places texts ∷ g) n i none = none_named g n i none
none_named (Closed shard window m ∷ g) n i none = none_named g n i none
none_named (State shard m state ∷ g) n i none = none_named g n i none
none_named (Tried shard m tries places texts ∷ g) n i none = none_named g n i none
none_named (WindowTried shard window m tries ∷ g) n i none = none_named g n i none
none_named (Replayed shard m places texts ∷ g) n i none = none_named g n i none

is_none : (o : Option KeptFate) → is_some o ≡ false → o ≡ None
is_none None is = refl
is_none (Some k) is = cc

one_more : (b : Bool) (o : Option (List ℕ)) (n : ℕ) → (b ≡ true → (t : List ℕ) → o ≡ Some t → n ≡ 0) → n ≤ 1 → cond (b && is_some o) 1 0 + n ≤ 1
one_more true None n fresh once = omega (arith, once)
one_more true (Some t) n fresh once = (let e : n ≡ 0 = fresh refl t refl in omega (arith, e))
one_more false o n fresh once = omega (arith, once)

fate_free : (g : List Said) (shard : ℕ) (places : List ℕ) (texts : List (List ℕ)) (i : ℕ) (t : List ℕ) → any_named (is_spent (known g) shard) places texts ≡ false → text_named places texts i ≡ Some t → fates_naming g shard i ≡ 0
fate_free g shard places texts i t none named =
    none_named g shard i (is_none (fate_said g shard i)
    (or_parts (is_some (fate_said g shard i)) (differs (known_text (known g) shard i) t) (named_passes (is_spent (known g) shard) places texts i t named none)).0)

good_more : (g : List Said) (o : Option Said) (n i : ℕ) → is_good_said g o ≡ true → fates_naming g n i ≤ 1 → fates_naming (cons_option o g) n i ≤ 1
good_more g None n i good once = once
good_more g (Some (Fates shard f m state places texts)) n i good once =
    one_more (shard == n) (text_named places texts i) (fates_naming g n i)
    (λ own t named. subst (λ (k : ℕ). fates_naming g k i ≡ 0) (eqb-true shard n own) (fate_free g shard places texts i t (not-true (any_named (is_spent (known g) shard) places texts) good) named))
    once
good_more g (Some (Deleted f m places texts)) n i good once = once
good_more g (Some (Closed shard window m)) n i good once = once
good_more g (Some (State shard m state)) n i good once = once
good_more g (Some (Tried shard m tries places texts)) n i good once = once
good_more g (Some (WindowTried shard window m tries)) n i good once = once
good_more g (Some (Replayed shard m places texts)) n i good once = once

good_once : (ps : List (List ℕ)) (n i : ℕ) → are_good ps ≡ true → fates_naming (history ps) n i ≤ 1
good_once [] n i good = omega arith
good_once (p ∷ ps) n i good =
    let parts = and_parts (are_good ps) (is_good (history ps) p) good in
    good_more (history ps) (said_of p) n i parts.1 (good_once ps n i parts.0)

pub once : AreReplayLaws → (life : List Stage) → IsLife life → EachFateOnce life
once laws life is n i = good_once (reverse (content life)) n i (good laws life is)
