-- What is gathered of a table tells what the table has.
use Rattle.std.proofs.Common.{◌≡◌, ℕ, suc, ◌+◌, ◌<◌, ◌^◌, ◌||◌, not, Bool, true, false, cond, eqb, List, [], ◌∷◌, length, refl, sym, ap, subst, ◌∙◌, arith}
use Rattle.std.specs.Prelude.{map, filter}
use Rattle.std.specs.List.{list_any}
use Rattle.std.specs.List.Sorted.{IsStrictlySortedBy}
use Rattle.std.specs.Ordering.{nat_cmp}
use Rattle.std.proofs.lemmas.Bool.{eq-eqb}
use Rattle.std.proofs.lemmas.List.Filters.{length-filter_both}
use Rattle.esm_model.specs.declared.setup.FoundFate.{FoundFate}
use Rattle.esm_model.specs.declared.setup.FoundTries.{FoundTries}
use Rattle.esm_model.specs.declared.setup.FoundState.{FoundState}
use Rattle.esm_model.specs.declared.setup.FoundWindowTries.{FoundWindowTries}
use Rattle.esm_journal_record.specs.declared.said.Said.{Said}
use Rattle.esm_journal_state.specs.declared.kept.KeptFate.{KeptFate}
use Rattle.esm_journal_state.specs.declared.table.Table.{Table}
use Rattle.esm_journal_state.specs.declared.lookup.SaidState.{SaidState}
use Rattle.esm_journal_state.specs.Table.{IsTable, HasOrder}
use Rattle.esm_journal_state.specs.Tells.{Tells}
use Rattle.esm_model.specs.declared.setup.FoundDeletion.{FoundDeletion}
use Rattle.esm_journal_state.specs.SaidLists.{SaidLists, FoundReplay, IsInOrder, has_shard, pair_cmp}
use Rattle.esm_journal_state.specs.View.{found_fate, found_tries, found_state, found_window_tries, found_replay, found_deletion, stated}
use Rattle.esm_journal_state.proofs.Finding.{keys-made, any_of-made, found_states, fate_found, tries_found, state_found, window_tries_found, replay_found, deletion_found}

-- what is told by the maps, with these states
abbrev pub told_by : Table → List SaidState → SaidLists
told_by t states = record {
  fates = map found_fate t.fates.entries;
  tries = map found_tries t.tries.entries;
  states = map found_state states;
  window_tries = map found_window_tries t.window_tries.entries;
  replays = map found_replay t.replays.keys;
  deletions = map found_deletion t.deletions.entries;
}

-- with the fates in a row
abbrev pub told_with : Table → List ((ℕ × ℕ) × KeptFate) → List SaidState → SaidLists
told_with t row states = record (told_by t states) { fates = map found_fate row }

-- what is told by the maps is told by a row of the same fates
pub with_row : (P : SaidLists → Type 0) (t : Table) (row : List ((ℕ × ℕ) × KeptFate)) (states : List SaidState) → row ≡ t.fates.entries → P (told_by t states) → P (told_with t row states)
with_row P t row states same told = subst (λ (es : List ((ℕ × ℕ) × KeptFate)). P (told_with t es states)) (sym same) told

replay_keys : (ks : List (ℕ × ℕ)) → map (λ (f : FoundReplay). (f.shard, f.place)) (map found_replay ks) ≡ ks
replay_keys [] = refl
replay_keys (k ∷ ks) = ap (λ rest. k ∷ rest) (replay_keys ks)

abbrev Sorted : List (ℕ × ℕ) → Type 0
Sorted ks = IsStrictlySortedBy pair_cmp ks

pub told_in_order : (t : Table) (states : List SaidState) → HasOrder t → states ≡ map stated t.states.entries → IsInOrder (told_by t states)
told_in_order t states order e = record {
  fates = subst Sorted (sym (keys-made found_fate (λ (f : FoundFate). (f.shard, f.place)) (λ k. k.0) (λ k. refl) t.fates.entries)) order.fates;
  tries = subst Sorted (sym (keys-made found_tries (λ (f : FoundTries). (f.shard, f.place)) (λ k. k.0) (λ k. refl) t.tries.entries)) order.tries;
  states = subst Sorted
      (sym (ap (λ ss. map (λ (f : FoundState). (f.shard, f.window)) (map found_state ss)) e
      ∙ ap (λ fs. map (λ (f : FoundState). (f.shard, f.window)) fs) (found_states t.states.entries)
      ∙ keys-made (λ k. found_state (stated k)) (λ (f : FoundState). (f.shard, f.window)) (λ k. k.0) (λ k. refl) t.states.entries))
      order.states;
  window_tries = subst Sorted (sym (keys-made found_window_tries (λ (f : FoundWindowTries). (f.shard, f.window)) (λ k. k.0) (λ k. refl) t.window_tries.entries)) order.window_tries;
  replays = subst Sorted (sym (replay_keys t.replays.keys)) order.replays;
  deletions = subst (λ ks. IsStrictlySortedBy nat_cmp ks) (sym (keys-made found_deletion (λ (f : FoundDeletion). f.place) (λ k. k.0) (λ k. refl) t.deletions.entries)) order.deletions;
}

pub told_tells : (t : Table) (states : List SaidState) (h : List Said) → states ≡ map stated t.states.entries → IsTable t h → Tells (told_by t states) h
told_tells t states h e table = record {
  fates = λ n i. fate_found t.fates.entries n i ∙ table.fates n i;
  tries = λ n i. tries_found t.tries.entries n i ∙ table.tries n i;
  states = λ n w. rw e (state_found t.states.entries n w) ∙ table.states n w;
  window_tries = λ n w. window_tries_found t.window_tries.entries n w ∙ table.window_tries n w;
  replays = λ n i. replay_found t.replays.keys n i ∙ table.replays n i;
  deletions = λ i. deletion_found t.deletions.entries i ∙ table.deletions i;
}

pub told_shards : (t : Table) (states : List SaidState) (n : ℕ) → states ≡ map stated t.states.entries
    → (list_any (λ k. eqb k.0.0 n) t.fates.entries || list_any (λ k. eqb k.0.0 n) t.tries.entries || list_any (λ k. eqb k.0.0 n) t.states.entries || list_any (λ k. eqb k.0.0 n) t.window_tries.entries)
    ≡ has_shard (told_by t states) n
told_shards t states n e =
    let a = any_of-made found_fate (λ (f : FoundFate). eqb f.shard n) t.fates.entries in
    let b = any_of-made found_tries (λ (f : FoundTries). eqb f.shard n) t.tries.entries in
    let c = ap (λ ss. list_any (λ (f : FoundState). eqb f.shard n) (map found_state ss)) e
    ∙ ap (λ fs. list_any (λ (f : FoundState). eqb f.shard n) fs) (found_states t.states.entries)
    ∙ any_of-made (λ k. found_state (stated k)) (λ (f : FoundState). eqb f.shard n) t.states.entries in
    let d = any_of-made found_window_tries (λ (f : FoundWindowTries). eqb f.shard n) t.window_tries.entries in
    sym (ap (λ x. x || list_any (λ (f : FoundTries). eqb f.shard n) (map found_tries t.tries.entries) || list_any (λ (f : FoundState). eqb f.shard n) (map found_state states) || list_any (λ (f : FoundWindowTries). eqb f.shard n) (map found_window_tries t.window_tries.entries)) a
    ∙ ap (λ x. list_any (λ k. eqb k.0.0 n) t.fates.entries || x || list_any (λ (f : FoundState). eqb f.shard n) (map found_state states) || list_any (λ (f : FoundWindowTries). eqb f.shard n) (map found_window_tries t.window_tries.entries)) b
    ∙ ap (λ x. list_any (λ k. eqb k.0.0 n) t.fates.entries || list_any (λ k. eqb k.0.0 n) t.tries.entries || x || list_any (λ (f : FoundWindowTries). eqb f.shard n) (map found_window_tries t.window_tries.entries)) c
    ∙ ap (λ x. list_any (λ k. eqb k.0.0 n) t.fates.entries || list_any (λ k. eqb k.0.0 n) t.tries.entries || list_any (λ k. eqb k.0.0 n) t.states.entries || x) d)

-- shards added in turn
pub four_added : (a b c d x y z w : Bool) → w ≡ (a || x) → x ≡ (b || y) → y ≡ (c || z) → z ≡ (d || false) → w ≡ (a || b || c || d)
four_added true b c d x y z w p q r s = p
four_added false true c d x y z w p q r s = p ∙ q
four_added false false true d x y z w p q r s = p ∙ q ∙ r
four_added false false false true x y z w p q r s = p ∙ q ∙ r ∙ s
four_added false false false false x y z w p q r s = p ∙ q ∙ r ∙ s

-- a shard's count of the places so far, and one more, is not more than all places
pub count_fits : {X : Type 0} (left all rest : List ((ℕ × ℕ) × X)) (k : ℕ × ℕ) (v : X) (before : ℕ) → length all < 2 ^ 32 → left ≡ (k, v) ∷ rest
    → before + length (filter (λ e. eqb e.0.0 k.0) left) ≡ length (filter (λ e. eqb e.0.0 k.0) all) → before + 1 < 2 ^ 32
count_fits {X} left all rest k v before few e counted =
    let here : length (filter (λ (e : (ℕ × ℕ) × X). eqb e.0.0 k.0) left) ≡ suc (length (filter (λ (e : (ℕ × ℕ) × X). eqb e.0.0 k.0) rest)) =
    ap (λ es. length (filter (λ (e : (ℕ × ℕ) × X). eqb e.0.0 k.0) es)) e
    ∙ ap (λ b. length (cond b ((k, v) ∷ filter (λ (e : (ℕ × ℕ) × X). eqb e.0.0 k.0) rest) (filter (λ (e : (ℕ × ℕ) × X). eqb e.0.0 k.0) rest))) (eq-eqb k.0 k.0 refl) in
    let within = length-filter_both (λ (e : (ℕ × ℕ) × X). eqb e.0.0 k.0) (λ (e : (ℕ × ℕ) × X). not (eqb e.0.0 k.0)) (λ e. refl) all in
    omega (arith, here, within, counted, few)
