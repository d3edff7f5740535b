-- The places of the records of a list, as they are counted one by one.
use Rattle.std.proofs.Common.{◌≡◌, ℕ, ◌+◌, ◌<◌, true, false, List, [], ◌∷◌, ◌++◌, length, get_or, take, refl, sym, ap, ◌∙◌, subst, inl, inr, arith}
use Rattle.std.specs.Prelude.{◌==◌}
use Rattle.std.specs.Ordering.{nat_cmp}
use Rattle.std.specs.Map.{count_at}
use Rattle.std.specs.BTreeMap.{BTreeMap, get}
use Rattle.std.proofs.lemmas.Bool.{cases_Bool, eq-eqb}
use Rattle.std.proofs.lemmas.List.{length-append, take_more}
use Rattle.std.proofs.lemmas.List.Elements.{filter-append}
use Rattle.esm_model.specs.Records.{Record}
use Rattle.esm_replay.specs.Records.{of_shard}
use Rattle.esm_replay_core.specs.declared.tally.Tally.{Tally}
use Rattle.esm_replay_core.specs.Counts.{next_in, next_place, AreTallied}

-- one more record of the shard at hand
front_long : (items : List Record) (i : ℕ) (item : Record) (q : ℕ) → i < length items → item ≡ get_or items i item → length (of_shard q (take (i + 1) items)) ≡ length (of_shard q (take i items)) + length (of_shard q (item ∷ []))
front_long items i item q low at =
    ap (λ (xs : List Record). length (of_shard q xs)) (take_more items i item low ∙ ap (λ (x : Record). take i items ++ x ∷ []) (sym at))
    ∙ ap (λ (xs : List Record). length xs) (filter-append (λ (x : Record). x.shard == q) (take i items) (item ∷ []))
    ∙ length-append (of_shard q (take i items)) (of_shard q (item ∷ []))

pub tally_more : (counts : BTreeMap ℕ ℕ) (t new : Tally) (items : List Record) (i : ℕ) (item : Record) → i < length items → item ≡ get_or items i item → t.shard ≡ item.shard → AreTallied counts t (take i items) → new ≡ record t { place = t.place + 1 }
    → AreTallied counts new (take (i + 1) items)
tally_more counts t new items i item low at own are is =
    subst (λ (x : Tally). AreTallied counts x (take (i + 1) items)) (sym is) (λ q.
    let was : next_place counts t q ≡ count_at (get nat_cmp counts) q + length (of_shard q (take i items)) = are q in
    let long = front_long items i item q low at in
    elim (cases_Bool (item.shard == q)) [
      | inl same ↦ (
          let one : length (of_shard q (item ∷ [])) ≡ 1 = rw same refl in
          let mine : (t.shard == q) ≡ true = ap (λ (k : ℕ). k == q) own ∙ same in
          let old : next_place counts t q ≡ t.place = rw mine refl in
          let now : next_place counts (record t { place = t.place + 1 }) q ≡ t.place + 1 = rw mine refl in
          now ∙ added t.place (count_at (get nat_cmp counts) q) (length (of_shard q (take i items))) (length (of_shard q (item ∷ []))) (length (of_shard q (take (i + 1) items))) (sym old ∙ was) one long)
      | inr other ↦ (
          let none : length (of_shard q (item ∷ [])) ≡ 0 = rw other refl in
          let not_mine : (t.shard == q) ≡ false = ap (λ (k : ℕ). k == q) own ∙ other in
          let old : next_place counts t q ≡ next_in counts t.others q = rw not_mine refl in
          let now : next_place counts (record t { place = t.place + 1 }) q ≡ next_in counts t.others q = rw not_mine refl in
          now ∙ kept (next_in counts t.others q) (count_at (get nat_cmp counts) q) (length (of_shard q (take i items))) (length (of_shard q (item ∷ []))) (length (of_shard q (take (i + 1) items))) (sym old ∙ was) none long)
    ])
  where
    added : (p c k one more : ℕ) → p ≡ c + k → one ≡ 1 → more ≡ k + one → p + 1 ≡ c + more
    added p c k one more is here long = omega arith

    kept : (p c k one more : ℕ) → p ≡ c + k → one ≡ 0 → more ≡ k + one → p ≡ c + more
    kept p c k one more is here long = omega arith

-- the place of the next record of the shard at hand
pub place_at_hand : (counts : BTreeMap ℕ ℕ) (t : Tally) (rs : List Record) (n : ℕ) → t.shard ≡ n → AreTallied counts t rs → t.place ≡ count_at (get nat_cmp counts) n + length (of_shard n rs)
place_at_hand counts t rs n own are =
    let mine : (t.shard == n) ≡ true = eq-eqb t.shard n own in
    let is : next_place counts t n ≡ t.place = rw mine refl in
    sym is ∙ are n

pub still_tallied : (counts : BTreeMap ℕ ℕ) (t new : Tally) (rs : List Record) → ((q : ℕ) → next_place counts new q ≡ next_place counts t q) → AreTallied counts t rs → AreTallied counts new rs
still_tallied counts t new rs same are q = same q ∙ are q
