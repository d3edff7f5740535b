-- Counts of the records of each shard, as a map of them changes.
use Rattle.std.proofs.Common.{◌≡◌, ℕ, ◌+◌, ◌<◌, Bool, true, false, cond, List, length, get_or, take, refl, sym, ap, ◌∙◌, subst, inl, inr, Option, Some, None}
use Rattle.std.specs.Prelude.{◌==◌, IsSome, is_some, unwrap_or, if◌then◌else◌}
use Rattle.std.specs.List.{All}
use Rattle.std.specs.Ordering.{nat_cmp}
use Rattle.std.specs.Map.{count_at, lookup}
use Rattle.std.specs.BTreeMap.{BTreeMap, get, is_at, IsUnchanged, Updates}
use Rattle.std.proofs.lemmas.Bool.{cases_Bool, eqb-true}
use Rattle.std.proofs.lemmas.List.Elements.{All-more, All-weaker}
use Rattle.esm_model.specs.Records.{Record}
use Rattle.esm_journal_state.proofs.Pairs.{is_eq-nat}
use Rattle.esm_replay_core.specs.Counts.{HasCount, IsRecounted, HasOneMore}

pub same_counts : (m m' : BTreeMap ℕ ℕ) → IsUnchanged m m' → IsRecounted m m'
same_counts m m' same = record {
  same = λ q. ap (λ (es : List (ℕ × ℕ)). unwrap_or (lookup (is_at (nat_cmp q)) es) 0) same;
  keys = λ q has. subst (λ (es : List (ℕ × ℕ)). is_some (lookup (is_at (nat_cmp q)) es) ≡ true) (sym same) has;
}

-- a shard without a count has no record
pub none_counted : (o : Option ℕ) → is_some o ≡ false → 0 ≡ unwrap_or o 0
none_counted None none = refl
none_counted (Some n) none = absurd cc

pub then_recounted : (m m' m'' : BTreeMap ℕ ℕ) → IsRecounted m m' → IsRecounted m' m'' → IsRecounted m m''
then_recounted m m' m'' first more = record { same = λ q. more.same q ∙ first.same q; keys = λ q has. more.keys q (first.keys q has) }

module _ (m m' : BTreeMap ℕ ℕ) (shard n : ℕ) (updates : Updates nat_cmp m m' shard (Some n)) where
  found : (q : ℕ) → get nat_cmp m' q ≡ cond (shard == q) (Some n) (get nat_cmp m q)
  found q = updates.0 q ∙ ap (λ (b : Bool). cond b (Some n) (get nat_cmp m q)) (is_eq-nat shard q)

  counted : (q : ℕ) → count_at (get nat_cmp m') q ≡ (if shard == q then n else count_at (get nat_cmp m) q)
  counted q = ap (λ (o : Option ℕ). unwrap_or o 0) (found q) ∙ pick (shard == q) n (get nat_cmp m q)
    where
      pick : (b : Bool) (k : ℕ) (o : Option ℕ) → unwrap_or (cond b (Some k) o) 0 ≡ cond b k (unwrap_or o 0)
      pick true k o = refl
      pick false k o = refl

  keys_stay : (q : ℕ) → IsSome (get nat_cmp m q) → IsSome (get nat_cmp m' q)
  keys_stay q has = subst (λ (o : Option ℕ). is_some o ≡ true) (sym (found q)) (either (shard == q) n (get nat_cmp m q) has)
    where
      either : (b : Bool) (k : ℕ) (o : Option ℕ) → is_some o ≡ true → is_some (cond b (Some k) o) ≡ true
      either true k o has = refl
      either false k o has = has

  pub key_there : IsSome (get nat_cmp m' shard)
  key_there = ap (λ (o : Option ℕ). is_some o) updates.1

  pub kept_count : n ≡ count_at (get nat_cmp m) shard → IsRecounted m m'
  kept_count is = record {
    same = λ q. counted q ∙ elim (cases_Bool (shard == q)) [
      | inl here ↦ rw here (is ∙ ap (λ (k : ℕ). count_at (get nat_cmp m) k) (eqb-true shard q here))
      | inr other ↦ rw other refl
    ];
    keys = keys_stay;
  }

  pub raised_count : n ≡ count_at (get nat_cmp m) shard + 1 → HasOneMore shard m m'
  raised_count is = record {
    more = λ q. counted q ∙ elim (cases_Bool (shard == q)) [
      | inl here ↦ rw here (is ∙ ap (λ (k : ℕ). count_at (get nat_cmp m) k + 1) (eqb-true shard q here))
      | inr other ↦ rw other refl
    ];
    keys = keys_stay;
  }

-- one more record has a count
pub counts_more : (m m' : BTreeMap ℕ ℕ) (items : List Record) (i : ℕ) (item : Record) → i < length items → item ≡ get_or items i item → IsRecounted m m' → IsSome (get nat_cmp m' item.shard) → All (HasCount m) (take i items) → All (HasCount m') (take (i + 1) items)
counts_more m m' items i item low at re has all =
    All-more (HasCount m') items i item low
    (All-weaker (HasCount m) (HasCount m') (λ r had. re.keys r.shard had) (take i items) all)
    (subst (HasCount m') at has)
