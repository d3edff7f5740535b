-- Of each record whether it is named, record by record.
use Rattle.std.proofs.Common.{◌≡◌, ℕ, zero, suc, ◌<◌, Bool, List, [], ◌∷◌, ◌++◌, length, get_or, take, refl, sym, ap, ◌∙◌, arith, append_assoc, Option, Some, None}
use Rattle.std.specs.Prelude.{option_map, unwrap_or, false, not, ◌&&◌}
use Rattle.std.proofs.lemmas.List.{append-nil}
use Rattle.esm_model.specs.declared.entry.Fate.{Fate}
use Rattle.esm_model.specs.Records.{Record}
use Rattle.esm_model.specs.declared.setup.FoundFate.{FoundFate}
use Rattle.esm_journal_state.specs.Meaning.{is_failure}
use Rattle.esm_journal_state.specs.SaidLists.{SaidLists, fate_told, is_replay_told}
use Rattle.esm_replay_model.specs.declared.range.Range.{Range}
use Rattle.esm_replay_model.specs.ReplaySetting.{is_in_ranges}
use Rattle.esm_replay.specs.Records.{of_shard, names, names_by, are_named}

module _ (told : SaidLists) (ranges : List Range) where
  pub named_long : (before rs : List Record) → length (are_named told ranges before rs) ≡ length rs
  named_long before [] = refl
  named_long before (r ∷ rs) = ap suc (named_long (before ++ r ∷ []) rs)

  pub named_append : (before xs ys : List Record) → are_named told ranges before (xs ++ ys) ≡ are_named told ranges before xs ++ are_named told ranges (before ++ xs) ys
  named_append before [] ys = ap (λ (rs : List Record). are_named told ranges rs ys) (sym (append-nil before))
  named_append before (x ∷ xs) ys =
      ap (λ (bs : List Bool). names told ranges x (length (of_shard x.shard before)) ∷ bs)
      (named_append (before ++ x ∷ []) xs ys ∙ ap (λ (rs : List Record). are_named told ranges (before ++ x ∷ []) xs ++ are_named told ranges rs ys) (append_assoc before (x ∷ []) xs))

  pub named_take : (before rs : List Record) (n : ℕ) → take n (are_named told ranges before rs) ≡ are_named told ranges before (take n rs)
  named_take before rs zero = refl
  named_take before [] (suc n) = refl
  named_take before (r ∷ rs) (suc n) = ap (λ (bs : List Bool). names told ranges r (length (of_shard r.shard before)) ∷ bs) (named_take (before ++ r ∷ []) rs n)

  pub named_at : (before rs : List Record) (i : ℕ) (r : Record) (b : Bool) → i < length rs → r ≡ get_or rs i r → b ≡ get_or (are_named told ranges before rs) i b
      → b ≡ names told ranges r (length (of_shard r.shard (before ++ take i rs)))
  named_at before [] i r b low at is = absurd (omega arith)
  named_at before (x ∷ rs) zero r b low at is =
      is ∙ ap (λ (y : Record). names told ranges y (length (of_shard y.shard before))) (sym at) ∙ ap (λ (ys : List Record). names told ranges r (length (of_shard r.shard ys))) (sym (append-nil before))
  named_at before (x ∷ rs) (suc i) r b low at is =
      named_at (before ++ x ∷ []) rs i r b (omega arith) at is ∙ ap (λ (ys : List Record). names told ranges r (length (of_shard r.shard ys))) (append_assoc before (x ∷ []) (take i rs))

-- a fate that was told tells whether the record is named
pub named_by : (told : SaidLists) (ranges : List Range) (r : Record) (place : ℕ) (fate : Fate) → option_map (λ (f : FoundFate). f.fate) (fate_told told r.shard place) ≡ Some fate
    → names_by fate told ranges r place ≡ names told ranges r place
named_by told ranges r place fate is = ap (λ (b : Bool). b && (is_in_ranges ranges r.shard r.seq && not (is_replay_told told r.shard place))) (failed_by (fate_told told r.shard place) is)
  where
    failed_by : (o : Option FoundFate) → option_map (λ (f : FoundFate). f.fate) o ≡ Some fate → is_failure fate ≡ unwrap_or (option_map (λ (f : FoundFate). is_failure f.fate) o) false
    failed_by None is = absurd (cc)
    failed_by (Some f) is = (let same : f.fate ≡ fate = cc in ap is_failure (sym same))
