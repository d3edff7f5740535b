-- The refused places of parts that came are filtered one part after the other.
use Rattle.std.proofs.Common.{◌≡◌, ℕ, ◌≤◌, false, List, [], ◌∷◌, ◌++◌, length, refl, sym, ◌∙◌, subst, inl, inr, arith, None}
use Rattle.std.specs.Prelude.{◌==◌}
use Rattle.std.proofs.lemmas.Bool.{cases_Bool, eqb-true, false_from_ne_true}
use Rattle.esm_model.specs.declared.lane.LaneId.{LaneId}
use Rattle.esm_model.specs.declared.entry.Fate.TheVariants.{Filtered}
use Rattle.esm_model.specs.declared.entry.Entry.{Entry}
use Rattle.esm_model.specs.declared.entry.Entry.TheVariants.{Gave}
use Rattle.esm_model.specs.declared.moment.TheConstants.{MAX_MOMENT}
use Rattle.esm_model.specs.Setting.{Setting}
use Rattle.esm_model.specs.Entries.{holds, last_moment}
use Rattle.esm_model.specs.Step.{IsLater, MayFilter, Legal}
use Rattle.esm_model.specs.Owed.{unsorted, debts, Settled}
use Rattle.esm_model.proofs.Lists.{In, apart, Distinct}
use Rattle.esm_model.proofs.Settling.{unsorted_filtered, unsorted_filtered_elsewhere}
use Rattle.esm_ingest.specs.Parts.{Part}
use Rattle.esm_ingest.specs.Entries.{with_entries, filtered_at, filtered_parts}
use Rattle.esm_ingest.proofs.Places.{shards, Every, every_map}

pub entries_append : (h xs ys : List Entry) → with_entries h (xs ++ ys) ≡ with_entries (with_entries h xs) ys
entries_append h [] ys = refl
entries_append h (x ∷ xs) ys = entries_append (x ∷ h) xs ys

-- a history with entries is legal only where it is so without them
pub legal_front : (s : Setting) (h es : List Entry) → Legal s (with_entries h es) → Legal s h
legal_front s h [] legal = legal
legal_front s h (e ∷ es) legal = (legal_front s (e ∷ h) es legal).0

-- of one shard

pub record AreFiltered (s : Setting) (g now : List Entry) (n m : ℕ) : Type 0 where
  pub legal : Legal s now
  pub last : last_moment now ≡ m
  pub sorted : unsorted s now n ≡ []
  pub others : (k : ℕ) → (n == k) ≡ false → unsorted s now k ≡ unsorted s g k
  pub paid : (lane : LaneId) → debts s now lane ≡ debts s g lane

shard_filtered : (s : Setting) (g : List Entry) (n m : ℕ) (xs : List ℕ) → Legal s g → last_moment g ≡ m → m ≤ MAX_MOMENT → unsorted s g n ≡ xs → AreFiltered s g (with_entries g (filtered_at m n xs)) n m
shard_filtered s g n m [] legal last within is = record { legal = legal; last = last; sorted = is; others = λ k off. refl; paid = λ lane. refl }
shard_filtered s g n m (i ∷ places) legal last within is =
    let later : IsLater g m = record { not_back = omega (arith, last); within = within } in
    let may : MayFilter s g n (i ∷ places) None None m = record { exact = sym is; some = omega arith; no_line = refl; no_state = refl; same_moment = sym last } in
    record {
      legal = (legal, (later, may));
      last = refl;
      sorted = subst (λ (xs : List ℕ). unsorted s (Gave None n xs Filtered None None m ∷ g) n ≡ []) is (unsorted_filtered s n Filtered None None m g);
      others = λ k off. unsorted_filtered_elsewhere s n (i ∷ places) Filtered None None m g k off;
      paid = λ lane. refl;
    }

-- of all

pub record IsSettledBy (s : Setting) (h : List Entry) : Type 0 where
  pub legal : Legal s h
  pub settled : Settled s h

pub parts_filtered : (s : Setting) (g : List Entry) (m : ℕ) (ps : List Part) → Legal s g → (1 ≤ length ps → last_moment g ≡ m) → m ≤ MAX_MOMENT → Distinct (shards ps)
    → Every (λ (p : Part). unsorted s g p.shard ≡ p.refused) ps → ((n : ℕ) → holds (shards ps) n ≡ false → unsorted s g n ≡ []) → ((lane : LaneId) → debts s g lane ≡ []) → IsSettledBy s (with_entries g (filtered_parts m ps))
parts_filtered s g m [] legal last within d all none paid = record { legal = legal; settled = record { sorted = λ n. none n refl; paid = paid } }
parts_filtered s g m (p ∷ ps) legal last within d all none paid =
    let es = filtered_at m p.shard p.refused in
    let g2 = with_entries g (filtered_at m p.shard p.refused) in
    let is = shard_filtered s g p.shard m p.refused legal (last (omega arith)) within all.0 in
    let done : IsSettledBy s (with_entries g2 (filtered_parts m ps)) = parts_filtered s g2 m ps is.legal (λ some. is.last) within d.1
    (every_map (λ (q : Part). unsorted s g q.shard ≡ q.refused) (λ (q : Part). unsorted s g2 q.shard ≡ q.refused) ps
    (λ q member same. is.others q.shard (false_from_ne_true (p.shard == q.shard) (λ e. apart (shards ps) p.shard d.0 (subst (In (shards ps)) (sym (eqb-true p.shard q.shard e)) member))) ∙ same) all.1)
    (λ n off. elim (cases_Bool (p.shard == n)) [
      | inl here ↦ subst (λ (k : ℕ). unsorted s g2 k ≡ []) (eqb-true p.shard n here) is.sorted
      | inr there ↦ is.others n there ∙ none n (rw there off)
    ])
    (λ lane. is.paid lane ∙ paid lane) in
    subst (IsSettledBy s) (sym (entries_append g es (filtered_parts m ps))) done
