-- The batcher of a lane. Only this crate's tests cite this.
use Rattle.std.proofs.Common.{◌≡◌, ℕ, ◌+◌, ◌*◌, ◌<◌, zero, suc, not, List, [], ◌∷◌, length, refl, sym, ap, ◌∙◌, subst, inl, inr, arith, get_or, Option, Some, None}
use Rattle.std.specs.Prelude.{◌==◌, ◌/◌, ◌%◌, slice_get, option_map}
use Rattle.std.specs.List.{prefix_len}
use Rattle.std.proofs.lemmas.Bool.{cases_Bool, eq-eqb, eqb-true}
use Rattle.std.proofs.lemmas.Nat.{div-add-mod'}
use Rattle.std.proofs.lemmas.Option.{slice_get_within, get_or_from_slice_get}
use Rattle.esm_model.specs.declared.lane.LaneId.{LaneId}
use Rattle.esm_model.specs.declared.entry.Entry.{Entry}
use Rattle.esm_model.specs.declared.entry.Entry.TheVariants.{Came, Began, Ended, Gave, Tried, Closed, Replayed, Shut}
use Rattle.esm_model.specs.Setting.{Setting}
use Rattle.esm_model.specs.Entries.{holds, shards_that_came, batcher}
use Rattle.esm_model.proofs.Lists.{In, In-here, In-there, Distinct, Distinct-push, apart}
use Rattle.esm_ledger.specs.Reading.{lane_of_batcher}

shards_apart : (h : List Entry) → Distinct (shards_that_came h)
shards_apart [] = tt
shards_apart (Came n first count m ∷ h) = elim (cases_Bool (holds (shards_that_came h) n)) [
  | inl old ↦ rw old (shards_apart h)
  | inr new ↦ rw new (Distinct-push (shards_that_came h) n (shards_apart h) (apart (shards_that_came h) n new))
]
shards_apart (Began lane places closing m ∷ h) = shards_apart h
shards_apart (Ended lane reply m ∷ h) = shards_apart h
shards_apart (Gave by n places f line state m ∷ h) = shards_apart h
shards_apart (Tried lane places closing t m ∷ h) = shards_apart h
shards_apart (Closed lane w m ∷ h) = shards_apart h
shards_apart (Replayed n places m ∷ h) = shards_apart h
shards_apart (Shut m ∷ h) = shards_apart h

in_at : (xs : List ℕ) (i n : ℕ) → i < length xs → get_or xs i 0 ≡ n → In xs n
in_at [] i n within is = absurd (omega (arith, within))
in_at (x ∷ xs) zero n within is = In-here x xs n is
in_at (x ∷ xs) (suc i) n within is = In-there x xs n (in_at xs i n (omega (arith, within)) is)

place_at : (xs : List ℕ) (i n : ℕ) → Distinct xs → i < length xs → get_or xs i 0 ≡ n → prefix_len (λ x. not (x == n)) xs ≡ i
place_at [] i n d within is = absurd (omega (arith, within))
place_at (x ∷ xs) zero n d within is = rw (eq-eqb x n is) refl
place_at (x ∷ xs) (suc i) n d within is = elim (cases_Bool (x == n)) [
  | inl same ↦ absurd (apart xs x d.0 (subst (In xs) (sym (eqb-true x n same)) (in_at xs i n (omega (arith, within)) is)))
  | inr other ↦ (let more : 1 + i ≡ suc i = omega arith in rw other (ap (λ v. 1 + v) (place_at xs i n d.1 (omega (arith, within)) is) ∙ more))
]

lane_at : (s : Setting) (h : List Entry) (k : ℕ) (lane : LaneId) (o : Option ℕ) → slice_get (shards_that_came h) (k / s.config.factor) ≡ o → option_map (λ (n : ℕ). record { shard = n; lane = k % s.config.factor }) o ≡ Some lane → batcher s h lane ≡ k
lane_at s h k lane None at is = absurd (cc)
lane_at s h k lane (Some n) at is =
    let lane_is : record { shard = n; lane = k % s.config.factor } ≡ lane = cc in
    subst (λ l. batcher s h l ≡ k) lane_is
    (ap (λ i. i * s.config.factor + k % s.config.factor) (place_at (shards_that_came h) (k / s.config.factor) n (shards_apart h) (slice_get_within (shards_that_came h) (k / s.config.factor) n at) (get_or_from_slice_get (shards_that_came h) (k / s.config.factor) n 0 at))
    ∙ div-add-mod' k s.config.factor)

pub batcher_is : (s : Setting) (h : List Entry) (k : ℕ) (lane : LaneId) → lane_of_batcher s h k ≡ Some lane → batcher s h lane ≡ k
batcher_is s h k lane is = lane_at s h k lane (slice_get (shards_that_came h) (k / s.config.factor)) refl is
