-- Where no record of a list differs from what was kept of it, those of each shard do not.
use Rattle.std.proofs.Common.{◌≡◌, ℕ, zero, suc, ◌+◌, ◌-◌, ◌<◌, ◌≤◌, List, [], ◌∷◌, ◌++◌, length, refl, sym, ap, ◌∙◌, subst, inl, inr, arith, Option, Some, None}
use Rattle.std.specs.Prelude.{◌==◌, slice_get, option_map}
use Rattle.std.specs.Option.{option_or}
use Rattle.std.specs.Str.{bytes_eq}
use Rattle.std.proofs.lemmas.Bool.{cases_Bool, eqb-true}
use Rattle.std.proofs.lemmas.Option.{same_Some}
use Rattle.std.proofs.lemmas.Slice.Eq.{bytes_eq-Decides}
use Rattle.esm_model.specs.Records.{Record}
use Rattle.esm_model.specs.declared.book.Change.{Change}
use Rattle.esm_model.specs.declared.entry.Entry.{Entry}
use Rattle.esm_model.specs.declared.setup.FoundFate.{FoundFate}
use Rattle.esm_model.specs.declared.setup.FoundTries.{FoundTries}
use Rattle.esm_model.specs.Setting.{Setting, record_at, found_fate, found_try}
use Rattle.esm_model.specs.Entries.{came_count}
use Rattle.esm_model.specs.Step.{IsKept}
use Rattle.esm_ingest.specs.Coming.{of_shard, count_of}
use Rattle.esm_ingest.specs.Parts.{Part}
use Rattle.esm_ingest.specs.Changes.{other_text, kept_otherwise, change_of, change_at, place_after, first_change_from, first_change}
use Rattle.esm_ingest.proofs.Shards.{of_last}
use Rattle.esm_ingest.proofs.Places.{get_some, Stands}

none_of : {A : Type 0} (a b : Option A) → option_or a b ≡ None → (a ≡ None) × (b ≡ None)
none_of None b e = (refl, e)
none_of (Some x) b e = absurd (cc)

none_map : (f : List ℕ → Change) (o : Option (List ℕ)) → option_map f o ≡ None → o ≡ None
none_map f None e = refl
none_map f (Some x) e = absurd (cc)

-- the first record of a shard, or a later one
changed_at : (s : Setting) (h : List Entry) (before : List Record) (x : Record) (ys : List Record) (n k : ℕ) (r : Record) → x.shard ≡ n → change_at s (place_after h before x) x ≡ None
    → ((j : ℕ) → slice_get ys j ≡ Some r → kept_otherwise s n (came_count h n + ((count_of n before + 1) + j)) r.seq ≡ None)
    → slice_get (x ∷ ys) k ≡ Some r → kept_otherwise s n (came_count h n + (count_of n before + k)) r.seq ≡ None
changed_at s h before x ys n zero r there none later at =
    let same : x ≡ r = same_Some x r at in
    let here : kept_otherwise s x.shard (came_count h x.shard + count_of x.shard before) x.seq ≡ None = none_map (change_of x (place_after h before x)) (kept_otherwise s x.shard (place_after h before x) x.seq) none in
    let mine : kept_otherwise s n (came_count h n + count_of n before) x.seq ≡ None = subst (λ (k : ℕ). kept_otherwise s k (came_count h k + count_of k before) x.seq ≡ None) there here in
    let e : came_count h n + count_of n before ≡ came_count h n + (count_of n before + 0) = omega arith in
    subst (λ (q : Record). kept_otherwise s n (came_count h n + (count_of n before + 0)) q.seq ≡ None) same (subst (λ (i : ℕ). kept_otherwise s n i x.seq ≡ None) e mine)
changed_at s h before x ys n (suc k) r there none later at =
    let e : came_count h n + ((count_of n before + 1) + k) ≡ came_count h n + (count_of n before + suc k) = omega arith in
    subst (λ (i : ℕ). kept_otherwise s n i r.seq ≡ None) e (later k at)

unchanged_from : (s : Setting) (h : List Entry) (before rs : List Record) → first_change_from s h before rs ≡ None
    → (n k : ℕ) (r : Record) → slice_get (of_shard n rs) k ≡ Some r → kept_otherwise s n (came_count h n + (count_of n before + k)) r.seq ≡ None
unchanged_from s h before [] none n k r at = cc
unchanged_from s h before (x ∷ rs) none n k r at =
    let parts = none_of (change_at s (place_after h before x) x) (first_change_from s h (before ++ x ∷ []) rs) none in
    let more = unchanged_from s h (before ++ x ∷ []) rs parts.1 n in
    elim (cases_Bool (x.shard == n)) [
      | inl same ↦ (
          let count : count_of n (before ++ x ∷ []) ≡ count_of n before + 1 = ap (λ (ys : List Record). length ys) (of_last before x n ∙ rw same refl) ∙ last (of_shard n before) in
          changed_at s h before x (of_shard n rs) n k r (eqb-true x.shard n same) parts.0
          (λ j there. subst (λ (c : ℕ). kept_otherwise s n (came_count h n + (c + j)) r.seq ≡ None) count (more j r there))
          (rw same at at))
      | inr off ↦ (
          let count : count_of n (before ++ x ∷ []) ≡ count_of n before = ap (λ (ys : List Record). length ys) (of_last before x n ∙ rw off refl) in
          subst (λ (c : ℕ). kept_otherwise s n (came_count h n + (c + k)) r.seq ≡ None) count (more k r (rw off at at)))
    ]
  where
    last : (ys : List Record) → length (ys ++ x ∷ []) ≡ length ys + 1
    last [] = refl
    last (y ∷ ys) = (let e = last ys in omega (arith, e))

pub unchanged_at : (s : Setting) (h : List Entry) (rs : List Record) → first_change s h rs ≡ None → (n k : ℕ) (r : Record) → slice_get (of_shard n rs) k ≡ Some r → kept_otherwise s n (came_count h n + k) r.seq ≡ None
unchanged_at s h rs none n k r at =
    let e : came_count h n + (0 + k) ≡ came_count h n + k = omega arith in
    subst (λ (i : ℕ). kept_otherwise s n i r.seq ≡ None) e (unchanged_from s h [] rs none n k r at)

-- the sequence number is the text that was kept

same_text : (seq kept : List ℕ) → other_text seq (Some kept) ≡ None → seq ≡ kept
same_text seq kept none = elim (cases_Bool (bytes_eq kept seq)) [
  | inl same ↦ sym ((bytes_eq-Decides kept seq).0 same)
  | inr off ↦ absurd (let clash : Some kept ≡ None = rw off at none in cc)
]

pub same_fate_text : (s : Setting) (n i : ℕ) (seq : List ℕ) (f : FoundFate) → kept_otherwise s n i seq ≡ None → found_fate s n i ≡ Some f → seq ≡ f.text
same_fate_text s n i seq f none found =
    same_text seq f.text (ap (λ (o : Option FoundFate). other_text seq (option_map (λ (g : FoundFate). g.text) o)) (sym found)
    ∙ (none_of (other_text seq (option_map (λ (g : FoundFate). g.text) (found_fate s n i))) (other_text seq (option_map (λ (g : FoundTries). g.text) (found_try s n i))) none).0)

pub same_tries_text : (s : Setting) (n i : ℕ) (seq : List ℕ) (f : FoundTries) → kept_otherwise s n i seq ≡ None → found_try s n i ≡ Some f → seq ≡ f.text
same_tries_text s n i seq f none found =
    same_text seq f.text (ap (λ (o : Option FoundTries). other_text seq (option_map (λ (g : FoundTries). g.text) o)) (sym found)
    ∙ (none_of (other_text seq (option_map (λ (g : FoundFate). g.text) (found_fate s n i))) (other_text seq (option_map (λ (g : FoundTries). g.text) (found_try s n i))) none).1)

-- the part's records have the sequence numbers that were kept
pub part_kept : (s : Setting) (p : Part) → Stands s p → ((k : ℕ) (r : Record) → slice_get p.records k ≡ Some r → kept_otherwise s p.shard (p.first + k) r.seq ≡ None) → IsKept s p.shard p.first (length p.records)
part_kept s p stands same = record {
  fates = λ i f r low high at found. same_fate_text s p.shard i r.seq f (unchanged i r low high at) found;
  tries = λ i f r low high at found. same_tries_text s p.shard i r.seq f (unchanged i r low high at) found;
}
  where
    unchanged : (i : ℕ) (r : Record) → p.first ≤ i → i < p.first + length p.records → record_at s p.shard i ≡ Some r → kept_otherwise s p.shard i r.seq ≡ None
    unchanged i r low high at =
        let has = get_some p.records (i - p.first) (omega arith) in
        let e : p.first + (i - p.first) ≡ i = omega arith in
        let here : record_at s p.shard i ≡ Some has.item = subst (λ (j : ℕ). record_at s p.shard j ≡ Some has.item) e (stands (i - p.first) has.item has.at) in
        let is : has.item ≡ r = same_Some has.item r (sym here ∙ at) in
        subst (λ (q : Record). kept_otherwise s p.shard i q.seq ≡ None) is (subst (λ (j : ℕ). kept_otherwise s p.shard j has.item.seq ≡ None) e (same (i - p.first) has.item has.at))
