-- Where no record of a list differs from what was kept, none differs at its place.
use Rattle.std.proofs.Common.{◌≡◌, ◌+◌, ℕ, zero, suc, Bool, true, false, List, [], ◌∷◌, ◌++◌, length, refl, sym, ap, ◌∙◌, arith, append-nil, Option, Some, None}
use Rattle.std.specs.Prelude.{◌==◌, slice_get, option_map}
use Rattle.std.specs.Option.{option_or}
use Rattle.std.proofs.lemmas.Bool.{eqb-true}
use Rattle.std.proofs.lemmas.List.{length-append}
use Rattle.std.proofs.lemmas.List.Elements.{filter-append}
use Rattle.esm_model.specs.Records.{Record}
use Rattle.esm_model.specs.declared.book.Change.{Change}
use Rattle.esm_journal_state.specs.SaidLists.{SaidLists}
use Rattle.esm_replay.specs.Records.{of_shard}
use Rattle.esm_replay.specs.Coming.{kept_otherwise, change_of, change_at, first_change, NoneDiffers}

none_of : (o : Option (List ℕ)) (r : Record) (i : ℕ) → option_map (change_of r i) o ≡ None → o ≡ None
none_of None r i is = refl
none_of (Some kept) r i is = absurd (cc)

or_none : (a b : Option Change) → option_or a b ≡ None → (a ≡ None) × (b ≡ None)
or_none None b is = (refl, is)
or_none (Some change) b is = absurd (cc)

-- of records behind those before, none by its place
none_behind : (told : SaidLists) (before rs : List Record) (n i : ℕ) (r : Record) → first_change told before rs ≡ None → slice_get (of_shard n rs) i ≡ Some r → kept_otherwise told n (length (of_shard n before) + i) r.seq ≡ None
none_behind told before [] n i r none at = absurd (cc)
none_behind told before (x ∷ rs) n i r none at = by_shard told before rs x n i r (x.shard == n) refl (or_none (change_at told before x) (first_change told (before ++ x ∷ []) rs) none) (λ i at. none_behind told (before ++ x ∷ []) rs n i r (or_none (change_at told before x) (first_change told (before ++ x ∷ []) rs) none).1 at) at
  where
    other_place : (before : List Record) (x : Record) (n : ℕ) → (x.shard == n) ≡ false → of_shard n (before ++ x ∷ []) ≡ of_shard n before
    other_place before x n is = filter-append (λ (y : Record). y.shard == n) before (x ∷ []) ∙ (rw is (append-nil (of_shard n before)))

    own_place : (before : List Record) (x : Record) (n : ℕ) → (x.shard == n) ≡ true → length (of_shard n (before ++ x ∷ [])) ≡ length (of_shard n before) + 1
    own_place before x n is =
        let list : of_shard n (before ++ x ∷ []) ≡ of_shard n before ++ x ∷ [] = filter-append (λ (y : Record). y.shard == n) before (x ∷ []) ∙ (rw is refl) in
        ap (λ (rs : List Record). length rs) list ∙ length-append (of_shard n before) (x ∷ [])

    by_shard : (told : SaidLists) (before rs : List Record) (x : Record) (n i : ℕ) (r : Record) (own : Bool) → (x.shard == n) ≡ own → (change_at told before x ≡ None) × (first_change told (before ++ x ∷ []) rs ≡ None)
        → ((i : ℕ) → slice_get (of_shard n rs) i ≡ Some r → kept_otherwise told n (length (of_shard n (before ++ x ∷ [])) + i) r.seq ≡ None) → slice_get (of_shard n (x ∷ rs)) i ≡ Some r
        → kept_otherwise told n (length (of_shard n before) + i) r.seq ≡ None
    by_shard told before rs x n i r false is none later at =
        let there : slice_get (of_shard n rs) i ≡ Some r = rw is at at in
        ap (λ (xs : List Record). kept_otherwise told n (length xs + i) r.seq) (sym (other_place before x n is)) ∙ later i there
    by_shard told before rs x n zero r true is none later at =
        let here : Some x ≡ Some r = rw is at at in
        let same : x ≡ r = cc in
        let shard : x.shard ≡ n = eqb-true x.shard n is in
        let none_here : kept_otherwise told x.shard (length (of_shard x.shard before)) x.seq ≡ None = none_of (kept_otherwise told x.shard (length (of_shard x.shard before)) x.seq) x (length (of_shard x.shard before)) none.0 in
        let place : length (of_shard n before) + 0 ≡ length (of_shard n before) = omega arith in
        ap (λ (k : ℕ). kept_otherwise told n k r.seq) place
        ∙ (ap (λ (y : Record). kept_otherwise told n (length (of_shard n before)) y.seq) (sym same)
        ∙ (ap (λ (k : ℕ). kept_otherwise told k (length (of_shard k before)) x.seq) (sym shard) ∙ none_here))
    by_shard told before rs x n (suc i) r true is none later at =
        let there : slice_get (of_shard n rs) i ≡ Some r = rw is at at in
        let longer = own_place before x n is in
        let place : length (of_shard n before) + suc i ≡ length (of_shard n (before ++ x ∷ [])) + i = omega (arith, longer) in
        ap (λ (k : ℕ). kept_otherwise told n k r.seq) place ∙ later i there

pub none_differs : (told : SaidLists) (rs : List Record) → first_change told [] rs ≡ None → NoneDiffers told rs
none_differs told rs none n i r at =
    let place : 0 + i ≡ i = omega arith in
    ap (λ (k : ℕ). kept_otherwise told n k r.seq) (sym place) ∙ none_behind told [] rs n i r none at
