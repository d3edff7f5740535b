-- The record that brought a change is the first of the input that differs from what was kept: those that came before do not.
use Rattle.std.proofs.Common.{◌≡◌, ◌+◌, ℕ, zero, suc, List, [], ◌∷◌, ◌++◌, length, refl, sym, ap, ◌∙◌, append_assoc, append-nil, Option, Some, None}
use Rattle.std.specs.Prelude.{slice_get, option_map}
use Rattle.std.specs.Option.{option_or}
use Rattle.std.proofs.lemmas.Bool.{eq-eqb}
use Rattle.std.proofs.lemmas.List.{length-append}
use Rattle.esm_model.specs.Records.{Record}
use Rattle.esm_model.specs.declared.book.Change.{Change}
use Rattle.esm_journal_state.specs.SaidLists.{SaidLists}
use Rattle.esm_replay.specs.Records.{of_shard}
use Rattle.esm_replay.specs.Coming.{kept_otherwise, change_of, change_at, first_change, NoneDiffers}
use Rattle.esm_replay.proofs.Unchanged.{none_differs}
use Rattle.esm_replay_book.proofs.Deciding.{change-append}
use Rattle.esm_replay_book.proofs.Items.{shard-append}

-- places of records

pub get_seam : (xs ys : List Record) (r : Record) → slice_get (xs ++ r ∷ ys) (length xs) ≡ Some r
get_seam [] ys r = refl
get_seam (x ∷ xs) ys r = get_seam xs ys r

get_front : (xs ys : List Record) (i : ℕ) (r : Record) → slice_get xs i ≡ Some r → slice_get (xs ++ ys) i ≡ Some r
get_front [] ys i r at = absurd (cc)
get_front (x ∷ xs) ys zero r at = at
get_front (x ∷ xs) ys (suc i) r at = get_front xs ys i r at

own_first : (r : Record) (rs : List Record) → of_shard r.shard (r ∷ rs) ≡ r ∷ of_shard r.shard rs
own_first r rs = rw (eq-eqb r.shard r.shard refl) refl

-- behind records, one of a shard stands at the place that they leave
at_place : (done more : List Record) (r : Record) → slice_get (of_shard r.shard (done ++ r ∷ more)) (length (of_shard r.shard done)) ≡ Some r
at_place done more r =
    ap (λ (rs : List Record). slice_get rs (length (of_shard r.shard done)))
    (shard-append r.shard done (r ∷ more) ∙ ap (λ (rs : List Record). of_shard r.shard done ++ rs) (own_first r more))
    ∙ get_seam (of_shard r.shard done) (of_shard r.shard more) r

-- so of the first records of each shard
pub first_unchanged : (told : SaidLists) (rs qs : List Record) → ((n : ℕ) → (rest : List Record) × (of_shard n qs ≡ of_shard n rs ++ rest)) → NoneDiffers told qs → NoneDiffers told rs
first_unchanged told rs qs some none n i r at =
    none n i r (ap (λ (xs : List Record). slice_get xs i) (some n).1 ∙ get_front (of_shard n rs) (some n).0 i r at)

-- and of their list
none_in : (told : SaidLists) (all done rs : List Record) → NoneDiffers told all → all ≡ done ++ rs → first_change told done rs ≡ None
none_in told all done [] none split = refl
none_in told all done (r ∷ rs) none split =
    let at : slice_get (of_shard r.shard all) (length (of_shard r.shard done)) ≡ Some r = ap (λ (xs : List Record). slice_get (of_shard r.shard xs) (length (of_shard r.shard done))) split ∙ at_place done rs r in
    ap (λ (o : Option (List ℕ)). option_or (option_map (change_of r (length (of_shard r.shard done))) o) (first_change told (done ++ r ∷ []) rs)) (none r.shard (length (of_shard r.shard done)) r at)
    ∙ none_in told all (done ++ r ∷ []) rs none (split ∙ sym (append_assoc done (r ∷ []) rs))

pub none_first : (told : SaidLists) (rs : List Record) → NoneDiffers told rs → first_change told [] rs ≡ None
none_first told rs none = none_in told rs [] rs none refl

-- the first that was

-- it rests on the number of records before it of each shard
same_place : (told : SaidLists) (a b : List Record) (r : Record) → length (of_shard r.shard a) ≡ length (of_shard r.shard b) → change_at told a r ≡ change_at told b r
same_place told a b r same = ap (λ (k : ℕ). option_map (change_of r k) (kept_otherwise told r.shard k r.seq)) same

same_behind : (told : SaidLists) (a b rs : List Record) → ((n : ℕ) → length (of_shard n a) ≡ length (of_shard n b)) → first_change told a rs ≡ first_change told b rs
same_behind told a b [] same = refl
same_behind told a b (r ∷ rs) same =
    ap (λ (o : Option Change). option_or o (first_change told (a ++ r ∷ []) rs)) (same_place told a b r (same r.shard))
    ∙ ap (option_or (change_at told b r)) (same_behind told (a ++ r ∷ []) (b ++ r ∷ []) rs
    (λ n.
    let one = ap (λ (xs : List Record). length xs) (shard-append n a (r ∷ [])) ∙ length-append (of_shard n a) (of_shard n (r ∷ [])) in
    let other = ap (λ (xs : List Record). length xs) (shard-append n b (r ∷ [])) ∙ length-append (of_shard n b) (of_shard n (r ∷ [])) in
    one ∙ (ap (λ (k : ℕ). k + length (of_shard n (r ∷ []))) (same n) ∙ sym other)))

or_some : (a b : Option Change) (change : Change) → a ≡ Some change → option_or a b ≡ Some change
or_some a b change is = ap (λ (o : Option Change). option_or o b) is

-- behind lists of each shard that are the same a list brings the same change
pub differs_behind : (told : SaidLists) (own front list : List Record) (change : Change) → ((n : ℕ) → of_shard n own ≡ of_shard n front) → first_change told own list ≡ Some change → first_change told front list ≡ Some change
differs_behind told own front list change came differs = same_behind told front own list (λ n. ap (λ (xs : List Record). length xs) (sym (came n))) ∙ differs

-- behind the first records, none of which was kept otherwise, a list brings the change
pub first_is : (told : SaidLists) (own front list rest : List Record) (change : Change) → first_change told [] own ≡ None → ((n : ℕ) → of_shard n own ≡ of_shard n front) → first_change told own list ≡ Some change
    → first_change told [] (front ++ (list ++ rest)) ≡ Some change
first_is told own front list rest change none came differs =
    let unchanged : NoneDiffers told front = first_unchanged told front own (λ n. ([], came n ∙ sym (append-nil (of_shard n front)))) (none_differs told own none) in
    let here : first_change told front list ≡ Some change = differs_behind told own front list change came differs in
    change-append told [] front (list ++ rest)
    ∙ (ap (λ (o : Option Change). option_or o (first_change told front (list ++ rest))) (none_first told front unchanged)
    ∙ (change-append told front list rest ∙ or_some (first_change told front list) (first_change told (front ++ list) rest) change here))

-- of all records that came none was kept otherwise
pub none_is : (told : SaidLists) (own records : List Record) → first_change told [] own ≡ None → ((n : ℕ) → of_shard n own ≡ of_shard n records) → first_change told [] records ≡ None
none_is told own records none came =
    none_first told records (first_unchanged told records own (λ n. ([], came n ∙ sym (append-nil (of_shard n records)))) (none_differs told own none))
