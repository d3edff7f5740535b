-- Positions of identifiers, from the last to the first.
use Rattle.std.proofs.Common.{◌≡◌, ℕ, ◌+◌, ◌<◌, List, ◌∷◌, length, map, drop, get_or, Some, if◌then◌else◌, sym, ap, ◌∙◌}
use Rattle.std.specs.List.{position, position_from}
use Rattle.std.specs.Str.{bytes_eq}
use Rattle.std.proofs.lemmas.Iterator.Adapters.{position_from-zero}
use Rattle.std.proofs.lemmas.List.{drop_more, drop-map, map-id}
use Rattle.esm_verdict.specs.Indexed.{Indexes}
use Rattle.esm_verdict.specs.declared.index.Index.{Index}

pub from_first : (ids : List (List ℕ)) (id : List ℕ) → position (λ i. bytes_eq i id) ids ≡ position_from (λ i. bytes_eq i id) 0 ids
from_first ids id = position_from-zero (λ i. bytes_eq i id) ids

pub all_indexed : (ids : List (List ℕ)) (at : ℕ) (id : List ℕ) → at ≡ 0 → position_from (λ i. bytes_eq i id) at (drop at ids) ≡ position (λ i. bytes_eq i id) ids
all_indexed ids at id none = rw none (sym (from_first ids id))

-- one identifier more of a batch, whose item is at the place
pub one_item_before : {X : Type 0} (id_of : X → List ℕ) (batch : List X) (at : ℕ) (x : X) (id : List ℕ) → at < length batch → x ≡ get_or batch at x
    → position_from (λ i. bytes_eq i id) at (drop at (map id_of batch))
    ≡ (if bytes_eq (id_of x) id then Some at else position_from (λ i. bytes_eq i id) (at + 1) (drop (at + 1) (map id_of batch)))
one_item_before id_of batch at x id below is =
    let e : drop at (map id_of batch) ≡ id_of x ∷ drop (at + 1) (map id_of batch) =
    drop-map id_of at batch ∙ ap (map id_of) (drop_more batch at x below) ∙ ap (λ y. id_of y ∷ map id_of (drop (at + 1) batch)) (sym is)
    ∙ ap (λ ids. id_of x ∷ ids) (sym (drop-map id_of (at + 1) batch)) in
    ap (position_from (λ i. bytes_eq i id) at) e

-- where the items are their identifiers
pub indexed_as : (ids : List (List ℕ)) (index : Index) → Indexes (map (λ id. id) ids) index → Indexes ids index
indexed_as ids index h = λ id. h id ∙ ap (position (λ i. bytes_eq i id)) (map-id ids)
