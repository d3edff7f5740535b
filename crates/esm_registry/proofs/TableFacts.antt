-- The mappings in memory under their changes.
use Rattle.std.proofs.Common.{◌≡◌, ◌∙◌, ◌+◌, ◌-◌, ◌++◌, ℕ, List, [], ◌∷◌, true, false, Option, Some, None, sym, ap, arith}
use Rattle.std.specs.BTreeMap.{BTreeMap}
use Rattle.std.proofs.lemmas.Bool.{cond-true, cond-false}
use Rattle.esm_registry.specs.declared.mapping.Mapping.{Mapping}
use Rattle.esm_registry.specs.Index.{Arns, HasPair, TableState, arns_of, is_same, one_of, count_in, count_promised}
use Rattle.esm_registry.specs.Lists.{mapping_at, without, replaced}
use Rattle.esm_registry.specs.Pairs.{ArnTexts, arns, count_at}
use Rattle.esm_registry.specs.Places.{list_of, IsIndex}
use Rattle.esm_registry.specs.Tables.{AreCounted}
use Rattle.esm_registry.proofs.Counting.{count_in-push}
use Rattle.esm_registry.proofs.IndexCounts.{count_without, count_replaced}

pub one_yes : (p q : Arns) → is_same p q ≡ true → one_of p q ≡ 1
unfolding one_of
one_yes p q is = cond-true (is_same p q) 1 0 is

pub one_no : (p q : Arns) → is_same p q ≡ false → one_of p q ≡ 0
unfolding one_of
one_no p q away = cond-false (is_same p q) 1 0 away

pub with_list : (list list' : List Mapping) (created : ℕ) (promised : Option Arns) → list' ≡ list
    → record { mappings = record { list = list'; created = created }; promised = promised } ≡ (let t : TableState = record { mappings = record { list = list; created = created }; promised = promised } in t)
with_list list list' created promised same =
    ap (λ (l : List Mapping). let t : TableState = record { mappings = record { list = l; created = created }; promised = promised } in t) same

pub counted_same : (counts counts' : BTreeMap ArnTexts ℕ) (list list' : List Mapping) (promised : Option Arns) → AreCounted counts list promised
    → ((p : ArnTexts) → count_at counts' p ≡ count_at counts p) → list' ≡ list → AreCounted counts' list' promised
counted_same counts counts' list list' promised counted same list_is p =
    same p ∙ counted p ∙ ap (λ xs. count_in (arns p) xs + count_promised (arns p) promised) (sym list_is)

pub counted_added : (counts counts' : BTreeMap ArnTexts ℕ) (list list' : List Mapping) (promised : Option Arns) (m : Mapping) (q : Arns)
    → AreCounted counts list promised → ((p : ArnTexts) → count_at counts' p ≡ count_at counts p + one_of (arns p) q)
    → list' ≡ list ++ m ∷ [] → q ≡ arns_of m.config → AreCounted counts' list' promised
counted_added counts counts' list list' promised m q counted raised list_is q_is p =
    let before = counted p in
    let more = raised p in
    let pushed : count_in (arns p) list' ≡ count_in (arns p) list + one_of (arns p) (arns_of m.config) =
    ap (count_in (arns p)) list_is ∙ count_in-push (arns p) list m in
    let one = ap (one_of (arns p)) q_is in
    sum (count_at counts' p) (count_at counts p) (count_in (arns p) list) (count_in (arns p) list') (count_promised (arns p) promised)
    (one_of (arns p) q) (one_of (arns p) (arns_of m.config)) before more pushed one
  where
    sum : (n o l k h a b : ℕ) → o ≡ l + h → n ≡ o + a → k ≡ l + b → a ≡ b → n ≡ k + h
    sum n o l k h a b before more pushed one = omega arith

-- what an index counts beside a mapping
pub counted_beside : (counts : BTreeMap ArnTexts ℕ) (mappings : BTreeMap ℕ Mapping) (places : BTreeMap (List ℕ) ℕ) (next : ℕ) (promised : Option Arns) (m : Mapping)
    → IsIndex mappings places next → AreCounted counts (list_of mappings) promised → promised ≡ None → mapping_at m.id (list_of mappings) ≡ Some m → (p : ArnTexts)
    → count_at counts p ≡ count_in (arns p) (without m.id (list_of mappings)) + one_of (arns p) (arns_of m.config)
counted_beside counts mappings places next promised m index counted none there p =
    let total = counted p in
    let split = count_without mappings places next m.id m index there (arns p) in
    let zero = ap (count_promised (arns p)) none in
    sum (count_at counts p) (count_in (arns p) (list_of mappings)) (count_promised (arns p) promised)
    (count_in (arns p) (without m.id (list_of mappings))) (one_of (arns p) (arns_of m.config)) total split zero
  where
    sum : (n l h k a : ℕ) → n ≡ l + h → k + a ≡ l → h ≡ 0 → n ≡ k + a
    sum n l h k a total split zero = omega arith

pub counted_removed : (counts counts' : BTreeMap ArnTexts ℕ) (mappings : BTreeMap ℕ Mapping) (places : BTreeMap (List ℕ) ℕ) (next : ℕ) (promised : Option Arns)
    (id : List ℕ) (list' : List Mapping) (q : Arns)
    → IsIndex mappings places next → AreCounted counts (list_of mappings) promised → HasPair (list_of mappings) id q
    → ((p : ArnTexts) → count_at counts' p ≡ count_at counts p - one_of (arns p) q)
    → list' ≡ without id (list_of mappings) → AreCounted counts' list' promised
counted_removed counts counts' mappings places next promised id list' q index counted its lowered list_is p =
    let total = counted p in
    let fewer = lowered p in
    let split : count_in (arns p) list' + one_of (arns p) (arns_of its.mapping.config) ≡ count_in (arns p) (list_of mappings) =
    ap (λ xs. count_in (arns p) xs + one_of (arns p) (arns_of its.mapping.config)) list_is
    ∙ count_without mappings places next id its.mapping index its.there (arns p) in
    let one = ap (one_of (arns p)) its.pair in
    sum (count_at counts' p) (count_at counts p) (count_in (arns p) (list_of mappings)) (count_in (arns p) list') (count_promised (arns p) promised)
    (one_of (arns p) q) (one_of (arns p) (arns_of its.mapping.config)) total fewer split one
  where
    sum : (n o l k h a b : ℕ) → o ≡ l + h → n ≡ o - a → k + b ≡ l → a ≡ b → n ≡ k + h
    sum n o l k h a b total fewer split one = omega arith

pub counted_replaced : (counts counts' : BTreeMap ArnTexts ℕ) (mappings : BTreeMap ℕ Mapping) (places : BTreeMap (List ℕ) ℕ) (next : ℕ) (promised : Option Arns)
    (w : Mapping) (list' : List Mapping) (q : Arns)
    → IsIndex mappings places next → AreCounted counts (list_of mappings) promised → HasPair (list_of mappings) w.id q → promised ≡ Some (arns_of w.config)
    → ((p : ArnTexts) → count_at counts' p ≡ count_at counts p - one_of (arns p) q)
    → list' ≡ replaced w.id w (list_of mappings) → AreCounted counts' list' None
counted_replaced counts counts' mappings places next promised w list' q index counted its promise lowered list_is p =
    let total = counted p in
    let fewer = lowered p in
    let split : count_in (arns p) list' + one_of (arns p) (arns_of its.mapping.config) ≡ count_in (arns p) (list_of mappings) + one_of (arns p) (arns_of w.config) =
    ap (λ xs. count_in (arns p) xs + one_of (arns p) (arns_of its.mapping.config)) list_is
    ∙ count_replaced mappings places next w.id its.mapping w index its.there (arns p) in
    let one = ap (one_of (arns p)) its.pair in
    let more = ap (count_promised (arns p)) promise in
    sum (count_at counts' p) (count_at counts p) (count_in (arns p) (list_of mappings)) (count_in (arns p) list') (count_promised (arns p) promised)
    (one_of (arns p) q) (one_of (arns p) (arns_of its.mapping.config)) (one_of (arns p) (arns_of w.config)) total fewer split one more
  where
    sum : (n o l k h a b d : ℕ) → o ≡ l + h → n ≡ o - a → k + b ≡ l + d → a ≡ b → h ≡ d → n ≡ k + 0
    sum n o l k h a b d total fewer split one more = omega arith
