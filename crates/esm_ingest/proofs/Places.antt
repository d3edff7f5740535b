-- Where the records of the parts stand in the streams that they make.
use Rattle.std.proofs.Common.{◌≡◌, ℕ, zero, suc, ◌+◌, ◌-◌, ◌<◌, ◌≤◌, true, false, cond, List, [], ◌∷◌, ◌++◌, map, length, zero-add, refl, sym, ap, ◌∙◌, subst, inl, inr, arith, Some}
use Rattle.std.specs.Prelude.{◌==◌, slice_get, ⊤}
use Rattle.std.proofs.lemmas.Bool.{cases_Bool, eq-eqb, eqb-true, false_from_ne_true}
use Rattle.std.proofs.lemmas.Option.{slice_get_within}
use Rattle.esm_model.specs.Records.{Record}
use Rattle.esm_model.specs.declared.entry.Entry.{Entry}
use Rattle.esm_model.specs.Setting.{Setting, Stream, Extends, over, records_in, record_at}
use Rattle.esm_model.specs.Entries.{holds, came_count}
use Rattle.esm_model.proofs.Lists.{In, In-here, In-there, apart, not_in, Distinct}
use Rattle.esm_ledger.specs.Coming.{with_list}
use Rattle.esm_ingest.specs.Coming.{shards_of, of_shard}
use Rattle.esm_ingest.specs.Parts.{Part, refused_from, part_in, parts_of, grown_by}
use Rattle.esm_ingest.proofs.Shards.{or_off, apart_back, of_some, shards_distinct}

-- parts

abbrev pub shards : List Part → List ℕ
shards ps = map (λ (p : Part). p.shard) ps

abbrev pub Every : (Part → Type 0) → List Part → Type 0
Every P [] = ⊤
Every P (p ∷ ps) = P p × Every P ps

pub every_map : (P Q : Part → Type 0) (ps : List Part) → ((p : Part) → In (shards ps) p.shard → P p → Q p) → Every P ps → Every Q ps
every_map P Q [] f all = tt
every_map P Q (p ∷ ps) f all = (f p (In-here p.shard (shards ps) p.shard refl) all.0, every_map P Q ps (λ q member. f q (In-there p.shard (shards ps) q.shard member)) all.1)

pub every_both : (P Q R : Part → Type 0) (ps : List Part) → ((p : Part) → P p → Q p → R p) → Every P ps → Every Q ps → Every R ps
every_both P Q R [] f a b = tt
every_both P Q R (p ∷ ps) f a b = (f p a.0 b.0, every_both P Q R ps f a.1 b.1)

pub every_front : (P : Part → Type 0) (ps qs : List Part) → Every P (ps ++ qs) → Every P ps
every_front P [] qs all = tt
every_front P (p ∷ ps) qs all = (all.0, every_front P ps qs all.1)

pub every_at : (P : Part → Type 0) (ps : List Part) (p : Part) (qs : List Part) → Every P (ps ++ p ∷ qs) → P p
every_at P [] p qs all = all.0
every_at P (q ∷ ps) p qs all = every_at P ps p qs all.1

pub distinct_front : (ps qs : List Part) → Distinct (shards (ps ++ qs)) → Distinct (shards ps)
distinct_front [] qs d = tt
distinct_front (p ∷ ps) qs d = (
  not_in (shards ps) p.shard (λ member. apart (shards (ps ++ qs)) p.shard d.0 (in_front ps p.shard member)),
  distinct_front ps qs d.1,
)
  where
    in_front : (xs : List Part) (n : ℕ) → In (shards xs) n → In (shards (xs ++ qs)) n
    in_front [] n member = cc
    in_front (x ∷ xs) n member = elim (cases_Bool (x.shard == n)) [
      | inl same ↦ rw same refl
      | inr off ↦ rw off (in_front xs n (rw off at member))
    ]

-- those of a list

-- it is the part of its shard
pub record IsPartOf (s : Setting) (h : List Entry) (rs : List Record) (p : Part) : Type 0 where
  pub some : 1 ≤ length p.records
  pub first : p.first ≡ came_count h p.shard
  pub records : p.records ≡ of_shard p.shard rs
  pub refused : p.refused ≡ refused_from s p.shard p.first p.records

parts_from : (s : Setting) (h : List Entry) (rs : List Record) (ns : List ℕ) → ((n : ℕ) → In ns n → 1 ≤ length (of_shard n rs)) → Every (IsPartOf s h rs) (map (part_in s h rs) ns)
parts_from s h rs [] some = tt
parts_from s h rs (n ∷ ns) some = (record { some = some n (In-here n ns n refl); first = refl; records = refl; refused = refl }, parts_from s h rs ns (λ k member. some k (In-there n ns k member)))

pub parts_are : (s : Setting) (h : List Entry) (rs : List Record) → Every (IsPartOf s h rs) (parts_of s h rs)
parts_are s h rs = parts_from s h rs (shards_of rs) (of_some rs)

shards_from : (s : Setting) (h : List Entry) (rs : List Record) (ns : List ℕ) → shards (map (part_in s h rs) ns) ≡ ns
shards_from s h rs [] = refl
shards_from s h rs (n ∷ ns) = ap (λ (ks : List ℕ). n ∷ ks) (shards_from s h rs ns)

pub shards_parts : (s : Setting) (h : List Entry) (rs : List Record) → shards (parts_of s h rs) ≡ shards_of rs
shards_parts s h rs = shards_from s h rs (shards_of rs)

pub parts_distinct : (s : Setting) (h : List Entry) (rs : List Record) → Distinct (shards (parts_of s h rs))
parts_distinct s h rs = subst Distinct (sym (shards_parts s h rs)) (shards_distinct rs)

-- their records

pub in_list : (ts : List Stream) (n : ℕ) (xs : List Record) (k : ℕ) → records_in (with_list ts n xs) k ≡ cond (n == k) (records_in ts k ++ xs) (records_in ts k)
in_list [] n xs k = refl
in_list (t ∷ ts) n xs k = elim (cases_Bool (t.shard == n)) [
  | inl here ↦ (
      let same : t.shard ≡ n = eqb-true t.shard n here in
      elim (cases_Bool (t.shard == k)) [
        | inl mine ↦ (let also : (n == k) ≡ true = subst (λ (i : ℕ). (i == k) ≡ true) same mine in rw (here, mine, also) refl)
        | inr other ↦ (let also : (n == k) ≡ false = subst (λ (i : ℕ). (i == k) ≡ false) same other in rw (here, other, also) refl)
      ])
  | inr off ↦ elim (cases_Bool (t.shard == k)) [
    | inl mine ↦ (let also : (n == k) ≡ false = subst (λ (i : ℕ). (n == i) ≡ false) (eqb-true t.shard k mine) (apart_back t.shard n off) in rw (off, mine, also) refl)
    | inr other ↦ rw (off, other) (in_list ts n xs k)
  ]
]

pub in_grown_other : (ts : List Stream) (ps : List Part) (k : ℕ) → holds (shards ps) k ≡ false → records_in (grown_by ts ps) k ≡ records_in ts k
in_grown_other ts [] k none = refl
in_grown_other ts (p ∷ ps) k none =
    let off = or_off (p.shard == k) (holds (shards ps) k) none in
    in_grown_other (with_list ts p.shard p.records) ps k off.1 ∙ (in_list ts p.shard p.records k ∙ rw off.0 refl)

pub in_grown : (ts : List Stream) (ps : List Part) → Distinct (shards ps) → Every (λ (p : Part). records_in (grown_by ts ps) p.shard ≡ records_in ts p.shard ++ p.records) ps
in_grown ts [] d = tt
in_grown ts (p ∷ ps) d =
    let vs = with_list ts p.shard p.records in (
      in_grown_other vs ps p.shard d.0 ∙ (in_list ts p.shard p.records p.shard ∙ rw (eq-eqb p.shard p.shard refl) refl),
      every_map (λ (q : Part). records_in (grown_by vs ps) q.shard ≡ records_in vs q.shard ++ q.records) (λ (q : Part). records_in (grown_by vs ps) q.shard ≡ records_in ts q.shard ++ q.records) ps
          (λ q member is.
          let off : (p.shard == q.shard) ≡ false = false_from_ne_true (p.shard == q.shard) (λ same. apart (shards ps) p.shard d.0 (subst (In (shards ps)) (sym (eqb-true p.shard q.shard same)) member)) in
          is ∙ ap (λ (xs : List Record). xs ++ q.records) (in_list ts p.shard p.records q.shard ∙ rw off refl))
          (in_grown vs ps d.1),
    )

-- records at places

pub get_right : (xs ys : List Record) (k : ℕ) (r : Record) → slice_get ys k ≡ Some r → slice_get (xs ++ ys) (length xs + k) ≡ Some r
get_right [] ys k r at = rw zero-add at
get_right (x ∷ xs) ys k r at =
    let e : suc (length xs) + k ≡ suc (length xs + k) = omega arith in
    rw e (get_right xs ys k r at)

pub record HasAt (xs : List Record) (k : ℕ) : Type 0 where
  pub item : Record
  pub at : slice_get xs k ≡ Some item

pub get_some : (xs : List Record) (k : ℕ) → k < length xs → HasAt xs k
get_some [] k low = absurd (omega arith)
get_some (x ∷ xs) zero low = record { item = x; at = refl }
get_some (x ∷ xs) (suc k) low = (let rest = get_some xs k (omega arith) in record { item = rest.item; at = rest.at })

-- the part's records stand in the setting from its first place on
abbrev pub Stands : Setting → Part → Type 0
Stands s p = (k : ℕ) (r : Record) → slice_get p.records k ≡ Some r → record_at s p.shard (p.first + k) ≡ Some r

pub parts_stand : (s : Setting) (h : List Entry) (rs : List Record) (ps : List Part) (streams : List Stream) → ((n : ℕ) → came_count h n ≡ length (records_in s.streams n)) → Distinct (shards ps) → Every (IsPartOf s h rs) ps
    → Extends (grown_by s.streams ps) streams → Every (Stands (over s streams)) ps
parts_stand s h rs ps streams all d are goes =
    every_both (λ (p : Part). records_in (grown_by s.streams ps) p.shard ≡ records_in s.streams p.shard ++ p.records) (IsPartOf s h rs) (Stands (over s streams)) ps
    (λ p is part k r at.
    let first : p.first ≡ length (records_in s.streams p.shard) = part.first ∙ all p.shard in
    goes p.shard (p.first + k) r (subst (λ (xs : List Record). slice_get xs (p.first + k) ≡ Some r) (sym is)
    (subst (λ (i : ℕ). slice_get (records_in s.streams p.shard ++ p.records) (i + k) ≡ Some r) (sym first) (get_right (records_in s.streams p.shard) p.records k r at))))
    (in_grown s.streams ps d) are

pub stands_within : (s : Setting) (p : Part) → 1 ≤ length p.records → Stands s p → p.first + length p.records ≤ length (records_in s.streams p.shard)
stands_within s p some stands =
    let last = length p.records - 1 in
    let has = get_some p.records (length p.records - 1) (omega arith) in
    let low : p.first + (length p.records - 1) < length (records_in s.streams p.shard) = slice_get_within (records_in s.streams p.shard) (p.first + (length p.records - 1)) has.item (stands (length p.records - 1) has.item has.at) in
    omega (arith, low, some)
