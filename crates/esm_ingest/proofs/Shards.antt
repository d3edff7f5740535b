-- The shards of a list of records, and the records of each.
use Rattle.std.proofs.Common.{◌≡◌, ℕ, ◌≤◌, Bool, true, false, not, cond, ◌||◌, List, [], ◌∷◌, ◌++◌, length, refl, sym, ap, ◌∙◌, inl, inr, arith, append-nil}
use Rattle.std.specs.Prelude.{◌==◌, filter}
use Rattle.std.proofs.lemmas.Bool.{cases_Bool, eq-eqb, eqb-true}
use Rattle.std.proofs.lemmas.List.Elements.{filter-append}
use Rattle.esm_model.specs.Records.{Record}
use Rattle.esm_model.specs.Entries.{holds}
use Rattle.esm_model.proofs.Lists.{In, In-cases, In-filter, filter-In, apart, not_in, Distinct, Distinct-filter}
use Rattle.esm_ingest.specs.Coming.{shards_of, of_shard}

-- tests

pub or_off : (a b : Bool) → (a || b) ≡ false → (a ≡ false) × (b ≡ false)
or_off true b e = absurd (let clash : true ≡ false = e in cc)
or_off false b e = (refl, e)

pub equal_back : (a b : ℕ) → (a == b) ≡ true → (b == a) ≡ true
equal_back a b same = eq-eqb b a (sym (eqb-true a b same))

pub apart_back : (a b : ℕ) → (a == b) ≡ false → (b == a) ≡ false
apart_back a b off = elim (cases_Bool (b == a)) [
  | inl same ↦ absurd (let clash : true ≡ false = sym (equal_back b a same) ∙ off in cc)
  | inr other ↦ other
]

-- the records of a shard

pub of_none : (rs : List Record) (n : ℕ) → holds (shards_of rs) n ≡ false → of_shard n rs ≡ []
of_none [] n none = refl
of_none (r ∷ rs) n none =
    let p = λ (k : ℕ). not (k == r.shard) in
    let off = or_off (r.shard == n) (holds (filter p (shards_of rs)) n) none in
    let none_of_rest : holds (shards_of rs) n ≡ false = not_in (shards_of rs) n (λ member. apart (filter p (shards_of rs)) n off.1 (filter-In p (shards_of rs) n member (ap not (apart_back r.shard n off.0)))) in
    rw off.0 (of_none rs n none_of_rest)

pub of_some : (rs : List Record) (n : ℕ) → In (shards_of rs) n → 1 ≤ length (of_shard n rs)
of_some [] n member = cc
of_some (r ∷ rs) n member =
    let p = λ (k : ℕ). not (k == r.shard) in
    elim (cases_Bool (r.shard == n)) [
      | inl same ↦ rw same (omega arith)
      | inr off ↦ rw off (of_some rs n (elim (In-cases r.shard (filter p (shards_of rs)) n member) [
        | inl here ↦ absurd (let clash : true ≡ false = sym (eq-eqb r.shard n here) ∙ off in cc)
        | inr later ↦ (In-filter p (shards_of rs) n later).0
      ]))
    ]

pub shards_distinct : (rs : List Record) → Distinct (shards_of rs)
shards_distinct [] = tt
shards_distinct (r ∷ rs) =
    let p = λ (k : ℕ). not (k == r.shard) in (
      not_in (filter p (shards_of rs)) r.shard (λ member.
          (let clash : true ≡ false = sym (In-filter p (shards_of rs) r.shard member).1 ∙ ap not (eq-eqb r.shard r.shard refl) in absurd (cc))),
      Distinct-filter p (shards_of rs) (shards_distinct rs),
    )

-- one more record

-- the number stands in the list, at its end where it did not before
abbrev pub pushed : List ℕ → ℕ → List ℕ
pushed ns n = cond (holds ns n) ns (ns ++ n ∷ [])

filter_pushed : (p : ℕ → Bool) (ns : List ℕ) (n : ℕ) → filter p (pushed ns n) ≡ cond (p n) (pushed (filter p ns) n) (filter p ns)
filter_pushed p ns n = elim (cases_Bool (holds ns n)) [
  | inl known ↦ elim (cases_Bool (p n)) [
    | inl is ↦ (let also : holds (filter p ns) n ≡ true = filter-In p ns n known is in rw (known, is, also) refl)
    | inr fails ↦ rw (known, fails) refl
  ]
  | inr new ↦ (let parts = filter-append p ns (n ∷ []) in elim (cases_Bool (p n)) [
    | inl is ↦ (let also : holds (filter p ns) n ≡ false = not_in (filter p ns) n (λ member. apart ns n new (In-filter p ns n member).0) in rw (new, is, also) (parts ∙ rw is refl))
    | inr fails ↦ rw (new, fails) (parts ∙ rw fails (append-nil (filter p ns)))
  ])
]

pub shards_last : (rs : List Record) (r : Record) → shards_of (rs ++ r ∷ []) ≡ pushed (shards_of rs) r.shard
shards_last [] r = refl
shards_last (x ∷ rs) r =
    let p = λ (k : ℕ). not (k == x.shard) in
    ap (λ (ns : List ℕ). x.shard ∷ filter p ns) (shards_last rs r) ∙ (ap (λ (ns : List ℕ). x.shard ∷ ns) (filter_pushed p (shards_of rs) r.shard) ∙ front x.shard r.shard (filter p (shards_of rs)))
  where
    front : (k n : ℕ) (fs : List ℕ) → k ∷ cond (not (n == k)) (pushed fs n) fs ≡ pushed (k ∷ fs) n
    front k n fs = elim (cases_Bool (k == n)) [
      | inl same ↦ rw (same, equal_back k n same) refl
      | inr off ↦ rw (off, apart_back k n off) (elim (cases_Bool (holds fs n)) [
        | inl known ↦ rw known refl
        | inr new ↦ rw new refl
      ])
    ]

pub of_last : (rs : List Record) (r : Record) (n : ℕ) → of_shard n (rs ++ r ∷ []) ≡ cond (r.shard == n) (of_shard n rs ++ r ∷ []) (of_shard n rs)
of_last [] r n = refl
of_last (x ∷ rs) r n = elim (cases_Bool (x.shard == n)) [
  | inl same ↦ rw same (ap (λ (ys : List Record). x ∷ ys) (of_last rs r n) ∙ front (r.shard == n) (of_shard n rs ++ r ∷ []) (of_shard n rs))
  | inr off ↦ rw off (of_last rs r n)
]
  where
    front : (b : Bool) (ys zs : List Record) → x ∷ cond b ys zs ≡ cond b (x ∷ ys) (x ∷ zs)
    front true ys zs = refl
    front false ys zs = refl
