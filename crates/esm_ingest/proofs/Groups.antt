-- Records that are gathered by their shards.
use Rattle.std.proofs.Common.{◌≡◌, ℕ, zero, suc, ◌<◌, Bool, true, false, cond, List, [], ◌∷◌, ◌++◌, map, set, length, refl, sym, ap, ◌∙◌, subst, inl, inr, arith, get_or, Option, Some, None}
use Rattle.std.specs.Prelude.{◌==◌, option_map, slice_get}
use Rattle.std.specs.Ordering.{nat_cmp, is_eq}
use Rattle.std.proofs.lemmas.Bool.{cases_Bool, eq-eqb, eqb-true}
use Rattle.esm_journal_state.proofs.Pairs.{is_eq-nat}
use Rattle.std.proofs.lemmas.Option.{slice_get_read, same_Some}
use Rattle.esm_model.specs.Records.{Record}
use Rattle.esm_model.specs.Setting.{Stream}
use Rattle.esm_ingest.specs.declared.group.Group.{Group}
use Rattle.esm_ingest.specs.Coming.{with_record}
use Rattle.esm_ingest.specs.Inside.{stream_in, names_in, place_in}
use Rattle.esm_ingest.proofs.Shards.{apart_back}
use Rattle.esm_ingest.proofs.Streams.{stream}

-- indexes

record IsAfter (o : Option ℕ) (i : ℕ) : Type 0 where
  place : ℕ
  was : o ≡ Some place
  next : i ≡ suc place

after_of : (o : Option ℕ) (i : ℕ) → option_map suc o ≡ Some i → IsAfter o i
after_of None i e = absurd (cc)
after_of (Some j) i e = record { place = j; was = refl; next = sym (same_Some (suc j) i e) }

after_none : (o : Option ℕ) → option_map suc o ≡ None → o ≡ None
after_none None e = refl
after_none (Some j) e = absurd (cc)

pub place_within : (ns : List ℕ) (n i : ℕ) → place_in ns n ≡ Some i → i < length ns
place_within [] n i is = absurd (cc)
place_within (k ∷ ns) n i is = elim (cases_Bool (k == n)) [
  | inl same ↦ (let e : 0 ≡ i = same_Some 0 i (rw same at is) in omega (arith, e))
  | inr off ↦ (let a = after_of (place_in ns n) i (rw off at is) in let e = a.next in let low : a.place < length ns = place_within ns n a.place a.was in omega (arith, e, low))
]

names_length : (gs : List Group) → length (names_in gs) ≡ length gs
names_length [] = refl
names_length (g ∷ gs) = ap suc (names_length gs)

pub index_within : (gs : List Group) (n i : ℕ) → place_in (names_in gs) n ≡ Some i → i < length gs
index_within gs n i is = (let low : i < length (names_in gs) = place_within (names_in gs) n i is in let e = names_length gs in omega (arith, low, e))

-- the next record of a shard

make_stream : (a b : ℕ) (p q : List Record) → a ≡ b → p ≡ q → stream a p ≡ stream b q
make_stream a b p q x y = ap (λ (n : ℕ). stream n p) x ∙ ap (stream b) y

set_at : (gs : List Group) (i : ℕ) (r : Record) (x y : Group) → place_in (names_in gs) r.shard ≡ Some i → slice_get gs i ≡ Some x → y.shard ≡ x.shard → y.records.items ≡ x.records.items ++ r ∷ []
    → (map stream_in (set gs i y) ≡ with_record (map stream_in gs) r) × (names_in (set gs i y) ≡ names_in gs)
set_at [] i r x y is at same more = absurd (cc)
set_at (g ∷ gs) i r x y is at same more = elim (cases_Bool (g.shard == r.shard)) [
  | inl here ↦ front i (same_Some 0 i (rw here at is)) at here
  | inr off ↦ (let a = after_of (place_in (names_in gs) r.shard) i (rw off at is) in later i a.place a.next at a.was off (λ k there was. set_at gs k r x y was there same more))
]
  where
    front : (i : ℕ) → 0 ≡ i → slice_get (g ∷ gs) i ≡ Some x → (g.shard == r.shard) ≡ true → (map stream_in (set (g ∷ gs) i y) ≡ with_record (map stream_in (g ∷ gs)) r) × (names_in (set (g ∷ gs) i y) ≡ names_in (g ∷ gs))
    front zero e at here =
        let is_g : g ≡ x = same_Some g x at in
        let shard : y.shard ≡ g.shard = same ∙ sym (ap (λ (z : Group). z.shard) is_g) in
        let records : y.records.items ≡ g.records.items ++ r ∷ [] = more ∙ ap (λ (z : Group). z.records.items ++ r ∷ []) (sym is_g) in
        (rw here (ap (λ (t : Stream). t ∷ map stream_in gs) (make_stream y.shard g.shard y.records.items (g.records.items ++ r ∷ []) shard records)), ap (λ (n : ℕ). n ∷ names_in gs) shard)
    front (suc i) e at here = absurd (omega (arith, e))

    later : (i j : ℕ) → i ≡ suc j → slice_get (g ∷ gs) i ≡ Some x → place_in (names_in gs) r.shard ≡ Some j → (g.shard == r.shard) ≡ false
        → ((k : ℕ) → slice_get gs k ≡ Some x → place_in (names_in gs) r.shard ≡ Some k → (map stream_in (set gs k y) ≡ with_record (map stream_in gs) r) × (names_in (set gs k y) ≡ names_in gs))
        → (map stream_in (set (g ∷ gs) i y) ≡ with_record (map stream_in (g ∷ gs)) r) × (names_in (set (g ∷ gs) i y) ≡ names_in (g ∷ gs))
    later zero j e at was off more_of = absurd (omega (arith, e))
    later (suc i) j e at was off more_of =
        let same_place : j ≡ i = omega (arith, e) in
        let rest = more_of i at (subst (λ (k : ℕ). place_in (names_in gs) r.shard ≡ Some k) same_place was) in
        (rw off (ap (λ (ts : List Stream). stream_in g ∷ ts) rest.0), ap (λ (ns : List ℕ). g.shard ∷ ns) rest.1)

pub next_record : (gs : List Group) (i : ℕ) (r : Record) (x y : Group) → place_in (names_in gs) r.shard ≡ Some i → x ≡ get_or gs i x → y.shard ≡ x.shard → y.records.items ≡ x.records.items ++ r ∷ []
    → (map stream_in (set gs i y) ≡ with_record (map stream_in gs) r) × (names_in (set gs i y) ≡ names_in gs)
next_record gs i r x y is read same more = set_at gs i r x y is (slice_get_read gs (length gs) i x refl (index_within gs r.shard i is) read) same more

-- the first record of a shard

pub first_record : (gs : List Group) (r : Record) (y : Group) (now : List Group) → place_in (names_in gs) r.shard ≡ None → now ≡ gs ++ y ∷ [] → y.shard ≡ r.shard → y.records.items ≡ r ∷ [] → map stream_in now ≡ with_record (map stream_in gs) r
first_record gs r y now none is same one = ap (map stream_in) is ∙ at gs none
  where
    at : (xs : List Group) → place_in (names_in xs) r.shard ≡ None → map stream_in (xs ++ y ∷ []) ≡ with_record (map stream_in xs) r
    at [] none = ap (λ (t : Stream). t ∷ []) (make_stream y.shard r.shard y.records.items (r ∷ []) same one)
    at (x ∷ xs) none = elim (cases_Bool (x.shard == r.shard)) [
      | inl here ↦ absurd (let clash : Some 0 ≡ None = rw here at none in cc)
      | inr off ↦ rw off (ap (λ (ts : List Stream). stream_in x ∷ ts) (at xs (after_none (place_in (names_in xs) r.shard) (rw off at none))))
    ]

first_name : (gs : List Group) (y : Group) (now : List Group) (n : ℕ) → now ≡ gs ++ y ∷ [] → y.shard ≡ n → names_in now ≡ names_in gs ++ n ∷ []
first_name gs y now n is same = ap names_in is ∙ at gs
  where
    at : (xs : List Group) → names_in (xs ++ y ∷ []) ≡ names_in xs ++ n ∷ []
    at [] = ap (λ (k : ℕ). k ∷ []) same
    at (x ∷ xs) = ap (λ (ks : List ℕ). x.shard ∷ ks) (at xs)

-- the index goes on
place_pushed : (ns : List ℕ) (k n : ℕ) → place_in ns k ≡ None → place_in (ns ++ k ∷ []) n ≡ cond (k == n) (Some (length ns)) (place_in ns n)
place_pushed [] k n none = refl
place_pushed (x ∷ ns) k n none = elim (cases_Bool (x == k)) [
  | inl here ↦ absurd (let clash : Some 0 ≡ None = rw here at none in cc)
  | inr off ↦ (
      let rest = place_pushed ns k n (after_none (place_in ns k) (rw off at none)) in
      elim (cases_Bool (x == n)) [
        | inl mine ↦ (let other : (k == n) ≡ false = subst (λ (i : ℕ). (k == i) ≡ false) (eqb-true x n mine) (apart_back x k off) in rw (mine, other) refl)
        | inr not_mine ↦ rw not_mine (ap (option_map suc) rest ∙ push (k == n) (Some (length ns)) (place_in ns n))
      ])
]
  where
    push : (b : Bool) (o p : Option ℕ) → option_map suc (cond b o p) ≡ cond b (option_map suc o) (option_map suc p)
    push true o p = refl
    push false o p = refl

pub index_more : (gs : List Group) (y : Group) (now : List Group) (k n : ℕ) → place_in (names_in gs) k ≡ None → now ≡ gs ++ y ∷ [] → y.shard ≡ k → place_in (names_in now) n ≡ cond (k == n) (Some (length gs)) (place_in (names_in gs) n)
index_more gs y now k n none is same =
    ap (λ (ns : List ℕ). place_in ns n) (first_name gs y now k is same)
    ∙ (place_pushed (names_in gs) k n none ∙ ap (λ (i : ℕ). cond (k == n) (Some i) (place_in (names_in gs) n)) (names_length gs))

pub index_next : (k n len count : ℕ) (before after was now : Option ℕ) → len ≡ count → after ≡ cond (is_eq (nat_cmp k n)) (Some len) before → before ≡ was → now ≡ cond (k == n) (Some count) was → after ≡ now
index_next k n len count before after was now same next so_far more =
    next
    ∙ (ap (λ (b : Bool). cond b (Some len) before) (is_eq-nat k n)
    ∙ (ap (λ (i : ℕ). cond (k == n) (Some i) before) same
    ∙ (ap (λ (o : Option ℕ). cond (k == n) (Some count) o) so_far ∙ sym more)))

-- that of a new shard
pub index_here : (k len : ℕ) (before after : Option ℕ) → after ≡ cond (is_eq (nat_cmp k k)) (Some len) before → after ≡ Some len
index_here k len before after next = next ∙ ap (λ (b : Bool). cond b (Some len) before) (is_eq-nat k k ∙ eq-eqb k k refl)

-- the end of a list

pub no_record : (xs : List Record) → length xs ≡ 0 → xs ≡ []
no_record [] none = refl
no_record (x ∷ xs) none = absurd (omega arith)

pub no_group : (xs : List Group) → length xs ≡ 0 → xs ≡ []
no_group [] none = refl
no_group (x ∷ xs) none = absurd (omega arith)
