-- The shards of a ledger: their names, their places and their records.
use Rattle.std.proofs.Common.{◌≡◌, ℕ, zero, suc, ◌≤◌, Bool, true, false, List, [], ◌∷◌, ◌++◌, map, set, refl, sym, ap, ◌∙◌, subst, ◌⊎◌, inl, inr, Option, Some, arith}
use Rattle.std.specs.Prelude.{◌==◌, slice_get, if◌then◌else◌}
use Rattle.std.proofs.Math.Seq.{map-set_same}
use Rattle.std.proofs.lemmas.Bool.{cases_Bool, eq-eqb, eqb-true, false_from_ne_true}
use Rattle.std.proofs.lemmas.Option.{get_or_from_slice_get}
use Rattle.esm_model.specs.declared.entry.Entry.{Entry}
use Rattle.esm_model.specs.declared.entry.Entry.TheVariants.{Came, Began, Ended, Gave, Tried, Closed, Replayed, Shut}
use Rattle.esm_model.specs.Setting.{Setting, records_in}
use Rattle.esm_model.specs.Entries.{holds, came_count, shards_that_came}
use Rattle.esm_model.specs.Step.{Legal}
use Rattle.esm_model.proofs.Lists.{In, In-here, In-there, In-cases, In-one, In-append_left, In-append_right, In-append_cases, apart, not_in, Distinct, Distinct-push}
use Rattle.esm_ledger.specs.declared.ledger.Ledger.{Ledger}
use Rattle.esm_ledger.specs.declared.shard.ShardLedger.{ShardLedger}
use Rattle.esm_ledger.specs.Ledger.{past_of, setting_of, stream_of, LegalOver, IsAt, Rests}

-- a history that is legal over all lists that go on is so over its own
pub own_legal : (s : Setting) (h : List Entry) → LegalOver s h → Legal s h
own_legal s h legal = legal s.streams (λ n i r at. at)

-- shards that came

pub shards_distinct : (h : List Entry) → Distinct (shards_that_came h)
shards_distinct [] = tt
shards_distinct (Came n first count m ∷ h) = elim (cases_Bool (holds (shards_that_came h) n)) [
  | inl known ↦ rw known (shards_distinct h)
  | inr new ↦ rw new (Distinct-push (shards_that_came h) n (shards_distinct h) (apart (shards_that_came h) n new))
]
shards_distinct (Began lane places closing m ∷ h) = shards_distinct h
shards_distinct (Ended lane reply m ∷ h) = shards_distinct h
shards_distinct (Gave by n places f line state m ∷ h) = shards_distinct h
shards_distinct (Tried lane places closing t m ∷ h) = shards_distinct h
shards_distinct (Closed lane w m ∷ h) = shards_distinct h
shards_distinct (Replayed n places m ∷ h) = shards_distinct h
shards_distinct (Shut m ∷ h) = shards_distinct h

came_elsewhere : (before : List ℕ) (known : Bool) (k n : ℕ) → holds before k ≡ known → holds (if known then before else before ++ k ∷ []) n ≡ false → ((k == n) ≡ false) × (holds before n ≡ false)
came_elsewhere before true k n is none = (
  false_from_ne_true (k == n) (λ same. apart before n none (subst (λ x. In before x) (eqb-true k n same) is)),
  none,
)
came_elsewhere before false k n is none = (
  false_from_ne_true (k == n) (λ same. apart (before ++ k ∷ []) n none (In-append_right before (k ∷ []) n (In-here k [] n (eqb-true k n same)))),
  not_in before n (λ member. apart (before ++ k ∷ []) n none (In-append_left before (k ∷ []) n member)),
)

came_before : (before : List ℕ) (known : Bool) (k n : ℕ) → (k == n) ≡ false → holds (if known then before else before ++ k ∷ []) n ≡ true → holds before n ≡ true
came_before before true k n off some = some
came_before before false k n off some = elim (In-append_cases before (k ∷ []) n some) [
  | inl member ↦ member
  | inr here ↦ absurd (let clash : true ≡ false = sym (eq-eqb k n (In-one k n here)) ∙ off in cc)
]

pub came_none : (h : List Entry) (n : ℕ) → holds (shards_that_came h) n ≡ false → came_count h n ≡ 0
came_none [] n none = refl
came_none (Came k first count m ∷ h) n none =
    let parts = came_elsewhere (shards_that_came h) (holds (shards_that_came h) k) k n refl none in
    rw parts.0 (came_none h n parts.1)
came_none (Began lane places closing m ∷ h) n none = came_none h n none
came_none (Ended lane reply m ∷ h) n none = came_none h n none
came_none (Gave by k places f line state m ∷ h) n none = came_none h n none
came_none (Tried lane places closing t m ∷ h) n none = came_none h n none
came_none (Closed lane w m ∷ h) n none = came_none h n none
came_none (Replayed k places m ∷ h) n none = came_none h n none
came_none (Shut m ∷ h) n none = came_none h n none

pub came_some : (s : Setting) (h : List Entry) (n : ℕ) → Legal s h → holds (shards_that_came h) n ≡ true → 1 ≤ came_count h n
came_some s [] n legal some = cc
came_some s (Came k first count m ∷ h) n legal some = elim (cases_Bool (k == n)) [
  | inl same ↦ (let least : 1 ≤ count = legal.1.1.some in rw same (omega (arith, least)))
  | inr off ↦ rw off (came_some s h n legal.0 (came_before (shards_that_came h) (holds (shards_that_came h) k) k n off some))
]
came_some s (Began lane places closing m ∷ h) n legal some = came_some s h n legal.0 some
came_some s (Ended lane reply m ∷ h) n legal some = came_some s h n legal.0 some
came_some s (Gave by k places f line state m ∷ h) n legal some = came_some s h n legal.0 some
came_some s (Tried lane places closing t m ∷ h) n legal some = came_some s h n legal.0 some
came_some s (Closed lane w m ∷ h) n legal some = came_some s h n legal.0 some
came_some s (Replayed k places m ∷ h) n legal some = absurd legal.1.1
came_some s (Shut m ∷ h) n legal some = came_some s h n legal.0 some

-- shards that are kept

abbrev pub names : List ShardLedger → List ℕ
names xs = map (λ (x : ShardLedger). x.shard) xs

pub is_that : (x y : ShardLedger) → ◌≡◌ {A = Option ShardLedger} (Some x) (Some y) → x ≡ y
is_that x y e = cc

pub shard_in : (xs : List ShardLedger) (i : ℕ) (x : ShardLedger) → slice_get xs i ≡ Some x → In (names xs) x.shard
shard_in [] i x at = cc
shard_in (y ∷ xs) zero x at = In-here y.shard (names xs) x.shard (ap (λ (z : ShardLedger). z.shard) (is_that y x at))
shard_in (y ∷ xs) (suc i) x at = In-there y.shard (names xs) x.shard (shard_in xs i x at)

pub record IsFound (xs : List ShardLedger) (n : ℕ) : Type 0 where
  pub place : ℕ
  pub kept : ShardLedger
  pub at : slice_get xs place ≡ Some kept
  pub shard : kept.shard ≡ n

pub shard_found : (xs : List ShardLedger) (n : ℕ) → In (names xs) n → IsFound xs n
shard_found [] n member = cc
shard_found (x ∷ xs) n member = elim (In-cases x.shard (names xs) n member) [
  | inl same ↦ record { place = 0; kept = x; at = refl; shard = same }
  | inr later ↦ (let f = shard_found xs n later in record { place = suc f.place; kept = f.kept; at = f.at; shard = f.shard })
]

pub one_place : (xs : List ShardLedger) (i j : ℕ) (x y : ShardLedger) → Distinct (names xs) → slice_get xs i ≡ Some x → slice_get xs j ≡ Some y → x.shard ≡ y.shard → i ≡ j
one_place [] i j x y d a b same = cc
one_place (z ∷ xs) zero zero x y d a b same = refl
one_place (z ∷ xs) zero (suc j) x y d a b same =
    absurd (apart (names xs) z.shard d.0 (subst (λ n. In (names xs) n) (sym same ∙ sym (ap (λ (w : ShardLedger). w.shard) (is_that z x a))) (shard_in xs j y b)))
one_place (z ∷ xs) (suc i) zero x y d a b same =
    absurd (apart (names xs) z.shard d.0 (subst (λ n. In (names xs) n) (same ∙ sym (ap (λ (w : ShardLedger). w.shard) (is_that z y b))) (shard_in xs i x a)))
one_place (z ∷ xs) (suc i) (suc j) x y d a b same = ap suc (one_place xs i j x y d.1 a b same)

-- their records

pub records_at_place : (xs : List ShardLedger) (i : ℕ) (x : ShardLedger) → Distinct (names xs) → slice_get xs i ≡ Some x → records_in (map stream_of xs) x.shard ≡ x.records.items
records_at_place [] i x d at = cc
records_at_place (z ∷ xs) zero x d at =
    let e = is_that z x at in
    rw (eq-eqb z.shard x.shard (ap (λ (w : ShardLedger). w.shard) e)) (ap (λ (w : ShardLedger). w.records.items) e)
records_at_place (z ∷ xs) (suc i) x d at =
    let off : (z.shard == x.shard) ≡ false = false_from_ne_true (z.shard == x.shard)
    (λ same. apart (names xs) z.shard d.0 (subst (λ n. In (names xs) n) (sym (eqb-true z.shard x.shard same)) (shard_in xs i x at))) in
    rw off (records_at_place xs i x d.1 at)

pub records_nowhere : (xs : List ShardLedger) (n : ℕ) → ((i : ℕ) (x : ShardLedger) → slice_get xs i ≡ Some x → x.shard ≡ n → ⊥) → records_in (map stream_of xs) n ≡ []
records_nowhere [] n none = refl
records_nowhere (x ∷ xs) n none =
    let off : (x.shard == n) ≡ false = false_from_ne_true (x.shard == n) (λ same. none 0 x refl (eqb-true x.shard n same)) in
    rw off (records_nowhere xs n (λ i y at. none (suc i) y at))

-- one of them changes

pub record IsSet (xs ys : List ShardLedger) (i : ℕ) (x y : ShardLedger) : Type 0 where
  pub at : slice_get xs i ≡ Some x
  pub now : ys ≡ set xs i y
  pub shard : y.shard ≡ x.shard
  pub records : y.records.items ≡ x.records.items

pub names_set : (xs ys : List ShardLedger) (i : ℕ) (x y : ShardLedger) → IsSet xs ys i x y → names ys ≡ names xs
names_set xs ys i x y is =
    ap names is.now
    ∙ map-set_same (λ (z : ShardLedger). z.shard) xs i y x (is.shard ∙ ap (λ (z : ShardLedger). z.shard) (sym (get_or_from_slice_get xs i x x is.at)))

same_stream : (x y : ShardLedger) → y.shard ≡ x.shard → y.records.items ≡ x.records.items → stream_of y ≡ stream_of x
same_stream x y a b = cc

pub streams_set : (xs ys : List ShardLedger) (i : ℕ) (x y : ShardLedger) → IsSet xs ys i x y → map stream_of ys ≡ map stream_of xs
streams_set xs ys i x y is =
    ap (map stream_of) is.now
    ∙ map-set_same stream_of xs i y x (same_stream x y is.shard is.records ∙ ap stream_of (sym (get_or_from_slice_get xs i x x is.at)))

abbrev pub IsOther : List ShardLedger → ℕ → ℕ → ShardLedger → Type 0
IsOther xs i j z = (i ≡ j → ⊥) × (slice_get xs j ≡ Some z)

pub set_cases : (xs : List ShardLedger) (i j : ℕ) (y z : ShardLedger) → slice_get (set xs i y) j ≡ Some z → (z ≡ y) ⊎ IsOther xs i j z
set_cases [] i j y z at = cc
set_cases (x ∷ xs) zero zero y z at = inl (sym (is_that y z at))
set_cases (x ∷ xs) zero (suc j) y z at = inr ((λ e. omega (arith, e)), at)
set_cases (x ∷ xs) (suc i) zero y z at = inr ((λ e. omega (arith, e)), at)
set_cases (x ∷ xs) (suc i) (suc j) y z at = elim (set_cases xs i j y z at) [
  | inl here ↦ inl here
  | inr there ↦ inr ((λ e. there.0 (omega (arith, e))), there.1)
]

-- a ledger

abbrev pub IsNowhere : Ledger → ℕ → Type 0
IsNowhere c n = (x : ShardLedger) → IsAt c n x → ⊥

pub ledger_distinct : (c : Ledger) → Rests c → Distinct (names c.shards.items)
ledger_distinct c r = subst (λ (ns : List ℕ). Distinct ns) (sym r.shards) (shards_distinct (past_of c))

pub nowhere_none : (c : Ledger) (n : ℕ) → Rests c → IsNowhere c n → came_count (past_of c) n ≡ 0
nowhere_none c n r none = came_none (past_of c) n (not_in (shards_that_came (past_of c)) n (λ member.
    let f = shard_found c.shards.items n (subst (λ (ns : List ℕ). In ns n) (sym r.shards) member) in
    none f.kept (f.place, f.at, f.shard)))

pub somewhere_some : (c : Ledger) (n : ℕ) (x : ShardLedger) → Rests c → IsAt c n x → 1 ≤ came_count (past_of c) n
somewhere_some c n x r is =
    let member : In (names c.shards.items) n = subst (λ k. In (names c.shards.items) k) is.2 (shard_in c.shards.items is.0 x is.1) in
    came_some (setting_of c) (past_of c) n (own_legal (setting_of c) (past_of c) r.legal) (subst (λ (ns : List ℕ). In ns n) r.shards member)

pub records_here : (c : Ledger) (n : ℕ) (x : ShardLedger) → Rests c → IsAt c n x → records_in (setting_of c).streams n ≡ x.records.items
records_here c n x r is = subst (λ k. records_in (map stream_of c.shards.items) k ≡ x.records.items) is.2 (records_at_place c.shards.items is.0 x (ledger_distinct c r) is.1)

pub records_absent : (c : Ledger) (n : ℕ) → IsNowhere c n → records_in (setting_of c).streams n ≡ []
records_absent c n none = records_nowhere c.shards.items n (λ i x at same. none x (i, at, same))
