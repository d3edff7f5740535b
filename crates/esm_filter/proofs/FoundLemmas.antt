-- What is kept of a document, level by level, and the member of a name.
use Rattle.std.proofs.Common.{◌≡◌, ◌<◌, ◌≤◌, List, [], ◌∷◌, ◌++◌, length, get_or, set, Bool, true, false, true≢false, ◌&&◌, nat_lt, cond, if◌then◌else◌, Option, Some, None, position, bytes_eq, Bor, Vec, Global, ℕ, zero, suc, refl, sym, ap, subst, ◌∙◌, arith, rules}
use borrow.Author.Tests.{ltb-false}
use Rattle.std.proofs.lemmas.List.Quantifiers.{position-Some}
use Rattle.std.proofs.lemmas.List.Sums.{fails_before_first}
use Rattle.std.proofs.lemmas.Map.Text.{is_eq-slice_cmp}
use Rattle.std.proofs.lemmas.Slice.Eq.{bytes_eq-Decides}
use Rattle.std.specs.Cmp.Lexicographic.{slice_cmp}
use Rattle.std.specs.List.{AllByRecursion, IsDistinct, position_or_len}
use Rattle.std.specs.Ordering.{is_eq, match_ordering, nat_cmp}
use Rattle.std.specs.declared.cmp.Ordering.{Ordering}
use Rattle.std.specs.declared.cmp.Ordering.TheVariants.{Less, Equal, Greater}
use Rattle.serde_json.specs.Data.{Data, array, object, Members, member}
use Rattle.serde_json.specs.Find.{get_member}
use Rattle.esm_filter.specs.Found.{found_view, items_view, members_view, names_of, with_member}
use Rattle.esm_filter.specs.Named.{AreFew}
use Rattle.esm_filter.specs.declared.found.Found.{Found, Array, Object, the_lemmas}

abbrev pub Member : Type 0
Member = Bor (List ℕ) × Found

pub view-Array : (v : Vec Found Global) → found_view (Array v) ≡ array (items_view v.items)
view-Array v = search (rules, the_lemmas)

pub view-Object : (v : Vec Member Global) → found_view (Object v) ≡ object (members_view v.items)
view-Object v = search (rules, the_lemmas)

-- ---- the member of a name

picked : (o : Ordering) (d e : Option Data) → match_ordering o e d e ≡ cond (is_eq o) d e
picked Less d e = refl
picked Equal d e = refl
picked Greater d e = refl

first_named : (name key : List ℕ) (d : Data) (ms : Members) → get_member name (member key d ms) ≡ cond (bytes_eq name key) (Some d) (get_member name ms)
first_named name key d ms =
    picked (slice_cmp nat_cmp name key) (Some d) (get_member name ms) ∙ ap (λ (b : Bool). cond b (Some d) (get_member name ms)) (is_eq-slice_cmp name key)

named_first : (name : List ℕ) (x : Member) (xs : List Member) (b : Bool) → bytes_eq name x.0.now ≡ b → get_member name (members_view (x ∷ xs)) ≡ cond b (Some (found_view x.1)) (get_member name (members_view xs))
named_first name x xs b is =
    first_named name x.0.now (found_view x.1) (members_view xs) ∙ ap (λ (c : Bool). cond c (Some (found_view x.1)) (get_member name (members_view xs))) is

-- the member at i is the first of its name
abbrev IsFirst : List ℕ → List Member → ℕ → Member → Type 0
IsFirst name xs i d = (i < length xs) × (bytes_eq name (get_or xs i d).0.now ≡ true) × ((k : ℕ) → k < i → bytes_eq name (get_or xs k d).0.now ≡ false)

abbrev Lacks : List ℕ → List Member → Member → Type 0
Lacks name xs d = (k : ℕ) → k < length xs → bytes_eq name (get_or xs k d).0.now ≡ false

named_at : (name : List ℕ) (xs : List Member) (i : ℕ) (d : Member) → IsFirst name xs i d → get_member name (members_view xs) ≡ Some (found_view (get_or xs i d).1)
named_at name [] i d first = absurd (omega (arith, first.0))
named_at name (x ∷ xs) zero d first = named_first name x xs true first.1
named_at name (x ∷ xs) (suc i) d first =
    named_first name x xs false (first.2 zero (omega arith)) ∙ named_at name xs i d (omega (arith, first.0), first.1, λ k below. first.2 (suc k) (omega arith))

named_nowhere : (name : List ℕ) (xs : List Member) (d : Member) → Lacks name xs d → get_member name (members_view xs) ≡ None
named_nowhere name [] d lacks = refl
named_nowhere name (x ∷ xs) d lacks =
    named_first name x xs false (lacks zero (omega arith)) ∙ named_nowhere name xs d (λ k below. lacks (suc k) (omega arith))

past_end : (n k : ℕ) (b : Bool) → nat_lt n k ≡ b → None ≡ cond b (Some n) None → k ≤ n
past_end n k true is none = absurd (cc)
past_end n k false is none = ltb-false n k is

lacks_from : (name : List ℕ) (xs : List Member) (d : Member) → None ≡ position (λ m. bytes_eq name m.0.now) xs → Lacks name xs d
lacks_from name xs d none k below =
    let test = λ (m : Member). bytes_eq name m.0.now in
    let end : length xs ≤ position_or_len test xs = past_end (position_or_len test xs) (length xs) (nat_lt (position_or_len test xs) (length xs)) refl none in
    fails_before_first test xs k d (omega arith)

first_from : (name : List ℕ) (xs : List Member) (i : ℕ) (d : Member) → Some i ≡ position (λ m. bytes_eq name m.0.now) xs → IsFirst name xs i d
first_from name xs i d is = position-Some (λ m. bytes_eq name m.0.now) xs i d (sym is)

none_named : (name : List ℕ) (xs : List Member) → None ≡ position (λ m. bytes_eq name m.0.now) xs → None ≡ get_member name (members_view xs)
none_named name [] none = refl
none_named name (x ∷ xs) none = sym (named_nowhere name (x ∷ xs) x (lacks_from name (x ∷ xs) x none))

abbrev pub place_in : List ℕ → List Member → Option ℕ
place_in name xs = position (λ m. bytes_eq name m.0.now) xs

pub named_found : (name : List ℕ) (xs ys : List Member) (i : ℕ) (d : Member) → ys ≡ xs → Some i ≡ place_in name ys → d ≡ get_or xs i d → Some (found_view d.1) ≡ get_member name (members_view xs)
named_found name xs ys i d same is at =
    ap (λ (m : Member). Some (found_view m.1)) at ∙ sym (named_at name xs i d (first_from name xs i d (is ∙ ap (place_in name) same)))

pub named_none : (name : List ℕ) (xs ys : List Member) → ys ≡ xs → None ≡ place_in name ys → None ≡ get_member name (members_view xs)
named_none name xs ys same none = none_named name xs (none ∙ ap (place_in name) same)

-- ---- a member that takes the place of the one of its name

abbrev put_first : Member → Member → List Member → Bool → List Member
put_first m x xs b = if b then m ∷ xs else x ∷ with_member m xs

set_first : (m : Member) (xs : List Member) (i : ℕ) → IsFirst m.0.now xs i m → set xs i m ≡ with_member m xs
set_first m [] i first = absurd (omega (arith, first.0))
set_first m (x ∷ xs) zero first = sym (ap (put_first m x xs) first.1)
set_first m (x ∷ xs) (suc i) first =
    ap (λ (ys : List Member). x ∷ ys) (set_first m xs i (omega (arith, first.0), first.1, λ k below. first.2 (suc k) (omega arith)))
    ∙ sym (ap (put_first m x xs) (first.2 zero (omega arith)))

push_last : (m : Member) (xs : List Member) → Lacks m.0.now xs m → xs ++ m ∷ [] ≡ with_member m xs
push_last m [] lacks = refl
push_last m (x ∷ xs) lacks =
    ap (λ (ys : List Member). x ∷ ys) (push_last m xs (λ k below. lacks (suc k) (omega arith))) ∙ sym (ap (put_first m x xs) (lacks zero (omega arith)))

pub with_member-set : (m : Member) (xs ys zs : List Member) (i : ℕ) → ys ≡ xs → Some i ≡ place_in m.0.now ys → zs ≡ set xs i m → zs ≡ with_member m xs
with_member-set m xs ys zs i same is put = put ∙ set_first m xs i (first_from m.0.now xs i m (is ∙ ap (place_in m.0.now) same))

pub with_member-push : (m : Member) (xs ys zs : List Member) → ys ≡ xs → None ≡ place_in m.0.now ys → zs ≡ xs ++ m ∷ [] → zs ≡ with_member m xs
with_member-push m xs ys zs same none put = put ∙ push_last m xs (lacks_from m.0.now xs m (none ∙ ap (place_in m.0.now) same))

-- ---- what is found after that

twice : (b : Bool) (o p q : Option Data) → cond b o q ≡ cond b o (cond b p q)
twice true o p q = refl
twice false o p q = refl

either_first : (a b : Bool) (o p q : Option Data) → (a ≡ true → b ≡ true → ⊥) → cond a o (cond b p q) ≡ cond b p (cond a o q)
either_first true true o p q apart = absurd (apart refl refl)
either_first true false o p q apart = refl
either_first false true o p q apart = refl
either_first false false o p q apart = refl

module _ (k : List ℕ) (m x : Member) (xs : List Member) where
  abbrev found_in : List Member → Option Data
  found_in ys = get_member k (members_view ys)

  found_at : (b : Bool) → bytes_eq m.0.now x.0.now ≡ b → found_in (with_member m xs) ≡ cond (bytes_eq k m.0.now) (Some (found_view m.1)) (found_in xs)
      → found_in (put_first m x xs b) ≡ cond (bytes_eq k m.0.now) (Some (found_view m.1)) (found_in (x ∷ xs))
  found_at true is later =
      let same : x.0.now ≡ m.0.now = sym ((bytes_eq-Decides m.0.now x.0.now).0 is) in
      let here = bytes_eq k m.0.now in
      named_first k m xs here refl
      ∙ twice here (Some (found_view m.1)) (Some (found_view x.1)) (found_in xs)
      ∙ ap (cond here (Some (found_view m.1))) (sym (named_first k x xs here (ap (bytes_eq k) same)))
  found_at false is later =
      let here = bytes_eq k m.0.now in
      let there = bytes_eq k x.0.now in
      let apart = λ (a : there ≡ true) (b : here ≡ true). true≢false (sym ((bytes_eq-Decides m.0.now x.0.now).1 (sym ((bytes_eq-Decides k m.0.now).0 b) ∙ (bytes_eq-Decides k x.0.now).0 a)) ∙ is) in
      named_first k x (with_member m xs) there refl
      ∙ ap (cond there (Some (found_view x.1))) later
      ∙ either_first there here (Some (found_view x.1)) (Some (found_view m.1)) (found_in xs) apart
      ∙ ap (cond here (Some (found_view m.1))) (sym (named_first k x xs there refl))

pub get_member-with_member : (k : List ℕ) (m : Member) (xs : List Member) → get_member k (members_view (with_member m xs)) ≡ cond (bytes_eq k m.0.now) (Some (found_view m.1)) (get_member k (members_view xs))
get_member-with_member k m [] = named_first k m [] (bytes_eq k m.0.now) refl
get_member-with_member k m (x ∷ xs) = found_at k m x xs (bytes_eq m.0.now x.0.now) refl (get_member-with_member k m xs)

-- ---- there are no more members than names

all_at : (P : List ℕ → Type 0) (m x : Member) (xs : List Member) (b : Bool) → AllByRecursion P (names_of (x ∷ xs)) → P m.0.now → AllByRecursion P (names_of (with_member m xs)) → AllByRecursion P (names_of (put_first m x xs b))
all_at P m x xs true all one later = (one, all.1)
all_at P m x xs false all one later = (all.0, later)

all_with : (P : List ℕ → Type 0) (m : Member) (xs : List Member) → AllByRecursion P (names_of xs) → P m.0.now → AllByRecursion P (names_of (with_member m xs))
all_with P m [] all one = (one, tt)
all_with P m (x ∷ xs) all one = all_at P m x xs (bytes_eq m.0.now x.0.now) all one (all_with P m xs all.1 one)

differ : (xs ys : List ℕ) (b : Bool) → bytes_eq xs ys ≡ b → bytes_eq ys xs ≡ false → b ≡ false
differ xs ys true is other = absurd (true≢false (sym ((bytes_eq-Decides ys xs).1 (sym ((bytes_eq-Decides xs ys).0 is))) ∙ other))
differ xs ys false is other = refl

apart_at : (m x : Member) (xs : List Member) (b : Bool) → bytes_eq m.0.now x.0.now ≡ b → IsDistinct bytes_eq (names_of (x ∷ xs)) → IsDistinct bytes_eq (names_of (with_member m xs)) → IsDistinct bytes_eq (names_of (put_first m x xs b))
unfolding IsDistinct
apart_at m x xs true is apart later =
    let same : x.0.now ≡ m.0.now = sym ((bytes_eq-Decides m.0.now x.0.now).0 is) in
    (subst (λ (n : List ℕ). AllByRecursion (λ y. bytes_eq n y ≡ false) (names_of xs)) same apart.0, apart.1)
apart_at m x xs false is apart later =
    (all_with (λ y. bytes_eq x.0.now y ≡ false) m xs apart.0 (differ x.0.now m.0.now (bytes_eq x.0.now m.0.now) refl is), later)

apart_with : (m : Member) (xs : List Member) → IsDistinct bytes_eq (names_of xs) → IsDistinct bytes_eq (names_of (with_member m xs))
unfolding IsDistinct
apart_with m [] apart = (tt, tt)
apart_with m (x ∷ xs) apart = apart_at m x xs (bytes_eq m.0.now x.0.now) refl apart (apart_with m xs apart.1)

pub few_none : (names : List ℕ → Bool) → AreFew names []
unfolding IsDistinct
few_none names = record { apart = tt; named = tt }

both_right : (a b : Bool) → (a && b) ≡ true → b ≡ true
both_right true b e = e
both_right false b e = absurd (true≢false (sym e))

pub few_next : (names : List ℕ → Bool) (kept : Bool) (m : Member) (xs ys : List Member) (wanted : Bool) → wanted ≡ (kept && names m.0.now) → (wanted ≡ true → ys ≡ with_member m xs) → (wanted ≡ false → ys ≡ xs)
    → AreFew names xs → AreFew names ys
few_next names kept m xs ys true is put passed few =
    subst (AreFew names) (sym (put refl)) (record { apart = apart_with m xs few.apart; named = all_with (λ n. names n ≡ true) m xs few.named (both_right kept (names m.0.now) (sym is)) })
few_next names kept m xs ys false is put passed few = subst (AreFew names) (sym (passed refl)) few
