-- A set of ids after one more.
use Rattle.std.proofs.Common.{◌≡◌, ℕ, Bool, true, false, cond, List, Ordering, refl, sym, ap, ◌∙◌, subst, ⊎_elim}
use Rattle.std.specs.Prelude.{◌||◌, not}
use Rattle.std.specs.declared.cmp.Ordering.TheVariants.{Less, Equal, Greater}
use Rattle.std.specs.Ordering.{is_eq, eq_by_cmp, nat_cmp, ordering_then}
use Rattle.std.specs.Cmp.{eq_by_cmp_equiv, then_total, on_total, nat_cmp_total}
use Rattle.std.specs.Cmp.Lexicographic.{slice_cmp, nat_list_cmp_total, nat_list_eq_equiv, bytes_decides}
use Rattle.std.specs.List.{list_any}
use Rattle.std.specs.Str.{bytes_eq}
use Rattle.std.specs.String.{string_bytes}
use Rattle.std.specs.declared.string.String.{String}
use Rattle.std.specs.Global.{Global}
use Rattle.std.specs.BTreeMap.{is_at}
use Rattle.std.specs.BTreeSet.{UpdatesBy, contains, contains_by}
use Rattle.std.specs.Map.{IsKeyTest, AreApart}
use Rattle.std.specs.Set.{KeepsOthers}
use Rattle.std.proofs.lemmas.Bool.{cases_Bool, cond-true, cond-false}
use Rattle.std.proofs.lemmas.Map.Text.{is_eq-slice_cmp}
use Rattle.esm_record.specs.Ids.{front_of, Ids, id_cmp, stood_in}

abbrev Key : Type 0
Key = ℕ × String Global

abbrev key_cmp : Key → Key → Ordering
key_cmp x y = ordering_then (nat_cmp x.0 y.0) (slice_cmp nat_cmp (string_bytes x.1) (string_bytes y.1))

second_true : (o s : Ordering) → is_eq (ordering_then o s) ≡ true → is_eq s ≡ true
second_true Less s e = absurd cc
second_true Equal s e = e
second_true Greater s e = absurd cc

second_false : (o s : Ordering) → is_eq s ≡ false → is_eq (ordering_then o s) ≡ false
second_false Less s e = refl
second_false Equal s e = e
second_false Greater s e = refl

apart : (bs cs ks : List ℕ) → bytes_eq bs cs ≡ false → bytes_eq bs ks ≡ true → bytes_eq cs ks ≡ false
apart bs cs ks n y = nat_list_eq_equiv.symm cs ks ∙ sym (nat_list_eq_equiv.congr bs ks cs y) ∙ n

-- a key at which one id is, and another is not
apart_at : (id other : List ℕ) (key : Key) → bytes_eq id other ≡ false → is_at (id_cmp id) key ≡ true → is_at (id_cmp other) key ≡ false
apart_at id other key n at =
    let same : is_eq (slice_cmp nat_cmp id (string_bytes key.1)) ≡ true = second_true (nat_cmp (front_of id) key.0) (slice_cmp nat_cmp id (string_bytes key.1)) at in
    let is : bytes_eq id (string_bytes key.1) ≡ true = sym (is_eq-slice_cmp id (string_bytes key.1)) ∙ same in
    second_false (nat_cmp (front_of other) key.0) (slice_cmp nat_cmp other (string_bytes key.1)) (is_eq-slice_cmp other (string_bytes key.1) ∙ apart id other (string_bytes key.1) n is)

key_test : (id : List ℕ) → IsKeyTest (eq_by_cmp key_cmp) (is_at (id_cmp id))
key_test id x y same = (eq_by_cmp_equiv (then_total (on_total (λ (t : ℕ × List ℕ). t.0) nat_cmp_total) (on_total (λ (t : ℕ × List ℕ). t.1) nat_list_cmp_total))).congr (front_of id, id) (x.0, string_bytes x.1) (y.0, string_bytes y.1) same

other_ids : (old new : List Key) (test : Key → Bool) → KeepsOthers (eq_by_cmp key_cmp) test old new → (other : Key → Bool) → IsKeyTest (eq_by_cmp key_cmp) other → AreApart test other → list_any other new ≡ list_any other old
unfolding KeepsOthers
other_ids old new test h = h

one_id_more : (id : List ℕ) (old new : Ids) → UpdatesBy key_cmp (id_cmp id) old new true → (other : List ℕ) → stood_in new other ≡ cond (bytes_eq id other) true (stood_in old other)
one_id_more id old new updates other =
    ⊎_elim
    (λ y. subst (λ l. stood_in new l ≡ true) ((bytes_decides id other).0 y) updates.1 ∙ sym (cond-true (bytes_eq id other) true (stood_in old other) y))
    (λ n. other_ids old.keys new.keys (is_at (id_cmp id)) updates.3 (is_at (id_cmp other)) (key_test other) (λ key. apart_at id other key n) ∙ sym (cond-false (bytes_eq id other) true (stood_in old other) n))
    (cases_Bool (bytes_eq id other))

-- ---- an id as a key

pub key_is : (id : List ℕ) (front : ℕ) (text : String Global) → front ≡ front_of id → string_bytes text ≡ id → (λ (key : Key). key_cmp (front, text) key) ≡ id_cmp id
key_is id front text front_is text_is =
    let by_front : ℕ → Key → Ordering = λ n key. ordering_then (nat_cmp n key.0) (slice_cmp nat_cmp (string_bytes text) (string_bytes key.1)) in
    let by_text : List ℕ → Key → Ordering = λ bytes key. ordering_then (nat_cmp (front_of id) key.0) (slice_cmp nat_cmp bytes (string_bytes key.1)) in
    ap by_front front_is ∙ ap by_text text_is

other_way : (a b : Bool) → a ≡ not b → b ≡ not a
other_way a true e = ap not (sym e)
other_way a false e = ap not (sym e)

-- whether it stood, by what its insertion tells
pub stood_by : (ids : Ids) (id : List ℕ) (front : ℕ) (text : String Global) (added : Bool) → front ≡ front_of id → string_bytes text ≡ id → added ≡ not (contains key_cmp ids (front, text)) → stood_in ids id ≡ not added
stood_by ids id front text added front_is text_is e =
    ap (λ (compare : Key → Ordering). contains_by compare ids) (sym (key_is id front text front_is text_is)) ∙ other_way added (contains key_cmp ids (front, text)) e

either : (a b : Bool) → cond a true b ≡ (a || b)
either true b = refl
either false b = refl

pub stood_after : (old new : Ids) (id : List ℕ) (front : ℕ) (text : String Global) → front ≡ front_of id → string_bytes text ≡ id → UpdatesBy key_cmp (key_cmp (front, text)) old new true → (other : List ℕ) → stood_in new other ≡ (bytes_eq id other || stood_in old other)
stood_after old new id front text front_is text_is updates other =
    let P : (Key → Ordering) → Type 0 = λ compare. UpdatesBy key_cmp compare old new true in
    one_id_more id old new (subst P (key_is id front text front_is text_is) updates) other ∙ either (bytes_eq id other) (stood_in old other)
