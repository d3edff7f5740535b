-- The lists that are told in order are determined by the look-ups among them.
use Rattle.std.proofs.Common.{◌≡◌, ℕ, ◌&&◌, ◌||◌, Bool, true, false, cond, eqb, T, List, [], ◌∷◌, Option, Some, None, refl, sym, ap, subst, ◌∙◌}
use Rattle.std.specs.Prelude.{map, find, option_map}
use Rattle.std.specs.List.{list_any, AllByRecursion}
use Rattle.std.specs.List.Sorted.{IsStrictlySortedBy}
use Rattle.std.specs.Ordering.{nat_cmp, is_eq, is_lt}
use Rattle.std.specs.declared.cmp.Ordering.{Ordering}
use Rattle.std.specs.declared.cmp.Ordering.TheVariants.{Less, Equal}
use Rattle.std.specs.Cmp.{IsTotalOrder, then_total, on_total, nat_cmp_total}
use Rattle.std.specs.Map.{lookup, keys_of}
use Rattle.std.specs.BTreeMap.{is_at}
use Rattle.std.specs.FinMap.Entries as entries
use Rattle.std.proofs.lemmas.Bool.{and_from}
use Rattle.std.proofs.lemmas.Map.Keys.{sorted_head, sorted_tail}
use Rattle.std.proofs.lemmas.Map.Lookups.{exact_pairs, exact_unsigned}
use Rattle.esm_model.specs.declared.setup.FoundFate.{FoundFate}
use Rattle.esm_model.specs.declared.setup.FoundTries.{FoundTries}
use Rattle.esm_model.specs.declared.setup.FoundState.{FoundState}
use Rattle.esm_model.specs.declared.setup.FoundWindowTries.{FoundWindowTries}
use Rattle.esm_journal_record.specs.declared.said.Said.{Said}
use Rattle.esm_journal_state.specs.Compact.{SameSaid}
use Rattle.esm_model.specs.declared.setup.FoundDeletion.{FoundDeletion}
use Rattle.esm_journal_state.specs.SaidLists.{SaidLists, FoundReplay, pair_cmp, IsInOrder}
use Rattle.esm_journal_state.specs.Tells.{Tells, fate_of_found, tries_of_found, deletion_of_found}
use Rattle.esm_journal_state.proofs.Finding.{at_pair, at_number, keys-made}

pub pairs_total : IsTotalOrder pair_cmp
pairs_total = then_total (on_total (λ (p : ℕ × ℕ). p.0) nat_cmp_total) (on_total (λ (p : ℕ × ℕ). p.1) nat_cmp_total)

-- entries in order with the same look-ups are the same

find_is : {K X : Type 0} (r : K → K → Ordering) (q : K) (es : List (K × X)) → entries.find r q es ≡ lookup (is_at (r q)) es
find_is r q [] = refl
find_is r q (e ∷ es) = ap (λ o. cond (is_eq (r q e.0)) (Some e.1) o) (find_is r q es)

all_below : {K X : Type 0} (r : K → K → Ordering) (k : K) (es : List (K × X)) → AllByRecursion (λ y. r k y ≡ Less) (keys_of es) → entries.below_all r k es ≡ true
all_below r k [] less = refl
all_below r k (e ∷ es) less = and_from (is_lt (r k e.0)) (entries.below_all r k es) (ap is_lt less.0) (all_below r k es less.1)

in_order : {K X : Type 0} (r : K → K → Ordering) (es : List (K × X)) → IsStrictlySortedBy r (keys_of es) → entries.is_sorted r es ≡ true
in_order r [] order = refl
in_order r (e ∷ es) order =
    and_from (entries.below_all r e.0 es) (entries.is_sorted r es) (all_below r e.0 es (sorted_head r e.0 (keys_of es) order)) (in_order r es (sorted_tail r e.0 (keys_of es) order))

same_entries : {K X : Type 0} (r : K → K → Ordering) → IsTotalOrder r → ((x y : K) → r x y ≡ Equal → x ≡ y) → (es fs : List (K × X)) → IsStrictlySortedBy r (keys_of es) → IsStrictlySortedBy r (keys_of fs)
    → ((q : K) → lookup (is_at (r q)) es ≡ lookup (is_at (r q)) fs) → es ≡ fs
same_entries r total exact es fs order orders same =
    entries.same_entries r total exact es fs (subst T (sym (in_order r es order)) tt) (subst T (sym (in_order r fs orders)) tt) (λ q. find_is r q es ∙ same q ∙ sym (find_is r q fs))

-- what is found among entries made of a list

picked : {A X : Type 0} (value : A → X) (x : A) (xs : Option A) (ys : Option X) (b : Bool) → option_map value xs ≡ ys → option_map value (cond b (Some x) xs) ≡ cond b (Some (value x)) ys
picked value x xs ys true others = refl
picked value x xs ys false others = others

entries-made : {A K X : Type 0} (key : A → K) (value : A → X) (test : A → Bool) (at : K → Bool) → ((a : A) → test a ≡ at (key a)) → (xs : List A) → option_map value (find test xs) ≡ lookup at (map {B = K × X} (λ a. (key a, value a)) xs)
entries-made key value test at tests [] = refl
entries-made {A} {K} {X} key value test at tests (a ∷ xs) =
    ap (λ b. option_map value (cond b (Some a) (find test xs))) (tests a)
    ∙ picked value a (find test xs) (lookup at (map {B = K × X} (λ a. (key a, value a)) xs)) (at (key a)) (entries-made key value test at tests xs)

-- a list is that of its entries, where each entry gives its element back
given_back : {A E : Type 0} (entry : A → E) (back : E → A) → ((a : A) → back (entry a) ≡ a) → (xs : List A) → map back (map entry xs) ≡ xs
given_back entry back backs [] = refl
given_back entry back backs (a ∷ xs) = ap (λ x. x ∷ map back (map entry xs)) (backs a) ∙ ap (λ xs. a ∷ xs) (given_back entry back backs xs)

-- lists by pairs

same_list : {A X : Type 0} (key : A → ℕ × ℕ) (value : A → X) (back : (ℕ × ℕ) × X → A) → ((a : A) → back (key a, value a) ≡ a) → (xs bs : List A)
    → IsStrictlySortedBy pair_cmp (map key xs) → IsStrictlySortedBy pair_cmp (map key bs)
    → ((n i : ℕ) → option_map value (find (λ a. eqb (key a).0 n && eqb (key a).1 i) xs) ≡ option_map value (find (λ a. eqb (key a).0 n && eqb (key a).1 i) bs)) → xs ≡ bs
same_list {A} {X} key value back backs xs bs order orders same =
    let entry : A → (ℕ × ℕ) × X = λ a. (key a, value a) in
    let sorted : (xs : List A) → IsStrictlySortedBy pair_cmp (map key xs) → IsStrictlySortedBy pair_cmp (keys_of (map {B = (ℕ × ℕ) × X} entry xs)) =
    λ xs s. subst (λ ks. IsStrictlySortedBy pair_cmp ks) (sym (keys-made {A = (ℕ × ℕ) × X} entry (λ e. e.0) key (λ a. refl) xs)) s in
    let at : (n i : ℕ) (xs : List A) → option_map value (find (λ a. eqb (key a).0 n && eqb (key a).1 i) xs) ≡ lookup (is_at (pair_cmp (n, i))) (map {B = (ℕ × ℕ) × X} entry xs) =
    λ n i xs. entries-made key value (λ a. eqb (key a).0 n && eqb (key a).1 i) (is_at (pair_cmp (n, i))) (λ a. at_pair n i (key a).0 (key a).1) xs in
    sym (given_back {E = (ℕ × ℕ) × X} entry back backs xs)
    ∙ ap (map back) (same_entries pair_cmp pairs_total (exact_pairs nat_cmp nat_cmp exact_unsigned exact_unsigned) (map {B = (ℕ × ℕ) × X} entry xs) (map {B = (ℕ × ℕ) × X} entry bs) (sorted xs order) (sorted bs orders) (λ q. sym (at q.0 q.1 xs) ∙ same q.0 q.1 ∙ at q.0 q.1 bs))
    ∙ given_back {E = (ℕ × ℕ) × X} entry back backs bs

-- lists by numbers

same_numbers : {A X : Type 0} (key : A → ℕ) (value : A → X) (back : ℕ × X → A) → ((a : A) → back (key a, value a) ≡ a) → (xs bs : List A)
    → IsStrictlySortedBy nat_cmp (map key xs) → IsStrictlySortedBy nat_cmp (map key bs)
    → ((i : ℕ) → option_map value (find (λ a. eqb (key a) i) xs) ≡ option_map value (find (λ a. eqb (key a) i) bs)) → xs ≡ bs
same_numbers {A} {X} key value back backs xs bs order orders same =
    let entry : A → ℕ × X = λ a. (key a, value a) in
    let sorted : (xs : List A) → IsStrictlySortedBy nat_cmp (map key xs) → IsStrictlySortedBy nat_cmp (keys_of (map {B = ℕ × X} entry xs)) =
    λ xs s. subst (λ ks. IsStrictlySortedBy nat_cmp ks) (sym (keys-made {A = ℕ × X} entry (λ e. e.0) key (λ a. refl) xs)) s in
    let at : (i : ℕ) (xs : List A) → option_map value (find (λ a. eqb (key a) i) xs) ≡ lookup (is_at (nat_cmp i)) (map {B = ℕ × X} entry xs) =
    λ i xs. entries-made key value (λ a. eqb (key a) i) (is_at (nat_cmp i)) (λ a. at_number i (key a)) xs in
    sym (given_back {E = ℕ × X} entry back backs xs)
    ∙ ap (map back) (same_entries nat_cmp nat_cmp_total exact_unsigned (map {B = ℕ × X} entry xs) (map {B = ℕ × X} entry bs) (sorted xs order) (sorted bs orders) (λ i. sym (at i xs) ∙ same i ∙ at i bs))
    ∙ given_back {E = ℕ × X} entry back backs bs

-- whether there is one

there_more : {A : Type 0} (b : Bool) (a : A) (o : Option A) (others : Bool) → option_map {U = Unit {0}} (λ a. tt) o ≡ cond others (Some tt) None
    → option_map {U = Unit {0}} (λ a. tt) (cond b (Some a) o) ≡ cond (b || others) (Some tt) None
there_more true a o others e = refl
there_more false a o others e = e

there_is : {A : Type 0} (test : A → Bool) (xs : List A) → option_map {U = Unit {0}} (λ a. tt) (find test xs) ≡ cond (list_any test xs) (Some tt) None
there_is test [] = refl
there_is test (a ∷ xs) = there_more (test a) a (find test xs) (list_any test xs) (there_is test xs)

-- what tells of histories that say the same is the same
pub same_told : (t u : SaidLists) (g h : List Said) → Tells t g → Tells u h → SameSaid g h → IsInOrder t → IsInOrder u → t ≡ u
same_told t u g h tells told same order orders =
    let fates : t.fates ≡ u.fates =
    same_list (λ (f : FoundFate). (f.shard, f.place)) fate_of_found (λ e. record { shard = e.0.0; place = e.0.1; fate = e.1.fate; text = e.1.text }) (λ f. refl) t.fates u.fates order.fates orders.fates
    (λ n i. tells.fates n i ∙ same.fates n i ∙ sym (told.fates n i)) in
    let tries : t.tries ≡ u.tries =
    same_list (λ (f : FoundTries). (f.shard, f.place)) tries_of_found (λ e. record { shard = e.0.0; place = e.0.1; tries = e.1.tries; text = e.1.text }) (λ f. refl) t.tries u.tries order.tries orders.tries
    (λ n i. tells.tries n i ∙ same.tries n i ∙ sym (told.tries n i)) in
    let states : t.states ≡ u.states =
    same_list (λ (f : FoundState). (f.shard, f.window)) (λ (f : FoundState). f.text) (λ e. record { shard = e.0.0; window = e.0.1; text = e.1 }) (λ f. refl) t.states u.states order.states orders.states
    (λ n w. tells.states n w ∙ same.states n w ∙ sym (told.states n w)) in
    let window_tries : t.window_tries ≡ u.window_tries =
    same_list (λ (f : FoundWindowTries). (f.shard, f.window)) (λ (f : FoundWindowTries). f.tries) (λ e. record { shard = e.0.0; window = e.0.1; tries = e.1 }) (λ f. refl) t.window_tries u.window_tries order.window_tries orders.window_tries
    (λ n w. tells.window_tries n w ∙ same.window_tries n w ∙ sym (told.window_tries n w)) in
    let replays : t.replays ≡ u.replays =
    same_list {X = Unit {0}} (λ (f : FoundReplay). (f.shard, f.place)) (λ f. tt) (λ e. record { shard = e.0.0; place = e.0.1 }) (λ f. refl) t.replays u.replays order.replays orders.replays
    (λ n i. there_is (λ (f : FoundReplay). eqb f.shard n && eqb f.place i) t.replays
    ∙ ap (λ b. cond b (Some tt) None) (tells.replays n i ∙ same.replays n i ∙ sym (told.replays n i))
    ∙ sym (there_is (λ (f : FoundReplay). eqb f.shard n && eqb f.place i) u.replays)) in
    let deletions : t.deletions ≡ u.deletions =
    same_numbers (λ (f : FoundDeletion). f.place) deletion_of_found (λ e. record { place = e.0; fate = e.1.fate; text = e.1.text }) (λ f. refl) t.deletions u.deletions order.deletions orders.deletions
    (λ i. tells.deletions i ∙ same.deletions i ∙ sym (told.deletions i)) in
    λ i. record { fates = fates i; tries = tries i; states = states i; window_tries = window_tries i; replays = replays i; deletions = deletions i }
