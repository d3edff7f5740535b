-- Looking up in the lists that are told is looking up in the maps.
use Rattle.std.proofs.Common.{◌≡◌, ℕ, suc, ◌&&◌, ◌||◌, Bool, true, false, cond, eqb, List, [], ◌∷◌, length, Option, Some, None, refl, sym, ap, ◌∙◌, inl, inr}
use Rattle.std.specs.Prelude.{map, find, filter, option_map, is_some}
use Rattle.std.specs.List.{list_any}
use Rattle.std.specs.Ordering.{nat_cmp, is_eq}
use Rattle.std.specs.Map.{lookup}
use Rattle.std.specs.BTreeMap.{is_at}
use Rattle.std.proofs.lemmas.Bool.{cases_eq, eq-eqb, ne_eqb}
use Rattle.std.proofs.lemmas.Iterator.Adapters.{option_map_id}
use Rattle.esm_model.specs.declared.setup.FoundFate.{FoundFate}
use Rattle.esm_model.specs.declared.setup.FoundTries.{FoundTries}
use Rattle.esm_model.specs.declared.setup.FoundState.{FoundState}
use Rattle.esm_model.specs.declared.setup.FoundWindowTries.{FoundWindowTries}
use Rattle.esm_journal_state.specs.declared.kept.KeptFate.{KeptFate}
use Rattle.esm_journal_state.specs.declared.kept.KeptTries.{KeptTries}
use Rattle.esm_model.specs.declared.setup.FoundDeletion.{FoundDeletion}
use Rattle.esm_journal_state.specs.SaidLists.{FoundReplay, pair_cmp}
use Rattle.esm_journal_state.specs.Tells.{fate_of_found, tries_of_found, deletion_of_found}
use Rattle.esm_journal_state.specs.View.{found_fate, found_tries, found_state, found_window_tries, found_replay, found_deletion, stated}
use Rattle.esm_journal_state.proofs.Pairs.{is_eq-nat, same_pair}

pub eqb-flip : (a b : ℕ) → eqb a b ≡ eqb b a
eqb-flip a b =
    elim (cases_eq a b) [
      | inl same ↦ eq-eqb a b same ∙ sym (eq-eqb b a (sym same))
      | inr apart ↦ ne_eqb a b apart ∙ sym (ne_eqb b a (λ e. apart (sym e)))
    ]

-- keys

pub at_pair : (n i m j : ℕ) → (eqb m n && eqb j i) ≡ is_eq (pair_cmp (n, i) (m, j))
at_pair n i m j = ap (λ b. b && eqb j i) (eqb-flip m n) ∙ ap (λ b. eqb n m && b) (eqb-flip j i) ∙ sym (same_pair n i m j)

pub at_number : (n m : ℕ) → eqb m n ≡ is_eq (nat_cmp n m)
at_number n m = eqb-flip m n ∙ sym (is_eq-nat n m)

-- lists made of entries

picked : {A B X : Type 0} (keep : A → B) (value : X → B) (x : A) (y : X) (xs : Option A) (ys : Option X) (b : Bool) → keep x ≡ value y → option_map keep xs ≡ option_map value ys
    → option_map keep (cond b (Some x) xs) ≡ option_map value (cond b (Some y) ys)
picked keep value x y xs ys true same others = ap (λ z. Some z) same
picked keep value x y xs ys false same others = others

find-made : {K X A B : Type 0} (make : K × X → A) (test : A → Bool) (at : K → Bool) (keep : A → B) (value : X → B)
    → ((e : K × X) → test (make e) ≡ at e.0) → ((e : K × X) → keep (make e) ≡ value e.1)
    → (es : List (K × X)) → option_map keep (find test (map make es)) ≡ option_map value (lookup at es)
find-made make test at keep value tests keeps [] = refl
find-made make test at keep value tests keeps (e ∷ es) =
    ap (λ b. option_map keep (cond b (Some (make e)) (find test (map make es)))) (tests e)
    ∙ picked keep value (make e) e.1 (find test (map make es)) (lookup at es) (at e.0) (keeps e) (find-made make test at keep value tests keeps es)

any-made : {X A : Type 0} (make : X → A) (test : A → Bool) (at : X → Bool) → ((x : X) → test (make x) ≡ at x) → (xs : List X) → list_any test (map make xs) ≡ list_any at xs
any-made make test at tests [] = refl
any-made make test at tests (x ∷ xs) = ap (λ b. b || list_any test (map make xs)) (tests x) ∙ ap (λ b. at x || b) (any-made make test at tests xs)

pub keys-made : {X A K : Type 0} (make : X → A) (key : A → K) (at : X → K) → ((x : X) → key (make x) ≡ at x) → (xs : List X) → map key (map make xs) ≡ map at xs
keys-made make key at keys [] = refl
keys-made make key at keys (x ∷ xs) = ap (λ k. k ∷ map key (map make xs)) (keys x) ∙ ap (λ ks. at x ∷ ks) (keys-made make key at keys xs)

counted : (p : Bool) {X Y : Type 0} (x : X) (y : Y) (xs : List X) (ys : List Y) → length xs ≡ length ys → length (cond p (x ∷ xs) xs) ≡ length (cond p (y ∷ ys) ys)
counted true x y xs ys same = ap suc same
counted false x y xs ys same = same

pub count-made : {X A : Type 0} (make : X → A) (test : A → Bool) → (xs : List X) → length (filter test (map make xs)) ≡ length (filter (λ x. test (make x)) xs)
count-made make test [] = refl
count-made make test (x ∷ xs) = counted (test (make x)) (make x) x (filter test (map make xs)) (filter (λ x. test (make x)) xs) (count-made make test xs)

pub any_of-made : {X A : Type 0} (make : X → A) (test : A → Bool) → (xs : List X) → list_any test (map make xs) ≡ list_any (λ x. test (make x)) xs
any_of-made make test xs = any-made make test (λ x. test (make x)) (λ x. refl) xs

-- look-ups

pub is_some-option_map : {A B : Type 0} (f : A → B) (o : Option A) → is_some o ≡ is_some (option_map f o)
is_some-option_map f None = refl
is_some-option_map f (Some x) = refl

pub None-from_option_map : {A B : Type 0} (f : A → B) (o : Option A) → option_map f o ≡ None → o ≡ None
None-from_option_map f None e = refl
None-from_option_map f (Some x) e = absurd cc

pub fate_found : (es : List ((ℕ × ℕ) × KeptFate)) (n i : ℕ) → option_map fate_of_found (find (λ (f : FoundFate). eqb f.shard n && eqb f.place i) (map found_fate es)) ≡ lookup (is_at (pair_cmp (n, i))) es
fate_found es n i =
    find-made found_fate (λ (f : FoundFate). eqb f.shard n && eqb f.place i) (is_at (pair_cmp (n, i))) fate_of_found (λ x. x) (λ e. at_pair n i e.0.0 e.0.1) (λ e. refl) es
    ∙ option_map_id (lookup (is_at (pair_cmp (n, i))) es)

pub tries_found : (es : List ((ℕ × ℕ) × KeptTries)) (n i : ℕ) → option_map tries_of_found (find (λ (f : FoundTries). eqb f.shard n && eqb f.place i) (map found_tries es)) ≡ lookup (is_at (pair_cmp (n, i))) es
tries_found es n i =
    find-made found_tries (λ (f : FoundTries). eqb f.shard n && eqb f.place i) (is_at (pair_cmp (n, i))) tries_of_found (λ x. x) (λ e. at_pair n i e.0.0 e.0.1) (λ e. refl) es
    ∙ option_map_id (lookup (is_at (pair_cmp (n, i))) es)

pub window_tries_found : (es : List ((ℕ × ℕ) × ℕ)) (n w : ℕ) → option_map (λ (f : FoundWindowTries). f.tries) (find (λ (f : FoundWindowTries). eqb f.shard n && eqb f.window w) (map found_window_tries es)) ≡ lookup (is_at (pair_cmp (n, w))) es
window_tries_found es n w =
    find-made found_window_tries (λ (f : FoundWindowTries). eqb f.shard n && eqb f.window w) (is_at (pair_cmp (n, w))) (λ (f : FoundWindowTries). f.tries) (λ x. x) (λ e. at_pair n w e.0.0 e.0.1) (λ e. refl) es
    ∙ option_map_id (lookup (is_at (pair_cmp (n, w))) es)

pub found_states : (es : List ((ℕ × ℕ) × List ℕ)) → map found_state (map stated es) ≡ map (λ e. found_state (stated e)) es
found_states es = keys-made stated found_state (λ e. found_state (stated e)) (λ e. refl) es

pub state_found : (es : List ((ℕ × ℕ) × List ℕ)) (n w : ℕ) → option_map (λ (f : FoundState). f.text) (find (λ (f : FoundState). eqb f.shard n && eqb f.window w) (map found_state (map stated es))) ≡ lookup (is_at (pair_cmp (n, w))) es
state_found es n w =
    ap (λ fs. option_map (λ (f : FoundState). f.text) (find (λ (f : FoundState). eqb f.shard n && eqb f.window w) fs)) (found_states es)
    ∙ find-made (λ e. found_state (stated e)) (λ (f : FoundState). eqb f.shard n && eqb f.window w) (is_at (pair_cmp (n, w))) (λ (f : FoundState). f.text) (λ x. x) (λ e. at_pair n w e.0.0 e.0.1) (λ e. refl) es
    ∙ option_map_id (lookup (is_at (pair_cmp (n, w))) es)

pub replay_found : (ks : List (ℕ × ℕ)) (n i : ℕ) → list_any (λ (f : FoundReplay). eqb f.shard n && eqb f.place i) (map found_replay ks) ≡ list_any (is_at (pair_cmp (n, i))) ks
replay_found ks n i = any-made found_replay (λ (f : FoundReplay). eqb f.shard n && eqb f.place i) (is_at (pair_cmp (n, i))) (λ k. at_pair n i k.0 k.1) ks

pub deletion_found : (es : List (ℕ × KeptFate)) (i : ℕ) → option_map deletion_of_found (find (λ (f : FoundDeletion). eqb f.place i) (map found_deletion es)) ≡ lookup (is_at (nat_cmp i)) es
deletion_found es i =
    find-made found_deletion (λ (f : FoundDeletion). eqb f.place i) (is_at (nat_cmp i)) deletion_of_found (λ x. x) (λ e. at_number i e.0) (λ e. refl) es
    ∙ option_map_id (lookup (is_at (nat_cmp i)) es)

-- numbers in a set

pub any_number : (ks : List ℕ) (n : ℕ) → list_any (eqb n) ks ≡ list_any (λ k. is_eq (nat_cmp n k)) ks
any_number [] n = refl
any_number (k ∷ ks) n = ap (λ b. b || list_any (eqb n) ks) (sym (is_eq-nat n k)) ∙ ap (λ b. is_eq (nat_cmp n k) || b) (any_number ks n)
