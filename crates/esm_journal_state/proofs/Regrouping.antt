-- A map by groups, filled from a map by places.
use Rattle.std.proofs.Common.{◌≡◌, ℕ, ◌&&◌, Bool, true, false, cond, eqb, List, [], ◌∷◌, Option, Some, None, refl, sym, ap, ◌∙◌, inl, inr}
use Rattle.std.specs.Ordering.{nat_cmp, is_eq}
use Rattle.std.specs.Map.{lookup, keys_of}
use Rattle.std.specs.BTreeMap.{is_at}
use Rattle.std.specs.List.Sorted.{IsStrictlySortedBy}
use Rattle.std.specs.List.{AllByRecursion}
use Rattle.std.specs.declared.cmp.Ordering.TheVariants.{Less}
use Rattle.std.proofs.lemmas.Bool.{cases_Bool, and_parts, eqb-true}
use Rattle.std.proofs.lemmas.Map.{NonePasses, lookup-none}
use Rattle.std.proofs.lemmas.Map.Keys.{sorted_head, sorted_tail}
use Rattle.esm_journal_state.specs.Pieces.{Key, key_cmp}
use Rattle.esm_journal_state.specs.SaidLists.{pair_cmp}
use Rattle.esm_journal_state.specs.declared.kept.KeptFate.{KeptFate}
use Rattle.esm_journal_state.specs.declared.kept.KeptTries.{KeptTries}
use Rattle.esm_journal_record.specs.Payload.{fate_byte}
use Rattle.esm_journal_state.specs.Meaning.{fate_text}
use Rattle.esm_journal_state.specs.Compact.{fate_text_of, tries_text_of}
use Rattle.esm_journal_state.proofs.Pairs.{is_eq-nat, is_eq-then, same_pair}
use Rattle.esm_journal_state.proofs.Finding.{eqb-flip, at_pair, at_number}

-- the entries that are picked, put into a map one after the other: what it then has at q
abbrev pub regrouped : {X : Type 0} → (X → Bool) → (X → Key) → (X → List ℕ) → Option (List ℕ) → List X → Key → Option (List ℕ)
regrouped picks key text before [] q = before
regrouped picks key text before (e ∷ es) q = regrouped picks key text (cond (picks e && is_eq (key_cmp (key e) q)) (Some (text e)) before) es q

pub same_key : (x q : Key) → is_eq (key_cmp x q) ≡ ((eqb x.0.0 q.0.0 && eqb x.0.1 q.0.1) && eqb x.1 q.1)
same_key x q =
    is_eq-then (pair_cmp x.0 q.0) (nat_cmp x.1 q.1)
    ∙ ap (λ b. b && is_eq (nat_cmp x.1 q.1)) (same_pair x.0.0 x.0.1 q.0.0 q.0.1)
    ∙ ap (λ b. (eqb x.0.0 q.0.0 && eqb x.0.1 q.0.1) && b) (is_eq-nat x.1 q.1)

-- one more entry
pub regrouped_more : {X : Type 0} (picks : X → Bool) (key : X → Key) (text : X → List ℕ) (left rest : List X) (e : X) (q : Key) (before after total : Option (List ℕ))
    → left ≡ e ∷ rest → regrouped picks key text before left q ≡ total
    → after ≡ cond (picks e && is_eq (key_cmp (key e) q)) (Some (text e)) before
    → regrouped picks key text after rest q ≡ total
regrouped_more picks key text left rest e q before after total is so_far step =
    ap (λ o. regrouped picks key text o rest q) step ∙ sym (ap (λ es. regrouped picks key text before es q) is) ∙ so_far

-- apart

-- the pair of a key is this one
abbrev pub is_pair : {K : Type 0} → (K → ℕ × ℕ) → ℕ × ℕ → K → Bool
is_pair pair p k = eqb (pair k).0 p.0 && eqb (pair k).1 p.1

-- no two keys have one pair
abbrev pub Apart : {K V : Type 0} → (K → ℕ × ℕ) → List (K × V) → Type 0
Apart pair [] = Unit {0}
Apart {K} {V} pair (e ∷ es) = NonePasses (is_pair pair (pair e.0)) es × Apart pair es

-- what the map has at q, by what was found at its pair
abbrev pub regrouped_found : {V : Type 0} → (ℕ × ℕ → Bool) → (V → ℕ) → (V → List ℕ) → Option (List ℕ) → Option V → Key → Option (List ℕ)
regrouped_found picks number text before None q = before
regrouped_found picks number text before (Some v) q = cond (picks (q.0.0, q.1) && eqb (number v) q.0.1) (Some (text v)) before

abbrev entry_key : {K V : Type 0} → (K → ℕ × ℕ) → (V → ℕ) → K × V → Key
entry_key pair number e = (((pair e.0).0, number e.1), (pair e.0).1)

middle : (a b c : Bool) → a ≡ true → c ≡ true → ((a && b) && c) ≡ b
middle true true true p q = refl
middle true false true p q = refl
middle true b false p q = absurd cc
middle false b c p q = absurd cc

outer : (a b c : Bool) → (a && c) ≡ false → ((a && b) && c) ≡ false
outer true true c p = p
outer true false c p = refl
outer false b c p = refl

never : (a : Bool) → (a && false) ≡ false
never true = refl
never false = refl

pub regrouped-is : {K V : Type 0} (pair : K → ℕ × ℕ) (picks : ℕ × ℕ → Bool) (number : V → ℕ) (text : V → List ℕ) (before : Option (List ℕ)) (es : List (K × V)) (q : Key) → Apart pair es
    → regrouped (λ e. picks (pair e.0)) (entry_key pair number) (λ e. text e.1) before es q ≡ regrouped_found picks number text before (lookup (is_pair pair (q.0.0, q.1)) es) q
regrouped-is pair picks number text before [] q apart = refl
regrouped-is {K} {V} pair picks number text before (e ∷ es) q apart =
    let here = is_pair pair (q.0.0, q.1) e.0 in
    let key = entry_key pair number e in
    let next = cond (picks (pair e.0) && is_eq (key_cmp key q)) (Some (text e.1)) before in
    let others : regrouped (λ (x : K × V). picks (pair x.0)) (entry_key pair number) (λ (x : K × V). text x.1) next es q ≡ regrouped_found picks number text next (lookup (is_pair pair (q.0.0, q.1)) es) q =
    regrouped-is pair picks number text next es q apart.1 in
    elim (cases_Bool here) [
      | inl hit ↦
          (let parts = and_parts (eqb (pair e.0).0 q.0.0) (eqb (pair e.0).1 q.1) hit in
          let same : pair e.0 ≡ (q.0.0, q.1) = ap (λ a. (a, (pair e.0).1)) (eqb-true _ _ parts.0) ∙ ap (λ i. (q.0.0, i)) (eqb-true _ _ parts.1) in
          let none : lookup (is_pair pair (q.0.0, q.1)) es ≡ None = lookup-none (is_pair pair (q.0.0, q.1)) es (rw same at apart.0) in
          let at : is_eq (key_cmp key q) ≡ eqb (number e.1) q.0.1 = same_key key q ∙ middle (eqb (pair e.0).0 q.0.0) (eqb (number e.1) q.0.1) (eqb (pair e.0).1 q.1) parts.0 parts.1 in
          others
          ∙ ap (λ o. regrouped_found picks number text next o q) none
          ∙ ap (λ b. cond (picks (pair e.0) && b) (Some (text e.1)) before) at
          ∙ ap (λ p. cond (picks p && eqb (number e.1) q.0.1) (Some (text e.1)) before) same
          ∙ sym (ap (λ b. regrouped_found picks number text before (cond b (Some e.1) (lookup (is_pair pair (q.0.0, q.1)) es)) q) hit))
      | inr miss ↦
          (let at : is_eq (key_cmp key q) ≡ false = same_key key q ∙ outer (eqb (pair e.0).0 q.0.0) (eqb (number e.1) q.0.1) (eqb (pair e.0).1 q.1) miss in
          let stays : next ≡ before = ap (λ b. cond (picks (pair e.0) && b) (Some (text e.1)) before) at ∙ ap (λ b. cond b (Some (text e.1)) before) (never (picks (pair e.0))) in
          others
          ∙ ap (λ o. regrouped_found picks number text o (lookup (is_pair pair (q.0.0, q.1)) es) q) stays
          ∙ sym (ap (λ b. regrouped_found picks number text before (cond b (Some e.1) (lookup (is_pair pair (q.0.0, q.1)) es)) q) miss))
    ]

-- by places

abbrev pub itself : ℕ × ℕ → ℕ × ℕ
itself k = k

lookup-agrees : {K V : Type 0} (t u : K → Bool) → ((k : K) → t k ≡ u k) → (es : List (K × V)) → lookup t es ≡ lookup u es
lookup-agrees t u same [] = refl
lookup-agrees t u same (e ∷ es) = ap (λ b. cond b (Some e.1) (lookup t es)) (same e.0) ∙ ap (λ o. cond (u e.0) (Some e.1) o) (lookup-agrees t u same es)

pub lookup_pair : {V : Type 0} (es : List ((ℕ × ℕ) × V)) (n i : ℕ) → lookup (is_pair itself (n, i)) es ≡ lookup (is_at (pair_cmp (n, i))) es
lookup_pair es n i = lookup-agrees (is_pair itself (n, i)) (is_at (pair_cmp (n, i))) (λ k. at_pair n i k.0 k.1) es

less_apart : {V : Type 0} (k : ℕ × ℕ) (es : List ((ℕ × ℕ) × V)) → AllByRecursion (λ y. pair_cmp k y ≡ Less) (keys_of es) → NonePasses (is_pair itself k) es
less_apart k [] less = tt
less_apart k (e ∷ es) less = (at_pair k.0 k.1 e.0.0 e.0.1 ∙ ap is_eq less.0, less_apart k es less.1)

pub pairs_apart : {V : Type 0} (es : List ((ℕ × ℕ) × V)) → IsStrictlySortedBy pair_cmp (keys_of es) → Apart itself es
pairs_apart [] order = tt
pairs_apart (e ∷ es) order = (less_apart e.0 es (sorted_head pair_cmp e.0 (keys_of es) order), pairs_apart es (sorted_tail pair_cmp e.0 (keys_of es) order))

-- by places alone

abbrev pub alone : ℕ → ℕ × ℕ
alone i = (0, i)

lookup-never : {K V : Type 0} (es : List (K × V)) → lookup (λ k. false) es ≡ None
lookup-never [] = refl
lookup-never (e ∷ es) = lookup-never es

pub lookup_alone : {V : Type 0} (es : List (ℕ × V)) (n i : ℕ) → lookup (is_pair alone (n, i)) es ≡ cond (eqb n 0) (lookup (is_at (nat_cmp i)) es) None
lookup_alone {V} es n i =
    elim (cases_Bool (eqb n 0)) [
      | inl hit ↦
          lookup-agrees (is_pair alone (n, i)) (is_at (nat_cmp i)) (λ k. ap (λ b. b && eqb k i) (eqb-flip 0 n ∙ hit) ∙ at_number i k) es
          ∙ sym (ap (λ b. cond b (lookup (is_at (nat_cmp i)) es) None) hit)
      | inr miss ↦
          lookup-agrees (is_pair alone (n, i)) (λ k. false) (λ k. ap (λ b. b && eqb k i) (eqb-flip 0 n ∙ miss)) es
          ∙ lookup-never es
          ∙ sym (ap (λ b. cond b (lookup (is_at (nat_cmp i)) es) None) miss)
    ]

less_apart_alone : {V : Type 0} (k : ℕ) (es : List (ℕ × V)) → AllByRecursion (λ y. nat_cmp k y ≡ Less) (keys_of es) → NonePasses (is_pair alone (0, k)) es
less_apart_alone k [] less = tt
less_apart_alone k (e ∷ es) less = (at_number k e.0 ∙ ap is_eq less.0, less_apart_alone k es less.1)

pub alone_apart : {V : Type 0} (es : List (ℕ × V)) → IsStrictlySortedBy nat_cmp (keys_of es) → Apart alone es
alone_apart [] order = tt
alone_apart (e ∷ es) order = (less_apart_alone e.0 es (sorted_head nat_cmp e.0 (keys_of es) order), alone_apart es (sorted_tail nat_cmp e.0 (keys_of es) order))

-- what the four maps have

fate_is : (o : Option KeptFate) (q : Key) → regrouped_found (λ p. true) (λ (v : KeptFate). fate_byte v.fate) (λ (v : KeptFate). v.text) None o q ≡ fate_text_of o q.0.1
fate_is None q = refl
fate_is (Some v) q = refl

tries_is : (o : Option KeptTries) (q : Key) → regrouped_found (λ p. true) (λ (v : KeptTries). v.tries) (λ (v : KeptTries). v.text) None o q ≡ tries_text_of o q.0.1
tries_is None q = refl
tries_is (Some v) q = refl

none_either : (b : Bool) → None ≡ cond b (fate_text None) None
none_either true = refl
none_either false = refl

replay_is : (picks : ℕ × ℕ → Bool) (o : Option KeptFate) (q : Key) → regrouped_found picks (λ (v : KeptFate). 0) (λ (v : KeptFate). v.text) None o q ≡ cond (picks (q.0.0, q.1) && eqb q.0.1 0) (fate_text o) None
replay_is picks None q = none_either (picks (q.0.0, q.1) && eqb q.0.1 0)
replay_is picks (Some v) q = ap (λ b. cond (picks (q.0.0, q.1) && b) (Some v.text) None) (eqb-flip 0 q.0.1)

fate_if : (b : Bool) (o : Option KeptFate) (n : ℕ) → fate_text_of (cond b o None) n ≡ cond b (fate_text_of o n) None
fate_if true o n = refl
fate_if false o n = refl

pub fates_regrouped : (es : List ((ℕ × ℕ) × KeptFate)) (q : Key) → IsStrictlySortedBy pair_cmp (keys_of es)
    → regrouped (λ e. true) (λ e. ((e.0.0, fate_byte e.1.fate), e.0.1)) (λ e. e.1.text) None es q ≡ fate_text_of (lookup (is_at (pair_cmp (q.0.0, q.1))) es) q.0.1
fates_regrouped es q order =
    regrouped-is itself (λ p. true) (λ (v : KeptFate). fate_byte v.fate) (λ (v : KeptFate). v.text) None es q (pairs_apart es order)
    ∙ fate_is (lookup (is_pair itself (q.0.0, q.1)) es) q
    ∙ ap (λ o. fate_text_of o q.0.1) (lookup_pair es q.0.0 q.1)

pub tries_regrouped : (es : List ((ℕ × ℕ) × KeptTries)) (q : Key) → IsStrictlySortedBy pair_cmp (keys_of es)
    → regrouped (λ e. true) (λ e. ((e.0.0, e.1.tries), e.0.1)) (λ e. e.1.text) None es q ≡ tries_text_of (lookup (is_at (pair_cmp (q.0.0, q.1))) es) q.0.1
tries_regrouped es q order =
    regrouped-is itself (λ p. true) (λ (v : KeptTries). v.tries) (λ (v : KeptTries). v.text) None es q (pairs_apart es order)
    ∙ tries_is (lookup (is_pair itself (q.0.0, q.1)) es) q
    ∙ ap (λ o. tries_text_of o q.0.1) (lookup_pair es q.0.0 q.1)

pub replays_regrouped : (picks : ℕ × ℕ → Bool) (es : List ((ℕ × ℕ) × KeptFate)) (q : Key) → IsStrictlySortedBy pair_cmp (keys_of es)
    → regrouped (λ e. picks e.0) (λ e. ((e.0.0, 0), e.0.1)) (λ e. e.1.text) None es q ≡ cond (picks (q.0.0, q.1) && eqb q.0.1 0) (fate_text (lookup (is_at (pair_cmp (q.0.0, q.1))) es)) None
replays_regrouped picks es q order =
    regrouped-is itself picks (λ (v : KeptFate). 0) (λ (v : KeptFate). v.text) None es q (pairs_apart es order)
    ∙ replay_is picks (lookup (is_pair itself (q.0.0, q.1)) es) q
    ∙ ap (λ o. cond (picks (q.0.0, q.1) && eqb q.0.1 0) (fate_text o) None) (lookup_pair es q.0.0 q.1)

pub deletions_regrouped : (es : List (ℕ × KeptFate)) (q : Key) → IsStrictlySortedBy nat_cmp (keys_of es)
    → regrouped (λ e. true) (λ e. ((0, fate_byte e.1.fate), e.0)) (λ e. e.1.text) None es q ≡ cond (eqb q.0.0 0) (fate_text_of (lookup (is_at (nat_cmp q.1)) es) q.0.1) None
deletions_regrouped es q order =
    regrouped-is alone (λ p. true) (λ (v : KeptFate). fate_byte v.fate) (λ (v : KeptFate). v.text) None es q (alone_apart es order)
    ∙ fate_is (lookup (is_pair alone (q.0.0, q.1)) es) q
    ∙ ap (λ o. fate_text_of o q.0.1) (lookup_alone es q.0.0 q.1)
    ∙ fate_if (eqb q.0.0 0) (lookup (is_at (nat_cmp q.1)) es) q.0.1
