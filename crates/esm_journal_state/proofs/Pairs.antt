-- One more place or window in a map by shard and number.
use Rattle.std.proofs.Common.{◌≡◌, ℕ, ◌+◌, ◌<◌, ◌≤◌, ◌&&◌, ◌||◌, Bool, true, false, cond, eqb, List, [], ◌∷◌, ◌++◌, length, get_or, take, drop, Option, Some, None, refl, sym, ap, ◌∙◌, add-one, drop-cons, arith, inl, inr}
use Rattle.std.specs.Prelude.{option_map}
use Rattle.std.specs.Option.{option_or}
use Rattle.std.specs.Ordering.{nat_cmp, is_eq, ordering_then}
use Rattle.std.specs.declared.cmp.Ordering.{Ordering}
use Rattle.std.specs.declared.cmp.Ordering.TheVariants.{Less, Equal, Greater}
use Rattle.std.proofs.lemmas.Bool.{cases_order, eq-eqb, ne_eqb, lt-ltb, le-ltb}
use Rattle.std.proofs.lemmas.List.{length-append, take-take, get_or-take}
use Rattle.std.proofs.lemmas.List.Folds.{list_any_more}
use Rattle.esm_model.specs.Entries.{holds}
use Rattle.esm_journal_state.specs.Meaning.{text_named, only_at, any_named}
use Rattle.esm_journal_state.specs.Table.{pair_cmp}

-- keys

pub is_eq-nat : (a b : ℕ) → is_eq (nat_cmp a b) ≡ eqb a b
is_eq-nat a b =
    elim (cases_order a b) [
      | inl same ↦ rw (le-ltb a b (omega arith), eq-eqb a b same) refl
      | inr apart ↦ (elim apart [
        | inl below ↦ rw (lt-ltb a b below, ne_eqb a b (λ e. omega arith)) refl
        | inr above ↦ rw (le-ltb a b (omega arith), ne_eqb a b (λ e. omega arith)) refl
      ])
    ]

pub is_eq-then : (o p : Ordering) → is_eq (ordering_then o p) ≡ (is_eq o && is_eq p)
is_eq-then Less p = refl
is_eq-then Equal p = refl
is_eq-then Greater p = refl

pub same_pair : (n i m j : ℕ) → is_eq (pair_cmp (n, i) (m, j)) ≡ (eqb n m && eqb i j)
same_pair n i m j =
    is_eq-then (nat_cmp n m) (nat_cmp i j) ∙ ap (λ b. b && is_eq (nat_cmp i j)) (is_eq-nat n m) ∙ ap (λ b. eqb n m && b) (is_eq-nat i j)

-- places with texts

text_more : (places : List ℕ) (texts : List (List ℕ)) (k i : ℕ) (d : List ℕ) → k < length places → k < length texts
    → text_named (drop k places) (drop k texts) i ≡ cond (eqb (get_or places k 0) i) (Some (get_or texts k d)) (text_named (drop (k + 1) places) (drop (k + 1) texts) i)
text_more places texts k i d p q = rw (drop-cons places k 0, drop-cons texts k d, add-one) refl

pub option_map-cond : {A B : Type 0} (f : A → B) (b : Bool) (x : A) (o : Option A) → option_map f (cond b (Some x) o) ≡ cond b (Some (f x)) (option_map f o)
option_map-cond f true x o = refl
option_map-cond f false x o = refl

put : {A : Type 0} (a b : Bool) (x : A) (others before : Option A) → cond (a && b) (Some x) (option_or (only_at a others) before) ≡ option_or (only_at a (cond b (Some x) others)) before
put true true x others before = refl
put true false x others before = refl
put false true x others before = refl
put false false x others before = refl

put_one : {A : Type 0} (b : Bool) (x : A) (others before : Option A) → cond b (Some x) (option_or others before) ≡ option_or (cond b (Some x) others) before
put_one true x others before = refl
put_one false x others before = refl

-- the texts from a place on, and the one before them
named_more : {A : Type 0} (f : List ℕ → A) (places : List ℕ) (texts : List (List ℕ)) (k i : ℕ) (d text : List ℕ) → k < length places → k < length texts → text ≡ get_or texts k d
    → option_map f (text_named (drop k places) (drop k texts) i) ≡ cond (eqb (get_or places k 0) i) (Some (f text)) (option_map f (text_named (drop (k + 1) places) (drop (k + 1) texts) i))
named_more f places texts k i d text p q is =
    ap (option_map f) (text_more places texts k i d p q)
    ∙ option_map-cond f (eqb (get_or places k 0) i) (get_or texts k d) (text_named (drop (k + 1) places) (drop (k + 1) texts) i)
    ∙ ap (λ t. cond (eqb (get_or places k 0) i) (Some (f t)) (option_map f (text_named (drop (k + 1) places) (drop (k + 1) texts) i))) (sym is)

-- the last of the texts that are left

last_text : (texts : List (List ℕ)) (text d : List ℕ) → get_or (texts ++ text ∷ []) (length texts) d ≡ text
last_text [] text d = refl
last_text (t ∷ texts) text d = last_text texts text d

others_left : (texts : List (List ℕ)) (text : List ℕ) → take (length texts) (texts ++ text ∷ []) ≡ texts
others_left [] text = refl
others_left (t ∷ texts) text = ap (λ rest. t ∷ rest) (others_left texts text)

pub one_less : (left rest : List (List ℕ)) (text : List ℕ) → left ≡ rest ++ text ∷ [] → length left ≡ length rest + 1
one_less left rest text e = ap length e ∙ length-append rest (text ∷ [])

-- without their last the texts that are left are the first ones still
pub first_left : (texts left rest : List (List ℕ)) (text : List ℕ) → left ≡ take (length left) texts → left ≡ rest ++ text ∷ [] → rest ≡ take (length rest) texts
first_left texts left rest text first e =
    sym (others_left rest text)
    ∙ ap (take (length rest)) (sym e ∙ first)
    ∙ take-take (length rest) (length left) texts (omega (arith, one_less left rest text e))

text_left : (texts left rest : List (List ℕ)) (text : List ℕ) → left ≡ take (length left) texts → left ≡ rest ++ text ∷ [] → text ≡ get_or texts (length rest) text
text_left texts left rest text first e =
    sym (last_text rest text text)
    ∙ ap (λ ts. get_or ts (length rest) text) (sym e ∙ first)
    ∙ get_or-take (length left) texts (length rest) text (omega (arith, one_less left rest text e))

-- keeping the places whose texts are taken from the end, and then the one before them
pub kept_more : {A : Type 0} (f : List ℕ → A) (shard n i : ℕ) (places : List ℕ) (texts left rest : List (List ℕ)) (text : List ℕ) (index : ℕ) (before now after : Option A)
    → index ≡ length rest → length texts ≡ length places → length left ≤ length places → left ≡ take (length left) texts → left ≡ rest ++ text ∷ []
    → after ≡ cond (is_eq (pair_cmp (shard, get_or places index 0) (n, i))) (Some (f text)) now
    → now ≡ option_or (only_at (eqb shard n) (option_map f (text_named (drop (length left) places) (drop (length left) texts) i))) before
    → after ≡ option_or (only_at (eqb shard n) (option_map f (text_named (drop (length rest) places) (drop (length rest) texts) i))) before
kept_more {A} f shard n i places texts left rest text index before now after at same within first e step kept =
    let k = length rest in
    let less : length left ≡ k + 1 = one_less left rest text e in
    let others = option_map f (text_named (drop (k + 1) places) (drop (k + 1) texts) i) in
    let here = eqb (get_or places k 0) i in
    let was : now ≡ option_or (only_at (eqb shard n) others) before = kept ∙ ap (λ m. option_or (only_at (eqb shard n) (option_map f (text_named (drop m places) (drop m texts) i))) before) less in
    step
    ∙ ap (λ j. cond (is_eq (pair_cmp (shard, get_or places j 0) (n, i))) (Some (f text)) now) at
    ∙ ap (λ b. cond b (Some (f text)) now) (same_pair shard (get_or places k 0) n i)
    ∙ ap (λ o. cond (eqb shard n && here) (Some (f text)) o) was
    ∙ put (eqb shard n) here (f text) others before
    ∙ ap (λ o. option_or (only_at (eqb shard n) o) before) (sym (named_more f places texts k i text text (omega (arith, less, within)) (omega (arith, less, within, same)) (text_left texts left rest text first e)))

-- the same in a map by place alone
pub kept_more_alone : {A : Type 0} (f : List ℕ → A) (i : ℕ) (places : List ℕ) (texts left rest : List (List ℕ)) (text : List ℕ) (index : ℕ) (before now after : Option A)
    → index ≡ length rest → length texts ≡ length places → length left ≤ length places → left ≡ take (length left) texts → left ≡ rest ++ text ∷ []
    → after ≡ cond (is_eq (nat_cmp (get_or places index 0) i)) (Some (f text)) now
    → now ≡ option_or (option_map f (text_named (drop (length left) places) (drop (length left) texts) i)) before
    → after ≡ option_or (option_map f (text_named (drop (length rest) places) (drop (length rest) texts) i)) before
kept_more_alone {A} f i places texts left rest text index before now after at same within first e step kept =
    let k = length rest in
    let less : length left ≡ k + 1 = one_less left rest text e in
    let others = option_map f (text_named (drop (k + 1) places) (drop (k + 1) texts) i) in
    let here = eqb (get_or places k 0) i in
    let was : now ≡ option_or others before = kept ∙ ap (λ m. option_or (option_map f (text_named (drop m places) (drop m texts) i)) before) less in
    step
    ∙ ap (λ j. cond (is_eq (nat_cmp (get_or places j 0) i)) (Some (f text)) now) at
    ∙ ap (λ b. cond b (Some (f text)) now) (is_eq-nat (get_or places k 0) i)
    ∙ ap (λ o. cond here (Some (f text)) o) was
    ∙ put_one here (f text) others before
    ∙ ap (λ o. option_or o before) (sym (named_more f places texts k i text text (omega (arith, less, within)) (omega (arith, less, within, same)) (text_left texts left rest text first e)))

-- places alone

take_out : {A : Type 0} (a b h : Bool) (before : Option A) → cond (a && b) None (cond (a && h) None before) ≡ cond (a && (h || b)) None before
take_out true true true before = refl
take_out true true false before = refl
take_out true false true before = refl
take_out true false false before = refl
take_out false b h before = refl

pub dropped_more : {A : Type 0} (shard n i : ℕ) (places : List ℕ) (index : ℕ) (before now after : Option A) → index < length places
    → after ≡ cond (is_eq (pair_cmp (shard, get_or places index 0) (n, i))) None now
    → now ≡ cond (eqb shard n && holds (take index places) i) None before
    → after ≡ cond (eqb shard n && holds (take (index + 1) places) i) None before
dropped_more shard n i places index before now after lt step was =
    let here = eqb (get_or places index 0) i in
    step
    ∙ ap (λ b. cond b None now) (same_pair shard (get_or places index 0) n i)
    ∙ ap (λ o. cond (eqb shard n && here) None o) was
    ∙ take_out (eqb shard n) here (holds (take index places) i) before
    ∙ ap (λ b. cond (eqb shard n && b) None before) (sym (list_any_more (λ p. eqb p i) places index 0 lt))

put_in : (a b h before : Bool) → cond (a && b) true ((a && h) || before) ≡ ((a && (h || b)) || before)
put_in true true true before = refl
put_in true true false before = refl
put_in true false true before = refl
put_in true false false before = refl
put_in false b h before = refl

pub added_more : (shard n i : ℕ) (places : List ℕ) (index : ℕ) (before now after : Bool) → index < length places
    → after ≡ cond (is_eq (pair_cmp (shard, get_or places index 0) (n, i))) true now
    → now ≡ ((eqb shard n && holds (take index places) i) || before)
    → after ≡ ((eqb shard n && holds (take (index + 1) places) i) || before)
added_more shard n i places index before now after lt step was =
    let here = eqb (get_or places index 0) i in
    step
    ∙ ap (λ b. cond b true now) (same_pair shard (get_or places index 0) n i)
    ∙ ap (λ o. cond (eqb shard n && here) true o) was
    ∙ put_in (eqb shard n) here (holds (take index places) i) before
    ∙ ap (λ b. (eqb shard n && b) || before) (sym (list_any_more (λ p. eqb p i) places index 0 lt))

-- windows

put_state : {A : Type 0} (a b : Bool) (x : A) (before : Option A) → cond (a && b) (Some x) before ≡ option_or (only_at a (cond b (Some x) None)) before
put_state true true x before = refl
put_state true false x before = refl
put_state false b x before = refl

pub stated : {A : Type 0} (shard n window w : ℕ) (x : A) (before after : Option A) → after ≡ cond (is_eq (pair_cmp (shard, window) (n, w))) (Some x) before
    → after ≡ option_or (only_at (eqb shard n) (cond (eqb window w) (Some x) None)) before
stated shard n window w x before after step =
    step ∙ ap (λ b. cond b (Some x) before) (same_pair shard window n w) ∙ put_state (eqb shard n) (eqb window w) x before

pub changed : {A : Type 0} (shard n window w : ℕ) (new before after : Option A) → after ≡ cond (is_eq (pair_cmp (shard, window) (n, w))) new before
    → after ≡ cond (eqb shard n && eqb window w) new before
changed shard n window w new before after step = step ∙ ap (λ b. cond b new before) (same_pair shard window n w)

-- tests of places with texts

any_more : (fails : ℕ → List ℕ → Bool) (places : List ℕ) (texts : List (List ℕ)) (k : ℕ) (d : List ℕ) → k < length places → length texts ≡ length places
    → any_named fails (drop k places) (drop k texts) ≡ (fails (get_or places k 0) (get_or texts k d) || any_named fails (drop (k + 1) places) (drop (k + 1) texts))
any_more fails places texts k d p same =
    let q : k < length texts = omega arith in
    rw (drop-cons places k 0, drop-cons texts k d, add-one) refl

pub any_found : (fails : ℕ → List ℕ → Bool) (places : List ℕ) (texts : List (List ℕ)) (k : ℕ) (d : List ℕ) (whole : Bool) → k < length places → length texts ≡ length places
    → fails (get_or places k 0) (get_or texts k d) ≡ true → any_named fails (drop k places) (drop k texts) ≡ whole → true ≡ whole
any_found fails places texts k d whole p same found so_far =
    sym (any_more fails places texts k d p same ∙ ap (λ b. b || any_named fails (drop (k + 1) places) (drop (k + 1) texts)) found) ∙ so_far

pub any_goes_on : (fails : ℕ → List ℕ → Bool) (places : List ℕ) (texts : List (List ℕ)) (k : ℕ) (d : List ℕ) (whole : Bool) → k < length places → length texts ≡ length places
    → fails (get_or places k 0) (get_or texts k d) ≡ false → any_named fails (drop k places) (drop k texts) ≡ whole → any_named fails (drop (k + 1) places) (drop (k + 1) texts) ≡ whole
any_goes_on fails places texts k d whole p same passes so_far =
    sym (any_more fails places texts k d p same ∙ ap (λ b. b || any_named fails (drop (k + 1) places) (drop (k + 1) texts)) passes) ∙ so_far
