-- The first record of a list that differs from what was kept.
use Rattle.std.proofs.Common.{◌≡◌, ℕ, zero, suc, ◌+◌, ◌<◌, ◌≤◌, Bool, true, false, cond, List, [], ◌∷◌, ◌++◌, length, take, drop, get_or, refl, sym, ap, ap₂, ◌∙◌, inl, inr, arith, Option, Some, None}
use Rattle.std.specs.Prelude.{◌==◌, option_map, unwrap_or, is_some}
use Rattle.std.specs.Option.{option_or}
use Rattle.std.specs.Ordering.{nat_cmp, is_eq}
use Rattle.std.proofs.Math.Seq.{drop-cons}
use Rattle.std.proofs.Math.ListN.{drop_of_length-le}
use Rattle.std.proofs.lemmas.Bool.{cases_Bool, eq-eqb, eqb-true}
use Rattle.esm_model.specs.Records.{Record}
use Rattle.esm_model.specs.declared.book.Change.{Change}
use Rattle.esm_model.specs.declared.entry.Entry.{Entry}
use Rattle.esm_model.specs.declared.setup.FoundFate.{FoundFate}
use Rattle.esm_model.specs.declared.setup.FoundTries.{FoundTries}
use Rattle.esm_model.specs.Setting.{Setting, found_fate, found_try}
use Rattle.esm_model.specs.Entries.{came_count}
use Rattle.esm_journal_state.specs.declared.kept.KeptFate.{KeptFate}
use Rattle.esm_journal_state.specs.declared.kept.KeptTries.{KeptTries}
use Rattle.esm_journal_state.specs.Tells.{fate_of_found, tries_of_found}
use Rattle.esm_journal_state.proofs.Pairs.{is_eq-nat}
use Rattle.esm_ingest.specs.Coming.{of_shard, count_of}
use Rattle.esm_ingest.specs.Changes.{change_at, change_of, other_text, place_after, first_change_from, first_change}
use Rattle.esm_ingest.proofs.Shards.{of_last}

-- one more record of a list

split_at : (xs : List Record) (i : ℕ) (x : Record) → i < length xs → x ≡ get_or xs i x → drop i xs ≡ x ∷ drop (i + 1) xs
split_at xs i x l at =
    let e : suc i ≡ i + 1 = omega arith in
    drop-cons xs i x l ∙ ap₂ (λ (y : Record) (n : ℕ). y ∷ drop n xs) (sym at) e

front_more : (xs : List Record) (i : ℕ) (x : Record) → i < length xs → x ≡ get_or xs i x → take (i + 1) xs ≡ take i xs ++ x ∷ []
front_more xs i x l at = at_front xs i l at
  where
    at_front : (ys : List Record) (k : ℕ) → k < length ys → x ≡ get_or ys k x → take (k + 1) ys ≡ take k ys ++ x ∷ []
    at_front [] k low is = absurd (omega (arith, low))
    at_front (y ∷ ys) zero low is = ap (λ (z : Record). z ∷ []) (sym is)
    at_front (y ∷ ys) (suc k) low is = (let e : suc k + 1 ≡ suc (k + 1) = omega arith in ap (λ (n : ℕ). take n (y ∷ ys)) e ∙ ap (λ (zs : List Record). y ∷ zs) (at_front ys k (omega (arith, low)) is))

count_last : (rs : List Record) (r : Record) (n : ℕ) → count_of n (rs ++ r ∷ []) ≡ count_of n rs + cond (r.shard == n) 1 0
count_last rs r n = ap (λ (ys : List Record). length ys) (of_last rs r n) ∙ by (r.shard == n) (of_shard n rs)
  where
    last : (ys : List Record) → length (ys ++ r ∷ []) ≡ length ys + 1
    last [] = refl
    last (y ∷ ys) = (let e = last ys in omega (arith, e))

    by : (b : Bool) (ys : List Record) → length (cond b (ys ++ r ∷ []) ys) ≡ length ys + cond b 1 0
    by true ys = last ys
    by false ys = omega arith

-- there is a place for the record
count_within : (n : ℕ) (xs : List Record) (i : ℕ) (x : Record) → i < length xs → x ≡ get_or xs i x → x.shard ≡ n → count_of n (take i xs) + 1 ≤ count_of n xs
count_within n [] i x low is here = absurd (omega (arith, low))
count_within n (y ∷ ys) zero x low is here = (let e : y.shard ≡ n = sym (ap (λ (r : Record). r.shard) is) ∙ here in rw (eq-eqb y.shard n e) (omega arith))
count_within n (y ∷ ys) (suc i) x low is here =
    let rest : count_of n (take i ys) + 1 ≤ count_of n ys = count_within n ys i x (omega (arith, low)) is here in
    elim (cases_Bool (y.shard == n)) [
      | inl same ↦ rw same (omega (arith, rest))
      | inr off ↦ rw off rest
    ]

pub place_within : (h : List Entry) (xs : List Record) (i : ℕ) (x : Record) (place : ℕ) → ((n : ℕ) → came_count h n + count_of n xs < 4294967296) → i < length xs → x ≡ get_or xs i x → place ≡ came_count h x.shard + count_of x.shard (take i xs) → place + 1 < 4294967296
place_within h xs i x place fit low is at =
    let inside : count_of x.shard (take i xs) + 1 ≤ count_of x.shard xs = count_within x.shard xs i x low is refl in
    let fits = fit x.shard in
    omega (arith, inside, fits, at)

-- the next places of the shards
pub next_more : (h : List Entry) (xs : List Record) (i : ℕ) (x : Record) (place n : ℕ) (before after : Option ℕ) → i < length xs → x ≡ get_or xs i x → place ≡ came_count h x.shard + count_of x.shard (take i xs)
    → after ≡ cond (is_eq (nat_cmp x.shard n)) (Some (place + 1)) before → unwrap_or before (came_count h n) ≡ came_count h n + count_of n (take i xs) → unwrap_or after (came_count h n) ≡ came_count h n + count_of n (take (i + 1) xs)
next_more h xs i x place n before after low is at next so_far =
    let count : count_of n (take (i + 1) xs) ≡ count_of n (take i xs) + cond (x.shard == n) 1 0 = ap (count_of n) (front_more xs i x low is) ∙ count_last (take i xs) x n in
    let now : after ≡ cond (x.shard == n) (Some (place + 1)) before = next ∙ ap (λ (b : Bool). cond b (Some (place + 1)) before) (is_eq-nat x.shard n) in
    ap (λ (o : Option ℕ). unwrap_or o (came_count h n)) now ∙ (step (x.shard == n) refl ∙ ap (λ (k : ℕ). came_count h n + k) (sym count))
  where
    step : (b : Bool) → (x.shard == n) ≡ b → unwrap_or (cond b (Some (place + 1)) before) (came_count h n) ≡ came_count h n + (count_of n (take i xs) + cond b 1 0)
    step true same = (let here : place ≡ came_count h n + count_of n (take i xs) = at ∙ ap (λ (k : ℕ). came_count h k + count_of k (take i xs)) (eqb-true x.shard n same) in omega (arith, here))
    step false off = (let e = so_far in omega (arith, e))

-- it differs, or it does not

first_of : (a b : Option Change) (c : Option Change) → c ≡ a → is_some c ≡ true → option_or a b ≡ c
first_of None b c is some = absurd (let clash : false ≡ true = sym (ap is_some is) ∙ some in cc)
first_of (Some x) b c is some = sym is

second_of : (a b : Option Change) (c : Option Change) → c ≡ a → is_some c ≡ false → option_or a b ≡ b
second_of None b c is none = refl
second_of (Some x) b c is none = absurd (let clash : true ≡ false = sym (ap is_some is) ∙ none in cc)

opened : (s : Setting) (h : List Entry) (xs : List Record) (i : ℕ) (x : Record) (place : ℕ) → i < length xs → x ≡ get_or xs i x → place ≡ came_count h x.shard + count_of x.shard (take i xs)
    → first_change_from s h (take i xs) (drop i xs) ≡ first_change s h xs → option_or (change_at s place x) (first_change_from s h (take i xs ++ x ∷ []) (drop (i + 1) xs)) ≡ first_change s h xs
opened s h xs i x place low is at so_far =
    ap (λ (k : ℕ). option_or (change_at s k x) (first_change_from s h (take i xs ++ x ∷ []) (drop (i + 1) xs))) at
    ∙ (ap (λ (ys : List Record). first_change_from s h (take i xs) ys) (sym (split_at xs i x low is)) ∙ so_far)

pub change_found : (s : Setting) (h : List Entry) (xs : List Record) (i : ℕ) (x : Record) (place : ℕ) (c : Option Change) → i < length xs → x ≡ get_or xs i x → place ≡ came_count h x.shard + count_of x.shard (take i xs)
    → c ≡ change_at s place x → is_some c ≡ true → first_change_from s h (take i xs) (drop i xs) ≡ first_change s h xs → c ≡ first_change s h xs
change_found s h xs i x place c low is at differs some so_far =
    sym (first_of (change_at s place x) (first_change_from s h (take i xs ++ x ∷ []) (drop (i + 1) xs)) c differs some) ∙ opened s h xs i x place low is at so_far

pub change_more : (s : Setting) (h : List Entry) (xs : List Record) (i : ℕ) (x : Record) (place : ℕ) (c : Option Change) → i < length xs → x ≡ get_or xs i x → place ≡ came_count h x.shard + count_of x.shard (take i xs)
    → c ≡ change_at s place x → is_some c ≡ false → first_change_from s h (take i xs) (drop i xs) ≡ first_change s h xs → first_change_from s h (take (i + 1) xs) (drop (i + 1) xs) ≡ first_change s h xs
change_more s h xs i x place c low is at differs none so_far =
    ap (λ (ys : List Record). first_change_from s h ys (drop (i + 1) xs)) (front_more xs i x low is)
    ∙ (sym (second_of (change_at s place x) (first_change_from s h (take i xs ++ x ∷ []) (drop (i + 1) xs)) c differs none) ∙ opened s h xs i x place low is at so_far)

pub change_none : (s : Setting) (h : List Entry) (xs : List Record) (i : ℕ) → length xs ≤ i → first_change_from s h (take i xs) (drop i xs) ≡ first_change s h xs → None ≡ first_change s h xs
change_none s h xs i past so_far = sym (ap (first_change_from s h (take i xs)) (drop_of_length-le xs past)) ∙ so_far

-- where nothing was kept, none differs
pub nothing_changes : (s : Setting) (h : List Entry) (before rs : List Record) → ((n i : ℕ) → found_fate s n i ≡ None) → ((n i : ℕ) → found_try s n i ≡ None) → first_change_from s h before rs ≡ None
nothing_changes s h before [] fates tries = refl
nothing_changes s h before (r ∷ rs) fates tries =
    let place = place_after h before r in
    let rest = first_change_from s h (before ++ r ∷ []) rs in
    ap (λ (o : Option FoundFate). option_or (option_map (change_of r place) (option_or (other_text r.seq (option_map (λ (f : FoundFate). f.text) o)) (other_text r.seq (option_map (λ (f : FoundTries). f.text) (found_try s r.shard place))))) rest) (fates r.shard place)
    ∙ (ap (λ (o : Option FoundTries). option_or (option_map (change_of r place) (other_text r.seq (option_map (λ (f : FoundTries). f.text) o))) rest) (tries r.shard place)
    ∙ nothing_changes s h (before ++ r ∷ []) rs fates tries)

-- the texts that were kept

pub fate_text_none : (o : Option FoundFate) → None ≡ option_map fate_of_found o → None ≡ option_map (λ (f : FoundFate). f.text) o
fate_text_none None is = refl
fate_text_none (Some f) is = absurd (cc)

pub fate_text_some : (o : Option FoundFate) (k : KeptFate) → Some k ≡ option_map fate_of_found o → Some k.text ≡ option_map (λ (f : FoundFate). f.text) o
fate_text_some None k is = absurd (cc)
fate_text_some (Some f) k is = ap (option_map (λ (j : KeptFate). j.text)) is

pub tries_text_none : (o : Option FoundTries) → None ≡ option_map tries_of_found o → None ≡ option_map (λ (f : FoundTries). f.text) o
tries_text_none None is = refl
tries_text_none (Some f) is = absurd (cc)

pub tries_text_some : (o : Option FoundTries) (k : KeptTries) → Some k ≡ option_map tries_of_found o → Some k.text ≡ option_map (λ (f : FoundTries). f.text) o
tries_text_some None k is = absurd (cc)
tries_text_some (Some f) k is = ap (option_map (λ (j : KeptTries). j.text)) is
