-- The slots of chunks: what one place changes, and where a place stands.
use Rattle.std.proofs.Common.{◌≡◌, ℕ, zero, suc, ◌+◌, ◌-◌, ◌*◌, ◌/◌, ◌%◌, ◌<◌, ◌≤◌, true, false, List, [], ◌∷◌, ◌++◌, length, set, drop, replicate, get_or, refl, sym, ap, ◌∙◌, subst, Option, Some, None, is_some, arith, append_assoc, length-append, append-nil}
use Rattle.std.specs.Prelude.{cond, Vec, vec_capacity}
use Rattle.std.specs.declared.alloc.Global.{Global}
use Rattle.std.specs.List.{All, count_by}
use Rattle.std.proofs.lemmas.List.{length-replicate, length-set, replicate-append-replicate, set-get_or, set-append_left, set-append_right, get_or_append_left, get_or-append_right}
use Rattle.std.proofs.lemmas.List.Sums.{sum_by-cons}
use Rattle.esm_model.specs.Records.{Record}
use Rattle.esm_ledger.specs.Chunks.{IsChunk, IsWhole, chunk_of, none_held, slots_of, places_in}

-- one chunk

abbrev nothing : Option Record
nothing = None

none_at : (n at : ℕ) → get_or (replicate n nothing) at nothing ≡ nothing
none_at zero at = refl
none_at (suc n) zero = refl
none_at (suc n) (suc at) = none_at n at

pub chunk_at : (slots : List (Option Record)) (at : ℕ) → get_or (chunk_of slots) at None ≡ get_or slots at None
unfolding none_held
chunk_at [] at = none_at 16 at
chunk_at (o ∷ slots) at = refl

-- a slot that is empty stays so
pub still_empty : (slots : List (Option Record)) (at : ℕ) → get_or slots at None ≡ None → set (chunk_of slots) at None ≡ chunk_of slots
still_empty slots at none = subst (λ (o : Option Record). set (chunk_of slots) at o ≡ chunk_of slots) (chunk_at slots at ∙ none) (set-get_or (chunk_of slots) at None)

count_full : (r : Record) (slots : List (Option Record)) → count_by is_some (Some r ∷ slots) ≡ 1 + count_by is_some slots
count_full r slots = sum_by-cons (λ (o : Option Record). cond (is_some o) 1 0) (Some r) slots

count_empty : (slots : List (Option Record)) → count_by is_some (nothing ∷ slots) ≡ 0 + count_by is_some slots
count_empty slots = sum_by-cons (λ (o : Option Record). cond (is_some o) 1 0) nothing slots

fewer : (slots : List (Option Record)) (at : ℕ) → is_some (get_or slots at None) ≡ true → count_by is_some (set slots at None) + 1 ≡ count_by is_some slots
fewer [] at some = absurd cc
fewer (None ∷ slots) zero some = absurd cc
fewer (Some r ∷ slots) zero some = omega (arith, count_full r slots, count_empty slots)
fewer (None ∷ slots) (suc at) some = omega (arith, fewer slots at some, count_empty slots, count_empty (set slots at None))
fewer (Some r ∷ slots) (suc at) some = omega (arith, fewer slots at some, count_full r slots, count_full r (set slots at None))

none_left : (slots : List (Option Record)) → count_by is_some slots ≡ 0 → slots ≡ replicate (length slots) None
none_left [] none = refl
none_left (None ∷ slots) none = ap (λ xs. None ∷ xs) (none_left slots (omega (arith, none, count_empty slots)))
none_left (Some r ∷ slots) none = absurd (omega (arith, none, count_full r slots))

-- a chunk of slots that came

pub chunk_none : (slots : Vec (Option Record) Global) (held : ℕ) → held ≡ 0 → slots.items ≡ [] → vec_capacity slots ≡ 0 → IsChunk slots held
unfolding none_held
chunk_none slots held none empty freed = record {
  whole = ap (λ xs. length (chunk_of xs)) empty;
  count = none ∙ sym (ap (λ xs. count_by is_some xs) empty);
  gone = λ e. empty;
  freed = λ e. freed;
}

pub none_came : (slots : List (Option Record)) → length slots ≡ 16 → count_by is_some slots ≡ 0 → none_held ≡ slots
unfolding none_held
none_came slots len none = ap (λ n. replicate n nothing) (sym len) ∙ sym (none_left slots none)

-- the last record of a chunk is let go
pub chunk_gone : (v : Vec (Option Record) Global) (held at : ℕ) → IsChunk v held → is_some (get_or v.items at None) ≡ true → held - 1 ≡ 0 → none_held ≡ set (chunk_of v.items) at None
unfolding none_held
chunk_gone v held at is some none =
    let slots = v.items in
    let less = fewer slots at some in
    let count = is.count in
    let left : count_by is_some (set slots at None) ≡ 0 = omega (arith, less, count, none) in
    let len : length (set slots at None) ≡ 16 = whole slots is.whole some in
    ap (λ n. replicate n None) (sym len) ∙ sym (none_left (set slots at None) left) ∙ here slots some
  where
    whole : (xs : List (Option Record)) → length (chunk_of xs) ≡ 16 → is_some (get_or xs at None) ≡ true → length (set xs at None) ≡ 16
    whole [] is some = absurd cc
    whole (x ∷ xs) is some = length-set (x ∷ xs) at None ∙ is

    here : (xs : List (Option Record)) → is_some (get_or xs at None) ≡ true → set xs at None ≡ set (chunk_of xs) at None
    here [] some = absurd cc
    here (x ∷ xs) some = refl

-- chunks in a row

whole_tail : (c : List (Option Record)) (cs : List (List (Option Record))) → All IsWhole (c ∷ cs) → All IsWhole cs
whole_tail c cs all = λ k d low. all (suc k) d (omega (arith, low))

whole_head : (c : List (Option Record)) (cs : List (List (Option Record))) → All IsWhole (c ∷ cs) → length c ≡ 16
whole_head c cs all = all 0 c (omega arith)

pub slots_length : (cs : List (List (Option Record))) → All IsWhole cs → length (slots_of cs) ≡ 16 * length cs
slots_length [] all = refl
slots_length (c ∷ cs) all =
    let head = whole_head c cs all in
    let rest = slots_length cs (whole_tail c cs all) in
    let sum = length-append c (slots_of cs) in
    omega (arith, head, rest, sum)

pub places_length : (base : ℕ) (cs : List (List (Option Record))) → All IsWhole cs → base + 16 * length cs ≡ length (places_in base cs)
places_length base cs all =
    let sum = length-append (replicate base nothing) (slots_of cs) in
    let front = length-replicate base nothing in
    let rest = slots_length cs all in
    omega (arith, sum, front, rest)

pub slots_push : (cs : List (List (Option Record))) (c : List (Option Record)) → slots_of (cs ++ c ∷ []) ≡ slots_of cs ++ c
slots_push [] c = append-nil c
slots_push (b ∷ cs) c = ap (λ xs. b ++ xs) (slots_push cs c) ∙ sym (append_assoc b (slots_of cs) c)

pub places_push : (base : ℕ) (cs : List (List (Option Record))) (c : List (Option Record)) → places_in base (cs ++ c ∷ []) ≡ places_in base cs ++ c
places_push base cs c = ap (λ xs. replicate base None ++ xs) (slots_push cs c) ∙ sym (append_assoc (replicate base None) (slots_of cs) c)

-- an empty chunk in front
pub places_fewer : (base : ℕ) (cs : List (List (Option Record))) → cs ≡ none_held ∷ drop 1 cs → places_in (base + 16) (drop 1 cs) ≡ places_in base cs
unfolding none_held
places_fewer base cs empty =
    let rest = drop 1 cs in
    ap (λ xs. xs ++ slots_of rest) (sym (replicate-append-replicate base 16 nothing))
    ∙ append_assoc (replicate base None) (replicate 16 None) (slots_of rest)
    ∙ ap (places_in base) (sym empty)

pub whole_fewer : (cs : List (List (Option Record))) → cs ≡ none_held ∷ drop 1 cs → All IsWhole cs → All IsWhole (drop 1 cs)
whole_fewer cs empty all = whole_tail none_held (drop 1 cs) (subst (λ xs. All IsWhole xs) empty all)

-- where a place stands

slot_in : (cs : List (List (Option Record))) (q r : ℕ) → All IsWhole cs → q < length cs → r < 16 → get_or (slots_of cs) (16 * q + r) None ≡ get_or (get_or cs q []) r None
slot_in [] q r all low small = absurd (omega (arith, low))
slot_in (c ∷ cs) zero r all low small =
    let head = whole_head c cs all in
    ap (λ n. get_or (c ++ slots_of cs) n None) (let e : 16 * 0 + r ≡ r = omega arith in e) ∙ get_or_append_left c (slots_of cs) None r (omega (arith, head, small))
slot_in (c ∷ cs) (suc q) r all low small =
    let head = whole_head c cs all in
    get_or-append_right c (slots_of cs) 16 (16 * suc q + r) None head (omega arith)
    ∙ ap (λ n. get_or (slots_of cs) n None) (let e : 16 * suc q + r - 16 ≡ 16 * q + r = omega arith in e)
    ∙ slot_in cs q r (whole_tail c cs all) (omega (arith, low)) small

slot_past : (cs : List (List (Option Record))) (at : ℕ) → length (slots_of cs) ≤ at → get_or (slots_of cs) at None ≡ None
slot_past cs at past = (let e = get_or-append_right (slots_of cs) [] (length (slots_of cs)) at None refl past in ap (λ xs. get_or xs at None) (sym (append-nil (slots_of cs))) ∙ e)

slot_set : (cs : List (List (Option Record))) (q r : ℕ) → All IsWhole cs → q < length cs → r < 16 → set (slots_of cs) (16 * q + r) None ≡ slots_of (set cs q (set (get_or cs q []) r None))
slot_set [] q r all low small = absurd (omega (arith, low))
slot_set (c ∷ cs) zero r all low small =
    let head = whole_head c cs all in
    ap (λ n. set (c ++ slots_of cs) n None) (let e : 16 * 0 + r ≡ r = omega arith in e) ∙ set-append_left c (slots_of cs) r None (omega (arith, head, small))
slot_set (c ∷ cs) (suc q) r all low small =
    let head = whole_head c cs all in
    set-append_right c (slots_of cs) 16 (16 * suc q + r) None head (omega arith)
    ∙ ap (λ n. c ++ set (slots_of cs) n None) (let e : 16 * suc q + r - 16 ≡ 16 * q + r = omega arith in e)
    ∙ ap (λ xs. c ++ xs) (slot_set cs q r (whole_tail c cs all) (omega (arith, low)) small)

split : (at : ℕ) → 16 * (at / 16) + at % 16 ≡ at
split at = omega arith

-- before the first chunk

pub place_before : (base : ℕ) (cs : List (List (Option Record))) (place : ℕ) → place < base → get_or (places_in base cs) place None ≡ None
place_before base cs place low =
    get_or_append_left (replicate base None) (slots_of cs) None place (let n = length-replicate base nothing in omega (arith, low, n)) ∙ none_at base place

place_on : (base : ℕ) (cs : List (List (Option Record))) (place : ℕ) → base ≤ place → get_or (places_in base cs) place None ≡ get_or (slots_of cs) (place - base) None
place_on base cs place high = get_or-append_right (replicate base None) (slots_of cs) base place None (length-replicate base None) high

pub place_past : (base : ℕ) (cs : List (List (Option Record))) (place : ℕ) → All IsWhole cs → base ≤ place → length cs ≤ (place - base) / 16 → get_or (places_in base cs) place None ≡ None
place_past base cs place all high past =
    place_on base cs place high ∙ slot_past cs (place - base) (let n = slots_length cs all in let e = split (place - base) in omega (arith, n, e, past))

pub place_in : (base : ℕ) (cs : List (List (Option Record))) (place : ℕ) → All IsWhole cs → base ≤ place → (place - base) / 16 < length cs
    → get_or (places_in base cs) place None ≡ get_or (get_or cs ((place - base) / 16) []) ((place - base) % 16) None
place_in base cs place all high low =
    let at = place - base in
    place_on base cs place high
    ∙ ap (λ n. get_or (slots_of cs) n None) (sym (split at))
    ∙ slot_in cs (at / 16) (at % 16) all low (omega arith)

-- a place that is let go

pub gone_before : (base : ℕ) (cs : List (List (Option Record))) (place : ℕ) → place < base → places_in base cs ≡ set (places_in base cs) place None
gone_before base cs place low = sym (subst (λ (o : Option Record). set (places_in base cs) place o ≡ places_in base cs) (place_before base cs place low) (set-get_or (places_in base cs) place None))

pub gone_past : (base : ℕ) (cs : List (List (Option Record))) (place : ℕ) → All IsWhole cs → base ≤ place → length cs ≤ (place - base) / 16 → places_in base cs ≡ set (places_in base cs) place None
gone_past base cs place all high past = sym (subst (λ (o : Option Record). set (places_in base cs) place o ≡ places_in base cs) (place_past base cs place all high past) (set-get_or (places_in base cs) place None))

pub gone_in : (base : ℕ) (cs : List (List (Option Record))) (place : ℕ) → All IsWhole cs → base ≤ place → (place - base) / 16 < length cs
    → places_in base (set cs ((place - base) / 16) (set (get_or cs ((place - base) / 16) []) ((place - base) % 16) None)) ≡ set (places_in base cs) place None
gone_in base cs place all high low =
    let at = place - base in
    sym (set-append_right (replicate base None) (slots_of cs) base place None (length-replicate base None) high
    ∙ ap (λ n. replicate base None ++ set (slots_of cs) n None) (sym (split at))
    ∙ ap (λ xs. replicate base None ++ xs) (slot_set cs (at / 16) (at % 16) all low (omega arith)))

pub empty_of : (o : Option Record) → is_some o ≡ false → o ≡ None
empty_of None none = refl
empty_of (Some r) none = absurd cc

-- a place that there is has one slot, whatever stands for none
pub one_chunk : (cs : List (List (Option Record))) (k : ℕ) (x : List (Option Record)) → k < length cs → x ≡ get_or cs k x → x ≡ get_or cs k []
one_chunk cs k x low is = is ∙ same cs k low
  where
    same : (xs : List (List (Option Record))) (i : ℕ) → i < length xs → get_or xs i x ≡ get_or xs i []
    same [] i low = absurd (omega (arith, low))
    same (y ∷ xs) zero low = refl
    same (y ∷ xs) (suc i) low = same xs i (omega (arith, low))
