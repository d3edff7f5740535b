-- What an input hands out is within its limits.
use Rattle.std.proofs.Common.{◌≡◌, ◌+◌, ◌*◌, ◌≤◌, ℕ, Bool, true, false, List, [], ◌∷◌, ◌++◌, length, refl, sym, ap, ◌∙◌, subst, arith, Option, Some, None}
use Rattle.std.specs.Prelude.{◌==◌, ◌||◌, nat_le, nat_lt, fold, if◌then◌else◌}
use Rattle.std.proofs.Math.Nat.{mul-le-mul_right}
use Rattle.std.proofs.lemmas.Bool.{eqb-true}
use Rattle.std.proofs.lemmas.Bool.Decides.{nat_tests}
use Rattle.std.proofs.lemmas.List.{length-append}
use Rattle.std.proofs.lemmas.List.Folds.{list_any-append}
use Rattle.std.proofs.lemmas.List.Sums.{fold-append}
use Rattle.esm_model.specs.declared.config.Start.{Start}
use Rattle.esm_model.specs.declared.config.Start.TheVariants.{TrimHorizon, Latest, At}
use Rattle.esm_model.specs.Entries.{holds}
use Rattle.esm_model.specs.declared.item.Item.{Item}
use Rattle.esm_model.specs.declared.item.Item.TheVariants.{Stream, Queue}
use Rattle.esm_model.specs.declared.names.LimitName.{LimitName}
use Rattle.esm_model.specs.declared.names.LimitName.TheVariants.{Records, Bytes, Shards, Lanes}
use Rattle.esm_input.specs.Limits.{item_bytes, data_bytes, shards_with, shards_in, passed, stop_at, limited_after}
use Rattle.esm_input.specs.Positions.{has_begun, from_moment, from_start}
use Rattle.esm_input.specs.Reading.{input_read}
use Rattle.esm_input.specs.Within.{AreWithin, HandedWithin}
use Rattle.esm_input.proofs.Limiting.{data_more, shards_more}

-- one item more, that passes no limit

record PassesNone (a b c d : Bool) : Type 0 where
  pub first : a ≡ false
  pub second : b ≡ false
  pub third : c ≡ false
  pub fourth : d ≡ false

none_of : (a b c d : Bool) → (if a then Some Records else if b then Some Bytes else if c then Some Shards else if d then Some Lanes else None) ≡ None → PassesNone a b c d
none_of true b c d is = absurd (cc)
none_of false true c d is = absurd (cc)
none_of false false true d is = absurd (cc)
none_of false false false true is = absurd (cc)
none_of false false false false is = record { first = refl; second = refl; third = refl; fourth = refl }

below : (m n : ℕ) → nat_le m n ≡ false → n + 1 ≤ m
below m n is = grind (arith, nat_tests)

up_to : (m n : ℕ) → nat_lt m n ≡ false → n ≤ m
up_to m n is = grind (arith, nat_tests)

within_more : (factor : ℕ) (xs : List Item) (x : Item) → passed factor xs x ≡ None → AreWithin factor (xs ++ x ∷ [])
within_more factor xs x none =
    let with_x : List ℕ = shards_with (shards_in xs) x in
    let passes = none_of (nat_le 1000000 (length xs)) (nat_lt 536870912 (data_bytes xs + item_bytes x)) (nat_lt 16 (length with_x)) (nat_lt 64 (length with_x * factor)) none in
    let shards : length (shards_in (xs ++ x ∷ [])) ≡ length with_x = ap (λ (l : List ℕ). length l) (shards_more xs x) in
    record {
      few = subst (λ n. n ≤ 1000000) (sym (length-append xs (x ∷ []))) (below 1000000 (length xs) passes.first);
      bytes = subst (λ n. n ≤ 536870912) (sym (data_more xs x)) (up_to 536870912 (data_bytes xs + item_bytes x) passes.second);
      shards = subst (λ n. n ≤ 16) (sym shards) (up_to 16 (length with_x) passes.third);
      lanes = subst (λ n. n * factor ≤ 64) (sym shards) (up_to 64 (length with_x * factor) passes.fourth);
    }

limited_within : (factor : ℕ) (a xs : List Item) → AreWithin factor a → AreWithin factor (limited_after factor a xs).items
limited_within factor a [] within = within
limited_within factor a (x ∷ xs) within = stops (passed factor a x) (λ none. limited_within factor (a ++ x ∷ []) xs (within_more factor a x none))
  where
    stops : (o : Option LimitName) → (o ≡ None → AreWithin factor (limited_after factor (a ++ x ∷ []) xs).items) → AreWithin factor (stop_at a o (limited_after factor (a ++ x ∷ []) xs)).items
    stops None more = more refl
    stops (Some limit) more = within

-- fewer items

-- the shards only grow
shards_grow : (a : List ℕ) (xs : List Item) → length a ≤ length (fold shards_with a xs)
shards_grow a [] = omega arith
shards_grow a (Queue m ∷ xs) = shards_grow a xs
shards_grow a (Stream r ∷ xs) =
    elim (holds a r.shard) as (λ t. length a ≤ length (fold shards_with (if t then a else a ++ r.shard ∷ []) xs)) [
      | true ↦ shards_grow a xs
      | false ↦ (let more = shards_grow (a ++ r.shard ∷ []) xs in let long = length-append a (r.shard ∷ []) in omega (arith, more, long))
    ]

data_append : (xs ys : List Item) → data_bytes (xs ++ ys) ≡ data_bytes xs + data_bytes ys
data_append [] ys = omega arith
data_append (x ∷ xs) ys = let more = data_append xs ys in omega (arith, more)

times : (factor m n : ℕ) → m ≤ n → n * factor ≤ 64 → m * factor ≤ 64
times factor m n less within = let more : m * factor ≤ n * factor = mul-le-mul_right factor less in omega (arith, more, within)

fewer_within : (factor : ℕ) (xs ys : List Item) → length ys ≤ length xs → data_bytes ys ≤ data_bytes xs → length (shards_in ys) ≤ length (shards_in xs) → AreWithin factor xs → AreWithin factor ys
fewer_within factor xs ys few bytes shards within = record {
  few = omega (arith, few, within.few);
  bytes = omega (arith, bytes, within.bytes);
  shards = omega (arith, shards, within.shards);
  lanes = times factor (length (shards_in ys)) (length (shards_in xs)) shards within.lanes;
}

front_within : (factor : ℕ) (xs ys : List Item) → AreWithin factor (xs ++ ys) → AreWithin factor xs
front_within factor xs ys within =
    let few = length-append xs ys in
    let bytes = data_append xs ys in
    let shards : length (shards_in xs) ≤ length (shards_in (xs ++ ys)) =
    subst (λ (l : List ℕ). length (shards_in xs) ≤ length l) (sym (fold-append shards_with [] xs ys)) (shards_grow (shards_in xs) ys) in
    fewer_within factor (xs ++ ys) xs (omega (arith, few)) (omega (arith, bytes)) shards within

-- from a moment on

fewer_from : (m : ℕ) (b : List ℕ) (xs : List Item) → length (from_moment m b xs) ≤ length xs
fewer_from m b [] = omega arith
fewer_from m b (x ∷ xs) =
    elim (has_begun m b x) as (λ t. length (if t then x ∷ from_moment m (shards_with b x) xs else from_moment m b xs) ≤ length (x ∷ xs))
    [ true ↦ (let more = fewer_from m (shards_with b x) xs in omega (arith, more)) | false ↦ (let more = fewer_from m b xs in omega (arith, more)) ]

less_from : (m : ℕ) (b : List ℕ) (xs : List Item) → data_bytes (from_moment m b xs) ≤ data_bytes xs
less_from m b [] = omega arith
less_from m b (x ∷ xs) =
    elim (has_begun m b x) as (λ t. data_bytes (if t then x ∷ from_moment m (shards_with b x) xs else from_moment m b xs) ≤ item_bytes x + data_bytes xs)
    [ true ↦ (let more = less_from m (shards_with b x) xs in omega (arith, more)) | false ↦ (let more = less_from m b xs in omega (arith, more)) ]

abbrev one_unless : Bool → ℕ
one_unless t = if t then 0 else 1

-- how many of them these lack
abbrev lacked : List ℕ → List ℕ → ℕ
lacked b [] = 0
lacked b (y ∷ ys) = one_unless (holds b y) + lacked b ys

lacked_push : (b a : List ℕ) (s : ℕ) → lacked b (a ++ s ∷ []) ≡ lacked b a + one_unless (holds b s)
lacked_push b [] s = omega arith
lacked_push b (y ∷ a) s = let more = lacked_push b a s in omega (arith, more)

one_or_none : (t : Bool) → one_unless t ≤ 1
one_or_none true = omega arith
one_or_none false = omega arith

same_shard : (n : ℕ) → (n == n) ≡ true
same_shard n = grind (arith, nat_tests)

-- with one shard more
held_more : (b : List ℕ) (s y : ℕ) (t u : Bool) → holds b y ≡ t → (s == y) ≡ u → holds (b ++ s ∷ []) y ≡ (t || (u || false))
held_more b s y t u had same = list_any-append (λ p. p == y) b (s ∷ []) ∙ ap (λ v. v || ((s == y) || false)) had ∙ ap (λ v. t || (v || false)) same

fewer_lacked : (t u : Bool) → one_unless (t || (u || false)) ≤ one_unless t
fewer_lacked true u = omega arith
fewer_lacked false true = omega arith
fewer_lacked false false = omega arith

lacks_less : (b a : List ℕ) (s : ℕ) → lacked (b ++ s ∷ []) a ≤ lacked b a
lacks_less b [] s = omega arith
lacks_less b (y ∷ a) s =
    let more = lacks_less b a s in
    let here : one_unless (holds (b ++ s ∷ []) y) ≤ one_unless (holds b y) =
    subst (λ v. one_unless v ≤ one_unless (holds b y)) (sym (held_more b s y (holds b y) (s == y) refl refl)) (fewer_lacked (holds b y) (s == y)) in
    omega (arith, more, here)

-- a shard that one has and the other lacks
lacks_one : (b a : List ℕ) (s : ℕ) → holds b s ≡ false → holds a s ≡ true → lacked (b ++ s ∷ []) a + 1 ≤ lacked b a
lacks_one b [] s lacks has = absurd (cc)
lacks_one b (y ∷ a) s lacks has = at_first (y == s) refl (lacks_one b a s lacks) has
  where
    at_first : (t : Bool) → (y == s) ≡ t → (holds a s ≡ true → lacked (b ++ s ∷ []) a + 1 ≤ lacked b a) → (t || holds a s) ≡ true → lacked (b ++ s ∷ []) (y ∷ a) + 1 ≤ lacked b (y ∷ a)
    at_first true same rest has =
        let is : y ≡ s = eqb-true y s same in
        let more = lacks_less b a s in
        let before : one_unless (holds b y) ≡ 1 = ap (λ n. one_unless (holds b n)) is ∙ ap one_unless lacks in
        let self : (s == y) ≡ true = ap (λ n. n == y) (sym is) ∙ same_shard y in
        let after : one_unless (holds (b ++ s ∷ []) y) ≡ 0 =
        ap one_unless (held_more b s y false true (ap (holds b) is ∙ lacks) self) in
        omega (arith, more, before, after)
    at_first false other rest has =
        let more = rest has in
        let here : one_unless (holds (b ++ s ∷ []) y) ≤ one_unless (holds b y) =
        subst (λ v. one_unless v ≤ one_unless (holds b y)) (sym (held_more b s y (holds b y) (s == y) refl refl)) (fewer_lacked (holds b y) (s == y)) in
        omega (arith, more, here)

-- there is room for the shards of the one that the other lacks
abbrev HasRoom : List ℕ → List ℕ → Type 0
HasRoom b a = length b + lacked b a ≤ length a

room_one : (b a : List ℕ) (x : Item) → HasRoom b a → HasRoom b (shards_with a x)
room_one b a (Queue m) room = room
room_one b a (Stream r) room =
    elim (holds a r.shard) as (λ t. HasRoom b (if t then a else a ++ r.shard ∷ [])) [
      | true ↦ room
      | false ↦ (let more = lacked_push b a r.shard in let one = one_or_none (holds b r.shard) in let long = length-append a (r.shard ∷ []) in omega (arith, room, more, one, long))
    ]

room_both : (b a : List ℕ) (x : Item) → HasRoom b a → HasRoom (shards_with b x) (shards_with a x)
room_both b a (Queue m) room = room
room_both b a (Stream r) room = at_shard (holds b r.shard) (holds a r.shard) refl refl
  where
    at_shard : (t u : Bool) → holds b r.shard ≡ t → holds a r.shard ≡ u → HasRoom (if t then b else b ++ r.shard ∷ []) (if u then a else a ++ r.shard ∷ [])
    at_shard true u has in_a = subst (λ v. HasRoom b (if v then a else a ++ r.shard ∷ [])) in_a (room_one b a (Stream r) room)
    at_shard false true has in_a =
        let less = lacks_one b a r.shard has in_a in
        let long = length-append b (r.shard ∷ []) in
        omega (arith, room, less, long)
    at_shard false false has in_a =
        let less = lacks_less b a r.shard in
        let long = length-append b (r.shard ∷ []) in
        let longer = length-append a (r.shard ∷ []) in
        let more = lacked_push (b ++ r.shard ∷ []) a r.shard in
        let held : one_unless (holds (b ++ r.shard ∷ []) r.shard) ≡ 0 =
        ap one_unless (held_more b r.shard r.shard false true has (same_shard r.shard)) in
        omega (arith, room, less, long, longer, more, held)

shards_from : (m : ℕ) (b a : List ℕ) (xs : List Item) → HasRoom b a → length (fold shards_with b (from_moment m b xs)) ≤ length (fold shards_with a xs)
shards_from m b a [] room = omega (arith, room)
shards_from m b a (x ∷ xs) room =
    elim (has_begun m b x) as (λ t. length (fold shards_with b (if t then x ∷ from_moment m (shards_with b x) xs else from_moment m b xs)) ≤ length (fold shards_with (shards_with a x) xs))
    [ true ↦ shards_from m (shards_with b x) (shards_with a x) xs (room_both b a x room) | false ↦ shards_from m b (shards_with a x) xs (room_one b a x room) ]

start_within : (factor : ℕ) (start : Start) (xs : List Item) → AreWithin factor xs → AreWithin factor (from_start start xs)
start_within factor TrimHorizon xs within = within
start_within factor Latest xs within = within
start_within factor (At m) xs within = fewer_within factor xs (from_moment m [] xs) (fewer_from m [] xs) (less_from m [] xs) (shards_from m [] [] xs (omega arith)) within

none_within : (factor : ℕ) → AreWithin factor []
none_within factor = record { few = omega arith; bytes = omega arith; shards = omega arith; lanes = omega arith }

pub handed_within : HandedWithin
handed_within kind factor start whole bytes came rest is =
    let xs = (input_read kind whole bytes).items in
    let all : AreWithin factor (from_start start (limited_after factor [] xs).items) = start_within factor start (limited_after factor [] xs).items (limited_within factor [] xs (none_within factor)) in
    front_within factor came rest (subst (AreWithin factor) is all)
