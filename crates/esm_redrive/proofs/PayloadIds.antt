-- The ids of a dead-letter file, payload by payload.
use Rattle.std.proofs.Common.{◌≡◌, ℕ, zero, suc, ◌+◌, Bool, true, false, cond, ◌||◌, List, [], ◌∷◌, ◌++◌, take, refl, sym, ap, ap₂, ◌∙◌, subst, inl, inr, arith, Option, Some, None}
use Rattle.std.specs.Prelude.{map, option_map, is_some, slice_get}
use Rattle.std.specs.List.{list_any, cons_option}
use Rattle.std.specs.Str.{bytes_eq}
use Rattle.std.specs.String.{string_bytes}
use Rattle.std.specs.BTreeSet.{BTreeSet, keys, contains_text}
use Rattle.std.specs.Cmp.Lexicographic.{slice_cmp}
use Rattle.std.specs.Ordering.{is_eq, nat_cmp}
use Rattle.std.specs.declared.string.String.{String}
use Rattle.std.proofs.lemmas.Bool.{cases_Bool, cases_lt, false_from_ne_true, both_ways}
use Rattle.std.proofs.lemmas.Option.{none-some, same_Some}
use Rattle.std.proofs.lemmas.List.Elements.{filter_map-append}
use Rattle.std.proofs.lemmas.List.Folds.{list_any-append}
use Rattle.std.proofs.lemmas.Map.Text.{is_eq-slice_cmp}
use Rattle.esm_model.specs.declared.item.Message.{Message}
use Rattle.esm_queue_model.proofs.Groups.{bytes_eq-true, bytes_eq-refl}
use Rattle.esm_redrive_model.specs.RedriveSetting.{stands_among}
use Rattle.esm_redrive.specs.DeadFile.{dead_message, dead_id, dead_ids, ids_in, AreLetters, IsFirstBad}

-- one more id

same_text : (a b : List ℕ) → bytes_eq a b ≡ true → bytes_eq b a ≡ true
same_text a b same = let e : a ≡ b = bytes_eq-true a b same in subst (λ x. bytes_eq b x ≡ true) (sym e) (bytes_eq-refl b)

pub stands_with : (id other : List ℕ) (old new : Bool) → new ≡ cond (bytes_eq id other) true old → new ≡ (stands_among (id ∷ []) other || old)
stands_with id other old new is =
    elim (cases_Bool (bytes_eq id other)) [
      | inl same ↦ (let back = same_text id other same in is ∙ rw (same, back) refl)
      | inr differs ↦ (let back : bytes_eq other id ≡ false = false_from_ne_true (bytes_eq other id) (λ same. both_ways (bytes_eq id other) differs (same_text other id same)) in is ∙ rw (differs, back) refl)
    ]

last_of : {A : Type 0} (xs : List A) (n : ℕ) (x : A) → slice_get xs n ≡ Some x → take (suc n) xs ≡ take n xs ++ x ∷ []
last_of [] n x at = absurd (none-some x at)
last_of (y ∷ xs) zero x at = ap (λ z. z ∷ []) (same_Some y x at)
last_of (y ∷ xs) (suc n) x at = ap (λ zs. y ∷ zs) (last_of xs n x at)

either_way : (a b : Bool) → (b || a) ≡ (a || b)
either_way true true = refl
either_way true false = refl
either_way false true = refl
either_way false false = refl

pub ids_more : (fifo : Bool) (payloads : List (List ℕ)) (n : ℕ) (payload id other : List ℕ) (before after : Bool) → slice_get payloads n ≡ Some payload → dead_id fifo payload ≡ Some id → before ≡ stands_among (dead_ids fifo (take n payloads)) other → after ≡ (stands_among (id ∷ []) other || before) → after ≡ stands_among (dead_ids fifo (take (n + 1) payloads)) other
ids_more fifo payloads n payload id other before after at has was is =
    let next : n + 1 ≡ suc n = omega arith in
    let front = dead_ids fifo (take n payloads) in
    let one : dead_ids fifo (payload ∷ []) ≡ id ∷ [] = ap (λ (o : Option (List ℕ)). cons_option o []) has in
    let whole : dead_ids fifo (take (n + 1) payloads) ≡ front ++ id ∷ [] = ap (λ (k : ℕ). dead_ids fifo (take k payloads)) next
    ∙ (ap (dead_ids fifo) (last_of payloads n payload at)
    ∙ (filter_map-append (dead_id fifo) (take n payloads) (payload ∷ []) ∙ ap (λ (ids : List (List ℕ)). front ++ ids) one)) in
    is ∙ (ap (λ (b : Bool). stands_among (id ∷ []) other || b) was
    ∙ (either_way (stands_among front other) (stands_among (id ∷ []) other)
    ∙ (sym (list_any-append (bytes_eq other) front (id ∷ [])) ∙ ap (λ (ids : List (List ℕ)). stands_among ids other) (sym whole))))

-- letters

has_message : (o : Option Message) (id : List ℕ) → option_map (λ (m : Message). m.id) o ≡ Some id → is_some o ≡ true
has_message None id is = absurd (none-some id is)
has_message (Some m) id is = refl

pub has_none : (o : Option Message) → option_map (λ (m : Message). m.id) o ≡ None → o ≡ None
has_none None is = refl
has_none (Some m) is = absurd (none-some m.id (sym is))

pub letters_more : (fifo : Bool) (payloads : List (List ℕ)) (n : ℕ) (payload id : List ℕ) → AreLetters fifo payloads n → slice_get payloads n ≡ Some payload → dead_id fifo payload ≡ Some id → AreLetters fifo payloads (n + 1)
letters_more fifo payloads n payload id before at has j other low there =
    elim (cases_lt j n) [
      | inl earlier ↦ before j other earlier there
      | inr last ↦
          (let e : j ≡ n = omega arith in
          let same : other ≡ payload = same_Some other payload (sym there ∙ (ap (slice_get payloads) e ∙ at)) in
          ap (λ (p : List ℕ). is_some (dead_message fifo p)) same ∙ has_message (dead_message fifo payload) id has)
    ]

pub first_bad : (fifo : Bool) (payloads : List (List ℕ)) (n i : ℕ) (payload : List ℕ) → i ≡ n → AreLetters fifo payloads n → slice_get payloads n ≡ Some payload → dead_id fifo payload ≡ None → IsFirstBad fifo payloads i
first_bad fifo payloads n i payload same before at has = subst (IsFirstBad fifo payloads) (sym same) (record { payload = payload; at = at; bad = has_none (dead_message fifo payload) has; before = before })

-- ids of a set

pub stands_in : {Y : Type 0} (ids : BTreeSet (String Y)) (id : List ℕ) → contains_text ids id ≡ stands_among (ids_in ids) id
stands_in {Y = Y} ids id = stands_on (keys ids)
  where
    stands_on : (ks : List (String Y)) → list_any (λ k. is_eq (slice_cmp nat_cmp id (string_bytes k))) ks ≡ stands_among (map string_bytes ks) id
    stands_on [] = refl
    stands_on (k ∷ ks) = ap₂ (λ (a b : Bool). a || b) (is_eq-slice_cmp id (string_bytes k)) (stands_on ks)
