-- A list of payloads as bytes.
use Rattle.std.proofs.Common.{◌≡◌, ℕ, zero, suc, ◌+◌, ◌<◌, ◌≤◌, List, [], ◌∷◌, ◌++◌, length, take, get_or, Bool, true, false, Option, Some, None, nat_lt, if◌then◌else◌, Vec, vec_capacity, arith, refl, sym, ap, ◌∙◌, append_assoc}
use Rattle.std.proofs.lemmas.List.{take_more}
use Rattle.std.proofs.lemmas.Bool.Decides.{nat_tests}
use Rattle.std.specs.Int.{w32, to_be_bytes}
use Rattle.std.specs.declared.alloc.Global.{Global}
use Rattle.esm_model.specs.declared.limits.TheConstants.{MAX_PAYLOAD}
use Rattle.esm_journal.specs.File.{entry, entries, AreShort}
use Rattle.esm_journal.specs.Room.{total_room}
use Rattle.esm_journal.specs.Replace.{first_too_long}
use Rattle.esm_journal.proofs.Written.{entries_push}
use Rattle.esm_journal.proofs.Rooms.{total_push}

-- one entry more
pub list_more : (payloads : List (List ℕ)) (i : ℕ) (payload bytes number old : List ℕ) → i < length payloads → payload ≡ get_or payloads i payload → bytes ≡ payload → number ≡ to_be_bytes w32 (length bytes) → old ≡ entries (take i payloads)
    → ((old ++ 1 ∷ []) ++ number) ++ bytes ≡ entries (take (i + 1) payloads)
list_more payloads i payload bytes number old within is same written so_far =
    let item : bytes ≡ get_or payloads i payload = same ∙ is in
    append_assoc (old ++ 1 ∷ []) number bytes
    ∙ ap (λ l. (old ++ 1 ∷ []) ++ (l ++ bytes)) written
    ∙ ap (λ l. (l ++ 1 ∷ []) ++ entry bytes) so_far
    ∙ sym (entries_push (take i payloads) bytes)
    ∙ ap (λ p. entries (take i payloads ++ p ∷ [])) item
    ∙ ap entries (sym (take_more payloads i payload within))

-- one buffer more
pub total_more : (spares : List (Vec ℕ Global)) (i : ℕ) (spare : Vec ℕ Global) → i < length spares → spare ≡ get_or spares i spare → total_room (take (i + 1) spares) ≡ total_room (take i spares) + vec_capacity spare
total_more spares i spare within is =
    ap total_room (take_more spares i spare within) ∙ total_push (take i spares) (get_or spares i spare) ∙ ap (λ (s : Vec ℕ Global). total_room (take i spares) + vec_capacity s) (sym is)

pub total_take : (spares : List (Vec ℕ Global)) (i : ℕ) → total_room (take i spares) ≤ total_room spares
total_take [] zero = omega arith
total_take [] (suc i) = omega arith
total_take (spare ∷ spares) zero = omega arith
total_take (spare ∷ spares) (suc i) = omega (arith, total_take spares i)

one_more : (payload : List ℕ) (payloads : List (List ℕ)) (rest : Option ℕ) → (if nat_lt MAX_PAYLOAD (length payload) then Some (length payload) else rest) ≡ None → (rest ≡ None → AreShort payloads) → AreShort (payload ∷ payloads)
one_more payload payloads rest none short = short_ahead payload payloads (first_short (nat_lt MAX_PAYLOAD (length payload)) (length payload) rest none refl).0 (short (first_short (nat_lt MAX_PAYLOAD (length payload)) (length payload) rest none refl).1)
  where
    first_short : (test : Bool) (n : ℕ) (rest : Option ℕ) → (if test then Some n else rest) ≡ None → test ≡ nat_lt MAX_PAYLOAD n → (n ≤ MAX_PAYLOAD) × (rest ≡ None)
    first_short true n rest none is = cc
    first_short false n rest none is = (grind (arith, nat_tests), none)

    short_ahead : (payload : List ℕ) (payloads : List (List ℕ)) → length payload ≤ MAX_PAYLOAD → AreShort payloads → AreShort (payload ∷ payloads)
    short_ahead payload payloads le short zero d lt = le
    short_ahead payload payloads le short (suc k) d lt = short k d (omega (arith, lt))

-- where none is too long, all are short
pub all_short : (payloads : List (List ℕ)) → first_too_long payloads ≡ None → AreShort payloads
all_short [] none = λ k d lt. absurd (omega (arith, lt))
all_short (payload ∷ payloads) none = one_more payload payloads (first_too_long payloads) none (all_short payloads)

-- and where all are short, none is too long
pub none_too_long : (payloads : List (List ℕ)) (n : ℕ) → AreShort payloads → first_too_long payloads ≡ Some n → ⊥
none_too_long payloads n short is = absurd (clash (sym (none_of payloads short) ∙ is))
  where
    clash : None ≡ Some n → ⊥
    clash e = cc

    passed : (test : Bool) (size : ℕ) (rest : Option ℕ) → size ≤ MAX_PAYLOAD → test ≡ nat_lt MAX_PAYLOAD size → rest ≡ None → (if test then Some size else rest) ≡ None
    passed true size rest le told none = grind (arith, nat_tests)
    passed false size rest le told none = none

    none_of : (payloads : List (List ℕ)) → AreShort payloads → first_too_long payloads ≡ None
    none_of [] short = refl
    none_of (payload ∷ payloads) short =
        passed (nat_lt MAX_PAYLOAD (length payload)) (length payload) (first_too_long payloads) (short zero payload (omega arith)) refl (none_of payloads (λ k d lt. short (suc k) d (omega (arith, lt))))
