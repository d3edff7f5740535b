-- Memory for payloads to come.
use Rattle.std.proofs.Common.{◌≡◌, ℕ, ◌+◌, ◌-◌, ◌≤◌, ◌<◌, length, take, get_or, List, [], ◌∷◌, ◌++◌, nat_le, if◌then◌else◌, Vec, vec_len, vec_capacity, arith, refl, sym, ap, ◌∙◌}
use Rattle.std.proofs.lemmas.Bool.Decides.{nat_tests}
use Rattle.std.proofs.lemmas.List.{take_more}
use Rattle.std.specs.declared.alloc.Global.{Global}
use Rattle.esm_journal.specs.Room.{HasRoom, room_after, room_of, total_room, AreSpares}

pub spares_push : (spares : List (Vec ℕ Global)) (spare : Vec ℕ Global) → AreSpares spares → vec_len spare ≡ 0 → 5 ≤ vec_capacity spare → AreSpares (spares ++ spare ∷ [])
spares_push [] spare are empty large = (empty, large, tt)
spares_push (first ∷ spares) spare are empty large = (are.0, are.1, spares_push spares spare are.2 empty large)

pub room_push : (spares : List (Vec ℕ Global)) (spare : Vec ℕ Global) → room_of (spares ++ spare ∷ []) ≡ room_of spares ++ (vec_capacity spare - 5) ∷ []
room_push [] spare = refl
room_push (first ∷ spares) spare = ap (λ (l : List ℕ). (vec_capacity first - 5) ∷ l) (room_push spares spare)

pub total_push : (spares : List (Vec ℕ Global)) (spare : Vec ℕ Global) → total_room (spares ++ spare ∷ []) ≡ total_room spares + vec_capacity spare
total_push [] spare = omega arith
total_push (first ∷ spares) spare = omega (arith, total_push spares spare)

-- one length more
pub room_more : (spares : List (Vec ℕ Global)) (spare : Vec ℕ Global) (lengths : List ℕ) (i : ℕ) → room_of spares ≡ take i lengths → vec_capacity spare ≡ get_or lengths i 0 + 5 → i < length lengths
    → room_of (spares ++ spare ∷ []) ≡ take (i + 1) lengths
room_more spares spare lengths i so_far size within =
    let last : vec_capacity spare - 5 ≡ get_or lengths i 0 = omega (arith, size) in
    room_push spares spare ∙ ap (λ (l : List ℕ). l ++ (vec_capacity spare - 5) ∷ []) so_far
    ∙ ap (λ (n : ℕ). take i lengths ++ n ∷ []) last ∙ sym (take_more lengths i 0 within)

-- a payload that does not fit ends the promise
pub no_room : (lengths : List ℕ) (n : ℕ) → (HasRoom lengths n → ⊥) → room_after lengths n ≡ []
no_room [] n none = refl
no_room (length ∷ lengths) n none = too_long length lengths n none
  where
    too_long : (length : ℕ) (lengths : List ℕ) (n : ℕ) → (n ≤ length → ⊥) → (if nat_le n length then lengths else []) ≡ []
    too_long length lengths n none = grind (arith, nat_tests)

pub length_room : (spares : List (Vec ℕ Global)) → length (room_of spares) ≡ length spares
length_room [] = refl
length_room (spare ∷ spares) = omega (arith, length_room spares)
