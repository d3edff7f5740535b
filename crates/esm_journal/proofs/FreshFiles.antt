-- Fresh files.
use Rattle.std.proofs.Common.{◌≡◌, ℕ, ◌≤◌, ◌==◌, Bool, true, false, List, [], ◌∷◌, ◌++◌, length, drop, slice_index, nat_eq, nat_lt, if◌then◌else◌, arith, refl, sym, ap, ◌∙◌, append_assoc, length-append, length-drop}
use Rattle.std.proofs.lemmas.List.{append-nil}
use Rattle.std.specs.List.{starts_with}
use Rattle.std.specs.Int.{w64, to_be_bytes}
use Rattle.esm_io.specs.Images.{overwritten, Torn}
use Rattle.esm_journal.specs.File.{Opening, Holding, Foreign, Damaged, IsFile, blank_file, fresh_file, epoch_in, read_from, opened_rest, opened}
use Rattle.esm_journal.specs.Fresh.{HoldsNone}
use Rattle.esm_journal.specs.Pair.{is_taken, beside, pair_opened}
use Rattle.esm_journal.proofs.Written.{overwritten_behind}

-- the seal is opened
pub sealed : (header : List ℕ) → length header ≡ 8 → overwritten (blank_file header 1) 16 (1 ∷ []) ≡ fresh_file header
sealed header eight =
    overwritten_behind 16 (header ++ to_be_bytes w64 1) (0 ∷ 0 ∷ []) (1 ∷ []) (simp length-append (omega arith))
    ∙ append_assoc (header ++ to_be_bytes w64 1) (1 ∷ []) (0 ∷ [])

-- a fresh file holds no payloads
pub fresh_is_file : (header bytes : List ℕ) → bytes ≡ fresh_file header → IsFile header 1 [] bytes
fresh_is_file header bytes is = record {
  gate = 0;
  rest = [];
  closed = λ e. absurd (omega (arith, e));
  bytes_are = is ∙ sym (append_assoc (header ++ to_be_bytes w64 1) (1 ∷ []) (0 ∷ [])) ∙ ap (λ l. l ++ 0 ∷ []) (sym (append-nil (header ++ to_be_bytes w64 1 ++ 1 ∷ [])));
  epoch_fits = omega arith;
  short = λ k d lt. absurd (omega (arith, lt));
}

-- the payloads that were found
payloads_in : Opening → List (List ℕ)
payloads_in (Holding epoch payloads) = payloads
payloads_in Foreign = []
payloads_in (Damaged place) = []

none_held : (opening : Opening) → ((epoch : ℕ) (payloads : List (List ℕ)) → opening ≡ Holding epoch payloads → payloads ≡ []) → payloads_in opening ≡ []
unfolding payloads_in
none_held (Holding epoch payloads) none = none epoch payloads refl
none_held Foreign none = refl
none_held (Damaged place) none = refl

none_found : (opening : Opening) → payloads_in opening ≡ [] → (epoch : ℕ) (payloads : List (List ℕ)) → opening ≡ Holding epoch payloads → payloads ≡ []
unfolding payloads_in
none_found opening none epoch payloads is = sym (ap payloads_in is) ∙ none

-- a gate behind which nothing stands
one_gate : (is_open : Bool) (place epoch : ℕ) → payloads_in (if is_open then Damaged place else Holding epoch []) ≡ []
unfolding payloads_in
one_gate true place epoch = refl
one_gate false place epoch = refl

no_entry : (epoch : ℕ) (bytes : List ℕ) → length bytes ≤ 1 → payloads_in (read_from epoch 17 0 bytes) ≡ []
unfolding payloads_in
no_entry epoch [] few = refl
no_entry epoch (gate ∷ []) few = one_gate (gate == 1) 18 epoch
no_entry epoch (gate ∷ byte ∷ bytes) few = absurd (omega (arith, few))

none_in_rest : (is_short is_sealed : Bool) (size : ℕ) (rest : Opening) → payloads_in rest ≡ [] → payloads_in (if is_short then Damaged size else if is_sealed then rest else Damaged 16) ≡ []
unfolding payloads_in
none_in_rest true is_sealed size rest none = refl
none_in_rest false true size rest none = none
none_in_rest false false size rest none = refl

-- eighteen bytes have no place for an entry
pub short_holds_none : (bytes : List ℕ) → length bytes ≤ 18 → HoldsNone bytes
short_holds_none bytes few =
    none_found (opened_rest bytes)
    (none_in_rest (nat_lt (length bytes) 18) (slice_index bytes 16 == 1) (length bytes) (read_from (epoch_in bytes) 17 0 (drop 17 bytes))
    (no_entry (epoch_in bytes) (drop 17 bytes) (omega (arith, length-drop 17 bytes, few))))

-- while eighteen bytes are written to an empty disk, there are no more
pub torn_blank : (header : List ℕ) (epoch : ℕ) (blank old new : List ℕ) → length header ≡ 8 → blank ≡ blank_file header epoch → length old ≡ 0 → Torn 0 (length blank) old new → HoldsNone new
torn_blank header epoch blank old new eight is empty torn =
    let size : length blank ≡ 18 = ap (λ (l : List ℕ). length l) is ∙ simp length-append (omega (arith, eight)) in
    short_holds_none new (omega (arith, torn.no_longer, empty, size))

-- nor while one of them is
pub torn_fresh : (header old new : List ℕ) → length header ≡ 8 → old ≡ blank_file header 1 → Torn 16 1 old new → HoldsNone new
torn_fresh header old new eight blank torn =
    let size : length old ≡ 18 = ap (λ (l : List ℕ). length l) blank ∙ simp length-append (omega (arith, eight)) in
    short_holds_none new (omega (arith, torn.no_longer, size))

none_beside : (opening : Opening) (size : ℕ) → payloads_in opening ≡ [] → payloads_in (beside opening size) ≡ []
unfolding payloads_in
none_beside (Holding epoch payloads) size none = cut (nat_lt size 18) none
  where
    cut : (is_short : Bool) → payloads ≡ [] → payloads_in (if is_short then Damaged size else Holding epoch payloads) ≡ []
    cut true is = refl
    cut false is = is
none_beside Foreign size none = refl
none_beside (Damaged place) size none = refl

none_taken : (first_is second_is : Bool) (one other : Opening) → payloads_in one ≡ [] → payloads_in other ≡ [] → payloads_in (if first_is then one else if second_is then other else Foreign) ≡ []
unfolding payloads_in
none_taken true second_is one other none none' = none
none_taken false true one other none none' = none'
none_taken false false one other none none' = refl

headed : (same : Bool) (rest : Opening) → payloads_in rest ≡ [] → payloads_in (if same then rest else Foreign) ≡ []
unfolding payloads_in
headed true rest none = none
headed false rest none = refl

-- a file in which no payload is found opens to none
pub file_holds_none : (header bytes : List ℕ) → HoldsNone bytes → (epoch : ℕ) (payloads : List (List ℕ)) → opened header bytes ≡ Holding epoch payloads → payloads ≡ []
file_holds_none header bytes none =
    none_found (opened header bytes) (headed (starts_with nat_eq bytes header) (opened_rest bytes) (none_held (opened_rest bytes) none))

-- two files in which no payload is found open to none
pub pair_holds_none : (header one other : List ℕ) → HoldsNone one → HoldsNone other → (epoch : ℕ) (payloads : List (List ℕ)) → pair_opened header one other ≡ Holding epoch payloads → payloads ≡ []
pair_holds_none header one other none none' =
    none_found (pair_opened header one other)
    (none_taken (is_taken header one other) (is_taken header other one) (beside (opened_rest one) (length other)) (beside (opened_rest other) (length one))
    (none_beside (opened_rest one) (length other) (none_held (opened_rest one) none)) (none_beside (opened_rest other) (length one) (none_held (opened_rest other) none')))
