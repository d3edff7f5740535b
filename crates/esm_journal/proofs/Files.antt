-- A file that is made of these payloads opens to them, whatever stands after the last gate.
use Rattle.std.proofs.Common.{◌≡◌, ◌≢◌, ℕ, zero, suc, ◌+◌, ◌^◌, ◌<◌, ◌≤◌, ◌==◌, Bool, true, List, [], ◌∷◌, ◌++◌, length, take, drop, slice_index, nat_eq, nat_lt, arith, refl, sym, ap, ◌∙◌, length-append, append_assoc, if◌then◌else◌}
use Rattle.std.proofs.lemmas.List.{take_at, drop_at, get_or_at}
use Rattle.std.proofs.lemmas.Bool.Decides.{nat_tests}
use Rattle.std.proofs.lemmas.Nat.{from_be_bytes-to_be_bytes_4, from_be_bytes-to_be_bytes_8}
use Rattle.std.specs.List.{starts_with}
use Rattle.std.specs.Cmp.Lexicographic.{pointwise}
use Rattle.std.specs.Int.{w64, to_be_bytes, from_be_bytes}
use Rattle.esm_model.specs.declared.limits.TheConstants.{MAX_PAYLOAD}
use Rattle.esm_journal.specs.File.{entry, entries, front, end_of, AreShort, IsFile, Opening, Holding, Foreign, Damaged, preceded, number_in, read_from, eight_at, epoch_in, opened}

-- bytes are passed
pub read_past : (epoch place : ℕ) (bytes more : List ℕ) → read_from epoch place (length bytes) (bytes ++ more) ≡ read_from epoch (place + length bytes) 0 more
read_past epoch place [] more = grind arith
read_past epoch place (byte ∷ bytes) more = read_past epoch (place + 1) bytes more ∙ ap (λ p. read_from epoch p 0 more) (omega arith)

-- the file ends before the next gate
pub read_short : (epoch place skip : ℕ) (bytes : List ℕ) → length bytes ≤ skip → read_from epoch place skip bytes ≡ Damaged (place + length bytes)
read_short epoch place skip [] le = ap Damaged (omega arith)
read_short epoch place zero (byte ∷ bytes) le = absurd (omega arith)
read_short epoch place (suc skip) (byte ∷ bytes) le = read_short epoch (place + 1) skip bytes (omega arith) ∙ ap Damaged (omega arith)

-- payloads before those that the rest of a file holds
abbrev pub all_preceded : List (List ℕ) → Opening → Opening
all_preceded [] rest = rest
all_preceded (payload ∷ payloads) rest = preceded payload (all_preceded payloads rest)

-- a gate that is not open ends the payloads
pub read_closed : (epoch place gate : ℕ) (rest : List ℕ) → gate ≢ 1 → read_from epoch place 0 (gate ∷ rest) ≡ Holding epoch []
read_closed epoch place gate rest shut = grind (arith, nat_tests)

pub number_in_entry : (payload more : List ℕ) → length payload ≤ MAX_PAYLOAD → number_in (entry payload ++ more) ≡ length payload
number_in_entry payload more short = from_be_bytes-to_be_bytes_4 (length payload) (omega arith)

-- an entry that is not cut short
pub whole : (place size count : ℕ) (payload : List ℕ) (rest : Opening) → 4 ≤ size → count ≤ MAX_PAYLOAD
    → (if nat_lt size 4 then Damaged (place + 1 + size) else if nat_lt MAX_PAYLOAD count then Damaged (place + 1) else preceded payload rest) ≡ preceded payload rest
whole place size count payload rest enough short = grind (arith, nat_tests)

entry_of_bytes : (epoch place a b c d count : ℕ) (payload more : List ℕ) → number_in (a ∷ b ∷ c ∷ d ∷ []) ≡ count → count ≡ length payload → count ≤ MAX_PAYLOAD
    → read_from epoch place 0 (1 ∷ a ∷ b ∷ c ∷ d ∷ (payload ++ more)) ≡ preceded payload (read_from epoch (place + 5 + length payload) 0 more)
entry_of_bytes epoch place a b c d count payload more is counts short =
    let behind = a ∷ b ∷ c ∷ d ∷ (payload ++ more) in
    let rest = read_from epoch (place + 1) (4 + number_in behind) behind in
    let enough : 4 ≤ length behind = omega arith in
    let taken : take (number_in behind) (drop 4 behind) ≡ payload = take_at payload more (number_in behind) (sym (is ∙ counts)) in
    let passes : 4 + number_in behind ≡ length (a ∷ b ∷ c ∷ d ∷ payload) = omega (arith, is, counts) in
    let passed : rest ≡ read_from epoch (place + 5 + length payload) 0 more =
    ap (λ skip. read_from epoch (place + 1) skip behind) passes ∙ read_past epoch (place + 1) (a ∷ b ∷ c ∷ d ∷ payload) more ∙ ap (λ p. read_from epoch p 0 more) (omega arith) in
    whole place (length behind) (number_in behind) (take (number_in behind) (drop 4 behind)) rest enough (omega (arith, is))
    ∙ ap (λ p. preceded p rest) taken ∙ ap (preceded payload) passed

-- an open entry that is whole
pub read_entry : (epoch place : ℕ) (payload more : List ℕ) → length payload ≤ MAX_PAYLOAD
    → read_from epoch place 0 (1 ∷ [] ++ entry payload ++ more) ≡ preceded payload (read_from epoch (place + 5 + length payload) 0 more)
read_entry epoch place payload more short =
    let n = length payload in
    entry_of_bytes epoch place _ _ _ _ n payload more (number_in_entry payload [] short) refl short

pub later_short : (payload : List ℕ) (payloads : List (List ℕ)) → AreShort (payload ∷ payloads) → AreShort payloads
later_short payload payloads short k d lt = short (suc k) d (omega arith)

-- the entries of these payloads
pub read_entries : (epoch place : ℕ) (payloads : List (List ℕ)) (more : List ℕ) → AreShort payloads
    → read_from epoch place 0 (entries payloads ++ more) ≡ all_preceded payloads (read_from epoch (place + length (entries payloads)) 0 more)
read_entries epoch place [] more short = ap (λ p. read_from epoch p 0 more) (omega arith)
read_entries epoch place (payload ∷ payloads) more short =
    let rest = entries payloads ++ more in
    let e : entries (payload ∷ payloads) ++ more ≡ 1 ∷ [] ++ entry payload ++ rest = append_assoc (1 ∷ [] ++ entry payload) (entries payloads) more in
    let size : length (entries (payload ∷ payloads)) ≡ 5 + length payload + length (entries payloads) = omega (arith, length-append payload (entries payloads)) in
    ap (read_from epoch place 0) e ∙ read_entry epoch place payload rest (short 0 [] (omega arith))
    ∙ ap (preceded payload) (read_entries epoch (place + 5 + length payload) payloads more (later_short payload payloads short)
    ∙ ap (λ p. all_preceded payloads (read_from epoch p 0 more)) (omega (arith, size)))

pub same_bytes : (xs : List ℕ) → pointwise nat_eq xs xs ≡ true
same_bytes [] = refl
same_bytes (x ∷ xs) = grind (arith, nat_tests, same_bytes xs)

begins : (header more : List ℕ) → starts_with nat_eq (header ++ more) header ≡ true
begins header more = ap (pointwise nat_eq header) (take_at header more (length header) refl) ∙ same_bytes header

sealed_long : (size seal : ℕ) (is_headed : Bool) (rest : Opening) → is_headed ≡ true → 18 ≤ size → seal ≡ 1
    → (if is_headed then (if nat_lt size 18 then Damaged size else if seal == 1 then rest else Damaged 16) else Foreign) ≡ rest
sealed_long size seal is_headed rest headed long sealed = grind (arith, nat_tests)

-- the eight bytes behind the first eight
pub eight_drop : (bytes : List ℕ) → eight_at bytes 8 ≡ eight_at (drop 8 bytes) 0
eight_drop (a ∷ b ∷ c ∷ d ∷ e ∷ f ∷ g ∷ h ∷ rest) = refl
eight_drop _ = refl

-- the first eight bytes, where there are so many
pub eight_is : (bytes : List ℕ) → 8 ≤ length bytes → take 8 bytes ≡ eight_at bytes 0
eight_is (a ∷ b ∷ c ∷ d ∷ e ∷ f ∷ g ∷ h ∷ rest) le = refl
eight_is _ le = absurd (omega arith)

-- a file that begins with these payloads
pub opened_front : (header : List ℕ) (epoch : ℕ) (payloads : List (List ℕ)) (more : List ℕ) → length header ≡ 8 → epoch < 2 ^ 64 → AreShort payloads → 0 < length more
    → opened header (front header epoch payloads ++ more) ≡ all_preceded payloads (read_from epoch (end_of payloads) 0 more)
opened_front header epoch payloads more eight fits short some =
    let epoch_bytes = to_be_bytes w64 epoch in
    let rest = entries payloads ++ more in
    let bytes = header ++ epoch_bytes ++ 1 ∷ [] ++ rest in
    let e : front header epoch payloads ++ more ≡ bytes = append_assoc (header ++ epoch_bytes ++ 1 ∷ []) (entries payloads) more in
    let at8 : bytes ≡ header ++ (epoch_bytes ++ 1 ∷ rest) = simp append_assoc in
    let at17 : bytes ≡ (header ++ epoch_bytes ++ 1 ∷ []) ++ rest = refl in
    let at16 : bytes ≡ (header ++ epoch_bytes) ++ 1 ∷ rest = append_assoc (header ++ epoch_bytes) (1 ∷ []) rest in
    let size : length bytes ≡ 17 + length rest = simp length-append (omega arith) in
    let read = read_from (epoch_in bytes) 17 0 (drop 17 bytes) in
    let tail : drop 17 bytes ≡ rest = drop_at (header ++ epoch_bytes ++ 1 ∷ []) rest 17 (simp length-append (omega arith)) in
    let behind : drop 8 bytes ≡ epoch_bytes ++ 1 ∷ rest = ap (drop 8) at8 ∙ drop_at header (epoch_bytes ++ 1 ∷ rest) 8 eight in
    let number : epoch_in bytes ≡ epoch =
    ap (from_be_bytes w64) (eight_drop bytes ∙ ap (λ l. eight_at l 0) behind) ∙ from_be_bytes-to_be_bytes_8 epoch fits in
    ap (opened header) e
    ∙ sealed_long (length bytes) (slice_index bytes 16) (starts_with nat_eq bytes header) read
    (ap (λ l. starts_with nat_eq l header) at8 ∙ begins header (epoch_bytes ++ 1 ∷ rest))
    (omega (arith, size, length-append (entries payloads) more))
    (ap (λ l. slice_index l 16) at16 ∙ get_or_at (header ++ epoch_bytes) 1 rest 0 16 (simp length-append (omega arith)))
    ∙ ap (λ n. read_from n 17 0 (drop 17 bytes)) number
    ∙ ap (read_from epoch 17 0) tail
    ∙ read_entries epoch 17 payloads more short

all_of : (epoch : ℕ) (payloads : List (List ℕ)) → all_preceded payloads (Holding epoch []) ≡ Holding epoch payloads
all_of epoch [] = refl
all_of epoch (payload ∷ payloads) = ap (preceded payload) (all_of epoch payloads)

-- a file of these payloads opens to them
pub opened_file : (header : List ℕ) (epoch : ℕ) (payloads : List (List ℕ)) (bytes : List ℕ) → length header ≡ 8 → IsFile header epoch payloads bytes → opened header bytes ≡ Holding epoch payloads
opened_file header epoch payloads bytes eight file =
    ap (opened header) file.bytes_are
    ∙ opened_front header epoch payloads (file.gate ∷ file.rest) eight file.epoch_fits file.short (omega arith)
    ∙ ap (all_preceded payloads) (read_closed epoch (end_of payloads) file.gate file.rest file.closed)
    ∙ all_of epoch payloads

-- the parts of a file's front
module _ (header : List ℕ) (epoch : ℕ) (payloads : List (List ℕ)) (bytes : List ℕ) (eight : length header ≡ 8) (file : IsFile header epoch payloads bytes) where
  behind_header : List ℕ
  behind_header = to_be_bytes w64 epoch ++ 1 ∷ (entries payloads ++ file.gate ∷ file.rest)

  split : bytes ≡ header ++ (to_be_bytes w64 epoch ++ 1 ∷ (entries payloads ++ file.gate ∷ file.rest))
  split = file.bytes_are ∙ simp append_assoc

  pub first_of_file : eight_at bytes 0 ≡ header
  first_of_file =
      sym (eight_is bytes (omega (arith, ap (λ (l : List ℕ). length l) split, length-append header (to_be_bytes w64 epoch ++ 1 ∷ (entries payloads ++ file.gate ∷ file.rest)), eight)))
      ∙ ap (take 8) split ∙ take_at header (to_be_bytes w64 epoch ++ 1 ∷ (entries payloads ++ file.gate ∷ file.rest)) 8 eight

  pub epoch_of_file : epoch_in bytes ≡ epoch
  epoch_of_file =
      ap (from_be_bytes w64) (eight_drop bytes ∙ ap (λ l. eight_at l 0) (ap (drop 8) split ∙ drop_at header (to_be_bytes w64 epoch ++ 1 ∷ (entries payloads ++ file.gate ∷ file.rest)) 8 eight))
      ∙ from_be_bytes-to_be_bytes_8 epoch file.epoch_fits

  pub seal_of_file : slice_index bytes 16 ≡ 1
  seal_of_file =
      ap (λ l. slice_index l 16) (split ∙ sym (append_assoc header (to_be_bytes w64 epoch) (1 ∷ (entries payloads ++ file.gate ∷ file.rest))))
      ∙ get_or_at (header ++ to_be_bytes w64 epoch) 1 (entries payloads ++ file.gate ∷ file.rest) 0 16 (simp length-append (omega arith))
