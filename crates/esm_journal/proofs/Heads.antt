-- The front of a file.
use Rattle.std.proofs.Common.{◌≡◌, ◌≢◌, ℕ, zero, suc, ◌+◌, ◌^◌, ◌<◌, ◌≤◌, ◌==◌, Bool, true, false, not, if◌then◌else◌, List, ◌∷◌, ◌++◌, length, take, drop, get_or, slice_index, nat_eq, nat_lt, arith, refl, sym, ap, ◌∙◌, take-append-drop, append_assoc, length-drop, length-take}
use Rattle.std.proofs.lemmas.Nat.{be_bytes_8}
use Rattle.std.proofs.lemmas.List.{drop_more, drop-drop}
use Rattle.std.proofs.lemmas.Bool.Decides.{nat_tests}
use Rattle.std.specs.List.{starts_with}
use Rattle.std.specs.Cmp.Lexicographic.{pointwise, same_text}
use Rattle.std.specs.Int.{w64, to_be_bytes, from_be_bytes}
use Rattle.esm_journal.specs.File.{entries, front, AreShort, IsFile, Opening, Foreign, Damaged, eight_at, epoch_in, read_from, opened_rest, opened}
use Rattle.esm_journal.specs.Head.{IsHead}
use Rattle.esm_journal.specs.declared.head.Head.{Head}
use Rattle.esm_journal.proofs.Files.{eight_is, eight_drop, same_bytes}

eight_bytes : (bytes : List ℕ) → ((i : ℕ) → get_or bytes i 0 < 256) → (i : ℕ) → get_or (eight_at bytes 8) i 0 < 256
eight_bytes bytes fit zero = fit 8
eight_bytes bytes fit (suc zero) = fit 9
eight_bytes bytes fit (suc (suc zero)) = fit 10
eight_bytes bytes fit (suc (suc (suc zero))) = fit 11
eight_bytes bytes fit (suc (suc (suc (suc zero)))) = fit 12
eight_bytes bytes fit (suc (suc (suc (suc (suc zero))))) = fit 13
eight_bytes bytes fit (suc (suc (suc (suc (suc (suc zero)))))) = fit 14
eight_bytes bytes fit (suc (suc (suc (suc (suc (suc (suc zero))))))) = fit 15
eight_bytes bytes fit (suc (suc (suc (suc (suc (suc (suc (suc i)))))))) = omega arith

-- eight bytes write the number that they are read as
pub written_eight : (bytes : List ℕ) (n : ℕ) → ((i : ℕ) → get_or bytes i 0 < 256) → n ≡ from_be_bytes w64 (eight_at bytes 8) → to_be_bytes w64 n ≡ eight_at bytes 8
written_eight bytes n fit is = be_bytes_8 (eight_at bytes 8) n refl (eight_bytes bytes fit) is

pub same_eight : (xs ys : List ℕ) (n : ℕ) → ((k : ℕ) → k < n + 8 → slice_index xs k ≡ slice_index ys k) → eight_at xs n ≡ eight_at ys n
same_eight xs ys n same =
    let a = same n (omega arith) in
    let b = same (n + 1) (omega arith) in
    let c = same (n + 2) (omega arith) in
    let d = same (n + 3) (omega arith) in
    let e = same (n + 4) (omega arith) in
    let f = same (n + 5) (omega arith) in
    let g = same (n + 6) (omega arith) in
    let h = same (n + 7) (omega arith) in
    cc

-- the file is long enough and its seal is open
pub rest_says : (bytes : List ℕ) → 18 ≤ length bytes → slice_index bytes 16 ≡ 1 → opened_rest bytes ≡ read_from (epoch_in bytes) 17 0 (drop 17 bytes)
rest_says bytes long seal = says (length bytes) (slice_index bytes 16) (read_from (epoch_in bytes) 17 0 (drop 17 bytes)) long seal
  where
    says : (size seal : ℕ) (rest : Opening) → 18 ≤ size → seal ≡ 1 → (if nat_lt size 18 then Damaged size else if seal == 1 then rest else Damaged 16) ≡ rest
    says size seal rest long is = grind (arith, nat_tests)

-- the bytes of a file that was read
pub file_found : (bytes : List ℕ) (head : Head) (payloads : List (List ℕ)) (end : ℕ) → IsHead bytes head → head.epoch < 2 ^ 64 → 18 ≤ length bytes → head.seal ≡ 1
    → drop 17 bytes ≡ entries payloads ++ drop end bytes → slice_index bytes end ≢ 1 → end < length bytes → AreShort payloads
    → IsFile head.first head.epoch payloads bytes
file_found bytes head payloads end is fits long seal so_far shut within short = record {
  gate = slice_index bytes end;
  rest = drop (end + 1) bytes;
  closed = shut;
  bytes_are = parts;
  epoch_fits = fits;
  short = short;
}
  where
    first : take 8 bytes ≡ head.first
    first = eight_is bytes (omega (arith, long)) ∙ sym is.first

    second : take 8 (drop 8 bytes) ≡ to_be_bytes w64 head.epoch
    second = eight_is (drop 8 bytes) (omega (arith, long, length-drop 8 bytes)) ∙ sym (eight_drop bytes) ∙ sym is.written

    last : drop 16 bytes ≡ 1 ∷ (entries payloads ++ slice_index bytes end ∷ drop (end + 1) bytes)
    last =
        drop_more bytes 16 0 (omega (arith, long)) ∙ ap (λ (b : ℕ). b ∷ drop 17 bytes) (sym is.seal ∙ seal)
        ∙ ap (λ (l : List ℕ). 1 ∷ l) (so_far ∙ ap (λ l. entries payloads ++ l) (drop_more bytes end 0 within))

    parts : bytes ≡ front head.first head.epoch payloads ++ slice_index bytes end ∷ drop (end + 1) bytes
    parts =
        sym (take-append-drop 8 bytes)
        ∙ ap (λ l. l ++ drop 8 bytes) first
        ∙ ap (λ l. head.first ++ l) (sym (take-append-drop 8 (drop 8 bytes)) ∙ ap (λ l. l ++ drop 8 (drop 8 bytes)) second ∙ ap (λ l. to_be_bytes w64 head.epoch ++ l) (drop-drop 8 8 bytes ∙ last))
        ∙ simp append_assoc

pub not_true : (b : Bool) → (b ≡ true → ⊥) → b ≡ false
not_true true no_way = absurd (no_way refl)
not_true false no_way = refl

begins_is : (header bytes : List ℕ) → length header ≡ 8 → starts_with nat_eq bytes header ≡ true → header ≡ take 8 bytes
begins_is header bytes eight is = same_text header (take (length header) bytes) (sym is) ∙ ap (λ n. take n bytes) eight

not_begun : (header bytes : List ℕ) → (starts_with nat_eq bytes header ≡ true → ⊥) → opened header bytes ≡ Foreign
not_begun header bytes no_way = ap (λ (b : Bool). if b then opened_rest bytes else Foreign) (not_true (starts_with nat_eq bytes header) no_way)

-- the file is shorter than a header
pub too_short : (header bytes : List ℕ) → length header ≡ 8 → length bytes < 8 → opened header bytes ≡ Foreign
too_short header bytes eight short = not_begun header bytes (λ is. omega (arith, ap (λ (l : List ℕ). length l) (begins_is header bytes eight is), length-take 8 bytes))

-- the first bytes are not the header
pub other_header : (header bytes : List ℕ) → length header ≡ 8 → 8 ≤ length bytes → (eight_at bytes 0 ≡ header → ⊥) → opened header bytes ≡ Foreign
other_header header bytes eight long differs = not_begun header bytes (λ is. differs (sym (begins_is header bytes eight is ∙ eight_is bytes long)))

-- the first bytes are the header
pub same_header : (header bytes : List ℕ) → length header ≡ 8 → 8 ≤ length bytes → eight_at bytes 0 ≡ header → opened header bytes ≡ opened_rest bytes
same_header header bytes eight long is =
    ap (λ (b : Bool). if b then opened_rest bytes else Foreign)
    (ap (λ n. pointwise nat_eq header (take n bytes)) eight ∙ ap (pointwise nat_eq header) (eight_is bytes long ∙ is) ∙ same_bytes header)

-- a test told that two lists differ
pub differ : (xs ys : List ℕ) → not (pointwise nat_eq xs ys) ≡ true → xs ≡ ys → ⊥
differ xs ys told same = clash (pointwise nat_eq xs ys) told (ap (pointwise nat_eq xs) (sym same) ∙ same_bytes xs)
  where
    clash : (b : Bool) → not b ≡ true → b ≡ true → ⊥
    clash true told is = cc
    clash false told is = cc

-- a test told that two lists do not differ
pub agree : (xs ys : List ℕ) → not (pointwise nat_eq xs ys) ≡ false → xs ≡ ys
agree xs ys told = same_text xs ys (held (pointwise nat_eq xs ys) told)
  where
    held : (b : Bool) → not b ≡ false → true ≡ b
    held true told = refl
    held false told = cc
