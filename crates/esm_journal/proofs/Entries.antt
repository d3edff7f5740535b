-- What the bytes at an open gate say.
use Rattle.std.proofs.Common.{◌≡◌, ℕ, zero, suc, ◌+◌, ◌<◌, ◌≤◌, List, [], ◌∷◌, ◌++◌, length, take, drop, get_or, slice_index, nat_lt, if◌then◌else◌, arith, refl, sym, ap, ◌∙◌, length-drop, take-append-drop, append_assoc}
use Rattle.std.proofs.lemmas.List.{drop_more, drop-drop}
use Rattle.std.proofs.lemmas.Bool.Decides.{nat_tests}
use Rattle.std.proofs.lemmas.Nat.{be_bytes_4}
use Rattle.std.specs.Int.{w32, to_be_bytes, from_be_bytes}
use Rattle.esm_model.specs.declared.limits.TheConstants.{MAX_PAYLOAD}
use Rattle.esm_journal.specs.File.{entry, Opening, Damaged, preceded, number_in, read_from}
use Rattle.esm_journal.proofs.Files.{whole, read_short}

pub open_gate : (content : List ℕ) (place : ℕ) → place < length content → slice_index content place ≡ 1 → drop place content ≡ 1 ∷ drop (place + 1) content
open_gate content place within is = drop_more content place 0 within ∙ ap (λ (gate : ℕ). gate ∷ drop (place + 1) content) is

-- the length is above the limit
above : (place size count : ℕ) (payload : List ℕ) (rest : Opening) → 4 ≤ size → MAX_PAYLOAD < count
    → (if nat_lt size 4 then Damaged (place + 1 + size) else if nat_lt MAX_PAYLOAD count then Damaged (place + 1) else preceded payload rest) ≡ Damaged (place + 1)
above place size count payload rest enough long = grind (arith, nat_tests)

pub too_long : (content : List ℕ) (place count : ℕ) → place + 5 ≤ length content → slice_index content place ≡ 1 → count ≡ number_in (drop (place + 1) content) → MAX_PAYLOAD < count
    → (epoch : ℕ) → read_from epoch place 0 (drop place content) ≡ Damaged (place + 1)
too_long content place count within is number long epoch =
    let behind = drop (place + 1) content in
    ap (read_from epoch place 0) (open_gate content place (omega arith) is)
    ∙ above place (length behind) (number_in behind) (take (number_in behind) (drop 4 behind)) (read_from epoch (place + 1) (4 + number_in behind) behind)
    (omega (arith, length-drop (place + 1) content)) (omega (arith, number))

-- the payload or the next gate is cut short
pub cut_short : (content : List ℕ) (place count : ℕ) → place + 5 ≤ length content → slice_index content place ≡ 1 → count ≡ number_in (drop (place + 1) content) → count ≤ MAX_PAYLOAD → length content ≤ place + 5 + count
    → (epoch : ℕ) → read_from epoch place 0 (drop place content) ≡ Damaged (length content)
cut_short content place count within is number short ends epoch =
    let behind = drop (place + 1) content in
    let rest = read_from epoch (place + 1) (4 + number_in behind) behind in
    ap (read_from epoch place 0) (open_gate content place (omega arith) is)
    ∙ whole place (length behind) (number_in behind) (take (number_in behind) (drop 4 behind)) rest
    (omega (arith, length-drop (place + 1) content)) (omega (arith, number))
    ∙ ap (preceded (take (number_in behind) (drop 4 behind))) (read_short epoch (place + 1) (4 + number_in behind) behind (omega (arith, length-drop (place + 1) content, number)))
    ∙ ap Damaged (omega (arith, length-drop (place + 1) content))

-- the entry is whole
pub whole_entry : (content payload : List ℕ) (place count : ℕ) → place + 5 ≤ length content → slice_index content place ≡ 1 → to_be_bytes w32 count ≡ take 4 (drop (place + 1) content)
    → payload ≡ take count (drop (place + 5) content) → length payload ≡ count
    → drop place content ≡ 1 ∷ [] ++ entry payload ++ drop (place + 5 + length payload) content
whole_entry content payload place count within is written taken long =
    let after : drop (place + 5 + length payload) content ≡ drop count (drop (place + 5) content) =
    ap (λ n. drop (place + 5 + n) content) long ∙ sym (drop-drop count (place + 5) content) in
    let behind : drop (place + 1) content ≡ entry payload ++ drop (place + 5 + length payload) content =
    sym (take-append-drop 4 (drop (place + 1) content))
    ∙ ap (λ l. l ++ drop 4 (drop (place + 1) content)) (sym written ∙ ap (to_be_bytes w32) (sym long))
    ∙ ap (λ l. to_be_bytes w32 (length payload) ++ l)
    (drop-drop 4 (place + 1) content ∙ ap (λ n. drop n content) (omega arith)
    ∙ sym (take-append-drop count (drop (place + 5) content))
    ∙ ap (λ l. l ++ drop count (drop (place + 5) content)) (sym taken)
    ∙ ap (λ l. payload ++ l) (sym after))
    ∙ sym (append_assoc (to_be_bytes w32 (length payload)) payload (drop (place + 5 + length payload) content)) in
    open_gate content place (omega arith) is ∙ ap (λ (l : List ℕ). 1 ∷ l) behind

bytes_of_four : (a b c d : ℕ) → a < 256 → b < 256 → c < 256 → d < 256 → (i : ℕ) → get_or (a ∷ b ∷ c ∷ d ∷ []) i 0 < 256
bytes_of_four a b c d la lb lc ld zero = la
bytes_of_four a b c d la lb lc ld (suc zero) = lb
bytes_of_four a b c d la lb lc ld (suc (suc zero)) = lc
bytes_of_four a b c d la lb lc ld (suc (suc (suc zero))) = ld
bytes_of_four a b c d la lb lc ld (suc (suc (suc (suc i)))) = omega arith

-- four bytes write the number that they are read as
pub written_four : (four : List ℕ) → length four ≡ 4 → (slice_index four 0 < 256) × (slice_index four 1 < 256) × (slice_index four 2 < 256) × (slice_index four 3 < 256)
    → to_be_bytes w32 (from_be_bytes w32 four) ≡ four
written_four (a ∷ b ∷ c ∷ d ∷ []) size fit = be_bytes_4 (a ∷ b ∷ c ∷ d ∷ []) (from_be_bytes w32 (a ∷ b ∷ c ∷ d ∷ [])) refl (bytes_of_four a b c d fit.0 fit.1 fit.2 fit.3) refl
written_four _ size fit = absurd (omega arith)
