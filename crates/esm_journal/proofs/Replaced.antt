-- What is left of a file while another list is written over it.
use Rattle.std.proofs.Common.{◌≡◌, ◌⊎◌, ◌==◌, ◌&&◌, inl, inr, ℕ, Bool, true, false, ◌+◌, ◌-◌, ◌^◌, ◌<◌, ◌≤◌, List, [], ◌∷◌, ◌++◌, length, take, drop, get_or, slice_index, nat_eq, arith, refl, sym, ap, subst, ◌∙◌, length-append, length-take, length-drop, append_assoc}
use Rattle.std.proofs.lemmas.List.{drop_more, get_or-take, get_or-drop, get_or_at, take_at, drop_at, drop-drop, append-nil}
use borrow.Rule.Slice.PartMut.{put_mid}
use Rattle.std.proofs.lemmas.Bool.{cases_eq}
use Rattle.std.proofs.lemmas.Bool.Decides.{nat_tests}
use Rattle.std.specs.Cmp.Lexicographic.{pointwise}
use Rattle.std.specs.Int.{w64, to_be_bytes, from_be_bytes}
use Rattle.esm_io.specs.Images.{overwritten, Torn}
use Rattle.esm_journal.specs.File.{entries, front, AreShort, IsFile, eight_at, epoch_in}
use Rattle.esm_journal.specs.Bytes.{rewritten}
use Rattle.esm_journal.specs.Pair.{IsSpare}
use Rattle.esm_journal.specs.Replace.{IsClosed, IsUnsealed, IsSpareOrNew}
use Rattle.esm_journal.proofs.Heads.{same_eight}
use Rattle.esm_journal.proofs.Written.{torn_byte, overwritten_behind}

seal_of : (same : Bool) (seal : ℕ) → (same && (seal == 1)) ≡ true → seal ≡ 1
seal_of true seal is = grind (arith, nat_tests)
seal_of false seal is = cc

-- a file that is not sealed is not taken
pub closed_spare : (header : List ℕ) (epoch : ℕ) (bytes : List ℕ) → IsClosed bytes → IsSpare header epoch bytes
closed_spare header epoch bytes closed = record {
  long = closed.long;
  lower = λ is. absurd (closed.seal (seal_of (pointwise nat_eq (eight_at bytes 0) header) (slice_index bytes 16) is));
}

sealed_same : (same seal : Bool) → (same && seal) ≡ true → same ≡ true
sealed_same true seal is = refl
sealed_same false seal is = cc

-- the bytes before a torn range
before_torn : (at n : ℕ) (old new : List ℕ) → Torn at n old new → (k : ℕ) → k < at → slice_index new k ≡ slice_index old k
before_torn at n old new torn k lt = sym (get_or-take at new k 0 lt) ∙ ap (λ (l : List ℕ). get_or l k 0) torn.before ∙ get_or-take at old k 0 lt

-- the bytes behind it
behind_torn : (at n : ℕ) (old new : List ℕ) → Torn at n old new → (k : ℕ) → at + n ≤ k → slice_index new k ≡ slice_index old k
behind_torn at n old new torn k le =
    let i = k - (at + n) in
    let is : at + n + i ≡ k = omega (arith, le) in
    ap (λ j. get_or new j 0) (sym is) ∙ sym (get_or-drop (at + n) new i 0) ∙ ap (λ (l : List ℕ). get_or l i 0) torn.after ∙ get_or-drop (at + n) old i 0 ∙ ap (λ j. get_or old j 0) is

-- while the seal of a file that is not taken is closed, it is not taken
pub torn_seal : (header : List ℕ) (epoch : ℕ) (bytes image : List ℕ) → IsSpare header epoch bytes → slice_index bytes 16 ≡ 1 → Torn 16 1 bytes image → IsSpare header epoch image
torn_seal header epoch bytes image spare is_open torn =
    let same = before_torn 16 1 bytes image torn in
    let first : eight_at image 0 ≡ eight_at bytes 0 = same_eight image bytes 0 (λ k lt. same k (omega (arith, lt))) in
    let number : epoch_in image ≡ epoch_in bytes = ap (from_be_bytes w64) (same_eight image bytes 8 (λ k lt. same k (omega (arith, lt)))) in
    record {
      long = omega (arith, spare.long, torn.no_shorter);
      lower = λ is. omega (arith, number, spare.lower (was_sealed (pointwise nat_eq (eight_at image 0) header) (pointwise nat_eq (eight_at bytes 0) header) (slice_index image 16 == 1) (slice_index bytes 16) (ap (λ l. pointwise nat_eq l header) first) is_open is));
    }
  where
    was_sealed : (now before seal : Bool) (byte : ℕ) → now ≡ before → byte ≡ 1 → (now && seal) ≡ true → (before && (byte == 1)) ≡ true
    was_sealed true true seal byte e is_open is = grind (arith, nat_tests)
    was_sealed true false seal byte e is_open is = cc
    was_sealed false before seal byte e is_open is = cc

-- the seal was closed
pub closed_seal : (bytes : List ℕ) → 18 ≤ length bytes → IsClosed (overwritten bytes 16 (0 ∷ []))
closed_seal bytes long = record {
  long = omega (arith, long, size);
  seal = λ is. absurd (omega (arith, is, byte));
}
  where
    front_size : length (take 16 bytes) ≡ 16
    front_size = omega (arith, length-take 16 bytes, long)

    size : length (overwritten bytes 16 (0 ∷ [])) ≡ length bytes
    size = simp (length-append, length-take, length-drop) (omega (arith, long))

    byte : slice_index (overwritten bytes 16 (0 ∷ [])) 16 ≡ 0
    byte =
        ap (λ (l : List ℕ). get_or l 16 0) (append_assoc (take 16 bytes) (0 ∷ []) (drop 17 bytes))
        ∙ get_or_at (take 16 bytes) 0 (drop 17 bytes) 0 16 front_size

-- what stands behind the seal stays
pub behind_seal : (bytes : List ℕ) → 18 ≤ length bytes → drop 17 (overwritten bytes 16 (0 ∷ [])) ≡ drop 17 bytes
behind_seal bytes long = drop_at (take 16 bytes ++ 0 ∷ []) (drop 17 bytes) 17 (length-append (take 16 bytes) (0 ∷ []) ∙ omega (arith, length-take 16 bytes, long))

-- a write on one side of the seal leaves it closed
pub torn_apart : (at n : ℕ) (bytes image : List ℕ) → (at + n ≤ 16) ⊎ (17 ≤ at) → IsClosed bytes → Torn at n bytes image → IsClosed image
torn_apart at n bytes image (inl before) closed torn = record {
  long = omega (arith, closed.long, torn.no_shorter);
  seal = λ is. closed.seal (sym (behind_torn at n bytes image torn 16 before) ∙ is);
}
torn_apart at n bytes image (inr behind) closed torn = record {
  long = omega (arith, closed.long, torn.no_shorter);
  seal = λ is. closed.seal (sym (before_torn at n bytes image torn 16 behind) ∙ is);
}

-- header, epoch and list are written: these are the bytes
pub listed_bytes : (header : List ℕ) (epoch : ℕ) (bytes head list : List ℕ) → length header ≡ 8 → head ≡ header ++ to_be_bytes w64 epoch → 18 ≤ length bytes
    → overwritten (overwritten bytes 0 head) 17 list ≡ (header ++ to_be_bytes w64 epoch) ++ slice_index bytes 16 ∷ (list ++ drop (length list) (drop 17 bytes))
listed_bytes header epoch bytes head list eight is_head long =
    ap (λ l. overwritten l 17 list) started
    ∙ overwritten_behind 17 (head ++ slice_index bytes 16 ∷ []) (drop 17 bytes) list behind
    ∙ append_assoc (head ++ slice_index bytes 16 ∷ []) list (drop (length list) (drop 17 bytes))
    ∙ append_assoc head (slice_index bytes 16 ∷ []) (list ++ drop (length list) (drop 17 bytes))
    ∙ ap (λ l. l ++ slice_index bytes 16 ∷ (list ++ drop (length list) (drop 17 bytes))) is_head
  where
    size : length head ≡ 16
    size = ap (λ (l : List ℕ). length l) is_head ∙ length-append header (to_be_bytes w64 epoch) ∙ omega (arith, eight)

    no_more : 0 + length head ≡ 16
    no_more = omega (arith, size)

    started : overwritten bytes 0 head ≡ (head ++ slice_index bytes 16 ∷ []) ++ drop 17 bytes
    started =
        ap (λ n. head ++ drop n bytes) no_more
        ∙ ap (λ l. head ++ l) (drop_more bytes 16 0 (omega (arith, long)))
        ∙ sym (append_assoc head (slice_index bytes 16 ∷ []) (drop 17 bytes))

    behind : length (head ++ slice_index bytes 16 ∷ []) ≡ 17
    behind = length-append head (slice_index bytes 16 ∷ []) ∙ ap (λ n. n + 1) size

-- a whole file but for its seal
pub listed : (header : List ℕ) (epoch : ℕ) (payloads : List (List ℕ)) (bytes head list : List ℕ) → length header ≡ 8 → head ≡ header ++ to_be_bytes w64 epoch → list ≡ entries payloads ++ 0 ∷ [] → IsClosed bytes
    → IsUnsealed header epoch payloads (overwritten (overwritten bytes 0 head) 17 list)
listed header epoch payloads bytes head list eight is_head is_list closed = record {
  seal = slice_index bytes 16;
  rest = drop (length list) (drop 17 bytes);
  closed = closed.seal;
  bytes_are = whole;
}
  where
    whole : overwritten (overwritten bytes 0 head) 17 list ≡ (header ++ to_be_bytes w64 epoch) ++ slice_index bytes 16 ∷ (entries payloads ++ 0 ∷ drop (length list) (drop 17 bytes))
    whole =
        listed_bytes header epoch bytes head list eight is_head closed.long
        ∙ ap (λ l. (header ++ to_be_bytes w64 epoch) ++ slice_index bytes 16 ∷ (l ++ drop (length list) (drop 17 bytes))) is_list
        ∙ ap (λ l. (header ++ to_be_bytes w64 epoch) ++ slice_index bytes 16 ∷ l) (append_assoc (entries payloads) (0 ∷ []) (drop (length list) (drop 17 bytes)))

-- once its seal is open, the list is written over the file as it was
pub whole_list : (header : List ℕ) (epoch : ℕ) (payloads : List (List ℕ)) (bytes closed list : List ℕ) (seal : ℕ) → length header ≡ 8 → list ≡ entries payloads ++ 0 ∷ [] → drop 17 closed ≡ drop 17 bytes
    → overwritten ((header ++ to_be_bytes w64 epoch) ++ seal ∷ (list ++ drop (length list) (drop 17 closed))) 16 (1 ∷ []) ≡ rewritten header epoch payloads bytes
whole_list header epoch payloads bytes closed list seal eight is_list same =
    overwritten_behind 16 (header ++ to_be_bytes w64 epoch) (seal ∷ (list ++ drop (length list) (drop 17 closed))) (1 ∷ []) head_size
    ∙ ap (λ l. ((header ++ to_be_bytes w64 epoch) ++ 1 ∷ []) ++ (list ++ drop (length list) l)) same
    ∙ sym (append_assoc ((header ++ to_be_bytes w64 epoch) ++ 1 ∷ []) list (drop (length list) (drop 17 bytes)))
    ∙ ap (λ l. (((header ++ to_be_bytes w64 epoch) ++ 1 ∷ []) ++ list) ++ l) (drop-drop (length list) 17 bytes ∙ ap (λ n. drop n bytes) size)
    ∙ ap (λ l. l ++ drop (0 + length (front header epoch payloads ++ 0 ∷ [])) bytes) is_front
  where
    head_size : length (header ++ to_be_bytes w64 epoch) ≡ 16
    head_size = length-append header (to_be_bytes w64 epoch) ∙ omega (arith, eight)

    is_front : ((header ++ to_be_bytes w64 epoch) ++ 1 ∷ []) ++ list ≡ front header epoch payloads ++ 0 ∷ []
    is_front = ap (λ l. ((header ++ to_be_bytes w64 epoch) ++ 1 ∷ []) ++ l) is_list ∙ sym (append_assoc ((header ++ to_be_bytes w64 epoch) ++ 1 ∷ []) (entries payloads) (0 ∷ []))

    size : 17 + length list ≡ 0 + length (front header epoch payloads ++ 0 ∷ [])
    size =
        let behind = length-append ((header ++ to_be_bytes w64 epoch) ++ 1 ∷ []) list in
        let before = length-append (header ++ to_be_bytes w64 epoch) (1 ∷ []) in
        omega (arith, ap (λ (l : List ℕ). length l) is_front, behind, before, head_size)

module _ (header : List ℕ) (epoch : ℕ) (payloads : List (List ℕ)) (eight : length header ≡ 8) (fits : epoch < 2 ^ 64) (short : AreShort payloads) where
  head_size : length (header ++ to_be_bytes w64 epoch) ≡ 16
  head_size = length-append header (to_be_bytes w64 epoch) ∙ omega (arith, eight)

  -- the seal is open
  sealed_list : (rest : List ℕ) → IsFile header epoch payloads ((header ++ to_be_bytes w64 epoch) ++ 1 ∷ (entries payloads ++ 0 ∷ rest))
  sealed_list rest = record {
    gate = 0;
    rest = rest;
    closed = λ e. absurd (omega (arith, e));
    bytes_are = simp append_assoc;
    epoch_fits = fits;
    short = short;
  }

  pub file_of_sealed : (bytes : List ℕ) → IsUnsealed header epoch payloads bytes → IsFile header epoch payloads (overwritten bytes 16 (1 ∷ []))
  file_of_sealed bytes is =
      let behind = entries payloads ++ 0 ∷ is.rest in
      let head = header ++ to_be_bytes w64 epoch in
      let whole = ap (λ l. overwritten l 16 (1 ∷ [])) is.bytes_are ∙ overwritten_behind 16 head (is.seal ∷ behind) (1 ∷ []) head_size ∙ append_assoc head (1 ∷ []) behind in
      subst (IsFile header epoch payloads) (sym whole) (sealed_list is.rest)

  -- while the seal is opened, it is closed or the whole file is there
  pub torn_open : (bytes image : List ℕ) → 18 ≤ length bytes → IsUnsealed header epoch payloads bytes → Torn 16 1 bytes image → IsClosed image ⊎ IsFile header epoch payloads image
  torn_open bytes image long is torn =
      let behind = entries payloads ++ 0 ∷ is.rest in
      let head = header ++ to_be_bytes w64 epoch in
      let left = torn_byte 16 is.seal head behind image head_size (subst (λ l. Torn 16 1 l image) is.bytes_are torn) in
      let now = get_or image 16 0 in
      elim (cases_eq now 1) [
        | inl is_open ↦ inr (subst (IsFile header epoch payloads) (sym (left ∙ ap (λ b. head ++ b ∷ behind) is_open)) (sealed_list is.rest))
        | inr shut ↦ inl (record { long = omega (arith, long, torn.no_shorter); seal = shut })
      ]

  pub spare_or_new : (kept : List ℕ) (lower : ℕ) (bytes image : List ℕ) → 18 ≤ length bytes → IsUnsealed header epoch payloads bytes → Torn 16 1 bytes image → IsSpareOrNew kept lower header epoch payloads image
  spare_or_new kept lower bytes image long is torn = elim (torn_open bytes image long is torn) [
    | inl closed ↦ inl (closed_spare kept lower image closed)
    | inr file ↦ inr file
  ]

abbrev zeros : List ℕ
zeros = 0 ∷ 0 ∷ 0 ∷ 0 ∷ 0 ∷ 0 ∷ 0 ∷ 0 ∷ []

-- the header, then eight bytes
pub head_parts : (header number start part : List ℕ) → start ≡ header → part ≡ number → length header ≡ 8 → put_mid 8 8 (start ++ zeros) part ≡ header ++ number
head_parts header number start part is_header is_number eight =
    let size : length start ≡ 8 = ap (λ (l : List ℕ). length l) is_header ∙ eight in
    ap (λ l. l ++ (part ++ drop 8 (drop 8 (start ++ zeros)))) (take_at start zeros 8 size)
    ∙ ap (λ l. start ++ (part ++ drop 8 l)) (drop_at start zeros 8 size)
    ∙ ap (λ l. start ++ l) (append-nil part)
    ∙ ap (λ l. l ++ part) is_header
    ∙ ap (λ l. header ++ l) is_number

-- the seal was told open
pub is_open : (sealed : Bool) (byte : ℕ) → sealed ≡ true → sealed ≡ (byte == 1) → byte ≡ 1
is_open true byte told is = grind (arith, nat_tests)
is_open false byte told is = cc
