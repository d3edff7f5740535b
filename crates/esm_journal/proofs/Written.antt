-- What writes leave of a file, whole or torn.
use Rattle.std.proofs.Common.{◌≡◌, ◌≢◌, ◌⊎◌, inl, inr, ℕ, zero, suc, ◌+◌, ◌^◌, ◌<◌, ◌≤◌, List, [], ◌∷◌, ◌++◌, length, drop, get_or, arith, refl, sym, ap, subst, ◌∙◌, length-append, append_assoc, take-append-drop}
use Rattle.std.proofs.lemmas.List.{take_at, drop_at, append-nil, drop_more}
use Rattle.std.proofs.lemmas.List.Elements.{All-append}
use Rattle.std.proofs.lemmas.Bool.{cases_eq}
use Rattle.std.proofs.Math.Seq.{drop-append-add}
use Rattle.std.specs.Int.{w64, to_be_bytes}
use Rattle.esm_model.specs.declared.limits.TheConstants.{MAX_PAYLOAD}
use Rattle.esm_io.specs.Images.{overwritten, Torn}
use Rattle.esm_journal.specs.File.{entry, entries, front, end_of, AreShort, IsFile}

-- a write behind the first bytes leaves them
pub torn_behind : (at n : ℕ) (before rest new : List ℕ) → length before ≡ at → Torn at n (before ++ rest) new → new ≡ before ++ drop at new
torn_behind at n before rest new size torn = sym (take-append-drop at new) ∙ ap (λ l. l ++ drop at new) (torn.before ∙ take_at before rest at size)

-- a write over one byte leaves the others
pub torn_byte : (at byte : ℕ) (before rest new : List ℕ) → length before ≡ at → Torn at 1 (before ++ byte ∷ rest) new → new ≡ before ++ get_or new at 0 ∷ rest
torn_byte at byte before rest new size torn =
    let old = before ++ byte ∷ rest in
    let long : length old ≡ at + suc (length rest) = length-append before (byte ∷ rest) ∙ ap (λ n. n + suc (length rest)) size in
    let within : at < length new = omega (arith, long, torn.no_shorter) in
    let tail : drop (at + 1) old ≡ rest = ap (drop (at + 1)) (sym (append_assoc before (byte ∷ []) rest)) ∙ drop_at (before ++ byte ∷ []) rest (at + 1) (length-append before (byte ∷ []) ∙ ap (λ n. n + 1) size) in
    let back : drop at new ≡ get_or new at 0 ∷ rest = drop_more new at 0 within ∙ ap (λ (l : List ℕ). get_or new at 0 ∷ l) (torn.after ∙ tail) in
    torn_behind at 1 before (byte ∷ rest) new size torn ∙ ap (λ l. before ++ l) back

-- a whole write behind the first bytes
pub overwritten_behind : (at : ℕ) (before rest more : List ℕ) → length before ≡ at → overwritten (before ++ rest) at more ≡ before ++ more ++ drop (length more) rest
overwritten_behind at before rest more size =
    ap (λ l. l ++ more ++ drop (at + length more) (before ++ rest)) (take_at before rest at size)
    ∙ ap (λ l. before ++ more ++ l) (ap (λ n. drop (n + length more) (before ++ rest)) (sym size) ∙ drop-append-add before rest (length more))

pub length_front : (header : List ℕ) (epoch : ℕ) (payloads : List (List ℕ)) → length header ≡ 8 → length (front header epoch payloads) ≡ end_of payloads
length_front header epoch payloads eight = simp length-append (omega arith)

-- the gate stands within the file
pub end_within : (header : List ℕ) (epoch : ℕ) (payloads : List (List ℕ)) (bytes : List ℕ) → length header ≡ 8 → IsFile header epoch payloads bytes → end_of payloads < length bytes
end_within header epoch payloads bytes eight file =
    omega (arith, ap length file.bytes_are, length-append (front header epoch payloads) (file.gate ∷ file.rest), length_front header epoch payloads eight)

pub entries_push : (payloads : List (List ℕ)) (payload : List ℕ) → entries (payloads ++ payload ∷ []) ≡ entries payloads ++ 1 ∷ [] ++ entry payload
entries_push [] payload = append-nil (1 ∷ [] ++ entry payload)
entries_push (p ∷ payloads) payload =
    ap (λ l. 1 ∷ [] ++ entry p ++ l) (entries_push payloads payload)
    ∙ simp append_assoc

pub end_push : (payloads : List (List ℕ)) (payload : List ℕ) → end_of (payloads ++ payload ∷ []) ≡ end_of payloads + 5 + length payload
end_push payloads payload = ap (λ l. 17 + length l) (entries_push payloads payload) ∙ simp length-append (omega arith)

-- one more entry behind an open gate
pub front_push : (header : List ℕ) (epoch : ℕ) (payloads : List (List ℕ)) (payload more : List ℕ) → front header epoch (payloads ++ payload ∷ []) ++ more ≡ front header epoch payloads ++ 1 ∷ (entry payload ++ more)
front_push header epoch payloads payload more =
    ap (λ l. header ++ to_be_bytes w64 epoch ++ 1 ∷ [] ++ l ++ more) (entries_push payloads payload)
    ∙ simp append_assoc

pub short_push : (payloads : List (List ℕ)) (payload : List ℕ) → AreShort payloads → length payload ≤ MAX_PAYLOAD → AreShort (payloads ++ payload ∷ [])
short_push payloads payload short le = All-append (λ p. length p ≤ MAX_PAYLOAD) payloads (payload ∷ []) short (one payload le)
  where
    one : (payload : List ℕ) → length payload ≤ MAX_PAYLOAD → AreShort (payload ∷ [])
    one payload le zero d lt = le
    one payload le (suc k) d lt = absurd (omega arith)

-- the file with an entry behind the gate, which is not open
abbrev pub staged : (header : List ℕ) (epoch : ℕ) (payloads : List (List ℕ)) (payload : List ℕ) (gate : ℕ) (rest : List ℕ) → List ℕ
staged header epoch payloads payload gate rest = front header epoch payloads ++ gate ∷ (entry payload ++ 0 ∷ rest)

module _ (header : List ℕ) (epoch : ℕ) (payloads : List (List ℕ)) (eight : length header ≡ 8) where
  -- while something is written behind the gate, the file holds what it held
  pub torn_entry : (n : ℕ) (bytes image : List ℕ) → IsFile header epoch payloads bytes → Torn (end_of payloads + 1) n bytes image → IsFile header epoch payloads image
  torn_entry n bytes image file torn =
      let before = front header epoch payloads ++ file.gate ∷ [] in
      let size : length before ≡ end_of payloads + 1 = length-append (front header epoch payloads) (file.gate ∷ []) ∙ ap (λ k. k + 1) (length_front header epoch payloads eight) in
      let split : bytes ≡ before ++ file.rest = file.bytes_are ∙ sym (append_assoc (front header epoch payloads) (file.gate ∷ []) file.rest) in
      let behind = drop (end_of payloads + 1) image in
      let is : image ≡ before ++ behind = torn_behind (end_of payloads + 1) n before file.rest image size (subst (λ l. Torn (end_of payloads + 1) n l image) split torn) in
      record {
        gate = file.gate;
        rest = behind;
        closed = file.closed;
        bytes_are = is ∙ append_assoc (front header epoch payloads) (file.gate ∷ []) behind;
        epoch_fits = file.epoch_fits;
        short = file.short;
      }

  -- what stands behind the gate once it is written
  pub left_behind : (payload : List ℕ) (bytes : List ℕ) → IsFile header epoch payloads bytes → List ℕ
  left_behind payload bytes file = drop (length (entry payload ++ 0 ∷ [])) file.rest

  pub written_entry : (payload : List ℕ) (bytes : List ℕ) (file : IsFile header epoch payloads bytes) → overwritten bytes (end_of payloads + 1) (entry payload ++ 0 ∷ []) ≡ staged header epoch payloads payload file.gate (drop (length (entry payload ++ 0 ∷ [])) file.rest)
  written_entry payload bytes file =
      let before = front header epoch payloads ++ file.gate ∷ [] in
      let more = entry payload ++ 0 ∷ [] in
      let size : length before ≡ end_of payloads + 1 = length-append (front header epoch payloads) (file.gate ∷ []) ∙ ap (λ k. k + 1) (length_front header epoch payloads eight) in
      ap (λ l. overwritten l (end_of payloads + 1) more) (file.bytes_are ∙ sym (append_assoc (front header epoch payloads) (file.gate ∷ []) file.rest))
      ∙ overwritten_behind (end_of payloads + 1) before file.rest more size
      ∙ simp append_assoc

  -- the gate is not open yet
  pub staged_file : (payload : List ℕ) (gate : ℕ) (rest : List ℕ) → gate ≢ 1 → epoch < 2 ^ 64 → AreShort payloads → IsFile header epoch payloads (staged header epoch payloads payload gate rest)
  staged_file payload gate rest shut fits short = record { gate = gate; rest = entry payload ++ 0 ∷ rest; closed = shut; bytes_are = refl; epoch_fits = fits; short = short }

  -- the gate is open
  pub opened_gate : (payload rest : List ℕ) → epoch < 2 ^ 64 → AreShort payloads → length payload ≤ MAX_PAYLOAD → IsFile header epoch (payloads ++ payload ∷ []) (staged header epoch payloads payload 1 rest)
  opened_gate payload rest fits short le = record {
    gate = 0;
    rest = rest;
    closed = λ e. absurd (omega (arith, e));
    bytes_are = sym (front_push header epoch payloads payload (0 ∷ rest));
    epoch_fits = fits;
    short = short_push payloads payload short le;
  }

  -- while the gate is written, the file holds the payload whole or not at all
  pub torn_gate : (payload : List ℕ) (gate : ℕ) (rest image : List ℕ) → epoch < 2 ^ 64 → AreShort payloads → length payload ≤ MAX_PAYLOAD
      → Torn (end_of payloads) 1 (staged header epoch payloads payload gate rest) image
      → IsFile header epoch payloads image ⊎ IsFile header epoch (payloads ++ payload ∷ []) image
  torn_gate payload gate rest image fits short le torn =
      let size = length_front header epoch payloads eight in
      let is = torn_byte (end_of payloads) gate (front header epoch payloads) (entry payload ++ 0 ∷ rest) image size torn in
      let now = get_or image (end_of payloads) 0 in
      elim (cases_eq now 1) [
        | inl is_open ↦ inr (subst (IsFile header epoch (payloads ++ payload ∷ [])) (sym (is ∙ ap (λ g. staged header epoch payloads payload g rest) is_open)) (opened_gate payload rest fits short le))
        | inr shut ↦ inl (subst (IsFile header epoch payloads) (sym is) (staged_file payload now rest shut fits short))
      ]

  pub written_gate : (payload : List ℕ) (gate : ℕ) (rest : List ℕ) → overwritten (staged header epoch payloads payload gate rest) (end_of payloads) (1 ∷ []) ≡ staged header epoch payloads payload 1 rest
  written_gate payload gate rest =
      overwritten_behind (end_of payloads) (front header epoch payloads) (gate ∷ (entry payload ++ 0 ∷ rest)) (1 ∷ []) (length_front header epoch payloads eight)
      ∙ append_assoc (front header epoch payloads) (1 ∷ []) (entry payload ++ 0 ∷ rest)
