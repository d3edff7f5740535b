-- What adding an entry leaves of a file.
use Rattle.std.proofs.Common.{◌≡◌, ◌⊎◌, inl, inr, ℕ, ◌+◌, ◌≤◌, ◌<◌, ◌-◌, List, [], ◌∷◌, ◌++◌, length, take, drop, true, false, Result, Ok, Err, OnOk, is_err, arith, sym, ap, subst, ◌∙◌, length-append, append_assoc}
use Rattle.std.proofs.lemmas.List.{take_at}
use Rattle.esm_model.specs.declared.limits.TheConstants.{MAX_PAYLOAD}
use Rattle.esm_io.specs.Images.{overwritten, Torn}
use Rattle.esm_journal.specs.File.{entry, front, end_of, IsFile}
use Rattle.esm_journal.specs.Bytes.{with_payload}
use Rattle.esm_journal.specs.Log.{IsEither}
use Rattle.esm_journal.proofs.Written.{length_front, overwritten_behind, torn_entry, torn_gate, written_entry, written_gate, opened_gate}

module _ (header : List ℕ) (epoch : ℕ) (payloads : List (List ℕ)) (eight : length header ≡ 8) (bytes : List ℕ) (file : IsFile header epoch payloads bytes) (end : ℕ) (ends : end ≡ end_of payloads) (payload frame : List ℕ) (framed : frame ≡ entry payload ++ 0 ∷ []) (short : length payload ≤ MAX_PAYLOAD) where
  staged_is : overwritten bytes (end + 1) frame ≡ front header epoch payloads ++ file.gate ∷ (entry payload ++ 0 ∷ drop (length (entry payload ++ 0 ∷ [])) file.rest)
  staged_is =
      ap (λ n. overwritten bytes (n + 1) frame) ends ∙ ap (overwritten bytes (end_of payloads + 1)) framed
      ∙ written_entry header epoch payloads eight payload bytes file

  -- a crash leaves the payload whole or not at all
  pub either_of_torn : (image : List ℕ) → Torn (end + 1) (length frame) bytes image ⊎ Torn end 1 (overwritten bytes (end + 1) frame) image → IsEither header epoch payloads (payloads ++ payload ∷ []) image
  either_of_torn image (inl behind) = inl (torn_entry header epoch payloads eight (length frame) bytes image file (let P : ℕ → Type 0 = λ n. Torn (n + 1) (length frame) bytes image in subst P ends behind))
  either_of_torn image (inr gate) =
      let P : ℕ → Type 0 = λ n. Torn n 1 (overwritten bytes (end + 1) frame) image in
      let Q : List ℕ → Type 0 = λ l. Torn (end_of payloads) 1 l image in
      torn_gate header epoch payloads eight payload file.gate (drop (length (entry payload ++ 0 ∷ [])) file.rest) image file.epoch_fits file.short short (subst Q staged_is (subst P ends gate))

  -- the gate is open
  added_is : (new : List ℕ) → new ≡ overwritten (overwritten bytes (end + 1) frame) end (1 ∷ []) → new ≡ front header epoch payloads ++ 1 ∷ (entry payload ++ 0 ∷ drop (length (entry payload ++ 0 ∷ [])) file.rest)
  added_is new is =
      let rest = drop (length (entry payload ++ 0 ∷ [])) file.rest in
      is ∙ ap (λ l. overwritten l end (1 ∷ [])) staged_is
      ∙ ap (λ n. overwritten (front header epoch payloads ++ file.gate ∷ (entry payload ++ 0 ∷ rest)) n (1 ∷ [])) ends
      ∙ written_gate header epoch payloads eight payload file.gate rest

  -- these are the bytes
  pub bytes_of_added : (new : List ℕ) → new ≡ overwritten (overwritten bytes (end + 1) frame) end (1 ∷ []) → new ≡ with_payload payloads payload bytes
  bytes_of_added new is =
      let rest = drop (length (entry payload ++ 0 ∷ [])) file.rest in
      added_is new is
      ∙ sym (ap (with_payload payloads payload) file.bytes_are
      ∙ overwritten_behind (end_of payloads) (front header epoch payloads) (file.gate ∷ file.rest) (1 ∷ (entry payload ++ 0 ∷ [])) (length_front header epoch payloads eight)
      ∙ append_assoc (front header epoch payloads) (1 ∷ (entry payload ++ 0 ∷ [])) rest
      ∙ ap (λ l. front header epoch payloads ++ 1 ∷ l) (append_assoc (entry payload) (0 ∷ []) rest))

  -- and once the gate is open the file holds the payload
  pub file_of_added : (new : List ℕ) → new ≡ overwritten (overwritten bytes (end + 1) frame) end (1 ∷ []) → IsFile header epoch (payloads ++ payload ∷ []) new
  file_of_added new is =
      let rest = drop (length (entry payload ++ 0 ∷ [])) file.rest in
      let whole = added_is new is in
      subst (IsFile header epoch (payloads ++ payload ∷ [])) (sym whole) (opened_gate header epoch payloads eight payload rest file.epoch_fits file.short short)

-- the payload of an entry
pub payload_in : (payload frame : List ℕ) (size : ℕ) → size ≡ length frame → frame ≡ entry payload ++ 0 ∷ [] → take (size - 5) (drop 4 frame) ≡ payload
payload_in payload frame size counts framed =
    let long : size ≡ length payload + 5 = counts ∙ ap (λ (l : List ℕ). length l) framed ∙ simp length-append (omega arith) in
    ap (λ l. take (size - 5) (drop 4 l)) framed ∙ take_at payload (0 ∷ []) (size - 5) (omega (arith, long))

-- a test told that a call went well
pub on_ok_told : {T E P : Type 0} (r : Result T E) → is_err r ≡ false → OnOk r P → P
on_ok_told (Ok x) told p = p
on_ok_told (Err e) told p = absurd (clash told)
  where
    clash : true ≡ false → ⊥
    clash e = cc

-- what follows after Ok
pub on_ok_more : {T E P Q : Type 0} (r : Result T E) → OnOk r P → (P → Q) → OnOk r Q
on_ok_more (Ok x) p more = more p
on_ok_more (Err e) p more = p

-- there is a place for each payload that has a spare buffer
pub room_for_more : (old mid new old_large large newest spares left : ℕ) → old + spares ≤ old_large → old_large ≤ large → mid ≡ old → mid + 1 ≤ large → new ≡ mid + 1 → newest ≡ large
    → left ≤ spares → (0 < spares → left < spares) → new + left ≤ newest
room_for_more old mid new old_large large newest spares left places grows same one more is fewer used = grind arith
