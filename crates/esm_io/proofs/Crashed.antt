-- What a disk in memory is made to leave is one of its images.
use Rattle.std.proofs.Common.{◌≡◌, ◌⊎◌, inl, inr, ℕ, suc, zero, ◌+◌, ◌<◌, ◌≤◌, ◌==◌, Bool, true, false, cond, List, [], ◌∷◌, ◌++◌, length, take, drop, max, arith, refl, sym, subst, ap, ◌∙◌, slice_index}
use Rattle.std.proofs.lemmas.List.{length-take, length-take-le, length-drop, length-append, append_assoc, drop-drop, drop_all}
use Rattle.std.proofs.Math.Nat.{eq-or-lt_of_le}
use Rattle.esm_io.specs.Images.{Torn}
use Rattle.esm_io.specs.Steps.{DiskState, IsImage, AreSteps, undone}
use Rattle.esm_io.specs.Crashes.{kept_of, has_arrived, arrived, crashed}
use Rattle.esm_io.specs.declared.disk_step.DiskStep.{DiskStep}
use Rattle.esm_io.specs.declared.disk_step.DiskStep.TheVariants.{Wrote, Synced}
use Rattle.esm_io.proofs.Elapsed.{torn_same, take_first, drop_first}

kept_is_image : (content : List ℕ) (steps : List DiskStep) → IsImage content steps (kept_of content steps)
kept_is_image content [] = refl
kept_is_image content (Synced ∷ steps) = refl
kept_is_image content (Wrote at count before ∷ steps) =
    let kept = kept_of (undone at count before content) steps in
    inr (kept, kept_is_image (undone at count before content) steps, torn_same at count kept)

same_either_way : (b : Bool) (n : ℕ) → cond b n n ≡ n
same_either_way true n = refl
same_either_way false n = refl

-- where all was kept, all is there
arrived_same : (choice place : ℕ) (bytes : List ℕ) → arrived choice place bytes bytes ≡ bytes
arrived_same choice place [] = refl
arrived_same choice place (byte ∷ bytes) =
    ap (λ b. b ∷ arrived choice (place + 1) bytes bytes) (same_either_way (has_arrived choice place) byte)
    ∙ ap (λ bs. byte ∷ bs) (arrived_same choice (place + 1) bytes)

length_arrived : (choice place : ℕ) (kept bytes : List ℕ) → length (arrived choice place kept bytes) ≡ length bytes
length_arrived choice place kept [] = refl
length_arrived choice place kept (byte ∷ bytes) = ap suc (length_arrived choice (place + 1) (drop 1 kept) bytes)

take_arrived : (n choice place : ℕ) (kept bytes : List ℕ) → take n (arrived choice place kept bytes) ≡ arrived choice place kept (take n bytes)
take_arrived zero choice place kept bytes = refl
take_arrived (suc n) choice place kept [] = refl
take_arrived (suc n) choice place kept (byte ∷ bytes) =
    ap (λ bs. cond (has_arrived choice place) byte (slice_index kept 0) ∷ bs) (take_arrived n choice (place + 1) (drop 1 kept) bytes)

drop_arrived : (n choice place : ℕ) (kept bytes : List ℕ) → drop n (arrived choice place kept bytes) ≡ arrived choice (place + n) (drop n kept) (drop n bytes)
drop_arrived zero choice place kept bytes = let e : place ≡ place + 0 = omega arith in ap (λ p. arrived choice p kept bytes) e
drop_arrived (suc n) choice place kept [] = refl
drop_arrived (suc n) choice place kept (byte ∷ bytes) =
    let e : place + 1 + n ≡ place + suc n = omega arith in
    let f : 1 + n ≡ suc n = omega arith in
    drop_arrived n choice (place + 1) (drop 1 kept) bytes
    ∙ ap (λ p. arrived choice p (drop n (drop 1 kept)) (drop n bytes)) e
    ∙ ap (λ k. arrived choice (place + suc n) k (drop n bytes)) (drop-drop n 1 kept ∙ ap (λ m. drop m kept) f)

-- a write over all of its range, or past the old end and up to the new one
abbrev Ends : ℕ → ℕ → List ℕ → List ℕ → Type 0
Ends at n before content = (length before ≡ n) ⊎ ((length before < n) × (at + n ≡ length content))

ends_by : (at n : ℕ) (before content : List ℕ) → (length before < n → at + n ≡ length content) → (length before ≡ n) ⊎ (length before < n) → Ends at n before content
ends_by at n before content short (inl e) = inl e
ends_by at n before content short (inr less) = inr (less, short less)

ends_of : (at n : ℕ) (before content : List ℕ) → length before ≤ n → (length before < n → at + n ≡ length content) → Ends at n before content
ends_of at n before content le short = ends_by at n before content short (eq-or-lt_of_le le)

undone_length : (at n : ℕ) (before content : List ℕ) → at + n ≤ length content → length (take at content ++ before) ≡ at + length before
undone_length at n before content le = simp (length-append, length-take) (omega arith)

undone_front : (at n : ℕ) (before content : List ℕ) → at + n ≤ length content → take at (undone at n before content) ≡ take at content
undone_front at n before content le =
    let short : at ≤ length content = omega arith in
    ap (take at) (append_assoc (take at content) before (drop (at + n) content))
    ∙ take_first at (take at content) (before ++ drop (at + n) content) (length-take-le at content short)

undone_back : (at n : ℕ) (before content : List ℕ) → at + n ≤ length content → Ends at n before content → drop (at + n) (undone at n before content) ≡ drop (at + n) content
undone_back at n before content le (inl e) =
    drop_first (at + n) (take at content ++ before) (drop (at + n) content) (undone_length at n before content le ∙ ap (λ m. at + m) e)
undone_back at n before content le (inr end) =
    let past : drop (at + n) content ≡ [] = drop_all (at + n) content (omega (arith, end.1)) in
    let bound : length (undone at n before content) ≤ at + n = simp (length-append, length-take, length-drop) (omega (arith, end.0, end.1)) in
    drop_all (at + n) (undone at n before content) bound ∙ sym past

undone_no_longer : (at n : ℕ) (before content : List ℕ) → at + n ≤ length content → Ends at n before content → length (undone at n before content) ≤ length content
undone_no_longer at n before content le (inl e) = simp (length-append, length-take, length-drop) (omega (arith, e))
undone_no_longer at n before content le (inr end) = simp (length-append, length-take, length-drop) (omega (arith, end.0, end.1))

undone_bound : (at n : ℕ) (before content : List ℕ) → at + n ≤ length content → Ends at n before content → length content ≤ max (length (undone at n before content)) (at + n)
undone_bound at n before content le (inl e) = simp (length-append, length-take, length-drop) (omega (arith, e))
undone_bound at n before content le (inr end) = simp (length-append, length-take, length-drop) (omega (arith, end.0, end.1))

arrived_torn : (choice at n : ℕ) (before content kept : List ℕ) → at + n ≤ length content → Ends at n before content → Torn at n (arrived choice 0 kept (undone at n before content)) (arrived choice 0 kept content)
arrived_torn choice at n before content kept le ends =
    let old = undone at n before content in
    record {
      before = take_arrived at choice 0 kept content ∙ ap (arrived choice 0 kept) (sym (undone_front at n before content le)) ∙ sym (take_arrived at choice 0 kept old);
      after = drop_arrived (at + n) choice 0 kept content ∙ ap (arrived choice (0 + (at + n)) (drop (at + n) kept)) (sym (undone_back at n before content le ends)) ∙ sym (drop_arrived (at + n) choice 0 kept old);
      no_shorter = omega (arith, length_arrived choice 0 kept content, length_arrived choice 0 kept old, undone_no_longer at n before content le ends);
      no_longer = omega (arith, length_arrived choice 0 kept content, length_arrived choice 0 kept old, undone_bound at n before content le ends);
    }

arrived_is_image : (choice : ℕ) (content : List ℕ) (steps : List DiskStep) → AreSteps content steps → IsImage content steps (arrived choice 0 (kept_of content steps) content)
arrived_is_image choice content [] are = arrived_same choice 0 content
arrived_is_image choice content (Synced ∷ steps) are = arrived_same choice 0 content
arrived_is_image choice content (Wrote at count before ∷ steps) are =
    let old = undone at count before content in
    inr (
      arrived choice 0 (kept_of old steps) old,
      arrived_is_image choice old steps are.3,
      arrived_torn choice at count before content (kept_of old steps) are.0 (ends_of at count before content are.1 are.2),
    )

chosen : (P : List ℕ → Type 0) (b c : Bool) (x y z : List ℕ) → P x → P y → P z → P (cond b x (cond c y z))
chosen P true c x y z p q r = p
chosen P false true x y z p q r = q
chosen P false false x y z p q r = r

reads_itself : (content : List ℕ) (steps : List DiskStep) → IsImage content steps content
reads_itself content [] = refl
reads_itself content (Synced ∷ steps) = refl
reads_itself content (Wrote at count before ∷ steps) = inl refl

pub crashed_is_image : (choice : ℕ) (content : List ℕ) (steps : List DiskStep) → AreSteps content steps → IsImage content steps (crashed choice content steps)
crashed_is_image choice content steps are =
    chosen (IsImage content steps) (choice == 0) (choice == 1) (kept_of content steps) content (arrived choice 0 (kept_of content steps) content)
    (kept_is_image content steps) (reads_itself content steps) (arrived_is_image choice content steps are)

pub crash_is_image : (choice : ℕ) (v w : DiskState) (left : List ℕ) → w ≡ v → AreSteps w.content w.steps → left ≡ crashed choice v.content v.steps → IsImage v.content v.steps left
crash_is_image choice v w left e are is =
    let P : DiskState → Type 0 = λ v. AreSteps v.content v.steps in
    let Q : List ℕ → Type 0 = IsImage v.content v.steps in
    subst Q (sym is) (crashed_is_image choice v.content v.steps (subst P e are))
