-- The marks that an end of a call leaves. Only this crate's proofs cite this.
use Rattle.std.proofs.Common.{◌≡◌, ℕ, suc, ◌<◌, Bool, true, false, List, [], ◌∷◌, length, drop, take, refl, sym, ap, ◌∙◌, ◌⊎◌, inl, inr, arith, Option, Some, None}
use Rattle.std.specs.Prelude.{◌==◌, option_map, if◌then◌else◌}
use Rattle.std.specs.Option.{option_or}
use Rattle.std.proofs.lemmas.Bool.{cases_Bool, and_parts, eqb-true}
use Rattle.std.proofs.lemmas.Option.{some_pair_parts}
use Rattle.esm_model.specs.declared.lane.LaneId.{LaneId}
use Rattle.esm_model.specs.declared.entry.Reply.{Reply}
use Rattle.esm_model.specs.declared.entry.Entry.{Entry}
use Rattle.esm_model.specs.declared.entry.Entry.TheVariants.{Ended}
use Rattle.esm_model.specs.declared.verdict.Rest.{Rest}
use Rattle.esm_model.specs.declared.verdict.Rest.TheVariants as rest
use Rattle.esm_model.specs.Setting.{Setting}
use Rattle.esm_model.specs.Entries.{holds, last_call, batch_of}
use Rattle.esm_model.specs.Tries.{side, mark, marked_by, same_mark, verdict_after}
use Rattle.esm_model.proofs.Lists.{In, In-drop, not_in}

-- the mark of a place after an end that gives it this side, or none
abbrev new_mark : ℕ → Option ℕ → Option (ℕ × ℕ) → Option (ℕ × ℕ)
new_mark n side before = option_or (option_map (λ (k : ℕ). (n, k)) side) before

-- marks of earlier ends
abbrev IsEarlier : ℕ → Option (ℕ × ℕ) → Type 0
IsEarlier n m = (p : ℕ × ℕ) → m ≡ Some p → p.0 < n

earlier_at : (n : ℕ) (o : Option ℕ) (m : Option (ℕ × ℕ)) → IsEarlier n m → IsEarlier (suc n) (new_mark n o m)
earlier_at n None m before p is = (let l : p.0 < n = before p is in omega (arith, l))
earlier_at n (Some k) m before p is = (let e : n ≡ p.0 = cc in omega (arith, e))

-- each mark is of an end that stands in the history
pub mark_earlier : (s : Setting) (h : List Entry) (n i : ℕ) (p : ℕ × ℕ) → mark s h n i ≡ Some p → p.0 < length h
mark_earlier s [] n i p is = cc
mark_earlier s (e ∷ h) n i p is = earlier_at (length h) (marked_by s h n i e) (mark s h n i) (mark_earlier s h n i) p is

-- marks that are equal after an end were so before, or it gave both the same side
merged : (n : ℕ) (a b : Option ℕ) (x y : Option (ℕ × ℕ)) → IsEarlier n x → IsEarlier n y → new_mark n a x ≡ new_mark n b y → (x ≡ y) ⊎ ((k : ℕ) × (a ≡ Some k) × (b ≡ Some k))
merged n None None x y before_x before_y e = inl e
merged n (Some k) None x y before_x before_y e = (let l : n < n = before_y (n, k) (sym e) in absurd (omega (arith, l)))
merged n None (Some k) x y before_x before_y e = (let l : n < n = before_x (n, k) e in absurd (omega (arith, l)))
merged n (Some k) (Some j) x y before_x before_y e = (let same : k ≡ j = (some_pair_parts n n k j e).1 in inr (k, refl, ap (λ (z : ℕ). Some z) (sym same)))

pub marks_merged : (s : Setting) (h : List Entry) (e : Entry) (n i j : ℕ) → mark s (e ∷ h) n i ≡ mark s (e ∷ h) n j
    → (mark s h n i ≡ mark s h n j) ⊎ ((k : ℕ) × (marked_by s h n i e ≡ Some k) × (marked_by s h n j e ≡ Some k))
marks_merged s h e n i j same = merged (length h) (marked_by s h n i e) (marked_by s h n j e) (mark s h n i) (mark s h n j) (mark_earlier s h n i) (mark_earlier s h n j) same

-- a mark of this end is one that it gave
side_given : (n : ℕ) (o : Option ℕ) (m : Option (ℕ × ℕ)) (k : ℕ) → IsEarlier n m → new_mark n o m ≡ Some (n, k) → o ≡ Some k
side_given n None m k before is = (let l : n < n = before (n, k) is in absurd (omega (arith, l)))
side_given n (Some j) m k before is = ap (λ (z : ℕ). Some z) (some_pair_parts n n j k is).1

pub new_side : (s : Setting) (h : List Entry) (e : Entry) (n i k : ℕ) → mark s (e ∷ h) n i ≡ Some (length h, k) → marked_by s h n i e ≡ Some k
new_side s h e n i k is = side_given (length h) (marked_by s h n i e) (mark s h n i) k (mark_earlier s h n i) is

-- sides

only_held : (b : Bool) (o : Option ℕ) (k : ℕ) → (if b then o else None) ≡ Some k → b ≡ true
only_held true o k is = refl
only_held false o k is = cc

side_In : (r : Rest) (places : List ℕ) (i k : ℕ) → side r places i ≡ Some k → In places i
side_In rest.Counted places i k is = only_held (holds places i) (Some 0) k is
side_In (rest.Split m) places i k is = only_held (holds places i) (if holds (take m places) i then Some 0 else Some 1) k is
side_In rest.Nothing places i k is = cc
side_In rest.Again places i k is = cc
side_In rest.Exhausted places i k is = cc

side_out : (r : Rest) (places : List ℕ) (i : ℕ) → holds places i ≡ false → side r places i ≡ None
side_out rest.Counted places i out = rw out refl
side_out (rest.Split m) places i out = rw out refl
side_out rest.Nothing places i out = refl
side_out rest.Again places i out = refl
side_out rest.Exhausted places i out = refl

-- an end marks only places of its batch
pub marked_In : (s : Setting) (h : List Entry) (at : LaneId) (reply : Reply) (m n i k : ℕ) → marked_by s h n i (Ended at reply m) ≡ Some k → (at.shard ≡ n) × In (batch_of (last_call h at)) i
marked_In s h at reply m n i k is =
    let v = verdict_after s h at reply in
    let here : (at.shard == n) ≡ true = only_held (at.shard == n) (side v.rest (drop v.succeeded (batch_of (last_call h at))) i) k is in
    let sided : side v.rest (drop v.succeeded (batch_of (last_call h at))) i ≡ Some k = rw here at is in
    (eqb-true at.shard n here, In-drop v.succeeded (batch_of (last_call h at)) i (side_In v.rest (drop v.succeeded (batch_of (last_call h at))) i k sided))

pub marked_out : (s : Setting) (h : List Entry) (at : LaneId) (reply : Reply) (m n i : ℕ) → (at.shard ≡ n → In (batch_of (last_call h at)) i → ⊥) → marked_by s h n i (Ended at reply m) ≡ None
marked_out s h at reply m n i out =
    elim (cases_Bool (at.shard == n)) [
      | inl here ↦ (
          let v = verdict_after s h at reply in
          rw here (side_out v.rest (drop v.succeeded (batch_of (last_call h at))) i
          (not_in (drop v.succeeded (batch_of (last_call h at))) i (λ member. out (eqb-true at.shard n here) (In-drop v.succeeded (batch_of (last_call h at)) i member)))))
      | inr there ↦ rw there refl
    ]

-- marks that the test finds the same are equal

pair_from : (x y : ℕ × ℕ) → x.0 ≡ y.0 → x.1 ≡ y.1 → x ≡ y
pair_from x y first second =
    let left : ℕ → ℕ × ℕ = λ a. (a, x.1) in
    let right : ℕ → ℕ × ℕ = λ b. (y.0, b) in
    ap left first ∙ ap right second

pub same_mark-true : (x y : Option (ℕ × ℕ)) → same_mark x y ≡ true → x ≡ y
same_mark-true None None is = refl
same_mark-true None (Some b) is = cc
same_mark-true (Some a) None is = cc
same_mark-true (Some a) (Some b) is =
    let parts = and_parts (a.0 == b.0) (a.1 == b.1) is in
    ap (λ (p : ℕ × ℕ). Some p) (pair_from a b (eqb-true a.0 b.0 parts.0) (eqb-true a.1 b.1 parts.1))
