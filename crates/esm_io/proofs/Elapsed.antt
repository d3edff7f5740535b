-- Time on a disk in memory, over a step.
use Rattle.std.proofs.Common.{◌≡◌, ◌⊎◌, inl, inr, ℕ, ◌+◌, ◌≤◌, List, ◌∷◌, ◌++◌, length, take, drop, max, arith, refl, sym, subst, ap, ◌∙◌}
use Rattle.std.proofs.lemmas.List.{take-append-drop, length-take, length-take-le, length-drop, length-append, append_assoc, drop-drop}
use Rattle.std.proofs.Math.Seq.{take-append_seam, drop-append_seam}
use Rattle.esm_io.specs.Images.{Torn, Elapses, Follows, Within, overwritten}
use Rattle.esm_io.specs.Steps.{undone, IsImage, IsImageSince, reads_as_image, counts_now, only_now}
use Rattle.esm_io.specs.declared.disk_step.DiskStep.{DiskStep}
use Rattle.esm_io.specs.declared.disk_step.DiskStep.TheVariants.{Wrote, Synced}

since_earlier : (content : List ℕ) (steps : List DiskStep) (t : ℕ) (image : List ℕ) → IsImageSince content steps (length steps) image → IsImageSince content steps t image
since_earlier content steps t image since = counts_now content steps t image (only_now content steps image since)

-- nothing happened
pub stayed : (content : List ℕ) (steps : List DiskStep) → Elapses (length steps) (length steps) (IsImageSince content steps) (IsImageSince content steps)
stayed content steps = record {
  later = omega arith;
  no_other = λ t image le since. inl since;
  earlier = λ t image le since. since;
  within = λ t image le since. since_earlier content steps t image since;
}

pub stayed_within : (content : List ℕ) (steps : List DiskStep) → Within (IsImage content steps) (IsImageSince content steps (length steps))
stayed_within content steps image since = only_now content steps image since

synced_no_other : (content : List ℕ) (steps : List DiskStep) (t : ℕ) (image : List ℕ) → IsImageSince content (Synced ∷ steps) t image → IsImageSince content steps t image ⊎ IsImageSince content (Synced ∷ steps) (length steps) image
synced_no_other content steps t image (inl now) = inr (inl now)
synced_no_other content steps t image (inr earlier) = inl earlier.1

synced_within : (content : List ℕ) (steps : List DiskStep) (t : ℕ) (image : List ℕ) → t ≤ length steps → IsImageSince content (Synced ∷ steps) (length steps) image → IsImageSince content (Synced ∷ steps) t image
synced_within content steps t image le (inl now) = inl now
synced_within content steps t image le (inr earlier) = inr (le, since_earlier content steps t image earlier.1)

-- a sync succeeded
pub synced : (content : List ℕ) (steps : List DiskStep) → Elapses (length steps) (length (Synced ∷ steps)) (IsImageSince content steps) (IsImageSince content (Synced ∷ steps))
synced content steps = record {
  later = omega arith;
  no_other = λ t image le since. synced_no_other content steps t image since;
  earlier = λ t image le since. inr (le, since);
  within = synced_within content steps;
}

pub synced_images : (content : List ℕ) (steps : List DiskStep) → Within (IsImage content steps) (IsImageSince content (Synced ∷ steps) (length steps))
synced_images content steps image (inl now) = let P : List ℕ → Type 0 = IsImage content steps in subst P (sym now) (reads_as_image content steps)
synced_images content steps image (inr earlier) = only_now content steps image earlier.1

wrote_no_other : (at count : ℕ) (before content : List ℕ) (steps : List DiskStep) (t : ℕ) (image : List ℕ) → IsImageSince content (Wrote at count before ∷ steps) t image → IsImageSince (undone at count before content) steps t image ⊎ IsImageSince content (Wrote at count before ∷ steps) (length steps) image
wrote_no_other at count before content steps t image (inl now) = inr (inl now)
wrote_no_other at count before content steps t image (inr earlier) = inl earlier.1

wrote_within : (at count : ℕ) (before content : List ℕ) (steps : List DiskStep) (t : ℕ) (image : List ℕ) → t ≤ length steps → IsImageSince content (Wrote at count before ∷ steps) (length steps) image → IsImageSince content (Wrote at count before ∷ steps) t image
wrote_within at count before content steps t image le (inl now) = inl now
wrote_within at count before content steps t image le (inr earlier) = inr (le, since_earlier (undone at count before content) steps t image earlier.1)

wrote_from_undone : (at count : ℕ) (before content : List ℕ) (steps : List DiskStep) → Elapses (length steps) (length (Wrote at count before ∷ steps)) (IsImageSince (undone at count before content) steps) (IsImageSince content (Wrote at count before ∷ steps))
wrote_from_undone at count before content steps = record {
  later = omega arith;
  no_other = λ t image le since. wrote_no_other at count before content steps t image since;
  earlier = λ t image le since. inr (le, since);
  within = wrote_within at count before content steps;
}

pub take_first : (n : ℕ) (xs ys : List ℕ) → length xs ≡ n → take n (xs ++ ys) ≡ xs
take_first n xs ys e = let P : ℕ → Type 0 = λ m. take m (xs ++ ys) ≡ xs in subst P e (take-append_seam xs ys)

pub drop_first : (n : ℕ) (xs ys : List ℕ) → length xs ≡ n → drop n (xs ++ ys) ≡ ys
drop_first n xs ys e = let P : ℕ → Type 0 = λ m. drop m (xs ++ ys) ≡ ys in subst P e (drop-append_seam xs ys)

front_stays : (at : ℕ) (more content : List ℕ) → at ≤ length content → take at (overwritten content at more) ≡ take at content
front_stays at more content le =
    ap (take at) (append_assoc (take at content) more (drop (at + length more) content))
    ∙ take_first at (take at content) (more ++ drop (at + length more) content) (length-take-le at content le)

back_stays : (at : ℕ) (more content : List ℕ) → at ≤ length content → drop (at + length more) (overwritten content at more) ≡ drop (at + length more) content
back_stays at more content le =
    drop_first (at + length more) (take at content ++ more) (drop (at + length more) content) (length-append (take at content) more ∙ ap (λ n. n + length more) (length-take-le at content le))

parts_whole : (at n : ℕ) (content : List ℕ) → take at content ++ take n (drop at content) ++ drop (at + n) content ≡ content
parts_whole at n content =
    append_assoc (take at content) (take n (drop at content)) (drop (at + n) content)
    ∙ ap (λ rest. take at content ++ rest) (ap (λ rest. take n (drop at content) ++ rest) (sym (drop-drop n at content)) ∙ take-append-drop n (drop at content))
    ∙ take-append-drop at content

-- a write that is undone leaves what was there
pub undone_overwritten : (at : ℕ) (more content : List ℕ) → at ≤ length content → undone at (length more) (take (length more) (drop at content)) (overwritten content at more) ≡ content
undone_overwritten at more content le =
    ap (λ front. front ++ take (length more) (drop at content) ++ drop (at + length more) (overwritten content at more)) (front_stays at more content le)
    ∙ ap (λ back. take at content ++ take (length more) (drop at content) ++ back) (back_stays at more content le)
    ∙ parts_whole at (length more) content

-- bytes were written
pub wrote : (at : ℕ) (more content : List ℕ) (steps : List DiskStep) → at ≤ length content → let step = Wrote at (length more) (take (length more) (drop at content)) in Elapses (length steps) (length (step ∷ steps)) (IsImageSince content steps) (IsImageSince (overwritten content at more) (step ∷ steps))
wrote at more content steps le =
    let step = Wrote at (length more) (take (length more) (drop at content)) in
    let P : List ℕ → Type 0 = λ old. Elapses (length steps) (length (step ∷ steps)) (IsImageSince old steps) (IsImageSince (overwritten content at more) (step ∷ steps)) in
    subst P (undone_overwritten at more content le) (wrote_from_undone at (length more) (take (length more) (drop at content)) (overwritten content at more) steps)

pub length_overwritten : (at : ℕ) (more content : List ℕ) → at ≤ length content → length (overwritten content at more) ≡ max (length content) (at + length more)
length_overwritten at more content le = simp (length-append, length-take, length-drop) (omega arith)

pub torn_same : (at count : ℕ) (bytes : List ℕ) → Torn at count bytes bytes
torn_same at count bytes = record { before = refl; after = refl; no_shorter = omega arith; no_longer = omega arith }

pub torn_overwritten : (at : ℕ) (more content : List ℕ) → at ≤ length content → Torn at (length more) content (overwritten content at more)
torn_overwritten at more content le = record {
  before = front_stays at more content le;
  after = back_stays at more content le;
  no_shorter = omega (arith, length_overwritten at more content le);
  no_longer = omega (arith, length_overwritten at more content le);
}

follows_undone : (at : ℕ) (more content now before : List ℕ) (steps : List DiskStep) → undone at (length more) before now ≡ content → Torn at (length more) content now → Follows (Torn at (length more)) (IsImage content steps) (IsImageSince now (Wrote at (length more) before ∷ steps) (length steps))
follows_undone at more content now before steps e torn image (inl (inl is_now)) = (content, reads_as_image content steps, (let P : List ℕ → Type 0 = Torn at (length more) content in subst P (sym is_now) torn))
follows_undone at more content now before steps e torn image (inl (inr was)) = (was.0, (let P : List ℕ → Type 0 = λ old. IsImage old steps was.0 in subst P e was.1), was.2)
follows_undone at more content now before steps e torn image (inr earlier) =
    (image, only_now content steps image (let P : List ℕ → Type 0 = λ old. IsImageSince old steps (length steps) image in subst P e earlier.1), torn_same at (length more) image)

pub wrote_images : (at : ℕ) (more content : List ℕ) (steps : List DiskStep) → at ≤ length content → let step = Wrote at (length more) (take (length more) (drop at content)) in Follows (Torn at (length more)) (IsImage content steps) (IsImageSince (overwritten content at more) (step ∷ steps) (length steps))
wrote_images at more content steps le = follows_undone at more content (overwritten content at more) (take (length more) (drop at content)) steps (undone_overwritten at more content le) (torn_overwritten at more content le)
