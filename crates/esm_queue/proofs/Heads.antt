-- The moments of the heads.
use Rattle.std.proofs.Common.{◌≡◌, ℕ, ◌<◌, ◌==◌, List, [], ◌∷◌, ◌++◌, length, length-append, set, sym, ap, ap₂, ◌∙◌, inl, inr, arith}
use Rattle.std.specs.Prelude.{slice_index}
use Rattle.std.proofs.lemmas.Bool.{cases_lt, cases_eq, cases_Bool, cond-true, cond-false}
use Rattle.std.proofs.lemmas.List.{length-set, get_or-set_same, get_or-set_other, get_or_append_left, get_or_push}
use Rattle.esm_queue.specs.declared.links.Link.{Link}
use Rattle.esm_queue.specs.declared.links.TheConstants.{NONE}
use Rattle.esm_queue.specs.declared.moment_tree.TheConstants.{NEVER}
use Rattle.esm_queue.specs.Links.{prev_at, head_moment, IsHeaded}
use Rattle.esm_queue.proofs.Linking.{Appended, Removed}

head_never : (v : ℕ) → head_moment v NEVER ≡ NEVER
head_never v = elim (cases_Bool (v == NONE)) [ inl is ↦ cond-true (v == NONE) NEVER NEVER is | inr fails ↦ cond-false (v == NONE) NEVER NEVER fails ]

pub headed_append : (n f t e : ℕ) (links new : List Link) (moments heads after : List ℕ) → length moments ≡ n → Appended n f t e links new → after ≡ heads ++ head_moment t 0 ∷ [] → IsHeaded moments links heads → IsHeaded (moments ++ 0 ∷ []) new after
headed_append n f t e links new moments heads after size m is h =
    let s1 = h.sized in
    let s2 = length-append heads (head_moment t 0 ∷ []) in
    let s3 = length-append moments (0 ∷ []) in
    let s4 = ap length is in
    record {
      sized = omega arith;
      are = λ i within. elim (cases_lt i n) [
        | inl low ↦ ap (λ (hs : List ℕ). slice_index hs i) is ∙ (get_or_append_left heads (head_moment t 0 ∷ []) 0 i (omega arith)
            ∙ (h.are i (omega arith) ∙ ap₂ head_moment (sym (m.prev_old i low)) (sym (get_or_append_left moments (0 ∷ []) 0 i (omega arith)))))
        | inr high ↦ (let at : i ≡ n = omega arith in
            ap (λ (hs : List ℕ). slice_index hs i) is ∙ (get_or_push heads (head_moment t 0) 0 i (omega arith)
            ∙ ap₂ head_moment (sym (ap (λ k. prev_at new k) at ∙ m.prev_new)) (sym (get_or_push moments 0 0 i (omega arith)))))
      ];
    }

pub headed_show : (p m : ℕ) (links : List Link) (moments heads after : List ℕ) → p < length heads → after ≡ set heads p (head_moment (prev_at links p) m) → IsHeaded moments links heads → IsHeaded (set moments p m) links after
headed_show p m links moments heads after low is h =
    let s1 = h.sized in
    let s2 = length-set heads p (head_moment (prev_at links p) m) in
    let s3 = length-set moments p m in
    let s4 = ap length is in
    record {
      sized = omega arith;
      are = λ i within. ap (λ (hs : List ℕ). slice_index hs i) is ∙ elim (cases_eq i p) [
        | inl here ↦ ap (λ k. slice_index (set heads p (head_moment (prev_at links p) m)) k) here ∙ (get_or-set_same heads p (head_moment (prev_at links p) m) 0 low
            ∙ ap₂ head_moment (ap (λ k. prev_at links k) (sym here)) (sym (ap (λ k. slice_index (set moments p m) k) here ∙ get_or-set_same moments p m 0 (omega arith))))
        | inr other ↦ get_or-set_other heads p i (head_moment (prev_at links p) m) 0 other
            ∙ (h.are i (omega arith) ∙ ap (head_moment (prev_at links i)) (sym (get_or-set_other moments p i m 0 other)))
      ];
    }

pub headed_remove : (n b s g p : ℕ) (links new : List Link) (moments heads after : List ℕ) → Removed n b s g links new → length moments ≡ n → p < n → (s ≡ p → ⊥) → after ≡ set (set heads p NEVER) s (head_moment b (slice_index moments s)) → IsHeaded moments links heads → IsHeaded (set moments p NEVER) new after
headed_remove n b s g p links new moments heads after m size low apart is h =
    let w : ℕ = head_moment b (slice_index moments s) in
    let s1 = h.sized in
    let s2 : length (set heads p NEVER) ≡ length heads = length-set heads p NEVER in
    let s3 : length (set (set heads p NEVER) s w) ≡ length (set heads p NEVER) = length-set (set heads p NEVER) s w in
    let s4 : length (set moments p NEVER) ≡ length moments = length-set moments p NEVER in
    let s5 : length after ≡ length (set (set heads p NEVER) s w) = ap length is in
    record {
      sized = omega arith;
      are = λ i within. ap (λ (hs : List ℕ). slice_index hs i) is ∙ elim (cases_eq i s) [
        | inl here ↦ ap (λ k. slice_index (set (set heads p NEVER) s w) k) here ∙ (get_or-set_same (set heads p NEVER) s w 0 (omega arith)
            ∙ ap₂ head_moment (sym (ap (λ k. prev_at new k) here ∙ m.prev_behind (omega arith))) (sym (ap (λ k. slice_index (set moments p NEVER) k) here ∙ get_or-set_other moments p s NEVER 0 apart)))
        | inr other ↦ get_or-set_other (set heads p NEVER) s i w 0 other ∙ elim (cases_eq i p) [
          | inl gone ↦ ap (λ k. slice_index (set heads p NEVER) k) gone ∙ (get_or-set_same heads p NEVER 0 (omega arith)
              ∙ (sym (head_never (prev_at new i)) ∙ ap (head_moment (prev_at new i)) (sym (ap (λ k. slice_index (set moments p NEVER) k) gone ∙ get_or-set_same moments p NEVER 0 (omega arith)))))
          | inr kept ↦ get_or-set_other heads p i NEVER 0 kept
              ∙ (h.are i (omega arith) ∙ ap₂ head_moment (sym (m.prev_else i other)) (sym (get_or-set_other moments p i NEVER 0 kept)))
        ]
      ];
    }
