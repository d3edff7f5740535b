-- How runs of device calls go on.
use Rattle.std.proofs.Common.{ℕ, List, inl, inr, ⊎_elim, arith}
use Rattle.esm_io.specs.Images.{LeavesOnly, Elapses}

module _ {D : Type 0} (moment : D → ℕ) (since : D → ℕ → List ℕ → Type 0) where
  -- before the first call
  pub started : (old : D) (P : List ℕ → Type 0) → ((image : List ℕ) → since old (moment old) image → P image) → LeavesOnly moment since old old P
  started old P here = record { later = omega arith; each = here; before = λ t image le was. inl was }

  -- a run after a run
  pub goes_on : (old mid new : D) (P Q R : List ℕ → Type 0) → LeavesOnly moment since old mid P → LeavesOnly moment since mid new Q
      → ((image : List ℕ) → P image → R image) → ((image : List ℕ) → Q image → R image) → LeavesOnly moment since old new R
  goes_on old mid new P Q R first second one two = record {
    later = omega (arith, first.later, second.later);
    each = λ image was. ⊎_elim (λ p. one image (first.each image p)) (two image) (second.before (moment old) image first.later was);
    before = λ t image le was. ⊎_elim
        (λ p. ⊎_elim (λ q. inl q) (λ q. inr (one image q)) (first.before t image le p))
        (λ q. inr (two image q)) (second.before t image (omega (arith, le, first.later)) was);
  }

  -- the same run, of which less is said
  pub weaker : (old new : D) (P Q : List ℕ → Type 0) → LeavesOnly moment since old new P → ((image : List ℕ) → P image → Q image) → LeavesOnly moment since old new Q
  weaker old new P Q run fits = record {
    later = run.later;
    each = λ image was. fits image (run.each image was);
    before = λ t image le was. ⊎_elim (λ p. inl p) (λ p. inr (fits image p)) (run.before t image le was);
  }

  -- one run, of which two things are said
  pub both : (old new : D) (P Q R : List ℕ → Type 0) → LeavesOnly moment since old new P → LeavesOnly moment since old new Q → ((image : List ℕ) → P image → Q image → R image) → LeavesOnly moment since old new R
  both old new P Q R one two fits = record {
    later = one.later;
    each = λ image was. fits image (one.each image was) (two.each image was);
    before = λ t image le was. ⊎_elim (λ p. inl p) (λ p. ⊎_elim (λ q. inl q) (λ q. inr (fits image p q)) (two.before t image le was)) (one.before t image le was);
  }

  -- one call, after which each image has P
  pub called : (old new : D) (P : List ℕ → Type 0) → Elapses (moment old) (moment new) (since old) (since new) → ((image : List ℕ) → since new (moment old) image → P image) → LeavesOnly moment since old new P
  called old new P time each = record {
    later = time.later;
    each = each;
    before = λ t image le was. ⊎_elim (λ p. inl p) (λ s. inr (each image s)) (time.no_other t image le was);
  }
