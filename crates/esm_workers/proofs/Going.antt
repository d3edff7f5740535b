-- Histories that go on behind what a seat has seen.
use Rattle.std.proofs.Common.{◌≡◌, ℕ, Bool, true, false, cond, eqb, List, [], ◌∷◌, ◌++◌, refl, sym, ap, ◌∙◌, subst, append_assoc, append-nil, eq-eqb, Option, Some, None}
use Rattle.std.proofs.lemmas.List.{append_cancel_left}
use Rattle.esm_io.specs.Told.{Grows}
use Rattle.esm_model.specs.declared.setup.Told.{Told}
use Rattle.esm_model.specs.Kept.{entries_after, entries_of}
use Rattle.esm_model.proofs.Growing.{entries-append}
use Rattle.esm_model.specs.GoingOn.{AllGiven, OwnGiven}

pub grows_by_none : {A : Type 0} (o : Option (List A)) → Grows o o []
grows_by_none None = refl
grows_by_none (Some l) = ap (λ x. Some x) (sym (append-nil l))

none_taken : (b : Bool) (e : Told) (es : List Told) → cond b (e ∷ es) es ≡ [] → (b ≡ false) × (es ≡ [])
none_taken true e es is = cc
none_taken false e es is = (refl, is)

module _ (author : List Told → Told → ℕ) where
  -- what follows has none of n, where all entries of n have been seen
  pub rest_none : (n : ℕ) (h seen rest mine : List Told) → h ≡ seen ++ rest → entries_of author n h ≡ mine → mine ≡ entries_of author n seen
      → entries_after author n seen rest ≡ []
  rest_none n h seen rest mine is all whole =
      append_cancel_left (entries_of author n seen) (entries_after author n seen rest) []
      (sym (entries-append author n [] seen rest) ∙ (ap (entries_of author n) (sym is) ∙ (all ∙ (whole ∙ sym (append-nil (entries_of author n seen))))))

  module _ (gave : ℕ → Bool) where
    -- entries of which none is of n
    pub none_given : (n : ℕ) (h es : List Told) → entries_after author n h es ≡ [] → OwnGiven gave author n h es
    none_given n h [] is = tt
    none_given n h (e ∷ es) is =
        let none = none_taken (eqb (author h e) n) e (entries_after author n (h ++ e ∷ []) es) is in (
          (λ by. let both : true ≡ false = sym (eq-eqb (author h e) n by) ∙ none.0 in absurd (cc)),
          none_given n (h ++ e ∷ []) es none.1,
        )

    pub own_append : (n : ℕ) (h xs ys : List Told) → OwnGiven gave author n h xs → OwnGiven gave author n (h ++ xs) ys → OwnGiven gave author n h (xs ++ ys)
    own_append n h [] ys one two = subst (λ l. OwnGiven gave author n l ys) (append-nil h) two
    own_append n h (x ∷ xs) ys one two =
        (one.0, own_append n (h ++ x ∷ []) xs ys one.1 (subst (λ l. OwnGiven gave author n l ys) (sym (append_assoc h (x ∷ []) xs)) two))

    -- each entry has an author
    pub all_given : (h es : List Told) → ((n : ℕ) → OwnGiven gave author n h es) → AllGiven gave h es
    all_given h [] own = tt
    all_given h (e ∷ es) own = ((own (author h e)).0 refl, all_given (h ++ e ∷ []) es (λ n. (own n).1))

    -- of each author where of all
    pub own_given : (n : ℕ) (h es : List Told) → AllGiven gave h es → OwnGiven gave author n h es
    own_given n h [] all = tt
    own_given n h (e ∷ es) all = ((λ _. all.0), own_given n (h ++ e ∷ []) es all.1)
