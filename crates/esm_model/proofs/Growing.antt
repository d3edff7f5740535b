-- Histories that go on.
use Rattle.std.proofs.Common.{◌≡◌, ◌≢◌, ℕ, Bool, true, false, cond, eqb, List, [], ◌∷◌, ◌++◌, refl, sym, ap, ◌∙◌, subst, append_assoc, eq-eqb, ne_eqb}
use Rattle.std.proofs.lemmas.List.{append-nil}
use Rattle.esm_model.specs.declared.setup.Told.{Told}
use Rattle.esm_model.specs.Kept.{entries_after, entries_of, MayFollowAll, AllBy}

module _ (author : List Told → Told → ℕ) where
  picked : (n : ℕ) (h : List Told) (e : Told) (es ys zs : List Told) (b : Bool) → es ≡ ys ++ zs
      → cond b (e ∷ es) es ≡ cond b (e ∷ ys) ys ++ zs
  picked n h e es ys zs true is = ap (λ l. e ∷ l) is
  picked n h e es ys zs false is = is

  pub entries-append : (n : ℕ) (h xs ys : List Told) → entries_after author n h (xs ++ ys) ≡ entries_after author n h xs ++ entries_after author n (h ++ xs) ys
  entries-append n h [] ys = ap (λ l. entries_after author n l ys) (sym (append-nil h))
  entries-append n h (x ∷ xs) ys =
      let more : entries_after author n (h ++ x ∷ []) (xs ++ ys) ≡ entries_after author n (h ++ x ∷ []) xs ++ entries_after author n (h ++ x ∷ xs) ys
      = entries-append n (h ++ x ∷ []) xs ys ∙ ap (λ l. entries_after author n (h ++ x ∷ []) xs ++ entries_after author n l ys) (append_assoc h (x ∷ []) xs) in
      picked n h x (entries_after author n (h ++ x ∷ []) (xs ++ ys)) (entries_after author n (h ++ x ∷ []) xs) (entries_after author n (h ++ x ∷ xs) ys) (eqb (author h x) n) more

  -- entries of n are all of those of n
  pub all_own : (n : ℕ) (h es : List Told) → AllBy author n h es → entries_after author n h es ≡ es
  all_own n h [] by = refl
  all_own n h (e ∷ es) by = ap (λ b. cond b (e ∷ entries_after author n (h ++ e ∷ []) es) (entries_after author n (h ++ e ∷ []) es)) (eq-eqb (author h e) n by.0)
      ∙ ap (λ l. e ∷ l) (all_own n (h ++ e ∷ []) es by.1)

  -- and none of those of k
  pub none_other : (n k : ℕ) (h es : List Told) → k ≢ n → AllBy author n h es → entries_after author k h es ≡ []
  none_other n k h [] ne by = refl
  none_other n k h (e ∷ es) ne by = ap (λ b. cond b (e ∷ entries_after author k (h ++ e ∷ []) es) (entries_after author k (h ++ e ∷ []) es)) (ne_eqb (author h e) k (λ is. ne (sym is ∙ by.0)))
      ∙ none_other n k (h ++ e ∷ []) es ne by.1

  -- after entries of n, the entries of n are one's own and those
  pub own_after : (n : ℕ) (h es : List Told) → AllBy author n h es → entries_of author n (h ++ es) ≡ entries_of author n h ++ es
  own_after n h es by = entries-append n [] h es ∙ ap (λ l. entries_after author n [] h ++ l) (all_own n h es by)

  pub other_after : (n k : ℕ) (h es : List Told) → k ≢ n → AllBy author n h es → entries_of author k (h ++ es) ≡ entries_of author k h
  other_after n k h es ne by = entries-append k [] h es ∙ (ap (λ l. entries_after author k [] h ++ l) (none_other n k h es ne by) ∙ append-nil (entries_after author k [] h))

module _ (may : List Told → Told → Type 0) where
  pub may_append : (h xs ys : List Told) → MayFollowAll may h xs → MayFollowAll may (h ++ xs) ys → MayFollowAll may h (xs ++ ys)
  may_append h [] ys one two = subst (λ l. MayFollowAll may l ys) (append-nil h) two
  may_append h (x ∷ xs) ys one two =
      (one.0, may_append (h ++ x ∷ []) xs ys one.1 (subst (λ l. MayFollowAll may l ys) (sym (append_assoc h (x ∷ []) xs)) two))
