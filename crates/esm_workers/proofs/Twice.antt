-- A book that one seat calls twice in one turn.
use Rattle.std.proofs.Common.{◌≡◌, ℕ, List, [], ◌∷◌, ◌++◌, length, drop, refl, sym, ap, ◌∙◌, subst, append_assoc}
use Rattle.std.proofs.lemmas.List.{append-nil, drop_at}
use Rattle.esm_model.specs.declared.setup.Told.{Told}
use Rattle.esm_model.specs.Kept.{Meaning, MayFollowAll, AllBy, added}
use Rattle.esm_model.proofs.Growing.{may_append}
use Rattle.esm_model.specs.GoingOn.{GoesOn, AllAt}

module _ (author : List Told → Told → ℕ) (n : ℕ) where
  by_append : (h xs ys : List Told) → AllBy author n h xs → AllBy author n (h ++ xs) ys → AllBy author n h (xs ++ ys)
  by_append h [] ys one two = subst (λ l. AllBy author n l ys) (append-nil h) two
  by_append h (x ∷ xs) ys one two =
      (one.0, by_append (h ++ x ∷ []) xs ys one.1 (subst (λ l. AllBy author n l ys) (sym (append_assoc h (x ∷ []) xs)) two))

at_append : (moment : ℕ) (h xs ys : List Told) → AllAt moment h xs → AllAt moment (h ++ xs) ys → AllAt moment h (xs ++ ys)
at_append moment h [] ys one two = subst (λ l. AllAt moment l ys) (append-nil h) two
at_append moment h (x ∷ xs) ys one two =
    (one.0, at_append moment (h ++ x ∷ []) xs ys one.1 (subst (λ l. AllAt moment l ys) (sym (append_assoc h (x ∷ []) xs)) two))

module _ {T : Type 0} (m : Meaning T) (n : ℕ) where
  -- what both calls added
  added_by_both : (x y z : T) → GoesOn m n x y → GoesOn m n y z → m.history z ≡ m.history x ++ (added (m.history x) (m.history y) ++ added (m.history y) (m.history z))
  added_by_both x y z one two =
      two.history_is ∙ (ap (λ l. l ++ added (m.history y) (m.history z)) one.history_is ∙ append_assoc (m.history x) (added (m.history x) (m.history y)) (added (m.history y) (m.history z)))

  added_in_all : (x y z : T) → GoesOn m n x y → GoesOn m n y z → added (m.history x) (m.history z) ≡ added (m.history x) (m.history y) ++ added (m.history y) (m.history z)
  added_in_all x y z one two =
      ap (λ l. drop (length (m.history x)) l) (added_by_both x y z one two)
      ∙ drop_at (m.history x) (added (m.history x) (m.history y) ++ added (m.history y) (m.history z)) (length (m.history x)) refl

  pub goes_on_twice : (x y z : T) → GoesOn m n x y → GoesOn m n y z → GoesOn m n x z
  goes_on_twice x y z one two =
      let h : List Told = m.history x in
      let a : List Told = added h (m.history y) in
      let b : List Told = added (m.history y) (m.history z) in
      let all : added h (m.history z) ≡ a ++ b = added_in_all x y z one two in
      let legal : MayFollowAll (m.may_follow (m.setup x)) (h ++ a) b
      = subst (λ l. MayFollowAll (m.may_follow (m.setup x)) l b) one.history_is (subst (λ u. MayFollowAll (m.may_follow u) (m.history y) b) one.setup_is two.legal) in
      let own : AllBy (m.author (m.setup x)) n (h ++ a) b
      = subst (λ l. AllBy (m.author (m.setup x)) n l b) one.history_is (subst (λ u. AllBy (m.author u) n (m.history y) b) one.setup_is two.own) in
      record {
        setup_is = two.setup_is ∙ one.setup_is;
        history_is = added_by_both x y z one two ∙ ap (λ l. h ++ l) (sym all);
        legal = subst (MayFollowAll (m.may_follow (m.setup x)) h) (sym all) (may_append (m.may_follow (m.setup x)) h a b one.legal legal);
        own = subst (AllBy (m.author (m.setup x)) n h) (sym all) (by_append (m.author (m.setup x)) n h a b one.own own);
        marked = λ marked. two.marked (one.marked marked);
        unchanged = λ other. two.unchanged other ∙ one.unchanged other;
      }

  pub at_twice : (moment : ℕ) (x y z : T) → GoesOn m n x y → GoesOn m n y z → AllAt moment (m.history x) (added (m.history x) (m.history y))
      → AllAt moment (m.history y) (added (m.history y) (m.history z)) → AllAt moment (m.history x) (added (m.history x) (m.history z))
  at_twice moment x y z one two first second =
      subst (AllAt moment (m.history x)) (sym (added_in_all x y z one two))
      (at_append moment (m.history x) (added (m.history x) (m.history y)) (added (m.history y) (m.history z)) first (subst (λ l. AllAt moment l (added (m.history y) (m.history z))) one.history_is second))
