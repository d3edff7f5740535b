-- Entries of an author that come after the input's end.
use Rattle.std.proofs.Common.{◌≡◌, ℕ, Bool, true, false, eqb, ◌||◌, List, [], ◌∷◌, ◌++◌, refl, sym, ap, ◌∙◌, subst, append_assoc, eq-eqb}
use Rattle.std.proofs.lemmas.List.{append-nil}
use Rattle.std.proofs.lemmas.List.Folds.{list_any-append}
use mathlib.Core.List.{IsPrefix}
use Rattle.esm_model.specs.declared.setup.Told.{Told}
use Rattle.esm_model.specs.Books.{entries_told}
use Rattle.esm_model.specs.Entries.{is_shut, is_shut_entry}
use Rattle.esm_model.specs.Kept.{entries_after, entries_of}
use Rattle.esm_model.proofs.TellingFacts.{entries-append}
use Rattle.esm_model.specs.GoingOn.{OwnFollowShut}
use Rattle.esm_workers.proofs.Turns.{not_picked}

or_true : (b : Bool) → (b || true) ≡ true
or_true true = refl
or_true false = refl

-- an input that ended has ended whatever follows
pub shut_still : (h es : List Told) → is_shut (entries_told h) ≡ true → is_shut (entries_told (h ++ es)) ≡ true
shut_still h es shut =
    ap is_shut (entries-append h es)
    ∙ (list_any-append is_shut_entry (entries_told es) (entries_told h)
    ∙ (ap (λ b. is_shut (entries_told es) || b) shut ∙ or_true (is_shut (entries_told es))))

pub begins_then : (a b c : List Told) → IsPrefix a b → IsPrefix b c → IsPrefix a c
begins_then a b c one two = (one.0 ++ two.0, sym (append_assoc a one.0 two.0) ∙ (ap (λ l. l ++ two.0) one.1 ∙ two.1))

module _ (author : List Told → Told → ℕ) (n : ℕ) where
  pub follow_append : (h xs ys : List Told) → OwnFollowShut author n h xs → OwnFollowShut author n (h ++ xs) ys → OwnFollowShut author n h (xs ++ ys)
  follow_append h [] ys one two = subst (λ l. OwnFollowShut author n l ys) (append-nil h) two
  follow_append h (x ∷ xs) ys one two =
      (one.0, follow_append (h ++ x ∷ []) xs ys one.1 (subst (λ l. OwnFollowShut author n l ys) (sym (append_assoc h (x ∷ []) xs)) two))

  -- entries of others alone
  pub follow_other : (h es : List Told) → entries_after author n h es ≡ [] → OwnFollowShut author n h es
  follow_other h [] none = tt
  follow_other h (e ∷ es) none =
      let not = not_picked (eqb (author h e) n) e (entries_after author n (h ++ e ∷ []) es) none in
      (λ own. absurd (let yes = eq-eqb (author h e) n own in let no = not.0 in cc), follow_other (h ++ e ∷ []) es not.1)

  -- entries after an input that has ended
  pub follow_shut : (h es : List Told) → is_shut (entries_told h) ≡ true → OwnFollowShut author n h es
  follow_shut h [] shut = tt
  follow_shut h (e ∷ es) shut = (λ own. shut, follow_shut (h ++ e ∷ []) es (shut_still h (e ∷ []) shut))

  -- where the author had no entry yet when the input had ended
  pub follow_from : (h seen : List Told) → entries_of author n h ≡ [] → is_shut (entries_told h) ≡ true → IsPrefix h seen → OwnFollowShut author n [] seen
  follow_from h seen none shut begins =
      subst (OwnFollowShut author n []) begins.1 (follow_append [] h begins.0 (follow_other [] h none) (follow_shut h begins.0 shut))
