-- Lists that grow: what is told, and what a history has beyond an earlier one.
use Rattle.std.proofs.Common.{◌≡◌, ◌⊎◌, inl, inr, ⊎_elim, ℕ, List, [], ◌∷◌, ◌++◌, Option, Some, None, is_some, true, false, ◌-◌, length, length-append, map, reverse, refl, ap, sym, subst, ◌∙◌, arith, append_assoc, append-nil}
use Rattle.std.proofs.lemmas.List.{reverse-append, reverse-reverse, take_at, map-append}
use Rattle.std.proofs.lemmas.List.Elements.{filter_map-append}
use Rattle.esm_io.specs.Told.{Grows}
use Rattle.esm_book.specs.Decided.{written_of, added}

pub clash : true ≡ false → ⊥
clash e = cc

pub none_of : {A : Type 0} (o : Option A) → is_some o ≡ false → o ≡ None
none_of None is = refl
none_of (Some x) is = cc

pub none_in : {A : Type 0} (xs : List A) → length xs ≡ 0 → xs ≡ []
none_in [] is = refl
none_in (x ∷ xs) is = absurd (omega (arith, is))

-- what was told grows by nothing
pub grows_none : {A : Type 0} (told now : Option (List A)) → now ≡ told → Grows told now []
grows_none None now same = same
grows_none (Some told) now same = same ∙ ap (λ l. Some l) (sym (append-nil told))

-- it grows by these, and then by those
pub grows_then : {A : Type 0} (old mid new : Option (List A)) (one more : List A) → Grows old mid one → Grows mid new more → Grows old new (one ++ more)
grows_then None mid new one more first second = subst (λ o. Grows o new more) first second
grows_then {A} (Some old) mid new one more first second =
    let again : new ≡ Some ((old ++ one) ++ more) = subst (λ (o : Option (List A)). Grows o new more) first second in
    again ∙ ap (λ l. Some l) (append_assoc old one more)

-- what was put before a history is what it has beyond it
pub added_is : {E : Type 0} (more past now : List E) → now ≡ reverse more ++ past → added past now ≡ more
added_is more past now is =
    ap (added past) is
    ∙ ap reverse (take_at (reverse more) past (length (reverse more ++ past) - length past) (omega (arith, length-append (reverse more) past)))
    ∙ reverse-reverse more

pub none_added : {E : Type 0} (past : List E) → added past past ≡ []
none_added past = added_is [] past past refl

-- a front of two lists is one of the first, or the first and a front of the second
pub front_of : {A : Type 0} (front rest one two : List A) → front ++ rest ≡ one ++ two
    → ((more : List A) × (front ++ more ≡ one)) ⊎ ((after : List A) × (front ≡ one ++ after) × (after ++ rest ≡ two))
front_of [] rest one two is = inl (one, refl)
front_of (x ∷ front) rest [] two is = inr (x ∷ front, refl, is)
front_of (x ∷ front) rest (y ∷ one) two is =
    let same : x ≡ y = cc in
    let tail : front ++ rest ≡ one ++ two = cc in
    ⊎_elim
    (λ p. inl (p.0, ap (λ l. x ∷ l) p.1 ∙ ap (λ z. z ∷ one) same))
    (λ q. inr (q.0, ap (λ l. x ∷ l) q.1 ∙ ap (λ z. z ∷ (one ++ q.0)) same, q.2))
    (front_of front rest one two tail)

module _ {E : Type 0} (text : E → Option (List ℕ)) where
  -- entries behind others of which nothing is written
  pub silent_behind : (paid noted : List E) → written_of text noted ≡ [] → written_of text (paid ++ noted) ≡ written_of text paid
  silent_behind paid noted none = filter_map-append text paid noted ∙ ap (λ l. written_of text paid ++ l) none ∙ append-nil (written_of text paid)

  -- and with others behind them
  pub silent_within : (paid noted hand : List E) → written_of text noted ≡ [] → written_of text ((paid ++ noted) ++ hand) ≡ written_of text (paid ++ hand)
  silent_within paid noted hand none =
      filter_map-append text (paid ++ noted) hand
      ∙ ap (λ l. l ++ written_of text hand) (silent_behind paid noted none)
      ∙ sym (filter_map-append text paid hand)

-- what is sent for lines, part by part
pub sent-append : {E : Type 0} (line : E → Option (List ℕ)) (sends : List ℕ → List ℕ) (one more : List E)
    → map sends (written_of line (one ++ more)) ≡ map sends (written_of line one) ++ map sends (written_of line more)
sent-append line sends one more = ap (map sends) (filter_map-append line one more) ∙ map-append sends (written_of line one) (written_of line more)

-- a history to which these were added, oldest first
pub oldest_first : {E : Type 0} (past now paid : List E) → now ≡ reverse paid ++ past → reverse now ≡ reverse past ++ paid
oldest_first past now paid is = ap reverse is ∙ reverse-append (reverse paid) past ∙ ap (λ l. reverse past ++ l) (reverse-reverse paid)
