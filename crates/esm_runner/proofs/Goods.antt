-- No payload of a journal whose payloads are good is the first bad one.
use Rattle.std.proofs.Common.{◌≡◌, ◌∙◌, ◌+◌, ℕ, Bool, true, false, List, [], ◌∷◌, ◌++◌, take, drop, ap, refl, subst, sym}
use Rattle.std.specs.Prelude.{◌&&◌, reverse}
use Rattle.std.proofs.lemmas.List.{reverse-append, take-append-drop}
use Rattle.esm_journal_state.specs.Bad.{IsFirstBad}
use Rattle.esm_journal_state.specs.Meaning.{are_good, history, is_good}
use Rattle.esm_journal_state.specs.declared.error.SaysError.TheVariants as judged

first_true : (a b : Bool) → (a && b) ≡ true → a ≡ true
first_true true b both = refl
first_true false b both = absurd (cc)

good_rest : (later before : List (List ℕ)) → are_good (later ++ before) ≡ true → are_good before ≡ true
good_rest [] before good = good
good_rest (p ∷ later) before good = good_rest later before (first_true (are_good (later ++ before)) (is_good (history (later ++ before)) p) good)

pub none_bad : (payloads : List (List ℕ)) (i : ℕ) → are_good (reverse payloads) ≡ true → IsFirstBad payloads (judged.BadPayload i) → ⊥
none_bad payloads i good bad =
    let parts : reverse payloads ≡ reverse (drop (i + 1) payloads) ++ reverse (take (i + 1) payloads) =
    ap reverse (sym (take-append-drop (i + 1) payloads)) ∙ reverse-append (take (i + 1) payloads) (drop (i + 1) payloads) in
    let front : are_good (reverse (take (i + 1) payloads)) ≡ true =
    good_rest (reverse (drop (i + 1) payloads)) (reverse (take (i + 1) payloads)) (subst (λ (ps : List (List ℕ)). are_good ps ≡ true) parts good) in
    let not : are_good (reverse (take (i + 1) payloads)) ≡ false = bad.2 in
    absurd (let clash : true ≡ false = sym front ∙ not in cc)
