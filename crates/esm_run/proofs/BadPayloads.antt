-- What is opened holds good payloads, or it does not: it is foreign, damaged, or has a payload that is bad.
use Rattle.std.proofs.Common.{◌≡◌, ◌∙◌, ℕ, Bool, true, false, List, [], ◌∷◌, ◌++◌, take, drop, reverse, ap, sym}
use Rattle.std.specs.Prelude.{◌&&◌}
use Rattle.std.proofs.lemmas.List.{reverse-append, take-append-drop}
use Rattle.esm_journal.specs.File.{Opening, Foreign, Damaged, Holding}
use Rattle.esm_journal_state.specs.Meaning.{are_good, history, is_good}

-- payloads of which a front is bad are bad

bad_behind : (more payloads : List (List ℕ)) → are_good payloads ≡ false → are_good (more ++ payloads) ≡ false
bad_behind [] payloads bad = bad
bad_behind (payload ∷ more) payloads bad = ap (λ (good : Bool). good && is_good (history (more ++ payloads)) payload) (bad_behind more payloads bad)

bad_front : (payloads : List (List ℕ)) (n : ℕ) → are_good (reverse (take n payloads)) ≡ false → are_good (reverse payloads) ≡ false
bad_front payloads n bad =
    ap (λ (ps : List (List ℕ)). are_good (reverse ps)) (sym (take-append-drop n payloads))
    ∙ ap are_good (reverse-append (take n payloads) (drop n payloads))
    ∙ bad_behind (reverse (drop n payloads)) (reverse (take n payloads)) bad

-- what was opened holds payloads of which this is true

abbrev pub Holds : (List (List ℕ) → Type 0) → Opening → Type 0
Holds P opening = (epoch : ℕ) × (payloads : List (List ℕ)) × (opening ≡ Holding epoch payloads) × P payloads

abbrev pub AreGood : List (List ℕ) → Type 0
AreGood payloads = are_good (reverse payloads) ≡ true

abbrev pub AreAny : List (List ℕ) → Type 0
AreAny payloads = Unit {0}

pub not_foreign : (P : List (List ℕ) → Type 0) (opening : Opening) → opening ≡ Foreign → Holds P opening → ⊥
not_foreign P opening foreign (epoch, payloads, holding, is) = (let both : Holding epoch payloads ≡ Foreign = sym holding ∙ foreign in cc)

pub not_damaged : (P : List (List ℕ) → Type 0) (opening : Opening) (place : ℕ) → opening ≡ Damaged place → Holds P opening → ⊥
not_damaged P opening place damaged (epoch, payloads, holding, is) = (let both : Holding epoch payloads ≡ Damaged place = sym holding ∙ damaged in cc)

pub same_payloads : (e d : ℕ) (a b : List (List ℕ)) → Holding e a ≡ Holding d b → a ≡ b
same_payloads e d a b both = cc

pub not_bad : (opening : Opening) (epoch : ℕ) (payloads : List (List ℕ)) (n : ℕ) → opening ≡ Holding epoch payloads → are_good (reverse (take n payloads)) ≡ false → Holds AreGood opening → ⊥
not_bad opening epoch payloads n opens bad (d, others, holding, good) =
    let same : others ≡ payloads = same_payloads d epoch others payloads (sym holding ∙ opens) in
    let both : true ≡ false = sym good ∙ ap (λ (ps : List (List ℕ)). are_good (reverse ps)) same ∙ bad_front payloads n bad in
    cc
