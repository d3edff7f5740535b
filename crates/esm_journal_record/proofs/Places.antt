-- One more place, in a loop over places.
use Rattle.std.proofs.Common.{◌≡◌, ℕ, suc, ◌+◌, ◌<◌, ◌≤◌, ◌&&◌, leb, false, List, ◌++◌, length, get_or, drop, refl, sym, ap, ◌∙◌, add-one, drop-cons}
use Rattle.std.proofs.lemmas.Bool.{le-leb, lt-leb}
use Rattle.std.proofs.lemmas.List.{at_drop_more}
use Rattle.esm_journal_record.specs.Payload.{rises_from, name_bytes, names_bytes}

pub rises_stops : (places : List ℕ) (i low place : ℕ) → i < length places → place ≡ get_or places i 0 → place < low → rises_from low (drop i places) ≡ false
rises_stops places i low place lt at below =
    at_drop_more (rises_from low) places i 0 lt
    ∙ ap (λ p. leb low p && rises_from (suc p) (drop (i + 1) places)) (sym at)
    ∙ ap (λ b. b && rises_from (suc place) (drop (i + 1) places)) (lt-leb low place below)

pub rises_goes_on : (places : List ℕ) (i low place : ℕ) → i < length places → place ≡ get_or places i 0 → low ≤ place → rises_from low (drop i places) ≡ rises_from (place + 1) (drop (i + 1) places)
rises_goes_on places i low place lt at le =
    at_drop_more (rises_from low) places i 0 lt
    ∙ ap (λ p. leb low p && rises_from (suc p) (drop (i + 1) places)) (sym at)
    ∙ ap (λ b. b && rises_from (suc place) (drop (i + 1) places)) (le-leb low place le)
    ∙ ap (λ n. rises_from n (drop (i + 1) places)) (sym (add-one place))

pub names_more : (places : List ℕ) (texts : List (List ℕ)) (i : ℕ) (d : List ℕ) → i < length places → i < length texts → names_bytes (drop i places) (drop i texts) ≡ name_bytes (get_or places i 0) (get_or texts i d) ++ names_bytes (drop (i + 1) places) (drop (i + 1) texts)
names_more places texts i d p q = rw (drop-cons places i 0, drop-cons texts i d, add-one) refl
