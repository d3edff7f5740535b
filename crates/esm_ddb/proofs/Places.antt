-- The places of lexemes by the mode of the lexer.
use Rattle.std.proofs.Common.{◌≡◌, ◌∙◌, ℕ, ◌+◌, ◌<◌, ◌≤◌, refl, sym, ap, List, [], ◌∷◌, ◌++◌, length, get_or, drop, drop-cons, add-one, append_assoc, map}
use Rattle.std.proofs.lemmas.List.{append-nil}
use Rattle.json.specs.Lex.{Class, quote, backslash, operator, space, other, class, Mode, between, in_word, in_string, in_escape}
use Rattle.esm_model.specs.State.{places}
use Rattle.esm_window.specs.Layout.{begin, lay, next, put_at, Placed}
use Rattle.esm_window.proofs.Layouts.{places_are}
use Rattle.esm_ddb.specs.Lexemes.{begins, place_if, places_from}
use Rattle.esm_ddb.proofs.Loops.{none_left}

one : (m : Mode) (c : Class) (p x : ℕ) (xs : List ℕ) (ls : Placed) → place_if (begins m c) p ++ map (λ q. q.0) ls ≡ map (λ q. q.0) (put_at p (begin m c x xs) ls)
one between quote p x xs ls = refl
one between backslash p x xs ls = refl
one between operator p x xs ls = refl
one between space p x xs ls = refl
one between other p x xs ls = refl
one in_word quote p x xs ls = refl
one in_word backslash p x xs ls = refl
one in_word operator p x xs ls = refl
one in_word space p x xs ls = refl
one in_word other p x xs ls = refl
one in_string c p x xs ls = refl
one in_escape c p x xs ls = refl

pub from_are : (m : Mode) (p : ℕ) (xs : List ℕ) → places_from m p xs ≡ map (λ q. q.0) (lay m p xs)
unfolding places_from lay
from_are m p [] = refl
from_are m p (x ∷ xs) =
    ap (λ (ps : List ℕ). place_if (begins m (class x)) p ++ ps) (from_are (next m (class x)) (p + 1) xs)
    ∙ one m (class x) p x xs (lay (next m (class x)) (p + 1) xs)

pub all_places : (text : List ℕ) → places_from between 0 text ≡ places [] text
all_places text = from_are between 0 text ∙ sym (places_are [] text)

-- a byte more
pub noted : (text found : List ℕ) (m : Mode) (p : ℕ) → p < length text
    → found ++ places_from m p (drop p text)
    ≡ (found ++ place_if (begins m (class (get_or text p 0))) p) ++ places_from (next m (class (get_or text p 0))) (p + 1) (drop (p + 1) text)
unfolding places_from
noted text found m p within =
    let x = get_or text p 0 in
    let is : drop p text ≡ x ∷ drop (p + 1) text = drop-cons text p 0 within ∙ ap (λ n. x ∷ drop n text) (sym (add-one p)) in
    ap (λ (t : List ℕ). found ++ places_from m p t) is
    ∙ sym (append_assoc found (place_if (begins m (class x)) p) (places_from (next m (class x)) (p + 1) (drop (p + 1) text)))

pub all_noted : (text found : List ℕ) (m : Mode) (p : ℕ) → length text ≤ p → found ++ places_from m p (drop p text) ≡ found
unfolding places_from
all_noted text found m p h = ap (λ (t : List ℕ). found ++ places_from m p t) (none_left text p h) ∙ append-nil found
