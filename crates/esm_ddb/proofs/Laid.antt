-- The places of lexemes in texts that are put together, and of how many lexemes a printed value consists.
use Rattle.std.proofs.Common.{◌≡◌, ◌∙◌, ℕ, ◌+◌, arith, true, false, refl, sym, ap, subst, List, [], ◌∷◌, ◌++◌, append_assoc, append-nil, length}
use Rattle.std.proofs.lemmas.List.{length-map}
use Rattle.json.specs.Token.{Token}
use Rattle.json.specs.Lex.{comma, class, Mode, between, fresh, lex, tokens}
use Rattle.json.specs.Json.{Json, null, boolean, number, string, array, object, Items, no_items, item, Members, no_members, member}
use Rattle.json.specs.Print.{print}
use Rattle.json.specs.Tree.{json_tokens, items_tokens, members_tokens, HasNumbers}
use Rattle.json.proofs.Printed.Tokens.{tokens-print}
use Rattle.json.proofs.Printed.Trees.{ArePrintable-json_tokens}
use Rattle.esm_model.specs.State.{comma_before, comma_before_member, size, items_size, members_size}
use Rattle.esm_window.specs.Layout.{next, lay, mode_at, NoBad, lexemes_of}
use Rattle.esm_window.proofs.Grammar.{no_bad}
use Rattle.esm_window.proofs.Layouts.{lexemes-lay}
use Rattle.esm_window.proofs.Punctuated.{punctuated_from}
use Rattle.esm_ddb.specs.Lexemes.{begins, place_if, places_from}
use Rattle.esm_ddb.proofs.Places.{from_are}

-- ---- one text after another

pub mode_append : (m : Mode) (xs ys : List ℕ) → mode_at m (xs ++ ys) ≡ mode_at (mode_at m xs) ys
mode_append m [] ys = refl
mode_append m (x ∷ xs) ys = mode_append (next m (class x)) xs ys

pub places_append : (m : Mode) (p : ℕ) (xs ys : List ℕ) → places_from m p (xs ++ ys) ≡ places_from m p xs ++ places_from (mode_at m xs) (p + length xs) ys
unfolding places_from
places_append m p [] ys = let same : p ≡ p + 0 = omega arith in ap (λ n. places_from m n ys) same
places_append m p (x ∷ xs) ys =
    let n = next m (class x) in
    let front = place_if (begins m (class x)) p in
    let same : p + 1 + length xs ≡ p + length (x ∷ xs) = omega arith in
    ap (λ l. front ++ l) (places_append n (p + 1) xs ys ∙ ap (λ k. places_from n (p + 1) xs ++ places_from (mode_at n xs) k ys) same)
    ∙ sym (append_assoc front (places_from n (p + 1) xs) (places_from (mode_at n xs) (p + length (x ∷ xs)) ys))

-- ---- counting

pub places_count : (m : Mode) (p : ℕ) (xs : List ℕ) → length (places_from m p xs) ≡ length (lex m xs)
places_count m p xs =
    ap length (from_are m p xs) ∙ length-map (lay m p xs) (λ q. q.0) ∙ sym (length-map (lay m p xs) (λ q. q.1)) ∙ ap length (lexemes-lay m p xs)

-- each value begins with a token that a comma stands before, where one ended
comma_first : (j : Json) (ts : List Token) → lexemes_of true (json_tokens j ++ ts) ≡ comma ∷ lexemes_of false (json_tokens j ++ ts)
comma_first null ts = refl
comma_first (boolean b) ts = refl
comma_first (number s) ts = refl
comma_first (string s) ts = refl
comma_first (array js) ts = refl
comma_first (object ms) ts = refl

mutual
  count_value : (j : Json) (ts : List Token) → length (lexemes_of false (json_tokens j ++ ts)) ≡ size j + length (lexemes_of true ts)
  count_value null ts = omega arith
  count_value (boolean b) ts = omega arith
  count_value (number s) ts = omega arith
  count_value (string s) ts = omega arith
  count_value (array js) ts = let inner = count_items js ts in omega (arith, inner)
  count_value (object ms) ts = let inner = count_members ms ts in omega (arith, inner)

  count_items : (js : Items) (ts : List Token) → length (lexemes_of false (items_tokens js ++ ts)) ≡ items_size js + length (lexemes_of true ts)
  count_items no_items ts = omega arith
  count_items (item j js) ts =
      let same = ap (λ us. length (lexemes_of false us)) (append_assoc (json_tokens j) (items_tokens js) ts) in
      omega (arith, same, count_value j (items_tokens js ++ ts), count_more js ts)

  count_more : (js : Items) (ts : List Token) → length (lexemes_of true (items_tokens js ++ ts)) ≡ comma_before js + items_size js + length (lexemes_of true ts)
  count_more no_items ts = omega arith
  count_more (item j js) ts =
      let same = ap (λ us. length (lexemes_of true us)) (append_assoc (json_tokens j) (items_tokens js) ts) in
      let one = ap length (comma_first j (items_tokens js ++ ts)) in
      omega (arith, same, one, count_value j (items_tokens js ++ ts), count_more js ts)

  count_members : (ms : Members) (ts : List Token) → length (lexemes_of false (members_tokens ms ++ ts)) ≡ members_size ms + length (lexemes_of true ts)
  count_members no_members ts = omega arith
  count_members (member k j ms) ts =
      let same = ap (λ us. length (lexemes_of false us)) (append_assoc (json_tokens j) (members_tokens ms) ts) in
      omega (arith, same, count_value j (members_tokens ms ++ ts), count_other ms ts)

  count_other : (ms : Members) (ts : List Token) → length (lexemes_of true (members_tokens ms ++ ts)) ≡ comma_before_member ms + members_size ms + length (lexemes_of true ts)
  count_other no_members ts = omega arith
  count_other (member k j ms) ts =
      let same = ap (λ us. length (lexemes_of false us)) (append_assoc (json_tokens j) (members_tokens ms) ts) in
      omega (arith, same, count_value j (members_tokens ms ++ ts), count_other ms ts)

pub lexemes_are : (text : List ℕ) (j : Json) → tokens text ≡ json_tokens j → lex between text ≡ lexemes_of false (json_tokens j)
lexemes_are text j is =
    let good : NoBad (tokens text) = subst NoBad (append-nil (json_tokens j) ∙ sym is) (no_bad j) in
    punctuated_from fresh (lex between text) good ∙ ap (lexemes_of false) is

-- so many places does the text of a value have
pub printed_count : (j : Json) (p : ℕ) → HasNumbers j → length (places_from between p (print (json_tokens j))) ≡ size j
printed_count j p numbers =
    let text = print (json_tokens j) in
    let same = lexemes_are text j (tokens-print (json_tokens j) (ArePrintable-json_tokens j numbers)) in
    let nil = append-nil (json_tokens j) in
    let all : length (lexemes_of false (json_tokens j)) ≡ size j + length (lexemes_of true []) = ap (λ us. length (lexemes_of false us)) (sym nil) ∙ count_value j [] in
    omega (arith, places_count between p text, ap length same, all)
