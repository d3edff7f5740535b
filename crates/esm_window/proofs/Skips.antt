-- The scan passes over a value that stands in an array or object without a mark.
use Rattle.std.proofs.Common.{◌≡◌, ℕ, ◌+◌, ◌-◌, ◌≤◌, ◌==◌, true, false, ◌||◌, if◌then◌else◌, List, [], ◌∷◌, ◌++◌, map, drop, refl, sym, ap, ◌∙◌, subst, arith, append_assoc, drop-drop}
use Rattle.std.proofs.lemmas.Bool.{ne_eqb}
use Rattle.json.specs.Token.{Token}
use Rattle.json.specs.Lex.{Lexeme, token, comma, colon}
use Rattle.json.specs.Json.{Json, null, boolean, number, string, array, object, Items, no_items, item, Members, no_members, member}
use Rattle.json.specs.Tree.{json_tokens, items_tokens, members_tokens}
use Rattle.esm_model.specs.State.{comma_before, comma_before_member, size, items_size, members_size}
use Rattle.esm_window.specs.Layout.{Placed, is_marked, deep, marked, lexemes_of}

abbrev pub lexemes : Placed → List Lexeme
lexemes ls = map (λ q. q.1) ls

-- one lexeme is passed
pub record Passed (ls : Placed) (l : Lexeme) (rest : List Lexeme) : Type 0 where
  pub left : lexemes (drop 1 ls) ≡ rest
  pub quiet : (depth : ℕ) → is_marked depth l ≡ false → marked depth ls ≡ marked (deep depth l) (drop 1 ls)

quiet_cons : (depth : ℕ) (q : ℕ × Lexeme) (l : Lexeme) (ls : Placed) → q.1 ≡ l → is_marked depth l ≡ false → marked depth (q ∷ ls) ≡ marked (deep depth l) ls
unfolding marked
quiet_cons depth q l ls e h =
    let no : is_marked depth q.1 ≡ false = ap (is_marked depth) e ∙ h in
    λ i. if no i then q.0 ∷ marked (deep depth (e i)) ls else marked (deep depth (e i)) ls

pub pass : (ls : Placed) (l : Lexeme) (rest : List Lexeme) → lexemes ls ≡ l ∷ rest → Passed ls l rest
pass [] l rest e = cc
pass (q ∷ ls) l rest e = let head : q.1 ≡ l = cc in record { left = cc; quiet = λ depth h. quiet_cons depth q l ls head h }

pub further : (a b n : ℕ) (ls : Placed) → n ≡ b + a → drop n ls ≡ drop a (drop b ls)
further a b n ls e = ap (λ k. drop k ls) e ∙ sym (drop-drop a b ls)

-- of n lexemes; `falls` by so many brackets
pub record Skipped (n falls : ℕ) (ls : Placed) (rest : List Lexeme) : Type 0 where
  pub left : lexemes (drop n ls) ≡ rest
  pub quiet : (depth : ℕ) → 1 + falls ≤ depth → marked depth ls ≡ marked (depth - falls) (drop n ls)

one : (ls : Placed) (l : Lexeme) (rest : List Lexeme) → lexemes ls ≡ l ∷ rest → ((depth : ℕ) → is_marked depth l ≡ false) → ((depth : ℕ) → deep depth l ≡ depth) → Skipped 1 0 ls rest
one ls l rest e silent level =
    let p = pass ls l rest e in
    record {
      left = p.left;
      quiet = λ depth h.
          let same : deep depth l ≡ depth - 0 = level depth ∙ omega arith in
          p.quiet depth (silent depth) ∙ ap (λ k. marked k (drop 1 ls)) same;
    }

-- an opening bracket below the outermost
open_quiet : (depth x : ℕ) → 1 ≤ depth → ((depth == 0) || false) ≡ false
open_quiet depth x h = λ i. ne_eqb depth 0 (λ e. omega arith) i || false

close_quiet : (depth : ℕ) → 2 ≤ depth → (depth == 1) ≡ false
close_quiet depth h = ne_eqb depth 1 (λ e. omega arith)

-- a bracket, and what is in it up to the closing one
wrap : (n m : ℕ) (ls : Placed) (l : Lexeme) (inside rest : List Lexeme) → lexemes ls ≡ l ∷ inside → m ≡ 1 + n
    → ((depth : ℕ) → 1 ≤ depth → is_marked depth l ≡ false) → ((depth : ℕ) → deep depth l ≡ depth + 1)
    → Skipped n 1 (drop 1 ls) rest → Skipped m 0 ls rest
wrap n m ls l inside rest e sum silent level s =
    let p = pass ls l inside e in
    let far = further n 1 m ls sum in
    record {
      left = ap lexemes far ∙ s.left;
      quiet = λ depth h.
          let in_it : 2 ≤ depth + 1 = omega arith in
          let out : depth + 1 - 1 ≡ depth - 0 = omega arith in
          p.quiet depth (silent depth (omega arith)) ∙ ap (λ k. marked k (drop 1 ls)) (level depth) ∙ s.quiet (depth + 1) in_it
          ∙ ap (λ k. marked k (drop n (drop 1 ls))) out ∙ ap (marked (depth - 0)) (sym far);
    }

-- one after the other
pub and_then : (a b n falls : ℕ) (ls : Placed) (mid rest : List Lexeme) → n ≡ a + b → Skipped a 0 ls mid → Skipped b falls (drop a ls) rest → Skipped n falls ls rest
and_then a b n falls ls mid rest sum s r =
    let far = further b a n ls sum in
    record {
      left = ap lexemes far ∙ r.left;
      quiet = λ depth h.
          let same : depth - 0 ≡ depth = omega arith in
          s.quiet depth (omega arith) ∙ ap (λ k. marked k (drop a ls)) same ∙ r.quiet depth h ∙ ap (marked (depth - falls)) (sym far);
    }

none : (ls : Placed) (rest : List Lexeme) → lexemes ls ≡ rest → Skipped 0 0 ls rest
none ls rest e = record { left = e; quiet = λ depth h. (let same : depth ≡ depth - 0 = omega arith in ap (λ k. marked k ls) same) }

-- a comma between two items or members
between : (ls : Placed) (rest : List Lexeme) → lexemes ls ≡ comma ∷ rest → (falls : ℕ) → 1 ≤ falls → (b n : ℕ) → n ≡ 1 + b → ((closing : List Lexeme) → Skipped b falls (drop 1 ls) closing → Skipped n falls ls closing)
between ls rest e falls some b n sum closing s =
    let p = pass ls comma rest e in
    let far = further b 1 n ls sum in
    record {
      left = ap lexemes far ∙ s.left;
      quiet = λ depth h. p.quiet depth (close_quiet depth (omega arith)) ∙ s.quiet depth h ∙ ap (marked (depth - falls)) (sym far);
    }

closing : (l : Lexeme) (ls : Placed) (rest : List Lexeme) → lexemes ls ≡ l ∷ rest → ((depth : ℕ) → 2 ≤ depth → is_marked depth l ≡ false) → ((depth : ℕ) → deep depth l ≡ depth - 1) → Skipped 1 1 ls rest
closing l ls rest e silent level =
    let p = pass ls l rest e in
    record { left = p.left; quiet = λ depth h. p.quiet depth (silent depth h) ∙ ap (λ k. marked k (drop 1 ls)) (level depth) }

-- the first token of an item is no closing bracket, so a comma stands before it
comma_first : (j : Json) (us : List Token) → lexemes_of true (json_tokens j ++ us) ≡ comma ∷ lexemes_of false (json_tokens j ++ us)
comma_first null us = refl
comma_first (boolean b) us = refl
comma_first (number s) us = refl
comma_first (string s) us = refl
comma_first (array js) us = refl
comma_first (object ms) us = refl

more_items : (js : Items) (ls : Placed) (ts : List Token) → lexemes ls ≡ lexemes_of true (items_tokens js ++ ts)
    → ((ks : Placed) → lexemes ks ≡ lexemes_of false (items_tokens js ++ ts) → Skipped (items_size js) 1 ks (lexemes_of true ts))
    → Skipped (comma_before js + items_size js) 1 ls (lexemes_of true ts)
more_items no_items ls ts e f = let zero_more : 0 + 1 ≡ 1 = omega arith in subst (λ n. Skipped n 1 ls (lexemes_of true ts)) (sym zero_more) (f ls e)
more_items (item j js) ls ts e f =
    let first : lexemes_of true ((json_tokens j ++ items_tokens js) ++ ts) ≡ comma ∷ lexemes_of false ((json_tokens j ++ items_tokens js) ++ ts) =
    ap (lexemes_of true) (append_assoc (json_tokens j) (items_tokens js) ts) ∙ comma_first j (items_tokens js ++ ts)
    ∙ ap (λ us. comma ∷ lexemes_of false us) (sym (append_assoc (json_tokens j) (items_tokens js) ts)) in
    let p = pass ls comma (lexemes_of false ((json_tokens j ++ items_tokens js) ++ ts)) (e ∙ first) in
    between ls (lexemes_of false ((json_tokens j ++ items_tokens js) ++ ts)) (e ∙ first) 1 (omega arith) (items_size (item j js)) (1 + items_size (item j js)) refl (lexemes_of true ts) (f (drop 1 ls) p.left)

pub more_members : (ms : Members) (ls : Placed) (ts : List Token) → lexemes ls ≡ lexemes_of true (members_tokens ms ++ ts)
    → ((ks : Placed) → lexemes ks ≡ lexemes_of false (members_tokens ms ++ ts) → Skipped (members_size ms) 1 ks (lexemes_of true ts))
    → Skipped (comma_before_member ms + members_size ms) 1 ls (lexemes_of true ts)
more_members no_members ls ts e f = let zero_more : 0 + 1 ≡ 1 = omega arith in subst (λ n. Skipped n 1 ls (lexemes_of true ts)) (sym zero_more) (f ls e)
more_members (member k j ms) ls ts e f =
    let p = pass ls comma (lexemes_of false (members_tokens (member k j ms) ++ ts)) e in
    between ls (lexemes_of false (members_tokens (member k j ms) ++ ts)) e 1 (omega arith) (members_size (member k j ms)) (1 + members_size (member k j ms)) refl (lexemes_of true ts) (f (drop 1 ls) p.left)

mutual
  pub skip_value : (j : Json) (ls : Placed) (ts : List Token) → lexemes ls ≡ lexemes_of false (json_tokens j ++ ts) → Skipped (size j) 0 ls (lexemes_of true ts)
  skip_value null ls ts e = one ls (token Token.null) (lexemes_of true ts) e (λ depth. refl) (λ depth. refl)
  skip_value (boolean b) ls ts e = one ls (token (Token.boolean b)) (lexemes_of true ts) e (λ depth. refl) (λ depth. refl)
  skip_value (number s) ls ts e = one ls (token (Token.number s)) (lexemes_of true ts) e (λ depth. refl) (λ depth. refl)
  skip_value (string s) ls ts e = one ls (token (Token.string s)) (lexemes_of true ts) e (λ depth. refl) (λ depth. refl)
  skip_value (array js) ls ts e =
      let inside = lexemes_of false (items_tokens js ++ ts) in
      let p = pass ls (token Token.begin_array) inside e in
      wrap (items_size js) (1 + items_size js) ls (token Token.begin_array) inside (lexemes_of true ts) e refl (λ depth h. refl) (λ depth. refl) (skip_items js (drop 1 ls) ts p.left)
  skip_value (object ms) ls ts e =
      let inside = lexemes_of false (members_tokens ms ++ ts) in
      let p = pass ls (token Token.begin_object) inside e in
      wrap (members_size ms) (1 + members_size ms) ls (token Token.begin_object) inside (lexemes_of true ts) e refl (λ depth h. open_quiet depth 0 h) (λ depth. refl)
      (skip_members ms (drop 1 ls) ts p.left)

  skip_items : (js : Items) (ls : Placed) (ts : List Token) → lexemes ls ≡ lexemes_of false (items_tokens js ++ ts) → Skipped (items_size js) 1 ls (lexemes_of true ts)
  skip_items no_items ls ts e = closing (token Token.end_array) ls (lexemes_of true ts) e (λ depth h. refl) (λ depth. refl)
  skip_items (item j js) ls ts e =
      let first : lexemes ls ≡ lexemes_of false (json_tokens j ++ (items_tokens js ++ ts)) = e ∙ ap (lexemes_of false) (append_assoc (json_tokens j) (items_tokens js) ts) in
      let v = skip_value j ls (items_tokens js ++ ts) first in
      let rest = more_items js (drop (size j) ls) ts v.left (λ ks f. skip_items js ks ts f) in
      and_then (size j) (comma_before js + items_size js) (items_size (item j js)) 1 ls (lexemes_of true (items_tokens js ++ ts)) (lexemes_of true ts) refl v rest

  skip_members : (ms : Members) (ls : Placed) (ts : List Token) → lexemes ls ≡ lexemes_of false (members_tokens ms ++ ts) → Skipped (members_size ms) 1 ls (lexemes_of true ts)
  skip_members no_members ls ts e = closing (token Token.end_object) ls (lexemes_of true ts) e close_quiet (λ depth. refl)
  skip_members (member k j ms) ls ts e =
      let us = (json_tokens j ++ members_tokens ms) ++ ts in
      let a = pass ls (token (Token.string k)) (colon ∷ lexemes_of false us) e in
      let b = pass (drop 1 ls) colon (lexemes_of false us) a.left in
      let two : drop 2 ls ≡ drop 1 (drop 1 ls) = further 1 1 2 ls refl in
      let first : lexemes (drop 2 ls) ≡ lexemes_of false (json_tokens j ++ (members_tokens ms ++ ts)) =
      ap lexemes two ∙ b.left ∙ ap (lexemes_of false) (append_assoc (json_tokens j) (members_tokens ms) ts) in
      let v = skip_value j (drop 2 ls) (members_tokens ms ++ ts) first in
      let rest = more_members ms (drop (size j) (drop 2 ls)) ts v.left (λ ks f. skip_members ms ks ts f) in
      let tail = and_then (size j) (comma_before_member ms + members_size ms) (size j + (comma_before_member ms + members_size ms)) 1 (drop 2 ls)
      (lexemes_of true (members_tokens ms ++ ts)) (lexemes_of true ts) refl v rest in
      let far = further (size j + (comma_before_member ms + members_size ms)) 2 (members_size (member k j ms)) ls refl in
      record {
        left = ap lexemes far ∙ tail.left;
        quiet = λ depth h.
            a.quiet depth refl ∙ b.quiet depth (close_quiet depth h) ∙ ap (marked depth) (sym two) ∙ tail.quiet depth h ∙ ap (marked (depth - 1)) (sym far);
      }

-- ---- the last lexeme of an object is its closing brace

pub record Closed (n : ℕ) (ls : Placed) : Type 0 where
  pub index : ℕ
  pub sum : n ≡ index + 1
  pub place : ℕ
  pub rest : Placed
  pub is : drop index ls ≡ (place, token Token.end_object) ∷ rest

first_closed : (ls : Placed) (rest : List Lexeme) → lexemes ls ≡ token Token.end_object ∷ rest → Closed 1 ls
first_closed [] rest e = cc
first_closed (q ∷ ls) rest e = let h : q.1 ≡ token Token.end_object = cc in record { index = 0; sum = omega arith; place = q.0; rest = ls; is = ap (λ l. (q.0, l) ∷ ls) h }

closed_later : (a b n : ℕ) (ls : Placed) → n ≡ a + b → Closed b (drop a ls) → Closed n ls
closed_later a b n ls sum c = record { index = a + c.index; sum = omega (arith, c.sum); place = c.place; rest = c.rest; is = further c.index a (a + c.index) ls refl ∙ c.is }

closed_members : (ms : Members) (ls : Placed) (ts : List Token) → lexemes ls ≡ lexemes_of true (members_tokens ms ++ ts)
    → ((ks : Placed) → lexemes ks ≡ lexemes_of false (members_tokens ms ++ ts) → Closed (members_size ms) ks) → Closed (comma_before_member ms + members_size ms) ls
closed_members no_members ls ts e f = closed_later 0 1 (0 + 1) ls refl (f ls e)
closed_members (member k j ms) ls ts e f =
    let p = pass ls comma (lexemes_of false (members_tokens (member k j ms) ++ ts)) e in
    closed_later 1 (members_size (member k j ms)) (1 + members_size (member k j ms)) ls refl (f (drop 1 ls) p.left)

pub members_closed : (ms : Members) (ls : Placed) (ts : List Token) → lexemes ls ≡ lexemes_of false (members_tokens ms ++ ts) → Closed (members_size ms) ls
members_closed no_members ls ts e = first_closed ls (lexemes_of true ts) e
members_closed (member k j ms) ls ts e =
    let us = (json_tokens j ++ members_tokens ms) ++ ts in
    let a = pass ls (token (Token.string k)) (colon ∷ lexemes_of false us) e in
    let b = pass (drop 1 ls) colon (lexemes_of false us) a.left in
    let two : drop 2 ls ≡ drop 1 (drop 1 ls) = further 1 1 2 ls refl in
    let first : lexemes (drop 2 ls) ≡ lexemes_of false (json_tokens j ++ (members_tokens ms ++ ts)) =
    ap lexemes two ∙ b.left ∙ ap (lexemes_of false) (append_assoc (json_tokens j) (members_tokens ms) ts) in
    let v = skip_value j (drop 2 ls) (members_tokens ms ++ ts) first in
    let rest = closed_members ms (drop (size j) (drop 2 ls)) ts v.left (λ ks f. members_closed ms ks ts f) in
    closed_later 2 (size j + (comma_before_member ms + members_size ms)) (members_size (member k j ms)) ls refl
    (closed_later (size j) (comma_before_member ms + members_size ms) (size j + (comma_before_member ms + members_size ms)) (drop 2 ls) refl rest)
