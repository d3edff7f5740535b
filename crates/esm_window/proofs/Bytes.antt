-- What the lexer and the scan make of one byte.
use Rattle.std.proofs.Common.{◌≡◌, ℕ, ◌+◌, ◌-◌, Bool, true, false, ◌&&◌, ◌||◌, ◌==◌, cond, if◌then◌else◌, List, ◌∷◌, Option, Some, None, refl, sym, ap, ◌∙◌, subst}
use Rattle.std.proofs.lemmas.Bool.{eqb-true, or_parts}
use Rattle.json.specs.Token.{Token}
use Rattle.json.specs.Text.{content, plain}
use Rattle.json.specs.Word.{is_operator, is_space, head, ends_word, after_number, number_before, word}
use Rattle.json.specs.Lex.{token, Class, quote, backslash, operator, space, other, class, operator_lexeme, string_token, Mode, between, in_word, in_string, in_escape}
use Rattle.json.specs.Align.{is_good, is_blank}
use Rattle.esm_window.specs.Scan as scan
use Rattle.esm_window.specs.Layout.{next, begin, byte_of, begins_mark, begins_deep, scanned, GoodBegin, clean_byte, clean, InWord}

-- a byte that is no quote, no backslash and no operator
pub record Plain (x : ℕ) : Type 0 where
  pub no_quote : (x == 34) ≡ false
  pub no_slash : (x == 92) ≡ false
  pub no_mark : (depth : ℕ) → scan.is_mark scan.outside depth x ≡ false
  pub same_depth : (depth : ℕ) → scan.depth_after scan.outside depth x ≡ depth

abbrev pub Facts : Class → ℕ → Type 0
Facts quote x = x ≡ 34
Facts backslash x = x ≡ 92
Facts operator x = (byte_of (operator_lexeme x) ≡ x) × ((x == 34) ≡ false) × ((x == 92) ≡ false)
Facts space x = Plain x
Facts other x = Plain x

pick : (P : ℕ → Type 0) → P 123 → P 125 → P 91 → P 93 → P 58 → P 44 → (x : ℕ) (a b c d e f : Bool)
    → (a ≡ true → x ≡ 123) → (b ≡ true → x ≡ 125) → (c ≡ true → x ≡ 91) → (d ≡ true → x ≡ 93) → (e ≡ true → x ≡ 58) → (f ≡ true → x ≡ 44)
    → (a || b || c || d || e || f) ≡ true → P x
pick P pa pb pc pd pe pf x true b c d e f fa fb fc fd fe ff h = subst P (sym (fa refl)) pa
pick P pa pb pc pd pe pf x false true c d e f fa fb fc fd fe ff h = subst P (sym (fb refl)) pb
pick P pa pb pc pd pe pf x false false true d e f fa fb fc fd fe ff h = subst P (sym (fc refl)) pc
pick P pa pb pc pd pe pf x false false false true e f fa fb fc fd fe ff h = subst P (sym (fd refl)) pd
pick P pa pb pc pd pe pf x false false false false true f fa fb fc fd fe ff h = subst P (sym (fe refl)) pe
pick P pa pb pc pd pe pf x false false false false false true fa fb fc fd fe ff h = subst P (sym (ff refl)) pf
pick P pa pb pc pd pe pf x false false false false false false fa fb fc fd fe ff h = cc

-- an operator is one of these
pub by_operator : (P : ℕ → Type 0) → P 123 → P 125 → P 91 → P 93 → P 58 → P 44 → (x : ℕ) → is_operator x ≡ true → P x
by_operator P pa pb pc pd pe pf x h =
    pick P pa pb pc pd pe pf x (x == 123) (x == 125) (x == 91) (x == 93) (x == 58) (x == 44) (eqb-true x 123) (eqb-true x 125) (eqb-true x 91) (eqb-true x 93) (eqb-true x 58) (eqb-true x 44) h

operators : (x : ℕ) → is_operator x ≡ true → byte_of (operator_lexeme x) ≡ x
operators = by_operator (λ x. byte_of (operator_lexeme x) ≡ x) refl refl refl refl refl refl

plain_is : (x : ℕ) → (x == 34) ≡ false → (x == 92) ≡ false → is_operator x ≡ false → Plain x
plain_is x q b h =
    let h44 = or_parts ((x == 123) || (x == 125) || (x == 91) || (x == 93) || (x == 58)) (x == 44) h in
    let h58 = or_parts ((x == 123) || (x == 125) || (x == 91) || (x == 93)) (x == 58) h44.0 in
    let h93 = or_parts ((x == 123) || (x == 125) || (x == 91)) (x == 93) h58.0 in
    let h91 = or_parts ((x == 123) || (x == 125)) (x == 91) h93.0 in
    let h125 = or_parts (x == 123) (x == 125) h91.0 in
    record {
      no_quote = q;
      no_slash = b;
      no_mark = λ depth. (λ i. ((h125.0 i) && (depth == 0)) || ((h125.1 i || h58.1 i || h44.1 i) && (depth == 1)));
      same_depth = λ depth. (λ i. if h125.0 i || h91.1 i then depth + 1 else (if h125.1 i || h93.1 i then depth - 1 else depth));
    }

by_tests : (x : ℕ) (q b o s : Bool) → (x == 34) ≡ q → (x == 92) ≡ b → is_operator x ≡ o → Facts (cond q quote (cond b backslash (cond o operator (cond s space other)))) x
by_tests x true b o s eq eb eo = eqb-true x 34 eq
by_tests x false true o s eq eb eo = eqb-true x 92 eb
by_tests x false false true s eq eb eo = (operators x eo, eq, eb)
by_tests x false false false true eq eb eo = plain_is x eq eb eo
by_tests x false false false false eq eb eo = plain_is x eq eb eo

pub facts : (x : ℕ) → Facts (class x) x
facts x = by_tests x (x == 34) (x == 92) (is_operator x) (is_space x) refl refl refl

-- ---- texts and words are no marks

pub text_byte : (o : Option (List ℕ)) → byte_of (token (string_token o)) ≡ 48
text_byte None = refl
text_byte (Some s) = refl

-- a word is a number, a literal or bad
module _ (P : Token → Type 0) (numbers : (s : List ℕ) → P (Token.number s)) (truths : (b : Bool) → P (Token.boolean b)) (null : P Token.null) (bad : P Token.bad) where
  either : (b : Bool) (x y : Token) → P x → P y → P (cond b x y)
  either true x y p q = p
  either false x y p q = q

  by_number : (t : List ℕ) (o : Option (List ℕ)) → P (number_before t o)
  by_number t None = bad
  by_number t (Some r) = either (ends_word r) _ Token.bad (numbers _) bad

  pub by_word : (t : List ℕ) → P (word t)
  unfolding word
  by_word t =
      either (head t == 116) _ _ (either _ (Token.boolean true) Token.bad (truths true) bad)
      (either (head t == 102) _ _ (either _ (Token.boolean false) Token.bad (truths false) bad)
      (either (head t == 110) _ _ (either _ Token.null Token.bad null bad) (by_number t (after_number t))))

pub word_byte : (t : List ℕ) → byte_of (token (word t)) ≡ 48
word_byte = by_word (λ t. byte_of (token t) ≡ 48) (λ s. refl) (λ b. refl) refl refl

-- ---- white space

blank : (x : ℕ) (q b o s : Bool) → (x == 34) ≡ q → (x == 92) ≡ b → is_operator x ≡ o → is_space x ≡ s → is_space x ≡ is_blank (cond q quote (cond b backslash (cond o operator (cond s space other))))
blank x true b o s eq eb eo es = ap is_space (eqb-true x 34 eq)
blank x false true o s eq eb eo es = ap is_space (eqb-true x 92 eb)
blank x false false true s eq eb eo es = by_operator (λ y. is_space y ≡ false) refl refl refl refl refl refl x eo
blank x false false false true eq eb eo es = es
blank x false false false false eq eb eo es = es

pub space_is : (x : ℕ) → is_space x ≡ is_blank (class x)
space_is x = blank x (x == 34) (x == 92) (is_operator x) (is_space x) refl refl refl refl

-- ---- one byte of both

pub record Stepped (m : Mode) (c : Class) (x : ℕ) (xs : List ℕ) : Type 0 where
  pub mark : (depth : ℕ) → scan.is_mark (scanned m) depth x ≡ begins_mark depth (begin m c x xs)
  pub depth : (depth : ℕ) → scan.depth_after (scanned m) depth x ≡ begins_deep depth (begin m c x xs)
  pub part : scan.part_after (scanned m) x ≡ scanned (next m c)
  pub word : InWord (next m c) (clean xs)

operator_step : (x : ℕ) (xs : List ℕ) → Facts operator x → Stepped between operator x xs
operator_step x xs f = record {
  mark = λ depth. ap (scan.is_mark scan.outside depth) (sym f.0);
  depth = λ depth. ap (scan.depth_after scan.outside depth) (sym f.0);
  part = λ i. if f.1 i then scan.in_text else scan.outside;
  word = tt;
}

pub step : (m : Mode) (c : Class) (x : ℕ) (xs : List ℕ) → Facts c x → InWord m (clean_byte c (clean xs)) → GoodBegin (begin m c x xs)
    → (is_good (word (x ∷ xs)) ≡ true → clean_byte c (clean xs) ≡ true) → Stepped m c x xs
step between quote x xs f w g k = record {
  mark = λ depth. ap (scan.is_mark scan.outside depth) f ∙ sym (ap (scan.is_mark scan.outside depth) (text_byte (content plain xs)));
  depth = λ depth. ap (scan.depth_after scan.outside depth) f ∙ sym (ap (scan.depth_after scan.outside depth) (text_byte (content plain xs)));
  part = ap (scan.part_after scan.outside) f;
  word = tt;
}
step between backslash x xs f w g k = cc
step between operator x xs f w g k = operator_step x xs f
step between space x xs f w g k = record { mark = f.no_mark; depth = f.same_depth; part = λ i. if f.no_quote i then scan.in_text else scan.outside; word = tt }
step between other x xs f w g k = record {
  mark = λ depth. f.no_mark depth ∙ sym (ap (scan.is_mark scan.outside depth) (word_byte (x ∷ xs)));
  depth = λ depth. f.same_depth depth ∙ sym (ap (scan.depth_after scan.outside depth) (word_byte (x ∷ xs)));
  part = λ i. if f.no_quote i then scan.in_text else scan.outside;
  word = k g;
}
step in_word quote x xs f w g k = cc
step in_word backslash x xs f w g k = cc
step in_word operator x xs f w g k = let s = operator_step x xs f in record { mark = s.mark; depth = s.depth; part = s.part; word = tt }
step in_word space x xs f w g k = record { mark = f.no_mark; depth = f.same_depth; part = λ i. if f.no_quote i then scan.in_text else scan.outside; word = tt }
step in_word other x xs f w g k = record { mark = f.no_mark; depth = f.same_depth; part = λ i. if f.no_quote i then scan.in_text else scan.outside; word = w }
step in_string quote x xs f w g k = record { mark = λ depth. refl; depth = λ depth. refl; part = ap (scan.part_after scan.in_text) f; word = tt }
step in_string backslash x xs f w g k = record { mark = λ depth. refl; depth = λ depth. refl; part = ap (scan.part_after scan.in_text) f; word = tt }
step in_string operator x xs f w g k =
    record { mark = λ depth. refl; depth = λ depth. refl; part = λ i. if f.1 i then scan.outside else (if f.2 i then scan.in_escape else scan.in_text); word = tt }
step in_string space x xs f w g k =
    record { mark = λ depth. refl; depth = λ depth. refl; part = λ i. if f.no_quote i then scan.outside else (if f.no_slash i then scan.in_escape else scan.in_text); word = tt }
step in_string other x xs f w g k =
    record { mark = λ depth. refl; depth = λ depth. refl; part = λ i. if f.no_quote i then scan.outside else (if f.no_slash i then scan.in_escape else scan.in_text); word = tt }
step in_escape c x xs f w g k = record { mark = λ depth. refl; depth = λ depth. refl; part = refl; word = tt }
