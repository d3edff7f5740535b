-- The lexemes that good tokens were punctuated from.
use Rattle.std.proofs.Common.{◌≡◌, ℕ, List, [], ◌∷◌, ◌++◌, Bool, true, false, ◌&&◌, refl, ap, ◌∙◌}
use Rattle.std.proofs.lemmas.Bool.{false≢true}
use Rattle.json.specs.Token.{Token, begin_object, end_object, begin_array, end_array, key, string, number, boolean, null, bad}
use Rattle.json.specs.Lex.{Lexeme, token, comma, colon, Place, fresh, after_value, after_comma, after_key, place_token, punctuate}
use Rattle.json.specs.Print.{begins, ends}
use Rattle.esm_window.specs.Layout.{AllGood, NoBad, token_lexemes, comma_if, lexemes_of, lexemes_at}

no_text : (s : List ℕ) (b : Bool) (k : Place → List Token) → NoBad (place_token after_value (string s) b k) → ⊥
no_text s true k n = false≢true n.0
no_text s false k n = false≢true n.0

no_text_after_key : (s : List ℕ) (b : Bool) (k : Place → List Token) → NoBad (place_token after_key (string s) b k) → ⊥
no_text_after_key s true k n = false≢true n.0
no_text_after_key s false k n = false≢true n.0

-- after a comma a token stands that may follow one
comma_first : (ls : List Lexeme) → NoBad (punctuate after_comma ls) → comma ∷ lexemes_of false (punctuate after_comma ls) ≡ lexemes_of true (punctuate after_comma ls)
unfolding punctuate
comma_first [] n = absurd (false≢true n.0)
comma_first (token begin_object ∷ ls) n = refl
comma_first (token begin_array ∷ ls) n = refl
comma_first (token (number s) ∷ ls) n = refl
comma_first (token (boolean b) ∷ ls) n = refl
comma_first (token null ∷ ls) n = refl
comma_first (token end_object ∷ ls) n = absurd (false≢true n.0)
comma_first (token end_array ∷ ls) n = absurd (false≢true n.0)
comma_first (token (key s) ∷ ls) n = absurd (false≢true n.0)
comma_first (token bad ∷ ls) n = absurd (false≢true n.0)
comma_first (token (string s) ∷ []) n = refl
comma_first (token (string s) ∷ (token t ∷ ls)) n = refl
comma_first (token (string s) ∷ (comma ∷ ls)) n = refl
comma_first (token (string s) ∷ (colon ∷ ls)) n = refl
comma_first (comma ∷ ls) n = absurd (false≢true n.0)
comma_first (colon ∷ ls) n = absurd (false≢true n.0)

pub punctuated_from : (p : Place) (ls : List Lexeme) → NoBad (punctuate p ls) → ls ≡ lexemes_at p (punctuate p ls)
unfolding punctuate
punctuated_from fresh [] n = refl
punctuated_from after_value [] n = refl
punctuated_from after_comma [] n = absurd (false≢true n.0)
punctuated_from after_key [] n = absurd (false≢true n.0)
punctuated_from fresh (token begin_object ∷ ls) n = ap (λ l. token begin_object ∷ l) (punctuated_from fresh ls n.1)
punctuated_from fresh (token begin_array ∷ ls) n = ap (λ l. token begin_array ∷ l) (punctuated_from fresh ls n.1)
punctuated_from fresh (token (number s) ∷ ls) n = ap (λ l. token (number s) ∷ l) (punctuated_from after_value ls n.1)
punctuated_from fresh (token (boolean b) ∷ ls) n = ap (λ l. token (boolean b) ∷ l) (punctuated_from after_value ls n.1)
punctuated_from fresh (token null ∷ ls) n = ap (λ l. token null ∷ l) (punctuated_from after_value ls n.1)
punctuated_from fresh (token end_object ∷ ls) n = ap (λ l. token end_object ∷ l) (punctuated_from after_value ls n.1)
punctuated_from fresh (token end_array ∷ ls) n = ap (λ l. token end_array ∷ l) (punctuated_from after_value ls n.1)
punctuated_from fresh (token (key s) ∷ ls) n = absurd (false≢true n.0)
punctuated_from fresh (token bad ∷ ls) n = absurd (false≢true n.0)
punctuated_from fresh (token (string s) ∷ []) n = ap (λ l. token (string s) ∷ l) (punctuated_from after_value [] n.1)
punctuated_from fresh (token (string s) ∷ (token t ∷ ls)) n = ap (λ l. token (string s) ∷ l) (punctuated_from after_value (token t ∷ ls) n.1)
punctuated_from fresh (token (string s) ∷ (comma ∷ ls)) n = ap (λ l. token (string s) ∷ l) (punctuated_from after_value (comma ∷ ls) n.1)
punctuated_from fresh (token (string s) ∷ colon ∷ ls) n = ap (λ l. token (string s) ∷ colon ∷ l) (punctuated_from fresh ls n.1)
punctuated_from fresh (comma ∷ ls) n = absurd (false≢true n.0)
punctuated_from fresh (colon ∷ ls) n = absurd (false≢true n.0)
punctuated_from after_comma (token begin_object ∷ ls) n = ap (λ l. token begin_object ∷ l) (punctuated_from fresh ls n.1)
punctuated_from after_comma (token begin_array ∷ ls) n = ap (λ l. token begin_array ∷ l) (punctuated_from fresh ls n.1)
punctuated_from after_comma (token (number s) ∷ ls) n = ap (λ l. token (number s) ∷ l) (punctuated_from after_value ls n.1)
punctuated_from after_comma (token (boolean b) ∷ ls) n = ap (λ l. token (boolean b) ∷ l) (punctuated_from after_value ls n.1)
punctuated_from after_comma (token null ∷ ls) n = ap (λ l. token null ∷ l) (punctuated_from after_value ls n.1)
punctuated_from after_comma (token end_object ∷ ls) n = absurd (false≢true n.0)
punctuated_from after_comma (token end_array ∷ ls) n = absurd (false≢true n.0)
punctuated_from after_comma (token (key s) ∷ ls) n = absurd (false≢true n.0)
punctuated_from after_comma (token bad ∷ ls) n = absurd (false≢true n.0)
punctuated_from after_comma (token (string s) ∷ []) n = ap (λ l. token (string s) ∷ l) (punctuated_from after_value [] n.1)
punctuated_from after_comma (token (string s) ∷ (token t ∷ ls)) n = ap (λ l. token (string s) ∷ l) (punctuated_from after_value (token t ∷ ls) n.1)
punctuated_from after_comma (token (string s) ∷ (comma ∷ ls)) n = ap (λ l. token (string s) ∷ l) (punctuated_from after_value (comma ∷ ls) n.1)
punctuated_from after_comma (token (string s) ∷ colon ∷ ls) n = ap (λ l. token (string s) ∷ colon ∷ l) (punctuated_from fresh ls n.1)
punctuated_from after_comma (comma ∷ ls) n = absurd (false≢true n.0)
punctuated_from after_comma (colon ∷ ls) n = absurd (false≢true n.0)
punctuated_from after_value (token end_object ∷ ls) n = ap (λ l. token end_object ∷ l) (punctuated_from after_value ls n.1)
punctuated_from after_value (token end_array ∷ ls) n = ap (λ l. token end_array ∷ l) (punctuated_from after_value ls n.1)
punctuated_from after_value (token begin_object ∷ ls) n = absurd (false≢true n.0)
punctuated_from after_value (token begin_array ∷ ls) n = absurd (false≢true n.0)
punctuated_from after_value (token (key s) ∷ ls) n = absurd (false≢true n.0)
punctuated_from after_value (token (number s) ∷ ls) n = absurd (false≢true n.0)
punctuated_from after_value (token (boolean b) ∷ ls) n = absurd (false≢true n.0)
punctuated_from after_value (token null ∷ ls) n = absurd (false≢true n.0)
punctuated_from after_value (token bad ∷ ls) n = absurd (false≢true n.0)
punctuated_from after_value (token (string s) ∷ ls) n = absurd (no_text s _ _ n)
punctuated_from after_value (comma ∷ ls) n = ap (λ l. comma ∷ l) (punctuated_from after_comma ls n) ∙ comma_first ls n
punctuated_from after_value (colon ∷ ls) n = absurd (false≢true n.0)
punctuated_from after_key (token begin_object ∷ ls) n = absurd (false≢true n.0)
punctuated_from after_key (token end_object ∷ ls) n = absurd (false≢true n.0)
punctuated_from after_key (token begin_array ∷ ls) n = absurd (false≢true n.0)
punctuated_from after_key (token end_array ∷ ls) n = absurd (false≢true n.0)
punctuated_from after_key (token (key s) ∷ ls) n = absurd (false≢true n.0)
punctuated_from after_key (token (number s) ∷ ls) n = absurd (false≢true n.0)
punctuated_from after_key (token (boolean b) ∷ ls) n = absurd (false≢true n.0)
punctuated_from after_key (token null ∷ ls) n = absurd (false≢true n.0)
punctuated_from after_key (token bad ∷ ls) n = absurd (false≢true n.0)
punctuated_from after_key (token (string s) ∷ ls) n = absurd (no_text_after_key s _ _ n)
punctuated_from after_key (comma ∷ ls) n = absurd (false≢true n.0)
punctuated_from after_key (colon ∷ ls) n = ap (λ l. colon ∷ l) (punctuated_from fresh ls n)

-- ---- these lexemes are good

AllGood-append : (ls ks : List Lexeme) → AllGood ls → AllGood ks → AllGood (ls ++ ks)
AllGood-append [] ks g h = h
AllGood-append (l ∷ ls) ks g h = (g.0, AllGood-append ls ks g.1 h)

comma_good : (b : Bool) → AllGood (comma_if b)
comma_good true = (tt, tt)
comma_good false = tt

token_good : (t : Token) → AllGood (token_lexemes t)
token_good begin_object = (refl, tt)
token_good end_object = (refl, tt)
token_good begin_array = (refl, tt)
token_good end_array = (refl, tt)
token_good (key s) = (refl, (tt, tt))
token_good (string s) = (refl, tt)
token_good (number s) = (refl, tt)
token_good (boolean b) = (refl, tt)
token_good null = (refl, tt)
token_good bad = tt

pub lexemes_good : (after : Bool) (ts : List Token) → AllGood (lexemes_of after ts)
lexemes_good after [] = tt
lexemes_good after (t ∷ ts) =
    AllGood-append (comma_if (after && begins t)) (token_lexemes t ++ lexemes_of (ends t) ts) (comma_good (after && begins t))
    (AllGood-append (token_lexemes t) (lexemes_of (ends t) ts) (token_good t) (lexemes_good (ends t) ts))
