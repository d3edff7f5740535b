-- The lexemes of a text up to a closing brace are those that it has there by itself.
use Rattle.std.proofs.Common.{◌≡◌, ◌∙◌, ℕ, suc, ◌+◌, ◌-◌, ◌≤◌, arith, true, false, refl, sym, ap, ap₂, subst, List, [], ◌∷◌, ◌++◌, append_assoc, length, take, drop, Option, Some, None}
use Rattle.std.proofs.lemmas.Bool.{false≢true}
use Rattle.std.proofs.lemmas.List.{take-append-le, take-append-drop}
use Rattle.json.specs.Token.{Token}
use Rattle.json.specs.Text.{plain, content}
use Rattle.json.specs.Word.{word}
use Rattle.json.specs.Lex.{Lexeme, token, Class, quote, backslash, operator, space, other, class, operator_lexeme, Mode, between, in_word, in_string, in_escape, lex, string_token}
use Rattle.json.specs.Align.{is_good}
use Rattle.esm_window.specs.Layout.{AllGood, GoodBegin, Placed, begin, byte_of, gap, gap_before, lay, mode_at, next, put, put_at}
use Rattle.esm_window.proofs.Bytes.{Facts, facts, text_byte, word_byte}
use Rattle.esm_window.proofs.Contents.{content_front}
use Rattle.esm_window.proofs.Layouts.{lex-cons, lex-nil}
use Rattle.esm_window.proofs.Located.{IsMark, same_heads}
use Rattle.esm_ddb.proofs.LexedOn.{IsOut, content_on, Kept, lexed_on, put_good, put_more}
use Rattle.esm_ddb.proofs.WordFronts.{word_front}

-- ---- a text in quotes that closes before the brace

gap_less : (o : Option Lexeme) (n k : ℕ) → n ≤ k → gap_before o n ≤ suc k
gap_less None n k h = omega (arith, h)
gap_less (Some l) n k h = omega arith

gap_brace : (m : Mode) (ys : List ℕ) → IsOut m → gap m (125 ∷ ys) ≤ 0
unfolding gap
gap_brace between ys out = omega arith
gap_brace in_word ys out = omega arith
gap_brace in_string ys out = absurd out
gap_brace in_escape ys out = absurd out

gap_within : (m : Mode) (xs ys : List ℕ) → IsOut (mode_at m xs) → gap m (xs ++ 125 ∷ ys) ≤ length xs
unfolding gap
gap_within m [] ys out = gap_brace m ys out
gap_within m (x ∷ xs) ys out =
    gap_less (begin m (class x) x (xs ++ 125 ∷ ys)) (gap (next m (class x)) (xs ++ 125 ∷ ys)) (length xs) (gap_within (next m (class x)) xs ys out)

kept_some : (o p : Option (List ℕ)) (s : List ℕ) → Kept o p → o ≡ Some s → p ≡ Some s
kept_some None p s h e = cc
kept_some (Some r) p s h e = h ∙ e

content_within : (xs ys s : List ℕ) → IsOut (mode_at in_string xs) → content plain (xs ++ 125 ∷ ys) ≡ Some s → content plain xs ≡ Some s
content_within xs ys s out e =
    let n = gap in_string (xs ++ 125 ∷ ys) in
    let short : take n (xs ++ 125 ∷ ys) ≡ take n xs = take-append-le n xs (125 ∷ ys) (gap_within in_string xs ys out) in
    let front : content plain (take n xs) ≡ Some s = ap (content plain) (sym short) ∙ content_front (xs ++ 125 ∷ ys) s e in
    let whole : content plain (take n xs ++ drop n xs) ≡ Some s =
    kept_some (content plain (take n xs)) (content plain (take n xs ++ drop n xs)) s (content_on plain (take n xs) (drop n xs)) front in
    ap (content plain) (sym (take-append-drop n xs)) ∙ whole

text_front : (xs ys : List ℕ) (o : Option (List ℕ)) → IsOut (mode_at in_string xs) → content plain (xs ++ 125 ∷ ys) ≡ o → is_good (string_token o) ≡ true → o ≡ content plain xs
text_front xs ys None out e good = absurd (false≢true good)
text_front xs ys (Some s) out e good = sym (content_within xs ys s out e)

-- ---- lexemes

begin_front : (m : Mode) (c : Class) (x : ℕ) (xs ys : List ℕ) → GoodBegin (begin m c x (xs ++ 125 ∷ ys)) → IsOut (mode_at (next m c) xs)
    → begin m c x (xs ++ 125 ∷ ys) ≡ begin m c x xs
begin_front between quote x xs ys good out = ap (λ o. Some (token (string_token o))) (text_front xs ys (content plain (xs ++ 125 ∷ ys)) out refl good)
begin_front between backslash x xs ys good out = refl
begin_front between operator x xs ys good out = refl
begin_front between space x xs ys good out = refl
begin_front between other x xs ys good out = ap (λ t. Some (token t)) (word_front (125 ∷ ys) refl (x ∷ xs))
begin_front in_word quote x xs ys good out = refl
begin_front in_word backslash x xs ys good out = refl
begin_front in_word operator x xs ys good out = refl
begin_front in_word space x xs ys good out = refl
begin_front in_word other x xs ys good out = refl
begin_front in_string c x xs ys good out = refl
begin_front in_escape c x xs ys good out = refl

-- of a good text that goes on with a brace where no text is open
lexed_front : (m : Mode) (xs ys : List ℕ) → AllGood (lex m (xs ++ 125 ∷ ys)) → IsOut (mode_at m xs) → lex m (xs ++ 125 ∷ ys) ≡ lex m xs ++ lex (mode_at m xs) (125 ∷ ys)
lexed_front m [] ys good out = sym (ap (λ ls. ls ++ lex m (125 ∷ ys)) (lex-nil m))
lexed_front m (x ∷ xs) ys good out =
    let n = next m (class x) in
    let p = put_good (begin m (class x) x (xs ++ 125 ∷ ys)) (lex n (xs ++ 125 ∷ ys)) (subst AllGood (lex-cons m x (xs ++ 125 ∷ ys)) good) in
    lex-cons m x (xs ++ 125 ∷ ys)
    ∙ ap₂ put (begin_front m (class x) x xs ys p.0 out) (lexed_front n xs ys p.1 out)
    ∙ put_more (begin m (class x) x xs) (lex n xs) (lex (mode_at n xs) (125 ∷ ys))
    ∙ ap (λ ls. ls ++ lex (mode_at n xs) (125 ∷ ys)) (sym (lex-cons m x xs))

front_good : (ls ks : List Lexeme) → AllGood (ls ++ ks) → AllGood ls
front_good [] ks h = tt
front_good (l ∷ ls) ks h = (h.0, front_good ls ks h.1)

brace_lexed : (m : Mode) (ys : List ℕ) → IsOut m → lex m (125 ∷ ys) ≡ token Token.end_object ∷ lex between ys
unfolding lex
brace_lexed between ys out = refl
brace_lexed in_word ys out = refl
brace_lexed in_string ys out = absurd out
brace_lexed in_escape ys out = absurd out

-- the text with its brace, and what follows
pub lexed_with_brace : (xs ys : List ℕ) → AllGood (lex between (xs ++ 125 ∷ ys)) → IsOut (mode_at between xs)
    → lex between (xs ++ 125 ∷ ys) ≡ lex between (xs ++ 125 ∷ []) ++ lex between ys
unfolding lex
lexed_with_brace xs ys good out =
    let m = mode_at between xs in
    let all = lexed_front between xs ys good out in
    let front : AllGood (lex between xs) = front_good (lex between xs) (lex m (125 ∷ ys)) (subst AllGood all good) in
    let alone : lex between (xs ++ 125 ∷ []) ≡ lex between xs ++ lex m (125 ∷ []) = lexed_on between xs (125 ∷ []) front refl in
    let last : lex m (125 ∷ ys) ≡ lex m (125 ∷ []) ++ lex between ys = brace_lexed m ys out ∙ sym (ap (λ ls. ls ++ lex between ys) (brace_lexed m [] out)) in
    all ∙ ap (λ ls. lex between xs ++ ls) last ∙ sym (append_assoc (lex between xs) (lex m (125 ∷ [])) (lex between ys)) ∙ ap (λ ls. ls ++ lex between ys) (sym alone)

-- ---- where a bracket, comma or colon stands in a text

pub record Parted (m : Mode) (p : ℕ) (xs : List ℕ) (place : ℕ) (l : Lexeme) (rest : Placed) : Type 0 where
  pub front : List ℕ
  pub tail : List ℕ
  pub is : xs ≡ front ++ byte_of l ∷ tail
  pub at : place ≡ p + length front
  pub out : IsOut (mode_at m front)
  pub more : rest ≡ lay between (place + 1) tail

pub record First (m : Mode) (c : Class) (x : ℕ) (l : Lexeme) : Type 0 where
  pub out : IsOut m
  pub next_is : next m c ≡ between
  pub byte : x ≡ byte_of l

pub first : (m : Mode) (c : Class) (x : ℕ) (xs : List ℕ) (l : Lexeme) → begin m c x xs ≡ Some l → IsMark l → Facts c x → First m c x l
first between quote x xs l e mark f = let h : token (string_token (content plain xs)) ≡ l = cc in absurd (mark (sym (ap byte_of h) ∙ text_byte (content plain xs)))
first between backslash x xs l e mark f = let h : token Token.bad ≡ l = cc in absurd (mark (sym (ap byte_of h)))
first between operator x xs l e mark f = let h : operator_lexeme x ≡ l = cc in record { out = tt; next_is = refl; byte = sym f.0 ∙ ap byte_of h }
first between space x xs l e mark f = cc
first between other x xs l e mark f = let h : token (word (x ∷ xs)) ≡ l = cc in absurd (mark (sym (ap byte_of h) ∙ word_byte (x ∷ xs)))
first in_word quote x xs l e mark f = cc
first in_word backslash x xs l e mark f = cc
first in_word operator x xs l e mark f = let h : operator_lexeme x ≡ l = cc in record { out = tt; next_is = refl; byte = sym f.0 ∙ ap byte_of h }
first in_word space x xs l e mark f = cc
first in_word other x xs l e mark f = cc
first in_string c x xs l e mark f = cc
first in_escape c x xs l e mark f = cc

parted_step : (x : ℕ) (xs : List ℕ) (m : Mode) (p : ℕ) (before : Placed) (place : ℕ) (l : Lexeme) (rest : Placed) → IsMark l → (o : Option Lexeme) → begin m (class x) x xs ≡ o
    → ((front : Placed) → lay (next m (class x)) (p + 1) xs ≡ front ++ (place, l) ∷ rest → Parted (next m (class x)) (p + 1) xs place l rest)
    → put_at p o (lay (next m (class x)) (p + 1) xs) ≡ before ++ (place, l) ∷ rest → Parted m p (x ∷ xs) place l rest
parted_step x xs m p before place l rest mark None e onward is =
    let r = onward before is in
    record { front = x ∷ r.front; tail = r.tail; is = ap (λ ys. x ∷ ys) r.is; at = omega (arith, r.at); out = r.out; more = r.more }
parted_step x xs m p [] place l rest mark (Some k) e onward is =
    let heads = same_heads (p, k) (place, l) (lay (next m (class x)) (p + 1) xs) rest is in
    let same : k ≡ l = heads.1 in
    let b = first m (class x) x xs l (e ∙ ap Some same) mark (facts x) in
    record {
      front = [];
      tail = xs;
      is = ap (λ y. y ∷ xs) b.byte;
      at = omega (arith, heads.0);
      out = b.out;
      more = sym heads.2 ∙ ap₂ (λ n i. lay n (i + 1) xs) b.next_is heads.0;
    }
parted_step x xs m p (a ∷ front) place l rest mark (Some k) e onward is =
    let r = onward front (same_heads (p, k) a (lay (next m (class x)) (p + 1) xs) (front ++ (place, l) ∷ rest) is).2 in
    record { front = x ∷ r.front; tail = r.tail; is = ap (λ ys. x ∷ ys) r.is; at = omega (arith, r.at); out = r.out; more = r.more }

pub parted : (xs : List ℕ) (m : Mode) (p : ℕ) (before : Placed) (place : ℕ) (l : Lexeme) (rest : Placed) → IsMark l → lay m p xs ≡ before ++ (place, l) ∷ rest → Parted m p xs place l rest
unfolding lay
parted [] m p [] place l rest mark is = cc
parted [] m p (a ∷ front) place l rest mark is = cc
parted (x ∷ xs) m p before place l rest mark is =
    parted_step x xs m p before place l rest mark (begin m (class x) x xs) refl (λ front e. parted xs (next m (class x)) (p + 1) front place l rest mark e) is
