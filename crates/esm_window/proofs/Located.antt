-- Where a lexeme stands in the text.
use Rattle.std.proofs.Common.{◌≡◌, ℕ, suc, ◌+◌, ◌-◌, ◌<◌, ◌≤◌, true, false, cond, List, [], ◌∷◌, ◌++◌, length, take, drop, get_or, reverse, Option, Some, None, refl, sym, ap, ap₂, ◌∙◌, subst, arith, drop-drop, length-drop}
use Rattle.std.specs.List.{prefix_len}
use Rattle.std.proofs.lemmas.List.{get_or-drop, get_or-take, length-take-le}
use Rattle.std.proofs.lemmas.List.Sums.{suffix_len_is, prefix_len_passes, prefix_len-le-length}
use Rattle.json.specs.Token.{Token}
use Rattle.json.specs.Text.{content, plain}
use Rattle.json.specs.Word.{is_space, word}
use Rattle.json.specs.Lex.{Lexeme, token, Class, quote, backslash, operator, space, other, class, operator_lexeme, string_token, Mode, between, in_word, in_string, in_escape}
use Rattle.json.specs.Align.{is_blank}
use Rattle.esm_window.specs.Layout.{next, begin, Placed, put_at, lay, byte_of}
use Rattle.esm_window.proofs.Bytes.{Facts, facts, text_byte, word_byte, space_is}

-- a bracket, comma or colon
abbrev pub IsMark : Lexeme → Type 0
IsMark l = byte_of l ≡ 48 → ⊥

-- the lexeme is one byte there, and the text goes on with these lexemes
pub record Located (text : List ℕ) (place : ℕ) (l : Lexeme) (more : Placed) : Type 0 where
  pub here : drop place text ≡ byte_of l ∷ drop (place + 1) text
  pub rest : more ≡ lay between (place + 1) (drop (place + 1) text)

pub same_heads : (q r : ℕ × Lexeme) (ls ks : Placed) → q ∷ ls ≡ r ∷ ks → (q.0 ≡ r.0) × (q.1 ≡ r.1) × (ls ≡ ks)
same_heads q r ls ks e = let h : q ≡ r = cc in (ap (λ z. z.0) h, ap (λ z. z.1) h, cc)

begun_mark : (m : Mode) (c : Class) (x : ℕ) (xs : List ℕ) (l : Lexeme) → begin m c x xs ≡ Some l → IsMark l → Facts c x → (next m c ≡ between) × (x ≡ byte_of l)
begun_mark between quote x xs l e mark f = let h : token (string_token (content plain xs)) ≡ l = cc in absurd (mark (sym (ap byte_of h) ∙ text_byte (content plain xs)))
begun_mark between backslash x xs l e mark f = let h : token Token.bad ≡ l = cc in absurd (mark (sym (ap byte_of h)))
begun_mark between operator x xs l e mark f = let h : operator_lexeme x ≡ l = cc in (refl, sym f.0 ∙ ap byte_of h)
begun_mark between space x xs l e mark f = cc
begun_mark between other x xs l e mark f = let h : token (word (x ∷ xs)) ≡ l = cc in absurd (mark (sym (ap byte_of h) ∙ word_byte (x ∷ xs)))
begun_mark in_word quote x xs l e mark f = cc
begun_mark in_word backslash x xs l e mark f = cc
begun_mark in_word operator x xs l e mark f = let h : operator_lexeme x ≡ l = cc in (refl, sym f.0 ∙ ap byte_of h)
begun_mark in_word space x xs l e mark f = cc
begun_mark in_word other x xs l e mark f = cc
begun_mark in_string c x xs l e mark f = cc
begun_mark in_escape c x xs l e mark f = cc

tail_at : (text : List ℕ) (p x : ℕ) (xs : List ℕ) → x ∷ xs ≡ drop p text → xs ≡ drop (p + 1) text
tail_at text p x xs h = ap (drop 1) h ∙ drop-drop 1 p text

locate_step : (text : List ℕ) (x : ℕ) (xs : List ℕ) (m : Mode) (p : ℕ) (before : Placed) (place : ℕ) (l : Lexeme) (rest : Placed) → x ∷ xs ≡ drop p text → IsMark l
    → (o : Option Lexeme) → begin m (class x) x xs ≡ o
    → ((front : Placed) → lay (next m (class x)) (p + 1) xs ≡ front ++ (place, l) ∷ rest → Located text place l rest)
    → put_at p o (lay (next m (class x)) (p + 1) xs) ≡ before ++ (place, l) ∷ rest → Located text place l rest
locate_step text x xs m p before place l rest h mark None e onward is = onward before is
locate_step text x xs m p [] place l rest h mark (Some k) e onward is =
    let heads = same_heads (p, k) (place, l) (lay (next m (class x)) (p + 1) xs) rest is in
    let at_p : p ≡ place = heads.0 in
    let same : k ≡ l = heads.1 in
    let others : lay (next m (class x)) (p + 1) xs ≡ rest = heads.2 in
    let b = begun_mark m (class x) x xs l (e ∙ ap Some same) mark (facts x) in
    let t = tail_at text p x xs h in
    let there : Located text p l rest = record {
      here = sym h ∙ ap₂ (λ (y : ℕ) (ys : List ℕ). y ∷ ys) b.1 t;
      rest = sym others ∙ ap₂ (λ n ys. lay n (p + 1) ys) b.0 t;
    } in
    let P : ℕ → Type 0 = λ n. Located text n l rest in
    subst P at_p there
locate_step text x xs m p (a ∷ front) place l rest h mark (Some k) e onward is = onward front cc

pub located : (text xs : List ℕ) (m : Mode) (p : ℕ) (before : Placed) (place : ℕ) (l : Lexeme) (rest : Placed) → xs ≡ drop p text → IsMark l → lay m p xs ≡ before ++ (place, l) ∷ rest → Located text place l rest
unfolding lay
located text [] m p [] place l rest h mark is = cc
located text [] m p (a ∷ front) place l rest h mark is = cc
located text (x ∷ xs) m p before place l rest h mark is =
    locate_step text x xs m p before place l rest h mark (begin m (class x) x xs) refl
    (λ front e. located text xs (next m (class x)) (p + 1) front place l rest (tail_at text p x xs h) mark e) is

-- ---- places rise

at_least_step : (m : Mode) (x p : ℕ) (xs : List ℕ) (before : Placed) (place : ℕ) (l : Lexeme) (rest : Placed) (o : Option Lexeme)
    → ((front : Placed) → lay (next m (class x)) (p + 1) xs ≡ front ++ (place, l) ∷ rest → p + 1 ≤ place)
    → put_at p o (lay (next m (class x)) (p + 1) xs) ≡ before ++ (place, l) ∷ rest → p ≤ place
at_least_step m x p xs before place l rest None onward e = omega (arith, onward before e)
at_least_step m x p xs [] place l rest (Some k) onward e = omega (arith, (same_heads (p, k) (place, l) (lay (next m (class x)) (p + 1) xs) rest e).0)
at_least_step m x p xs (a ∷ front) place l rest (Some k) onward e =
    omega (arith, onward front (same_heads (p, k) a (lay (next m (class x)) (p + 1) xs) (front ++ (place, l) ∷ rest) e).2)

at_least : (m : Mode) (p : ℕ) (xs : List ℕ) (before : Placed) (place : ℕ) (l : Lexeme) (rest : Placed) → lay m p xs ≡ before ++ (place, l) ∷ rest → p ≤ place
unfolding lay
at_least m p [] [] place l rest e = cc
at_least m p [] (a ∷ front) place l rest e = cc
at_least m p (x ∷ xs) before place l rest e =
    at_least_step m x p xs before place l rest (begin m (class x) x xs) (λ front h. at_least (next m (class x)) (p + 1) xs front place l rest h) e

later_step : (m : Mode) (x p : ℕ) (xs : List ℕ) (q : ℕ × Lexeme) (before : Placed) (place : ℕ) (l : Lexeme) (rest : Placed) (o : Option Lexeme)
    → (lay (next m (class x)) (p + 1) xs ≡ q ∷ (before ++ (place, l) ∷ rest) → q.0 < place)
    → put_at p o (lay (next m (class x)) (p + 1) xs) ≡ q ∷ (before ++ (place, l) ∷ rest) → q.0 < place
later_step m x p xs q before place l rest None onward e = onward e
later_step m x p xs q before place l rest (Some k) onward e =
    let heads = same_heads (p, k) q (lay (next m (class x)) (p + 1) xs) (before ++ (place, l) ∷ rest) e in
    omega (arith, heads.0, at_least (next m (class x)) (p + 1) xs before place l rest heads.2)

pub later : (m : Mode) (p : ℕ) (xs : List ℕ) (q : ℕ × Lexeme) (before : Placed) (place : ℕ) (l : Lexeme) (rest : Placed) → lay m p xs ≡ q ∷ (before ++ (place, l) ∷ rest) → q.0 < place
unfolding lay
later m p [] q before place l rest e = cc
later m p (x ∷ xs) q before place l rest e =
    later_step m x p xs q before place l rest (begin m (class x) x xs) (λ h. later (next m (class x)) (p + 1) xs q before place l rest h) e

-- ---- white space before a lexeme

spaces_step : (c : Class) (x p : ℕ) (xs : List ℕ) (place : ℕ) (l : Lexeme) (rest : Placed) → is_space x ≡ is_blank c
    → (lay between (p + 1) xs ≡ (place, l) ∷ rest → place ≡ p + 1 + prefix_len is_space xs)
    → put_at p (begin between c x xs) (lay (next between c) (p + 1) xs) ≡ (place, l) ∷ rest → place ≡ p + cond (is_space x) (1 + prefix_len is_space xs) 0
spaces_step quote x p xs place l rest s ih e = let at_p : p ≡ place = (same_heads (p, token (string_token (content plain xs))) (place, l) (lay (next between quote) (p + 1) xs) rest e).0 in omega (arith, ap (λ b. cond b (1 + prefix_len is_space xs) 0) s)
spaces_step backslash x p xs place l rest s ih e = let at_p : p ≡ place = (same_heads (p, token Token.bad) (place, l) (lay (next between backslash) (p + 1) xs) rest e).0 in omega (arith, ap (λ b. cond b (1 + prefix_len is_space xs) 0) s)
spaces_step operator x p xs place l rest s ih e = let at_p : p ≡ place = (same_heads (p, operator_lexeme x) (place, l) (lay (next between operator) (p + 1) xs) rest e).0 in omega (arith, ap (λ b. cond b (1 + prefix_len is_space xs) 0) s)
spaces_step space x p xs place l rest s ih e = omega (arith, ih e, ap (λ b. cond b (1 + prefix_len is_space xs) 0) s)
spaces_step other x p xs place l rest s ih e = let at_p : p ≡ place = (same_heads (p, token (word (x ∷ xs))) (place, l) (lay (next between other) (p + 1) xs) rest e).0 in omega (arith, ap (λ b. cond b (1 + prefix_len is_space xs) 0) s)

pub spaces_first : (p : ℕ) (xs : List ℕ) (place : ℕ) (l : Lexeme) (rest : Placed) → lay between p xs ≡ (place, l) ∷ rest → place ≡ p + prefix_len is_space xs
unfolding lay
spaces_first p [] place l rest e = cc
spaces_first p (x ∷ xs) place l rest e = spaces_step (class x) x p xs place l rest (space_is x) (spaces_first (p + 1) xs place l rest) e

-- ---- white space after a closing brace

pub trailing : (text : List ℕ) (last after : ℕ) → drop last text ≡ 125 ∷ drop (last + 1) text → after ≡ last + 1 + prefix_len is_space (drop (last + 1) text)
    → after - prefix_len is_space (reverse (take after text)) ≡ last + 1
trailing text last after here is =
    let n = prefix_len is_space (drop (last + 1) text) in
    let short : n ≤ length (drop (last + 1) text) = prefix_len-le-length is_space (drop (last + 1) text) in
    let long : length text - last ≡ suc (length (drop (last + 1) text)) = sym (length-drop last text) ∙ ap length here in
    let within : after ≤ length text = omega (arith, length-drop (last + 1) text) in
    let size : length (take after text) ≡ after = length-take-le after text within in
    let spaces : (k : ℕ) → last + 1 ≤ k → k < length (take after text) → is_space (get_or (take after text) k 0) ≡ true = λ k low high.
    let below : k < after = omega arith in
    let sum : last + 1 + (k - (last + 1)) ≡ k = omega arith in
    let inner : k - (last + 1) < n = omega arith in
    ap is_space (get_or-take after text k 0 below ∙ sym (get_or-drop (last + 1) text (k - (last + 1)) 0 ∙ ap (λ i. get_or text i 0) sum))
    ∙ prefix_len_passes is_space (drop (last + 1) text) (k - (last + 1)) 0 inner in
    let brace : 0 < last + 1 → is_space (get_or (take after text) (last + 1 - 1) 0) ≡ false = λ some.
    let before : last + 1 - 1 < after = omega arith in
    let same : last + 1 - 1 ≡ last + 0 = omega arith in
    ap is_space (get_or-take after text (last + 1 - 1) 0 before ∙ ap (λ i. get_or text i 0) same ∙ sym (get_or-drop last text 0 0) ∙ ap (λ xs. get_or xs 0 0) here) in
    omega (arith, suffix_len_is is_space (take after text) (last + 1) 0 (omega arith) spaces brace)
