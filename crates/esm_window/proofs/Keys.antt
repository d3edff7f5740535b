-- The text between a brace or comma and the next colon reads as the key there.
use Rattle.std.proofs.Common.{◌≡◌, ℕ, ◌+◌, ◌-◌, ◌<◌, ◌≤◌, true, if◌then◌else◌, List, [], ◌∷◌, take, drop, get_or, length, Option, Some, None, refl, sym, ap, ap₂, ◌∙◌, arith, IsUtf8, length-drop}
use Rattle.std.specs.List.{slice_range}
use Rattle.std.specs.Str.{is_utf8}
use Rattle.std.specs.Option.{option_and_then}
use Rattle.std.proofs.lemmas.List.{get_or-drop}
use Rattle.std.proofs.lemmas.Str.{IsUtf8-between, IsUtf8-from_is_utf8, is_utf8-from_IsUtf8, IsCharBoundary-before_ascii, IsCharBoundary-after_ascii}
use Rattle.json.specs.Token.{Token}
use Rattle.json.specs.Text.{content, plain}
use Rattle.json.specs.Word.{word}
use Rattle.json.specs.Lex.{Lexeme, token, Class, quote, backslash, operator, space, other, class, operator_lexeme, string_token, between, in_string, lex, fresh, punctuate}
use Rattle.json.specs.Json.{value, if_last}
use Rattle.serde_json.specs.Data.{string}
use Rattle.serde_json.specs.Read.{of_json, max_depth, read}
use Rattle.esm_model.specs.Json.{read_json}
use Rattle.esm_window.specs.Layout.{next, begin, put, Placed, put_at, lay, gap, byte_of}
use Rattle.esm_window.proofs.Layouts.{lex-cons}
use Rattle.esm_window.proofs.Bytes.{Facts, facts, by_word}
use Rattle.esm_window.proofs.Located.{same_heads}
use Rattle.esm_window.proofs.Contents.{take_one, gap_place, gap_empty, content_front}

-- ---- the lexemes of that text

some_content : (o : Option (List ℕ)) (k : List ℕ) → token (string_token o) ≡ token (Token.string k) → o ≡ Some k
some_content None k e = cc
some_content (Some s) k e = let same : s ≡ k = cc in ap Some same

other_operator : (x : ℕ) (k : List ℕ) → class x ≡ operator → byte_of (operator_lexeme x) ≡ x → operator_lexeme x ≡ token (Token.string k) → ⊥
other_operator x k c f e = let digit : x ≡ 48 = sym f ∙ ap byte_of e in let never : other ≡ operator = sym (ap class digit) ∙ c in cc

record OneText (p : ℕ) (xs : List ℕ) (k : List ℕ) (end : ℕ) : Type 0 where
  long : ℕ
  sum : end ≡ p + long
  lexed : lex between (take long xs) ≡ token (Token.string k) ∷ []

text_step : (c : Class) (x p : ℕ) (xs : List ℕ) (k : List ℕ) (q end : ℕ) (l : Lexeme) (rest : Placed) → class x ≡ c → Facts c x
    → (lay between (p + 1) xs ≡ (q, token (Token.string k)) ∷ (end, l) ∷ rest → OneText (p + 1) xs k end)
    → put_at p (begin between c x xs) (lay (next between c) (p + 1) xs) ≡ (q, token (Token.string k)) ∷ (end, l) ∷ rest → OneText p (x ∷ xs) k end
text_step quote x p xs k q end l rest is f ih e =
    let heads = same_heads (p, token (string_token (content plain xs))) (q, token (Token.string k)) (lay in_string (p + 1) xs) ((end, l) ∷ rest) e in
    let n = gap in_string xs in
    let ys = take n xs in
    let found : content plain ys ≡ Some k = content_front xs k (some_content (content plain xs) k heads.1) in
    record {
      long = 1 + n;
      sum = omega (arith, gap_place in_string (p + 1) xs (end, l) rest heads.2);
      lexed =
          ap (lex between) (take_one n x xs) ∙ lex-cons between x ys ∙ ap (λ d. put (begin between d x ys) (lex (next between d) ys)) is
          ∙ ap₂ (λ o ls. token (string_token o) ∷ ls) found (gap_empty in_string xs);
    }
text_step backslash x p xs k q end l rest is f ih e =
    let heads = same_heads (p, token Token.bad) (q, token (Token.string k)) (lay (next between backslash) (p + 1) xs) ((end, l) ∷ rest) e in
    let never : token Token.bad ≡ token (Token.string k) = heads.1 in cc
text_step operator x p xs k q end l rest is f ih e =
    let heads = same_heads (p, operator_lexeme x) (q, token (Token.string k)) (lay between (p + 1) xs) ((end, l) ∷ rest) e in
    absurd (other_operator x k is f.0 heads.1)
text_step space x p xs k q end l rest is f ih e =
    let r = ih e in
    let ys = take r.long xs in
    record {
      long = 1 + r.long;
      sum = omega (arith, r.sum);
      lexed = ap (lex between) (take_one r.long x xs) ∙ lex-cons between x ys ∙ ap (λ d. put (begin between d x ys) (lex (next between d) ys)) is ∙ r.lexed;
    }
text_step other x p xs k q end l rest is f ih e =
    let heads = same_heads (p, token (word (x ∷ xs))) (q, token (Token.string k)) (lay (next between other) (p + 1) xs) ((end, l) ∷ rest) e in
    absurd (by_word (λ t. token t ≡ token (Token.string k) → ⊥) (λ s h. cc) (λ b h. cc) (λ h. cc) (λ h. cc) (x ∷ xs) heads.1)

one_text : (p : ℕ) (xs : List ℕ) (k : List ℕ) (q end : ℕ) (l : Lexeme) (rest : Placed) → lay between p xs ≡ (q, token (Token.string k)) ∷ (end, l) ∷ rest → OneText p xs k end
unfolding lay
one_text p [] k q end l rest e = cc
one_text p (x ∷ xs) k q end l rest e = text_step (class x) x p xs k q end l rest refl (facts x) (one_text (p + 1) xs k q end l rest) e

-- ---- its reading

text_read : (xs k : List ℕ) → lex between xs ≡ token (Token.string k) ∷ [] → read xs ≡ Some (string k)
unfolding punctuate value
text_read xs k e = ap (λ ls. option_and_then of_json (option_and_then (λ p. if_last p.0 p.1) (value max_depth (punctuate fresh ls)))) e

pub within : (text : List ℕ) (place x : ℕ) (xs : List ℕ) → drop place text ≡ x ∷ xs → (place < length text) × (get_or text place 0 ≡ x)
within text place x xs e =
    let same : place ≡ place + 0 = omega arith in
    (omega (arith, length-drop place text, ap length e), ap (λ i. get_or text i 0) same ∙ sym (get_or-drop place text 0 0) ∙ ap (λ ys. get_or ys 0 0) e)

-- from after the byte `a` up to the byte `b`, both ASCII
pub key_reads : (text : List ℕ) (start a : ℕ) (after_a : List ℕ) (end b : ℕ) (after_b : List ℕ) (k : List ℕ) (q : ℕ) (l : Lexeme) (rest : Placed) → is_utf8 text ≡ true
    → drop start text ≡ a ∷ after_a → a < 128 → drop end text ≡ b ∷ after_b → b < 128
    → lay between (start + 1) (drop (start + 1) text) ≡ (q, token (Token.string k)) ∷ (end, l) ∷ rest
    → read_json (slice_range text (start + 1) end) ≡ Some (string k)
key_reads text start a after_a end b after_b k q l rest utf8 at_a small_a at_b small_b e =
    let r = one_text (start + 1) (drop (start + 1) text) k q end l rest e in
    let here = within text start a after_a at_a in
    let there = within text end b after_b at_b in
    let sum : end - (start + 1) ≡ r.long = omega (arith, r.sum) in
    let order : start + 1 ≤ end = omega (arith, r.sum) in
    let lexed : lex between (slice_range text (start + 1) end) ≡ token (Token.string k) ∷ [] = ap (λ n. lex between (take n (drop (start + 1) text))) sum ∙ r.lexed in
    let text_utf8 : IsUtf8 text = IsUtf8-from_is_utf8 text utf8 in
    let low_a : get_or text start 0 < 128 = omega (arith, here.1) in
    let low_b : get_or text end 0 < 128 = omega (arith, there.1) in
    let is_text : is_utf8 (slice_range text (start + 1) end) ≡ true =
    is_utf8-from_IsUtf8 (slice_range text (start + 1) end)
    (IsUtf8-between text (start + 1) end text_utf8 order (IsCharBoundary-after_ascii text start text_utf8 here.0 low_a) (IsCharBoundary-before_ascii text end there.0 low_b)) in
    ap (λ t. if t then read (slice_range text (start + 1) end) else None) is_text ∙ text_read (slice_range text (start + 1) end) k lexed
