-- The bytes of the state in an answer have the lexemes of its value, and no others.
use Rattle.std.proofs.Common.{◌≡◌, ◌∙◌, ℕ, suc, ◌+◌, ◌-◌, ◌≤◌, arith, Bool, true, false, cond, ◌&&◌, if◌then◌else◌, refl, sym, ap, ap₂, subst, List, [], ◌∷◌, ◌++◌, append_assoc, length, take, drop, get_or, Option, Some, None, IsUtf8, drop-drop}
use Rattle.std.specs.Prelude.{⊤, fold}
use Rattle.std.specs.List.{slice_range}
use Rattle.std.specs.Option.{option_or}
use Rattle.std.specs.Str.{IsCharBoundary, bytes_eq}
use Rattle.std.proofs.lemmas.List.{append_cancel_right, drop-map, get_or-drop, take-append-drop}
use Rattle.std.proofs.lemmas.Str.{IsCharBoundary-after_ascii, IsCharBoundary-before_ascii}
use Rattle.json.specs.Token.{Token}
use Rattle.json.specs.Lex.{Lexeme, token, between, lex}
use Rattle.json.specs.Json.{Json, Members, no_members, member}
use Rattle.json.specs.Json as json
use Rattle.json.specs.Find.{get_member, later_or}
use Rattle.json.specs.Print.{begins, ends}
use Rattle.json.specs.Tree.{json_tokens, members_tokens}
use Rattle.esm_model.specs.State.{Member, last_named, members_at, members_size, size}
use Rattle.esm_window.specs.Layout.{AllGood, Placed, comma_if, lay, lexemes_of, token_lexemes}
use Rattle.esm_window.proofs.Keys.{within}
use Rattle.esm_window.proofs.Layouts.{lexemes-lay}
use Rattle.esm_window.proofs.Located.{IsMark, located}
use Rattle.esm_window.proofs.Members.{After, Following, following, place_list}
use Rattle.esm_window.proofs.Punctuated.{lexemes_good}
use Rattle.esm_window.proofs.Skips.{further, lexemes, members_closed, skip_value}
use Rattle.esm_window.proofs.Values.{state_name}
use Rattle.esm_ddb.proofs.Fronts.{lexed_with_brace, parted}
use Rattle.esm_ddb.proofs.WindowTexts.{members_end}

-- from the opening brace to the closing one
pub record HasSpan (text : List ℕ) (first last : ℕ) (os : Members) : Type 0 where
  pub order : first ≤ last + 1
  pub before : IsCharBoundary text first
  pub behind : IsCharBoundary text (last + 1)
  pub lexed : lex between (slice_range text first (last + 1)) ≡ lexemes_of false (json_tokens (json.object os))

-- ---- one object

lexemes_append : (c : Bool) (ts us : List Token) → lexemes_of c (ts ++ us) ≡ lexemes_of c ts ++ lexemes_of (fold (λ _ u. ends u) c ts) us
lexemes_append c [] us = refl
lexemes_append c (t ∷ ts) us =
    regrouped (comma_if (c && begins t)) (token_lexemes t) (lexemes_of (ends t) ts) (lexemes_of (ends t) (ts ++ us)) (lexemes_of (fold (λ _ u. ends u) (ends t) ts) us)
    (lexemes_append (ends t) ts us)
  where
    regrouped : (a b x z y : List Lexeme) → z ≡ x ++ y → a ++ (b ++ z) ≡ (a ++ (b ++ x)) ++ y
    regrouped a b x z y e = ap (λ l. a ++ (b ++ l)) e ∙ ap (λ l. a ++ l) (sym (append_assoc b x y)) ∙ sym (append_assoc a (b ++ x) y)

object_and : (os : Members) (us : List Token) → lexemes_of false (json_tokens (json.object os) ++ us) ≡ lexemes_of false (json_tokens (json.object os)) ++ lexemes_of true us
object_and os us =
    lexemes_append false (json_tokens (json.object os)) us
    ∙ ap (λ c. lexemes_of false (json_tokens (json.object os)) ++ lexemes_of c us) (members_end os false)

take_through : (xs ys : List ℕ) → take (suc (length xs)) (xs ++ 125 ∷ ys) ≡ xs ++ 125 ∷ []
take_through [] ys = refl
take_through (x ∷ xs) ys = ap (λ l. x ∷ l) (take_through xs ys)

open_lexed : (xs : List ℕ) → lex between (123 ∷ xs) ≡ token Token.begin_object ∷ lex between xs
unfolding lex
open_lexed xs = refl

open_is_mark : IsMark (token Token.begin_object)
open_is_mark e = omega (arith, e)

close_is_mark : IsMark (token Token.end_object)
close_is_mark e = omega (arith, e)

split : (n : ℕ) (ls : Placed) (q : ℕ × Lexeme) (rest : Placed) → drop n ls ≡ q ∷ rest → ls ≡ take n ls ++ q ∷ rest
split n ls q rest e = sym (take-append-drop n ls) ∙ ap (λ ks. take n ls ++ ks) e

nth_place : (ls : Placed) (n : ℕ) (q : ℕ × Lexeme) (rest : Placed) → drop n ls ≡ q ∷ rest → get_or (place_list ls) n 0 ≡ q.0
nth_place ls n q rest e =
    let same : n ≡ n + 0 = omega arith in
    ap (λ i. get_or (place_list ls) i 0) same ∙ sym (get_or-drop n (place_list ls) 0 0) ∙ ap (λ ps. get_or ps 0 0) (drop-map (λ (r : ℕ × Lexeme). r.0) n ls ∙ ap place_list e)

object_span : (text : List ℕ) → IsUtf8 text → (os : Members) (us : List Token) (i : ℕ) (vs : Placed) → drop i (lay between 0 text) ≡ vs
    → lexemes vs ≡ lexemes_of false (json_tokens (json.object os) ++ us)
    → HasSpan text (get_or (place_list vs) 0 0) (get_or (place_list vs) (members_size os) 0) os
object_span text utf8 os us i [] at e = cc
object_span text utf8 os us i (q ∷ ks) at e =
    let n = members_size os in
    let brace : q.1 ≡ token Token.begin_object = cc in
    let inside : lexemes ks ≡ lexemes_of false (members_tokens os ++ us) = cc in
    let c = members_closed os ks us inside in
    let end : ℕ × Lexeme = (c.place, token Token.end_object) in
    let whole = lay between 0 text in
    let opens = located text text between 0 (take i whole) q.0 (token Token.begin_object) ks refl open_is_mark
    (split i whole (q.0, token Token.begin_object) ks (at ∙ ap (λ l. (q.0, l) ∷ ks) brace)) in
    let tail = drop (q.0 + 1) text in
    let laid : lay between (q.0 + 1) tail ≡ take c.index ks ++ end ∷ c.rest = sym opens.rest ∙ split c.index ks end c.rest c.is in
    let closes = located text tail between (q.0 + 1) (take c.index ks) c.place (token Token.end_object) c.rest refl close_is_mark laid in
    let p = parted tail between (q.0 + 1) (take c.index ks) c.place (token Token.end_object) c.rest close_is_mark laid in
    let all : lex between tail ≡ lexemes_of false (members_tokens os ++ us) = sym (lexemes-lay between (q.0 + 1) tail) ∙ ap lexemes (sym opens.rest) ∙ inside in
    let good : AllGood (lex between (p.front ++ 125 ∷ p.tail)) =
    subst AllGood (sym (ap (lex between) (sym p.is) ∙ all)) (lexemes_good false (members_tokens os ++ us)) in
    let cut = lexed_with_brace p.front p.tail good p.out in
    let closing : drop n (q ∷ ks) ≡ end ∷ c.rest = further c.index 1 n (q ∷ ks) (omega (arith, c.sum)) ∙ c.is in
    let left : drop (1 + n) (q ∷ ks) ≡ c.rest = further 1 n (1 + n) (q ∷ ks) (omega arith) ∙ ap (drop 1) closing in
    let after : lex between p.tail ≡ lexemes_of true us =
    sym (lexemes-lay between (c.place + 1) p.tail) ∙ ap lexemes (sym p.more) ∙ ap lexemes (sym left) ∙ (skip_value (json.object os) (q ∷ ks) us e).left in
    let inner = lex between (p.front ++ 125 ∷ []) in
    let text_there : drop q.0 text ≡ 123 ∷ (p.front ++ 125 ∷ p.tail) = opens.here ∙ ap (λ l. 123 ∷ l) p.is in
    let long : c.place + 1 - q.0 ≡ suc (suc (length p.front)) = omega (arith, p.at) in
    let bytes : slice_range text q.0 (c.place + 1) ≡ 123 ∷ (p.front ++ 125 ∷ []) = ap₂ take long text_there ∙ ap (λ l. 123 ∷ l) (take_through p.front p.tail) in
    let both : (token Token.begin_object ∷ inner) ++ lexemes_of true us ≡ lexemes_of false (json_tokens (json.object os)) ++ lexemes_of true us =
    ap (λ l. token Token.begin_object ∷ l) (ap (λ u. inner ++ u) (sym after) ∙ sym cut ∙ ap (lex between) (sym p.is) ∙ all) ∙ object_and os us in
    let here = within text q.0 123 tail opens.here in
    let there = within text c.place 125 (drop (c.place + 1) text) closes.here in
    let span : HasSpan text q.0 c.place os = record {
      order = omega (arith, p.at);
      before = IsCharBoundary-before_ascii text q.0 here.0 (omega (arith, here.1));
      behind = IsCharBoundary-after_ascii text c.place utf8 there.0 (omega (arith, there.1));
      lexed =
          ap (lex between) bytes ∙ open_lexed (p.front ++ 125 ∷ [])
          ∙ append_cancel_right (token Token.begin_object ∷ inner) (lexemes_of false (json_tokens (json.object os))) (lexemes_of true us) both;
    } in
    subst (λ k. HasSpan text q.0 k os) (sym (nth_place (q ∷ ks) n end c.rest closing)) span

-- ---- the last member named `state`

abbrev pub Spans : List ℕ → Option Member → Option Json → Type 0
Spans text None None = ⊤
Spans text (Some m) (Some j) = (os : Members) → j ≡ json.object os → HasSpan text m.first m.last os
Spans text _ _ = ⊥

spans_or : (text : List ℕ) (o : Option Member) (r : Option Json) (t : Bool) (m : Member) (j : Json) → Spans text o r → ((os : Members) → j ≡ json.object os → HasSpan text m.first m.last os)
    → Spans text (option_or o (if t then Some m else None)) (later_or r (cond t (Some j) None))
spans_or text None None true m j h s = s
spans_or text None None false m j h s = tt
spans_or text (Some n) (Some i) t m j h s = h
spans_or text None (Some i) t m j h s = absurd h
spans_or text (Some n) None t m j h s = absurd h

pub last_spans : (text : List ℕ) → IsUtf8 text → (ms : Members) (i : ℕ) (ls : Placed) → drop i (lay between 0 text) ≡ ls → After ms ls
    → Spans text (last_named state_name (members_at (place_list ls) ms)) (get_member state_name ms)
last_spans text utf8 no_members i ls at e = tt
last_spans text utf8 (member k j ms) i [] at e = cc
last_spans text utf8 (member k j ms) i (q ∷ []) at e = cc
last_spans text utf8 (member k j ms) i (q ∷ r ∷ vs) at e =
    let whole = lay between 0 text in
    let us = members_tokens ms ++ [] in
    let hv : lexemes vs ≡ lexemes_of false ((json_tokens j ++ members_tokens ms) ++ []) = cc in
    let value : lexemes vs ≡ lexemes_of false (json_tokens j ++ us) = hv ∙ ap (lexemes_of false) (append_assoc (json_tokens j) (members_tokens ms) []) in
    let v = skip_value j vs us value in
    let f : Following ms (drop (size j) vs) = following ms (drop (size j) vs) v.left in
    let n = size j in
    let vps = place_list vs in
    let ps = q.0 ∷ r.0 ∷ vps in
    let m : Member = record { key = k; first = get_or ps 2 0; last = get_or ps (1 + n) 0 } in
    let at_value : drop (i + 2) whole ≡ vs = further 2 i (i + 2) whole refl ∙ ap (drop 2) at in
    let own : (os : Members) → j ≡ json.object os → HasSpan text m.first m.last os = λ os is.
    let object_value : lexemes vs ≡ lexemes_of false (json_tokens (json.object os) ++ us) = value ∙ ap (λ x. lexemes_of false (json_tokens x ++ us)) is in
    let two : 1 + (1 + members_size os) ≡ suc (suc (members_size os)) = omega arith in
    let place : get_or ps (1 + n) 0 ≡ get_or vps (members_size os) 0 = ap (λ x. get_or ps (1 + size x) 0) is ∙ ap (λ x. get_or ps x 0) two in
    subst (λ x. HasSpan text (get_or vps 0 0) x os) (sym place) (object_span text utf8 os us (i + 2) vs at_value object_value) in
    let at_next : drop (i + 2 + n) whole ≡ (f.place, f.lexeme) ∷ f.rest = further n (i + 2) (i + 2 + n) whole refl ∙ ap (drop n) at_value ∙ f.is in
    let at_rest : drop (i + 2 + n + 1) whole ≡ f.rest = further 1 (i + 2 + n) (i + 2 + n + 1) whole refl ∙ ap (drop 1) at_next in
    let both = spans_or text (last_named state_name (members_at (place_list f.rest) ms)) (get_member state_name ms) (bytes_eq k state_name) m j
    (last_spans text utf8 ms (i + 2 + n + 1) f.rest at_rest f.after) own in
    let value_places : drop n vps ≡ place_list ((f.place, f.lexeme) ∷ f.rest) = drop-map (λ (x : ℕ × Lexeme). x.0) n vs ∙ ap place_list f.is in
    let three : 3 + n ≡ suc (suc (suc n)) = omega arith in
    let one_more : suc n ≡ n + 1 = omega arith in
    let next_keys : drop (3 + n) ps ≡ place_list f.rest =
    ap (λ x. drop x ps) three ∙ ap (λ x. drop x vps) one_more ∙ sym (drop-drop 1 n vps) ∙ ap (drop 1) value_places in
    let P : List ℕ → Type 0 = λ keys. Spans text (option_or (last_named state_name (members_at keys ms)) (if bytes_eq k state_name then Some m else None))
    (later_or (get_member state_name ms) (cond (bytes_eq k state_name) (Some j) None)) in
    subst P (sym next_keys) both
