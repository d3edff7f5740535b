-- What an event says of its window, as it is printed, and the event with a state as it stands.
use Rattle.std.proofs.Common.{◌≡◌, ◌∙◌, ℕ, ◌+◌, ◌≤◌, arith, Bool, true, false, refl, sym, ap, subst, List, [], ◌∷◌, ◌++◌, append_assoc, append-nil, codes, Some}
use Rattle.std.specs.Prelude.{fold}
use Rattle.std.specs.List.{All, join_by, list_all}
use Rattle.std.proofs.lemmas.List.Elements.{All-head, All-tail}
use Rattle.std.proofs.lemmas.List.Sums.{fold-append}
use Rattle.json.specs.Token.{Token}
use Rattle.json.specs.Text.{content, plain}
use Rattle.json.specs.Word.{ends_word}
use Rattle.json.specs.Lex.{Lexeme, colon, Mode, between, in_word, in_string, in_escape, fresh, lex, punctuate, tokens}
use Rattle.json.specs.Json.{Json, array, boolean, object, string, Members, no_members, member, value}
use Rattle.json.specs.Print.{ends, escape, escape_byte, print, print_from}
use Rattle.json.specs.Tree.{depth, json_tokens, members_tokens, HasNumbers}
use Rattle.json.proofs.Nesting.{value-depth}
use Rattle.json.proofs.Numbered.{ArePrintableOrBad-tokens, value-HasNumbers}
use Rattle.json.proofs.Printed.Numbers.{in_word-ended}
use Rattle.json.proofs.Printed.Strings.{content-escape, lex-escape}
use Rattle.json.proofs.Printed.Tokens.{print_from-append, tokens-print}
use Rattle.json.proofs.Printed.Trees.{ArePrintable-json_tokens, value-json_tokens}
use Rattle.serde_json.specs.Read.{max_depth}
use Rattle.esm_model.specs.JsonText.{truth_text}
use Rattle.esm_window.specs.Layout.{AllGood, mode_at}
use Rattle.esm_window.proofs.Grammar.{tokens_are}
use Rattle.esm_window.proofs.Punctuated.{lexemes_good}
use Rattle.esm_ddb.specs.OwnForm.{IsOwn, Own, head_text, is_unescaped, other_texts}
use Rattle.esm_ddb.proofs.Laid.{lexemes_are}
use Rattle.esm_ddb.proofs.LexedOn.{IsOut, is_closed, lexed_on}
use Rattle.esm_ddb.proofs.Moments.{moment_number}
use Rattle.esm_ddb.proofs.OwnEvents.{items_in, json_of, list_printed, numbers_in, shallow_in, text_of}
use Rattle.esm_ddb.proofs.ReadBack.{escape_unescaped}
use Rattle.esm_ddb.proofs.RecordText.{printed}

-- ---- the window

pub record Window : Type 0 where
  pub start : List ℕ
  pub end : List ℕ
  pub shard : List ℕ
  pub arn : List ℕ
  pub closing : Bool

pub record IsPlainWindow (w : Window) : Type 0 where
  pub start : list_all is_unescaped w.start ≡ true
  pub end : list_all is_unescaped w.end ≡ true
  pub shard : list_all is_unescaped w.shard ≡ true
  pub arn : list_all is_unescaped w.arn ≡ true

-- up to the colon before the state, and behind the state
abbrev pub open_part : Window → List ℕ
open_part w = codes ",\"window\":{\"start\":\"" ++ w.start ++ codes "\",\"end\":\"" ++ w.end ++ codes "\"},\"state\""

abbrev pub close_part : Window → List ℕ
close_part w =
    codes ",\"shardId\":\"" ++ w.shard ++ codes "\",\"eventSourceARN\":\"" ++ w.arn
    ++ codes "\",\"isFinalInvokeForWindow\":" ++ truth_text w.closing ++ codes ",\"isWindowTerminatedEarly\":false}"

abbrev close_tokens : Window → List Token
close_tokens w =
    Token.key (codes "shardId") ∷ Token.string w.shard ∷ Token.key (codes "eventSourceARN") ∷ Token.string w.arn
    ∷ Token.key (codes "isFinalInvokeForWindow") ∷ Token.boolean w.closing ∷ Token.key (codes "isWindowTerminatedEarly") ∷ Token.boolean false ∷ Token.end_object ∷ []

abbrev open_tokens : Window → List Token → List Token
open_tokens w ts =
    Token.key (codes "window") ∷ Token.begin_object ∷ Token.key (codes "start") ∷ Token.string w.start ∷ Token.key (codes "end") ∷ Token.string w.end ∷ Token.end_object
    ∷ Token.key (codes "state") ∷ ts

abbrev window_members : Window → Members → Members
window_members w ms =
    member (codes "window") (object (member (codes "start") (string w.start) (member (codes "end") (string w.end) no_members)))
    (member (codes "state") (object ms)
    (member (codes "shardId") (string w.shard)
    (member (codes "eventSourceARN") (string w.arn)
    (member (codes "isFinalInvokeForWindow") (boolean w.closing)
    (member (codes "isWindowTerminatedEarly") (boolean false) no_members)))))

abbrev pub window_json : List Own → Window → Members → Json
window_json os w ms = object (member (codes "Records") (array (items_in os)) (window_members w ms))

-- behind the elements, with this text as the state
abbrev pub end_text : Window → List ℕ → List ℕ
end_text w state = 93 ∷ (open_part w ++ 58 ∷ (state ++ close_part w))

abbrev pub window_text : List Own → Window → List ℕ → List ℕ
window_text os w state = head_text ++ (join_by text_of (codes ",") os ++ end_text w state)

abbrev pub front_text : List Own → Window → List ℕ
front_text os w = head_text ++ (join_by text_of (codes ",") os ++ 93 ∷ open_part w)

pub split_text : (os : List Own) (w : Window) (state : List ℕ) → window_text os w state ≡ front_text os w ++ 58 ∷ (state ++ close_part w)
split_text os w state = regrouped (join_by text_of (codes ",") os) (open_part w) (58 ∷ (state ++ close_part w))
  where
    regrouped : (a b z : List ℕ) → head_text ++ (a ++ 93 ∷ (b ++ z)) ≡ (head_text ++ (a ++ 93 ∷ b)) ++ z
    regrouped a b z = ap (λ l. head_text ++ l) (sym (append_assoc a (93 ∷ b) z)) ∙ sym (append_assoc head_text (a ++ 93 ∷ b) z)

-- ---- it is printed so

-- the quotation mark that ends a text goes with what follows it
opened : (a s x b e c z : List ℕ) → a ++ ((s ++ x) ++ (b ++ ((e ++ x) ++ (c ++ z)))) ≡ (a ++ s ++ (x ++ b) ++ e ++ (x ++ c)) ++ z
opened a s x b e c z = simp append_assoc

open_printed : (w : Window) (ts : List Token) → IsPlainWindow w → print_from true (open_tokens w ts) ≡ open_part w ++ 58 ∷ print_from false ts
unfolding print_from escape_byte
open_printed w ts h =
    rw (escape_unescaped w.start h.start, escape_unescaped w.end h.end)
    (opened (codes ",\"window\":{\"start\":\"") w.start (codes "\"") (codes ",\"end\":\"") w.end (codes "},\"state\"") (58 ∷ print_from false ts))

closed_as : (a s x b e c t d : List ℕ) → a ++ ((s ++ x) ++ (b ++ ((e ++ x) ++ (c ++ (t ++ d))))) ≡ a ++ s ++ (x ++ b) ++ e ++ (x ++ c) ++ t ++ d
closed_as a s x b e c t d = simp append_assoc

close_by : (s e : List ℕ) (b : Bool) → escape s ≡ s → escape e ≡ e
    → print_from true (close_tokens (record { start = []; end = []; shard = s; arn = e; closing = b }))
    ≡ codes ",\"shardId\":\"" ++ s ++ codes "\",\"eventSourceARN\":\"" ++ e
    ++ codes "\",\"isFinalInvokeForWindow\":" ++ truth_text b ++ codes ",\"isWindowTerminatedEarly\":false}"
unfolding print_from escape_byte
close_by s e true hs he =
    rw (hs, he) (closed_as (codes ",\"shardId\":\"") s (codes "\"") (codes ",\"eventSourceARN\":\"") e (codes ",\"isFinalInvokeForWindow\":") (codes "true") (codes ",\"isWindowTerminatedEarly\":false}"))
close_by s e false hs he =
    rw (hs, he) (closed_as (codes ",\"shardId\":\"") s (codes "\"") (codes ",\"eventSourceARN\":\"") e (codes ",\"isFinalInvokeForWindow\":") (codes "false") (codes ",\"isWindowTerminatedEarly\":false}"))

close_printed : (w : Window) → IsPlainWindow w → print_from true (close_tokens w) ≡ close_part w
close_printed w h = close_by w.shard w.arn w.closing (escape_unescaped w.shard h.shard) (escape_unescaped w.arn h.arn)

pub members_end : (ms : Members) (c : Bool) → fold (λ _ u. ends u) c (members_tokens ms) ≡ true
members_end no_members c = refl
members_end (member k j ms) c = fold-append (λ _ u. ends u) false (json_tokens j) (members_tokens ms) ∙ members_end ms (fold (λ _ u. ends u) false (json_tokens j))

state_printed : (ms : Members) (ts : List Token) → print_from false (json_tokens (object ms) ++ ts) ≡ print (json_tokens (object ms)) ++ print_from true ts
state_printed ms ts =
    print_from-append false (json_tokens (object ms)) ts ∙ ap (λ (c : Bool). print (json_tokens (object ms)) ++ print_from c ts) (members_end ms false)

window_printed : (os : List Own) (w : Window) (ms : Members) → All IsOwn os → IsPlainWindow w
    → print (json_tokens (window_json os w ms)) ≡ window_text os w (print (json_tokens (object ms)))
unfolding print_from escape_byte
window_printed os w ms all fine =
    let state : List Token = json_tokens (object ms) ++ close_tokens w in
    ap (λ l. head_text ++ l) (list_printed os (open_tokens w state) all)
    ∙ ap (λ l. head_text ++ (join_by text_of (codes ",") os ++ 93 ∷ l))
    (open_printed w state fine ∙ ap (λ l. open_part w ++ 58 ∷ l) (state_printed ms (close_tokens w) ∙ ap (λ l. print (json_tokens (object ms)) ++ l) (close_printed w fine)))

-- ---- the lexemes of what stands before the state are good

out_same : (m : Mode) (xs : List ℕ) → IsOut m → ends_word xs ≡ true → lex m xs ≡ lex between xs
out_same between xs out h = refl
out_same in_word xs out h = in_word-ended xs h
out_same in_string xs out h = absurd out
out_same in_escape xs out h = absurd out

pub then_lexed : (xs ys : List ℕ) → AllGood (lex between xs) → ends_word ys ≡ true → lex between (xs ++ ys) ≡ lex between xs ++ lex between ys
then_lexed xs ys good h = lexed_on between xs ys good h ∙ ap (λ ls. lex between xs ++ ls) (out_same (mode_at between xs) ys (is_closed xs good) h)

both_good : (ls ks : List Lexeme) → AllGood ls → AllGood ks → AllGood (ls ++ ks)
both_good [] ks g h = h
both_good (l ∷ ls) ks g h = (g.0, both_good ls ks g.1 h)

then_good : (xs ys : List ℕ) → AllGood (lex between xs) → ends_word ys ≡ true → AllGood (lex between ys) → AllGood (lex between (xs ++ ys))
then_good xs ys good h more = subst AllGood (sym (then_lexed xs ys good h)) (both_good (lex between xs) (lex between ys) good more)

quoted_good : (s ys : List ℕ) → list_all is_unescaped s ≡ true → AllGood (lex between ys) → AllGood (lex between (34 ∷ (s ++ 34 ∷ ys)))
unfolding lex
quoted_good s ys h more =
    let same : escape s ++ 34 ∷ ys ≡ s ++ 34 ∷ ys = ap (λ l. l ++ 34 ∷ ys) (escape_unescaped s h) in
    let read : content plain (s ++ 34 ∷ ys) ≡ Some s = ap (content plain) (sym same) ∙ content-escape s ys in
    let rest : lex in_string (s ++ 34 ∷ ys) ≡ lex between ys = ap (lex in_string) (sym same) ∙ lex-escape s ys in
    rw (read, rest) (refl, more)

in_parts : (a s b e c : List ℕ) → a ++ s ++ b ++ e ++ c ≡ a ++ (s ++ (b ++ (e ++ c)))
in_parts a s b e c = simp append_assoc

open_is : (w : Window) → open_part w ≡ codes ",\"window\":{\"start\":" ++ 34 ∷ (w.start ++ 34 ∷ (codes ",\"end\":" ++ 34 ∷ (w.end ++ 34 ∷ codes "},\"state\"")))
open_is w = in_parts (codes ",\"window\":{\"start\":\"") w.start (codes "\",\"end\":\"") w.end (codes "\"},\"state\"")

last_good : AllGood (lex between (codes "},\"state\""))
unfolding lex content
last_good = (refl, (tt, (refl, tt)))

end_good : (xs : List ℕ) → AllGood (lex between xs) → AllGood (lex between (codes ",\"end\":" ++ xs))
unfolding lex content
end_good xs h = (tt, (refl, (tt, h)))

start_good : (xs : List ℕ) → AllGood (lex between xs) → AllGood (lex between (codes ",\"window\":{\"start\":" ++ xs))
unfolding lex content
start_good xs h = (tt, (refl, (tt, (refl, (refl, (tt, h))))))

open_good : (w : Window) → IsPlainWindow w → AllGood (lex between (open_part w))
open_good w h =
    let last : List ℕ = codes "},\"state\"" in
    let second : List ℕ = codes ",\"end\":" ++ 34 ∷ (w.end ++ 34 ∷ last) in
    subst (λ l. AllGood (lex between l)) (sym (open_is w))
    (start_good (34 ∷ (w.start ++ 34 ∷ second)) (quoted_good w.start second h.start (end_good (34 ∷ (w.end ++ 34 ∷ last)) (quoted_good w.end last h.end last_good))))

own_numbers : (o : Own) → IsOwn o → HasNumbers (json_of o)
own_numbers o is = ((tt, (tt, (tt, (tt, (moment_number o.texts.moment is.plain.moment, tt))))), (tt, (tt, (tt, (tt, (tt, (tt, (tt, tt))))))))

own_good : (o : Own) → IsOwn o → AllGood (lex between (text_of o))
own_good o is =
    let j = json_of o in
    let text : print (json_tokens j) ≡ text_of o = printed o.texts is.plain in
    subst AllGood (sym (lexemes_are (text_of o) j (ap tokens (sym text) ∙ tokens-print (json_tokens j) (ArePrintable-json_tokens j (own_numbers o is))))) (lexemes_good false (json_tokens j))

others_end : (os : List Own) (rest : List ℕ) → ends_word rest ≡ true → ends_word (other_texts os ++ rest) ≡ true
others_end [] rest h = h
others_end (o ∷ os) rest h = refl

comma_good : (xs : List ℕ) → AllGood (lex between xs) → AllGood (lex between (44 ∷ xs))
unfolding lex
comma_good xs h = (tt, h)

others_good : (os : List Own) (rest : List ℕ) → All IsOwn os → ends_word rest ≡ true → AllGood (lex between rest) → AllGood (lex between (other_texts os ++ rest))
others_good [] rest all h good = good
others_good (o ∷ os) rest all h good =
    subst (λ l. AllGood (lex between (44 ∷ l))) (sym (append_assoc (text_of o) (other_texts os) rest))
    (comma_good (text_of o ++ (other_texts os ++ rest))
    (then_good (text_of o) (other_texts os ++ rest) (own_good o (All-head IsOwn o os all)) (others_end os rest h) (others_good os rest (All-tail IsOwn o os all) h good)))

list_good : (os : List Own) (rest : List ℕ) → All IsOwn os → ends_word rest ≡ true → AllGood (lex between rest) → AllGood (lex between (join_by text_of (codes ",") os ++ rest))
list_good [] rest all h good = good
list_good (o ∷ os) rest all h good =
    subst (λ l. AllGood (lex between l)) (sym (append_assoc (text_of o) (other_texts os) rest))
    (then_good (text_of o) (other_texts os ++ rest) (own_good o (All-head IsOwn o os all)) (others_end os rest h) (others_good os rest (All-tail IsOwn o os all) h good))

bracket_good : (xs : List ℕ) → AllGood (lex between xs) → AllGood (lex between (93 ∷ xs))
unfolding lex
bracket_good xs h = (refl, h)

head_good : (xs : List ℕ) → AllGood (lex between xs) → AllGood (lex between (head_text ++ xs))
unfolding lex content
head_good xs h = (refl, (refl, (tt, (refl, h))))

front_good : (os : List Own) (w : Window) → All IsOwn os → IsPlainWindow w → AllGood (lex between (front_text os w))
front_good os w all fine = head_good (join_by text_of (codes ",") os ++ 93 ∷ open_part w) (list_good os (93 ∷ open_part w) all refl (bracket_good (open_part w) (open_good w fine)))

-- ---- it has the tokens of its tree

colon_first : (xs : List ℕ) → lex between (58 ∷ xs) ≡ colon ∷ lex between xs
unfolding lex
colon_first xs = refl

-- a state that has the lexemes of another stands for it
same_lexed : (os : List Own) (w : Window) (a b : List ℕ) → All IsOwn os → IsPlainWindow w → AllGood (lex between a) → lex between a ≡ lex between b
    → lex between (window_text os w a) ≡ lex between (window_text os w b)
same_lexed os w a b all fine good same =
    let tail = close_part w in
    let inner : lex between (a ++ tail) ≡ lex between (b ++ tail) =
    then_lexed a tail good refl ∙ ap (λ ls. ls ++ lex between tail) same ∙ sym (then_lexed b tail (subst AllGood same good) refl) in
    let front = front_good os w all fine in
    ap (lex between) (split_text os w a)
    ∙ then_lexed (front_text os w) (58 ∷ (a ++ tail)) front refl
    ∙ ap (λ ls. lex between (front_text os w) ++ ls) (colon_first (a ++ tail) ∙ ap (λ ls. colon ∷ ls) inner ∙ sym (colon_first (b ++ tail)))
    ∙ sym (then_lexed (front_text os w) (58 ∷ (b ++ tail)) front refl)
    ∙ ap (lex between) (sym (split_text os w b))

pub record StateTree (state : List ℕ) (ms : Members) : Type 0 where
  pub tokens_so : tokens state ≡ json_tokens (object ms)
  pub numbers : HasNumbers (object ms)
  pub low : depth (object ms) ≤ 126

pub state_tree : (state : List ℕ) (ms : Members) → value 126 (tokens state) ≡ Some (object ms, []) → StateTree state ms
state_tree state ms h = record {
  tokens_so = tokens_are 126 (tokens state) (object ms) [] h ∙ append-nil (json_tokens (object ms));
  numbers = value-HasNumbers 126 (tokens state) [] (object ms) (ArePrintableOrBad-tokens state) h;
  low = value-depth 126 (tokens state) [] (object ms) h;
}

tree_numbers : (os : List Own) (w : Window) (ms : Members) → All IsOwn os → HasNumbers (object ms) → HasNumbers (window_json os w ms)
tree_numbers os w ms all numbers = (numbers_in os all, ((tt, (tt, tt)), (numbers, (tt, (tt, (tt, (tt, tt)))))))

pub window_value : (os : List Own) (w : Window) (state : List ℕ) (ms : Members) → All IsOwn os → IsPlainWindow w → StateTree state ms
    → value max_depth (tokens (window_text os w state)) ≡ Some (window_json os w ms, [])
window_value os w state ms all fine tree =
    let s = print (json_tokens (object ms)) in
    let s_tokens : tokens s ≡ json_tokens (object ms) = tokens-print (json_tokens (object ms)) (ArePrintable-json_tokens (object ms) tree.numbers) in
    let lexed = lexemes_are state (object ms) tree.tokens_so in
    let good : AllGood (lex between state) = subst AllGood (sym lexed) (lexemes_good false (json_tokens (object ms))) in
    let j = window_json os w ms in
    let same : tokens (window_text os w state) ≡ json_tokens j =
    ap (punctuate fresh) (same_lexed os w state s all fine good (lexed ∙ sym (lexemes_are s (object ms) s_tokens)))
    ∙ ap tokens (sym (window_printed os w ms all fine))
    ∙ tokens-print (json_tokens j) (ArePrintable-json_tokens j (tree_numbers os w ms all tree.numbers)) in
    let low : depth (object ms) ≤ 126 = tree.low in
    let shallow = shallow_in os in
    ap (value max_depth) (same ∙ sym (append-nil (json_tokens j))) ∙ value-json_tokens j max_depth [] (omega arith)
