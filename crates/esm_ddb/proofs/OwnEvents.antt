-- An event in the form in which a stream's events are written becomes the event of the data of its elements.
use Rattle.std.proofs.Common.{◌≡◌, ◌∙◌, ℕ, ◌≤◌, lit≤, arith, true, false, cond, refl, sym, ap, List, [], ◌∷◌, ◌++◌, append_assoc, append-nil, codes, Option, Some, None, option_map, option_and_then}
use Rattle.std.specs.List.{All, join_by, list_all}
use Rattle.std.specs.Prelude.{is_some}
use Rattle.std.proofs.lemmas.List.Elements.{All-cons, All-head, All-nil, All-tail, All-weaker}
use Rattle.std.proofs.lemmas.List.Folds.{list_all-append}
use Rattle.json.specs.Token.{Token}
use Rattle.json.specs.Lex.{between, tokens}
use Rattle.json.specs.Json.{Json, Items, array, object, no_members, member, value, if_last}
use Rattle.json.specs.Print.{escape_byte, print, print_from}
use Rattle.json.specs.Tree.{depth, json_tokens, items_tokens, items_depth, ItemsHaveNumbers}
use Rattle.json.proofs.Printed.Tokens.{tokens-print, print_from-append}
use Rattle.json.proofs.Printed.Trees.{ArePrintable-json_tokens, value-json_tokens}
use Rattle.serde_json.specs.Read.{max_depth, number_of, of_json, read}
use Rattle.esm_model.specs.Json.{read_json}
use Rattle.esm_model.specs.State.{places}
use Rattle.esm_ddb.specs.Event.{ddb_event, event_with, elements_at, read_elements, read_value, object_elements, replaced}
use Rattle.esm_ddb.specs.Lexemes.{places_from}
use Rattle.esm_ddb.specs.OwnForm.{Becomes, IsOwn, Own, Texts, head_text, is_plain, other_payloads, other_texts, whole_text}
use Rattle.esm_ddb.specs.Tree.{are_ranged, is_ranged}
use Rattle.esm_ddb.specs.declared.elements.Element.{Element}
use Rattle.esm_ddb.proofs.Moments.{moment_in_range, moment_number}
use Rattle.esm_ddb.proofs.Places.{all_places}
use Rattle.esm_ddb.proofs.ReadBack.{plain_utf8}
use Rattle.esm_ddb.proofs.RecordText.{printed, texts_element, texts_json, whole_plain}
use Rattle.esm_ddb.proofs.Replaced.{IsElement, items_of, placed, elements_found, all_replaced}
use Rattle.esm_ddb.proofs.Trees.{ranged_data}

abbrev pub text_of : Own → List ℕ
text_of o = whole_text o.texts

abbrev pub json_of : Own → Json
json_of o = texts_json o.texts

abbrev pub data_of : Own → List ℕ
data_of o = o.payload

abbrev pub own_text : List Own → List ℕ
own_text os = head_text ++ (join_by text_of (codes ",") os ++ codes "]}")

abbrev IsItself : Own → Type 0
IsItself o = IsElement (text_of o) (json_of o) (data_of o)

itself : (o : Own) → IsOwn o → IsItself o
itself o is = texts_element o.texts o.payload is.plain is.data_is

pub all_elements : (os : List Own) → All IsOwn os → All IsItself os
all_elements os all = All-weaker IsOwn IsItself itself os all

abbrev pub items_in : List Own → Items
items_in os = items_of text_of json_of data_of os

abbrev event_json : List Own → Json
event_json os = object (member (codes "Records") (array (items_in os)) no_members)

pub numbers_in : (os : List Own) → All IsOwn os → ItemsHaveNumbers (items_in os)
numbers_in [] all = tt
numbers_in (o ∷ os) all =
    let number = moment_number o.texts.moment (All-head IsOwn o os all).plain.moment in
    (((tt, (tt, (tt, (tt, (number, tt))))), (tt, (tt, (tt, (tt, (tt, (tt, (tt, tt)))))))), numbers_in os (All-tail IsOwn o os all))

pub shallow_in : (os : List Own) → items_depth (items_in os) ≤ 2
shallow_in [] = lit≤ tt
shallow_in (o ∷ os) = let own : depth (json_of o) ≡ 2 = refl in let more = shallow_in os in omega (arith, own, more)

-- items behind others, each with a comma before it
more_printed : (os : List Own) (ts : List Token) → All IsOwn os → print_from true (items_tokens (items_in os) ++ ts) ≡ other_texts os ++ 93 ∷ print_from true ts
unfolding print_from
more_printed [] ts all = refl
more_printed (o ∷ os) ts all =
    let own = json_tokens (json_of o) in
    let more = items_tokens (items_in os) ++ ts in
    let first : print_from false own ≡ text_of o = printed o.texts (All-head IsOwn o os all).plain in
    ap (print_from true) (append_assoc own (items_tokens (items_in os)) ts)
    ∙ ap (λ l. 44 ∷ l) (print_from-append false own more)
    ∙ ap (λ l. 44 ∷ (l ++ print_from true more)) first
    ∙ ap (λ l. 44 ∷ (text_of o ++ l)) (more_printed os ts (All-tail IsOwn o os all))
    ∙ ap (λ l. 44 ∷ l) (sym (append_assoc (text_of o) (other_texts os) (93 ∷ print_from true ts)))

pub list_printed : (os : List Own) (ts : List Token) → All IsOwn os → print_from false (items_tokens (items_in os) ++ ts) ≡ join_by text_of (codes ",") os ++ 93 ∷ print_from true ts
unfolding print_from
list_printed [] ts all = refl
list_printed (o ∷ os) ts all =
    let own = json_tokens (json_of o) in
    let more = items_tokens (items_in os) ++ ts in
    let first : print_from false own ≡ text_of o = printed o.texts (All-head IsOwn o os all).plain in
    ap (print_from false) (append_assoc own (items_tokens (items_in os)) ts)
    ∙ print_from-append false own more
    ∙ ap (λ l. l ++ print_from true more) first
    ∙ ap (λ l. text_of o ++ l) (more_printed os ts (All-tail IsOwn o os all))
    ∙ sym (append_assoc (text_of o) (other_texts os) (93 ∷ print_from true ts))

event_printed : (os : List Own) → All IsOwn os → print (json_tokens (event_json os)) ≡ own_text os
unfolding print_from escape_byte
event_printed os all = ap (λ l. head_text ++ l) (list_printed os (Token.end_object ∷ []) all)

value_is : (os : List Own) → All IsOwn os → value max_depth (tokens (own_text os)) ≡ Some (event_json os, [])
value_is os all =
    let j = event_json os in
    let low = shallow_in os in
    let are : tokens (own_text os) ≡ json_tokens j ++ [] =
    ap tokens (sym (event_printed os all)) ∙ tokens-print (json_tokens j) (ArePrintable-json_tokens j (numbers_in os all, tt)) ∙ sym (append-nil (json_tokens j)) in
    ap (value max_depth) are ∙ value-json_tokens j max_depth [] (omega (arith, low))

reads_as : (os : List Own) → All IsOwn os → read_value (own_text os) ≡ Some (event_json os)
reads_as os all = ap (λ (o : Option (Json × List Token)). option_map (λ (p : Json × List Token). p.0) o) (value_is os all)

pub text_is : (o : Own) (os : List Own) → own_text (o ∷ os) ≡ head_text ++ (text_of o ++ (other_texts os ++ codes "]}"))
text_is o os = ap (λ l. head_text ++ l) (append_assoc (text_of o) (other_texts os) (codes "]}"))

-- ---- it reads as JSON

texts_ranged : (t : Texts) → is_some (number_of t.moment) ≡ true → is_ranged (texts_json t) ≡ true
texts_ranged t h = rw h refl

pub items_ranged : (os : List Own) → All IsOwn os → are_ranged (items_in os) ≡ true
items_ranged [] all = refl
items_ranged (o ∷ os) all =
    rw (texts_ranged o.texts (moment_in_range o.texts.moment (All-head IsOwn o os all).plain.moment), items_ranged os (All-tail IsOwn o os all)) refl

event_ranged : (os : List Own) → All IsOwn os → is_ranged (event_json os) ≡ true
event_ranged os all = rw (items_ranged os all) refl

pub own_plain : (o : Own) → IsOwn o → list_all is_plain (text_of o) ≡ true
own_plain o is = whole_plain o.texts is.plain

comma_plain : (a b : List ℕ) → list_all is_plain a ≡ true → list_all is_plain b ≡ true → list_all is_plain ((codes "," ++ a) ++ b) ≡ true
comma_plain a b ha hb = simp (list_all-append, ha, hb)

pub commas_plain : (os : List Own) → All IsOwn os → list_all is_plain (other_texts os) ≡ true
commas_plain [] all = refl
commas_plain (o ∷ os) all = comma_plain (text_of o) (other_texts os) (own_plain o (All-head IsOwn o os all)) (commas_plain os (All-tail IsOwn o os all))

list_plain : (a b : List ℕ) → list_all is_plain a ≡ true → list_all is_plain b ≡ true → list_all is_plain (head_text ++ (a ++ (b ++ codes "]}"))) ≡ true
list_plain a b ha hb = simp (list_all-append, ha, hb)

event_plain : (os : List Own) → All IsOwn os → list_all is_plain (own_text os) ≡ true
event_plain [] all = refl
event_plain (o ∷ os) all =
    ap (list_all is_plain) (text_is o os)
    ∙ list_plain (text_of o) (other_texts os) (own_plain o (All-head IsOwn o os all)) (commas_plain os (All-tail IsOwn o os all))

event_reads : (os : List Own) → All IsOwn os → is_some (read_json (own_text os)) ≡ true
event_reads os all =
    let j = event_json os in
    let reads : is_some (read (own_text os)) ≡ true =
    ap (λ (o : Option (Json × List Token)). is_some (option_and_then of_json (option_and_then (λ p. if_last p.0 p.1) o))) (value_is os all) ∙ ranged_data j ∙ event_ranged os all in
    rw (plain_utf8 (own_text os) (event_plain os all)) reads

-- ---- its elements

pub head_places : (xs : List ℕ) → places_from between 0 (head_text ++ xs) ≡ (0 ∷ 1 ∷ 10 ∷ 11 ∷ []) ++ places_from between 12 xs
unfolding places_from
head_places xs = refl

found : (o : Own) (os : List Own) → All IsOwn (o ∷ os) → read_elements (own_text (o ∷ os)) ≡ Some (placed text_of json_of data_of 12 (o ∷ os))
found o os all =
    let text = own_text (o ∷ os) in
    let rest : List ℕ = text_of o ++ (other_texts os ++ codes "]}") in
    let front : List ℕ = 0 ∷ 1 ∷ 10 ∷ 11 ∷ [] in
    let are : places [] text ≡ front ++ places_from between 12 rest = sym (all_places text) ∙ ap (places_from between 0) (text_is o os) ∙ head_places rest in
    ap (λ (j : Option Json). option_and_then (object_elements (places [] text)) j) (reads_as (o ∷ os) all)
    ∙ ap (λ l. elements_at l 4 (items_in (o ∷ os))) are
    ∙ elements_found text_of json_of data_of front 12 o os (codes "]}") (all_elements (o ∷ os) all)

none_found : read_elements (own_text []) ≡ Some []
none_found =
    ap (λ (j : Option Json). option_and_then (object_elements (places [] (own_text []))) j) (reads_as [] (All-nil IsOwn))

pub event_is : (text : List ℕ) (es : Option (List Element)) → is_some (read_json text) ≡ true → read_elements text ≡ es → ddb_event text ≡ event_with text es
unfolding ddb_event
event_is text es reads is = ap (λ b. event_with text (cond b (read_elements text) None)) reads ∙ ap (event_with text) is

pub becomes_elements : (os : List Own) → All IsOwn os → ddb_event (own_text os) ≡ head_text ++ (join_by data_of (codes ",") os ++ codes "]}")
becomes_elements [] all = event_is (own_text []) (Some []) (event_reads [] all) none_found
becomes_elements (o ∷ os) all =
    event_is (own_text (o ∷ os)) (Some (placed text_of json_of data_of 12 (o ∷ os))) (event_reads (o ∷ os) all) (found o os all)
    ∙ ap (λ l. replaced 0 l (placed text_of json_of data_of 12 (o ∷ os))) (text_is o os)
    ∙ all_replaced text_of json_of data_of 0 head_text o os (codes "]}") (omega arith)
    ∙ ap (λ l. head_text ++ l) (sym (append_assoc (data_of o) (other_payloads os) (codes "]}")))

-- ---- element by element

pub after_first : (event left : List ℕ) (o : Own) → IsOwn o → event ≡ head_text ++ (text_of o ++ left) → Becomes event (head_text ++ data_of o) left
after_first event left o is text = record {
  when = λ os all same.
      let whole : event ≡ own_text (o ∷ os) = text ∙ ap (λ l. head_text ++ (text_of o ++ l)) same ∙ sym (text_is o os) in
      ap ddb_event whole ∙ becomes_elements (o ∷ os) (All-cons IsOwn o os is all)
      ∙ ap (λ l. head_text ++ l) (append_assoc (data_of o) (other_payloads os) (codes "]}"))
      ∙ sym (append_assoc head_text (data_of o) (other_payloads os ++ codes "]}"));
}

other_read : (a b d e : List ℕ) → b ≡ d ++ e → 44 ∷ (a ++ b) ≡ ((codes "," ++ a) ++ d) ++ e
other_read a b d e same = ap (λ l. 44 ∷ (a ++ l)) same ∙ ap (λ l. 44 ∷ l) (sym (append_assoc a d e))

other_written : (out a d e : List ℕ) → out ++ (((codes "," ++ a) ++ d) ++ e) ≡ ((out ++ codes ",") ++ a) ++ (d ++ e)
other_written out a d e = simp append_assoc

pub after_other : (event out left rest : List ℕ) (o : Own) → Becomes event out left → IsOwn o → left ≡ codes "," ++ (text_of o ++ rest)
    → Becomes event ((out ++ codes ",") ++ data_of o) rest
after_other event out left rest o so is text = record {
  when = λ os all same.
      so.when (o ∷ os) (All-cons IsOwn o os is all) (text ∙ other_read (text_of o) rest (other_texts os) (codes "]}") same)
      ∙ other_written out (data_of o) (other_payloads os) (codes "]}");
}

pub at_end : (event out : List ℕ) → Becomes event out (codes "]}") → ddb_event event ≡ out ++ codes "]}"
at_end event out so = so.when [] (All-nil IsOwn) refl
