-- An event with a window becomes the event of the data of its elements.
use Rattle.std.proofs.Common.{◌≡◌, ◌∙◌, ℕ, arith, Bool, true, false, refl, sym, ap, List, [], ◌∷◌, ◌++◌, append_assoc, codes, Option, Some, option_map, option_and_then}
use Rattle.std.specs.Prelude.{is_some}
use Rattle.std.specs.List.{All, join_by, list_all}
use Rattle.std.specs.Str.{is_utf8}
use Rattle.std.proofs.lemmas.List.Folds.{list_all-append}
use Rattle.std.proofs.lemmas.Str.{IsUtf8-append, IsUtf8-from_is_utf8, is_utf8-from_IsUtf8}
use Rattle.json.specs.Token.{Token}
use Rattle.json.specs.Json.{Json, Members, if_last, object}
use Rattle.json.specs.Lex.{between}
use Rattle.serde_json.specs.Read.{of_json, read}
use Rattle.esm_model.specs.Json.{read_json}
use Rattle.esm_model.specs.JsonText.{truth_text}
use Rattle.esm_model.specs.State.{places}
use Rattle.esm_ddb.specs.Event.{ddb_event, elements_at, object_elements, read_elements, read_value, replaced}
use Rattle.esm_ddb.specs.Lexemes.{places_from}
use Rattle.esm_ddb.specs.OwnForm.{IsOwn, Own, head_text, is_plain, other_payloads, other_texts}
use Rattle.esm_ddb.specs.RunEvent.{IsState}
use Rattle.esm_ddb.specs.Tree.{is_ranged}
use Rattle.esm_ddb.proofs.OwnEvents.{all_elements, commas_plain, data_of, event_is, head_places, items_in, items_ranged, json_of, own_plain, text_of}
use Rattle.esm_ddb.proofs.Places.{all_places}
use Rattle.esm_ddb.proofs.ReadBack.{plain_unescaped, plain_utf8}
use Rattle.esm_ddb.proofs.Replaced.{all_replaced, elements_found, placed}
use Rattle.esm_ddb.proofs.Trees.{ranged_data}
use Rattle.esm_ddb.proofs.WindowTexts.{IsPlainWindow, Window, close_part, end_text, front_text, open_part, split_text, state_tree, window_json, window_text, window_value}

-- ---- it reads as JSON

list_plain : (os : List Own) (rest : List ℕ) → All IsOwn os → list_all is_plain rest ≡ true → list_all is_plain (join_by text_of (codes ",") os ++ rest) ≡ true
list_plain [] rest all h = h
list_plain (o ∷ os) rest all h = joined (text_of o) (other_texts os) (own_plain o (Rattle.std.proofs.lemmas.List.Elements.All-head IsOwn o os all)) (commas_plain os (Rattle.std.proofs.lemmas.List.Elements.All-tail IsOwn o os all))
  where
    joined : (a b : List ℕ) → list_all is_plain a ≡ true → list_all is_plain b ≡ true → list_all is_plain ((a ++ b) ++ rest) ≡ true
    joined a b ha hb = simp (list_all-append, ha, hb, h)

open_all : (s e : List ℕ) → list_all is_plain s ≡ true → list_all is_plain e ≡ true
    → list_all is_plain (codes ",\"window\":{\"start\":\"" ++ s ++ codes "\",\"end\":\"" ++ e ++ codes "\"},\"state\"") ≡ true
open_all s e hs he = simp (list_all-append, hs, he)

truth_plain : (b : Bool) → list_all is_plain (truth_text b) ≡ true
truth_plain true = refl
truth_plain false = refl

close_all : (s e t : List ℕ) → list_all is_plain s ≡ true → list_all is_plain e ≡ true → list_all is_plain t ≡ true
    → list_all is_plain (codes ",\"shardId\":\"" ++ s ++ codes "\",\"eventSourceARN\":\"" ++ e ++ codes "\",\"isFinalInvokeForWindow\":" ++ t ++ codes ",\"isWindowTerminatedEarly\":false}") ≡ true
close_all s e t hs he ht = simp (list_all-append, hs, he, ht)

colon_plain : (xs : List ℕ) → list_all is_plain xs ≡ true → list_all is_plain (xs ++ 58 ∷ []) ≡ true
colon_plain xs h = list_all-append is_plain xs (58 ∷ []) ∙ rw h refl

front_plain : (os : List Own) (w : Window) → All IsOwn os → IsPlainWindow w → list_all is_plain (front_text os w) ≡ true
front_plain os w all h =
    list_plain os (93 ∷ open_part w) all (open_all w.start w.end (plain_unescaped w.start h.start) (plain_unescaped w.end h.end))

close_plain : (w : Window) → IsPlainWindow w → list_all is_plain (close_part w) ≡ true
close_plain w h = close_all w.shard w.arn (truth_text w.closing) (plain_unescaped w.shard h.shard) (plain_unescaped w.arn h.arn) (truth_plain w.closing)

window_utf8 : (os : List Own) (w : Window) (state : List ℕ) → All IsOwn os → IsPlainWindow w → is_utf8 state ≡ true → is_utf8 (window_text os w state) ≡ true
window_utf8 os w state all h utf8 =
    let front = front_text os w ++ 58 ∷ [] in
    let before = IsUtf8-from_is_utf8 front (plain_utf8 front (colon_plain (front_text os w) (front_plain os w all h))) in
    let behind = IsUtf8-from_is_utf8 (close_part w) (plain_utf8 (close_part w) (close_plain w h)) in
    let text : window_text os w state ≡ front ++ (state ++ close_part w) = split_text os w state ∙ sym (append_assoc (front_text os w) (58 ∷ []) (state ++ close_part w)) in
    ap is_utf8 text
    ∙ is_utf8-from_IsUtf8 (front ++ (state ++ close_part w)) (IsUtf8-append front (state ++ close_part w) before (IsUtf8-append state (close_part w) (IsUtf8-from_is_utf8 state utf8) behind))

window_ranged : (os : List Own) (w : Window) (ms : Members) → All IsOwn os → is_some (of_json (object ms)) ≡ true → is_ranged (window_json os w ms) ≡ true
window_ranged os w ms all h = rw (items_ranged os all, sym (ranged_data (object ms)) ∙ h) refl

window_reads : (os : List Own) (w : Window) (state : List ℕ) → All IsOwn os → IsPlainWindow w → (is : IsState state) → is_some (read_json (window_text os w state)) ≡ true
window_reads os w state all plain is =
    let j = window_json os w is.members in
    let tree = state_tree state is.members is.reads in
    let reads : is_some (read (window_text os w state)) ≡ true =
    ap (λ (o : Option (Json × List Token)). is_some (option_and_then of_json (option_and_then (λ p. if_last p.0 p.1) o))) (window_value os w state is.members all plain tree)
    ∙ ranged_data j ∙ window_ranged os w is.members all is.in_range in
    rw (window_utf8 os w state all plain is.utf8) reads

-- ---- its elements

reads_as : (os : List Own) (w : Window) (state : List ℕ) → All IsOwn os → IsPlainWindow w → (is : IsState state) → read_value (window_text os w state) ≡ Some (window_json os w is.members)
reads_as os w state all plain is =
    ap (λ (o : Option (Json × List Token)). option_map (λ (p : Json × List Token). p.0) o) (window_value os w state is.members all plain (state_tree state is.members is.reads))

text_is : (o : Own) (os : List Own) (w : Window) (state : List ℕ) → window_text (o ∷ os) w state ≡ head_text ++ (text_of o ++ (other_texts os ++ end_text w state))
text_is o os w state = ap (λ l. head_text ++ l) (append_assoc (text_of o) (other_texts os) (end_text w state))

found : (o : Own) (os : List Own) (w : Window) (state : List ℕ) → All IsOwn (o ∷ os) → IsPlainWindow w → IsState state
    → read_elements (window_text (o ∷ os) w state) ≡ Some (placed text_of json_of data_of 12 (o ∷ os))
found o os w state all plain is =
    let text = window_text (o ∷ os) w state in
    let rest : List ℕ = text_of o ++ (other_texts os ++ end_text w state) in
    let front : List ℕ = 0 ∷ 1 ∷ 10 ∷ 11 ∷ [] in
    let are : places [] text ≡ front ++ places_from between 12 rest = sym (all_places text) ∙ ap (places_from between 0) (text_is o os w state) ∙ head_places rest in
    ap (λ (j : Option Json). option_and_then (object_elements (places [] text)) j) (reads_as (o ∷ os) w state all plain is)
    ∙ ap (λ l. elements_at l 4 (items_in (o ∷ os))) are
    ∙ elements_found text_of json_of data_of front 12 o os (end_text w state) (all_elements (o ∷ os) all)

none_found : (w : Window) (state : List ℕ) → All IsOwn [] → IsPlainWindow w → IsState state → read_elements (window_text [] w state) ≡ Some []
none_found w state all plain is =
    ap (λ (j : Option Json). option_and_then (object_elements (places [] (window_text [] w state))) j) (reads_as [] w state all plain is)

pub becomes_windowed : (os : List Own) (w : Window) (state : List ℕ) → All IsOwn os → IsPlainWindow w → IsState state
    → ddb_event (window_text os w state) ≡ head_text ++ (join_by data_of (codes ",") os ++ end_text w state)
becomes_windowed [] w state all plain is = event_is (window_text [] w state) (Some []) (window_reads [] w state all plain is) (none_found w state all plain is)
becomes_windowed (o ∷ os) w state all plain is =
    event_is (window_text (o ∷ os) w state) (Some (placed text_of json_of data_of 12 (o ∷ os))) (window_reads (o ∷ os) w state all plain is) (found o os w state all plain is)
    ∙ ap (λ l. replaced 0 l (placed text_of json_of data_of 12 (o ∷ os))) (text_is o os w state)
    ∙ all_replaced text_of json_of data_of 0 head_text o os (end_text w state) (omega arith)
    ∙ ap (λ l. head_text ++ l) (sym (append_assoc (data_of o) (other_payloads os) (end_text w state)))
