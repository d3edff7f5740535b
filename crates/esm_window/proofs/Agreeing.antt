-- The span of a state by the grammar is the one that the scan finds.
use Rattle.std.proofs.Common.{◌≡◌, ℕ, List, [], ◌∷◌, ◌++◌, drop, codes, Bool, true, false, if◌then◌else◌, Option, Some, None, Result, Ok, Err, IfOk, refl, sym, ap, ◌∙◌, subst, arith}
use Rattle.std.specs.Option.{option_and_then}
use Rattle.std.specs.Str.{is_utf8}
use Rattle.json.specs.Token.{Token}
use Rattle.json.specs.Lex.{Lexeme, token, between, lex, fresh, tokens}
use Rattle.json.specs.Json.{Json, Members, no_members, member, value, if_last}
use Rattle.json.specs.Json as json
use Rattle.json.specs.Find as find
use Rattle.json.specs.Tree.{json_tokens, members_tokens}
use Rattle.serde_json.specs.Data.{Data, null, boolean, number, string, array, object}
use Rattle.serde_json.specs.Data as data_of
use Rattle.serde_json.specs.Find.{get_member}
use Rattle.serde_json.specs.Read.{of_json, max_depth, read}
use Rattle.esm_model.specs.Json.{read_json}
use Rattle.esm_model.specs.declared.verdict.StateRead.{StateRead}
use Rattle.esm_window.specs.Scan as scan
use Rattle.esm_window.specs.Scan.{scanned_state}
use Rattle.esm_model.specs.State.{places, members_at, members_of, last_named, outermost_members, value_span, found_span, answer_span, state_read, IsSpanIn}
use Rattle.esm_window.specs.Layout.{Placed, lay, is_marked, deep, marked, NoBad, AllGood, lexemes_of, bounds_at, last_bounds}
use Rattle.esm_window.proofs.Layouts.{lexemes-lay, places_are}
use Rattle.esm_window.proofs.Marking.{marks_are}
use Rattle.esm_window.proofs.Punctuated.{punctuated_from, lexemes_good}
use Rattle.esm_window.proofs.Grammar.{tokens_are, no_bad}
use Rattle.esm_window.proofs.Skips.{lexemes}
use Rattle.esm_window.proofs.FoundUnder.{object_from, object_under}
use Rattle.esm_window.proofs.Located.{IsMark, Located, located}
use Rattle.esm_window.proofs.Members.{place_list, After, members_found}
use Rattle.esm_window.proofs.Values.{same_last, last_span, last_within}

-- ---- a text that reads as an object

lexed : (text : List ℕ) (ms : Members) → value max_depth (tokens text) ≡ Some (json.object ms, [])
    → lex between text ≡ token Token.begin_object ∷ lexemes_of false (members_tokens ms ++ [])
lexed text ms e =
    let all : tokens text ≡ json_tokens (json.object ms) ++ [] = tokens_are max_depth (tokens text) (json.object ms) [] e in
    let good : NoBad (tokens text) = subst NoBad (sym all) (no_bad (json.object ms)) in
    punctuated_from fresh (lex between text) good ∙ ap (lexemes_of false) all

brace_first : (q : ℕ × Lexeme) (ls : Placed) → q.1 ≡ token Token.begin_object → marked 0 (q ∷ ls) ≡ q.0 ∷ marked 1 ls
unfolding marked
brace_first q ls e = λ i. if is_marked 0 (e i) then q.0 ∷ marked (deep 0 (e i)) ls else marked (deep 0 (e i)) ls

brace_is_mark : IsMark (token Token.begin_object)
brace_is_mark e = omega (arith, e)

some_members : (ms : Members) (i : Json) (ls : Placed) → find.get_member (codes "state") ms ≡ Some i → lexemes ls ≡ lexemes_of false (members_tokens ms ++ []) → After ms ls
some_members no_members i ls h e = cc
some_members (member k j ms) i ls h e = e

-- the span of the last member named `state`, where that has an object
laid : (text : List ℕ) (ms os : Members) (ls : Placed) → is_utf8 text ≡ true → ls ≡ lay between 0 text
    → lexemes ls ≡ token Token.begin_object ∷ lexemes_of false (members_tokens ms ++ []) → find.get_member (codes "state") ms ≡ Some (json.object os)
    → value_span (last_named (codes "state") (members_at (drop 1 (place_list ls)) ms)) ≡ scan.span_of text (scan.last_state text (marked 0 ls))
laid text ms os [] utf8 is e h = cc
laid text ms os (q ∷ ls) utf8 is e h =
    let brace : q.1 ≡ token Token.begin_object = cc in
    let rest : lexemes ls ≡ lexemes_of false (members_tokens ms ++ []) = cc in
    let after : After ms ls = some_members ms (json.object os) ls h rest in
    let whole : lay between 0 text ≡ (q.0, token Token.begin_object) ∷ ls = sym is ∙ ap (λ l. (q.0, l) ∷ ls) brace in
    let at_brace : Located text q.0 (token Token.begin_object) ls = located text text between 0 [] q.0 (token Token.begin_object) ls refl brace_is_mark whole in
    let same = same_last text utf8 ms q.0 (token Token.begin_object) ls at_brace after in
    let bounds = last_bounds text (bounds_at (place_list ((q.0, token Token.begin_object) ∷ ls)) ms) in
    last_span text (last_named (codes "state") (members_at (place_list ls) ms)) bounds (find.get_member (codes "state") ms) os same h
    ∙ ap (scan.span_of text) (sym (ap (scan.last_state text) (brace_first q ls brace) ∙ members_found text ms q.0 (token Token.begin_object) ls after))

laid_within : (text : List ℕ) (ms os : Members) (ls : Placed) → is_utf8 text ≡ true → ls ≡ lay between 0 text
    → lexemes ls ≡ token Token.begin_object ∷ lexemes_of false (members_tokens ms ++ []) → find.get_member (codes "state") ms ≡ Some (json.object os)
    → IsSpanIn text (value_span (last_named (codes "state") (members_at (drop 1 (place_list ls)) ms)))
laid_within text ms os [] utf8 is e h = cc
laid_within text ms os (q ∷ ls) utf8 is e h =
    let brace : q.1 ≡ token Token.begin_object = cc in
    let rest : lexemes ls ≡ lexemes_of false (members_tokens ms ++ []) = cc in
    let after : After ms ls = some_members ms (json.object os) ls h rest in
    let whole : lay between 0 text ≡ (q.0, token Token.begin_object) ∷ ls = sym is ∙ ap (λ l. (q.0, l) ∷ ls) brace in
    let at_brace : Located text q.0 (token Token.begin_object) ls = located text text between 0 [] q.0 (token Token.begin_object) ls refl brace_is_mark whole in
    let same = same_last text utf8 ms q.0 (token Token.begin_object) ls at_brace after in
    let bounds = last_bounds text (bounds_at (place_list ((q.0, token Token.begin_object) ∷ ls)) ms) in
    last_within text (last_named (codes "state") (members_at (place_list ls) ms)) bounds (find.get_member (codes "state") ms) os same h

state_within : (text : List ℕ) (ms os : Members) → is_utf8 text ≡ true → value max_depth (tokens text) ≡ Some (json.object ms, []) → find.get_member (codes "state") ms ≡ Some (json.object os)
    → IsSpanIn text (value_span (last_named (codes "state") (outermost_members text)))
state_within text ms os utf8 e h =
    let ls = lay between 0 text in
    let same : value_span (last_named (codes "state") (outermost_members text)) ≡ value_span (last_named (codes "state") (members_at (drop 1 (place_list ls)) ms)) =
    ap (λ o. value_span (last_named (codes "state") (members_at (drop 1 (places [] text)) (members_of o)))) e
    ∙ ap (λ ps. value_span (last_named (codes "state") (members_at (drop 1 ps) ms))) (places_are [] text) in
    let P : StateRead → Type 0 = IsSpanIn text in
    subst P (sym same) (laid_within text ms os ls utf8 refl (lexemes-lay between 0 text ∙ lexed text ms e) h)

same_state : (text : List ℕ) (ms os : Members) → is_utf8 text ≡ true → value max_depth (tokens text) ≡ Some (json.object ms, []) → find.get_member (codes "state") ms ≡ Some (json.object os)
    → value_span (last_named (codes "state") (outermost_members text)) ≡ scan.span_of text (scan.last_state text (scan.marks scan.outside 0 0 text))
same_state text ms os utf8 e h =
    let ls = lay between 0 text in
    let all = lexed text ms e in
    let good : AllGood (lex between text) = subst AllGood (sym all) (refl, lexemes_good false (members_tokens ms ++ [])) in
    let marks : scan.marks scan.outside 0 0 text ≡ marked 0 ls = marks_are between 0 0 text tt good in
    ap (λ o. value_span (last_named (codes "state") (members_at (drop 1 (places [] text)) (members_of o)))) e
    ∙ ap (λ ps. value_span (last_named (codes "state") (members_at (drop 1 ps) ms))) (places_are [] text)
    ∙ laid text ms os ls utf8 refl (lexemes-lay between 0 text ∙ all) h
    ∙ ap (λ qs. scan.span_of text (scan.last_state text qs)) (sym marks)

-- ---- what reads as an object is one by the grammar

abbrev IsObject : data_of.Members → Option (Json × List Token) → Type 0
IsObject dm o = (ms : Members) × (o ≡ Some (json.object ms, [])) × (of_json (json.object ms) ≡ Some (object dm))

parsed : (o : Option (Json × List Token)) (dm : data_of.Members) → option_and_then of_json (option_and_then (λ p. if_last p.0 p.1) o) ≡ Some (object dm) → IsObject dm o
parsed None dm e = cc
parsed (Some (j, [])) dm e = let from = object_from j dm e in (from.0, ap (λ i. Some (i, [])) from.1, sym (ap of_json from.1) ∙ e)
parsed (Some (j, t ∷ ts)) dm e = cc

if_text : (b : Bool) (o : Option Data) (dm : data_of.Members) → (if b then o else None) ≡ Some (object dm) → (b ≡ true) × (o ≡ Some (object dm))
if_text true o dm e = (refl, e)
if_text false o dm e = cc

-- ---- the span

object_found : (text : List ℕ) (dm os : data_of.Members) → read_json text ≡ Some (object dm) → get_member (codes "state") dm ≡ Some (object os)
    → value_span (last_named (codes "state") (outermost_members text)) ≡ scan.span_of text (scan.last_state text (scan.marks scan.outside 0 0 text))
object_found text dm os e h =
    let text_read = if_text (is_utf8 text) (read text) dm e in
    let o = parsed (value max_depth (tokens text)) dm text_read.1 in
    let under = object_under (codes "state") o.0 dm os o.2 h in
    same_state text o.0 under.0 text_read.0 o.1 under.1

same_found : (text : List ℕ) (dm : data_of.Members) (r : Option Data) → read_json text ≡ Some (object dm) → get_member (codes "state") dm ≡ r → found_span text r ≡ scan.member_state text r
same_found text dm None e h = refl
same_found text dm (Some null) e h = refl
same_found text dm (Some (boolean b)) e h = refl
same_found text dm (Some (number n)) e h = refl
same_found text dm (Some (string s)) e h = refl
same_found text dm (Some (array ds)) e h = refl
same_found text dm (Some (object os)) e h = object_found text dm os e h

same_answer : (text : List ℕ) (d : Option Data) → read_json text ≡ d → answer_span text d ≡ scan.body_state text d
same_answer text None e = refl
same_answer text (Some null) e = refl
same_answer text (Some (boolean b)) e = refl
same_answer text (Some (number n)) e = refl
same_answer text (Some (string s)) e = refl
same_answer text (Some (array ds)) e = refl
same_answer text (Some (object dm)) e = same_found text dm (get_member (codes "state") dm) e refl

pub state_is_scanned : (body : List ℕ) → state_read body ≡ scanned_state body
unfolding state_read scanned_state
state_is_scanned [] = refl
state_is_scanned (x ∷ xs) = same_answer (x ∷ xs) (read_json (x ∷ xs)) refl

-- ---- within the text

found_within : (text : List ℕ) (dm : data_of.Members) (r : Option Data) → read_json text ≡ Some (object dm) → get_member (codes "state") dm ≡ r → IsSpanIn text (found_span text r)
found_within text dm None e h = tt
found_within text dm (Some null) e h = tt
found_within text dm (Some (boolean b)) e h = tt
found_within text dm (Some (number n)) e h = tt
found_within text dm (Some (string s)) e h = tt
found_within text dm (Some (array ds)) e h = tt
found_within text dm (Some (object os)) e h =
    let text_read = if_text (is_utf8 text) (read text) dm e in
    let o = parsed (value max_depth (tokens text)) dm text_read.1 in
    let under = object_under (codes "state") o.0 dm os o.2 h in
    state_within text o.0 under.0 text_read.0 o.1 under.1

answer_within : (text : List ℕ) (d : Option Data) → read_json text ≡ d → IsSpanIn text (answer_span text d)
answer_within text None e = tt
answer_within text (Some null) e = tt
answer_within text (Some (boolean b)) e = tt
answer_within text (Some (number n)) e = tt
answer_within text (Some (string s)) e = tt
answer_within text (Some (array ds)) e = tt
answer_within text (Some (object dm)) e = found_within text dm (get_member (codes "state") dm) e refl

span_within : (body : List ℕ) → IsSpanIn body (state_read body)
unfolding state_read
span_within [] = tt
span_within (x ∷ xs) = answer_within (x ∷ xs) (read_json (x ∷ xs)) refl

pub read_within : (E : Type 0) (body : List ℕ) (r : Result StateRead E) → IfOk r (λ read. read ≡ state_read body) → IfOk r (λ read. IsSpanIn body read)
read_within E body (Ok read) e = let P : StateRead → Type 0 = IsSpanIn body in subst P (sym e) (span_within body)
read_within E body (Err why) e = tt
