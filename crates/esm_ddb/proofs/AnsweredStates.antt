-- The state that a window has after an answer reads as an object, in an event too.
use Rattle.std.proofs.Common.{◌≡◌, ◌∙◌, ℕ, ◌+◌, ◌-◌, ◌≤◌, arith, Bool, true, false, cond, nat_le, if◌then◌else◌, refl, sym, ap, subst, List, [], ◌∷◌, ◌++◌, append-nil, codes, drop, max, Option, Some, None, IsUtf8, option_and_then}
use Rattle.std.specs.Prelude.{⊤, is_some}
use Rattle.std.specs.List.{slice_range}
use Rattle.std.specs.Str.{bytes_eq, is_utf8}
use Rattle.std.proofs.lemmas.Bool.{and_parts}
use Rattle.std.proofs.lemmas.Str.{IsUtf8-between, IsUtf8-from_is_utf8, is_utf8-from_IsUtf8}
use Rattle.json.specs.Token.{Token}
use Rattle.json.specs.Lex.{token, between, fresh, lex, punctuate, tokens}
use Rattle.json.specs.Json.{Json, Members, no_members, member, if_last, value}
use Rattle.json.specs.Json as json
use Rattle.json.specs.Find as find
use Rattle.json.specs.Find.{later_or}
use Rattle.json.specs.Print.{print}
use Rattle.json.specs.Tree.{HasNumbers, MembersHaveNumbers, depth, json_tokens, members_depth, members_tokens}
use Rattle.json.proofs.Nesting.{value-depth}
use Rattle.json.proofs.Numbered.{ArePrintableOrBad-tokens, value-HasNumbers}
use Rattle.json.proofs.Printed.Tokens.{tokens-print}
use Rattle.json.proofs.Printed.Trees.{ArePrintable-json_tokens, value-json_tokens}
use Rattle.serde_json.specs.Data.{Data, null, boolean, number, string, array, object}
use Rattle.serde_json.specs.Data as data_of
use Rattle.serde_json.specs.Find.{get_member}
use Rattle.serde_json.specs.Read.{max_depth, of_json, read}
use Rattle.esm_model.specs.EventText.{state_text}
use Rattle.esm_model.specs.Json.{read_json}
use Rattle.esm_model.specs.State.{Member, answer_span, answered_state, found_span, last_named, members_at, members_of, outermost_members, places, span_bytes, state_read, value_span}
use Rattle.esm_model.specs.declared.limits.TheConstants.{MAX_DATA}
use Rattle.esm_model.specs.declared.verdict.StateRead.TheVariants.{Bad, Span}
use Rattle.esm_window.specs.Layout.{NoBad, Placed, lay, lexemes_of}
use Rattle.esm_window.proofs.FoundUnder.{object_from, object_under}
use Rattle.esm_window.proofs.Grammar.{no_bad, tokens_are}
use Rattle.esm_window.proofs.Layouts.{lexemes-lay, places_are}
use Rattle.esm_window.proofs.Members.{After, place_list}
use Rattle.esm_window.proofs.Punctuated.{punctuated_from}
use Rattle.esm_window.proofs.Skips.{lexemes}
use Rattle.esm_window.proofs.Values.{state_name}
use Rattle.esm_ddb.specs.RunEvent.{HasAnsweredState, IsState}
use Rattle.esm_ddb.specs.Tree.{is_ranged, members_ranged}
use Rattle.esm_ddb.proofs.Laid.{lexemes_are}
use Rattle.esm_ddb.proofs.RunEvents.{first_state}
use Rattle.esm_ddb.proofs.StateSpans.{HasSpan, Spans, last_spans}
use Rattle.esm_ddb.proofs.Trees.{ranged_data}

-- ---- what holds of a value that stands in another

record IsFine (d : ℕ) (j : Json) : Type 0 where
  numbers : HasNumbers j
  low : depth j ≤ d
  ranged : is_ranged j ≡ true

abbrev Held : ℕ → Option Json → Type 0
Held d None = ⊤
Held d (Some j) = IsFine d j

held_or : (d : ℕ) (o : Option Json) (b : Bool) (j : Json) → Held d o → IsFine d j → Held d (later_or o (cond b (Some j) None))
held_or d (Some i) b j h is = h
held_or d None true j h is = is
held_or d None false j h is = tt

members_held : (d : ℕ) (name : List ℕ) (ms : Members) → MembersHaveNumbers ms → members_depth ms ≤ d → members_ranged ms ≡ true → Held d (find.get_member name ms)
members_held d name no_members numbers low ranged = tt
members_held d name (member k j ms) numbers low ranged =
    let p = and_parts (is_ranged j) (members_ranged ms) ranged in
    let parts : max (depth j) (members_depth ms) ≤ d = low in
    let inner : depth j ≤ d = omega arith in
    let more : members_depth ms ≤ d = omega arith in
    held_or d (find.get_member name ms) (bytes_eq k name) j (members_held d name ms numbers.1 more p.1) (record { numbers = numbers.0; low = inner; ranged = p.0 })

held_at : (d : ℕ) (o : Option Json) (j : Json) → Held d o → o ≡ Some j → IsFine d j
held_at d None j h e = cc
held_at d (Some i) j h e = let same : i ≡ j = cc in subst (IsFine d) same h

-- ---- one span

pub empty_state : IsState (codes "{}")
empty_state = first_state

span_state : (text : List ℕ) (from last : ℕ) (os : Members) → IsUtf8 text → HasSpan text from last os → IsFine 126 (json.object os) → IsState (slice_range text from (last + 1))
span_state text from last os utf8 span fine =
    let j = json.object os in
    let s = print (json_tokens j) in
    let printed : tokens s ≡ json_tokens j = tokens-print (json_tokens j) (ArePrintable-json_tokens j fine.numbers) in
    let same : tokens (slice_range text from (last + 1)) ≡ json_tokens j = ap (punctuate fresh) (span.lexed ∙ sym (lexemes_are s j printed)) ∙ printed in
    record {
      utf8 = is_utf8-from_IsUtf8 (slice_range text from (last + 1)) (IsUtf8-between text from (last + 1) utf8 span.order span.before span.behind);
      members = os;
      reads = ap (value 126) (same ∙ sym (append-nil (json_tokens j))) ∙ value-json_tokens j 126 [] fine.low;
      in_range = ranged_data j ∙ fine.ranged;
    }

by_length : (text : List ℕ) (from last : ℕ) (t : Bool) → IsState (slice_range text from (last + 1)) → IsState (span_bytes text (if t then Span from (last + 1) else Bad))
by_length text from last true h = h
by_length text from last false h = empty_state

spanned : (text : List ℕ) (o : Option Member) (r : Option Json) (os : Members) → IsUtf8 text → IsFine 126 (json.object os) → Spans text o r → r ≡ Some (json.object os)
    → IsState (span_bytes text (value_span o))
spanned text None None os utf8 fine h e = cc
spanned text (Some m) (Some j) os utf8 fine h e =
    let is : j ≡ json.object os = cc in
    by_length text m.first m.last (nat_le (m.last + 1 - m.first) MAX_DATA) (span_state text m.first m.last os utf8 (h os is) fine)
spanned text None (Some i) os utf8 fine h e = absurd h
spanned text (Some n) None os utf8 fine h e = absurd h

-- ---- the members of the outermost object

lexed : (text : List ℕ) (ms : Members) → value max_depth (tokens text) ≡ Some (json.object ms, []) → lex between text ≡ token Token.begin_object ∷ lexemes_of false (members_tokens ms ++ [])
lexed text ms e =
    let all : tokens text ≡ json_tokens (json.object ms) ++ [] = tokens_are max_depth (tokens text) (json.object ms) [] e in
    let good : NoBad (tokens text) = subst NoBad (sym all) (no_bad (json.object ms)) in
    punctuated_from fresh (lex between text) good ∙ ap (lexemes_of false) all

some_members : (ms : Members) (i : Json) (ls : Placed) → find.get_member state_name ms ≡ Some i → lexemes ls ≡ lexemes_of false (members_tokens ms ++ []) → After ms ls
some_members no_members i ls h e = cc
some_members (member k j ms) i ls h e = e

laid : (text : List ℕ) (ms : Members) (i : Json) (ls : Placed) → IsUtf8 text → lay between 0 text ≡ ls → lexemes ls ≡ token Token.begin_object ∷ lexemes_of false (members_tokens ms ++ [])
    → find.get_member state_name ms ≡ Some i → Spans text (last_named state_name (members_at (drop 1 (place_list ls)) ms)) (find.get_member state_name ms)
laid text ms i [] utf8 is e h = cc
laid text ms i (q ∷ ls) utf8 is e h =
    let rest : lexemes ls ≡ lexemes_of false (members_tokens ms ++ []) = cc in
    last_spans text utf8 ms 1 ls (ap (drop 1) is) (some_members ms i ls h rest)

object_spans : (text : List ℕ) (ms : Members) (i : Json) → IsUtf8 text → value max_depth (tokens text) ≡ Some (json.object ms, []) → find.get_member state_name ms ≡ Some i
    → Spans text (last_named state_name (outermost_members text)) (find.get_member state_name ms)
object_spans text ms i utf8 e h =
    let ls = lay between 0 text in
    let same : last_named state_name (outermost_members text) ≡ last_named state_name (members_at (drop 1 (place_list ls)) ms) =
    ap (λ o. last_named state_name (members_at (drop 1 (places [] text)) (members_of o))) e
    ∙ ap (λ ps. last_named state_name (members_at (drop 1 ps) ms)) (places_are [] text) in
    subst (λ (o : Option Member). Spans text o (find.get_member state_name ms)) (sym same) (laid text ms i ls utf8 refl (lexemes-lay between 0 text ∙ lexed text ms e) h)

-- ---- what reads as an object

abbrev pub IsObject : data_of.Members → Option (Json × List Token) → Type 0
IsObject dm o = (ms : Members) × (o ≡ Some (json.object ms, [])) × (of_json (json.object ms) ≡ Some (object dm))

pub parsed : (o : Option (Json × List Token)) (dm : data_of.Members) → option_and_then of_json (option_and_then (λ p. if_last p.0 p.1) o) ≡ Some (object dm) → IsObject dm o
parsed None dm e = cc
parsed (Some (j, [])) dm e = let from = object_from j dm e in (from.0, ap (λ i. Some (i, [])) from.1, sym (ap of_json from.1) ∙ e)
parsed (Some (j, t ∷ ts)) dm e = cc

if_text : (b : Bool) (o : Option Data) (dm : data_of.Members) → (if b then o else None) ≡ Some (object dm) → (b ≡ true) × (o ≡ Some (object dm))
if_text true o dm e = (refl, e)
if_text false o dm e = cc

object_state : (text : List ℕ) (dm ds : data_of.Members) → read_json text ≡ Some (object dm) → get_member state_name dm ≡ Some (object ds)
    → IsState (span_bytes text (value_span (last_named state_name (outermost_members text))))
object_state text dm ds e h =
    let text_read = if_text (is_utf8 text) (read text) dm e in
    let utf8 : IsUtf8 text = IsUtf8-from_is_utf8 text text_read.0 in
    let o = parsed (value max_depth (tokens text)) dm text_read.1 in
    let ms : Members = o.0 in
    let whole : value max_depth (tokens text) ≡ Some (json.object ms, []) = o.1 in
    let under = object_under state_name ms dm ds o.2 h in
    let numbers : HasNumbers (json.object ms) = value-HasNumbers max_depth (tokens text) [] (json.object ms) (ArePrintableOrBad-tokens text) whole in
    let low : depth (json.object ms) ≤ 127 = value-depth max_depth (tokens text) [] (json.object ms) whole in
    let ranged : is_ranged (json.object ms) ≡ true = sym (ranged_data (json.object ms)) ∙ ap is_some o.2 in
    let inner : members_depth ms ≤ 126 = omega arith in
    let fine = held_at 126 (find.get_member state_name ms) (json.object under.0) (members_held 126 state_name ms numbers inner ranged) under.1 in
    spanned text (last_named state_name (outermost_members text)) (find.get_member state_name ms) under.0 utf8 fine
    (object_spans text ms (json.object under.0) utf8 whole under.1) under.1

-- ---- the answer

found_state : (text : List ℕ) (dm : data_of.Members) (r : Option Data) → read_json text ≡ Some (object dm) → get_member state_name dm ≡ r → IsState (span_bytes text (found_span text r))
found_state text dm None e h = empty_state
found_state text dm (Some null) e h = empty_state
found_state text dm (Some (boolean b)) e h = empty_state
found_state text dm (Some (number n)) e h = empty_state
found_state text dm (Some (string s)) e h = empty_state
found_state text dm (Some (array ds)) e h = empty_state
found_state text dm (Some (object ds)) e h = object_state text dm ds e h

answer_state : (text : List ℕ) (d : Option Data) → read_json text ≡ d → IsState (span_bytes text (answer_span text d))
answer_state text None e = empty_state
answer_state text (Some null) e = empty_state
answer_state text (Some (boolean b)) e = empty_state
answer_state text (Some (number n)) e = empty_state
answer_state text (Some (string s)) e = empty_state
answer_state text (Some (array ds)) e = empty_state
answer_state text (Some (object dm)) e = found_state text dm (get_member state_name dm) e refl

body_state : (body : List ℕ) → IsState (span_bytes body (state_read body))
unfolding state_read
body_state [] = empty_state
body_state (x ∷ xs) = answer_state (x ∷ xs) (read_json (x ∷ xs)) refl

pub in_event : (state : List ℕ) → IsState state → IsState (state_text state)
in_event [] h = empty_state
in_event (b ∷ bytes) h = h

pub answered_reads : (body : List ℕ) → IsState (answered_state body)
unfolding answered_state
answered_reads body = body_state body

pub answered_state_is : HasAnsweredState
answered_state_is body = in_event (answered_state body) (answered_reads body)
