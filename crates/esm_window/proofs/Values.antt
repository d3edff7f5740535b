-- The last member named `state` by the grammar is the last one by the marks around it.
use Rattle.std.proofs.Common.{◌≡◌, ℕ, suc, ◌+◌, ◌-◌, ◌<◌, Bool, true, false, cond, if◌then◌else◌, List, [], ◌∷◌, ◌++◌, take, drop, get_or, reverse, length, codes, nat_le, Option, Some, None, refl, sym, ap, ap₂, ◌∙◌, subst, arith, append_assoc, drop-drop}
use Rattle.std.specs.Prelude.{⊤}
use Rattle.std.specs.List.{prefix_len, slice_range}
use Rattle.std.specs.Option.{option_or}
use Rattle.std.specs.Str.{is_utf8, bytes_eq}
use Rattle.std.proofs.lemmas.List.{get_or-drop, drop-map, drop_all, take-append-drop}
use Rattle.json.specs.Token.{Token}
use Rattle.json.specs.Word.{is_space}
use Rattle.json.specs.Lex.{Lexeme, token, comma, colon, between}
use Rattle.json.specs.Json.{Json, Members, no_members, member}
use Rattle.json.specs.Json as json
use Rattle.json.specs.Tree.{json_tokens, members_tokens}
use Rattle.json.specs.Find.{later_or, get_member}
use Rattle.serde_json.specs.Data.{string}
use Rattle.esm_model.specs.Json.{read_json}
use Rattle.esm_window.specs.Scan as scan
use Rattle.esm_model.specs.declared.limits.TheConstants.{MAX_DATA}
use Rattle.esm_model.specs.declared.verdict.StateRead.TheVariants.{Span, Bad}
use Rattle.esm_model.specs.State.{size, members_size, Member, members_at, last_named, value_span, IsSpanIn}
use Rattle.esm_window.specs.Layout.{Placed, lay, lexemes_of, token_byte, byte_of, Bounds, bounds_at, is_state, last_bounds, pair_of, inner_start, inner_end}
use Rattle.esm_window.proofs.Skips.{lexemes, pass, further, skip_value, members_closed}
use Rattle.esm_window.proofs.Located.{IsMark, Located, located, later, spaces_first, trailing}
use Rattle.esm_window.proofs.Keys.{within, key_reads}
use Rattle.esm_window.proofs.Members.{place_list, After, Following, following}

small_token : (t : Token) → token_byte t < 128
small_token Token.begin_object = omega arith
small_token Token.end_object = omega arith
small_token Token.begin_array = omega arith
small_token Token.end_array = omega arith
small_token (Token.key s) = omega arith
small_token (Token.string s) = omega arith
small_token (Token.number s) = omega arith
small_token (Token.boolean b) = omega arith
small_token Token.null = omega arith
small_token Token.bad = omega arith

small : (l : Lexeme) → byte_of l < 128
small (token t) = small_token t
small comma = omega arith
small colon = omega arith

-- ---- places of lexemes

nth_place : (ls : Placed) (n : ℕ) (q : ℕ × Lexeme) (rest : Placed) → drop n ls ≡ q ∷ rest → get_or (place_list ls) n 0 ≡ q.0
nth_place ls n q rest e =
    let same : n ≡ n + 0 = omega arith in
    ap (λ i. get_or (place_list ls) i 0) same ∙ sym (get_or-drop n (place_list ls) 0 0) ∙ ap (λ ps. get_or ps 0 0) (drop-map (λ (r : ℕ × Lexeme). r.0) n ls ∙ ap place_list e)

first_place : (p : ℕ) (xs : List ℕ) (ls : Placed) → ls ≡ lay between p xs → (ls ≡ [] → ⊥) → get_or (place_list ls) 0 0 ≡ p + prefix_len is_space xs
first_place p xs [] e some = absurd (some refl)
first_place p xs (q ∷ ls) e some = spaces_first p xs q.0 q.1 ls (sym e)

parted : (n : ℕ) (ls : Placed) (q : ℕ × Lexeme) (rest : Placed) → drop n ls ≡ q ∷ rest → ls ≡ take n ls ++ q ∷ rest
parted n ls q rest e = sym (take-append-drop n ls) ∙ ap (λ ks. take n ls ++ ks) e

some_left : (n : ℕ) (ls : Placed) (q : ℕ × Lexeme) (rest : Placed) → drop n ls ≡ q ∷ rest → ls ≡ [] → ⊥
some_left n ls q rest e none =
    let empty : drop n ls ≡ [] = ap (drop n) none ∙ drop_all n [] (omega arith) in
    let never : [] ≡ q ∷ rest = sym empty ∙ e in
    cc

-- ---- the closing brace of an object

brace_is_mark : IsMark (token Token.end_object)
brace_is_mark e = omega (arith, e)

object_end : (text : List ℕ) (p : ℕ) (ms : Members) (us : List Token) (ls : Placed) (place : ℕ) (l : Lexeme) (rest : Placed) → ls ≡ lay between p (drop p text)
    → lexemes ls ≡ lexemes_of false (json_tokens (json.object ms) ++ us) → drop (size (json.object ms)) ls ≡ (place, l) ∷ rest
    → get_or (place_list ls) (members_size ms) 0 + 1 ≡ place - prefix_len is_space (reverse (take place text))
object_end text p ms us ls place l rest laid e after =
    let n = members_size ms in
    let a = pass ls (token Token.begin_object) (lexemes_of false (members_tokens ms ++ us)) e in
    let c = members_closed ms (drop 1 ls) us a.left in
    let brace : drop n ls ≡ (c.place, token Token.end_object) ∷ c.rest = further c.index 1 n ls (omega (arith, c.sum)) ∙ c.is in
    let at_brace = located text (drop p text) between p (take n ls) c.place (token Token.end_object) c.rest refl brace_is_mark (sym laid ∙ parted n ls (c.place, token Token.end_object) c.rest brace) in
    let left : c.rest ≡ (place, l) ∷ rest = sym (further 1 n (1 + n) ls (omega arith) ∙ ap (drop 1) brace) ∙ after in
    let gap : place ≡ c.place + 1 + prefix_len is_space (drop (c.place + 1) text) = spaces_first (c.place + 1) (drop (c.place + 1) text) place l rest (sym at_brace.rest ∙ left) in
    ap (λ k. k + 1) (nth_place ls n (c.place, token Token.end_object) c.rest brace) ∙ sym (trailing text c.place place at_brace.here gap)

object_order : (text : List ℕ) (p : ℕ) (ms : Members) (us : List Token) (ls : Placed) → ls ≡ lay between p (drop p text)
    → lexemes ls ≡ lexemes_of false (json_tokens (json.object ms) ++ us)
    → (get_or (place_list ls) 0 0 < get_or (place_list ls) (members_size ms) 0) × (get_or (place_list ls) (members_size ms) 0 < length text)
object_order text p ms us [] laid e = cc
object_order text p ms us (q ∷ ks) laid e =
    let n = members_size ms in
    let inside : lexemes ks ≡ lexemes_of false (members_tokens ms ++ us) = cc in
    let c = members_closed ms ks us inside in
    let end : ℕ × Lexeme = (c.place, token Token.end_object) in
    let brace : drop n (q ∷ ks) ≡ end ∷ c.rest = further c.index 1 n (q ∷ ks) (omega (arith, c.sum)) ∙ c.is in
    let at_brace = located text (drop p text) between p (take n (q ∷ ks)) c.place (token Token.end_object) c.rest refl brace_is_mark (sym laid ∙ parted n (q ∷ ks) end c.rest brace) in
    let place : get_or (place_list (q ∷ ks)) n 0 ≡ c.place = nth_place (q ∷ ks) n end c.rest brace in
    let before : q.0 < c.place =
    later between p (drop p text) q (take c.index ks) c.place (token Token.end_object) c.rest (sym laid ∙ ap (λ l. q ∷ l) (parted c.index ks end c.rest c.is)) in
    let there = within text c.place 125 (drop (c.place + 1) text) at_brace.here in
    (omega (arith, place, before), omega (arith, place, there.0))

-- ---- one member in both

pub record Same (text : List ℕ) (m : Member) (b : Bounds) (j : Json) : Type 0 where
  pub first : m.first ≡ inner_start text b
  pub last : (ms : Members) → j ≡ json.object ms → m.last + 1 ≡ inner_end text b
  pub order : (ms : Members) → j ≡ json.object ms → (m.first < m.last) × (m.last < length text)

abbrev pub SameLast : List ℕ → Option Member → Option Bounds → Option Json → Type 0
SameLast text None None None = ⊤
SameLast text (Some m) (Some b) (Some j) = Same text m b j
SameLast text _ _ _ = ⊥

same_or : (text : List ℕ) (o : Option Member) (p : Option Bounds) (r : Option Json) (t : Bool) (m : Member) (b : Bounds) (j : Json) → SameLast text o p r → Same text m b j
    → SameLast text (option_or o (if t then Some m else None)) (option_or p (if t then Some b else None)) (later_or r (cond t (Some j) None))
same_or text None None None true m b j h s = s
same_or text None None None false m b j h s = tt
same_or text (Some n) (Some c) (Some i) t m b j h s = h
same_or text None None (Some i) t m b j h s = absurd h
same_or text None (Some c) r t m b j h s = absurd h
same_or text (Some n) None r t m b j h s = absurd h
same_or text (Some n) (Some c) None t m b j h s = absurd h

colon_is_mark : IsMark colon
colon_is_mark e = omega (arith, e)

abbrev pub state_name : List ℕ
state_name = codes "state"

pub same_last : (text : List ℕ) → is_utf8 text ≡ true → (ms : Members) (start : ℕ) (l : Lexeme) (ls : Placed) → Located text start l ls → After ms ls
    → SameLast text (last_named state_name (members_at (place_list ls) ms)) (last_bounds text (bounds_at (place_list ((start, l) ∷ ls)) ms)) (get_member state_name ms)
same_last text utf8 no_members start l ls at_start e = tt
same_last text utf8 (member k j ms) start l [] at_start e = cc
same_last text utf8 (member k j ms) start l (q ∷ []) at_start e = cc
same_last text utf8 (member k j ms) start l (q ∷ r ∷ vs) at_start e =
    let hq : q.1 ≡ token (Token.string k) = cc in
    let hr : r.1 ≡ colon = cc in
    let hv : lexemes vs ≡ lexemes_of false ((json_tokens j ++ members_tokens ms) ++ []) = cc in
    let us = members_tokens ms ++ [] in
    let value : lexemes vs ≡ lexemes_of false (json_tokens j ++ us) = hv ∙ ap (lexemes_of false) (append_assoc (json_tokens j) (members_tokens ms) []) in
    let v = skip_value j vs us value in
    let f : Following ms (drop (size j) vs) = following ms (drop (size j) vs) v.left in
    let n = size j in
    let vps = place_list vs in
    let ps = q.0 ∷ r.0 ∷ vps in
    let whole : lay between (start + 1) (drop (start + 1) text) ≡ (q.0, token (Token.string k)) ∷ (r.0, colon) ∷ vs =
    sym at_start.rest ∙ ap₂ (λ (x y : Lexeme). (q.0, x) ∷ (r.0, y) ∷ vs) hq hr in
    let at_colon = located text (drop (start + 1) text) between (start + 1) ((q.0, token (Token.string k)) ∷ []) r.0 colon vs refl colon_is_mark whole in
    let at_next = located text (drop (r.0 + 1) text) between (r.0 + 1) (take n vs) f.place f.lexeme f.rest refl f.mark (sym at_colon.rest ∙ parted n vs (f.place, f.lexeme) f.rest f.is) in
    let key : read_json (slice_range text (start + 1) r.0) ≡ Some (string k) =
    key_reads text start (byte_of l) (drop (start + 1) text) r.0 58 (drop (r.0 + 1) text) k q.0 colon vs utf8 at_start.here (small l) at_colon.here (small colon) whole in
    let b : Bounds = record { before = start; colon = r.0; after = f.place } in
    let m : Member = record { key = k; first = get_or ps 2 0; last = get_or ps (1 + n) 0 } in
    let named : is_state text b ≡ bytes_eq k state_name = ap (scan.is_text state_name) key in
    let same : Same text m b j = record {
      first = first_place (r.0 + 1) (drop (r.0 + 1) text) vs at_colon.rest (some_left n vs (f.place, f.lexeme) f.rest f.is);
      last = λ os is.
          let object_value : lexemes vs ≡ lexemes_of false (json_tokens (json.object os) ++ us) = value ∙ ap (λ i. lexemes_of false (json_tokens i ++ us)) is in
          let after_it : drop (size (json.object os)) vs ≡ (f.place, f.lexeme) ∷ f.rest = ap (λ i. drop (size i) vs) (sym is) ∙ f.is in
          let two : 1 + (1 + members_size os) ≡ suc (suc (members_size os)) = omega arith in
          ap (λ i. get_or ps (1 + size i) 0 + 1) is ∙ ap (λ i. get_or ps i 0 + 1) two ∙ object_end text (r.0 + 1) os us vs f.place f.lexeme f.rest at_colon.rest object_value after_it;
      order = λ os is.
          let object_value : lexemes vs ≡ lexemes_of false (json_tokens (json.object os) ++ us) = value ∙ ap (λ i. lexemes_of false (json_tokens i ++ us)) is in
          let two : 1 + (1 + members_size os) ≡ suc (suc (members_size os)) = omega arith in
          let place : get_or ps (1 + n) 0 ≡ get_or vps (members_size os) 0 = ap (λ i. get_or ps (1 + size i) 0) is ∙ ap (λ i. get_or ps i 0) two in
          let o = object_order text (r.0 + 1) os us vs at_colon.rest object_value in
          (omega (arith, o.0, place), omega (arith, o.1, place));
    } in
    let others = same_last text utf8 ms f.place f.lexeme f.rest at_next f.after in
    let both = same_or text (last_named state_name (members_at (place_list f.rest) ms)) (last_bounds text (bounds_at (place_list ((f.place, f.lexeme) ∷ f.rest)) ms)) (get_member state_name ms)
    (bytes_eq k state_name) m b j others same in
    let value_places : drop n vps ≡ place_list ((f.place, f.lexeme) ∷ f.rest) = drop-map (λ (x : ℕ × Lexeme). x.0) n vs ∙ ap place_list f.is in
    let three : 3 + n ≡ suc (suc (suc n)) = omega arith in
    let one_more : suc n ≡ n + 1 = omega arith in
    let next_keys : drop (3 + n) ps ≡ place_list f.rest =
    ap (λ i. drop i ps) three ∙ ap (λ i. drop i vps) one_more ∙ sym (drop-drop 1 n vps) ∙ ap (drop 1) value_places in
    let next_bounds : drop (3 + n) (start ∷ ps) ≡ place_list ((f.place, f.lexeme) ∷ f.rest) = ap (λ i. drop i (start ∷ ps)) three ∙ value_places in
    let after : get_or (start ∷ ps) (3 + n) 0 ≡ f.place = ap (λ i. get_or (start ∷ ps) i 0) three ∙ nth_place vs n (f.place, f.lexeme) f.rest f.is in
    let P : List ℕ → List ℕ → ℕ → Bool → Type 0 = λ keys bounds place t.
    SameLast text (option_or (last_named state_name (members_at keys ms)) (if bytes_eq k state_name then Some m else None))
    (option_or (last_bounds text (bounds_at bounds ms)) (if t then Some (record { before = start; colon = r.0; after = place }) else None))
    (later_or (get_member state_name ms) (cond (bytes_eq k state_name) (Some j) None)) in
    let P1 : List ℕ → Type 0 = λ keys. P keys (place_list ((f.place, f.lexeme) ∷ f.rest)) f.place (bytes_eq k state_name) in
    let P2 : List ℕ → Type 0 = λ bounds. P (drop (3 + n) ps) bounds f.place (bytes_eq k state_name) in
    let P3 : ℕ → Type 0 = λ place. P (drop (3 + n) ps) (drop (3 + n) (start ∷ ps)) place (bytes_eq k state_name) in
    let P4 : Bool → Type 0 = λ t. P (drop (3 + n) ps) (drop (3 + n) (start ∷ ps)) (get_or (start ∷ ps) (3 + n) 0) t in
    subst P4 (sym named) (subst P3 (sym after) (subst P2 (sym next_bounds) (subst P1 (sym next_keys) both)))

-- where the last one has an object, its span is that between its marks
pub last_span : (text : List ℕ) (o : Option Member) (p : Option Bounds) (r : Option Json) (os : Members) → SameLast text o p r → r ≡ Some (json.object os) → value_span o ≡ scan.span_of text (pair_of p)
last_span text None None None os h e = cc
last_span text (Some m) (Some b) (Some j) os h e =
    let is : j ≡ json.object os = cc in
    let from = h.first in
    let to = h.last os is in
    λ i. if nat_le (to i - from i) MAX_DATA then Span (from i) (to i) else Bad
last_span text None None (Some i) os h e = absurd h
last_span text None (Some c) r os h e = absurd h
last_span text (Some n) None r os h e = absurd h
last_span text (Some n) (Some c) None os h e = absurd h

one_within : (text : List ℕ) (m : Member) (t : Bool) → (m.first < m.last) × (m.last < length text) → IsSpanIn text (if t then Span m.first (m.last + 1) else Bad)
one_within text m true h = (omega (arith, h.0), omega (arith, h.1))
one_within text m false h = tt

-- and it lies within the text
pub last_within : (text : List ℕ) (o : Option Member) (p : Option Bounds) (r : Option Json) (os : Members) → SameLast text o p r → r ≡ Some (json.object os) → IsSpanIn text (value_span o)
last_within text None None None os h e = tt
last_within text (Some m) (Some b) (Some j) os h e =
    let is : j ≡ json.object os = cc in
    one_within text m (nat_le (m.last + 1 - m.first) MAX_DATA) (h.order os is)
last_within text None None (Some i) os h e = absurd h
last_within text None (Some c) r os h e = absurd h
last_within text (Some n) None r os h e = absurd h
last_within text (Some n) (Some c) None os h e = absurd h
