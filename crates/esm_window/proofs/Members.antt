-- The marks of the scan are where the grammar finds the members of the outermost object.
use Rattle.std.proofs.Common.{◌≡◌, ℕ, suc, ◌+◌, List, [], ◌∷◌, ◌++◌, map, drop, get_or, codes, Bool, true, false, if◌then◌else◌, Option, Some, None, refl, sym, ap, ap₂, ◌∙◌, arith, append_assoc}
use Rattle.std.specs.Option.{option_or}
use Rattle.std.proofs.lemmas.List.{get_or-drop, drop-map}
use Rattle.json.specs.Token.{Token}
use Rattle.json.specs.Lex.{Lexeme, token, comma, colon}
use Rattle.json.specs.Json.{Members, no_members, member}
use Rattle.json.specs.Tree.{json_tokens, members_tokens}
use Rattle.esm_model.specs.Json.{read_json}
use Rattle.esm_window.specs.Scan as scan
use Rattle.esm_model.specs.State.{size}
use Rattle.esm_window.specs.Layout.{Placed, is_marked, deep, marked, lexemes_of, byte_of, Bounds, bounds_at, is_state, last_bounds, pair_of}
use Rattle.esm_window.proofs.Located.{IsMark}
use Rattle.esm_window.proofs.Skips.{lexemes, skip_value}

abbrev pub place_list : Placed → List ℕ
place_list ls = map (λ q. q.0) ls

-- ---- after a value

abbrev pub After : Members → Placed → Type 0
After no_members ls = ls ≡ []
After (member k j ms) ls = lexemes ls ≡ lexemes_of false (members_tokens (member k j ms) ++ [])

-- the comma or brace after a member's value is marked
pub record Following (ms : Members) (ls : Placed) : Type 0 where
  pub place : ℕ
  pub lexeme : Lexeme
  pub rest : Placed
  pub is : ls ≡ (place, lexeme) ∷ rest
  pub after : After ms rest
  pub mark : IsMark lexeme
  pub marks : marked 1 ls ≡ place ∷ marked 1 rest

brace_marked : (q : ℕ × Lexeme) → q.1 ≡ token Token.end_object → marked 1 (q ∷ []) ≡ q.0 ∷ marked 1 []
unfolding marked
brace_marked q e = λ i. if is_marked 1 (e i) then q.0 ∷ [] else []

comma_marked : (q : ℕ × Lexeme) (ls : Placed) → q.1 ≡ comma → marked 1 (q ∷ ls) ≡ q.0 ∷ marked 1 ls
unfolding marked
comma_marked q ls e = λ i. if is_marked 1 (e i) then q.0 ∷ marked (deep 1 (e i)) ls else marked (deep 1 (e i)) ls

pub following : (ms : Members) (ls : Placed) → lexemes ls ≡ lexemes_of true (members_tokens ms ++ []) → Following ms ls
following no_members [] e = cc
following no_members (q ∷ []) e = let h : q.1 ≡ token Token.end_object = cc in record { place = q.0; lexeme = q.1; rest = []; is = refl; after = refl; mark = λ e. (let never : 125 ≡ 48 = sym (ap byte_of h) ∙ e in omega arith); marks = brace_marked q h }
following no_members (q ∷ r ∷ ls) e = cc
following (member k j ms) [] e = cc
following (member k j ms) (q ∷ ls) e = let h : q.1 ≡ comma = cc in record { place = q.0; lexeme = q.1; rest = ls; is = refl; after = cc; mark = λ e. (let never : 44 ≡ 48 = sym (ap byte_of h) ∙ e in omega arith); marks = comma_marked q ls h }

-- ---- a member

key_and_colon : (q r : ℕ × Lexeme) (k : List ℕ) (ls : Placed) → q.1 ≡ token (Token.string k) → r.1 ≡ colon → marked 1 (q ∷ r ∷ ls) ≡ r.0 ∷ marked 1 ls
unfolding marked
key_and_colon q r k ls e f =
    let inner = λ (depth : ℕ) (l : Lexeme). if is_marked depth l then r.0 ∷ marked (deep depth l) ls else marked (deep depth l) ls in
    (λ i. if is_marked 1 (e i) then q.0 ∷ inner (deep 1 (e i)) r.1 else inner (deep 1 (e i)) r.1) ∙ (λ i. inner 1 (f i))

pair_or : (o : Option Bounds) (b : Bool) (m : Bounds) → option_or (pair_of o) (if b then Some (m.colon, m.after) else None) ≡ pair_of (option_or o (if b then Some m else None))
pair_or (Some n) b m = refl
pair_or None true m = refl
pair_or None false m = refl

last_step : (text : List ℕ) (start middle end : ℕ) (more : List ℕ)
    → scan.last_state text (start ∷ middle ∷ end ∷ more)
    ≡ option_or (scan.last_state text (end ∷ more)) (if scan.is_text (codes "state") (read_json (scan.between text start middle)) then Some (middle, end) else None)
unfolding scan.last_state
last_step text start middle end more = refl

last_one : (text : List ℕ) (start : ℕ) (ls : Placed) → ls ≡ [] → scan.last_state text (start ∷ marked 1 ls) ≡ None
unfolding scan.last_state marked
last_one text start ls e = ap (λ k. scan.last_state text (start ∷ marked 1 k)) e

pub members_found : (text : List ℕ) (ms : Members) (start : ℕ) (l : Lexeme) (ls : Placed) → After ms ls
    → scan.last_state text (start ∷ marked 1 ls) ≡ pair_of (last_bounds text (bounds_at (place_list ((start, l) ∷ ls)) ms))
members_found text no_members start l ls e = last_one text start ls e
members_found text (member k j ms) start l [] e = cc
members_found text (member k j ms) start l (q ∷ []) e = cc
members_found text (member k j ms) start l (q ∷ r ∷ vs) e =
    let hq : q.1 ≡ token (Token.string k) = cc in
    let hr : r.1 ≡ colon = cc in
    let hv : lexemes vs ≡ lexemes_of false ((json_tokens j ++ members_tokens ms) ++ []) = cc in
    let v = skip_value j vs (members_tokens ms ++ []) (hv ∙ ap (lexemes_of false) (append_assoc (json_tokens j) (members_tokens ms) [])) in
    let f = following ms (drop (size j) vs) v.left in
    let ps = start ∷ q.0 ∷ r.0 ∷ place_list vs in
    let three : 3 + size j ≡ suc (suc (suc (size j))) = omega arith in
    let rest : drop (3 + size j) ps ≡ place_list ((f.place, f.lexeme) ∷ f.rest) = ap (λ n. drop n ps) three ∙ drop-map (λ (q : ℕ × Lexeme). q.0) (size j) vs ∙ ap place_list f.is in
    let none_more : 3 + size j + 0 ≡ 3 + size j = omega arith in
    let after : get_or ps (3 + size j) 0 ≡ f.place = sym (get_or-drop (3 + size j) ps 0 0 ∙ ap (λ n. get_or ps n 0) none_more) ∙ ap (λ xs. get_or xs 0 0) rest in
    let marks : marked 1 (q ∷ r ∷ vs) ≡ r.0 ∷ f.place ∷ marked 1 f.rest = key_and_colon q r k vs hq hr ∙ ap (λ xs. r.0 ∷ xs) (v.quiet 1 (omega arith) ∙ f.marks) in
    let m : Bounds = record { before = start; colon = r.0; after = f.place } in
    let others = bounds_at (place_list ((f.place, f.lexeme) ∷ f.rest)) ms in
    ap (λ xs. scan.last_state text (start ∷ xs)) marks ∙ last_step text start r.0 f.place (marked 1 f.rest)
    ∙ ap₂ (λ o b. option_or o (if b then Some (r.0, f.place) else None)) (members_found text ms f.place f.lexeme f.rest f.after) refl
    ∙ pair_or (last_bounds text others) (is_state text m) m
    ∙ sym (ap₂ (λ (x : ℕ) (xs : List ℕ). pair_of (last_bounds text (record { before = start; colon = r.0; after = x } ∷ bounds_at xs ms))) after rest)
