-- Line feeds in bytes, and the lines of a head.
use Rattle.std.proofs.Common.{◌≡◌, ◌≢◌, ℕ, suc, ◌+◌, ◌-◌, ◌<◌, ◌≤◌, ◌⊎◌, Bool, true, false, cond, eqb, ◌||◌, List, [], ◌∷◌, ◌++◌, length, get_or, sym, refl, ap, ◌∙◌, subst, inl, inr, arith, append_assoc, append-nil}
use Rattle.std.specs.Prelude.{All, IsTrue, codes, flat_map}
use Rattle.std.proofs.lemmas.Bool.{cases_lt, ne_eqb, or_from, cond-false, false≢true}
use Rattle.std.proofs.lemmas.List.{length-append, get_or_at, get_or-append_right}
use Rattle.std.proofs.lemmas.List.Elements.{All-head, All-tail}
use Rattle.std.proofs.lemmas.List.Sums.{sum_by-append, sum_by-cons}
use Rattle.httparse.specs.Grammar.{LineEnd, crlf, lf, print_end, print_blank, print_version, print_section, Field, print_field, IsField, IsToken, AllPass, is_token_byte, is_uri_byte, is_value_byte, RequestHead, IsRequestHead, print_request}
use Rattle.httparse.specs.Spans.{RequestExceeds}
use Rattle.httparse.proofs.GrammarLemmas.{print_request-append}
use Rattle.esm_model.specs.declared.limits.TheConstants.{MAX_HEADER_LINES}
use Rattle.esm_api.specs.Head.{from_request_line, line_feeds, line_count, HasManyLines}
use Rattle.esm_api.specs.HeadRead.{HasNoLine}

-- ---- line feeds

pub feeds-append : (xs ys : List ℕ) → line_feeds (xs ++ ys) ≡ line_feeds xs + line_feeds ys
unfolding line_feeds
feeds-append xs ys = sum_by-append (λ b. cond (eqb b 10) 1 0) xs ys

feeds-cons : (x : ℕ) (xs : List ℕ) → line_feeds (x ∷ xs) ≡ cond (eqb x 10) 1 0 + line_feeds xs
unfolding line_feeds
feeds-cons x xs = sum_by-cons (λ b. cond (eqb b 10) 1 0) x xs

feeds-nil : line_feeds [] ≡ 0
unfolding line_feeds
feeds-nil = refl

feeds-end : (e : LineEnd) → line_feeds (print_end e) ≡ 1
unfolding line_feeds
feeds-end crlf = refl
feeds-end lf = refl

feeds-one : line_feeds (10 ∷ []) ≡ 1
feeds-one = feeds-end lf

feeds_other : (x : ℕ) (xs : List ℕ) → x ≢ 10 → line_feeds (x ∷ xs) ≡ line_feeds xs
feeds_other x xs other = omega (arith, feeds-cons x xs, cond-false {A = ℕ} (eqb x 10) 1 0 (ne_eqb x 10 other))

pub feeds_none : (bytes : List ℕ) → HasNoLine bytes → line_feeds bytes ≡ 0
feeds_none [] none = feeds-nil
feeds_none (x ∷ xs) none = feeds_other x xs (none 0 (omega arith)) ∙ feeds_none xs (λ k lt. none (suc k) (omega (arith, lt)))

-- a line that ends in bytes ends before a tail in which no line ends
pub line_within : (lines tail front rest : List ℕ) → HasNoLine tail → lines ++ tail ≡ (front ++ 10 ∷ []) ++ rest → length front + 1 ≤ length lines
line_within lines tail front rest none e =
    elim (cases_lt (length front) (length lines)) [
      | inl within ↦ omega (arith, within)
      | inr past ↦
          let at : get_or (lines ++ tail) (length front) 0 ≡ 10 =
          ap (λ t. get_or t (length front) 0) (e ∙ append_assoc front (10 ∷ []) rest) ∙ get_or_at front 10 rest 0 (length front) refl in
          let there : get_or (lines ++ tail) (length front) 0 ≡ get_or tail (length front - length lines) 0 =
          get_or-append_right lines tail (length lines) (length front) 0 refl past in
          let lt : length front - length lines < length tail =
          omega (arith, past, ap length e, length-append lines tail, length-append (front ++ 10 ∷ []) rest, length-append front (10 ∷ [])) in
          absurd (none (length front - length lines) lt (sym there ∙ at))
    ]

-- ---- lines from the request line on

from-append : (xs ys : List ℕ) → (from_request_line (xs ++ ys) ≡ from_request_line xs ++ ys) ⊎ ((from_request_line xs ≡ []) × (from_request_line (xs ++ ys) ≡ from_request_line ys))
from-append [] ys = inr (refl, refl)
from-append (x ∷ xs) ys =
    elim (eqb x 13 || eqb x 10) as (λ v. (cond v (from_request_line (xs ++ ys)) (x ∷ (xs ++ ys)) ≡ cond v (from_request_line xs) (x ∷ xs) ++ ys) ⊎ ((cond v (from_request_line xs) (x ∷ xs) ≡ []) × (cond v (from_request_line (xs ++ ys)) (x ∷ (xs ++ ys)) ≡ from_request_line ys))) [
      | true ↦ from-append xs ys
      | false ↦ inl refl
    ]

from-le : (ys : List ℕ) → line_feeds (from_request_line ys) ≤ line_feeds ys
from-le [] = omega arith
from-le (y ∷ ys) =
    elim (eqb y 13 || eqb y 10) as (λ v. line_feeds (cond v (from_request_line ys) (y ∷ ys)) ≤ line_feeds (y ∷ ys)) [
      | true ↦ omega (arith, from-le ys, feeds-cons y ys)
      | false ↦ omega arith
    ]

pub line_count-le-append : (xs ys : List ℕ) → line_count xs ≤ line_count (xs ++ ys)
line_count-le-append xs ys =
    elim (from-append xs ys) [
      | inl e ↦ omega (arith, ap line_feeds e, feeds-append (from_request_line xs) ys)
      | inr none ↦ omega (arith, ap line_feeds none.0, feeds-nil)
    ]

pub line_count-append_none : (xs ys : List ℕ) → line_feeds ys ≡ 0 → line_count (xs ++ ys) ≡ line_count xs
line_count-append_none xs ys free =
    elim (from-append xs ys) [
      | inl e ↦ omega (arith, ap line_feeds e, feeds-append (from_request_line xs) ys, free)
      | inr none ↦ omega (arith, ap line_feeds none.0, ap line_feeds none.1, from-le ys, feeds-nil, free)
    ]

pub line_count_push : (xs : List ℕ) → 0 < line_count xs → line_count (xs ++ 10 ∷ []) ≡ line_count xs + 1
line_count_push xs some =
    elim (from-append xs (10 ∷ [])) [
      | inl e ↦ omega (arith, ap line_feeds e, feeds-append (from_request_line xs) (10 ∷ []), feeds-one)
      | inr none ↦ omega (arith, ap line_feeds none.0, feeds-nil, some)
    ]

line_count_push-le : (xs : List ℕ) → line_count (xs ++ 10 ∷ []) ≤ line_count xs + 1
line_count_push-le xs =
    elim (from-append xs (10 ∷ [])) [
      | inl e ↦ omega (arith, ap line_feeds e, feeds-append (from_request_line xs) (10 ∷ []), feeds-one)
      | inr none ↦ omega (arith, ap line_feeds none.1, feeds-nil)
    ]

-- ---- the lines of a head

pass_none : (test : ℕ → Bool) → test 10 ≡ false → (bytes : List ℕ) → AllPass test bytes → line_feeds bytes ≡ 0
pass_none test fails bytes all =
    feeds_none bytes (λ k lt e. false≢true (sym fails ∙ subst (λ b. IsTrue (test b)) e (all k 0 lt)))

token_no_line : is_token_byte 10 ≡ false
unfolding is_token_byte
token_no_line = refl

token_no_return : is_token_byte 13 ≡ false
unfolding is_token_byte
token_no_return = refl

letters_no_line : line_feeds (codes "HTTP/1.") ≡ 0
unfolding line_feeds
letters_no_line = refl

feeds_version : (minor : ℕ) → minor ≤ 1 → line_feeds (print_version minor) ≡ 0
feeds_version minor le =
    omega (
      arith,
      feeds-append (codes "HTTP/1.") ((48 + minor) ∷ []),
      letters_no_line,
      feeds_other (48 + minor) [] (λ e. omega (arith, e)),
      feeds-nil,
    )

feeds_field : (f : Field) → IsField f → line_feeds (print_field f) ≡ 1
feeds_field f is =
    omega (
      arith,
      feeds-append (f.name ++ 58 ∷ f.raw) (print_end f.end),
      feeds-append f.name (58 ∷ f.raw),
      feeds_other 58 f.raw (λ e. omega (arith, e)),
      pass_none is_token_byte token_no_line f.name is.name.1,
      pass_none is_value_byte refl f.raw is.raw,
      feeds-end f.end,
    )

feeds_fields : (fields : List Field) → All IsField fields → line_feeds (flat_map print_field fields) ≡ length fields
feeds_fields [] all = feeds-nil
feeds_fields (f ∷ fields) all =
    omega (
      arith,
      feeds-append (print_field f) (flat_map print_field fields),
      feeds_field f (All-head IsField f fields all),
      feeds_fields fields (All-tail IsField f fields all),
    )

blank_skipped : (ends : List LineEnd) (t : List ℕ) → from_request_line (print_blank ends ++ t) ≡ from_request_line t
blank_skipped [] t = refl
blank_skipped (crlf ∷ ends) t = blank_skipped ends t
blank_skipped (lf ∷ ends) t = blank_skipped ends t

token_begins : (method t : List ℕ) → IsToken method → from_request_line (method ++ t) ≡ method ++ t
token_begins [] t is = absurd (omega (arith, is.0))
token_begins (m ∷ ms) t is =
    let passes : IsTrue (is_token_byte m) = All-head (λ b. IsTrue (is_token_byte b)) m ms is.1 in
    cond-false _ _ _ (or_from _ _
    (ne_eqb m 13 (λ e. false≢true (sym token_no_return ∙ subst (λ b. IsTrue (is_token_byte b)) e passes)))
    (ne_eqb m 10 (λ e. false≢true (sym token_no_line ∙ subst (λ b. IsTrue (is_token_byte b)) e passes))))

-- a head has its request line, its header lines and the empty line
pub lines_of_head : (h : RequestHead) → IsRequestHead h → line_count (print_request h) ≡ length h.fields + 2
lines_of_head h is =
    let lines = flat_map print_field h.fields in
    let section = print_section h.fields h.last in
    let fourth = print_end h.line_end ++ (section ++ []) in
    let third = print_version h.minor ++ fourth in
    let second = h.target ++ 32 ∷ third in
    let first = h.method ++ 32 ∷ second in
    let text : print_request h ≡ print_blank h.blank ++ first = sym (append-nil _) ∙ print_request-append h [] in
    let begun : line_count (print_request h) ≡ line_feeds first =
    ap line_count text ∙ ap line_feeds (blank_skipped h.blank first ∙ token_begins h.method (32 ∷ second) is.method) in
    omega (
      arith,
      begun,
      feeds-append h.method (32 ∷ second),
      feeds_other 32 second (λ e. omega (arith, e)),
      pass_none is_token_byte token_no_line h.method is.method.1,
      feeds-append h.target (32 ∷ third),
      feeds_other 32 third (λ e. omega (arith, e)),
      pass_none is_uri_byte refl h.target is.target.1,
      feeds-append (print_version h.minor) fourth,
      feeds_version h.minor is.minor,
      feeds-append (print_end h.line_end) (section ++ []),
      feeds-end h.line_end,
      feeds-append section [],
      feeds-nil,
      feeds-append lines (print_end h.last),
      feeds_fields h.fields is.fields,
      feeds-end h.last,
    )

-- where a front and an empty line are a head with more header lines than the limit, so many lines have come
pub exceeds_many : (bytes : List ℕ) → RequestExceeds MAX_HEADER_LINES bytes → HasManyLines bytes
exceeds_many bytes ex =
    let front = ex.0 in
    let h = ex.3 in
    let reads = ex.4 in
    let count = lines_of_head h reads.0 in
    omega (
      arith,
      ex.5,
      count,
      ap line_count (reads.1 ∙ append-nil (print_request h)),
      line_count_push-le front,
      ap line_count ex.2,
      line_count-le-append front ex.1,
    )
