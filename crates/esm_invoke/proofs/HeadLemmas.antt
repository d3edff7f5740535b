-- Heads at the front of bytes that go on.
use Rattle.std.proofs.Common.{◌≡◌, ℕ, ◌+◌, ◌-◌, ◌<◌, ◌≤◌, min, Bool, true, false, eqb, ◌||◌, List, [], ◌∷◌, ◌++◌, map, length, get_or, drop, sym, refl, ap, ◌∙◌, subst, None, inl, inr, arith, append_assoc}
use Rattle.std.specs.List.{list_any}
use Rattle.std.specs.Prelude.{flat_map}
use Rattle.std.proofs.lemmas.Bool.{cases_lt, false≢true, and_from, or_left, or_right, le-leb}
use Rattle.std.proofs.lemmas.List.{length-append, drop-append-le, append-nil, get_or-append-add}
use Rattle.httparse.specs.Grammar.{LineEnd, crlf, lf, print_end, print_field, Field, ResponseHead, print_response, ReadsResponse, HasNoResponse}
use Rattle.httparse.specs.Spans.{IsResponseOf}
use Rattle.httparse.specs.declared.spans.HeaderSpan.{HeaderSpan}
use Rattle.httparse.specs.declared.spans.ResponseSpans.{ResponseSpans}
use Rattle.httparse.proofs.GrammarLemmas.{ReadsResponse-append, response_prefix_free}
use Rattle.http1.proofs.TextLemmas.{front_within}
use Rattle.esm_model.specs.declared.limits.TheConstants.{MAX_HEAD}
use Rattle.esm_invoke.specs.declared.head.Head.{Head}
use Rattle.esm_invoke.specs.declared.head.HeadSearch.{HeadSearch}
use Rattle.esm_invoke.specs.declared.head.HeadSearch.TheVariants.{Found, More, Never}
use Rattle.esm_invoke.specs.Response.{Says, BeginsWith}
use Rattle.esm_invoke.specs.ResponseRead.{ends_empty_line, HasNoHead, NeverBegins, ParsesHead, SaysAt}

pub list_any-map : {X Y : Type 0} (p : Y → Bool) (f : X → Y) (xs : List X) → list_any p (map f xs) ≡ list_any (λ x. p (f x)) xs
list_any-map p f [] = refl
list_any-map p f (x ∷ xs) = ap (λ t. p (f x) || t) (list_any-map p f xs)

-- ---- a head ends in a line feed

abbrev EndsInLf : List ℕ → Type 0
EndsInLf text = (front : List ℕ) × (text ≡ front ++ 10 ∷ [])

EndsInLf-after : (before text : List ℕ) → EndsInLf text → EndsInLf (before ++ text)
EndsInLf-after before text ends = (before ++ ends.0, ap (λ t. before ++ t) ends.1 ∙ sym (append_assoc before ends.0 (10 ∷ [])))

print_end_ends : (e : LineEnd) → EndsInLf (print_end e)
print_end_ends crlf = (13 ∷ [], refl)
print_end_ends lf = ([], refl)

print_field_ends : (f : Field) → EndsInLf (print_field f)
print_field_ends f = EndsInLf-after (f.name ++ 58 ∷ f.raw) (print_end f.end) (print_end_ends f.end)

EndsInLf-fields : (before : List ℕ) (fields : List Field) → EndsInLf before → EndsInLf (before ++ flat_map print_field fields)
EndsInLf-fields before [] ends = subst EndsInLf (sym (append-nil before)) ends
EndsInLf-fields before (f ∷ fields) ends =
    subst EndsInLf (append_assoc before (print_field f) (flat_map print_field fields))
    (EndsInLf-fields (before ++ print_field f) fields (EndsInLf-after before (print_field f) (print_field_ends f)))

-- a head is lines, and the end of the empty line after them
pub print_response_ends : (tree : ResponseHead) → (front : List ℕ) × EndsInLf front × (print_response tree ≡ front ++ print_end tree.last)
unfolding print_response
print_response_ends tree =
    let lines = flat_map print_field tree.fields in (
      _,
      EndsInLf-fields _ tree.fields (EndsInLf-after _ _ (print_end_ends tree.line_end)),
      sym (append_assoc _ lines (print_end tree.last)),
    )

-- an empty line behind a line feed is found at its end
empty_line_found : (front rest : List ℕ) (e : LineEnd)
    → ends_empty_line (front ++ 10 ∷ (print_end e ++ rest)) (length front + length (print_end e)) ≡ true
empty_line_found front rest crlf =
    let bytes = front ++ 10 ∷ 13 ∷ 10 ∷ rest in
    let at : ℕ = length front + 2 in
    let one : at - 1 ≡ length front + 1 = omega arith in
    let two : at - 2 ≡ length front + 0 = omega arith in
    let third : get_or bytes at 0 ≡ 10 = get_or-append-add front (10 ∷ 13 ∷ 10 ∷ rest) 2 0 in
    let second : get_or bytes (at - 1) 0 ≡ 13 = ap (λ k. get_or bytes k 0) one ∙ get_or-append-add front (10 ∷ 13 ∷ 10 ∷ rest) 1 0 in
    let first : get_or bytes (at - 2) 0 ≡ 10 = ap (λ k. get_or bytes k 0) two ∙ get_or-append-add front (10 ∷ 13 ∷ 10 ∷ rest) 0 0 in
    and_from _ _ (ap (λ b. eqb b 10) third)
    (or_right _ _ (and_from _ _ (le-leb 2 at (omega arith)) (and_from _ _ (ap (λ b. eqb b 13) second) (ap (λ b. eqb b 10) first))))
empty_line_found front rest lf =
    let bytes = front ++ 10 ∷ 10 ∷ rest in
    let at : ℕ = length front + 1 in
    let one : at - 1 ≡ length front + 0 = omega arith in
    let second : get_or bytes at 0 ≡ 10 = get_or-append-add front (10 ∷ 10 ∷ rest) 1 0 in
    let first : get_or bytes (at - 1) 0 ≡ 10 = ap (λ k. get_or bytes k 0) one ∙ get_or-append-add front (10 ∷ 10 ∷ rest) 0 0 in
    and_from _ _ (ap (λ b. eqb b 10) second) (or_left _ _ (and_from _ _ (le-leb 1 at (omega arith)) (ap (λ b. eqb b 10) first)))

-- no empty line ends behind the bytes that were looked at: no head does
pub no_head_without_empty_line : (bytes : List ℕ) (looked : ℕ) → HasNoHead looked bytes
    → ((k : ℕ) → looked ≤ k → k < length bytes → ends_empty_line bytes k ≡ false) → HasNoHead (min (length bytes) MAX_HEAD) bytes
no_head_without_empty_line bytes looked before none = record {
  none = λ more tree rest reads.
      let ends = print_response_ends tree in
      let text = print_response tree in
      let past = before.none more tree rest reads in
      elim (cases_lt (length bytes) (length text)) [
        | inl longer ↦ omega (arith, longer)
        | inr within ↦
            let e = print_end tree.last in
            let tail = drop (length text) bytes in
            let whole : bytes ≡ text ++ tail = front_within bytes more text rest reads.1 within in
            let line : bytes ≡ ends.1.0 ++ 10 ∷ (e ++ tail) =
            whole ∙ ap (λ t. t ++ tail) (ends.2 ∙ ap (λ f. f ++ e) ends.1.1)
            ∙ append_assoc (ends.1.0 ++ 10 ∷ []) e tail ∙ append_assoc ends.1.0 (10 ∷ []) (e ++ tail) in
            let len : length text ≡ length ends.1.0 + 1 + length e =
            ap length ends.2 ∙ length-append ends.0 e ∙ ap (λ n. n + length e) (ap length ends.1.1 ∙ length-append ends.1.0 (10 ∷ [])) in
            let at = length ends.1.0 + length e in
            let found : ends_empty_line bytes at ≡ true = ap (λ t. ends_empty_line t at) line ∙ empty_line_found ends.1.0 tail tree.last in
            absurd (false≢true (sym (none at (omega (arith, len, past)) (omega (arith, len, within))) ∙ found))
      ];
}

-- ---- what a parse of the bytes says of all that go on from them

pub no_head_yet : (bytes : List ℕ) → HasNoResponse bytes → HasNoHead (length bytes) bytes
no_head_yet bytes none = record {
  none = λ more tree rest reads.
      elim (cases_lt (length bytes) (length (print_response tree))) [
        | inl longer ↦ longer
        | inr within ↦ absurd (none tree _ (reads.0, front_within bytes more (print_response tree) rest reads.1 within))
      ];
}

pub never_without_saying : (bytes : List ℕ) (lines : List HeaderSpan) (spans : ResponseSpans)
    → IsResponseOf bytes lines spans → SaysAt bytes lines spans None → NeverBegins bytes
never_without_saying bytes lines spans found none more head after begins =
    let same = response_prefix_free bytes more found.0 begins.tree _ after found.1.reads begins.reads in
    none found.0 found.1 head (subst (λ t. Says t head) (sym same.0) begins.says) begins.known

pub BeginsWith-append : (bytes : List ℕ) (head : Head) (after more : List ℕ) → BeginsWith bytes head after → BeginsWith (bytes ++ more) head (after ++ more)
BeginsWith-append bytes head after more begins =
    record {
      tree = begins.tree;
      reads = ReadsResponse-append bytes begins.tree after more begins.reads;
      says = begins.says;
      known = begins.known;
      short = begins.short;
      few = begins.few;
    }

pub ParsesHead-append : (front back : List ℕ) (search : HeadSearch) → ParsesHead front (length front) search → ParsesHead (front ++ back) (length front) search
ParsesHead-append front back (Found head) found = (
  subst (BeginsWith (front ++ back) head) (sym (drop-append-le head.len front back found.1)) (BeginsWith-append front head (drop head.len front) back found.0),
  omega (arith, length-append front back, found.1),
)
ParsesHead-append front back More none = record {
  none = λ more tree rest reads. none.none (back ++ more) tree rest (subst (λ t. ReadsResponse t tree rest) (append_assoc front back more) reads);
}
ParsesHead-append front back Never never = λ more head after begins. never (back ++ more) head after (subst (λ t. BeginsWith t head after) (append_assoc front back more) begins)
