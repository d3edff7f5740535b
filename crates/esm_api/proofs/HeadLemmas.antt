-- Heads at the front of bytes that go on.
use Rattle.std.proofs.Common.{◌≡◌, ℕ, zero, suc, ◌+◌, ◌<◌, ◌≤◌, List, [], ◌∷◌, ◌++◌, length, take, drop, sym, refl, ap, ◌∙◌, subst, Some, None, Option, inl, inr, arith, append_assoc, append-nil}
use Rattle.std.specs.Prelude.{flat_map, IsTrue}
use Rattle.std.proofs.lemmas.Bool.{cases_lt, false≢true}
use Rattle.std.proofs.lemmas.List.{length-append, length-map, length-take-le, drop-append-le}
use Rattle.httparse.specs.Grammar.{LineEnd, crlf, lf, print_end, print_blank, print_section, print_field, AllPass, is_uri_byte, RequestHead, print_request, ReadsRequest, HasNoRequest, NeverHasRequest, MayBecomeRequest}
use Rattle.httparse.specs.Spans.{IsRequestOf, IsRequestWithin, RequestOverflows, RequestExceeds, header_bytes, name_and_value}
use Rattle.httparse.specs.declared.spans.HeaderSpan.{HeaderSpan}
use Rattle.httparse.specs.declared.spans.RequestSpans.{RequestSpans}
use Rattle.httparse.proofs.GrammarLemmas.{ReadsRequest-append}
use Rattle.http1.proofs.TextLemmas.{front_within}
use Rattle.esm_model.specs.declared.limits.TheConstants.{MAX_HEAD, MAX_HEADER_LINES}
use Rattle.esm_api.specs.declared.head.Head.{Head}
use Rattle.esm_api.specs.Head.{BeginsWith, HasNoHead, BreaksForm, HasManyLines, HasBadHead, AwaitsHead, line_count}
use Rattle.esm_api.specs.HeadRead.{EndsLine, HasNoLine, HasNoneYet, IsPlanned, FindsHead, LooksForHead, SaysAt}
use Rattle.esm_api.proofs.Lines.{line_within, feeds_none, line_count-le-append, line_count-append_none, line_count_push, lines_of_head, exceeds_many}

-- ---- a head ends with a line

ends-after : (before text : List ℕ) → EndsLine text → EndsLine (before ++ text)
ends-after before text ends = (before ++ ends.0, ap (λ t. before ++ t) ends.1 ∙ sym (append_assoc before ends.0 (10 ∷ [])))

print_end_ends : (e : LineEnd) → EndsLine (print_end e)
print_end_ends crlf = (13 ∷ [], refl)
print_end_ends lf = ([], refl)

pub print_request_ends : (tree : RequestHead) → EndsLine (print_request tree)
unfolding print_request
print_request_ends tree =
    ends-after _ (print_section tree.fields tree.last)
    (ends-after (flat_map print_field tree.fields) (print_end tree.last) (print_end_ends tree.last))

pub request_some : (tree : RequestHead) → 0 < length (print_request tree)
request_some tree =
    let ends = print_request_ends tree in
    omega (arith, ap length ends.1, length-append ends.0 (10 ∷ []))

-- ---- bytes that go on

pub BeginsWith-append : (bytes : List ℕ) (tree : RequestHead) (after more : List ℕ) → BeginsWith bytes tree after → BeginsWith (bytes ++ more) tree (after ++ more)
BeginsWith-append bytes tree after more begins = record {
  reads = ReadsRequest-append bytes tree after more begins.reads;
  short = begins.short;
  few = begins.few;
}

-- a head at the front of longer bytes that is no longer than these is one of these
begins_front : (bytes more : List ℕ) (tree : RequestHead) (after : List ℕ) → BeginsWith (bytes ++ more) tree after → length (print_request tree) ≤ length bytes
    → BeginsWith bytes tree (drop (length (print_request tree)) bytes)
begins_front bytes more tree after begins within = record {
  reads = (begins.reads.0, front_within bytes more (print_request tree) after begins.reads.1 within);
  short = begins.short;
  few = begins.few;
}

-- a line that breaks the form breaks it whatever follows
breaks_on : (bytes more : List ℕ) → BreaksForm bytes → BreaksForm (bytes ++ more)
breaks_on bytes more breaks = record {
  front = breaks.front;
  rest = breaks.rest ++ more;
  parts = ap (λ t. t ++ more) breaks.parts ∙ append_assoc (breaks.front ++ 10 ∷ []) breaks.rest more;
  never = breaks.never;
}

no_head_where_broken : (bytes : List ℕ) → BreaksForm bytes → HasNoHead bytes
no_head_where_broken bytes breaks tree after begins =
    breaks.never breaks.rest tree after (begins.reads.0, sym breaks.parts ∙ begins.reads.1)

no_head_past_limit : (bytes more : List ℕ) → HasNoHead bytes → MAX_HEAD ≤ length bytes → HasNoHead (bytes ++ more)
no_head_past_limit bytes more none long tree after begins =
    none tree _ (begins_front bytes more tree after begins (omega (arith, begins.short, long)))

no_head_of_many : (bytes more : List ℕ) → HasNoHead bytes → HasManyLines bytes → HasNoHead (bytes ++ more)
no_head_of_many bytes more none many tree after begins =
    let text = print_request tree in
    elim (cases_lt (length bytes) (length text)) [
      | inr within ↦ none tree _ (begins_front bytes more tree after begins within)
      | inl longer ↦
          let ends = print_request_ends tree in
          let len = ap length ends.1 ∙ length-append ends.0 (10 ∷ []) in
          let cut : ends.0 ++ (10 ∷ after) ≡ bytes ++ more =
          sym (append_assoc ends.0 (10 ∷ []) after) ∙ sym (ap (λ t. t ++ after) ends.1) ∙ sym begins.reads.1 in
          let front : ends.0 ≡ bytes ++ drop (length bytes) ends.0 = front_within ends.0 (10 ∷ after) bytes more cut (omega (arith, longer, len)) in
          let some : line_count bytes ≤ line_count ends.0 = subst (λ t. line_count bytes ≤ line_count t) (sym front) (line_count-le-append bytes _) in
          omega (
            arith,
            many,
            some,
            line_count_push ends.0 (omega (arith, many, some)),
            ap line_count ends.1,
            lines_of_head tree begins.reads.0,
            begins.few,
          )
    ]

pub bad_on : (bytes more : List ℕ) → HasBadHead bytes → HasBadHead (bytes ++ more)
bad_on bytes more bad =
    elim bad.reason [
      | inl breaks ↦ record { none = no_head_where_broken (bytes ++ more) (breaks_on bytes more breaks); reason = inl (breaks_on bytes more breaks) }
      | inr other ↦
          elim other [
            | inl long ↦ record { none = no_head_past_limit bytes more bad.none long; reason = inr (inl (omega (arith, long, length-append bytes more))) }
            | inr many ↦ record { none = no_head_of_many bytes more bad.none many; reason = inr (inr (omega (arith, many, line_count-le-append bytes more))) }
          ]
    ]

pub planned_on : (bytes more : List ℕ) (head : Head) → head.len ≤ length bytes → IsPlanned bytes head → IsPlanned (bytes ++ more) head
planned_on bytes more head within planned =
    elim planned [
      | inl bad ↦ inl (bad_on bytes more bad.0, bad.1)
      | inr found ↦ inr (
        found.0,
        subst (BeginsWith (bytes ++ more) found.0) (sym (drop-append-le head.len bytes more within)) (BeginsWith-append bytes found.0 (drop head.len bytes) more found.1),
        found.2,
      )
    ]

-- ---- lines, and a tail in which none ends

pub none_yet_on : (lines tail : List ℕ) → HasNoLine tail → HasNoneYet lines → HasNoneYet (lines ++ tail)
none_yet_on lines tail free yet = record {
  none = λ tree after begins.
      let ends = print_request_ends tree in
      let len = ap length ends.1 ∙ length-append ends.0 (10 ∷ []) in
      let within = line_within lines tail ends.0 after free (begins.reads.1 ∙ ap (λ t. t ++ after) ends.1) in
      yet.none tree _ (begins_front lines tail tree after begins (omega (arith, within, len)));
  formed = λ breaks.
      let text = breaks.front ++ 10 ∷ [] in
      let within = line_within lines tail breaks.front breaks.rest free breaks.parts in
      yet.formed (record {
        front = breaks.front;
        rest = drop (length text) lines;
        parts = front_within lines tail text breaks.rest breaks.parts (omega (arith, within, length-append breaks.front (10 ∷ [])));
        never = breaks.never;
      });
  few = omega (arith, yet.few, line_count-append_none lines tail (feeds_none tail free));
}

pub looks_on : (lines tail : List ℕ) (found : Option Head) → HasNoLine tail → LooksForHead lines found → LooksForHead (lines ++ tail) found
looks_on lines tail None free yet = none_yet_on lines tail free yet
looks_on lines tail (Some head) free found = (planned_on lines tail head found.1 found.0, omega (arith, found.1, length-append lines tail))

pub none_yet_in_none : HasNoneYet []
none_yet_in_none = record {
  none = λ tree after begins. omega (arith, request_some tree, ap length begins.reads.1, length-append (print_request tree) after);
  formed = λ breaks. omega (arith, ap length breaks.parts, length-append (breaks.front ++ 10 ∷ []) breaks.rest, length-append breaks.front (10 ∷ []));
  few = omega (arith, line_count-append_none [] [] (feeds_none [] (λ k lt. absurd (omega (arith, lt)))), none_counted);
}
  where
    none_counted : line_count [] ≡ 0
    none_counted = feeds_none [] (λ k lt. absurd (omega (arith, lt)))

-- ---- what a parse of whole lines says

target_no_line : (target : List ℕ) → AllPass is_uri_byte target → HasNoLine (32 ∷ target)
target_no_line target all zero lt e = omega (arith, e)
target_no_line target all (suc k) lt e = false≢true (subst (λ b. IsTrue (is_uri_byte b)) e (all k 0 (omega (arith, lt))))

pub formed_if_partial : (lines : List ℕ) → EndsLine lines → MayBecomeRequest lines → ¬ (BreaksForm lines)
formed_if_partial lines ends (inl found) breaks =
    breaks.never (breaks.rest ++ found.0) found.1 []
    (found.2.0, sym (append_assoc (breaks.front ++ 10 ∷ []) breaks.rest found.0) ∙ ap (λ t. t ++ found.0) (sym breaks.parts) ∙ found.2.1)
formed_if_partial lines ends (inr target) breaks =
    let before = print_blank target.0 ++ target.1 in
    let within = line_within before (32 ∷ target.2) ends.0 [] (target_no_line target.2 target.4) (sym target.5 ∙ ends.1 ∙ sym (append-nil _)) in
    omega (arith, within, ap length target.5, ap length ends.1, length-append before (32 ∷ target.2), length-append ends.0 (10 ∷ []))

pub none_yet_if_partial : (lines : List ℕ) → EndsLine lines → HasNoRequest lines → MayBecomeRequest lines → line_count lines < MAX_HEADER_LINES + 2 → HasNoneYet lines
none_yet_if_partial lines ends none may few = record {
  none = λ tree after begins. none tree after begins.reads;
  formed = formed_if_partial lines ends may;
  few = few;
}

pub bad_if_many : (lines : List ℕ) → HasNoRequest lines → HasManyLines lines → HasBadHead lines
bad_if_many lines none many = record { none = λ tree after begins. none tree after begins.reads; reason = inr (inr many) }

no_head_if_overflows : (lines : List ℕ) → RequestOverflows MAX_HEADER_LINES lines → HasNoHead lines
no_head_if_overflows lines over tree after begins =
    let more = over [] tree after (subst (λ t. ReadsRequest t tree after) (sym (append-nil lines)) begins.reads) in
    omega (arith, more, begins.few)

pub bad_if_exceeds : (lines : List ℕ) → RequestOverflows MAX_HEADER_LINES lines → RequestExceeds MAX_HEADER_LINES lines → HasBadHead lines
bad_if_exceeds lines over exceeds = record { none = no_head_if_overflows lines over; reason = inr (inr (exceeds_many lines exceeds)) }

pub bad_if_never : (lines : List ℕ) → EndsLine lines → RequestOverflows MAX_HEADER_LINES lines → NeverHasRequest lines → HasBadHead lines
bad_if_never lines ends over never = record {
  none = no_head_if_overflows lines over;
  reason = inl (record {
    front = ends.0;
    rest = [];
    parts = ends.1 ∙ sym (append-nil _);
    never = subst NeverHasRequest ends.1 never;
  });
}

-- the head that was found, from what its spans say
pub planned_if_complete : (lines : List ℕ) (fields : List HeaderSpan) (spans : RequestSpans) (head : Head) → length lines ≤ MAX_HEAD → length fields ≤ MAX_HEADER_LINES
    → IsRequestWithin lines fields spans → IsRequestOf lines fields spans → SaysAt lines fields spans head → LooksForHead lines (Some head)
planned_if_complete lines fields spans head short room within found says =
    let tree = found.0 in
    let at = found.1 in
    let count = length-take-le spans.headers fields within.section.count_fits in (
      inr (
        tree,
        record {
          reads = subst (λ n. ReadsRequest lines tree (drop n lines)) (sym says.0) at.reads;
          short = omega (arith, at.len, within.section.len_fits, short);
          few =
              omega (arith, room, within.section.count_fits, count, ap length at.fields, length-map (take spans.headers fields) (header_bytes lines), length-map tree.fields name_and_value);
        },
        says.1 tree at,
      ),
      omega (arith, says.0, within.section.len_fits),
    )

-- ---- what was found, in bytes that are no more than a head may have

pub found_is : (bytes : List ℕ) (head : Head) → LooksForHead bytes (Some head) → FindsHead bytes (Some head)
found_is bytes head found = found

pub too_long : (bytes : List ℕ) → HasNoneYet bytes → MAX_HEAD ≤ length bytes → HasBadHead bytes
too_long bytes yet long = record { none = yet.none; reason = inr (inl long) }

pub awaits_if_short : (bytes : List ℕ) → HasNoneYet bytes → length bytes < MAX_HEAD → AwaitsHead bytes
awaits_if_short bytes yet short = record { none = yet.none; formed = yet.formed; short = short; few = yet.few }

pub none_yet_if_awaits : (bytes : List ℕ) → AwaitsHead bytes → HasNoneYet bytes
none_yet_if_awaits bytes awaits = record { none = awaits.none; formed = awaits.formed; few = awaits.few }
