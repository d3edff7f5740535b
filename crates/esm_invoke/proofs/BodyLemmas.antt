-- What a call of the decoder does to what the reader of a body knows.
use Rattle.std.specs.Prelude.{Result, Ok, Err, IfOk}
use Rattle.std.proofs.Common.{◌≡◌, ◌≢◌, ℕ, ◌+◌, ◌<◌, ◌≤◌, false, List, [], ◌∷◌, ◌++◌, length, take, drop, sym, refl, ap, ◌∙◌, subst, inl, inr, arith, append_assoc, append-nil}
use Rattle.std.proofs.lemmas.List.{length-append, length-drop, length-map, length-take-le, drop-drop}
use Rattle.httparse.specs.declared.spans.HeaderSpan.{HeaderSpan}
use Rattle.httparse.specs.declared.spans.Span.{Span}
use Rattle.httparse.specs.Spans.{header_bytes, name_and_value, span_bytes}
use Rattle.esm_model.specs.declared.memory.OutOfMemory.{OutOfMemory}
use Rattle.http1.specs.declared.decode.Decoder.{Decoder}
use Rattle.http1.specs.declared.decode.Decoder.TheVariants.{Length, Chunked, UntilClose}
use Rattle.http1.specs.Body.{Body, body_of, ReadsBody}
use Rattle.http1.specs.Decoder.{Completes, Continues, Runs, Starves, AwaitsTrailers, Ends, with_front}
use Rattle.http1.proofs.OneParse.{body_unique}
use Rattle.esm_invoke.specs.declared.body.BodyReader.{BodyReader}
use Rattle.esm_invoke.specs.declared.body.Step.{Step}
use Rattle.esm_invoke.specs.declared.body.Step.TheVariants.{Data, More, Whole, Never}
use Rattle.esm_invoke.specs.declared.head.Head.{Head}
use Rattle.esm_model.specs.declared.limits.TheConstants.{MAX_BODY, MAX_HEADER_LINES, MAX_RESPONSE}
use Rattle.esm_invoke.specs.Response.{limits}
use Rattle.esm_invoke.specs.ResponseRead.{Awaits, IsUnfinished, HoldsBody, NeverHoldsBody, TakesPiece, TakesStep}

-- a decoder of a body up to the link's end stays one, and no other becomes one
stays_until_close : (old new : Decoder) (input : List ℕ) (n : ℕ) (piece : List ℕ) → Runs old input new n piece → old ≡ UntilClose → new ≡ UntilClose
stays_until_close (Length left) new input n piece runs e = cc
stays_until_close (Chunked chunks max) new input n piece runs e = cc
stays_until_close UntilClose new input n piece runs e = runs

was_until_close : (old new : Decoder) (input : List ℕ) (n : ℕ) (piece : List ℕ) → Runs old input new n piece → new ≡ UntilClose → old ≡ UntilClose
was_until_close (Length left) new input n piece runs e = cc
was_until_close (Chunked chunks max) new input n piece runs e = let same = runs.1 in cc
was_until_close UntilClose new input n piece runs e = refl

-- `new` is the reader after n bytes that gave the piece
pub record Takes (r new : BodyReader) (n : ℕ) (piece : List ℕ) : Type 0 where
  pub head : new.head ≡ r.head
  pub at : new.at ≡ r.at + n
  pub content : new.content.items ≡ r.content.items ++ piece

module _ (bytes : List ℕ) (r new : BodyReader) (n : ℕ) (piece : List ℕ) (awaits : Awaits bytes r) (goes_on : Continues r.decoder (drop r.at bytes) new.decoder n piece) (takes : Takes r new n piece) where
  left_is : drop n (drop r.at bytes) ≡ drop new.at bytes
  left_is = drop-drop n r.at bytes ∙ ap (λ k. drop k bytes) (sym takes.at)

  whole_is : (body : Body) → with_front r.content.items (with_front piece body) ≡ with_front new.content.items body
  whole_is body i = body_of ((sym (append_assoc r.content.items piece body.bytes) ∙ ap (λ c. c ++ body.bytes) (sym takes.content)) i) body.trailers

  abbrev ReadsIn : Head → List ℕ → Body → List ℕ → Type 0
  ReadsIn head more body rest = ReadsBody limits head.framing (drop head.len bytes ++ more) body rest

  pub awaits_on : length new.content.items ≤ MAX_BODY → Awaits bytes new
  awaits_on small = record {
    within = omega (arith, awaits.within, goes_on.within, takes.at, length-drop r.at bytes);
    forth = λ more whole rest reads.
        let first = awaits.forth more whole rest (subst (λ h. ReadsIn h more whole rest) takes.head reads) in
        let next = goes_on.forth more first.0 rest first.2 in (
          next.0,
          first.1 ∙ ap (with_front r.content.items) next.1 ∙ whole_is next.0,
          subst (λ left. Completes new.decoder (left ++ more) next.0 rest) left_is next.2,
        );
    back = λ more body rest completes.
        let before = goes_on.back more body rest (subst (λ left. Completes new.decoder (left ++ more) body rest) (sym left_is) completes) in
        subst (λ h. ReadsIn h more (with_front new.content.items body) rest) (sym takes.head)
        (subst (λ b. ReadsIn r.head more b rest) (whole_is body) (awaits.back more (with_front piece body) rest before));
    until_end = λ e. stays_until_close r.decoder new.decoder _ n piece goes_on.runs (awaits.until_end (ap (λ h. h.framing) (sym takes.head) ∙ e));
    only_until_end = λ e. ap (λ h. h.framing) takes.head ∙ awaits.only_until_end (was_until_close r.decoder new.decoder _ n piece goes_on.runs e);
    small = small;
  }

  pub none_on : (r.decoder ≢ UntilClose → (body : Body) (rest : List ℕ) → ¬ (Completes r.decoder (drop r.at bytes) body rest))
      → new.decoder ≢ UntilClose → (body : Body) (rest : List ℕ) → ¬ (Completes new.decoder (drop new.at bytes) body rest)
  none_on none closed body rest completes =
      let left : drop new.at bytes ≡ drop n (drop r.at bytes) ++ [] = sym left_is ∙ sym (append-nil _) in
      let before = goes_on.back [] body rest (subst (λ l. Completes new.decoder l body rest) left completes) in
      none (λ e. closed (stays_until_close r.decoder new.decoder _ n piece goes_on.runs e)) (with_front piece body) rest
      (subst (λ l. Completes r.decoder l (with_front piece body) rest) (append-nil _) before)

-- the piece makes the body too long
never_too_long : (bytes : List ℕ) (r mid : BodyReader) (n : ℕ) (piece : List ℕ) → Awaits bytes r → Continues r.decoder (drop r.at bytes) mid.decoder n piece
    → MAX_BODY < length r.content.items + length piece → NeverHoldsBody bytes r.head
never_too_long bytes r mid n piece awaits goes_on long ended more whole rest reads within =
    let first = awaits.forth more whole rest reads in
    let next = goes_on.forth more first.0 rest first.2 in
    let bytes_are : whole.bytes ≡ r.content.items ++ (piece ++ next.0.bytes) = ap (λ b. b.bytes) first.1 ∙ ap (λ b. r.content.items ++ b.bytes) next.1 in
    omega (arith, long, within.content, ap length bytes_are, length-append r.content.items (piece ++ next.0.bytes), length-append piece next.0.bytes)

module _ (bytes : List ℕ) (r new : BodyReader) (spans : List HeaderSpan) (n count : ℕ) (awaits : Awaits bytes r) (ends : Ends r.decoder (drop r.at bytes) spans n count) (takes : Takes r new n []) where
  content_is : new.content.items ≡ r.content.items
  content_is = takes.content ∙ append-nil r.content.items

  abbrev body : Body
  body = with_front r.content.items (body_of [] ends.trailers)

  end_is : drop n (drop r.at bytes) ≡ drop new.at bytes
  end_is = drop-drop n r.at bytes ∙ ap (λ k. drop k bytes) (sym takes.at)

  reads : (more : List ℕ) → ReadsBody limits r.head.framing (drop r.head.len bytes ++ more) body (drop new.at bytes ++ more)
  reads more = subst (λ left. ReadsBody limits r.head.framing (drop r.head.len bytes ++ more) body (left ++ more)) end_is (awaits.back more _ _ (ends.completes more))

  at_within : new.at ≤ length bytes
  at_within = omega (arith, awaits.within, ends.within.len_fits, takes.at, length-drop r.at bytes)

  not_until_close : r.decoder ≢ UntilClose
  not_until_close e =
      let stuck : [] ≡ drop r.at bytes ++ 1 ∷ [] = (subst (λ d. Completes d (drop r.at bytes ++ 1 ∷ []) (body_of [] ends.trailers) (drop n (drop r.at bytes) ++ 1 ∷ [])) e (ends.completes (1 ∷ []))).0 in
      omega (arith, ap length stuck, length-append (drop r.at bytes) (1 ∷ []))

  few : length spans ≤ MAX_HEADER_LINES → length ends.trailers ≤ MAX_HEADER_LINES
  few room =
      let same = ap length ends.covered in
      omega (arith, room, same, length-map (take count spans) (header_bytes (drop r.at bytes)), length-map ends.trailers name_and_value, length-take-le count spans ends.within.count_fits, ends.within.count_fits)

  pub holds_body : length spans ≤ MAX_HEADER_LINES → new.at ≤ MAX_RESPONSE → HoldsBody false bytes new
  holds_body room short = record {
    body = body;
    rest = drop new.at bytes;
    reads =
        subst (λ h. ReadsBody limits h.framing (drop h.len bytes) body (drop new.at bytes)) (sym takes.head)
        (subst (λ rest. ReadsBody limits r.head.framing (drop r.head.len bytes) body rest) (append-nil _)
        (subst (λ b. ReadsBody limits r.head.framing b body (drop new.at bytes ++ [])) (append-nil _) (reads [])));
    content_is = content_is ∙ sym (append-nil r.content.items);
    within = record {
      content = omega (arith, awaits.small, length-append r.content.items []);
      few = few room;
      whole = omega (arith, at_within, short, length-drop new.at bytes);
      closed = λ e. absurd (not_until_close (awaits.until_end (ap (λ h. h.framing) (sym takes.head) ∙ e)));
    };
  }

  -- the body ends past the limit
  pub never_past_limit : MAX_RESPONSE < new.at → NeverHoldsBody bytes new.head
  never_past_limit past ended more other rest others within =
      let same = body_unique limits r.head.framing _ other body rest _ (subst (λ h. ReadsBody limits h.framing (drop h.len bytes ++ more) other rest) takes.head others) (reads more) in
      omega (arith, past, at_within, within.whole, ap length same.1, length-append bytes more, length-append (drop new.at bytes) more, length-drop new.at bytes)

-- ---- what one call of the decoder came to

all_used : (bytes : List ℕ) (r new : BodyReader) (n : ℕ) → Awaits bytes r → Starves r.decoder (drop r.at bytes) new.decoder n → new.decoder ≡ UntilClose → r.at + n ≡ length bytes
all_used bytes r new n awaits starves e =
    elim starves.drained [
      | inl all ↦ omega (arith, all, awaits.within, length-drop r.at bytes)
      | inr trailers ↦ absurd (subst (λ d. AwaitsTrailers d (length (drop n (drop r.at bytes)))) e trailers)
    ]

pub step_more : (bytes : List ℕ) (r new : BodyReader) (n : ℕ) → Awaits bytes r → Starves r.decoder (drop r.at bytes) new.decoder n → Takes r new n [] → Awaits bytes new × IsUnfinished bytes new
step_more bytes r new n awaits starves takes =
    let content : new.content.items ≡ r.content.items = takes.content ∙ append-nil _ in (
      awaits_on bytes r new n [] awaits starves.continues takes (omega (arith, awaits.small, ap length content)),
      record {
        none = none_on bytes r new n [] awaits starves.continues takes starves.unfinished;
        used_up = λ e. takes.at ∙ all_used bytes r new n awaits starves e;
      },
    )

-- a piece of the content is taken, or makes the body too long
pub step_piece : (bytes : List ℕ) (r mid new : BodyReader) (span : Span) → Awaits bytes r
    → Continues r.decoder (drop r.at bytes) mid.decoder span.end (span_bytes (drop r.at bytes) span) → span.start < span.end
    → Takes r mid 0 [] → new.head ≡ mid.head → new.decoder ≡ mid.decoder
    → (result : Result Step OutOfMemory) → IfOk result (TakesPiece (drop r.at bytes) span mid new) → IfOk result (TakesStep bytes r new)
step_piece bytes r mid new span awaits goes_on some same head decoder (Ok Data) piece =
    let takes : Takes r new span.end (span_bytes (drop r.at bytes) span) = record {
      head = head ∙ same.head;
      at = omega (arith, piece.1, same.at);
      content = piece.0 ∙ ap (λ c. c ++ span_bytes (drop r.at bytes) span) (same.content ∙ append-nil _);
    } in
    let on = subst (λ d. Continues r.decoder (drop r.at bytes) d span.end (span_bytes (drop r.at bytes) span)) (sym decoder) goes_on in
    (awaits_on bytes r new span.end _ awaits on takes piece.2, omega (arith, takes.at, some))
step_piece bytes r mid new span awaits goes_on some same head decoder (Ok More) piece = absurd piece
step_piece bytes r mid new span awaits goes_on some same head decoder (Ok Whole) piece = absurd piece
step_piece bytes r mid new span awaits goes_on some same head decoder (Ok Never) piece =
    let content : mid.content.items ≡ r.content.items = same.content ∙ append-nil _ in
    let never = never_too_long bytes r mid span.end (span_bytes (drop r.at bytes) span) awaits goes_on (omega (arith, piece.0, ap length content)) in
    subst (NeverHoldsBody bytes) (sym (head ∙ same.head)) never
step_piece bytes r mid new span awaits goes_on some same head decoder (Err e) piece = tt
