use Rattle.std.proofs.Common.{◌+◌, refl, sym, subst, arith, append-nil}
use Rattle.std.specs.Prelude.{IfOk}
use Rattle.httparse.specs.Spans.{span_bytes}
use Rattle.http1.specs.Decoder.{Continues, Starves, Ends}
use Rattle.esm_invoke.specs.ResponseRead.{TakesPiece}
use Rattle.esm_invoke.proofs.BodyLemmas.{step_more, step_piece, holds_body, never_past_limit}
use Rattle.esm_invoke.proofs.body.BodyReader.step.Goals as goal

pub returns-in-Ok-Data-clause-taken : goal.returns-in-Ok-Data-clause-taken
returns-in-Ok-Data-clause-taken c =
    let r = c.args.self.now in
    let span = c.in-Ok-Data.span in
    let found = rw c.in-Ok-Data.field-0-is at c.in-Ok-Data.ensures.ok in
    step_piece c.args.bytes.now r (record r { decoder = c.decode.new.self }) c.take.new.self span c.requires
    (subst (λ input. Continues r.decoder input c.decode.new.self span.end (span_bytes input span)) c.split_at.ensures.back found.1)
    found.0 (record { head = refl; at = omega arith; content = sym (append-nil _) }) c.take.ensures.head c.take.ensures.decoder c.take.result
    (subst (λ input. IfOk c.take.result (TakesPiece input span (record r { decoder = c.decode.new.self }) c.take.new.self)) c.split_at.ensures.back c.take.ensures.piece)

pub returns-in-Ok-NeedMore-clause-taken : goal.returns-in-Ok-NeedMore-clause-taken
returns-in-Ok-NeedMore-clause-taken c =
    let r = c.args.self.now in
    let len = c.in-Ok-NeedMore.len in
    let found = rw c.in-Ok-NeedMore.field-0-is at c.in-Ok-NeedMore.ensures.ok in
    step_more c.args.bytes.now r (record r { decoder = c.decode.new.self; at = r.at + len }) len c.requires
    (subst (λ input. Starves r.decoder input c.decode.new.self len) c.split_at.ensures.back found)
    (record { head = refl; at = refl; content = sym (append-nil _) })

pub returns-then-self-le-MAX_RESPONSE-clause-taken : goal.returns-then-self-le-MAX_RESPONSE-clause-taken
returns-then-self-le-MAX_RESPONSE-clause-taken c =
    let r = c.args.self.now in
    let len = c.in-Ok-End.len in
    let found = rw c.in-Ok-End.field-0-is at c.in-Ok-End.ensures.ok in
    holds_body c.args.bytes.now r (record r { decoder = c.decode.new.self; at = r.at + len }) c.decode.new.trailers len c.in-Ok-End.field-0-1 c.requires
    (subst (λ input. Ends r.decoder input c.decode.new.trailers len c.in-Ok-End.field-0-1) c.split_at.ensures.back found)
    (record { head = refl; at = refl; content = sym (append-nil _) }) (omega (arith, c.decode.auto.trailers)) c.if-self-le-MAX_RESPONSE.true

pub returns-else-self-le-MAX_RESPONSE-clause-taken : goal.returns-else-self-le-MAX_RESPONSE-clause-taken
returns-else-self-le-MAX_RESPONSE-clause-taken c =
    let r = c.args.self.now in
    let len = c.in-Ok-End.len in
    let found = rw c.in-Ok-End.field-0-is at c.in-Ok-End.ensures.ok in
    never_past_limit c.args.bytes.now r (record r { decoder = c.decode.new.self; at = r.at + len }) c.decode.new.trailers len c.in-Ok-End.field-0-1 c.requires
    (subst (λ input. Ends r.decoder input c.decode.new.trailers len c.in-Ok-End.field-0-1) c.split_at.ensures.back found)
    (record { head = refl; at = refl; content = sym (append-nil _) }) c.if-self-le-MAX_RESPONSE.false
