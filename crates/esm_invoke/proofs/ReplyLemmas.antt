-- From what the reader of heads and that of bodies know to the reply.
use Rattle.std.specs.Prelude.{Result, Ok, Err, IfOk}
use Rattle.std.proofs.Common.{◌≡◌, ◌≢◌, ℕ, ◌+◌, ◌≤◌, ◌⊎◌, Bool, true, false, List, [], ◌∷◌, ◌++◌, length, take, drop, Some, None, Option, sym, refl, ap, ◌∙◌, subst, inl, inr, arith, append_assoc, append-nil}
use Rattle.std.proofs.lemmas.List.{length-append, length-drop, length-take-le, drop-append-le, drop_all}
use Rattle.std.proofs.lemmas.Bool.{false≢true}
use Rattle.httparse.specs.Grammar.{ResponseHead, print_end, print_response, ReadsResponse}
use Rattle.httparse.proofs.GrammarLemmas.{response_prefix_free}
use Rattle.http1.specs.declared.decode.Decoder.{Decoder}
use Rattle.http1.specs.declared.decode.Decoder.TheVariants.{Length, Chunked, UntilClose}
use Rattle.http1.specs.declared.framing.Framing.{Framing}
use Rattle.http1.specs.declared.framing.Framing.TheVariants as Framed
use Rattle.http1.specs.Body.{Body, body_of, ReadsBody}
use Rattle.http1.specs.Decoder.{decoder_for, Completes, with_front}
use Rattle.http1.proofs.OneParse.{completes_from_body, body_from_completes}
use Rattle.esm_model.specs.declared.entry.Reply.{Reply}
use Rattle.esm_model.specs.declared.entry.Reply.TheVariants.{Answered, Garbled, Lost}
use Rattle.esm_model.specs.declared.memory.OutOfMemory.{OutOfMemory}
use Rattle.esm_io.specs.Talks.{Talk, Reads, IsReadOut}
use Rattle.esm_invoke.specs.declared.body.BodyReader.{BodyReader}
use Rattle.esm_invoke.specs.declared.head.Head.{Head}
use Rattle.esm_invoke.specs.Response.{limits, Says, BeginsWith, IsBodyWithin, HoldsResponse, HoldsNone, NeverHolds, NeverWhole, StopsAt, IsReplyTo}
use Rattle.esm_invoke.specs.ResponseRead.{HasNoHead, NeverBegins, Awaits, IsUnfinished, NeverHoldsBody}
use Rattle.esm_invoke.specs.Receiving.{ReadsMore, ReadsInto, Replies, HasNone, Settles}
use Rattle.esm_invoke.specs.Exchange.{GrowsFor}
use Rattle.esm_invoke.proofs.HeadLemmas.{print_response_ends, BeginsWith-append}
use Rattle.esm_invoke.proofs.TalkLemmas.{Reads_none, Reads_then}

-- ---- one head

some_same : (f g : Framing) → Some f ≡ Some g → f ≡ g
some_same f g e = cc

-- a head says one thing
says_same : (tree : ResponseHead) (h k : Head) → Says tree h → Says tree k → h ≡ k
says_same tree h k a b =
    let framing = some_same h.framing k.framing (sym a.framing ∙ b.framing) in
    λ i. record {
      len = (a.len ∙ sym b.len) i;
      status = (a.status ∙ sym b.status) i;
      error = (a.error ∙ sym b.error) i;
      framing = framing i;
    }

-- the head of bytes that go on is the head of the bytes
pub head_same : (bytes more : List ℕ) (h k : Head) (after later : List ℕ) → BeginsWith bytes h after → BeginsWith (bytes ++ more) k later → (h ≡ k) × (after ++ more ≡ later)
head_same bytes more h k after later a b =
    let same = response_prefix_free bytes more a.tree b.tree after later a.reads b.reads in
    (says_same b.tree h k (subst (λ t. Says t h) same.0 a.says) b.says, same.1)

-- ---- no response

pub never_none : (ended : Bool) (bytes : List ℕ) → NeverHolds bytes → HoldsNone ended bytes
never_none ended bytes never head content holds = never ended [] head content (subst (λ b. HoldsResponse ended b head content) (sym (append-nil bytes)) holds)

pub none_without_head : (ended : Bool) (bytes : List ℕ) → HasNoHead (length bytes) bytes → HoldsNone ended bytes
none_without_head ended bytes none head content holds =
    let tree = holds.begins.tree in
    let reads = holds.begins.reads in
    let longer = none.none [] tree holds.after (subst (λ b. ReadsResponse b tree holds.after) (sym (append-nil bytes)) reads) in
    omega (arith, longer, ap length reads.1, length-append (print_response tree) holds.after)

pub never_without_head : (bytes : List ℕ) → NeverBegins bytes → NeverHolds bytes
never_without_head bytes never ended more head content holds = never more head holds.after holds.begins

pub never_without_body : (bytes : List ℕ) (head : Head) → BeginsWith bytes head (drop head.len bytes) → NeverHoldsBody bytes head → NeverHolds bytes
never_without_body bytes head begins never ended more other content holds =
    let same = head_same bytes more head other _ holds.after begins holds.begins in
    never ended more holds.body holds.rest
    (subst (λ t. ReadsBody limits head.framing t holds.body holds.rest) (sym same.1) (subst (λ h. ReadsBody limits h.framing holds.after holds.body holds.rest) (sym same.0) holds.reads))
    (subst (λ h. IsBodyWithin ended (bytes ++ more) h.framing holds.body holds.rest) (sym same.0) holds.within)

-- a response that is whole before the link's end is one there too
pub none_before : (ended : Bool) (bytes : List ℕ) → HoldsNone ended bytes → HoldsNone false bytes
none_before ended bytes none head content holds =
    none head content (record {
      after = holds.after;
      begins = holds.begins;
      body = holds.body;
      rest = holds.rest;
      reads = holds.reads;
      content_is = holds.content_is;
      within = record {
        content = holds.within.content;
        few = holds.within.few;
        whole = holds.within.whole;
        closed = λ e. absurd (false≢true (holds.within.closed e));
      };
    })

-- a body up to the link's end is never whole by itself
pub never_whole : (bytes : List ℕ) (head : Head) → BeginsWith bytes head (drop head.len bytes) → head.framing ≡ Framed.UntilClose → NeverWhole bytes
never_whole bytes head begins close more other content holds =
    let same = head_same bytes more head other _ holds.after begins holds.begins in
    absurd (false≢true (holds.within.closed (ap (λ h. h.framing) (sym same.0) ∙ close)))

pub none_whole : (bytes : List ℕ) → NeverWhole bytes → HoldsNone false bytes
none_whole bytes never = subst (HoldsNone false) (append-nil bytes) (never [])

is_until_close : (d : Decoder) → (d ≡ UntilClose) ⊎ (d ≢ UntilClose)
is_until_close (Length left) = inr (λ e. cc)
is_until_close (Chunked chunks max) = inr (λ e. cc)
is_until_close UntilClose = inl refl

-- an unfinished body makes no response, unless it goes up to the link's end and the link has ended
pub none_unfinished : (ended : Bool) (bytes : List ℕ) (r : BodyReader) → BeginsWith bytes r.head (drop r.head.len bytes) → Awaits bytes r → IsUnfinished bytes r
    → (r.decoder ≡ UntilClose → ended ≡ false) → HoldsNone ended bytes
none_unfinished ended bytes r begins awaits unfinished open' head content holds =
    let same = head_same bytes [] r.head head _ holds.after begins (subst (λ b. BeginsWith b head holds.after) (sym (append-nil bytes)) holds.begins) in
    let reads = subst (λ t. ReadsBody limits r.head.framing t holds.body holds.rest) (sym same.1) (subst (λ h. ReadsBody limits h.framing holds.after holds.body holds.rest) (sym same.0) holds.reads) in
    let left = awaits.forth [] holds.body holds.rest reads in
    elim (is_until_close r.decoder) [
      | inl close ↦
          let whole : ended ≡ true = holds.within.closed (ap (λ h. h.framing) (sym same.0) ∙ awaits.only_until_end close) in
          absurd (false≢true (sym (open' close) ∙ whole))
      | inr other ↦ unfinished.none other left.0 holds.rest (subst (λ b. Completes r.decoder b left.0 holds.rest) (append-nil _) left.2)
    ]

-- a body up to the link's end is whole there
pub answered_at_end : (bytes : List ℕ) (r : BodyReader) → BeginsWith bytes r.head (drop r.head.len bytes) → Awaits bytes r → IsUnfinished bytes r
    → r.decoder ≡ UntilClose → IsReplyTo true bytes (Answered r.head.status r.head.error r.content.items)
answered_at_end bytes r begins awaits unfinished close =
    let left : drop r.at bytes ≡ [] = drop_all r.at bytes (omega (arith, unfinished.used_up close)) in
    let framing = awaits.only_until_end close in
    let completes : Completes r.decoder (drop r.at bytes ++ []) (body_of [] []) [] =
    subst (λ d. Completes d (drop r.at bytes ++ []) (body_of [] []) []) (sym close) (sym (append-nil _ ∙ left), refl, refl) in
    let body = with_front r.content.items (body_of [] []) in
    let reads = subst (λ t. ReadsBody limits r.head.framing t body []) (append-nil _) (awaits.back [] (body_of [] []) [] completes) in
    let all : r.content.items ++ [] ≡ drop r.head.len bytes = (subst (λ f. ReadsBody limits f (drop r.head.len bytes) body []) framing reads).0 in (
      r.head,
      record {
        after = drop r.head.len bytes;
        begins = begins;
        body = body;
        rest = [];
        reads = reads;
        content_is = sym (append-nil _);
        within = record {
          content = omega (arith, awaits.small, length-append r.content.items []);
          few = omega arith;
          whole = omega (arith, awaits.small, begins.short, ap length all, length-append r.content.items [], length-drop r.head.len bytes);
          closed = λ _. refl;
        };
      },
      refl,
      refl,
    )

-- ---- reads

pub reads_on : (a b c : Option Talk) (before after : List ℕ) → Reads a b before → ReadsMore b c before after → Reads a c after
reads_on a b c before after first more = subst (Reads a c) (sym more.grown) (Reads_then a b c before more.piece first more.reads)

-- a read behind bytes that were moved to a larger buffer
pub reads_behind : (a b c : Option Talk) (before front after : List ℕ) → Reads a b before → front ≡ before → ReadsMore b c front after → Reads a c after
reads_behind a b c before front after first same more = reads_on a b c before after first (subst (λ t. ReadsMore b c t after) same more)

pub no_head_in_none : HasNoHead 0 []
no_head_in_none = record {
  none = λ more tree rest reads.
      let ends = print_response_ends tree in
      omega (arith, ap length ends.2, length-append ends.0 (print_end tree.last), ap length ends.1.1, length-append ends.1.0 (10 ∷ []));
}

pub more_then : (a b c : Option Talk) (before mid after : List ℕ) → ReadsMore a b before mid → ReadsMore b c mid after → ReadsMore a c before after
more_then a b c before mid after first next = record {
  piece = first.piece ++ next.piece;
  grown = next.grown ∙ ap (λ t. t ++ next.piece) first.grown ∙ append_assoc before first.piece next.piece;
  reads = Reads_then a b c first.piece next.piece first.reads next.reads;
}

pub more_behind : (a b c : Option Talk) (start before front after : List ℕ) → ReadsMore a b start before → front ≡ before → ReadsMore b c front after → ReadsMore a c start after
more_behind a b c start before front after first same more = more_then a b c start before after first (subst (λ t. ReadsMore b c t after) same more)

pub no_more : (a : Option Talk) (bytes : List ℕ) → ReadsMore a a bytes bytes
no_more a bytes = record { piece = []; grown = sym (append-nil bytes); reads = Reads_none a }

-- a read that gave nothing left the bytes as they were
pub nothing_more : (a b : Option Talk) (before after : List ℕ) → ReadsMore a b before after → length after ≤ length before → after ≡ before
nothing_more a b before after more same =
    let none : more.piece ≡ [] = none_of more.piece (omega (arith, same, ap length more.grown, length-append before more.piece)) in
    more.grown ∙ ap (λ p. before ++ p) none ∙ append-nil before
  where
    none_of : (piece : List ℕ) → length piece ≤ 0 → piece ≡ []
    none_of [] empty = refl
    none_of (b ∷ piece) empty = absurd (omega (arith, empty))

-- ---- the room of what was read

pub into_front : (a b : Option Talk) (bytes : List ℕ) (filled before after : ℕ) → Reads a b bytes → length bytes ≡ filled → GrowsFor before after filled → ReadsInto a b 0 before after
into_front a b bytes filled before after reads len grows = record { read = bytes; reads = reads; grows = omega (arith, len, grows) }

pub into_behind : (a b : Option Talk) (start now : List ℕ) (first filled before after : ℕ) → ReadsMore a b start now → length start ≡ first → length now ≡ filled
    → GrowsFor before after filled → ReadsInto a b first before after
into_behind a b start now first filled before after more start_len len grows = record {
  read = more.piece;
  reads = more.reads;
  grows = omega (arith, ap length more.grown, length-append start more.piece, start_len, len, grows);
}

pub into_then : (a b c : Option Talk) (bytes : List ℕ) (filled before middle after : ℕ) → Reads a b bytes → length bytes ≡ filled → GrowsFor before middle filled
    → ReadsInto b c filled middle after → ReadsInto a c 0 before after
into_then a b c bytes filled before middle after reads len grows next = record {
  read = bytes ++ next.read;
  reads = Reads_then a b c bytes next.read reads next.reads;
  grows = omega (arith, len, grows, next.grows, length-append bytes next.read);
}

-- ---- a head and a body over more bytes

pub begins_append : (before piece : List ℕ) (head : Head) → head.len ≤ length before → BeginsWith before head (drop head.len before) → BeginsWith (before ++ piece) head (drop head.len (before ++ piece))
begins_append before piece head within begins =
    subst (BeginsWith (before ++ piece) head) (sym (drop-append-le head.len before piece within)) (BeginsWith-append before head (drop head.len before) piece begins)

pub begins_on : (a b : Option Talk) (before after : List ℕ) (head : Head) → ReadsMore a b before after → head.len ≤ length before
    → BeginsWith before head (drop head.len before) → BeginsWith after head (drop head.len after)
begins_on a b before after head more within begins =
    subst (λ t. BeginsWith t head (drop head.len t)) (sym more.grown) (begins_append before more.piece head within begins)

awaits_append : (before piece : List ℕ) (r : BodyReader) → r.head.len ≤ length before → Awaits before r → Awaits (before ++ piece) r
awaits_append before piece r within awaits =
    let body_is : (more : List ℕ) → drop r.head.len (before ++ piece) ++ more ≡ drop r.head.len before ++ (piece ++ more) =
    λ more. ap (λ t. t ++ more) (drop-append-le r.head.len before piece within) ∙ append_assoc (drop r.head.len before) piece more in
    let left_is : (more : List ℕ) → drop r.at (before ++ piece) ++ more ≡ drop r.at before ++ (piece ++ more) =
    λ more. ap (λ t. t ++ more) (drop-append-le r.at before piece awaits.within) ∙ append_assoc (drop r.at before) piece more in
    record {
      within = omega (arith, awaits.within, length-append before piece);
      forth = λ more whole rest reads.
          let found = awaits.forth (piece ++ more) whole rest (subst (λ t. ReadsBody limits r.head.framing t whole rest) (body_is more) reads) in
          (found.0, found.1, subst (λ t. Completes r.decoder t found.0 rest) (sym (left_is more)) found.2);
      back = λ more body rest completes.
          subst (λ t. ReadsBody limits r.head.framing t (with_front r.content.items body) rest) (sym (body_is more))
          (awaits.back (piece ++ more) body rest (subst (λ t. Completes r.decoder t body rest) (left_is more) completes));
      until_end = awaits.until_end;
      only_until_end = awaits.only_until_end;
      small = awaits.small;
    }

pub awaits_more : (a b : Option Talk) (before after : List ℕ) (r : BodyReader) → ReadsMore a b before after → r.head.len ≤ length before → Awaits before r → Awaits after r
awaits_more a b before after r more within awaits = subst (λ t. Awaits t r) (sym more.grown) (awaits_append before more.piece r within awaits)

framing_kind : (f : Framing) → f ≡ Framed.UntilClose → decoder_for limits f ≡ UntilClose
framing_kind f e = ap (decoder_for limits) e

decoder_kind : (f : Framing) → decoder_for limits f ≡ UntilClose → f ≡ Framed.UntilClose
decoder_kind Framed.NoBody e = cc
decoder_kind (Framed.Length n) e = cc
decoder_kind Framed.Chunked e = cc
decoder_kind Framed.UntilClose e = refl

-- a fresh reader waits for the whole body
pub awaits_start : (bytes : List ℕ) (head : Head) (r : BodyReader) → r.head ≡ head → r.decoder ≡ decoder_for limits head.framing → r.at ≡ head.len → r.content.items ≡ []
    → head.len ≤ length bytes → Awaits bytes r
awaits_start bytes head r same decoder at content within =
    let body_is : (more : List ℕ) → drop r.head.len bytes ++ more ≡ drop r.at bytes ++ more = λ more. ap (λ k. drop k bytes ++ more) (ap (λ h. h.len) same ∙ sym at) in
    let starts : r.decoder ≡ decoder_for limits r.head.framing = decoder ∙ ap (λ h. decoder_for limits h.framing) (sym same) in
    let empty : (body : Body) → with_front r.content.items body ≡ body = λ body. ap (λ c. with_front c body) content in
    record {
      within = omega (arith, at, within);
      forth = λ more whole rest reads. (
        whole,
        sym (empty whole),
        subst (λ d. Completes d (drop r.at bytes ++ more) whole rest) (sym starts)
            (completes_from_body limits r.head.framing (drop r.at bytes ++ more) whole rest (subst (λ t. ReadsBody limits r.head.framing t whole rest) (body_is more) reads)),
      );
      back = λ more body rest completes.
          subst (λ b. ReadsBody limits r.head.framing (drop r.head.len bytes ++ more) b rest) (sym (empty body))
          (subst (λ t. ReadsBody limits r.head.framing t body rest) (sym (body_is more))
          (body_from_completes limits r.head.framing (drop r.at bytes ++ more) body rest (subst (λ d. Completes d (drop r.at bytes ++ more) body rest) starts completes)));
      until_end = λ e. starts ∙ framing_kind r.head.framing e;
      only_until_end = λ e. decoder_kind r.head.framing (sym starts ∙ e);
      small = omega (arith, ap length content);
    }

-- ---- the reply

pub garbled_if : (r : Result Reply OutOfMemory) (ended : Bool) (bytes : List ℕ) → HoldsNone ended bytes → StopsAt ended bytes → IfOk r (λ reply. reply ≡ Garbled bytes) → IfOk r (IsReplyTo ended bytes)
garbled_if (Ok reply) ended bytes none reason is = subst (IsReplyTo ended bytes) (sym is) (refl, none, reason)
garbled_if (Err e) ended bytes none reason is = tt

pub replies_if : (r : Result Reply OutOfMemory) (old new : Option Talk) (before bytes : List ℕ) (ended : Bool) → ReadsMore old new before bytes → (ended ≡ true → IsReadOut new)
    → IfOk r (IsReplyTo ended bytes) → IfOk r (λ reply. reply ≢ Lost → Replies old new before reply)
replies_if (Ok reply) old new before bytes ended more at_end is = λ other. record {
  read = more.piece;
  ended = ended;
  reads = more.reads;
  at_end = at_end;
  is_reply = subst (λ t. IsReplyTo ended t reply) more.grown is;
}
replies_if (Err e) old new before bytes ended more at_end is = tt

-- bytes that were read hold no response
pub has_none : (old new : Option Talk) (before bytes : List ℕ) → ReadsMore old new before bytes → HoldsNone false bytes → HasNone old new before
has_none old new before bytes more none = record { read = more.piece; reads = more.reads; none = subst (HoldsNone false) more.grown none }

-- ---- one round of reading a body

-- the front of a buffer's bytes, by way of its slice
pub front_is : (bytes slice items : List ℕ) (count : ℕ) → bytes ≡ take count slice → slice ≡ items → bytes ≡ take count items
front_is bytes slice items count front same = front ∙ ap (take count) same

-- the body goes on behind the bytes
pub goes_on_here : (bytes before : List ℕ) (r : BodyReader) (reply : Option Reply) → Settles bytes r reply → reply ≡ None → bytes ≡ before → Awaits before r × IsUnfinished before r
goes_on_here bytes before r reply settles none same = subst (λ t. Settles t r None) same (subst (Settles bytes r) none settles)

-- a read of nothing leaves the front of the buffer
pub front_stays : (a b : Option Talk) (buffer new bytes : List ℕ) (filled n : ℕ) → filled ≤ length buffer → filled + n ≤ length new → n ≡ 0
    → ReadsMore a b (take filled buffer) (take (filled + n) new) → bytes ≡ take filled new → bytes ≡ take filled buffer
front_stays a b buffer new bytes filled n within more_within none more same =
    let all : take filled new ≡ take (filled + n) new = ap (λ k. take k new) (omega (arith, none)) in
    let old_len = length-take-le filled buffer within in
    let new_len = length-take-le (filled + n) new more_within in
    same ∙ all ∙ nothing_more a b (take filled buffer) (take (filled + n) new) more (omega (arith, old_len, new_len, none))
