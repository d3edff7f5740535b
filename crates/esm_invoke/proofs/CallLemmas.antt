-- From the reply to what a call over a link comes to.
use Rattle.std.specs.Prelude.{Result, Ok, Err, IfOk}
use Rattle.std.proofs.Common.{◌≡◌, ◌≢◌, ℕ, ◌<◌, ◌≤◌, ◌⊎◌, Bool, true, false, List, [], ◌++◌, length, drop, Option, sym, refl, ap, ◌∙◌, subst, inl, inr, arith, append-nil}
use Rattle.http1.specs.declared.framing.Framing.TheVariants as Framed
use Rattle.esm_model.specs.declared.entry.Reply.{Reply}
use Rattle.esm_model.specs.declared.entry.Reply.TheVariants.{Answered, Garbled, Lost}
use Rattle.esm_model.specs.declared.memory.OutOfMemory.{OutOfMemory}
use Rattle.esm_io.specs.Faults.{Rose}
use Rattle.esm_io.specs.Talks.{Talk, Reads, Writes, IsReadOut}
use Rattle.esm_invoke.specs.declared.head.Head.{Head}
use Rattle.esm_invoke.specs.Response.{BeginsWith, NeverWhole, StopsAt, IsReplyTo}
use Rattle.esm_invoke.specs.Receiving.{ReadsInto, WritesPart, Replies, Stops, HasNone, AnswersWhole, Misses}
use Rattle.esm_invoke.specs.Exchange.{SendsPart, Answers, AnswersEarly, IsAnswer, StopsEarly, Loses}
use Rattle.esm_invoke.specs.Request.{request_line, request_text}
use Rattle.esm_invoke.proofs.TalkLemmas.{Reads_none, Reads_then, Writes_none}
use Rattle.esm_invoke.proofs.ReplyLemmas.{head_same, none_before, never_whole, none_whole, begins_append}

-- ---- a whole call

-- a reply to bytes that were read on from others is the reply to them all
pub replies_after : (r : Result Reply OutOfMemory) (old mid new : Option Talk) (before : List ℕ) → Reads old mid before
    → IfOk r (λ reply. reply ≢ Lost → Replies mid new before reply) → IfOk r (λ reply. reply ≢ Lost → Replies old new [] reply)
replies_after (Ok reply) old mid new before first replied = λ other.
    let next = replied other in record {
      read = before ++ next.read;
      ended = next.ended;
      reads = Reads_then old mid new before next.read first next.reads;
      at_end = next.at_end;
      is_reply = next.is_reply;
    }
replies_after (Err e) old mid new before first replied = tt

-- bytes that hold no response make a garbled reply
pub replies_garbled : (r : Result Reply OutOfMemory) (old new : Option Talk) (bytes : List ℕ) → Reads old new bytes → Stops new bytes
    → IfOk r (λ reply. reply ≡ Garbled bytes) → IfOk r (λ reply. reply ≢ Lost → Replies old new [] reply)
replies_garbled (Ok reply) old new bytes reads stops is = λ other. record {
  read = bytes;
  ended = stops.ended;
  reads = reads;
  at_end = stops.at_end;
  is_reply = subst (IsReplyTo stops.ended bytes) (sym is) (refl, stops.none, stops.reason);
}
replies_garbled (Err e) old new bytes reads stops is = tt

-- the same of bytes that were read on from others
pub none_after : (r : Result Reply OutOfMemory) (old mid new : Option Talk) (before : List ℕ) → Reads old mid before
    → IfOk r (λ reply. reply ≡ Lost → HasNone mid new before) → IfOk r (λ reply. reply ≡ Lost → HasNone old new [])
none_after (Ok reply) old mid new before first none = λ is.
    let next = none is in record { read = before ++ next.read; reads = Reads_then old mid new before next.read first next.reads; none = next.none }
none_after (Err e) old mid new before first none = tt

-- ---- an answer that comes early

-- a body that is not up to the link's end is whole by itself
whole_by_itself : (ended : Bool) (bytes : List ℕ) (head : Head) → BeginsWith bytes head (drop head.len bytes) → head.framing ≢ Framed.UntilClose
    → (reply : Reply) → IsAnswer reply → IsReplyTo ended bytes reply → IsReplyTo false bytes reply
whole_by_itself ended bytes head begins other (Answered status error body) answer is =
    let holds = is.1 in
    let same = head_same bytes [] head is.0 _ holds.after begins (subst (λ b. BeginsWith b is.0 holds.after) (sym (append-nil bytes)) holds.begins) in (
      is.0,
      record {
        after = holds.after;
        begins = holds.begins;
        body = holds.body;
        rest = holds.rest;
        reads = holds.reads;
        content_is = holds.content_is;
        within = record {
          content = holds.within.content;
          few = holds.within.few;
          whole = holds.within.whole;
          closed = λ e. absurd (other (ap (λ h. h.framing) same.0 ∙ e));
        };
      },
      is.2,
      is.3,
    )
whole_by_itself ended bytes head begins other (Garbled read) answer is = absurd answer
whole_by_itself ended bytes head begins other Lost answer is = absurd answer

stops_early : (new : Option Talk) (bytes : List ℕ) (ended : Bool) → (ended ≡ true → IsReadOut new) → StopsAt ended bytes → StopsEarly new bytes
stops_early new bytes ended at_end reason = elim reason [
  | inl end ↦ inl (at_end end)
  | inr more ↦ elim more [
    | inl long ↦ inr (inl long)
    | inr never ↦ inr (inr (λ rest. never false rest))
  ]
]

-- a garbled reply is no answer
pub misses_garbled : (old new : Option Talk) (start : List ℕ) (before after : ℕ) (bytes : List ℕ) → Replies old new start (Garbled bytes) → Misses old new start before after
misses_garbled old new start before after bytes replies =
    let is = replies.is_reply in record {
      read = replies.read;
      reads = replies.reads;
      none = none_before replies.ended (start ++ replies.read) is.1;
      cause = inr (stops_early new (start ++ replies.read) replies.ended replies.at_end is.2);
    }

-- nor are bytes without a head
pub misses_stopped : (old new : Option Talk) (before after : ℕ) (bytes : List ℕ) → Reads old new bytes → Stops new bytes → Misses old new [] before after
misses_stopped old new before after bytes reads stops = record {
  read = bytes;
  reads = reads;
  none = none_before stops.ended bytes stops.none;
  cause = inr (stops_early new bytes stops.ended stops.at_end stops.reason);
}

-- a read that failed gave no answer
pub misses_failed : (old new : Option Talk) (start : List ℕ) (before after : ℕ) → HasNone old new start → Rose before after → Misses old new start before after
misses_failed old new start before after none rose = record { read = none.read; reads = none.reads; none = none.none; cause = inl rose }

-- nor is a body begun that goes up to the link's end
pub misses_unread : (link : Option Talk) (bytes : List ℕ) (before after : ℕ) (head : Head) → BeginsWith bytes head (drop head.len bytes) → head.framing ≡ Framed.UntilClose
    → Misses link link bytes before after
misses_unread link bytes before after head begins close =
    let never : NeverWhole (bytes ++ []) = subst NeverWhole (sym (append-nil bytes)) (never_whole bytes head begins close) in record {
      read = [];
      reads = Reads_none link;
      none = none_whole (bytes ++ []) never;
      cause = inr (inr (inr never));
    }

-- what was missed in bytes that were read on from others was missed in them all
pub misses_after : (r : Result Reply OutOfMemory) (old mid new : Option Talk) (bytes : List ℕ) (before middle after : ℕ) → Reads old mid bytes → before ≤ middle
    → IfOk r (λ reply. reply ≡ Lost → Misses mid new bytes middle after) → IfOk r (λ reply. reply ≡ Lost → Misses old new [] before after)
misses_after (Ok reply) old mid new bytes before middle after first kept missed = λ is.
    let next = missed is in record {
      read = bytes ++ next.read;
      reads = Reads_then old mid new bytes next.read first next.reads;
      none = next.none;
      cause = elim next.cause [
        | inl rose ↦ inl (λ below. omega (arith, kept, rose below))
        | inr stops ↦ inr stops
      ];
    }
misses_after (Err e) old mid new bytes before middle after first kept missed = tt

pub is_answer : (reply : Reply) → reply ≢ Lost → ((bytes : List ℕ) → reply ≢ Garbled bytes) → IsAnswer reply
is_answer (Answered status error body) other not_garbled = tt
is_answer (Garbled bytes) other not_garbled = not_garbled bytes refl
is_answer Lost other not_garbled = other refl

-- the answer in bytes whose body has an end of its own
pub answers_whole : (old new : Option Talk) (before : List ℕ) (head : Head) (reply : Reply) → head.len ≤ length before → BeginsWith before head (drop head.len before)
    → head.framing ≢ Framed.UntilClose → IsAnswer reply → Replies old new before reply → AnswersWhole old new before reply
answers_whole old new before head reply within begins other answer replies = record {
  read = replies.read;
  reads = replies.reads;
  delimited = whole_by_itself replies.ended (before ++ replies.read) head (begins_append before replies.read head within begins) other reply answer replies.is_reply;
  is_answer = answer;
}

pub whole_after : (r : Result Reply OutOfMemory) (old mid new : Option Talk) (before : List ℕ) → Reads old mid before
    → IfOk r (λ reply. reply ≢ Lost → AnswersWhole mid new before reply) → IfOk r (λ reply. reply ≢ Lost → AnswersWhole old new [] reply)
whole_after (Ok reply) old mid new before first answered = λ other.
    let next = answered other in record {
      read = before ++ next.read;
      reads = Reads_then old mid new before next.read first next.reads;
      delimited = next.delimited;
      is_answer = next.is_answer;
    }
whole_after (Err e) old mid new before first answered = tt

-- ---- a call of each kind

-- the reply to a request that was sent whole
pub answers_after : {L : Type 0} (told : L → Option Talk) (faults : L → ℕ) (r : Result Reply OutOfMemory) (old middle new : L) (request : List ℕ) → Writes (told old) (told middle) request
    → IfOk r (λ reply. reply ≢ Lost → Replies (told middle) (told new) [] reply)
    → IfOk r (λ reply. reply ≢ Lost → Answers told old new request reply ⊎ AnswersEarly told faults old new request reply)
answers_after told faults (Ok reply) old middle new request writes replied = λ other.
    let next = replied other in inl (record {
      read = next.read;
      ended = next.ended;
      exchanges = record { middle = middle; writes = writes; reads = next.reads };
      at_end = next.at_end;
      is_reply = next.is_reply;
    })
answers_after told faults (Err e) old middle new request writes replied = tt

-- the answer to a request that was not
pub answers_early : {L : Type 0} (told : L → Option Talk) (faults : L → ℕ) (r : Result Reply OutOfMemory) (old middle new : L) (request : List ℕ)
    → WritesPart (told old) (told middle) request → Rose (faults old) (faults middle)
    → IfOk r (λ reply. reply ≢ Lost → AnswersWhole (told middle) (told new) [] reply)
    → IfOk r (λ reply. reply ≢ Lost → Answers told old new request reply ⊎ AnswersEarly told faults old new request reply)
answers_early told faults (Ok reply) old middle new request part failed answered = λ other.
    let next = answered other in inr (record {
      sent = part.sent;
      unsent = part.unsent;
      read = next.read;
      parts = part.parts;
      cut = part.cut;
      exchanges = record { middle = middle; writes = part.writes; reads = next.reads };
      failed = failed;
      delimited = next.delimited;
      is_answer = next.is_answer;
    })
answers_early told faults (Err e) old middle new request part failed answered = tt

-- no answer to a request that was sent whole, since a read failed
pub loses_after : {L : Type 0} (told : L → Option Talk) (faults : L → ℕ) (r : Result Reply OutOfMemory) (old middle new : L) (request : List ℕ)
    → Writes (told old) (told middle) request → IfOk r (λ reply. reply ≡ Lost → HasNone (told middle) (told new) [])
    → IfOk r (λ reply. reply ≡ Lost → Rose (faults middle) (faults new)) → IfOk r (λ reply. reply ≡ Lost → Loses told faults old new request)
loses_after told faults (Ok reply) old middle new request writes none lost = λ is.
    let next = none is in record {
      sent = request;
      unsent = [];
      read = next.read;
      parts = sym (append-nil request);
      exchanges = record { middle = middle; writes = writes; reads = next.reads };
      whole_or_failed = inl refl;
      none = next.none;
      cause = inl (lost is);
    }
loses_after told faults (Err e) old middle new request writes none lost = tt

-- no answer to a request that was not
pub loses_early : {L : Type 0} (told : L → Option Talk) (faults : L → ℕ) (r : Result Reply OutOfMemory) (old middle new : L) (request : List ℕ)
    → WritesPart (told old) (told middle) request → Rose (faults old) (faults middle)
    → IfOk r (λ reply. reply ≡ Lost → Misses (told middle) (told new) [] (faults middle) (faults new)) → IfOk r (λ reply. reply ≡ Lost → Loses told faults old new request)
loses_early told faults (Ok reply) old middle new request part failed missed = λ is.
    let next = missed is in record {
      sent = part.sent;
      unsent = part.unsent;
      read = next.read;
      parts = part.parts;
      exchanges = record { middle = middle; writes = part.writes; reads = next.reads };
      whole_or_failed = inr failed;
      none = next.none;
      cause = elim next.cause [
        | inl rose ↦ inl rose
        | inr stops ↦ inr (part.cut, stops)
      ];
    }
loses_early told faults (Err e) old middle new request part failed missed = tt

pub sends_none : {L : Type 0} (told : L → Option Talk) (faults : L → ℕ) (link : L) (request : List ℕ) (before after : ℕ) → after ≤ before
    → SendsPart told faults link link request before after
sends_none told faults link request before after shorter = record {
  sent = [];
  unsent = request;
  read = [];
  parts = refl;
  exchanges = record { middle = link; writes = Writes_none (told link); reads = Reads_none (told link) };
  whole_or_failed = λ some. absurd (some refl);
  grows = omega (arith, shorter);
}

pub sends_part : {L : Type 0} (told : L → Option Talk) (faults : L → ℕ) (old middle new : L) (request : List ℕ) (before cut after : ℕ)
    → WritesPart (told old) (told middle) request → Rose (faults old) (faults middle) → cut ≤ before → ReadsInto (told middle) (told new) 0 cut after
    → SendsPart told faults old new request before after
sends_part told faults old middle new request before cut after part failed shorter into = record {
  sent = part.sent;
  unsent = part.unsent;
  read = into.read;
  parts = part.parts;
  exchanges = record { middle = middle; writes = part.writes; reads = into.reads };
  whole_or_failed = λ _. inr failed;
  grows = omega (arith, shorter, into.grows);
}

pub sends_all : {L : Type 0} (told : L → Option Talk) (faults : L → ℕ) (old middle new : L) (request : List ℕ) (before cut after : ℕ) → Writes (told old) (told middle) request
    → cut ≤ before → ReadsInto (told middle) (told new) 0 cut after → SendsPart told faults old new request before after
sends_all told faults old middle new request before cut after writes shorter into = record {
  sent = request;
  unsent = [];
  read = into.read;
  parts = sym (append-nil request);
  exchanges = record { middle = middle; writes = writes; reads = into.reads };
  whole_or_failed = λ _. inl refl;
  grows = omega (arith, shorter, into.grows);
}

pub request_some : (name event : List ℕ) → 0 < length (request_text name event)
unfolding request_line
request_some name event = omega arith
