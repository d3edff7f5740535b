-- Failure lines: the end of a call calls for one at most, and each is short.
use Rattle.std.proofs.Common.{◌≡◌, ℕ, zero, suc, ◌+◌, ◌/◌, ◌%◌, ◌≤◌, Bool, true, false, cond, ◌&&◌, List, [], ◌∷◌, ◌++◌, length, take, drop, map, refl, sym, ap, ◌∙◌, subst, inl, inr, Option, Some, None, arith, codes, length-append}
use Rattle.std.specs.Prelude.{◌==◌, nat_le, filter_map, option_map, unwrap_or, slice_index}
use Rattle.std.specs.List.{list_all, cons_option}
use Rattle.std.specs.Char.{is_ascii_digit}
use Rattle.std.specs.Fmt.{digit_glyph, digits, digits_onto, decimal}
use Rattle.std.proofs.lemmas.Bool.{and_parts, leb-true}
use Rattle.esm_model.specs.declared.limits.TheConstants.{MAX_PAYLOAD}
use Rattle.esm_model.specs.declared.config.Kind.{Kind}
use Rattle.esm_model.specs.declared.config.Kind.TheVariants.{Stream, Standard, Fifo}
use Rattle.esm_model.specs.declared.config.Config.{Config}
use Rattle.esm_model.specs.Records.{Record}
use Rattle.esm_model.specs.declared.lane.LaneId.{LaneId}
use Rattle.esm_model.specs.declared.event.Failure.{Failure}
use Rattle.esm_model.specs.declared.event.Response.{Response}
use Rattle.esm_model.specs.declared.entry.Fate.TheVariants.{Succeeded, Filtered, Expired, Exhausted}
use Rattle.esm_model.specs.declared.entry.Reply.{Reply}
use Rattle.esm_model.specs.declared.entry.WindowState.{WindowState}
use Rattle.esm_model.specs.declared.entry.Entry.{Entry}
use Rattle.esm_model.specs.declared.entry.Entry.TheVariants.{Came, Began, Ended, Gave, Tried, Closed, Replayed, Shut}
use Rattle.esm_model.specs.declared.verdict.Rest.{Rest}
use Rattle.esm_model.specs.declared.verdict.Rest.TheVariants as rest
use Rattle.esm_model.specs.Sequence.{is_sequence}
use Rattle.esm_model.specs.Valid.{is_between, is_word, arn_of, is_name_byte, is_stream_byte, is_label_byte, is_region_byte, IsSource, IsFunctionArn, IsStreamConfig}
use Rattle.esm_model.specs.Dates.{day_text, date_text}
use Rattle.esm_model.specs.FailureText.{condition_text, request_part, error_part, response_part, batch_part, arrivals_part, failure_text}
use Rattle.esm_model.specs.FailureLine.{sequence_at, last_of, failure_of, failure_line}
use Rattle.esm_model.specs.Setting.{Setting, record_at}
use Rattle.esm_model.specs.Entries.{Call, last_moment, last_call}
use Rattle.esm_model.specs.Tries.{tries_of, verdict_after}
use Rattle.esm_model.specs.Owed.{Debt, Success, GiveUp, Try, Close, debts, debt_entry, success_debts, give_up_debts, close_debts, rest_debts, call_debts, new_state, owed, IsOwed}
use Rattle.esm_model.specs.Step.{Legal}
use Rattle.esm_model.specs.Books.{entry_line}
use Rattle.esm_model.proofs.NumberLemmas.{length-last_digits}
use Rattle.esm_model.proofs.Steps.{debts_ended}
use Rattle.esm_model.proofs.Debts.{first_debt}
use Rattle.esm_record_bounds.specs.Bounds.{AreWithinBounds}

-- how many

-- one more where the debt is to give records up
abbrev counted_with : Debt → ℕ → ℕ
counted_with (GiveUp places) n = 1 + n
counted_with (Success places state) n = n
counted_with (Try places closing tries) n = n
counted_with (Close window) n = n

-- the number of those debts
abbrev give_ups : List Debt → ℕ
give_ups [] = 0
give_ups (d ∷ ds) = counted_with d (give_ups ds)

lines_or : (line : Option (List ℕ)) (lines : List (List ℕ)) (most : ℕ) → length lines ≤ most → length (cons_option line lines) ≤ 1 + most
lines_or None lines most few = omega arith
lines_or (Some line) lines most few = omega arith

as_give_ups : (s : Setting) (h : List Entry) (lane : LaneId) (m : ℕ) (ds : List Debt) → length (filter_map entry_line (map (debt_entry s h lane m) ds)) ≤ give_ups ds
as_give_ups s h lane m [] = omega arith
as_give_ups s h lane m (Success places state ∷ ds) = as_give_ups s h lane m ds
as_give_ups s h lane m (Try places closing tries ∷ ds) = as_give_ups s h lane m ds
as_give_ups s h lane m (Close window ∷ ds) = as_give_ups s h lane m ds
as_give_ups s h lane m (GiveUp places ∷ ds) = lines_or (failure_line s h lane.shard places false m) (filter_map entry_line (map (debt_entry s h lane m) ds)) (give_ups ds) (as_give_ups s h lane m ds)

give_ups-append : (ds es : List Debt) → give_ups (ds ++ es) ≡ give_ups ds + give_ups es
give_ups-append [] es = omega arith
give_ups-append (GiveUp places ∷ ds) es = (let more : give_ups (ds ++ es) ≡ give_ups ds + give_ups es = give_ups-append ds es in omega arith)
give_ups-append (Success places state ∷ ds) es = give_ups-append ds es
give_ups-append (Try places closing tries ∷ ds) es = give_ups-append ds es
give_ups-append (Close window ∷ ds) es = give_ups-append ds es

success_none : (xs : List ℕ) (state : Option WindowState) → give_ups (success_debts xs state) ≡ 0
success_none [] state = refl
success_none (x ∷ xs) state = refl

close_none : (closing : Option ℕ) → give_ups (close_debts closing) ≡ 0
close_none None = refl
close_none (Some window) = refl

give_up_one : (xs : List ℕ) → give_ups (give_up_debts xs) ≤ 1
give_up_one [] = omega arith
give_up_one (x ∷ xs) = omega arith

rest_one : (r : Rest) (xs : List ℕ) (closing : Option ℕ) (t : ℕ) → give_ups (rest_debts r xs closing t) ≤ 1
rest_one rest.Nothing xs closing t = (let none : give_ups (close_debts closing) ≡ 0 = close_none closing in omega arith)
rest_one rest.Again xs closing t = omega arith
rest_one (rest.Split k) xs closing t = omega arith
rest_one rest.Counted xs closing t = omega arith
rest_one rest.Exhausted xs closing t =
    let parts : give_ups (give_up_debts xs ++ close_debts closing) ≡ give_ups (give_up_debts xs) + give_ups (close_debts closing) = give_ups-append (give_up_debts xs) (close_debts closing) in
    let none : give_ups (close_debts closing) ≡ 0 = close_none closing in
    let one : give_ups (give_up_debts xs) ≤ 1 = give_up_one xs in
    omega arith

end_one : (s : Setting) (h : List Entry) (lane : LaneId) (o : Option Call) (reply : Reply) → give_ups (call_debts s h lane o reply) ≤ 1
end_one s h lane None reply = omega arith
end_one s h lane (Some call) reply =
    let v = verdict_after s h lane reply in
    let t = tries_of s h lane.shard call in
    let done = success_debts (take v.succeeded call.places) (new_state s lane.shard call reply) in
    let left = rest_debts v.rest (drop v.succeeded call.places) call.closing t in
    let parts : give_ups (done ++ left) ≡ give_ups done + give_ups left = give_ups-append done left in
    let none : give_ups done ≡ 0 = success_none (take v.succeeded call.places) (new_state s lane.shard call reply) in
    let one : give_ups left ≤ 1 = rest_one v.rest (drop v.succeeded call.places) call.closing t in
    at_most (give_ups (done ++ left)) (give_ups done) (give_ups left) parts none one
  where
    at_most : (a b c : ℕ) → a ≡ b + c → b ≡ 0 → c ≤ 1 → a ≤ 1
    at_most a b c p q r = omega arith

pub one_line : (s : Setting) (h : List Entry) (lane : LaneId) (reply : Reply) (m : ℕ) → length (filter_map entry_line (owed s (Ended lane reply m ∷ h) lane)) ≤ 1
one_line s h lane reply m =
    let all = Ended lane reply m ∷ h in
    let few : length (filter_map entry_line (map (debt_entry s all lane m) (debts s all lane))) ≤ give_ups (debts s all lane) = as_give_ups s all lane m (debts s all lane) in
    let one : give_ups (debts s all lane) ≤ 1 = subst (λ ds. give_ups ds ≤ 1) (sym (debts_ended s lane reply m h)) (end_one s h lane (last_call h lane) reply) in
    trans_le (length (filter_map entry_line (map (debt_entry s all lane m) (debts s all lane)))) (give_ups (debts s all lane)) few one
  where
    trans_le : (a b : ℕ) → a ≤ b → b ≤ 1 → a ≤ 1
    trans_le a b p q = omega arith

-- how long

onto_short : (k n : ℕ) (more : List ℕ) → length (digits_onto k 10 false n more) ≤ k + length more
onto_short zero n more = omega arith
onto_short (suc k) n more =
    shorter (n / 10 == 0) (digit_glyph false (n % 10) ∷ more) (digits_onto k 10 false (n / 10) (digit_glyph false (n % 10) ∷ more)) (suc k + length more) (omega arith)
    (let rest : length (digits_onto k 10 false (n / 10) (digit_glyph false (n % 10) ∷ more)) ≤ k + suc (length more) = onto_short k (n / 10) (digit_glyph false (n % 10) ∷ more) in omega arith)
  where
    shorter : (b : Bool) (xs ys : List ℕ) (most : ℕ) → length xs ≤ most → length ys ≤ most → length (cond b xs ys) ≤ most
    shorter true xs ys most first second = first
    shorter false xs ys most first second = second

decimal_short : (n : ℕ) → length (decimal n) ≤ 64
unfolding digits
decimal_short n = onto_short 64 n []

length-date_text : (ms : ℕ) → length (date_text ms) ≡ 24
unfolding date_text day_text
length-date_text ms = simp (length-append, length-last_digits) (omega arith)

condition_short : (expired : Bool) → length (condition_text expired) ≤ 30
condition_short true = omega arith
condition_short false = omega arith

error_short : (error : Bool) → length (error_part error) ≤ 40
error_short true = omega arith
error_short false = omega arith

request_short : (c : Config) (f : Failure) → length (request_part c f) ≤ 400 + length c.function_arn
request_short c f = simp (length-append, length-last_digits) (omega (arith, condition_short f.expired, decimal_short f.calls))

response_short : (o : Option Response) → length (response_part o) ≤ 400
response_short None = omega arith
response_short (Some a) = simp length-append (omega (arith, error_short a.error, decimal_short a.status))

batch_short : (f : Failure) → length (batch_part f) ≤ 400 + (length f.first + length f.last)
batch_short f = simp (length-append, length-last_digits, length-date_text) (omega arith)

arrivals_short : (c : Config) (f : Failure) → length (arrivals_part c f) ≤ 400 + length c.source_arn
arrivals_short c f = simp (length-append, length-date_text) (omega (arith, decimal_short f.count))

text_short : (c : Config) (f : Failure) → length (failure_text c f) ≤ 1600 + (length c.function_arn + length c.source_arn) + (length f.first + length f.last)
unfolding failure_text
text_short c f =
    let request = request_part c f in
    let response = response_part f.response in
    let batch = batch_part f in
    let arrivals = arrivals_part c f in
    summed (length (request ++ response ++ batch ++ arrivals)) (length request) (length response) (length batch) (length arrivals) (length c.function_arn) (length c.source_arn) (length f.first + length f.last)
    (length-append (request ++ response ++ batch) arrivals ∙ ap (λ n. n + length arrivals) (length-append (request ++ response) batch ∙ ap (λ n. n + length batch) (length-append request response)))
    (request_short c f) (response_short f.response) (batch_short f) (arrivals_short c f)
  where
    summed : (all a b c d x y z : ℕ) → all ≡ a + b + c + d → a ≤ 400 + x → b ≤ 400 → c ≤ 400 + z → d ≤ 400 + y → all ≤ 1600 + (x + y) + z
    summed all a b c d x y z is p q r t = omega arith

-- names

word_short : (passes : ℕ → Bool) (low high : ℕ) (text : List ℕ) → is_word passes low high text ≡ true → length text ≤ high
word_short passes low high text is =
    let sized = (and_parts (is_between low high (length text)) (list_all passes text) is).0 in
    leb-true (length text) high (and_parts (nat_le low (length text)) (nat_le (length text) high) sized).1

arn_length : (service region account resource : List ℕ) → length (arn_of service region account resource) ≡ 11 + (length service + length region + length account + length resource)
arn_length service region account resource = simp length-append (omega arith)

source_short : (kind : Kind) (region account arn : List ℕ) → kind ≡ Stream → length region ≤ 32 → length account ≤ 12 → IsSource kind region account arn → length arn ≤ 500
source_short Standard region account arn stream r a is = cc
source_short Fifo region account arn stream r a is = cc
source_short Stream region account arn stream r a is =
    elim is [
      | inl kinesis ↦ (
          let name = kinesis.0 in
          let few : length name ≤ 128 = word_short is_stream_byte 1 128 name kinesis.1 in
          let long : length arn ≡ 11 + (length (codes "kinesis") + length region + length account + length (codes "stream/" ++ name)) = ap length kinesis.2 ∙ arn_length (codes "kinesis") region account (codes "stream/" ++ name) in
          let tail : length (codes "stream/" ++ name) ≡ length (codes "stream/") + length name = length-append (codes "stream/") name in
          omega arith)
      | inr table ↦ (
          let name = table.0 in
          let label = table.1 in
          let few : length name ≤ 255 = word_short is_stream_byte 3 255 name table.2 in
          let short : length label ≤ 64 = word_short is_label_byte 1 64 label table.3 in
          let resource = codes "table/" ++ name ++ codes "/stream/" ++ label in
          let long : length arn ≡ 11 + (length (codes "dynamodb") + length region + length account + length resource) = ap length table.4 ∙ arn_length (codes "dynamodb") region account resource in
          let tail : length resource ≡ 14 + (length name + length label) = resource_length name label in
          omega arith)
    ]
  where
    resource_length : (name label : List ℕ) → length (codes "table/" ++ name ++ codes "/stream/" ++ label) ≡ 14 + (length name + length label)
    resource_length name label = simp length-append (omega arith)

function_short : (name arn : List ℕ) → length name ≤ 64 → IsFunctionArn name arn → length arn ≤ 500
function_short name arn few is =
    let region = is.0 in
    let account = is.1 in
    let r : length region ≤ 32 = word_short is_region_byte 1 32 region is.2 in
    let a : length account ≤ 12 = word_short is_ascii_digit 12 12 account is.3 in
    let long : length arn ≡ 11 + (length (codes "lambda") + length region + length account + length (codes "function:" ++ name)) = ap length is.4 ∙ arn_length (codes "lambda") region account (codes "function:" ++ name) in
    let tail : length (codes "function:" ++ name) ≡ length (codes "function:") + length name = length-append (codes "function:") name in
    omega arith

second_of : (a b c d : Bool) → (((a && b) && c) && d) ≡ true → b ≡ true
second_of a true c d is = refl
second_of true false c d is = is
second_of false false c d is = is

pub sequence_short : (text : List ℕ) → is_sequence text ≡ true → length text ≤ 129
sequence_short text is = leb-true (length text) 129 (second_of _ _ _ _ is)

at_short : (o : Option Record) → ((r : Record) → o ≡ Some r → length r.seq ≤ 129) → length (unwrap_or (option_map (λ (r : Record). r.seq) o) []) ≤ 129
at_short None each = omega arith
at_short (Some r) each = each r refl

sequence_at_short : (s : Setting) → AreWithinBounds s → (n i : ℕ) → length (sequence_at s n i) ≤ 129
sequence_at_short s bounds n i = at_short (record_at s n i) (λ r at. sequence_short r.seq (bounds.valid n i r at).seq)

-- the lines

failure_short : (s : Setting) → AreWithinBounds s → IsStreamConfig s.config → (h : List Entry) (n : ℕ) (places : List ℕ) (expired : Bool) (m : ℕ) → length (failure_text s.config (failure_of s h n places expired m)) ≤ MAX_PAYLOAD
failure_short s bounds config h n places expired m =
    let f = failure_of s h n places expired m in
    let valid = config.valid in
    let r : length s.config.region ≤ 32 = word_short is_region_byte 1 32 s.config.region valid.region in
    let a : length s.config.account ≤ 12 = word_short is_ascii_digit 12 12 s.config.account valid.account in
    let source : length s.config.source_arn ≤ 500 = source_short s.config.kind s.config.region s.config.account s.config.source_arn config.kind r a valid.source in
    let name : length s.config.function ≤ 64 = word_short is_name_byte 1 64 s.config.function valid.function in
    let function : length s.config.function_arn ≤ 500 = function_short s.config.function s.config.function_arn name valid.function_arn in
    let first : length f.first ≤ 129 = sequence_at_short s bounds n (slice_index places 0) in
    let last : length f.last ≤ 129 = sequence_at_short s bounds n (last_of places) in
    summed (length (failure_text s.config f)) (length s.config.function_arn) (length s.config.source_arn) (length f.first) (length f.last) (text_short s.config f) function source first last
  where
    summed : (all x y z w : ℕ) → all ≤ 1600 + (x + y) + (z + w) → x ≤ 500 → y ≤ 500 → z ≤ 129 → w ≤ 129 → all ≤ MAX_PAYLOAD
    summed all x y z w is p q r t = omega arith

pub line_short : (s : Setting) (h : List Entry) (n : ℕ) (places : List ℕ) (expired : Bool) (m : ℕ) (line : List ℕ) → AreWithinBounds s → IsStreamConfig s.config → failure_line s h n places expired m ≡ Some line → length line ≤ MAX_PAYLOAD
line_short s h n places expired m line bounds config is = at s.config.destination is
  where
    at : (o : Option (List ℕ)) → option_map (λ (destination : List ℕ). failure_text s.config (failure_of s h n places expired m)) o ≡ Some line → length line ≤ MAX_PAYLOAD
    at None is = cc
    at (Some destination) is = (let same : failure_text s.config (failure_of s h n places expired m) ≡ line = cc in subst (λ (xs : List ℕ). length xs ≤ MAX_PAYLOAD) same (failure_short s bounds config h n places expired m))

debt_line : (s : Setting) (h : List Entry) (lane : LaneId) (m : ℕ) (d : Debt) (line : List ℕ) → AreWithinBounds s → IsStreamConfig s.config → entry_line (debt_entry s h lane m d) ≡ Some line → length line ≤ MAX_PAYLOAD
debt_line s h lane m (Success places state) line bounds config is = cc
debt_line s h lane m (GiveUp places) line bounds config is = line_short s h lane.shard places false m line bounds config is
debt_line s h lane m (Try places closing tries) line bounds config is = cc
debt_line s h lane m (Close window) line bounds config is = cc

owed_line : (s : Setting) (h : List Entry) (lane : LaneId) (e : Entry) (line : List ℕ) → AreWithinBounds s → IsStreamConfig s.config → IsOwed s h lane e → entry_line e ≡ Some line → length line ≤ MAX_PAYLOAD
owed_line s h lane e line bounds config owed is =
    let first = first_debt s h lane e owed in
    debt_line s h lane (last_moment h) first.first line bounds config (subst (λ x. entry_line x ≡ Some line) (sym first.brings) is)

no_line : (o : Option (List ℕ)) (line : List ℕ) → o ≡ None → o ≡ Some line → ⊥
no_line o line none some = cc

-- of a legal entry
pub legal_line_short : (s : Setting) (h : List Entry) (e : Entry) (line : List ℕ) → AreWithinBounds s → IsStreamConfig s.config → Legal s (e ∷ h) → entry_line e ≡ Some line → length line ≤ MAX_PAYLOAD
legal_line_short s h (Gave None n places Filtered o state m) line bounds config legal is = absurd (no_line o line legal.1.1.no_line is)
legal_line_short s h (Gave None n places Succeeded o state m) line bounds config legal is = absurd legal.1.1
legal_line_short s h (Gave None n places Expired o state m) line bounds config legal is = absurd legal.1.1
legal_line_short s h (Gave None n places Exhausted o state m) line bounds config legal is = absurd legal.1.1
legal_line_short s h (Gave (Some at) n places Filtered o state m) line bounds config legal is = absurd legal.1.1
legal_line_short s h (Gave (Some at) n places Succeeded o state m) line bounds config legal is = owed_line s h at (Gave (Some at) n places Succeeded o state m) line bounds config legal.1.1 is
legal_line_short s h (Gave (Some at) n places Exhausted o state m) line bounds config legal is = owed_line s h at (Gave (Some at) n places Exhausted o state m) line bounds config legal.1.1 is
legal_line_short s h (Gave (Some at) n places Expired o state m) line bounds config legal is = line_short s h at.shard places true m line bounds config (sym legal.1.1.line_is ∙ is)
legal_line_short s h (Came n first count m) line bounds config legal is = cc
legal_line_short s h (Began at places closing m) line bounds config legal is = cc
legal_line_short s h (Ended at reply m) line bounds config legal is = cc
legal_line_short s h (Tried at places closing t m) line bounds config legal is = cc
legal_line_short s h (Closed at w m) line bounds config legal is = cc
legal_line_short s h (Replayed n places m) line bounds config legal is = cc
legal_line_short s h (Shut m) line bounds config legal is = cc
