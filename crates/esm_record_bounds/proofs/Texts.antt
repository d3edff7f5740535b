-- What records and answers bound: windows, the texts of states, and how many records an answer counts as done.
use Rattle.std.proofs.Common.{◌≡◌, ℕ, zero, suc, ◌+◌, ◌-◌, ◌%◌, ◌≤◌, Bool, true, false, not, ◌||◌, cond, List, [], ◌∷◌, length, take, drop, refl, inl, inr, Option, Some, None, arith, codes}
use Rattle.std.specs.List.{cons_option}
use Rattle.std.specs.Prelude.{◌==◌, nat_le, max, min, slice_get, slice_index, IfSome, ⊤}
use Rattle.std.proofs.lemmas.Bool.{cases_Bool, leb-true}
use Rattle.std.proofs.lemmas.List.{length-take, length-map}
use Rattle.serde_json.specs.Data.{Data, null, boolean, number, string, array, object}
use Rattle.serde_json.specs.Find.{get_member}
use Rattle.esm_model.specs.declared.limits.TheConstants.{MAX_DATA}
use Rattle.esm_model.specs.declared.moment.TheConstants.{MAX_MOMENT}
use Rattle.esm_model.specs.declared.config.Config.{Config}
use Rattle.esm_model.specs.Records.{Record}
use Rattle.esm_model.specs.declared.entry.Reply.{Reply}
use Rattle.esm_model.specs.declared.entry.Reply.TheVariants.{Answered, Garbled, Lost}
use Rattle.esm_model.specs.declared.verdict.Reading.{Reading}
use Rattle.esm_model.specs.declared.verdict.Reading.TheVariants.{Whole, NotRun, Failed}
use Rattle.esm_model.specs.declared.verdict.StateRead.{StateRead}
use Rattle.esm_model.specs.declared.verdict.StateRead.TheVariants.{Empty, Span, Bad}
use Rattle.esm_model.specs.Json.{read_json}
use Rattle.esm_model.specs.Setting.{Setting, records_of, record_at, records_at, sequences_at}
use Rattle.esm_model.specs.Entries.{Call}
use Rattle.esm_model.specs.Reading.{has_bad_state, item_reading, run_reading, reading}
use Rattle.esm_model.specs.State.{Member, last_named, outermost_members, value_span, found_span, answer_span, state_read, span_bytes, answered_state}
use Rattle.esm_model.specs.Windows.{has_windows, window_floor, window_from, window_of}
use Rattle.esm_model.specs.Calls.{window_of_call}
use Rattle.esm_model.specs.Owed.{state_in_reply, new_state}
use Rattle.esm_verdict.specs.Readings.{IsWithin}
use Rattle.esm_verdict.proofs.WithinLemmas.{read_within}
use Rattle.esm_journal_record.specs.Payload.{IsMoment, IsState}
use Rattle.esm_record_bounds.specs.Bounds.{AreWithinBounds}

-- windows

floor_within : (a b most : ℕ) → a ≤ most → a - b ≤ most
floor_within a b most within = omega arith

greater_within : (a b most : ℕ) → a ≤ most → b ≤ most → max a b ≤ most
greater_within a b most first second = omega arith

from_within : (most width before : ℕ) (rs : List Record) (i : ℕ) → before ≤ most → ((j : ℕ) (r : Record) → slice_get rs j ≡ Some r → r.arrival ≤ most) → window_from width before rs i ≤ most
from_within most width before [] i low each = low
from_within most width before (r ∷ rs) zero low each =
    greater_within before (window_floor width r.arrival) most low (floor_within r.arrival (r.arrival % width) most (each 0 r refl))
from_within most width before (r ∷ rs) (suc i) low each =
    from_within most width (max before (window_floor width r.arrival)) rs i
    (greater_within before (window_floor width r.arrival) most low (floor_within r.arrival (r.arrival % width) most (each 0 r refl)))
    (λ j q at. each (suc j) q at)

pub window_within : (s : Setting) → AreWithinBounds s → (n i : ℕ) → window_of s n i ≤ MAX_MOMENT
window_within s bounds n i = from_within MAX_MOMENT s.config.tumbling_ms 0 (records_of s n) i (omega arith) (λ j r at. (bounds.valid n j r at).arrival)

-- the texts of states

abbrev IsSpanShort : StateRead → Type 0
IsSpanShort Empty = ⊤
IsSpanShort (Span from to) = to - from ≤ MAX_DATA
IsSpanShort Bad = ⊤

value_short : (o : Option Member) → IsSpanShort (value_span o)
value_short None = tt
value_short (Some m) =
    elim (cases_Bool (nat_le (m.last + 1 - m.first) MAX_DATA)) [
      | inl is ↦ rw is (leb-true (m.last + 1 - m.first) MAX_DATA is)
      | inr fails ↦ rw fails tt
    ]

found_short : (text : List ℕ) (o : Option Data) → IsSpanShort (found_span text o)
found_short text None = tt
found_short text (Some null) = tt
found_short text (Some (boolean b)) = tt
found_short text (Some (number n)) = tt
found_short text (Some (string t)) = tt
found_short text (Some (array ds)) = tt
found_short text (Some (object ms)) = value_short (last_named (codes "state") (outermost_members text))

answer_short : (text : List ℕ) (o : Option Data) → IsSpanShort (answer_span text o)
answer_short text None = tt
answer_short text (Some null) = tt
answer_short text (Some (boolean b)) = tt
answer_short text (Some (number n)) = tt
answer_short text (Some (string t)) = tt
answer_short text (Some (array ds)) = tt
answer_short text (Some (object ms)) = found_short text (get_member (codes "state") ms)

read_short : (text : List ℕ) → IsSpanShort (state_read text)
unfolding state_read
read_short [] = tt
read_short (x ∷ xs) = answer_short (x ∷ xs) (read_json (x ∷ xs))

bytes_short : (body : List ℕ) (r : StateRead) → IsSpanShort r → length (span_bytes body r) ≤ MAX_DATA
bytes_short body Empty short = omega arith
bytes_short body (Span from to) short =
    let cut : length (take (to - from) (drop from body)) ≡ min (to - from) (length (drop from body)) = length-take (to - from) (drop from body) in
    let within : to - from ≤ MAX_DATA = short in
    shorter (to - from) (length (drop from body)) (length (take (to - from) (drop from body))) MAX_DATA cut within
  where
    shorter : (a b c most : ℕ) → c ≡ min a b → a ≤ most → c ≤ most
    shorter a b c most is within = omega arith
bytes_short body Bad short = omega arith

answered_short : (body : List ℕ) → length (answered_state body) ≤ MAX_DATA
unfolding answered_state
answered_short body = bytes_short body (state_read body) (read_short body)

reply_short : (reply : Reply) → length (state_in_reply reply) ≤ MAX_DATA
reply_short (Answered status error body) = answered_short body
reply_short (Garbled bytes) = omega arith
reply_short Lost = omega arith

-- the window that a call closes is a moment
abbrev pub IsClosing : Option ℕ → Type 0
IsClosing None = ⊤
IsClosing (Some window) = IsMoment window

call_window : (s : Setting) → AreWithinBounds s → (n : ℕ) (places : List ℕ) (closing : Option ℕ) → IsClosing closing → window_of_call s n places closing ≤ MAX_MOMENT
call_window s bounds n places None closes = window_within s bounds n (slice_index places 0)
call_window s bounds n places (Some window) closes = closes

-- the state that a call leaves may be said
pub new_within : (s : Setting) → AreWithinBounds s → (n : ℕ) (call : Call) (reply : Reply) → IsClosing call.closing → IfSome (new_state s n call reply) IsState
new_within s bounds n call reply closes =
    elim (cases_Bool (has_windows s.config)) [
      | inl is ↦ rw is (call_window s bounds n call.places call.closing closes, reply_short reply)
      | inr fails ↦ rw fails tt
    ]

-- how many succeeded

either : (n : ℕ) (b : Bool) (x y : Reading) → IsWithin n x → IsWithin n y → IsWithin n (cond b x y)
either n true x y first second = first
either n false x y first second = second

pub reading_within : (c : Config) (ids : List (List ℕ)) (closing : Bool) (reply : Reply) → IsWithin (length ids) (reading c ids closing reply)
reading_within c ids closing Lost = tt
reading_within c ids closing (Garbled bytes) = tt
reading_within c ids closing (Answered status error body) =
    either (length ids) (not (status == 200)) NotRun (cond error Failed (run_reading c ids closing body)) tt
    (either (length ids) error Failed (run_reading c ids closing body) tt
    (either (length ids) (has_bad_state c body) Failed (cond (not c.item_failures || closing) Whole (item_reading ids body)) tt
    (either (length ids) (not c.item_failures || closing) Whole (item_reading ids body) tt (read_within ids body (item_reading ids body) refl))))

one_more : (o : Option Record) (rs : List Record) (most : ℕ) → length rs ≤ most → length (cons_option o rs) ≤ suc most
one_more None rs most few = omega arith
one_more (Some r) rs most few = omega arith

fewer_records : (s : Setting) (n : ℕ) (places : List ℕ) → length (records_at s n places) ≤ length places
fewer_records s n [] = omega arith
fewer_records s n (i ∷ places) = one_more (record_at s n i) (records_at s n places) (length places) (fewer_records s n places)

-- no more sequence numbers than places
pub fewer_sequences : (s : Setting) (n : ℕ) (places : List ℕ) → length (sequences_at s n places) ≤ length places
fewer_sequences s n places =
    let same : length (sequences_at s n places) ≡ length (records_at s n places) = length-map (records_at s n places) (λ (r : Record). r.seq) in
    let few : length (records_at s n places) ≤ length places = fewer_records s n places in
    omega arith
