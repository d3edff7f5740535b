-- How replies are read and judged.
use Rattle.std.proofs.Common.{◌≡◌, ℕ, suc, ◌+◌, ◌<◌, ◌≤◌, Bool, true, false, not, cond, ◌&&◌, ◌||◌, List, [], ◌∷◌, ◌++◌, length, take, map, refl, sym, ap, ◌∙◌, inl, inr, Option, Some, None, arith, get_or}
use Rattle.std.specs.Prelude.{◌==◌, nat_lt, is_some, filter_map}
use Rattle.std.specs.List.{cons_option}
use Rattle.std.proofs.lemmas.Bool.{cases_Bool}
use Rattle.std.proofs.lemmas.List.{take_more, map-append}
use Rattle.std.proofs.lemmas.List.Elements.{filter_map-append}
use Rattle.esm_model.specs.declared.config.Config.{Config}
use Rattle.esm_model.specs.Records.{Record}
use Rattle.esm_model.specs.declared.lane.LaneId.{LaneId}
use Rattle.esm_model.specs.declared.entry.Entry.{Entry}
use Rattle.esm_model.specs.declared.entry.Reply.{Reply}
use Rattle.esm_model.specs.declared.entry.Reply.TheVariants.{Answered, Garbled, Lost}
use Rattle.esm_model.specs.declared.verdict.Reading.{Reading}
use Rattle.esm_model.specs.declared.verdict.Reading.TheVariants.{Whole, NotRun, Failed, UpTo}
use Rattle.esm_model.specs.declared.verdict.StateRead.{StateRead}
use Rattle.esm_model.specs.declared.verdict.StateRead.TheVariants.{Empty}
use Rattle.esm_model.specs.Setting.{Setting, record_at, records_at, sequences_at}
use Rattle.esm_model.specs.Entries.{Call, last_call}
use Rattle.esm_model.specs.State.{state_read, span_bytes, answered_state}
use Rattle.esm_model.specs.Reading.{reading, run_reading, has_bad_state, item_reading}
use Rattle.esm_model.specs.Ruling.{ruling}
use Rattle.esm_model.specs.Tries.{tries_for, verdict_on, verdict_after}
use Rattle.esm_model.specs.Windows.{has_windows}
use Rattle.esm_model.specs.Owed.{state_in_reply}
use Rattle.esm_verdict.specs.Readings.{IsWithin, reply_state}
use Rattle.esm_outcome.specs.Parts.{sequence_in, text_in}

-- where no item failures are reported, or the call is a window's final one, the sequence numbers have no say
reading_of : (c : Config) (ids others : List (List ℕ)) (closing : Bool) (reply : Reply) → ((body : List ℕ) → run_reading c ids closing body ≡ run_reading c others closing body) → reading c ids closing reply ≡ reading c others closing reply
reading_of c ids others closing (Garbled bytes) same = refl
reading_of c ids others closing Lost same = refl
reading_of c ids others closing (Answered status error body) same =
    ap (λ (r : Reading). cond (not (status == 200)) NotRun (cond error Failed r)) (same body)

pub reading_plain : (c : Config) (ids others : List (List ℕ)) (closing : Bool) (reply : Reply) → c.item_failures ≡ false → reading c ids closing reply ≡ reading c others closing reply
reading_plain c ids others closing reply none = reading_of c ids others closing reply (λ body. whole body ids ∙ sym (whole body others))
  where
    whole : (body : List ℕ) (numbers : List (List ℕ)) → run_reading c numbers closing body ≡ cond (has_bad_state c body) Failed Whole
    whole body numbers = ap (λ (f : Bool). cond (has_bad_state c body) Failed (cond (not f || closing) Whole (item_reading numbers body))) none

pub reading_final : (c : Config) (ids others : List (List ℕ)) (reply : Reply) → reading c ids true reply ≡ reading c others true reply
reading_final c ids others reply = reading_of c ids others true reply (λ body. whole c.item_failures body ids ∙ sym (whole c.item_failures body others))
  where
    whole : (f : Bool) (body : List ℕ) (numbers : List (List ℕ)) → cond (has_bad_state c body) Failed (cond (not f || true) Whole (item_reading numbers body)) ≡ cond (has_bad_state c body) Failed Whole
    whole true body numbers = refl
    whole false body numbers = refl

-- what is within few records is within more
pub within_more : (few many : ℕ) (r : Reading) → few ≤ many → IsWithin few r → IsWithin many r
within_more few many Whole more is = tt
within_more few many NotRun more is = tt
within_more few many Failed more is = tt
within_more few many (UpTo p) more is = (let low = is.0 in let high = is.1 in (low, omega (arith, high, more)))

pub ruling_within : (c : Config) (count tries : ℕ) (r : Reading) → IsWithin count r → (ruling c count tries r).succeeded ≤ count
ruling_within c count tries Whole w = omega arith
ruling_within c count tries NotRun w = omega arith
ruling_within c count tries Failed w = elim (cases_Bool (c.bisect && nat_lt 1 count)) [ inl a ↦ rw a (omega arith) | inr b ↦ rw b (omega arith) ]
ruling_within c count tries (UpTo p) w = elim (cases_Bool c.bisect) [ inl a ↦ rw a (omega (arith, w)) | inr b ↦ rw b (omega (arith, w)) ]

-- the ruling by what is read off a ledger
pub verdict_told : (s : Setting) (h : List Entry) (lane : LaneId) (places : List ℕ) (closing : Option ℕ) (call : Call) (reply : Reply)
    → last_call h lane ≡ Some call → places ≡ call.places → closing ≡ call.closing
    → ruling s.config (length places) (tries_for s h lane.shard places closing) (reading s.config (sequences_at s lane.shard places) (is_some closing) reply) ≡ verdict_after s h lane reply
verdict_told s h lane places closing call reply last is ends =
    ap (λ (xs : List ℕ). ruling s.config (length xs) (tries_for s h lane.shard xs closing) (reading s.config (sequences_at s lane.shard xs) (is_some closing) reply)) is
    ∙ ap (λ (o : Option ℕ). ruling s.config (length call.places) (tries_for s h lane.shard call.places o) (reading s.config (sequences_at s lane.shard call.places) (is_some o) reply)) ends
    ∙ sym (ap (λ (o : Option Call). verdict_on s h lane.shard o reply) last)

-- states

failed_none : (c : Config) (count tries : ℕ) → (ruling c count tries Failed).succeeded ≡ 0
failed_none c count tries = elim (cases_Bool (c.bisect && nat_lt 1 count)) [ inl a ↦ rw a refl | inr b ↦ rw b refl ]

-- a call of which some records succeeded was run without an error
run_well : (c : Config) (count tries : ℕ) (fine error : Bool) (r : Reading) → 1 ≤ (ruling c count tries (cond (not fine) NotRun (cond error Failed r))).succeeded → (fine ≡ true) × (error ≡ false)
run_well c count tries true false r some = (refl, refl)
run_well c count tries true true r some = absurd (let none = failed_none c count tries in let more : 1 ≤ (ruling c count tries Failed).succeeded = some in omega (arith, none, more))
run_well c count tries false error r some = absurd (let more : 1 ≤ 0 = some in omega (arith, more))

state_where : (fine error off : Bool) (r : StateRead) → fine ≡ true → error ≡ false → off ≡ false → cond (not fine || error || off) Empty r ≡ r
state_where true false false r a b c = refl
state_where true false true r a b c = absurd (let clash : true ≡ false = c in cc)
state_where true true off r a b c = absurd (let clash : true ≡ false = b in cc)
state_where false error off r a b c = absurd (let clash : false ≡ true = a in cc)

off_none : (b : Bool) → not b ≡ true → b ≡ false
off_none false is = refl
off_none true is = absurd (let clash : false ≡ true = is in cc)

-- and its answer is read for the state
pub state_told : (c : Config) (ids : List (List ℕ)) (closing : Bool) (reply : Reply) (count tries : ℕ) → 1 ≤ (ruling c count tries (reading c ids closing reply)).succeeded → has_windows c ≡ true → text_in reply (reply_state c reply) ≡ state_in_reply reply
unfolding answered_state
state_told c ids closing (Garbled bytes) count tries some windows = refl
state_told c ids closing Lost count tries some windows = refl
state_told c ids closing (Answered status error body) count tries some windows =
    let well = run_well c count tries (status == 200) error (run_reading c ids closing body) some in
    ap (span_bytes body) (state_where (status == 200) error (c.tumbling_ms == 0) (state_read body) well.0 well.1 (off_none (c.tumbling_ms == 0) windows))

-- sequence numbers

one_place : (s : Setting) (n i : ℕ) (o : Option Record) → o ≡ record_at s n i → sequences_at s n (i ∷ []) ≡ sequence_in o
one_place s n i None is = ap (λ (x : Option Record). map (λ (r : Record). r.seq) (filter_map (λ (y : Option Record). y) (x ∷ []))) (sym is)
one_place s n i (Some r) is = ap (λ (x : Option Record). map (λ (y : Record). y.seq) (filter_map (λ (z : Option Record). z) (x ∷ []))) (sym is)

-- one more place
pub sequences_more : (s : Setting) (n : ℕ) (places : List ℕ) (i : ℕ) (o : Option Record) → i < length places → o ≡ record_at s n (get_or places i 0) → sequences_at s n (take (i + 1) places) ≡ sequences_at s n (take i places) ++ sequence_in o
sequences_more s n places i o within is =
    ap (sequences_at s n) (take_more places i 0 within)
    ∙ ap (map (λ (r : Record). r.seq)) (filter_map-append (record_at s n) (take i places) (get_or places i 0 ∷ []))
    ∙ map-append (λ (r : Record). r.seq) (records_at s n (take i places)) (records_at s n (get_or places i 0 ∷ []))
    ∙ ap (λ (ys : List (List ℕ)). sequences_at s n (take i places) ++ ys) (one_place s n (get_or places i 0) o is)

pub sequences_few : (s : Setting) (n : ℕ) (places : List ℕ) → length (sequences_at s n places) ≤ length places
sequences_few s n [] = omega arith
sequences_few s n (i ∷ places) = (let rest = sequences_few s n places in one (record_at s n i) rest)
  where
    one : (o : Option Record) → length (sequences_at s n places) ≤ length places → length (map (λ (r : Record). r.seq) (cons_option o (records_at s n places))) ≤ suc (length places)
    one None rest = omega (arith, rest)
    one (Some r) rest = omega (arith, rest)
