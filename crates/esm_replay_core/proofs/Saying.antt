-- What succeeded of a call may be said by a payload, which is not too long.
use Rattle.std.proofs.Common.{◌≡◌, ℕ, ◌*◌, ◌<◌, ◌≤◌, ◌^◌, Bool, true, false, not, cond, ◌&&◌, ◌||◌, List, [], ◌∷◌, ◌++◌, length, take, refl, sym, ap, ap₂, ◌∙◌, subst, inl, inr, arith, Option, Some, None}
use Rattle.std.specs.Prelude.{◌==◌, nat_lt, map}
use Rattle.std.specs.List.{All, list_all, cons_option}
use Rattle.std.proofs.lemmas.Bool.{cases_Bool, and_parts, and_from}
use Rattle.std.proofs.lemmas.List.{length-append, length-take-le}
use Rattle.esm_model.specs.declared.limits.TheConstants.{MAX_BATCH, MAX_PAYLOAD}
use Rattle.esm_model.specs.declared.config.Config.{Config}
use Rattle.esm_model.specs.Records.{Record}
use Rattle.esm_model.specs.declared.entry.Entry.{Entry}
use Rattle.esm_model.specs.declared.entry.Entry.TheVariants as entry
use Rattle.esm_model.specs.declared.entry.Reply.{Reply}
use Rattle.esm_model.specs.declared.entry.Reply.TheVariants.{Answered, Garbled, Lost}
use Rattle.esm_model.specs.declared.verdict.Reading.{Reading}
use Rattle.esm_model.specs.declared.verdict.Reading.TheVariants.{Whole, NotRun, Failed, UpTo}
use Rattle.esm_model.specs.Sequence.{is_sequence}
use Rattle.esm_model.specs.Setting.{Setting, record_at, records_at, sequences_at}
use Rattle.esm_model.specs.Step.{IsLater}
use Rattle.esm_model.specs.Valid.{IsValidRecord}
use Rattle.esm_model.specs.Reading.{item_reading, has_bad_state, run_reading, reading}
use Rattle.esm_model.specs.Ruling.{ruling}
use Rattle.esm_verdict.specs.Readings.{IsWithin}
use Rattle.esm_verdict.proofs.WithinLemmas.{read_within}
use Rattle.esm_journal_record.specs.declared.said.Said.TheVariants.{Replayed}
use Rattle.esm_journal_record.specs.Payload.{eight, four, name_bytes, names_bytes, named_bytes, payload_of, AreNamed, IsSaid}
use Rattle.esm_journal_record.specs.EntryPayload.{AllMayBeSaid}
use Rattle.esm_record_bounds.proofs.Lines.{sequence_short}
use Rattle.esm_replay_model.specs.ReplaySetting.{ReplaySetting, config_of}
use Rattle.esm_replay_model.specs.Pieces.{ReplayPiece, replay_verdict}
use Rattle.esm_replay_model.specs.ReplayRun.{replay_lane, call_out, IsReplay}
use Rattle.esm_replay.proofs.Saying.{run_said}
use Rattle.esm_replay_core.specs.declared.decisions.Opened.{Opened}
use Rattle.esm_replay_core.specs.Ending.{verdict_by}
use Rattle.esm_replay_core.specs.Kept.{setting_for}
use Rattle.esm_replay_core.proofs.Stateless.{stateless, run_stateless}
use Rattle.esm_replay_core.proofs.Standing.{within_bounds, few_records, sequences-take}

-- lengths

four_size : (n : ℕ) → length (four n) ≡ 4
unfolding four
four_size n = refl

eight_size : (n : ℕ) → length (eight n) ≡ 8
unfolding eight
eight_size n = refl

-- a place, a length and a sequence number
names_size : (places : List ℕ) (texts : List (List ℕ)) → list_all is_sequence texts ≡ true → length (names_bytes places texts) ≤ length places * 134
names_size [] texts all = omega arith
names_size (place ∷ places) [] all = omega arith
names_size (place ∷ places) (text ∷ texts) all =
    let parts = and_parts (is_sequence text) (list_all is_sequence texts) all in
    omega (arith, length-append (name_bytes place text) (names_bytes places texts), length-append (four place) (length text ∷ text), four_size place, sequence_short text parts.0, names_size places texts parts.1)

named_size : (places : List ℕ) (texts : List (List ℕ)) → AreNamed is_sequence places texts → length places ≤ MAX_BATCH → length (named_bytes places texts) ≤ 1340004
unfolding named_bytes
named_size places texts named few =
    omega (arith, length-append (four (length places)) (names_bytes places texts), four_size (length places), names_size places texts named.spelled, few)

pub payload_short : (n m : ℕ) (places : List ℕ) (texts : List (List ℕ)) → IsSaid (Replayed n m places texts) → length places ≤ MAX_BATCH → length (payload_of (Replayed n m places texts)) ≤ MAX_PAYLOAD
payload_short n m places texts said few =
    let named = named_bytes places texts in
    omega (arith, length-append (eight n) (eight m ++ named), eight_size n, length-append (eight m) named, eight_size m, named_size places texts said.2 few)

-- no more succeed than were called

pub ruled_within : (c : Config) (count : ℕ) (r : Reading) → IsWithin count r → (ruling c count 0 r).succeeded ≤ count
ruled_within c count Whole within = omega arith
ruled_within c count NotRun within = omega arith
ruled_within c count Failed within = elim (cases_Bool (c.bisect && nat_lt 1 count)) [ inl is ↦ rw is (omega arith) | inr fails ↦ rw fails (omega arith) ]
ruled_within c count (UpTo p) within = (let low : p < count = within.1 in elim (cases_Bool c.bisect) [ inl is ↦ rw is (omega arith) | inr fails ↦ rw fails (omega arith) ])

either_within : (n : ℕ) (b : Bool) (r q : Reading) → IsWithin n r → IsWithin n q → IsWithin n (cond b r q)
either_within n true r q here there = here
either_within n false r q here there = there

reading_within : (c : Config) (ids : List (List ℕ)) (reply : Reply) → IsWithin (length ids) (reading c ids false reply)
reading_within c ids Lost = tt
reading_within c ids (Garbled bytes) = tt
reading_within c ids (Answered status error body) =
    either_within (length ids) (not (status == 200)) NotRun (cond error Failed (run_reading c ids false body)) tt
    (either_within (length ids) error Failed (run_reading c ids false body) tt
    (either_within (length ids) (has_bad_state c body) Failed (cond (not c.item_failures || false) Whole (item_reading ids body)) tt
    (either_within (length ids) (not c.item_failures || false) Whole (item_reading ids body) tt (read_within ids body (item_reading ids body) refl))))

pub verdict_within : (c : Config) (names : List (List ℕ)) (reply : Reply) → (verdict_by c names reply).succeeded ≤ length names
verdict_within c names reply = ruled_within c (length names) (reading c names false reply) (reading_within c names reply)

-- what is replayed

pub verdict_is : (s : ReplaySetting) (c : Config) (names : List (List ℕ)) (call : ReplayPiece) (reply : Reply) → config_of s ≡ c → names ≡ sequences_at s.base call.shard call.places → length names ≡ length call.places → verdict_by c names reply ≡ replay_verdict s call reply
verdict_is s c names call reply config are long =
    ap₂ (λ (d : Config) (k : ℕ). ruling d k 0 (reading d names false reply)) (sym config) long
    ∙ ap (λ (xs : List (List ℕ)). ruling (config_of s) (length call.places) 0 (reading (config_of s) xs false reply)) are

-- with its end and with what is replayed the history is a run
pub ended_run : (s : ReplaySetting) (h : List Entry) (reply : Reply) (m : ℕ) → IsReplay s h → IsLater h m → 1 ≤ length (call_out h).places → IsReplay s (entry.Ended (replay_lane (call_out h).shard) reply m ∷ h)
ended_run s h reply m run later some = (run, (later, record { lane_is = refl; runs = some }))

pub replayed_run : (s : ReplaySetting) (h : List Entry) (reply : Reply) (m : ℕ) (places : List ℕ) → IsReplay s h → IsLater h m → 1 ≤ length (call_out h).places → places ≡ take (replay_verdict s (call_out h) reply).succeeded (call_out h).places → 1 ≤ length places
    → IsReplay s (entry.Replayed (call_out h).shard places m ∷ entry.Ended (replay_lane (call_out h).shard) reply m ∷ h)
replayed_run s h reply m places run later some is any =
    (ended_run s h reply m run later some, (record { not_back = omega arith; within = later.within }, record { shard_is = refl; exact = is; some = any; same_moment = refl }))

-- it may be said
pub said_of : (o : Opened) (rs : List Record) (h : List Entry) (n : ℕ) (places : List ℕ) (m : ℕ) → All IsValidRecord rs → length rs < 2 ^ 32 → IsReplay (setting_for o rs) (entry.Replayed n places m ∷ h)
    → IsSaid (Replayed n m places (sequences_at (setting_for o rs).base n places))
said_of o rs h n places m valid few run =
    (run_said (stateless (setting_for o rs)) (entry.Replayed n places m ∷ h) (within_bounds o rs valid) (few_records o rs few) (run_stateless (setting_for o rs) (entry.Replayed n places m ∷ h) run)).1

-- and so may all of a run
pub all_said : (o : Opened) (rs : List Record) (h : List Entry) → All IsValidRecord rs → length rs < 2 ^ 32 → IsReplay (setting_for o rs) h → AllMayBeSaid (setting_for o rs).base h
all_said o rs [] valid few run = tt
all_said o rs (entry.Began lane places None m ∷ h) valid few run = (all_said o rs h valid few run.0, tt)
all_said o rs (entry.Began lane places (Some window) m ∷ h) valid few run = absurd run.1.1
all_said o rs (entry.Ended lane reply m ∷ h) valid few run = (all_said o rs h valid few run.0, tt)
all_said o rs (entry.Replayed n places m ∷ h) valid few run = (all_said o rs h valid few run.0, said_of o rs h n places m valid few run)
all_said o rs (entry.Came shard first count m ∷ h) valid few run = absurd run.1.1
all_said o rs (entry.Gave by shard places f line state m ∷ h) valid few run = absurd run.1.1
all_said o rs (entry.Tried lane places closing tries m ∷ h) valid few run = absurd run.1.1
all_said o rs (entry.Closed lane window m ∷ h) valid few run = absurd run.1.1
all_said o rs (entry.Shut m ∷ h) valid few run = absurd run.1.1

-- sequence numbers of records that are valid

spelled_with : (s : Setting) (n i : ℕ) (places : List ℕ) → ((r : Record) → record_at s n i ≡ Some r → IsValidRecord r) → list_all is_sequence (sequences_at s n places) ≡ true
    → (o : Option Record) → record_at s n i ≡ o → list_all is_sequence (map (λ (r : Record). r.seq) (cons_option o (records_at s n places))) ≡ true
spelled_with s n i places valid others None at = others
spelled_with s n i places valid others (Some r) at = and_from (is_sequence r.seq) (list_all is_sequence (sequences_at s n places)) (valid r at).seq others

pub all_spelled : (s : Setting) → ((n i : ℕ) (r : Record) → record_at s n i ≡ Some r → IsValidRecord r) → (n : ℕ) (places : List ℕ) → list_all is_sequence (sequences_at s n places) ≡ true
all_spelled s valid n [] = refl
all_spelled s valid n (i ∷ places) = spelled_with s n i places (valid n i) (all_spelled s valid n places) (record_at s n i) refl

-- with the first of the sequence numbers of a call
pub said_first : (o : Opened) (rs : List Record) (h : List Entry) (n k : ℕ) (places : List ℕ) (names : List (List ℕ)) (m : ℕ) → All IsValidRecord rs → length rs < 2 ^ 32 → k ≤ length places → names ≡ sequences_at (setting_for o rs).base n places
    → IsReplay (setting_for o rs) (entry.Replayed n (take k places) m ∷ h) → IsSaid (Replayed n m (take k places) (take k names)) × (take k names ≡ sequences_at (setting_for o rs).base n (take k places))
said_first o rs h n k places names m valid few within are run =
    let said : IsSaid (Replayed n m (take k places) (sequences_at (setting_for o rs).base n (take k places))) = said_of o rs h n (take k places) m valid few run in
    let named : AreNamed is_sequence (take k places) (sequences_at (setting_for o rs).base n (take k places)) = said.2 in
    let long : length (sequences_at (setting_for o rs).base n (take k places)) ≡ k = named.same ∙ length-take-le k places within in
    let is : take k names ≡ sequences_at (setting_for o rs).base n (take k places) = ap (take k) are ∙ sequences-take (setting_for o rs).base n k places long in
    (subst (λ (xs : List (List ℕ)). IsSaid (Replayed n m (take k places) xs)) (sym is) said, is)
