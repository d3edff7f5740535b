-- Each deletion of a legal history may be said, so the payloads of a history say its deletions.
use Rattle.std.proofs.Common.{◌≡◌, ◌∙◌, ℕ, zero, suc, ◌+◌, ◌<◌, ◌≤◌, ◌^◌, true, not, List, [], ◌∷◌, ◌++◌, length, map, Option, Some, None, ap, arith, inl, inr, refl, subst, sym}
use Rattle.std.specs.Prelude.{IfSome, filter_map, nat_le, option_map, reverse, slice_get}
use Rattle.std.specs.List.{All, cons_option, list_all}
use Rattle.std.proofs.lemmas.Bool.{and_from, cases_Bool, le-leb, lt-ltb}
use Rattle.std.proofs.lemmas.List.{reverse-append, reverse-reverse}
use Rattle.std.proofs.lemmas.List.Elements.{All-head, All-tail, filter_map-append}
use Rattle.std.proofs.lemmas.Option.{none-some, same_Some}
use Rattle.esm_model.specs.declared.config.Kind.{Kind}
use Rattle.esm_model.specs.declared.entry.Entry.{Entry}
use Rattle.esm_model.specs.declared.entry.Entry.TheVariants.{Came, Began, Ended, Gave, Tried, Closed, Replayed, Shut}
use Rattle.esm_model.specs.declared.entry.Fate.{Fate}
use Rattle.esm_model.specs.declared.entry.Fate.TheVariants.{Succeeded, Filtered, Expired, Exhausted}
use Rattle.esm_model.specs.declared.entry.WindowState.{WindowState}
use Rattle.esm_model.specs.declared.item.Message.{Message}
use Rattle.esm_model.specs.declared.lane.LaneId.{LaneId}
use Rattle.esm_model.specs.Entries.{batch_of, came_count, last_call}
use Rattle.esm_model.specs.Lane.{same_lane}
use Rattle.esm_model.specs.QueueReading.{queue_reading}
use Rattle.esm_model.specs.ValidMessage.{IsValidMessage, is_message_id}
use Rattle.esm_journal_record.specs.declared.said.Said.{Said}
use Rattle.esm_journal_record.specs.EntryPayload.{ids_at, queue_payload, queue_said}
use Rattle.esm_journal_record.specs.Parsing.{said_of}
use Rattle.esm_journal_record.specs.Payload.{IsSaid, is_deletion, is_place, payload_of, rises_from}
use Rattle.esm_journal_record.proofs.EntryFacts.{reversed}
use Rattle.esm_journal_state.specs.Meaning.{history}
use Rattle.esm_queue_model.specs.QueueEntries.{is_deleted, queue_count}
use Rattle.esm_queue_model.specs.QueueSetting.{QueueSetting, ids_at as ids_in}
use Rattle.esm_queue_model.specs.QueueStep.{LegalQueue, MayGiveQueue, is_unsorted_message, succeeded_places}
use Rattle.esm_queue_model.proofs.MoreMessages.{count_within}
use Rattle.esm_queue_model.proofs.Places.{In}
use Rattle.esm_queue_model.proofs.QueueBookLaws.{named_came}
use Rattle.esm_queue_core.specs.Kept.{IsRisingFrom}
use Rattle.esm_queue_core.proofs.Giving.{all_in}
use Rattle.esm_queue_core.proofs.Named.{batch_rising, ids_long, rising-below, rising-filter, rising-succeeded, within_at}
use Rattle.esm_queue_book.specs.Books.{payloads_in}
use Rattle.esm_runner.specs.QueueLaws.{AreLaws}

-- what a deletion of a legal history is of

pub record IsDeletion (shard : ℕ) (places : List ℕ) (f : Fate) : Type 0 where
  pub queue : shard ≡ 0
  pub rising : IsRisingFrom 0 places
  pub some : 1 ≤ length places
  pub deletes : is_deletion f ≡ true

succeeded_rises : (s : QueueSetting) (h : List Entry) (lane : LaneId) → LegalQueue s h → IsRisingFrom 0 (succeeded_places s h lane)
succeeded_rises s [] lane legal = tt
succeeded_rises s (Began at places closing m ∷ h) lane legal = elim (cases_Bool (same_lane at lane)) [ inl same ↦ rw same tt | inr other ↦ rw other (succeeded_rises s h lane legal.0) ]
succeeded_rises s (Ended at reply m ∷ h) lane legal =
    elim (cases_Bool (same_lane at lane)) [
      | inl same ↦ rw same (let batch = batch_of (last_call h lane) in rising-succeeded (queue_reading s.config (ids_in s batch) reply) batch (batch_rising s h lane legal.0))
      | inr other ↦ rw other (succeeded_rises s h lane legal.0)
    ]
succeeded_rises s (Came shard first count m ∷ h) lane legal = succeeded_rises s h lane legal.0
succeeded_rises s (Gave by shard places f line state m ∷ h) lane legal = succeeded_rises s h lane legal.0
succeeded_rises s (Tried at places closing tries m ∷ h) lane legal = succeeded_rises s h lane legal.0
succeeded_rises s (Closed at window m ∷ h) lane legal = succeeded_rises s h lane legal.0
succeeded_rises s (Replayed shard places m ∷ h) lane legal = succeeded_rises s h lane legal.0
succeeded_rises s (Shut m ∷ h) lane legal = succeeded_rises s h lane legal.0

pub gives : (s : QueueSetting) (h : List Entry) (by : Option LaneId) (shard : ℕ) (places : List ℕ) (f : Fate) (line : Option (List ℕ)) (state : Option WindowState) (m : ℕ) → LegalQueue s h → MayGiveQueue s h by shard places f line state m → IsDeletion shard places f
gives s h None shard places Filtered line state m legal may = record {
  queue = may.queue;
  rising = subst (IsRisingFrom 0) (sym may.exact) (rising-below (is_unsorted_message s h) (queue_count h));
  some = may.some;
  deletes = refl;
}
gives s h (Some lane) shard places Succeeded line state m legal may = record {
  queue = may.queue;
  rising = subst (IsRisingFrom 0) (sym may.exact) (rising-filter (λ i. not (is_deleted s h i)) 0 (succeeded_places s h lane) (succeeded_rises s h lane legal));
  some = may.some;
  deletes = refl;
}
gives s h None shard places Succeeded line state m legal may = absurd may
gives s h None shard places Expired line state m legal may = absurd may
gives s h None shard places Exhausted line state m legal may = absurd may
gives s h (Some lane) shard places Filtered line state m legal may = absurd may
gives s h (Some lane) shard places Expired line state m legal may = absurd may
gives s h (Some lane) shard places Exhausted line state m legal may = absurd may

-- the messages that it names came
pub given_low : (s : QueueSetting) (h : List Entry) (by : Option LaneId) (shard : ℕ) (places : List ℕ) (f : Fate) (line : Option (List ℕ)) (state : Option WindowState) (m i : ℕ) → LegalQueue s (Gave by shard places f line state m ∷ h) → In places i → i < queue_count h
given_low s h by shard places f line state m i legal member =
    subst (λ n. i < came_count h n) (gives s h by shard places f line state m legal.0 legal.1.1).queue (named_came s h (Gave by shard places f line state m) legal i member)

pub given_within : (s : QueueSetting) (h : List Entry) (by : Option LaneId) (shard : ℕ) (places : List ℕ) (f : Fate) (line : Option (List ℕ)) (state : Option WindowState) (m : ℕ) → LegalQueue s (Gave by shard places f line state m ∷ h) → All (λ i. i < length s.messages) places
given_within s h by shard places f line state m legal =
    let came = count_within s h legal.0 in
    all_in places (length s.messages) (λ i member. (let low = given_low s h by shard places f line state m i legal member in omega (arith, came, low)))

-- places and ids that a payload may name

rising_few : (low high : ℕ) (xs : List ℕ) → low ≤ high → IsRisingFrom low xs → All (λ i. i < high) xs → low + length xs ≤ high
rising_few low high [] below rising within = omega arith
rising_few low high (x ∷ xs) below rising within =
    let first = rising.0 in
    let l : x < high = All-head (λ i. i < high) x xs within in
    let rest = rising_few (x + 1) high xs (omega arith) rising.1 (All-tail (λ i. i < high) x xs within) in
    omega (arith, first, rest)

rises_is : (low : ℕ) (xs : List ℕ) → IsRisingFrom low xs → rises_from low xs ≡ true
rises_is low [] rising = refl
rises_is low (x ∷ xs) rising =
    let e : x + 1 ≡ suc x = omega arith in
    and_from (nat_le low x) (rises_from (suc x) xs) (le-leb low x rising.0) (subst (λ n. rises_from n xs ≡ true) e (rises_is (x + 1) xs rising.1))

all_places : (n : ℕ) (xs : List ℕ) → n ≤ 2 ^ 32 → All (λ i. i < n) xs → list_all is_place xs ≡ true
all_places n [] few within = refl
all_places n (x ∷ xs) few within =
    let l : x < n = All-head (λ i. i < n) x xs within in
    and_from (is_place x) (list_all is_place xs) (lt-ltb x (2 ^ 32) (omega arith)) (all_places n xs few (All-tail (λ i. i < n) x xs within))

valid_at : (kind : Kind) (messages : List Message) (i : ℕ) (x : Message) → All (IsValidMessage kind) messages → slice_get messages i ≡ Some x → IsValidMessage kind x
valid_at kind [] i x valid at = absurd (none-some x at)
valid_at kind (y ∷ ys) zero x valid at = subst (IsValidMessage kind) (same_Some y x at) (All-head (IsValidMessage kind) y ys valid)
valid_at kind (y ∷ ys) (suc i) x valid at = valid_at kind ys i x (All-tail (IsValidMessage kind) y ys valid) at

pub one_id : (messages : List Message) (i : ℕ) (places : List ℕ) (x : Message) → slice_get messages i ≡ Some x → ids_at messages (i ∷ places) ≡ x.id ∷ ids_at messages places
one_id messages i places x at = ap (λ (o : Option Message). map (λ (y : Message). y.id) (cons_option o (filter_map (slice_get messages) places))) at

ids_spelled : (kind : Kind) (messages : List Message) (places : List ℕ) → All (IsValidMessage kind) messages → All (λ i. i < length messages) places → list_all is_message_id (ids_at messages places) ≡ true
ids_spelled kind messages [] valid within = refl
ids_spelled kind messages (i ∷ places) valid within =
    let there = within_at messages i (All-head (λ j. j < length messages) i places within) in
    ap (list_all is_message_id) (one_id messages i places there.0 there.1)
    ∙ and_from (is_message_id there.0.id) (list_all is_message_id (ids_at messages places)) (valid_at kind messages i there.0 valid there.1).id
    (ids_spelled kind messages places valid (All-tail (λ j. j < length messages) i places within))

-- each entry

abbrev AllMayBeSaid : List Message → List Entry → Type 0
AllMayBeSaid messages [] = Unit {0}
AllMayBeSaid messages (e ∷ h) = AllMayBeSaid messages h × IfSome (queue_said messages e) IsSaid

gave_said : (s : QueueSetting) (h : List Entry) (by : Option LaneId) (shard : ℕ) (places : List ℕ) (f : Fate) (line : Option (List ℕ)) (state : Option WindowState) (m : ℕ) → All (IsValidMessage s.config.kind) s.messages → length s.messages < 2 ^ 32
    → LegalQueue s (Gave by shard places f line state m ∷ h) → IfSome (queue_said s.messages (Gave by shard places f line state m)) IsSaid
gave_said s h by shard places f line state m valid few legal =
    let is = gives s h by shard places f line state m legal.0 legal.1.1 in
    let within = given_within s h by shard places f line state m legal in
    let long : 0 + length places ≤ length s.messages = rising_few 0 (length s.messages) places (omega arith) is.rising within in (
      is.deletes,
      legal.1.0.within,
      record {
        some = is.some;
        few = omega (arith, long, few);
        small = all_places (length s.messages) places (omega (arith, few)) within;
        rising = rises_is 0 places is.rising;
        same = ids_long s.messages places within;
        spelled = ids_spelled s.config.kind s.messages places valid within;
      },
    )

all_said : (s : QueueSetting) (h : List Entry) → All (IsValidMessage s.config.kind) s.messages → length s.messages < 2 ^ 32 → LegalQueue s h → AllMayBeSaid s.messages h
all_said s [] valid few legal = tt
all_said s (Gave by shard places f line state m ∷ h) valid few legal = (all_said s h valid few legal.0, gave_said s h by shard places f line state m valid few legal)
all_said s (Came shard first count m ∷ h) valid few legal = (all_said s h valid few legal.0, tt)
all_said s (Began lane places closing m ∷ h) valid few legal = (all_said s h valid few legal.0, tt)
all_said s (Ended lane reply m ∷ h) valid few legal = (all_said s h valid few legal.0, tt)
all_said s (Tried lane places closing tries m ∷ h) valid few legal = (all_said s h valid few legal.0, tt)
all_said s (Closed lane window m ∷ h) valid few legal = (all_said s h valid few legal.0, tt)
all_said s (Replayed shard places m ∷ h) valid few legal = (all_said s h valid few legal.0, tt)
all_said s (Shut m ∷ h) valid few legal = (all_said s h valid few legal.0, tt)

-- what is read again

one_again : AreLaws → (o : Option Said) (payloads : List (List ℕ)) → IfSome o IsSaid → filter_map said_of (cons_option (option_map payload_of o) payloads) ≡ cons_option o (filter_map said_of payloads)
one_again laws None payloads may = refl
one_again laws (Some said) payloads may = ap (λ (o : Option Said). cons_option o (filter_map said_of payloads)) (laws.again said may)

saids_again : AreLaws → (messages : List Message) (h : List Entry) → AllMayBeSaid messages h → filter_map said_of (filter_map (queue_payload messages) h) ≡ filter_map (queue_said messages) h
saids_again laws messages [] may = refl
saids_again laws messages (e ∷ h) may =
    one_again laws (queue_said messages e) (filter_map (queue_payload messages) h) may.1
    ∙ ap (cons_option (queue_said messages e)) (saids_again laws messages h may.0)

-- what the old payloads and those of a history say
pub history_said : AreLaws → (s : QueueSetting) (h : List Entry) (old : List (List ℕ)) → All (IsValidMessage s.config.kind) s.messages → length s.messages < 2 ^ 32 → LegalQueue s h
    → history (reverse (old ++ payloads_in s.messages (reverse h))) ≡ filter_map (queue_said s.messages) h ++ history (reverse old)
history_said laws s h old valid few legal =
    let payload = queue_payload s.messages in
    ap (filter_map said_of) (reverse-append old (filter_map payload (reverse h)))
    ∙ filter_map-append said_of (reverse (filter_map payload (reverse h))) (reverse old)
    ∙ ap (λ (ps : List (List ℕ)). filter_map said_of ps ++ history (reverse old)) (ap reverse (reversed payload h) ∙ reverse-reverse (filter_map payload h))
    ∙ ap (λ (g : List Said). g ++ history (reverse old)) (saids_again laws s.messages h (all_said s h valid few legal))
