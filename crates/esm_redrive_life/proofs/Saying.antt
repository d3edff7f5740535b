-- Each deletion of a legal history may be said, so the payloads of a history say its deletions.
use Rattle.std.proofs.Common.{◌≡◌, ◌∙◌, ℕ, zero, suc, ◌+◌, ◌<◌, ◌≤◌, ◌^◌, true, List, [], ◌∷◌, ◌++◌, length, map, Option, Some, None, ap, arith, refl, subst}
use Rattle.std.specs.Prelude.{IfSome, filter_map, option_map, reverse, slice_get}
use Rattle.std.specs.List.{All, cons_option, list_all}
use Rattle.std.proofs.lemmas.Bool.{and_from, lt-ltb}
use Rattle.std.proofs.lemmas.List.{reverse-append, reverse-reverse}
use Rattle.std.proofs.lemmas.List.Elements.{All-cons, All-head, All-nil, All-tail, filter_map-append}
use Rattle.std.proofs.lemmas.Option.{none-some, same_Some}
use Rattle.esm_model.specs.declared.config.Kind.{Kind}
use Rattle.esm_model.specs.declared.entry.Entry.{Entry}
use Rattle.esm_model.specs.declared.entry.Entry.TheVariants.{Came, Began, Ended, Gave, Tried, Closed, Replayed, Shut}
use Rattle.esm_model.specs.declared.entry.Fate.{Fate}
use Rattle.esm_model.specs.declared.entry.WindowState.{WindowState}
use Rattle.esm_model.specs.declared.item.Message.{Message}
use Rattle.esm_model.specs.declared.lane.LaneId.{LaneId}
use Rattle.esm_model.specs.ValidMessage.{IsValidMessage, is_message_id}
use Rattle.esm_journal_record.specs.declared.said.Said.{Said}
use Rattle.esm_journal_record.specs.EntryPayload.{ids_at, queue_payload, queue_said}
use Rattle.esm_journal_record.specs.Parsing.{said_of}
use Rattle.esm_journal_record.specs.Payload.{IsSaid, is_place, payload_of}
use Rattle.esm_journal_record.proofs.EntryFacts.{reversed}
use Rattle.esm_journal_state.specs.Meaning.{history}
use Rattle.esm_queue.specs.Receiving.{IsRising}
use Rattle.esm_queue_model.specs.QueueEntries.{queue_count}
use Rattle.esm_queue_model.specs.QueueSetting.{QueueSetting}
use Rattle.esm_queue_model.proofs.Places.{In, In-here, In-there}
use Rattle.esm_redrive_model.proofs.Built.{count_within}
use Rattle.esm_redrive_life.specs.Content.{HasValidMessages, content_after}
use Rattle.esm_redrive_life.proofs.Rising.{IsTellable, rises_is}

-- what is said is read again
abbrev pub ReadAgain : Type 0
ReadAgain = (said : Said) → IsSaid said → said_of (payload_of said) ≡ Some said

-- places and ids that a payload may name

all_in : (n : ℕ) (xs : List ℕ) → ((i : ℕ) → In xs i → i < n) → All (λ i. i < n) xs
all_in n [] each = All-nil (λ i. i < n)
all_in n (x ∷ xs) each = All-cons (λ i. i < n) x xs (each x (In-here x xs x refl)) (all_in n xs (λ i member. each i (In-there x xs i member)))

few_places : (low high : ℕ) (xs : List ℕ) → low ≤ high → IsRising low xs → All (λ i. i < high) xs → low + length xs ≤ high
few_places low high [] below rising within = omega (arith, below)
few_places low high (x ∷ xs) below rising within =
    let first = rising.0 in
    let l : x < high = All-head (λ i. i < high) x xs within in
    let rest = few_places (x + 1) high xs (omega (arith, l)) rising.1 (All-tail (λ i. i < high) x xs within) in
    omega (arith, first, rest)

all_places : (n : ℕ) (xs : List ℕ) → n ≤ 2 ^ 32 → All (λ i. i < n) xs → list_all is_place xs ≡ true
all_places n [] few within = refl
all_places n (x ∷ xs) few within =
    let l : x < n = All-head (λ i. i < n) x xs within in
    and_from (is_place x) (list_all is_place xs) (lt-ltb x (2 ^ 32) (omega (arith, l, few))) (all_places n xs few (All-tail (λ i. i < n) x xs within))

-- the message at a place within
pub within_at : (messages : List Message) (i : ℕ) → i < length messages → (m : Message) × (slice_get messages i ≡ Some m)
within_at [] i low = absurd (omega (arith, low))
within_at (x ∷ xs) zero low = (x, refl)
within_at (x ∷ xs) (suc i) low = within_at xs i (omega (arith, low))

pub valid_at : (kind : Kind) (messages : List Message) (i : ℕ) (x : Message) → All (IsValidMessage kind) messages → slice_get messages i ≡ Some x → IsValidMessage kind x
valid_at kind [] i x valid at = absurd (none-some x at)
valid_at kind (y ∷ ys) zero x valid at = subst (IsValidMessage kind) (same_Some y x at) (All-head (IsValidMessage kind) y ys valid)
valid_at kind (y ∷ ys) (suc i) x valid at = valid_at kind ys i x (All-tail (IsValidMessage kind) y ys valid) at

pub one_id : (messages : List Message) (i : ℕ) (places : List ℕ) (x : Message) → slice_get messages i ≡ Some x → ids_at messages (i ∷ places) ≡ x.id ∷ ids_at messages places
one_id messages i places x at = ap (λ (o : Option Message). map (λ (y : Message). y.id) (cons_option o (filter_map (slice_get messages) places))) at

ids_long : (messages : List Message) (places : List ℕ) → All (λ i. i < length messages) places → length (ids_at messages places) ≡ length places
ids_long messages [] within = refl
ids_long messages (i ∷ places) within =
    let there = within_at messages i (All-head (λ j. j < length messages) i places within) in
    ap (λ (ids : List (List ℕ)). length ids) (one_id messages i places there.0 there.1)
    ∙ ap suc (ids_long messages places (All-tail (λ j. j < length messages) i places within))

ids_spelled : (kind : Kind) (messages : List Message) (places : List ℕ) → All (IsValidMessage kind) messages → All (λ i. i < length messages) places → list_all is_message_id (ids_at messages places) ≡ true
ids_spelled kind messages [] valid within = refl
ids_spelled kind messages (i ∷ places) valid within =
    let there = within_at messages i (All-head (λ j. j < length messages) i places within) in
    ap (list_all is_message_id) (one_id messages i places there.0 there.1)
    ∙ and_from (is_message_id there.0.id) (list_all is_message_id (ids_at messages places)) (valid_at kind messages i there.0 valid there.1).id
    (ids_spelled kind messages places valid (All-tail (λ j. j < length messages) i places within))

-- each entry

abbrev pub AllMayBeSaid : List Message → List Entry → Type 0
AllMayBeSaid messages [] = Unit {0}
AllMayBeSaid messages (e ∷ h) = AllMayBeSaid messages h × IfSome (queue_said messages e) IsSaid

-- the messages that a deletion names stand in the list
pub given_within : (s : QueueSetting) (h : List Entry) (by : Option LaneId) (shard : ℕ) (places : List ℕ) (f : Fate) (line : Option (List ℕ)) (state : Option WindowState) (m : ℕ) → IsTellable s (Gave by shard places f line state m ∷ h) → All (λ i. i < length s.messages) places
given_within s h by shard places f line state m legal =
    let came = count_within s h legal.0.0 in
    all_in (length s.messages) places (λ i member. (let low : i < queue_count h = legal.0.1.came i member in omega (arith, came, low)))

gave_said : (s : QueueSetting) (h : List Entry) (by : Option LaneId) (shard : ℕ) (places : List ℕ) (f : Fate) (line : Option (List ℕ)) (state : Option WindowState) (m : ℕ) → HasValidMessages s → IsTellable s (Gave by shard places f line state m ∷ h)
    → IfSome (queue_said s.messages (Gave by shard places f line state m)) IsSaid
gave_said s h by shard places f line state m are legal =
    let is = legal.1.1.0 in
    let within = given_within s h by shard places f line state m legal in
    let few = are.few in
    let long : 0 + length places ≤ length s.messages = few_places 0 (length s.messages) places (omega arith) is.rising within in (
      is.deletes,
      legal.1.1.1,
      record {
        some = is.some;
        few = omega (arith, long, few);
        small = all_places (length s.messages) places (omega (arith, few)) within;
        rising = rises_is 0 places is.rising;
        same = ids_long s.messages places within;
        spelled = ids_spelled s.config.kind s.messages places are.valid within;
      },
    )

pub all_said : (s : QueueSetting) (h : List Entry) → HasValidMessages s → IsTellable s h → AllMayBeSaid s.messages h
all_said s [] are legal = tt
all_said s (Gave by shard places f line state m ∷ h) are legal = (all_said s h are (legal.0.0, legal.1.0), gave_said s h by shard places f line state m are legal)
all_said s (Came shard first count m ∷ h) are legal = (all_said s h are (legal.0.0, legal.1.0), tt)
all_said s (Began lane places closing m ∷ h) are legal = (all_said s h are (legal.0.0, legal.1.0), tt)
all_said s (Ended lane reply m ∷ h) are legal = (all_said s h are (legal.0.0, legal.1.0), tt)
all_said s (Tried lane places closing tries m ∷ h) are legal = (all_said s h are (legal.0.0, legal.1.0), tt)
all_said s (Closed lane window m ∷ h) are legal = (all_said s h are (legal.0.0, legal.1.0), tt)
all_said s (Replayed shard places m ∷ h) are legal = (all_said s h are (legal.0.0, legal.1.0), tt)
all_said s (Shut m ∷ h) are legal = (all_said s h are (legal.0.0, legal.1.0), tt)

-- what is read again

one_again : ReadAgain → (o : Option Said) (payloads : List (List ℕ)) → IfSome o IsSaid → filter_map said_of (cons_option (option_map payload_of o) payloads) ≡ cons_option o (filter_map said_of payloads)
one_again again None payloads may = refl
one_again again (Some said) payloads may = ap (λ (o : Option Said). cons_option o (filter_map said_of payloads)) (again said may)

saids_again : ReadAgain → (messages : List Message) (h : List Entry) → AllMayBeSaid messages h → filter_map said_of (filter_map (queue_payload messages) h) ≡ filter_map (queue_said messages) h
saids_again again messages [] may = refl
saids_again again messages (e ∷ h) may =
    one_again again (queue_said messages e) (filter_map (queue_payload messages) h) may.1
    ∙ ap (cons_option (queue_said messages e)) (saids_again again messages h may.0)

-- the payloads of the content, the newest first
pub content_turned : (s : QueueSetting) (h : List Entry) (old : List (List ℕ)) → reverse (content_after s h old) ≡ filter_map (queue_payload s.messages) h ++ reverse old
content_turned s h old =
    let payload = queue_payload s.messages in
    reverse-append old (filter_map payload (reverse h))
    ∙ ap (λ (ps : List (List ℕ)). ps ++ reverse old) (ap reverse (reversed payload h) ∙ reverse-reverse (filter_map payload h))

-- what the old payloads and those of a history say
pub history_said : ReadAgain → (s : QueueSetting) (h : List Entry) (old : List (List ℕ)) → HasValidMessages s → IsTellable s h
    → history (reverse (content_after s h old)) ≡ filter_map (queue_said s.messages) h ++ history (reverse old)
history_said again s h old are legal =
    ap history (content_turned s h old)
    ∙ filter_map-append said_of (filter_map (queue_payload s.messages) h) (reverse old)
    ∙ ap (λ (g : List Said). g ++ history (reverse old)) (saids_again again s.messages h (all_said s h are legal))
