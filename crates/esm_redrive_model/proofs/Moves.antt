-- Moves of a legal history of a redrive: receives, lines and ids.
use Rattle.std.proofs.Common.{◌≡◌, ℕ, zero, suc, ◌<◌, Bool, true, false, not, cond, ◌&&◌, ◌||◌, List, [], ◌∷◌, ◌++◌, length, map, refl, sym, ap, ap₂, ◌∙◌, subst, ◌⊎◌, inl, inr, arith, Option, Some, None}
use Rattle.std.specs.Prelude.{◌==◌, filter_map, slice_get, reverse, option_map, unwrap_or, is_some}
use Rattle.std.specs.Option.{option_or}
use Rattle.std.specs.List.{cons_option}
use Rattle.std.specs.Str.{bytes_eq}
use Rattle.std.proofs.lemmas.List.{append-nil, map-append, reverse-append}
use Rattle.std.proofs.lemmas.List.Elements.{filter_map-append}
use Rattle.std.proofs.lemmas.List.Folds.{list_any-append}
use Rattle.std.proofs.lemmas.Bool.{cases_Bool, cases_lt, and_from, and_cases, both_ways, leb-true, le-leb, eq-eqb, false_from_ne_true, not_from_false}
use Rattle.std.proofs.lemmas.Option.{none-some, same_Some, slice_get-map}
use Rattle.esm_model.specs.declared.item.Message.{Message}
use Rattle.esm_model.specs.declared.lane.LaneId.{LaneId}
use Rattle.esm_model.specs.declared.entry.Fate.{Fate}
use Rattle.esm_model.specs.declared.entry.Fate.TheVariants.{Succeeded, Filtered, Expired, Exhausted}
use Rattle.esm_model.specs.declared.entry.WindowState.{WindowState}
use Rattle.esm_model.specs.declared.entry.Entry.{Entry}
use Rattle.esm_model.specs.declared.entry.Entry.TheVariants.{Came, Began, Ended, Gave, Tried, Closed, Replayed, Shut}
use Rattle.esm_model.specs.declared.setup.FoundDeletion.{FoundDeletion}
use Rattle.esm_model.specs.Entries.{holds}
use Rattle.esm_model.specs.Books.{entry_line, lines_of}
use Rattle.esm_model.specs.Fates.{below, given}
use Rattle.esm_queue_model.specs.QueueSetting.{QueueSetting, message_at, found_deletion}
use Rattle.esm_queue_model.specs.QueueEntries.{queue_count, is_deleted}
use Rattle.esm_queue_model.specs.QueueBatch.{queue_fits, eligible_after}
use Rattle.esm_queue_model.proofs.Places.{In, In-here, In-there, In-none, In-filter, filter-In, In-take, In-append_cases, below-In}
use Rattle.esm_queue_model.proofs.Groups.{bytes_eq-true}
use Rattle.esm_queue_model.proofs.QueueHistories.{longest_front}
use Rattle.esm_queue_model.proofs.MoreMessages.{count_grows}
use Rattle.esm_redrive_model.specs.RedriveSetting.{RedriveSetting, stands_among, has_dead_id}
use Rattle.esm_redrive_model.specs.DeadLetter.{dead_letter}
use Rattle.esm_redrive_model.specs.Due.{receives, is_at_limit, is_known, lined_places, moved_places, moved_messages, moved_ids}
use Rattle.esm_redrive_model.specs.RedriveStep.{MayGiveRedrive, RedriveMayFollow, LegalRedrive}
use Rattle.esm_redrive_model.specs.RedriveLaws.{EachOnce, HaveDifferentIds, MovedOnce, MovedAfterReceives, ReceivedAtMost}
use Rattle.esm_redrive_model.proofs.Built.{Built, eligible_came}
use Rattle.esm_redrive_model.proofs.Named.{follows_at, eligible_waits, moved_due, moved_eligible, moved_place, built_of}
use Rattle.esm_redrive_model.proofs.Ends.{deleted_is}

-- receives

pub moved_after_receives_in : (s : RedriveSetting) (h : List Entry) → LegalRedrive s h → MovedAfterReceives s h
moved_after_receives_in s h legal later before lane shard places line state m split i member =
    let may = follows_at s later before (Gave (Some lane) shard places Exhausted line state m) (subst (LegalRedrive s) split legal) in
    let place : may.place ≡ i = moved_place s before lane shard places line state m i may member in
    let passes : is_at_limit s before i ≡ true = ap (is_at_limit s before) (sym place) ∙ (In-filter (is_at_limit s before) (eligible_after s.queue before m) may.place (moved_due s before lane shard places line state m may)).1 in
    leb-true s.max_receives (receives before i) passes

-- a call receives messages that may be received once more
pub once_more : (s : RedriveSetting) (h : List Entry) (lane : LaneId) (places : List ℕ) (m i : ℕ) → RedriveMayFollow s h (Began lane places None m) → In places i → receives h i < s.max_receives
once_more s h lane places m i may member =
    let all = eligible_after s.queue h m in
    let front = longest_front (queue_fits s.queue h m) [] all in
    let here : In all i = In-take front.0 all i (subst (λ ps. In ps i) (may.exact ∙ front.1) member) in
    elim (cases_lt (receives h i) s.max_receives) [
      | inl low ↦ low
      | inr high ↦ absurd (In-none i (subst (λ ps. In ps i) may.none_due (filter-In (is_at_limit s h) all i here (le-leb s.max_receives (receives h i) high))))
    ]

pub received_at_most_in : (s : RedriveSetting) (h : List Entry) → LegalRedrive s h → ReceivedAtMost s h
received_at_most_in s [] legal i = omega arith
received_at_most_in s (Began lane places None m ∷ h) legal i =
    elim (cases_Bool (holds places i)) [
      | inl is ↦ (let low : receives h i < s.max_receives = once_more s h lane places m i legal.1.1 is in rw is (omega arith))
      | inr other ↦ rw other (received_at_most_in s h legal.0 i)
    ]
received_at_most_in s (Began lane places (Some window) m ∷ h) legal i = absurd legal.1.1
received_at_most_in s (Came shard first count m ∷ h) legal i = received_at_most_in s h legal.0 i
received_at_most_in s (Ended lane reply m ∷ h) legal i = received_at_most_in s h legal.0 i
received_at_most_in s (Gave by shard places f line state m ∷ h) legal i = received_at_most_in s h legal.0 i
received_at_most_in s (Tried lane places closing tries m ∷ h) legal i = received_at_most_in s h legal.0 i
received_at_most_in s (Closed lane window m ∷ h) legal i = received_at_most_in s h legal.0 i
received_at_most_in s (Replayed shard places m ∷ h) legal i = received_at_most_in s h legal.0 i
received_at_most_in s (Shut m ∷ h) legal i = received_at_most_in s h legal.0 i

-- an entry has a line exactly where it moves a message

-- what an entry adds: nothing, or one message, which waits, is not known, and has this line
data AddsLine (s : RedriveSetting) (h : List Entry) (e : Entry) : Type 0 where
  none : entry_line e ≡ None → lined_places e ≡ [] → AddsLine s h e
  one : (i : ℕ) (message : Message) → entry_line e ≡ Some (dead_letter message) → lined_places e ≡ i ∷ [] → message_at s.queue i ≡ Some message
      → i < queue_count h → is_deleted s.queue h i ≡ false → is_known s h i ≡ false → AddsLine s h e

no_line : (line : Option (List ℕ)) (by : Option LaneId) (shard : ℕ) (places : List ℕ) (f : Fate) (state : Option WindowState) (m : ℕ) → line ≡ None → lined_places (Gave by shard places f line state m) ≡ []
no_line None by shard places f state m is = refl
no_line (Some line) by shard places f state m is = cc

pub with_line : (line : Option (List ℕ)) (text : List ℕ) (by : Option LaneId) (shard : ℕ) (places : List ℕ) (f : Fate) (state : Option WindowState) (m : ℕ) → line ≡ Some text → lined_places (Gave by shard places f line state m) ≡ places
with_line None text by shard places f state m is = absurd (none-some text is)
with_line (Some line) text by shard places f state m is = refl

give_line : (s : RedriveSetting) (h : List Entry) (by : Option LaneId) (shard : ℕ) (places : List ℕ) (f : Fate) (line : Option (List ℕ)) (state : Option WindowState) (m : ℕ) → Built s.queue h → MayGiveRedrive s h by shard places f line state m → AddsLine s h (Gave by shard places f line state m)
give_line s h None shard places Exhausted line state m built may = none may.no_line (no_line line None shard places Exhausted state m may.no_line)
give_line s h None shard places Filtered line state m built may = none may.filters.no_line (no_line line None shard places Filtered state m may.filters.no_line)
give_line s h (Some lane) shard places Succeeded line state m built may = none may.deletes.no_line (no_line line (Some lane) shard places Succeeded state m may.deletes.no_line)
give_line s h (Some lane) shard places Exhausted line state m built may =
    let here = moved_eligible s h lane shard places line state m may in
    let came : may.place < queue_count h = eligible_came s.queue h m may.place built here in
    one may.place may.message may.line_is (with_line line (dead_letter may.message) (Some lane) shard places Exhausted state m may.line_is ∙ may.exact) may.is_there came (eligible_waits s.queue h m may.place here)
    (false_from_ne_true (is_known s h may.place) (λ knows. In-none may.place (subst (λ ps. In ps may.place) may.settled.recorded (filter-In (is_known s h) (below (queue_count h)) may.place (below-In (queue_count h) may.place came) knows))))
give_line s h None shard places Succeeded line state m built may = absurd may
give_line s h None shard places Expired line state m built may = absurd may
give_line s h (Some lane) shard places Filtered line state m built may = absurd may
give_line s h (Some lane) shard places Expired line state m built may = absurd may

adds_line : (s : RedriveSetting) (h : List Entry) (e : Entry) → LegalRedrive s (e ∷ h) → AddsLine s h e
adds_line s h (Gave by shard places f line state m) legal = give_line s h by shard places f line state m (built_of s h legal.0) legal.1.1
adds_line s h (Came shard first count m) legal = none refl refl
adds_line s h (Began lane places closing m) legal = none refl refl
adds_line s h (Ended lane reply m) legal = none refl refl
adds_line s h (Tried lane places closing tries m) legal = none refl refl
adds_line s h (Closed lane window m) legal = none refl refl
adds_line s h (Replayed shard places m) legal = none refl refl
adds_line s h (Shut m) legal = none refl refl

-- lines

lines_more : (h : List Entry) (e : Entry) → lines_of (e ∷ h) ≡ lines_of h ++ filter_map entry_line (e ∷ [])
lines_more h e = ap (filter_map entry_line) (reverse-append (e ∷ []) h) ∙ filter_map-append entry_line (reverse h) (e ∷ [])

abbrev pub lined_messages : RedriveSetting → Entry → List Message
lined_messages s e = filter_map (message_at s.queue) (lined_places e)

only_message : (s : RedriveSetting) (e : Entry) (i : ℕ) (message : Message) → lined_places e ≡ i ∷ [] → message_at s.queue i ≡ Some message → lined_messages s e ≡ message ∷ []
only_message s e i message places at = ap (filter_map (message_at s.queue)) places ∙ ap (λ (o : Option Message). cons_option o []) at

added_line : (s : RedriveSetting) (h : List Entry) (e : Entry) → AddsLine s h e → filter_map entry_line (e ∷ []) ≡ map dead_letter (lined_messages s e)
added_line s h e (none line places) = ap (λ (o : Option (List ℕ)). cons_option o []) line ∙ sym (ap (λ (ps : List ℕ). map dead_letter (filter_map (message_at s.queue) ps)) places)
added_line s h e (one i message line places at came waits unknown) = ap (λ (o : Option (List ℕ)). cons_option o []) line ∙ sym (ap (map dead_letter) (only_message s e i message places at))

messages_more : (s : RedriveSetting) (h : List Entry) (e : Entry) → moved_messages s (e ∷ h) ≡ moved_messages s h ++ lined_messages s e
messages_more s h e = filter_map-append (message_at s.queue) (moved_places h) (lined_places e)

lines_are : (s : RedriveSetting) (h : List Entry) → LegalRedrive s h → lines_of h ≡ map dead_letter (moved_messages s h)
lines_are s [] legal = refl
lines_are s (e ∷ h) legal =
    lines_more h e
    ∙ (ap₂ (λ (xs ys : List (List ℕ)). xs ++ ys) (lines_are s h legal.0) (added_line s h e (adds_line s h e legal))
    ∙ (sym (map-append dead_letter (moved_messages s h) (lined_messages s e))
    ∙ ap (map dead_letter) (sym (messages_more s h e))))

-- ids

abbrev pub id_of : Message → List ℕ
id_of m = m.id

pub ids_more : (s : RedriveSetting) (h : List Entry) (e : Entry) → moved_ids s (e ∷ h) ≡ moved_ids s h ++ map id_of (lined_messages s e)
ids_more s h e = ap (map id_of) (messages_more s h e) ∙ map-append id_of (moved_messages s h) (lined_messages s e)

no_more : (s : RedriveSetting) (h : List Entry) (e : Entry) → lined_places e ≡ [] → moved_ids s (e ∷ h) ≡ moved_ids s h
no_more s h e places =
    ids_more s h e
    ∙ (ap (λ (ps : List ℕ). moved_ids s h ++ map id_of (filter_map (message_at s.queue) ps)) places
    ∙ append-nil (moved_ids s h))

pub one_more : (s : RedriveSetting) (h : List Entry) (e : Entry) (i : ℕ) (message : Message) → lined_places e ≡ i ∷ [] → message_at s.queue i ≡ Some message → moved_ids s (e ∷ h) ≡ moved_ids s h ++ message.id ∷ []
one_more s h e i message places at = ids_more s h e ∙ ap (λ (ms : List Message). moved_ids s h ++ map id_of ms) (only_message s e i message places at)

-- the message of an id of a list of places
pub record HasId (s : QueueSetting) (places : List ℕ) (id : List ℕ) : Type 0 where
  pub place : ℕ
  pub message : Message
  pub member : In places place
  pub is_there : message_at s place ≡ Some message
  pub id_is : message.id ≡ id

later_place : (s : QueueSetting) (p : ℕ) (places : List ℕ) (id : List ℕ) → HasId s places id → HasId s (p ∷ places) id
later_place s p places id found = record { place = found.place; message = found.message; member = In-there p places found.place found.member; is_there = found.is_there; id_is = found.id_is }

first_place : (s : QueueSetting) (p : ℕ) (places : List ℕ) (o : Option Message) → message_at s p ≡ o
    → ((k : ℕ) (id : List ℕ) → slice_get (map id_of (filter_map (message_at s) places)) k ≡ Some id → HasId s places id)
    → (k : ℕ) (id : List ℕ) → slice_get (map id_of (cons_option o (filter_map (message_at s) places))) k ≡ Some id → HasId s (p ∷ places) id
first_place s p places None is rest k id at = later_place s p places id (rest k id at)
first_place s p places (Some message) is rest zero id at = record { place = p; message = message; member = In-here p places p refl; is_there = is; id_is = same_Some message.id id at }
first_place s p places (Some message) is rest (suc k) id at = later_place s p places id (rest k id at)

pub place_of : (s : QueueSetting) (places : List ℕ) (k : ℕ) (id : List ℕ) → slice_get (map id_of (filter_map (message_at s) places)) k ≡ Some id → HasId s places id
place_of s [] k id at = absurd (none-some id at)
place_of s (p ∷ places) k id at = first_place s p places (message_at s p) refl (place_of s places) k id at

-- messages that were moved have a fate

kept_fate : (g : Option Fate) (b : Bool) (f : Fate) → is_some g ≡ true → is_some (option_or g (cond b (Some f) None)) ≡ true
kept_fate (Some x) b f some = refl
kept_fate None b f some = absurd (both_ways false refl some)

new_fate : (g : Option Fate) (b : Bool) (f : Fate) → b ≡ true → is_some (option_or g (cond b (Some f) None)) ≡ true
new_fate (Some x) b f is = refl
new_fate None true f is = refl
new_fate None false f is = absurd (both_ways false refl is)

given_stays : (h : List Entry) (e : Entry) (i : ℕ) → is_some (given h 0 i) ≡ true → is_some (given (e ∷ h) 0 i) ≡ true
given_stays h (Gave by shard places f line state m) i some = kept_fate (given h 0 i) ((shard == 0) && holds places i) f some
given_stays h (Came shard first count m) i some = some
given_stays h (Began lane places closing m) i some = some
given_stays h (Ended lane reply m) i some = some
given_stays h (Tried lane places closing tries m) i some = some
given_stays h (Closed lane window m) i some = some
given_stays h (Replayed shard places m) i some = some
given_stays h (Shut m) i some = some

record IsFated (h : List Entry) (i : ℕ) : Type 0 where
  came : i < queue_count h
  fated : is_some (given h 0 i) ≡ true

stays_fated : (h : List Entry) (e : Entry) (i : ℕ) → IsFated h i → IsFated (e ∷ h) i
stays_fated h e i was = let came = was.came in let grows = count_grows h e in record { came = omega (arith, came, grows); fated = given_stays h e i was.fated }

lined_fated : (s : QueueSetting) (h : List Entry) (e : Entry) (i : ℕ) → Built s (e ∷ h) → In (lined_places e) i → IsFated (e ∷ h) i
lined_fated s h (Gave by shard places f (Some line) state m) i built member = record {
  came = built.1.came i member;
  fated = new_fate (given h 0 i) ((shard == 0) && holds places i) f (and_from (shard == 0) (holds places i) (eq-eqb shard 0 built.1.queue) member);
}
lined_fated s h (Gave by shard places f None state m) i built member = absurd (In-none i member)
lined_fated s h (Came shard first count m) i built member = absurd (In-none i member)
lined_fated s h (Began lane places closing m) i built member = absurd (In-none i member)
lined_fated s h (Ended lane reply m) i built member = absurd (In-none i member)
lined_fated s h (Tried lane places closing tries m) i built member = absurd (In-none i member)
lined_fated s h (Closed lane window m) i built member = absurd (In-none i member)
lined_fated s h (Replayed shard places m) i built member = absurd (In-none i member)
lined_fated s h (Shut m) i built member = absurd (In-none i member)

moved_fated : (s : QueueSetting) (h : List Entry) → Built s h → (i : ℕ) → In (moved_places h) i → IsFated h i
moved_fated s [] built i member = absurd (In-none i member)
moved_fated s (e ∷ h) built i member =
    elim (In-append_cases (moved_places h) (lined_places e) i member) [
      | inl before ↦ stays_fated h e i (moved_fated s h built.0 i before)
      | inr now ↦ lined_fated s h e i built now
    ]

found_or : (a : Option FoundDeletion) (g : Option Fate) → is_some g ≡ true → is_some (option_or (option_map (λ (f : FoundDeletion). f.fate) a) g) ≡ true
found_or None g some = some
found_or (Some x) g some = refl

moved_deleted : (s : QueueSetting) (h : List Entry) → Built s h → (i : ℕ) → In (moved_places h) i → is_deleted s h i ≡ true
moved_deleted s h built i member =
    let fated = moved_fated s h built i member in
    deleted_is s h built i fated.came ∙ found_or (found_deletion s i) (given h 0 i) fated.fated

-- each id once

put_last : (ids : List (List ℕ)) (x : List ℕ) (i : ℕ) (id : List ℕ) → slice_get (ids ++ x ∷ []) i ≡ Some id → (slice_get ids i ≡ Some id) ⊎ ((i ≡ length ids) × (x ≡ id))
put_last [] x zero id at = inr (refl, same_Some x id at)
put_last [] x (suc i) id at = absurd (none-some id at)
put_last (y ∷ ids) x zero id at = inl at
put_last (y ∷ ids) x (suc i) id at = elim (put_last ids x i id at) [ inl before ↦ inl before | inr last ↦ inr (ap suc last.0, last.1) ]

once_more_id : (ids : List (List ℕ)) (x : List ℕ) → EachOnce ids → ((k : ℕ) → slice_get ids k ≡ Some x → ⊥) → EachOnce (ids ++ x ∷ [])
once_more_id ids x each fresh i j id at_i at_j =
    elim (put_last ids x i id at_i) [
      | inl a ↦ elim (put_last ids x j id at_j) [
        | inl b ↦ each i j id a b
        | inr b ↦ absurd (fresh i (a ∙ ap Some (sym b.1)))
      ]
      | inr a ↦ elim (put_last ids x j id at_j) [
        | inl b ↦ absurd (fresh j (b ∙ ap Some (sym a.1)))
        | inr b ↦ a.0 ∙ sym b.0
      ]
    ]

pub id_there : (messages : List Message) (i : ℕ) (m : Message) (id : List ℕ) → slice_get messages i ≡ Some m → m.id ≡ id → slice_get (map id_of messages) i ≡ Some id
id_there messages i m id at is = slice_get-map id_of messages i ∙ (ap (option_map id_of) at ∙ ap Some is)

-- the id of a message that waits is not among those that were moved
not_moved : (s : RedriveSetting) (h : List Entry) (i : ℕ) (message : Message) → HaveDifferentIds s.queue.messages → Built s.queue h → message_at s.queue i ≡ Some message → is_deleted s.queue h i ≡ false → (k : ℕ) → slice_get (moved_ids s h) k ≡ Some message.id → ⊥
not_moved s h i message different built at waits k there =
    let other = place_of s.queue (moved_places h) k message.id there in
    let same : other.place ≡ i = different other.place i message.id (id_there s.queue.messages other.place other.message message.id other.is_there other.id_is) (id_there s.queue.messages i message message.id at refl) in
    both_ways (is_deleted s.queue h i) waits (ap (is_deleted s.queue h) (sym same) ∙ moved_deleted s.queue h built other.place other.member)

add_once : (s : RedriveSetting) (h : List Entry) (e : Entry) → HaveDifferentIds s.queue.messages → Built s.queue h → AddsLine s h e → EachOnce (moved_ids s h) → EachOnce (moved_ids s (e ∷ h))
add_once s h e different built (none line places) each = subst EachOnce (sym (no_more s h e places)) each
add_once s h e different built (one i message line places at came waits unknown) each =
    subst EachOnce (sym (one_more s h e i message places at)) (once_more_id (moved_ids s h) message.id each (not_moved s h i message different built at waits))

once_in : (s : RedriveSetting) (h : List Entry) → HaveDifferentIds s.queue.messages → LegalRedrive s h → EachOnce (moved_ids s h)
once_in s [] different legal = λ i j id at_i at_j. absurd (none-some id at_i)
once_in s (e ∷ h) different legal = add_once s h e different (built_of s h legal.0) (adds_line s h e legal) (once_in s h different legal.0)

-- no id that was found

unknown_id : (s : RedriveSetting) (h : List Entry) (i : ℕ) (message : Message) → message_at s.queue i ≡ Some message → is_deleted s.queue h i ≡ false → is_known s h i ≡ false → has_dead_id s message ≡ false
unknown_id s h i message at waits unknown =
    elim (and_cases (not (is_deleted s.queue h i)) (unwrap_or (option_map (has_dead_id s) (message_at s.queue i)) false) unknown) [
      | inl deleted ↦ absurd (both_ways (not (is_deleted s.queue h i)) deleted (not_from_false (is_deleted s.queue h i) waits))
      | inr other ↦ sym (ap (λ (o : Option Message). unwrap_or (option_map (has_dead_id s) o) false) at) ∙ other
    ]

one_or_none : (a b : Bool) → (a || (b || false)) ≡ true → (a ≡ true) ⊎ (b ≡ true)
one_or_none true b is = inl refl
one_or_none false true is = inr refl
one_or_none false false is = absurd (both_ways false refl is)

add_fresh : (s : RedriveSetting) (h : List Entry) (e : Entry) (id : List ℕ) → AddsLine s h e → (stands_among (moved_ids s h) id ≡ true → stands_among s.dead_ids id ≡ false) → stands_among (moved_ids s (e ∷ h)) id ≡ true → stands_among s.dead_ids id ≡ false
add_fresh s h e id (none line places) before stands = before (ap (λ (ids : List (List ℕ)). stands_among ids id) (sym (no_more s h e places)) ∙ stands)
add_fresh s h e id (one i message line places at came waits unknown) before stands =
    let parted = sym (list_any-append (bytes_eq id) (moved_ids s h) (message.id ∷ [])) ∙ (ap (λ (ids : List (List ℕ)). stands_among ids id) (sym (one_more s h e i message places at)) ∙ stands) in
    elim (one_or_none (stands_among (moved_ids s h) id) (bytes_eq id message.id) parted) [
      | inl was ↦ before was
      | inr same ↦ ap (stands_among s.dead_ids) (bytes_eq-true id message.id same) ∙ unknown_id s h i message at waits unknown
    ]

fresh_in : (s : RedriveSetting) (h : List Entry) → LegalRedrive s h → (id : List ℕ) → stands_among (moved_ids s h) id ≡ true → stands_among s.dead_ids id ≡ false
fresh_in s [] legal id stands = absurd (both_ways false refl stands)
fresh_in s (e ∷ h) legal id stands = add_fresh s h e id (adds_line s h e legal) (fresh_in s h legal.0 id) stands

pub moved_once_in : (s : RedriveSetting) (h : List Entry) → LegalRedrive s h → MovedOnce s h
moved_once_in s h legal = record {
  lines = lines_are s h legal;
  once = λ different. once_in s h different legal;
  fresh = fresh_in s h legal;
}
