-- Which messages of a legal history of a redrive are moved, by the lines of the dead-letter file.
use Rattle.std.proofs.Common.{◌≡◌, ℕ, ◌<◌, ◌≤◌, Bool, true, false, not, cond, ◌&&◌, ◌||◌, List, [], ◌∷◌, ◌++◌, map, refl, sym, ap, ◌∙◌, subst, ◌⊎◌, inl, inr, arith, Option, Some, None}
use Rattle.std.specs.Prelude.{◌==◌, option_map, unwrap_or, is_some}
use Rattle.std.specs.Option.{option_or}
use Rattle.std.specs.Str.{bytes_eq}
use Rattle.std.proofs.lemmas.List.Folds.{list_any-append}
use Rattle.std.proofs.lemmas.Bool.{cases_Bool, cases_lt, and_from, and_parts, both_ways, eq-eqb, not_from_false}
use Rattle.std.proofs.lemmas.Option.{none-some, same_Some}
use Rattle.esm_model.specs.declared.item.Message.{Message}
use Rattle.esm_model.specs.declared.lane.LaneId.{LaneId}
use Rattle.esm_model.specs.declared.entry.Fate.{Fate}
use Rattle.esm_model.specs.declared.entry.Fate.TheVariants.{Succeeded, Filtered, Expired, Exhausted}
use Rattle.esm_model.specs.declared.entry.WindowState.{WindowState}
use Rattle.esm_model.specs.declared.entry.Entry.{Entry}
use Rattle.esm_model.specs.declared.entry.Entry.TheVariants.{Came, Began, Ended, Gave, Tried, Closed, Replayed, Shut}
use Rattle.esm_model.specs.declared.setup.FoundDeletion.{FoundDeletion}
use Rattle.esm_model.specs.Lane.{same_lane}
use Rattle.esm_model.specs.Entries.{holds, last_call, batch_of}
use Rattle.esm_model.specs.Fates.{below, given}
use Rattle.esm_model.specs.QueueReading.{queue_reading}
use Rattle.esm_queue_model.specs.QueueSetting.{QueueSetting, message_at, ids_at, found_deletion}
use Rattle.esm_queue_model.specs.QueueEntries.{queue_lane, queue_count, is_deleted}
use Rattle.esm_queue_model.specs.QueueBatch.{queue_fits, eligible_after}
use Rattle.esm_queue_model.specs.QueueStep.{succeeded_places}
use Rattle.esm_queue_model.proofs.Places.{In, In-none, In-filter, filter-In, In-take, In-append_cases, below-In}
use Rattle.esm_queue_model.proofs.Groups.{bytes_eq-refl}
use Rattle.esm_queue_model.proofs.QueueHistories.{longest_front}
use Rattle.esm_redrive_model.specs.RedriveSetting.{RedriveSetting, stands_among, has_dead_id}
use Rattle.esm_redrive_model.specs.Due.{receives, is_known, known, lined_places, moved_places, moved_ids}
use Rattle.esm_redrive_model.specs.RedriveStep.{MayGiveRedrive, LegalRedrive}
use Rattle.esm_redrive_model.specs.RedriveLines.{is_lined, LinedAfterReceives, LeavesMovesLined}
use Rattle.esm_redrive_model.proofs.Built.{Built, NamesWaiting, number_came, eligible_came, succeeded_In}
use Rattle.esm_redrive_model.proofs.Named.{eligible_waits, moved_place, built_of}
use Rattle.esm_redrive_model.proofs.Ends.{deleted_is, given_these}
use Rattle.esm_redrive_model.proofs.Moves.{moved_after_receives_in, received_at_most_in, with_line, lined_messages, ids_more, one_more}

-- receives of messages that have a line

received_stays : (h : List Entry) (e : Entry) (i n : ℕ) → n ≤ receives h i → n ≤ receives (e ∷ h) i
received_stays h (Began lane places closing m) i n low = elim (cases_Bool (holds places i)) [ inl is ↦ rw is (omega (arith, low)) | inr other ↦ rw other low ]
received_stays h (Came shard first count m) i n low = low
received_stays h (Ended lane reply m) i n low = low
received_stays h (Gave by shard places f line state m) i n low = low
received_stays h (Tried lane places closing tries m) i n low = low
received_stays h (Closed lane window m) i n low = low
received_stays h (Replayed shard places m) i n low = low
received_stays h (Shut m) i n low = low

-- only a move has a line
line_moves : (s : RedriveSetting) (h : List Entry) (by : Option LaneId) (shard : ℕ) (places : List ℕ) (f : Fate) (line : List ℕ) (state : Option WindowState) (m : ℕ)
    → MayGiveRedrive s h by shard places f (Some line) state m → (lane : LaneId) × (by ≡ Some lane) × (f ≡ Exhausted)
line_moves s h (Some lane) shard places Exhausted line state m may = (lane, refl, refl)
line_moves s h None shard places Exhausted line state m may = absurd (none-some line (sym may.no_line))
line_moves s h None shard places Filtered line state m may = absurd (none-some line (sym may.filters.no_line))
line_moves s h (Some lane) shard places Succeeded line state m may = absurd (none-some line (sym may.deletes.no_line))
line_moves s h None shard places Succeeded line state m may = absurd may
line_moves s h None shard places Expired line state m may = absurd may
line_moves s h (Some lane) shard places Filtered line state m may = absurd may
line_moves s h (Some lane) shard places Expired line state m may = absurd may

give_limit : (s : RedriveSetting) (h : List Entry) (by : Option LaneId) (shard : ℕ) (places : List ℕ) (f : Fate) (line : List ℕ) (state : Option WindowState) (m i : ℕ) (lane : LaneId)
    → by ≡ Some lane → f ≡ Exhausted → LegalRedrive s (Gave by shard places f (Some line) state m ∷ h) → In places i → s.max_receives ≤ receives h i
give_limit s h by shard places f line state m i lane own is legal member =
    let e = Gave by shard places f (Some line) state m in
    moved_after_receives_in s (e ∷ h) legal [] h lane shard places (Some line) state m (ap (λ (o : Option LaneId). Gave o shard places f (Some line) state m ∷ h) own ∙ ap (λ (x : Fate). Gave (Some lane) shard places x (Some line) state m ∷ h) is) i member

lined_limit : (s : RedriveSetting) (h : List Entry) (e : Entry) (i : ℕ) → LegalRedrive s (e ∷ h) → In (lined_places e) i → s.max_receives ≤ receives h i
lined_limit s h (Gave by shard places f (Some line) state m) i legal member =
    let moves = line_moves s h by shard places f line state m legal.1.1 in
    give_limit s h by shard places f line state m i moves.0 moves.1 moves.2 legal member
lined_limit s h (Gave by shard places f None state m) i legal member = absurd (In-none i member)
lined_limit s h (Came shard first count m) i legal member = absurd (In-none i member)
lined_limit s h (Began lane places closing m) i legal member = absurd (In-none i member)
lined_limit s h (Ended lane reply m) i legal member = absurd (In-none i member)
lined_limit s h (Tried lane places closing tries m) i legal member = absurd (In-none i member)
lined_limit s h (Closed lane window m) i legal member = absurd (In-none i member)
lined_limit s h (Replayed shard places m) i legal member = absurd (In-none i member)
lined_limit s h (Shut m) i legal member = absurd (In-none i member)

lined_low : (s : RedriveSetting) (h : List Entry) → LegalRedrive s h → (i : ℕ) → In (moved_places h) i → s.max_receives ≤ receives h i
lined_low s [] legal i member = absurd (In-none i member)
lined_low s (e ∷ h) legal i member =
    elim (In-append_cases (moved_places h) (lined_places e) i member) [
      | inl before ↦ received_stays h e i s.max_receives (lined_low s h legal.0 i before)
      | inr now ↦ received_stays h e i s.max_receives (lined_limit s h e i legal now)
    ]

pub lined_after_receives_in : (s : RedriveSetting) (h : List Entry) → LegalRedrive s h → LinedAfterReceives s h
lined_after_receives_in s h legal i member =
    let low = lined_low s h legal i member in
    let high = received_at_most_in s h legal i in
    omega (arith, low, high)

-- lines stay

in_either : (a b c : Bool) → (a || b) ≡ true → (a || (b || c)) ≡ true
in_either true b c is = refl
in_either false true c is = refl
in_either false false c is = absurd (both_ways false refl is)

lined_stays : (s : RedriveSetting) (h : List Entry) (e : Entry) (id : List ℕ) → is_lined s h id ≡ true → is_lined s (e ∷ h) id ≡ true
lined_stays s h e id is =
    let new = map (λ (m : Message). m.id) (lined_messages s e) in
    let was : (stands_among s.dead_ids id || stands_among (moved_ids s h) id) ≡ true = sym (list_any-append (bytes_eq id) s.dead_ids (moved_ids s h)) ∙ is in
    list_any-append (bytes_eq id) s.dead_ids (moved_ids s (e ∷ h))
    ∙ (ap (λ (ids : List (List ℕ)). stands_among s.dead_ids id || stands_among ids id) (ids_more s h e)
    ∙ (ap (λ (b : Bool). stands_among s.dead_ids id || b) (list_any-append (bytes_eq id) (moved_ids s h) new)
    ∙ in_either (stands_among s.dead_ids id) (stands_among (moved_ids s h) id) (stands_among new id) was))

or_right : (a : Bool) → (a || true) ≡ true
or_right true = refl
or_right false = refl

stands_last : (ids : List (List ℕ)) (id : List ℕ) → stands_among (ids ++ id ∷ []) id ≡ true
stands_last ids id =
    list_any-append (bytes_eq id) ids (id ∷ [])
    ∙ (ap (λ (b : Bool). stands_among ids id || (b || false)) (bytes_eq-refl id) ∙ or_right (stands_among ids id))

pub found_lined : (s : RedriveSetting) (h : List Entry) (id : List ℕ) → stands_among s.dead_ids id ≡ true → is_lined s h id ≡ true
found_lined s h id is = list_any-append (bytes_eq id) s.dead_ids (moved_ids s h) ∙ ap (λ (b : Bool). b || stands_among (moved_ids s h) id) is

added_lined : (s : RedriveSetting) (h : List Entry) (id : List ℕ) → stands_among (moved_ids s h) id ≡ true → is_lined s h id ≡ true
added_lined s h id is = list_any-append (bytes_eq id) s.dead_ids (moved_ids s h) ∙ (ap (λ (b : Bool). stands_among s.dead_ids id || b) is ∙ or_right (stands_among s.dead_ids id))

-- the reason that a history gives

given_by : (g : Option Fate) (b : Bool) (f e : Fate) → option_or g (cond b (Some f) None) ≡ Some e → (g ≡ Some e) ⊎ ((b ≡ true) × (f ≡ e))
given_by (Some x) b f e is = inl is
given_by None true f e is = inr (refl, same_Some f e is)
given_by None false f e is = absurd (none-some e is)

-- a message that a history records or moves has its line
give_lined : (s : RedriveSetting) (h : List Entry) (by : Option LaneId) (shard : ℕ) (places : List ℕ) (line : Option (List ℕ)) (state : Option WindowState) (m i : ℕ) (message : Message)
    → MayGiveRedrive s h by shard places Exhausted line state m → In places i → message_at s.queue i ≡ Some message → is_lined s (Gave by shard places Exhausted line state m ∷ h) message.id ≡ true
give_lined s h None shard places line state m i message may member at =
    let knows = (In-filter (is_known s h) (below (queue_count h)) i (subst (λ (ps : List ℕ). In ps i) may.exact member)).1 in
    let has = (and_parts _ _ knows).1 in
    found_lined s (Gave None shard places Exhausted line state m ∷ h) message.id (sym (ap (λ (o : Option Message). unwrap_or (option_map (has_dead_id s) o) false) at) ∙ has)
give_lined s h (Some lane) shard places line state m i message may member at =
    let e = Gave (Some lane) shard places Exhausted line state m in
    let place : may.place ≡ i = moved_place s h lane shard places line state m i may member in
    let same : may.message ≡ message = same_Some may.message message (sym may.is_there ∙ (ap (message_at s.queue) place ∙ at)) in
    let added : moved_ids s (e ∷ h) ≡ moved_ids s h ++ may.message.id ∷ [] = one_more s h e may.place may.message (with_line line _ (Some lane) shard places Exhausted state m may.line_is ∙ may.exact) may.is_there in
    added_lined s (e ∷ h) message.id (ap (λ (ids : List (List ℕ)). stands_among ids message.id) added
    ∙ (ap (λ (x : Message). stands_among (moved_ids s h ++ x.id ∷ []) message.id) same ∙ stands_last (moved_ids s h) message.id))

pub given_lined : (s : RedriveSetting) (h : List Entry) → LegalRedrive s h → (i : ℕ) (message : Message) → given h 0 i ≡ Some Exhausted → message_at s.queue i ≡ Some message → is_lined s h message.id ≡ true
given_lined s [] legal i message is at = absurd (none-some Exhausted is)
given_lined s (Gave by shard places f line state m ∷ h) legal i message is at =
    elim (given_by (given h 0 i) ((shard == 0) && holds places i) f Exhausted is) [
      | inl before ↦ lined_stays s h (Gave by shard places f line state m) message.id (given_lined s h legal.0 i message before at)
      | inr now ↦ subst (λ (x : Fate). is_lined s (Gave by shard places x line state m ∷ h) message.id ≡ true) (sym now.1)
          (give_lined s h by shard places line state m i message (subst (λ (x : Fate). MayGiveRedrive s h by shard places x line state m) now.1 legal.1.1) (and_parts _ _ now.0).1 at)
    ]
given_lined s (Came shard first count m ∷ h) legal i message is at = lined_stays s h (Came shard first count m) message.id (given_lined s h legal.0 i message is at)
given_lined s (Began lane places closing m ∷ h) legal i message is at = lined_stays s h (Began lane places closing m) message.id (given_lined s h legal.0 i message is at)
given_lined s (Ended lane reply m ∷ h) legal i message is at = lined_stays s h (Ended lane reply m) message.id (given_lined s h legal.0 i message is at)
given_lined s (Tried lane places closing tries m ∷ h) legal i message is at = lined_stays s h (Tried lane places closing tries m) message.id (given_lined s h legal.0 i message is at)
given_lined s (Closed lane window m ∷ h) legal i message is at = lined_stays s h (Closed lane window m) message.id (given_lined s h legal.0 i message is at)
given_lined s (Replayed shard places m ∷ h) legal i message is at = lined_stays s h (Replayed shard places m) message.id (given_lined s h legal.0 i message is at)
given_lined s (Shut m ∷ h) legal i message is at = lined_stays s h (Shut m) message.id (given_lined s h legal.0 i message is at)

pub leaves_moves_lined_in : (s : RedriveSetting) (h : List Entry) → LegalRedrive s h → LeavesMovesLined s h
leaves_moves_lined_in s h legal = record { reasons = given_these s h legal; lined = given_lined s h legal }

-- a message whose line was found

known_there : (s : RedriveSetting) (h : List Entry) (i : ℕ) (message : Message) → message_at s.queue i ≡ Some message → has_dead_id s message ≡ true → i < queue_count h → is_deleted s.queue h i ≡ false → In (known s h) i
known_there s h i message at has came waits =
    filter-In (is_known s h) (below (queue_count h)) i (below-In (queue_count h) i came)
    (and_from (not (is_deleted s.queue h i)) (unwrap_or (option_map (has_dead_id s) (message_at s.queue i)) false) (not_from_false (is_deleted s.queue h i) waits)
    (ap (λ (o : Option Message). unwrap_or (option_map (has_dead_id s) o) false) at ∙ has))

pub not_known : (s : RedriveSetting) (h : List Entry) (i : ℕ) (message : Message) → message_at s.queue i ≡ Some message → has_dead_id s message ≡ true → i < queue_count h → is_deleted s.queue h i ≡ false → known s h ≡ [] → ⊥
not_known s h i message at has came waits none = In-none i (subst (λ (ps : List ℕ). In ps i) none (known_there s h i message at has came waits))

module _ (s : RedriveSetting) (i : ℕ) (message : Message) (at : message_at s.queue i ≡ Some message) (has : has_dead_id s message ≡ true) where
  -- is in no call
  no_batch : (h : List Entry) (lane : LaneId) → LegalRedrive s h → In (batch_of (last_call h lane)) i → ⊥
  no_batch [] lane legal member = In-none i member
  no_batch (Began own places None m ∷ h) lane legal member =
      elim (cases_Bool (same_lane own lane)) [
        | inl same ↦
            (let may = legal.1.1 in
            let all = eligible_after s.queue h m in
            let front = longest_front (queue_fits s.queue h m) [] all in
            let called : In places i = rw same at member in
            let here : In all i = In-take front.0 all i (subst (λ (ps : List ℕ). In ps i) (may.exact ∙ front.1) called) in
            not_known s h i message at has (eligible_came s.queue h m i (built_of s h legal.0) here) (eligible_waits s.queue h m i here) may.settled.recorded)
        | inr other ↦ (let before : In (batch_of (last_call h lane)) i = rw other at member in no_batch h lane legal.0 before)
      ]
  no_batch (Began own places (Some window) m ∷ h) lane legal member = legal.1.1
  no_batch (Came shard first count m ∷ h) lane legal member = no_batch h lane legal.0 member
  no_batch (Ended own reply m ∷ h) lane legal member = no_batch h lane legal.0 member
  no_batch (Gave by shard places f line state m ∷ h) lane legal member = no_batch h lane legal.0 member
  no_batch (Tried own places closing tries m ∷ h) lane legal member = no_batch h lane legal.0 member
  no_batch (Closed own window m ∷ h) lane legal member = no_batch h lane legal.0 member
  no_batch (Replayed shard places m ∷ h) lane legal member = no_batch h lane legal.0 member
  no_batch (Shut m ∷ h) lane legal member = no_batch h lane legal.0 member

  -- and succeeds in none
  no_success : (h : List Entry) (lane : LaneId) → LegalRedrive s h → In (succeeded_places s.queue h lane) i → ⊥
  no_success [] lane legal member = In-none i member
  no_success (Ended own reply m ∷ h) lane legal member =
      elim (cases_Bool (same_lane own lane)) [
        | inl same ↦ (let places = batch_of (last_call h lane) in no_batch h lane legal.0 (succeeded_In (queue_reading s.queue.config (ids_at s.queue places) reply) places i (rw same at member)))
        | inr other ↦ no_success h lane legal.0 (rw other at member)
      ]
  no_success (Began own places closing m ∷ h) lane legal member =
      elim (cases_Bool (same_lane own lane)) [ inl same ↦ In-none i (rw same at member) | inr other ↦ no_success h lane legal.0 (rw other at member) ]
  no_success (Came shard first count m ∷ h) lane legal member = no_success h lane legal.0 member
  no_success (Gave by shard places f line state m ∷ h) lane legal member = no_success h lane legal.0 member
  no_success (Tried own places closing tries m ∷ h) lane legal member = no_success h lane legal.0 member
  no_success (Closed own window m ∷ h) lane legal member = no_success h lane legal.0 member
  no_success (Replayed shard places m ∷ h) lane legal member = no_success h lane legal.0 member
  no_success (Shut m ∷ h) lane legal member = no_success h lane legal.0 member

  -- so it is recorded as moved
  records : (h : List Entry) (by : Option LaneId) (shard : ℕ) (places : List ℕ) (f : Fate) (line : Option (List ℕ)) (state : Option WindowState) (m : ℕ)
      → LegalRedrive s h → NamesWaiting s.queue h shard places → MayGiveRedrive s h by shard places f line state m → In places i → f ≡ Exhausted
  records h None shard places Exhausted line state m legal names may member = refl
  records h (Some lane) shard places Exhausted line state m legal names may member = refl
  records h None shard places Filtered line state m legal names may member = absurd (not_known s h i message at has (names.came i member) (names.wait i member) may.recorded)
  records h (Some lane) shard places Succeeded line state m legal names may member =
      absurd (no_success h (queue_lane 0) legal (In-filter (λ j. not (is_deleted s.queue h j)) (succeeded_places s.queue h (queue_lane 0)) i (subst (λ (ps : List ℕ). In ps i) may.deletes.exact member)).0)
  records h None shard places Succeeded line state m legal names may member = absurd may
  records h None shard places Expired line state m legal names may member = absurd may
  records h (Some lane) shard places Filtered line state m legal names may member = absurd may
  records h (Some lane) shard places Expired line state m legal names may member = absurd may

  pub given_recorded : (h : List Entry) (f : Fate) → LegalRedrive s h → given h 0 i ≡ Some f → f ≡ Exhausted
  given_recorded [] f legal is = absurd (none-some f is)
  given_recorded (Gave by shard places e line state m ∷ h) f legal is =
      elim (given_by (given h 0 i) ((shard == 0) && holds places i) e f is) [
        | inl before ↦ given_recorded h f legal.0 before
        | inr now ↦ sym now.1 ∙ records h by shard places e line state m legal.0 (built_of s (Gave by shard places e line state m ∷ h) legal).1 legal.1.1 (and_parts _ _ now.0).1
      ]
  given_recorded (Came shard first count m ∷ h) f legal is = given_recorded h f legal.0 is
  given_recorded (Began lane places closing m ∷ h) f legal is = given_recorded h f legal.0 is
  given_recorded (Ended lane reply m ∷ h) f legal is = given_recorded h f legal.0 is
  given_recorded (Tried lane places closing tries m ∷ h) f legal is = given_recorded h f legal.0 is
  given_recorded (Closed lane window m ∷ h) f legal is = given_recorded h f legal.0 is
  given_recorded (Replayed shard places m ∷ h) f legal is = given_recorded h f legal.0 is
  given_recorded (Shut m ∷ h) f legal is = given_recorded h f legal.0 is

-- a message that a history gives a line

stays_given : (h : List Entry) (e : Entry) (i : ℕ) (f : Fate) → given h 0 i ≡ Some f → given (e ∷ h) 0 i ≡ Some f
stays_given h (Gave by shard places g line state m) i f is = ap (λ (o : Option Fate). option_or o (cond ((shard == 0) && holds places i) (Some g) None)) is
stays_given h (Came shard first count m) i f is = is
stays_given h (Began lane places closing m) i f is = is
stays_given h (Ended lane reply m) i f is = is
stays_given h (Tried lane places closing tries m) i f is = is
stays_given h (Closed lane window m) i f is = is
stays_given h (Replayed shard places m) i f is = is
stays_given h (Shut m) i f is = is

none_given : (a : Option FoundDeletion) (g : Option Fate) → is_some (option_or (option_map (λ (f : FoundDeletion). f.fate) a) g) ≡ false → g ≡ None
none_given None None is = refl
none_given None (Some x) is = absurd (both_ways true is refl)
none_given (Some f) g is = absurd (both_ways true is refl)

waits_ungiven : (s : QueueSetting) (h : List Entry) (i : ℕ) → Built s h → i < queue_count h → is_deleted s h i ≡ false → given h 0 i ≡ None
waits_ungiven s h i built came waits = none_given (found_deletion s i) (given h 0 i) (sym (deleted_is s h built i came) ∙ waits)

now_given : (g : Option Fate) (b : Bool) (f : Fate) → g ≡ None → b ≡ true → option_or g (cond b (Some f) None) ≡ Some f
now_given g b f none is = ap (λ (o : Option Fate). option_or o (cond b (Some f) None)) none ∙ ap (λ (c : Bool). cond c (Some f) None) is

line_given : (s : RedriveSetting) (h : List Entry) (e : Entry) (i : ℕ) → LegalRedrive s (e ∷ h) → In (lined_places e) i → given (e ∷ h) 0 i ≡ Some Exhausted
line_given s h (Gave by shard places f (Some line) state m) i legal member =
    let e = Gave by shard places f (Some line) state m in
    let built = built_of s h legal.0 in
    let names = (built_of s (e ∷ h) legal).1 in
    let moves = line_moves s h by shard places f line state m legal.1.1 in
    now_given (given h 0 i) ((shard == 0) && holds places i) f (waits_ungiven s.queue h i built (names.came i member) (names.wait i member)) (and_from (shard == 0) (holds places i) (eq-eqb shard 0 names.queue) member)
    ∙ ap Some moves.2
line_given s h (Gave by shard places f None state m) i legal member = absurd (In-none i member)
line_given s h (Came shard first count m) i legal member = absurd (In-none i member)
line_given s h (Began lane places closing m) i legal member = absurd (In-none i member)
line_given s h (Ended lane reply m) i legal member = absurd (In-none i member)
line_given s h (Tried lane places closing tries m) i legal member = absurd (In-none i member)
line_given s h (Closed lane window m) i legal member = absurd (In-none i member)
line_given s h (Replayed shard places m) i legal member = absurd (In-none i member)
line_given s h (Shut m) i legal member = absurd (In-none i member)

pub moved_given : (s : RedriveSetting) (h : List Entry) → LegalRedrive s h → (i : ℕ) → In (moved_places h) i → given h 0 i ≡ Some Exhausted
moved_given s [] legal i member = absurd (In-none i member)
moved_given s (e ∷ h) legal i member =
    elim (In-append_cases (moved_places h) (lined_places e) i member) [
      | inl before ↦ stays_given h e i Exhausted (moved_given s h legal.0 i before)
      | inr now ↦ line_given s h e i legal now
    ]

-- the id that the journal kept of a message is its own
pub kept_id : (s : QueueSetting) (h : List Entry) → Built s h → (i : ℕ) (f : FoundDeletion) (message : Message) → i < queue_count h → message_at s i ≡ Some message → found_deletion s i ≡ Some f → message.id ≡ f.text
kept_id s [] built i f message came at found = absurd (omega (arith, came))
kept_id s (Came shard first count m ∷ h) built i f message came at found =
    let number = number_came s h shard first count m built.1 in
    let next = built.1.next in
    elim (cases_lt i first) [
      | inl before ↦ kept_id s h built.0 i f message (omega (arith, before, next)) at found
      | inr later ↦ built.1.kept i f message later (omega (arith, came, number)) at found
    ]
kept_id s (Began lane places closing m ∷ h) built i f message came at found = kept_id s h built.0 i f message came at found
kept_id s (Ended lane reply m ∷ h) built i f message came at found = kept_id s h built.0 i f message came at found
kept_id s (Gave by shard places g line state m ∷ h) built i f message came at found = kept_id s h built.0 i f message came at found
kept_id s (Tried lane places closing tries m ∷ h) built i f message came at found = kept_id s h built.0 i f message came at found
kept_id s (Closed lane window m ∷ h) built i f message came at found = kept_id s h built.0 i f message came at found
kept_id s (Replayed shard places m ∷ h) built i f message came at found = kept_id s h built.0 i f message came at found
kept_id s (Shut m ∷ h) built i f message came at found = kept_id s h built.0 i f message came at found
