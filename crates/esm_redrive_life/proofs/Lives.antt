-- What holds over lists of redrives: each stage keeps it.
use Rattle.std.proofs.Common.{◌≡◌, ◌∙◌, ◌⊎◌, ℕ, ◌≤◌, Bool, true, false, ◌||◌, List, [], ◌∷◌, ◌++◌, length, map, Option, Some, None, ap, arith, inl, inr, refl, subst, sym}
use Rattle.std.specs.Prelude.{◌==◌, filter_map, option_map, reverse}
use Rattle.std.specs.List.{All, cons_option}
use Rattle.std.specs.Option.{option_or}
use Rattle.std.specs.Str.{bytes_eq}
use Rattle.std.proofs.lemmas.Bool.{both_ways, cases_Bool, eqb-true, or_cases, or_left, or_right}
use Rattle.std.proofs.lemmas.List.Folds.{list_any-append}
use Rattle.std.proofs.lemmas.Option.{none-some, same_Some, slice_get-map}
use Rattle.esm_model.specs.declared.entry.Entry.{Entry}
use Rattle.esm_model.specs.declared.entry.Entry.TheVariants.{Came, Began, Ended, Gave, Tried, Closed, Replayed, Shut}
use Rattle.esm_model.specs.declared.entry.Fate.{Fate}
use Rattle.esm_model.specs.declared.entry.Fate.TheVariants.{Succeeded, Filtered, Expired, Exhausted}
use Rattle.esm_model.specs.declared.item.Message.{Message}
use Rattle.esm_model.specs.declared.setup.FoundDeletion.{FoundDeletion}
use Rattle.esm_model.specs.Books.{lines_of}
use Rattle.esm_model.specs.Entries.{holds}
use Rattle.esm_model.specs.Fates.{given}
use Rattle.esm_journal_state.specs.declared.kept.KeptFate.{KeptFate}
use Rattle.esm_journal_state.specs.Compact.{SameSaid}
use Rattle.esm_journal_state.specs.Meaning.{are_good, fate_kept, history}
use Rattle.esm_journal_state.specs.Tells.{deletion_of_found}
use Rattle.esm_queue_model.specs.QueueEntries.{deletion_fate}
use Rattle.esm_queue_model.specs.QueueStep.{LegalQueue}
use Rattle.esm_queue_model.specs.QueueSetting.{QueueSetting, found_deletion, ids_at, message_at}
use Rattle.esm_queue_model.proofs.Groups.{bytes_eq-true}
use Rattle.esm_queue_model.proofs.Places.{In, In-append_cases, In-here, In-none, In-there}
use Rattle.esm_redrive.specs.DeadFile.{AreLetters, GoesOnWith}
use Rattle.esm_redrive.specs.ReadsBack.{HasLetter}
use Rattle.esm_redrive_model.specs.Due.{known, lined_places, moved_ids, moved_places, receives}
use Rattle.esm_redrive_model.specs.RedriveLaws.{EachOnce, HaveDifferentIds, ReceivedAtMost, is_redrive_fate}
use Rattle.esm_redrive_model.specs.RedriveLines.{AddsOnce, FoundMovesAreLined, LeavesMovesLined, LinedAfterReceives as lined_law, MovedWhereLined as where_law, NotFoundOtherwise, is_lined}
use Rattle.esm_redrive_model.specs.RedriveSetting.{RedriveSetting, stands_among}
use Rattle.esm_redrive_model.specs.RedriveStep.{LegalRedrive}
use Rattle.esm_redrive_life.specs.Content.{DeletionsAreRecorded, HasValidMessages, IsOpenedOver, content_after, deletion_in, given_deletion, kept_of}
use Rattle.esm_redrive_life.specs.Life.{DeletionStays, EachHasOneEnd, GoesOn, IsKept, IsLife, IsMoved, IsRedriveOver, IsWhole, LinedAfterReceives, MovedAfterReceives, MovedWhereLined, MovesAreLined, NotDeletedOtherwise, Redrive, Redriven, Rewritten, Stage, content, dead_lines, lined_ids}
use Rattle.esm_redrive_life.proofs.Recorded.{found_told, recorded as recorded_in, stays_good}
use Rattle.esm_redrive_life.proofs.Rising.{IsOrdinary, given_ordinary, queue_tells}
use Rattle.esm_redrive_life.proofs.Saying.{ReadAgain}

-- the laws of one redrive

abbrev pub Recorded : Type 0
Recorded = (s : RedriveSetting) (h : List Entry) (old : List (List ℕ)) → IsOpenedOver s.queue old → HasValidMessages s.queue → LegalRedrive s h → DeletionsAreRecorded old s.queue h

abbrev pub StaysGood : Type 0
StaysGood = (s : RedriveSetting) (h : List Entry) (old : List (List ℕ)) → IsOpenedOver s.queue old → HasValidMessages s.queue → LegalRedrive s h → are_good (reverse old) ≡ true → are_good (reverse (content_after s.queue h old)) ≡ true

abbrev pub Leaves : Type 0
Leaves = (s : RedriveSetting) (h : List Entry) → LegalRedrive s h → LeavesMovesLined s h

abbrev pub Goes : Type 0
Goes = (fifo : Bool) (found : List (List ℕ)) (s : RedriveSetting) (h : List Entry) → All (HasLetter fifo) s.queue.messages → LegalRedrive s h → AreLetters fifo found (length found) → GoesOnWith fifo found (lines_of h) (moved_ids s h)

abbrev pub Adds : Type 0
Adds = (s : RedriveSetting) (h : List Entry) (earlier : List (List ℕ)) → HaveDifferentIds s.queue.messages → LegalRedrive s h → AddsOnce s h earlier

abbrev pub Received : Type 0
Received = (s : RedriveSetting) (h : List Entry) → LegalRedrive s h → lined_law s h

abbrev pub AtMost : Type 0
AtMost = (s : RedriveSetting) (h : List Entry) → LegalRedrive s h → ReceivedAtMost s h

abbrev pub Where : Type 0
Where = (s : RedriveSetting) (h : List Entry) → FoundMovesAreLined s → HaveDifferentIds s.queue.messages → LegalRedrive s h → known s h ≡ [] → where_law s h

-- options

or_some : {A : Type 0} (a b : Option A) (k : A) → a ≡ Some k → option_or a b ≡ Some k
or_some a b k is = rw is refl

or_parts : {A : Type 0} (a b : Option A) (k : A) → option_or a b ≡ Some k → (a ≡ Some k) ⊎ ((a ≡ None) × (b ≡ Some k))
or_parts None b k is = inr (refl, is)
or_parts (Some x) b k is = inl is

-- what a kept deletion is of
kept_parts : (g : Option Fate) (o : Option Message) (k : KeptFate) → kept_of g o ≡ Some k → (m : Message) × (g ≡ Some k.fate) × (o ≡ Some m) × (m.id ≡ k.text)
kept_parts None o k is = absurd (none-some k is)
kept_parts (Some f) None k is = absurd (none-some k is)
kept_parts (Some f) (Some m) k is =
    let same : fate_kept f m.id ≡ k = same_Some (fate_kept f m.id) k is in
    (m, ap (λ (x : KeptFate). Some x.fate) same, refl, ap (λ (x : KeptFate). x.text) same)

-- stages

life_before : (fifo : Bool) (stage : Stage) (life : List Stage) → IsLife fifo (stage ∷ life) → IsLife fifo life
life_before fifo (Redriven r) life is = is.0
life_before fifo (Rewritten list) life is = is.0

-- deletions

said_after : Recorded → (fifo : Bool) (r : Redrive) (old lines : List (List ℕ)) → IsRedriveOver fifo r old lines → DeletionsAreRecorded old r.setting.queue r.recorded
said_after recorded fifo r old lines is = recorded r.setting r.recorded old is.opened is.messages is.legal_recorded

stage_keeps : Recorded → (fifo : Bool) (stage : Stage) (life : List Stage) → IsLife fifo (stage ∷ life) → (i : ℕ) (k : KeptFate) → deletion_in (content life) i ≡ Some k → deletion_in (content (stage ∷ life)) i ≡ Some k
stage_keeps recorded fifo (Redriven r) life is i k was =
    (said_after recorded fifo r (content life) (dead_lines life) is.1).said i ∙ or_some (deletion_in (content life) i) (given_deletion r.setting.queue r.recorded i) k was
stage_keeps recorded fifo (Rewritten list) life is i k was = is.1.kept i k was

pub deletion_stays_in : Recorded → (fifo : Bool) (later before : List Stage) → IsLife fifo (later ++ before) → DeletionStays later before
deletion_stays_in recorded fifo [] before is i k was = was
deletion_stays_in recorded fifo (stage ∷ later) before is i k was =
    stage_keeps recorded fifo stage (later ++ before) is i k (deletion_stays_in recorded fifo later before (life_before fifo stage (later ++ before) is) i k was)

-- a deletion that the content says after a redrive: it said it before, or the redrive gave it
said_parts : Recorded → (fifo : Bool) (r : Redrive) (life : List Stage) → IsRedriveOver fifo r (content life) (dead_lines life) → (i : ℕ) (k : KeptFate) → deletion_in (content (Redriven r ∷ life)) i ≡ Some k
    → (deletion_in (content life) i ≡ Some k) ⊎ ((m : Message) × (given r.recorded 0 i ≡ Some k.fate) × (message_at r.setting.queue i ≡ Some m) × (m.id ≡ k.text))
said_parts recorded fifo r life is i k now =
    elim (or_parts (deletion_in (content life) i) (given_deletion r.setting.queue r.recorded i) k (sym ((said_after recorded fifo r (content life) (dead_lines life) is).said i) ∙ now)) [
      | inl was ↦ inl was
      | inr new ↦ inr (kept_parts (given r.recorded 0 i) (message_at r.setting.queue i) k new.1)
    ]

-- and after it was written anew: it said it before, or it is of no moved message
list_parts : (list old : List (List ℕ)) → GoesOn list old → (i : ℕ) (k : KeptFate) (o : Option KeptFate) → deletion_in old i ≡ o → deletion_in list i ≡ Some k
    → (deletion_in old i ≡ Some k) ⊎ ((is_redrive_fate k.fate ≡ true) × (k.fate ≡ Exhausted → ⊥))
list_parts list old goes i k None was now = inr (goes.others i k was now)
list_parts list old goes i k (Some x) was now = inl (was ∙ (sym (goes.kept i x was) ∙ now))

pub one_end_in : Recorded → Leaves → (fifo : Bool) (life : List Stage) → IsLife fifo life → EachHasOneEnd life
one_end_in recorded leaves fifo [] is i k now = absurd (none-some k now)
one_end_in recorded leaves fifo (Redriven r ∷ life) is i k now =
    elim (said_parts recorded fifo r life is.1 i k now) [
      | inl was ↦ one_end_in recorded leaves fifo life is.0 i k was
      | inr new ↦ (leaves r.setting r.recorded is.1.legal_recorded).reasons i k.fate new.1
    ]
one_end_in recorded leaves fifo (Rewritten list ∷ life) is i k now =
    elim (list_parts list (content life) is.1 i k (deletion_in (content life) i) refl now) [
      | inl was ↦ one_end_in recorded leaves fifo life is.0 i k was
      | inr other ↦ other.0
    ]

pub good_in : StaysGood → (fifo : Bool) (life : List Stage) → IsLife fifo life → are_good (reverse (content life)) ≡ true
good_in stays fifo [] is = refl
good_in stays fifo (Redriven r ∷ life) is = stays r.setting r.recorded (content life) is.1.opened is.1.messages is.1.legal_recorded (good_in stays fifo life is.0)
good_in stays fifo (Rewritten list ∷ life) is = is.1.good

-- lines

no_letters : (fifo : Bool) → AreLetters fifo [] 0
no_letters fifo j payload low at = absurd (none-some payload at)

pub letters_in : Goes → (fifo : Bool) (life : List Stage) → IsLife fifo life → AreLetters fifo (dead_lines life) (length (dead_lines life))
letters_in goes fifo [] is = no_letters fifo
letters_in goes fifo (Redriven r ∷ life) is = (goes fifo (dead_lines life) r.setting r.lined is.1.letters is.1.legal_lined (letters_in goes fifo life is.0)).letters
letters_in goes fifo (Rewritten list ∷ life) is = letters_in goes fifo life is.0

-- the ids of the lines after a redrive
ids_after : Goes → (fifo : Bool) (r : Redrive) (life : List Stage) → IsLife fifo (Redriven r ∷ life) → lined_ids fifo (Redriven r ∷ life) ≡ lined_ids fifo life ++ moved_ids r.setting r.lined
ids_after goes fifo r life is = (goes fifo (dead_lines life) r.setting r.lined is.1.letters is.1.legal_lined (letters_in goes fifo life is.0)).ids_are

no_ids : EachOnce []
no_ids i j id one other = absurd (none-some id one)

pub once_in : Adds → Goes → (fifo : Bool) (life : List Stage) → IsLife fifo life → EachOnce (lined_ids fifo life)
once_in adds goes fifo [] is = no_ids
once_in adds goes fifo (Redriven r ∷ life) is =
    subst EachOnce (sym (ids_after goes fifo r life is))
    (adds r.setting r.lined (lined_ids fifo life) is.1.different is.1.legal_lined (once_in adds goes fifo life is.0) (λ id stands. ap (λ (ids : List (List ℕ)). stands_among ids id) is.1.ids ∙ stands))
once_in adds goes fifo (Rewritten list ∷ life) is = once_in adds goes fifo life is.0

-- ids of places

-- the message of an id of a list of places
record HasId (s : QueueSetting) (places : List ℕ) (id : List ℕ) : Type 0 where
  pub place : ℕ
  pub message : Message
  pub member : In places place
  pub at : message_at s place ≡ Some message
  pub same : bytes_eq id message.id ≡ true

later_id : (s : QueueSetting) (p : ℕ) (places : List ℕ) (id : List ℕ) → HasId s places id → HasId s (p ∷ places) id
later_id s p places id has = record { place = has.place; message = has.message; member = In-there p places has.place has.member; at = has.at; same = has.same }

abbrev id_of : Message → List ℕ
id_of m = m.id

first_id : (s : QueueSetting) (p : ℕ) (places : List ℕ) (id : List ℕ) (o : Option Message) → message_at s p ≡ o → (stands_among (ids_at s places) id ≡ true → HasId s places id)
    → stands_among (map id_of (cons_option o (filter_map (message_at s) places))) id ≡ true → HasId s (p ∷ places) id
first_id s p places id None at rest stands = later_id s p places id (rest stands)
first_id s p places id (Some m) at rest stands =
    elim (or_cases (bytes_eq id m.id) (stands_among (ids_at s places) id) stands) [
      | inl here ↦ record { place = p; message = m; member = In-here p places p refl; at = at; same = here }
      | inr there ↦ later_id s p places id (rest there)
    ]

id_from : (s : QueueSetting) (places : List ℕ) (id : List ℕ) → stands_among (ids_at s places) id ≡ true → HasId s places id
id_from s [] id stands = absurd (both_ways false refl stands)
id_from s (p ∷ places) id stands = first_id s p places id (message_at s p) refl (id_from s places id) stands

more_ids : (s : QueueSetting) (p : ℕ) (places : List ℕ) (id : List ℕ) (o : Option Message) → stands_among (ids_at s places) id ≡ true → stands_among (map id_of (cons_option o (filter_map (message_at s) places))) id ≡ true
more_ids s p places id None stands = stands
more_ids s p places id (Some m) stands = or_right (bytes_eq id m.id) (stands_among (ids_at s places) id) stands

this_id : (s : QueueSetting) (places : List ℕ) (id : List ℕ) (m : Message) (o : Option Message) → o ≡ Some m → bytes_eq id m.id ≡ true → stands_among (map id_of (cons_option o (filter_map (message_at s) places))) id ≡ true
this_id s places id m o at same = rw at (or_left (bytes_eq id m.id) (stands_among (ids_at s places) id) same)

id_to : (s : QueueSetting) (places : List ℕ) (id : List ℕ) (i : ℕ) (m : Message) → In places i → message_at s i ≡ Some m → bytes_eq id m.id ≡ true → stands_among (ids_at s places) id ≡ true
id_to s [] id i m member at same = absurd (In-none i member)
id_to s (p ∷ places) id i m member at same =
    elim (cases_Bool (p == i)) [
      | inl here ↦ this_id s places id m (message_at s p) (ap (message_at s) (eqb-true p i here) ∙ at) same
      | inr other ↦ more_ids s p places id (message_at s p) (id_to s places id i m (rest_in (p == i) (holds places i) other member) at same)
    ]
  where
    rest_in : (a b : Bool) → a ≡ false → (a || b) ≡ true → b ≡ true
    rest_in a b out either = rw out at either

-- more places have more ids
ids_within : (s : QueueSetting) (xs ys : List ℕ) → ((i : ℕ) → In xs i → In ys i) → (id : List ℕ) → stands_among (ids_at s xs) id ≡ true → stands_among (ids_at s ys) id ≡ true
ids_within s xs ys within id stands = (let has = id_from s xs id stands in id_to s ys id has.place has.message (within has.place has.member) has.at has.same)

stands_first : (xs ys : List (List ℕ)) (id : List ℕ) → stands_among xs id ≡ true → stands_among (xs ++ ys) id ≡ true
stands_first xs ys id stands = list_any-append (bytes_eq id) xs ys ∙ or_left (stands_among xs id) (stands_among ys id) stands

stands_last : (xs ys : List (List ℕ)) (id : List ℕ) → stands_among ys id ≡ true → stands_among (xs ++ ys) id ≡ true
stands_last xs ys id stands = list_any-append (bytes_eq id) xs ys ∙ or_right (stands_among xs id) (stands_among ys id) stands

stands_parts : (xs ys : List (List ℕ)) (id : List ℕ) → stands_among (xs ++ ys) id ≡ true → (stands_among xs id ≡ true) ⊎ (stands_among ys id ≡ true)
stands_parts xs ys id stands = or_cases (stands_among xs id) (stands_among ys id) (sym (list_any-append (bytes_eq id) xs ys) ∙ stands)

-- moved messages have their lines

-- a message that the redrive recorded as moved
given_lined : Leaves → (fifo : Bool) (r : Redrive) (life : List Stage) → IsRedriveOver fifo r (content life) (dead_lines life) → (i : ℕ) (m : Message) → given r.recorded 0 i ≡ Some Exhausted → message_at r.setting.queue i ≡ Some m
    → (stands_among (lined_ids fifo life) m.id ≡ true) ⊎ (stands_among (moved_ids r.setting r.recorded) m.id ≡ true)
given_lined leaves fifo r life is i m gave at =
    elim (stands_parts r.setting.dead_ids (moved_ids r.setting r.recorded) m.id ((leaves r.setting r.recorded is.legal_recorded).lined i m gave at)) [
      | inl found ↦ inl (ap (λ (ids : List (List ℕ)). stands_among ids m.id) (sym is.ids) ∙ found)
      | inr added ↦ inr added
    ]

pub lined_in : Recorded → Leaves → Goes → (fifo : Bool) (life : List Stage) → IsLife fifo life → MovesAreLined fifo life
lined_in recorded leaves goes fifo [] is i k now moved = absurd (none-some k now)
lined_in recorded leaves goes fifo (Redriven r ∷ life) is i k now moved =
    ap (λ (ids : List (List ℕ)). stands_among ids k.text) (ids_after goes fifo r life is)
    ∙ elim (said_parts recorded fifo r life is.1 i k now) [
      | inl was ↦ stands_first (lined_ids fifo life) (moved_ids r.setting r.lined) k.text (lined_in recorded leaves goes fifo life is.0 i k was moved)
      | inr new ↦
          (let m = new.0 in
          ap (stands_among (lined_ids fifo life ++ moved_ids r.setting r.lined)) (sym new.3)
          ∙ elim (given_lined leaves fifo r life is.1 i m (new.1 ∙ ap Some moved) new.2) [
            | inl found ↦ stands_first (lined_ids fifo life) (moved_ids r.setting r.lined) m.id found
            | inr added ↦ stands_last (lined_ids fifo life) (moved_ids r.setting r.lined) m.id (ids_within r.setting.queue (moved_places r.recorded) (moved_places r.lined) is.1.line_first m.id added)
          ])
    ]
lined_in recorded leaves goes fifo (Rewritten list ∷ life) is i k now moved =
    elim (list_parts list (content life) is.1 i k (deletion_in (content life) i) refl now) [
      | inl was ↦ lined_in recorded leaves goes fifo life is.0 i k was moved
      | inr other ↦ absurd (other.1 moved)
    ]

-- receives

received_more : (e : Entry) (h : List Entry) (i : ℕ) → receives h i ≤ receives (e ∷ h) i
received_more (Began lane places closing m) h i = elim (cases_Bool (holds places i)) [ inl is ↦ rw is (omega arith) | inr other ↦ rw other (omega arith) ]
received_more (Came shard first count m) h i = omega arith
received_more (Ended lane reply m) h i = omega arith
received_more (Gave by shard places f line state m) h i = omega arith
received_more (Tried lane places closing tries m) h i = omega arith
received_more (Closed lane window m) h i = omega arith
received_more (Replayed shard places m) h i = omega arith
received_more (Shut m) h i = omega arith

received_later : (later h : List Entry) (i : ℕ) → receives h i ≤ receives (later ++ h) i
received_later [] h i = omega arith
received_later (e ∷ later) h i = (let one = received_more e (later ++ h) i in let rest = received_later later h i in omega (arith, one, rest))

-- an entry with a line receives nothing
line_receives : (e : Entry) (h : List Entry) (i : ℕ) → In (lined_places e) i → receives (e ∷ h) i ≡ receives h i
line_receives (Gave by shard places f line state m) h i member = refl
line_receives (Came shard first count m) h i member = refl
line_receives (Began lane places closing m) h i member = absurd (In-none i member)
line_receives (Ended lane reply m) h i member = refl
line_receives (Tried lane places closing tries m) h i member = refl
line_receives (Closed lane window m) h i member = refl
line_receives (Replayed shard places m) h i member = refl
line_receives (Shut m) h i member = refl

-- a message that has a line in the front of a redrive, or by the entry in hand, was received in that front as often as it may be
hand_receives : Received → (s : RedriveSetting) (hand : Entry) (before : List Entry) (i : ℕ) → LegalRedrive s (hand ∷ before) → In (moved_places (hand ∷ before)) i → receives before i ≡ s.max_receives
hand_receives received s hand before i legal member =
    elim (In-append_cases (moved_places before) (lined_places hand) i member) [
      | inl earlier ↦ received s before legal.0 i earlier
      | inr now ↦ sym (line_receives hand before i now) ∙ received s (hand ∷ before) legal i member
    ]

kept_receives : Received → AtMost → (s : RedriveSetting) (happened kept : List Entry) (i : ℕ) → LegalRedrive s happened → LegalRedrive s kept → IsKept happened kept → In (moved_places kept) i → receives happened i ≡ s.max_receives
kept_receives received most s happened kept i legal legal_kept (inl front) member =
    let own = received s kept legal_kept i member in
    let more : receives kept i ≤ receives happened i = subst (λ (h : List Entry). receives kept i ≤ receives h i) (sym front.1) (received_later front.0 kept i) in
    let high = most s happened legal i in
    omega (arith, own, more, high)
kept_receives received most s happened kept i legal legal_kept (inr has) member =
    let own = hand_receives received s has.hand has.before i (subst (LegalRedrive s) has.kept_is legal_kept) (subst (λ (h : List Entry). In (moved_places h) i) has.kept_is member) in
    let more : receives has.before i ≤ receives happened i = subst (λ (h : List Entry). receives has.before i ≤ receives h i) (sym has.happened_is) (received_later has.later has.before i) in
    let high = most s happened legal i in
    omega (arith, own, more, high)

pub received_in : Received → AtMost → (fifo : Bool) (r : Redrive) (life : List Stage) → IsLife fifo (Redriven r ∷ life) → LinedAfterReceives r
received_in received most fifo r life is i member = kept_receives received most r.setting r.happened r.lined i is.1.legal is.1.legal_lined is.1.lined member

-- of messages with different ids one place has the id
same_place : (s : QueueSetting) (i j : ℕ) (m n : Message) → HaveDifferentIds s.messages → message_at s i ≡ Some m → message_at s j ≡ Some n → m.id ≡ n.id → j ≡ i
same_place s i j m n different at other same =
    different j i n.id (slice_get-map id_of s.messages j ∙ ap (option_map id_of) other) (slice_get-map id_of s.messages i ∙ (ap (option_map id_of) at ∙ ap Some same))

pub moved_in : Leaves → Received → AtMost → (fifo : Bool) (r : Redrive) (life : List Stage) → IsLife fifo (Redriven r ∷ life) → MovedAfterReceives fifo r life
moved_in leaves received most fifo r life is i m gave at =
    elim (given_lined leaves fifo r life is.1 i m gave at) [
      | inl found ↦ inr found
      | inr added ↦
          (let has = id_from r.setting.queue (moved_places r.recorded) m.id added in
          let place : has.place ≡ i = same_place r.setting.queue i has.place m has.message is.1.different at has.at (bytes_eq-true m.id has.message.id has.same) in
          inl (kept_receives received most r.setting r.happened r.recorded i is.1.legal is.1.legal_recorded is.1.recorded (subst (λ (p : ℕ). In (moved_places r.recorded) p) place has.member)))
    ]

-- moved exactly where lined

module _ (recorded : Recorded) (leaves : Leaves) (goes : Goes) (where' : Where) (fifo : Bool) (r : Redrive) (life : List Stage) (is : IsLife fifo (Redriven r ∷ life)) (whole : IsWhole r) where
  abbrev s : RedriveSetting
  s = r.setting

  found_moves : FoundMovesAreLined s
  found_moves i f found moved =
      ap (λ (ids : List (List ℕ)). stands_among ids f.text) is.1.ids
      ∙ lined_in recorded leaves goes fifo life is.0 i (deletion_of_found f) (sym (found_told s.queue (content life) is.1.opened i) ∙ ap (option_map deletion_of_found) found) moved

  all_moved : where_law s r.happened
  all_moved = where' s r.happened found_moves is.1.different is.1.legal whole.settled.recorded

  fate_is : (i : ℕ) → option_map (λ (k : KeptFate). k.fate) (deletion_in (content (Redriven r ∷ life)) i) ≡ deletion_fate s.queue r.happened i
  fate_is i = (said_after recorded fifo r (content life) (dead_lines life) is.1).fates i ∙ ap (λ (h : List Entry). deletion_fate s.queue h i) whole.recorded

  moved_fate : (i : ℕ) → IsMoved (Redriven r ∷ life) i → deletion_fate s.queue r.happened i ≡ Some Exhausted
  moved_fate i moved = sym (fate_is i) ∙ (ap (option_map (λ (k : KeptFate). k.fate)) moved.1 ∙ ap Some moved.2)

  fate_moved : (i : ℕ) (o : Option KeptFate) → deletion_in (content (Redriven r ∷ life)) i ≡ o → option_map (λ (k : KeptFate). k.fate) o ≡ Some Exhausted → IsMoved (Redriven r ∷ life) i
  fate_moved i None at fate = absurd (none-some Exhausted fate)
  fate_moved i (Some k) at fate = (k, at, same_Some k.fate Exhausted fate)

  not_found : (i : ℕ) → NotDeletedOtherwise life i → NotFoundOtherwise s i
  not_found i none f found = none (deletion_of_found f) (sym (found_told s.queue (content life) is.1.opened i) ∙ ap (option_map deletion_of_found) found)

  found_kept : (o : Option FoundDeletion) (k : KeptFate) → option_map deletion_of_found o ≡ Some k → (f : FoundDeletion) × (o ≡ Some f) × (f.fate ≡ k.fate)
  found_kept None k is' = absurd (none-some k is')
  found_kept (Some f) k is' = (f, refl, ap (λ (x : KeptFate). x.fate) (same_Some (deletion_of_found f) k is'))

  not_deleted : (i : ℕ) → NotFoundOtherwise s i → NotDeletedOtherwise life i
  not_deleted i none k was =
      let has = found_kept (found_deletion s.queue i) k (found_told s.queue (content life) is.1.opened i ∙ was) in
      sym has.2 ∙ none has.0 has.1

  ids_are : (id : List ℕ) → stands_among (lined_ids fifo (Redriven r ∷ life)) id ≡ is_lined s r.happened id
  ids_are id =
      ap (λ (ids : List (List ℕ)). stands_among ids id) (ids_after goes fifo r life is)
      ∙ (ap (λ (h : List Entry). stands_among (lined_ids fifo life ++ moved_ids s h) id) whole.lined
      ∙ ap (λ (ids : List (List ℕ)). stands_among (ids ++ moved_ids s r.happened) id) (sym is.1.ids))

  pub where_in : MovedWhereLined fifo r life
  where_in i m low at =
      let by = all_moved i m low at in
      record {
        lined = λ moved. ids_are m.id ∙ by.lined (moved_fate i moved);
        not_otherwise = λ moved. not_deleted i (by.not_otherwise (moved_fate i moved));
        moved = λ stands none. fate_moved i (deletion_in (content (Redriven r ∷ life)) i) refl (fate_is i ∙ by.moved (sym (ids_are m.id) ∙ stands) (not_found i none));
      }

-- what is written between redrives

-- of a compaction
pub same_goes : (list old : List (List ℕ)) → SameSaid (history (reverse list)) (history (reverse old)) → are_good (reverse list) ≡ true → GoesOn list old
same_goes list old same good = record {
  kept = λ i k was. same.deletions i ∙ was;
  others = λ i k none now. absurd (none-some k (sym none ∙ (sym (same.deletions i) ∙ now)));
  good = good;
}

ordinary_fate : (f : Fate) → IsOrdinary (Some f) → (is_redrive_fate f ≡ true) × (f ≡ Exhausted → ⊥)
ordinary_fate Succeeded is = (refl, λ same. cc)
ordinary_fate Filtered is = (refl, λ same. cc)
ordinary_fate Expired is = absurd is
ordinary_fate Exhausted is = absurd is

-- of an ordinary run
pub ordinary_goes : ReadAgain → (s : QueueSetting) (h : List Entry) (old : List (List ℕ)) → IsOpenedOver s old → HasValidMessages s → LegalQueue s h → are_good (reverse old) ≡ true → GoesOn (content_after s h old) old
ordinary_goes again s h old opened are legal good =
    let tells = queue_tells s h legal in
    let after = recorded_in again s h old opened are tells in
    record {
      kept = λ i k was. after.said i ∙ or_some (deletion_in old i) (given_deletion s h i) k was;
      others = λ i k none now.
          elim (or_parts (deletion_in old i) (given_deletion s h i) k (sym (after.said i) ∙ now)) [
            | inl was ↦ absurd (none-some k (sym none ∙ was))
            | inr new ↦ ordinary_fate k.fate (subst IsOrdinary (kept_parts (given h 0 i) (message_at s i) k new.1).1 (given_ordinary s h legal i))
          ];
      good = stays_good again s h old opened are tells good;
    }
