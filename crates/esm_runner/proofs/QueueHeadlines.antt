-- The headline, from what is left of a run.
use Rattle.std.proofs.Common.{◌≡◌, ◌∙◌, ℕ, Bool, true, false, List, [], ◌∷◌, ◌++◌, Some, ap, ap₂, append_assoc, arith, refl, subst, sym}
use Rattle.std.specs.Prelude.{reverse, if◌then◌else◌}
use Rattle.std.proofs.lemmas.Bool.{eq-eqb}
use Rattle.std.proofs.lemmas.List.Elements.{filter_map-append}
use Rattle.esm_io.specs.Faults.{Rose}
use Rattle.esm_io.specs.Meanings.{DiskMeaning}
use Rattle.esm_journal.specs.Pair.{PairState, first_disk, second_disk}
use Rattle.esm_journal.specs.Reads.{IsOnlyRead}
use Rattle.esm_model.specs.declared.book.Trouble.TheVariants.{Disk}
use Rattle.esm_model.specs.declared.called.Called.{Called}
use Rattle.esm_model.specs.declared.item.Message.{Message}
use Rattle.esm_model.specs.declared.entry.Entry.{Entry}
use Rattle.esm_model.specs.declared.entry.Entry.TheVariants.{Ended}
use Rattle.esm_book.specs.Hand.{FollowsFront}
use Rattle.esm_book.specs.State.{in_hand, is_disk}
use Rattle.esm_journal_record.specs.EntryPayload.{queue_payload}
use Rattle.esm_queue_model.specs.QueueBatch.{last_queue_event, queue_calls, queue_calls_since}
use Rattle.esm_queue_model.specs.QueueSetting.{QueueSetting}
use Rattle.esm_queue_core.specs.CoreView.{all_messages}
use Rattle.esm_folder.specs.Upkeep.{AreHonest, OneRose, PairHolds}
use Rattle.esm_folder.proofs.OpenedDisks.{are_honest, pair_holds}
use Rattle.esm_queue_book.specs.Books.{BookState, OpensToFirst, payloads_in}
use Rattle.esm_queue_book.specs.Keeping.{MayFollowFront, entries_left}
use Rattle.esm_queue_book.specs.Moments.{AreTimed, IsTimed, IsTimedView}
use Rattle.esm_runner.specs.Given.{AreGiven}
use Rattle.esm_runner.specs.Files.{FilesState}
use Rattle.esm_runner.specs.Headline.{Devices, PairStopped, Telling}
use Rattle.esm_runner.proofs.Headlines.{hand_has, in_hand_few, is_in_hand, not_disk, used_rose}
use Rattle.esm_runner.proofs.Stopped.{HasGoneDown, filter_map_few, in_order, pair_stopped}
use Rattle.esm_runner.specs.QueueHeadline.{CrashKept, CrashKeptSinceOpening, Headline, JournalKept, JournalStopped, LegalOver, RepliesAreLogged}
use Rattle.esm_runner.specs.QueueLaws.{AreLaws}
use Rattle.esm_runner.specs.QueueRuns.{IsLeft}
use Rattle.esm_runner.proofs.Earned.{only_earned}
use Rattle.esm_runner.proofs.QueueSettled.{settled_over}
use Rattle.esm_runner.proofs.Recorded.{recorded}

-- the devices are those of the book, and the failure file is as it was opened
pub record AreOf {D F : Type 0} (f : FilesState D) (b : BookState D) (new : Devices D F) : Type 0 where
  pub journal : new.journal ≡ first_disk b.pair
  pub spare : new.spare ≡ second_disk b.pair
  pub failures : new.failures ≡ f.dest.disk

-- the entry in hand

-- the payloads of the history and of the entry in hand are those over the messages that came
left_stays : {D : Type 0} (m : DiskMeaning D) (f : FilesState D) (b : BookState D) → IsLeft m f b → payloads_in (all_messages b.core) (entries_left b) ≡ payloads_in b.core.setting.messages (entries_left b)
left_stays m f b left =
    let hand = in_hand b.trouble b.core.owed in
    filter_map-append (queue_payload (all_messages b.core)) (reverse b.core.past) hand
    ∙ (ap₂ (λ (xs ys : List (List ℕ)). xs ++ ys) left.stays left.hand
    ∙ sym (filter_map-append (queue_payload b.core.setting.messages) (reverse b.core.past) hand))

-- the journal

honest_found : {D : Type 0} (m : DiskMeaning D) (f : FilesState D) (b : BookState D) → IsLeft m f b → AreHonest m f.journal f.spare → (m.honest b.pair.used ≡ true) × (m.honest b.pair.spare ≡ true)
honest_found {D} m f b left honest =
    let was = are_honest m f.pair.swapped f.journal f.spare f.pair.used f.pair.spare left.files.read honest in
    let used : m.honest b.found.used ≡ true = subst (λ (p : PairState D). m.honest p.used ≡ true) (sym left.found) was.0 in
    let spare : m.honest b.found.spare ≡ true = subst (λ (p : PairState D). m.honest p.spare ≡ true) (sym left.found) was.1 in
    (left.journal.honesty ∙ used, subst (λ (d : D). m.honest d ≡ true) (sym left.journal.spare) spare)

all_payloads : {D : Type 0} (m : DiskMeaning D) (f : FilesState D) (b : BookState D) → IsLeft m f b → b.pair.payloads ≡ f.pair.payloads ++ payloads_in b.core.setting.messages (reverse b.core.past)
all_payloads {D} m f b left = left.journal.payloads ∙ ap₂ (λ (xs ys : List (List ℕ)). xs ++ ys) (ap (λ (p : PairState D). p.payloads) left.found) left.stays

holds_all : {D : Type 0} (m : DiskMeaning D) (f : FilesState D) (b : BookState D) → IsLeft m f b → is_disk b.trouble ≡ false → AreHonest m f.journal f.spare
    → PairHolds m f.pair.epoch (f.pair.payloads ++ payloads_in b.core.setting.messages (reverse b.core.past)) (first_disk b.pair) (second_disk b.pair)
holds_all {D} m f b left up honest =
    let both = honest_found m f b left honest in
    let now : PairHolds m b.pair.epoch b.pair.payloads (first_disk b.pair) (second_disk b.pair) =
    pair_holds m b.pair.epoch b.pair.payloads b.pair.swapped b.pair.used b.pair.spare (left.pair_kept both.0 both.1 (left.journal.down ∙ up)) in
    let payloads = all_payloads m f b left in
    let epoch : b.pair.epoch ≡ f.pair.epoch = left.journal.epoch ∙ ap (λ (p : PairState D). p.epoch) left.found in
    subst (λ (n : ℕ). PairHolds m n (f.pair.payloads ++ payloads_in b.core.setting.messages (reverse b.core.past)) (first_disk b.pair) (second_disk b.pair)) epoch
    (subst (λ (list : List (List ℕ)). PairHolds m b.pair.epoch list (first_disk b.pair) (second_disk b.pair)) payloads now)

journal_kept : {D F : Type 0} (t : Telling D F) (f : FilesState D) (b : BookState D) (new : Devices D F) → IsLeft t.disk f b → AreOf f b new
    → (b.trouble ≡ Some Disk → ⊥) → JournalKept t f b.core.setting b.core.past new
journal_kept {D} t f b new left of not honest =
    let list = f.pair.payloads ++ payloads_in b.core.setting.messages (reverse b.core.past) in
    subst (λ (d : D). PairHolds t.disk f.pair.epoch list d new.spare) (sym of.journal)
    (subst (λ (d : D). PairHolds t.disk f.pair.epoch list (first_disk b.pair) d) (sym of.spare)
    (holds_all t.disk f b left (not_disk b.trouble not) honest))

-- a crash

opens_first : {D : Type 0} (m : DiskMeaning D) (f : FilesState D) (b : BookState D) (one other : List ℕ) → IsLeft m f b
    → OpensToFirst b.found.epoch b.found.payloads (payloads_in (all_messages b.core) (entries_left b)) one other
    → OpensToFirst f.pair.epoch f.pair.payloads (payloads_in b.core.setting.messages (entries_left b)) one other
opens_first {D} m f b one other left o =
    subst (λ (p : PairState D). OpensToFirst p.epoch p.payloads (payloads_in b.core.setting.messages (entries_left b)) one other) left.found
    (subst (λ (list : List (List ℕ)). OpensToFirst b.found.epoch b.found.payloads list one other) (left_stays m f b left) o)

crash_kept : {D F : Type 0} (t : Telling D F) (f : FilesState D) (b : BookState D) (new : Devices D F) → IsLeft t.disk f b → AreOf f b new
    → CrashKept t f b.core.setting b.core.past (in_hand b.trouble b.core.owed) new
crash_kept {D} t f b new left of honest settled one other since other_since =
    opens_first t.disk f b one other left
    (left.since honest.0 honest.1 settled.0 settled.1 one other
    (subst (λ (d : D). t.disk.since d (t.disk.moment f.journal) one) of.journal since)
    (subst (λ (d : D). t.disk.since d (t.disk.moment f.spare) other) of.spare other_since))

-- since the opening
opened_first : {D : Type 0} (m : DiskMeaning D) (f : FilesState D) (b : BookState D) → IsLeft m f b → m.honest f.pair.used ≡ true → m.honest f.pair.spare ≡ true
    → (one other : List ℕ) → m.since b.pair.used (m.moment f.pair.used) one → m.since b.pair.spare (m.moment f.pair.spare) other
    → OpensToFirst f.pair.epoch f.pair.payloads (payloads_in b.core.setting.messages (entries_left b)) one other
opened_first {D} m f b left used spare one other since other_since =
    opens_first m f b one other left
    (left.opened_since (subst (λ (p : PairState D). m.honest p.used ≡ true) (sym left.found) used) (subst (λ (p : PairState D). m.honest p.spare ≡ true) (sym left.found) spare) one other
    (subst (λ (p : PairState D). m.since b.pair.used (m.moment p.used) one) (sym left.found) since)
    (subst (λ (p : PairState D). m.since b.pair.spare (m.moment p.spare) other) (sym left.found) other_since))

crash_opened : {D F : Type 0} (t : Telling D F) (f : FilesState D) (b : BookState D) (new : Devices D F) → IsLeft t.disk f b → AreOf f b new
    → CrashKeptSinceOpening t f b.core.setting b.core.past (in_hand b.trouble b.core.owed) new
crash_opened {D} t f b new left of honest one other since other_since =
    let m = t.disk in
    let both = are_honest m f.pair.swapped f.journal f.spare f.pair.used f.pair.spare left.files.read honest in
    let swapped : b.pair.swapped ≡ f.pair.swapped = left.journal.swapped ∙ ap (λ (p : PairState D). p.swapped) left.found in
    in_order m f.pair.swapped f.pair.used f.pair.spare b.pair.used b.pair.spare (OpensToFirst f.pair.epoch f.pair.payloads (payloads_in b.core.setting.messages (entries_left b)))
    (opened_first m f b left both.0 both.1) (λ x y o. record { front = o.front; rest = o.rest; split = o.split; opens = (o.opens.1, o.opens.0) }) one other
    (subst (λ (s : Bool). m.since (if s then b.pair.spare else b.pair.used) (m.moment (first_disk f.pair)) one) swapped (subst (λ (d : D). m.since d (m.moment (first_disk f.pair)) one) of.journal since))
    (subst (λ (s : Bool). m.since (if s then b.pair.used else b.pair.spare) (m.moment (second_disk f.pair)) other) swapped (subst (λ (d : D). m.since d (m.moment (second_disk f.pair)) other) of.spare other_since))

-- a disk that failed

parts_left : (messages : List Message) (front rest : List (List ℕ)) (es hand : List Entry) → front ++ rest ≡ payloads_in messages (es ++ hand) → front ++ rest ≡ payloads_in messages es ++ payloads_in messages hand
parts_left messages front rest es hand split = split ∙ filter_map-append (queue_payload messages) es hand

gone_down : {D : Type 0} (m : DiskMeaning D) (f : FilesState D) (b : BookState D) → IsLeft m f b → b.trouble ≡ Some Disk
    → HasGoneDown m f b.pair (payloads_in b.core.setting.messages (reverse b.core.past)) (payloads_in b.core.setting.messages (in_hand b.trouble b.core.owed))
gone_down {D} m f b left disk =
    let messages = b.core.setting.messages in
    let hand = in_hand b.trouble b.core.owed in
    let few = filter_map_few (queue_payload messages) hand in
    let fewer = in_hand_few b.trouble b.core.owed in
    record {
      honest = honest_found m f b left;
      honest_first = are_honest m f.pair.swapped f.journal f.spare f.pair.used f.pair.spare left.files.read;
      down = left.journal.down ∙ ap is_disk disk;
      epoch = left.journal.epoch ∙ ap (λ (p : PairState D). p.epoch) left.found;
      swapped = left.journal.swapped ∙ ap (λ (p : PairState D). p.swapped) left.found;
      payloads = all_payloads m f b left;
      few = omega (arith, few, fewer);
      still = left.pair_stopped;
      leaves = λ used spare one other since other_since.
          let o = opened_first m f b left used spare one other since other_since in
          record { front = o.front; rest = o.rest; split = parts_left messages o.front o.rest (reverse b.core.past) hand o.split; opens = o.opens };
    }

journal_stopped : {D F : Type 0} (t : Telling D F) (f : FilesState D) (b : BookState D) (new : Devices D F) → IsLeft t.disk f b → AreOf f b new
    → b.trouble ≡ Some Disk → JournalStopped t f b.core.setting b.core.past (in_hand b.trouble b.core.owed) new
journal_stopped {D} t f b new left of disk =
    let messages = b.core.setting.messages in
    let hand = in_hand b.trouble b.core.owed in
    let kept = payloads_in messages (reverse b.core.past) in
    subst (λ (more : List (List ℕ)). PairStopped t.disk f kept more new.journal new.spare) (sym (filter_map-append (queue_payload messages) (reverse b.core.past) hand))
    (pair_stopped t.disk f b.pair kept (payloads_in messages hand) new.journal new.spare (gone_down t.disk f b left disk) of.journal of.spare)

-- the replies

replies_logged : {D F : Type 0} (t : Telling D F) (s : QueueSetting) (h : List Entry) → AreLaws → RepliesAreLogged t s h
replies_logged t s h laws later before lane reply m split =
    let sends = t.callers.sends in
    let made : Called = record { name = s.config.function; event = sends (last_queue_event s before lane); reply = reply } in
    let ended = Ended lane reply m ∷ before in
    let since = queue_calls_since s sends later ended lane.lane in
    let here : queue_calls s sends ended lane.lane ≡ queue_calls s sends before lane.lane ++ made ∷ [] = rw (eq-eqb lane.lane lane.lane refl) refl in (
      queue_calls s sends before lane.lane,
      since,
      ap (λ (g : List Entry). queue_calls s sends g lane.lane) split
          ∙ (laws.calls s sends later ended lane.lane
          ∙ (ap (λ (cs : List Called). cs ++ since) here
          ∙ append_assoc (queue_calls s sends before lane.lane) (made ∷ []) since)),
    )

-- what may follow over the messages that came may over all that go on from them
abbrev over_all : AreLaws → (s : QueueSetting) (h : List Entry) (e : Entry) → MayFollowFront s h e → FollowsFront (λ before x. LegalOver s (x ∷ before)) h e
over_all laws s h e f = record {
  before = f.before;
  later = f.later;
  split = f.split;
  ends = f.ends;
  follows = λ messages goes. laws.more s (e ∷ f.before) messages goes f.follows;
}

-- the moment of an entry that is not added, of which a clock gave the moment
one_timed : (gave : ℕ → Bool) (es : List Entry) (e : Entry) → AreTimed gave es → es ≡ e ∷ [] → IsTimed gave e
one_timed gave es e timed is = (subst (AreTimed gave) is timed).0

-- all of it
pub headline : {D F : Type 0} (t : Telling D F) (f : FilesState D) (b : BookState D) (new : Devices D F) → AreLaws → IsLeft t.disk f b → AreOf f b new → AreGiven t.callers.gave b.core.past
    → IsTimedView t.callers.gave b.core → Headline t f b.core.setting b.core.past b.trouble (in_hand b.trouble b.core.owed) new
headline {D} t f b new laws left of given timed = record {
  legal_trace = λ messages goes. laws.more b.core.setting b.core.past messages goes left.legal;
  settled = λ up messages goes. settled_over b.core.setting messages goes b.core.past left.legal (left.settled up);
  messages_came = left.came;
  valid = left.valid;
  few = left.few;
  moments = given;
  journal_kept = journal_kept t f b new left of;
  journal_stopped = journal_stopped t f b new left of;
  in_hand = is_in_hand (queue_payload b.core.setting.messages) b.trouble b.core.owed left.hand_is_one;
  hand_has_payload = hand_has (queue_payload b.core.setting.messages) b.trouble b.core.owed left.hand_is_one;
  hand_follows = λ e some. over_all laws b.core.setting b.core.past e (left.hand_follows e some);
  hand_given = λ e some.
      laws.front_timed t.callers.gave b.core.setting b.core.past e (left.hand_follows e some)
      (one_timed t.callers.gave (in_hand b.trouble b.core.owed) e (laws.hand_timed t.callers.gave b.core b.trouble timed) some);
  crash = crash_kept t f b new left of;
  crash_since_opening = crash_opened t f b new left of;
  failures_same = of.failures;
  failures_read = subst (λ (d : D). IsOnlyRead t.disk f.failures d) (sym of.failures) left.files.lines_read;
  only_earned = only_earned b.core.setting b.core.past left.legal;
  replies_are_logged = replies_logged t b.core.setting b.core.past laws;
  deletions_are_recorded = recorded f b.core.setting b.core.past laws left.legal left.valid left.few left.files.tells left.deletions;
  deleted_once = laws.once b.core.setting b.core.past left.legal;
  order_per_group = laws.order b.core.setting b.core.past left.legal;
  every_message_counted = laws.counted b.core.setting b.core.past left.legal;
}

-- the disk in use failed

pub disk_rose : {D F : Type 0} (m : DiskMeaning D) (f : FilesState D) (b : BookState D) (new : Devices D F) → IsLeft m f b → AreOf f b new
    → Rose (m.faults b.found.used) (m.faults b.pair.used) → OneRose m f.journal f.spare new.journal new.spare
disk_rose {D} m f b new left of rose =
    let swapped : b.pair.swapped ≡ f.pair.swapped = left.journal.swapped ∙ ap (λ (p : PairState D). p.swapped) left.found in
    let from : Rose (m.faults f.pair.used) (m.faults b.pair.used) = subst (λ (p : PairState D). Rose (m.faults p.used) (m.faults b.pair.used)) left.found rose in
    let one : OneRose m f.journal f.spare (if f.pair.swapped then b.pair.spare else b.pair.used) (if f.pair.swapped then b.pair.used else b.pair.spare) =
    used_rose m f.pair.swapped f.journal f.spare f.pair.used f.pair.spare b.pair.used b.pair.spare left.files.read from in
    let now : OneRose m f.journal f.spare (first_disk b.pair) (second_disk b.pair) =
    subst (λ (s : Bool). OneRose m f.journal f.spare (if s then b.pair.spare else b.pair.used) (if s then b.pair.used else b.pair.spare)) (sym swapped) one in
    subst (λ (d : D). OneRose m f.journal f.spare d new.spare) (sym of.journal) (subst (λ (d : D). OneRose m f.journal f.spare (first_disk b.pair) d) (sym of.spare) now)
