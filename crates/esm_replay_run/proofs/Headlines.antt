-- The headline, from what is left of a run.
use Rattle.std.proofs.Common.{◌≡◌, ◌∙◌, ℕ, ◌≤◌, min, max, length, Bool, true, false, List, [], ◌∷◌, ◌++◌, Option, Some, None, ap, append_assoc, arith, inl, inr, refl, subst, sym}
use Rattle.std.specs.Prelude.{reverse, take, if◌then◌else◌}
use Rattle.std.proofs.lemmas.List.{reverse-append}
use Rattle.std.proofs.lemmas.List.Elements.{filter_map-append}
use Rattle.esm_io.specs.Faults.{Rose}
use Rattle.esm_io.specs.Meanings.{DiskMeaning}
use Rattle.esm_journal.specs.Pair.{PairState, first_disk, second_disk}
use Rattle.esm_journal.specs.Reads.{IsOnlyRead}
use Rattle.esm_model.specs.declared.book.Trouble.{Trouble}
use Rattle.esm_model.specs.declared.book.Trouble.TheVariants.{Disk, Dest, Changed}
use Rattle.esm_model.specs.declared.entry.Entry.{Entry}
use Rattle.esm_model.specs.declared.entry.Entry.TheVariants.{Replayed}
use Rattle.esm_model.specs.declared.moment.TheConstants.{MAX_MOMENT}
use Rattle.esm_model.specs.Entries.{last_moment, moment_of}
use Rattle.esm_model.specs.Setting.{sequences_at}
use Rattle.esm_book.specs.State.{in_hand, is_disk}
use Rattle.esm_journal_record.specs.declared.said.Said.TheVariants as says
use Rattle.esm_journal_record.specs.EntryPayload.{entry_payload, AllMayBeSaid}
use Rattle.esm_journal_record.specs.Payload.{payload_of}
use Rattle.esm_journal_state.specs.Meaning.{replayed_said}
use Rattle.esm_journal_state.specs.SaidLists.{SaidLists, is_replay_told}
use Rattle.esm_folder.specs.Upkeep.{AreHonest, OneRose, PairHolds}
use Rattle.esm_folder.proofs.OpenedDisks.{are_honest, pair_holds}
use Rattle.esm_replay_model.specs.ReplaySetting.{ReplaySetting, is_found_replayed}
use Rattle.esm_replay_model.specs.ReplayRun.{owed_replay, IsReplay}
use Rattle.esm_replay_core.specs.declared.decisions.Opened.{Opened}
use Rattle.esm_replay_core.specs.View.{setting_of}
use Rattle.esm_replay_book.specs.Books.{BookState, OpensToFirst, payloads_in}
use Rattle.esm_replay_book.specs.Keeping.{entries_left, IsCause, IsSound, IsUncalled, OwesReplay}
use Rattle.esm_replay_book.specs.Serving.{AreGiven, IsGiven}
use Rattle.esm_runner.specs.Files.{FilesState}
use Rattle.esm_runner.specs.Headline.{PairStopped}
use Rattle.esm_runner.proofs.Headlines.{IsOneInHand, in_hand_few, is_in_hand, not_disk}
use Rattle.esm_runner.proofs.Stopped.{HasGoneDown, filter_map_few, in_order, pair_stopped}
use Rattle.esm_replay_run.specs.Ended.{JournalRose}
use Rattle.esm_replay_run.specs.Headline.{Disks, CrashKept, CrashKeptSinceOpening, Headline, JournalKept, JournalStopped, said_before}
use Rattle.esm_replay_run.specs.Laws.{AreLaws}
use Rattle.esm_replay_run.specs.Runs.{IsLeft}
use Rattle.esm_replay_run.proofs.Sayings.{says_after}

-- the disks are those of the book, and the failure file is as it was opened
pub record AreOf {D : Type 0} (f : FilesState D) (b : BookState D) (new : Disks D) : Type 0 where
  pub journal : new.journal ≡ first_disk b.pair
  pub spare : new.spare ≡ second_disk b.pair
  pub failures : new.failures ≡ f.dest.disk

-- the journal

honest_found : {D : Type 0} (m : DiskMeaning D) (f : FilesState D) (b : BookState D) → IsLeft m f b → AreHonest m f.journal f.spare → (m.honest b.pair.used ≡ true) × (m.honest b.pair.spare ≡ true)
honest_found {D} m f b left honest =
    let was = are_honest m f.pair.swapped f.journal f.spare f.pair.used f.pair.spare left.files.read honest in
    let used : m.honest b.found.used ≡ true = subst (λ (p : PairState D). m.honest p.used ≡ true) (sym left.found) was.0 in
    let spare : m.honest b.found.spare ≡ true = subst (λ (p : PairState D). m.honest p.spare ≡ true) (sym left.found) was.1 in
    (left.journal.honesty ∙ used, subst (λ (d : D). m.honest d ≡ true) (sym left.journal.spare) spare)

all_payloads : {D : Type 0} (m : DiskMeaning D) (f : FilesState D) (b : BookState D) → IsLeft m f b → b.pair.payloads ≡ f.pair.payloads ++ payloads_in (setting_of b.core) (reverse b.core.past)
all_payloads {D} m f b left = left.journal.payloads ∙ ap (λ (p : PairState D). p.payloads ++ payloads_in (setting_of b.core) (reverse b.core.past)) left.found

holds_all : {D : Type 0} (m : DiskMeaning D) (f : FilesState D) (b : BookState D) → IsLeft m f b → is_disk b.trouble ≡ false → AreHonest m f.journal f.spare
    → PairHolds m f.pair.epoch (f.pair.payloads ++ payloads_in (setting_of b.core) (reverse b.core.past)) (first_disk b.pair) (second_disk b.pair)
holds_all {D} m f b left up honest =
    let both = honest_found m f b left honest in
    let now : PairHolds m b.pair.epoch b.pair.payloads (first_disk b.pair) (second_disk b.pair) =
    pair_holds m b.pair.epoch b.pair.payloads b.pair.swapped b.pair.used b.pair.spare (left.pair_kept both.0 both.1 (left.journal.down ∙ up)) in
    let payloads = all_payloads m f b left in
    let epoch : b.pair.epoch ≡ f.pair.epoch = left.journal.epoch ∙ ap (λ (p : PairState D). p.epoch) left.found in
    subst (λ (n : ℕ). PairHolds m n (f.pair.payloads ++ payloads_in (setting_of b.core) (reverse b.core.past)) (first_disk b.pair) (second_disk b.pair)) epoch
    (subst (λ (list : List (List ℕ)). PairHolds m b.pair.epoch list (first_disk b.pair) (second_disk b.pair)) payloads now)

journal_kept : {D : Type 0} (m : DiskMeaning D) (f : FilesState D) (b : BookState D) (new : Disks D) → IsLeft m f b → AreOf f b new
    → (b.trouble ≡ Some Disk → ⊥) → JournalKept m f (setting_of b.core) b.core.past new
journal_kept {D} m f b new left of not honest =
    let list = f.pair.payloads ++ payloads_in (setting_of b.core) (reverse b.core.past) in
    subst (λ (d : D). PairHolds m f.pair.epoch list d new.spare) (sym of.journal)
    (subst (λ (d : D). PairHolds m f.pair.epoch list (first_disk b.pair) d) (sym of.spare)
    (holds_all m f b left (not_disk b.trouble not) honest))

-- a crash

opens_first : {D : Type 0} (m : DiskMeaning D) (f : FilesState D) (b : BookState D) (one other : List ℕ) → IsLeft m f b
    → OpensToFirst b.found.epoch b.found.payloads (payloads_in (setting_of b.core) (entries_left b)) one other
    → OpensToFirst f.pair.epoch f.pair.payloads (payloads_in (setting_of b.core) (entries_left b)) one other
opens_first {D} m f b one other left o =
    subst (λ (p : PairState D). OpensToFirst p.epoch p.payloads (payloads_in (setting_of b.core) (entries_left b)) one other) left.found o

crash_kept : {D : Type 0} (m : DiskMeaning D) (f : FilesState D) (b : BookState D) (new : Disks D) → IsLeft m f b → AreOf f b new
    → CrashKept m f (setting_of b.core) b.core.past (in_hand b.trouble b.core.owed) new
crash_kept {D} m f b new left of honest settled one other since other_since =
    opens_first m f b one other left
    (left.since honest.0 honest.1 settled.0 settled.1 one other
    (subst (λ (d : D). m.since d (m.moment f.journal) one) of.journal since)
    (subst (λ (d : D). m.since d (m.moment f.spare) other) of.spare other_since))

-- since the opening
opened_first : {D : Type 0} (m : DiskMeaning D) (f : FilesState D) (b : BookState D) → IsLeft m f b → m.honest f.pair.used ≡ true → m.honest f.pair.spare ≡ true
    → (one other : List ℕ) → m.since b.pair.used (m.moment f.pair.used) one → m.since b.pair.spare (m.moment f.pair.spare) other
    → OpensToFirst f.pair.epoch f.pair.payloads (payloads_in (setting_of b.core) (entries_left b)) one other
opened_first {D} m f b left used spare one other since other_since =
    opens_first m f b one other left
    (left.opened_since (subst (λ (p : PairState D). m.honest p.used ≡ true) (sym left.found) used) (subst (λ (p : PairState D). m.honest p.spare ≡ true) (sym left.found) spare) one other
    (subst (λ (p : PairState D). m.since b.pair.used (m.moment p.used) one) (sym left.found) since)
    (subst (λ (p : PairState D). m.since b.pair.spare (m.moment p.spare) other) (sym left.found) other_since))

crash_opened : {D : Type 0} (m : DiskMeaning D) (f : FilesState D) (b : BookState D) (new : Disks D) → IsLeft m f b → AreOf f b new
    → CrashKeptSinceOpening m f (setting_of b.core) b.core.past (in_hand b.trouble b.core.owed) new
crash_opened {D} m f b new left of honest one other since other_since =
    let both = are_honest m f.pair.swapped f.journal f.spare f.pair.used f.pair.spare left.files.read honest in
    let swapped : b.pair.swapped ≡ f.pair.swapped = left.journal.swapped ∙ ap (λ (p : PairState D). p.swapped) left.found in
    in_order m f.pair.swapped f.pair.used f.pair.spare b.pair.used b.pair.spare (OpensToFirst f.pair.epoch f.pair.payloads (payloads_in (setting_of b.core) (entries_left b)))
    (opened_first m f b left both.0 both.1) (λ x y o. record { front = o.front; rest = o.rest; split = o.split; opens = (o.opens.1, o.opens.0) }) one other
    (subst (λ (s : Bool). m.since (if s then b.pair.spare else b.pair.used) (m.moment (first_disk f.pair)) one) swapped (subst (λ (d : D). m.since d (m.moment (first_disk f.pair)) one) of.journal since))
    (subst (λ (s : Bool). m.since (if s then b.pair.used else b.pair.spare) (m.moment (second_disk f.pair)) other) swapped (subst (λ (d : D). m.since d (m.moment (second_disk f.pair)) other) of.spare other_since))

-- a disk that failed

parts_left : (s : ReplaySetting) (front rest : List (List ℕ)) (es hand : List Entry) → front ++ rest ≡ payloads_in s (es ++ hand) → front ++ rest ≡ payloads_in s es ++ payloads_in s hand
parts_left s front rest es hand split = split ∙ filter_map-append (entry_payload s.base) es hand

gone_down : {D : Type 0} (m : DiskMeaning D) (f : FilesState D) (b : BookState D) → IsLeft m f b → b.trouble ≡ Some Disk
    → HasGoneDown m f b.pair (payloads_in (setting_of b.core) (reverse b.core.past)) (payloads_in (setting_of b.core) (in_hand b.trouble b.core.owed))
gone_down {D} m f b left disk =
    let s = setting_of b.core in
    let hand = in_hand b.trouble b.core.owed in
    let few = filter_map_few (entry_payload s.base) hand in
    let fewer = in_hand_few b.trouble b.core.owed in
    record {
      honest = honest_found m f b left;
      honest_first = are_honest m f.pair.swapped f.journal f.spare f.pair.used f.pair.spare left.files.read;
      down = left.journal.down ∙ ap is_disk disk;
      epoch = left.journal.epoch ∙ ap (λ (p : PairState D). p.epoch) left.found;
      swapped = left.journal.swapped ∙ ap (λ (p : PairState D). p.swapped) left.found;
      payloads = all_payloads m f b left;
      few = omega (arith, few, fewer);
      still = left.pair_stopped;
      leaves = λ used spare one other since other_since.
          let o = opened_first m f b left used spare one other since other_since in
          record { front = o.front; rest = o.rest; split = parts_left s o.front o.rest (reverse b.core.past) hand o.split; opens = o.opens };
    }

journal_stopped : {D : Type 0} (m : DiskMeaning D) (f : FilesState D) (b : BookState D) (new : Disks D) → IsLeft m f b → AreOf f b new
    → b.trouble ≡ Some Disk → JournalStopped m f (setting_of b.core) b.core.past (in_hand b.trouble b.core.owed) new
journal_stopped {D} m f b new left of disk =
    let s = setting_of b.core in
    let hand = in_hand b.trouble b.core.owed in
    let kept = payloads_in s (reverse b.core.past) in
    subst (λ (more : List (List ℕ)). PairStopped m f kept more new.journal new.spare) (sym (filter_map-append (entry_payload s.base) (reverse b.core.past) hand))
    (pair_stopped m f b.pair kept (payloads_in s hand) new.journal new.spare (gone_down m f b left disk) of.journal of.spare)

-- the entry in hand

-- the front of a run is a run
front_run : (s : ReplaySetting) (later h : List Entry) → IsReplay s (later ++ h) → IsReplay s h
front_run s [] h run = run
front_run s (e ∷ later) h run = front_run s later h run.0

-- with the first of what is owed it is one
first_run : (s : ReplaySetting) (owed h : List Entry) → IsReplay s h → IsReplay s (reverse owed ++ h) → IsReplay s (take 1 owed ++ h)
first_run s [] h run ahead = run
first_run s (e ∷ owed) h run ahead =
    let is : reverse (e ∷ owed) ++ h ≡ reverse owed ++ (e ∷ h) = ap (λ (es : List Entry). es ++ h) (reverse-append (e ∷ []) owed) ∙ append_assoc (reverse owed) (e ∷ []) h in
    front_run s (reverse owed) (e ∷ h) (subst (λ (es : List Entry). IsReplay s es) is ahead)

-- and it may be said

front_said : (s : ReplaySetting) (later h : List Entry) → AllMayBeSaid s.base (later ++ h) → AllMayBeSaid s.base h
front_said s [] h may = may
front_said s (e ∷ later) h may = front_said s later h may.0

first_said : (s : ReplaySetting) (owed h : List Entry) → AllMayBeSaid s.base (reverse owed ++ h) → AllMayBeSaid s.base (take 1 owed ++ h)
first_said s [] h ahead = ahead
first_said s (e ∷ owed) h ahead =
    let is : reverse (e ∷ owed) ++ h ≡ reverse owed ++ (e ∷ h) = ap (λ (es : List Entry). es ++ h) (reverse-append (e ∷ []) owed) ∙ append_assoc (reverse owed) (e ∷ []) h in
    front_said s (reverse owed) (e ∷ h) (subst (λ (es : List Entry). AllMayBeSaid s.base es) is ahead)

hand_said : (s : ReplaySetting) (why : Option Trouble) (owed h : List Entry) → AllMayBeSaid s.base (reverse owed ++ h) → AllMayBeSaid s.base (in_hand why owed ++ h)
hand_said s None owed h ahead = front_said s (reverse owed) h ahead
hand_said s (Some Disk) owed h ahead = first_said s owed h ahead
hand_said s (Some Dest) owed h ahead = front_said s (reverse owed) h ahead
hand_said s (Some (Changed change)) owed h ahead = front_said s (reverse owed) h ahead

hand_run : (s : ReplaySetting) (why : Option Trouble) (owed h : List Entry) → IsReplay s h → IsReplay s (reverse owed ++ h) → IsReplay s (in_hand why owed ++ h)
hand_run s None owed h run ahead = run
hand_run s (Some Disk) owed h run ahead = first_run s owed h run ahead
hand_run s (Some Dest) owed h run ahead = run
hand_run s (Some (Changed change)) owed h run ahead = run

-- where a disk failed it is what is owed
hand_owed : {D : Type 0} (b : BookState D) → OwesReplay (setting_of b.core) b.core.past b.core.owed → b.trouble ≡ Some Disk → OwesReplay (setting_of b.core) b.core.past (in_hand b.trouble b.core.owed)
hand_owed b owes disk = record {
  some = owes.some;
  is = ap (λ (why : Option Trouble). in_hand why b.core.owed) disk ∙ (ap (λ (es : List Entry). take 1 es) owes.is);
}

-- its moment is that of the end of the call
given_behind : (gave : ℕ → Bool) (s : ReplaySetting) (h : List Entry) (n : ℕ) (places : List ℕ) → 1 ≤ length (owed_replay s h).places → AreGiven gave h → AreGiven gave (Replayed n places (last_moment h) ∷ h)
given_behind gave s [] n places some given = absurd (let none : 1 ≤ 0 = some in omega (arith, none))
given_behind gave s (e ∷ h) n places some given =
    let last : IsGiven gave h (moment_of e) = given.1 in
    let is : moment_of e ≡ min (max last.0 (last_moment h)) MAX_MOMENT = last.2 in
    (given, (last.0, last.1, omega (arith, is)))

hand_given : (gave : ℕ → Bool) (s : ReplaySetting) (why : Option Trouble) (owed h : List Entry) → (why ≡ Some Disk → OwesReplay s h owed) → AreGiven gave h → AreGiven gave (in_hand why owed ++ h)
hand_given gave s None owed h owes given = given
hand_given gave s (Some Disk) owed h owes given =
    let o : OwesReplay s h owed = owes refl in
    let is : take 1 owed ≡ Replayed (owed_replay s h).shard (owed_replay s h).places (last_moment h) ∷ [] = ap (λ (es : List Entry). take 1 es) o.is in
    subst (λ (es : List Entry). AreGiven gave (es ++ h)) (sym is) (given_behind gave s h (owed_replay s h).shard (owed_replay s h).places o.some given)
hand_given gave s (Some Dest) owed h owes given = given
hand_given gave s (Some (Changed change)) owed h owes given = given

-- exactly one was being written then, and each `Replayed` has a payload
one_in_hand : {D : Type 0} (b : BookState D) → (b.trouble ≡ Some Disk → OwesReplay (setting_of b.core) b.core.past b.core.owed) → IsOneInHand (entry_payload (setting_of b.core).base) b.trouble b.core.owed
one_in_hand b owes disk =
    let s = setting_of b.core in
    let owed = owed_replay s b.core.past in
    let m = last_moment b.core.past in
    (Replayed owed.shard owed.places m, payload_of (says.Replayed owed.shard m owed.places (sequences_at s.base owed.shard owed.places)), (hand_owed b (owes disk) disk).is, refl)

-- all of it
pub headline : {D : Type 0} (m : DiskMeaning D) (gave : ℕ → Bool) (f : FilesState D) (b : BookState D) (new : Disks D) → AreLaws → IsLeft m f b → AreOf f b new → b.core.opened.said ≡ f.said → AreGiven gave b.core.past
    → Headline m gave f (setting_of b.core) b.core.past b.trouble (in_hand b.trouble b.core.owed) new
headline {D} m gave f b new laws left of said given =
    let s = setting_of b.core in
    let hand : IsReplay s (in_hand b.trouble b.core.owed ++ b.core.past) = hand_run s b.trouble b.core.owed b.core.past left.run left.ahead in
    let may : AllMayBeSaid s.base (in_hand b.trouble b.core.owed ++ b.core.past) = hand_said s b.trouble b.core.owed b.core.past left.may_be_said in
    let found : (n i : ℕ) → is_found_replayed s n i ≡ replayed_said (said_before f) n i = λ n i. ap (λ (told : SaidLists). is_replay_told told n i) said ∙ left.files.tells.replays n i in
    record {
      legal_trace = left.run;
      hand_is_run = hand;
      moments = given;
      hand_given = hand_given gave s b.trouble b.core.owed b.core.past left.owes given;
      journal_kept = journal_kept m f b new left of;
      journal_stopped = journal_stopped m f b new left of;
      may_be_said = may;
      journal_says = says_after f s b.core.past laws left.run (front_said s (reverse b.core.owed) b.core.past left.may_be_said) found;
      hand_says = says_after f s (in_hand b.trouble b.core.owed ++ b.core.past) laws hand may found;
      in_hand = is_in_hand (entry_payload s.base) b.trouble b.core.owed (one_in_hand b left.owes);
      hand_is_owed = λ disk. hand_owed b (left.owes disk) disk;
      crash = crash_kept m f b new left of;
      crash_since_opening = crash_opened m f b new left of;
      failures_same = of.failures;
      failures_read = subst (λ (d : D). IsOnlyRead m f.failures d) (sym of.failures) left.files.lines_read;
      all_replayed = left.settled;
      replayed_once = laws.once s b.core.past left.run;
      calls_named = laws.named s b.core.past left.run;
      replayed_as_answered = laws.answered s b.core.past left.run;
      succeeded_are_replayed = laws.succeeded s b.core.past left.run;
      hand_replayed_once = laws.once s (in_hand b.trouble b.core.owed ++ b.core.past) hand;
      hand_calls_named = laws.named s (in_hand b.trouble b.core.owed ++ b.core.past) hand;
      hand_as_answered = laws.answered s (in_hand b.trouble b.core.owed ++ b.core.past) hand;
      replayed_or_left = laws.left s b.core.past left.run;
      calls_within = laws.within s b.core.past left.run;
    }

-- nothing is owed of what succeeded, but where a disk failed
settled_by : (s : ReplaySetting) (h : List Entry) (o : Opened) (rose : Type 0) (why : Option Trouble) → (why ≡ None → (owed_replay s h).places ≡ []) → IsUncalled why h → IsCause rose o why → (why ≡ Some Disk → ⊥) → (owed_replay s h).places ≡ []
settled_by s h o rose None settled uncalled cause not = settled refl
settled_by s h o rose (Some Disk) settled uncalled cause not = absurd (not refl)
settled_by s h o rose (Some Dest) settled uncalled cause not = absurd cause
settled_by s h o rose (Some (Changed change)) settled uncalled cause not = ap (λ (past : List Entry). (owed_replay s past).places) uncalled

pub settled_but : {D : Type 0} (rose : Type 0) (b : BookState D) → IsSound b → IsCause rose b.core.opened b.trouble → (b.trouble ≡ Some Disk → ⊥) → (owed_replay (setting_of b.core) b.core.past).places ≡ []
settled_but rose b sound cause not = settled_by (setting_of b.core) b.core.past b.core.opened rose b.trouble sound.settled sound.uncalled cause not

-- the disk in use failed

rose_in_use : {D : Type 0} (m : DiskMeaning D) (swapped : Bool) (used other used' other' : D) → Rose (m.faults used) (m.faults used')
    → OneRose m (if swapped then other else used) (if swapped then used else other) (if swapped then other' else used') (if swapped then used' else other')
rose_in_use m false used other used' other' rose = inl rose
rose_in_use m true used other used' other' rose = inr rose

pub disk_rose : {D : Type 0} (m : DiskMeaning D) (f : FilesState D) (b : BookState D) (new : Disks D) → IsLeft m f b → AreOf f b new
    → Rose (m.faults b.found.used) (m.faults b.pair.used) → JournalRose m f new
disk_rose {D} m f b new left of rose =
    let swapped : b.pair.swapped ≡ f.pair.swapped = left.journal.swapped ∙ ap (λ (p : PairState D). p.swapped) left.found in
    let from : Rose (m.faults f.pair.used) (m.faults b.pair.used) = subst (λ (p : PairState D). Rose (m.faults p.used) (m.faults b.pair.used)) left.found rose in
    let one : OneRose m (first_disk f.pair) (second_disk f.pair) (if f.pair.swapped then b.pair.spare else b.pair.used) (if f.pair.swapped then b.pair.used else b.pair.spare) =
    rose_in_use m f.pair.swapped f.pair.used f.pair.spare b.pair.used b.pair.spare from in
    let now : OneRose m (first_disk f.pair) (second_disk f.pair) (first_disk b.pair) (second_disk b.pair) =
    subst (λ (s : Bool). OneRose m (first_disk f.pair) (second_disk f.pair) (if s then b.pair.spare else b.pair.used) (if s then b.pair.used else b.pair.spare)) (sym swapped) one in
    subst (λ (d : D). OneRose m (first_disk f.pair) (second_disk f.pair) d new.spare) (sym of.journal) (subst (λ (d : D). OneRose m (first_disk f.pair) (second_disk f.pair) (first_disk b.pair) d) (sym of.spare) now)
