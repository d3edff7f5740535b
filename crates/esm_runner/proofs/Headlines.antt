-- The headline, from what is left of a run.
use Rattle.std.proofs.Common.{◌≡◌, ◌∙◌, ◌≤◌, ℕ, Bool, true, false, List, [], ◌∷◌, ◌++◌, length, map, take, Option, Some, None, ap, ap₂, arith, inl, inr, refl, subst, sym}
use Rattle.std.specs.Prelude.{reverse, if◌then◌else◌, IsSome}
use Rattle.std.proofs.lemmas.List.{append-nil, append_assoc}
use Rattle.std.proofs.lemmas.List.Elements.{filter_map-append}
use Rattle.esm_io.specs.Faults.{Rose}
use Rattle.esm_io.specs.Meanings.{DiskMeaning}
use Rattle.esm_journal.specs.File.{header_of}
use Rattle.esm_journal.specs.Pair.{PairOpensTo, PairState, first_disk, second_disk}
use Rattle.esm_journal.specs.State.{JournalState, Keeps, KeepsWhileUp, KeepsWhileDown, StillOpens}
use Rattle.esm_model.specs.declared.book.Trouble.{Trouble}
use Rattle.esm_model.specs.declared.book.Trouble.TheVariants.{Disk, Dest, Changed}
use Rattle.esm_model.specs.declared.called.Called.{Called}
use Rattle.esm_model.specs.declared.entry.Entry.{Entry}
use Rattle.esm_model.specs.Setting.{Setting}
use Rattle.esm_model.specs.Calls.{calls, calls_since, last_event}
use Rattle.esm_model.specs.Earned.{IsLogged}
use Rattle.esm_model.specs.Entries.{batcher}
use Rattle.esm_journal_record.specs.EntryPayload.{entry_payload}
use Rattle.esm_book.specs.State.{in_delivery, in_hand, is_dest, is_disk}
use Rattle.esm_stream_core.specs.CoreView.{full_setting, lines_of}
use Rattle.esm_folder.specs.Upkeep.{AreHonest, AreOnlyRead, OneRose, PairHolds}
use Rattle.esm_folder.proofs.OpenedDisks.{are_honest, pair_holds}
use Rattle.esm_stream_book.specs.Books.{BookState, OpensToFirst, payloads_in}
use Rattle.esm_stream_book.specs.Keeping.{entries_left}
use Rattle.esm_stream_book.specs.Moments.{AreTimed, IsTimed, IsTimedView}
use Rattle.esm_runner.specs.Given.{AreGiven}
use Rattle.esm_runner.specs.Files.{FilesState}
use Rattle.esm_runner.specs.Headline.{AnswersAreLogged, CrashKept, CrashKeptSinceOpening, Devices, FailureLinesKept, HandFollows, HandIsGiven, Headline, IsInHand, JournalKept, JournalStopped, LinesKept, LinesStopped, OpensToFrontOf, PairStopped, Telling}
use Rattle.esm_runner.specs.Runs.{IsLeft, file_dest}
use Rattle.esm_runner.specs.Laws.{AreLaws, PayloadsStay}
use Rattle.esm_runner.proofs.FailureImages.{dest_honest, lines_crash}
use Rattle.esm_runner.proofs.Payloads.{all_stay, left_stays, own_legal}
use Rattle.esm_runner.proofs.Stopped.{HasGoneDown, filter_map_few, in_order, pair_stopped}

-- the devices are those of the book
pub record AreOf {D F : Type 0} (b : BookState D (JournalState D)) (new : Devices D F) : Type 0 where
  pub journal : new.journal ≡ first_disk b.pair
  pub spare : new.spare ≡ second_disk b.pair
  pub failures : new.failures ≡ b.dest.disk

-- the entry in hand

pub in_hand_few : (why : Option Trouble) (owed : List Entry) → length (in_hand why owed) ≤ 1
in_hand_few None owed = omega arith
in_hand_few (Some Disk) [] = omega arith
in_hand_few (Some Disk) (e ∷ owed) = omega arith
in_hand_few (Some Dest) owed = omega arith
in_hand_few (Some (Changed change)) owed = omega arith

-- exactly one was being written where a disk failed
abbrev pub IsOneInHand : (text : Entry → Option (List ℕ)) → Option Trouble → List Entry → Type 0
IsOneInHand text why owed = why ≡ Some Disk → (e : Entry) × (payload : List ℕ) × (in_hand why owed ≡ e ∷ []) × (text e ≡ Some payload)

pub is_in_hand : (text : Entry → Option (List ℕ)) (why : Option Trouble) (owed : List Entry) → IsOneInHand text why owed → IsInHand why (in_hand why owed)
is_in_hand text None owed one = refl
is_in_hand text (Some Disk) owed one = let is = one refl in (is.0, is.2)
is_in_hand text (Some Dest) owed one = refl
is_in_hand text (Some (Changed change)) owed one = refl

-- and it has a payload
pub hand_has : (text : Entry → Option (List ℕ)) (why : Option Trouble) (owed : List Entry) → IsOneInHand text why owed → (e : Entry) → in_hand why owed ≡ e ∷ [] → IsSome (text e)
hand_has text None owed one e some = absurd (cc)
hand_has text (Some Disk) owed one e some =
    let is = one refl in
    let both : is.0 ∷ [] ≡ e ∷ [] = sym is.2 ∙ some in
    let same : is.0 ≡ e = cc in
    subst (λ (x : Entry). IsSome (text x)) same (subst (λ (o : Option (List ℕ)). IsSome o) (sym is.3) refl)
hand_has text (Some Dest) owed one e some = absurd (cc)
hand_has text (Some (Changed change)) owed one e some = absurd (cc)

pub not_disk : (why : Option Trouble) → (why ≡ Some Disk → ⊥) → is_disk why ≡ false
not_disk None not = refl
not_disk (Some Disk) not = absurd (not refl)
not_disk (Some Dest) not = refl
not_disk (Some (Changed change)) not = refl

-- the journal

honest_found : {D : Type 0} {line : List ℕ → List ℕ} (m : DiskMeaning D) (f : FilesState D) (b : BookState D (JournalState D)) → IsLeft m line f b → AreHonest m f.journal f.spare → (m.honest b.pair.used ≡ true) × (m.honest b.pair.spare ≡ true)
honest_found {D} m f b left honest =
    let was = are_honest m f.pair.swapped f.journal f.spare f.pair.used f.pair.spare left.files.read honest in
    let used : m.honest b.found.used ≡ true = subst (λ (p : PairState D). m.honest p.used ≡ true) (sym left.found) was.0 in
    let spare : m.honest b.found.spare ≡ true = subst (λ (p : PairState D). m.honest p.spare ≡ true) (sym left.found) was.1 in
    (left.journal.honesty ∙ used, subst (λ (d : D). m.honest d ≡ true) (sym left.journal.spare) spare)

all_payloads : {D : Type 0} {line : List ℕ → List ℕ} (m : DiskMeaning D) (f : FilesState D) (b : BookState D (JournalState D)) → PayloadsStay → IsLeft m line f b → b.pair.payloads ≡ f.pair.payloads ++ payloads_in b.core.setting (reverse b.core.past)
all_payloads {D} m f b stay left =
    left.journal.payloads ∙ ap₂ (λ (xs ys : List (List ℕ)). xs ++ ys) (ap (λ (p : PairState D). p.payloads) left.found) (all_stay stay b.core left.legal)

holds_all : {D : Type 0} {line : List ℕ → List ℕ} (m : DiskMeaning D) (f : FilesState D) (b : BookState D (JournalState D)) → PayloadsStay → IsLeft m line f b → is_disk b.trouble ≡ false → AreHonest m f.journal f.spare
    → PairHolds m f.pair.epoch (f.pair.payloads ++ payloads_in b.core.setting (reverse b.core.past)) (first_disk b.pair) (second_disk b.pair)
holds_all {D} m f b stay left up honest =
    let both = honest_found m f b left honest in
    let now : PairHolds m b.pair.epoch b.pair.payloads (first_disk b.pair) (second_disk b.pair) =
    pair_holds m b.pair.epoch b.pair.payloads b.pair.swapped b.pair.used b.pair.spare (left.pair_kept both.0 both.1 (left.journal.down ∙ up)) in
    let payloads = all_payloads m f b stay left in
    let epoch : b.pair.epoch ≡ f.pair.epoch = left.journal.epoch ∙ ap (λ (p : PairState D). p.epoch) left.found in
    subst (λ (n : ℕ). PairHolds m n (f.pair.payloads ++ payloads_in b.core.setting (reverse b.core.past)) (first_disk b.pair) (second_disk b.pair)) epoch
    (subst (λ (list : List (List ℕ)). PairHolds m b.pair.epoch list (first_disk b.pair) (second_disk b.pair)) payloads now)

journal_kept : {D F : Type 0} (t : Telling D F) (f : FilesState D) (b : BookState D (JournalState D)) (new : Devices D F) → PayloadsStay → IsLeft t.disk t.line f b → AreOf b new
    → (b.trouble ≡ Some Disk → ⊥) → JournalKept t f b.core.setting b.core.past new
journal_kept {D} t f b new stay left of not honest =
    let list = f.pair.payloads ++ payloads_in b.core.setting (reverse b.core.past) in
    subst (λ (d : D). PairHolds t.disk f.pair.epoch list d new.spare) (sym of.journal)
    (subst (λ (d : D). PairHolds t.disk f.pair.epoch list (first_disk b.pair) d) (sym of.spare)
    (holds_all t.disk f b stay left (not_disk b.trouble not) honest))

-- the failure lines

-- the destination has these lines behind those that were found
lines_grown : {D : Type 0} {line : List ℕ → List ℕ} (m : DiskMeaning D) (f : FilesState D) (b : BookState D (JournalState D)) → IsLeft m line f b → b.dest.payloads ≡ f.dest.payloads ++ map line (lines_of (entries_left b))
lines_grown {D} {line} m f b left =
    let lines = map line (lines_of (entries_left b)) in
    let grown : ◌≡◌ {A = Option (List (List ℕ))} (Some b.dest.payloads) (Some (b.found_dest.payloads ++ lines)) = left.lines.lines in
    let told : b.dest.payloads ≡ b.found_dest.payloads ++ lines = cc in
    told ∙ ap (λ (d : JournalState D). d.payloads ++ lines) left.found_dest

lines_up : {D F : Type 0} (t : Telling D F) (f : FilesState D) (d : JournalState D) (lines : List (List ℕ)) (new : Devices D F) → d.payloads ≡ f.dest.payloads ++ lines → d.down ≡ false
    → (t.disk.honest f.failures ≡ true → t.disk.honest d.disk ≡ true) → KeepsWhileUp t.disk d → new.failures ≡ d.disk → LinesKept t f lines new
lines_up {D} t f d lines new grown up still kept is honest =
    subst (λ (x : D). Keeps t.disk (header_of 1) (f.dest.payloads ++ lines) x) (sym is)
    (subst (λ (list : List (List ℕ)). Keeps t.disk (header_of 1) list d.disk) grown (kept (still honest) up))

lines_down : {D F : Type 0} (t : Telling D F) (f : FilesState D) (d : JournalState D) (lines : List (List ℕ)) (new : Devices D F) → d.payloads ≡ f.dest.payloads ++ lines → d.down ≡ true
    → (t.disk.honest f.failures ≡ true → t.disk.honest d.disk ≡ true) → KeepsWhileDown t.disk d → new.failures ≡ d.disk → LinesStopped t f lines new
lines_down {D} t f d lines new grown down still stopped is honest =
    subst (λ (x : D). StillOpens t.disk (header_of 1) (f.dest.payloads ++ lines) x) (sym is)
    (subst (λ (list : List (List ℕ)). StillOpens t.disk (header_of 1) list d.disk) grown (stopped (still honest) down))

lines_kept : {D F : Type 0} (t : Telling D F) (f : FilesState D) (d : JournalState D) (why : Option Trouble) (h owed : List Entry) (new : Devices D F)
    → d.payloads ≡ f.dest.payloads ++ map t.line (lines_of (reverse h ++ in_hand why owed)) → d.down ≡ is_dest why
    → (t.disk.honest f.failures ≡ true → t.disk.honest d.disk ≡ true) → KeepsWhileUp t.disk d → KeepsWhileDown t.disk d → new.failures ≡ d.disk
    → FailureLinesKept t f why h (in_hand why owed) new
lines_kept t f d None h owed new grown failed still kept stopped is = lines_up t f d (map t.line (lines_of (reverse h ++ []))) new grown failed still kept is
lines_kept t f d (Some Disk) h owed new grown failed still kept stopped is = lines_up t f d (map t.line (lines_of (reverse h ++ take 1 owed))) new grown failed still kept is
lines_kept t f d (Some Dest) h owed new grown failed still kept stopped is =
    let all : d.payloads ≡ f.dest.payloads ++ map t.line (lines_of (reverse h)) = grown ∙ ap (λ (es : List Entry). f.dest.payloads ++ map t.line (lines_of es)) (append-nil (reverse h)) in
    lines_down t f d (map t.line (lines_of (reverse h))) new all failed still stopped is
lines_kept t f d (Some (Changed change)) h owed new grown failed still kept stopped is = lines_up t f d (map t.line (lines_of (reverse h ++ []))) new grown failed still kept is

-- a crash

opens_to_front : {D : Type 0} {line : List ℕ → List ℕ} (m : DiskMeaning D) (f : FilesState D) (b : BookState D (JournalState D)) (one other : List ℕ) → PayloadsStay → IsLeft m line f b
    → OpensToFirst (file_dest m line) (full_setting b.core) b.found.epoch b.found.payloads b.found_dest b.dest (entries_left b) one other
    → OpensToFrontOf b.core.setting f.pair.epoch f.pair.payloads (entries_left b) one other
opens_to_front {D} m f b one other stay left o =
    let hand = in_hand b.trouble b.core.owed in
    let same : payloads_in (full_setting b.core) o.front ≡ payloads_in b.core.setting o.front =
    left_stays stay b.core left.legal hand o.front o.rest (in_hand_few b.trouble b.core.owed) left.hand o.split in
    record {
      front = o.front;
      rest = o.rest;
      split = o.split;
      opens = subst (λ (p : PairState D). PairOpensTo (header_of 2) p.epoch (p.payloads ++ payloads_in b.core.setting o.front) one other) left.found
          (subst (λ (list : List (List ℕ)). PairOpensTo (header_of 2) b.found.epoch (b.found.payloads ++ list) one other) same o.opens);
    }

crash_kept : {D F : Type 0} (t : Telling D F) (f : FilesState D) (b : BookState D (JournalState D)) (new : Devices D F) → PayloadsStay → IsLeft t.disk t.line f b → AreOf b new
    → CrashKept t f b.core.setting b.core.past (in_hand b.trouble b.core.owed) new
crash_kept {D} t f b new stay left of honest settled one other since other_since =
    opens_to_front t.disk f b one other stay left
    (left.since honest.0 honest.1 settled.0 settled.1 one other
    (subst (λ (d : D). t.disk.since d (t.disk.moment f.journal) one) of.journal since)
    (subst (λ (d : D). t.disk.since d (t.disk.moment f.spare) other) of.spare other_since))

-- since the opening
opened_to_front : {D : Type 0} {line : List ℕ → List ℕ} (m : DiskMeaning D) (f : FilesState D) (b : BookState D (JournalState D)) → PayloadsStay → IsLeft m line f b → m.honest f.pair.used ≡ true → m.honest f.pair.spare ≡ true
    → (one other : List ℕ) → m.since b.pair.used (m.moment f.pair.used) one → m.since b.pair.spare (m.moment f.pair.spare) other → OpensToFrontOf b.core.setting f.pair.epoch f.pair.payloads (entries_left b) one other
opened_to_front {D} m f b stay left used spare one other since other_since =
    opens_to_front m f b one other stay left
    (left.opened_since (subst (λ (p : PairState D). m.honest p.used ≡ true) (sym left.found) used) (subst (λ (p : PairState D). m.honest p.spare ≡ true) (sym left.found) spare) one other
    (subst (λ (p : PairState D). m.since b.pair.used (m.moment p.used) one) (sym left.found) since)
    (subst (λ (p : PairState D). m.since b.pair.spare (m.moment p.spare) other) (sym left.found) other_since))

crash_opened : {D F : Type 0} (t : Telling D F) (f : FilesState D) (b : BookState D (JournalState D)) (new : Devices D F) → PayloadsStay → IsLeft t.disk t.line f b → AreOf b new
    → CrashKeptSinceOpening t f b.core.setting b.core.past (in_hand b.trouble b.core.owed) new
crash_opened {D} t f b new stay left of honest one other since other_since =
    let m = t.disk in
    let both = are_honest m f.pair.swapped f.journal f.spare f.pair.used f.pair.spare left.files.read honest in
    let swapped : b.pair.swapped ≡ f.pair.swapped = left.journal.swapped ∙ ap (λ (p : PairState D). p.swapped) left.found in
    in_order m f.pair.swapped f.pair.used f.pair.spare b.pair.used b.pair.spare (OpensToFrontOf b.core.setting f.pair.epoch f.pair.payloads (entries_left b))
    (opened_to_front m f b stay left both.0 both.1) (λ x y o. record { front = o.front; rest = o.rest; split = o.split; opens = (o.opens.1, o.opens.0) }) one other
    (subst (λ (s : Bool). m.since (if s then b.pair.spare else b.pair.used) (m.moment (first_disk f.pair)) one) swapped (subst (λ (d : D). m.since d (m.moment (first_disk f.pair)) one) of.journal since))
    (subst (λ (s : Bool). m.since (if s then b.pair.used else b.pair.spare) (m.moment (second_disk f.pair)) other) swapped (subst (λ (d : D). m.since d (m.moment (second_disk f.pair)) other) of.spare other_since))

-- a disk that failed

parts_left : (s : Setting) (front rest es hand : List Entry) → front ++ rest ≡ es ++ hand → payloads_in s front ++ payloads_in s rest ≡ payloads_in s es ++ payloads_in s hand
parts_left s front rest es hand split =
    sym (filter_map-append (entry_payload s) front rest) ∙ (ap (payloads_in s) split ∙ filter_map-append (entry_payload s) es hand)

gone_down : {D : Type 0} {line : List ℕ → List ℕ} (m : DiskMeaning D) (f : FilesState D) (b : BookState D (JournalState D)) → PayloadsStay → IsLeft m line f b → b.trouble ≡ Some Disk
    → HasGoneDown m f b.pair (payloads_in b.core.setting (reverse b.core.past)) (payloads_in b.core.setting (in_hand b.trouble b.core.owed))
gone_down {D} m f b stay left disk =
    let s = b.core.setting in
    let hand = in_hand b.trouble b.core.owed in
    let few = filter_map_few (entry_payload s) hand in
    let fewer = in_hand_few b.trouble b.core.owed in
    record {
      honest = honest_found m f b left;
      honest_first = are_honest m f.pair.swapped f.journal f.spare f.pair.used f.pair.spare left.files.read;
      down = left.journal.down ∙ ap is_disk disk;
      epoch = left.journal.epoch ∙ ap (λ (p : PairState D). p.epoch) left.found;
      swapped = left.journal.swapped ∙ ap (λ (p : PairState D). p.swapped) left.found;
      payloads = all_payloads m f b stay left;
      few = omega (arith, few, fewer);
      still = left.pair_stopped;
      leaves = λ used spare one other since other_since.
          let o = opened_to_front m f b stay left used spare one other since other_since in
          record {
            front = payloads_in s o.front;
            rest = payloads_in s o.rest;
            split = parts_left b.core.setting o.front o.rest (reverse b.core.past) hand o.split;
            opens = o.opens;
          };
    }

journal_stopped : {D F : Type 0} (t : Telling D F) (f : FilesState D) (b : BookState D (JournalState D)) (new : Devices D F) → PayloadsStay → IsLeft t.disk t.line f b → AreOf b new
    → b.trouble ≡ Some Disk → JournalStopped t f b.core.setting b.core.past (in_hand b.trouble b.core.owed) new
journal_stopped {D} t f b new stay left of disk =
    let s = b.core.setting in
    let hand = in_hand b.trouble b.core.owed in
    let kept = payloads_in s (reverse b.core.past) in
    subst (λ (more : List (List ℕ)). PairStopped t.disk f kept more new.journal new.spare) (sym (filter_map-append (entry_payload s) (reverse b.core.past) hand))
    (pair_stopped t.disk f b.pair kept (payloads_in s hand) new.journal new.spare (gone_down t.disk f b stay left disk) of.journal of.spare)

-- the answers

answers_logged : {D F : Type 0} (t : Telling D F) (s : Setting) (h : List Entry) → AreLaws → AnswersAreLogged t s h
answers_logged t s h laws later before lane split end =
    let sends = t.callers.sends in
    let k = batcher s end.earlier lane in
    let logged : IsLogged sends end = laws.logged s sends before lane end in
    let made : Called = record { name = s.config.function; event = sends (last_event s end.earlier lane); reply = end.reply } in
    let since = calls_since s sends later before k in (
      logged.0,
      logged.1 ++ since,
      ap (λ (g : List Entry). calls s sends g k) split
          ∙ ((laws.calls s sends later before k).kept
          ∙ (ap (λ (cs : List Called). cs ++ since) logged.2
          ∙ append_assoc logged.0 (made ∷ logged.1) since)),
    )

-- the moment of an entry that is not added, of which a clock gave the moment

one_timed : (gave : ℕ → Bool) (es : List Entry) (e : Entry) → AreTimed gave es → es ≡ e ∷ [] → IsTimed gave e
one_timed gave es e timed is = (subst (AreTimed gave) is timed).0

given_behind : (gave : ℕ → Bool) (s : Setting) (h hand : List Entry) (follows : HandFollows s h hand) → AreLaws → AreTimed gave hand → HandIsGiven gave s h hand follows
given_behind gave s h hand follows laws timed e some = laws.front_timed gave s h e (follows e some) (one_timed gave hand e timed some)

-- all of it
pub headline : {D F : Type 0} (t : Telling D F) (f : FilesState D) (b : BookState D (JournalState D)) (new : Devices D F) → AreLaws → IsLeft t.disk t.line f b → AreOf b new → AreGiven t.callers.gave b.core.past
    → IsTimedView t.callers.gave b.core → Headline t f b.core.setting b.core.past b.trouble (in_hand b.trouble b.core.owed) new
headline t f b new laws left of given timed =
    let hand_given = given_behind t.callers.gave b.core.setting b.core.past (in_hand b.trouble b.core.owed) left.hand_follows laws (laws.hand_timed t.callers.gave b.core b.trouble timed) in
    let tried_given = given_behind t.callers.gave b.core.setting b.core.past (in_delivery b.trouble b.core.owed) left.tried_follows laws (laws.tried_timed t.callers.gave b.core b.trouble timed) in
    let own = own_legal b.core.setting b.core.past left.legal in
    record {
      legal_trace = left.legal;
      settled = left.settled;
      can_be_said = left.can_be_said;
      moments = given;
      journal_kept = journal_kept t f b new laws.stay left of;
      journal_stopped = journal_stopped t f b new laws.stay left of;
      failure_lines_kept = lines_kept t f b.dest b.trouble b.core.past b.core.owed new (lines_grown t.disk f b left) left.lines.failed (dest_honest t.disk t.line f b left) left.dest_kept left.dest_stopped of.failures;
      failure_lines_crash = lines_crash t f b new left tried_given of.failures;
      in_hand = is_in_hand (entry_payload b.core.setting) b.trouble b.core.owed left.hand_is_one;
      hand_has_payload = hand_has (entry_payload b.core.setting) b.trouble b.core.owed left.hand_is_one;
      hand_follows = left.hand_follows;
      hand_given = hand_given;
      crash = crash_kept t f b new laws.stay left of;
      crash_since_opening = crash_opened t f b new laws.stay left of;
      one_fate = laws.one b.core.setting b.core.past own;
      fate_is_earned = laws.earned b.core.setting b.core.past own;
      answers_are_logged = answers_logged t b.core.setting b.core.past laws;
      fates_are_recorded = laws.fates b.core.setting b.core.past f.said f.pair.payloads own left.can_be_said.entries left.files.tells left.fates;
      checkpoint_is_longest = laws.longest b.core.setting b.core.past;
      checkpoint_is_recorded = laws.kept b.core.setting b.core.past f.said f.pair.payloads own left.can_be_said.entries left.files.tells left.fates;
      order_per_key = laws.order b.core.setting b.core.past own;
      no_repeat = laws.once b.core.setting b.core.past own;
      every_record_counted = laws.counted b.core.setting b.core.past;
    }

-- the disk in use failed

rose_before : (first before now : ℕ) → first ≤ before → Rose before now → Rose first now
rose_before first before now lower rose = λ fits. let above = rose fits in omega (arith, lower, above)

pub used_rose : {D : Type 0} (m : DiskMeaning D) (swapped : Bool) (journal spare used other used' other' : D) → AreOnlyRead m journal spare (if swapped then other else used) (if swapped then used else other)
    → Rose (m.faults used) (m.faults used') → OneRose m journal spare (if swapped then other' else used') (if swapped then used' else other')
used_rose m false journal spare used other used' other' read rose = inl (rose_before _ _ _ read.0.never_falls rose)
used_rose m true journal spare used other used' other' read rose = inr (rose_before _ _ _ read.1.never_falls rose)

pub disk_rose : {D F : Type 0} {line : List ℕ → List ℕ} (m : DiskMeaning D) (f : FilesState D) (b : BookState D (JournalState D)) (new : Devices D F) → IsLeft m line f b → AreOf b new
    → Rose (m.faults b.found.used) (m.faults b.pair.used) → OneRose m f.journal f.spare new.journal new.spare
disk_rose {D} m f b new left of rose =
    let swapped : b.pair.swapped ≡ f.pair.swapped = left.journal.swapped ∙ ap (λ (p : PairState D). p.swapped) left.found in
    let from : Rose (m.faults f.pair.used) (m.faults b.pair.used) = subst (λ (p : PairState D). Rose (m.faults p.used) (m.faults b.pair.used)) left.found rose in
    let one : OneRose m f.journal f.spare (if f.pair.swapped then b.pair.spare else b.pair.used) (if f.pair.swapped then b.pair.used else b.pair.spare) =
    used_rose m f.pair.swapped f.journal f.spare f.pair.used f.pair.spare b.pair.used b.pair.spare left.files.read from in
    let now : OneRose m f.journal f.spare (first_disk b.pair) (second_disk b.pair) =
    subst (λ (s : Bool). OneRose m f.journal f.spare (if s then b.pair.spare else b.pair.used) (if s then b.pair.used else b.pair.spare)) (sym swapped) one in
    subst (λ (d : D). OneRose m f.journal f.spare d new.spare) (sym of.journal) (subst (λ (d : D). OneRose m f.journal f.spare (first_disk b.pair) d) (sym of.spare) now)

pub dest_rose : {D F : Type 0} {line : List ℕ → List ℕ} (m : DiskMeaning D) (f : FilesState D) (b : BookState D (JournalState D)) (new : Devices D F) → IsLeft m line f b → AreOf b new
    → Rose (m.faults b.found_dest.disk) (m.faults b.dest.disk) → Rose (m.faults f.dest.disk) (m.faults new.failures)
dest_rose {D} m f b new left of rose =
    let from : Rose (m.faults f.dest.disk) (m.faults b.dest.disk) = subst (λ (d : JournalState D). Rose (m.faults d.disk) (m.faults b.dest.disk)) left.found_dest rose in
    subst (λ (d : D). Rose (m.faults f.dest.disk) (m.faults d)) (sym of.failures) from
