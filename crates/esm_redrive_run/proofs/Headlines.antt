-- The headline of a redrive, from what is left of its run.
use Rattle.std.proofs.Common.{◌≡◌, ◌∙◌, ℕ, ◌<◌, ◌≤◌, ◌^◌, Bool, true, false, List, [], ◌∷◌, ◌++◌, length, map, take, Option, Some, None, ap, ap₂, append-nil, append_assoc, arith, inl, inr, refl, subst, sym}
use Rattle.std.specs.Prelude.{reverse, if◌then◌else◌}
use Rattle.std.proofs.lemmas.List.Elements.{filter_map-append}
use Rattle.esm_io.specs.Faults.{Rose}
use Rattle.esm_io.specs.Images.{Only}
use Rattle.esm_io.specs.Meanings.{DiskMeaning}
use Rattle.esm_journal.specs.File.{header_of}
use Rattle.esm_journal.specs.Pair.{PairOpensTo, PairState, first_disk, second_disk}
use Rattle.esm_journal.specs.State.{JournalState, Keeps, OpensTo}
use Rattle.esm_model.specs.declared.book.Trouble.{Trouble}
use Rattle.esm_model.specs.declared.book.Trouble.TheVariants.{Disk, Dest, Changed}
use Rattle.esm_model.specs.declared.entry.Entry.{Entry}
use Rattle.esm_model.specs.Books.{entry_line}
use Rattle.esm_model.specs.Entries.{CallsFollowShut, moment_of}
use Rattle.esm_queue_model.specs.QueueSetting.{is_fifo}
use Rattle.esm_book.specs.Decided.{written_of}
use Rattle.esm_book.specs.Growth.{IsHeld, OpensToFront, ReadsFront}
use Rattle.esm_book.specs.State.{in_delivery, in_hand, is_dest, is_disk}
use Rattle.esm_folder.specs.Upkeep.{AreHonest, OneRose, PairHolds}
use Rattle.esm_folder.proofs.OpenedDisks.{are_honest, pair_holds}
use Rattle.esm_journal_record.specs.EntryPayload.{queue_payload}
use Rattle.esm_queue_book.specs.Books.{payloads_in}
use Rattle.esm_redrive_core.specs.Told.{redrive_entry}
use Rattle.esm_redrive_book.specs.Books.{redrive_meaning, payload_in, line_in}
use Rattle.esm_redrive_core.specs.Told.{owed_of}
use Rattle.esm_redrive_book.specs.Keeping.{FollowsFront, entries_left}
use Rattle.esm_redrive_book.specs.Moments.{AreTimed, IsTimedView}
use Rattle.esm_redrive_model.specs.RedriveSetting.{RedriveSetting, HaveSameIds, redrive_over, with_dead_ids}
use Rattle.esm_redrive_life.specs.Content.{HasValidMessages, IsOpenedOver}
use Rattle.esm_redrive_model.specs.RedriveLaws.{HaveDifferentIds}
use Rattle.esm_redrive_model.specs.RedriveStep.{SettledRedrive}
use Rattle.esm_runner.specs.Files.{FilesState}
use Rattle.esm_runner.specs.Given.{AreGiven, IsGiven}
use Rattle.esm_runner.specs.Headline.{PairStopped}
use Rattle.esm_runner.proofs.Headlines.{hand_has, in_hand_few, is_in_hand, not_disk}
use Rattle.esm_runner.proofs.Stopped.{HasGoneDown, filter_map_few, in_order, pair_stopped}
use Rattle.esm_redrive_run.specs.Book.{Book}
use Rattle.esm_redrive_run.specs.Headline.{CrashKept, CrashKeptSinceOpening, DeadLettersKept, Disks, Headline, IsTried, JournalKept, JournalStopped, LettersCrashKept, LettersCrashKeptSinceOpening, LinesKept, LinesStandFirst, LinesStandFirstSinceOpening, OpensToFrontOf, OpensToLettersOf, OpensWithLetters, dead_letters}
use Rattle.esm_redrive_run.specs.Laws.{AreLaws}
use Rattle.esm_redrive_run.specs.Runs.{IsLeft, dead_file}
use Rattle.esm_redrive_run.proofs.AllEarned.{all_earned}
use Rattle.esm_redrive_run.proofs.Earned.{only_earned}
use Rattle.esm_redrive_run.proofs.Moving.{further_moves}
use Rattle.esm_redrive_run.proofs.Orderly.{deleted_once_in, order_per_group_in, replies_logged}
use Rattle.esm_redrive_run.proofs.Reasons.{found_for_these}
use Rattle.esm_redrive_run.proofs.Settling.{settled_ids, settled_why}
use Rattle.esm_redrive_run.proofs.Written.{all_lines_are, first_letters, left_is, lines_left_are, paid_is, parted, payloads_are, tried_lines_are}

-- of the disks of a pair, by their order in it, the one in use failed
one_rose : {D : Type 0} (m : DiskMeaning D) (swapped : Bool) (used spare now other : D) → Rose (m.faults used) (m.faults now)
    → OneRose m (if swapped then spare else used) (if swapped then used else spare) (if swapped then other else now) (if swapped then now else other)
one_rose m false used spare now other rose = inl rose
one_rose m true used spare now other rose = inr rose

-- an entry is tried where the file failed, and then exactly one
is_tried_so : (why : Option Trouble) (owed : List Entry) → (why ≡ Some Dest → (e : Entry) × (line : List ℕ) × (in_delivery why owed ≡ e ∷ []) × (entry_line e ≡ Some line)) → IsTried why (in_delivery why owed)
is_tried_so None owed one = refl
is_tried_so (Some Disk) owed one = refl
is_tried_so (Some Dest) owed one = one refl
is_tried_so (Some (Changed change)) owed one = refl

-- the clock gave the moment of the only one of these entries, behind the front that it follows
given_behind : (gave : ℕ → Bool) (s : RedriveSetting) (h es : List Entry) (e : Entry) → AreLaws → AreTimed gave es → es ≡ e ∷ [] → (follows : FollowsFront s h e) → IsGiven gave follows.before (moment_of e)
given_behind gave s h es e laws timed some follows =
    let one : AreTimed gave (e ∷ []) = subst (AreTimed gave) some timed in
    laws.front gave s h e follows one.0

-- the devices are those of the book
pub record AreOf {D : Type 0} (b : Book D) (new : Disks D) : Type 0 where
  pub journal : new.journal ≡ first_disk b.pair
  pub spare : new.spare ≡ second_disk b.pair
  pub dead : new.dead ≡ b.dest.disk

module _ {D : Type 0} (m : DiskMeaning D) (f : FilesState D) (b : Book D) (left : IsLeft m f b) where
  abbrev own : RedriveSetting
  own = b.core.setting

  abbrev hand : List Entry
  hand = in_hand b.trouble b.core.owed

  abbrev tried : List Entry
  tried = in_delivery b.trouble b.core.owed

  -- the journal

  honest_found : AreHonest m f.journal f.spare → (m.honest b.pair.used ≡ true) × (m.honest b.pair.spare ≡ true)
  honest_found honest =
      let was = are_honest m f.pair.swapped f.journal f.spare f.pair.used f.pair.spare left.files.read honest in
      let used : m.honest b.found.used ≡ true = subst (λ (p : PairState D). m.honest p.used ≡ true) (sym left.found) was.0 in
      let spare : m.honest b.found.spare ≡ true = subst (λ (p : PairState D). m.honest p.spare ≡ true) (sym left.found) was.1 in
      (left.written.grown.appended.honesty ∙ used, subst (λ (d : D). m.honest d ≡ true) (sym left.written.grown.appended.spare) spare)

  all_payloads : b.pair.payloads ≡ f.pair.payloads ++ payloads_in own.queue.messages (reverse b.core.past)
  all_payloads =
      left.written.grown.appended.payloads
      ∙ ap₂ (λ (xs ys : List (List ℕ)). xs ++ ys) (ap (λ (p : PairState D). p.payloads) left.found)
      (ap (written_of payload_in) (paid_is b left.sound left.consistent) ∙ payloads_are own.queue.messages (reverse b.core.past))

  epoch_is : b.pair.epoch ≡ f.pair.epoch
  epoch_is = left.written.grown.appended.epoch ∙ ap (λ (p : PairState D). p.epoch) left.found

  swapped_is : b.pair.swapped ≡ f.pair.swapped
  swapped_is = left.written.grown.appended.swapped ∙ ap (λ (p : PairState D). p.swapped) left.found

  holds_all : is_disk b.trouble ≡ false → AreHonest m f.journal f.spare → PairHolds m f.pair.epoch (f.pair.payloads ++ payloads_in own.queue.messages (reverse b.core.past)) (first_disk b.pair) (second_disk b.pair)
  holds_all up honest =
      let both = honest_found honest in
      let now : PairHolds m b.pair.epoch b.pair.payloads (first_disk b.pair) (second_disk b.pair) =
      pair_holds m b.pair.epoch b.pair.payloads b.pair.swapped b.pair.used b.pair.spare (left.pair_kept both.0 both.1 (left.written.pair_down ∙ up)) in
      subst (λ (n : ℕ). PairHolds m n (f.pair.payloads ++ payloads_in own.queue.messages (reverse b.core.past)) (first_disk b.pair) (second_disk b.pair)) epoch_is
      (subst (λ (list : List (List ℕ)). PairHolds m b.pair.epoch list (first_disk b.pair) (second_disk b.pair)) all_payloads now)

  -- the first of its entries

  front_of : (one other : List ℕ) → OpensToFront redrive_meaning (dead_file m) b.found.epoch b.found.payloads b.found_dest b.dest (entries_left b) one other
      → OpensToFrontOf own.queue.messages f.pair.epoch f.pair.payloads (reverse b.core.past ++ hand) one other
  front_of one other o =
      let parts = parted (redrive_entry own.queue.messages) (reverse b.core.past ++ hand) o.front o.rest (o.split ∙ left_is b left.sound left.consistent) in
      let payloads : written_of payload_in o.front ≡ payloads_in own.queue.messages parts.0 = ap (written_of payload_in) (sym parts.3) ∙ payloads_are own.queue.messages parts.0 in
      record {
        front = parts.0;
        rest = parts.1;
        split = parts.2;
        opens = subst (λ (p : PairState D). PairOpensTo (header_of 2) p.epoch (p.payloads ++ payloads_in own.queue.messages parts.0) one other) left.found
            (subst (λ (list : List (List ℕ)). PairOpensTo (header_of 2) b.found.epoch (b.found.payloads ++ list) one other) payloads o.opens);
      }

  -- since the opening
  opened_front : m.honest f.pair.used ≡ true → m.honest f.pair.spare ≡ true → (one other : List ℕ) → m.since b.pair.used (m.moment f.pair.used) one → m.since b.pair.spare (m.moment f.pair.spare) other
      → OpensToFrontOf own.queue.messages f.pair.epoch f.pair.payloads (reverse b.core.past ++ hand) one other
  opened_front used spare one other since other_since =
      front_of one other
      (left.images (subst (λ (p : PairState D). m.honest p.used ≡ true) (sym left.found) used) (subst (λ (p : PairState D). m.honest p.spare ≡ true) (sym left.found) spare) one other
      (subst (λ (p : PairState D). m.since b.pair.used (m.moment p.used) one) (sym left.found) since)
      (subst (λ (p : PairState D). m.since b.pair.spare (m.moment p.spare) other) (sym left.found) other_since))

  -- a disk that failed

  parts_left : (front rest : List Entry) → front ++ rest ≡ reverse b.core.past ++ hand
      → payloads_in own.queue.messages front ++ payloads_in own.queue.messages rest ≡ payloads_in own.queue.messages (reverse b.core.past) ++ payloads_in own.queue.messages hand
  parts_left front rest split =
      sym (filter_map-append (queue_payload own.queue.messages) front rest) ∙ (ap (payloads_in own.queue.messages) split ∙ filter_map-append (queue_payload own.queue.messages) (reverse b.core.past) hand)

  gone_down : b.trouble ≡ Some Disk → HasGoneDown m f b.pair (payloads_in own.queue.messages (reverse b.core.past)) (payloads_in own.queue.messages hand)
  gone_down disk =
      let few = filter_map_few (queue_payload own.queue.messages) hand in
      let fewer = in_hand_few b.trouble b.core.owed in
      record {
        honest = honest_found;
        honest_first = are_honest m f.pair.swapped f.journal f.spare f.pair.used f.pair.spare left.files.read;
        down = left.written.pair_down ∙ ap is_disk disk;
        epoch = epoch_is;
        swapped = swapped_is;
        payloads = all_payloads;
        few = omega (arith, few, fewer);
        still = left.pair_stopped;
        leaves = λ used spare one other since other_since.
            let o = opened_front used spare one other since other_since in
            record {
              front = payloads_in own.queue.messages o.front;
              rest = payloads_in own.queue.messages o.rest;
              split = parts_left o.front o.rest o.split;
              opens = o.opens;
            };
      }

  -- the dead-letter file

  letters_grown : b.dest.payloads ≡ f.dest.payloads ++ dead_letters (reverse b.core.past ++ hand)
  letters_grown =
      let lines = map (λ line. line) (written_of line_in (entries_left b)) in
      let grown : ◌≡◌ {A = Option (List (List ℕ))} (Some b.dest.payloads) (Some (b.found_dest.payloads ++ lines)) = left.written.grown.delivered.told in
      let told : b.dest.payloads ≡ b.found_dest.payloads ++ lines = cc in
      told ∙ ap₂ (λ (d : JournalState D) (ls : List (List ℕ)). d.payloads ++ ls) left.found_dest (lines_left_are b left.sound left.consistent)

  dest_honest : m.honest f.failures ≡ true → m.honest b.dest.disk ≡ true
  dest_honest honest = left.written.grown.delivered.honesty ∙ (ap (λ (d : JournalState D). m.honest d.disk) left.found_dest ∙ (left.files.lines_read.honesty ∙ honest))

  found_honest : m.honest f.failures ≡ true → m.honest b.found_dest.disk ≡ true
  found_honest honest = ap (λ (d : JournalState D). m.honest d.disk) left.found_dest ∙ (left.files.lines_read.honesty ∙ honest)

  found_lines_told : ◌≡◌ {A = Option (List (List ℕ))} (Some b.found_dest.payloads) (Some f.dest.payloads)
  found_lines_told = ap (λ (d : JournalState D). Some d.payloads) left.found_dest

  -- as it was opened it has the lines found, and no others
  held_at_first : m.honest f.failures ≡ true → IsHeld (dead_file m) b.found_dest f.dest.payloads
  held_at_first honest bytes since =
      let opened : m.honest f.dest.disk ≡ true = left.files.lines_read.honesty ∙ honest in
      let keeps : Keeps m (header_of 1) f.dest.payloads f.dest.disk = left.files.lines_kept opened left.files.dest_up in
      let now : m.since f.dest.disk (m.moment f.dest.disk) bytes = subst (λ (d : JournalState D). m.since d.disk (m.moment d.disk) bytes) left.found_dest since in
      subst (OpensTo (header_of 1) f.dest.payloads) (sym (keeps.durable bytes (left.only_now f.dest.disk bytes opened now))) keeps.opens

  -- the first lines of these entries, behind those
  letters_of : (before : List (List ℕ)) (es : List Entry) (lines : List (List ℕ)) (bytes : List ℕ) → lines ≡ dead_letters es
      → ReadsFront (λ left lines. OpensTo (header_of 1) lines left) before lines bytes → OpensToLettersOf before es bytes
  letters_of before es lines bytes are read =
      let first = first_letters es read.front read.rest (read.split ∙ are) in
      record { front = first.front; rest = first.rest; split = first.split; opens = subst (λ (ls : List (List ℕ)). OpensTo (header_of 1) (before ++ ls) bytes) (sym first.are) read.reads }

  -- each image now
  letters_now : m.honest f.failures ≡ true → (bytes : List ℕ) → m.image b.dest.disk bytes → OpensToLettersOf (f.dest.payloads ++ dead_letters (reverse b.core.past ++ hand)) tried bytes
  letters_now honest bytes image =
      let lines = map (λ line. line) (written_of line_in (entries_left b)) in
      let further = map (λ line. line) (written_of line_in (in_delivery b.trouble (owed_of b.core))) in
      let reads : List ℕ → List (List ℕ) → Type 0 = λ left lines. OpensTo (header_of 1) lines left in
      let since : m.since b.dest.disk (m.moment b.dest.disk) bytes = left.counts_now b.dest.disk (m.moment b.dest.disk) bytes (dest_honest honest) (omega arith) image in
      let read : ReadsFront reads (f.dest.payloads ++ lines) further bytes =
      left.written.grown.delivered.durable (found_honest honest) f.dest.payloads found_lines_told (held_at_first honest) bytes since in
      letters_of (f.dest.payloads ++ dead_letters (reverse b.core.past ++ hand)) tried further bytes (tried_lines_are b left.sound left.consistent)
      (subst (λ (ls : List (List ℕ)). ReadsFront reads (f.dest.payloads ++ ls) further bytes) (lines_left_are b left.sound left.consistent) read)

  -- and each since the run's start
  letters_since : m.honest f.failures ≡ true → Only (m.content f.failures) (m.image f.failures) → (bytes : List ℕ) → m.since b.dest.disk (m.moment f.failures) bytes
      → OpensToLettersOf f.dest.payloads (reverse b.core.past ++ hand ++ tried) bytes
  letters_since honest settled bytes since =
      let all : List Entry = reverse b.core.past ++ hand ++ tried in
      let lines = map (λ line. line) (written_of line_in (entries_left b ++ in_delivery b.trouble (owed_of b.core))) in
      let read = left.files.lines_read.any_moment honest in
      let takes = left.written.grown.delivered.images (found_honest honest) f.dest.payloads found_lines_told in
      let early : m.moment f.failures ≤ m.moment b.found_dest.disk = subst (λ (d : JournalState D). m.moment f.failures ≤ m.moment d.disk) (sym left.found_dest) read.later in
      elim (takes.images (m.moment f.failures) bytes early since) [
        | inl was ↦
            (let image : m.image f.failures bytes = read.each bytes (subst (λ (d : JournalState D). m.since d.disk (m.moment f.failures) bytes) left.found_dest was) in
            let opens : OpensTo (header_of 1) f.dest.payloads bytes = subst (OpensTo (header_of 1) f.dest.payloads) (sym (settled bytes image)) (left.files.opens_lines honest) in
            record { front = []; rest = all; split = refl; opens = subst (λ (ls : List (List ℕ)). OpensTo (header_of 1) ls bytes) (sym (append-nil f.dest.payloads)) opens })
        | inr front ↦ letters_of f.dest.payloads all lines bytes (all_lines_are b left.sound left.consistent) front
      ]

  -- and each since it was opened
  letters_opened : m.honest f.failures ≡ true → (bytes : List ℕ) → m.since b.dest.disk (m.moment f.dest.disk) bytes → OpensToLettersOf f.dest.payloads (reverse b.core.past ++ hand ++ tried) bytes
  letters_opened honest bytes since =
      let all : List Entry = reverse b.core.past ++ hand ++ tried in
      let lines = map (λ line. line) (written_of line_in (entries_left b ++ in_delivery b.trouble (owed_of b.core))) in
      let takes = left.written.grown.delivered.images (found_honest honest) f.dest.payloads found_lines_told in
      let from : m.since b.dest.disk (m.moment b.found_dest.disk) bytes = subst (λ (d : JournalState D). m.since b.dest.disk (m.moment d.disk) bytes) (sym left.found_dest) since in
      elim (takes.images (m.moment b.found_dest.disk) bytes (omega arith) from) [
        | inl was ↦
            record { front = []; rest = all; split = refl; opens = subst (λ (ls : List (List ℕ)). OpensTo (header_of 1) ls bytes) (sym (append-nil f.dest.payloads)) (held_at_first honest bytes was) }
        | inr front ↦ letters_of f.dest.payloads all lines bytes (all_lines_are b left.sound left.consistent) front
      ]

  -- and the devices as they were handed back

  module _ (new : Disks D) (of : AreOf b new) where
    journal_kept : (b.trouble ≡ Some Disk → ⊥) → JournalKept m f own b.core.past new
    journal_kept not honest =
        let list = f.pair.payloads ++ payloads_in own.queue.messages (reverse b.core.past) in
        subst (λ (d : D). PairHolds m f.pair.epoch list d new.spare) (sym of.journal)
        (subst (λ (d : D). PairHolds m f.pair.epoch list (first_disk b.pair) d) (sym of.spare) (holds_all (not_disk b.trouble not) honest))

    journal_stopped : b.trouble ≡ Some Disk → JournalStopped m f own b.core.past hand new
    journal_stopped disk =
        let kept = payloads_in own.queue.messages (reverse b.core.past) in
        subst (λ (more : List (List ℕ)). PairStopped m f kept more new.journal new.spare) (sym (filter_map-append (queue_payload own.queue.messages) (reverse b.core.past) hand))
        (pair_stopped m f b.pair kept (payloads_in own.queue.messages hand) new.journal new.spare (gone_down disk) of.journal of.spare)

    crash_kept : CrashKept m f own b.core.past hand new
    crash_kept honest settled one other since other_since =
        front_of one other
        (left.since honest.0 honest.1 settled.0 settled.1 one other
        (subst (λ (d : D). m.since d (m.moment f.journal) one) of.journal since)
        (subst (λ (d : D). m.since d (m.moment f.spare) other) of.spare other_since))

    crash_opened : CrashKeptSinceOpening m f own b.core.past hand new
    crash_opened honest one other since other_since =
        let both = are_honest m f.pair.swapped f.journal f.spare f.pair.used f.pair.spare left.files.read honest in
        in_order m f.pair.swapped f.pair.used f.pair.spare b.pair.used b.pair.spare (OpensToFrontOf own.queue.messages f.pair.epoch f.pair.payloads (reverse b.core.past ++ hand))
        (opened_front both.0 both.1) (λ x y o. record { front = o.front; rest = o.rest; split = o.split; opens = (o.opens.1, o.opens.0) }) one other
        (subst (λ (s : Bool). m.since (if s then b.pair.spare else b.pair.used) (m.moment (first_disk f.pair)) one) swapped_is (subst (λ (d : D). m.since d (m.moment (first_disk f.pair)) one) of.journal since))
        (subst (λ (s : Bool). m.since (if s then b.pair.used else b.pair.spare) (m.moment (second_disk f.pair)) other) swapped_is (subst (λ (d : D). m.since d (m.moment (second_disk f.pair)) other) of.spare other_since))

    lines_up : (lines : List (List ℕ)) → b.dest.payloads ≡ f.dest.payloads ++ lines → b.dest.down ≡ false → LinesKept m f lines new
    lines_up lines grown up honest =
        subst (λ (x : D). Keeps m (header_of 1) (f.dest.payloads ++ lines) x) (sym of.dead)
        (subst (λ (list : List (List ℕ)). Keeps m (header_of 1) list b.dest.disk) grown (left.dest_kept (dest_honest honest) up))

    letters_kept : (why : Option Trouble) → b.trouble ≡ why → DeadLettersKept m f why b.core.past (in_hand why b.core.owed) (in_delivery why b.core.owed) new
    letters_kept why is =
        at why (subst (λ (x : Option Trouble). b.dest.payloads ≡ f.dest.payloads ++ dead_letters (reverse b.core.past ++ in_hand x b.core.owed)) is letters_grown) (left.written.dest_failed ∙ ap is_dest is)
        (subst (λ (x : Option Trouble). m.honest f.failures ≡ true → (bytes : List ℕ) → m.image b.dest.disk bytes → OpensToLettersOf (f.dest.payloads ++ dead_letters (reverse b.core.past ++ in_hand x b.core.owed)) (in_delivery x b.core.owed) bytes) is letters_now)
      where
        at : (x : Option Trouble) → b.dest.payloads ≡ f.dest.payloads ++ dead_letters (reverse b.core.past ++ in_hand x b.core.owed) → b.dest.down ≡ is_dest x
            → (m.honest f.failures ≡ true → (bytes : List ℕ) → m.image b.dest.disk bytes → OpensToLettersOf (f.dest.payloads ++ dead_letters (reverse b.core.past ++ in_hand x b.core.owed)) (in_delivery x b.core.owed) bytes)
            → DeadLettersKept m f x b.core.past (in_hand x b.core.owed) (in_delivery x b.core.owed) new
        at None grown failed now = lines_up (dead_letters (reverse b.core.past ++ [])) grown failed
        at (Some Disk) grown failed now = lines_up (dead_letters (reverse b.core.past ++ take 1 b.core.owed)) grown failed
        at (Some Dest) grown failed now = λ honest bytes image.
            subst (λ (h : List Entry). OpensToLettersOf (f.dest.payloads ++ dead_letters h) (take 1 b.core.owed) bytes) (append-nil (reverse b.core.past))
            (now honest bytes (subst (λ (d : D). m.image d bytes) of.dead image))
        at (Some (Changed change)) grown failed now = lines_up (dead_letters (reverse b.core.past ++ [])) grown failed

    letters_crash : LettersCrashKept m f b.core.past hand tried new
    letters_crash honest settled bytes since = letters_since honest settled bytes (subst (λ (d : D). m.since d (m.moment f.failures) bytes) of.dead since)

    letters_since_opening : LettersCrashKeptSinceOpening m f b.core.past hand tried new
    letters_since_opening honest bytes since = letters_opened honest bytes (subst (λ (d : D). m.since d (m.moment f.dest.disk) bytes) of.dead since)

    letters_stand : m.honest f.failures ≡ true → (one other bytes : List ℕ) → OpensToFrontOf own.queue.messages f.pair.epoch f.pair.payloads (reverse b.core.past ++ hand) one other → m.image new.dead bytes
        → OpensWithLetters own.queue.messages f.pair.epoch f.pair.payloads f.dest.payloads (reverse b.core.past ++ hand) one other bytes
    letters_stand dead one other bytes o image =
        let now = letters_now dead bytes (subst (λ (d : D). m.image d bytes) of.dead image) in
        let both : dead_letters (reverse b.core.past ++ hand) ≡ dead_letters o.front ++ dead_letters o.rest = ap dead_letters (sym o.split) ∙ filter_map-append entry_line o.front o.rest in
        let further : List (List ℕ) = dead_letters now.front in
        record {
          front = o.front;
          rest = o.rest;
          split = o.split;
          opens = o.opens;
          more = dead_letters o.rest ++ further;
          lines_open = subst (λ (ls : List (List ℕ)). OpensTo (header_of 1) ls bytes)
              (ap (λ (ls : List (List ℕ)). (f.dest.payloads ++ ls) ++ further) both
              ∙ (ap (λ (ls : List (List ℕ)). ls ++ further) (sym (append_assoc f.dest.payloads (dead_letters o.front) (dead_letters o.rest)))
              ∙ append_assoc (f.dest.payloads ++ dead_letters o.front) (dead_letters o.rest) further))
              now.opens;
        }

    stand_first : LinesStandFirst m f own b.core.past hand new
    stand_first honest settled dead one other bytes since other_since image = letters_stand dead one other bytes (crash_kept honest settled one other since other_since) image

    stand_first_opened : LinesStandFirstSinceOpening m f own b.core.past hand new
    stand_first_opened honest dead one other bytes since other_since image = letters_stand dead one other bytes (crash_opened honest one other since other_since) image

    -- an entry follows a front, over other ids of the same lines
    follows_ids : (ids : List (List ℕ)) → HaveSameIds own.dead_ids ids → AreLaws → (e : Entry) → FollowsFront own b.core.past e → FollowsFront (with_dead_ids own ids) b.core.past e
    follows_ids ids same laws e front = record {
      before = front.before;
      later = front.later;
      split = front.split;
      ends = front.ends;
      follows = λ messages goes. (laws.same (redrive_over own messages) ids (e ∷ front.before) same).legal (front.follows messages goes);
    }

    -- all of it, over other ids of the same lines
    pub headline : (gave : ℕ → Bool) (ids : List (List ℕ)) → HaveSameIds own.dead_ids ids → own.queue.deletions ≡ f.said.deletions → HaveDifferentIds own.queue.messages → length own.queue.messages < 2 ^ 32 → AreLaws → AreGiven gave b.core.past → IsTimedView gave b.core → CallsFollowShut b.core.past
        → Headline m gave f (with_dead_ids own ids) b.core.past b.trouble hand tried new
    headline gave ids same deletions different few laws given timed later =
        let s : RedriveSetting = with_dead_ids own ids in
        let legal = (laws.same own ids b.core.past same).legal left.sound.legal in
        let valid : HasValidMessages s.queue = record { valid = left.consistent.valid; few = few } in
        let opened : IsOpenedOver s.queue f.pair.payloads = record { told = f.said; tells = left.files.tells; found = deletions } in
        let settled : (b.trouble ≡ Some Disk → ⊥) → (b.trouble ≡ Some Dest → ⊥) → SettledRedrive s b.core.past =
        λ disk dest. settled_ids own ids b.core.past (laws.same own ids b.core.past same) (settled_why own b.core.past b.trouble left.sound.settled left.sound.changed left.sound.legal later disk dest) in
        record {
          legal_trace = λ messages goes. laws.more (with_dead_ids own ids) b.core.past messages goes legal;
          messages_came = left.consistent.count;
          settled = settled;
          moments = given;
          read_first = later;
          journal_kept = journal_kept;
          journal_stopped = journal_stopped;
          in_hand = is_in_hand (queue_payload own.queue.messages) b.trouble b.core.owed left.sound.hand_is_one;
          hand_has_payload = hand_has (queue_payload own.queue.messages) b.trouble b.core.owed left.sound.hand_is_one;
          hand_follows = λ e some. follows_ids ids same laws e (left.sound.hand e some);
          hand_given = λ e some. given_behind gave s b.core.past hand e laws (laws.hand gave b.core b.trouble timed) some (follows_ids ids same laws e (left.sound.hand e some));
          crash = crash_kept;
          crash_since_opening = crash_opened;
          dead_letters_kept = letters_kept b.trouble refl;
          is_tried = is_tried_so b.trouble b.core.owed left.sound.tried_is_one;
          tried_follows = λ e some. follows_ids ids same laws e (left.sound.tried e some);
          tried_given = λ e some. given_behind gave s b.core.past tried e laws (laws.tried gave b.core b.trouble timed) some (follows_ids ids same laws e (left.sound.tried e some));
          hand_moves = λ e line some has. further_moves s b.core.past e line (laws.due s) different (follows_ids ids same laws e (left.sound.hand e some)) has;
          tried_moves = λ e line some has. further_moves s b.core.past e line (laws.due s) different (follows_ids ids same laws e (left.sound.tried e some)) has;
          letters_crash = letters_crash;
          letters_since_opening = letters_since_opening;
          lines_stand_first = stand_first;
          lines_first_since_opening = stand_first_opened;
          deletions_are_recorded = laws.recorded s b.core.past f.pair.payloads opened valid legal;
          valid = valid;
          letters = left.consistent.letters;
          letters_go_on = λ letters. laws.goes (is_fifo own.queue.config.kind) f.dest.payloads s b.core.past left.consistent.letters legal letters;
          leaves_moves_lined = laws.leaves s b.core.past legal;
          moved_where_lined = λ disk dest found. laws.moved s b.core.past found different legal (settled disk dest).recorded;
          different = different;
          each_has_one_end = laws.ends (with_dead_ids own ids) b.core.past (found_for_these (with_dead_ids own ids) f.said (reverse f.pair.payloads) left.files.tells deletions) legal;
          moved_once = laws.once (with_dead_ids own ids) b.core.past legal;
          only_earned = only_earned (with_dead_ids own ids) b.core.past legal;
          all_earned = λ disk dest. all_earned s b.core.past legal (settled disk dest);
          deleted_once = deleted_once_in (with_dead_ids own ids) b.core.past legal;
          order_per_group = order_per_group_in (with_dead_ids own ids) b.core.past legal;
          replies_are_logged = replies_logged laws.calls (with_dead_ids own ids) b.core.past legal;
          moved_after_receives = laws.received (with_dead_ids own ids) b.core.past legal;
          received_at_most = laws.at_most (with_dead_ids own ids) b.core.past legal;
          calls_are_few = laws.few (with_dead_ids own ids) b.core.past legal;
        }

    -- the disk in use failed
    pub disk_rose : Rose (m.faults b.found.used) (m.faults b.pair.used) → OneRose m (first_disk f.pair) (second_disk f.pair) new.journal new.spare
    disk_rose rose =
        let from : Rose (m.faults f.pair.used) (m.faults b.pair.used) = subst (λ (p : PairState D). Rose (m.faults p.used) (m.faults b.pair.used)) left.found rose in
        let one : OneRose m (first_disk f.pair) (second_disk f.pair) (if f.pair.swapped then b.pair.spare else b.pair.used) (if f.pair.swapped then b.pair.used else b.pair.spare) =
        one_rose m f.pair.swapped f.pair.used f.pair.spare b.pair.used b.pair.spare from in
        let now : OneRose m (first_disk f.pair) (second_disk f.pair) (first_disk b.pair) (second_disk b.pair) =
        subst (λ (s : Bool). OneRose m (first_disk f.pair) (second_disk f.pair) (if s then b.pair.spare else b.pair.used) (if s then b.pair.used else b.pair.spare)) (sym swapped_is) one in
        subst (λ (d : D). OneRose m (first_disk f.pair) (second_disk f.pair) d new.spare) (sym of.journal) (subst (λ (d : D). OneRose m (first_disk f.pair) (second_disk f.pair) (first_disk b.pair) d) (sym of.spare) now)

    -- the dead-letter file failed
    pub dest_rose : Rose (m.faults b.found_dest.disk) (m.faults b.dest.disk) → Rose (m.faults f.dest.disk) (m.faults new.dead)
    dest_rose rose =
        let from : Rose (m.faults f.dest.disk) (m.faults b.dest.disk) = subst (λ (d : JournalState D). Rose (m.faults d.disk) (m.faults b.dest.disk)) left.found_dest rose in
        subst (λ (d : D). Rose (m.faults f.dest.disk) (m.faults d)) (sym of.dead) from
