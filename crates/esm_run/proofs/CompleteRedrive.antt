-- A redrive of a good input over good files comes to its end with nothing left, where no device fails and more calls are allowed
-- than its messages may be received.
use Rattle.std.proofs.Common.{◌≡◌, ◌∙◌, ◌*◌, ◌<◌, ◌≤◌, ℕ, true, List, length, Some, ap, ap₂, arith, inl, inr, subst, sym}
use Rattle.std.specs.Prelude.{find, option_map, reverse, ◌==◌}
use Rattle.esm_input.specs.declared.ending.InputEnd.{InputEnd}
use Rattle.esm_input.specs.declared.ending.InputEnd.TheVariants as ends
use Rattle.esm_input.specs.Reading.{InputState, IsGood, handed}
use Rattle.esm_io.specs.Faults.{Rose}
use Rattle.esm_journal_state.specs.Meaning.{deletion_said, history}
use Rattle.esm_journal_state.specs.Tells.{deletion_of_found}
use Rattle.esm_mapping.specs.declared.expected.Expected.TheVariants.{Queue}
use Rattle.esm_mapping.specs.declared.named.NamedMapping.{NamedMapping}
use Rattle.esm_model.specs.declared.book.Change.{Change}
use Rattle.esm_model.specs.declared.config.Config.{Config}
use Rattle.esm_model.specs.declared.entry.Entry.{Entry}
use Rattle.esm_model.specs.declared.item.Message.{Message}
use Rattle.esm_model.specs.declared.setup.FoundDeletion.{FoundDeletion}
use Rattle.esm_model.specs.Entries.{calls_begun}
use Rattle.esm_queue_model.specs.QueueEntries.{queue_count}
use Rattle.esm_queue_model.specs.QueueSetting.{found_deletion, is_fifo}
use Rattle.esm_redrive.specs.DeadFile.{AreLetters}
use Rattle.esm_redrive_model.specs.RedriveSetting.{RedriveSetting}
use Rattle.esm_redrive_run.specs.Ended.{IsCauseOf}
use Rattle.esm_redrive_run.specs.declared.run.RedriveEnd.{RedriveEnd}
use Rattle.esm_redrive_run.specs.declared.run.RedriveEnd.TheVariants as redrive_end
use Rattle.esm_report.specs.declared.ending.Ending.{Ending}
use Rattle.esm_runner.specs.Files.{FilesState}
use Rattle.esm_runner.specs.QueueComing.{messages_in_items}
use Rattle.esm_runner.specs.QueueEnded.{IsChanged, line_kind}
use Rattle.esm_run.specs.Answers.{AreSoundDevices, IsReadyFor}
use Rattle.esm_run.specs.Commands.{Completes}
use Rattle.esm_run.specs.Endings.{ending_of_redrive, status_of}
use Rattle.esm_run.specs.Redrive.{HaveKeptIds, HasRefusedLine, IsRedriveRun, MayComplete, RedriveCause, RedriveOutcome, messages_given, redrive_asks, redrive_disks}
use Rattle.esm_run.specs.Tended.{command_of}
use Rattle.esm_run.specs.World.{DevicesTell, RunTells, Seen, Written}
use Rattle.esm_run.specs.declared.asked.RedriveWords.{RedriveWords}
use Rattle.esm_run.specs.declared.tending.FilesCommand.{FilesCommand}
use Rattle.esm_run.specs.declared.tending.FilesCommand.TheVariants.{Init, Upkeep}
use Rattle.esm_run.specs.declared.tending.Upkeep.TheVariants.{Compact, Failures, Migrate, Show}
use Rattle.esm_run.specs.declared.world.World.{World}
use Rattle.esm_run.proofs.BadPayloads.{same_payloads}
use Rattle.esm_run.proofs.Fronts.{messages_front}
use Rattle.esm_run.proofs.KeptIds.{kept_ids}
use Rattle.esm_run.proofs.OneCause.{AreLaws, good_or_unrun, told_status}
use Rattle.esm_run.proofs.OneOpened.{NoneRose, found_payloads, lines_at, none_rose}
use Rattle.esm_run.proofs.OneQueueRun.{read_from}
use Rattle.esm_run.proofs.OneReading.{IsReadFrom, WholeGoesOn, some_of}
use Rattle.esm_run.proofs.OneReady.{IsOneAsked, text_once}
use Rattle.esm_run.proofs.OneRedrive.{no_bad_letter}
use Rattle.esm_run.proofs.ReadThrough.{IsReadThrough, items_given, read_through}

too_few : (begun most calls : ℕ) → begun ≤ most → most < calls → begun ≡ calls → ⊥
too_few begun most calls few enough same = omega (arith, few, enough, same)

module _ {S D F : Type 0} (o : RunTells S D F) (w : RedriveWords) (h : List Entry) (old new : Seen S D F) (goes : WholeGoesOn) (sound : AreSoundDevices o old new) where
  -- over the mapping of the run

  module _ (c : Config) (payloads : List (List ℕ)) (bytes : List ℕ) (told : o.left old.input ≡ Some bytes) (good : IsGood (line_kind c) c.factor true bytes) (ids : HaveKeptIds payloads (messages_given c bytes)) (enough : length (messages_given c bytes) * w.max_receives < w.calls) where
    module _ (i : InputState S) (read : IsReadFrom o.faults o.left (line_kind c) c.factor c.start old.input new.input i) where
      through : IsReadThrough i (items_given (line_kind c) c.factor c.start bytes)
      through = read_through o.faults o.left (line_kind c) c.factor c.start old.input new.input bytes i goes told sound.no_input_fault good read

      -- how its reading ended, where it did
      ended_so : (e : InputEnd) → i.end ≡ Some e → (e ≡ ends.End) × (messages_in_items (handed i) ≡ messages_given c bytes)
      ended_so e ended = (let is = through.ended e ended in (is.0, ap messages_in_items is.1))

      -- no message comes with another id
      none_changed : (f : FilesState D) (s : RedriveSetting) (change : Change) → payloads ≡ f.pair.payloads
          → ((k : ℕ) → option_map deletion_of_found (found_deletion s.queue k) ≡ deletion_said (history (reverse f.pair.payloads)) k) → IsChanged s.queue (messages_in_items (handed i)) change → ⊥
      none_changed f s change same tells is =
          kept_ids s.queue payloads f.pair.payloads (messages_given c bytes) (messages_in_items (handed i)) change same tells ids
          (messages_front (handed i) (items_given (line_kind c) c.factor c.start bytes) through.front) is

      module _ (f : FilesState D) (s : RedriveSetting) (none : NoneRose o.run.disk f new.disks.journal new.disks.spare new.disks.failures) (same : payloads ≡ f.pair.payloads)
          (tells : (k : ℕ) → option_map deletion_of_found (found_deletion s.queue k) ≡ deletion_said (history (reverse f.pair.payloads)) k) (few : calls_begun h ≤ queue_count h * s.max_receives) (calls : s.queue.calls ≡ w.calls) (receives : s.max_receives ≡ w.max_receives) where
        cause_status : (e : RedriveEnd) → IsCauseOf o.run.disk f s h (messages_in_items (handed i)) i.end (redrive_disks new) e → status_of (ending_of_redrive e) ≡ 0
        cause_status (redrive_end.Finished why) cause = ap (λ (x : InputEnd). status_of (ending_of_redrive (redrive_end.Finished x))) (ended_so why cause.1).0
        cause_status redrive_end.CallsSpent cause =
            let end = some_of i.end cause.3 in
            let count : queue_count h ≡ length (messages_given c bytes) = cause.0.came ∙ ap (λ (ms : List Message). length ms) (ended_so end.0 end.1).1 in
            let most : calls_begun h ≤ length (messages_given c bytes) * w.max_receives = subst (λ (n : ℕ). calls_begun h ≤ n) (ap₂ (λ (n k : ℕ). n * k) count receives) few in
            absurd (too_few (calls_begun h) (length (messages_given c bytes) * w.max_receives) w.calls most enough (cause.1 ∙ calls))
        cause_status redrive_end.DiskFault cause = absurd (none.opened_pair cause)
        cause_status redrive_end.DestFault cause = absurd (none.opened_failures cause)
        cause_status (redrive_end.Changed change) cause = absurd (none_changed f s change same tells cause.0)
        cause_status (redrive_end.BadLine index) cause = absurd cause

  -- what the files are found as

  lines_found : (may : MayComplete o w old) (mapping : NamedMapping) (f : FilesState D) → IsReadyFor o.run.disk (redrive_asks w) old new mapping f → may.good.lines ≡ f.dest.payloads
  lines_found may mapping f ready =
      let first = may.good.lines_found sound.honest_failures in
      let second = lines_at o (redrive_asks w) old new mapping f sound ready in
      same_payloads first.0 second.0 may.good.lines f.dest.payloads (sym first.1 ∙ second.1)

  module _ (may : MayComplete o w old) (once : IsOneAsked (redrive_asks w) old.disks.registry new.disks.registry) where
    same_mapping : (mapping : NamedMapping) (f : FilesState D) → IsReadyFor o.run.disk (redrive_asks w) old new mapping f → may.mapping ≡ mapping
    same_mapping mapping f ready = once.one_mapping may.mapping mapping may.named ready.named

    run_status : (t : List ℕ) (e : Ending) → IsRedriveRun o w h old new t e → status_of e ≡ 0
    run_status t e one =
        let c = one.mapping.config in
        let s = one.run.setting in
        let f = one.files in
        let same = same_mapping one.mapping f one.ready in
        let messages : List Message = messages_in_items (handed one.run.input) in
        let none : NoneRose o.run.disk f new.disks.journal new.disks.spare new.disks.failures = none_rose o (redrive_asks w) old new one.mapping f sound one.ready in
        let deletions : s.queue.deletions ≡ f.said.deletions = ap (λ (v : RedriveSetting). v.queue.deletions) one.run.is_setting.opened in
        let tells : (k : ℕ) → option_map deletion_of_found (found_deletion s.queue k) ≡ deletion_said (history (reverse f.pair.payloads)) k =
        λ k. ap (λ (ds : List FoundDeletion). option_map deletion_of_found (find (λ (d : FoundDeletion). d.place == k) ds)) deletions ∙ one.ready.opened.tells.deletions k in
        ap status_of one.tells
        ∙ cause_status c may.good.payloads.payloads may.bytes may.input
        (subst (λ (n : NamedMapping). IsGood (line_kind n.config) n.config.factor true may.bytes) same may.good_input)
        (subst (λ (n : NamedMapping). HaveKeptIds may.good.payloads.payloads (messages_given n.config may.bytes)) same may.kept_ids)
        (subst (λ (n : NamedMapping). length (messages_given n.config may.bytes) * w.max_receives < w.calls) same may.enough)
        one.run.input (read_from o.faults o.left c old.input new.input one.run.input one.run.is_input) f s none (found_payloads o (redrive_asks w) old new may.good one.mapping f sound one.ready) tells one.run.headline.calls_are_few
        (ap (λ (v : RedriveSetting). v.queue.calls) one.run.is_setting.opened) (ap (λ (v : RedriveSetting). v.max_receives) one.run.is_setting.opened) one.end_is
        (subst (λ reading. IsCauseOf o.run.disk f s h messages reading (redrive_disks new) one.end_is) (sym one.run.read_to) one.run.cause)

    line_refused : (t : List ℕ) (e : Ending) → HasRefusedLine o w h old new t e → ⊥
    line_refused t e one =
        let same = same_mapping one.mapping one.files one.ready in
        let letters : AreLetters (is_fifo one.mapping.config.kind) may.good.lines (length may.good.lines) = subst (λ (n : NamedMapping). AreLetters (is_fifo n.config.kind) may.good.lines (length may.good.lines)) same may.letters in
        no_bad_letter (is_fifo one.mapping.config.kind) one.files.dest.payloads one.index
        (subst (λ (ls : List (List ℕ)). AreLetters (is_fifo one.mapping.config.kind) ls (length ls)) (lines_found may one.mapping one.files one.ready) letters) one.first_bad

    cause_complete : (t : List ℕ) (e : Ending) → RedriveCause o w h old new t e → status_of e ≡ 0
    cause_complete t e (inl one) = absurd (good_or_unrun o (redrive_asks w) old new may.mapping e once sound may.good may.named one.why)
    cause_complete t e (inr (inl one)) = absurd (line_refused t e one)
    cause_complete t e (inr (inr one)) = run_status t e one

pub complete_redrive : {S D F : Type 0} (o : RunTells S D F) (w : RedriveWords) (output : Written) (h : List Entry) (old new : Seen S D F) (status : ℕ)
    → AreLaws o.run.disk → AreSoundDevices o old new → ¬ Rose output.faults_before output.faults_now → RedriveOutcome o w output h old new status → MayComplete o w old → status ≡ 0
complete_redrive o w output h old new status laws sound told outcome may =
    told_status output.faults_before output.faults_now output.before output.after outcome.ended.text outcome.ending status told outcome.told
    ∙ cause_complete o w h old new laws.whole_goes_on sound may (text_once Queue w.config old.disks.registry new.disks.registry laws.one_expected) outcome.ended.text outcome.ending outcome.ended.cause_is

-- of a command over the files alone nothing more is said
pub files_complete : {S K D C F L N : Type 0} (t : DevicesTell S K D F L N) (f : FilesCommand) (old new : World S K D C F L) (status : ℕ) → Completes t (command_of f) old new status
files_complete t Init old new status = tt
files_complete t (Upkeep Show) old new status = tt
files_complete t (Upkeep Failures) old new status = tt
files_complete t (Upkeep Compact) old new status = tt
files_complete t (Upkeep Migrate) old new status = tt
