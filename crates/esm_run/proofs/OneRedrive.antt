-- Two outcomes of `redrive` over the same worlds that left the same history have one status, where no device failed.
use Rattle.std.proofs.Common.{◌≡◌, ◌∙◌, ℕ, Bool, true, false, List, length, Option, ap, inl, inr, refl, subst, sym}
use Rattle.std.specs.Prelude.{is_some}
use Rattle.std.proofs.lemmas.Option.{slice_get_within}
use Rattle.esm_input.specs.declared.ending.InputEnd.{InputEnd}
use Rattle.esm_input.specs.Reading.{handed}
use Rattle.esm_io.specs.Faults.{Rose}
use Rattle.esm_mapping.specs.declared.expected.Expected.TheVariants.{Queue}
use Rattle.esm_mapping.specs.declared.named.NamedMapping.{NamedMapping}
use Rattle.esm_model.specs.declared.config.Config.{Config}
use Rattle.esm_model.specs.declared.entry.Entry.{Entry}
use Rattle.esm_model.specs.declared.item.Message.{Message}
use Rattle.esm_queue_model.specs.QueueSetting.{QueueSetting, is_fifo, over_messages}
use Rattle.esm_redrive.specs.DeadFile.{AreLetters, IsFirstBad, dead_message}
use Rattle.esm_redrive_model.specs.RedriveSetting.{RedriveSetting}
use Rattle.esm_redrive_run.specs.Ended as redrive
use Rattle.esm_redrive_run.specs.Headline.{Disks, IsSettingOf, setting_before}
use Rattle.esm_redrive_run.specs.declared.run.RedriveEnd.{RedriveEnd}
use Rattle.esm_redrive_run.specs.declared.run.RedriveEnd.TheVariants as redrive_end
use Rattle.esm_report.specs.declared.ending.Ending.{Ending}
use Rattle.esm_runner.specs.Files.{FilesState}
use Rattle.esm_runner.specs.Headline.{Devices, Telling}
use Rattle.esm_runner.specs.QueueComing.{messages_in_items}
use Rattle.esm_runner.specs.QueueEnded as queue
use Rattle.esm_runner.specs.QueueEnded.{IsInputOf}
use Rattle.esm_runner.specs.declared.run.MappingEnd.{MappingEnd}
use Rattle.esm_runner.specs.declared.run.MappingEnd.TheVariants as end
use Rattle.esm_run.specs.Answers.{AreSoundDevices}
use Rattle.esm_run.specs.Endings.{ending_of, ending_of_redrive, status_of}
use Rattle.esm_run.specs.Redrive.{HasRefusedLine, IsRedriveRun, RedriveCause, RedriveOutcome, redrive_asks, redrive_disks, words_of}
use Rattle.esm_run.specs.World.{RunTells, Seen, Written, devices_of}
use Rattle.esm_run.specs.declared.asked.RedriveWords.{RedriveWords}
use Rattle.esm_run.proofs.OneCause.{AreLaws, run_or_unrun, told_once, unrun_twice}
use Rattle.esm_run.proofs.OneOpened.{NoneRose, none_rose, same_lines}
use Rattle.esm_run.proofs.OneQueueRun.{one_queue_end, shared_by}
use Rattle.esm_run.proofs.OneReading.{WholeGoesOn}
use Rattle.esm_run.proofs.OneReady.{IsOneAsked, faultless, same_said, text_once}
use Rattle.esm_run.proofs.OneSetting.{SameTold}

-- the settings of two runs differ in nothing but their messages

same_before : {D : Type 0} (w : RedriveWords) (c d : Config) (f g : FilesState D) → c ≡ d → f.said ≡ g.said → (setting_before (words_of w c) f).queue ≡ (setting_before (words_of w d) g).queue
same_before w c d f g configs saids =
    ap (λ config. (setting_before (words_of w config) f).queue) configs
    ∙ ap (λ said. (setting_before (words_of w d) (record f { said = said })).queue) saids

one_setting : {D : Type 0} (w : RedriveWords) (c d : Config) (f g : FilesState D) (xs ys : List Message) (s z : RedriveSetting) → c ≡ d → f.said ≡ g.said
    → IsSettingOf (words_of w c) f xs s → IsSettingOf (words_of w d) g ys z → z.queue ≡ over_messages s.queue z.queue.messages
one_setting w c d f g xs ys s z configs saids one other =
    let first : s.queue ≡ over_messages (setting_before (words_of w c) f).queue s.queue.messages = ap (λ (v : RedriveSetting). v.queue) one.opened in
    let second : z.queue ≡ over_messages (setting_before (words_of w d) g).queue z.queue.messages = ap (λ (v : RedriveSetting). v.queue) other.opened in
    second
    ∙ ap (λ (q : QueueSetting). over_messages q z.queue.messages) (sym (same_before w c d f g configs saids))
    ∙ sym (ap (λ (q : QueueSetting). over_messages q z.queue.messages) first)

-- the end of a redrive as that of a queue's mapping

end_as : RedriveEnd → MappingEnd
end_as (redrive_end.Finished why) = end.Finished why
end_as redrive_end.CallsSpent = end.CallsSpent
end_as redrive_end.DiskFault = end.DiskFault
end_as redrive_end.DestFault = end.DestFault
end_as (redrive_end.Changed change) = end.Changed change
end_as (redrive_end.BadLine index) = end.DestFault

came_as : (s : RedriveSetting) (h : List Entry) (messages : List Message) → redrive.AllCame s h messages → queue.AllCame s.queue h messages
came_as s h messages all = record { list = all.list; came = all.came; unchanged = all.unchanged; shut = all.shut }

-- a cause of the one, where no device failed, is one of the other
record IsAlike {D F : Type 0} (t : Telling D F) (f : FilesState D) (s : RedriveSetting) (h : List Entry) (messages : List Message) (reading : Option InputEnd) (left : Option (List ℕ)) (new : Devices D F) (e : RedriveEnd) : Type 0 where
  ending : status_of (ending_of_redrive e) ≡ status_of (ending_of (end_as e))
  cause : queue.IsCauseOf t f s.queue h messages reading left new (end_as e)

cause_as : {D F : Type 0} (t : Telling D F) (f : FilesState D) (s : RedriveSetting) (h : List Entry) (messages : List Message) (reading : Option InputEnd) (left : Option (List ℕ)) (new : Devices D F) (disks : Disks D) (e : RedriveEnd)
    → (redrive.IsCauseOf t.disk f s h messages reading disks redrive_end.DiskFault → ⊥) → (redrive.IsCauseOf t.disk f s h messages reading disks redrive_end.DestFault → ⊥)
    → redrive.IsCauseOf t.disk f s h messages reading disks e → IsAlike t f s h messages reading left new e
unfolding end_as
cause_as t f s h messages reading left new disks (redrive_end.Finished why) no_disk no_file cause = record { ending = refl; cause = (came_as s h messages cause.0, cause.1, cause.2) }
cause_as t f s h messages reading left new disks redrive_end.CallsSpent no_disk no_file cause = record { ending = refl; cause = (came_as s h messages cause.0, cause.1, inl (cause.3, cause.2)) }
cause_as t f s h messages reading left new disks redrive_end.DiskFault no_disk no_file cause = absurd (no_disk cause)
cause_as t f s h messages reading left new disks redrive_end.DestFault no_disk no_file cause = absurd (no_file cause)
cause_as t f s h messages reading left new disks (redrive_end.Changed change) no_disk no_file cause = record { ending = refl; cause = cause.0 }
cause_as t f s h messages reading left new disks (redrive_end.BadLine index) no_disk no_file cause = absurd cause

-- a run over good lines found no bad one

pub no_bad_letter : (fifo : Bool) (lines : List (List ℕ)) (i : ℕ) → AreLetters fifo lines (length lines) → IsFirstBad fifo lines i → ⊥
no_bad_letter fifo lines i letters bad =
    let some : is_some (dead_message fifo bad.payload) ≡ true = letters i bad.payload (slice_get_within lines i bad.payload bad.at) bad.at in
    let both : true ≡ false = sym some ∙ ap is_some bad.bad in
    cc

module _ {S D F : Type 0} (o : RunTells S D F) (w : RedriveWords) (h : List Entry) (old new : Seen S D F) where
  letters_of : (t : List ℕ) (e : Ending) (one : IsRedriveRun o w h old new t e) → AreLetters (is_fifo one.mapping.config.kind) one.files.dest.payloads (length one.files.dest.payloads)
  letters_of t e one = one.run.is_setting.letters

  refused_or_ran : (t u : List ℕ) (e d : Ending) → AreSoundDevices o old new → (one : HasRefusedLine o w h old new t e) → (other : IsRedriveRun o w h old new u d) → one.mapping ≡ other.mapping → ⊥
  refused_or_ran t u e d sound one other mappings =
      let a = redrive_asks w in
      let lines : one.files.dest.payloads ≡ other.files.dest.payloads = same_lines o a old new one.mapping other.mapping one.files other.files sound one.ready other.ready in
      let bad : IsFirstBad (is_fifo other.mapping.config.kind) other.files.dest.payloads one.index =
      subst (λ (n : NamedMapping). IsFirstBad (is_fifo n.config.kind) other.files.dest.payloads one.index) mappings
      (subst (λ ps. IsFirstBad (is_fifo one.mapping.config.kind) ps one.index) lines one.first_bad) in
      no_bad_letter (is_fifo other.mapping.config.kind) other.files.dest.payloads one.index (letters_of u d other) bad

  -- a run, as one of a queue's mapping
  run_as : (t : List ℕ) (e : Ending) → AreSoundDevices o old new → (one : IsRedriveRun o w h old new t e)
      → IsAlike o.run one.files one.run.setting h (messages_in_items (handed one.run.input)) one.run.input.end (o.left new.input) (devices_of new) one.end_is
  run_as t e sound one =
      let none : NoneRose o.run.disk one.files new.disks.journal new.disks.spare new.disks.failures = none_rose o (redrive_asks w) old new one.mapping one.files sound one.ready in
      let messages : List Message = messages_in_items (handed one.run.input) in
      cause_as o.run one.files one.run.setting h messages one.run.input.end (o.left new.input) (devices_of new) (redrive_disks new) one.end_is
      none.opened_pair none.opened_failures
      (subst (λ reading. redrive.IsCauseOf o.run.disk one.files one.run.setting h messages reading (redrive_disks new) one.end_is) (sym one.run.read_to) one.run.cause)

  one_redrive_run : (t u : List ℕ) (e d : Ending) → WholeGoesOn → SameTold → AreSoundDevices o old new
      → (one : IsRedriveRun o w h old new t e) → (other : IsRedriveRun o w h old new u d) → one.mapping ≡ other.mapping → status_of e ≡ status_of d
  one_redrive_run t u e d goes told sound one other mappings =
      let a = redrive_asks w in
      let configs : one.mapping.config ≡ other.mapping.config = ap (λ (n : NamedMapping). n.config) mappings in
      let saids : one.files.said ≡ other.files.said = same_said o a old new one.mapping other.mapping one.files other.files told sound one.ready other.ready in
      let xs : List Message = messages_in_items (handed one.run.input) in
      let ys : List Message = messages_in_items (handed other.run.input) in
      let input : IsInputOf o.faults o.left one.mapping.config old.input new.input other.run.input =
      subst (λ c. IsInputOf o.faults o.left c old.input new.input other.run.input) (sym configs) other.run.is_input in
      let same : other.run.setting.queue ≡ over_messages one.run.setting.queue other.run.setting.queue.messages =
      one_setting w one.mapping.config other.mapping.config one.files other.files xs ys one.run.setting other.run.setting configs saids one.run.is_setting other.run.is_setting in
      let first = run_as t e sound one in
      let second = run_as u d sound other in
      ap status_of one.tells
      ∙ first.ending
      ∙ one_queue_end o.run one.files other.files one.run.setting.queue other.run.setting.queue h xs ys one.run.input.end other.run.input.end (o.left new.input) (devices_of new)
      (end_as one.end_is) (end_as other.end_is)
      (faultless o a old new one.mapping one.files sound one.ready) (faultless o a old new other.mapping other.files sound other.ready)
      (shared_by o.faults o.left one.mapping.config old.input new.input one.run.input other.run.input one.run.setting.queue other.run.setting.queue goes sound.told sound.no_input_fault
      one.run.is_input input same)
      first.cause second.cause
      ∙ sym second.ending
      ∙ sym (ap status_of other.tells)

  -- why `redrive` ended

  one_redrive_cause : (t u : List ℕ) (e d : Ending) → AreLaws o.run.disk → IsOneAsked (redrive_asks w) old.disks.registry new.disks.registry → AreSoundDevices o old new
      → RedriveCause o w h old new t e → RedriveCause o w h old new u d → status_of e ≡ status_of d
  one_redrive_cause t u e d laws once sound (inl one) (inl other) = unrun_twice o (redrive_asks w) old new e d once sound one.why other.why
  one_redrive_cause t u e d laws once sound (inl one) (inr (inl other)) = absurd (run_or_unrun o (redrive_asks w) old new other.mapping other.files e once sound other.ready one.why)
  one_redrive_cause t u e d laws once sound (inl one) (inr (inr other)) = absurd (run_or_unrun o (redrive_asks w) old new other.mapping other.files e once sound other.ready one.why)
  one_redrive_cause t u e d laws once sound (inr (inl one)) (inl other) = absurd (run_or_unrun o (redrive_asks w) old new one.mapping one.files d once sound one.ready other.why)
  one_redrive_cause t u e d laws once sound (inr (inr one)) (inl other) = absurd (run_or_unrun o (redrive_asks w) old new one.mapping one.files d once sound one.ready other.why)
  one_redrive_cause t u e d laws once sound (inr (inl one)) (inr (inl other)) = ap status_of one.tells ∙ sym (ap status_of other.tells)
  one_redrive_cause t u e d laws once sound (inr (inl one)) (inr (inr other)) =
      absurd (refused_or_ran t u e d sound one other (once.one_mapping one.mapping other.mapping one.ready.named other.ready.named))
  one_redrive_cause t u e d laws once sound (inr (inr one)) (inr (inl other)) =
      absurd (refused_or_ran u t d e sound other one (once.one_mapping other.mapping one.mapping other.ready.named one.ready.named))
  one_redrive_cause t u e d laws once sound (inr (inr one)) (inr (inr other)) =
      one_redrive_run t u e d laws.whole_goes_on laws.same_told sound one other (once.one_mapping one.mapping other.mapping one.ready.named other.ready.named)

pub same_redrive : {S D F : Type 0} (o : RunTells S D F) (w : RedriveWords) (output : Written) (h : List Entry) (old new : Seen S D F) (a b : ℕ)
    → AreLaws o.run.disk → AreSoundDevices o old new → ¬ Rose output.faults_before output.faults_now → RedriveOutcome o w output h old new a → RedriveOutcome o w output h old new b → a ≡ b
same_redrive o w output h old new a b laws run_sound sound one other =
    let once = text_once Queue w.config old.disks.registry new.disks.registry laws.one_expected in
    told_once (RedriveCause o w h old new) output a b (λ t u e d. one_redrive_cause o w h old new t u e d laws once run_sound) sound one other
