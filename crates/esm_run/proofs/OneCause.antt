-- The causes of statuses exclude one another, where no device failed.
use Rattle.std.proofs.Common.{◌≡◌, ◌∙◌, ℕ, true, false, List, Option, Some, None, ap, inl, inr, sym}
use Rattle.std.specs.Prelude.{◌⊎◌, ◌≢◌}
use Rattle.esm_cli.specs.declared.command.RunWords.{RunWords}
use Rattle.esm_io.specs.Faults.{Rose}
use Rattle.esm_io.specs.Meanings.{DiskMeaning}
use Rattle.esm_mapping.specs.declared.named.MappingError.{MappingError}
use Rattle.esm_mapping.specs.declared.named.MappingError.TheVariants.{OutOfMemory}
use Rattle.esm_mapping.specs.declared.named.NamedMapping.{NamedMapping}
use Rattle.esm_model.specs.Valid.{is_stream}
use Rattle.esm_model.specs.declared.entry.Entry.{Entry}
use Rattle.esm_report.specs.declared.ending.Ending.{Ending}
use Rattle.esm_report.specs.declared.ending.Ending.TheVariants as ending
use Rattle.esm_runner.specs.Files.{FilesState}
use Rattle.esm_run.specs.Answers.{AreGoodFiles, AreSoundDevices, HasRefusedFiles, HasRefusedMapping, HasTold, IsReadyFor, IsSoundRun, RunCause, RunOutcome, asked}
use Rattle.esm_run.specs.Asks.{Asks}
use Rattle.esm_run.specs.Endings.{ending_of_mapping, status_of, IsTold}
use Rattle.esm_run.specs.World.{RunTells, Seen, Written}
use Rattle.esm_run.proofs.OneCommand.{OneCommand}
use Rattle.esm_run.proofs.OneQueueRun.{one_queue_run}
use Rattle.esm_run.proofs.OneReading.{WholeGoesOn}
use Rattle.esm_run.proofs.OneReady.{IsOneAnswer, IsOneAsked, IsOneExpected, words_once}
use Rattle.esm_run.proofs.OneRefusal.{good_of_ready, refused_files}
use Rattle.esm_run.proofs.OneRun.{one_run}
use Rattle.esm_run.proofs.OneSetting.{SameTold}

-- the laws of the words, of the lines, of what payloads say, and of what words and texts name
pub record AreLaws {D : Type 0} (m : DiskMeaning D) : Type 0 where
  pub one_command : OneCommand
  pub whole_goes_on : WholeGoesOn
  pub same_told : SameTold
  pub one_answer : IsOneAnswer m
  pub one_expected : IsOneExpected

-- why nothing ran

same_status : (e d : Ending) → Some e ≡ Some d → status_of e ≡ status_of d
same_status e d is = (let same : e ≡ d = cc in ap status_of same)

none_tells : (e : Ending) → None ≡ Some e → ⊥
none_tells e is = cc

-- want of memory tells no ending
pub not_memory : (why : MappingError) (e : Ending) → ending_of_mapping why ≡ Some e → why ≢ OutOfMemory
not_memory why e tells memory = none_tells e (sym (ap ending_of_mapping memory) ∙ tells)

refused_twice : {S D F : Type 0} (o : RunTells S D F) (a : Asks D) (old new : Seen S D F) (e d : Ending) → IsOneAsked a old.disks.registry new.disks.registry
    → HasRefusedMapping o.run.disk a old new e → HasRefusedMapping o.run.disk a old new d → status_of e ≡ status_of d
refused_twice o a old new e d once one other =
    let whys : one.why ≡ other.why =
    once.one_reason one.why other.why one.refused (not_memory one.why e one.tells) other.refused (not_memory other.why d other.tells) in
    same_status e d (sym one.tells ∙ ap ending_of_mapping whys ∙ other.tells)

pub unrun_twice : {S D F : Type 0} (o : RunTells S D F) (a : Asks D) (old new : Seen S D F) (e d : Ending) → IsOneAsked a old.disks.registry new.disks.registry → AreSoundDevices o old new
    → HasRefusedFiles o.run.disk old new e ⊎ HasRefusedMapping o.run.disk a old new e → HasRefusedFiles o.run.disk old new d ⊎ HasRefusedMapping o.run.disk a old new d
    → status_of e ≡ status_of d
unrun_twice o a old new e d once sound (inl one) (inl other) = (refused_files o old new e sound one).0 ∙ sym (refused_files o old new d sound other).0
unrun_twice o a old new e d once sound (inl one) (inr other) = absurd ((refused_files o old new e sound one).1 other.good)
unrun_twice o a old new e d once sound (inr one) (inl other) = absurd ((refused_files o old new d sound other).1 one.good)
unrun_twice o a old new e d once sound (inr one) (inr other) = refused_twice o a old new e d once one other

-- good files and a mapping that is named exclude these reasons
pub good_or_unrun : {S D F : Type 0} (o : RunTells S D F) (a : Asks D) (old new : Seen S D F) (mapping : NamedMapping) (e : Ending)
    → IsOneAsked a old.disks.registry new.disks.registry → AreSoundDevices o old new
    → AreGoodFiles o.run.disk old.disks → a.is_named old.disks.registry mapping → HasRefusedFiles o.run.disk old new e ⊎ HasRefusedMapping o.run.disk a old new e → ⊥
good_or_unrun o a old new mapping e once sound good named (inl refused) = (refused_files o old new e sound refused).1 good
good_or_unrun o a old new mapping e once sound good named (inr refused) = not_memory refused.why e refused.tells (once.no_reason mapping refused.why named refused.refused)

-- and so does a run
pub run_or_unrun : {S D F : Type 0} (o : RunTells S D F) (a : Asks D) (old new : Seen S D F) (mapping : NamedMapping) (files : FilesState D) (e : Ending)
    → IsOneAsked a old.disks.registry new.disks.registry → AreSoundDevices o old new
    → IsReadyFor o.run.disk a old new mapping files → HasRefusedFiles o.run.disk old new e ⊎ HasRefusedMapping o.run.disk a old new e → ⊥
run_or_unrun o a old new mapping files e once sound ready why = good_or_unrun o a old new mapping e once sound (good_of_ready o.run.disk a old new mapping files ready) ready.named why

-- a mapping is of one kind
pub one_kind : (a b : NamedMapping) → a ≡ b → is_stream a.config.kind ≡ true → is_stream b.config.kind ≡ false → ⊥
one_kind a b same stream queue =
    let both : true ≡ false = sym stream ∙ ap (λ (n : NamedMapping). is_stream n.config.kind) same ∙ queue in
    cc

-- why the options of `run` ended

one_cause : {S D F : Type 0} (o : RunTells S D F) (r : RunWords) (h : List Entry) (old new : Seen S D F) (t u : List ℕ) (e d : Ending)
    → AreLaws o.run.disk → IsOneAsked (asked o r) old.disks.registry new.disks.registry → AreSoundDevices o old new → RunCause o r h old new t e → RunCause o r h old new u d → status_of e ≡ status_of d
one_cause o r h old new t u e d laws once sound (inl one) (inl other) = unrun_twice o (asked o r) old new e d once sound one.why other.why
one_cause o r h old new t u e d laws once sound (inl one) (inr (inl other)) = absurd (run_or_unrun o (asked o r) old new other.mapping other.files e once sound other.ready one.why)
one_cause o r h old new t u e d laws once sound (inl one) (inr (inr other)) = absurd (run_or_unrun o (asked o r) old new other.mapping other.files e once sound other.ready one.why)
one_cause o r h old new t u e d laws once sound (inr (inl one)) (inl other) = absurd (run_or_unrun o (asked o r) old new one.mapping one.files d once sound one.ready other.why)
one_cause o r h old new t u e d laws once sound (inr (inr one)) (inl other) = absurd (run_or_unrun o (asked o r) old new one.mapping one.files d once sound one.ready other.why)
one_cause o r h old new t u e d laws once sound (inr (inl one)) (inr (inl other)) =
    one_run o r h old new t u e d laws.whole_goes_on laws.same_told sound one other (once.one_mapping one.mapping other.mapping one.ready.named other.ready.named)
one_cause o r h old new t u e d laws once sound (inr (inr one)) (inr (inr other)) =
    one_queue_run o r h old new t u e d laws.whole_goes_on laws.same_told sound one other (once.one_mapping one.mapping other.mapping one.ready.named other.ready.named)
one_cause o r h old new t u e d laws once sound (inr (inl one)) (inr (inr other)) =
    absurd (one_kind one.mapping other.mapping (once.one_mapping one.mapping other.mapping one.ready.named other.ready.named) one.kind other.kind)
one_cause o r h old new t u e d laws once sound (inr (inr one)) (inr (inl other)) =
    absurd (one_kind other.mapping one.mapping (once.one_mapping other.mapping one.mapping other.ready.named one.ready.named) other.kind one.kind)

-- an output that did not fail tells the status of the ending

pub told_status : (faults_before faults_now : ℕ) (before after : Option (List ℕ)) (text : List ℕ) (e : Ending) (status : ℕ)
    → ¬ Rose faults_before faults_now → IsTold faults_before faults_now before after text e status → status ≡ status_of e
told_status faults_before faults_now before after text e status sound (inl told) = told.0
told_status faults_before faults_now before after text e status sound (inr failed) = absurd (sound failed.1.fault)

pub bad_words_status : (faults_before faults_now : ℕ) (before after : Option (List ℕ)) (text : List ℕ) (status : ℕ)
    → IsTold faults_before faults_now before after text ending.BadWords status → status ≡ 2
bad_words_status faults_before faults_now before after text status (inl told) = told.0
bad_words_status faults_before faults_now before after text status (inr failed) = failed.0

-- two outcomes of one cause have one status

pub told_once : (cause : List ℕ → Ending → Type 0) (output : Written) (a b : ℕ) → ((t u : List ℕ) (e d : Ending) → cause t e → cause u d → status_of e ≡ status_of d)
    → ¬ Rose output.faults_before output.faults_now → HasTold cause output a → HasTold cause output b → a ≡ b
told_once cause output a b once sound one other =
    told_status output.faults_before output.faults_now output.before output.after one.ended.text one.ending a sound one.told
    ∙ once one.ended.text other.ended.text one.ending other.ending one.ended.cause_is other.ended.cause_is
    ∙ sym (told_status output.faults_before output.faults_now output.before output.after other.ended.text other.ending b sound other.told)

pub same_options : {S D F : Type 0} (o : RunTells S D F) (r : RunWords) (output : Written) (h : List Entry) (old new : Seen S D F) (a b : ℕ)
    → AreLaws o.run.disk → IsSoundRun o r old new → ¬ Rose output.faults_before output.faults_now → RunOutcome o r output h old new a → RunOutcome o r output h old new b → a ≡ b
same_options o r output h old new a b laws run_sound sound one other =
    let once = words_once o r old new laws.one_answer run_sound in
    told_once (RunCause o r h old new) output a b (λ t u e d. one_cause o r h old new t u e d laws once run_sound.0) sound one other
