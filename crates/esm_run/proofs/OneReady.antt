-- One world gives one mapping that may run, or one reason why there is none, and its files say one thing, where no device of a
-- run failed.
use Rattle.std.proofs.Common.{◌≡◌, ◌∙◌, ℕ, List, true, ap, arith, inl, subst, sym}
use Rattle.std.specs.Prelude.{◌≢◌}
use Rattle.esm_cli.specs.declared.command.RunWords.{RunWords}
use Rattle.esm_cli.specs.declared.command.Which.{Which}
use Rattle.esm_cli.specs.declared.command.Which.TheVariants as which
use Rattle.esm_io.specs.Faults.{Rose}
use Rattle.esm_io.specs.Meanings.{DiskMeaning}
use Rattle.esm_journal.specs.File.{Holding}
use Rattle.esm_mapping.specs.Named.{IsExpected, IsNamed, WhyNot, WhyNotExpected}
use Rattle.esm_mapping.specs.declared.expected.Expected.{Expected}
use Rattle.esm_mapping.specs.declared.named.MappingError.{MappingError}
use Rattle.esm_mapping.specs.declared.named.MappingError.TheVariants.{OutOfMemory}
use Rattle.esm_mapping.specs.declared.named.NamedMapping.{NamedMapping}
use Rattle.esm_runner.specs.Files.{FilesState}
use Rattle.esm_runner.specs.Headline.{Devices}
use Rattle.esm_folder.specs.Upkeep.{OneRose, found}
use Rattle.esm_run.specs.Answers.{AreSoundDevices, IsReadyFor, IsSoundRegistry, IsSoundRun, asked}
use Rattle.esm_run.specs.Asks.{Asks, by_text}
use Rattle.esm_run.specs.Tended.{IsSoundDisk}
use Rattle.esm_run.specs.World.{RunTells, Seen, devices_of}
use Rattle.esm_run.proofs.OneSetting.{SameTold, one_said}

-- the laws of what words name; where they name a mapping by a text, each disk will do

abbrev pub OneMapping : {D : Type 0} → DiskMeaning D → Type 0
OneMapping {D} m = (w : Which) (old : D) (one other : NamedMapping) → m.honest old ≡ true → IsNamed m w old one → IsNamed m w old other → one ≡ other

abbrev pub NoReason : {D : Type 0} → DiskMeaning D → Type 0
NoReason {D} m = (w : Which) (old new : D) (named : NamedMapping) (why : MappingError) → m.honest old ≡ true → ¬ Rose (m.faults old) (m.faults new)
    → IsNamed m w old named → WhyNot m w old new why → why ≡ OutOfMemory

abbrev pub OneReason : {D : Type 0} → DiskMeaning D → Type 0
OneReason {D} m = (w : Which) (old new : D) (one other : MappingError) → m.honest old ≡ true → ¬ Rose (m.faults old) (m.faults new)
    → WhyNot m w old new one → one ≢ OutOfMemory → WhyNot m w old new other → other ≢ OutOfMemory → one ≡ other

pub record IsOneAnswer {D : Type 0} (m : DiskMeaning D) : Type 0 where
  pub one_mapping : OneMapping m
  pub no_reason : NoReason m
  pub one_reason : OneReason m

-- of a sound run the journal's disk is one for a text

journal_sound : {S D F : Type 0} (o : RunTells S D F) (old new : Seen S D F) → AreSoundDevices o old new → IsSoundDisk o.run.disk old.disks.journal new.disks.journal
journal_sound o old new sound = record { honest = sound.honest.0; no_fault = λ rose. sound.no_fault (inl rose) }

named_once : {D : Type 0} (m : DiskMeaning D) (w : Which) (journal journal' old new : D) (a b : NamedMapping)
    → OneMapping m → IsSoundDisk m journal journal' → IsSoundRegistry m w old new → IsNamed m w old a → IsNamed m w old b → a ≡ b
named_once m (which.Config text) journal journal' old new a b law sound registry one other = law (which.Config text) journal a b sound.honest one other
named_once m (which.Mapping id) journal journal' old new a b law sound registry one other = law (which.Mapping id) old a b registry.honest one other

named_for_no_reason : {D : Type 0} (m : DiskMeaning D) (w : Which) (journal journal' old new : D) (a : NamedMapping) (why : MappingError)
    → NoReason m → IsSoundDisk m journal journal' → IsSoundRegistry m w old new → IsNamed m w old a → WhyNot m w old new why → why ≡ OutOfMemory
named_for_no_reason m (which.Config text) journal journal' old new a why law sound registry named refused =
    law (which.Config text) journal journal' a why sound.honest sound.no_fault named refused
named_for_no_reason m (which.Mapping id) journal journal' old new a why law sound registry named refused =
    law (which.Mapping id) old new a why registry.honest registry.no_fault named refused

refused_once : {D : Type 0} (m : DiskMeaning D) (w : Which) (journal journal' old new : D) (a b : MappingError)
    → OneReason m → IsSoundDisk m journal journal' → IsSoundRegistry m w old new → WhyNot m w old new a → a ≢ OutOfMemory → WhyNot m w old new b → b ≢ OutOfMemory → a ≡ b
refused_once m (which.Config text) journal journal' old new a b law sound registry one caused other caused_too =
    law (which.Config text) journal journal' a b sound.honest sound.no_fault one caused other caused_too
refused_once m (which.Mapping id) journal journal' old new a b law sound registry one caused other caused_too =
    law (which.Mapping id) old new a b registry.honest registry.no_fault one caused other caused_too

-- of a command that runs a mapping

-- its words name one mapping, or there is one reason why they name none
pub record IsOneAsked {D : Type 0} (a : Asks D) (old new : D) : Type 0 where
  pub one_mapping : (one other : NamedMapping) → a.is_named old one → a.is_named old other → one ≡ other
  pub no_reason : (named : NamedMapping) (why : MappingError) → a.is_named old named → a.why_not old new why → why ≡ OutOfMemory
  pub one_reason : (one other : MappingError) → a.why_not old new one → one ≢ OutOfMemory → a.why_not old new other → other ≢ OutOfMemory → one ≡ other

pub words_once : {S D F : Type 0} (o : RunTells S D F) (r : RunWords) (old new : Seen S D F) → IsOneAnswer o.run.disk → IsSoundRun o r old new → IsOneAsked (asked o r) old.disks.registry new.disks.registry
words_once o r old new laws sound =
    let journal = journal_sound o old new sound.0 in
    record {
      one_mapping = λ one other. named_once o.run.disk r.which old.disks.journal new.disks.journal old.disks.registry new.disks.registry one other laws.one_mapping journal sound.1;
      no_reason = λ named why. named_for_no_reason o.run.disk r.which old.disks.journal new.disks.journal old.disks.registry new.disks.registry named why laws.no_reason journal sound.1;
      one_reason = λ one other. refused_once o.run.disk r.which old.disks.journal new.disks.journal old.disks.registry new.disks.registry one other laws.one_reason journal sound.1;
    }

-- the laws of what a text gives
pub record IsOneExpected : Type 0 where
  pub one_mapping : (e : Expected) (text : List ℕ) (one other : NamedMapping) → IsExpected e text one → IsExpected e text other → one ≡ other
  pub no_reason : (e : Expected) (text : List ℕ) (named : NamedMapping) (why : MappingError) → IsExpected e text named → WhyNotExpected e text why → why ≡ OutOfMemory
  pub one_reason : (e : Expected) (text : List ℕ) (one other : MappingError) → WhyNotExpected e text one → one ≢ OutOfMemory
      → WhyNotExpected e text other → other ≢ OutOfMemory → one ≡ other

pub text_once : {D : Type 0} (e : Expected) (text : List ℕ) (old new : D) → IsOneExpected → IsOneAsked (by_text e text) old new
text_once e text old new laws = record { one_mapping = laws.one_mapping e text; no_reason = laws.no_reason e text; one_reason = laws.one_reason e text }

-- no disk of a run failed

pub record IsFaultless {D F : Type 0} (m : DiskMeaning D) (f : FilesState D) (new : Devices D F) : Type 0 where
  pub pair : OneRose m f.journal f.spare new.journal new.spare → ⊥
  pub failures : Rose (m.faults f.failures) (m.faults new.failures) → ⊥
  pub opened_failures : Rose (m.faults f.dest.disk) (m.faults new.failures) → ⊥

pub faultless : {S D F : Type 0} (o : RunTells S D F) (a : Asks D) (old new : Seen S D F) (mapping : NamedMapping) (f : FilesState D)
    → AreSoundDevices o old new → IsReadyFor o.run.disk a old new mapping f → IsFaultless o.run.disk f (devices_of new)
faultless o a old new mapping f sound ready =
    let failures : Rose (o.run.disk.faults f.failures) (o.run.disk.faults new.disks.failures) → ⊥ =
    subst (λ d. Rose (o.run.disk.faults d) (o.run.disk.faults new.disks.failures) → ⊥) (sym ready.failures) sound.no_failures_fault in
    let later = ready.opened.lines_read.never_falls in
    record {
      pair = subst (λ d. OneRose o.run.disk d f.spare new.disks.journal new.disks.spare → ⊥) (sym ready.journal)
          (subst (λ d. OneRose o.run.disk old.disks.journal d new.disks.journal new.disks.spare → ⊥) (sym ready.spare) sound.no_fault);
      failures = failures;
      opened_failures = λ rose. failures (λ below. (let above = rose below in omega (arith, later, above)));
    }

-- the pair was found so
pub opens_to : {S D F : Type 0} (o : RunTells S D F) (a : Asks D) (old new : Seen S D F) (mapping : NamedMapping) (f : FilesState D) → AreSoundDevices o old new → IsReadyFor o.run.disk a old new mapping f
    → found o.run.disk old.disks.journal old.disks.spare ≡ Holding f.pair.epoch f.pair.payloads
opens_to o a old new mapping f sound ready =
    ap (λ d. found o.run.disk d old.disks.spare) (sym ready.journal)
    ∙ ap (λ d. found o.run.disk f.journal d) (sym ready.spare)
    ∙ ready.opened.opens (
      subst (λ d. o.run.disk.honest d ≡ true) (sym ready.journal) sound.honest.0,
      subst (λ d. o.run.disk.honest d ≡ true) (sym ready.spare) sound.honest.1,
    )

pub same_said : {S D F : Type 0} (o : RunTells S D F) (x : Asks D) (old new : Seen S D F) (a b : NamedMapping) (f g : FilesState D)
    → SameTold → AreSoundDevices o old new → IsReadyFor o.run.disk x old new a f → IsReadyFor o.run.disk x old new b g → f.said ≡ g.said
same_said o x old new a b f g told sound one other =
    one_said (found o.run.disk old.disks.journal old.disks.spare) f.pair.epoch g.pair.epoch f.pair.payloads g.pair.payloads f.said g.said told
    (opens_to o x old new a f sound one) (opens_to o x old new b g sound other) one.opened.tells other.opened.tells one.opened.order other.opened.order
