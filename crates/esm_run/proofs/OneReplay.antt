-- Two outcomes of `replay` over the same worlds that left the same history have one status, where no device failed.
use Rattle.std.proofs.Common.{◌≡◌, ◌∙◌, ℕ, Bool, List, [], Option, Some, None, ap, inl, inr, refl, subst, sym}
use Rattle.std.specs.Option.{option_or}
use Rattle.std.specs.Prelude.{◌⊎◌}
use Rattle.esm_input.specs.declared.ending.InputEnd.{InputEnd}
use Rattle.esm_input.specs.Reading.{InputState, handed}
use Rattle.esm_io.specs.Faults.{Rose}
use Rattle.esm_io.specs.Meanings.{DiskMeaning}
use Rattle.esm_journal_state.specs.SaidLists.{SaidLists}
use Rattle.esm_mapping.specs.declared.expected.Expected.TheVariants.{Stream}
use Rattle.esm_mapping.specs.declared.named.NamedMapping.{NamedMapping}
use Rattle.esm_model.specs.declared.book.Change.{Change}
use Rattle.esm_model.specs.declared.config.Config.{Config}
use Rattle.esm_model.specs.declared.entry.Entry.{Entry}
use Rattle.esm_model.specs.declared.item.LineKind.TheVariants as kinds
use Rattle.esm_model.specs.Records.{Record}
use Rattle.esm_replay_book.proofs.Deciding.{change-append}
use Rattle.esm_replay.specs.Records.{of_shard}
use Rattle.esm_replay_book.specs.Opening.{IsFirstBadLine}
use Rattle.esm_replay_book.specs.Serving.{records_in_items}
use Rattle.esm_replay.specs.Coming.{first_change}
use Rattle.esm_replay_model.specs.ReplayRun.{pieces_left}
use Rattle.esm_replay_model.specs.ReplaySetting.{ReplaySetting}
use Rattle.esm_replay_run.specs.Ended.{AllCame, HasEnded, HasRun, IsCauseOf, IsInputOf}
use Rattle.esm_replay_run.specs.Headline.{Disks}
use Rattle.esm_replay_run.specs.declared.report.ReplayCounts.{ReplayCounts}
use Rattle.esm_replay_run.specs.declared.run.ReplayEnd.{ReplayEnd}
use Rattle.esm_replay_run.specs.declared.run.ReplayEnd.TheVariants as end
use Rattle.esm_report.specs.declared.ending.Ending.{Ending}
use Rattle.esm_runner.specs.Files.{FilesState}
use Rattle.esm_run.specs.Answers.{AreSoundDevices, IsReadyFor}
use Rattle.esm_run.specs.Endings.{ending_of_reading, ending_of_replay, status_of}
use Rattle.esm_run.specs.Replay.{IsReplayRun, ReplayCause, ReplayOutcome, replay_asks, replay_disks, replay_tells}
use Rattle.esm_run.specs.World.{RunTells, Seen, Written}
use Rattle.esm_run.proofs.Fronts.{IsFront}
use Rattle.esm_run.proofs.OneCause.{AreLaws, run_or_unrun, told_once, unrun_twice}
use Rattle.esm_run.proofs.OneOpened.{none_rose, same_lines}
use Rattle.esm_run.proofs.OneReading.{IsReadFrom, WholeGoesOn, one_end, one_front, one_handed, some_of}
use Rattle.esm_run.proofs.OneReady.{IsOneAsked, same_said, text_once}
use Rattle.esm_run.proofs.OneSetting.{SameTold}
use Rattle.esm_run.proofs.ReplaySettings.{no_bad_line, replay_records_front, same_setting}

-- where no record of an input differs from what the journal kept of it, none of its front does

stays_first : (o a : Option Change) (change : Change) → o ≡ Some change → option_or o a ≡ Some change
stays_first o a change is = ap (λ c. option_or c a) is

unchanged : (told other : SaidLists) (xs ys : List Record) (change : Change) → told ≡ other → first_change told [] xs ≡ None → IsFront ys xs → first_change other [] ys ≡ Some change → ⊥
unchanged told other xs ys change same none front differs =
    let own : first_change told [] ys ≡ Some change = ap (λ t. first_change t [] ys) same ∙ differs in
    let more : first_change told [] xs ≡ Some change =
    ap (first_change told []) front.1
    ∙ change-append told [] ys front.0
    ∙ stays_first (first_change told [] ys) (first_change told ys front.0) change own in
    let both : Some change ≡ None = sym more ∙ none in
    cc

-- what two runs that left one history say of it: their settings, their records, and the ends of their readings
record IsShared (told other_told : SaidLists) (s z : ReplaySetting) (came come xs ys : List Record) (i j : Option InputEnd) : Type 0 where
  saids : told ≡ other_told
  ends : (e d : InputEnd) → i ≡ Some e → j ≡ Some d → e ≡ d
  front : (e : InputEnd) → i ≡ Some e → IsFront ys xs
  other_front : (e : InputEnd) → j ≡ Some e → IsFront xs ys
  settings : (e d : InputEnd) → i ≡ Some e → j ≡ Some d → AllCame told came xs → AllCame other_told come ys → s ≡ z

left_nowhere : (s z : ReplaySetting) (h : List Entry) → s ≡ z → pieces_left s h ≡ [] → (pieces_left z h ≡ [] → ⊥) → ⊥
left_nowhere s z h same none some = some (ap (λ v. pieces_left v h) (sym same) ∙ none)

one_replay_end : {D : Type 0} (m : DiskMeaning D) (f g : FilesState D) (s z : ReplaySetting) (h : List Entry) (came come xs ys : List Record) (i j : Option InputEnd) (new : Disks D) (e d : ReplayEnd)
    → (IsCauseOf m f s came h xs i new end.DiskFault → ⊥) → (IsCauseOf m g z come h ys j new end.DiskFault → ⊥) → IsShared f.said g.said s z came come xs ys i j
    → IsCauseOf m f s came h xs i new e → IsCauseOf m g z come h ys j new d → status_of (ending_of_replay e) ≡ status_of (ending_of_replay d)
one_replay_end m f g s z h came come xs ys i j new end.DiskFault d sound sound_too shared one other = absurd (sound one)
one_replay_end m f g s z h came come xs ys i j new (end.BadLine index) d sound sound_too shared one other = absurd one
one_replay_end m f g s z h came come xs ys i j new e end.DiskFault sound sound_too shared one other = absurd (sound_too other)
one_replay_end m f g s z h came come xs ys i j new e (end.BadLine index) sound sound_too shared one other = absurd other
one_replay_end m f g s z h came come xs ys i j new (end.Finished why) (end.Finished cause) sound sound_too shared one other =
    ap (λ w. status_of (ending_of_reading w)) (shared.ends why cause one.1 other.1)
one_replay_end m f g s z h came come xs ys i j new (end.Finished why) end.CallsSpent sound sound_too shared one other =
    let read = some_of j other.1 in
    absurd (left_nowhere s z h (shared.settings why read.0 one.1 read.1 one.0 other.0) one.2 other.3)
one_replay_end m f g s z h came come xs ys i j new (end.Finished why) (end.Changed change) sound sound_too shared one other =
    absurd (unchanged f.said g.said xs ys change shared.saids one.0.unchanged (shared.front why one.1) other.first)
one_replay_end m f g s z h came come xs ys i j new end.CallsSpent (end.Finished why) sound sound_too shared one other =
    let read = some_of i one.1 in
    absurd (left_nowhere z s h (sym (shared.settings read.0 why read.1 other.1 one.0 other.0)) other.2 one.3)
one_replay_end m f g s z h came come xs ys i j new end.CallsSpent end.CallsSpent sound sound_too shared one other = refl
one_replay_end m f g s z h came come xs ys i j new end.CallsSpent (end.Changed change) sound sound_too shared one other =
    let read = some_of i one.1 in
    absurd (unchanged f.said g.said xs ys change shared.saids one.0.unchanged (shared.front read.0 read.1) other.first)
one_replay_end m f g s z h came come xs ys i j new (end.Changed change) (end.Finished why) sound sound_too shared one other =
    absurd (unchanged g.said f.said ys xs change (sym shared.saids) other.0.unchanged (shared.other_front why other.1) one.first)
one_replay_end m f g s z h came come xs ys i j new (end.Changed change) end.CallsSpent sound sound_too shared one other =
    let read = some_of j other.1 in
    absurd (unchanged g.said f.said ys xs change (sym shared.saids) other.0.unchanged (shared.other_front read.0 read.1) one.first)
one_replay_end m f g s z h came come xs ys i j new (end.Changed change) (end.Changed other_change) sound sound_too shared one other = refl

-- the input of a replay

read_from : {S : Type 0} (faults : S → ℕ) (left : S → Option (List ℕ)) (c : Config) (old new : S) (i : InputState S) → IsInputOf faults left c old new i
    → IsReadFrom faults left kinds.Stream c.factor c.start old new i
read_from faults left c old new i is = record {
  kind_is = is.kind;
  factor_is = is.factor;
  start_is = is.start;
  found = is.found;
  source = is.source;
  good = is.good;
  read = is.read;
}

-- two runs

module _ {S D F : Type 0} (o : RunTells S D F) (config : List ℕ) (calls : ℕ) (traced : Bool) (h : List Entry) (old new : Seen S D F) where
  -- a replay of the mapping over these files, which ended so
  abbrev HasEndedSo : Config → FilesState D → (reading : Option InputEnd) → (caller caller_left : F) → ReplayCounts → ReplayEnd → Type 0
  HasEndedSo c f reading caller caller_left counts e =
      HasEnded (replay_tells o) o.faults o.left c calls f old.input new.input reading caller caller_left h counts (replay_disks new) e

  abbrev HasRunSo : Config → FilesState D → (reading : Option InputEnd) → (caller caller_left : F) → ReplayCounts → ReplayEnd → Type 0
  HasRunSo c f reading caller caller_left counts e =
      HasRun (replay_tells o) o.faults o.left c calls f old.input new.input reading caller caller_left h counts (replay_disks new) e

  -- a line was bad
  abbrev HasBadLine : FilesState D → ReplayEnd → Type 0
  HasBadLine f e = (index : ℕ) × (e ≡ end.BadLine index) × IsFirstBadLine f.dest.payloads index

  bad_or_ran : (c : Config) (f : FilesState D) (reading : Option InputEnd) (caller caller_left : F) (counts : ReplayCounts) (e : ReplayEnd)
      → HasEndedSo c f reading caller caller_left counts e → HasBadLine f e ⊎ HasRunSo c f reading caller caller_left counts e
  bad_or_ran c f reading caller caller_left counts (end.Finished why) ended = inr ended
  bad_or_ran c f reading caller caller_left counts end.CallsSpent ended = inr ended
  bad_or_ran c f reading caller caller_left counts end.DiskFault ended = inr ended
  bad_or_ran c f reading caller caller_left counts (end.Changed change) ended = inr ended
  bad_or_ran c f reading caller caller_left counts (end.BadLine index) ended = inl (index, refl, ended.0)

  bad_status : (f : FilesState D) (e : ReplayEnd) → HasBadLine f e → status_of (ending_of_replay e) ≡ 8
  bad_status f e bad = ap (λ v. status_of (ending_of_replay v)) bad.1

  both_ran : (a b : NamedMapping) (f g : FilesState D) (reading other_reading : Option InputEnd) (caller caller_left other_caller other_left : F) (counts other_counts : ReplayCounts) (e d : ReplayEnd)
      → WholeGoesOn → SameTold → AreSoundDevices o old new → IsReadyFor o.run.disk (replay_asks config) old new a f → IsReadyFor o.run.disk (replay_asks config) old new b g → a ≡ b
      → HasRunSo a.config f reading caller caller_left counts e → HasRunSo b.config g other_reading other_caller other_left other_counts d
      → status_of (ending_of_replay e) ≡ status_of (ending_of_replay d)
  both_ran a b f g reading other_reading caller caller_left other_caller other_left counts other_counts e d goes told sound ready also_ready mappings one other =
      let configs : a.config ≡ b.config = ap (λ (n : NamedMapping). n.config) mappings in
      let saids : f.said ≡ g.said = same_said o (replay_asks config) old new a b f g told sound ready also_ready in
      let lines : f.dest.payloads ≡ g.dest.payloads = same_lines o (replay_asks config) old new a b f g sound ready also_ready in
      let xs : List Record = records_in_items (handed one.input) in
      let ys : List Record = records_in_items (handed other.input) in
      let first = read_from o.faults o.left a.config old.input new.input one.input one.is_input in
      let second = read_from o.faults o.left a.config old.input new.input other.input (subst (λ c. IsInputOf o.faults o.left c old.input new.input other.input) (sym configs) other.is_input) in
      let kind = kinds.Stream in
      let factor = a.config.factor in
      let start = a.config.start in
      one_replay_end o.run.disk f g one.setting other.setting h one.came other.came xs ys reading other_reading (replay_disks new) e d
      (λ why. (none_rose o (replay_asks config) old new a f sound ready).opened_pair why.2) (λ why. (none_rose o (replay_asks config) old new b g sound also_ready).opened_pair why.2)
      (record {
        saids = saids;
        ends = λ v w ended also. one_end o.faults o.left kind factor start old.input new.input one.input other.input v w goes sound.told sound.no_input_fault first second (one.read_to ∙ ended) (other.read_to ∙ also);
        front = λ v ended. replay_records_front (handed other.input) (handed one.input)
            (one_front o.faults o.left kind factor start old.input new.input one.input other.input v goes sound.told sound.no_input_fault first second (one.read_to ∙ ended));
        other_front = λ v ended. replay_records_front (handed one.input) (handed other.input)
            (one_front o.faults o.left kind factor start old.input new.input other.input one.input v goes sound.told sound.no_input_fault second first (other.read_to ∙ ended));
        settings = λ v w ended also all all_too. same_setting a.config b.config calls f g one.came other.came one.setting other.setting configs saids lines
            (λ n. all.lists n
            ∙ ap (λ items. of_shard n (records_in_items items))
            (one_handed o.faults o.left kind factor start old.input new.input one.input other.input v w goes sound.told sound.no_input_fault first second (one.read_to ∙ ended) (other.read_to ∙ also))
            ∙ sym (all_too.lists n))
            one.is_setting other.is_setting;
      })
      one.cause other.cause

  either_end : (a b : NamedMapping) (f g : FilesState D) (reading other_reading : Option InputEnd) (caller caller_left other_caller other_left : F) (counts other_counts : ReplayCounts) (e d : ReplayEnd)
      → WholeGoesOn → SameTold → AreSoundDevices o old new → IsReadyFor o.run.disk (replay_asks config) old new a f → IsReadyFor o.run.disk (replay_asks config) old new b g → a ≡ b
      → HasBadLine f e ⊎ HasRunSo a.config f reading caller caller_left counts e → HasBadLine g d ⊎ HasRunSo b.config g other_reading other_caller other_left other_counts d
      → status_of (ending_of_replay e) ≡ status_of (ending_of_replay d)
  either_end a b f g reading other_reading caller caller_left other_caller other_left counts other_counts e d goes told sound ready also_ready mappings (inl one) (inl other) =
      bad_status f e one ∙ sym (bad_status g d other)
  either_end a b f g reading other_reading caller caller_left other_caller other_left counts other_counts e d goes told sound ready also_ready mappings (inl one) (inr other) =
      let lines : f.dest.payloads ≡ g.dest.payloads = same_lines o (replay_asks config) old new a b f g sound ready also_ready in
      absurd (no_bad_line g.dest.payloads other.is_setting.ranges one.0 other.is_setting.given (subst (λ ps. IsFirstBadLine ps one.0) lines one.2))
  either_end a b f g reading other_reading caller caller_left other_caller other_left counts other_counts e d goes told sound ready also_ready mappings (inr one) (inl other) =
      let lines : f.dest.payloads ≡ g.dest.payloads = same_lines o (replay_asks config) old new a b f g sound ready also_ready in
      absurd (no_bad_line f.dest.payloads one.is_setting.ranges other.0 one.is_setting.given (subst (λ ps. IsFirstBadLine ps other.0) (sym lines) other.2))
  either_end a b f g reading other_reading caller caller_left other_caller other_left counts other_counts e d goes told sound ready also_ready mappings (inr one) (inr other) =
      both_ran a b f g reading other_reading caller caller_left other_caller other_left counts other_counts e d goes told sound ready also_ready mappings one other

  one_replay_run : (t u : List ℕ) (e d : Ending) → WholeGoesOn → SameTold → AreSoundDevices o old new
      → (one : IsReplayRun o config calls traced h old new t e) → (other : IsReplayRun o config calls traced h old new u d) → one.mapping ≡ other.mapping → status_of e ≡ status_of d
  one_replay_run t u e d goes told sound one other mappings =
      ap status_of one.tells
      ∙ either_end one.mapping other.mapping one.files other.files one.reading other.reading one.caller one.caller_left other.caller other.caller_left one.counts other.counts one.end other.end
      goes told sound one.ready other.ready mappings
      (bad_or_ran one.mapping.config one.files one.reading one.caller one.caller_left one.counts one.end one.run)
      (bad_or_ran other.mapping.config other.files other.reading other.caller other.caller_left other.counts other.end other.run)
      ∙ sym (ap status_of other.tells)

  -- why `replay` ended

  one_replay_cause : (t u : List ℕ) (e d : Ending) → AreLaws o.run.disk → IsOneAsked (replay_asks config) old.disks.registry new.disks.registry → AreSoundDevices o old new
      → ReplayCause o config calls traced h old new t e → ReplayCause o config calls traced h old new u d → status_of e ≡ status_of d
  one_replay_cause t u e d laws once sound (inl one) (inl other) = unrun_twice o (replay_asks config) old new e d once sound one.why other.why
  one_replay_cause t u e d laws once sound (inl one) (inr other) = absurd (run_or_unrun o (replay_asks config) old new other.mapping other.files e once sound other.ready one.why)
  one_replay_cause t u e d laws once sound (inr one) (inl other) = absurd (run_or_unrun o (replay_asks config) old new one.mapping one.files d once sound one.ready other.why)
  one_replay_cause t u e d laws once sound (inr one) (inr other) =
      one_replay_run t u e d laws.whole_goes_on laws.same_told sound one other (once.one_mapping one.mapping other.mapping one.ready.named other.ready.named)

pub same_replay : {S D F : Type 0} (o : RunTells S D F) (config : List ℕ) (calls : ℕ) (traced : Bool) (output : Written) (h : List Entry) (old new : Seen S D F) (a b : ℕ)
    → AreLaws o.run.disk → AreSoundDevices o old new → ¬ Rose output.faults_before output.faults_now → ReplayOutcome o config calls traced output h old new a → ReplayOutcome o config calls traced output h old new b → a ≡ b
same_replay o config calls traced output h old new a b laws run_sound sound one other =
    let once = text_once Stream config old.disks.registry new.disks.registry laws.one_expected in
    told_once (ReplayCause o config calls traced h old new) output a b (λ t u e d. one_replay_cause o config calls traced h old new t u e d laws once run_sound) sound one other
