-- Two runs of one stream's mapping over the same worlds that left the same history have one status, where no device failed.
use Rattle.std.proofs.Common.{◌≡◌, ◌∙◌, ℕ, List, Option, Some, ap, inl, inr, refl, subst, sym}
use Rattle.std.specs.Prelude.{◌⊎◌, IsSome}
use Rattle.esm_cli.specs.declared.command.RunWords.{RunWords}
use Rattle.esm_input.specs.declared.ending.InputEnd.{InputEnd}
use Rattle.esm_input.specs.Reading.{InputState, handed}
use Rattle.esm_io.specs.Faults.{Rose}
use Rattle.esm_mapping.specs.declared.named.NamedMapping.{NamedMapping}
use Rattle.esm_model.specs.declared.book.Change.{Change}
use Rattle.esm_model.specs.declared.config.Config.{Config}
use Rattle.esm_model.specs.declared.config.Start.{Start}
use Rattle.esm_model.specs.declared.entry.Entry.{Entry}
use Rattle.esm_model.specs.Records.{Record}
use Rattle.esm_model.specs.Setting.{Setting, over}
use Rattle.esm_runner.specs.Coming.{records_in_items}
use Rattle.esm_model.specs.declared.item.LineKind.TheVariants as kinds
use Rattle.esm_report.specs.declared.ending.Ending.{Ending}
use Rattle.esm_runner.specs.Ran.{HasOpen, HasOutstanding, IsUnfinished}
use Rattle.esm_runner.specs.Ended.{IsCauseOf, IsInputOf}
use Rattle.esm_runner.specs.Files.{FilesState}
use Rattle.esm_runner.specs.Headline.{Devices, Telling}
use Rattle.esm_runner.specs.declared.run.MappingEnd.{MappingEnd}
use Rattle.esm_runner.specs.declared.run.MappingEnd.TheVariants as end
use Rattle.esm_run.specs.Answers.{AreSoundDevices, IsStreamRun, asked}
use Rattle.esm_run.specs.Endings.{ending_of, status_of}
use Rattle.esm_run.specs.World.{RunTells, Seen, devices_of}
use Rattle.esm_run.proofs.Fronts.{IsFront, records_front}
use Rattle.esm_run.proofs.KeptNumbers.{unchanged}
use Rattle.esm_run.proofs.OneReading.{IsReadFrom, WholeGoesOn, one_end, one_front, some_of, told_still}
use Rattle.esm_run.proofs.OneReady.{IsFaultless, faultless, same_said}
use Rattle.esm_run.proofs.OneSetting.{SameTold, left_nowhere, one_setting, other_setting}

-- what two runs that left one history say of it: their settings, their records, the ends of their readings, and the bytes that
-- are left
pub record IsShared (s z : Setting) (xs ys : List Record) (i j : Option InputEnd) (bytes_left : Option (List ℕ)) : Type 0 where
  pub same : z ≡ over s z.streams
  pub told : IsSome bytes_left
  pub ends : (e d : InputEnd) → i ≡ Some e → j ≡ Some d → e ≡ d
  pub front : (e : InputEnd) → i ≡ Some e → IsFront ys xs
  pub other_front : (e : InputEnd) → j ≡ Some e → IsFront xs ys

-- of an input that tells its bytes the reading ended, and something is left
pub unfinished_so : (s : Setting) (h : List Entry) (reading : Option InputEnd) (bytes_left : Option (List ℕ)) → IsSome bytes_left → IsUnfinished s h reading bytes_left → IsSome reading × (HasOpen s h ⊎ HasOutstanding s h)
unfinished_so s h reading bytes_left told (inl ended) = ended
unfinished_so s h reading bytes_left told (inr (going, untold)) = absurd (let some = told in let none = untold in cc)

pub one_stream_end : {D F : Type 0} (t : Telling D F) (f g : FilesState D) (s z : Setting) (h : List Entry) (xs ys : List Record) (i j : Option InputEnd) (bytes_left : Option (List ℕ)) (new : Devices D F) (tell : MappingEnd → Ending) (e d : MappingEnd)
    → ((c k : Change) → status_of (tell (end.Changed c)) ≡ status_of (tell (end.Changed k))) → IsFaultless t.disk f new → IsFaultless t.disk g new → IsShared s z xs ys i j bytes_left
    → IsCauseOf t f s h xs i bytes_left new e → IsCauseOf t g z h ys j bytes_left new d → status_of (tell e) ≡ status_of (tell d)
one_stream_end t f g s z h xs ys i j l new tell end.DiskFault d changed sound sound_too shared one other = absurd (sound.pair one)
one_stream_end t f g s z h xs ys i j l new tell end.DestFault d changed sound sound_too shared one other = absurd (sound.opened_failures one)
one_stream_end t f g s z h xs ys i j l new tell e end.DiskFault changed sound sound_too shared one other = absurd (sound_too.pair other)
one_stream_end t f g s z h xs ys i j l new tell e end.DestFault changed sound sound_too shared one other = absurd (sound_too.opened_failures other)
one_stream_end t f g s z h xs ys i j l new tell (end.Finished why) (end.Finished cause) changed sound sound_too shared one other =
    ap (λ w. status_of (tell (end.Finished w))) (shared.ends why cause one.1 other.1)
one_stream_end t f g s z h xs ys i j l new tell (end.Finished why) end.CallsSpent changed sound sound_too shared one other =
    absurd (left_nowhere s z h shared.same one.2 one.3 (unfinished_so z h j l shared.told other.2).1)
one_stream_end t f g s z h xs ys i j l new tell (end.Finished why) (end.Changed change) changed sound sound_too shared one other =
    absurd (unchanged s z xs ys change shared.same one.0.unchanged (shared.front why one.1) other.2)
one_stream_end t f g s z h xs ys i j l new tell end.CallsSpent (end.Finished why) changed sound sound_too shared one other =
    absurd (left_nowhere z s h (other_setting s z shared.same) other.2 other.3 (unfinished_so s h i l shared.told one.2).1)
one_stream_end t f g s z h xs ys i j l new tell end.CallsSpent end.CallsSpent changed sound sound_too shared one other = refl
one_stream_end t f g s z h xs ys i j l new tell end.CallsSpent (end.Changed change) changed sound sound_too shared one other =
    let read = some_of i (unfinished_so s h i l shared.told one.2).0 in
    absurd (unchanged s z xs ys change shared.same one.0.unchanged (shared.front read.0 read.1) other.2)
one_stream_end t f g s z h xs ys i j l new tell (end.Changed change) (end.Finished why) changed sound sound_too shared one other =
    absurd (unchanged z s ys xs change (other_setting s z shared.same) other.0.unchanged (shared.other_front why other.1) one.2)
one_stream_end t f g s z h xs ys i j l new tell (end.Changed change) end.CallsSpent changed sound sound_too shared one other =
    let read = some_of j (unfinished_so z h j l shared.told other.2).0 in
    absurd (unchanged z s ys xs change (other_setting s z shared.same) other.0.unchanged (shared.other_front read.0 read.1) one.2)
one_stream_end t f g s z h xs ys i j l new tell (end.Changed change) (end.Changed other_change) changed sound sound_too shared one other = changed change other_change

-- the input of a stream's run
pub read_from : {S : Type 0} (faults : S → ℕ) (left : S → Option (List ℕ)) (c : Config) (start : Start) (old new : S) (i : InputState S) → IsInputOf faults left c start old new i
    → IsReadFrom faults left kinds.Stream c.factor start old new i
read_from faults left c start old new i is = record {
  kind_is = is.kind;
  factor_is = is.factor;
  start_is = is.start_is;
  found = is.found;
  source = is.source;
  good = is.good;
  read = is.read;
}

-- what two runs of a stream's mapping say of one history
shared_by : {S : Type 0} (faults : S → ℕ) (left : S → Option (List ℕ)) (c : Config) (start : Start) (old new : S) (i j : InputState S) (s z : Setting)
    → WholeGoesOn → IsSome (left old) → ¬ Rose (faults old) (faults new) → IsInputOf faults left c start old new i → IsInputOf faults left c start old new j
    → z ≡ over s z.streams → IsShared s z (records_in_items (handed i)) (records_in_items (handed j)) i.end j.end (left new)
shared_by faults left c start old new i j s z goes told sound one other same =
    let first = read_from faults left c start old new i one in
    let second = read_from faults left c start old new j other in
    record {
      same = same;
      told = told_still faults left kinds.Stream c.factor start old new i told first;
      ends = λ e d. one_end faults left kinds.Stream c.factor start old new i j e d goes told sound first second;
      front = λ e ended. records_front (handed j) (handed i) (one_front faults left kinds.Stream c.factor start old new i j e goes told sound first second ended);
      other_front = λ e ended. records_front (handed i) (handed j) (one_front faults left kinds.Stream c.factor start old new j i e goes told sound second first ended);
    }

pub one_run : {S D F : Type 0} (o : RunTells S D F) (r : RunWords) (h : List Entry) (old new : Seen S D F) (text other_text : List ℕ) (e d : Ending)
    → WholeGoesOn → SameTold → AreSoundDevices o old new → (one : IsStreamRun o r h old new text e) → (other : IsStreamRun o r h old new other_text d) → one.mapping ≡ other.mapping
    → status_of e ≡ status_of d
one_run o r h old new text other_text e d goes told sound one other mappings =
    let saids : one.files.said ≡ other.files.said =
    same_said o (asked o r) old new one.mapping other.mapping one.files other.files told sound one.ready other.ready in
    let xs : List Record = records_in_items (handed one.input) in
    let ys : List Record = records_in_items (handed other.input) in
    let input : IsInputOf o.faults o.left one.mapping.config one.mapping.start old.input new.input other.input =
    subst (λ (n : NamedMapping). IsInputOf o.faults o.left n.config n.start old.input new.input other.input) (sym mappings) other.is_input in
    let same : other.setting ≡ over one.setting other.setting.streams =
    one_setting one.mapping.config other.mapping.config r.calls one.files.said other.files.said xs ys one.setting other.setting
    (ap (λ (n : NamedMapping). n.config) mappings) saids one.is_setting other.is_setting in
    ap status_of one.tells
    ∙ one_stream_end o.run one.files other.files one.setting other.setting h xs ys one.input.end other.input.end (o.left new.input) (devices_of new) ending_of one.end other.end
    (λ c k. refl) (faultless o (asked o r) old new one.mapping one.files sound one.ready) (faultless o (asked o r) old new other.mapping other.files sound other.ready)
    (shared_by o.faults o.left one.mapping.config one.mapping.start old.input new.input one.input other.input one.setting other.setting goes sound.told sound.no_input_fault
    one.is_input input same)
    one.cause other.cause
    ∙ sym (ap status_of other.tells)
