-- Two outcomes of `ddb` over the same worlds that left the same history have one status, where no device failed.
use Rattle.std.proofs.Common.{◌≡◌, ◌∙◌, ◌<◌, ℕ, Bool, true, List, [], ◌++◌, Option, Some, None, arith, ap, inl, inr, refl, subst, sym}
use Rattle.std.specs.Prelude.{IsSome}
use Rattle.esm_ddb.specs.Translating.{source_of}
use Rattle.esm_ddb.specs.Translation.{translation_of}
use Rattle.esm_ddb.specs.TurnedInput.{EndsSo, IsTurnedInput}
use Rattle.esm_ddb.specs.declared.error.DdbLine.{DdbLine}
use Rattle.esm_ddb.specs.declared.input.InputTurned.{InputTurned}
use Rattle.esm_ddb.specs.declared.input.InputTurned.TheVariants as turned
use Rattle.esm_ddb.specs.declared.source.Source.{Source}
use Rattle.esm_input.specs.Limits.{Limited}
use Rattle.esm_input.specs.Positions.{from_start}
use Rattle.esm_input.specs.Reading.{InputState, handed, items_read}
use Rattle.esm_input.specs.declared.ending.InputEnd.{InputEnd}
use Rattle.esm_io.specs.Faults.{Rose}
use Rattle.esm_mapping.specs.declared.expected.Expected.TheVariants.{DynamoDb}
use Rattle.esm_mapping.specs.declared.named.NamedMapping.{NamedMapping}
use Rattle.esm_model.specs.Setting.{Setting, over}
use Rattle.esm_model.specs.declared.config.Config.{Config}
use Rattle.esm_model.specs.declared.config.Start.{Start}
use Rattle.esm_model.specs.declared.entry.Entry.{Entry}
use Rattle.esm_model.specs.declared.item.Item.{Item}
use Rattle.esm_model.specs.declared.item.LineKind.TheVariants as kinds
use Rattle.esm_model.specs.Records.{Record}
use Rattle.esm_report.specs.declared.ending.Ending.{Ending}
use Rattle.esm_runner.specs.Coming.{records_in_items}
use Rattle.esm_runner.specs.Ended.{IsCauseOf, IsInputOf}
use Rattle.esm_runner.specs.Files.{FilesState}
use Rattle.esm_runner.specs.Headline.{Devices, Telling}
use Rattle.esm_runner.specs.declared.run.MappingEnd.{MappingEnd}
use Rattle.esm_runner.specs.declared.run.MappingEnd.TheVariants as end
use Rattle.esm_run.specs.Answers.{AreSoundDevices}
use Rattle.esm_run.specs.Ddb.{DdbCause, DdbOutcome, IsDdbRun, all_left, ddb_asks, never_fails}
use Rattle.esm_run.specs.Endings.{ending_of_ddb, status_of}
use Rattle.esm_run.specs.World.{RunTells, Seen, Written, ddb_tells, devices_of}
use Rattle.esm_run.proofs.Fronts.{IsFront, records_front, start_front}
use Rattle.esm_run.proofs.MoreBytes.{ends_in, front_in}
use Rattle.esm_run.proofs.OneCause.{AreLaws, run_or_unrun, told_once, unrun_twice}
use Rattle.esm_run.proofs.OneReading.{IsReadFrom, WholeGoesOn, end_at, ends_by, handed_is, same_bytes, taken_is}
use Rattle.esm_run.proofs.OneReady.{IsOneAsked, faultless, same_said, text_once}
use Rattle.esm_run.proofs.OneRun.{IsShared, one_stream_end}
use Rattle.esm_run.proofs.OneSetting.{SameTold, one_setting}

-- the end of an input's reading, and what it became, are those of its bytes

end_of_lines : Option DdbLine → InputTurned
end_of_lines None = turned.Ended
end_of_lines (Some bad) = turned.BadLine bad

record IsEndOf (s : Source) (bytes text : List ℕ) (end : InputTurned) : Type 0 where
  pub text_is : text ≡ (translation_of s bytes).text
  pub end_is : end ≡ end_of_lines (translation_of s bytes).bad

end_of : {S : Type 0} (faults : S → ℕ) (left : S → Option (List ℕ)) (s : Source) (old new : S) (bytes text : List ℕ) (e : InputTurned) → ¬ Rose (faults old) (faults new)
    → EndsSo faults left s old new bytes text e → IsEndOf s bytes text e
unfolding end_of_lines
end_of faults left s old new bytes text turned.Ended sound ends = record { text_is = ends.1.text_is; end_is = ap end_of_lines (sym ends.1.bad_is) }
end_of faults left s old new bytes text (turned.BadLine bad) sound ends = record { text_is = ends.0.text_is; end_is = ap end_of_lines (sym ends.0.bad_is) }
end_of faults left s old new bytes text turned.Failed sound ends = absurd (sound ends.0)

record IsOneTurned (text other_text : List ℕ) (e d : InputTurned) : Type 0 where
  pub texts : text ≡ other_text
  pub ends : e ≡ d

one_turned : {S : Type 0} (faults : S → ℕ) (left : S → Option (List ℕ)) (s : Source) (old new : S) (text other_text : List ℕ) (e d : InputTurned) → IsSome (left old) → ¬ Rose (faults old) (faults new)
    → IsTurnedInput faults left s old new text e → IsTurnedInput faults left s old new other_text d → IsOneTurned text other_text e d
one_turned faults left s old new text other_text e d told sound one other =
    let first = end_of faults left s old new one.bytes text e sound one.ended in
    let second = end_of faults left s old new other.bytes other_text d sound other.ended in
    let bytes : one.bytes ≡ other.bytes = same_bytes (left old) (left new) one.bytes other.bytes told one.taken.front other.taken.front in
    record {
      texts = first.text_is ∙ ap (λ b. (translation_of s b).text) bytes ∙ sym second.text_is;
      ends = first.end_is ∙ ap (λ b. end_of_lines (translation_of s b).bad) bytes ∙ sym second.end_is;
    }

-- the turned lines, as they were read

read_from : (c : Config) (start : Start) (lines rest : List ℕ) (i : InputState (List ℕ)) → IsInputOf never_fails all_left c start lines rest i → IsReadFrom never_fails all_left kinds.Stream c.factor start lines rest i
read_from c start lines rest i is = record { kind_is = is.kind; factor_is = is.factor; start_is = is.start_is; found = is.found; source = is.source; good = is.good; read = is.read }

none_rose : ¬ Rose 0 0
none_rose rose = (let below : 0 < 0 = rose (omega arith) in omega (arith, below))

all_of : Config → Start → List ℕ → List Item
all_of c start lines = from_start start (items_read kinds.Stream c.factor true lines).items

record IsFrontOf (c : Config) (start : Start) (lines : List ℕ) (i : InputState (List ℕ)) : Type 0 where
  pub ended : (e : InputEnd) → i.end ≡ Some e → (e ≡ end_at kinds.Stream c.factor true lines) × (handed i ≡ all_of c start lines)
  pub front : IsFront (handed i) (all_of c start lines)

front_of : (c : Config) (start : Start) (lines rest : List ℕ) (i : InputState (List ℕ)) → WholeGoesOn → IsInputOf never_fails all_left c start lines rest i → IsFrontOf c start lines i
unfolding all_of
front_of c start lines rest i goes is =
    let from = read_from c start lines rest i is in
    let taken = taken_is never_fails all_left kinds.Stream c.factor start lines rest i from in
    let same : lines ≡ i.bytes ++ rest = taken.1 ∙ ap (λ r. i.bytes ++ r) (let all : Some rest ≡ Some taken.0 = taken.2 in let r : taken.0 ≡ rest = cc in r) in
    let at_end' : i.whole ≡ true → rest ≡ [] = λ whole. sym is.source ∙ is.read.at_end whole in
    let hands = handed_is never_fails all_left kinds.Stream c.factor start lines rest i from in
    record {
      ended = λ e ended. (let in_text = ends_in kinds.Stream c.factor 0 0 i.whole i.bytes rest lines e goes none_rose same at_end' (ends_by never_fails all_left kinds.Stream c.factor start lines rest i e from ended) in
          (in_text.0, hands ∙ ap (λ (v : Limited). from_start start v.items) in_text.1));
      front = subst (λ items. IsFront items (from_start start (items_read kinds.Stream c.factor true lines).items)) (sym hands)
          (start_front start (items_read kinds.Stream c.factor i.whole i.bytes).items (items_read kinds.Stream c.factor true lines).items
          (front_in kinds.Stream c.factor i.whole i.bytes rest lines goes same at_end'));
    }

-- what two runs over the same lines say of one history

shared_by : (c : Config) (start : Start) (lines rest other_rest : List ℕ) (i j : InputState (List ℕ)) (s z : Setting) → WholeGoesOn
    → IsInputOf never_fails all_left c start lines rest i → IsInputOf never_fails all_left c start lines other_rest j → z ≡ over s z.streams
    → IsShared s z (records_in_items (handed i)) (records_in_items (handed j)) i.end j.end (Some rest)
shared_by c start lines rest other_rest i j s z goes one other same =
    let first = front_of c start lines rest i goes one in
    let second = front_of c start lines other_rest j goes other in
    record {
      same = same;
      told = refl;
      ends = λ e d ended also. (first.ended e ended).0 ∙ sym (second.ended d also).0;
      front = λ e ended. records_front (handed j) (handed i) (subst (λ items. IsFront (handed j) items) (sym (first.ended e ended).1) second.front);
      other_front = λ d also. records_front (handed i) (handed j) (subst (λ items. IsFront (handed i) items) (sym (second.ended d also).1) first.front);
    }

-- a cause does not depend on which bytes are left
told_alike : {D F : Type 0} (t : Telling D F) (f : FilesState D) (s : Setting) (h : List Entry) (records : List Record) (reading : Option InputEnd) (a b : List ℕ) (new : Devices D F) (e : MappingEnd)
    → IsCauseOf t f s h records reading (Some a) new e → IsCauseOf t f s h records reading (Some b) new e
told_alike t f s h records reading a b new (end.Finished why) cause = cause
told_alike t f s h records reading a b new end.CallsSpent cause = (cause.0, cause.1, elim cause.2 [ inl ended ↦ inl ended | inr going ↦ absurd (let untold = going.1 in cc) ])
told_alike t f s h records reading a b new end.DiskFault cause = cause
told_alike t f s h records reading a b new end.DestFault cause = cause
told_alike t f s h records reading a b new (end.Changed change) cause = cause

-- two runs

one_ddb_run : {S D F : Type 0} (o : RunTells S D F) (config : List ℕ) (calls : ℕ) (traced : Bool) (h : List Entry) (old new : Seen S D F) (text other_text : List ℕ) (e d : Ending)
    → WholeGoesOn → SameTold → AreSoundDevices o old new → (one : IsDdbRun o config calls traced h old new text e) → (other : IsDdbRun o config calls traced h old new other_text d) → one.mapping ≡ other.mapping
    → status_of e ≡ status_of d
one_ddb_run o config calls traced h old new text other_text e d goes told sound one other mappings =
    let a = ddb_asks config in
    let saids : one.files.said ≡ other.files.said = same_said o a old new one.mapping other.mapping one.files other.files told sound one.ready other.ready in
    let also_turned : IsTurnedInput o.faults o.left (source_of one.mapping.config) old.input new.input other.lines other.reading =
    subst (λ (n : NamedMapping). IsTurnedInput o.faults o.left (source_of n.config) old.input new.input other.lines other.reading) (sym mappings) other.is_turned in
    let alike = one_turned o.faults o.left (source_of one.mapping.config) old.input new.input one.lines other.lines one.reading other.reading sound.told sound.no_input_fault one.is_turned also_turned in
    let xs : List Record = records_in_items (handed one.input) in
    let ys : List Record = records_in_items (handed other.input) in
    let input : IsInputOf never_fails all_left one.mapping.config one.mapping.start one.lines other.rest other.input =
    subst (λ lines. IsInputOf never_fails all_left one.mapping.config one.mapping.start lines other.rest other.input) (sym alike.texts)
    (subst (λ (n : NamedMapping). IsInputOf never_fails all_left n.config n.start other.lines other.rest other.input) (sym mappings) other.is_input) in
    let same : other.setting ≡ over one.setting other.setting.streams =
    one_setting one.mapping.config other.mapping.config calls one.files.said other.files.said xs ys one.setting other.setting
    (ap (λ (n : NamedMapping). n.config) mappings) saids one.is_setting other.is_setting in
    ap status_of one.tells
    ∙ one_stream_end (ddb_tells o) one.files other.files one.setting other.setting h xs ys one.input.end other.input.end (Some one.rest) (devices_of new) (ending_of_ddb one.reading) one.end other.end
    (λ c k. refl) (faultless o a old new one.mapping one.files sound one.ready) (faultless o a old new other.mapping other.files sound other.ready)
    (shared_by one.mapping.config one.mapping.start one.lines one.rest other.rest one.input other.input one.setting other.setting goes one.is_input input same)
    one.cause (told_alike (ddb_tells o) other.files other.setting h ys other.input.end other.rest one.rest (devices_of new) other.end other.cause)
    ∙ ap (λ r. status_of (ending_of_ddb r other.end)) alike.ends
    ∙ sym (ap status_of other.tells)

-- why `ddb` ended

one_ddb_cause : {S D F : Type 0} (o : RunTells S D F) (config : List ℕ) (calls : ℕ) (traced : Bool) (h : List Entry) (old new : Seen S D F) (t u : List ℕ) (e d : Ending)
    → AreLaws o.run.disk → IsOneAsked (ddb_asks config) old.disks.registry new.disks.registry → AreSoundDevices o old new → DdbCause o config calls traced h old new t e → DdbCause o config calls traced h old new u d
    → status_of e ≡ status_of d
one_ddb_cause o config calls traced h old new t u e d laws once sound (inl one) (inl other) = unrun_twice o (ddb_asks config) old new e d once sound one.why other.why
one_ddb_cause o config calls traced h old new t u e d laws once sound (inl one) (inr other) = absurd (run_or_unrun o (ddb_asks config) old new other.mapping other.files e once sound other.ready one.why)
one_ddb_cause o config calls traced h old new t u e d laws once sound (inr one) (inl other) = absurd (run_or_unrun o (ddb_asks config) old new one.mapping one.files d once sound one.ready other.why)
one_ddb_cause o config calls traced h old new t u e d laws once sound (inr one) (inr other) =
    one_ddb_run o config calls traced h old new t u e d laws.whole_goes_on laws.same_told sound one other (once.one_mapping one.mapping other.mapping one.ready.named other.ready.named)

pub same_ddb : {S D F : Type 0} (o : RunTells S D F) (config : List ℕ) (calls : ℕ) (traced : Bool) (output : Written) (h : List Entry) (old new : Seen S D F) (a b : ℕ)
    → AreLaws o.run.disk → AreSoundDevices o old new → ¬ Rose output.faults_before output.faults_now → DdbOutcome o config calls traced output h old new a → DdbOutcome o config calls traced output h old new b → a ≡ b
same_ddb o config calls traced output h old new a b laws run_sound sound one other =
    let once = text_once DynamoDb config old.disks.registry new.disks.registry laws.one_expected in
    told_once (DdbCause o config calls traced h old new) output a b (λ t u e d. one_ddb_cause o config calls traced h old new t u e d laws once run_sound) sound one other
