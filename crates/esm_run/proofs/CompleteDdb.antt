-- `ddb` over a good input and good files comes to its end with nothing left, where no device fails and as many calls are allowed as
-- its history is bounded by.
use Rattle.std.proofs.Common.{◌≡◌, ◌∙◌, ◌<◌, ℕ, Bool, List, [], ◌++◌, append-nil, Option, Some, None, ap, arith, inl, inr, refl, reverse, subst, sym}
use Rattle.esm_ddb.specs.Translating.{source_of}
use Rattle.esm_ddb.specs.Translation.{Translation, translation_of}
use Rattle.esm_ddb.specs.TurnedInput.{EndsSo, IsTurnedInput}
use Rattle.esm_ddb.specs.declared.error.DdbLine.{DdbLine}
use Rattle.esm_ddb.specs.declared.input.InputTurned.{InputTurned}
use Rattle.esm_ddb.specs.declared.input.InputTurned.TheVariants as turned
use Rattle.esm_ddb.specs.declared.source.Source.{Source}
use Rattle.esm_history.specs.Completeness.{IsFinite, IsWithinBound}
use Rattle.esm_ingest.specs.Coming.{of_shard}
use Rattle.esm_input.specs.Reading.{InputState, handed}
use Rattle.esm_input.specs.declared.ending.InputEnd.TheVariants as ends
use Rattle.esm_io.specs.Faults.{Rose}
use Rattle.esm_io.specs.Told.{IsAtEnd, TakesFront}
use Rattle.esm_journal_state.specs.Meaning.{history}
use Rattle.esm_journal_state.specs.Tells.{Tells}
use Rattle.esm_ledger.specs.Ledger.{opened_with}
use Rattle.esm_mapping.specs.declared.expected.Expected.TheVariants.{DynamoDb}
use Rattle.esm_mapping.specs.declared.named.NamedMapping.{NamedMapping}
use Rattle.esm_model.specs.CallBound.{call_bound, record_count}
use Rattle.esm_model.specs.Entries.{calls_begun}
use Rattle.esm_model.specs.Setting.{Setting, over}
use Rattle.esm_model.specs.Step.{Legal}
use Rattle.esm_model.specs.declared.config.Config.{Config}
use Rattle.esm_model.specs.declared.entry.Entry.{Entry}
use Rattle.esm_model.specs.declared.item.Item.{Item}
use Rattle.esm_model.specs.declared.item.LineKind.TheVariants as kinds
use Rattle.esm_report.specs.declared.ending.Ending.{Ending}
use Rattle.esm_runner.specs.Coming.{records_in_items}
use Rattle.esm_runner.specs.Ended.{IsInputOf}
use Rattle.esm_runner.specs.Files.{FilesState}
use Rattle.esm_runner.specs.declared.run.MappingEnd.{MappingEnd}
use Rattle.esm_runner.specs.declared.run.MappingEnd.TheVariants as end
use Rattle.esm_run.specs.Answers.{AreSoundDevices}
use Rattle.esm_run.specs.Completes.{records_given}
use Rattle.esm_run.specs.Ddb.{DdbCause, DdbOutcome, IsDdbRun, all_left, ddb_asks, never_fails}
use Rattle.esm_run.specs.DdbCompletes.{MayComplete, lines_given}
use Rattle.esm_run.specs.Endings.{ending_of, ending_of_ddb, status_of}
use Rattle.esm_run.specs.World.{RunTells, Seen, Written, ddb_tells, devices_of}
use Rattle.esm_run.proofs.CompleteRun.{IsBounded, stream_fields, stream_status, too_few}
use Rattle.esm_run.proofs.Fronts.{records_front}
use Rattle.esm_run.proofs.KeptNumbers.{same_numbers}
use Rattle.esm_run.proofs.OneCause.{AreLaws, good_or_unrun, told_status}
use Rattle.esm_run.proofs.OneOpened.{found_payloads}
use Rattle.esm_run.proofs.OneReady.{IsOneAsked, faultless, text_once}
use Rattle.esm_run.proofs.OneRun.{read_from}
use Rattle.esm_run.proofs.ReadThrough.{items_given, read_through}

-- all of the input was turned

rest_is : (before left : Option (List ℕ)) (bytes taken : List ℕ) → before ≡ Some bytes → TakesFront before left taken → (rest : List ℕ) × (bytes ≡ taken ++ rest) × (left ≡ Some rest)
rest_is None left bytes taken told front = absurd (let clash : ◌≡◌ {A = Option (List ℕ)} None (Some bytes) = told in cc)
rest_is (Some old) left bytes taken told front = let same : old ≡ bytes = cc in (front.0, sym same ∙ front.1, front.2)

record IsAllTurned (s : Source) (bytes text : List ℕ) (reading : InputTurned) : Type 0 where
  ended : reading ≡ turned.Ended
  lines : text ≡ (translation_of s bytes).text

by_end : {S : Type 0} (faults : S → ℕ) (left : S → Option (List ℕ)) (s : Source) (old new : S) (bytes taken text : List ℕ) (reading : InputTurned) → ¬ Rose (faults old) (faults new) → (translation_of s bytes).bad ≡ None
    → (rest : List ℕ) × (bytes ≡ taken ++ rest) × (left new ≡ Some rest) → EndsSo faults left s old new taken text reading → IsAllTurned s bytes text reading
by_end faults left s old new bytes taken text turned.Ended sound good of so =
    let none : of.0 ≡ [] = subst IsAtEnd of.2 so.0 in
    let same : bytes ≡ taken = of.1 ∙ ap (λ (r : List ℕ). taken ++ r) none ∙ append-nil taken in
    record { ended = refl; lines = so.1.text_is ∙ ap (λ (b : List ℕ). (translation_of s b).text) (sym same) }
by_end faults left s old new bytes taken text (turned.BadLine bad) sound good of so =
    let both : ◌≡◌ {A = Option DdbLine} (Some bad) None =
    sym so.0.bad_is ∙ ap (λ (t : Translation). t.bad) (sym (so.1 of.0 of.2)) ∙ ap (λ (b : List ℕ). (translation_of s b).bad) (sym of.1) ∙ good in
    absurd (cc)
by_end faults left s old new bytes taken text turned.Failed sound good of so = absurd (sound so.0)

all_turned : {S : Type 0} (faults : S → ℕ) (left : S → Option (List ℕ)) (s : Source) (old new : S) (bytes text : List ℕ) (reading : InputTurned) → left old ≡ Some bytes → ¬ Rose (faults old) (faults new) → (translation_of s bytes).bad ≡ None
    → IsTurnedInput faults left s old new text reading → IsAllTurned s bytes text reading
all_turned faults left s old new bytes text reading told sound good is =
    by_end faults left s old new bytes is.bytes text reading sound good (rest_is (left old) (left new) bytes is.bytes told is.taken.front) is.ended

-- then the ending tells of the run alone
ending_alone : (e : MappingEnd) → ending_of_ddb turned.Ended e ≡ ending_of e
ending_alone (end.Finished ends.End) = refl
ending_alone (end.Finished (ends.BadLine bad)) = refl
ending_alone (end.Finished ends.Fault) = refl
ending_alone (end.Finished (ends.Limit limit)) = refl
ending_alone end.CallsSpent = refl
ending_alone end.DiskFault = refl
ending_alone end.DestFault = refl
ending_alone (end.Changed change) = refl

none_rose : ¬ Rose 0 0
none_rose rose = (let below : 0 < 0 = rose (omega arith) in omega (arith, below))

module _ {S D F : Type 0} (o : RunTells S D F) (config : List ℕ) (calls : ℕ) (traced : Bool) (h : List Entry) (old new : Seen S D F) (laws : AreLaws o.run.disk) (bounded : IsBounded) (sound : AreSoundDevices o old new)
    (may : MayComplete o config calls h old) where
  run_status : (t : List ℕ) (e : Ending) → (one : IsDdbRun o config calls traced h old new t e) → one.mapping ≡ may.mapping → status_of e ≡ 0
  run_status t e one same =
      let n : NamedMapping = may.mapping in
      let c : Config = n.config in
      let text : List ℕ = lines_given n may.bytes in
      let s : Setting = one.setting in
      let f : FilesState D = one.files in
      let i : InputState (List ℕ) = one.input in
      let opened : s ≡ over (opened_with c calls f.said) s.streams = subst (λ (m : NamedMapping). s ≡ over (opened_with m.config calls f.said) s.streams) same one.is_setting.opened in
      let is_turned : IsTurnedInput o.faults o.left (source_of c) old.input new.input one.lines one.reading =
      subst (λ (m : NamedMapping). IsTurnedInput o.faults o.left (source_of m.config) old.input new.input one.lines one.reading) same one.is_turned in
      let all : IsAllTurned (source_of c) may.bytes one.lines one.reading = all_turned o.faults o.left (source_of c) old.input new.input may.bytes one.lines one.reading may.input sound.no_input_fault may.good_lines is_turned in
      let input : IsInputOf never_fails all_left c n.start text one.rest i =
      subst (λ (lines : List ℕ). IsInputOf never_fails all_left c n.start lines one.rest i) all.lines
      (subst (λ (m : NamedMapping). IsInputOf never_fails all_left m.config m.start one.lines one.rest i) same one.is_input) in
      let through = read_through never_fails all_left kinds.Stream c.factor n.start text one.rest text i laws.whole_goes_on refl none_rose may.good_input (read_from never_fails all_left c n.start text one.rest i input) in
      let payloads : may.good.payloads.payloads ≡ f.pair.payloads = found_payloads o (ddb_asks config) old new may.good one.mapping f sound one.ready in
      let tells : Tells f.said (history (reverse may.good.payloads.payloads)) = subst (λ (ps : List (List ℕ)). Tells f.said (history (reverse ps))) (sym payloads) one.ready.opened.tells in
      let legal : Legal s h = one.headline.legal_trace s.streams (λ k j x at. at) in
      let own : s.config ≡ c = ap (λ (v : Setting). v.config) opened in
      let finite : IsFinite s.config may.retries =
      subst (λ (d : Config). IsFinite d may.retries) (sym own) (record { fields = stream_fields c may.named.1.valid may.named.0.kind; finite = may.finite }) in
      let within : IsWithinBound s h = bounded s h may.retries finite legal in
      ap status_of (one.tells ∙ ap (λ (r : InputTurned). ending_of_ddb r one.end) all.ended ∙ ending_alone one.end)
      ∙ stream_status (ddb_tells o) f s h i (items_given kinds.Stream c.factor n.start text) (Some one.rest) (devices_of new) calls one.end
      (faultless o (ddb_asks config) old new one.mapping f sound one.ready)
      refl
      through
      (λ change cause. same_numbers s c calls f.said may.good.payloads.payloads (records_given n text) (records_in_items (handed i)) change opened tells may.kept_numbers
      (records_front (handed i) (items_given kinds.Stream c.factor n.start text) through.front) cause.0 cause.1)
      (λ why ended came some spent.
      too_few (calls_begun h) (record_count h) (call_bound s h) s.calls calls within
      (may.enough s (record {
        said = f.said;
        tells = tells;
        opened = opened;
        lists = λ k. came.lists k ∙ ap (λ (xs : List Item). of_shard k (records_in_items xs)) (through.ended why ended).1;
      }))
      spent (ap (λ (v : Setting). v.calls) opened) some)
      one.cause

  once : IsOneAsked (ddb_asks config) old.disks.registry new.disks.registry
  once = text_once DynamoDb config old.disks.registry new.disks.registry laws.one_expected

  cause_status : (t : List ℕ) (e : Ending) → DdbCause o config calls traced h old new t e → status_of e ≡ 0
  cause_status t e (inl none) = absurd (good_or_unrun o (ddb_asks config) old new may.mapping e once sound may.good may.named none.why)
  cause_status t e (inr one) = run_status t e one (once.one_mapping one.mapping may.mapping one.ready.named may.named)

pub complete_ddb : {S D F : Type 0} (o : RunTells S D F) (config : List ℕ) (calls : ℕ) (traced : Bool) (output : Written) (h : List Entry) (old new : Seen S D F) (status : ℕ)
    → AreLaws o.run.disk → IsBounded → AreSoundDevices o old new → ¬ Rose output.faults_before output.faults_now → DdbOutcome o config calls traced output h old new status → MayComplete o config calls h old → status ≡ 0
complete_ddb o config calls traced output h old new status laws bounded sound told outcome may =
    told_status output.faults_before output.faults_now output.before output.after outcome.ended.text outcome.ending status told outcome.told
    ∙ cause_status o config calls traced h old new laws bounded sound may outcome.ended.text outcome.ending outcome.ended.cause_is
