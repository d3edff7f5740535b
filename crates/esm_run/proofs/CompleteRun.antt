-- A run of a good input over good files comes to its end with nothing left, where no device fails and as many calls are allowed as
-- its history is bounded by; the run of a queue's mapping so, or with its calls spent.
use Rattle.std.proofs.Common.{◌≡◌, ◌∙◌, ◌⊎◌, ℕ, ◌+◌, ◌<◌, ◌≤◌, Bool, true, false, ◌&&◌, List, [], ◌∷◌, Option, Some, ap, arith, inl, inr, refl, reverse, subst, sym}
use Rattle.std.specs.Prelude.{◌==◌, IsSome, is_some, nat_lt, option_map, if◌then◌else◌}
use Rattle.std.proofs.lemmas.Bool.{ltb-true}
use Rattle.esm_cli.specs.declared.command.RunWords.{RunWords}
use Rattle.esm_history.specs.Completeness.{IsFinite, IsWithinBound}
use Rattle.esm_ingest.specs.Coming.{of_shard}
use Rattle.esm_input.specs.declared.ending.InputEnd.{InputEnd}
use Rattle.esm_input.specs.Reading.{InputState, handed}
use Rattle.esm_io.specs.Faults.{Rose}
use Rattle.esm_journal_state.specs.Meaning.{deletion_said, history}
use Rattle.esm_journal_state.specs.Tells.{Tells, deletion_of_found}
use Rattle.esm_ledger.specs.Ledger.{opened_with}
use Rattle.esm_mapping.specs.declared.named.NamedMapping.{NamedMapping}
use Rattle.esm_mapping.specs.Named.{IsConfigOf}
use Rattle.esm_model.specs.CallBound.{call_bound, record_count}
use Rattle.esm_model.specs.declared.book.Change.{Change}
use Rattle.esm_model.specs.declared.config.Config.{Config}
use Rattle.esm_model.specs.declared.config.Kind.{Kind}
use Rattle.esm_model.specs.declared.entry.Entry.{Entry}
use Rattle.esm_model.specs.declared.entry.Entry.TheVariants.{Came, Began, Ended, Gave, Tried, Closed, Replayed, Shut}
use Rattle.esm_model.specs.declared.item.Item.{Item}
use Rattle.esm_model.specs.declared.item.LineKind.TheVariants as kinds
use Rattle.esm_model.specs.Entries.{came_count, calls_begun}
use Rattle.esm_model.specs.Setting.{Setting, over}
use Rattle.esm_model.specs.Step.{Legal}
use Rattle.esm_model.specs.Valid.{HasFieldsOf, HasStreamFields, IsStreamConfig, is_stream}
use Rattle.esm_model.specs.Windows.{has_windows, kept_state}
use Rattle.esm_queue_model.specs.QueueSetting.{QueueSetting, found_deletion}
use Rattle.esm_report.specs.declared.ending.Ending.{Ending}
use Rattle.esm_runner.specs.Coming.{records_in_items}
use Rattle.esm_runner.specs.Ended as stream
use Rattle.esm_runner.specs.Files.{FilesState}
use Rattle.esm_runner.specs.Headline.{Devices, Telling}
use Rattle.esm_runner.specs.QueueComing.{messages_in_items}
use Rattle.esm_runner.specs.QueueEnded as queue
use Rattle.esm_runner.specs.Ran.{HasOpen, HasOutstanding}
use Rattle.esm_runner.specs.declared.run.MappingEnd.{MappingEnd}
use Rattle.esm_runner.specs.declared.run.MappingEnd.TheVariants as end
use Rattle.esm_run.specs.Answers.{AreSoundDevices, IsQueueRun, IsSoundRun, IsStreamRun, RunCause, RunOutcome, asked}
use Rattle.esm_run.specs.Completes.{MayComplete, MayFinish, records_given}
use Rattle.esm_run.specs.Endings.{ending_of, status_of}
use Rattle.esm_run.specs.Redrive.{messages_given}
use Rattle.esm_run.specs.World.{RunTells, Seen, Written, devices_of}
use Rattle.esm_run.proofs.Fronts.{messages_front, records_front}
use Rattle.esm_run.proofs.KeptIds.{kept_ids}
use Rattle.esm_run.proofs.KeptNumbers.{same_numbers}
use Rattle.esm_run.proofs.OneCause.{AreLaws, good_or_unrun, one_kind, told_status}
use Rattle.esm_run.proofs.OneOpened.{found_payloads}
use Rattle.esm_run.proofs.OneQueueRun as queue_run
use Rattle.esm_run.proofs.OneReading.{some_of, told_still}
use Rattle.esm_run.proofs.OneReady.{IsFaultless, IsOneAsked, faultless, words_once}
use Rattle.esm_run.proofs.OneRun as stream_run
use Rattle.esm_run.proofs.RunEndings.{may_run}
use Rattle.esm_run.proofs.ReadThrough.{IsReadThrough, items_given, read_through}

-- the law of the calls
abbrev pub IsBounded : Type 0
IsBounded = (s : Setting) (h : List Entry) (retries : ℕ) → IsFinite s.config retries → Legal s h → IsWithinBound s h

-- what is left has come

came_with : (b : Bool) (came all count : ℕ) → came ≤ all → (if b then count + came else came) ≤ count + all
came_with true came all count low = omega (arith, low)
came_with false came all count low = omega (arith, low)

came_of_all : (h : List Entry) (n : ℕ) → came_count h n ≤ record_count h
came_of_all [] n = omega arith
came_of_all (Came k first count m ∷ h) n = came_with (k == n) (came_count h n) (record_count h) count (came_of_all h n)
came_of_all (Began at places c m ∷ h) n = came_of_all h n
came_of_all (Ended at reply m ∷ h) n = came_of_all h n
came_of_all (Gave by k places f line state m ∷ h) n = came_of_all h n
came_of_all (Tried at places c t m ∷ h) n = came_of_all h n
came_of_all (Closed at w m ∷ h) n = came_of_all h n
came_of_all (Replayed k places m ∷ h) n = came_of_all h n
came_of_all (Shut m ∷ h) n = came_of_all h n

middle : (a b c : Bool) → (a && b && c) ≡ true → b ≡ true
middle true true c is = refl
middle true false c is = cc
middle false b c is = cc

above : (k came all : ℕ) → k < came → came ≤ all → 0 < all
above k came all low more = omega (arith, low, more)

left_came : (s : Setting) (h : List Entry) → HasOpen s h ⊎ HasOutstanding s h → 0 < record_count h
left_came s h (inl left) = above left.place (came_count h left.shard) (record_count h) left.came (came_of_all h left.shard)
left_came s h (inr left) =
    above 0 (came_count h left.shard) (record_count h)
    (ltb-true 0 (came_count h left.shard) (middle (has_windows s.config) (nat_lt 0 (came_count h left.shard)) (is_some (kept_state s h left.shard left.window)) left.outstanding))
    (came_of_all h left.shard)

pub too_few : (begun records bound allowed calls : ℕ) → begun + records ≤ bound → bound ≤ calls → begun ≡ allowed → allowed ≡ calls → 0 < records → ⊥
too_few begun records bound allowed calls within enough spent same some = omega (arith, within, enough, spent, same, some)

-- the fields of a mapping that may run

pub stream_fields : (c : Config) → IsConfigOf (is_stream c.kind) c → is_stream c.kind ≡ true → HasStreamFields c
stream_fields c valid kind =
    let config : IsStreamConfig c = subst (λ (b : Bool). IsConfigOf b c) kind valid in
    subst (λ (k : Kind). HasFieldsOf k c) config.kind config.valid.fields

-- why a run ended

-- of a stream's mapping
pub stream_status : {S D F : Type 0} (t : Telling D F) (f : FilesState D) (s : Setting) (h : List Entry) (i : InputState S) (items : List Item) (l : Option (List ℕ)) (new : Devices D F) (calls : ℕ) (e : MappingEnd)
    → IsFaultless t.disk f new → IsSome l → IsReadThrough i items
    → ((change : Change) → stream.IsCauseOf t f s h (records_in_items (handed i)) i.end l new (end.Changed change) → ⊥)
    → ((why : InputEnd) → i.end ≡ Some why → stream.AllCame s h (records_in_items (handed i)) → 0 < record_count h → calls_begun h ≡ s.calls → ⊥)
    → stream.IsCauseOf t f s h (records_in_items (handed i)) i.end l new e → status_of (ending_of e) ≡ 0
stream_status t f s h i items l new calls (end.Finished why) sound told through unchanged enough cause =
    ap (λ (x : InputEnd). status_of (ending_of (end.Finished x))) (through.ended why cause.1).0
stream_status t f s h i items l new calls end.CallsSpent sound told through unchanged enough cause =
    let left = stream_run.unfinished_so s h i.end l told cause.2 in
    let ended = some_of i.end left.0 in
    absurd (enough ended.0 ended.1 cause.0 (left_came s h left.1) cause.1)
stream_status t f s h i items l new calls end.DiskFault sound told through unchanged enough cause = absurd (sound.pair cause)
stream_status t f s h i items l new calls end.DestFault sound told through unchanged enough cause = absurd (sound.opened_failures cause)
stream_status t f s h i items l new calls (end.Changed change) sound told through unchanged enough cause = absurd (unchanged change cause)

-- of a queue's
queue_status : {S D F : Type 0} (t : Telling D F) (f : FilesState D) (s : QueueSetting) (h : List Entry) (i : InputState S) (items : List Item) (l : Option (List ℕ)) (new : Devices D F) (e : MappingEnd)
    → IsFaultless t.disk f new → IsReadThrough i items
    → ((change : Change) → queue.IsChanged s (messages_in_items (handed i)) change → ⊥)
    → queue.IsCauseOf t f s h (messages_in_items (handed i)) i.end l new e → (status_of (ending_of e) ≡ 0) ⊎ (status_of (ending_of e) ≡ 1)
queue_status t f s h i items l new (end.Finished why) sound through unchanged cause =
    inl (ap (λ (x : InputEnd). status_of (ending_of (end.Finished x))) (through.ended why cause.1).0)
queue_status t f s h i items l new end.CallsSpent sound through unchanged cause = inr refl
queue_status t f s h i items l new end.DiskFault sound through unchanged cause = absurd (sound.pair cause)
queue_status t f s h i items l new end.DestFault sound through unchanged cause = absurd cause
queue_status t f s h i items l new (end.Changed change) sound through unchanged cause = absurd (unchanged change cause)

module _ {S D F : Type 0} (o : RunTells S D F) (r : RunWords) (h : List Entry) (old new : Seen S D F) (laws : AreLaws o.run.disk) (run_sound : IsSoundRun o r old new) where
  sound : AreSoundDevices o old new
  sound = run_sound.0

  once : IsOneAsked (asked o r) old.disks.registry new.disks.registry
  once = words_once o r old new laws.one_answer run_sound

  -- a stream's mapping

  module _ (bounded : IsBounded) (may : MayComplete o r h old) where
    stream_of : (t : List ℕ) (e : Ending) → (one : IsStreamRun o r h old new t e) → one.mapping ≡ may.mapping → status_of e ≡ 0
    stream_of t e one same =
        let n = may.mapping in
        let c : Config = n.config in
        let s : Setting = one.setting in
        let f : FilesState D = one.files in
        let i : InputState S = one.input in
        let opened : s ≡ over (opened_with c r.calls f.said) s.streams =
        subst (λ (m : NamedMapping). s ≡ over (opened_with m.config r.calls f.said) s.streams) same one.is_setting.opened in
        let read : stream.IsInputOf o.faults o.left c n.start old.input new.input i =
        subst (λ (m : NamedMapping). stream.IsInputOf o.faults o.left m.config m.start old.input new.input i) same one.is_input in
        let from = stream_run.read_from o.faults o.left c n.start old.input new.input i read in
        let through = read_through o.faults o.left kinds.Stream c.factor n.start old.input new.input may.bytes i laws.whole_goes_on may.input sound.no_input_fault may.good_input from in
        let payloads : may.good.payloads.payloads ≡ f.pair.payloads = found_payloads o (asked o r) old new may.good one.mapping f sound one.ready in
        let tells : Tells f.said (history (reverse may.good.payloads.payloads)) = subst (λ (ps : List (List ℕ)). Tells f.said (history (reverse ps))) (sym payloads) one.ready.opened.tells in
        let legal : Legal s h = one.headline.legal_trace s.streams (λ k j x at. at) in
        let config : s.config ≡ c = ap (λ (v : Setting). v.config) opened in
        let finite : IsFinite s.config may.retries =
        subst (λ (d : Config). IsFinite d may.retries) (sym config) (record { fields = stream_fields c (may_run o.run.disk r.which old.disks.registry n may.named).valid may.kind; finite = may.finite }) in
        let within : IsWithinBound s h = bounded s h may.retries finite legal in
        ap status_of one.tells
        ∙ stream_status o.run f s h i (items_given kinds.Stream c.factor n.start may.bytes) (o.left new.input) (devices_of new) r.calls one.end
        (faultless o (asked o r) old new one.mapping f sound one.ready)
        (told_still o.faults o.left kinds.Stream c.factor n.start old.input new.input i sound.told from)
        through
        (λ change cause. same_numbers s c r.calls f.said may.good.payloads.payloads (records_given n may.bytes) (records_in_items (handed i)) change opened tells may.kept_numbers
        (records_front (handed i) (items_given kinds.Stream c.factor n.start may.bytes) through.front) cause.0 cause.1)
        (λ why ended came some spent.
        too_few (calls_begun h) (record_count h) (call_bound s h) s.calls r.calls within
        (may.enough s (record {
          said = f.said;
          tells = tells;
          opened = opened;
          lists = λ k. came.lists k ∙ ap (λ (xs : List Item). of_shard k (records_in_items xs)) (through.ended why ended).1;
        }))
        spent (ap (λ (v : Setting). v.calls) opened) some)
        one.cause

    stream_cause : (t : List ℕ) (e : Ending) → RunCause o r h old new t e → status_of e ≡ 0
    stream_cause t e (inl one) = absurd (good_or_unrun o (asked o r) old new may.mapping e once sound may.good may.named one.why)
    stream_cause t e (inr (inl one)) = stream_of t e one (once.one_mapping one.mapping may.mapping one.ready.named may.named)
    stream_cause t e (inr (inr one)) = absurd (one_kind may.mapping one.mapping (once.one_mapping may.mapping one.mapping may.named one.ready.named) may.kind one.kind)

  -- a queue's mapping

  module _ (may : MayFinish o r old) where
    queue_of : (t : List ℕ) (e : Ending) → (one : IsQueueRun o r h old new t e) → one.mapping ≡ may.mapping → (status_of e ≡ 0) ⊎ (status_of e ≡ 1)
    queue_of t e one same =
        let c : Config = may.mapping.config in
        let s : QueueSetting = one.run.setting in
        let f : FilesState D = one.files in
        let i : InputState S = one.run.input in
        let read : queue.IsInputOf o.faults o.left c old.input new.input i =
        subst (λ (m : NamedMapping). queue.IsInputOf o.faults o.left m.config old.input new.input i) same one.run.is_input in
        let through = read_through o.faults o.left (queue.line_kind c) c.factor c.start old.input new.input may.bytes i laws.whole_goes_on may.input sound.no_input_fault may.good_input
        (queue_run.read_from o.faults o.left c old.input new.input i read) in
        let tells : (k : ℕ) → option_map deletion_of_found (found_deletion s k) ≡ deletion_said (history (reverse f.pair.payloads)) k =
        λ k. ap (λ (v : QueueSetting). option_map deletion_of_found (found_deletion v k)) one.run.is_setting.opened ∙ one.ready.opened.tells.deletions k in
        subst (λ (x : Ending). (status_of x ≡ 0) ⊎ (status_of x ≡ 1)) (sym one.tells)
        (queue_status o.run f s h i (items_given (queue.line_kind c) c.factor c.start may.bytes) (o.left new.input) (devices_of new) one.end
        (faultless o (asked o r) old new one.mapping f sound one.ready)
        through
        (λ change is. kept_ids s may.good.payloads.payloads f.pair.payloads (messages_given c may.bytes) (messages_in_items (handed i)) change (found_payloads o (asked o r) old new may.good one.mapping f sound one.ready) tells
        may.kept_ids (messages_front (handed i) (items_given (queue.line_kind c) c.factor c.start may.bytes) through.front) is)
        (subst (λ reading. queue.IsCauseOf o.run f s h (messages_in_items (handed i)) reading (o.left new.input) (devices_of new) one.end) (sym one.run.read_to) one.run.cause))

    queue_cause : (t : List ℕ) (e : Ending) → RunCause o r h old new t e → (status_of e ≡ 0) ⊎ (status_of e ≡ 1)
    queue_cause t e (inl one) = absurd (good_or_unrun o (asked o r) old new may.mapping e once sound may.good may.named one.why)
    queue_cause t e (inr (inl one)) = absurd (one_kind one.mapping may.mapping (once.one_mapping one.mapping may.mapping one.ready.named may.named) one.kind may.kind)
    queue_cause t e (inr (inr one)) = queue_of t e one (once.one_mapping one.mapping may.mapping one.ready.named may.named)

pub complete_run : {S D F : Type 0} (o : RunTells S D F) (r : RunWords) (output : Written) (h : List Entry) (old new : Seen S D F) (status : ℕ)
    → AreLaws o.run.disk → IsBounded → IsSoundRun o r old new → ¬ Rose output.faults_before output.faults_now → RunOutcome o r output h old new status
    → (MayComplete o r h old → status ≡ 0) × (MayFinish o r old → (status ≡ 0) ⊎ (status ≡ 1))
complete_run o r output h old new status laws bounded sound told outcome =
    let is : status ≡ status_of outcome.ending =
    told_status output.faults_before output.faults_now output.before output.after outcome.ended.text outcome.ending status told outcome.told in (
      λ may. is ∙ stream_cause o r h old new laws sound bounded may outcome.ended.text outcome.ending outcome.ended.cause_is,
      λ may. subst (λ n. (n ≡ 0) ⊎ (n ≡ 1)) (sym is) (queue_cause o r h old new laws sound may outcome.ended.text outcome.ending outcome.ended.cause_is),
    )
