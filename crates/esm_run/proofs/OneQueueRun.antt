-- Two runs of one queue's mapping over the same worlds that left the same history have one status, where no device failed.
use Rattle.std.proofs.Common.{◌≡◌, ◌∙◌, ℕ, true, false, List, Option, Some, ap, inl, inr, refl, subst, sym}
use Rattle.std.specs.Prelude.{IsSome}
use Rattle.esm_cli.specs.declared.command.RunWords.{RunWords}
use Rattle.esm_input.specs.declared.ending.InputEnd.{InputEnd}
use Rattle.esm_input.specs.Reading.{InputState, handed}
use Rattle.esm_io.specs.Faults.{Rose}
use Rattle.esm_model.specs.declared.config.Config.{Config}
use Rattle.esm_model.specs.declared.entry.Entry.{Entry}
use Rattle.esm_model.specs.declared.item.Message.{Message}
use Rattle.esm_mapping.specs.declared.named.NamedMapping.{NamedMapping}
use Rattle.esm_runner.specs.QueueComing.{messages_in_items}
use Rattle.esm_runner.specs.QueueRan.{AllDeleted, HasWaiting, IsUnfinished}
use Rattle.esm_queue_core.specs.CoreView.{new_setting}
use Rattle.esm_queue_model.specs.QueueEntries.{is_deleted}
use Rattle.esm_queue_model.specs.QueueSetting.{QueueSetting, over_messages}
use Rattle.esm_runner.specs.QueueEnded.{AllCame, IsCauseOf, IsInputOf, line_kind}
use Rattle.esm_runner.specs.QueueHeadline.{IsSettingOf}
use Rattle.esm_runner.specs.declared.run.MappingEnd.{MappingEnd}
use Rattle.esm_runner.specs.declared.run.MappingEnd.TheVariants as end
use Rattle.esm_report.specs.declared.ending.Ending.{Ending}
use Rattle.esm_journal_state.specs.SaidLists.{SaidLists}
use Rattle.esm_runner.specs.Files.{FilesState}
use Rattle.esm_runner.specs.Headline.{Devices, Telling}
use Rattle.esm_run.specs.Answers.{AreSoundDevices, IsQueueRun, asked, visibility_of}
use Rattle.esm_run.specs.Endings.{ending_of, ending_of_reading, status_of}
use Rattle.esm_run.specs.World.{RunTells, Seen, devices_of}
use Rattle.esm_run.proofs.Fronts.{IsFront, messages_front}
use Rattle.esm_run.proofs.KeptIds.{same_ids}
use Rattle.esm_run.proofs.OneReading.{IsReadFrom, WholeGoesOn, one_end, one_front, one_handed, some_of, told_still}
use Rattle.esm_run.proofs.OneReady.{IsFaultless, faultless, same_said}
use Rattle.esm_run.proofs.OneSetting.{SameTold}

-- the settings of two runs differ in nothing but their messages

one_setting : (c d : Config) (calls visibility : ℕ) (t u : SaidLists) (xs ys : List Message) (s z : QueueSetting) → c ≡ d → t ≡ u
    → IsSettingOf c calls visibility t xs s → IsSettingOf d calls visibility u ys z → z ≡ over_messages s z.messages
one_setting c d calls visibility t u xs ys s z configs saids one other =
    other.opened
    ∙ ap (λ config. over_messages (new_setting config calls visibility u.deletions) z.messages) (sym configs)
    ∙ ap (λ (said : SaidLists). over_messages (new_setting c calls visibility said.deletions) z.messages) (sym saids)
    ∙ sym (ap (λ v. over_messages v z.messages) one.opened)

other_setting : (s z : QueueSetting) → z ≡ over_messages s z.messages → s ≡ over_messages z s.messages
other_setting s z same = sym (ap (λ v. over_messages v s.messages) same)

-- nor in these where both came whole
whole_setting : (s z : QueueSetting) (h : List Entry) (xs ys : List Message) → z ≡ over_messages s z.messages → AllCame s h xs → AllCame z h ys → xs ≡ ys → z ≡ s
whole_setting s z h xs ys same one other lists = same ∙ ap (λ messages. over_messages s messages) (other.list ∙ sym lists ∙ sym one.list)

waiting_nowhere : (s z : QueueSetting) (h : List Entry) → z ≡ s → AllDeleted s h → HasWaiting z h → ⊥
waiting_nowhere s z h same all waiting =
    let both : true ≡ false =
    sym (all waiting.place waiting.came) ∙ sym (ap (λ v. is_deleted v h waiting.place) same) ∙ waiting.waits in
    cc

-- what two runs that left one history say of it: their settings, their messages, the ends of their readings, and the bytes that
-- are left
pub record IsShared (s z : QueueSetting) (xs ys : List Message) (i j : Option InputEnd) (bytes_left : Option (List ℕ)) : Type 0 where
  same : z ≡ over_messages s z.messages
  told : IsSome bytes_left
  ends : (e d : InputEnd) → i ≡ Some e → j ≡ Some d → e ≡ d
  lists : (e d : InputEnd) → i ≡ Some e → j ≡ Some d → xs ≡ ys
  front : (e : InputEnd) → i ≡ Some e → IsFront ys xs
  other_front : (e : InputEnd) → j ≡ Some e → IsFront xs ys

-- of an input that tells its bytes the reading ended, and a message waits
unfinished_so : (s : QueueSetting) (h : List Entry) (reading : Option InputEnd) (bytes_left : Option (List ℕ)) → IsSome bytes_left → IsUnfinished s h reading bytes_left → IsSome reading × HasWaiting s h
unfinished_so s h reading bytes_left told (inl ended) = ended
unfinished_so s h reading bytes_left told (inr (going, untold)) = absurd (let some = told in let none = untold in cc)

pub one_queue_end : {D F : Type 0} (t : Telling D F) (f g : FilesState D) (s z : QueueSetting) (h : List Entry) (xs ys : List Message) (i j : Option InputEnd) (bytes_left : Option (List ℕ)) (new : Devices D F) (e d : MappingEnd)
    → IsFaultless t.disk f new → IsFaultless t.disk g new → IsShared s z xs ys i j bytes_left
    → IsCauseOf t f s h xs i bytes_left new e → IsCauseOf t g z h ys j bytes_left new d → status_of (ending_of e) ≡ status_of (ending_of d)
one_queue_end t f g s z h xs ys i j l new end.DiskFault d sound sound_too shared one other = absurd (sound.pair one)
one_queue_end t f g s z h xs ys i j l new end.DestFault d sound sound_too shared one other = absurd one
one_queue_end t f g s z h xs ys i j l new e end.DiskFault sound sound_too shared one other = absurd (sound_too.pair other)
one_queue_end t f g s z h xs ys i j l new e end.DestFault sound sound_too shared one other = absurd other
one_queue_end t f g s z h xs ys i j l new (end.Finished why) (end.Finished cause) sound sound_too shared one other =
    ap (λ w. status_of (ending_of_reading w)) (shared.ends why cause one.1 other.1)
one_queue_end t f g s z h xs ys i j l new (end.Finished why) end.CallsSpent sound sound_too shared one other =
    let unfinished = unfinished_so z h j l shared.told other.2 in
    let read = some_of j unfinished.0 in
    absurd (waiting_nowhere s z h (whole_setting s z h xs ys shared.same one.0 other.0 (shared.lists why read.0 one.1 read.1)) one.2 unfinished.1)
one_queue_end t f g s z h xs ys i j l new (end.Finished why) (end.Changed change) sound sound_too shared one other =
    absurd (same_ids s z xs ys change shared.same one.0.unchanged (shared.front why one.1) other)
one_queue_end t f g s z h xs ys i j l new end.CallsSpent (end.Finished why) sound sound_too shared one other =
    let unfinished = unfinished_so s h i l shared.told one.2 in
    let read = some_of i unfinished.0 in
    absurd (waiting_nowhere z s h (sym (whole_setting s z h xs ys shared.same one.0 other.0 (shared.lists read.0 why read.1 other.1))) other.2 unfinished.1)
one_queue_end t f g s z h xs ys i j l new end.CallsSpent end.CallsSpent sound sound_too shared one other = refl
one_queue_end t f g s z h xs ys i j l new end.CallsSpent (end.Changed change) sound sound_too shared one other =
    let read = some_of i (unfinished_so s h i l shared.told one.2).0 in
    absurd (same_ids s z xs ys change shared.same one.0.unchanged (shared.front read.0 read.1) other)
one_queue_end t f g s z h xs ys i j l new (end.Changed change) (end.Finished why) sound sound_too shared one other =
    absurd (same_ids z s ys xs change (other_setting s z shared.same) other.0.unchanged (shared.other_front why other.1) one)
one_queue_end t f g s z h xs ys i j l new (end.Changed change) end.CallsSpent sound sound_too shared one other =
    let read = some_of j (unfinished_so z h j l shared.told other.2).0 in
    absurd (same_ids z s ys xs change (other_setting s z shared.same) other.0.unchanged (shared.other_front read.0 read.1) one)
one_queue_end t f g s z h xs ys i j l new (end.Changed change) (end.Changed other_change) sound sound_too shared one other = refl

-- the input of a queue's run
pub read_from : {S : Type 0} (faults : S → ℕ) (left : S → Option (List ℕ)) (c : Config) (old new : S) (i : InputState S) → IsInputOf faults left c old new i
    → IsReadFrom faults left (line_kind c) c.factor c.start old new i
read_from faults left c old new i is = record {
  kind_is = is.kind;
  factor_is = is.factor;
  start_is = is.start;
  found = is.found;
  source = is.source;
  good = is.good;
  read = is.read;
}

-- what two runs of a queue's mapping say of one history
pub shared_by : {S : Type 0} (faults : S → ℕ) (left : S → Option (List ℕ)) (c : Config) (old new : S) (i j : InputState S) (s z : QueueSetting)
    → WholeGoesOn → IsSome (left old) → ¬ Rose (faults old) (faults new) → IsInputOf faults left c old new i → IsInputOf faults left c old new j
    → z ≡ over_messages s z.messages → IsShared s z (messages_in_items (handed i)) (messages_in_items (handed j)) i.end j.end (left new)
shared_by faults left c old new i j s z goes told sound one other same =
    let first = read_from faults left c old new i one in
    let second = read_from faults left c old new j other in
    record {
      same = same;
      told = told_still faults left (line_kind c) c.factor c.start old new i told first;
      ends = λ e d. one_end faults left (line_kind c) c.factor c.start old new i j e d goes told sound first second;
      lists = λ e d ended also. ap messages_in_items (one_handed faults left (line_kind c) c.factor c.start old new i j e d goes told sound first second ended also);
      front = λ e ended. messages_front (handed j) (handed i) (one_front faults left (line_kind c) c.factor c.start old new i j e goes told sound first second ended);
      other_front = λ e ended. messages_front (handed i) (handed j) (one_front faults left (line_kind c) c.factor c.start old new j i e goes told sound second first ended);
    }

-- why it ended, told of the reading as the input has it
read_cause : {S D F : Type 0} (o : RunTells S D F) (h : List Entry) (new : Seen S D F) (f : FilesState D) (s : QueueSetting) (xs : List Message) (i reading : Option InputEnd) (e : MappingEnd) → i ≡ reading
    → IsCauseOf o.run f s h xs reading (o.left new.input) (devices_of new) e → IsCauseOf o.run f s h xs i (o.left new.input) (devices_of new) e
read_cause o h new f s xs i reading e same cause = subst (λ x. IsCauseOf o.run f s h xs x (o.left new.input) (devices_of new) e) (sym same) cause

pub one_queue_run : {S D F : Type 0} (o : RunTells S D F) (r : RunWords) (h : List Entry) (old new : Seen S D F) (text other_text : List ℕ) (e d : Ending)
    → WholeGoesOn → SameTold → AreSoundDevices o old new → (one : IsQueueRun o r h old new text e) → (other : IsQueueRun o r h old new other_text d) → one.mapping ≡ other.mapping
    → status_of e ≡ status_of d
one_queue_run o r h old new text other_text e d goes told sound one other mappings =
    let configs : one.mapping.config ≡ other.mapping.config = ap (λ (n : NamedMapping). n.config) mappings in
    let saids : one.files.said ≡ other.files.said =
    same_said o (asked o r) old new one.mapping other.mapping one.files other.files told sound one.ready other.ready in
    let xs : List Message = messages_in_items (handed one.run.input) in
    let ys : List Message = messages_in_items (handed other.run.input) in
    let input : IsInputOf o.faults o.left one.mapping.config old.input new.input other.run.input =
    subst (λ c. IsInputOf o.faults o.left c old.input new.input other.run.input) (sym configs) other.run.is_input in
    let same : other.run.setting ≡ over_messages one.run.setting other.run.setting.messages =
    one_setting one.mapping.config other.mapping.config r.calls (visibility_of r) one.files.said other.files.said xs ys one.run.setting other.run.setting configs saids
    one.run.is_setting other.run.is_setting in
    ap status_of one.tells
    ∙ one_queue_end o.run one.files other.files one.run.setting other.run.setting h xs ys one.run.input.end other.run.input.end (o.left new.input) (devices_of new) one.end other.end
    (faultless o (asked o r) old new one.mapping one.files sound one.ready) (faultless o (asked o r) old new other.mapping other.files sound other.ready)
    (shared_by o.faults o.left one.mapping.config old.input new.input one.run.input other.run.input one.run.setting other.run.setting goes sound.told sound.no_input_fault
    one.run.is_input input same)
    (read_cause o h new one.files one.run.setting xs one.run.input.end one.reading one.end one.run.read_to one.run.cause)
    (read_cause o h new other.files other.run.setting ys other.run.input.end other.reading other.end other.run.read_to other.run.cause)
    ∙ sym (ap status_of other.tells)
