use Rattle.std.proofs.Common.{◌≡◌, ℕ, List, ◌++◌, length, refl, sym, subst, inl}
use Rattle.std.specs.Prelude.{All, Result, Err}
use Rattle.esm_io.specs.Meanings.{DiskMeaning, disk}
use Rattle.esm_model.specs.declared.book.CameError.{CameError}
use Rattle.esm_model.specs.declared.book.CameError.TheVariants as refusal
use Rattle.esm_model.specs.Coming.{Come}
use Rattle.esm_model.specs.declared.item.Item.{Item}
use Rattle.esm_model.specs.declared.item.Message.{Message}
use Rattle.esm_queue_model.specs.QueueSetting.{is_fifo}
use Rattle.esm_queue_book.specs.Coming.{IsMessage, messages_in_items}
use Rattle.esm_queue_book.proofs.Items.{are_messages, few_messages, valid_messages}
use Rattle.esm_redrive_core.specs.Told.{MayCome}
use Rattle.esm_redrive_run.specs.Book.{Book, IsLegalBook, items_in}
use Rattle.esm_redrive_run.proofs.Bringing.{CameDid, HasCome, come, legal_book, may_come, none_came}
use Rattle.esm_redrive_run.proofs.Items.{all_come, some_come, room_for, stay_as}
use Rattle.esm_redrive_run.proofs.Stays.{kind_stays, function_stays, if_ok}
use Rattle.esm_redrive_run.specs.Runs.{dead_file}
use Rattle.esm_redrive_run.proofs.Stepping.{StaysTimed, gone_none, no_calls}
use Rattle.esm_redrive_run.proofs.Timed.{came_timed}
use Rattle.esm_redrive_run.proofs.book.SerialRedriveSerial.bring.Goals as goal

pub messages_of-requires : goal.messages_of-requires
messages_of-requires g c = are_messages (is_fifo c.args.self.now.redrive.core.setting.queue.config.kind) c.args.list.items c.requires.valid

pub came-came-requires : goal.came-came-requires
came-came-requires g c =
    let old : Book g.row.D.Denot = c.args.self.now.redrive in
    let list : List Item = c.args.list.items in
    let all : All IsMessage list = are_messages (is_fifo old.core.setting.queue.config.kind) list c.requires.valid in
    let may : MayCome old.core (messages_in_items list) =
    may_come old (messages_in_items list) (length list) c.requires.going (few_messages list) c.requires.few
    (valid_messages old.core.setting.queue.config.kind list c.know.ensures.consistent.queue c.requires.valid)
    (room_for old old list all c.requires.within) in
    record { may = subst (λ (ms : List Message). MayCome old.core ms) (sym c.in-Ok.ensures) may }

pub returns-in_default : goal.returns-in_default
returns-in_default g c =
    let t : ℕ = c.args.moment in
    let old : Book g.row.D.Denot = c.args.self.now.redrive in
    let list : List Item = c.args.list.items in
    let none : Result (Unit {0}) CameError = Err refusal.OutOfMemory in
    let all : All IsMessage list = are_messages (is_fifo old.core.setting.queue.config.kind) list c.requires.valid in
    let has : HasCome t (messages_in_items list) old old none =
    none_came t (messages_in_items list) old old refusal.OutOfMemory refl refl refl c.requires.going (inl refl) (λ change same. absurd (cc)) refl in
    record {
      since = λ gave sends first calls clock before. before;
      going = c.requires.going;
      came = tt;
      some = some_come old old list all has.some;
      kind = refl;
      function = refl;
      up = tt;
      down = inl refl;
      changed = λ change is. absurd (cc);
      refused = λ change is n. refl;
      tells = refl;
    }

pub returns : goal.returns
returns g c =
    let m : DiskMeaning g.row.D.Denot = disk g.D.Disk in
    let t : ℕ = c.args.moment in
    let old : Book g.row.D.Denot = c.args.self.now.redrive in
    let new : Book g.row.D.Denot = c.came-came.new.self in
    let list : List Item = c.args.list.items in
    let r : Result (Unit {0}) CameError = c.came-came.result in
    let e = c.came-came.ensures in
    let all : All IsMessage list = are_messages (is_fifo old.core.setting.queue.config.kind) list c.requires.valid in
    let given : CameDid m (dead_file m) t c.in-Ok.messages.items old new r = record { added = e.added; stopped = e.stopped; changed = e.changed; down = e.down; left = e.left; no_memory = e.no_memory } in
    let did : CameDid m (dead_file m) t (messages_in_items list) old new r = subst (λ (ms : List Message). CameDid m (dead_file m) t ms old new r) c.in-Ok.ensures given in
    let legal : IsLegalBook new = legal_book new c.know-2.ensures.sound c.know-2.ensures.consistent in
    let has : HasCome t (messages_in_items list) old new r = come m (dead_file m) t (messages_in_items list) old new r did c.requires.going legal in
    let stays : StaysTimed t old new = came_timed m (dead_file m) c.moments_hold.ensures t old new (messages_in_items list) r did in
    record {
      since = λ gave sends first calls clock before. gone_none t old new gave sends first.redrive calls has.step stays clock before;
      going = has.going;
      came = if_ok (new.core.setting.queue.messages ≡ old.core.setting.queue.messages ++ messages_in_items list) (Come (items_in old) (items_in new) list) r (all_come old new list all) has.came;
      some = some_come old new list all has.some;
      kind = kind_stays t old new no_calls has.step;
      function = function_stays t old new no_calls has.step;
      up = has.up;
      down = has.down;
      changed = has.changed;
      refused = λ change is. stay_as old new (has.refused change is);
      tells = has.tells;
    }
