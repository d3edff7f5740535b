use Rattle.std.proofs.Common.{◌∙◌, ℕ, List, length, refl, sym, ap, subst, inl}
use Rattle.std.specs.Prelude.{All, Result, Err}
use Rattle.std.specs.Coded.{Coded}
use Rattle.esm_io.specs.Meanings.{DiskMeaning, disk}
use Rattle.esm_model.specs.declared.book.CameError.{CameError}
use Rattle.esm_model.specs.declared.book.CameError.TheVariants as refusal
use Rattle.esm_model.specs.declared.item.Message.{Message}
use Rattle.esm_model.specs.Entries.{is_shut}
use Rattle.esm_model.specs.declared.item.Item.{Item}
use Rattle.esm_queue_model.specs.QueueSetting.{is_fifo}
use Rattle.esm_queue_core.specs.Told.{told_of, MayCome}
use Rattle.esm_queue_book.specs.Books.{BookState}
use Rattle.esm_queue_book.specs.Coming.{IsMessage, messages_in_items}
use Rattle.esm_queue_book.proofs.Standing.{past_told}
use Rattle.esm_queue_book.proofs.Items.{are_messages, few_messages, valid_messages, room_for}
use Rattle.esm_queue_book.proofs.PoolingCame.{CameDid, HasCome, may_come, come, none_come}
use Rattle.esm_queue_book.proofs.PoolingTimed.{came_timed}
use Rattle.esm_queue_book.proofs.Bringing.{brought}
use Rattle.esm_queue_book.proofs.pooled.QueueBookPooled.bring.Goals as goal

pub messages_of-requires : goal.messages_of-requires
messages_of-requires g c = are_messages (is_fifo c.args.self.now.core.setting.config.kind) c.args.list.items c.requires.valid

pub came-came-requires : goal.came-came-requires
came-came-requires g c =
    let old : BookState g.row.D.Denot = c.args.self.now in
    let list : List Item = c.args.list.items in
    let all : All IsMessage c.args.list.items = are_messages (is_fifo old.core.setting.config.kind) list c.requires.valid in
    let may : MayCome c.args.self.now.core (messages_in_items c.args.list.items) =
    may_come old (messages_in_items list) (length list) c.know.ensures.sound (ap is_shut (sym (past_told old.core)) ∙ c.requires.going) (few_messages list) c.requires.few
    (valid_messages old.core.setting.config.kind list c.know.ensures.queue c.requires.valid)
    (room_for (told_of old.core) (told_of old.core) list all c.requires.within) in
    record { may = subst (λ (ms : List Message). MayCome old.core ms) (sym c.in-Ok.ensures) may }

pub returns-in_default : goal.returns-in_default
returns-in_default g c =
    let code : Coded g.row.D.Denot = g.row.D.coded in
    let t : ℕ = c.args.moment in
    let old : BookState g.row.D.Denot = c.args.self.now in
    let list : List Item = c.args.list.items in
    let none : Result (Unit {0}) CameError = Err refusal.OutOfMemory in
    let has : HasCome c.args.moment (messages_in_items c.args.list.items) c.args.self.now c.args.self.now (Err refusal.OutOfMemory) =
    none_come t (messages_in_items list) old old refusal.OutOfMemory refl refl (λ is. is) (ap is_shut (sym (past_told old.core)) ∙ c.requires.going) (inl refl) (λ change same. absurd (cc)) refl in
    let b = brought code t list old old none (are_messages (is_fifo old.core.setting.config.kind) list c.requires.valid) c.know.ensures.sound c.know.ensures.legal has in
    record { goes_on = b.goes_on; moments = b.moments; timed = λ gave clock timed. timed; going = b.going; came = b.came; some = b.some; down = b.down; changed = b.changed; tells = b.tells }

pub returns : goal.returns
returns g c =
    let d : DiskMeaning g.row.D.Denot = disk g.D.Disk in
    let code : Coded g.row.D.Denot = g.row.D.coded in
    let t : ℕ = c.args.moment in
    let old : BookState g.row.D.Denot = c.args.self.now in
    let new : BookState g.row.D.Denot = c.came-came.new.self in
    let list : List Item = c.args.list.items in
    let r : Result (Unit {0}) CameError = c.came-came.result in
    let e = c.came-came.ensures in
    let given : CameDid d t c.in-Ok.messages.items old new r = record {
      added = e.added;
      stopped = e.stopped;
      changed = e.changed;
      down = e.down;
      left = e.left;
      no_memory = e.no_memory;
    } in
    let did : CameDid d t (messages_in_items list) old new r = subst (λ (ms : List Message). CameDid d t ms old new r) c.in-Ok.ensures given in
    let has : HasCome t (messages_in_items list) old new r = come d t (messages_in_items list) old new r did (ap is_shut (sym (past_told old.core)) ∙ c.requires.going) in
    let b = brought code t list old new r (are_messages (is_fifo old.core.setting.config.kind) list c.requires.valid) c.know.ensures.sound c.know-2.ensures.legal has in
    record { goes_on = b.goes_on; moments = b.moments; timed = λ gave clock timed. came_timed gave d t old new clock timed (messages_in_items list) r did; going = b.going; came = b.came; some = b.some; down = b.down; changed = b.changed; tells = b.tells }
