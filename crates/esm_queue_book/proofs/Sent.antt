-- A queue's book moves between threads where its disks do: what it decides does, field by field, and its journal does.
use denote.Hole.{as_row}
use denote.Param.Send.{IsSend, sendable, view_send}
use denote.Param.SendFields.{as_row_send, declared_send}
use denote.RattleType.{RattleType}
use denote.Struct.Field.{Field, u32-field, u64-field, bool-field, usize-field}
use Rattle.std.proofs.Crossing.{crosses, Vec-send}
use Rattle.std.proofs.MapsCrossing.{String-send}
use Rattle.std.proofs.option.Option.TheSendSync as option
use Rattle.std.specs.contracts.alloc.Global as Global
use Rattle.std.specs.contracts.impls.GlobalAllocator.TheImpl.{ghosts}
use Rattle.std.specs.contracts.option.Option as Option
use Rattle.std.specs.contracts.vec.Vec as Vec
use Rattle.esm_io.specs.declared.dest.Dest as Dest
use Rattle.esm_io.specs.declared.disk.Disk as Disk
use Rattle.esm_journal.proofs.pair.Pair.TheSendSync as pair
use Rattle.esm_model.proofs.config.Config.TheSendSync as config
use Rattle.esm_model.proofs.entry.WindowState.TheSendSync as state
use Rattle.esm_model.proofs.item.Message.TheSendSync as message
use Rattle.esm_model.proofs.lane.LaneId.TheSendSync as lane
use Rattle.esm_model.proofs.text.Places.TheSendSync as places
use Rattle.esm_model.proofs.text.Text.TheSendSync as text
use Rattle.esm_model.specs.contracts.config.Config as Config
use Rattle.esm_model.specs.contracts.entry.Entry as Entry
use Rattle.esm_model.specs.contracts.entry.PastReply as PastReply
use Rattle.esm_model.specs.contracts.entry.PastReply.TheInside as PastInside
use Rattle.esm_model.specs.contracts.item.Message as Message
use Rattle.esm_journal_state.proofs.lookup.Says.TheSendSync as says
use Rattle.esm_journal_state.specs.contracts.lookup.Says as Says
use Rattle.esm_filter.proofs.pattern.Rule.TheLaws.TheKnot as rule
use Rattle.esm_filter.proofs.pattern.Test.TheSendSync as test
use Rattle.esm_filter.specs.contracts.criteria.Criteria as Criteria
use Rattle.esm_book.proofs.nowhere.Nowhere.TheSendSync as nowhere
use Rattle.esm_book.specs.contracts.durable.Durable as Durable
use Rattle.esm_book.specs.contracts.nowhere.Nowhere as Nowhere
use Rattle.esm_book.specs.declared.decisions.Decisions as Decisions
use Rattle.esm_book.specs.contracts.nowhere.NowhereDest.TheImpl.{ghosts as no_dest}
use Rattle.esm_queue_core.below.esm_queue.proofs.queue.Queue.TheSendSync as queue
use Rattle.esm_queue_core.below.esm_queue.specs.contracts.queue.Queue as Queue
use Rattle.esm_queue_core.proofs.owed.First.TheSendSync as first
use Rattle.esm_queue_core.proofs.owed.Gift.TheSendSync as gift
use Rattle.esm_queue_core.proofs.standing.Standing.TheSendSync as standing
use Rattle.esm_queue_core.specs.contracts.decisions.Opened as Opened
use Rattle.esm_queue_core.specs.contracts.decisions.QueueAnswer as QueueAnswer
use Rattle.esm_queue_core.specs.contracts.decisions.QueueCall as QueueCall
use Rattle.esm_queue_core.specs.contracts.decisions.QueueCoreDecisions.TheImpl.{ghosts as decisions}
use Rattle.esm_queue_core.specs.contracts.decisions.QueueEntry as QueueEntry
use Rattle.esm_queue_core.specs.contracts.owed.First as First
use Rattle.esm_queue_core.specs.contracts.owed.Gift as Gift
use Rattle.esm_queue_core.specs.contracts.queue_core.QueueCore as QueueCore
use Rattle.esm_queue_core.specs.contracts.queue_core.QueueCore.TheInside as CoreInside
use Rattle.esm_queue_core.specs.contracts.standing.Standing as Standing
use Rattle.esm_queue_book.specs.contracts.queue_book.QueueBook as QueueBook
use Rattle.esm_queue_book.specs.contracts.queue_book.QueueBook.TheInside as Inside

u32s : IsSend (as_row u32-field)
u32s = search sendable depth 20

u64s : IsSend (as_row u64-field)
u64s = search sendable depth 20

bools : IsSend (as_row bool-field)
bools = search sendable depth 20

usizes : IsSend (as_row usize-field)
usizes = search sendable depth 20

listed : (T : RattleType) → IsSend T → IsSend (as_row (Vec.the_field T Global.the_row ghosts))
listed T s = as_row_send (Vec.the_field T Global.the_row ghosts) (Vec-send T s)

maybe : (T : RattleType) → IsSend T → IsSend (as_row (Option.the_field T))
maybe T s = as_row_send (Option.the_field T) (option.the_field_send T s)

past_fields : IsSend PastInside.the_row
past_fields = search (sendable, crosses) depth 40

past : IsSend PastReply.the_row
past = view_send PastInside.the_row _ _ _ _ past_fields

entry : IsSend Entry.the_row
entry = search (past, state.the_send, lane.the_send, places.the_send, text.the_send, sendable, crosses) depth 60

criteria : IsSend (as_row Criteria.the_field)
criteria = search (rule.crosses, test.the_send, String-send, sendable, crosses) depth 40

core_fields : IsSend CoreInside.the_row
core_fields = declared_send CoreInside.the_type (
  as_row_send Config.the_field config.the_field_send,
  (
    u32s,
    (
      u64s,
      (
        as_row_send Says.the_field says.the_send,
        (
          criteria,
          (
            as_row_send Queue.the_field queue.the_send,
            (
              listed Entry.the_row entry,
              (
                u64s,
                (
                  bools,
                  (
                    u64s,
                    (
                      u32s,
                      (
                        usizes,
                        (
                          listed Message.the_row message.the_send,
                          (
                            maybe First.the_row first.the_send,
                            (
                              maybe Gift.the_row gift.the_send,
                              (as_row_send Standing.the_field standing.the_field_send, tt),
                            ),
                          ),
                        ),
                      ),
                    ),
                  ),
                ),
              ),
            ),
          ),
        ),
      ),
    ),
  ),
)

pub core_send : IsSend QueueCore.the_row
core_send = view_send CoreInside.the_row _ _ _ _ core_fields

-- a core over devices does where all three do
module _ (C D T Origin Entry Call Answer : RattleType) (c : Decisions.Ghosts C.Denot Origin.Denot Entry.Denot Call.Denot Answer.Denot) (d : Disk.Ghosts D.Denot) (t : Dest.Ghosts T.Denot) where
  durable_send : IsSend C → IsSend D → IsSend T → IsSend (Durable.the_row C D T Origin Entry Call Answer c d t)
  durable_send core disk dest = search (pair.the_send, sendable, crosses) depth 40

-- a book, whose fields are its core over its journal, and a count
module _ (D : RattleType) (d : Disk.Ghosts D.Denot) where
  abbrev durable : Field
  durable = Durable.the_field QueueCore.the_row D Nowhere.the_row Opened.the_row QueueEntry.the_row QueueCall.the_row QueueAnswer.the_row decisions d no_dest

  pub book_send : IsSend D → IsSend (QueueBook.the_row D d)
  book_send disk =
      let held = durable_send QueueCore.the_row D Nowhere.the_row Opened.the_row QueueEntry.the_row QueueCall.the_row QueueAnswer.the_row decisions d no_dest core_send disk nowhere.the_send in
      view_send (Inside.the_row D d) _ _ _ _ (declared_send (Inside.the_type D d) (as_row_send durable held, (u64s, tt)))
