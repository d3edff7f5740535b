-- A stream's book moves between threads where its disks and its destination do: what it decides does, and its journal does.
use denote.Hole.{as_row}
use denote.Param.Send.{IsSend, sendable, view_send}
use denote.Param.SendFields.{as_row_send, declared_send}
use denote.RattleType.{RattleType}
use denote.Struct.Field.{Field, u32-field, u64-field, bool-field}
use Rattle.std.proofs.Crossing.{crosses, Vec-send}
use Rattle.std.proofs.MapsCrossing.{String-send}
use Rattle.std.specs.contracts.alloc.Global as Global
use Rattle.std.specs.contracts.impls.GlobalAllocator.TheImpl.{ghosts}
use Rattle.std.specs.contracts.vec.Vec as Vec
use Rattle.esm_io.specs.declared.dest.Dest as Dest
use Rattle.esm_io.specs.declared.disk.Disk as Disk
use Rattle.esm_journal.proofs.pair.Pair.TheSendSync as pair
use Rattle.esm_filter.proofs.pattern.Rule.TheLaws.TheKnot as rule
use Rattle.esm_filter.proofs.pattern.Test.TheSendSync as test
use Rattle.esm_filter.specs.contracts.criteria.Criteria as Criteria
use Rattle.esm_ledger.proofs.arriving.Arriving.TheSendSync as arriving
use Rattle.esm_ledger.proofs.measure.Measure.TheSendSync as measure
use Rattle.esm_ledger.proofs.slots.Slots.TheSendSync as slots
use Rattle.esm_ledger.specs.contracts.coming.Coming as Coming
use Rattle.esm_ledger.specs.contracts.ledger.Ledger as Ledger
use Rattle.esm_ledger.specs.contracts.records.Records as Records
use Rattle.esm_ledger.specs.contracts.records.Records.TheInside as RecordsInside
use Rattle.esm_ledger.specs.contracts.shard.ShardLedger as ShardLedger
use Rattle.esm_model.proofs.config.Config.TheSendSync as config
use Rattle.esm_model.proofs.entry.Fate.TheSendSync as fate
use Rattle.esm_model.proofs.entry.WindowState.TheSendSync as state
use Rattle.esm_model.proofs.lane.LaneId.TheSendSync as lane
use Rattle.esm_model.proofs.record.Record.TheSendSync as item
use Rattle.esm_model.proofs.text.Places.TheSendSync as places
use Rattle.esm_model.proofs.text.Text.TheSendSync as text
use Rattle.esm_model.specs.contracts.config.Config as Config
use Rattle.esm_model.specs.contracts.entry.Entry as Entry
use Rattle.esm_model.specs.contracts.entry.PastReply as PastReply
use Rattle.esm_model.specs.contracts.entry.PastReply.TheInside as PastInside
use Rattle.esm_shard_index.proofs.arrivals.Arrivals.TheSendSync as arrivals
use Rattle.esm_shard_index.proofs.callings.Callings.TheSendSync as callings
use Rattle.esm_shard_index.proofs.lane_table.LaneTable.TheSendSync as lane_table
use Rattle.esm_shard_index.proofs.progress.Progress.TheSendSync as progress
use Rattle.esm_shard_index.proofs.windows.Windows.TheSendSync as windows
use Rattle.esm_stream_core.proofs.owed.Owed.TheSendSync as owed
use Rattle.esm_stream_core.proofs.standing.Standing.TheSendSync as standing
use Rattle.esm_stream_core.specs.contracts.owed.Owed as Owed
use Rattle.esm_stream_core.specs.contracts.standing.Standing as Standing
use Rattle.esm_journal_state.proofs.lookup.Says.TheSendSync as says
use Rattle.esm_journal_state.specs.contracts.lookup.Says as Says
use Rattle.esm_book.specs.contracts.durable.Durable as Durable
use Rattle.esm_book.specs.declared.decisions.Decisions as Decisions
use Rattle.esm_stream_core.specs.contracts.decisions.Opened as Opened
use Rattle.esm_stream_core.specs.contracts.decisions.StreamAnswer as StreamAnswer
use Rattle.esm_stream_core.specs.contracts.decisions.StreamCall as StreamCall
use Rattle.esm_stream_core.specs.contracts.decisions.StreamCoreDecisions.TheImpl.{ghosts as decisions}
use Rattle.esm_stream_core.specs.contracts.decisions.StreamEntry as StreamEntry
use Rattle.esm_stream_core.specs.contracts.stream_core.StreamCore as StreamCore
use Rattle.esm_stream_core.specs.contracts.stream_core.StreamCore.TheInside as CoreInside
use Rattle.esm_stream_book.specs.contracts.stream_book.Book as Book
use Rattle.esm_stream_book.specs.contracts.stream_book.Book.TheInside as Inside

criteria : IsSend (as_row Criteria.the_field)
criteria = search (rule.crosses, test.the_send, String-send, sendable, crosses) depth 40

u32s : IsSend (as_row u32-field)
u32s = search sendable depth 20

u64s : IsSend (as_row u64-field)
u64s = search sendable depth 20

bools : IsSend (as_row bool-field)
bools = search sendable depth 20

listed : (T : RattleType) → IsSend T → IsSend (as_row (Vec.the_field T Global.the_row ghosts))
listed T s = as_row_send (Vec.the_field T Global.the_row ghosts) (Vec-send T s)

past_fields : IsSend PastInside.the_row
past_fields = search (sendable, crosses) depth 40

past : IsSend PastReply.the_row
past = view_send PastInside.the_row _ _ _ _ past_fields

entry : IsSend Entry.the_row
entry = search (past, fate.the_send, state.the_send, lane.the_send, places.the_send, text.the_send, sendable, crosses) depth 60

-- a shard's records, of which some are known to contracts alone
records_fields : IsSend RecordsInside.the_row
records_fields = search (slots.the_send, item.the_send, sendable, crosses) depth 60

records : IsSend Records.the_row
records = view_send RecordsInside.the_row _ _ _ _ records_fields

shard : IsSend ShardLedger.the_row
shard = search (records, measure.the_send, progress.the_send, arrivals.the_send, callings.the_send, windows.the_send, lane_table.the_send, sendable, crosses) depth 60

coming : IsSend Coming.the_row
coming = search (shard, arriving.the_send, sendable, crosses) depth 60

ledger : IsSend Ledger.the_row
ledger = declared_send Ledger.the_type (
  as_row_send Config.the_field config.the_field_send,
  (
    u32s,
    (
      as_row_send Says.the_field says.the_send,
      (
        listed Entry.the_row entry,
        (
          u64s,
          (
            bools,
            (
              u64s,
              (
                u32s,
                (listed ShardLedger.the_row shard, tt),
              ),
            ),
          ),
        ),
      ),
    ),
  ),
)

core_fields : IsSend CoreInside.the_row
core_fields = declared_send CoreInside.the_type (
  ledger,
  (
    criteria,
    (
      listed Coming.the_row coming,
      (
        listed Owed.the_row owed.the_send,
        (as_row_send Standing.the_field standing.the_field_send, tt),
      ),
    ),
  ),
)

pub core_send : IsSend StreamCore.the_row
core_send = view_send CoreInside.the_row _ _ _ _ core_fields

-- a core over devices does where all three do
module _ (C D T Origin Entry Call Answer : RattleType) (c : Decisions.Ghosts C.Denot Origin.Denot Entry.Denot Call.Denot Answer.Denot) (d : Disk.Ghosts D.Denot) (t : Dest.Ghosts T.Denot) where
  durable_send : IsSend C → IsSend D → IsSend T → IsSend (Durable.the_row C D T Origin Entry Call Answer c d t)
  durable_send core disk dest = search (pair.the_send, sendable, crosses) depth 40

-- a book, whose one field is its core over its journal and its destination
module _ (D T : RattleType) (d : Disk.Ghosts D.Denot) (t : Dest.Ghosts T.Denot) where
  abbrev durable : Field
  durable = Durable.the_field StreamCore.the_row D T Opened.the_row StreamEntry.the_row StreamCall.the_row StreamAnswer.the_row decisions d t

  pub book_send : IsSend D → IsSend T → IsSend (Book.the_row D T d t)
  book_send disk dest =
      let held = durable_send StreamCore.the_row D T Opened.the_row StreamEntry.the_row StreamCall.the_row StreamAnswer.the_row decisions d t core_send disk dest in
      view_send (Inside.the_row D T d t) _ _ _ _ (declared_send (Inside.the_type D T d t) (as_row_send durable held, tt))
