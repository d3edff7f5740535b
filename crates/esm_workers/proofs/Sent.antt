-- A book that is called on time moves between threads where the book does.
use denote.Param.Send.{IsSend, sendable, view_send}
use denote.RattleType.{RattleType}
use Rattle.std.proofs.Crossing.{crosses}
use Rattle.esm_io.specs.declared.clock.Clock as Clock
use Rattle.esm_model.specs.declared.kept.Kept as Kept
use Rattle.esm_model.specs.declared.pooled.Pooled as Pooled
use Rattle.esm_workers.specs.contracts.on_time.OnTime as OnTime
use Rattle.esm_workers.specs.contracts.on_time.OnTime.TheInside as Inside

module _ (B C : RattleType) (pooled : Pooled.Ghosts B.Denot) (kept : Kept.Ghosts B.Denot) (clock : Clock.Ghosts C.Denot) where
  fields_send : IsSend B → IsSend (Inside.the_row B C pooled kept clock)
  fields_send book = search (sendable, crosses) depth 40

  pub on_time_send : IsSend B → IsSend (OnTime.the_row B C pooled kept clock)
  on_time_send book = view_send (Inside.the_row B C pooled kept clock) _ _ _ _ (fields_send book)
