use Rattle.std.proofs.Common.{◌∙◌, sym}
use Rattle.esm_ledger.proofs.Staying.{shard_new}
use Rattle.esm_ledger.proofs.shard.ShardLedger.new.Goals as goal

pub returns-clause-kept : goal.returns-clause-kept
returns-clause-kept c = λ s h some factor legal none windows.
    shard_new s h (record { shard = c.args.shard; records = c.new.result; measures = c.new-2.result; progress = c.new-3.result; arrivals = c.new-4.result; callings = c.new-5.result; windows = c.args.windows; lanes = c.in_ok-new.field-0 })
    c.new.ensures.items c.new.ensures.held c.new-2.ensures.items c.new-3.ensures.fated c.new-3.ensures.counts c.new-4.ensures.runs c.new-4.ensures.came c.new-5.ensures
    (c.in_ok-new.ensures.lanes ∙ sym factor) c.in_ok-new.ensures.empty some legal none windows
