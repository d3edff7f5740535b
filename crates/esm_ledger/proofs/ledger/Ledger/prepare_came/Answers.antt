use Rattle.std.proofs.Common.{length, ap, refl, arith}
use Rattle.esm_ledger.proofs.Prepared.{others_none, prepared_elsewhere}
use Rattle.esm_ledger.proofs.NextRecords.{coming_made}
use Rattle.esm_ledger.proofs.ledger.Ledger.prepare_came.Goals as goal

pub arriving_of-requires-clause-few : goal.arriving_of-requires-clause-few
arriving_of-requires-clause-few c = omega (arith, c.came_of-first.ensures, c.requires.few)

pub prepare_known-requires-clause-few : goal.prepare_known-requires-clause-few
prepare_known-requires-clause-few c = omega (arith, c.in_ok-arriving.ensures.even.landings, ap length c.in_ok-arriving.ensures.records, c.requires.few)

pub returns-clause-ok : goal.returns-clause-ok
returns-clause-ok c =
    coming_made c.args.self.now c.prepare_known.new.self c.args.shard c.came_of-first.result c.window_before-before.result c.in_ok-arriving.arriving c.in_ok-fresh.fresh c.args.records.items c.args.passing.now
    c.requires.kept
    (record {
      kept = c.prepare_known.ensures.kept;
      past = c.prepare_known.ensures.past;
      setting = c.prepare_known.ensures.setting;
      known = c.in_ok-prepare_known.ensures.ok;
      named = c.in_ok-fresh.ensures.named;
      fresh = c.in_ok-fresh.ensures.fresh;
    })
    c.in_ok-arriving.ensures.records c.came_of-first.ensures c.window_before-before.ensures c.requires.some c.requires.shard c.in_ok-arriving.ensures.even c.requires.few c.requires.passing
    c.in_ok-arriving.ensures.within c.in_ok-arriving.ensures.stand

pub fresh_for-requires-clause-few : goal.fresh_for-requires-clause-few
fresh_for-requires-clause-few c = omega (arith, c.in_ok-arriving.ensures.even.landings, ap length c.in_ok-arriving.ensures.records, c.requires.few)

pub returns-in_err-arriving-clause-elsewhere : goal.returns-in_err-arriving-clause-elsewhere
returns-in_err-arriving-clause-elsewhere c = prepared_elsewhere c.args.self.now c.args.self.now c.args.shard refl refl (others_none c.args.self.now c.args.shard)
