use Rattle.std.proofs.Common.{arith}
use Rattle.std.specs.BTreeMap as map
use Rattle.esm_journal_state.specs.Meaning.{tries_kept}
use Rattle.esm_journal_state.specs.Table.{pair_cmp}
use Rattle.esm_journal_state.proofs.Pairs.{one_less, first_left, kept_more}
use Rattle.esm_journal_state.proofs.table.keep_tries.Goals as goal

pub loop-text-preserved-in_ok-insert : goal.loop-text-preserved-in_ok-insert
loop-text-preserved-in_ok-insert c =
    record {
      within = omega (arith, c.loop-text.invariant.within, one_less c.loop-text.texts.items c.pop.new.self.items c.in-Some.text c.in-Some.ensures.items);
      first = first_left c.args.texts.items c.loop-text.texts.items c.pop.new.self.items c.in-Some.text c.loop-text.invariant.first c.in-Some.ensures.items;
      kept = λ n i.
          kept_more (tries_kept c.args.tries) c.args.shard n i c.args.places.now c.args.texts.items c.loop-text.texts.items c.pop.new.self.items c.in-Some.text c.len.result
          (map.get pair_cmp c.args.kept.now (n, i)) (map.get pair_cmp c.loop-text.kept (n, i)) (map.get pair_cmp c.insert.new.self (n, i))
          (omega (arith, c.len.ensures, c.pop.new.self.ok)) c.requires c.loop-text.invariant.within c.loop-text.invariant.first c.in-Some.ensures.items (c.in_ok-insert.ensures.updates.0 (n, i)) (c.loop-text.invariant.kept n i);
    }

pub loop-text-preserved : goal.loop-text-preserved
loop-text-preserved c =
    record {
      within = omega (arith, c.loop-text.invariant.within, one_less c.loop-text.texts.items c.pop.new.self.items c.in-Some.text c.in-Some.ensures.items);
      first = first_left c.args.texts.items c.loop-text.texts.items c.pop.new.self.items c.in-Some.text c.loop-text.invariant.first c.in-Some.ensures.items;
      kept = λ n i.
          kept_more (tries_kept c.args.tries) c.args.shard n i c.args.places.now c.args.texts.items c.loop-text.texts.items c.pop.new.self.items c.in-Some.text c.len.result
          (map.get pair_cmp c.args.kept.now (n, i)) (map.get pair_cmp c.loop-text.kept (n, i)) (map.get pair_cmp c.insert.new.self (n, i))
          (omega (arith, c.len.ensures, c.pop.new.self.ok)) c.requires c.loop-text.invariant.within c.loop-text.invariant.first c.in-Some.ensures.items (c.in_ok-insert.ensures.updates.0 (n, i)) (c.loop-text.invariant.kept n i);
    }
