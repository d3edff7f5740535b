use Rattle.std.proofs.Common.{arith}
use Rattle.std.specs.Ordering.{nat_cmp}
use Rattle.std.specs.BTreeMap as map
use Rattle.esm_journal_state.specs.Meaning.{fate_kept}
use Rattle.esm_journal_state.proofs.Pairs.{one_less, first_left, kept_more_alone}
use Rattle.esm_journal_state.proofs.table.keep_deletions.Goals as goal

pub loop-text-preserved-in_ok-insert : goal.loop-text-preserved-in_ok-insert
loop-text-preserved-in_ok-insert c =
    record {
      within = omega (arith, c.loop-text.invariant.within, one_less c.loop-text.texts.items c.pop.new.self.items c.in-Some.text c.in-Some.ensures.items);
      first = first_left c.args.texts.items c.loop-text.texts.items c.pop.new.self.items c.in-Some.text c.loop-text.invariant.first c.in-Some.ensures.items;
      kept = λ i.
          kept_more_alone (fate_kept c.args.fate) i c.args.places.now c.args.texts.items c.loop-text.texts.items c.pop.new.self.items c.in-Some.text c.len.result
          (map.get nat_cmp c.args.deletions.now i) (map.get nat_cmp c.loop-text.deletions i) (map.get nat_cmp c.insert.new.self i)
          (omega (arith, c.len.ensures, c.pop.new.self.ok)) c.requires c.loop-text.invariant.within c.loop-text.invariant.first c.in-Some.ensures.items (c.in_ok-insert.ensures.updates.0 i) (c.loop-text.invariant.kept i);
    }

pub loop-text-preserved : goal.loop-text-preserved
loop-text-preserved c =
    record {
      within = omega (arith, c.loop-text.invariant.within, one_less c.loop-text.texts.items c.pop.new.self.items c.in-Some.text c.in-Some.ensures.items);
      first = first_left c.args.texts.items c.loop-text.texts.items c.pop.new.self.items c.in-Some.text c.loop-text.invariant.first c.in-Some.ensures.items;
      kept = λ i.
          kept_more_alone (fate_kept c.args.fate) i c.args.places.now c.args.texts.items c.loop-text.texts.items c.pop.new.self.items c.in-Some.text c.len.result
          (map.get nat_cmp c.args.deletions.now i) (map.get nat_cmp c.loop-text.deletions i) (map.get nat_cmp c.insert.new.self i)
          (omega (arith, c.len.ensures, c.pop.new.self.ok)) c.requires c.loop-text.invariant.within c.loop-text.invariant.first c.in-Some.ensures.items (c.in_ok-insert.ensures.updates.0 i) (c.loop-text.invariant.kept i);
    }
