use Rattle.std.proofs.Common.{refl, sym, ◌∙◌}
use Rattle.std.specs.Ordering.{nat_cmp}
use Rattle.std.specs.BTreeMap.{get}
use Rattle.esm_replay_core.proofs.Counting.{same_counts, kept_count, key_there, none_counted}
use Rattle.esm_replay_core.proofs.counts.make_count.Goals as goal

pub returns-then-has_count-clause-same : goal.returns-then-has_count-clause-same
returns-then-has_count-clause-same c = record { same = λ q. refl; keys = λ q has. has }

pub returns-in_err-insert-clause-same : goal.returns-in_err-insert-clause-same
returns-in_err-insert-clause-same c = same_counts c.args.counts.now c.insert.new.self c.in_err-insert.ensures.err

pub returns-clause-same : goal.returns-clause-same
returns-clause-same c =
    let none = none_counted (get nat_cmp c.args.counts.now c.args.shard) (sym c.has_count.ensures ∙ c.if-has_count.false) in
    kept_count c.args.counts.now c.insert.new.self c.args.shard 0 c.in_ok-insert.ensures.updates none

pub returns-clause-there : goal.returns-clause-there
returns-clause-there c = key_there c.args.counts.now c.insert.new.self c.args.shard 0 c.in_ok-insert.ensures.updates
