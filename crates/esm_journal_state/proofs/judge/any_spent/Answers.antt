use Rattle.std.proofs.Common.{◌∙◌, sym, ap, get_or}
use Rattle.esm_journal_state.specs.Meaning.{any_named, is_spent}
use Rattle.esm_journal_state.specs.Table.{known_in}
use Rattle.esm_journal_state.proofs.Pairs.{any_found, any_goes_on}
use Rattle.esm_journal_state.proofs.judge.any_spent.Goals as goal

pub returns-then-is_spent : goal.returns-then-is_spent
returns-then-is_spent c =
    any_found (is_spent (known_in c.args.table.now) c.args.shard) c.args.places.now c.args.texts.now c.loop-index.index c.index-texts-index.result (any_named (is_spent (known_in c.args.table.now) c.args.shard) c.args.places.now c.args.texts.now)
    c.loop-index-test.true c.requires.same (ap (λ t. (is_spent (known_in c.args.table.now) c.args.shard) (get_or c.args.places.now c.loop-index.index 0) t) (sym c.index-texts-index.is) ∙ sym c.is_spent.ensures ∙ c.if-is_spent.true) c.loop-index.invariant

pub loop-index-preserved : goal.loop-index-preserved
loop-index-preserved c =
    any_goes_on (is_spent (known_in c.args.table.now) c.args.shard) c.args.places.now c.args.texts.now c.loop-index.index c.index-texts-index.result (any_named (is_spent (known_in c.args.table.now) c.args.shard) c.args.places.now c.args.texts.now)
    c.loop-index-test.true c.requires.same (ap (λ t. (is_spent (known_in c.args.table.now) c.args.shard) (get_or c.args.places.now c.loop-index.index 0) t) (sym c.index-texts-index.is) ∙ sym c.is_spent.ensures ∙ c.if-is_spent.false) c.loop-index.invariant
