use Rattle.std.proofs.Common.{[], ◌∙◌, sym}
use Rattle.esm_journal_state.specs.Meaning.{any_named, is_deleted}
use Rattle.esm_journal_state.specs.Table.{known_in}
use Rattle.esm_journal_state.proofs.Pairs.{any_found, any_goes_on}
use Rattle.esm_journal_state.proofs.judge.any_deleted.Goals as goal

pub returns-then-contains_key : goal.returns-then-contains_key
returns-then-contains_key c =
    any_found (is_deleted (known_in c.args.table.now)) c.args.places.now c.args.texts.now c.loop-index.index [] (any_named (is_deleted (known_in c.args.table.now)) c.args.places.now c.args.texts.now)
    c.loop-index-test.true c.requires (sym c.contains_key.ensures ∙ c.if-contains_key.true) c.loop-index.invariant

pub loop-index-preserved : goal.loop-index-preserved
loop-index-preserved c =
    any_goes_on (is_deleted (known_in c.args.table.now)) c.args.places.now c.args.texts.now c.loop-index.index [] (any_named (is_deleted (known_in c.args.table.now)) c.args.places.now c.args.texts.now)
    c.loop-index-test.true c.requires (sym c.contains_key.ensures ∙ c.if-contains_key.false) c.loop-index.invariant
