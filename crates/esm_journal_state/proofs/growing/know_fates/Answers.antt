use Rattle.std.proofs.Common.{◌∙◌, sym}
use Rattle.esm_journal_state.proofs.Recent.{knows_above}
use Rattle.esm_journal_state.proofs.growing.know_fates.Goals as goal

pub returns-then-is_above-clause-known : goal.returns-then-is_above-clause-known
returns-then-is_above-clause-known c = λ h grown.
    knows_above c.args.growing.now h c.args.shard c.args.places.now c.requires.some c.requires.rising (sym c.is_above.ensures ∙ c.if-is_above.true) grown

pub returns-clause-known : goal.returns-clause-known
returns-clause-known c = λ h grown.
    let table = c.in_ok-settle.ensures.table h grown in
    record {
      fates = λ i held. table.fates c.args.shard i;
      tries = table.tries;
      replays = table.replays;
    }
