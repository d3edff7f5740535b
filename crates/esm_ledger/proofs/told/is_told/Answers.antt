use Rattle.std.proofs.Common.{◌≡◌, ◌∙◌, false, sym}
use Rattle.esm_journal_state.specs.SaidLists.{has_shard}
use Rattle.esm_ledger.proofs.Untold.{found_listed, not_listed, untold}
use Rattle.esm_ledger.proofs.told.is_told.Goals as goal

pub returns-in-Ok-clause-told : goal.returns-in-Ok-clause-told
returns-in-Ok-clause-told c = sym (found_listed c.shards.result.now c.args.shard _ c.in-Ok.ensures.position c.shards.ensures.rising) ∙ c.shards.ensures.all c.args.shard

pub returns-in-Err : goal.returns-in-Err
returns-in-Err c =
    let n = c.args.shard in
    let t = c.args.found.now in
    let none : has_shard t n ≡ false = sym (c.shards.ensures.all n) ∙ not_listed c.shards.result.now n _ c.in-Err.ensures.position c.shards.ensures.rising in
    let told = untold t n none in
    record { told = sym none; fates = λ is. told.0; tries = λ is. told.1 }
