use Rattle.std.proofs.Common.{◌≡◌, true, arith}
use Rattle.std.proofs.lemmas.Grind.{common_steps}
use Rattle.esm_mapping.proofs.Ids.{named_of}
use Rattle.esm_mapping.proofs.registered.copy_mapping.Goals as goal

pub returns-in-Ok-clause-named : goal.returns-in-Ok-clause-named
returns-in-Ok-clause-named c =
    let enabled : c.args.mapping.now.config.enabled ≡ true = grind (arith, common_steps) in
    named_of c.args.mapping.now (record { config = c.in-Ok.config; start = c.start_after.result }) c.requires enabled c.in-Ok.ensures c.start_after.ensures
