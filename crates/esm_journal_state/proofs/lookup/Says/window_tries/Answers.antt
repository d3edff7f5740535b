use Rattle.std.proofs.Common.{sym, ap, ◌∙◌}
use Rattle.std.specs.Prelude.{unwrap_or}
use Rattle.esm_journal_state.proofs.Finding.{window_tries_found}
use Rattle.esm_journal_state.proofs.lookup.Says.window_tries.Goals as goal

pub returns-in-None : goal.returns-in-None
returns-in-None c =
    rw (← c.self.view_is) (ap (λ o. unwrap_or o 0) (c.in-None.ensures.value ∙ sym (window_tries_found c.self.inside.window_tries.entries c.args.shard c.args.window)))

pub returns-in-Some : goal.returns-in-Some
returns-in-Some c =
    rw (← c.self.view_is) (ap (λ o. unwrap_or o 0) (c.in-Some.ensures.value ∙ sym (window_tries_found c.self.inside.window_tries.entries c.args.shard c.args.window)))
