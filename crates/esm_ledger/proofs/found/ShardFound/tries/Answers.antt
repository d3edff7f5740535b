use Rattle.std.proofs.Common.{◌∙◌, ap, sym, Some}
use Rattle.std.specs.Prelude.{option_map}
use Rattle.esm_model.specs.declared.setup.FoundTries.{FoundTries}
use Rattle.esm_model.specs.Ruling.{capped_tries}
use Rattle.esm_journal_state.specs.SaidLists.{tries_told}
use Rattle.esm_ledger.proofs.Founds.{tries_read}
use Rattle.esm_ledger.proofs.found.ShardFound.tries.Goals as goal

pub returns-in-None : goal.returns-in-None
returns-in-None c = tries_read _ (tries_told c.args.self.now.said.now c.args.self.now.shard c.args.place) c.in-None.ensures

pub returns-in-Some : goal.returns-in-Some
returns-in-Some c = ap Some c.capped.ensures ∙ tries_read _ (tries_told c.args.self.now.said.now c.args.self.now.shard c.args.place) c.in-Some.ensures

pub returns-then-not-self : goal.returns-then-not-self
returns-then-not-self c = ap (option_map (λ (f : FoundTries). capped_tries f.tries)) (sym (c.args.self.now.tries c.if-not-self.true c.args.place))
