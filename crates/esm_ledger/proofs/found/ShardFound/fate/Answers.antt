use Rattle.std.proofs.Common.{ap, sym}
use Rattle.std.specs.Prelude.{option_map}
use Rattle.esm_model.specs.declared.setup.FoundFate.{FoundFate}
use Rattle.esm_journal_state.specs.SaidLists.{fate_told}
use Rattle.esm_ledger.proofs.Founds.{fate_read}
use Rattle.esm_ledger.proofs.found.ShardFound.fate.Goals as goal

pub returns-in-None : goal.returns-in-None
returns-in-None c = fate_read _ (fate_told c.args.self.now.said.now c.args.self.now.shard c.args.place) c.in-None.ensures

pub returns-in-Some : goal.returns-in-Some
returns-in-Some c = fate_read _ (fate_told c.args.self.now.said.now c.args.self.now.shard c.args.place) c.in-Some.ensures

pub returns-then-not-self : goal.returns-then-not-self
returns-then-not-self c = ap (option_map (λ (f : FoundFate). f.fate)) (sym (c.args.self.now.fates c.if-not-self.true c.args.place))
