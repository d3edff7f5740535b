use Rattle.std.proofs.Common.{◌∙◌, sym, ap, subst}
use Rattle.esm_replay_core.specs.View.{ReplayView}
use Rattle.esm_replay_core.specs.Told.{history_of, owed_of, IsPayable}
use Rattle.esm_replay_core.proofs.Tellings.{payable_paid, opened_paid, history_paid, owed_paid}
use Rattle.esm_replay_core.proofs.decisions.ReplayCoreDecisions.pay.Goals as goal

pub returns-clause-payable : goal.returns-clause-payable
returns-clause-payable c = subst IsPayable (sym c.pay.ensures) (payable_paid c.args.self.now c.requires.payable)

pub returns-clause-origin : goal.returns-clause-origin
returns-clause-origin c = ap (λ (v : ReplayView). v.opened) c.pay.ensures ∙ opened_paid c.args.self.now

pub returns-clause-history : goal.returns-clause-history
returns-clause-history c = ap history_of c.pay.ensures ∙ history_paid c.args.self.now c.requires.payable

pub returns-clause-owed : goal.returns-clause-owed
returns-clause-owed c = ap owed_of c.pay.ensures ∙ owed_paid c.args.self.now c.requires.payable
