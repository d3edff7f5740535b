use Rattle.esm_replay_core.specs.Kept.{parts_of}
use Rattle.esm_replay_core.proofs.Deciding.{run_of, ahead_of, sayable_of, valid_of, time_of, early_in}
use Rattle.esm_replay_core.proofs.replay_core.ReplayCore.keeps.Goals as goal

pub returns-clause-run : goal.returns-clause-run
returns-clause-run c = run_of (parts_of c.self.inside) c.args.self.now c.self.invariant.0 c.self.view_is

pub returns-clause-ahead : goal.returns-clause-ahead
returns-clause-ahead c = ahead_of (parts_of c.self.inside) c.args.self.now c.self.invariant.0 c.self.view_is

pub returns-clause-said : goal.returns-clause-said
returns-clause-said c = sayable_of (parts_of c.self.inside) c.args.self.now c.self.invariant.0 c.self.view_is

pub returns-clause-valid : goal.returns-clause-valid
returns-clause-valid c = valid_of (parts_of c.self.inside) c.args.self.now c.self.invariant.0 c.self.view_is

pub returns-clause-early : goal.returns-clause-early
returns-clause-early c = early_in (parts_of c.self.inside) c.args.self.now c.self.invariant.0 c.self.view_is

pub returns-clause-in_time : goal.returns-clause-in_time
returns-clause-in_time c = time_of (parts_of c.self.inside) c.args.self.now c.self.invariant.0 c.self.view_is
