use Rattle.std.proofs.Common.{subst, sym}
use Rattle.std.specs.Prelude.{IfOk}
use Rattle.esm_replay_run.specs.Runs.{IsRefusal}
use Rattle.esm_replay_run.proofs.Openings.{of_line, refused_so}
use Rattle.esm_replay_run.proofs.replay_run.begin.Goals as goal

pub returns-in-Ok-open_over-clause-begun : goal.returns-in-Ok-open_over-clause-begun
returns-in-Ok-open_over-clause-begun g c =
    let opened = c.in-Ok-open_over.ensures.opened in
    record {
      ranges = opened.core.ranges;
      given = opened.core.given;
      core = opened.core.is;
      pair_is = opened.pair_is;
      found = opened.found;
      up = opened.trouble;
      input = c.in-Ok-new.ensures.made;
      unread = c.in-Ok-new.ensures.nothing;
      name_is = c.in-Ok.ensures;
    }

pub returns-in-Err-open_over-clause-why : goal.returns-in-Err-open_over-clause-why
returns-in-Err-open_over-clause-why g c =
    subst (λ why. IfOk why (IsRefusal c.args.lines.now)) (sym c.refusal.ensures) (refused_so c.args.lines.now c.in-Err-open_over.refused.why c.in-Err-open_over.ensures.refused)

pub refusal-requires : goal.refusal-requires
refusal-requires g c = of_line c.args.lines.now c.in-Err-open_over.refused.why c.in-Err-open_over.ensures.refused
