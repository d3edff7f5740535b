use Rattle.std.proofs.Common.{◌∙◌, reverse, sym, subst}
use Rattle.esm_run.specs.Ran.{IsReport}
use Rattle.esm_run.proofs.Alone.{whole_report}
use Rattle.esm_run.proofs.Results.{if_ok}
use Rattle.esm_run.proofs.parting.report_of.Goals as goal

pub returns-in-Nothing : goal.returns-in-Nothing
returns-in-Nothing c =
    if_ok c.last_line.result (λ text says is report.
    whole_report c.args.ending.now text.items (c.requires c.in-Nothing.is) says
    ∙ sym (subst (λ b. IsReport (reverse c.args.trace.now) c.args.ending.now b is) c.in-Nothing.is report).text_is) c.last_line.ensures

pub returns-in-Stream : goal.returns-in-Stream
returns-in-Stream c =
    if_ok c.report.result (λ text says is report.
    let told = subst (λ b. IsReport (reverse c.args.trace.now) c.args.ending.now b is) c.in-Stream.is report in
    says told.setting told.fates ∙ sym told.text_is) c.report.ensures

pub returns-in-Queue : goal.returns-in-Queue
returns-in-Queue c =
    if_ok c.queue_report.result (λ text says is report.
    let told = subst (λ b. IsReport (reverse c.args.trace.now) c.args.ending.now b is) c.in-Queue.is report in
    says told.setting told.deletions told.legal ∙ sym told.text_is) c.queue_report.ensures

pub returns-in-Redrive : goal.returns-in-Redrive
returns-in-Redrive c =
    if_ok c.redrive_report.result (λ text says is report.
    let told = subst (λ b. IsReport (reverse c.args.trace.now) c.args.ending.now b is) c.in-Redrive.is report in
    says told.setting told.deletions told.legal ∙ sym told.text_is) c.redrive_report.ensures

pub returns-in-Replay : goal.returns-in-Replay
returns-in-Replay c =
    if_ok c.replay_report.result (λ text says is report.
    let told = subst (λ b. IsReport (reverse c.args.trace.now) c.args.ending.now b is) c.in-Replay.is report in
    says ∙ sym told.text_is) c.replay_report.ensures
