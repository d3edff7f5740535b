use Rattle.std.proofs.Common.{List, ◌∷◌, map, refl, sym, ap, subst, ◌∙◌}
use Rattle.esm_model.specs.declared.entry.Entry.{Entry}
use Rattle.esm_model.specs.declared.entry.Entry.TheVariants.{Ended}
use Rattle.esm_model.specs.Setting.{Setting}
use Rattle.esm_model.specs.Entries.{is_running}
use Rattle.esm_outcome.specs.Preparing.{PreparesEnd}
use Rattle.esm_outcome.specs.Dues.{due_entry}
use Rattle.esm_stream_core.specs.CoreView.{CoreView}
use Rattle.esm_stream_core.specs.Calls.{moment_for}
use Rattle.esm_stream_core.specs.Acts.{AllNameOpen}
use Rattle.esm_stream_core.specs.Inside.{view_of}
use Rattle.esm_stream_core.proofs.Deciding.{ledger_of}
use Rattle.esm_stream_core.proofs.OpenNames.{end_open}
use Rattle.esm_stream_core.proofs.Rooms.{own_legal}
use Rattle.esm_stream_core.proofs.Ledgers.{told_by, moment_is, is_later, valid_records, settled_over}
use Rattle.esm_stream_core.proofs.Endings.{verdict_is, may_settle, dues_are, few_lines, owes_end, given_is}
use Rattle.esm_stream_core.proofs.stream_core.StreamCore.done.Goals as goal

pub outcome_of-requires-clause-kept : goal.outcome_of-requires-clause-kept
outcome_of-requires-clause-kept c = (ledger_of (view_of c.self.inside) c.self.inside refl c.self.invariant (sym c.is_whole.ensures ∙ c.if-not-is_whole.false)).keeps

pub outcome_of-requires-clause-runs : goal.outcome_of-requires-clause-runs
outcome_of-requires-clause-runs c = ap (λ (v : CoreView). is_running v.past c.args.job.lane) c.self.view_is ∙ c.requires.runs.runs

pub outcome_of-requires-clause-later : goal.outcome_of-requires-clause-later
outcome_of-requires-clause-later c = (is_later (view_of c.self.inside) c.self.inside c.raised_to-now.result refl c.self.invariant c.raised_to-now.ensures.goes_on c.raised_to-now.ensures.in_time).not_back

pub outcome_of-requires-clause-valid : goal.outcome_of-requires-clause-valid
outcome_of-requires-clause-valid c = valid_records c.args.self.now c.self.inside.ledger (ledger_of c.args.self.now c.self.inside c.self.view_is c.self.invariant (sym c.is_whole.ensures ∙ c.if-not-is_whole.false))

pub outcome_of-requires-clause-settled : goal.outcome_of-requires-clause-settled
outcome_of-requires-clause-settled c = settled_over c.args.self.now c.self.inside.ledger (ledger_of c.args.self.now c.self.inside c.self.view_is c.self.invariant (sym c.is_whole.ensures ∙ c.if-not-is_whole.false))

pub owe_end-requires-clause-verdict : goal.owe_end-requires-clause-verdict
owe_end-requires-clause-verdict c =
    verdict_is c.args.self.now c.self.inside.ledger c.args.job.lane c.args.reply c.in_ok-outcome.outcome.verdict (ledger_of c.args.self.now c.self.inside c.self.view_is c.self.invariant (sym c.is_whole.ensures ∙ c.if-not-is_whole.false)) c.in_ok-outcome.ensures.verdict

pub owe_end-requires-clause-may : goal.owe_end-requires-clause-may
owe_end-requires-clause-may c =
    let lane = c.args.job.lane in
    let m = c.raised_to-now.result in
    may_settle c.args.self.now c.self.inside.ledger (Ended lane c.args.reply m ∷ map (due_entry lane m) c.in_ok-outcome.outcome.dues.items) (ledger_of c.args.self.now c.self.inside c.self.view_is c.self.invariant (sym c.is_whole.ensures ∙ c.if-not-is_whole.false)) c.in_ok-outcome.ensures.legal

pub owe_end-requires-clause-prepared : goal.owe_end-requires-clause-prepared
owe_end-requires-clause-prepared c =
    told_by (λ (s : Setting) (h : List Entry). PreparesEnd h c.args.job.lane c.in_ok-outcome.outcome.window) c.args.self.now c.self.inside.ledger (ledger_of c.args.self.now c.self.inside c.self.view_is c.self.invariant (sym c.is_whole.ensures ∙ c.if-not-is_whole.false)) c.in_ok-outcome.ensures.prepared

pub owe_end-requires-clause-open : goal.owe_end-requires-clause-open
owe_end-requires-clause-open c =
    let v = c.args.self.now in
    let x = c.self.inside in
    let m = c.raised_to-now.result in
    let lane = c.args.job.lane in
    let dues = c.in_ok-outcome.outcome.dues.items in
    let is = ledger_of v x c.self.view_is c.self.invariant (sym c.is_whole.ensures ∙ c.if-not-is_whole.false) in
    subst (λ (es : List Entry). AllNameOpen v.setting v.past es) (sym (dues_are v x.ledger lane c.args.reply m dues is c.in_ok-outcome.ensures.dues))
    (end_open v.setting v.past lane c.args.reply m (own_legal v.setting v.past is.legal) c.requires.runs.runs)

pub owe_end-requires-clause-lines : goal.owe_end-requires-clause-lines
owe_end-requires-clause-lines c =
    let v = c.args.self.now in
    let x = c.self.inside in
    let m = c.raised_to-now.result in
    let lane = c.args.job.lane in
    let dues = c.in_ok-outcome.outcome.dues.items in
    let is = ledger_of v x c.self.view_is c.self.invariant (sym c.is_whole.ensures ∙ c.if-not-is_whole.false) in
    few_lines v lane c.args.reply m (map (due_entry lane m) dues) (dues_are v x.ledger lane c.args.reply m dues is c.in_ok-outcome.ensures.dues)

pub returns-clause-owes : goal.returns-clause-owes
returns-clause-owes c =
    let v = c.args.self.now in
    let x = c.self.inside in
    let m = c.raised_to-now.result in
    let lane = c.args.job.lane in
    let dues = c.in_ok-outcome.outcome.dues.items in
    let is = ledger_of v x c.self.view_is c.self.invariant (sym c.is_whole.ensures ∙ c.if-not-is_whole.false) in
    owes_end v c.owe_end.new.self lane c.args.reply m (moment_for v.past c.args.moment) (map (due_entry lane m) dues)
    (dues_are v x.ledger lane c.args.reply m dues is c.in_ok-outcome.ensures.dues)
    (moment_is v x c.args.moment m c.self.view_is c.self.invariant c.raised_to-now.ensures.value)
    c.in_ok-owe_end.ensures.owes

pub returns-clause-answer : goal.returns-clause-answer
returns-clause-answer c =
    let v = c.args.self.now in
    let x = c.self.inside in
    let m = c.raised_to-now.result in
    let lane = c.args.job.lane in
    let dues = c.in_ok-outcome.outcome.dues.items in
    let is = ledger_of v x c.self.view_is c.self.invariant (sym c.is_whole.ensures ∙ c.if-not-is_whole.false) in
    given_is v lane c.args.reply m (moment_for v.past c.args.moment) c.in_ok-outcome.outcome.given dues
    (dues_are v x.ledger lane c.args.reply m dues is c.in_ok-outcome.ensures.dues)
    (moment_is v x c.args.moment m c.self.view_is c.self.invariant c.raised_to-now.ensures.value) c.in_ok-outcome.ensures.given
