use Rattle.std.proofs.Common.{rules, ◌≡◌, ◌≤◌, vec_len, length, List, sym, subst, arith}
use Rattle.esm_ledger.specs.Ledger.{past_of, setting_of}
use Rattle.esm_outcome.specs.declared.outcome.Due.{Due}
use Rattle.esm_outcome.specs.Dues.{window_in}
use Rattle.esm_outcome.specs.Preparing.{PreparesEnd}
use Rattle.esm_outcome.specs.Parts.{IsRunningCall, text_in}
use Rattle.esm_outcome.proofs.Outcomes.{Told, told_owed, told_settles, told_either, good_came, both_few}
use Rattle.esm_outcome.proofs.Counting.{dues_few, prepares_end}
use Rattle.esm_outcome.proofs.Owing.{verdict_over}
use Rattle.esm_outcome.proofs.outcome.outcome_of.Goals as goal

pub state_of-requires-clause-came : goal.state_of-requires-clause-came
state_of-requires-clause-came c =
    let call : IsRunningCall c.args.ledger.now c.args.lane c.called-places.result.now c.closing-closing.result = record { runs = c.requires.runs; places_are = c.called-places.ensures; closing_is = c.closing-closing.ensures } in
    good_came c.args.ledger.now c.args.lane c.called-places.result.now c.split_at.result.0.now c.closing-closing.result c.in_ok-judged.judged.verdict.succeeded c.requires.kept call c.split_at.ensures.front

pub given_of-given-requires : goal.given_of-given-requires
given_of-given-requires c =
    let call : IsRunningCall c.args.ledger.now c.args.lane c.called-places.result.now c.closing-closing.result = record { runs = c.requires.runs; places_are = c.called-places.ensures; closing_is = c.closing-closing.ensures } in
    both_few c.args.ledger.now c.args.lane c.called-places.result.now c.split_at.result.0.now c.split_at.result.1.now c.closing-closing.result c.in_ok-judged.judged.verdict.succeeded c.requires.kept call c.split_at.ensures.front c.split_at.ensures.back

pub returns-clause-verdict : goal.returns-clause-verdict
returns-clause-verdict c =
    let l = c.args.ledger.now in
    verdict_over (setting_of l) (past_of l) c.args.lane c.args.reply.now c.in_ok-judged.judged.verdict c.requires.kept.rests.legal c.requires.runs c.in_ok-judged.ensures.verdict

pub returns-clause-dues : goal.returns-clause-dues
returns-clause-dues c =
    let call : IsRunningCall c.args.ledger.now c.args.lane c.called-places.result.now c.closing-closing.result = record { runs = c.requires.runs; places_are = c.called-places.ensures; closing_is = c.closing-closing.ensures } in
    let told : Told c.args.ledger.now c.args.lane c.args.reply.now c.args.now c.called-places.result.now c.closing-closing.result c.in_ok-judged.judged.verdict c.in_ok-judged.judged.tries c.split_at.result.0.now c.split_at.result.1.now (text_in c.args.reply.now c.in_ok-judged.judged.state) c.in_ok-state.state c.in_ok-line.line c.in_ok-dues.dues.items = record {
      kept = c.requires.kept;
      call = call;
      verdict = c.in_ok-judged.ensures.verdict;
      tries_are = c.in_ok-judged.ensures.tries;
      good_are = c.split_at.ensures.front;
      left_are = c.split_at.ensures.back;
      text_is = c.in_ok-judged.ensures.state;
      state_is = c.in_ok-state.ensures;
      line_is = c.in_ok-line.ensures;
      dues_are = c.in_ok-dues.ensures;
    } in
    told_owed c.args.ledger.now c.args.lane c.args.reply.now c.args.now c.called-places.result.now c.closing-closing.result c.in_ok-judged.judged.verdict c.in_ok-judged.judged.tries c.split_at.result.0.now c.split_at.result.1.now (text_in c.args.reply.now c.in_ok-judged.judged.state) c.in_ok-state.state c.in_ok-line.line c.in_ok-dues.dues.items told c.requires.later c.requires.moment

pub returns-clause-few : goal.returns-clause-few
returns-clause-few c =
    let call : IsRunningCall c.args.ledger.now c.args.lane c.called-places.result.now c.closing-closing.result = record { runs = c.requires.runs; places_are = c.called-places.ensures; closing_is = c.closing-closing.ensures } in
    let either = told_either c.args.ledger.now c.args.lane c.called-places.result.now c.closing-closing.result c.split_at.result.0.now c.split_at.result.1.now c.in_ok-judged.judged.verdict.succeeded c.requires.kept call c.split_at.ensures.front c.split_at.ensures.back in
    let all : vec_len c.in_ok-dues.dues ≡ length c.in_ok-dues.dues.items = search rules in
    let few : length c.in_ok-dues.dues.items ≤ 2 = subst (λ (ds : List Due). length ds ≤ 2) (sym c.in_ok-dues.ensures) (dues_few c.split_at.result.0.now c.split_at.result.1.now c.in_ok-state.state c.in_ok-judged.judged.verdict.rest c.closing-closing.result c.in_ok-judged.judged.tries c.in_ok-line.line either) in
    omega (arith, all, few)

pub returns-clause-legal : goal.returns-clause-legal
returns-clause-legal c =
    let call : IsRunningCall c.args.ledger.now c.args.lane c.called-places.result.now c.closing-closing.result = record { runs = c.requires.runs; places_are = c.called-places.ensures; closing_is = c.closing-closing.ensures } in
    let told : Told c.args.ledger.now c.args.lane c.args.reply.now c.args.now c.called-places.result.now c.closing-closing.result c.in_ok-judged.judged.verdict c.in_ok-judged.judged.tries c.split_at.result.0.now c.split_at.result.1.now (text_in c.args.reply.now c.in_ok-judged.judged.state) c.in_ok-state.state c.in_ok-line.line c.in_ok-dues.dues.items = record {
      kept = c.requires.kept;
      call = call;
      verdict = c.in_ok-judged.ensures.verdict;
      tries_are = c.in_ok-judged.ensures.tries;
      good_are = c.split_at.ensures.front;
      left_are = c.split_at.ensures.back;
      text_is = c.in_ok-judged.ensures.state;
      state_is = c.in_ok-state.ensures;
      line_is = c.in_ok-line.ensures;
      dues_are = c.in_ok-dues.ensures;
    } in
    told_settles c.args.ledger.now c.args.lane c.args.reply.now c.args.now c.called-places.result.now c.closing-closing.result c.in_ok-judged.judged.verdict c.in_ok-judged.judged.tries c.split_at.result.0.now c.split_at.result.1.now (text_in c.args.reply.now c.in_ok-judged.judged.state) c.in_ok-state.state c.in_ok-line.line c.in_ok-dues.dues.items told c.requires.later c.requires.moment c.requires.settled

pub returns-clause-prepared : goal.returns-clause-prepared
returns-clause-prepared c =
    let h = past_of c.args.ledger.now in
    subst (PreparesEnd h c.args.lane) (sym c.window_for-window.ensures) (prepares_end h c.args.lane c.closing-closing.result (window_in c.in_ok-state.state) c.requires.runs c.closing-closing.ensures)
