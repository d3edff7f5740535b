use Rattle.std.proofs.Common.{[], sym, subst}
use Rattle.esm_stream_core.specs.declared.owed.Act.{Act}
use Rattle.esm_stream_core.specs.declared.owed.Act.TheVariants as act
use Rattle.esm_stream_core.specs.Adding.{IsAdded}
use Rattle.esm_stream_core.proofs.Additions.{act_legal, less_room}
use Rattle.esm_stream_core.proofs.adding.add.Goals as goal

pub began-requires-clause-legal : goal.began-requires-clause-legal
began-requires-clause-legal c = act_legal c.args.ledger.now c.args.act (act.Began c.in-Began.lane c.in-Began.places c.in-Began.closing c.in-Began.moment) c.in-Began.is c.requires.legal

pub returns-in-Began : goal.returns-in-Began
returns-in-Began c = subst (λ (a : Act). IsAdded c.args.ledger.now c.began.new.self [] a) (sym c.in-Began.is) (record { keeps = c.began.ensures.kept; past = c.began.ensures.past; setting = c.began.ensures.setting; room = λ n room. c.began.ensures.room n room; stays = tt })

pub ended-requires-clause-legal : goal.ended-requires-clause-legal
ended-requires-clause-legal c = act_legal c.args.ledger.now c.args.act (act.Ended c.in-Ended.lane c.in-Ended.reply c.in-Ended.verdict c.in-Ended.moment) c.in-Ended.is c.requires.legal

pub returns-in-Ended : goal.returns-in-Ended
returns-in-Ended c = subst (λ (a : Act). IsAdded c.args.ledger.now c.ended.new.self [] a) (sym c.in-Ended.is) (record { keeps = c.ended.ensures.kept; past = c.ended.ensures.past; setting = c.ended.ensures.setting; room = less_room c.args.ledger.now c.ended.new.self c.ended.ensures.room; stays = c.ended.ensures.states })

pub gave-requires-clause-legal : goal.gave-requires-clause-legal
gave-requires-clause-legal c = act_legal c.args.ledger.now c.args.act (act.Gave c.in-Gave.by c.in-Gave.shard c.in-Gave.places c.in-Gave.fate c.in-Gave.line c.in-Gave.state c.in-Gave.copy c.in-Gave.moment) c.in-Gave.is c.requires.legal

pub returns-in-Gave : goal.returns-in-Gave
returns-in-Gave c = subst (λ (a : Act). IsAdded c.args.ledger.now c.gave.new.self [] a) (sym c.in-Gave.is) (record { keeps = c.gave.ensures.kept; past = c.gave.ensures.past; setting = c.gave.ensures.setting; room = λ n room. c.gave.ensures.room n room; stays = tt })

pub expired-requires-clause-legal : goal.expired-requires-clause-legal
expired-requires-clause-legal c = act_legal c.args.ledger.now c.args.act (act.Expired c.in-Expired.lane c.in-Expired.places c.in-Expired.line c.in-Expired.moment) c.in-Expired.is c.requires.legal

pub returns-in-Expired : goal.returns-in-Expired
returns-in-Expired c = subst (λ (a : Act). IsAdded c.args.ledger.now c.expired.new.self [] a) (sym c.in-Expired.is) (record { keeps = c.expired.ensures.kept; past = c.expired.ensures.past; setting = c.expired.ensures.setting; room = λ n room. c.expired.ensures.room n room; stays = tt })

pub tried-requires-clause-legal : goal.tried-requires-clause-legal
tried-requires-clause-legal c = act_legal c.args.ledger.now c.args.act (act.Tried c.in-Tried.lane c.in-Tried.places c.in-Tried.closing c.in-Tried.tries c.in-Tried.moment) c.in-Tried.is c.requires.legal

pub returns-in-Tried : goal.returns-in-Tried
returns-in-Tried c = subst (λ (a : Act). IsAdded c.args.ledger.now c.tried.new.self [] a) (sym c.in-Tried.is) (record { keeps = c.tried.ensures.kept; past = c.tried.ensures.past; setting = c.tried.ensures.setting; room = λ n room. c.tried.ensures.room n room; stays = tt })

pub closed-requires-clause-legal : goal.closed-requires-clause-legal
closed-requires-clause-legal c = act_legal c.args.ledger.now c.args.act (act.Closed c.in-Closed.lane c.in-Closed.window c.in-Closed.moment) c.in-Closed.is c.requires.legal

pub returns-in-Closed : goal.returns-in-Closed
returns-in-Closed c = subst (λ (a : Act). IsAdded c.args.ledger.now c.closed.new.self [] a) (sym c.in-Closed.is) (record { keeps = c.closed.ensures.kept; past = c.closed.ensures.past; setting = c.closed.ensures.setting; room = λ n room. c.closed.ensures.room n room; stays = tt })
