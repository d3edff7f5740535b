use Rattle.std.proofs.Common.{◌∙◌, ◌∷◌, [], sym, ap, subst}
use Rattle.esm_model.specs.declared.entry.Entry.{Entry}
use Rattle.esm_ledger.specs.Ledger.{past_of, setting_of}
use Rattle.esm_stream_core.specs.declared.owed.Act.{Act}
use Rattle.esm_stream_core.specs.declared.owed.Act.TheVariants as act
use Rattle.esm_stream_core.specs.CoreView.{setting_after}
use Rattle.esm_stream_core.specs.Acts.{parts_of}
use Rattle.esm_stream_core.specs.Adding.{IsAdded, CanAdd}
use Rattle.esm_stream_core.proofs.Additions.{came_is, come_legal}
use Rattle.esm_stream_core.proofs.adding.add_coming.Goals as goal

pub came-requires-clause-legal : goal.came-requires-clause-legal
came-requires-clause-legal c =
    let can = subst (λ (a : Act). CanAdd c.args.ledger.now (c.args.coming ∷ []) a) c.in-Came.is c.requires in
    come_legal c.args.ledger.now (setting_after (setting_of c.args.ledger.now) (parts_of (c.args.coming ∷ []))) c.args.coming c.in-Came.shard c.in-Came.first c.in-Came.count c.in-Came.moment can.ready can.legal

pub returns : goal.returns
returns c =
    let can = subst (λ (a : Act). CanAdd c.args.ledger.now (c.args.coming ∷ []) a) c.in-Came.is c.requires in
    subst (λ (a : Act). IsAdded c.args.ledger.now c.came.new.self (c.args.coming ∷ []) a) (sym c.in-Came.is) (record {
      keeps = c.came.ensures.kept;
      past = c.came.ensures.past ∙ ap (λ (e : Entry). e ∷ past_of c.args.ledger.now) (sym (came_is c.args.ledger.now c.args.coming c.in-Came.shard c.in-Came.first c.in-Came.count c.in-Came.moment can.ready));
      setting = c.came.ensures.setting;
      room = λ n room. c.came.ensures.room n room;
      stays = record { elsewhere = c.came.ensures.elsewhere; shards = λ n room. c.came.ensures.shards n room };
    })
