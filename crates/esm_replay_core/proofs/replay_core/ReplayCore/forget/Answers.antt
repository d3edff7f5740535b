use Rattle.std.proofs.Common.{◌∙◌, Bool, [], List, take, sym, ap}
use Rattle.esm_replay.specs.Records.{are_named}
use Rattle.esm_replay.proofs.Naming.{named_take}
use Rattle.esm_replay_core.specs.Owing.{given_up}
use Rattle.esm_replay_core.specs.Kept.{parts_of}
use Rattle.esm_replay_core.proofs.Deciding.{core_forgotten}
use Rattle.esm_replay_core.proofs.replay_core.ReplayCore.forget.Goals as goal

pub invariant_of-self : goal.invariant_of-self
invariant_of-self c =
    let p = parts_of c.self.inside in
    let done = core_forgotten (parts_of c.self.inside) c.args.self.now c.self.inside.came c.self.inside.records.items c.truncate.new.self.items c.put.new.place c.self.invariant.0 c.self.view_is c.self.invariant.1 c.truncate.ensures.items
    (c.put.ensures ∙ c.given_up.ensures ∙ ap given_up c.replace-owed.ensures.value) in (
      done.kept.0,
      done.kept.1,
      c.truncate-2.ensures.items
          ∙ ap (λ (bs : List Bool). take c.self.inside.came bs) c.self.invariant.2
          ∙ named_take p.opened.said p.opened.ranges [] c.self.inside.records.items c.self.inside.came
          ∙ ap (are_named p.opened.said p.opened.ranges []) (sym c.truncate.ensures.items),
    )

pub returns : goal.returns
returns c =
    (core_forgotten (parts_of c.self.inside) c.args.self.now c.self.inside.came c.self.inside.records.items c.truncate.new.self.items c.put.new.place c.self.invariant.0 c.self.view_is c.self.invariant.1 c.truncate.ensures.items
    (c.put.ensures ∙ c.given_up.ensures ∙ ap given_up c.replace-owed.ensures.value)).seen
