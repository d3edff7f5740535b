use Rattle.std.proofs.Common.{List, ap, refl, reverse, take, drop, rules}
use Rattle.esm_model.specs.Records.{Record}
use Rattle.esm_model.specs.declared.entry.Entry.{Entry}
use Rattle.esm_replay_core.proofs.Deciding.{kept_new}
use Rattle.esm_replay_core.proofs.replay_core.ReplayCore.new.Goals as goal

pub invariant_of-result : goal.invariant_of-result
invariant_of-result c = (
  kept_new _ c.args.config c.requires c.replay_config.ensures
      (ap (λ (rs : List Record). take 0 rs) c.new.ensures.items)
      (ap (λ (rs : List Record). drop 0 rs) c.new.ensures.items)
      (λ q. search rules) refl refl (ap (λ (es : List Entry). reverse es) c.in-Ok.ensures.items) refl refl refl,
  search rules,
  search rules,
)
