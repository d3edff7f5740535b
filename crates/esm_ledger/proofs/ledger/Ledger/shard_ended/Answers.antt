use Rattle.std.proofs.Common.{ℕ, refl, sym, subst, ◌≡◌, ◌∙◌, ◌∷◌}
use Rattle.std.specs.Vec.{with_item}
use Rattle.esm_model.specs.declared.entry.Entry.TheVariants.{Ended}
use Rattle.esm_model.specs.Tries.{verdict_after}
use Rattle.esm_ledger.specs.declared.ledger.Ledger.{Ledger}
use Rattle.esm_ledger.specs.Shard.{lane_id}
use Rattle.esm_ledger.specs.Ledger.{past_of, setting_of}
use Rattle.esm_ledger.specs.Adding.{EndsAt}
use Rattle.esm_ledger.proofs.ShardChanges.{found_at, set_at, changed_set, shards_set, shards_none, ends_stay, other_number, leaves_ended, relabel}
use Rattle.esm_ledger.proofs.Prepared.{others_set, others_none}
use Rattle.esm_ledger.proofs.ledger.Ledger.shard_ended.Goals as goal

pub returns-in-None-clause-goes_on : goal.returns-in-None-clause-goes_on
returns-in-None-clause-goes_on c = λ reply legal ruled answered.
    let self = c.args.self.now in
    let lane = c.args.lane in
    shards_none self lane.shard (Ended lane reply c.args.moment ∷ past_of self) c.requires.kept legal (leaves_ended lane reply c.args.moment (past_of self)) c.in-None.ensures.none

pub returns-in-Some-clause-changed : goal.returns-in-Some-clause-changed
returns-in-Some-clause-changed c =
    let self = c.args.self.now in
    let x = c.index_mut.result.now in
    let y = c.ended.new.self in
    let at = c.in-Some.at in
    let d : Ledger = record self { shards = with_item self.shards at y } in
    let here = found_at self c.args.lane.shard at x c.in-Some.ensures.at c.index_mut.ensures.value in
    let is = set_at self.shards.items d.shards.items at x y c.in-Some.ensures.at.0 c.index_mut.ensures.value refl c.ended.ensures.shard c.ended.ensures.records in
    let lane = c.args.lane in
    changed_set self d lane.shard at x y (EndsAt lane) c.requires.kept.rests is here.2
    (record { others = λ k away. c.ended.ensures.others k (other_number lane y.shard k (c.ended.ensures.shard ∙ here.2) away); states = c.ended.ensures.states }) (ends_stay lane)

pub returns-in-Some-clause-goes_on : goal.returns-in-Some-clause-goes_on
returns-in-Some-clause-goes_on c = λ reply legal ruled answered.
    let self = c.args.self.now in
    let x = c.index_mut.result.now in
    let y = c.ended.new.self in
    let at = c.in-Some.at in
    let d : Ledger = record self { shards = with_item self.shards at y } in
    let here = found_at self c.args.lane.shard at x c.in-Some.ensures.at c.index_mut.ensures.value in
    let is = set_at self.shards.items d.shards.items at x y c.in-Some.ensures.at.0 c.index_mut.ensures.value refl c.ended.ensures.shard c.ended.ensures.records in
    let lane = c.args.lane in
    let m = c.args.moment in
    let s = setting_of self in
    let h = past_of self in
    shards_set self d lane.shard at x y (Ended lane reply m ∷ h) c.requires.kept legal (leaves_ended lane reply m h) is here.2
    (λ shard. relabel s h lane.shard x y (λ n. Ended (lane_id n lane.lane) reply m) here.2
    (λ own. c.ended.ensures.kept s h reply (c.requires.kept.found x.shard) own (subst (λ (n : ℕ). c.args.verdict ≡ verdict_after s h (lane_id n lane.lane) reply) (sym here.2) ruled) answered shard) legal)

pub returns-in-None-clause-others : goal.returns-in-None-clause-others
returns-in-None-clause-others c = others_none c.args.self.now c.args.lane.shard

pub returns-in-Some-clause-others : goal.returns-in-Some-clause-others
returns-in-Some-clause-others c =
    let self = c.args.self.now in
    let x = c.index_mut.result.now in
    let y = c.ended.new.self in
    let at = c.in-Some.at in
    let d : Ledger = record self { shards = with_item self.shards at y } in
    let here = found_at self c.args.lane.shard at x c.in-Some.ensures.at c.index_mut.ensures.value in
    let is = set_at self.shards.items d.shards.items at x y c.in-Some.ensures.at.0 c.index_mut.ensures.value refl c.ended.ensures.shard c.ended.ensures.records in
    others_set self d c.args.lane.shard at x y is here.2 refl refl
