use Rattle.std.proofs.Common.{◌<◌, length, sym, subst, arith}
use Rattle.esm_shard_index.specs.Progress.{Tally}
use Rattle.esm_shard_index.proofs.Tallies.{number_within, front-push}
use Rattle.esm_shard_index.proofs.progress.Progress.came_one.Goals as goal

pub with-self-inside-requires : goal.with-self-inside-requires
with-self-inside-requires c =
    let few : length c.self.inside.fated.items < 4294967295 = subst (λ (v : Tally). length v.fated < 4294967295) (sym c.self.view_is) c.requires.few in
    omega (arith, number_within c.self.inside.fated.items)

pub frontier_from-self-inside-requires-clause-known : goal.frontier_from-self-inside-requires-clause-known
frontier_from-self-inside-requires-clause-known c =
    rw (c.as_slice.ensures.value, c.push_reserved.ensures.items) (omega (arith, front-push c.self.inside.fated.items c.is_some.result))
