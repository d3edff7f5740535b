use Rattle.std.proofs.Common.{◌≤◌, take, get_or, arith}
use Rattle.esm_shard_index.specs.Windows.{times}
use Rattle.esm_shard_index.proofs.Places.{holds_at}
use Rattle.esm_shard_index.proofs.WindowSteps.{times-take}
use Rattle.esm_shard_index.proofs.windows.Windows.came.Goals as goal

pub came_one-requires-clause-prepared : goal.came_one-requires-clause-prepared
came_one-requires-clause-prepared c =
    c.loop-window.invariant.entries _ (c.requires.prepared _ (holds_at c.args.windows.now c.loop-window.window-index c.loop-window-test.true))

pub came_one-requires-clause-few : goal.came_one-requires-clause-few
came_one-requires-clause-few c =
    let w = get_or c.args.windows.now c.loop-window.window-index 0 in
    let most : times (take c.loop-window.window-index c.args.windows.now) (get_or c.args.windows.now c.loop-window.window-index 0) ≤ c.loop-window.window-index = times-take c.loop-window.window-index c.args.windows.now (get_or c.args.windows.now c.loop-window.window-index 0) in
    omega (arith, c.loop-window.invariant.opened (get_or c.args.windows.now c.loop-window.window-index 0), c.requires.few (get_or c.args.windows.now c.loop-window.window-index 0))
