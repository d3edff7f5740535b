use Rattle.std.proofs.Common.{ℕ, List, ◌-◌, Option, ap, ◌∙◌}
use Rattle.esm_shard_index.specs.WindowEntries.{text_at}
use Rattle.esm_shard_index.specs.Windows.{open_in, times}
use Rattle.esm_ledger.specs.declared.measure.Measure.{Measure}
use Rattle.esm_ledger.specs.Shard.{windows_at}
use Rattle.esm_ledger.proofs.Gifts.{shard_expired}
use Rattle.esm_ledger.proofs.shard.ShardLedger.expired.Goals as goal

pub returns-clause-kept : goal.returns-clause-kept
returns-clause-kept c = λ s h line m.
    shard_expired s h c.args.self.now c.let_go.new.self c.give.new.self c.leave_windows.new.windows c.expire.new.self c.args.lane c.args.places.now line m
    (record {
      items = c.let_go.ensures.items;
      slots = c.let_go.ensures.len;
      held = c.let_go.ensures.held;
      len = c.give.ensures.len;
      fated = c.give.ensures.fated;
      others = c.give.ensures.others;
      given = c.give.ensures.given;
      opened = λ w. c.leave_windows.ensures.opened w ∙ ap (λ (ms : List Measure). open_in c.args.self.now.windows w - times (windows_at ms c.args.places.now) w) c.as_slice.ensures.value;
      states = λ w. ap (λ (es : List (ℕ × Option (List ℕ))). text_at es w) c.leave_windows.ensures.states;
      tries = c.leave_windows.ensures.tries;
      last = c.leave_windows.ensures.last;
    })
    c.expire.ensures.lane c.expire.ensures.others c.expire.ensures.lanes
