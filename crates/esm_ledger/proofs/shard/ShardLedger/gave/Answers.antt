use Rattle.std.proofs.Common.{ℕ, List, ◌-◌, Option, ap, ◌∙◌}
use Rattle.esm_model.specs.Windows.{text_for}
use Rattle.esm_shard_index.specs.WindowEntries.{count_at, text_at}
use Rattle.esm_shard_index.specs.Windows.{open_in, times}
use Rattle.esm_ledger.specs.declared.measure.Measure.{Measure}
use Rattle.esm_ledger.specs.Shard.{windows_at}
use Rattle.esm_ledger.proofs.Gifts.{shard_gave}
use Rattle.esm_ledger.proofs.shard.ShardLedger.gave.Goals as goal

pub returns-clause-kept : goal.returns-clause-kept
returns-clause-kept c = λ s h by line m.
    shard_gave s h c.args.self.now c.let_go.new.self c.give.new.self c.take_state.new.windows by c.args.places.now c.args.fate line c.args.state m c.requires.answered
    (record {
      items = c.let_go.ensures.items;
      slots = c.let_go.ensures.len;
      held = c.let_go.ensures.held;
      len = c.give.ensures.len;
      fated = c.give.ensures.fated;
      others = c.give.ensures.others;
      given = c.give.ensures.given;
      opened = λ w. ap (λ (es : List (ℕ × ℕ)). count_at es w) c.take_state.ensures.opened ∙ c.leave_windows.ensures.opened w ∙ ap (λ (ms : List Measure). open_in c.args.self.now.windows w - times (windows_at ms c.args.places.now) w) c.as_slice.ensures.value;
      states = λ w. c.take_state.ensures.states w ∙ ap (λ (es : List (ℕ × Option (List ℕ))). text_for w (text_at es w) c.args.state) c.leave_windows.ensures.states;
      tries = c.take_state.ensures.tries ∙ c.leave_windows.ensures.tries;
      last = c.take_state.ensures.last ∙ c.leave_windows.ensures.last;
    })
