use Rattle.std.proofs.Common.{◌≡◌, ◌==◌, ◌++◌}
use Rattle.std.specs.Prelude.{map, filter}
use Rattle.esm_model.specs.declared.setup.FoundWindowTries.{FoundWindowTries}
use Rattle.esm_journal_state.specs.View.{found_window_tries, of_window}
use Rattle.esm_journal_state.proofs.lookup.tries_of_shard.Given as goal

-- those that were found, and those of the rest
abbrev pub invariant-loop-of : goal.invariant-loop-of
invariant-loop-of l =
    map (of_window l.shard) l.found.items ++ filter (λ (f : FoundWindowTries). f.shard == l.shard) (map found_window_tries l.of-iterator)
    ≡ filter (λ (f : FoundWindowTries). f.shard == l.shard) (map found_window_tries l.window_tries.entries)
