use Rattle.std.proofs.Common.{◌≡◌, true, take, get_or, sym, ◌∙◌, subst, inl, inr}
use Rattle.std.specs.Prelude.{◌==◌}
use Rattle.std.proofs.lemmas.Bool.{or_cases, eqb-true}
use Rattle.std.proofs.lemmas.List.Folds.{list_any_more}
use Rattle.esm_model.specs.Entries.{holds}
use Rattle.esm_shard_index.specs.WindowEntries.{has_entry}
use Rattle.esm_shard_index.proofs.window_counts.WindowCounts.prepare.Goals as goal

pub loop-window-preserved : goal.loop-window-preserved
loop-window-preserved c = record {
  counts = λ w. c.in_ok-prepare_one.ensures.counts w ∙ c.loop-window.invariant.counts w;
  entries = λ w kept. c.in_ok-prepare_one.ensures.entries w (c.loop-window.invariant.entries w kept);
  prepared = λ w held.
      elim (or_cases (holds (take c.loop-window.window-index c.args.windows.now) w) (get_or c.args.windows.now c.loop-window.window-index 0 == w)
      (sym (list_any_more (λ p. p == w) c.args.windows.now c.loop-window.window-index 0 c.loop-window-test.true) ∙ held)) [
        | inl before ↦ c.in_ok-prepare_one.ensures.entries w (c.loop-window.invariant.prepared w before)
        | inr same ↦ subst (λ x. has_entry c.prepare_one.new.self x ≡ true) (eqb-true (get_or c.args.windows.now c.loop-window.window-index 0) w same) c.in_ok-prepare_one.ensures.ok
      ];
}
