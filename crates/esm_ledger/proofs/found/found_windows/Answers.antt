use Rattle.std.proofs.Common.{ℕ, List, Option, ap, ◌∙◌}
use Rattle.std.specs.Prelude.{option_map, find, ◌==◌, ◌&&◌}
use Rattle.esm_model.specs.declared.setup.FoundState.{FoundState}
use Rattle.esm_journal_state.specs.declared.lookup.SaidWindowTries.{SaidWindowTries}
use Rattle.esm_shard_index.specs.WindowEntries.{count_at, text_at}
use Rattle.esm_ledger.specs.Measuring.{state_from, tries_from}
use Rattle.esm_ledger.proofs.Founds.{state_is, window_tries_is}
use Rattle.esm_ledger.proofs.found.found_windows.Goals as goal

pub returns : goal.returns
returns c =
    let n = c.args.shard in
    let told = c.args.found.now in
    record {
      opened = λ w. ap (λ (es : List (ℕ × ℕ)). count_at es w) (c.load_tries.ensures.opened ∙ c.load_states.ensures.opened) ∙ c.new-windows.ensures.opened w;
      states = λ w.
          ap (λ (es : List (ℕ × Option (List ℕ))). text_at es w) c.load_tries.ensures.states ∙ c.in_ok-load_states.ensures.states w
          ∙ ap (state_from c.states.result.now n w) (c.new-windows.ensures.states w)
          ∙ state_is c.states.result.now n w
          ∙ ap (λ (fs : List FoundState). option_map (λ (f : FoundState). f.text) (find (λ (f : FoundState). (f.shard == n) && (f.window == w)) fs)) c.states.ensures;
      tries = λ w.
          c.in_ok-load_tries.ensures.tries w
          ∙ ap (λ (ts : List SaidWindowTries). tries_from ts w (count_at c.load_states.new.windows.tries w)) c.as_slice.ensures.value
          ∙ ap (tries_from c.in_ok-tries.tries.items w) (ap (λ (es : List (ℕ × ℕ)). count_at es w) c.load_states.ensures.tries ∙ c.new-windows.ensures.tries w)
          ∙ window_tries_is c.in_ok-tries.tries.items told.window_tries n w c.in_ok-tries.ensures;
      last = c.load_tries.ensures.last ∙ c.load_states.ensures.last ∙ c.new-windows.ensures.last;
    }
