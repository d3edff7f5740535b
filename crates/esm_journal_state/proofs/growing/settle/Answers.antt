use Rattle.std.proofs.Common.{◌∙◌, ap}
use Rattle.esm_journal_state.specs.Growing.{fate_with}
use Rattle.esm_journal_state.proofs.growing.settle.Goals as goal

pub returns-clause-grown : goal.returns-clause-grown
returns-clause-grown c = λ h grown. record {
  fates = λ n i.
      ap (λ v. fate_with c.put_all.new.fates v.items n i) c.replace-recent.ensures.after
      ∙ ap (λ es. fate_with c.put_all.new.fates es n i) c.new-none.ensures.items
      ∙ c.in_ok-put_all.ensures n i
      ∙ ap (λ v. fate_with c.args.growing.now.table.fates v.items n i) c.replace-recent.ensures.value
      ∙ grown.fates n i;
  tries = grown.tries;
  states = grown.states;
  window_tries = grown.window_tries;
  replays = grown.replays;
  deletions = grown.deletions;
  tops = grown.tops;
}

pub returns-clause-table : goal.returns-clause-table
returns-clause-table c = λ h grown. record {
  fates = λ n i.
      c.in_ok-put_all.ensures n i
      ∙ ap (λ v. fate_with c.args.growing.now.table.fates v.items n i) c.replace-recent.ensures.value
      ∙ grown.fates n i;
  tries = grown.tries;
  states = grown.states;
  window_tries = grown.window_tries;
  replays = grown.replays;
  deletions = grown.deletions;
}
