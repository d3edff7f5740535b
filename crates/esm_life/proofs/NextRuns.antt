-- What a run finds is what the run before it knew, whatever replays and rewritings stand between them.
use Rattle.std.proofs.Common.{◌≡◌, ◌∙◌, ℕ, List, [], ◌∷◌, ◌++◌, Some, None, ap, refl, subst, sym}
use Rattle.std.specs.Prelude.{filter_map, reverse}
use Rattle.esm_history.specs.Content.{GoesOnFrom, IsOpenedOver, content_after}
use Rattle.esm_history.proofs.GoesOn.{goes_on}
use Rattle.esm_history.proofs.Saids.{content_said}
use Rattle.esm_journal_record.specs.declared.said.Said.{Said}
use Rattle.esm_journal_record.specs.EntryPayload.{entry_said}
use Rattle.esm_journal_state.specs.Meaning.{deletion_said, fate_said, history, replayed_said, state_said, tries_said, window_tries_said}
use Rattle.esm_journal_state.specs.SaidLists.{SaidLists}
use Rattle.esm_model.specs.declared.entry.Entry.{Entry}
use Rattle.esm_model.specs.declared.entry.Entry.TheVariants.{Came, Began, Ended, Gave, Tried, Closed, Replayed, Shut}
use Rattle.esm_model.specs.Setting.{Setting}
use Rattle.esm_model.specs.Step.{Legal}
use Rattle.esm_model.specs.Valid.{HasStreamFields}
use Rattle.esm_replay_life.specs.ReplayLife.{AreReplays, IsLife as IsReplayLife, content as replay_content}
use Rattle.esm_life.specs.Life.{AreBetween, IsLife, IsRunOver, Ran, Replay, Rewritten, Run, Stage, content}
use Rattle.esm_life.specs.ReplayLaws.{AreReplayLaws}
use Rattle.esm_life.specs.Replays.{under_replays}
use Rattle.esm_life.specs.Tries.{TriesGoOn}
use Rattle.esm_life.proofs.FoundTries.{tries_go_on}
use Rattle.esm_life.proofs.ReplayLives.{is_one, same_content, split}

-- a run of a stream says nothing of replays, or of deletions
record AsBefore (s : Setting) (h : List Entry) (old : List Said) : Type 0 where
  replays : (n i : ℕ) → replayed_said (filter_map (entry_said s) h ++ old) n i ≡ replayed_said old n i
  deletions : (i : ℕ) → deletion_said (filter_map (entry_said s) h ++ old) i ≡ deletion_said old i

as_before : (s : Setting) (h : List Entry) (old : List Said) → Legal s h → AsBefore s h old
as_before s [] old legal = record { replays = λ n i. refl; deletions = λ i. refl }
as_before s (Gave by shard places f line state m ∷ h) old legal =
    let was : AsBefore s h old = as_before s h old legal.0 in record { replays = was.replays; deletions = was.deletions }
as_before s (Tried lane places None tries m ∷ h) old legal =
    let was : AsBefore s h old = as_before s h old legal.0 in record { replays = was.replays; deletions = was.deletions }
as_before s (Tried lane places (Some window) tries m ∷ h) old legal =
    let was : AsBefore s h old = as_before s h old legal.0 in record { replays = was.replays; deletions = was.deletions }
as_before s (Closed lane window m ∷ h) old legal =
    let was : AsBefore s h old = as_before s h old legal.0 in record { replays = was.replays; deletions = was.deletions }
as_before s (Replayed shard places m ∷ h) old legal = absurd legal.1.1
as_before s (Came shard first count m ∷ h) old legal =
    let was : AsBefore s h old = as_before s h old legal.0 in record { replays = was.replays; deletions = was.deletions }
as_before s (Began lane places closing m ∷ h) old legal =
    let was : AsBefore s h old = as_before s h old legal.0 in record { replays = was.replays; deletions = was.deletions }
as_before s (Ended lane reply m ∷ h) old legal =
    let was : AsBefore s h old = as_before s h old legal.0 in record { replays = was.replays; deletions = was.deletions }
as_before s (Shut m ∷ h) old legal =
    let was : AsBefore s h old = as_before s h old legal.0 in record { replays = was.replays; deletions = was.deletions }

-- what stands between two runs

are_replays : (between : List Stage) → AreBetween between → AreReplays (under_replays between)
are_replays [] all = tt
are_replays (Ran r ∷ between) all = absurd all
are_replays (Replay r ∷ between) all = are_replays between all
are_replays (Rewritten list ∷ between) all = are_replays between all

record SaysAlike (list old : List (List ℕ)) : Type 0 where
  fates : (n i : ℕ) → fate_said (history (reverse list)) n i ≡ fate_said (history (reverse old)) n i
  tries : (n i : ℕ) → tries_said (history (reverse list)) n i ≡ tries_said (history (reverse old)) n i
  states : (n w : ℕ) → state_said (history (reverse list)) n w ≡ state_said (history (reverse old)) n w
  window_tries : (n w : ℕ) → window_tries_said (history (reverse list)) n w ≡ window_tries_said (history (reverse old)) n w

module _ (laws : AreReplayLaws) where
  alike : (between before : List Stage) → IsLife (between ++ before) → AreBetween between → SaysAlike (content (between ++ before)) (content before)
  alike between before life all =
      let is : IsReplayLife (under_replays between ++ under_replays before) = subst IsReplayLife (split between before) (is_one laws (between ++ before) life) in
      let stay = laws.stay (under_replays between) (under_replays before) is (are_replays between all) in
      let here : SaysAlike (replay_content (under_replays between ++ under_replays before)) (replay_content (under_replays before)) =
      record { fates = stay.fates; tries = stay.tries; states = stay.states; window_tries = stay.window_tries } in
      let whole : replay_content (under_replays between ++ under_replays before) ≡ content (between ++ before) = ap replay_content (sym (split between before)) ∙ same_content (between ++ before) in
      subst (λ (list : List (List ℕ)). SaysAlike list (content before)) whole
      (subst (SaysAlike (replay_content (under_replays between ++ under_replays before))) (same_content before) here)

  -- the next run could have been opened over what this one left, by lists that tell the replays of then
  opened_then : (r next : Run) (between before : List Stage) → IsLife (Ran next ∷ between ++ Ran r ∷ before) → AreBetween between → IsRunOver r (content before) → IsOpenedOver next.setting (content_after r.setting r.recorded (content before))
  opened_then r next between before life all over =
      let now = life.1.opened in
      let same = alike between (Ran r ∷ before) life.0 all in
      let said = content_said r.setting r.recorded (content before) over.may_be_said in
      let kept = as_before r.setting r.recorded (history (reverse (content before))) over.legal_recorded in
      let told : SaidLists = record {
        fates = now.told.fates;
        tries = now.told.tries;
        states = now.told.states;
        window_tries = now.told.window_tries;
        replays = over.opened.told.replays;
        deletions = over.opened.told.deletions;
      } in
      record {
        told = told;
        tells = record {
          fates = λ n i. now.tells.fates n i ∙ same.fates n i;
          tries = λ n i. now.tells.tries n i ∙ same.tries n i;
          states = λ n w. now.tells.states n w ∙ same.states n w;
          window_tries = λ n w. now.tells.window_tries n w ∙ same.window_tries n w;
          replays = λ n i. over.opened.tells.replays n i ∙ sym (ap (λ (g : List Said). replayed_said g n i) said ∙ kept.replays n i);
          deletions = λ i. over.opened.tells.deletions i ∙ sym (ap (λ (g : List Said). deletion_said g i) said ∙ kept.deletions i);
        };
        found = record { fates = now.found.fates; tries = now.found.tries; states = now.found.states; window_tries = now.found.window_tries };
      }

  run_over : (between before : List Stage) (r : Run) → IsLife (between ++ Ran r ∷ before) → IsRunOver r (content before)
  run_over [] before r life = life.1
  run_over (Ran x ∷ between) before r life = run_over between before r life.0
  run_over (Replay x ∷ between) before r life = run_over between before r life.0
  run_over (Rewritten list ∷ between) before r life = run_over between before r life.0

  pub knows : (r next : Run) (between before : List Stage) → IsLife (Ran next ∷ between ++ Ran r ∷ before) → AreBetween between → HasStreamFields r.setting.config → GoesOnFrom r.setting r.recorded next.setting
  knows r next between before life all fields =
      let over = run_over between before r life.0 in
      goes_on r.setting next.setting r.recorded (content before) fields over.legal_recorded over.may_be_said over.opened (opened_then r next between before life all over)

  pub finds_tries : (r next : Run) (between before : List Stage) → IsLife (Ran next ∷ between ++ Ran r ∷ before) → AreBetween between → HasStreamFields r.setting.config → TriesGoOn r.setting r.recorded next.setting
  finds_tries r next between before life all fields =
      let over = run_over between before r life.0 in
      tries_go_on r.setting next.setting r.recorded (content before) fields over.legal_recorded over.may_be_said over.opened (opened_then r next between before life all over)
