-- Each state of a window that the content of a life says reads as an object.
use Rattle.std.proofs.Common.{◌≡◌, ◌∙◌, ℕ, List, [], ◌∷◌, ◌++◌, Option, ap, sym}
use Rattle.std.specs.Prelude.{◌==◌, ◌&&◌, find, option_map, reverse}
use Rattle.esm_ddb.specs.BatchEvents.{AreStates, AreStatesKept}
use Rattle.esm_history.specs.Content.{IsOpenedOver}
use Rattle.esm_history.proofs.KeptStates.{state_stands}
use Rattle.esm_history.proofs.Saids.{content_said}
use Rattle.esm_journal_record.specs.declared.said.Said.{Said}
use Rattle.esm_journal_state.specs.Meaning.{history, state_said}
use Rattle.esm_life.specs.Life.{IsLife, IsRunOver, Ran, Replay, Rewritten, Run, Stage, content}
use Rattle.esm_life.specs.Replays.{IsUnderReplays, under_replays}
use Rattle.esm_model.specs.Setting.{Setting, found_state}
use Rattle.esm_model.specs.Windows.{kept_state}
use Rattle.esm_model.specs.declared.setup.FoundState.{FoundState}
use Rattle.esm_program_life.specs.DdbElements.{SaysStates}
use Rattle.esm_replay_life.specs.ReplayLife.{AreReplays, FatesAndTriesStay, IsLife as IsReplayLife, Replay as OneReplay, ReplayRun, Stage as ReplayStage}

-- the state of a window by this content
abbrev said_by : List (List ℕ) → ℕ → ℕ → Option (List ℕ)
said_by list n w = state_said (history (reverse list)) n w

state_found : (s : Setting) (old : List (List ℕ)) → IsOpenedOver s old → (n w : ℕ) → found_state s n w ≡ said_by old n w
state_found s old is n w =
    ap (λ (fs : List FoundState). option_map (λ (f : FoundState). f.text) (find (λ (f : FoundState). (f.shard == n) && (f.window == w)) fs)) is.found.states
    ∙ is.tells.states n w

pub found_reads : (s : Setting) (old : List (List ℕ)) → IsOpenedOver s old → SaysStates old → AreStates s
found_reads s old is says n w text at = says n w text (sym (state_found s old is n w) ∙ at)

run_says : (r : Run) (life : List Stage) → IsRunOver r (content life) → (n w : ℕ) → said_by (content (Ran r ∷ life)) n w ≡ kept_state r.setting r.recorded n w
run_says r life over n w =
    ap (λ (h : List Said). state_said h n w) (content_said r.setting r.recorded (content life) over.may_be_said)
    ∙ state_stands r.setting (history (reverse (content life))) r.recorded (λ k v. sym (state_found r.setting (content life) over.opened k v)) n w

module _ (kept : AreStatesKept) (under : (life : List Stage) → IsLife life → IsUnderReplays life) (stay : (later before : List ReplayStage) → IsReplayLife (later ++ before) → AreReplays later → FatesAndTriesStay later before) where
  replay_says : (r : ReplayRun) (life : List Stage) → IsLife (Replay r ∷ life) → (n w : ℕ) → said_by (content (Replay r ∷ life)) n w ≡ said_by (content life) n w
  replay_says r life is n w =
      let now = under (Replay r ∷ life) is in
      let was = under life is.0 in
      sym (ap (λ (list : List (List ℕ)). said_by list n w) now.content_is)
      ∙ ((stay (OneReplay r ∷ []) (under_replays life) now.is_life tt).states n w ∙ ap (λ (list : List (List ℕ)). said_by list n w) was.content_is)

  pub says_states : (life : List Stage) → IsLife life → SaysStates (content life)
  says_states [] is n w text at = cc
  says_states (Ran r ∷ life) is n w text at =
      kept r.setting (found_reads r.setting (content life) is.1.opened (says_states life is.0)) r.recorded is.1.legal_recorded n w text (sym (run_says r life is.1 n w) ∙ at)
  says_states (Replay r ∷ life) is n w text at = says_states life is.0 n w text (sym (replay_says r life is n w) ∙ at)
  says_states (Rewritten list ∷ life) is n w text at = says_states life is.0 n w text (sym (is.1.same.states n w) ∙ at)
