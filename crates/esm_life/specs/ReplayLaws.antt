-- The laws of lists of replays from which those of a life follow. Only this crate's proofs cite this.
use Rattle.std.specs.Prelude.{◌≡◌, true, List, ◌∷◌, ◌++◌, reverse}
use Rattle.esm_journal_record.specs.EntryPayload.{AllMayBeSaid, history_payloads}
use Rattle.esm_journal_state.specs.Meaning.{are_good, history}
use Rattle.esm_model.specs.declared.entry.Entry.{Entry}
use Rattle.esm_model.specs.Setting.{Setting}
use Rattle.esm_model.specs.Step.{Legal}
use Rattle.esm_replay_life.specs.ReplayLife.{AreReplays, EachIsAnswered, EachReplayedOnce, FatesAndTriesStay, IsLife, NoneIsCalledAgain, NoneReplays, Replay, ReplayRun, ReplaysStay, Stage, content}

pub record AreReplayLaws : Type 0 where
  pub once : (life : List Stage) → IsLife life → EachReplayedOnce life
  pub replays : (later before : List Stage) → IsLife (later ++ before) → ReplaysStay later before
  pub called : (r : ReplayRun) (between before : List Stage) → IsLife (Replay r ∷ between ++ before) → NoneIsCalledAgain r before
  pub answered : (r : ReplayRun) (before : List Stage) → IsLife (Replay r ∷ before) → EachIsAnswered r
  pub stay : (later before : List Stage) → IsLife (later ++ before) → AreReplays later → FatesAndTriesStay later before
  pub good : (life : List Stage) → IsLife life → are_good (reverse (content life)) ≡ true
  pub none : (s : Setting) (h : List Entry) → Legal s h → AllMayBeSaid s h → NoneReplays (history (reverse (history_payloads s h)))
