-- The laws from which the headline of a replay follows. Only this crate's proofs cite this.
use Rattle.std.specs.Prelude.{ℕ, List}
use Rattle.esm_model.specs.declared.entry.Entry.{Entry}
use Rattle.esm_journal_record.specs.EntryPayload.{AllMayBeSaid}
use Rattle.esm_replay_model.specs.ReplaySetting.{ReplaySetting}
use Rattle.esm_replay_model.specs.ReplayRun.{IsReplay}
use Rattle.esm_replay_model.specs.ReplayLaws.{ReplayedOnce, CallsNamed, ReplayedAsAnswered, CallsWithin, ReplayedOrLeft, SucceededAreReplayed, CountsAddUp, CallsLogged, SaysAfter}

pub record AreLaws : Type 0 where
  pub once : (s : ReplaySetting) (h : List Entry) → IsReplay s h → ReplayedOnce s h
  pub named : (s : ReplaySetting) (h : List Entry) → IsReplay s h → CallsNamed s h
  pub answered : (s : ReplaySetting) (h : List Entry) → IsReplay s h → ReplayedAsAnswered s h
  pub succeeded : (s : ReplaySetting) (h : List Entry) → IsReplay s h → SucceededAreReplayed s h
  pub left : (s : ReplaySetting) (h : List Entry) → IsReplay s h → ReplayedOrLeft s h
  pub within : (s : ReplaySetting) (h : List Entry) → IsReplay s h → CallsWithin s h
  pub counts : (s : ReplaySetting) (h : List Entry) → IsReplay s h → CountsAddUp s h
  pub logged : (s : ReplaySetting) (sends : List ℕ → List ℕ) (h : List Entry) → IsReplay s h → CallsLogged s sends h
  pub says : (s : ReplaySetting) (h : List Entry) (old : List (List ℕ)) → IsReplay s h → AllMayBeSaid s.base h → SaysAfter s h old
