-- What the report of a replay counts. This product's own.
use Rattle.std.specs.Prelude.{◌≡◌, ℕ, ◌*◌, ◌≤◌, List, ◌++◌, length, codes}
use Rattle.esm_model.specs.declared.entry.Entry.{Entry}
use Rattle.esm_model.specs.Entries.{calls_begun}
use Rattle.esm_model.specs.Numbers.{decimal}
use Rattle.esm_replay_model.specs.ReplaySetting.{ReplaySetting}
use Rattle.esm_replay_model.specs.ReplayRun.{replay_calls}
use Rattle.esm_replay_model.specs.ReplayReport.{named_count, replayed_count, left_count}
use Rattle.esm_replay_run.specs.declared.report.ReplayCounts.{ReplayCounts}

-- the number of named records, of those that the run replayed, and of the others
pub record AreCounts (s : ReplaySetting) (h : List Entry) (counts : ReplayCounts) : Type 0 where
  pub named : counts.named ≡ named_count s
  pub replayed : counts.replayed ≡ replayed_count s h
  pub left : counts.left ≡ left_count s h

-- a number after its words
abbrev pub count_text : List ℕ → ℕ → List ℕ
count_text words count = words ++ decimal count

-- as the report has them, without the line feed
abbrev pub counts_text : ReplayCounts → List ℕ
counts_text counts =
    codes "replay named " ++ decimal counts.named
    ++ codes " replayed " ++ decimal counts.replayed
    ++ codes " left " ++ decimal counts.left

-- The calls that the report counts, and those in the caller's log, are at most twice as many as the named records that it
-- counts.
pub record AreFewCalls (sends : List ℕ → List ℕ) (s : ReplaySetting) (h : List Entry) (counts : ReplayCounts) : Type 0 where
  pub told : calls_begun h ≤ 2 * counts.named
  pub logged : length (replay_calls s sends h) ≤ 2 * counts.named
