-- What the end of a call results in. Only this crate's proofs cite this.
use Rattle.std.specs.Prelude.{◌≡◌, ℕ, ◌≤◌, false, true, List, [], take, length, Option, Some, None}
use Rattle.std.specs.List.{list_all}
use Rattle.esm_model.specs.declared.limits.TheConstants.{MAX_BATCH, MAX_PAYLOAD}
use Rattle.esm_model.specs.Sequence.{is_sequence}
use Rattle.esm_model.specs.declared.config.Config.{Config}
use Rattle.esm_model.specs.declared.entry.Reply.{Reply}
use Rattle.esm_model.specs.declared.verdict.Verdict.{Verdict}
use Rattle.esm_model.specs.Reading.{reading}
use Rattle.esm_model.specs.Ruling.{ruling}
use Rattle.esm_journal_record.specs.declared.said.Said.TheVariants.{Replayed}
use Rattle.esm_journal_record.specs.Payload.{payload_of, IsSaid}
use Rattle.esm_replay.specs.Waiting.{Waiting, front_of}
use Rattle.esm_replay.specs.Ending.{ArePartsOf}
use Rattle.esm_replay_core.specs.declared.owed.Replay.{Replay}
use Rattle.esm_replay_core.specs.declared.ending.Ending.{Ending}

-- the ruling on a call of the records with these sequence numbers, none of which was tried before
abbrev pub verdict_by : Config → List (List ℕ) → Reply → Verdict
verdict_by c names reply = ruling c (length names) 0 (reading c names false reply)

-- these places are replayed, if there are any
abbrev pub IsReplayOf : ℕ → ℕ → List ℕ → List (List ℕ) → Option Replay → Type 0
IsReplayOf n m places texts None = places ≡ []
IsReplayOf n m places texts (Some r) =
    (1 ≤ length places) × (r.shard ≡ n) × (r.places ≡ places) × (r.moment ≡ m) × (r.payload.items ≡ payload_of (Replayed n m places texts)) × (length r.payload.items ≤ MAX_PAYLOAD)

-- a call of the first records of the first piece can end: a payload can say what succeeded
pub record MayEnd (c : Config) (w : Waiting) (names : List (List ℕ)) (n : ℕ) (places : List ℕ) (reply : Reply) (m : ℕ) : Type 0 where
  pub few : length places ≤ MAX_BATCH
  pub some : 1 ≤ length places
  pub same : length names ≡ length places
  pub spelled : list_all is_sequence names ≡ true
  pub within : length places ≤ length (front_of w.pieces)
  pub said : 1 ≤ (verdict_by c names reply).succeeded → IsSaid (Replayed n m (take (verdict_by c names reply).succeeded places) (take (verdict_by c names reply).succeeded names))

pub record IsEnding (c : Config) (w : Waiting) (names : List (List ℕ)) (n : ℕ) (places : List ℕ) (reply : Reply) (m : ℕ) (ending : Ending) : Type 0 where
  pub count : ending.succeeded ≡ (verdict_by c names reply).succeeded
  pub parted : ArePartsOf (verdict_by c names reply) (length places) w.pieces ending.parts
  pub replay : IsReplayOf n m (take (verdict_by c names reply).succeeded places) (take (verdict_by c names reply).succeeded names) ending.replay
