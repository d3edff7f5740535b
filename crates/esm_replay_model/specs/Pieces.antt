-- The pieces of a replay: records that are called together. This product's own, after the Lambda Developer Guide, error
-- handling for Kinesis (`BisectBatchOnFunctionError`, `ReportBatchItemFailures`).
use Rattle.std.specs.Prelude.{ℕ, ◌==◌, nat_lt, nat_le, Bool, false, ◌&&◌, List, [], ◌∷◌, length, take, drop, None, if◌then◌else◌}
use Rattle.esm_model.specs.declared.limits.TheConstants.{MAX_EVENT}
use Rattle.esm_model.specs.declared.entry.Reply.{Reply}
use Rattle.esm_model.specs.declared.verdict.Rest.{Rest}
use Rattle.esm_model.specs.declared.verdict.Rest.TheVariants as rest
use Rattle.esm_model.specs.declared.verdict.Verdict.{Verdict}
use Rattle.esm_model.specs.Setting.{Stream, records_at, sequences_at}
use Rattle.esm_model.specs.Batches.{longest}
use Rattle.esm_model.specs.EventText.{event_text}
use Rattle.esm_model.specs.Reading.{reading}
use Rattle.esm_model.specs.Ruling.{ruling}
use Rattle.esm_replay_model.specs.ReplaySetting.{ReplaySetting, config_of, named_places}

-- records of one shard, named by their places
pub record ReplayPiece : Type 0 where
  pub shard : ℕ
  pub places : List ℕ

abbrev pub piece : ℕ → List ℕ → ReplayPiece
piece n places = record { shard = n; places = places }

abbrev pub no_piece : ReplayPiece
no_piece = piece 0 []

-- these places as a piece before the others, where there are any
abbrev pub ahead : ℕ → List ℕ → List ReplayPiece → List ReplayPiece
ahead n [] others = others
ahead n (i ∷ places) others = piece n (i ∷ places) ∷ others

-- the pieces at the start

-- the rising numbers with this one among them, once
abbrev pub inserted : ℕ → List ℕ → List ℕ
inserted n [] = n ∷ []
inserted n (m ∷ ms) = if n == m then m ∷ ms else (if nat_lt n m then n ∷ m ∷ ms else m ∷ inserted n ms)

-- the shards of the streams, in rising order of their numbers
abbrev pub rising_shards : List Stream → List ℕ
rising_shards [] = []
rising_shards (t ∷ ts) = inserted t.shard (rising_shards ts)

abbrev pub named_pieces : ReplaySetting → List ℕ → List ReplayPiece
named_pieces s [] = []
named_pieces s (n ∷ ns) = ahead n (named_places s n) (named_pieces s ns)

-- the named records of each shard, as a piece
abbrev pub first_pieces : ReplaySetting → List ReplayPiece
first_pieces s = named_pieces s (rising_shards s.base.streams)

-- calls

-- the event text of a call with these records
abbrev pub replay_event : ReplaySetting → ReplayPiece → List ℕ
replay_event s p = event_text (config_of s) (records_at s.base p.shard p.places) None

-- the two limits: the batch size, and the length of the event text
abbrev pub replay_fits : ReplaySetting → ReplayPiece → Bool
replay_fits s p = nat_le (length p.places) (config_of s).batch_size && nat_le (length (replay_event s p)) MAX_EVENT

-- the longest prefix of the first piece that meets the two limits
abbrev pub next_call : ReplaySetting → List ReplayPiece → ReplayPiece
next_call s [] = no_piece
next_call s (p ∷ others) = piece p.shard (longest (λ places. replay_fits s (piece p.shard places)) [] p.places)

-- the ruling on a call; a replay has no retries
abbrev pub replay_verdict : ReplaySetting → ReplayPiece → Reply → Verdict
replay_verdict s call reply = ruling (config_of s) (length call.places) 0 (reading (config_of s) (sequences_at s.base call.shard call.places) false reply)

-- the records that succeeded, and the remaining ones
abbrev pub succeeded_of : ReplaySetting → ReplayPiece → Reply → ReplayPiece
succeeded_of s call reply = piece call.shard (take (replay_verdict s call reply).succeeded call.places)

abbrev pub remaining_of : ReplaySetting → ReplayPiece → Reply → List ℕ
remaining_of s call reply = drop (replay_verdict s call reply).succeeded call.places

-- after a split the first of the remaining records and the rest of them become two pieces before the others; otherwise the
-- remaining records are left
abbrev pub split_ahead : Rest → ℕ → List ℕ → List ReplayPiece → List ReplayPiece
split_ahead (rest.Split k) n remaining others = ahead n (take k remaining) (ahead n (drop k remaining) others)
split_ahead _ n remaining others = others

-- the pieces without the batch, which is the front of the first one
abbrev pub without_call : ReplayPiece → List ReplayPiece → List ReplayPiece
without_call call [] = []
without_call call (p ∷ others) = ahead p.shard (drop (length call.places) p.places) others

-- the pieces after the end of a call
abbrev pub pieces_after_call : ReplaySetting → ReplayPiece → Reply → List ReplayPiece → List ReplayPiece
pieces_after_call s call reply pieces =
    split_ahead (replay_verdict s call reply).rest call.shard (remaining_of s call reply) (without_call call pieces)
