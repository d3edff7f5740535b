-- What the end of a call leaves of the waiting pieces, with the positions of their records. This product's own.
use Rattle.std.specs.Prelude.{◌≡◌, ℕ, List, [], ◌∷◌, take, drop}
use Rattle.std.specs.List.{All}
use Rattle.esm_model.specs.Records.{Record}
use Rattle.esm_model.specs.declared.entry.Reply.{Reply}
use Rattle.esm_model.specs.declared.verdict.Verdict.{Verdict}
use Rattle.esm_model.specs.declared.verdict.Rest.{Rest}
use Rattle.esm_model.specs.declared.verdict.Rest.TheVariants.{Split}
use Rattle.esm_replay_model.specs.ReplaySetting.{ReplaySetting}
use Rattle.esm_replay_model.specs.Pieces.{ReplayPiece, piece, no_piece, replay_verdict, pieces_after_call}
use Rattle.esm_replay.specs.declared.rows.Named.{Named}
use Rattle.esm_replay.specs.declared.parts.Parts.{Parts}
use Rattle.esm_replay.specs.Rows.{places_of}
use Rattle.esm_replay.specs.Waiting.{NamedPiece, seen_pieces, put_ahead, without_front, IsPlaced}

-- the records that remain, if they are split: the first part, then the second
abbrev pub split_first : Rest → List Named → List Named
split_first (Split k) remaining = take k remaining
split_first _ remaining = []

abbrev pub split_rest : Rest → List Named → List Named
split_rest (Split k) remaining = drop k remaining
split_rest _ remaining = []

-- the pieces after a call of the first `count` records of the front piece
abbrev pub after_end : ℕ → List Named → List Named → ℕ → List NamedPiece → List NamedPiece
after_end n first rest count pieces = put_ahead n first (put_ahead n rest (without_front count pieces))

-- the call of the first `count` records of the front piece
abbrev pub front_call : ℕ → List NamedPiece → ReplayPiece
front_call count [] = no_piece
front_call count (p ∷ others) = piece p.shard (places_of (take count p.named))

-- the two parts into which the verdict splits what remains of that call
abbrev pub ArePartsOf : Verdict → ℕ → List NamedPiece → Parts → Type 0
ArePartsOf v count [] parts = ⊥
ArePartsOf v count (p ∷ others) parts =
    (parts.first ≡ record { shard = p.shard; named = split_first v.rest (drop v.succeeded (take count p.named)) })
    × (parts.rest ≡ record { shard = p.shard; named = split_rest v.rest (drop v.succeeded (take count p.named)) })

-- the pieces after the end of the call are those of the definition
abbrev pub EndsSo : ℕ → Parts → List NamedPiece → List NamedPiece → Type 0
EndsSo count parts before after =
    (s : ReplaySetting) (reply : Reply) (v : Verdict) → ArePartsOf v count before parts → v ≡ replay_verdict s (front_call count before) reply
    → seen_pieces after ≡ pieces_after_call s (front_call count before) reply (seen_pieces before)

-- and their records keep their positions
abbrev pub StaysPlaced : ℕ → Parts → List NamedPiece → List NamedPiece → Type 0
StaysPlaced count parts before after =
    (s : ReplaySetting) (rs : List Record) (v : Verdict) → ArePartsOf v count before parts → All (IsPlaced s rs) before → All (IsPlaced s rs) after
