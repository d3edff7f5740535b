-- The pieces that are still to be called, with the positions of their records. This product's own.
use Rattle.std.specs.Prelude.{ℕ, ◌≤◌, List, [], ◌∷◌, map, drop, length}
use Rattle.std.specs.List.{All}
use Rattle.esm_model.specs.Records.{Record}
use Rattle.esm_replay_model.specs.ReplaySetting.{ReplaySetting}
use Rattle.esm_replay_model.specs.Pieces.{ReplayPiece, piece}
use Rattle.esm_replay.specs.declared.rows.Named.{Named}
use Rattle.esm_replay.specs.declared.rows.Row.{Row}
use Rattle.esm_replay.specs.Rows.{places_of, Stands}

-- named records of a shard that are waiting to be called together
pub record NamedPiece : Type 0 where
  pub shard : ℕ
  pub named : List Named

abbrev pub seen_piece : NamedPiece → ReplayPiece
seen_piece p = piece p.shard (places_of p.named)

abbrev pub seen_pieces : List NamedPiece → List ReplayPiece
seen_pieces ps = map seen_piece ps

-- the piece ahead of the others; without records it is none
abbrev pub put_ahead : ℕ → List Named → List NamedPiece → List NamedPiece
put_ahead n [] others = others
put_ahead n (d ∷ ds) others = record { shard = n; named = d ∷ ds } ∷ others

-- the rows of the shards as pieces
abbrev pub pieces_in : List (ℕ × Row) → List NamedPiece
pieces_in [] = []
pieces_in (e ∷ es) = put_ahead e.0 e.1.named.items (pieces_in es)

-- the records of the piece have the positions that they state
abbrev pub IsPlaced : ReplaySetting → List Record → NamedPiece → Type 0
IsPlaced s rs p = All (Stands s rs p.shard) p.named

-- the pieces without the first `count` records of the first
abbrev pub without_front : ℕ → List NamedPiece → List NamedPiece
without_front count [] = []
without_front count (p ∷ others) = put_ahead p.shard (drop count p.named) others

-- the records of the first piece
abbrev pub front_of : List NamedPiece → List Named
front_of [] = []
front_of (p ∷ others) = p.named

-- each piece has at least one record
abbrev pub HasNamed : NamedPiece → Type 0
HasNamed p = 1 ≤ length p.named

-- what waits: the pieces, and for how many more there is room
pub record Waiting : Type 0 where
  pub pieces : List NamedPiece
  pub room : ℕ
