-- Places of groups, cut into pieces of at most 10,000 places of one group. This product's own.
use Rattle.std.specs.Prelude.{ℕ, ◌==◌, nat_lt, Bool, ◌&&◌, List, [], ◌∷◌, ◌++◌, length, reverse, if◌then◌else◌}
use Rattle.std.specs.Ordering.{nat_cmp, ordering_then}
use Rattle.std.specs.declared.cmp.Ordering.{Ordering}
use Rattle.esm_model.specs.declared.limits.TheConstants.{MAX_BATCH}
use Rattle.esm_journal_state.specs.SaidLists.{pair_cmp}

-- a group and a place; the group of a fate is its shard and the byte of the fate, that of tries the shard and the number
abbrev pub Key : Type 0
Key = (ℕ × ℕ) × ℕ

-- a key, and the text that is kept of the place
abbrev pub Entry : Type 0
Entry = Key × List ℕ

-- by group, and then by place
abbrev pub key_cmp : Key → Key → Ordering
key_cmp x y = ordering_then (pair_cmp x.0 y.0) (nat_cmp x.1 y.1)

-- places of one group with their texts
pub record Piece : Type 0 where
  pub group : ℕ × ℕ
  pub places : List ℕ
  pub texts : List (List ℕ)

-- a piece of one place
abbrev pub piece_of : Entry → Piece
piece_of e = record { group = e.0.0; places = e.0.1 ∷ []; texts = e.1 ∷ [] }

-- the place is of the piece's group, and the piece is not full
abbrev pub has_room : Piece → ℕ × ℕ → Bool
has_room p group = (p.group.0 == group.0) && (p.group.1 == group.1) && nat_lt (length p.places) MAX_BATCH

abbrev pub grown : Piece → Entry → Piece
grown p e = record { group = p.group; places = p.places ++ e.0.1 ∷ []; texts = p.texts ++ e.1 ∷ [] }

-- the pieces, the newest first, with one more place
abbrev pub piece_after : List Piece → Entry → List Piece
piece_after [] e = piece_of e ∷ []
piece_after (p ∷ ps) e = if has_room p e.0.0 then grown p e ∷ ps else piece_of e ∷ p ∷ ps

-- the pieces with more places
abbrev pub pieces_after : List Piece → List Entry → List Piece
pieces_after ps [] = ps
pieces_after ps (e ∷ es) = pieces_after (piece_after ps e) es

-- the pieces of places in order
abbrev pub pieces : List Entry → List Piece
pieces es = reverse (pieces_after [] es)
