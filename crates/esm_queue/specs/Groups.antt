-- What holds of the groups of a queue's messages. This product's own; cited by this crate's proofs alone.
use Rattle.std.specs.Prelude.{ℕ, ◌-◌, min, List, length}
use Rattle.std.specs.Vec.{vec_len, vec_capacity}
use Rattle.esm_queue_model.specs.declared.stored.Stored.{Stored}
use Rattle.esm_queue.specs.declared.groups.Groups.{Groups}
use Rattle.esm_queue.specs.Links.{IsFounded, IsLinked, IsHeaded}
use Rattle.esm_queue.specs.Names.{IsChained}

pub record IsGrouped (messages : List Stored) (g : Groups) : Type 0 where
  pub founded : IsFounded g.fifo messages g.links.items
  pub linked : IsLinked messages g.links.items
  pub chained : IsChained (length g.buckets.items) messages g.links.items g.buckets.items

-- the heads show at these moments
abbrev pub IsHeadedBy : List ℕ → Groups → Type 0
IsHeadedBy moments g = IsHeaded moments g.links.items g.heads.moments

-- for how many more messages there is room
abbrev pub room : Groups → ℕ
room g = min (vec_capacity g.links - vec_len g.links) g.heads.spare
