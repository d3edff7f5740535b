-- Lists of replies with one more at the end. Only this crate's proofs cite this.
use Rattle.std.specs.Prelude.{List, [], ◌∷◌, ◌++◌, Option, Some, None}
use Rattle.esm_model.specs.declared.entry.Reply.{Reply}

-- the lists with one more, if both are there
abbrev pub with_last : Option (List (List Reply)) → Option (List Reply) → Option (List (List Reply))
with_last (Some lists) (Some replies) = Some (lists ++ replies ∷ [])
with_last _ _ = None
