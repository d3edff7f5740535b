-- The callers below those of a run. Only this crate's proofs cite this.
use Rattle.std.specs.Prelude.{List, [], ◌∷◌}
use Rattle.esm_ddb.specs.declared.caller.DdbCaller.{DdbCaller}

-- the callers below these, in their order
abbrev pub callers_under : {F : Type 0} → List (DdbCaller F) → List F
callers_under [] = []
callers_under (c ∷ cs) = c.inner ∷ callers_under cs
