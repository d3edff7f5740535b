-- Two clauses on one result.
use Rattle.std.specs.Prelude.{Result, Ok, Err, IfOk}

pub both_ok : {X E : Type 0} (r : Result X E) (A B C : X → Type 0) → ((x : X) → A x → B x → C x) → IfOk r A → IfOk r B → IfOk r C
both_ok (Ok x) A B C join a b = join x a b
both_ok (Err e) A B C join a b = tt
