-- A read or a write that comes after ones that did nothing is the first.
use Rattle.std.proofs.Common.{◌≡◌, ℕ, List, [], ◌++◌, take, Option, None, Some, Result, Ok, Err, IfOk, OnErr, IsErrAnd, sym, ap, subst, ◌∙◌}
use Rattle.std.proofs.lemmas.List.{append-nil}
use Rattle.std.specs.Io.KnownBytes.{Keeps, Consumes, Appends, ReadConsumes, WriteAppends}

keeps_keeps : (a b c : Option (List ℕ)) → Keeps a b → Keeps b c → Keeps a c
keeps_keeps None b c kept next = tt
keeps_keeps (Some xs) None c kept next = absurd kept
keeps_keeps (Some xs) (Some ys) None kept next = next
keeps_keeps (Some xs) (Some ys) (Some zs) kept next = next ∙ kept

keeps_consumes : (a b c : Option (List ℕ)) (bytes : List ℕ) → Keeps a b → Consumes b c bytes → Consumes a c bytes
keeps_consumes None b c bytes kept next = tt
keeps_consumes (Some xs) None c bytes kept next = absurd kept
keeps_consumes (Some xs) (Some ys) None bytes kept next = next
keeps_consumes (Some xs) (Some ys) (Some zs) bytes kept next = sym kept ∙ next

keeps_appends : (a b c : Option (List ℕ)) (bytes : List ℕ) → Keeps a b → Appends b c bytes → Appends a c bytes
keeps_appends None b c bytes kept next = tt
keeps_appends (Some xs) None c bytes kept next = absurd kept
keeps_appends (Some xs) (Some ys) None bytes kept next = next
keeps_appends (Some xs) (Some ys) (Some zs) bytes kept next = next ∙ ap (λ v. v ++ bytes) kept

-- what was appended was nothing
appends_none : (a c : Option (List ℕ)) → Appends a c [] → Keeps a c
appends_none None c next = tt
appends_none (Some xs) None next = next
appends_none (Some xs) (Some zs) next = next ∙ append-nil xs

-- a read that was interrupted did nothing
pub read_nothing : {E : Type 0} (P : E → Type 0) (a b c : Option (List ℕ)) (r : Result ℕ E) (buf : List ℕ) → Keeps a b → ReadConsumes b c r buf → IsErrAnd r P → Keeps a c
read_nothing P a b c (Ok n) buf kept done failed = absurd failed
read_nothing P a b c (Err e) buf kept done failed = keeps_keeps a b c kept done

pub read_after : {E : Type 0} (a b c : Option (List ℕ)) (r : Result ℕ E) (buf : List ℕ) → Keeps a b → ReadConsumes b c r buf → ReadConsumes a c r buf
read_after a b c (Ok n) buf kept done = (keeps_consumes a b c (take n buf) kept done.0, done.1)
read_after a b c (Err e) buf kept done = keeps_keeps a b c kept done

-- a write that was interrupted did nothing
pub write_nothing : {E : Type 0} (P : E → Type 0) (a b c : Option (List ℕ)) (r : Result ℕ E) (buf : List ℕ) → Keeps a b → WriteAppends b c r buf → IsErrAnd r P → Keeps a c
write_nothing P a b c (Ok n) buf kept done failed = absurd failed
write_nothing P a b c (Err e) buf kept done failed = keeps_keeps a b c kept done

-- where a write of nothing is told as a failure
pub write_after : {E : Type 0} (a b c : Option (List ℕ)) (r told : Result ℕ E) (buf : List ℕ) → Keeps a b → WriteAppends b c r buf → IfOk told (λ n. r ≡ Ok n) → OnErr told (IfOk r (λ n. n ≡ 0)) → WriteAppends a c told buf
write_after a b c r (Ok n) buf kept done same failed =
    keeps_appends a b c (take n buf) kept (subst (λ v. WriteAppends b c v buf) same done)
write_after a b c (Ok n) (Err e) buf kept done same failed =
    appends_none a c (keeps_appends a b c [] kept (subst (λ v. Appends b c (take v buf)) failed done))
write_after a b c (Err d) (Err e) buf kept done same failed = keeps_keeps a b c kept done
