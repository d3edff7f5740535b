use Rattle.std.proofs.Common.{◌≡◌, ◌-◌, length}
use Rattle.esm_invoke.specs.ResponseRead.{Awaits}
use Rattle.esm_invoke.proofs.body.BodyReader.advance.Given as goal

abbrev pub invariant-loop : goal.invariant-loop
invariant-loop l = record { awaits : Awaits l.bytes l.self; head : l.self.head ≡ l.initial.self.head }

abbrev pub decreases-loop : goal.decreases-loop
decreases-loop l = length l.bytes - l.self.at
