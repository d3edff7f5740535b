use Rattle.std.proofs.Common.{◌∙◌, Err, ap, arith, refl, sym}
use Rattle.esm_registry.proofs.Commands.{same_state}
use Rattle.esm_registry.proofs.registry.Registry.apply.Goals as goal

pub obey-requires : goal.obey-requires
obey-requires g c = record { free = c.self.invariant.free; up = c.self.invariant.down_is ∙ c.if-self.false; said = c.self.invariant.said }

pub unreachable-requires : goal.unreachable-requires
unreachable-requires g c = c.in-Err-Down.ensures.obeys.writes.no_other (ap Err c.in-Err-Down.field-0-is)

pub invariant_of-self : goal.invariant_of-self
invariant_of-self g c = record { said = c.obey.ensures.obeys.said; free = c.obey.ensures.obeys.free; down_is = c.in-Ok.ensures.obeys.writes.up ∙ sym c.if-self.false }

pub invariant_of-self-in-Err-DiskFault : goal.invariant_of-self-in-Err-DiskFault
invariant_of-self-in-Err-DiskFault g c = record { said = c.obey.ensures.obeys.said; free = c.obey.ensures.obeys.free; down_is = c.in-Err-DiskFault.ensures.obeys.writes.fault (ap Err c.in-Err-DiskFault.field-0-is) }

pub invariant_of-self-in-Err-OutOfMemory : goal.invariant_of-self-in-Err-OutOfMemory
invariant_of-self-in-Err-OutOfMemory g c = record { said = c.obey.ensures.obeys.said; free = c.obey.ensures.obeys.free; down_is = ap (λ j. j.down) (c.in-Err-OutOfMemory.ensures.obeys.writes.no_memory (ap Err c.in-Err-OutOfMemory.field-0-is)) ∙ c.self.invariant.down_is }

pub returns-then-self : goal.returns-then-self
returns-then-self g c = record {
  answer = tt;
  mappings = tt;
  payloads = tt;
  up = tt;
  same_mappings = refl;
  same_payloads = refl;
  no_memory = λ e. refl;
  fault = λ e. cc;
  cause = λ e. cc;
  down = rw (← c.self.view_is) (λ e. (refl, c.self.invariant.down_is ∙ c.if-self.true));
  is_down = λ d. refl;
  any_moment = rw (← c.self.view_is) (λ honest up. let down = c.self.invariant.down_is ∙ c.if-self.true in (cc));
  kept = rw (← c.self.view_is) c.payloads.ensures.kept;
  stopped = rw (← c.self.view_is) c.payloads.ensures.stopped;
  registry = rw (← c.self.view_is) (record { said = c.self.invariant.said; distinct = c.created.ensures.distinct; given = c.created.ensures.given });
  honesty = refl;
  never_falls = omega arith;
}

pub returns-in-Ok : goal.returns-in-Ok
returns-in-Ok g c = record {
  answer = rw (← c.self.view_is) c.in-Ok.ensures.obeys.answers.answer;
  mappings = rw (← c.self.view_is) c.in-Ok.ensures.obeys.answers.mappings;
  payloads = rw (← c.self.view_is) c.in-Ok.ensures.obeys.writes.payloads;
  up = c.in-Ok.ensures.obeys.writes.up;
  same_mappings = tt;
  same_payloads = tt;
  no_memory = λ e. cc;
  fault = λ e. cc;
  cause = λ e. cc;
  down = λ e. cc;
  is_down = rw (← c.self.view_is) (λ d. let up = c.self.invariant.down_is ∙ c.if-self.false in (cc));
  any_moment = rw (← c.self.view_is) (λ honest up. c.obey.ensures.obeys.writes.any_moment honest);
  kept = c.obey.ensures.kept;
  stopped = c.obey.ensures.stopped;
  registry = record { said = c.obey.ensures.obeys.said; distinct = c.obey.ensures.distinct; given = c.obey.ensures.given };
  honesty = rw (← c.self.view_is) c.obey.ensures.obeys.writes.honesty;
  never_falls = rw (← c.self.view_is) c.obey.ensures.obeys.writes.never_falls;
}

pub returns-in-Err-DiskFault : goal.returns-in-Err-DiskFault
returns-in-Err-DiskFault g c = record {
  answer = tt;
  mappings = tt;
  payloads = tt;
  up = tt;
  same_mappings = rw (← c.self.view_is) c.in-Err-DiskFault.ensures.obeys.answers.same;
  same_payloads = rw (← c.self.view_is) c.in-Err-DiskFault.ensures.obeys.writes.same;
  no_memory = λ e. cc;
  fault = λ e. c.in-Err-DiskFault.ensures.obeys.writes.fault (ap Err c.in-Err-DiskFault.field-0-is);
  cause = rw (← c.self.view_is) (λ e. c.in-Err-DiskFault.ensures.obeys.writes.cause (ap Err c.in-Err-DiskFault.field-0-is));
  down = λ e. cc;
  is_down = rw (← c.self.view_is) (λ d. let up = c.self.invariant.down_is ∙ c.if-self.false in (cc));
  any_moment = rw (← c.self.view_is) (λ honest up. c.obey.ensures.obeys.writes.any_moment honest);
  kept = c.obey.ensures.kept;
  stopped = c.obey.ensures.stopped;
  registry = record { said = c.obey.ensures.obeys.said; distinct = c.obey.ensures.distinct; given = c.obey.ensures.given };
  honesty = rw (← c.self.view_is) c.obey.ensures.obeys.writes.honesty;
  never_falls = rw (← c.self.view_is) c.obey.ensures.obeys.writes.never_falls;
}

pub returns-in-Err-OutOfMemory : goal.returns-in-Err-OutOfMemory
returns-in-Err-OutOfMemory g c = record {
  answer = tt;
  mappings = tt;
  payloads = tt;
  up = tt;
  same_mappings = rw (← c.self.view_is) c.in-Err-OutOfMemory.ensures.obeys.answers.same;
  same_payloads = rw (← c.self.view_is) c.in-Err-OutOfMemory.ensures.obeys.writes.same;
  no_memory = λ e.
      same_state c.self.inside.table.mappings c.obey.new.table.mappings c.self.inside.journal c.obey.new.journal c.in-Err-OutOfMemory.ensures.obeys.answers.same (c.in-Err-OutOfMemory.ensures.obeys.writes.no_memory (ap Err c.in-Err-OutOfMemory.field-0-is)) ∙ c.self.view_is;
  fault = λ e. cc;
  cause = λ e. cc;
  down = λ e. cc;
  is_down = rw (← c.self.view_is) (λ d. let up = c.self.invariant.down_is ∙ c.if-self.false in (cc));
  any_moment = rw (← c.self.view_is) (λ honest up. c.obey.ensures.obeys.writes.any_moment honest);
  kept = c.obey.ensures.kept;
  stopped = c.obey.ensures.stopped;
  registry = record { said = c.obey.ensures.obeys.said; distinct = c.obey.ensures.distinct; given = c.obey.ensures.given };
  honesty = rw (← c.self.view_is) c.obey.ensures.obeys.writes.honesty;
  never_falls = rw (← c.self.view_is) c.obey.ensures.obeys.writes.never_falls;
}
