-- Which calls of a form in memory are to fail. This product's own.
use Rattle.std.specs.Prelude.{ℕ, ◌+◌, ◌==◌, min, Bool, List, if◌then◌else◌}
use Rattle.std.specs.List.{list_any}
use Rattle.esm_io.specs.Faults.{MAX_FAULTS}

-- the numbers of the calls that are to fail, counted from 0; the calls so far; the faults so far
pub record ScheduleState : Type 0 where
  pub fails : List ℕ
  pub calls : ℕ
  pub faults : ℕ

-- one more, capped at the greatest count
abbrev pub one_more : ℕ → ℕ
one_more n = min (n + 1) MAX_FAULTS

-- the next call is to fail
abbrev pub is_due : ScheduleState → Bool
is_due s = list_any (λ n. n == s.calls) s.fails

abbrev pub after_fault : ScheduleState → ScheduleState
after_fault s = record { fails = s.fails; calls = s.calls; faults = one_more s.faults }

-- a call was made and failed
abbrev pub after_failure : ScheduleState → ScheduleState
after_failure s = record { fails = s.fails; calls = one_more s.calls; faults = one_more s.faults }

-- a call was made; it is a fault if it is to fail
abbrev pub after_call : ScheduleState → ScheduleState
after_call s = record { fails = s.fails; calls = one_more s.calls; faults = if is_due s then one_more s.faults else s.faults }
