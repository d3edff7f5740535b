-- What is printed of a run's history before its report. This product's own.
use Rattle.std.specs.Prelude.{ℕ, Bool, true, false, List, []}
use Rattle.esm_model.specs.declared.config.Kind.{Kind}
use Rattle.esm_model.specs.declared.entry.Entry.{Entry}
use Rattle.esm_trace.specs.Trace.{trace_text}

-- the text of its trace, for a source of this kind, if the trace is asked for; nothing otherwise
abbrev pub front_text : Bool → Kind → List Entry → List ℕ
front_text true kind h = trace_text kind h
front_text false kind h = []
