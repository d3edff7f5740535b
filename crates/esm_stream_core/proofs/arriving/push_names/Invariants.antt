use Rattle.std.proofs.Common.{◌≡◌, ◌++◌, drop}
use Rattle.esm_journal_record.specs.Payload.{names_bytes}
use Rattle.esm_stream_core.specs.Gathered.{names_in}
use Rattle.esm_stream_core.proofs.arriving.push_names.Given as goal

abbrev pub invariant-loop-place : goal.invariant-loop-place
invariant-loop-place l =
    l.out.items ++ names_bytes (drop l.place-index l.places) (names_in l.first l.records (drop l.place-index l.places))
    ≡ l.initial.out.items ++ names_bytes l.places (names_in l.first l.records l.places)
