use Rattle.std.proofs.Common.{◌≡◌, ◌-◌}
use Rattle.esm_journal_record.specs.Parsing.{names_at}
use Rattle.esm_journal_record.specs.Words.{test_of}
use Rattle.esm_journal_record.proofs.Parts.{with_front}
use Rattle.esm_journal_record.proofs.names.read_names.Given as goal

abbrev pub invariant-loop : goal.invariant-loop
invariant-loop l = with_front l.places.items l.texts (names_at (test_of l.word) (l.count - l.counter) l.rest) ≡ names_at (test_of l.word) l.count l.bytes
