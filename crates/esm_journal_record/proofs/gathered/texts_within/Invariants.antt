use Rattle.std.proofs.Common.{◌≡◌}
use Rattle.esm_journal_record.specs.Gathered.{parts_in}
use Rattle.esm_journal_record.proofs.gathered.texts_within.Given as goal

abbrev pub invariant-loop-part : goal.invariant-loop-part
invariant-loop-part l = l.texts.items ≡ parts_in l.text l.yielded
