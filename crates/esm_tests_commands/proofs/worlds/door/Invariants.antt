use Rattle.std.specs.List.{All}
use Rattle.esm_io.specs.Forms.{IsUnused}
use Rattle.esm_tests_commands.proofs.worlds.door.Given as goal

abbrev pub invariant-loop-text : goal.invariant-loop-text
invariant-loop-text l = All IsUnused l.links.items
