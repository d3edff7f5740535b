use Rattle.std.proofs.Common.{◌≡◌, ◌++◌, drop}
use Rattle.json.specs.Lex.{between}
use Rattle.esm_ddb.specs.Lexemes.{mode_of, places_from}
use Rattle.esm_ddb.proofs.lexeme.places.Given as goal

abbrev pub invariant-loop-place : goal.invariant-loop-place
invariant-loop-place l = l.found.items ++ places_from (mode_of l.mode) l.place (drop l.place l.text) ≡ places_from between 0 l.text
