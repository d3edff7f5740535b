use Rattle.std.proofs.Common.{◌≡◌, ◌∙◌, ◌≤◌, ◌+◌, ◌++◌, List, ℕ, arith, ap, length}
use Rattle.esm_ddb.specs.FailureLine.{ddb_line}
use Rattle.esm_ddb.proofs.Lengths.{ddb_line_short, ddb_line_size}
use Rattle.esm_ddb.proofs.dest.DdbDestDest.deliver.Goals as goal

pub deliver-requires-clause-short : goal.deliver-requires-clause-short
deliver-requires-clause-short g c =
    let text : c.as_slice.result.now ≡ ddb_line c.args.line.now = c.as_slice.ensures.value ∙ (c.in-Ok.ensures.text ∙ ap (λ (t : List ℕ). t ++ ddb_line c.args.line.now) c.clear.ensures.items) in
    omega (arith, ap length text, ddb_line_short c.args.line.now c.requires.short)

pub returns-in-Ok-clause-room : goal.returns-in-Ok-clause-room
returns-in-Ok-clause-room g c = λ short room.
    let text : c.as_slice.result.now ≡ ddb_line c.args.line.now = c.as_slice.ensures.value ∙ (c.in-Ok.ensures.text ∙ ap (λ (t : List ℕ). t ++ ddb_line c.args.line.now) c.clear.ensures.items) in
    let fits : length c.as_slice.result.now ≤ length c.args.line.now + 2 = omega (arith, ap length text, ddb_line_size c.args.line.now) in
    c.deliver.ensures.room short (room.0 (length c.as_slice.result.now) fits)
