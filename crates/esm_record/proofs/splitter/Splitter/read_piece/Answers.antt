use Rattle.std.proofs.Common.{◌≡◌, true, false}
use Rattle.std.specs.Prelude.{is_some}
use Rattle.esm_record.proofs.Steps.{on_ok, goes_start, goes_line, goes_bad, goes_tail}
use Rattle.esm_record.proofs.splitter.Splitter.read_piece.Goals as goal

pub returns-then-is_some-clause-read : goal.returns-then-is_some-clause-read
returns-then-is_some-clause-read c =
    let some : is_some c.end_line.new.self.bad ≡ true = cc in
    let start = goes_start c.args.piece.now c.args.items.now.items c.args.self.now c.requires.going c.requires.short in
    goes_bad c.args.piece.now c.args.piece.now c.in-Some.line.now c.in-Some.after.now c.args.items.now.items c.args.items.now.items c.end_line.new.items.items c.args.self.now c.args.self.now c.end_line.new.self start c.in-Some.ensures.some c.in_ok-end_line.ensures.stands c.in_ok-end_line.ensures.ended c.in_ok-end_line.ensures.kind some

pub returns-clause-read : goal.returns-clause-read
returns-clause-read c =
    let none : is_some c.end_line.new.self.bad ≡ false = cc in
    let start = goes_start c.args.piece.now c.args.items.now.items c.args.self.now c.requires.going c.requires.short in
    let line = goes_line c.args.piece.now c.args.piece.now c.in-Some.line.now c.in-Some.after.now c.args.items.now.items c.args.items.now.items c.end_line.new.items.items c.args.self.now c.args.self.now c.end_line.new.self start c.in-Some.ensures.some c.in_ok-end_line.ensures.stands c.in_ok-end_line.ensures.ended c.in_ok-end_line.ensures.kind none in
    on_ok c.read_chunks-2.result (λ more bytes before h. goes_tail c.args.piece.now c.in-Some.after.now c.args.items.now.items c.end_line.new.items.items c.read_chunks-2.new.items.items c.args.self.now c.end_line.new.self c.read_chunks-2.new.self line more bytes before h) c.read_chunks-2.ensures.read
