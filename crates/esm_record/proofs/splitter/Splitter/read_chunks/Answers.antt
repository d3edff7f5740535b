use Rattle.std.proofs.Common.{◌≡◌, true, false, lit≤}
use Rattle.std.specs.Prelude.{is_some}
use Rattle.esm_record.proofs.Steps.{on_ok, goes_start, goes_chunk, chunk_bad, goes_end}
use Rattle.esm_record.proofs.splitter.Splitter.read_chunks.Goals as goal

pub loop-chunk-init : goal.loop-chunk-init
loop-chunk-init c = (goes_start c.args.piece.now c.args.items.now.items c.args.self.now c.requires.going (let nothing = c.requires.fresh in rw nothing (lit≤ tt)), c.requires.fresh)

pub returns-then-is_some-clause-read : goal.returns-then-is_some-clause-read
returns-then-is_some-clause-read c =
    let some : is_some c.read_chunk.new.self.bad ≡ true = cc in
    chunk_bad c.args.piece.now c.loop-chunk.rest.now c.in-Some.chunk.now c.in-Some.after.now c.args.items.now.items c.loop-chunk.items.items c.read_chunk.new.items.items c.args.self.now c.loop-chunk.self c.read_chunk.new.self c.loop-chunk.invariant c.in-Some.ensures.parts c.in_ok-read_chunk.ensures.read some

pub loop-chunk-preserved : goal.loop-chunk-preserved
loop-chunk-preserved c =
    let none : is_some c.read_chunk.new.self.bad ≡ false = cc in
    goes_chunk c.args.piece.now c.loop-chunk.rest.now c.in-Some.chunk.now c.in-Some.after.now c.args.items.now.items c.loop-chunk.items.items c.read_chunk.new.items.items c.args.self.now c.loop-chunk.self c.read_chunk.new.self c.loop-chunk.invariant c.in-Some.ensures.parts c.in_ok-read_chunk.ensures.read c.in_ok-read_chunk.ensures.fresh c.in_ok-read_chunk.ensures.kind none

pub returns-clause-read : goal.returns-clause-read
returns-clause-read c = on_ok c.begin_line.result (λ more bytes before h. goes_end c.args.piece.now c.loop-chunk.rest.now c.args.items.now.items c.loop-chunk.items.items c.args.self.now c.loop-chunk.self c.begin_line.new.self c.loop-chunk.invariant.0 more bytes before h) c.begin_line.ensures.read
