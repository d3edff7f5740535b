use Rattle.std.proofs.Common.{◌≡◌, ◌++◌, ◌∷◌, []}
use Rattle.std.proofs.lemmas.Result.{err_from_is_err_and}
use Rattle.esm_journal_record.specs.Parsing.{names_at}
use Rattle.esm_journal_record.specs.Words.{test_of}
use Rattle.esm_journal_record.proofs.Parts.{goes_on, ends, is_done}
use Rattle.esm_journal_record.proofs.names.read_names.Goals as goal

pub returns-in_err-place : goal.returns-in_err-place
returns-in_err-place c =
    let p = err_from_is_err_and c.from_residual-in_err-place.result c.from_residual-in_err-place.ensures.1 in
    rw (p.1, p.2) (ends c.in_err-place.field-0.0 (test_of c.args.word) c.loop.places.items c.loop.texts c.args.count c.loop.counter c.loop.rest.now (names_at (test_of c.args.word) c.args.count c.args.bytes.now) c.loop-test.true c.in_err-place.ensures.read c.loop.invariant)

pub loop-preserved : goal.loop-preserved
loop-preserved c =
    let more : c.push.new.self.items ≡ c.loop.places.items ++ c.in_ok-place.place ∷ [] = c.in_ok-push.ensures.items in
    let said = c.in_ok-texts-2.ensures in
    rw (more, said) (goes_on (test_of c.args.word) c.loop.places.items c.loop.texts c.args.count c.loop.counter c.loop.rest.now c.in_ok-place.place c.in_ok-place.text.now c.in_ok-place.after.now (names_at (test_of c.args.word) c.args.count c.args.bytes.now) c.loop-test.true c.in_ok-place.ensures.read c.loop.invariant)

pub returns : goal.returns
returns c =
    rw (c.from_vec-places.ensures, c.in_ok-texts-3.ensures) (is_done (test_of c.args.word) c.loop.places.items c.loop.texts c.args.count c.loop.counter c.loop.rest.now (names_at (test_of c.args.word) c.args.count c.args.bytes.now) c.loop-test.false c.loop.invariant)
