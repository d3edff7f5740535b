use Rattle.std.proofs.Common.{◌++◌, ℕ, ◌-◌, ◌<◌, length, get_or, refl, arith}
use Rattle.std.specs.Prelude.{slice_get}
use Rattle.std.proofs.lemmas.Option.{slice_get_read}
use Rattle.esm_journal_record.specs.Payload.{names_bytes}
use Rattle.esm_stream_core.specs.Gathered.{names_in}
use Rattle.esm_stream_core.proofs.Names.{name_next}
use Rattle.esm_stream_core.proofs.arriving.push_names.Goals as goal

pub loop-place-preserved : goal.loop-place-preserved
loop-place-preserved c =
    let x = c.args in
    let at = c.loop-place in
    let xs = c.args.places.now in
    let rs = c.args.records.now in
    let low : at.place-index < length c.args.places.now = omega arith in
    let from = c.requires at.place-index 0 low in
    let place = get_or c.args.places.now at.place-index 0 in
    let r = c.index-records-place.result in
    let inside : get_or c.args.places.now at.place-index 0 - c.args.first < length c.args.records.now = (let a = from.0 in let b = from.1 in omega (arith, a, b)) in
    name_next (λ (i : ℕ). slice_get rs (i - x.first)) xs at.place-index r at.out.items c.push_sequence.new.out.items (x.out.now.items ++ names_bytes xs (names_in x.first rs xs)) low
    (slice_get_read rs (length rs) (place - c.args.first) r refl inside c.index-records-place.is)
    c.in_ok-push_sequence.ensures
    at.invariant
