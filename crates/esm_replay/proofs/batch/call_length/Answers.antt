use Rattle.std.proofs.Common.{◌≡◌, ◌∙◌, ◌+◌, ◌++◌, ◌∷◌, [], List, ℕ, Some, inl, inr, arith, length, length-append, refl, take, ap}
use Rattle.std.proofs.lemmas.Bool.{cases_lt}
use Rattle.std.proofs.lemmas.List.{length-map}
use Rattle.esm_model.specs.Records.{Record}
use Rattle.esm_model.specs.EventText.{record_text}
use Rattle.esm_replay.specs.declared.rows.Named.{Named}
use Rattle.esm_replay.specs.Rows.{places_of}
use Rattle.esm_replay.specs.Batch.{record_named, records_named, fits_for}
use Rattle.esm_replay.proofs.Gathered.{cut_stops, cut_goes, cut_ends, element_bytes, bytes_more, records_more, fits_not_count, fits_not_bytes, fits_yes, some_in_batch, named_valid}
use Rattle.esm_replay.proofs.batch.call_length.Goals as goal

pub returns-then-i-full-clause-longest : goal.returns-then-i-full-clause-longest
returns-then-i-full-clause-longest c = λ s n placed.
    let ds = c.args.named.now in
    let xs = places_of ds in
    let i = c.loop-i.i in
    let fails = fits_not_count s c.args.config.now c.args.records.now n ds i placed c.loop-i-test.true c.if-i-full.true in
    cut_stops (fits_for s n) xs i (omega (arith, length-map ds (λ (d : Named). d.place), c.loop-i-test.true)) fails (c.loop-i.invariant.so_far s n placed)

pub returns-then-event-clause-longest : goal.returns-then-event-clause-longest
returns-then-event-clause-longest c = λ s n placed.
    let rs : List Record = c.args.records.now in
    let ds : List Named = c.args.named.now in
    let xs = places_of ds in
    let i = c.loop-i.i in
    let r : Record = c.record_named-item.result.now in
    let inv = c.loop-i.invariant in
    let bytes = inv.bytes in
    let at : record_named rs ds i ≡ Some r = c.record_named-item.ensures in
    let fails = fits_not_bytes s c.args.config.now rs n ds i placed c.loop-i-test.true r at (records_named rs (take i ds)) refl inv.count (omega (arith, bytes, c.stream_bytes.ensures.value, c.if-event.true)) in
    cut_stops (fits_for s n) xs i (omega (arith, length-map ds (λ (x : Named). x.place), c.loop-i-test.true)) fails (inv.so_far s n placed)

pub loop-i-preserved : goal.loop-i-preserved
loop-i-preserved c =
    let rs : List Record = c.args.records.now in
    let ds : List Named = c.args.named.now in
    let xs = places_of ds in
    let i = c.loop-i.i in
    let r : Record = c.record_named-item.result.now in
    let inv = c.loop-i.invariant in
    let bytes = inv.bytes in
    let count = inv.count in
    let at : record_named rs ds i ≡ Some r = c.record_named-item.ensures in
    let batch : List Record = records_named rs (take i ds) in
    let more : records_named rs (take (i + 1) ds) ≡ batch ++ r ∷ [] = records_more rs ds i r at in
    let grown : element_bytes c.args.config.now (records_named rs (take (i + 1) ds)) ≡ element_bytes c.args.config.now batch + length (record_text c.args.config.now r) = ap (element_bytes c.args.config.now) more ∙ bytes_more c.args.config.now batch r in
    let longer : length (records_named rs (take (i + 1) ds)) ≡ length batch + 1 = ap (λ (ys : List Record). length ys) more ∙ length-append batch (r ∷ []) in
    record {
      so_far = λ s n placed.
          let passes = fits_yes s c.args.config.now rs n ds i placed c.loop-i-test.true r at batch refl count c.if-i-full.false (omega (arith, bytes, c.stream_bytes.ensures.value, c.if-event.false)) in
          cut_goes (fits_for s n) xs i (omega (arith, length-map ds (λ (x : Named). x.place), c.loop-i-test.true)) passes (inv.so_far s n placed);
      count = omega (arith, longer, count);
      bytes = omega (arith, bytes, grown, c.stream_bytes.ensures.value);
      small = omega (arith, c.if-event.false);
      first = λ none. absurd (omega arith);
    }

pub returns-clause-longest : goal.returns-clause-longest
returns-clause-longest c = λ s n placed.
    let ds : List Named = c.args.named.now in
    let end : length ds ≡ c.loop-i.i = omega (arith, c.loop-i-test.false, c.loop-i.auto.i-end) in
    ap (λ (k : ℕ). take k (places_of ds)) end ∙ cut_ends (fits_for s n) (places_of ds) c.loop-i.i (omega (arith, length-map ds (λ (x : Named). x.place), c.loop-i-test.false)) (c.loop-i.invariant.so_far s n placed)

pub returns-then-i-full-clause-some : goal.returns-then-i-full-clause-some
returns-then-i-full-clause-some c = λ some. (let size = some_in_batch c.args.config.now c.requires.config in omega (arith, size, c.if-i-full.true))

pub returns-then-event-clause-some : goal.returns-then-event-clause-some
returns-then-event-clause-some c = λ some.
    elim (cases_lt 0 c.loop-i.i) [
      | inl later ↦ omega (arith, later)
      | inr none ↦
          (let zero' : c.loop-i.i ≡ 0 = omega arith in
          let bytes : c.loop-i.bytes ≡ 14 = c.loop-i.invariant.first zero' in
          absurd (omega (arith, bytes, c.stream_bytes.ensures.bound, c.if-event.true)))
    ]

pub stream_bytes-requires-clause-item : goal.stream_bytes-requires-clause-item
stream_bytes-requires-clause-item c = named_valid c.args.records.now c.args.named.now c.loop-i.i c.record_named-item.result.now c.requires.valid c.record_named-item.ensures
