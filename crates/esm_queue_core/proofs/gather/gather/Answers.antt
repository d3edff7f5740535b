use Rattle.std.proofs.Common.{◌≡◌, ◌∙◌, ◌+◌, ◌++◌, ◌∷◌, [], List, ℕ, arith, get_or, length, length-append, take, sym, ap}
use Rattle.esm_model.specs.declared.received.Received.{Received}
use Rattle.esm_model.specs.QueueEvent.{queue_record_text}
use Rattle.esm_queue_core.specs.Choosing.{received, fits_in}
use Rattle.esm_queue_core.proofs.Cutting.{cut_stops, cut_goes, cut_ends}
use Rattle.esm_queue_core.proofs.Gathered.{message_bytes, bytes_more, received_valid, received_more, fits_not_count, fits_not_bytes, fits_yes}
use Rattle.esm_queue_core.proofs.gather.gather.Goals as goal

pub queue_bytes-requires-clause-item : goal.queue_bytes-requires-clause-item
queue_bytes-requires-clause-item c =
    received_valid c.args.config.now.kind c.args.now c.args.queue.now.state (get_or c.args.places.now c.loop-i.i 0) c.in_ok-item.item c.requires.in_time c.requires.stored c.in_ok-item.ensures

pub returns-then-i-full-clause-longest : goal.returns-then-i-full-clause-longest
returns-then-i-full-clause-longest c =
    let config = c.args.config.now in
    let q = c.args.queue.now.state in
    let xs = c.args.places.now in
    let i = c.loop-i.i in
    let fails = fits_not_count config q c.args.now xs i c.loop-i-test.true c.if-i-full.true in
    ap (λ (n : ℕ). take n xs) c.loop-i.invariant.count ∙ cut_stops (fits_in config q c.args.now) xs i c.loop-i-test.true fails c.loop-i.invariant.so_far

pub returns-then-i-full-clause-messages : goal.returns-then-i-full-clause-messages
returns-then-i-full-clause-messages c =
    c.loop-i.invariant.items ∙ ap (λ (n : ℕ). received c.args.now c.args.queue.now.state (take n c.args.places.now)) (sym c.loop-i.invariant.count)

pub returns-then-event-clause-longest : goal.returns-then-event-clause-longest
returns-then-event-clause-longest c =
    let config = c.args.config.now in
    let q = c.args.queue.now.state in
    let xs = c.args.places.now in
    let i = c.loop-i.i in
    let inv = c.loop-i.invariant in
    let bytes = inv.bytes in
    let fails = fits_not_bytes config q c.args.now xs i c.loop-i-test.true c.in_ok-item.item c.in_ok-item.ensures c.loop-i.batch.items inv.items inv.count (omega (arith, bytes, c.queue_bytes.ensures, c.if-event.true)) in
    ap (λ (n : ℕ). take n xs) inv.count ∙ cut_stops (fits_in config q c.args.now) xs i c.loop-i-test.true fails inv.so_far

pub returns-then-event-clause-messages : goal.returns-then-event-clause-messages
returns-then-event-clause-messages c =
    c.loop-i.invariant.items ∙ ap (λ (n : ℕ). received c.args.now c.args.queue.now.state (take n c.args.places.now)) (sym c.loop-i.invariant.count)

pub loop-i-preserved : goal.loop-i-preserved
loop-i-preserved c =
    let config = c.args.config.now in
    let q = c.args.queue.now.state in
    let xs = c.args.places.now in
    let i = c.loop-i.i in
    let item = c.in_ok-item.item in
    let inv = c.loop-i.invariant in
    let bytes = inv.bytes in
    let count = inv.count in
    let pushed = c.in_ok-push.ensures.items in
    let grown : message_bytes config c.push.new.self.items ≡ message_bytes config c.loop-i.batch.items + length (queue_record_text config item) = ap (message_bytes config) pushed ∙ bytes_more config c.loop-i.batch.items item in
    let longer : length c.push.new.self.items ≡ length c.loop-i.batch.items + 1 = ap length pushed ∙ length-append c.loop-i.batch.items (item ∷ []) in
    let passes = fits_yes config q c.args.now xs i c.loop-i-test.true item c.in_ok-item.ensures c.loop-i.batch.items inv.items inv.count c.if-i-full.false (omega (arith, bytes, c.queue_bytes.ensures, c.if-event.false)) in
    record {
      so_far = cut_goes (fits_in config q c.args.now) xs i c.loop-i-test.true passes inv.so_far;
      items = pushed ∙ (ap (λ (rs : List Received). rs ++ item ∷ []) inv.items ∙ sym (received_more c.args.now q xs i item c.loop-i-test.true c.in_ok-item.ensures));
      count = omega (arith, longer, count);
      bytes = omega (arith, bytes, grown, c.queue_bytes.ensures);
      small = omega (arith, c.if-event.false);
    }

pub returns-clause-longest : goal.returns-clause-longest
returns-clause-longest c =
    let q = c.args.queue.now.state in
    let xs = c.args.places.now in
    ap (λ (n : ℕ). take n xs) c.loop-i.invariant.count ∙ cut_ends (fits_in c.args.config.now q c.args.now) xs c.loop-i.i (omega (arith, c.loop-i-test.false)) c.loop-i.invariant.so_far

pub returns-clause-messages : goal.returns-clause-messages
returns-clause-messages c =
    c.loop-i.invariant.items ∙ ap (λ (n : ℕ). received c.args.now c.args.queue.now.state (take n c.args.places.now)) (sym c.loop-i.invariant.count)
