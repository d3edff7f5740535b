use Rattle.std.proofs.Common.{◌≡◌, ◌+◌, ◌≤◌, ◌∙◌, true, false, get_or, sym, arith}
use Rattle.std.specs.List.{prefix_len}
use Rattle.esm_model.specs.declared.limits.TheConstants.{MAX_EXPIRED}
use Rattle.esm_model.specs.Batches.{is_expired}
use Rattle.esm_ledger.specs.Ledger.{setting_of}
use Rattle.esm_next.proofs.Expiries.{prefix_within, prefix_more, prefix_stops, taken_full, taken_whole}
use Rattle.esm_next.proofs.expiry.expired_count.Goals as goal

-- the bound is reached
pub returns-then-count-eq-MAX_EXPIRED-clause-prefix : goal.returns-then-count-eq-MAX_EXPIRED-clause-prefix
returns-then-count-eq-MAX_EXPIRED-clause-prefix c =
    taken_full (is_expired (setting_of c.args.ledger.now) c.args.shard c.args.now) c.args.places.now c.loop-place.count MAX_EXPIRED (omega arith) c.loop-place.invariant.old

-- the first that is not expired
pub returns-then-not-is_expired-clause-prefix : goal.returns-then-not-is_expired-clause-prefix
returns-then-not-is_expired-clause-prefix c =
    let p = is_expired (setting_of c.args.ledger.now) c.args.shard c.args.now in
    let xs = c.args.places.now in
    let i = c.loop-place.place-index in
    let at : c.loop-place.count ≡ i = c.loop-place.invariant.at in
    let old : c.loop-place.count ≤ prefix_len p xs = c.loop-place.invariant.old in
    let fails : p (get_or xs i 0) ≡ false = sym c.is_expired.ensures ∙ c.if-not-is_expired.true in
    let stops : prefix_len p xs ≡ i = prefix_stops p xs i 0 (omega (arith, at, old)) c.loop-place-test.true fails in
    taken_whole p xs c.loop-place.count MAX_EXPIRED (stops ∙ sym at) c.loop-place.invariant.few

-- all are expired
pub returns-clause-prefix : goal.returns-clause-prefix
returns-clause-prefix c =
    let p = is_expired (setting_of c.args.ledger.now) c.args.shard c.args.now in
    let xs = c.args.places.now in
    let at : c.loop-place.count ≡ c.loop-place.place-index = c.loop-place.invariant.at in
    let old : c.loop-place.count ≤ prefix_len p xs = c.loop-place.invariant.old in
    let within = prefix_within p xs in
    let whole : prefix_len p xs ≡ c.loop-place.count = omega (arith, at, old, within) in
    taken_whole p xs c.loop-place.count MAX_EXPIRED whole c.loop-place.invariant.few

-- one more that is expired
pub loop-place-preserved : goal.loop-place-preserved
loop-place-preserved c =
    let p = is_expired (setting_of c.args.ledger.now) c.args.shard c.args.now in
    let xs = c.args.places.now in
    let i = c.loop-place.place-index in
    let at : c.loop-place.count ≡ i = c.loop-place.invariant.at in
    let old : c.loop-place.count ≤ prefix_len p xs = c.loop-place.invariant.old in
    let few : c.loop-place.count ≤ MAX_EXPIRED = c.loop-place.invariant.few in
    let passes : p (get_or xs i 0) ≡ true = sym c.is_expired.ensures ∙ c.if-not-is_expired.false in
    let more : i + 1 ≤ prefix_len p xs = prefix_more p xs i 0 (omega (arith, at, old)) c.loop-place-test.true passes in
    record {
      at = omega (arith, at);
      old = omega (arith, at, more);
      few = omega (arith, few);
    }
