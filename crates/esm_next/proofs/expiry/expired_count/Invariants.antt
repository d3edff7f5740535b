use Rattle.std.proofs.Common.{◌≡◌, ◌≤◌}
use Rattle.std.specs.List.{prefix_len}
use Rattle.esm_model.specs.declared.limits.TheConstants.{MAX_EXPIRED}
use Rattle.esm_model.specs.Batches.{is_expired}
use Rattle.esm_ledger.specs.Ledger.{setting_of}
use Rattle.esm_next.proofs.expiry.expired_count.Given as goal

-- the places so far are expired, and not too many
abbrev pub invariant-loop-place : goal.invariant-loop-place
invariant-loop-place l = record {
  at : l.count ≡ l.place-index;
  old : l.count ≤ prefix_len (is_expired (setting_of l.ledger) l.shard l.now) l.places;
  few : l.count ≤ MAX_EXPIRED;
}
