use Rattle.std.proofs.Common.{◌≡◌, ◌<◌, ◌-◌, true, length, get_or, arith}
use Rattle.std.proofs.lemmas.List.Elements.{All-get_or}
use Rattle.esm_model.specs.Entries.{came_count}
use Rattle.esm_model.specs.Fates.{lacks_fate}
use Rattle.esm_ledger.specs.Ledger.{past_of, setting_of}
use Rattle.esm_next.proofs.expiry.failure.Goals as goal

pub edge_of-requires-clause-came : goal.edge_of-requires-clause-came
edge_of-requires-clause-came c =
    let some = c.requires.some in
    All-get_or (λ p. p < came_count (past_of c.args.ledger.now) c.args.shard) c.args.places.now 0 0 (omega (arith, some)) c.requires.came

pub edge_of-requires-clause-open : goal.edge_of-requires-clause-open
edge_of-requires-clause-open c =
    let some = c.requires.some in
    All-get_or (λ i. lacks_fate (setting_of c.args.ledger.now) (past_of c.args.ledger.now) c.args.shard i ≡ true) c.args.places.now 0 0 (omega (arith, some)) c.requires.open

pub edge_of-requires-2-clause-open : goal.edge_of-requires-2-clause-open
edge_of-requires-2-clause-open c =
    let some = c.requires.some in
    All-get_or (λ i. lacks_fate (setting_of c.args.ledger.now) (past_of c.args.ledger.now) c.args.shard i ≡ true) c.args.places.now (length c.args.places.now - 1) 0 (omega (arith, some)) c.requires.open

pub edge_of-requires-2-clause-came : goal.edge_of-requires-2-clause-came
edge_of-requires-2-clause-came c =
    let some = c.requires.some in
    All-get_or (λ p. p < came_count (past_of c.args.ledger.now) c.args.shard) c.args.places.now (length c.args.places.now - 1) 0 (omega (arith, some)) c.requires.came

pub calls_of-requires-clause-came : goal.calls_of-requires-clause-came
calls_of-requires-clause-came c =
    let some = c.requires.some in
    All-get_or (λ p. p < came_count (past_of c.args.ledger.now) c.args.shard) c.args.places.now 0 0 (omega (arith, some)) c.requires.came

pub response_of-requires-clause-came : goal.response_of-requires-clause-came
response_of-requires-clause-came c =
    let some = c.requires.some in
    All-get_or (λ p. p < came_count (past_of c.args.ledger.now) c.args.shard) c.args.places.now 0 0 (omega (arith, some)) c.requires.came

pub returns-clause-valid : goal.returns-clause-valid
returns-clause-valid c =
    let some = c.requires.some in
    let first : get_or c.args.places.now 0 0 < came_count (past_of c.args.ledger.now) c.args.shard = All-get_or (λ p. p < came_count (past_of c.args.ledger.now) c.args.shard) c.args.places.now 0 0 (omega (arith, some)) c.requires.came in
    record {
      shard = c.requires.bounds.shards c.args.shard (omega (arith, first));
      first_arrival = c.in_ok-first.ensures.early;
      last_arrival = c.in_ok-last.ensures.early;
      moment = c.requires.moment;
    }
