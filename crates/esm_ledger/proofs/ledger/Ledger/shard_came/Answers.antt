use Rattle.std.proofs.Common.{refl}
use Rattle.esm_ledger.proofs.ShardChanges.{found_at, read_at}
use Rattle.esm_ledger.proofs.ledger.Ledger.shard_came.Goals as goal

pub came-requires-clause-room : goal.came-requires-clause-room
came-requires-clause-room c =
    let here = found_at c.args.self.now c.args.shard c.in-Some.at c.index_mut.result.now c.in-Some.ensures.at c.index_mut.ensures.value in
    (c.requires.fits c.index_mut.result.now here).room

pub came-requires-clause-few : goal.came-requires-clause-few
came-requires-clause-few c =
    let here = found_at c.args.self.now c.args.shard c.in-Some.at c.index_mut.result.now c.in-Some.ensures.at c.index_mut.ensures.value in
    (c.requires.fits c.index_mut.result.now here).few

pub came-requires-clause-within : goal.came-requires-clause-within
came-requires-clause-within c =
    let here = found_at c.args.self.now c.args.shard c.in-Some.at c.index_mut.result.now c.in-Some.ensures.at c.index_mut.ensures.value in
    (c.requires.fits c.index_mut.result.now here).within

pub returns-in-None-clause-took : goal.returns-in-None-clause-took
returns-in-None-clause-took c = absurd (c.in-None.ensures.none c.requires.some.0 c.requires.some.1)

pub returns-in-Some-clause-took : goal.returns-in-Some-clause-took
returns-in-Some-clause-took c =
    let here = found_at c.args.self.now c.args.shard c.in-Some.at c.index_mut.result.now c.in-Some.ensures.at c.index_mut.ensures.value in
    record {
      place = c.in-Some.at;
      was = c.index_mut.result.now;
      now = c.came.new.self;
      at = read_at c.args.self.now.shards.items c.in-Some.at c.index_mut.result.now c.in-Some.ensures.at.0 c.index_mut.ensures.value;
      there = here.2;
      items = refl;
      shard = c.came.ensures.shard;
      records = c.came.ensures.records;
      splits = c.came.ensures.splits;
      running = c.came.ensures.running;
      states = c.came.ensures.states;
      tries = c.came.ensures.tries;
      goes = c.came.ensures.kept;
    }
