use Rattle.std.proofs.Common.{◌≡◌, ℕ, ◌+◌, List, ◌++◌, map, filter, length, is_some, is_none, vec_len, Option, Bool, cond, ap, ◌∙◌, arith, rules}
use Rattle.esm_model.specs.declared.entry.Fate.{Fate}
use Rattle.esm_model.specs.Fates.{is_fate}
use Rattle.esm_shard_index.specs.FateCounts.{count_in}
use Rattle.esm_shard_index.specs.LaneView.{LaneView, lane_in}
use Rattle.esm_shard_index.specs.Windows.{open_in, times}
use Rattle.esm_ledger.specs.declared.arriving.Landing.{Landing}
use Rattle.esm_ledger.specs.Arriving.{landed}
use Rattle.esm_ledger.proofs.Landings.{shard_came, landed_splits, landed_state}
use Rattle.esm_ledger.proofs.shard.ShardLedger.came.Goals as goal

pub land-requires-clause-short : goal.land-requires-clause-short
land-requires-clause-short c = omega (arith, ap length c.as_slice-3.ensures.value, c.len-first.ensures, c.requires.few.fates, c.requires.even.fates, c.requires.even.landings)

pub returns-clause-splits : goal.returns-clause-splits
returns-clause-splits c = λ k. ap (λ (v : LaneView). v.kept.splits) (c.land.ensures.lane k) ∙ landed_splits k c.len-first.result c.as_slice-3.result.now (lane_in c.args.self.now.lanes k)

pub returns-clause-running : goal.returns-clause-running
returns-clause-running c = λ k. ap (λ (v : LaneView). v.state) (c.land.ensures.lane k) ∙ landed_state k c.len-first.result c.as_slice-3.result.now (lane_in c.args.self.now.lanes k)

pub returns-clause-kept : goal.returns-clause-kept
returns-clause-kept c = λ s h.
    let self = c.args.self.now in
    let a = c.args.arriving in
    let all : vec_len c.args.arriving.records ≡ length c.args.arriving.records.items = search rules in
    let count : c.len-count.result ≡ length c.args.arriving.records.items = cc in
    shard_came s h self a c.args.moment c.came-5.new.self c.append.new.self c.came.new.self c.came-2.new.self c.came-3.new.self c.came-4.new.self c.land.new.lanes
    c.came-5.ensures.items
    (c.came-5.ensures.held ∙ ap (λ (fs : List (Option Fate)). self.records.held ++ map is_none fs) c.as_slice-4.ensures.value)
    (c.append.ensures.items ∙ ap (λ (b : Bool). cond b (self.measures.items ++ a.measures.items) self.measures.items) (c.append.ensures.succeeds c.requires.room.measures))
    c.requires.even
    (record {
      fated = c.came.ensures.fated ∙ ap (λ (fs : List (Option Fate)). self.progress.fated ++ map is_some fs) c.as_slice.ensures.value;
      counts = λ f. c.came.ensures.counts f ∙ ap (λ (fs : List (Option Fate)). count_in self.progress.counts f + length (filter (is_fate f) fs)) c.as_slice.ensures.value;
      runs = c.came-2.ensures.runs;
      came = c.came-2.ensures.came ∙ ap (λ (n : ℕ). self.arrivals.came + n) count;
      len = c.came-3.ensures.len ∙ ap (λ (n : ℕ). length self.callings.records + n) count;
      calls = c.came-3.ensures.calls;
      responses = c.came-3.ensures.responses;
      opened = λ w. c.came-4.ensures.opened w ∙ ap (λ (ws : List ℕ). open_in self.windows w + times ws w) c.as_slice-2.ensures.value;
      last = c.came-4.ensures.last;
      states = c.came-4.ensures.states;
      tries = c.came-4.ensures.tries;
      lands = λ k. c.land.ensures.lane k
          ∙ ap (λ (i : ℕ). landed k i c.as_slice-3.result.now (lane_in self.lanes k)) c.len-first.ensures
          ∙ ap (λ (ls : List (Option Landing)). landed k (length self.progress.fated) ls (lane_in self.lanes k)) c.as_slice-3.ensures.value;
      size = c.land.ensures.lanes;
    })
