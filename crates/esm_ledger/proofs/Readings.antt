-- What is read of a ledger.
use Rattle.std.proofs.Common.{◌≡◌, ℕ, ◌<◌, ◌≤◌, ◌/◌, ◌%◌, Bool, true, false, ◌&&◌, List, [], length, get_or, refl, sym, ap, ◌∙◌, subst, Option, Some, None, arith}
use Rattle.std.specs.Prelude.{◌==◌, not, nat_lt, slice_get, is_some, is_none, option_map, filter}
use Rattle.std.proofs.lemmas.Bool.{eqb-true, false_from_ne_true, lt-ltb}
use Rattle.std.proofs.lemmas.Option.{slice_get-map, slice_get_within}
use Rattle.esm_model.specs.Records.{Record}
use Rattle.esm_model.specs.declared.lane.LaneId.{LaneId}
use Rattle.esm_model.specs.declared.entry.Fate.{Fate}
use Rattle.esm_model.specs.declared.entry.Entry.{Entry}
use Rattle.esm_model.specs.Setting.{Setting, record_at, is_in_lane}
use Rattle.esm_model.specs.EventText.{record_text}
use Rattle.esm_model.specs.Entries.{came_count, came_moment, is_running, is_shut, last_call, batch_of}
use Rattle.esm_model.specs.Fates.{open_places, lacks_fate, fate, fate_count, is_fate, below}
use Rattle.esm_model.specs.declared.config.Config.{Config}
use Rattle.esm_model.specs.Tries.{window_tries}
use Rattle.esm_model.specs.Windows.{has_windows, window_of, kept_state, is_due, is_outstanding}
use Rattle.esm_model.specs.Batches.{delay_end, delay_from}
use Rattle.esm_model.specs.FailureLine.{calls_of, response_of}
use Rattle.esm_model.specs.Checkpoint.{checkpoint, spread}
use Rattle.esm_model.specs.Step.{Legal}
use Rattle.esm_shard_index.specs.LaneView.{lane_in, empty_view}
use Rattle.esm_shard_index.specs.LaneHistory.{IsLane}
use Rattle.esm_shard_index.specs.LaneSteps.{IsGrouped, IsBounded}
use Rattle.esm_shard_index.specs.Arrivals.{moment_in}
use Rattle.esm_shard_index.specs.Callings.{calls_at, response_at}
use Rattle.esm_shard_index.specs.FateCounts.{count_in}
use Rattle.esm_shard_index.specs.Progress.{front_of, past_of as spread_in}
use Rattle.esm_shard_index.specs.Windows.{WindowTable, HasState, IsLeastDue, IsWindows, state_in, tries_in}
use Rattle.esm_shard_index.specs.WindowsLaws.{WindowsTell, closing_of}
use Rattle.esm_shard_index.proofs.LaneSteps.{lane_begins}
use Rattle.esm_shard_index.proofs.LaneReads.{lane_bounded, lane_grouped}
use Rattle.esm_shard_index.proofs.LaneGroups.{delay_is}
use Rattle.esm_shard_index.proofs.WindowSteps.{windows_tell}
use Rattle.esm_ledger.specs.declared.ledger.Ledger.{Ledger}
use Rattle.esm_ledger.specs.declared.shard.ShardLedger.{ShardLedger}
use Rattle.esm_ledger.specs.Shard.{measure_at, called_places, closing_in}
use Rattle.esm_ledger.specs.Ledger.{past_of, setting_of, IsAt, Rests, Keeps}
use Rattle.esm_ledger.specs.Reading.{lane_of_batcher, checkpoint_of, spread_of, IsLaneSettled, IsLeastDueWindow}
use Rattle.esm_ledger.proofs.Holding.{open_held}
use Rattle.esm_ledger.proofs.Shards.{call_runs}
use Rattle.esm_ledger.proofs.Fitting.{running_below, tells}
use Rattle.esm_ledger.proofs.Ledgers.{own_legal, IsNowhere, nowhere_none, somewhere_some, records_here, records_absent}
use Rattle.esm_ledger.proofs.KeptLedgers.{lane_here}

pub legal_of : (c : Ledger) → Rests c → Legal (setting_of c) (past_of c)
legal_of c r = own_legal (setting_of c) (past_of c) r.legal

pub lane_at : (c : Ledger) (lane : LaneId) (x : ShardLedger) → Keeps c → IsAt c lane.shard x → lane.lane < c.config.factor → IsLane (setting_of c) (past_of c) lane (lane_in x.lanes lane.lane)
lane_at c lane x k at low = lane_here (setting_of c) (past_of c) c lane x at (k.each lane.shard x at) low

pub lane_absent : (c : Ledger) (lane : LaneId) → Rests c → IsNowhere c lane.shard → IsLane (setting_of c) (past_of c) lane empty_view
lane_absent c lane r none = lane_begins (setting_of c) (past_of c) lane (legal_of c r) (nowhere_none c lane.shard r none)

pub lane_known : (c : Ledger) (lane : LaneId) (x : ShardLedger) → Rests c → IsAt c lane.shard x → lane.lane < c.config.factor → lane.lane < length x.lanes.lanes
lane_known c lane x r at low = subst (λ (k : ℕ). lane.lane < k) (sym (r.factor lane.shard x at)) low

-- the lane of a batcher

mapped_twice : {A B C : Type 0} (f : A → B) (g : B → C) (o : Option A) → option_map g (option_map f o) ≡ option_map (λ (x : A). g (f x)) o
mapped_twice f g None = refl
mapped_twice f g (Some x) = refl

pub batcher_lane : (c : Ledger) (k : ℕ) → Rests c → lane_of_batcher (setting_of c) (past_of c) k
    ≡ option_map (λ (x : ShardLedger). let l : LaneId = record { shard = x.shard; lane = k % c.config.factor } in l) (slice_get c.shards.items (k / c.config.factor))
batcher_lane c k r =
    let make : ℕ → LaneId = λ n. record { shard = n; lane = k % c.config.factor } in
    ap (λ (ns : List ℕ). option_map make (slice_get ns (k / c.config.factor))) (sym r.shards)
    ∙ ap (option_map make) (slice_get-map (λ (x : ShardLedger). x.shard) c.shards.items (k / c.config.factor))
    ∙ mapped_twice (λ (x : ShardLedger). x.shard) make (slice_get c.shards.items (k / c.config.factor))

-- calls

pub runs_absent : (c : Ledger) (lane : LaneId) → Rests c → IsNowhere c lane.shard → is_running (past_of c) lane ≡ false
runs_absent c lane r none = (lane_absent c lane r none).runs

pub runs_beyond : (c : Ledger) (lane : LaneId) → Rests c → c.config.factor ≤ lane.lane → is_running (past_of c) lane ≡ false
runs_beyond c lane r high = false_from_ne_true (is_running (past_of c) lane) (λ runs.
    let low : lane.lane < c.config.factor = running_below (setting_of c) (past_of c) lane (legal_of c r) runs in omega (arith, low, high))

pub clash : {A : Type 0} (b : Bool) → b ≡ true → b ≡ false → A
clash b yes' no' = (let e : true ≡ false = sym yes' ∙ no' in absurd cc)

pub runs_low : (c : Ledger) (lane : LaneId) → Rests c → is_running (past_of c) lane ≡ true → lane.lane < c.config.factor
runs_low c lane r runs = running_below (setting_of c) (past_of c) lane (legal_of c r) runs

pub lane_bounds : (c : Ledger) (lane : LaneId) (x : ShardLedger) → Keeps c → IsAt c lane.shard x → lane.lane < c.config.factor → IsBounded (past_of c) lane (lane_in x.lanes lane.lane)
lane_bounds c lane x k at low = lane_bounded (setting_of c) (past_of c) lane (lane_in x.lanes lane.lane) (legal_of c k.rests) (lane_at c lane x k at low)

pub called_here : (c : Ledger) (lane : LaneId) (x : ShardLedger) → Keeps c → IsAt c lane.shard x → is_running (past_of c) lane ≡ true → batch_of (last_call (past_of c) lane) ≡ called_places (lane_in x.lanes lane.lane)
called_here c lane x k at runs = (call_runs (setting_of c) (past_of c) lane (lane_in x.lanes lane.lane) runs (lane_at c lane x k at (runs_low c lane k.rests runs))).places

pub closing_here : (c : Ledger) (lane : LaneId) (x : ShardLedger) → Keeps c → IsAt c lane.shard x → is_running (past_of c) lane ≡ true → closing_of (last_call (past_of c) lane) ≡ closing_in (lane_in x.lanes lane.lane).state.running
closing_here c lane x k at runs = (call_runs (setting_of c) (past_of c) lane (lane_in x.lanes lane.lane) runs (lane_at c lane x k at (runs_low c lane k.rests runs))).closing

-- groups

pub grouped_here : (c : Ledger) (lane : LaneId) (x : ShardLedger) → Keeps c → IsLaneSettled (setting_of c) (past_of c) lane → IsAt c lane.shard x → lane.lane < c.config.factor → IsGrouped (setting_of c) (past_of c) lane (lane_in x.lanes lane.lane)
grouped_here c lane x k settled at low = lane_grouped (setting_of c) (past_of c) lane (lane_in x.lanes lane.lane) settled.paid settled.sorted (lane_at c lane x k at low)

pub open_absent : (c : Ledger) (lane : LaneId) → Rests c → IsNowhere c lane.shard → open_places (setting_of c) (past_of c) lane ≡ []
open_absent c lane r none = ap (λ (n : ℕ). filter (λ i. is_in_lane (setting_of c) lane i && lacks_fate (setting_of c) (past_of c) lane.shard i) (below n)) (nowhere_none c lane.shard r none)

-- the delay

pub delay_absent : (c : Ledger) (lane : LaneId) → Rests c → IsNowhere c lane.shard → 0 ≡ delay_end (setting_of c) (past_of c) lane
delay_absent c lane r none = sym (delay_is (setting_of c) (past_of c) lane empty_view (lane_absent c lane r none))

pub delay_here : (c : Ledger) (lane : LaneId) (x : ShardLedger) → Keeps c → IsAt c lane.shard x → lane.lane < c.config.factor → delay_from (lane_in x.lanes lane.lane).state.failures (lane_in x.lanes lane.lane).state.last_end ≡ delay_end (setting_of c) (past_of c) lane
delay_here c lane x k at low = sym (delay_is (setting_of c) (past_of c) lane (lane_in x.lanes lane.lane) (lane_at c lane x k at low))

-- records

pub record_here : (c : Ledger) (n i : ℕ) (x : ShardLedger) → Rests c → IsAt c n x → record_at (setting_of c) n i ≡ slice_get x.records.items i
record_here c n i x r at = ap (λ (rs : List Record). slice_get rs i) (records_here c n x r at)

pub record_absent : (c : Ledger) (n i : ℕ) → IsNowhere c n → record_at (setting_of c) n i ≡ None
record_absent c n i none = ap (λ (rs : List Record). slice_get rs i) (records_absent c n none)

pub held_here : (c : Ledger) (n i : ℕ) (x : ShardLedger) → Keeps c → IsAt c n x → lacks_fate (setting_of c) (past_of c) n i ≡ true → i < length x.records.items → get_or x.records.held i false ≡ true
held_here c n i x k at none low =
    let is = k.each n x at in
    let within : i < came_count (past_of c) x.shard = subst (λ (m : ℕ). i < m) is.records.came low in
    let lacks : is_none (fate (setting_of c) (past_of c) x.shard i) ≡ true = subst (λ (m : ℕ). lacks_fate (setting_of c) (past_of c) m i ≡ true) (sym at.2) none in
    open_held x.records.held x.progress.fated i (fate (setting_of c) (past_of c) x.shard i) is.held (subst (λ (m : ℕ). i < m) (sym is.progress.came) within) (is.progress.fated i within) lacks

pub came_here : (c : Ledger) (n : ℕ) (x : ShardLedger) → Keeps c → IsAt c n x → came_count (past_of c) x.shard ≡ came_count (past_of c) n
came_here c n x k at = ap (came_count (past_of c)) at.2

absent_low : {A : Type 0} (c : Ledger) (n i : ℕ) → Rests c → IsNowhere c n → i < came_count (past_of c) n → A
absent_low c n i r none low = absurd (let zeros = nowhere_none c n r none in omega (arith, zeros, low))

pub absent : {A : Type 0} (c : Ledger) (n i : ℕ) → Keeps c → IsNowhere c n → i < came_count (past_of c) n → A
absent c n i k none low = absent_low c n i k.rests none low

pub length_here : (c : Ledger) (n i : ℕ) (x : ShardLedger) (r : Record) → Keeps c → IsAt c n x → record_at (setting_of c) n i ≡ Some r → (measure_at x.measures.items i).length ≡ length (record_text c.config r)
length_here c n i x r k at is = (k.each n x at).records.lengths i r (sym (record_here c n i x k.rests at) ∙ is)

pub length_low : (c : Ledger) (n i : ℕ) (x : ShardLedger) (r : Record) → Keeps c → IsAt c n x → record_at (setting_of c) n i ≡ Some r → i < length x.measures.items
length_low c n i x r k at is =
    let rs = (k.each n x at).records in
    let low = slice_get_within x.records.items i r (sym (record_here c n i x k.rests at) ∙ is) in
    omega (arith, low, rs.came, rs.measured)

pub window_here : (c : Ledger) (n i : ℕ) (x : ShardLedger) → Keeps c → IsAt c n x → i < came_count (past_of c) n → (measure_at x.measures.items i).window ≡ window_of (setting_of c) n i
window_here c n i x k at low =
    subst (λ (m : ℕ). (measure_at x.measures.items i).window ≡ window_of (setting_of c) m i) at.2 ((k.each n x at).records.windows i (subst (λ (m : ℕ). i < m) (sym (came_here c n x k at)) low))

pub window_low : (c : Ledger) (n i : ℕ) (x : ShardLedger) → Keeps c → IsAt c n x → i < came_count (past_of c) n → i < length x.measures.items
window_low c n i x k at low = (let rs = (k.each n x at).records in omega (arith, low, rs.measured, came_here c n x k at))

pub moment_here : (c : Ledger) (n i : ℕ) (x : ShardLedger) → Keeps c → IsAt c n x → i < came_count (past_of c) n → moment_in x.arrivals.runs i ≡ came_moment (past_of c) n i
moment_here c n i x k at low =
    subst (λ (m : ℕ). moment_in x.arrivals.runs i ≡ came_moment (past_of c) m i) at.2 ((k.each n x at).arrivals.moments i (subst (λ (m : ℕ). i < m) (sym (came_here c n x k at)) low))

pub calls_low : (c : Ledger) (n i : ℕ) (x : ShardLedger) → Keeps c → IsAt c n x → i < came_count (past_of c) n → i < length x.callings.records
calls_low c n i x k at low = (let is = (k.each n x at).callings in omega (arith, low, is.came, came_here c n x k at))

pub calls_here : (c : Ledger) (n i : ℕ) (x : ShardLedger) → Keeps c → IsAt c n x → calls_at x.callings i ≡ calls_of (past_of c) n i
calls_here c n i x k at = (k.each n x at).callings.calls i ∙ ap (λ (m : ℕ). calls_of (past_of c) m i) at.2

pub response_here : (c : Ledger) (n i : ℕ) (x : ShardLedger) → Keeps c → IsAt c n x → response_at x.callings i ≡ response_of (past_of c) n i
response_here c n i x k at = (k.each n x at).callings.responses i ∙ ap (λ (m : ℕ). response_of (past_of c) m i) at.2

-- fates

positive : (n : ℕ) → 1 ≤ n → nat_lt 0 n ≡ true
positive n some = lt-ltb 0 n (omega (arith, some))

pub checkpoint_here : (c : Ledger) (n : ℕ) (x : ShardLedger) → Keeps c → IsAt c n x → Some (front_of x.progress.fated) ≡ checkpoint_of (setting_of c) (past_of c) n
checkpoint_here c n x k at =
    rw (positive (came_count (past_of c) n) (somewhere_some c n x k.rests at))
    (ap Some (sym (tells (setting_of c) (past_of c) x (k.each n x at)).checkpoint_is ∙ ap (checkpoint (setting_of c) (past_of c)) at.2))

pub spread_here : (c : Ledger) (n : ℕ) (x : ShardLedger) → Keeps c → IsAt c n x → Some (spread_in x.progress.fated) ≡ spread_of (setting_of c) (past_of c) n
spread_here c n x k at =
    rw (positive (came_count (past_of c) n) (somewhere_some c n x k.rests at))
    (ap Some (sym (tells (setting_of c) (past_of c) x (k.each n x at)).spread_is ∙ ap (spread (setting_of c) (past_of c)) at.2))

pub checkpoint_absent : (c : Ledger) (n : ℕ) → Rests c → IsNowhere c n → None ≡ checkpoint_of (setting_of c) (past_of c) n
checkpoint_absent c n r none = rw (nowhere_none c n r none) refl

pub spread_absent : (c : Ledger) (n : ℕ) → Rests c → IsNowhere c n → None ≡ spread_of (setting_of c) (past_of c) n
spread_absent c n r none = rw (nowhere_none c n r none) refl

pub counts_here : (c : Ledger) (n : ℕ) (x : ShardLedger) → Keeps c → IsAt c n x → (f : Fate) → count_in x.progress.counts f ≡ fate_count (setting_of c) (past_of c) n f
counts_here c n x k at f = (k.each n x at).progress.counts f ∙ ap (λ (m : ℕ). fate_count (setting_of c) (past_of c) m f) at.2

pub counts_absent : (c : Ledger) (n : ℕ) → Rests c → IsNowhere c n → (f : Fate) → fate_count (setting_of c) (past_of c) n f ≡ 0
counts_absent c n r none f = ap (λ (m : ℕ). length (filter (λ i. is_fate f (fate (setting_of c) (past_of c) n i)) (below m))) (nowhere_none c n r none)

-- windows

pub state_here : (c : Ledger) (n w : ℕ) (x : ShardLedger) → Keeps c → IsAt c n x → state_in x.windows w ≡ kept_state (setting_of c) (past_of c) n w
state_here c n w x k at = (k.each n x at).windows.states w ∙ ap (λ (m : ℕ). kept_state (setting_of c) (past_of c) m w) at.2

pub tries_here : (c : Ledger) (n w : ℕ) (x : ShardLedger) → Keeps c → IsAt c n x → tries_in x.windows w ≡ window_tries (setting_of c) (past_of c) n w
tries_here c n w x k at = (k.each n x at).windows.tries w ∙ ap (λ (m : ℕ). window_tries (setting_of c) (past_of c) m w) at.2

windows_set : (c : Config) → (c.tumbling_ms ≡ 0 → ⊥) → has_windows c ≡ true
windows_set c some = ap not (false_from_ne_true (c.tumbling_ms == 0) (λ e. some (eqb-true c.tumbling_ms 0 e)))

pub windows_here : (c : Ledger) (n : ℕ) (x : ShardLedger) → Keeps c → IsAt c n x → (c.config.tumbling_ms ≡ 0 → ⊥) → WindowsTell (setting_of c) (past_of c) n x.windows
windows_here c n x k at some =
    windows_tell (setting_of c) (past_of c) n x.windows (windows_set c.config some) (somewhere_some c n x k.rests at)
    (subst (λ (m : ℕ). IsWindows (setting_of c) (past_of c) m x.windows) at.2 (k.each n x at).windows)

-- no window is outstanding where none is configured
pub no_windows : (c : Ledger) (n w : ℕ) → c.config.tumbling_ms ≡ 0 → is_outstanding (setting_of c) (past_of c) n w ≡ false
no_windows c n w none = rw none refl

-- nor where no record of the shard came
pub no_records : (c : Ledger) (n w : ℕ) → Rests c → IsNowhere c n → is_outstanding (setting_of c) (past_of c) n w ≡ false
no_records c n w r none = rw (nowhere_none c n r none) (off (has_windows c.config))
  where
    off : (b : Bool) → ((b && false) && is_some (kept_state (setting_of c) (past_of c) n w)) ≡ false
    off true = refl
    off false = refl

pub not_due : (s : Setting) (h : List Entry) (n w : ℕ) → is_outstanding s h n w ≡ false → is_due s h n w ≡ false
not_due s h n w off = rw off refl

pub none_outstanding : (c : Ledger) (n : ℕ) (x : ShardLedger) → WindowsTell (setting_of c) (past_of c) n x.windows → ((w : ℕ) → state_in x.windows w ≡ None) → (w : ℕ) → is_outstanding (setting_of c) (past_of c) n w ≡ false
none_outstanding c n x tell none w = tell.outstanding_is w ∙ ap is_some (none w)

abbrev pub HasOutstanding : Setting → List Entry → ℕ → Type 0
HasOutstanding s h n = (w : ℕ) × (is_outstanding s h n w ≡ true)

pub some_outstanding : (c : Ledger) (n : ℕ) (x : ShardLedger) → WindowsTell (setting_of c) (past_of c) n x.windows → HasState x.windows → HasOutstanding (setting_of c) (past_of c) n
some_outstanding c n x tell some = (some.0, tell.outstanding_is some.0 ∙ some.1)

pub least_here : (s : Setting) (h : List Entry) (n : ℕ) (t : WindowTable) (r : Option ℕ) → WindowsTell s h n t → IsLeastDue t (is_shut h) r → IsLeastDueWindow s h n r
least_here s h n t None tell is = λ w. tell.due_is w ∙ is w
least_here s h n t (Some v) tell is = (tell.due_is v ∙ is.0, λ w due. is.1 w (sym (tell.due_is w) ∙ due))

pub least_none : (s : Setting) (h : List Entry) (n : ℕ) → ((w : ℕ) → is_outstanding s h n w ≡ false) → IsLeastDueWindow s h n None
least_none s h n off = λ w. not_due s h n w (off w)

pub none_some : {A : Type 0} {B : Type 0} (x : A) → ◌≡◌ {A = Option A} None (Some x) → B
none_some x e = absurd cc
