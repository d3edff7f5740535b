-- What changes nothing of a shard that is kept: entries elsewhere, more records, and all before its first record.
use Rattle.std.proofs.Common.{◌≡◌, ℕ, zero, suc, ◌+◌, ◌<◌, ◌≤◌, Bool, true, false, ◌&&◌, List, [], ◌∷◌, length, map, not, refl, sym, ap, ◌∙◌, subst, inl, inr, Option, Some, None, arith}
use Rattle.std.specs.Prelude.{◌==◌, filter, slice_get, slice_index, if◌then◌else◌}
use Rattle.std.proofs.lemmas.Bool.{cases_Bool, eqb-true}
use Rattle.esm_model.specs.Records.{Record}
use Rattle.esm_model.specs.declared.lane.LaneId.{LaneId}
use Rattle.esm_model.specs.declared.entry.Fate.{Fate}
use Rattle.esm_model.specs.declared.entry.Fate.TheVariants.{Succeeded, Filtered, Expired, Exhausted}
use Rattle.esm_model.specs.declared.entry.WindowState.{WindowState}
use Rattle.esm_model.specs.declared.entry.Entry.{Entry}
use Rattle.esm_model.specs.declared.entry.Entry.TheVariants.{Came, Began, Ended, Gave, Tried, Closed, Replayed, Shut}
use Rattle.esm_model.specs.Setting.{Setting, Stream, Extends, over}
use Rattle.esm_model.specs.Entries.{came_count, is_running}
use Rattle.esm_model.specs.Fates.{below, lacks_fate, came_places}
use Rattle.esm_model.specs.Ruling.{capped_tries}
use Rattle.esm_model.specs.Owed.{Debt, debts, is_unsorted}
use Rattle.esm_model.specs.Step.{Legal}
use Rattle.esm_model.proofs.Lists.{In, In-here, In-below}
use Rattle.esm_model.proofs.Steps.{came_grows}
use Rattle.esm_model.proofs.Debts.{first_debt}
use Rattle.esm_model.proofs.Sound.{open_In}
use Rattle.esm_model.proofs.Paid.{gave_In}
use Rattle.esm_model.proofs.Records.{SameRecords, same_records, filter_same, window_same, window_tries_same, kept_same}
use Rattle.esm_shard_index.specs.LaneView.{LaneView, lane_in, empty_view}
use Rattle.esm_shard_index.specs.LaneHistory.{IsLane, HasFoundTries}
use Rattle.esm_shard_index.specs.LaneSteps.{after_entry}
use Rattle.esm_shard_index.specs.FateCounts.{count_in}
use Rattle.esm_shard_index.specs.Windows.{WindowTable, IsWindows, window_before, is_open_in}
use Rattle.esm_shard_index.proofs.LaneSteps.{unused, lane_begins}
use Rattle.esm_shard_index.proofs.LaneOver.{lane_over}
use Rattle.esm_shard_index.proofs.ArrivalSteps.{arrivals_begin, arrivals_stay}
use Rattle.esm_shard_index.proofs.CallingSteps.{callings_begin, callings_stay}
use Rattle.esm_shard_index.proofs.ProgressSteps.{progress_begins, progress_stays}
use Rattle.esm_shard_index.proofs.WindowSteps.{windows_stay}
use Rattle.esm_ledger.specs.declared.measure.Measure.{Measure}
use Rattle.esm_ledger.specs.declared.shard.ShardLedger.{ShardLedger}
use Rattle.esm_ledger.specs.Shard.{IsShard, AreRecords, LeavesShard, lane_id}
use Rattle.esm_ledger.proofs.Shards.{records_stay, lanes_step}

-- entries elsewhere

gave_elsewhere : (s : Setting) (h : List Entry) (n k : ℕ) (v : LaneView) (by : Option LaneId) (shard : ℕ) (places : List ℕ) (f : Fate) (line : Option (List ℕ)) (state : Option WindowState) (m : ℕ)
    → (shard == n) ≡ false → Legal s (Gave by shard places f line state m ∷ h) → v ≡ after_entry s h (lane_id n k) v (Gave by shard places f line state m)
gave_elsewhere s h n k v None shard places f line state m off legal = refl
gave_elsewhere s h n k v (Some at) shard places Succeeded line state m off legal = refl
gave_elsewhere s h n k v (Some at) shard places Filtered line state m off legal = refl
gave_elsewhere s h n k v (Some at) shard places Exhausted line state m off legal = refl
gave_elsewhere s h n k v (Some at) shard places Expired line state m off legal =
    let there : (at.shard == n) ≡ false = subst (λ x. (x == n) ≡ false) legal.1.1.shard off in
    rw there refl

pub shard_stays : (s : Setting) (h : List Entry) (e : Entry) (c : ShardLedger) → HasFoundTries s c.shard → LeavesShard c.shard e → Legal s (e ∷ h) → IsShard s h c → IsShard s (e ∷ h) c
shard_stays s h (Came shard first count m) c some off legal is =
    let e = Came shard first count m in
    record {
      records = records_stay s h e c.shard c.records.items c.measures.items (rw off refl) is.records;
      progress = progress_stays s h c.shard c.progress e off is.progress;
      held = is.held;
      arrivals = arrivals_stay h c.shard c.arrivals e off is.arrivals;
      callings = callings_stay h c.shard c.callings e off is.callings;
      windows = windows_stay s h c.shard c.windows e off is.windows;
      factor = is.factor;
      lanes = lanes_step s h e c.shard c.lanes c.lanes some legal is.lanes (λ k. rw off refl);
    }
shard_stays s h (Began at places closing m) c some off legal is =
    let e = Began at places closing m in
    record {
      records = records_stay s h e c.shard c.records.items c.measures.items refl is.records;
      progress = progress_stays s h c.shard c.progress e tt is.progress;
      held = is.held;
      arrivals = arrivals_stay h c.shard c.arrivals e tt is.arrivals;
      callings = callings_stay h c.shard c.callings e off is.callings;
      windows = windows_stay s h c.shard c.windows e tt is.windows;
      factor = is.factor;
      lanes = lanes_step s h e c.shard c.lanes c.lanes some legal is.lanes (λ k. rw off refl);
    }
shard_stays s h (Ended at reply m) c some off legal is =
    let e = Ended at reply m in
    record {
      records = records_stay s h e c.shard c.records.items c.measures.items refl is.records;
      progress = progress_stays s h c.shard c.progress e tt is.progress;
      held = is.held;
      arrivals = arrivals_stay h c.shard c.arrivals e tt is.arrivals;
      callings = callings_stay h c.shard c.callings e off is.callings;
      windows = windows_stay s h c.shard c.windows e off is.windows;
      factor = is.factor;
      lanes = lanes_step s h e c.shard c.lanes c.lanes some legal is.lanes (λ k. rw off refl);
    }
shard_stays s h (Gave by shard places f line state m) c some off legal is =
    let e = Gave by shard places f line state m in
    record {
      records = records_stay s h e c.shard c.records.items c.measures.items refl is.records;
      progress = progress_stays s h c.shard c.progress e off is.progress;
      held = is.held;
      arrivals = arrivals_stay h c.shard c.arrivals e tt is.arrivals;
      callings = callings_stay h c.shard c.callings e tt is.callings;
      windows = windows_stay s h c.shard c.windows e off is.windows;
      factor = is.factor;
      lanes = lanes_step s h e c.shard c.lanes c.lanes some legal is.lanes (λ k. gave_elsewhere s h c.shard k (lane_in c.lanes k) by shard places f line state m off legal);
    }
shard_stays s h (Closed at w m) c some off legal is =
    let e = Closed at w m in
    record {
      records = records_stay s h e c.shard c.records.items c.measures.items refl is.records;
      progress = progress_stays s h c.shard c.progress e tt is.progress;
      held = is.held;
      arrivals = arrivals_stay h c.shard c.arrivals e tt is.arrivals;
      callings = callings_stay h c.shard c.callings e tt is.callings;
      windows = windows_stay s h c.shard c.windows e off is.windows;
      factor = is.factor;
      lanes = lanes_step s h e c.shard c.lanes c.lanes some legal is.lanes (λ k. refl);
    }
shard_stays s h (Tried at places closing t m) c some off legal is =
    let e = Tried at places closing t m in
    record {
      records = records_stay s h e c.shard c.records.items c.measures.items refl is.records;
      progress = progress_stays s h c.shard c.progress e tt is.progress;
      held = is.held;
      arrivals = arrivals_stay h c.shard c.arrivals e tt is.arrivals;
      callings = callings_stay h c.shard c.callings e tt is.callings;
      windows = windows_stay s h c.shard c.windows e tt is.windows;
      factor = is.factor;
      lanes = lanes_step s h e c.shard c.lanes c.lanes some legal is.lanes (λ k. refl);
    }
shard_stays s h (Shut m) c some off legal is =
    let e = Shut m in
    record {
      records = records_stay s h e c.shard c.records.items c.measures.items refl is.records;
      progress = progress_stays s h c.shard c.progress e tt is.progress;
      held = is.held;
      arrivals = arrivals_stay h c.shard c.arrivals e tt is.arrivals;
      callings = callings_stay h c.shard c.callings e tt is.callings;
      windows = windows_stay s h c.shard c.windows e tt is.windows;
      factor = is.factor;
      lanes = lanes_step s h e c.shard c.lanes c.lanes some legal is.lanes (λ k. refl);
    }
shard_stays s h (Replayed n places m) c some off legal is = absurd legal.1.1

-- more records

records_over : (s : Setting) (after : List Stream) (h : List Entry) → Extends s.streams after → SameRecords s after h → (n : ℕ) (rs : List Record) (ms : List Measure) → AreRecords s h n rs ms → AreRecords (over s after) h n rs ms
records_over s after h more same n rs ms is = record {
  came = is.came;
  measured = is.measured;
  stand = λ i r at. more n i r (is.stand i r at);
  lengths = is.lengths;
  windows = λ i low. is.windows i low ∙ sym (window_same s after h same n i low);
}

before_over : (s : Setting) (after : List Stream) (h : List Entry) → SameRecords s after h → (n k : ℕ) → k ≤ came_count h n → window_before (over s after) n k ≡ window_before s n k
before_over s after h same n zero within = refl
before_over s after h same n (suc k) within = window_same s after h same n k (omega (arith, within))

windows_over : (s : Setting) (after : List Stream) (h : List Entry) → SameRecords s after h → Legal s h → (n : ℕ) (t : WindowTable) → IsWindows s h n t → IsWindows (over s after) h n t
windows_over s after h same legal n t is = record {
  opened = λ w. is.opened w ∙ ap length (filter_same (is_open_in s h n w) (is_open_in (over s after) h n w) (came_places h n)
      (λ i member. ap (λ x. lacks_fate s h n i && (x == w)) (sym (window_same s after h same n i (In-below (came_count h n) i member)))));
  states = λ w. is.states w ∙ sym (kept_same s after h n w);
  tries = λ w. is.tries w ∙ ap capped_tries (sym (window_tries_same s after h same legal n w));
  last = is.last ∙ sym (before_over s after h same n (came_count h n) (omega arith));
  ahead = is.ahead;
}

pub shard_over : (s : Setting) (after : List Stream) (h : List Entry) (c : ShardLedger) → Extends s.streams after → Legal s h → IsShard s h c → IsShard (over s after) h c
shard_over s after h c more legal is =
    let same = same_records s after h more legal in
    record {
      records = records_over s after h more same c.shard c.records.items c.measures.items is.records;
      progress = record { came = is.progress.came; fated = is.progress.fated; counts = is.progress.counts; ahead = is.progress.ahead };
      held = is.held;
      arrivals = is.arrivals;
      callings = is.callings;
      windows = windows_over s after h same legal c.shard c.windows is.windows;
      factor = is.factor;
      lanes = λ k low. lane_over s after h (lane_id c.shard k) (lane_in c.lanes k) more legal (is.lanes k low);
    }

-- before its first record

none_of : (a n : ℕ) → (a ≡ n → ⊥) → (a == n) ≡ false
none_of a n other = elim (cases_Bool (a == n)) [
  | inl same ↦ absurd (other (eqb-true a n same))
  | inr off ↦ off
]

came_nothing : (b : Bool) (count before : ℕ) → 1 ≤ count → (if b then count + before else before) ≡ 0 → b ≡ false
came_nothing true count before some none = absurd (omega (arith, some, none))
came_nothing false count before some none = refl

no_debts : (ds : List Debt) (d : Debt) (rest : List Debt) → ds ≡ [] → ds ≡ d ∷ rest → ⊥
no_debts ds d rest none some = cc

-- a lane of the shard neither runs nor owes anything
rests_before : (s : Setting) (h : List Entry) (n : ℕ) (at : LaneId) → Legal s h → came_count h n ≡ 0 → at.shard ≡ n → came_count h at.shard ≡ 0
rests_before s h n at legal none same = ap (came_count h) same ∙ none

first_In : (xs : List ℕ) → 1 ≤ length xs → In xs (slice_index xs 0)
first_In [] some = absurd (omega (arith, some))
first_In (x ∷ xs) some = In-here x xs x refl

gave_before : (s : Setting) (h : List Entry) (n : ℕ) (by : Option LaneId) (shard : ℕ) (places : List ℕ) (f : Fate) (line : Option (List ℕ)) (state : Option WindowState) (m : ℕ)
    → Legal s (Gave by shard places f line state m ∷ h) → came_count h n ≡ 0 → shard ≡ n → ⊥
gave_before s h n None shard places Filtered line state m legal none same =
    let short : places ≡ [] = legal.1.1.exact ∙ ap (λ k. filter (is_unsorted s h shard) (below k)) (ap (came_count h) same ∙ none) in
    let some : 1 ≤ length places = legal.1.1.some in
    omega (arith, some, ap length short)
gave_before s h n None shard places Succeeded line state m legal none same = legal.1.1
gave_before s h n None shard places Expired line state m legal none same = legal.1.1
gave_before s h n None shard places Exhausted line state m legal none same = legal.1.1
gave_before s h n (Some at) shard places Filtered line state m legal none same = legal.1.1
gave_before s h n (Some at) shard places Succeeded line state m legal none same =
    let there = gave_In s h at shard places Succeeded line state m legal in
    let d = first_debt s h at (Gave (Some at) shard places Succeeded line state m) legal.1.1 in
    no_debts (debts s h at) d.first _ (unused s h at legal.0 (rests_before s h n at legal.0 none (sym there.0 ∙ same))).owes d.parts
gave_before s h n (Some at) shard places Exhausted line state m legal none same =
    let there = gave_In s h at shard places Exhausted line state m legal in
    let d = first_debt s h at (Gave (Some at) shard places Exhausted line state m) legal.1.1 in
    no_debts (debts s h at) d.first _ (unused s h at legal.0 (rests_before s h n at legal.0 none (sym there.0 ∙ same))).owes d.parts
gave_before s h n (Some at) shard places Expired line state m legal none same =
    let there = gave_In s h at shard places Expired line state m legal in
    let zeros : came_count h at.shard ≡ 0 = rests_before s h n at legal.0 none (sym there.0 ∙ same) in
    let low : slice_index places 0 < came_count h at.shard = (open_In s h at (slice_index places 0) (there.1 (slice_index places 0) (first_In places legal.1.1.some))).0 in
    omega (arith, zeros, low)

leaves_before : (s : Setting) (h : List Entry) (e : Entry) (n : ℕ) → Legal s (e ∷ h) → came_count (e ∷ h) n ≡ 0 → LeavesShard n e
leaves_before s h (Came shard first count m) n legal none = came_nothing (shard == n) count (came_count h n) legal.1.1.some none
leaves_before s h (Began at places None m) n legal none = none_of at.shard n (λ same. let some : 1 ≤ came_count h at.shard = legal.1.1.call.came in let zeros = rests_before s h n at legal.0 none same in omega (arith, some, zeros))
leaves_before s h (Began at places (Some w) m) n legal none = none_of at.shard n (λ same. let some : 1 ≤ came_count h at.shard = legal.1.1.call.came in let zeros = rests_before s h n at legal.0 none same in omega (arith, some, zeros))
leaves_before s h (Ended at reply m) n legal none = none_of at.shard n (λ same.
    let off = (unused s h at legal.0 (rests_before s h n at legal.0 none same)).rests in
    let on : is_running h at ≡ true = legal.1.1 in
    let clash : true ≡ false = sym on ∙ off in cc)
leaves_before s h (Gave by shard places f line state m) n legal none = none_of shard n (gave_before s h n by shard places f line state m legal none)
leaves_before s h (Closed at w m) n legal none = none_of at.shard n (λ same.
    let d = first_debt s h at (Closed at w m) legal.1.1 in
    no_debts (debts s h at) d.first _ (unused s h at legal.0 (rests_before s h n at legal.0 none same)).owes d.parts)
leaves_before s h (Tried at places closing t m) n legal none = tt
leaves_before s h (Replayed k places m) n legal none = tt
leaves_before s h (Shut m) n legal none = tt

pub shard_before : (s : Setting) (h : List Entry) (c : ShardLedger) → HasFoundTries s c.shard → Legal s h → came_count h c.shard ≡ 0 → IsShard s [] c → IsShard s h c
shard_before s [] c some legal none is = is
shard_before s (e ∷ h) c some legal none is =
    let grows : came_count h c.shard ≤ came_count (e ∷ h) c.shard = came_grows e h c.shard in
    shard_stays s h e c some (leaves_before s h e c.shard legal none) legal (shard_before s h c some legal.0 (omega (arith, grows, none)) is)

-- a shard of which no record came

pub shard_new : (s : Setting) (h : List Entry) (c : ShardLedger) → c.records.items ≡ [] → c.records.held ≡ [] → c.measures.items ≡ [] → c.progress.fated ≡ [] → ((f : Fate) → count_in c.progress.counts f ≡ 0)
    → c.arrivals.runs ≡ [] → c.arrivals.came ≡ 0 → c.callings.records ≡ [] → length c.lanes.lanes ≡ s.config.factor → ((k : ℕ) → lane_in c.lanes k ≡ empty_view)
    → HasFoundTries s c.shard → Legal s h → came_count h c.shard ≡ 0 → IsWindows s [] c.shard c.windows → IsShard s h c
shard_new s h c records held measures fated counts runs came callings size empty some legal none windows =
    shard_before s h c some legal none (record {
      records = record {
        came = ap length records;
        measured = ap length measures;
        stand = λ i r at. (let never : None ≡ Some r = sym (ap (λ (rs : List Record). slice_get rs i) records) ∙ at in absurd cc);
        lengths = λ i r at. (let never : None ≡ Some r = sym (ap (λ (rs : List Record). slice_get rs i) records) ∙ at in absurd cc);
        windows = λ i low. absurd (omega (arith, low));
      };
      progress = progress_begins s c.shard c.progress fated counts;
      held = held ∙ sym (ap (map not) fated);
      arrivals = arrivals_begin c.shard c.arrivals runs came;
      callings = callings_begin c.shard c.callings callings;
      windows = windows;
      factor = size;
      lanes = λ k low. subst (λ (v : LaneView). IsLane s [] (lane_id c.shard k) v) (sym (empty k)) (lane_begins s [] (lane_id c.shard k) tt refl);
    })
