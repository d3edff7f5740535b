-- What a ledger tells of the view that it keeps, and what a decision by it gives to what is then owed.
use Rattle.std.proofs.Common.{◌≡◌, ℕ, ◌<◌, ◌≤◌, List, [], ◌++◌, length, max, min, sym, ap, ap₂, ◌∙◌, subst, arith, Option, Some, None, false, take}
use Rattle.std.proofs.lemmas.List.{length-take}
use Rattle.std.specs.Prelude.{All}
use Rattle.esm_model.specs.declared.limits.TheConstants.{MAX_BATCH, MAX_SHARD, MAX_EXPIRED}
use Rattle.esm_model.specs.declared.moment.TheConstants.{MAX_MOMENT}
use Rattle.esm_model.specs.Records.{Record}
use Rattle.esm_model.specs.declared.lane.LaneId.{LaneId}
use Rattle.esm_model.specs.declared.entry.Entry.{Entry}
use Rattle.esm_model.specs.Setting.{Setting, Stream, Extends, over, records_of}
use Rattle.esm_model.specs.Entries.{last_moment, came_count, is_shut, is_running}
use Rattle.esm_model.specs.Step.{IsLater}
use Rattle.esm_model.specs.Owed.{Settled}
use Rattle.esm_model.specs.Valid.{IsValidRecord}
use Rattle.esm_ledger.specs.declared.ledger.Ledger.{Ledger}
use Rattle.esm_ledger.specs.Ledger.{past_of, setting_of, LegalOver}
use Rattle.esm_ledger.specs.Reading.{lane_of_batcher}
use Rattle.esm_ingest.specs.Coming.{FitPlaces}
use Rattle.esm_ingest.specs.Changes.{first_change}
use Rattle.esm_ingest.specs.Entries.{part_entries}
use Rattle.esm_ingest.specs.Parts.{Part, parts_of}
use Rattle.esm_ingest.proofs.Counted.{all_counted}
use Rattle.esm_record_bounds.specs.Bounds.{AreWithinBounds}
use Rattle.esm_record_bounds.proofs.Fitting.{record_came, fit_of_legal}
use Rattle.esm_next.specs.Deciding.{OverAll, IsWithinBounds, answer_of, decision_entries, NamesLane}
use Rattle.esm_next.specs.Following.{next_for, next_entries}
use Rattle.esm_next.specs.declared.decision.Decision.{Decision}
use Rattle.esm_next.specs.declared.decision.Decision.TheVariants.{Expire}
use Rattle.esm_outcome.specs.Ending.{AreValidRecords, SettledOver}
use Rattle.esm_stream_core.specs.Gathered.{MayBring}
use Rattle.esm_stream_core.specs.Calls.{streams_of, moment_for, coming_lists, came_entries, NoneDiffers, IsResting, IsNextOver, next_adds}
use Rattle.esm_stream_core.specs.CoreView.{CoreView, owing}
use Rattle.esm_stream_core.specs.declared.stream_core.StreamCore.TheInside.{Inside}
use Rattle.esm_stream_core.specs.Inside.{view_of, IsCore}
use Rattle.esm_stream_core.specs.Kept.{IsLedgerOf}
use Rattle.esm_stream_core.proofs.Rooms.{own_legal}

-- of the view what holds of the ledger, and of the ledger what holds of the view

pub told_by : (P : Setting → List Entry → Type 0) (v : CoreView) (c : Ledger) → IsLedgerOf v c → P (setting_of c) (past_of c) → P v.setting v.past
told_by P v c is x = subst (λ (h : List Entry). P v.setting h) is.past (subst (λ (s : Setting). P s (past_of c)) is.setting x)

pub told_to : (P : Setting → List Entry → Type 0) (v : CoreView) (c : Ledger) → IsLedgerOf v c → P v.setting v.past → P (setting_of c) (past_of c)
told_to P v c is x = subst (λ (h : List Entry). P (setting_of c) h) (sym is.past) (subst (λ (s : Setting). P s v.past) (sym is.setting) x)

-- moments

pub moment_is : (v : CoreView) (x : Inside) (moment now : ℕ) → view_of x ≡ v → IsCore x → now ≡ min (max moment x.ledger.last) MAX_MOMENT → now ≡ moment_for v.past moment
moment_is v x moment now seen core now_is = now_is ∙ ap (λ (n : ℕ). min (max moment n) MAX_MOMENT) (core.kept.last ∙ ap (λ (w : CoreView). last_moment w.past) seen)

pub is_later : (v : CoreView) (x : Inside) (now : ℕ) → view_of x ≡ v → IsCore x → x.ledger.last ≤ now → now ≤ MAX_MOMENT → IsLater v.past now
is_later v x now seen core goes_on in_time = record {
  not_back = subst (λ (n : ℕ). n ≤ now) (core.kept.last ∙ ap (λ (w : CoreView). last_moment w.past) seen) goes_on;
  within = in_time;
}

-- bounds

bounds_of : (v : CoreView) (c : Ledger) → IsLedgerOf v c → AreWithinBounds (setting_of c)
bounds_of v c is = subst AreWithinBounds (sym is.setting) is.bounds

pub within_bounds : (v : CoreView) (c : Ledger) → IsLedgerOf v c → IsWithinBounds c
within_bounds v c is =
    let s = setting_of c in
    let h = past_of c in
    let bounds = bounds_of v c is in
    let legal = own_legal s h is.keeps.rests.legal in
    record {
      shards = λ n some. (
          let there = record_came s h legal n 0 some in
          subst (λ (k : ℕ). k ≤ MAX_SHARD) (bounds.own_shard n 0 there.0 there.1) (bounds.valid n 0 there.0 there.1).shard);
      records = bounds.valid;
      states = λ n w text kept. (let fits = (fit_of_legal s bounds h legal).states n w text kept in (fits.in_time, fits.short));
    }

pub valid_records : (v : CoreView) (c : Ledger) → IsLedgerOf v c → AreValidRecords (setting_of c)
valid_records v c is =
    let bounds = bounds_of v c is in
    λ n i r at. (bounds.own_shard n i r at, bounds.valid n i r at)

pub settled_over : (v : CoreView) (c : Ledger) → IsLedgerOf v c → SettledOver (setting_of c) (past_of c)
settled_over v c is = told_to SettledOver v c is is.settled

pub lane_rests : (v : CoreView) (c : Ledger) (k : ℕ) → IsLedgerOf v c → IsResting v k → (lane : LaneId) → lane_of_batcher (setting_of c) (past_of c) k ≡ Some lane → is_running (past_of c) lane ≡ false
lane_rests v c k is rests = told_to (λ (s : Setting) (h : List Entry). (lane : LaneId) → lane_of_batcher s h k ≡ Some lane → is_running h lane ≡ false) v c is rests

-- records that come

pub may_come : (v : CoreView) (c : Ledger) (items : List Record) (ps : List Part) (m : ℕ) → IsLedgerOf v c → is_shut v.past ≡ false → IsLater v.past m → first_change (setting_of c) (past_of c) items ≡ None → All IsValidRecord items → length items ≤ MAX_BATCH → FitPlaces (past_of c) items → ps ≡ parts_of (setting_of c) (past_of c) items
    → MayBring v.setting v.past ps m
may_come v c items ps m is going later same valid few places parts = record {
  items = items;
  parts = parts ∙ ap₂ (λ (s : Setting) (h : List Entry). parts_of s h items) is.setting is.past;
  may = record {
    legal = is.legal;
    settled = is.settled;
    all = told_by (λ (s : Setting) (h : List Entry). (n : ℕ) → came_count h n ≡ length (records_of s n)) v c is (all_counted c is.keeps);
    going = going;
    later = later;
    unchanged = told_by (λ (s : Setting) (h : List Entry). first_change s h items ≡ None) v c is same;
  };
  valid = valid;
  few = few;
  places = subst (λ (h : List Entry). FitPlaces h items) is.past places;
}

pub none_differs : (v : CoreView) (c : Ledger) (items : List Record) → IsLedgerOf v c → first_change (setting_of c) (past_of c) items ≡ None → NoneDiffers v items
none_differs v c items is same = told_by (λ (s : Setting) (h : List Entry). first_change s h items ≡ None) v c is same

pub owes_came : (v w : CoreView) (c : Ledger) (items : List Record) (ps : List Part) (m n : ℕ) → IsLedgerOf v c → ps ≡ parts_of (setting_of c) (past_of c) items → m ≡ n → w ≡ owing v (streams_of ps) (part_entries m ps) → w ≡ owing v (coming_lists v items) (came_entries v items n)
owes_came v w c items ps m n is parts same owes =
    let all : ps ≡ parts_of v.setting v.past items = parts ∙ ap₂ (λ (s : Setting) (h : List Entry). parts_of s h items) is.setting is.past in
    owes ∙ ap₂ (λ (qs : List Part) (k : ℕ). owing v (streams_of qs) (part_entries k qs)) all same

-- a batcher that asks

pub record Follows (v : CoreView) (k m : ℕ) (d : Decision) : Type 0 where
  pub answer : IsNextOver v k m (answer_of d)
  pub adds : decision_entries d m ≡ next_adds v k m (answer_of d)
  pub legal : LegalOver v.setting (decision_entries d m ++ v.past)
  pub settled : SettledOver v.setting (decision_entries d m ++ v.past)
  pub lane : NamesLane v.setting.config.factor d

pub follows : (v : CoreView) (c : Ledger) (k m : ℕ) (d d' : Decision) → IsLedgerOf v c → OverAll c (λ s. answer_of d ≡ next_for s (past_of c) k m) → OverAll c (λ s. decision_entries d m ≡ next_entries s (past_of c) k m (answer_of d)) → LegalOver (setting_of c) (decision_entries d m ++ past_of c)
    → OverAll c (λ s. Settled s (decision_entries d m ++ past_of c)) → NamesLane c.config.factor d → d ≡ d' → Follows v k m d'
follows v c k m d d' is answer adds legal settled lane named =
    subst (Follows v k m) named (record {
      answer = told_by (λ (s : Setting) (h : List Entry). (streams : List Stream) → Extends s.streams streams → answer_of d ≡ next_for (over s streams) h k m) v c is answer;
      adds = told_by (λ (s : Setting) (h : List Entry). decision_entries d m ≡ next_entries s h k m (answer_of d)) v c is (adds (setting_of c).streams (λ n i r at. at));
      legal = told_by (λ (s : Setting) (h : List Entry). LegalOver s (decision_entries d m ++ h)) v c is legal;
      settled = told_by (λ (s : Setting) (h : List Entry). SettledOver s (decision_entries d m ++ h)) v c is settled;
      lane = told_by (λ (s : Setting) (h : List Entry). NamesLane s.config.factor d) v c is lane;
    })

-- at the moment of the call
pub answers : (v : CoreView) (k m n : ℕ) (d : Decision) → Follows v k m d → m ≡ n → IsNextOver v k n (answer_of d)
answers v k m n d f same = subst (λ (i : ℕ). IsNextOver v k i (answer_of d)) same f.answer

pub owes_next : (v w : CoreView) (k m n : ℕ) (d : Decision) → Follows v k m d → m ≡ n → w ≡ owing v [] (decision_entries d m) → w ≡ owing v [] (next_adds v k n (answer_of d))
owes_next v w k m n d f same owes = owes ∙ (ap (λ (es : List Entry). owing v [] es) f.adds ∙ ap (λ (i : ℕ). owing v [] (next_adds v k i (answer_of d))) same)

-- few records expire at once
few_taken : (xs : List ℕ) → length (take MAX_EXPIRED xs) < 4294967296
few_taken xs = omega (arith, length-take MAX_EXPIRED xs)

pub few_expire : (v : CoreView) (k m : ℕ) (lane : LaneId) (places : List ℕ) (line : Option (List ℕ)) → Follows v k m (Expire lane places line) → length places < 4294967296
few_expire v k m lane places line f =
    let may = (f.legal v.setting.streams (λ n i r at. at)).1.1 in
    subst (λ (xs : List ℕ). length xs < 4294967296) (sym may.exact) (few_taken _)
