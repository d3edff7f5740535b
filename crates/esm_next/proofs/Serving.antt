-- What is decided for a batcher, over all lists of records that go on from the setting's own.
use Rattle.std.proofs.Common.{◌≡◌, ℕ, zero, suc, ◌/◌, ◌%◌, ◌<◌, ◌≤◌, Bool, true, false, cond, List, [], ◌∷◌, ◌++◌, length, refl, sym, ap, ◌∙◌, subst, Option, Some, None, arith, take_while}
use Rattle.std.specs.Prelude.{nat_le, slice_get, option_map, get_or}
use Rattle.std.specs.List.{prefix_len}
use Rattle.std.proofs.lemmas.Bool.{and_parts, leb-true}
use Rattle.std.proofs.lemmas.Option.{get_or_from_slice_get, slice_get_within}
use Rattle.esm_model.specs.declared.limits.TheConstants.{MAX_EXPIRED}
use Rattle.esm_model.specs.declared.moment.TheConstants.{MAX_MOMENT}
use Rattle.esm_model.specs.Moment.{moment_after}
use Rattle.esm_model.specs.declared.config.Kind.{Kind}
use Rattle.esm_model.specs.declared.config.Config.{Config}
use Rattle.esm_model.specs.declared.lane.LaneId.{LaneId}
use Rattle.esm_model.specs.declared.entry.Fate.TheVariants.{Expired}
use Rattle.esm_model.specs.declared.entry.Entry.{Entry}
use Rattle.esm_model.specs.declared.entry.Entry.TheVariants.{Gave}
use Rattle.esm_model.specs.Valid.{IsStreamConfig, HasFieldsOf, HasStreamFields}
use Rattle.esm_model.specs.Setting.{Setting, Stream, Extends, over}
use Rattle.esm_model.specs.Entries.{holds, came_count, shards_that_came, is_shut, is_running, last_moment}
use Rattle.esm_model.specs.Batches.{group, is_expired}
use Rattle.esm_model.specs.FailureLine.{failure_line}
use Rattle.esm_model.specs.Owed.{Settled}
use Rattle.esm_model.specs.Step.{Legal}
use Rattle.esm_model.proofs.Lists.{In, In-here, In-there, In-take}
use Rattle.esm_model.proofs.Records.{Covered, same_records, covered_open, group_In}
use Rattle.esm_model.proofs.Extended.{line_same, legal_over}
use Rattle.esm_model.proofs.Settling.{settled_began, settled_expired}
use Rattle.esm_ledger.specs.Reading.{lane_of_batcher}
use Rattle.esm_next.specs.declared.decision.Decision.{Decision}
use Rattle.esm_next.specs.declared.decision.Decision.TheVariants as decision
use Rattle.esm_next.specs.Following.{expiring, next_in, next_for, expiry_entries, next_entries}
use Rattle.esm_next.specs.Deciding.{answer_of, decision_entries, NamesLane, IsDecided}
use Rattle.esm_next.proofs.Over.{next_over, expiring_same}
use Rattle.esm_next.proofs.Rules.{IsCallable, call_follows, decided_follows}

-- the lane of a batcher

pub factor_some : (c : Config) → IsStreamConfig c → 1 ≤ c.factor
factor_some c valid =
    let fields : HasStreamFields c = subst (λ (k : Kind). HasFieldsOf k c) valid.kind valid.valid.fields in
    leb-true 1 c.factor (and_parts (nat_le 1 c.factor) (nat_le c.factor 10) fields.factor).0

get_In : (xs : List ℕ) (k : ℕ) → k < length xs → In xs (get_or xs k 0)
get_In [] k within = absurd (omega arith)
get_In (x ∷ xs) zero within = In-here x xs x refl
get_In (x ∷ xs) (suc k) within = In-there x xs (get_or xs k 0) (get_In xs k (omega arith))

slice_In : (xs : List ℕ) (k n : ℕ) → slice_get xs k ≡ Some n → In xs n
slice_In xs k n is = subst (λ (i : ℕ). In xs i) (get_or_from_slice_get xs k n 0 is) (get_In xs k (slice_get_within xs k n is))

pub record IsBatcherLane (s : Setting) (h : List Entry) (k : ℕ) (lane : LaneId) : Type 0 where
  pub below_factor : lane.lane < s.config.factor
  pub came : holds (shards_that_came h) lane.shard ≡ true

pub batcher_lane : (s : Setting) (h : List Entry) (k : ℕ) (lane : LaneId) → 1 ≤ s.config.factor → lane_of_batcher s h k ≡ Some lane → IsBatcherLane s h k lane
batcher_lane s h k lane some is = at (slice_get (shards_that_came h) (k / s.config.factor)) refl is
  where
    same : (a b : LaneId) → Some a ≡ Some b → a ≡ b
    same a b e = cc

    none : (b : LaneId) → None ≡ Some b → ⊥
    none b e = cc

    at : (o : Option ℕ) → slice_get (shards_that_came h) (k / s.config.factor) ≡ o → option_map (λ (n : ℕ). record { shard = n; lane = k % s.config.factor }) o ≡ Some lane → IsBatcherLane s h k lane
    at None e is = absurd (none lane is)
    at (Some n) e is =
        let l : LaneId = record { shard = n; lane = k % s.config.factor } in
        let lane_is : l ≡ lane = same l lane is in
        let number : k % s.config.factor ≡ lane.lane = ap (λ (x : LaneId). x.lane) lane_is in
        let shard : n ≡ lane.shard = ap (λ (x : LaneId). x.shard) lane_is in
        record {
          below_factor = omega (arith, number, some);
          came = subst (λ (i : ℕ). holds (shards_that_came h) i ≡ true) shard (slice_In (shards_that_came h) (k / s.config.factor) n e);
        }

-- what is promised of a decision

pub record IsServed (s : Setting) (h : List Entry) (k m : ℕ) (d : Decision) : Type 0 where
  pub answer : (ts : List Stream) → Extends s.streams ts → answer_of d ≡ next_for (over s ts) h k m
  pub entries : (ts : List Stream) → Extends s.streams ts → decision_entries d m ≡ next_entries (over s ts) h k m (answer_of d)
  pub legal : (ts : List Stream) → Extends s.streams ts → Legal (over s ts) (decision_entries d m ++ h)
  pub settled : (ts : List Stream) → Extends s.streams ts → Settled (over s ts) (decision_entries d m ++ h)
  pub lane : NamesLane s.config.factor d

-- a batcher whose shard has not come

abbrev pub rest_of : Bool → ℕ → Decision
rest_of shut m = cond shut decision.Finished (decision.Idle (moment_after m 20))

module _ (s : Setting) (h : List Entry) (k m : ℕ) where
  rest_served : (shut : Bool) → Legal s h → ((ts : List Stream) → Extends s.streams ts → Settled (over s ts) h) → lane_of_batcher s h k ≡ None → is_shut h ≡ shut → IsServed s h k m (rest_of shut m)
  rest_served true legal settled none is = record {
    answer = λ ts ext. sym (ap (next_in (over s ts) h m) none ∙ rw is refl);
    entries = λ ts ext. refl;
    legal = λ ts ext. legal_over s h ts ext legal;
    settled = settled;
    lane = tt;
  }
  rest_served false legal settled none is = record {
    answer = λ ts ext. sym (ap (next_in (over s ts) h m) none ∙ rw is refl);
    entries = λ ts ext. refl;
    legal = λ ts ext. legal_over s h ts ext legal;
    settled = settled;
    lane = tt;
  }

  pub served_none : (shut : Bool) (d : Decision) → Legal s h → ((ts : List Stream) → Extends s.streams ts → Settled (over s ts) h) → lane_of_batcher s h k ≡ None → is_shut h ≡ shut → d ≡ rest_of shut m → IsServed s h k m d
  served_none shut d legal settled none is same = subst (λ (x : Decision). IsServed s h k m x) (sym same) (rest_served shut legal settled none is)

-- a batcher with a lane

module _ (s : Setting) (h : List Entry) (k m : ℕ) (lane : LaneId) (legal : Legal s h) (came : 1 ≤ came_count h lane.shard) (at : lane_of_batcher s h k ≡ Some lane) where
  answer_over : (d : Decision) → IsDecided s h lane m d → (ts : List Stream) → Extends s.streams ts → answer_of d ≡ next_for (over s ts) h k m
  answer_over d is ts ext = is.answer ∙ sym (next_over s ts h (same_records s ts h ext legal) legal lane came m) ∙ sym (ap (next_in (over s ts) h m) at)

  expiring_covered : Covered h lane.shard (expiring s h lane m)
  expiring_covered i member =
      let old = is_expired s lane.shard m in
      let there = In-take (prefix_len (is_expired s lane.shard m) (group s h lane)) (group s h lane) i (In-take MAX_EXPIRED (take_while (is_expired s lane.shard m) (group s h lane)) i member) in
      covered_open s h lane i (group_In s h lane i there)

  abbrev gave : List ℕ → Option (List ℕ) → List Entry
  gave places line = Gave (Some lane) lane.shard places Expired line None m ∷ []

  expiry_over : (l : LaneId) (places : List ℕ) (line : Option (List ℕ)) → l ≡ lane → places ≡ expiring s h lane m → 1 ≤ length places → line ≡ failure_line s h lane.shard places true m → (ts : List Stream) → Extends s.streams ts
      → (Gave (Some l) l.shard places Expired line None m ∷ []) ≡ expiry_entries (over s ts) h m (lane_of_batcher (over s ts) h k)
  expiry_over l places line lane_is places_are some line_is ts ext =
      let same = same_records s ts h ext legal in
      let here : places ≡ expiring (over s ts) h lane m = places_are ∙ sym (expiring_same s ts h same legal lane m) in
      let covered : Covered h lane.shard places = subst (λ (xs : List ℕ). Covered h lane.shard xs) (sym places_are) expiring_covered in
      let told : line ≡ failure_line (over s ts) h lane.shard places true m = line_is ∙ sym (line_same s ts h same lane.shard places some covered true m) in
      ap (λ (x : LaneId). Gave (Some x) x.shard places Expired line None m ∷ []) lane_is
      ∙ ap (gave places) told
      ∙ ap (λ (xs : List ℕ). gave xs (failure_line (over s ts) h lane.shard xs true m)) here
      ∙ sym (ap (expiry_entries (over s ts) h m) at)

  entries_over : (d : Decision) → IsDecided s h lane m d → (ts : List Stream) → Extends s.streams ts → decision_entries d m ≡ next_entries (over s ts) h k m (answer_of d)
  entries_over (decision.Call job) is ts ext = refl
  entries_over (decision.Expire l places line) is ts ext = expiry_over l places line is.gives.lane_is is.gives.places_are is.gives.some is.gives.line_is ts ext
  entries_over (decision.Idle until) is ts ext = refl
  entries_over decision.Spent is ts ext = refl
  entries_over decision.Finished is ts ext = refl

  settled_over : (d : Decision) → ((ts : List Stream) → Extends s.streams ts → Settled (over s ts) h) → (ts : List Stream) → Extends s.streams ts → Settled (over s ts) (decision_entries d m ++ h)
  settled_over (decision.Call job) settled ts ext = settled_began (over s ts) h job.lane job.places job.closing m (settled ts ext)
  settled_over (decision.Expire l places line) settled ts ext = settled_expired (over s ts) h l l.shard places Expired line None m (settled ts ext)
  settled_over (decision.Idle until) settled ts ext = settled ts ext
  settled_over decision.Spent settled ts ext = settled ts ext
  settled_over decision.Finished settled ts ext = settled ts ext

  names_over : (d : Decision) → IsCallable s h lane m → IsDecided s h lane m d → NamesLane s.config.factor d
  names_over (decision.Call job) can is = subst (λ (l : LaneId). l.lane < s.config.factor) (sym (call_follows s h lane m job can is.answer is.gives).lane_is) can.below_factor
  names_over (decision.Expire l places line) can is = subst (λ (x : LaneId). x.lane < s.config.factor) (sym is.gives.lane_is) can.below_factor
  names_over (decision.Idle until) can is = tt
  names_over decision.Spent can is = tt
  names_over decision.Finished can is = tt

  pub served_lane : (d : Decision) → ((ts : List Stream) → Extends s.streams ts → Settled (over s ts) h) → lane.lane < s.config.factor → is_running h lane ≡ false → last_moment h ≤ m → m ≤ MAX_MOMENT → IsDecided s h lane m d → IsServed s h k m d
  served_lane d settled below' rests later within is =
      let can : IsCallable s h lane m = record { settled = settled s.streams (λ n i r here. here); came = came; below_factor = below'; rests = rests } in
      let added = decided_follows s h lane m d legal can later within is in
      record {
        answer = answer_over d is;
        entries = entries_over d is;
        legal = λ ts ext. legal_over s (decision_entries d m ++ h) ts ext added.legal;
        settled = settled_over d settled;
        lane = names_over d can is;
      }
