-- What a batcher's call leaves as it was in the other lanes. Only this crate's tests cite this.
use Rattle.std.proofs.Common.{◌≡◌, ◌≢◌, ℕ, false, List, [], ◌∷◌, ◌++◌, reverse, Option, Some, refl, sym, ap, subst, ◌∙◌, inl, inr, append_assoc}
use Rattle.std.specs.Prelude.{◌/◌, ◌%◌, map, slice_get, option_map}
use Rattle.std.proofs.lemmas.Bool.{cases_Bool}
use Rattle.std.proofs.lemmas.List.{append-nil, reverse-append}
use Rattle.esm_model.specs.declared.lane.LaneId.{LaneId}
use Rattle.esm_model.specs.declared.book.Job.{Job}
use Rattle.esm_model.specs.declared.book.Next.{Next}
use Rattle.esm_model.specs.declared.book.Next.TheVariants as next
use Rattle.esm_model.specs.declared.entry.Reply.{Reply}
use Rattle.esm_model.specs.declared.entry.Entry.{Entry}
use Rattle.esm_model.specs.declared.entry.Entry.TheVariants.{Began, Ended, Shut}
use Rattle.esm_model.specs.Lane.{same_lane}
use Rattle.esm_model.specs.Setting.{Setting}
use Rattle.esm_model.specs.Entries.{is_shut, is_running, last_call, batch_of, shards_that_came, batcher}
use Rattle.esm_model.specs.Owed.{Debt, Success, GiveUp, Try, Close, debt_entry, debts}
use Rattle.esm_model.proofs.Sound.{same_lane-true}
use Rattle.esm_model.proofs.Steps.{same_lane-refl}
use Rattle.esm_ingest.specs.Parts.{Part}
use Rattle.esm_ingest.specs.Entries.{came_part, came_parts, filtered_at, filtered_parts, part_entries}
use Rattle.esm_ledger.specs.Reading.{lane_of_batcher}
use Rattle.esm_next.specs.Following.{next_for, next_entries}
use Rattle.esm_stream_core.specs.CoreView.{CoreView}
use Rattle.esm_stream_core.specs.Calls.{moment_for, ended_entries, IsNextOver, IsResting, IsRunningJob}
use Rattle.esm_stream_book.specs.Calls.{RunsCall, next_entries_now}
use Rattle.esm_tests_books.proofs.Batchers.{batcher_is}
use Rattle.esm_tests_books.proofs.Quiet.{Same, same_front, one_more}
use Rattle.esm_tests_books.specs.Streams.{IsOpen, Runs, KeepsOthers}

-- records that come begin no call, and do not end the input

open_came : (m : ℕ) (ps : List Part) (h : List Entry) → IsOpen h → IsOpen (reverse (came_parts m ps) ++ h)
open_came m [] h was = was
open_came m (p ∷ ps) h was = subst IsOpen (one_more (came_part m p) (came_parts m ps) h) (open_came m ps (came_part m p ∷ h) (record { going = was.going; quiet = was.quiet }))

open_filtered_one : (m n : ℕ) (places : List ℕ) (h : List Entry) → IsOpen h → IsOpen (reverse (filtered_at m n places) ++ h)
open_filtered_one m n [] h was = was
open_filtered_one m n (i ∷ places) h was = record { going = was.going; quiet = was.quiet }

two_lists : (xs ys h : List Entry) → reverse ys ++ (reverse xs ++ h) ≡ reverse (xs ++ ys) ++ h
two_lists xs ys h = sym (ap (λ es. es ++ h) (reverse-append xs ys) ∙ append_assoc (reverse ys) (reverse xs) h)

open_filtered : (m : ℕ) (ps : List Part) (h : List Entry) → IsOpen h → IsOpen (reverse (filtered_parts m ps) ++ h)
open_filtered m [] h was = was
open_filtered m (p ∷ ps) h was =
    let one : List Entry = filtered_at m p.shard p.refused in
    subst IsOpen (two_lists one (filtered_parts m ps) h) (open_filtered m ps (reverse one ++ h) (open_filtered_one m p.shard p.refused h was))

pub open_parts : (m : ℕ) (ps : List Part) (h more : List Entry) → more ≡ reverse (part_entries m ps) ++ h → IsOpen h → IsOpen more
open_parts m ps h more past was =
    subst IsOpen (two_lists (came_parts m ps) (filtered_parts m ps) h ∙ sym past)
    (open_filtered m ps (reverse (came_parts m ps) ++ h) (open_came m ps h was))

-- the later history differs from the earlier one in the calls of this lane alone
record OnlyLane (lane : LaneId) (h more : List Entry) : Type 0 where
  running : (l : LaneId) → same_lane lane l ≡ false → is_running more l ≡ is_running h l
  last : (l : LaneId) → same_lane lane l ≡ false → last_call more l ≡ last_call h l
  shards : shards_that_came more ≡ shards_that_came h
  shut : is_shut more ≡ is_shut h

only_began : (lane : LaneId) (places : List ℕ) (closing : Option ℕ) (m : ℕ) (h : List Entry) → OnlyLane lane h (Began lane places closing m ∷ h)
only_began lane places closing m h = record { running = λ l other. rw other refl; last = λ l other. rw other refl; shards = refl; shut = refl }

last_debt : (s : Setting) (h before : List Entry) (lane l : LaneId) (m : ℕ) (d : Debt) → last_call (debt_entry s before lane m d ∷ h) l ≡ last_call h l
last_debt s h before lane l m (Success places state) = refl
last_debt s h before lane l m (GiveUp places) = refl
last_debt s h before lane l m (Try places closing tries) = refl
last_debt s h before lane l m (Close window) = refl

last_debts : (s : Setting) (h before : List Entry) (lane l : LaneId) (m : ℕ) (ds : List Debt) → last_call (reverse (map (debt_entry s before lane m) ds) ++ h) l ≡ last_call h l
last_debts s h before lane l m [] = refl
last_debts s h before lane l m (d ∷ ds) =
    let e : Entry = debt_entry s before lane m d in
    ap (λ past. last_call past l) (sym (one_more e (map (debt_entry s before lane m) ds) h))
    ∙ last_debts s (e ∷ h) before lane l m ds ∙ last_debt s h before lane l m d

-- the batchers' lanes

lanes_same : (v w : CoreView) → w.setting ≡ v.setting → shards_that_came w.past ≡ shards_that_came v.past → (k : ℕ) → lane_of_batcher w.setting w.past k ≡ lane_of_batcher v.setting v.past k
lanes_same v w setting shards k =
    ap (λ (s : Setting). lane_of_batcher s w.past k) setting
    ∙ ap (λ ns. option_map (λ (n : ℕ). record { shard = n; lane = k % v.setting.config.factor }) (slice_get ns (k / v.setting.config.factor))) shards

other_lane : (s : Setting) (h : List Entry) (j k : ℕ) (lane l : LaneId) → j ≢ k → lane_of_batcher s h k ≡ Some lane → lane_of_batcher s h j ≡ Some l → same_lane lane l ≡ false
other_lane s h j k lane l apart mine its = elim (cases_Bool (same_lane lane l)) [
  | inl same ↦ absurd (apart (sym (batcher_is s h j l its) ∙ ap (batcher s h) (sym (same_lane-true lane l same)) ∙ batcher_is s h k lane mine))
  | inr other ↦ other
]

keeps : (v w : CoreView) (k : ℕ) (lane : LaneId) → lane_of_batcher v.setting v.past k ≡ Some lane → w.setting ≡ v.setting → OnlyLane lane v.past w.past → KeepsOthers k v w
keeps v w k lane mine setting only = record {
  going = only.shut;
  rest = λ j apart rests l its.
      let was : lane_of_batcher v.setting v.past j ≡ Some l = sym (lanes_same v w setting only.shards j) ∙ its in
      only.running l (other_lane v.setting v.past j k lane l apart mine was) ∙ rests l was;
  run = λ j job apart runs.
      let other = other_lane v.setting v.past j k lane job.lane apart mine runs.lane in
      record {
        lane = lanes_same v w setting only.shards j ∙ runs.lane;
        job_is = record { runs = only.running job.lane other ∙ runs.job_is.runs; places = runs.job_is.places ∙ ap batch_of (sym (only.last job.lane other)) };
      };
}

-- a call begins

pub begun : (v w : CoreView) (k t : ℕ) (x : Next) (job : Job) → x ≡ next.Call job → IsNextOver v k (moment_for v.past t) x → RunsCall k v w x → w.setting ≡ v.setting → w.past ≡ reverse (next_entries_now v k t) ++ v.past
    → Runs w k job × KeepsOthers k v w
begun v w k t x job call answer told setting past =
    let m : ℕ = moment_for v.past t in
    let is : next.Call job ≡ next_for v.setting v.past k m = sym call ∙ answer v.setting.streams (λ a i r at. at) in
    let runs : RunsCall k v w (next.Call job) = subst (RunsCall k v w) call told in
    let began : w.past ≡ Began job.lane job.places job.closing m ∷ v.past = past ∙ ap (λ (x : Next). reverse (next_entries v.setting v.past k m x) ++ v.past) (sym is) in
    let only : OnlyLane job.lane v.past w.past = subst (OnlyLane job.lane v.past) (sym began) (only_began job.lane job.places job.closing m v.past) in
    (record { lane = lanes_same v w setting only.shards k ∙ runs.0; job_is = runs.1 }, keeps v w k job.lane runs.0 setting only)

-- a call ends, and what it calls for follows

ended_mine : (lane l : LaneId) (reply : Reply) (m : ℕ) (h : List Entry) → lane ≡ l → is_running (Ended lane reply m ∷ h) l ≡ false
ended_mine lane l reply m h is = subst (λ k. is_running (Ended lane reply m ∷ h) k ≡ false) is (rw (same_lane-refl lane) refl)

ended_other : (lane l : LaneId) (reply : Reply) (m : ℕ) (h : List Entry) → same_lane lane l ≡ false → is_running (Ended lane reply m ∷ h) l ≡ is_running h l
ended_other lane l reply m h other = rw other refl

pub ended : (v w : CoreView) (k m : ℕ) (job : Job) (reply : Reply) → Runs v k job → w.setting ≡ v.setting → w.past ≡ reverse (ended_entries v job.lane reply m) ++ v.past
    → IsResting w k × KeepsOthers k v w
ended v w k m job reply runs setting past =
    let lane : LaneId = job.lane in
    let end : List Entry = Ended lane reply m ∷ v.past in
    let ds : List Debt = debts v.setting end lane in
    let es : List Entry = map (debt_entry v.setting end lane m) ds in
    let at : w.past ≡ reverse es ++ end = past ∙ sym (one_more (Ended lane reply m) es v.past) in
    let same : Same v.setting (λ (event : List ℕ). event) end w.past =
    subst (Same v.setting (λ (event : List ℕ). event) end) (sym at) (same_front v.setting v.setting (λ (event : List ℕ). event) (Ended lane reply m) v.past end lane m es [] ds refl (append-nil es)) in
    let only : OnlyLane lane v.past w.past = record {
      running = λ l other. same.running l ∙ ended_other lane l reply m v.past other;
      last = λ l other. ap (λ h. last_call h l) at ∙ last_debts v.setting end end lane l m ds;
      shards = same.shards;
      shut = same.shut;
    } in
    let rests : IsResting w k = λ l its. (
    let both : Some lane ≡ Some l = sym (lanes_same v w setting only.shards k ∙ runs.lane) ∙ its in
    same.running l ∙ ended_mine lane l reply m v.past (cc)) in
    (rests, keeps v w k lane runs.lane setting only)

-- nothing is added, or the end of the input alone

pub still : (v w : CoreView) (k t : ℕ) (x y : Next) → x ≡ y → ((s : Setting) (h : List Entry) (m : ℕ) → next_entries s h k m y ≡ []) → IsNextOver v k (moment_for v.past t) x → w.past ≡ reverse (next_entries_now v k t) ++ v.past → w.past ≡ v.past
still v w k t x y same none answer past =
    let m : ℕ = moment_for v.past t in
    let is : y ≡ next_for v.setting v.past k m = sym same ∙ answer v.setting.streams (λ a i r at. at) in
    past ∙ ap (λ (z : Next). reverse (next_entries v.setting v.past k m z) ++ v.past) (sym is) ∙ ap (λ es. reverse es ++ v.past) (none v.setting v.past m)

rests_on : (v w : CoreView) (k : ℕ) → w.setting ≡ v.setting → shards_that_came w.past ≡ shards_that_came v.past → ((l : LaneId) → is_running w.past l ≡ is_running v.past l) → IsResting v k → IsResting w k
rests_on v w k setting shards running rests l its = running l ∙ rests l (sym (lanes_same v w setting shards k) ∙ its)

pub shut_rests : (v w : CoreView) (m k : ℕ) → w.setting ≡ v.setting → w.past ≡ Shut m ∷ v.past → IsResting v k → IsResting w k
shut_rests v w m k setting past = rests_on v w k setting (ap shards_that_came past) (λ l. ap (λ h. is_running h l) past)

pub still_rests : (v w : CoreView) (k : ℕ) → w.setting ≡ v.setting → w.past ≡ v.past → IsResting v k → IsResting w k
still_rests v w k setting past = rests_on v w k setting (ap shards_that_came past) (λ l. ap (λ h. is_running h l) past)

pub still_keeps : (v w : CoreView) (k : ℕ) → w.setting ≡ v.setting → w.past ≡ v.past → KeepsOthers k v w
still_keeps v w k setting past = record {
  going = ap is_shut past;
  rest = λ j apart. still_rests v w j setting past;
  run = λ j job apart runs. record {
    lane = lanes_same v w setting (ap shards_that_came past) j ∙ runs.lane;
    job_is = subst (λ h. IsRunningJob h job) (sym past) runs.job_is;
  };
}
