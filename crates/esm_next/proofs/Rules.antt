-- What is decided for a lane may follow the history.
use Rattle.std.proofs.Common.{◌≡◌, ℕ, ◌<◌, ◌≤◌, true, false, ◌&&◌, List, [], ◌∷◌, ◌++◌, length, refl, sym, ap, ◌∙◌, subst, inl, inr, Option, Some, None}
use Rattle.std.specs.Prelude.{nat_le, nat_lt, slice_index}
use Rattle.std.proofs.lemmas.Bool.{cases_Bool, and_from, le-leb, leb-false, ltb-false}
use Rattle.esm_model.specs.declared.moment.TheConstants.{MAX_MOMENT}
use Rattle.esm_model.specs.declared.lane.LaneId.{LaneId}
use Rattle.esm_model.specs.declared.book.Job.{Job}
use Rattle.esm_model.specs.declared.book.Next.TheVariants as next
use Rattle.esm_model.specs.declared.entry.Fate.TheVariants.{Expired}
use Rattle.esm_model.specs.declared.entry.Entry.{Entry}
use Rattle.esm_model.specs.declared.entry.Entry.TheVariants.{Began}
use Rattle.esm_model.specs.Moment.{moment_after}
use Rattle.esm_model.specs.Setting.{Setting}
use Rattle.esm_model.specs.Entries.{came_count, came_moment, is_shut, is_running, calls_begun, last_moment}
use Rattle.esm_model.specs.Fates.{open_places}
use Rattle.esm_model.specs.Batches.{group, batch, is_group_ready, delay_end}
use Rattle.esm_model.specs.FailureLine.{failure_line}
use Rattle.esm_model.specs.Owed.{Settled}
use Rattle.esm_model.specs.Step.{Legal, MayFollow, MayCall, MayBegin, MayBeginFinal, is_front_expired}
use Rattle.esm_model.proofs.Settling.{settled_began, settled_expired}
use Rattle.esm_next.specs.declared.decision.Decision.{Decision}
use Rattle.esm_next.specs.declared.decision.Decision.TheVariants as decision
use Rattle.esm_next.specs.Following.{job_of, expiring, outstanding, due_windows, least, is_nothing, next_batch, next_call, next_allowed, next_quiet, next_of}
use Rattle.esm_next.specs.Deciding.{decision_entries, IsDecided}
use Rattle.esm_next.proofs.Told.{least_due}

-- what the answer `Call` tells
pub record CallTold (s : Setting) (h : List Entry) (lane : LaneId) (m : ℕ) (job : Job) : Type 0 where
  pub calls_left : calls_begun h < s.calls
  pub delay : delay_end s h lane ≤ m
  pub by_window : next.Call job ≡ next_call s h lane m (least (due_windows s h lane.shard))

same_call : (a b : Job) → next.Call a ≡ next.Call b → a ≡ b
same_call a b e = cc

call_spent : {X : Type 0} (job : Job) → next.Call job ≡ next.Spent → X
call_spent job e = absurd cc

call_finished : {X : Type 0} (job : Job) → next.Call job ≡ next.Finished → X
call_finished job e = absurd cc

call_idle : {X : Type 0} (job : Job) (k : ℕ) → next.Call job ≡ next.Idle k → X
call_idle job k e = absurd cc

call_gave : {X : Type 0} (job : Job) (k : ℕ) → next.Call job ≡ next.Gave k → X
call_gave job k e = absurd cc

module _ (s : Setting) (h : List Entry) (lane : LaneId) (m : ℕ) (job : Job) where
  told_allowed : next.Call job ≡ next_allowed s h lane m → CallTold s h lane m job
  told_allowed is =
      elim (cases_Bool (nat_le s.calls (calls_begun h))) [
        | inl spent ↦ call_spent job (rw spent at is)
        | inr going ↦ elim (cases_Bool (nat_lt m (delay_end s h lane))) [
          | inl waits ↦ call_idle job (delay_end s h lane) (rw (going, waits) at is)
          | inr over' ↦ record {
            calls_left = leb-false s.calls (calls_begun h) going;
            delay = ltb-false m (delay_end s h lane) over';
            by_window = rw (going, over') at is;
          }
        ]
      ]

  told_quiet : (xs : List ℕ) → next.Call job ≡ next_quiet s h lane m xs → CallTold s h lane m job
  told_quiet (i ∷ xs) is = told_allowed is
  told_quiet [] is =
      elim (cases_Bool (is_shut h && is_nothing (outstanding s h lane.shard))) [
        | inl done ↦ call_finished job (rw done at is)
        | inr more ↦ elim (cases_Bool (is_nothing (due_windows s h lane.shard))) [
          | inl none ↦ call_idle job (moment_after m 20) (rw (more, none) at is)
          | inr some ↦ told_allowed (rw (more, some) at is)
        ]
      ]

  pub told : is_front_expired s h lane m ≡ false → next.Call job ≡ next_of s h lane m → CallTold s h lane m job
  told young is = told_quiet (open_places s h lane) (rw young at is)

  pub call_young : next.Call job ≡ next_of s h lane m → is_front_expired s h lane m ≡ false
  call_young is = elim (cases_Bool (is_front_expired s h lane m)) [
    | inr young ↦ young
    | inl old ↦ call_gave job (length (expiring s h lane m)) (rw old at is)
  ]

-- a call of a batch that comes next
pub record BatchTold (s : Setting) (h : List Entry) (lane : LaneId) (m : ℕ) (job : Job) : Type 0 where
  pub ready : is_group_ready s h lane m (group s h lane) (batch s h lane m) ≡ true
  pub job_is : job ≡ job_of s h lane (batch s h lane m) None

told_batch : (s : Setting) (h : List Entry) (lane : LaneId) (m : ℕ) (job : Job) → next.Call job ≡ next_batch s h lane m → BatchTold s h lane m job
told_batch s h lane m job is =
    elim (cases_Bool (is_group_ready s h lane m (group s h lane) (batch s h lane m))) [
      | inl ready ↦ record { ready = ready; job_is = same_call job (job_of s h lane (batch s h lane m) None) (rw ready at is) }
      | inr not_ready ↦ call_idle job (moment_after (came_moment h lane.shard (slice_index (group s h lane) 0)) s.config.window_ms) (rw not_ready at is)
    ]

-- what a lane needs to be called
pub record IsCallable (s : Setting) (h : List Entry) (lane : LaneId) (m : ℕ) : Type 0 where
  pub settled : Settled s h
  pub came : 1 ≤ came_count h lane.shard
  pub below_factor : lane.lane < s.config.factor
  pub rests : is_running h lane ≡ false

may_call : (s : Setting) (h : List Entry) (lane : LaneId) (m : ℕ) (job : Job) → IsCallable s h lane m → next.Call job ≡ next_of s h lane m → MayCall s h lane m
may_call s h lane m job can is =
    let young = call_young s h lane m job is in
    let say = told s h lane m job young is in
    record { settled = can.settled; came = can.came; below_factor = can.below_factor; rests = can.rests; calls_left = say.calls_left; front = young }

-- a call that comes next is one of the lane, and may begin
pub record CallFollows (s : Setting) (h : List Entry) (lane : LaneId) (m : ℕ) (job : Job) : Type 0 where
  pub lane_is : job.lane ≡ lane
  pub follows : MayFollow s h (Began job.lane job.places job.closing m)

module _ (s : Setting) (h : List Entry) (lane : LaneId) (m : ℕ) (job : Job) (can : IsCallable s h lane m) (is : next.Call job ≡ next_of s h lane m) where
  say : CallTold s h lane m job
  say = told s h lane m job (call_young s h lane m job is) is

  by_batch : least (due_windows s h lane.shard) ≡ None → (job.closing ≡ None → 1 ≤ length job.places) → CallFollows s h lane m job
  by_batch none some =
      let call : next.Call job ≡ next_batch s h lane m = say.by_window ∙ ap (next_call s h lane m) none in
      let batch_told = told_batch s h lane m job call in
      let closing : job.closing ≡ None = ap (λ (j : Job). j.closing) batch_told.job_is in
      let at : job.lane ≡ lane = ap (λ (j : Job). j.lane) batch_told.job_is in
      let may : MayBegin s h lane job.places m = record {
        call = may_call s h lane m job can is;
        no_window_due = least_due s h lane.shard None none;
        ready = and_from (nat_le (delay_end s h lane) m) (is_group_ready s h lane m (group s h lane) (batch s h lane m)) (le-leb (delay_end s h lane) m say.delay) batch_told.ready;
        exact = ap (λ (j : Job). j.places) batch_told.job_is;
        some = some closing;
      } in
      record {
        lane_is = at;
        follows = subst (λ (o : Option ℕ). MayFollow s h (Began job.lane job.places o m)) (sym closing) (subst (λ (l : LaneId). MayBegin s h l job.places m) (sym at) may);
      }

  by_window : (w : ℕ) → least (due_windows s h lane.shard) ≡ Some w → CallFollows s h lane m job
  by_window w some =
      let call : next.Call job ≡ next_call s h lane m (Some w) = say.by_window ∙ ap (next_call s h lane m) some in
      let job_is : job ≡ job_of s h lane [] (Some w) = same_call job (job_of s h lane [] (Some w)) call in
      let closing : job.closing ≡ Some w = ap (λ (j : Job). j.closing) job_is in
      let at : job.lane ≡ lane = ap (λ (j : Job). j.lane) job_is in
      let due = least_due s h lane.shard (Some w) some in
      let may : MayBeginFinal s h lane job.places w m = record {
        call = may_call s h lane m job can is;
        delay_over = say.delay;
        due = due.0;
        least = due.1;
        no_places = ap (λ (j : Job). j.places) job_is;
      } in
      record {
        lane_is = at;
        follows = subst (λ (o : Option ℕ). MayFollow s h (Began job.lane job.places o m)) (sym closing) (subst (λ (l : LaneId). MayBeginFinal s h l job.places w m) (sym at) may);
      }

  pub call_follows : (job.closing ≡ None → 1 ≤ length job.places) → CallFollows s h lane m job
  call_follows some = at (least (due_windows s h lane.shard)) refl
    where
      at : (o : Option ℕ) → least (due_windows s h lane.shard) ≡ o → CallFollows s h lane m job
      at None none = by_batch none some
      at (Some w) some' = by_window w some'

-- the history with what was decided
pub record IsAdded (s : Setting) (h : List Entry) (d : Decision) (m : ℕ) : Type 0 where
  pub legal : Legal s (decision_entries d m ++ h)
  pub settled : Settled s (decision_entries d m ++ h)

unchanged : (s : Setting) (h : List Entry) → Legal s h → Settled s h → (m : ℕ) (d : Decision) → decision_entries d m ≡ [] → IsAdded s h d m
unchanged s h legal settled m d none = record {
  legal = subst (λ (es : List Entry). Legal s (es ++ h)) (sym none) legal;
  settled = subst (λ (es : List Entry). Settled s (es ++ h)) (sym none) settled;
}

pub decided_follows : (s : Setting) (h : List Entry) (lane : LaneId) (m : ℕ) (d : Decision) → Legal s h → IsCallable s h lane m → last_moment h ≤ m → m ≤ MAX_MOMENT → IsDecided s h lane m d → IsAdded s h d m
decided_follows s h lane m (decision.Call job) legal can later within is =
    let step = call_follows s h lane m job can is.answer is.gives in
    record {
      legal = (legal, (record { not_back = later; within = within }, step.follows));
      settled = settled_began s h job.lane job.places job.closing m can.settled;
    }
decided_follows s h lane m (decision.Expire at places line) legal can later within is =
    let at_lane : at ≡ lane = is.gives.lane_is in
    record {
      legal = (
        legal,
        (
          record { not_back = later; within = within },
          record {
            settled = can.settled;
            rests = subst (λ (l : LaneId). is_running h l ≡ false) (sym at_lane) can.rests;
            shard = refl;
            exact = is.gives.places_are ∙ ap (λ (l : LaneId). expiring s h l m) (sym at_lane);
            some = is.gives.some;
            line_is = is.gives.line_is ∙ ap (λ (l : LaneId). failure_line s h l.shard places true m) (sym at_lane);
            no_state = refl;
          },
        ),
      );
      settled = settled_expired s h at at.shard places Expired line None m can.settled;
    }
decided_follows s h lane m (decision.Idle until) legal can later within is = unchanged s h legal can.settled m (decision.Idle until) refl
decided_follows s h lane m decision.Spent legal can later within is = unchanged s h legal can.settled m decision.Spent refl
decided_follows s h lane m decision.Finished legal can later within is = unchanged s h legal can.settled m decision.Finished refl
