-- The lanes of a batcher, and the event of the call that it is told to make.
use Rattle.std.proofs.Common.{◌≡◌, ℕ, ◌+◌, ◌*◌, suc, Bool, true, false, not, List, [], ◌∷◌, length, refl, sym, ap, ◌∙◌, subst, inl, inr, arith, get_or, Option, Some, None}
use Rattle.std.specs.Prelude.{◌==◌, ◌&&◌, ◌/◌, ◌%◌, ⊤, nat_lt, nat_le, slice_index, if◌then◌else◌}
use Rattle.std.specs.List.{prefix_len}
use Rattle.std.proofs.lemmas.Bool.{cases_Bool, eqb-true}
use Rattle.std.proofs.lemmas.Nat.{div-mul-add, mod-mul-add}
use Rattle.esm_model.specs.declared.lane.LaneId.{LaneId}
use Rattle.esm_model.specs.declared.book.Job.{Job}
use Rattle.esm_model.specs.declared.book.Next.{Next}
use Rattle.esm_model.specs.declared.book.Next.TheVariants as next
use Rattle.esm_model.specs.declared.entry.Entry.{Entry}
use Rattle.esm_model.specs.Setting.{Setting}
use Rattle.esm_model.specs.Moment.{moment_after}
use Rattle.esm_model.specs.Entries.{is_running, is_shut, shards_that_came, batcher, calls_begun, came_moment}
use Rattle.esm_model.specs.Fates.{open_places}
use Rattle.esm_model.specs.Calls.{event_of}
use Rattle.esm_model.specs.Batches.{group, batch, is_group_ready, delay_end}
use Rattle.esm_model.specs.Step.{Legal, is_front_expired}
use Rattle.esm_model.proofs.Lists.{In}
use Rattle.esm_model.proofs.Steps.{lane_from}
use Rattle.esm_model.proofs.CallsMade.{came_shard}
use Rattle.esm_stream_book.proofs.OneMore.{CanRun, running_can}
use Rattle.esm_ledger.specs.Reading.{lane_of_batcher}
use Rattle.esm_next.specs.Following.{next_for, next_in, next_quiet, next_allowed, next_call, job_of, pause, expiring, outstanding, is_nothing, least, due_windows}

-- one lane of a batcher runs at most

at_place : (xs : List ℕ) (n : ℕ) → In xs n → get_or xs (prefix_len (λ x. not (x == n)) xs) 0 ≡ n
at_place [] n member = absurd (cc)
at_place (x ∷ xs) n member = elim (cases_Bool (x == n)) [
  | inl same ↦ rw same (eqb-true x n same)
  | inr other ↦ (
      let rest : In xs n = rw other at member in
      let more : suc (prefix_len (λ (y : ℕ). not (y == n)) xs) ≡ 1 + prefix_len (λ (y : ℕ). not (y == n)) xs = omega arith in
      rw other (subst (λ i. get_or (x ∷ xs) i 0 ≡ n) more (at_place xs n rest)))
]

same_shard : (h : List Entry) (a b : LaneId) → In (shards_that_came h) a.shard → In (shards_that_came h) b.shard → prefix_len (λ x. not (x == a.shard)) (shards_that_came h) ≡ prefix_len (λ x. not (x == b.shard)) (shards_that_came h) → a.shard ≡ b.shard
same_shard h a b one other place =
    sym (at_place (shards_that_came h) a.shard one) ∙ ap (λ i. get_or (shards_that_came h) i 0) place ∙ at_place (shards_that_came h) b.shard other

pub one_lane : (s : Setting) (h : List Entry) (a b : LaneId) → Legal s h → is_running h a ≡ true → is_running h b ≡ true → batcher s h a ≡ batcher s h b → a ≡ b
one_lane s h a b legal runs_a runs_b same =
    let f = s.config.factor in
    let i = prefix_len (λ (x : ℕ). not (x == a.shard)) (shards_that_came h) in
    let j = prefix_len (λ (x : ℕ). not (x == b.shard)) (shards_that_came h) in
    let can_a : CanRun s h a = running_can s h a legal runs_a in
    let can_b : CanRun s h b = running_can s h b legal runs_b in
    let both : i * f + a.lane ≡ j * f + b.lane = same in
    let lanes : a.lane ≡ b.lane = sym (mod-mul-add i f a.lane can_a.below_factor) ∙ ap (λ n. n % f) both ∙ mod-mul-add j f b.lane can_b.below_factor in
    let places : i ≡ j = sym (div-mul-add i f a.lane can_a.below_factor) ∙ ap (λ n. n / f) both ∙ div-mul-add j f b.lane can_b.below_factor in
    lane_from a b (same_shard h a b (came_shard h a.shard can_a.came) (came_shard h b.shard can_b.came) places) lanes

-- the event of a call that is answered

abbrev HasEvent : Setting → List Entry → Next → Type 0
HasEvent s h (next.Call job) = job.event ≡ event_of s h job.lane.shard job.places job.closing
HasEvent s h _ = ⊤

chosen : (s : Setting) (h : List Entry) (b : Bool) (x y : Next) → HasEvent s h x → HasEvent s h y → HasEvent s h (if b then x else y)
chosen s h true x y p q = p
chosen s h false x y p q = q

call_event : (s : Setting) (h : List Entry) (lane : LaneId) (m : ℕ) (w : Option ℕ) → HasEvent s h (next_call s h lane m w)
call_event s h lane m (Some window) = refl
call_event s h lane m None = chosen s h
    (is_group_ready s h lane m (group s h lane) (batch s h lane m))
    (next.Call (job_of s h lane (batch s h lane m) None))
    (next.Idle (moment_after (came_moment h lane.shard (slice_index (group s h lane) 0)) s.config.window_ms))
    refl tt

allowed_event : (s : Setting) (h : List Entry) (lane : LaneId) (m : ℕ) → HasEvent s h (next_allowed s h lane m)
allowed_event s h lane m = chosen s h (nat_le s.calls (calls_begun h)) next.Spent
    (if nat_lt m (delay_end s h lane) then next.Idle (delay_end s h lane) else next_call s h lane m (least (due_windows s h lane.shard)))
    tt
    (chosen s h (nat_lt m (delay_end s h lane)) (next.Idle (delay_end s h lane)) (next_call s h lane m (least (due_windows s h lane.shard)))
    tt (call_event s h lane m (least (due_windows s h lane.shard))))

quiet_event : (s : Setting) (h : List Entry) (lane : LaneId) (m : ℕ) (places : List ℕ) → HasEvent s h (next_quiet s h lane m places)
quiet_event s h lane m (i ∷ places) = allowed_event s h lane m
quiet_event s h lane m [] = chosen s h (is_shut h && is_nothing (outstanding s h lane.shard)) next.Finished
    (if is_nothing (due_windows s h lane.shard) then pause m else next_allowed s h lane m)
    tt
    (chosen s h (is_nothing (due_windows s h lane.shard)) (pause m) (next_allowed s h lane m) tt (allowed_event s h lane m))

event_in : (s : Setting) (h : List Entry) (m : ℕ) (o : Option LaneId) → HasEvent s h (next_in s h m o)
event_in s h m None = chosen s h (is_shut h) next.Finished (pause m) tt tt
event_in s h m (Some lane) = chosen s h (is_front_expired s h lane m) (next.Gave (length (expiring s h lane m))) (next_quiet s h lane m (open_places s h lane))
    tt (quiet_event s h lane m (open_places s h lane))

pub job_event : (s : Setting) (h : List Entry) (k m : ℕ) (job : Job) → next.Call job ≡ next_for s h k m → job.event ≡ event_of s h job.lane.shard job.places job.closing
job_event s h k m job is = subst (HasEvent s h) (sym is) (event_in s h m (lane_of_batcher s h k))
