-- Over lists of records that go on from its own, the rules say the same.
use Rattle.std.proofs.Common.{◌≡◌, ℕ, ◌≤◌, not, cond, ◌&&◌, ◌||◌, List, [], ◌∷◌, length, take, take_while, refl, ap, ◌∙◌, Option, Some, None}
use Rattle.std.specs.Prelude.{◌==◌, nat_le, nat_lt, slice_index, is_some, is_none, filter}
use Rattle.esm_model.specs.declared.limits.TheConstants.{MAX_EXPIRED}
use Rattle.esm_model.specs.Moment.{moment_after}
use Rattle.esm_model.specs.declared.lane.LaneId.{LaneId}
use Rattle.esm_model.specs.declared.entry.Entry.{Entry}
use Rattle.esm_model.specs.declared.book.Next.{Next}
use Rattle.esm_model.specs.declared.book.Next.TheVariants as next
use Rattle.esm_model.specs.Setting.{Setting, Stream, over, found_try}
use Rattle.esm_model.specs.Entries.{came_count, came_moment, is_shut, calls_begun}
use Rattle.esm_model.specs.Fates.{open_places}
use Rattle.esm_model.specs.Windows.{has_windows, is_outstanding, is_due}
use Rattle.esm_model.specs.EventText.{event_text}
use Rattle.esm_model.specs.Calls.{event_of}
use Rattle.esm_model.specs.Batches.{group, batch, is_expired, is_group_ready, delay_end}
use Rattle.esm_model.specs.Step.{Legal, is_front_expired}
use Rattle.esm_model.proofs.Lists.{In-take, take_while_agree}
use Rattle.esm_model.proofs.Records.{SameRecords, Covered, filter_same, open_same, covered_open, expired_same, window_same, mark_same, kept_same, due_window_same, window_call_same, event_same, group_same, group_In, batch_same, delay_same, front_same}
use Rattle.esm_model.proofs.Steps.{batch_front}
use Rattle.esm_next.specs.Following.{job_of, expiring, windows_after, told_windows, outstanding, due_windows, least, is_nothing, pause, next_batch, next_call, next_allowed, next_quiet, next_of}

-- windows

pub told_same : (s : Setting) (after : List Stream) (h : List Entry) (n : ℕ) → told_windows (over s after) h n ≡ told_windows s h n
told_same s after [] n = refl
told_same s after (e ∷ h) n = ap (λ ws. windows_after n ws e) (told_same s after h n)

pub outstanding_same : (s : Setting) (after : List Stream) (h : List Entry) (n : ℕ) → outstanding (over s after) h n ≡ outstanding s h n
outstanding_same s after h n =
    ap (filter (is_outstanding (over s after) h n)) (told_same s after h n)
    ∙ filter_same (is_outstanding (over s after) h n) (is_outstanding s h n) (told_windows s h n) (λ w member. ap (λ o. has_windows s.config && nat_lt 0 (came_count h n) && is_some o) (kept_same s after h n w))

pub due_same : (s : Setting) (after : List Stream) (h : List Entry) → SameRecords s after h → (n : ℕ) → due_windows (over s after) h n ≡ due_windows s h n
due_same s after h same n =
    ap (filter (is_due (over s after) h n)) (told_same s after h n)
    ∙ filter_same (is_due (over s after) h n) (is_due s h n) (told_windows s h n) (λ w member. due_window_same s after h same n w)

-- what expires

pub expiring_same : (s : Setting) (after : List Stream) (h : List Entry) → SameRecords s after h → Legal s h → (lane : LaneId) (m : ℕ) → expiring (over s after) h lane m ≡ expiring s h lane m
expiring_same s after h same legal lane m =
    ap (λ g. take MAX_EXPIRED (take_while (is_expired (over s after) lane.shard m) g)) (group_same s after h same legal lane)
    ∙ ap (take MAX_EXPIRED) (take_while_agree (is_expired (over s after) lane.shard m) (is_expired s lane.shard m) (group s h lane)
    (λ i member. expired_same s after h same lane.shard m i (covered_open s h lane i (group_In s h lane i member))))

-- calls

module _ (s : Setting) (after : List Stream) (h : List Entry) (same : SameRecords s after h) (legal : Legal s h) (lane : LaneId) (came : 1 ≤ came_count h lane.shard) (m : ℕ) where
  pub event_over : (places : List ℕ) → Covered h lane.shard places → event_of (over s after) h lane.shard places None ≡ event_of s h lane.shard places None
  event_over [] covered = ap (event_text s.config []) (window_call_same s after h lane.shard [] None (window_same s after h same lane.shard (slice_index [] 0) came))
  event_over (x ∷ xs) covered = event_same s after h same lane.shard x xs covered

  final_over : (w : ℕ) → event_of (over s after) h lane.shard [] (Some w) ≡ event_of s h lane.shard [] (Some w)
  final_over w = ap (event_text s.config []) (window_call_same s after h lane.shard [] (Some w) refl)

  batch_covered : Covered h lane.shard (batch s h lane m)
  batch_covered i member =
      let front = batch_front s h lane m in
      covered_open s h lane i (In-take front.0 (open_places s h lane) i (rw (← front.1) member))

  ready_over : (g b : List ℕ) → is_group_ready (over s after) h lane m g b ≡ is_group_ready s h lane m g b
  ready_over g b =
      ap (λ o. not (is_none o && is_none (found_try s lane.shard (slice_index g 0)))
      || ((length b == s.config.batch_size) || nat_lt (length b) (length g))
      || is_shut h
      || nat_le (moment_after (came_moment h lane.shard (slice_index g 0)) s.config.window_ms) m) (mark_same s after h same legal lane.shard (slice_index g 0))

  abbrev made : List ℕ → Option ℕ → List ℕ → Next
  made places closing text = next.Call (record { lane = lane; places = places; closing = closing; event = text })

  abbrev waits : List ℕ → Next
  waits g = next.Idle (moment_after (came_moment h lane.shard (slice_index g 0)) s.config.window_ms)

  batch_over : next_batch (over s after) h lane m ≡ next_batch s h lane m
  batch_over =
      ap (λ g. cond (is_group_ready (over s after) h lane m g (batch (over s after) h lane m)) (next.Call (job_of (over s after) h lane (batch (over s after) h lane m) None)) (waits g)) (group_same s after h same legal lane)
      ∙ ap (λ b. cond (is_group_ready (over s after) h lane m (group s h lane) b) (next.Call (job_of (over s after) h lane b None)) (waits (group s h lane))) (batch_same s after h same legal lane m)
      ∙ ap (λ t. cond t (next.Call (job_of (over s after) h lane (batch s h lane m) None)) (waits (group s h lane))) (ready_over (group s h lane) (batch s h lane m))
      ∙ ap (λ text. cond (is_group_ready s h lane m (group s h lane) (batch s h lane m)) (made (batch s h lane m) None text) (waits (group s h lane))) (event_over (batch s h lane m) batch_covered)

  call_over : (o : Option ℕ) → next_call (over s after) h lane m o ≡ next_call s h lane m o
  call_over None = batch_over
  call_over (Some w) = ap (made [] (Some w)) (final_over w)

  allowed_over : next_allowed (over s after) h lane m ≡ next_allowed s h lane m
  allowed_over =
      ap (λ d. cond (nat_le s.calls (calls_begun h)) next.Spent (cond (nat_lt m d) (next.Idle d) (next_call (over s after) h lane m (least (due_windows (over s after) h lane.shard))))) (delay_same s after h same legal lane)
      ∙ ap (λ ws. cond (nat_le s.calls (calls_begun h)) next.Spent (cond (nat_lt m (delay_end s h lane)) (next.Idle (delay_end s h lane)) (next_call (over s after) h lane m (least ws)))) (due_same s after h same lane.shard)
      ∙ ap (λ x. cond (nat_le s.calls (calls_begun h)) next.Spent (cond (nat_lt m (delay_end s h lane)) (next.Idle (delay_end s h lane)) x)) (call_over (least (due_windows s h lane.shard)))

  quiet_over : (places : List ℕ) → next_quiet (over s after) h lane m places ≡ next_quiet s h lane m places
  quiet_over (i ∷ places) = allowed_over
  quiet_over [] =
      ap (λ ws. cond (is_shut h && is_nothing ws) next.Finished (cond (is_nothing (due_windows (over s after) h lane.shard)) (pause m) (next_allowed (over s after) h lane m))) (outstanding_same s after h lane.shard)
      ∙ ap (λ ws. cond (is_shut h && is_nothing (outstanding s h lane.shard)) next.Finished (cond (is_nothing ws) (pause m) (next_allowed (over s after) h lane m))) (due_same s after h same lane.shard)
      ∙ ap (λ x. cond (is_shut h && is_nothing (outstanding s h lane.shard)) next.Finished (cond (is_nothing (due_windows s h lane.shard)) (pause m) x)) allowed_over

  -- what the lane does next
  pub next_over : next_of (over s after) h lane m ≡ next_of s h lane m
  next_over =
      ap (λ t. cond t (next.Gave (length (expiring (over s after) h lane m))) (next_quiet (over s after) h lane m (open_places (over s after) h lane))) (front_same s after h same lane m)
      ∙ ap (λ xs. cond (is_front_expired s h lane m) (next.Gave (length xs)) (next_quiet (over s after) h lane m (open_places (over s after) h lane))) (expiring_same s after h same legal lane m)
      ∙ ap (λ xs. cond (is_front_expired s h lane m) (next.Gave (length (expiring s h lane m))) (next_quiet (over s after) h lane m xs)) (open_same s after h same lane)
      ∙ ap (λ x. cond (is_front_expired s h lane m) (next.Gave (length (expiring s h lane m))) x) (quiet_over (open_places s h lane))
