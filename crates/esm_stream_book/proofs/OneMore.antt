-- What one more entry, which is not a batcher's, leaves of what the batcher knows of a history.
use Rattle.std.proofs.Common.{◌≡◌, ◌≢◌, ℕ, suc, ◌+◌, ◌<◌, ◌≤◌, true, false, List, [], ◌∷◌, ◌++◌, refl, sym, ap, ◌∙◌, subst, inl, inr, Some, None, arith}
use Rattle.std.specs.Prelude.{◌==◌}
use Rattle.std.proofs.lemmas.Bool.{cases_Bool, eq-eqb, eqb-true}
use Rattle.std.proofs.lemmas.List.{append_cancel_left}
use Rattle.esm_model.specs.declared.moment.TheConstants.{MAX_MOMENT}
use Rattle.esm_model.specs.declared.called.Called.{Called}
use Rattle.esm_model.specs.declared.lane.LaneId.{LaneId}
use Rattle.esm_model.specs.declared.entry.Reply.TheVariants.{Lost}
use Rattle.esm_model.specs.declared.entry.Entry.{Entry}
use Rattle.esm_model.specs.declared.entry.Entry.TheVariants.{Came, Began, Ended, Gave, Tried, Closed, Replayed, Shut}
use Rattle.esm_model.specs.Lane.{same_lane}
use Rattle.esm_model.specs.Setting.{Setting, Stream, Extends, over}
use Rattle.esm_model.specs.Entries.{last_moment, came_count, batcher, is_running, last_call}
use Rattle.esm_model.specs.Calls.{calls, last_event, is_end_of}
use Rattle.esm_model.specs.Step.{Legal, MayCall}
use Rattle.esm_model.specs.Books.{seat_of, lane_of_entry}
use Rattle.esm_model.specs.Laws.{CallsKeptOver}
use Rattle.esm_model.proofs.Sound.{same_lane-true}
use Rattle.esm_model.proofs.Steps.{came_grows}
use Rattle.esm_model.proofs.CallsMade.{batcher_stays}

-- the entry is not of the batcher
abbrev pub IsElse : Setting → List Entry → ℕ → Entry → Type 0
IsElse s h k e = seat_of s h (lane_of_entry e) ≢ k + 1

-- its lane is none of the batcher's
other_lane : (s : Setting) (h : List Entry) (at lane : LaneId) (k : ℕ) → suc (batcher s h at) ≢ k + 1 → batcher s h lane ≡ k → same_lane at lane ≡ false
other_lane s h at lane k other served = elim (cases_Bool (same_lane at lane)) [
  | inl same ↦ (let is : batcher s h at ≡ k = subst (λ (l : LaneId). batcher s h l ≡ k) (sym (same_lane-true at lane same)) served in absurd (other (omega (arith, is))))
  | inr apart ↦ apart
]

-- calls that end

pub ends_none : (s : Setting) (h : List Entry) (k : ℕ) (e : Entry) → IsElse s h k e → is_end_of s h k e ≡ false
ends_none s h k (Ended at reply m) other = elim (cases_Bool (batcher s h at == k)) [
  | inl same ↦ (let is : batcher s h at ≡ k = eqb-true (batcher s h at) k same in absurd (other (omega (arith, is))))
  | inr apart ↦ apart
]
ends_none s h k (Came n first count m) other = refl
ends_none s h k (Began at places closing m) other = refl
ends_none s h k (Gave by n places f line state m) other = refl
ends_none s h k (Tried at places closing t m) other = refl
ends_none s h k (Closed at w m) other = refl
ends_none s h k (Replayed n places m) other = refl
ends_none s h k (Shut m) other = refl

-- lanes that rest

pub came_before : (e : Entry) (h : List Entry) (n : ℕ) → 1 ≤ came_count h n → 1 ≤ came_count (e ∷ h) n
came_before e h n came = (let grows : came_count h n ≤ came_count (e ∷ h) n = came_grows e h n in omega (arith, came, grows))

-- a lane that can run: its shard came, and it is one of the shard's lanes
pub record CanRun (s : Setting) (h : List Entry) (lane : LaneId) : Type 0 where
  pub came : 1 ≤ came_count h lane.shard
  pub below_factor : lane.lane < s.config.factor

pub can_before : (s : Setting) (e : Entry) (h : List Entry) (lane : LaneId) → CanRun s h lane → CanRun s (e ∷ h) lane
can_before s e h lane can = record { came = came_before e h lane.shard can.came; below_factor = can.below_factor }

can_begun : (s : Setting) (e : Entry) (h : List Entry) (at lane : LaneId) (m : ℕ) → MayCall s h at m → same_lane at lane ≡ true → CanRun s (e ∷ h) lane
can_begun s e h at lane m may same =
    subst (λ (l : LaneId). CanRun s (e ∷ h) l) (same_lane-true at lane same)
    (can_before s e h at (record { came = may.came; below_factor = may.below_factor }))

pub running_can : (s : Setting) (h : List Entry) (lane : LaneId) → Legal s h → is_running h lane ≡ true → CanRun s h lane
running_can s [] lane legal is = absurd (let clash : false ≡ true = is in cc)
running_can s (Began at places None m ∷ h) lane legal is = elim (cases_Bool (same_lane at lane)) [
  | inl same ↦ can_begun s (Began at places None m) h at lane m legal.1.1.call same
  | inr apart ↦ (let ran : is_running h lane ≡ true = rw apart at is in can_before s (Began at places None m) h lane (running_can s h lane legal.0 ran))
]
running_can s (Began at places (Some w) m ∷ h) lane legal is = elim (cases_Bool (same_lane at lane)) [
  | inl same ↦ can_begun s (Began at places (Some w) m) h at lane m legal.1.1.call same
  | inr apart ↦ (let ran : is_running h lane ≡ true = rw apart at is in can_before s (Began at places (Some w) m) h lane (running_can s h lane legal.0 ran))
]
running_can s (Ended at reply m ∷ h) lane legal is = elim (cases_Bool (same_lane at lane)) [
  | inl same ↦ absurd (let clash : false ≡ true = rw same at is in cc)
  | inr apart ↦ (let ran : is_running h lane ≡ true = rw apart at is in can_before s (Ended at reply m) h lane (running_can s h lane legal.0 ran))
]
running_can s (Came n first count m ∷ h) lane legal is = can_before s (Came n first count m) h lane (running_can s h lane legal.0 is)
running_can s (Gave by n places f line state m ∷ h) lane legal is = can_before s (Gave by n places f line state m) h lane (running_can s h lane legal.0 is)
running_can s (Tried at places closing t m ∷ h) lane legal is = can_before s (Tried at places closing t m) h lane (running_can s h lane legal.0 is)
running_can s (Closed at w m ∷ h) lane legal is = can_before s (Closed at w m) h lane (running_can s h lane legal.0 is)
running_can s (Replayed n places m ∷ h) lane legal is = can_before s (Replayed n places m) h lane (running_can s h lane legal.0 is)
running_can s (Shut m ∷ h) lane legal is = can_before s (Shut m) h lane (running_can s h lane legal.0 is)

-- the batcher's lanes rest, those of shards that have not come among them
abbrev pub AllRest : Setting → List Entry → ℕ → Type 0
AllRest s h k = (lane : LaneId) → batcher s h lane ≡ k → is_running h lane ≡ false

pub rests_on : (s : Setting) (h : List Entry) (k : ℕ) (e : Entry) → Legal s h → IsElse s h k e → AllRest s h k → AllRest s (e ∷ h) k
rests_on s h k (Came n first count m) legal other rest lane served = elim (cases_Bool (is_running h lane)) [
  | inl runs ↦ rest lane (sym (batcher_stays s (Came n first count m) h lane (running_can s h lane legal runs).came) ∙ served)
  | inr rests ↦ rests
]
rests_on s h k (Began at places closing m) legal other rest lane served =
    let apart : same_lane at lane ≡ false = other_lane s h at lane k other served in
    rw apart (rest lane served)
rests_on s h k (Ended at reply m) legal other rest lane served =
    let apart : same_lane at lane ≡ false = other_lane s h at lane k other served in
    rw apart (rest lane served)
rests_on s h k (Gave by n places f line state m) legal other rest lane served = rest lane served
rests_on s h k (Tried at places closing t m) legal other rest lane served = rest lane served
rests_on s h k (Closed at w m) legal other rest lane served = rest lane served
rests_on s h k (Replayed n places m) legal other rest lane served = rest lane served
rests_on s h k (Shut m) legal other rest lane served = rest lane served

-- the call that runs

-- what stays of a lane's call
pub record StaysOn (s : Setting) (h : List Entry) (e : Entry) (lane : LaneId) : Type 0 where
  pub running : is_running (e ∷ h) lane ≡ is_running h lane
  pub last : last_call (e ∷ h) lane ≡ last_call h lane
  pub event : last_event s (e ∷ h) lane ≡ last_event s h lane

pub stays_on : (s : Setting) (h : List Entry) (k : ℕ) (e : Entry) (lane : LaneId) → IsElse s h k e → batcher s h lane ≡ k → StaysOn s h e lane
stays_on s h k (Began at places closing m) lane other served =
    let apart : same_lane at lane ≡ false = other_lane s h at lane k other served in
    record { running = rw apart refl; last = rw apart refl; event = rw apart refl }
stays_on s h k (Ended at reply m) lane other served =
    let apart : same_lane at lane ≡ false = other_lane s h at lane k other served in
    record { running = rw apart refl; last = refl; event = refl }
stays_on s h k (Came n first count m) lane other served = record { running = refl; last = refl; event = refl }
stays_on s h k (Gave by n places f line state m) lane other served = record { running = refl; last = refl; event = refl }
stays_on s h k (Tried at places closing t m) lane other served = record { running = refl; last = refl; event = refl }
stays_on s h k (Closed at w m) lane other served = record { running = refl; last = refl; event = refl }
stays_on s h k (Replayed n places m) lane other served = record { running = refl; last = refl; event = refl }
stays_on s h k (Shut m) lane other served = record { running = refl; last = refl; event = refl }

-- its event over more records: that with which it would be logged, if it ended now

last_within : (s : Setting) (h : List Entry) → Legal s h → last_moment h ≤ MAX_MOMENT
last_within s [] legal = omega arith
last_within s (e ∷ h) legal = legal.1.0.within

as_it_is : List ℕ → List ℕ
as_it_is text = text

abbrev lost : Setting → List Entry → LaneId → Called
lost s h lane = record { name = s.config.function; event = as_it_is (last_event s h lane); reply = Lost }

would_log : (s : Setting) (h : List Entry) (lane : LaneId) (m k : ℕ) → batcher s h lane ≡ k → calls s as_it_is (Ended lane Lost m ∷ h) k ≡ calls s as_it_is h k ++ lost s h lane ∷ []
would_log s h lane m k served = rw (eq-eqb (batcher s h lane) k served) refl

first_event : List Called → List ℕ
first_event [] = []
first_event (c ∷ cs) = c.event

module _ (kept_over : (s : Setting) (sends : List ℕ → List ℕ) (h : List Entry) (k : ℕ) (after : List Stream) → Extends s.streams after → Legal s h → CallsKeptOver s sends h k after) where
  pub event_over : (s : Setting) (h : List Entry) (lane : LaneId) (after : List Stream) → Extends s.streams after → Legal s h → is_running h lane ≡ true → last_event (over s after) h lane ≡ last_event s h lane
  unfolding first_event as_it_is
  event_over s h lane after extends legal runs =
      let k = batcher s h lane in
      let m = last_moment h in
      let legal_end : Legal s (Ended lane Lost m ∷ h) = (legal, (record { not_back = omega arith; within = last_within s h legal }, runs)) in
      let same : calls (over s after) as_it_is h k ≡ calls s as_it_is h k = kept_over s as_it_is h k after extends legal in
      let same_end : calls (over s after) as_it_is (Ended lane Lost m ∷ h) k ≡ calls s as_it_is (Ended lane Lost m ∷ h) k = kept_over s as_it_is (Ended lane Lost m ∷ h) k after extends legal_end in
      let both : calls s as_it_is h k ++ lost (over s after) h lane ∷ [] ≡ calls s as_it_is h k ++ lost s h lane ∷ []
      = ap (λ (cs : List Called). cs ++ lost (over s after) h lane ∷ []) (sym same) ∙ sym (would_log (over s after) h lane m k refl) ∙ same_end ∙ would_log s h lane m k refl in
      ap first_event (append_cancel_left (calls s as_it_is h k) (lost (over s after) h lane ∷ []) (lost s h lane ∷ []) both)
