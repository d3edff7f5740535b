-- What the answers of a batcher that asks say: that nothing is left for it, or that the calls allowed were made.
use Rattle.std.proofs.Common.{◌≡◌, ℕ, ◌≤◌, Bool, true, false, List, [], ◌∷◌, length, map, refl, sym, ap, ◌∙◌, subst, inl, inr, Option, Some, None, arith}
use Rattle.std.specs.Prelude.{◌==◌, ◌&&◌, ⊤, nat_le, nat_lt, filter, find, option_map, is_some, if◌then◌else◌}
use Rattle.std.proofs.lemmas.Bool.{cases_Bool, eqb-true, and_parts}
use Rattle.std.proofs.lemmas.Bool.Decides.{nat_tests}
use Rattle.esm_model.specs.declared.lane.LaneId.{LaneId}
use Rattle.esm_model.specs.declared.book.Next.{Next}
use Rattle.esm_model.specs.declared.book.Next.TheVariants as next
use Rattle.esm_model.specs.declared.setup.FoundState.{FoundState}
use Rattle.esm_model.specs.declared.entry.Entry.{Entry}
use Rattle.esm_model.specs.declared.entry.Entry.TheVariants.{Came, Began, Ended, Gave, Tried, Closed, Replayed, Shut}
use Rattle.esm_model.specs.Setting.{Setting}
use Rattle.esm_model.specs.Moment.{moment_after}
use Rattle.esm_model.specs.Entries.{came_count, is_shut, calls_begun}
use Rattle.esm_model.specs.Fates.{open_places}
use Rattle.esm_model.specs.Windows.{has_windows, kept_state, state_after, is_outstanding}
use Rattle.esm_model.specs.Batches.{group, batch, is_group_ready, delay_end}
use Rattle.esm_model.specs.Step.{is_front_expired}
use Rattle.esm_model.proofs.Lists.{In, In-none, In-here, In-there, filter-In}
use Rattle.esm_ledger.specs.Reading.{lane_of_batcher}
use Rattle.esm_next.specs.Following.{next_for, next_in, next_of, next_quiet, next_allowed, next_call, next_batch, windows_after, told_windows, outstanding, due_windows, is_nothing, least, pause, expiring, job_of}
use Rattle.esm_stream_core.specs.Quiet.{IsQuiet}

-- a window that is outstanding is one of those of which a state was told

found_told : (fs : List FoundState) (n w : ℕ) → is_some (find (λ (f : FoundState). (f.shard == n) && (f.window == w)) fs) ≡ true
    → In (map (λ (f : FoundState). f.window) (filter (λ (f : FoundState). f.shard == n) fs)) w
found_told [] n w is = cc
found_told (f ∷ fs) n w is =
    elim (cases_Bool (f.shard == n)) [
      | inr other ↦ rw other (found_told fs n w (rw other at is))
      | inl here ↦ elim (cases_Bool (f.window == w)) [
        | inl hit ↦ rw here (In-here f.window (map (λ (f : FoundState). f.window) (filter (λ (f : FoundState). f.shard == n) fs)) w (eqb-true f.window w hit))
        | inr miss ↦ rw here (In-there f.window (map (λ (f : FoundState). f.window) (filter (λ (f : FoundState). f.shard == n) fs)) w (found_told fs n w (rw (here, miss) at is)))
      ]
    ]

some_found : (o : Option FoundState) → is_some (option_map (λ (f : FoundState). f.text) o) ≡ true → is_some o ≡ true
some_found None is = is
some_found (Some f) is = refl

told_after : (n w : ℕ) (before : Option (List ℕ)) (ws : List ℕ) (e : Entry) → (is_some before ≡ true → In ws w) → is_some (state_after n w before e) ≡ true → In (windows_after n ws e) w
told_after n w before ws (Gave by k places fate line None m) was is =
    elim (cases_Bool (k == n)) [
      | inl here ↦ was (rw here at is)
      | inr other ↦ was (rw other at is)
    ]
told_after n w before ws (Gave by k places fate line (Some state) m) was is =
    elim (cases_Bool (k == n)) [
      | inr other ↦ rw other (was (rw other at is))
      | inl here ↦ elim (cases_Bool (state.window == w)) [
        | inl hit ↦ rw here (In-here state.window ws w (eqb-true state.window w hit))
        | inr miss ↦ rw here (In-there state.window ws w (was (rw (here, miss) at is)))
      ]
    ]
told_after n w before ws (Closed lane window m) was is =
    elim (cases_Bool ((lane.shard == n) && (window == w))) [
      | inl gone ↦ absurd (nothing_left (rw gone at is))
      | inr stays ↦ was (rw stays at is)
    ]
  where
    nothing_left : false ≡ true → ⊥
    nothing_left e = cc
told_after n w before ws (Came k first count m) was is = was is
told_after n w before ws (Began lane places closing m) was is = was is
told_after n w before ws (Ended lane reply m) was is = was is
told_after n w before ws (Tried lane places closing t m) was is = was is
told_after n w before ws (Replayed k places m) was is = was is
told_after n w before ws (Shut m) was is = was is

told_kept : (s : Setting) (h : List Entry) (n w : ℕ) → is_some (kept_state s h n w) ≡ true → In (told_windows s h n) w
told_kept s [] n w is = found_told s.states n w (some_found (find (λ (f : FoundState). (f.shard == n) && (f.window == w)) s.states) is)
told_kept s (e ∷ h) n w is = told_after n w (kept_state s h n w) (told_windows s h n) e (told_kept s h n w) is

nothing_in : (ws : List ℕ) (w : ℕ) → is_nothing ws ≡ true → In ws w → ⊥
nothing_in [] w none member = In-none w member
nothing_in (x ∷ ws) w none member = absurd (cc)

none_outstanding : (s : Setting) (h : List Entry) (n w : ℕ) → is_nothing (outstanding s h n) ≡ true → is_outstanding s h n w ≡ false
none_outstanding s h n w none = elim (cases_Bool (is_outstanding s h n w)) [
  | inr not' ↦ not'
  | inl is ↦ (
      let told : In (told_windows s h n) w = told_kept s h n w (and_parts (has_windows s.config && nat_lt 0 (came_count h n)) (is_some (kept_state s h n w)) is).1 in
      absurd (nothing_in (outstanding s h n) w none (filter-In (is_outstanding s h n) (told_windows s h n) w told is)))
]

-- an answer of the batcher's lane

abbrev Says : Setting → List Entry → LaneId → Next → Type 0
Says s h lane next.Finished = (is_shut h ≡ true) × (open_places s h lane ≡ []) × (is_nothing (outstanding s h lane.shard) ≡ true)
Says s h lane next.Spent = nat_le s.calls (calls_begun h) ≡ true
Says s h lane _ = ⊤

says_if : (s : Setting) (h : List Entry) (lane : LaneId) (b : Bool) (x y : Next) → Says s h lane x → Says s h lane y → Says s h lane (if b then x else y)
says_if s h lane true x y p q = p
says_if s h lane false x y p q = q

says_batch : (s : Setting) (h : List Entry) (lane : LaneId) (m : ℕ) → Says s h lane (next_batch s h lane m)
says_batch s h lane m = says_if s h lane (is_group_ready s h lane m (group s h lane) (batch s h lane m)) (next.Call (job_of s h lane (batch s h lane m) None)) (next.Idle _) tt tt

says_call : (s : Setting) (h : List Entry) (lane : LaneId) (m : ℕ) (w : Option ℕ) → Says s h lane (next_call s h lane m w)
says_call s h lane m None = says_batch s h lane m
says_call s h lane m (Some w) = tt

says_spent : (s : Setting) (h : List Entry) (lane : LaneId) (b : Bool) (x : Next) → nat_le s.calls (calls_begun h) ≡ b → Says s h lane x → Says s h lane (if b then next.Spent else x)
says_spent s h lane true x spent p = spent
says_spent s h lane false x spent p = p

says_allowed : (s : Setting) (h : List Entry) (lane : LaneId) (m : ℕ) → Says s h lane (next_allowed s h lane m)
says_allowed s h lane m = says_spent s h lane (nat_le s.calls (calls_begun h)) (if nat_lt m (delay_end s h lane) then next.Idle (delay_end s h lane) else next_call s h lane m (least (due_windows s h lane.shard))) refl
    (says_if s h lane (nat_lt m (delay_end s h lane)) (next.Idle (delay_end s h lane)) (next_call s h lane m (least (due_windows s h lane.shard))) tt (says_call s h lane m (least (due_windows s h lane.shard))))

says_none : (s : Setting) (h : List Entry) (lane : LaneId) (m : ℕ) (b : Bool) → open_places s h lane ≡ [] → (is_shut h && is_nothing (outstanding s h lane.shard)) ≡ b
    → Says s h lane (if b then next.Finished else if is_nothing (due_windows s h lane.shard) then pause m else next_allowed s h lane m)
says_none s h lane m true none is =
    let parts = and_parts (is_shut h) (is_nothing (outstanding s h lane.shard)) is in
    (parts.0, none, parts.1)
says_none s h lane m false none is = says_if s h lane (is_nothing (due_windows s h lane.shard)) (pause m) (next_allowed s h lane m) tt (says_allowed s h lane m)

says_quiet : (s : Setting) (h : List Entry) (lane : LaneId) (m : ℕ) (places : List ℕ) → open_places s h lane ≡ places → Says s h lane (next_quiet s h lane m places)
says_quiet s h lane m (i ∷ places) is = says_allowed s h lane m
says_quiet s h lane m [] is = says_none s h lane m (is_shut h && is_nothing (outstanding s h lane.shard)) is refl

says_lane : (s : Setting) (h : List Entry) (lane : LaneId) (m : ℕ) → Says s h lane (next_of s h lane m)
says_lane s h lane m = says_if s h lane (is_front_expired s h lane m) (next.Gave (length (expiring s h lane m))) (next_quiet s h lane m (open_places s h lane)) tt (says_quiet s h lane m (open_places s h lane) refl)

-- the batcher has finished

shut_if : (b : Bool) (m : ℕ) → (if b then next.Finished else pause m) ≡ next.Finished → b ≡ true
shut_if true m is = refl
shut_if false m is = absurd (cc)

shut_in : (s : Setting) (h : List Entry) (m : ℕ) (o : Option LaneId) → next_in s h m o ≡ next.Finished → is_shut h ≡ true
shut_in s h m None is = shut_if (is_shut h) m is
shut_in s h m (Some lane) is = (subst (Says s h lane) is (says_lane s h lane m)).0

-- the input has ended, and nothing is left for the batcher
pub record IsFinished (s : Setting) (h : List Entry) (k : ℕ) : Type 0 where
  pub shut : is_shut h ≡ true
  pub quiet : IsQuiet s h k

pub finished_for : (s : Setting) (h : List Entry) (k m : ℕ) → next_for s h k m ≡ next.Finished → IsFinished s h k
finished_for s h k m is = record {
  shut = shut_in s h m (lane_of_batcher s h k) is;
  quiet = λ lane serves.
      let says : Says s h lane next.Finished = subst (Says s h lane) (sym (ap (next_in s h m) serves) ∙ is) (says_lane s h lane m) in
      record { none_open = says.1; none_outstanding = λ one w. none_outstanding s h lane.shard w says.2 };
}

-- the calls allowed were made

spent_in : (s : Setting) (h : List Entry) (m : ℕ) (o : Option LaneId) → next_in s h m o ≡ next.Spent → nat_le s.calls (calls_begun h) ≡ true
spent_in s h m None is = absurd (no_spent (is_shut h) (moment_after m 20) is)
  where
    no_spent : (b : Bool) (m : ℕ) → (if b then next.Finished else next.Idle m) ≡ next.Spent → ⊥
    no_spent true m is = cc
    no_spent false m is = cc
spent_in s h m (Some lane) is = subst (Says s h lane) is (says_lane s h lane m)

pub spent_for : (s : Setting) (h : List Entry) (k m : ℕ) → next_for s h k m ≡ next.Spent → s.calls ≤ calls_begun h
spent_for s h k m is =
    let spent : nat_le s.calls (calls_begun h) ≡ true = spent_in s h m (lane_of_batcher s h k) is in
    grind (arith, nat_tests, spent)
