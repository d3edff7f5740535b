-- The lanes that run, and the room for their ends.
use Rattle.std.proofs.Common.{◌≡◌, ℕ, ◌+◌, ◌≤◌, Bool, true, false, not, List, [], ◌∷◌, length, refl, sym, ap, ◌∙◌, inl, inr, arith}
use Rattle.std.specs.Prelude.{◌==◌, filter, if◌then◌else◌}
use Rattle.std.specs.List.{list_any}
use Rattle.std.proofs.lemmas.Bool.{cases_Bool, and_parts, and_from, eqb-true, eq-eqb, or_cases, or_left, or_right, both_ways}
use Rattle.esm_model.specs.declared.lane.LaneId.{LaneId}
use Rattle.esm_model.specs.declared.entry.Reply.{Reply}
use Rattle.esm_model.specs.declared.entry.Entry.{Entry}
use Rattle.esm_model.specs.declared.entry.Entry.TheVariants.{Came, Began, Ended, Gave, Tried, Closed, Replayed, Shut}
use Rattle.esm_model.specs.Lane.{same_lane}
use Rattle.esm_model.specs.Entries.{is_running, is_shut}
use Rattle.esm_model.specs.Setting.{Setting}
use Rattle.esm_model.specs.Step.{Legal}
use Rattle.esm_ledger.specs.declared.ledger.Ledger.{Ledger}
use Rattle.esm_ledger.specs.Ledger.{past_of, setting_of, LegalOver, HasRoom, Keeps, unended}
use Rattle.esm_stream_core.specs.Kept.{running_lanes, ends_of, HasPlaces}
use Rattle.esm_stream_core.specs.Adding.{IsPushed}

-- a filter keeps no more
pub filter_fewer : (p : LaneId → Bool) (xs : List LaneId) → length (filter p xs) ≤ length xs
filter_fewer p [] = omega arith
filter_fewer p (x ∷ xs) = let rest = filter_fewer p xs in elim (cases_Bool (p x)) [ inl is ↦ rw is (omega arith) | inr fails ↦ rw fails (omega arith) ]

-- and fewer where one fails
filter_less : (p : LaneId → Bool) (xs : List LaneId) → list_any p xs ≡ true → length (filter (λ x. not (p x)) xs) + 1 ≤ length xs
filter_less p [] some = absurd (both_ways false refl some)
filter_less p (x ∷ xs) some =
    elim (cases_Bool (p x)) [
      | inl is ↦ (let rest = filter_fewer (λ y. not (p y)) xs in rw is (omega arith))
      | inr fails ↦ elim (or_cases (p x) (list_any p xs) some) [
        | inl is ↦ absurd (both_ways (p x) fails is)
        | inr later ↦ (let rest = filter_less p xs later in rw fails (omega arith))
      ]
    ]

lane-sym : (a b : LaneId) → same_lane a b ≡ true → same_lane b a ≡ true
lane-sym a b same =
    let parts = and_parts (a.shard == b.shard) (a.lane == b.lane) same in
    and_from (b.shard == a.shard) (b.lane == a.lane) (eq-eqb b.shard a.shard (sym (eqb-true a.shard b.shard parts.0))) (eq-eqb b.lane a.lane (sym (eqb-true a.lane b.lane parts.1)))

lane-trans : (a b c : LaneId) → same_lane a b ≡ true → same_lane a c ≡ true → same_lane b c ≡ true
lane-trans a b c one two =
    let p = and_parts (a.shard == b.shard) (a.lane == b.lane) one in
    let q = and_parts (a.shard == c.shard) (a.lane == c.lane) two in
    and_from (b.shard == c.shard) (b.lane == c.lane)
    (eq-eqb b.shard c.shard (sym (eqb-true a.shard b.shard p.0) ∙ eqb-true a.shard c.shard q.0))
    (eq-eqb b.lane c.lane (sym (eqb-true a.lane b.lane p.1) ∙ eqb-true a.lane c.lane q.1))

-- a filter that the element passes keeps it
any_kept : (lane at : LaneId) (xs : List LaneId) → same_lane at lane ≡ false → list_any (same_lane lane) xs ≡ true → list_any (same_lane lane) (filter (λ x. not (same_lane at x)) xs) ≡ true
any_kept lane at [] other some = some
any_kept lane at (x ∷ xs) other some =
    elim (cases_Bool (same_lane at x)) [
      | inl same ↦ elim (or_cases (same_lane lane x) (list_any (same_lane lane) xs) some) [
        | inl here ↦ absurd (both_ways (same_lane at lane) other (lane-trans x at lane (lane-sym at x same) (lane-sym lane x here)))
        | inr later ↦ rw same (any_kept lane at xs other later)
      ]
      | inr differs ↦ elim (or_cases (same_lane lane x) (list_any (same_lane lane) xs) some) [
        | inl here ↦ rw differs (or_left (same_lane lane x) (list_any (same_lane lane) (filter (λ y. not (same_lane at y)) xs)) here)
        | inr later ↦ rw differs (or_right (same_lane lane x) (list_any (same_lane lane) (filter (λ y. not (same_lane at y)) xs)) (any_kept lane at xs other later))
      ]
    ]

-- a lane that runs is among them
runs_among : (h : List Entry) (lane : LaneId) → is_running h lane ≡ true → list_any (same_lane lane) (running_lanes h) ≡ true
runs_among [] lane runs = absurd (both_ways false refl runs)
runs_among (Began at places closing m ∷ h) lane runs =
    elim (cases_Bool (same_lane at lane)) [
      | inl same ↦ or_left (same_lane lane at) (list_any (same_lane lane) (running_lanes h)) (lane-sym at lane same)
      | inr other ↦ (let before : is_running h lane ≡ true = rw other at runs in or_right (same_lane lane at) (list_any (same_lane lane) (running_lanes h)) (runs_among h lane before))
    ]
runs_among (Ended at reply m ∷ h) lane runs =
    elim (cases_Bool (same_lane at lane)) [
      | inl same ↦ (let never : false ≡ true = rw same at runs in absurd (both_ways false refl never))
      | inr other ↦ (let before : is_running h lane ≡ true = rw other at runs in any_kept lane at (running_lanes h) other (runs_among h lane before))
    ]
runs_among (Came shard first count m ∷ h) lane runs = runs_among h lane runs
runs_among (Gave by shard places f line state m ∷ h) lane runs = runs_among h lane runs
runs_among (Tried at places closing t m ∷ h) lane runs = runs_among h lane runs
runs_among (Closed at w m ∷ h) lane runs = runs_among h lane runs
runs_among (Replayed shard places m ∷ h) lane runs = runs_among h lane runs
runs_among (Shut m ∷ h) lane runs = runs_among h lane runs

-- the end of a call that runs leaves one fewer
pub ended_fewer : (h : List Entry) (lane : LaneId) (reply : Reply) (m : ℕ) → is_running h lane ≡ true → length (running_lanes (Ended lane reply m ∷ h)) + 1 ≤ length (running_lanes h)
ended_fewer h lane reply m runs = filter_less (same_lane lane) (running_lanes h) (runs_among h lane runs)

-- in a legal history they are no more than the calls that have not ended
pub running_within : (s : Setting) (h : List Entry) → Legal s h → length (running_lanes h) ≤ unended h
running_within s [] legal = omega arith
running_within s (Began at places closing m ∷ h) legal = omega (arith, running_within s h legal.0)
running_within s (Ended at reply m ∷ h) legal = omega (arith, running_within s h legal.0, ended_fewer h at reply m legal.1.1)
running_within s (Came shard first count m ∷ h) legal = running_within s h legal.0
running_within s (Gave by shard places f line state m ∷ h) legal = running_within s h legal.0
running_within s (Tried at places closing t m ∷ h) legal = running_within s h legal.0
running_within s (Closed at w m ∷ h) legal = running_within s h legal.0
running_within s (Replayed shard places m ∷ h) legal = running_within s h legal.0
running_within s (Shut m ∷ h) legal = running_within s h legal.0

pub own_legal : (s : Setting) (h : List Entry) → LegalOver s h → Legal s h
own_legal s h legal = legal s.streams (λ n i r at. at)

-- a ledger's room is room for the ends
pub places_of : (c : Ledger) (n : ℕ) → Keeps c → HasRoom c n → HasPlaces c
places_of c n keeps room =
    let within = running_within (setting_of c) (past_of c) (own_legal (setting_of c) (past_of c) keeps.rests.legal) in
    record {
      room = (let r = room.room in omega (arith, r, within));
      short = (let r = room.short in omega (arith, r, within));
    }

-- an entry that is pushed takes the place of one that was kept
pub pushed_places : (c d : Ledger) (e : Entry) → IsPushed c d e → HasPlaces c → ends_of (e ∷ past_of c) + 1 ≤ ends_of (past_of c) → HasPlaces d
pushed_places c d e p has fewer =
    let past : ends_of (past_of d) ≡ ends_of (e ∷ past_of c) = ap ends_of p.past in
    let len = p.len in
    let capacity = p.capacity in
    record {
      room = (let r = has.room in omega (arith, r, past, len, capacity, fewer));
      short = (let r = has.short in omega (arith, r, past, len, fewer));
    }

-- the end of a call that runs takes the place that was kept for it
pub ended_ends : (h : List Entry) (lane : LaneId) (reply : Reply) (m : ℕ) → is_running h lane ≡ true → ends_of (Ended lane reply m ∷ h) + 1 ≤ ends_of h
ended_ends h lane reply m runs = omega (arith, ended_fewer h lane reply m runs)

-- and so does the end of the input
pub shut_ends : (h : List Entry) (m : ℕ) → is_shut h ≡ false → ends_of (Shut m ∷ h) + 1 ≤ ends_of h
shut_ends h m going =
    let one : ends_of h ≡ length (running_lanes h) + 1 = ap (λ (b : Bool). length (running_lanes h) + (if b then 0 else 1)) going in
    let low : length (running_lanes h) + 0 + 1 ≤ ends_of h = omega (arith, one) in
    low
