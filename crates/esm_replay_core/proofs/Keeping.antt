-- What is kept of a core stays true where it decides.
use Rattle.std.proofs.Common.{◌≡◌, ℕ, zero, suc, ◌+◌, ◌<◌, ◌≤◌, ◌^◌, false, List, [], ◌∷◌, ◌++◌, length, drop, reverse, refl, sym, ap, ap₂, ◌∙◌, subst, inl, inr, arith, Option, Some, None}
use Rattle.std.specs.Prelude.{max, min, IsSome}
use Rattle.std.specs.List.{All}
use Rattle.std.specs.BTreeMap.{BTreeMap}
use Rattle.std.proofs.lemmas.Bool.{cases_lt, lt-ltb, le-ltb}
use Rattle.std.proofs.lemmas.List.Elements.{All-weaker}
use Rattle.esm_model.specs.declared.moment.TheConstants.{MAX_MOMENT}
use Rattle.esm_model.specs.Records.{Record}
use Rattle.esm_model.specs.declared.lane.LaneId.{LaneId}
use Rattle.esm_model.specs.declared.entry.Entry.{Entry}
use Rattle.esm_model.specs.declared.entry.Entry.TheVariants as entry
use Rattle.esm_model.specs.Valid.{IsValidRecord}
use Rattle.esm_model.specs.Step.{IsLater}
use Rattle.esm_replay_model.specs.ReplaySetting.{ReplaySetting}
use Rattle.esm_replay_model.specs.ReplayRun.{call_out, owed_replay, IsReplay}
use Rattle.esm_replay.specs.Waiting.{Waiting}
use Rattle.esm_replay_core.specs.declared.decisions.ReplayNext.{ReplayNext}
use Rattle.esm_replay_core.specs.declared.decisions.ReplayNext.TheVariants as next
use Rattle.esm_replay_core.specs.declared.owed.Owed.{Owed}
use Rattle.esm_replay_core.specs.declared.owed.Owed.TheVariants.{Nothing, Coming, Began, Ended, Replayed, Left}
use Rattle.esm_replay_core.specs.View.{ReplayView, moment_for, RunAhead, owing}
use Rattle.esm_replay_core.specs.Deciding.{next_entries}
use Rattle.esm_replay_core.specs.Told.{owed_of, came_entries, added_entries}
use Rattle.esm_replay_core.specs.Counts.{AreCounted, IsRecounted, HasCount}
use Rattle.esm_replay_core.specs.Owing.{owed_entries, is_left, still_coming}
use Rattle.esm_replay_core.specs.Choosing.{OwesNext, BeginsCall, IsReady, IsWaitingFor}
use Rattle.esm_replay_core.specs.Kept.{Parts, IsKept, MayOwe, OwesCall, own, seen_of}
use Rattle.esm_replay_core.proofs.Standing.{records_there}

-- nothing is owed

pub record IsSettled (p : Parts) : Type 0 where
  pub coming : p.coming ≡ []
  pub entries : owed_entries p.owed ≡ []

empty_lists : (s : ReplaySetting) (rs : List Record) (es : List Entry) → came_entries rs ++ added_entries s es ≡ [] → (rs ≡ []) × (es ≡ [])
empty_lists s [] [] is = (refl, refl)
empty_lists s [] (e ∷ es) is = absurd (cc)
empty_lists s (r ∷ rs) es is = absurd (cc)

pub settled_of : (p : Parts) (v : ReplayView) → seen_of p ≡ v → owed_of v ≡ [] → IsSettled p
settled_of p v seen none =
    let both : (p.coming ≡ []) × (owed_entries p.owed ≡ []) = empty_lists (own p) p.coming (owed_entries p.owed) (ap owed_of seen ∙ none) in
    record { coming = both.0; entries = both.1 }

nothing_by : (p : Parts) (o : Owed) → MayOwe p o → p.coming ≡ [] → owed_entries o ≡ [] → is_left o ≡ false → o ≡ Nothing
nothing_by p Nothing may none entries left = refl
nothing_by p Coming may none entries left = (let some : 1 ≤ length p.coming = may.0 in let l : length p.coming ≡ 0 = ap (λ (rs : List Record). length rs) none in absurd (omega arith))
nothing_by p (Began lane places names moment) may none entries left = absurd (cc)
nothing_by p (Ended lane reply moment count parts replay) may none entries left = absurd (cc)
nothing_by p (Replayed r) may none entries left = absurd (cc)
nothing_by p Left may none entries left = absurd (cc)

pub nothing_of : (p : Parts) → IsKept p → IsSettled p → is_left p.owed ≡ false → p.owed ≡ Nothing
nothing_of p k settled left = nothing_by p p.owed k.owed settled.coming settled.entries left

pub paid_of : (p : Parts) → IsKept p → p.owed ≡ Nothing → (owed_replay (own p) p.past).places ≡ []
paid_of p k is = (subst (MayOwe p) is k.owed).1

-- records come

pub recounted : (m m' : BTreeMap ℕ ℕ) (rs : List Record) → IsRecounted m m' → AreCounted m rs → AreCounted m' rs
recounted m m' rs re are q = re.same q ∙ are q

keys_stay : (m m' : BTreeMap ℕ ℕ) (rs : List Record) → IsRecounted m m' → All (HasCount m) rs → All (HasCount m') rs
keys_stay m m' rs re all = All-weaker (HasCount m) (HasCount m') (λ r has. re.keys r.shard has) rs all

pub kept_recounted : (p : Parts) (m : BTreeMap ℕ ℕ) → IsKept p → IsSettled p → IsRecounted p.counts m → IsKept (record p { counts = m })
kept_recounted p m k settled re = record {
  config = k.config;
  own_config = k.own_config;
  valid = k.valid;
  valid_coming = k.valid_coming;
  few = k.few;
  counts = recounted p.counts m p.known re k.counts;
  keys = keys_stay p.counts m p.coming re k.keys;
  named = k.named;
  named_few = k.named_few;
  run = k.run;
  last = k.last;
  in_time = k.in_time;
  begun = k.begun;
  waiting = k.waiting;
  names_are = k.names_are;
  owed = same_owed p.owed k.owed settled.entries;
}
  where
    same_owed : (o : Owed) → MayOwe p o → owed_entries o ≡ [] → MayOwe (record p { counts = m }) o
    same_owed Nothing may none = may
    same_owed Coming may none = may
    same_owed (Began lane places names moment) may none = absurd (cc)
    same_owed (Ended lane reply moment count parts replay) may none = absurd (cc)
    same_owed (Replayed r) may none = absurd (cc)
    same_owed Left may none = may

abbrev pub IsStill : List Record → Owed → Type 0
IsStill [] o = o ≡ Nothing
IsStill (r ∷ rs) o = o ≡ Coming

-- so it is counted whether more are coming
pub still_is : (rs : List Record) (came : ℕ) → IsStill (drop came rs) (still_coming came (length rs))
still_is rs came =
    elim (cases_lt came (length rs)) [
      | inl low ↦ rw (lt-ltb came (length rs) low) (some rs came low)
      | inr high ↦ rw (le-ltb came (length rs) high) (none rs came high)
    ]
  where
    some : (rs : List Record) (came : ℕ) → came < length rs → IsStill (drop came rs) Coming
    some [] came low = absurd (omega arith)
    some (r ∷ rs) zero low = refl
    some (r ∷ rs) (suc came) low = some rs came (omega arith)

    none : (rs : List Record) (came : ℕ) → length rs ≤ came → IsStill (drop came rs) Nothing
    none [] zero high = refl
    none [] (suc came) high = refl
    none (r ∷ rs) zero high = absurd (omega arith)
    none (r ∷ rs) (suc came) high = none rs came (omega arith)

pub entries_still : (rs : List Record) (o : Owed) → IsStill rs o → owed_entries o ≡ []
entries_still [] o same = ap owed_entries same
entries_still (r ∷ rs) o same = ap owed_entries same

abbrev pub with_coming : Parts → List Record → BTreeMap ℕ ℕ → Owed → Parts
with_coming p items m owed = record p { coming = items; counts = m; waiting = None; owed = owed }

pub kept_coming : (p : Parts) (items : List Record) (m : BTreeMap ℕ ℕ) (owed : Owed) → IsKept p → p.past ≡ [] → All IsValidRecord items → length p.known + length items < 2 ^ 32 → IsRecounted p.counts m → All (HasCount m) items → IsStill items owed
    → IsKept (with_coming p items m owed)
kept_coming p items m owed k early valid few re keys still = record {
  config = k.config;
  own_config = k.own_config;
  valid = k.valid;
  valid_coming = valid;
  few = few;
  counts = recounted p.counts m p.known re k.counts;
  keys = keys;
  named = k.named;
  named_few = k.named_few;
  run = k.run;
  last = k.last;
  in_time = k.in_time;
  begun = k.begun;
  waiting = early;
  names_are = k.names_are;
  owed = owes items owed refl still;
}
  where
    owes : (xs : List Record) (o : Owed) → items ≡ xs → IsStill xs o → MayOwe (with_coming p items m owed) o
    owes [] o none same = subst (MayOwe (with_coming p items m owed)) (sym same) (none, subst (λ (h : List Entry). (owed_replay (own p) h).places ≡ []) (sym early) refl)
    owes (x ∷ xs) o some same = subst (MayOwe (with_coming p items m owed)) (sym same) ((let l : length items ≡ suc (length xs) = ap (λ (ys : List Record). length ys) some in omega arith), early, refl)

-- moments

pub later_of : (p : Parts) (m moment : ℕ) → IsKept p → m ≡ min (max moment p.last) MAX_MOMENT → IsLater p.past m
later_of p m moment k is = record { not_back = (let l = k.last in let t = k.in_time in omega arith); within = omega arith }

pub moment_is : (p : Parts) (m moment : ℕ) → IsKept p → m ≡ min (max moment p.last) MAX_MOMENT → m ≡ moment_for p.past moment
moment_is p m moment k is = is ∙ ap (λ l. min (max moment l) MAX_MOMENT) k.last

-- a decision owes this, with room that was made

abbrev pub deciding : Parts → Option Waiting → ℕ → Owed → Parts
deciding p w capacity owed = record p { waiting = w; capacity = capacity; owed = owed }

pub kept_deciding : (p : Parts) (w : Option Waiting) (capacity : ℕ) (owed : Owed) → IsKept p → IsWaitingFor (own p) p.known p.past w → MayOwe (deciding p w capacity owed) owed → IsKept (deciding p w capacity owed)
kept_deciding p w capacity owed k waits may = record {
  config = k.config;
  own_config = k.own_config;
  valid = k.valid;
  valid_coming = k.valid_coming;
  few = k.few;
  counts = k.counts;
  keys = k.keys;
  named = k.named;
  named_few = k.named_few;
  run = k.run;
  last = k.last;
  in_time = k.in_time;
  begun = k.begun;
  waiting = waits;
  names_are = k.names_are;
  owed = may;
}

-- nothing is decided
pub kept_waiting : (p : Parts) (w : Option Waiting) (capacity : ℕ) → IsKept p → p.coming ≡ [] → p.owed ≡ Nothing → IsWaitingFor (own p) p.known p.past w → IsKept (record p { waiting = w; capacity = capacity })
kept_waiting p w capacity k none is waits =
    subst (λ (o : Owed). IsKept (deciding p w capacity o)) (sym is) (kept_deciding p w capacity Nothing k waits (none, paid_of p k is))

-- a call begins, or none

pub ready_of : (p : Parts) (w : Waiting) → IsKept p → IsWaitingFor (own p) p.known p.past (Some w) → IsReady (own p) p.past p.opened.config p.opened.calls p.begun p.known w
ready_of p w k waits = record {
  config_is = k.own_config;
  calls_is = refl;
  begun_is = k.begun;
  pieces = waits.0;
  placed = waits.1;
  records = λ n. records_there p.opened p.known n;
}

pub record IsDecided (q : Parts) (v : ReplayView) (es : List Entry) : Type 0 where
  pub kept : IsKept q
  pub owes : seen_of q ≡ owing v [] es
  pub run : RunAhead (seen_of q)

module _ (p : Parts) (w : Option Waiting) (capacity : ℕ) (k : IsKept p) (none : p.coming ≡ []) (is : p.owed ≡ Nothing) (waits : IsWaitingFor (own p) p.known p.past w) where
  owes_nothing : IsDecided (deciding p w capacity Nothing) (seen_of p) []
  owes_nothing = record {
    kept = kept_deciding p w capacity Nothing k waits (none, paid_of p k is);
    owes = ap (λ (rs : List Record). record { opened = p.opened; records = p.known; past = p.past; coming = rs; owed = [] }) none;
    run = k.run;
  }

  owes_call : IsSome w → (lane : LaneId) (places : List ℕ) (o : Owed) (names : List (List ℕ)) (m now moment : ℕ) → (call_out p.past).places ≡ [] → length p.past + 1 ≤ capacity → now ≡ min (max moment p.last) MAX_MOMENT
      → BeginsCall (own p) p.past now lane places names m → owed_entries o ≡ entry.Began lane places None m ∷ [] → (OwesCall (deciding p w capacity o) lane places names m → MayOwe (deciding p w capacity o) o)
      → IsDecided (deciding p w capacity o) (seen_of p) (entry.Began lane places None now ∷ [])
  owes_call there lane places o names m now moment rests room now_is begins entries may =
      let later : IsLater p.past m = subst (IsLater p.past) (sym begins.moment_is) (later_of p now moment k now_is) in
      let run : IsReplay (own p) (entry.Began lane places None m ∷ p.past) = (
        k.run,
        (later, record { rests = rests; paid = paid_of p k is; calls_left = begins.calls_left; lane_is = begins.lane_is; exact = begins.exact; some = begins.some }),
      ) in
      record {
        kept = kept_deciding p w capacity o k waits (may (record { none = none; in_time = later.within; room = room; run = run; names_are = begins.names_are; waits = there }));
        owes = ap₂ (λ (rs : List Record) (es : List Entry). record { opened = p.opened; records = p.known; past = p.past; coming = rs; owed = es }) none (entries ∙ ap (λ (j : ℕ). entry.Began lane places None j ∷ []) begins.moment_is);
        run = subst (λ (es : List Entry). IsReplay (own p) (reverse es ++ p.past)) (sym entries) run;
      }

  pub next_decided : IsSome w → (answer : ReplayNext) (owed : Owed) (now moment : ℕ) → (call_out p.past).places ≡ [] → length p.past + 1 ≤ capacity → now ≡ min (max moment p.last) MAX_MOMENT → OwesNext (own p) p.past now answer owed
      → IsDecided (deciding p w capacity owed) (seen_of p) (next_entries answer now)
  next_decided there (next.Call job) (Began lane places names m) now moment rests room now_is owes =
      subst (λ (l : LaneId). IsDecided (deciding p w capacity (Began lane places names m)) (seen_of p) (entry.Began l job.places None now ∷ [])) owes.0
      (subst (λ (xs : List ℕ). IsDecided (deciding p w capacity (Began lane places names m)) (seen_of p) (entry.Began lane xs None now ∷ [])) owes.1
      (owes_call there lane places (Began lane places names m) names m now moment rests room now_is owes.2 refl (λ may. may)))
  next_decided there (next.Call job) Nothing now moment rests room now_is owes = absurd owes
  next_decided there (next.Call job) Coming now moment rests room now_is owes = absurd owes
  next_decided there (next.Call job) (Ended lane reply m count parts replay) now moment rests room now_is owes = absurd owes
  next_decided there (next.Call job) (Replayed r) now moment rests room now_is owes = absurd owes
  next_decided there (next.Call job) Left now moment rests room now_is owes = absurd owes
  next_decided there next.Spent owed now moment rests room now_is owes = subst (λ (o : Owed). IsDecided (deciding p w capacity o) (seen_of p) []) (sym owes) owes_nothing
  next_decided there next.Finished owed now moment rests room now_is owes = subst (λ (o : Owed). IsDecided (deciding p w capacity o) (seen_of p) []) (sym owes) owes_nothing
