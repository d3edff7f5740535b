-- The moments of the entries that a call decides, and that a clock gave them: of those added, and of those that are owed.
use Rattle.std.proofs.Common.{◌≡◌, ◌≤◌, ◌∙◌, ℕ, Bool, true, List, [], ◌∷◌, ◌++◌, map, max, take, reverse, refl, sym, ap, subst, inl, inr, append_assoc, append-nil, arith, Option, Some, None}
use Rattle.std.proofs.lemmas.Bool.Decides.{leb_tells}
use Rattle.std.proofs.lemmas.List.{reverse-append}
use Rattle.esm_io.specs.Meanings.{DiskMeaning, DestMeaning}
use Rattle.esm_model.specs.declared.book.Next.{Next}
use Rattle.esm_model.specs.declared.book.Next.TheVariants as next
use Rattle.esm_model.specs.declared.book.Trouble.{Trouble}
use Rattle.esm_model.specs.declared.book.Trouble.TheVariants.{Disk, Dest, Changed}
use Rattle.esm_model.specs.declared.entry.Entry.{Entry}
use Rattle.esm_model.specs.declared.entry.Entry.TheVariants.{Ended}
use Rattle.esm_model.specs.declared.entry.Reply.{Reply}
use Rattle.esm_model.specs.declared.lane.LaneId.{LaneId}
use Rattle.esm_model.specs.Entries.{moment_of, last_moment}
use Rattle.esm_model.specs.Moment.{capped_moment}
use Rattle.esm_model.specs.Owed.{Debt, Success, GiveUp, Try, Close, debt_entry, debts}
use Rattle.esm_model.specs.Setting.{Setting}
use Rattle.esm_ingest.specs.Parts.{Part}
use Rattle.esm_ingest.specs.Entries.{came_parts, filtered_at, filtered_parts, part_entries}
use Rattle.esm_ledger.specs.Reading.{lane_of_batcher}
use Rattle.esm_next.specs.Following.{expiry_entries, next_entries}
use Rattle.esm_book.specs.State.{in_hand, in_delivery}
use Rattle.esm_stream_core.specs.CoreView.{CoreView, MayFollowFront}
use Rattle.esm_stream_core.specs.Calls.{moment_for, ended_entries}
use Rattle.esm_stream_book.specs.Books.{BookState}
use Rattle.esm_stream_book.specs.Calls.{AddedAll, AddedSome, AddedOne}
use Rattle.esm_stream_book.specs.Moments.{AreTimed, HaveMoment, IsGivenBehind, IsTimed, IsTimedView}

-- what a call decides has one moment

have_both : (m : ℕ) (xs ys : List Entry) → HaveMoment m xs → HaveMoment m ys → HaveMoment m (xs ++ ys)
have_both m [] ys first second = second
have_both m (e ∷ xs) ys first second = (first.0, have_both m xs ys first.1 second)

came_have : (m : ℕ) (ps : List Part) → HaveMoment m (came_parts m ps)
came_have m [] = tt
came_have m (p ∷ ps) = (refl, came_have m ps)

filtered_one_has : (m n : ℕ) (places : List ℕ) → HaveMoment m (filtered_at m n places)
filtered_one_has m n [] = tt
filtered_one_has m n (i ∷ places) = (refl, tt)

filtered_have : (m : ℕ) (ps : List Part) → HaveMoment m (filtered_parts m ps)
filtered_have m [] = tt
filtered_have m (p ∷ ps) = have_both m (filtered_at m p.shard p.refused) (filtered_parts m ps) (filtered_one_has m p.shard p.refused) (filtered_have m ps)

pub parts_have : (m : ℕ) (ps : List Part) → HaveMoment m (part_entries m ps)
parts_have m ps = have_both m (came_parts m ps) (filtered_parts m ps) (came_have m ps) (filtered_have m ps)

expiry_has : (s : Setting) (h : List Entry) (m : ℕ) (lane : Option LaneId) → HaveMoment m (expiry_entries s h m lane)
expiry_has s h m None = tt
expiry_has s h m (Some lane) = (refl, tt)

pub next_has : (s : Setting) (h : List Entry) (k m : ℕ) (answer : Next) → HaveMoment m (next_entries s h k m answer)
next_has s h k m (next.Call job) = (refl, tt)
next_has s h k m (next.Gave count) = expiry_has s h m (lane_of_batcher s h k)
next_has s h k m (next.Idle until) = tt
next_has s h k m next.Spent = tt
next_has s h k m next.Finished = tt

debt_has : (s : Setting) (h : List Entry) (lane : LaneId) (m : ℕ) (d : Debt) → moment_of (debt_entry s h lane m d) ≡ m
debt_has s h lane m (Success places state) = refl
debt_has s h lane m (GiveUp places) = refl
debt_has s h lane m (Try places closing tries) = refl
debt_has s h lane m (Close window) = refl

debts_have : (s : Setting) (h : List Entry) (lane : LaneId) (m : ℕ) (ds : List Debt) → HaveMoment m (map (debt_entry s h lane m) ds)
debts_have s h lane m [] = tt
debts_have s h lane m (d ∷ ds) = (debt_has s h lane m d, debts_have s h lane m ds)

pub ended_have : (v : CoreView) (lane : LaneId) (reply : Reply) (m : ℕ) → HaveMoment m (ended_entries v lane reply m)
ended_have v lane reply m = (refl, debts_have v.setting (Ended lane reply m ∷ v.past) lane m (debts v.setting (Ended lane reply m ∷ v.past) lane))

-- a clock gave it

of_clock : (m t : ℕ) → m ≡ capped_moment (max t 0) → m ≡ capped_moment t
of_clock m t is = grind (arith, is)

of_last : (m t last x : ℕ) → t ≤ last → last ≡ capped_moment x → m ≡ capped_moment (max t last) → m ≡ capped_moment x
of_last m t last x before given is = grind (arith, before, given, is)

of_now : (m t last x : ℕ) → last ≤ t → m ≡ capped_moment (max t last) → m ≡ capped_moment t
of_now m t last x after is = grind (arith, after, is)

behind : (m t last : ℕ) → last ≤ m → m ≡ capped_moment t → m ≡ capped_moment (max t last)
behind m t last later is = grind (arith, later, is)

module _ (gave : ℕ → Bool) where
  -- the moment is one that the clock gave
  abbrev IsOfClock : ℕ → Type 0
  IsOfClock m = (t : ℕ) × (gave t ≡ true) × (m ≡ capped_moment t)

  of_history : (t m : ℕ) (h : List Entry) → gave t ≡ true → AreTimed gave h → m ≡ moment_for h t → IsOfClock m
  of_history t m [] clock all is = (t, clock, of_clock m t is)
  of_history t m (e ∷ h) clock all is =
      elim (leb_tells t (moment_of e)) [
        | inl before ↦ (all.0.0, all.0.1, of_last m t (moment_of e) all.0.0 before.1 all.0.2 is)
        | inr after ↦ (let later = after.1 in let last : moment_of e ≤ t = omega (arith, later) in (t, clock, of_now m t (moment_of e) 0 last is))
      ]

  timed_at : (m : ℕ) (es : List Entry) → IsOfClock m → HaveMoment m es → AreTimed gave es
  timed_at m [] clock all = tt
  timed_at m (e ∷ es) clock all = ((clock.0, clock.1, all.0 ∙ clock.2), timed_at m es clock all.1)

  timed_parts : (xs ys : List Entry) → AreTimed gave (xs ++ ys) → AreTimed gave xs × AreTimed gave ys
  timed_parts [] ys all = (tt, all)
  timed_parts (e ∷ xs) ys all = let more = timed_parts xs ys all.1 in ((all.0, more.0), more.1)

  one_more : (e : Entry) (es h : List Entry) → reverse es ++ e ∷ h ≡ reverse (e ∷ es) ++ h
  one_more e es h = sym (ap (λ xs. xs ++ h) (reverse-append (e ∷ []) es) ∙ append_assoc (reverse es) (e ∷ []) h)

  timed_more : (es h : List Entry) → AreTimed gave es → AreTimed gave h → AreTimed gave (reverse es ++ h)
  timed_more [] h all past = past
  timed_more (e ∷ es) h all past = subst (AreTimed gave) (one_more e es h) (timed_more es (e ∷ h) all.1 (all.0, past))

  -- these entries are added behind the history, and those are owed
  timed_view : (moment : ℕ) (v w : CoreView) (front rest : List Entry) → gave moment ≡ true → IsTimedView gave v → HaveMoment (moment_for v.past moment) (front ++ rest)
      → w.past ≡ reverse front ++ v.past → w.owed ≡ rest → IsTimedView gave w
  timed_view moment v w front rest clock timed have past owed =
      let m = moment_for v.past moment in
      let both = timed_parts front rest (timed_at m (front ++ rest) (of_history moment m v.past clock timed.past refl) have) in
      record { past = subst (AreTimed gave) (sym past) (timed_more front v.past both.0 timed.past); owed = subst (AreTimed gave) (sym owed) both.1 }

  module _ {D T : Type 0} (m : DiskMeaning D) (n : DestMeaning T) (moment : ℕ) (s : Setting) (es : List Entry) where
    pub all_timed : (old new : BookState D T) → gave moment ≡ true → IsTimedView gave old.core → HaveMoment (moment_for old.core.past moment) es → AddedAll m n s old new es → IsTimedView gave new.core
    all_timed old new clock timed have all =
        timed_view moment old.core new.core es [] clock timed (subst (HaveMoment (moment_for old.core.past moment)) (sym (append-nil es)) have) all.added.past all.settled

    pub some_timed : (trouble : Trouble) (old new : BookState D T) → gave moment ≡ true → IsTimedView gave old.core → HaveMoment (moment_for old.core.past moment) es → AddedSome m n s old new es trouble → IsTimedView gave new.core
    some_timed trouble old new clock timed have some =
        timed_view moment old.core new.core some.front some.rest clock timed (subst (HaveMoment (moment_for old.core.past moment)) (sym some.split) have) some.added.past some.owed

  pub one_timed : {D T : Type 0} (moment : ℕ) (e : Entry) (old new : BookState D T) → gave moment ≡ true → IsTimedView gave old.core → moment_of e ≡ moment_for old.core.past moment → AddedOne old new e → IsTimedView gave new.core
  one_timed moment e old new clock timed at one =
      let here : IsTimed gave e = of_history moment (moment_of e) old.core.past clock timed.past at in
      record { past = subst (AreTimed gave) (sym one.past) (here, timed.past); owed = subst (AreTimed gave) (sym one.owed) timed.owed }

  -- the first of those owed

  first_timed : (es : List Entry) → AreTimed gave es → AreTimed gave (take 1 es)
  first_timed [] all = tt
  first_timed (e ∷ es) all = (all.0, tt)

  pub hand_timed : (why : Option Trouble) (owed : List Entry) → AreTimed gave owed → AreTimed gave (in_hand why owed)
  hand_timed None owed all = tt
  hand_timed (Some Disk) owed all = first_timed owed all
  hand_timed (Some Dest) owed all = tt
  hand_timed (Some (Changed change)) owed all = tt

  pub tried_timed : (why : Option Trouble) (owed : List Entry) → AreTimed gave owed → AreTimed gave (in_delivery why owed)
  tried_timed None owed all = tt
  tried_timed (Some Disk) owed all = tt
  tried_timed (Some Dest) owed all = first_timed owed all
  tried_timed (Some (Changed change)) owed all = tt

  -- and behind the front that an entry may follow
  pub front_timed : (s : Setting) (h : List Entry) (e : Entry) (follows : MayFollowFront s h e) → IsTimed gave e → IsGivenBehind gave follows.before (moment_of e)
  front_timed s h e follows timed =
      let later = (follows.follows s.streams (λ k i r at. at)).1.0.not_back in
      (timed.0, timed.1, behind (moment_of e) timed.0 (last_moment follows.before) later timed.2)
