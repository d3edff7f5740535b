-- The moments of the entries that a call decides, and that a clock gave them: of those added, and of those that are owed.
use Rattle.std.proofs.Common.{◌≡◌, ◌≤◌, ◌∙◌, ℕ, Bool, true, List, [], ◌∷◌, ◌++◌, max, take, reverse, refl, sym, ap, subst, inl, inr, append_assoc, append-nil, arith, Option, Some, None}
use Rattle.std.proofs.lemmas.Bool.Decides.{leb_tells}
use Rattle.std.proofs.lemmas.List.{reverse-append}
use Rattle.esm_io.specs.Meanings.{DiskMeaning}
use Rattle.esm_journal.specs.Pair.{PairState}
use Rattle.esm_model.specs.declared.book.Next.{Next}
use Rattle.esm_model.specs.declared.book.Next.TheVariants as next
use Rattle.esm_model.specs.declared.book.Trouble.{Trouble}
use Rattle.esm_model.specs.declared.book.Trouble.TheVariants.{Disk, Dest, Changed}
use Rattle.esm_model.specs.declared.config.Config.{Config}
use Rattle.esm_model.specs.declared.entry.Entry.{Entry}
use Rattle.esm_model.specs.declared.entry.Fate.{Fate}
use Rattle.esm_model.specs.declared.entry.Fate.TheVariants.{Succeeded, Filtered}
use Rattle.esm_model.specs.declared.entry.Reply.{Reply}
use Rattle.esm_model.specs.declared.item.Message.{Message}
use Rattle.esm_model.specs.declared.lane.LaneId.{LaneId}
use Rattle.esm_model.specs.Entries.{moment_of, last_moment}
use Rattle.esm_model.specs.Moment.{capped_moment}
use Rattle.esm_book.specs.State.{in_hand}
use Rattle.esm_queue_model.specs.QueueSetting.{QueueSetting}
use Rattle.esm_queue_core.specs.CoreView.{CoreView, moment_for}
use Rattle.esm_queue_core.specs.Coming.{gave_entries, refused_from, came_from}
use Rattle.esm_queue_core.specs.Ending.{ended_places, ended_entries}
use Rattle.esm_queue_core.specs.Next.{next_entries}
use Rattle.esm_queue_book.specs.Books.{BookState}
use Rattle.esm_queue_book.specs.Calls.{AddedAll, AddedSome, AddedOne}
use Rattle.esm_queue_book.specs.Keeping.{MayFollowFront}
use Rattle.esm_queue_book.specs.Moments.{AreTimed, HaveMoment, IsGivenBehind, IsTimed, IsTimedView}
use Rattle.esm_queue_book.specs.Opening.{IsOpened}

-- what a call decides has one moment

gave_have : (by : Option LaneId) (places : List ℕ) (fate : Fate) (m : ℕ) → HaveMoment m (gave_entries by places fate m)
gave_have by [] fate m = tt
gave_have by (i ∷ places) fate m = (refl, tt)

pub came_have : (s : QueueSetting) (k : ℕ) (list : List Message) (m : ℕ) → HaveMoment m (came_from s k list m)
came_have s k [] m = tt
came_have s k (x ∷ xs) m = (refl, gave_have None (refused_from s k (x ∷ xs)) Filtered m)

pub next_has : (answer : Next) (m : ℕ) → HaveMoment m (next_entries answer m)
next_has (next.Call job) m = (refl, tt)
next_has (next.Gave count) m = tt
next_has (next.Idle until) m = tt
next_has next.Spent m = tt
next_has next.Finished m = tt

pub ended_have : (s : QueueSetting) (h : List Entry) (lane : LaneId) (reply : Reply) (m : ℕ) → HaveMoment m (ended_entries s h lane reply m)
ended_have s h lane reply m = (refl, gave_have (Some lane) (ended_places s h lane reply m) Succeeded m)

-- a clock gave it

of_clock : (m t : ℕ) → m ≡ capped_moment (max t 0) → m ≡ capped_moment t
of_clock m t is = grind (arith, is)

of_last : (m t last x : ℕ) → t ≤ last → last ≡ capped_moment x → m ≡ capped_moment (max t last) → m ≡ capped_moment x
of_last m t last x before given is = grind (arith, before, given, is)

of_now : (m t last x : ℕ) → last ≤ t → m ≡ capped_moment (max t last) → m ≡ capped_moment t
of_now m t last x after is = grind (arith, after, is)

behind : (m t last : ℕ) → last ≤ m → m ≡ capped_moment t → m ≡ capped_moment (max t last)
behind m t last later is = grind (arith, later, is)

module _ (gave : ℕ → Bool) where
  -- the moment is one that the clock gave
  abbrev IsOfClock : ℕ → Type 0
  IsOfClock m = (t : ℕ) × (gave t ≡ true) × (m ≡ capped_moment t)

  of_history : (t m : ℕ) (h : List Entry) → gave t ≡ true → AreTimed gave h → m ≡ moment_for h t → IsOfClock m
  of_history t m [] clock all is = (t, clock, of_clock m t is)
  of_history t m (e ∷ h) clock all is =
      elim (leb_tells t (moment_of e)) [
        | inl before ↦ (all.0.0, all.0.1, of_last m t (moment_of e) all.0.0 before.1 all.0.2 is)
        | inr after ↦ (let later = after.1 in let last : moment_of e ≤ t = omega (arith, later) in (t, clock, of_now m t (moment_of e) 0 last is))
      ]

  timed_at : (m : ℕ) (es : List Entry) → IsOfClock m → HaveMoment m es → AreTimed gave es
  timed_at m [] clock all = tt
  timed_at m (e ∷ es) clock all = ((clock.0, clock.1, all.0 ∙ clock.2), timed_at m es clock all.1)

  timed_parts : (xs ys : List Entry) → AreTimed gave (xs ++ ys) → AreTimed gave xs × AreTimed gave ys
  timed_parts [] ys all = (tt, all)
  timed_parts (e ∷ xs) ys all = let more = timed_parts xs ys all.1 in ((all.0, more.0), more.1)

  one_more : (e : Entry) (es h : List Entry) → reverse es ++ e ∷ h ≡ reverse (e ∷ es) ++ h
  one_more e es h = sym (ap (λ xs. xs ++ h) (reverse-append (e ∷ []) es) ∙ append_assoc (reverse es) (e ∷ []) h)

  timed_more : (es h : List Entry) → AreTimed gave es → AreTimed gave h → AreTimed gave (reverse es ++ h)
  timed_more [] h all past = past
  timed_more (e ∷ es) h all past = subst (AreTimed gave) (one_more e es h) (timed_more es (e ∷ h) all.1 (all.0, past))

  -- these entries are added behind the history, and those are owed
  timed_view : (moment : ℕ) (v w : CoreView) (front rest : List Entry) → gave moment ≡ true → IsTimedView gave v → HaveMoment (moment_for v.past moment) (front ++ rest)
      → w.past ≡ reverse front ++ v.past → w.owed ≡ rest → IsTimedView gave w
  timed_view moment v w front rest clock timed have past owed =
      let m = moment_for v.past moment in
      let both = timed_parts front rest (timed_at m (front ++ rest) (of_history moment m v.past clock timed.past refl) have) in
      record { past = subst (AreTimed gave) (sym past) (timed_more front v.past both.0 timed.past); owed = subst (AreTimed gave) (sym owed) both.1 }

  -- nothing stands in a book that was just opened
  pub opened_timed : {D : Type 0} (config : Config) (calls visibility : ℕ) (pair : PairState D) (b : BookState D) → IsOpened config calls visibility pair b → IsTimedView gave b.core
  opened_timed config calls visibility pair b opened = subst (IsTimedView gave) (sym opened.core.is) (record { past = tt; owed = tt })

  module _ {D : Type 0} (m : DiskMeaning D) (moment : ℕ) (messages : List Message) (es : List Entry) where
    pub all_timed : (old new : BookState D) → gave moment ≡ true → IsTimedView gave old.core → HaveMoment (moment_for old.core.past moment) es → AddedAll m messages old new es → IsTimedView gave new.core
    all_timed old new clock timed have all =
        timed_view moment old.core new.core es [] clock timed (subst (HaveMoment (moment_for old.core.past moment)) (sym (append-nil es)) have) all.added.past all.settled

    pub some_timed : (old new : BookState D) → gave moment ≡ true → IsTimedView gave old.core → HaveMoment (moment_for old.core.past moment) es → AddedSome m messages old new es → IsTimedView gave new.core
    some_timed old new clock timed have some =
        timed_view moment old.core new.core some.front some.rest clock timed (subst (HaveMoment (moment_for old.core.past moment)) (sym some.split) have) some.added.past some.owed

  pub one_timed : {D : Type 0} (moment : ℕ) (e : Entry) (old new : BookState D) → gave moment ≡ true → IsTimedView gave old.core → moment_of e ≡ moment_for old.core.past moment → AddedOne old new e → IsTimedView gave new.core
  one_timed moment e old new clock timed at one =
      let here : IsTimed gave e = of_history moment (moment_of e) old.core.past clock timed.past at in
      record { past = subst (AreTimed gave) (sym one.past) (here, timed.past); owed = subst (AreTimed gave) (sym one.owed) timed.owed }

  -- the first of those owed

  first_timed : (es : List Entry) → AreTimed gave es → AreTimed gave (take 1 es)
  first_timed [] all = tt
  first_timed (e ∷ es) all = (all.0, tt)

  pub hand_timed : (why : Option Trouble) (owed : List Entry) → AreTimed gave owed → AreTimed gave (in_hand why owed)
  hand_timed None owed all = tt
  hand_timed (Some Disk) owed all = first_timed owed all
  hand_timed (Some Dest) owed all = tt
  hand_timed (Some (Changed change)) owed all = tt

  -- and behind the front that an entry may follow
  pub front_timed : (s : QueueSetting) (h : List Entry) (e : Entry) (follows : MayFollowFront s h e) → IsTimed gave e → IsGivenBehind gave follows.before (moment_of e)
  front_timed s h e follows timed = (timed.0, timed.1, behind (moment_of e) timed.0 (last_moment follows.before) follows.follows.1.0.not_back timed.2)
