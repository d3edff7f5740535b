-- The moments of the entries that a call decides, and that a clock gave them: of those added, and of those that are owed.
use Rattle.std.proofs.Common.{◌≡◌, ◌≤◌, ◌∙◌, ℕ, Bool, true, List, [], ◌∷◌, ◌++◌, max, take, reverse, refl, sym, ap, subst, inl, inr, append_assoc, append-nil, arith, Option, Some, None}
use Rattle.std.proofs.lemmas.Bool.Decides.{leb_tells}
use Rattle.std.proofs.lemmas.List.{reverse-append}
use Rattle.esm_io.specs.Meanings.{DiskMeaning, DestMeaning}
use Rattle.esm_journal.specs.Pair.{PairState}
use Rattle.esm_model.specs.declared.book.Next.{Next}
use Rattle.esm_model.specs.declared.book.Next.TheVariants as next
use Rattle.esm_model.specs.declared.book.Trouble.{Trouble}
use Rattle.esm_model.specs.declared.book.Trouble.TheVariants.{Disk, Dest, Changed}
use Rattle.esm_model.specs.declared.config.Config.{Config}
use Rattle.esm_model.specs.declared.entry.Entry.{Entry}
use Rattle.esm_model.specs.declared.entry.Fate.{Fate}
use Rattle.esm_model.specs.declared.entry.Fate.TheVariants.{Succeeded, Filtered, Exhausted}
use Rattle.esm_model.specs.declared.entry.Reply.{Reply}
use Rattle.esm_model.specs.declared.item.Message.{Message}
use Rattle.esm_model.specs.declared.lane.LaneId.{LaneId}
use Rattle.esm_model.specs.Entries.{moment_of, last_moment}
use Rattle.esm_model.specs.Moment.{capped_moment}
use Rattle.esm_book.specs.State.{in_hand, in_delivery}
use Rattle.esm_queue_model.specs.QueueEntries.{queue_lane, queue_of}
use Rattle.esm_queue_core.specs.CoreView.{moment_for}
use Rattle.esm_queue_core.specs.Coming.{gave_entries}
use Rattle.esm_queue_core.specs.Next.{next_for, next_entries}
use Rattle.esm_redrive.specs.Limited.{due_in}
use Rattle.esm_redrive_model.specs.RedriveSetting.{RedriveSetting}
use Rattle.esm_redrive_core.specs.Adding.{came_from, ended_entries, entries_due, redrive_next_entries}
use Rattle.esm_redrive_core.specs.Coming.{known_from, dropped_from}
use Rattle.esm_redrive_core.specs.RedriveView.{RedriveView}
use Rattle.esm_redrive_core.specs.Sound.{ended_places}
use Rattle.esm_redrive_book.specs.Books.{BookState}
use Rattle.esm_redrive_book.specs.Calls.{AddedAll, AddedSome, AddedOne}
use Rattle.esm_redrive_book.specs.Keeping.{FollowsFront}
use Rattle.esm_redrive_book.specs.Moments.{AreTimed, HaveMoment, IsGivenBehind, IsTimed, IsTimedView}
use Rattle.esm_redrive_book.specs.Opening.{IsOpened}

-- what a call decides has one moment

have_both : (m : ℕ) (xs ys : List Entry) → HaveMoment m xs → HaveMoment m ys → HaveMoment m (xs ++ ys)
have_both m [] ys first second = second
have_both m (e ∷ xs) ys first second = (first.0, have_both m xs ys first.1 second)

gave_have : (by : Option LaneId) (places : List ℕ) (fate : Fate) (m : ℕ) → HaveMoment m (gave_entries by places fate m)
gave_have by [] fate m = tt
gave_have by (i ∷ places) fate m = (refl, tt)

pub came_have : (s : RedriveSetting) (k : ℕ) (list : List Message) (m : ℕ) → HaveMoment m (came_from s k list m)
came_have s k [] m = tt
came_have s k (x ∷ xs) m =
    let known : List ℕ = known_from s k (x ∷ xs) in
    let dropped : List ℕ = dropped_from s k (x ∷ xs) in (
      refl,
      have_both m (gave_entries None known Exhausted m) (gave_entries None dropped Filtered m) (gave_have None known Exhausted m) (gave_have None dropped Filtered m),
    )

call_has : (answer : Next) (m : ℕ) → HaveMoment m (next_entries answer m)
call_has (next.Call job) m = (refl, tt)
call_has (next.Gave count) m = tt
call_has (next.Idle until) m = tt
call_has next.Spent m = tt
call_has next.Finished m = tt

due_has : (s : RedriveSetting) (m : ℕ) (due : List ℕ) (es : List Entry) → HaveMoment m es → HaveMoment m (entries_due s m due es)
due_has s m [] es have = have
due_has s m (i ∷ places) es have = (refl, tt)

pub next_has : (s : RedriveSetting) (h : List Entry) (m : ℕ) → HaveMoment m (redrive_next_entries s h m)
next_has s h m =
    let answer : Next = next_for s.queue h 0 m in
    due_has s m (due_in s.max_receives (queue_of s.queue h) m) (next_entries answer m) (call_has answer m)

pub ended_have : (s : RedriveSetting) (h : List Entry) (reply : Reply) (m : ℕ) → HaveMoment m (ended_entries s h reply m)
ended_have s h reply m = (refl, gave_have (Some (queue_lane 0)) (ended_places s h reply m) Succeeded m)

-- a clock gave it

of_clock : (m t : ℕ) → m ≡ capped_moment (max t 0) → m ≡ capped_moment t
of_clock m t is = grind (arith, is)

of_last : (m t last x : ℕ) → t ≤ last → last ≡ capped_moment x → m ≡ capped_moment (max t last) → m ≡ capped_moment x
of_last m t last x before given is = grind (arith, before, given, is)

of_now : (m t last x : ℕ) → last ≤ t → m ≡ capped_moment (max t last) → m ≡ capped_moment t
of_now m t last x after is = grind (arith, after, is)

behind : (m t last : ℕ) → last ≤ m → m ≡ capped_moment t → m ≡ capped_moment (max t last)
behind m t last later is = grind (arith, later, is)

module _ (gave : ℕ → Bool) where
  -- the moment is one that the clock gave
  abbrev IsOfClock : ℕ → Type 0
  IsOfClock m = (t : ℕ) × (gave t ≡ true) × (m ≡ capped_moment t)

  of_history : (t m : ℕ) (h : List Entry) → gave t ≡ true → AreTimed gave h → m ≡ moment_for h t → IsOfClock m
  of_history t m [] clock all is = (t, clock, of_clock m t is)
  of_history t m (e ∷ h) clock all is =
      elim (leb_tells t (moment_of e)) [
        | inl before ↦ (all.0.0, all.0.1, of_last m t (moment_of e) all.0.0 before.1 all.0.2 is)
        | inr after ↦ (let later = after.1 in let last : moment_of e ≤ t = omega (arith, later) in (t, clock, of_now m t (moment_of e) 0 last is))
      ]

  timed_at : (m : ℕ) (es : List Entry) → IsOfClock m → HaveMoment m es → AreTimed gave es
  timed_at m [] clock all = tt
  timed_at m (e ∷ es) clock all = ((clock.0, clock.1, all.0 ∙ clock.2), timed_at m es clock all.1)

  timed_parts : (xs ys : List Entry) → AreTimed gave (xs ++ ys) → AreTimed gave xs × AreTimed gave ys
  timed_parts [] ys all = (tt, all)
  timed_parts (e ∷ xs) ys all = let more = timed_parts xs ys all.1 in ((all.0, more.0), more.1)

  one_more : (e : Entry) (es h : List Entry) → reverse es ++ e ∷ h ≡ reverse (e ∷ es) ++ h
  one_more e es h = sym (ap (λ xs. xs ++ h) (reverse-append (e ∷ []) es) ∙ append_assoc (reverse es) (e ∷ []) h)

  timed_more : (es h : List Entry) → AreTimed gave es → AreTimed gave h → AreTimed gave (reverse es ++ h)
  timed_more [] h all past = past
  timed_more (e ∷ es) h all past = subst (AreTimed gave) (one_more e es h) (timed_more es (e ∷ h) all.1 (all.0, past))

  -- these entries are added behind the history, and those are owed
  timed_view : (moment : ℕ) (v w : RedriveView) (front rest : List Entry) → gave moment ≡ true → IsTimedView gave v → HaveMoment (moment_for v.past moment) (front ++ rest)
      → w.past ≡ reverse front ++ v.past → w.owed ≡ rest → IsTimedView gave w
  timed_view moment v w front rest clock timed have past owed =
      let m = moment_for v.past moment in
      let both = timed_parts front rest (timed_at m (front ++ rest) (of_history moment m v.past clock timed.past refl) have) in
      record { past = subst (AreTimed gave) (sym past) (timed_more front v.past both.0 timed.past); owed = subst (AreTimed gave) (sym owed) both.1 }

  -- nothing stands in a redrive that was just opened
  pub opened_timed : {D T : Type 0} (config : Config) (calls visibility max_receives : ℕ) (lines : List (List ℕ)) (pair : PairState D) (dest : T) (b : BookState D T) → IsOpened config calls visibility max_receives lines pair dest b → IsTimedView gave b.core
  opened_timed config calls visibility max_receives lines pair dest b opened = subst (IsTimedView gave) (sym opened.core.is) (record { past = tt; owed = tt })

  module _ {D T : Type 0} (m : DiskMeaning D) (n : DestMeaning T) (moment : ℕ) (messages : List Message) (es : List Entry) where
    pub all_timed : (old new : BookState D T) → gave moment ≡ true → IsTimedView gave old.core → HaveMoment (moment_for old.core.past moment) es → AddedAll m n messages old new es → IsTimedView gave new.core
    all_timed old new clock timed have all =
        timed_view moment old.core new.core es [] clock timed (subst (HaveMoment (moment_for old.core.past moment)) (sym (append-nil es)) have) all.added.past all.settled

    pub some_timed : (trouble : Trouble) (old new : BookState D T) → gave moment ≡ true → IsTimedView gave old.core → HaveMoment (moment_for old.core.past moment) es → AddedSome m n messages old new es trouble → IsTimedView gave new.core
    some_timed trouble old new clock timed have some =
        timed_view moment old.core new.core some.front some.rest clock timed (subst (HaveMoment (moment_for old.core.past moment)) (sym some.split) have) some.added.past some.owed

  pub one_timed : {D T : Type 0} (moment : ℕ) (e : Entry) (old new : BookState D T) → gave moment ≡ true → IsTimedView gave old.core → moment_of e ≡ moment_for old.core.past moment → AddedOne old new e → IsTimedView gave new.core
  one_timed moment e old new clock timed at one =
      let here : IsTimed gave e = of_history moment (moment_of e) old.core.past clock timed.past at in
      record { past = subst (AreTimed gave) (sym one.past) (here, timed.past); owed = subst (AreTimed gave) (sym one.owed) timed.owed }

  -- the first of those owed

  first_timed : (es : List Entry) → AreTimed gave es → AreTimed gave (take 1 es)
  first_timed [] all = tt
  first_timed (e ∷ es) all = (all.0, tt)

  pub hand_timed : (why : Option Trouble) (owed : List Entry) → AreTimed gave owed → AreTimed gave (in_hand why owed)
  hand_timed None owed all = tt
  hand_timed (Some Disk) owed all = first_timed owed all
  hand_timed (Some Dest) owed all = tt
  hand_timed (Some (Changed change)) owed all = tt

  pub tried_timed : (why : Option Trouble) (owed : List Entry) → AreTimed gave owed → AreTimed gave (in_delivery why owed)
  tried_timed None owed all = tt
  tried_timed (Some Disk) owed all = tt
  tried_timed (Some Dest) owed all = first_timed owed all
  tried_timed (Some (Changed change)) owed all = tt

  -- and behind the front that an entry may follow
  pub front_timed : (s : RedriveSetting) (h : List Entry) (e : Entry) (follows : FollowsFront s h e) → IsTimed gave e → IsGivenBehind gave follows.before (moment_of e)
  front_timed s h e follows timed =
      let later = (follows.follows s.queue.messages (λ i x at. at)).1.0.not_back in
      (timed.0, timed.1, behind (moment_of e) timed.0 (last_moment follows.before) later timed.2)
