-- Entries that a call adds to a history of a redrive: their moments, the calls that end in them, and the end of the input.
use Rattle.std.proofs.Common.{◌≡◌, ◌∙◌, ℕ, Bool, true, false, List, [], ◌∷◌, ◌++◌, ap, append_assoc, arith, refl, subst, sym}
use Rattle.std.specs.Prelude.{max, ⊤, ◌||◌, reverse}
use Rattle.std.proofs.lemmas.List.{reverse-append}
use Rattle.esm_model.specs.declared.entry.Entry.{Entry}
use Rattle.esm_model.specs.declared.entry.Entry.TheVariants.{Came, Began, Ended, Gave, Tried, Closed, Replayed, Shut}
use Rattle.esm_model.specs.Moment.{capped_moment}
use Rattle.esm_model.specs.Entries.{moment_of, last_moment, is_shut, is_shut_entry, is_running, is_beginning, calls_begun, CallsFollowShut}
use Rattle.esm_queue_core.specs.CoreView.{moment_for}
use Rattle.esm_queue_model.specs.QueueSetting.{QueueSetting}
use Rattle.esm_queue_model.specs.QueueEntries.{queue_lane}
use Rattle.esm_queue_model.specs.QueueBatch.{queue_calls}
use Rattle.esm_runner.specs.Given.{AreGiven, IsGiven}
use Rattle.esm_redrive_run.specs.Book.{AreArrivals}

pub one_more : (e : Entry) (es h : List Entry) → reverse (e ∷ es) ++ h ≡ reverse es ++ (e ∷ h)
one_more e es h = ap (λ (l : List Entry). l ++ h) (reverse-append (e ∷ []) es) ∙ append_assoc (reverse es) (e ∷ []) h

-- what holds of entries one by one

abbrev pub Each : (Entry → Type 0) → List Entry → Type 0
Each P [] = ⊤
Each P (e ∷ es) = P e × Each P es

pub each_front : (P : Entry → Type 0) (xs ys : List Entry) → Each P (xs ++ ys) → Each P xs
each_front P [] ys all = tt
each_front P (e ∷ xs) ys all = (all.0, each_front P xs ys all.1)

pub each_both : (P : Entry → Type 0) (xs ys : List Entry) → Each P xs → Each P ys → Each P (xs ++ ys)
each_both P [] ys all more = more
each_both P (e ∷ xs) ys all more = (all.0, each_both P xs ys all.1 more)

-- moments

abbrev pub IsAtMoment : ℕ → Entry → Type 0
IsAtMoment m e = moment_of e ≡ m

again : (m last t : ℕ) → m ≡ capped_moment (max t last) → m ≡ capped_moment (max t m)
again m last t is = grind (arith, is)

pub given_more : (gave : ℕ → Bool) (t m : ℕ) (es h : List Entry) → gave t ≡ true → m ≡ moment_for h t → Each (IsAtMoment m) es → AreGiven gave h → AreGiven gave (reverse es ++ h)
given_more gave t m [] h clock is all before = before
given_more gave t m (e ∷ es) h clock is all before =
    let here : IsGiven gave h (moment_of e) = (t, clock, all.0 ∙ is) in
    let next : m ≡ moment_for (e ∷ h) t = again m (last_moment h) t is ∙ ap (λ (x : ℕ). capped_moment (max t x)) (sym all.0) in
    subst (AreGiven gave) (sym (one_more e es h)) (given_more gave t m es (e ∷ h) clock next all.1 (before, here))

-- arrivals

abbrev pub IsArrival : Entry → Type 0
IsArrival (Came shard first count moment) = ⊤
IsArrival (Gave by shard places fate line state moment) = ⊤
IsArrival _ = ⊥

arrives : (e : Entry) (h : List Entry) → IsArrival e → AreArrivals h → AreArrivals (e ∷ h)
arrives (Came shard first count m) h is all = all
arrives (Gave by shard places f line state m) h is all = all
arrives (Began lane places closing m) h is all = absurd is
arrives (Ended lane reply m) h is all = absurd is
arrives (Tried lane places closing tries m) h is all = absurd is
arrives (Closed lane window m) h is all = absurd is
arrives (Replayed shard places m) h is all = absurd is
arrives (Shut m) h is all = absurd is

pub arrivals_more : (es h : List Entry) → Each IsArrival es → AreArrivals h → AreArrivals (reverse es ++ h)
arrivals_more [] h each all = all
arrivals_more (e ∷ es) h each all = subst AreArrivals (sym (one_more e es h)) (arrivals_more es (e ∷ h) each.1 (arrives e h each.0 all))

-- after arrivals alone the input has not ended, and no call began
pub arrivals_open : (h : List Entry) → AreArrivals h → is_shut h ≡ false
arrivals_open [] all = refl
arrivals_open (Came shard first count m ∷ h) all = arrivals_open h all
arrivals_open (Gave by shard places f line state m ∷ h) all = arrivals_open h all
arrivals_open (Began lane places closing m ∷ h) all = absurd all
arrivals_open (Ended lane reply m ∷ h) all = absurd all
arrivals_open (Tried lane places closing tries m ∷ h) all = absurd all
arrivals_open (Closed lane window m ∷ h) all = absurd all
arrivals_open (Replayed shard places m ∷ h) all = absurd all
arrivals_open (Shut m ∷ h) all = absurd all

pub arrivals_idle : (h : List Entry) → AreArrivals h → is_running h (queue_lane 0) ≡ false
arrivals_idle [] all = refl
arrivals_idle (Came shard first count m ∷ h) all = arrivals_idle h all
arrivals_idle (Gave by shard places f line state m ∷ h) all = arrivals_idle h all
arrivals_idle (Began lane places closing m ∷ h) all = absurd all
arrivals_idle (Ended lane reply m ∷ h) all = absurd all
arrivals_idle (Tried lane places closing tries m ∷ h) all = absurd all
arrivals_idle (Closed lane window m ∷ h) all = absurd all
arrivals_idle (Replayed shard places m ∷ h) all = absurd all
arrivals_idle (Shut m ∷ h) all = absurd all

pub arrivals_uncalled : (s : QueueSetting) (sends : List ℕ → List ℕ) (h : List Entry) → AreArrivals h → queue_calls s sends h 0 ≡ []
arrivals_uncalled s sends [] all = refl
arrivals_uncalled s sends (Came shard first count m ∷ h) all = arrivals_uncalled s sends h all
arrivals_uncalled s sends (Gave by shard places f line state m ∷ h) all = arrivals_uncalled s sends h all
arrivals_uncalled s sends (Began lane places closing m ∷ h) all = absurd all
arrivals_uncalled s sends (Ended lane reply m ∷ h) all = absurd all
arrivals_uncalled s sends (Tried lane places closing tries m ∷ h) all = absurd all
arrivals_uncalled s sends (Closed lane window m ∷ h) all = absurd all
arrivals_uncalled s sends (Replayed shard places m ∷ h) all = absurd all
arrivals_uncalled s sends (Shut m ∷ h) all = absurd all

pub arrivals_unbegun : (h : List Entry) → AreArrivals h → calls_begun h ≡ 0
arrivals_unbegun [] all = refl
arrivals_unbegun (Came shard first count m ∷ h) all = arrivals_unbegun h all
arrivals_unbegun (Gave by shard places f line state m ∷ h) all = arrivals_unbegun h all
arrivals_unbegun (Began lane places closing m ∷ h) all = absurd all
arrivals_unbegun (Ended lane reply m ∷ h) all = absurd all
arrivals_unbegun (Tried lane places closing tries m ∷ h) all = absurd all
arrivals_unbegun (Closed lane window m ∷ h) all = absurd all
arrivals_unbegun (Replayed shard places m ∷ h) all = absurd all
arrivals_unbegun (Shut m ∷ h) all = absurd all

pub arrivals_follow : (h : List Entry) → AreArrivals h → CallsFollowShut h
arrivals_follow [] all = tt
arrivals_follow (Came shard first count m ∷ h) all = ((λ is. absurd (cc)), arrivals_follow h all)
arrivals_follow (Gave by shard places f line state m ∷ h) all = ((λ is. absurd (cc)), arrivals_follow h all)
arrivals_follow (Began lane places closing m ∷ h) all = absurd all
arrivals_follow (Ended lane reply m ∷ h) all = absurd all
arrivals_follow (Tried lane places closing tries m ∷ h) all = absurd all
arrivals_follow (Closed lane window m ∷ h) all = absurd all
arrivals_follow (Replayed shard places m ∷ h) all = absurd all
arrivals_follow (Shut m ∷ h) all = absurd all

-- entries that end no call

abbrev pub IsNoEnd : Entry → Type 0
IsNoEnd (Ended lane reply moment) = ⊥
IsNoEnd _ = ⊤

no_end_here : (s : QueueSetting) (sends : List ℕ → List ℕ) (e : Entry) (h : List Entry) → IsNoEnd e → queue_calls s sends (e ∷ h) 0 ≡ queue_calls s sends h 0
no_end_here s sends (Came shard first count m) h is = refl
no_end_here s sends (Began lane places closing m) h is = refl
no_end_here s sends (Ended lane reply m) h is = absurd is
no_end_here s sends (Gave by shard places f line state m) h is = refl
no_end_here s sends (Tried lane places closing tries m) h is = refl
no_end_here s sends (Closed lane window m) h is = refl
no_end_here s sends (Replayed shard places m) h is = refl
no_end_here s sends (Shut m) h is = refl

pub no_end_in : (s : QueueSetting) (sends : List ℕ → List ℕ) (es h : List Entry) → Each IsNoEnd es → queue_calls s sends (reverse es ++ h) 0 ≡ queue_calls s sends h 0
no_end_in s sends [] h each = refl
no_end_in s sends (e ∷ es) h each = ap (λ (l : List Entry). queue_calls s sends l 0) (one_more e es h) ∙ (no_end_in s sends es (e ∷ h) each.1 ∙ no_end_here s sends e h each.0)

-- calls begin after the end of the input

abbrev pub BeginsLater : List Entry → Entry → Type 0
BeginsLater h e = is_beginning e ≡ true → is_shut h ≡ true

-- what was shut stays so
pub shut_more : (es h : List Entry) → is_shut h ≡ true → is_shut (reverse es ++ h) ≡ true
shut_more [] h is = is
shut_more (e ∷ es) h is = ap is_shut (one_more e es h) ∙ shut_more es (e ∷ h) (shut_here (is_shut_entry e) is)
  where
    shut_here : (b : Bool) → is_shut h ≡ true → (b || is_shut h) ≡ true
    shut_here true is = refl
    shut_here false is = is

pub follow_more : (es h : List Entry) → Each (BeginsLater h) es → CallsFollowShut h → CallsFollowShut (reverse es ++ h)
follow_more [] h each before = before
follow_more (e ∷ es) h each before =
    subst CallsFollowShut (sym (one_more e es h)) (follow_more es (e ∷ h) (later_still es each.1) (each.0, before))
  where
    shut_on : (b : Bool) → is_shut h ≡ true → (b || is_shut h) ≡ true
    shut_on true is = refl
    shut_on false is = is

    later_still : (xs : List Entry) → Each (BeginsLater h) xs → Each (BeginsLater (e ∷ h)) xs
    later_still [] all = tt
    later_still (x ∷ xs) all = ((λ is. shut_on (is_shut_entry e) (all.0 is)), later_still xs all.1)
