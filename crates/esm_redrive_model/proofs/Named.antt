-- A legal history of a redrive names messages that came and wait.
use Rattle.std.proofs.Common.{◌≡◌, ℕ, Bool, true, false, not, ◌&&◌, List, [], ◌∷◌, ◌++◌, length, refl, sym, ap, ◌∙◌, subst, Option, Some, None}
use Rattle.std.specs.Prelude.{filter, option_map, unwrap_or}
use Rattle.std.proofs.lemmas.Bool.{and_parts, not-true}
use Rattle.esm_model.specs.declared.lane.LaneId.{LaneId}
use Rattle.esm_model.specs.declared.entry.Fate.{Fate}
use Rattle.esm_model.specs.declared.entry.Fate.TheVariants.{Succeeded, Filtered, Expired, Exhausted}
use Rattle.esm_model.specs.declared.entry.WindowState.{WindowState}
use Rattle.esm_model.specs.declared.entry.Entry.{Entry}
use Rattle.esm_model.specs.declared.entry.Entry.TheVariants.{Came, Began, Ended, Gave, Tried, Closed, Replayed, Shut}
use Rattle.esm_model.specs.Fates.{below}
use Rattle.esm_queue_model.specs.declared.stored.Stored.{Stored}
use Rattle.esm_queue_model.specs.Queue.{QueueState, stored_at, is_eligible, eligible, is_deleted_at}
use Rattle.esm_queue_model.specs.QueueSetting.{QueueSetting, message_at}
use Rattle.esm_queue_model.specs.QueueEntries.{queue_lane, queue_of, queue_count, is_deleted}
use Rattle.esm_queue_model.specs.QueueBatch.{queue_fits, eligible_after}
use Rattle.esm_queue_model.specs.QueueStep.{is_refused_message, succeeded_places}
use Rattle.esm_queue_model.proofs.Places.{In, In-here, In-filter, In-take, In-below, In-one}
use Rattle.esm_queue_model.proofs.QueueHistories.{longest_front}
use Rattle.esm_queue_model.proofs.EligibleFacts.{eligible_is, shown_of}
use Rattle.esm_redrive_model.specs.RedriveSetting.{RedriveSetting, has_dead_id}
use Rattle.esm_redrive_model.specs.Due.{is_at_limit, due}
use Rattle.esm_redrive_model.specs.RedriveStep.{MayMove, MayGiveRedrive, RedriveMayFollow, LegalRedrive}
use Rattle.esm_redrive_model.proofs.Built.{NamesWaiting, Builds, Built, eligible_came, succeeded_came}

-- what stands before an entry

pub legal_before : (s : RedriveSetting) (later before : List Entry) → LegalRedrive s (later ++ before) → LegalRedrive s before
legal_before s [] before legal = legal
legal_before s (e ∷ later) before legal = legal_before s later before legal.0

pub follows_at : (s : RedriveSetting) (later before : List Entry) (e : Entry) → LegalRedrive s (later ++ e ∷ before) → RedriveMayFollow s before e
follows_at s later before e legal = (legal_before s later (e ∷ before) legal).1.1

-- eligible messages wait

waits_there : (q : QueueState) (m i : ℕ) (o : Option Stored) → stored_at q i ≡ o → is_eligible q m i ≡ true → is_deleted_at q i ≡ false
waits_there q m i None at passes = ap (λ (o : Option Stored). unwrap_or (option_map (λ (x : Stored). x.deleted) o) false) at
waits_there q m i (Some x) at passes =
    let shown = shown_of q m i x (sym (eligible_is q m i x at) ∙ passes) in
    ap (λ (o : Option Stored). unwrap_or (option_map (λ (y : Stored). y.deleted) o) false) at
    ∙ not-true x.deleted (and_parts _ _ shown).0

pub eligible_waits : (s : QueueSetting) (h : List Entry) (m i : ℕ) → In (eligible (queue_of s h) m) i → is_deleted s h i ≡ false
eligible_waits s h m i member =
    let q = queue_of s h in
    waits_there q m i (stored_at q i) refl (In-filter (is_eligible q m) (below (length q.messages)) i member).1

-- the places of what a history deletes

-- the message that is moved is due
pub moved_due : (s : RedriveSetting) (h : List Entry) (lane : LaneId) (shard : ℕ) (places : List ℕ) (line : Option (List ℕ)) (state : Option WindowState) (m : ℕ) → (may : MayMove s h lane shard places line state m) → In (due s h m) may.place
moved_due s h lane shard places line state m may =
    In-take 1 (due s h m) may.place (subst (λ ps. In ps may.place) (sym may.first) (In-here may.place [] may.place refl))

pub moved_eligible : (s : RedriveSetting) (h : List Entry) (lane : LaneId) (shard : ℕ) (places : List ℕ) (line : Option (List ℕ)) (state : Option WindowState) (m : ℕ) → (may : MayMove s h lane shard places line state m) → In (eligible (queue_of s.queue h) m) may.place
moved_eligible s h lane shard places line state m may =
    (In-filter (is_at_limit s h) (eligible_after s.queue h m) may.place (moved_due s h lane shard places line state m may)).0

pub moved_place : (s : RedriveSetting) (h : List Entry) (lane : LaneId) (shard : ℕ) (places : List ℕ) (line : Option (List ℕ)) (state : Option WindowState) (m i : ℕ) → (may : MayMove s h lane shard places line state m) → In places i → may.place ≡ i
moved_place s h lane shard places line state m i may member = In-one may.place i (subst (λ ps. In ps i) may.exact member)

-- of a list by a test that a deleted message fails
names_passing : (s : QueueSetting) (h : List Entry) (shard : ℕ) (places : List ℕ) (rest : ℕ → Bool) → shard ≡ 0 → places ≡ filter (λ i. not (is_deleted s h i) && rest i) (below (queue_count h)) → NamesWaiting s h shard places
names_passing s h shard places rest queue exact =
    let p : ℕ → Bool = λ i. not (is_deleted s h i) && rest i in
    record {
      queue = queue;
      came = λ i member. In-below (queue_count h) i (In-filter p (below (queue_count h)) i (subst (λ ps. In ps i) exact member)).0;
      wait = λ i member. not-true (is_deleted s h i) (and_parts _ _ (In-filter p (below (queue_count h)) i (subst (λ ps. In ps i) exact member)).1).0;
    }

gives : (s : RedriveSetting) (h : List Entry) (by : Option LaneId) (shard : ℕ) (places : List ℕ) (f : Fate) (line : Option (List ℕ)) (state : Option WindowState) (m : ℕ) → Built s.queue h → MayGiveRedrive s h by shard places f line state m → NamesWaiting s.queue h shard places
gives s h None shard places Exhausted line state m built may = names_passing s.queue h shard places (λ i. unwrap_or (option_map (has_dead_id s) (message_at s.queue i)) false) may.queue may.exact
gives s h None shard places Filtered line state m built may = names_passing s.queue h shard places (λ i. unwrap_or (option_map (is_refused_message s.queue) (message_at s.queue i)) false) may.filters.queue may.filters.exact
gives s h (Some lane) shard places Exhausted line state m built may =
    let here = moved_eligible s h lane shard places line state m may in
    record {
      queue = may.queue;
      came = λ i member. eligible_came s.queue h m i built (subst (In (eligible (queue_of s.queue h) m)) (moved_place s h lane shard places line state m i may member) here);
      wait = λ i member. eligible_waits s.queue h m i (subst (In (eligible (queue_of s.queue h) m)) (moved_place s h lane shard places line state m i may member) here);
    }
gives s h (Some lane) shard places Succeeded line state m built may =
    let owed = λ (i : ℕ) (member : In places i). In-filter (λ j. not (is_deleted s.queue h j)) (succeeded_places s.queue h (queue_lane 0)) i (subst (λ ps. In ps i) may.deletes.exact member) in
    record {
      queue = may.deletes.queue;
      came = λ i member. succeeded_came s.queue h (queue_lane 0) built i (owed i member).0;
      wait = λ i member. not-true (is_deleted s.queue h i) (owed i member).1;
    }
gives s h None shard places Succeeded line state m built may = absurd may
gives s h None shard places Expired line state m built may = absurd may
gives s h (Some lane) shard places Filtered line state m built may = absurd may
gives s h (Some lane) shard places Expired line state m built may = absurd may

pub builds : (s : RedriveSetting) (h : List Entry) (e : Entry) → Built s.queue h → RedriveMayFollow s h e → Builds s.queue h e
builds s h (Came shard first count m) built may = may.comes
builds s h (Began lane places None m) built may = let front = longest_front (queue_fits s.queue h m) [] (eligible_after s.queue h m) in (front.0, may.exact ∙ front.1)
builds s h (Began lane places (Some window) m) built may = absurd may
builds s h (Ended lane reply m) built may = tt
builds s h (Gave by shard places f line state m) built may = gives s h by shard places f line state m built may
builds s h (Tried lane places closing tries m) built may = tt
builds s h (Closed lane window m) built may = tt
builds s h (Replayed shard places m) built may = tt
builds s h (Shut m) built may = tt

pub built_of : (s : RedriveSetting) (h : List Entry) → LegalRedrive s h → Built s.queue h
built_of s [] legal = tt
built_of s (e ∷ h) legal = let before = built_of s h legal.0 in (before, builds s h e before legal.1.1)
