-- In a legal history of a queue a message that came is deleted exactly where it has a fate.
use Rattle.std.proofs.Common.{◌≡◌, ℕ, zero, suc, ◌+◌, ◌-◌, ◌<◌, ◌≤◌, Bool, true, false, cond, ◌||◌, List, [], ◌∷◌, ◌++◌, length, take, drop, refl, sym, ap, ◌∙◌, inl, inr, arith, length-append, Option, Some, None}
use Rattle.std.specs.Prelude.{◌==◌, ◌&&◌, slice_get, option_map, unwrap_or, is_some, filter}
use Rattle.std.specs.Option.{option_or}
use Rattle.std.proofs.lemmas.Bool.{cases_Bool, cases_lt, and_parts, eqb-true, eq-eqb}
use Rattle.esm_model.specs.declared.item.Message.{Message}
use Rattle.esm_model.specs.declared.lane.LaneId.{LaneId}
use Rattle.esm_model.specs.declared.entry.Fate.{Fate}
use Rattle.esm_model.specs.declared.entry.Fate.TheVariants.{Succeeded, Filtered, Expired, Exhausted}
use Rattle.esm_model.specs.declared.entry.WindowState.{WindowState}
use Rattle.esm_model.specs.declared.entry.Entry.{Entry}
use Rattle.esm_model.specs.declared.entry.Entry.TheVariants.{Came, Began, Ended, Gave, Tried, Closed, Replayed, Shut}
use Rattle.esm_model.specs.declared.setup.FoundDeletion.{FoundDeletion}
use Rattle.esm_model.specs.Entries.{holds}
use Rattle.esm_model.specs.Fates.{below, given}
use Rattle.esm_model.proofs.Lists.{In-below}
use Rattle.esm_model.proofs.Records.{filter_same}
use Rattle.esm_queue_model.specs.declared.stored.Stored.{Stored}
use Rattle.esm_queue_model.specs.Queue.{changed_from, received_once, deleted_once}
use Rattle.esm_queue_model.specs.QueueSetting.{QueueSetting, found_deletion, is_found}
use Rattle.esm_queue_model.specs.QueueEntries.{coming_from, queue_of, queue_count, is_deleted, deletion_fate, deleted_count}
use Rattle.esm_queue_model.specs.QueueStep.{MayGiveQueue, LegalQueue}
use Rattle.esm_queue_model.proofs.MoreMessages.{count_grows, stored_count}
use Rattle.esm_queue_model.proofs.QueueBookLaws.{named_came}

-- what is deleted of a list of messages

abbrev gone : Stored → Bool
gone x = x.deleted

abbrev gone_in : List Stored → ℕ → Bool
gone_in xs i = unwrap_or (option_map gone (slice_get xs i)) false

gone_left : (xs ys : List Stored) (i : ℕ) → i < length xs → gone_in (xs ++ ys) i ≡ gone_in xs i
gone_left [] ys i low = absurd (omega arith)
gone_left (x ∷ xs) ys zero low = refl
gone_left (x ∷ xs) ys (suc i) low = gone_left xs ys i (omega arith)

gone_right : (xs ys : List Stored) (i : ℕ) → gone_in (xs ++ ys) (length xs + i) ≡ gone_in ys i
gone_right [] ys i = let e : 0 + i ≡ i = omega arith in rw e refl
gone_right (x ∷ xs) ys i = let e : suc (length xs) + i ≡ suc (length xs + i) = omega arith in rw e (gone_right xs ys i)

-- a change that deletes none
gone_same : (f : Stored → Stored) → ((x : Stored) → (f x).deleted ≡ x.deleted) → (places : List ℕ) (k : ℕ) (xs : List Stored) (i : ℕ) → gone_in (changed_from f places k xs) i ≡ gone_in xs i
gone_same f same places k [] i = refl
gone_same f same places k (x ∷ xs) zero = elim (cases_Bool (holds places k)) [ inl is ↦ rw is (same x) | inr other ↦ rw other refl ]
gone_same f same places k (x ∷ xs) (suc i) = gone_same f same places (k + 1) xs i

either : (d b : Bool) → cond b true d ≡ (d || b)
either true true = refl
either true false = refl
either false true = refl
either false false = refl

marked : (b : Bool) (x : Stored) → (cond b (deleted_once x) x).deleted ≡ (x.deleted || b)
marked true x = either x.deleted true
marked false x = either x.deleted false

-- the messages at the places are deleted
gone_more : (places : List ℕ) (k : ℕ) (xs : List Stored) (i : ℕ) → i < length xs → gone_in (changed_from deleted_once places k xs) i ≡ (gone_in xs i || holds places (k + i))
gone_more places k [] i low = absurd (omega arith)
gone_more places k (x ∷ xs) zero low = let e : k + 0 ≡ k = omega arith in rw e (marked (holds places k) x)
gone_more places k (x ∷ xs) (suc i) low = let e : k + suc i ≡ (k + 1) + i = omega arith in rw e (gone_more places (k + 1) xs i (omega arith))

-- messages that come are deleted where they were found so
gone_coming : (s : QueueSetting) (m k : ℕ) (xs : List Message) (i : ℕ) → i < length (coming_from s m k xs) → gone_in (coming_from s m k xs) i ≡ is_found s (k + i)
gone_coming s m k [] i low = absurd (omega arith)
gone_coming s m k (x ∷ xs) zero low = let e : k + 0 ≡ k = omega arith in rw e refl
gone_coming s m k (x ∷ xs) (suc i) low = let e : k + suc i ≡ (k + 1) + i = omega arith in rw e (gone_coming s m (k + 1) xs i (omega arith))

-- what a history gave

named_none : (b : Bool) (g : Option Fate) (f : Fate) → g ≡ None → b ≡ false → option_or g (cond b (Some f) None) ≡ None
named_none b g f none out = rw (none, out) refl

-- a message that did not come has no fate
given_none : (s : QueueSetting) (h : List Entry) → LegalQueue s h → (i : ℕ) → queue_count h ≤ i → given h 0 i ≡ None
given_none s [] legal i high = refl
given_none s (Came shard first count m ∷ h) legal i high =
    let grows = count_grows h (Came shard first count m) in
    given_none s h legal.0 i (omega (arith, grows, high))
given_none s (Began lane places closing m ∷ h) legal i high = given_none s h legal.0 i high
given_none s (Ended lane reply m ∷ h) legal i high = given_none s h legal.0 i high
given_none s (Gave by shard places f line state m ∷ h) legal i high =
    let before : given h 0 i ≡ None = given_none s h legal.0 i high in
    elim (cases_Bool ((shard == 0) && holds places i)) [
      | inl named ↦
          (let parts = and_parts (shard == 0) (holds places i) named in
          let came = named_came s h (Gave by shard places f line state m) legal i parts.1 in
          let low : i < queue_count h = rw (eqb-true shard 0 parts.0) at came in
          absurd (omega arith))
      | inr other ↦ named_none ((shard == 0) && holds places i) (given h 0 i) f before other
    ]
given_none s (Tried lane places closing tries m ∷ h) legal i high = given_none s h legal.0 i high
given_none s (Closed lane window m ∷ h) legal i high = given_none s h legal.0 i high
given_none s (Replayed shard places m ∷ h) legal i high = given_none s h legal.0 i high
given_none s (Shut m ∷ h) legal i high = given_none s h legal.0 i high

-- the shard of a queue is 0
gives_queue : (s : QueueSetting) (h : List Entry) (by : Option LaneId) (shard : ℕ) (places : List ℕ) (f : Fate) (line : Option (List ℕ)) (state : Option WindowState) (m : ℕ) → MayGiveQueue s h by shard places f line state m → shard ≡ 0
gives_queue s h None shard places Filtered line state m may = may.queue
gives_queue s h (Some lane) shard places Succeeded line state m may = may.queue
gives_queue s h None shard places Succeeded line state m may = absurd may
gives_queue s h None shard places Expired line state m may = absurd may
gives_queue s h None shard places Exhausted line state m may = absurd may
gives_queue s h (Some lane) shard places Filtered line state m may = absurd may
gives_queue s h (Some lane) shard places Expired line state m may = absurd may
gives_queue s h (Some lane) shard places Exhausted line state m may = absurd may

-- deleted messages

found_alone : (a : Option FoundDeletion) (g : Option Fate) → g ≡ None → is_some a ≡ is_some (option_or (option_map (λ (f : FoundDeletion). f.fate) a) g)
found_alone None g none = ap is_some (sym none)
found_alone (Some x) g none = refl

fated_more : (a g : Option Fate) (b : Bool) (f : Fate) → (is_some (option_or a g) || b) ≡ is_some (option_or a (option_or g (cond b (Some f) None)))
fated_more (Some x) g b f = refl
fated_more None (Some y) b f = refl
fated_more None None true f = refl
fated_more None None false f = refl

abbrev found_fate : QueueSetting → ℕ → Option Fate
found_fate s i = option_map (λ (f : FoundDeletion). f.fate) (found_deletion s i)

fated_by : (s : QueueSetting) (h : List Entry) (shard : ℕ) (places : List ℕ) (f : Fate) (i : ℕ) → shard ≡ 0
    → (is_some (deletion_fate s h i) || holds places i) ≡ is_some (option_or (found_fate s i) (option_or (given h 0 i) (cond ((shard == 0) && holds places i) (Some f) None)))
fated_by s h shard places f i own =
    fated_more (found_fate s i) (given h 0 i) (holds places i) f
    ∙ ap (λ (b : Bool). is_some (option_or (found_fate s i) (option_or (given h 0 i) (cond (b && holds places i) (Some f) None)))) (sym (eq-eqb shard 0 own))

pub deleted_is : (s : QueueSetting) (h : List Entry) → LegalQueue s h → (i : ℕ) → i < queue_count h → is_deleted s h i ≡ is_some (deletion_fate s h i)
deleted_is s [] legal i low = absurd (omega arith)
deleted_is s (Came shard first count m ∷ h) legal i low =
    let old = (queue_of s h).messages in
    let new = coming_from s m first (take count (drop first s.messages)) in
    let sized : length old ≡ queue_count h = stored_count s h legal.0 in
    let whole : length (old ++ new) ≡ queue_count (Came shard first count m ∷ h) = stored_count s (Came shard first count m ∷ h) legal in
    let parts : length (old ++ new) ≡ length old + length new = length-append old new in
    elim (cases_lt i (queue_count h)) [
      | inl before ↦ gone_left old new i (omega (arith, sized, before)) ∙ deleted_is s h legal.0 i before
      | inr later ↦
          (let at : length old + (i - queue_count h) ≡ i = omega (arith, sized, later) in
          let next : first ≡ queue_count h = legal.1.1.next in
          let place : first + (i - queue_count h) ≡ i = omega (arith, next, later) in
          let within : i - queue_count h < length new = omega (arith, sized, whole, parts, later, low) in
          ap (gone_in (old ++ new)) (sym at)
          ∙ (gone_right old new (i - queue_count h)
          ∙ (gone_coming s m first (take count (drop first s.messages)) (i - queue_count h) within
          ∙ (ap (is_found s) place
          ∙ found_alone (found_deletion s i) (given h 0 i) (given_none s h legal.0 i later)))))
    ]
deleted_is s (Began lane places closing m ∷ h) legal i low = gone_same (received_once m) (λ x. refl) places 0 (queue_of s h).messages i ∙ deleted_is s h legal.0 i low
deleted_is s (Ended lane reply m ∷ h) legal i low = deleted_is s h legal.0 i low
deleted_is s (Gave by shard places f line state m ∷ h) legal i low =
    let sized : length (queue_of s h).messages ≡ queue_count h = stored_count s h legal.0 in
    let at : 0 + i ≡ i = omega arith in
    gone_more places 0 (queue_of s h).messages i (omega (arith, sized, low))
    ∙ (ap (λ (j : ℕ). is_deleted s h i || holds places j) at
    ∙ (ap (λ (b : Bool). b || holds places i) (deleted_is s h legal.0 i low)
    ∙ fated_by s h shard places f i (gives_queue s h by shard places f line state m legal.1.1)))
deleted_is s (Tried lane places closing tries m ∷ h) legal i low = deleted_is s h legal.0 i low
deleted_is s (Closed lane window m ∷ h) legal i low = deleted_is s h legal.0 i low
deleted_is s (Replayed shard places m ∷ h) legal i low = deleted_is s h legal.0 i low
deleted_is s (Shut m ∷ h) legal i low = deleted_is s h legal.0 i low

pub deleted_are_fated : (s : QueueSetting) (h : List Entry) → LegalQueue s h → deleted_count s h ≡ length (filter (λ i. is_some (deletion_fate s h i)) (below (queue_count h)))
deleted_are_fated s h legal =
    ap length (filter_same (is_deleted s h) (λ i. is_some (deletion_fate s h i)) (below (queue_count h)) (λ i member. deleted_is s h legal i (In-below (queue_count h) i member)))
