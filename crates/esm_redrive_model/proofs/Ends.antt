-- A message that came is deleted exactly where it has a fate, and its fate is that of a success, a filter or a move.
use Rattle.std.proofs.Common.{◌≡◌, ℕ, zero, suc, ◌+◌, ◌-◌, ◌<◌, ◌≤◌, Bool, true, false, cond, ◌||◌, List, [], ◌∷◌, ◌++◌, length, take, drop, refl, sym, ap, ◌∙◌, inl, inr, arith, length-append, Option, Some, None}
use Rattle.std.specs.Prelude.{◌==◌, ◌&&◌, slice_get, option_map, unwrap_or, is_some, filter}
use Rattle.std.specs.Option.{option_or}
use Rattle.std.proofs.lemmas.Bool.{cases_Bool, cases_lt, and_parts, eq-eqb, both_ways}
use Rattle.std.proofs.lemmas.Option.{none-some, same_Some}
use Rattle.esm_model.specs.declared.item.Message.{Message}
use Rattle.esm_model.specs.declared.lane.LaneId.{LaneId}
use Rattle.esm_model.specs.declared.entry.Fate.{Fate}
use Rattle.esm_model.specs.declared.entry.Fate.TheVariants.{Succeeded, Filtered, Expired, Exhausted}
use Rattle.esm_model.specs.declared.entry.WindowState.{WindowState}
use Rattle.esm_model.specs.declared.entry.Entry.{Entry}
use Rattle.esm_model.specs.declared.entry.Entry.TheVariants.{Came, Began, Ended, Gave, Tried, Closed, Replayed, Shut}
use Rattle.esm_model.specs.declared.setup.FoundDeletion.{FoundDeletion}
use Rattle.esm_model.specs.Entries.{holds}
use Rattle.esm_model.specs.Fates.{below, given, is_fate}
use Rattle.esm_queue_model.specs.declared.stored.Stored.{Stored}
use Rattle.esm_queue_model.specs.Queue.{changed_from, received_once, deleted_once}
use Rattle.esm_queue_model.specs.QueueSetting.{QueueSetting, found_deletion, is_found}
use Rattle.esm_queue_model.specs.QueueEntries.{coming_from, queue_of, queue_count, is_deleted, waiting, deletion_fate, deleted_with}
use Rattle.esm_queue_model.proofs.Places.{In, In-here, In-there, In-below, length-parted, length-below}
use Rattle.esm_queue_model.proofs.MoreMessages.{count_grows}
use Rattle.esm_redrive_model.specs.RedriveSetting.{RedriveSetting}
use Rattle.esm_redrive_model.specs.RedriveStep.{MayGiveRedrive, LegalRedrive}
use Rattle.esm_redrive_model.specs.RedriveLaws.{is_redrive_fate, FoundForThese, HasOneEnd, EachHasOneEnd}
use Rattle.esm_redrive_model.proofs.Built.{Built, stored_count}
use Rattle.esm_redrive_model.proofs.Named.{built_of}

-- what is deleted of a list of messages

abbrev pub gone : Stored → Bool
gone x = x.deleted

abbrev pub gone_in : List Stored → ℕ → Bool
gone_in xs i = unwrap_or (option_map gone (slice_get xs i)) false

pub gone_left : (xs ys : List Stored) (i : ℕ) → i < length xs → gone_in (xs ++ ys) i ≡ gone_in xs i
gone_left [] ys i low = absurd (omega arith)
gone_left (x ∷ xs) ys zero low = refl
gone_left (x ∷ xs) ys (suc i) low = gone_left xs ys i (omega arith)

pub gone_right : (xs ys : List Stored) (i : ℕ) → gone_in (xs ++ ys) (length xs + i) ≡ gone_in ys i
gone_right [] ys i = let e : 0 + i ≡ i = omega arith in rw e refl
gone_right (x ∷ xs) ys i = let e : suc (length xs) + i ≡ suc (length xs + i) = omega arith in rw e (gone_right xs ys i)

-- a change that deletes none
pub gone_same : (f : Stored → Stored) → ((x : Stored) → (f x).deleted ≡ x.deleted) → (places : List ℕ) (k : ℕ) (xs : List Stored) (i : ℕ) → gone_in (changed_from f places k xs) i ≡ gone_in xs i
gone_same f same places k [] i = refl
gone_same f same places k (x ∷ xs) zero = elim (cases_Bool (holds places k)) [ inl is ↦ rw is (same x) | inr other ↦ rw other refl ]
gone_same f same places k (x ∷ xs) (suc i) = gone_same f same places (k + 1) xs i

either : (d b : Bool) → cond b true d ≡ (d || b)
either true true = refl
either true false = refl
either false true = refl
either false false = refl

marked : (b : Bool) (x : Stored) → (cond b (deleted_once x) x).deleted ≡ (x.deleted || b)
marked true x = either x.deleted true
marked false x = either x.deleted false

-- the messages at the places are deleted
pub gone_more : (places : List ℕ) (k : ℕ) (xs : List Stored) (i : ℕ) → i < length xs → gone_in (changed_from deleted_once places k xs) i ≡ (gone_in xs i || holds places (k + i))
gone_more places k [] i low = absurd (omega arith)
gone_more places k (x ∷ xs) zero low = let e : k + 0 ≡ k = omega arith in rw e (marked (holds places k) x)
gone_more places k (x ∷ xs) (suc i) low = let e : k + suc i ≡ (k + 1) + i = omega arith in rw e (gone_more places (k + 1) xs i (omega arith))

-- messages that come are deleted where they were found so
pub gone_coming : (s : QueueSetting) (m k : ℕ) (xs : List Message) (i : ℕ) → i < length (coming_from s m k xs) → gone_in (coming_from s m k xs) i ≡ is_found s (k + i)
gone_coming s m k [] i low = absurd (omega arith)
gone_coming s m k (x ∷ xs) zero low = let e : k + 0 ≡ k = omega arith in rw e refl
gone_coming s m k (x ∷ xs) (suc i) low = let e : k + suc i ≡ (k + 1) + i = omega arith in rw e (gone_coming s m (k + 1) xs i (omega arith))

-- what a history gave

named_none : (b : Bool) (g : Option Fate) (f : Fate) → g ≡ None → b ≡ false → option_or g (cond b (Some f) None) ≡ None
named_none b g f none out = rw (none, out) refl

-- a message that did not come has no fate
given_none : (s : QueueSetting) (h : List Entry) → Built s h → (i : ℕ) → queue_count h ≤ i → given h 0 i ≡ None
given_none s [] built i high = refl
given_none s (Came shard first count m ∷ h) built i high =
    let grows = count_grows h (Came shard first count m) in
    given_none s h built.0 i (omega (arith, grows, high))
given_none s (Began lane places closing m ∷ h) built i high = given_none s h built.0 i high
given_none s (Ended lane reply m ∷ h) built i high = given_none s h built.0 i high
given_none s (Gave by shard places f line state m ∷ h) built i high =
    let before : given h 0 i ≡ None = given_none s h built.0 i high in
    elim (cases_Bool ((shard == 0) && holds places i)) [
      | inl named ↦ (let low = built.1.came i (and_parts (shard == 0) (holds places i) named).1 in absurd (omega arith))
      | inr other ↦ named_none ((shard == 0) && holds places i) (given h 0 i) f before other
    ]
given_none s (Tried lane places closing tries m ∷ h) built i high = given_none s h built.0 i high
given_none s (Closed lane window m ∷ h) built i high = given_none s h built.0 i high
given_none s (Replayed shard places m ∷ h) built i high = given_none s h built.0 i high
given_none s (Shut m ∷ h) built i high = given_none s h built.0 i high

-- deleted messages

found_alone : (a : Option FoundDeletion) (g : Option Fate) → g ≡ None → is_some a ≡ is_some (option_or (option_map (λ (f : FoundDeletion). f.fate) a) g)
found_alone None g none = ap is_some (sym none)
found_alone (Some x) g none = refl

fated_more : (a g : Option Fate) (b : Bool) (f : Fate) → (is_some (option_or a g) || b) ≡ is_some (option_or a (option_or g (cond b (Some f) None)))
fated_more (Some x) g b f = refl
fated_more None (Some y) b f = refl
fated_more None None true f = refl
fated_more None None false f = refl

abbrev found_fate : QueueSetting → ℕ → Option Fate
found_fate s i = option_map (λ (f : FoundDeletion). f.fate) (found_deletion s i)

fated_by : (s : QueueSetting) (h : List Entry) (shard : ℕ) (places : List ℕ) (f : Fate) (i : ℕ) → shard ≡ 0
    → (is_some (deletion_fate s h i) || holds places i) ≡ is_some (option_or (found_fate s i) (option_or (given h 0 i) (cond ((shard == 0) && holds places i) (Some f) None)))
fated_by s h shard places f i own =
    fated_more (found_fate s i) (given h 0 i) (holds places i) f
    ∙ ap (λ (b : Bool). is_some (option_or (found_fate s i) (option_or (given h 0 i) (cond (b && holds places i) (Some f) None)))) (sym (eq-eqb shard 0 own))

pub deleted_is : (s : QueueSetting) (h : List Entry) → Built s h → (i : ℕ) → i < queue_count h → is_deleted s h i ≡ is_some (deletion_fate s h i)
deleted_is s [] built i low = absurd (omega arith)
deleted_is s (Came shard first count m ∷ h) built i low =
    let old = (queue_of s h).messages in
    let new = coming_from s m first (take count (drop first s.messages)) in
    let sized : length old ≡ queue_count h = stored_count s h built.0 in
    let whole : length (old ++ new) ≡ queue_count (Came shard first count m ∷ h) = stored_count s (Came shard first count m ∷ h) built in
    let parts : length (old ++ new) ≡ length old + length new = length-append old new in
    elim (cases_lt i (queue_count h)) [
      | inl before ↦ gone_left old new i (omega (arith, sized, before)) ∙ deleted_is s h built.0 i before
      | inr later ↦
          (let at : length old + (i - queue_count h) ≡ i = omega (arith, sized, later) in
          let next : first ≡ queue_count h = built.1.next in
          let place : first + (i - queue_count h) ≡ i = omega (arith, next, later) in
          let within : i - queue_count h < length new = omega (arith, sized, whole, parts, later, low) in
          ap (gone_in (old ++ new)) (sym at)
          ∙ (gone_right old new (i - queue_count h)
          ∙ (gone_coming s m first (take count (drop first s.messages)) (i - queue_count h) within
          ∙ (ap (is_found s) place
          ∙ found_alone (found_deletion s i) (given h 0 i) (given_none s h built.0 i later)))))
    ]
deleted_is s (Began lane places closing m ∷ h) built i low = gone_same (received_once m) (λ x. refl) places 0 (queue_of s h).messages i ∙ deleted_is s h built.0 i low
deleted_is s (Ended lane reply m ∷ h) built i low = deleted_is s h built.0 i low
deleted_is s (Gave by shard places f line state m ∷ h) built i low =
    let sized : length (queue_of s h).messages ≡ queue_count h = stored_count s h built.0 in
    let at : 0 + i ≡ i = omega arith in
    gone_more places 0 (queue_of s h).messages i (omega (arith, sized, low))
    ∙ (ap (λ (j : ℕ). is_deleted s h i || holds places j) at
    ∙ (ap (λ (b : Bool). b || holds places i) (deleted_is s h built.0 i low)
    ∙ fated_by s h shard places f i built.1.queue))
deleted_is s (Tried lane places closing tries m ∷ h) built i low = deleted_is s h built.0 i low
deleted_is s (Closed lane window m ∷ h) built i low = deleted_is s h built.0 i low
deleted_is s (Replayed shard places m ∷ h) built i low = deleted_is s h built.0 i low
deleted_is s (Shut m ∷ h) built i low = deleted_is s h built.0 i low

-- the fates are of these kinds

may_give_these : (s : RedriveSetting) (h : List Entry) (by : Option LaneId) (shard : ℕ) (places : List ℕ) (f : Fate) (line : Option (List ℕ)) (state : Option WindowState) (m : ℕ) → MayGiveRedrive s h by shard places f line state m → is_redrive_fate f ≡ true
may_give_these s h by shard places Succeeded line state m may = refl
may_give_these s h by shard places Filtered line state m may = refl
may_give_these s h by shard places Exhausted line state m may = refl
may_give_these s h None shard places Expired line state m may = absurd may
may_give_these s h (Some lane) shard places Expired line state m may = absurd may

more_of_these : (g : Option Fate) (b : Bool) (f e : Fate) → ((e : Fate) → g ≡ Some e → is_redrive_fate e ≡ true) → is_redrive_fate f ≡ true → option_or g (cond b (Some f) None) ≡ Some e → is_redrive_fate e ≡ true
more_of_these (Some x) b f e before own is = before e is
more_of_these None true f e before own is = ap is_redrive_fate (sym (same_Some f e is)) ∙ own
more_of_these None false f e before own is = absurd (none-some e is)

pub given_these : (s : RedriveSetting) (h : List Entry) → LegalRedrive s h → (i : ℕ) (e : Fate) → given h 0 i ≡ Some e → is_redrive_fate e ≡ true
given_these s [] legal i e is = absurd (none-some e is)
given_these s (Gave by shard places f line state m ∷ h) legal i e is =
    more_of_these (given h 0 i) ((shard == 0) && holds places i) f e (given_these s h legal.0 i) (may_give_these s h by shard places f line state m legal.1.1) is
given_these s (Came shard first count m ∷ h) legal i e is = given_these s h legal.0 i e is
given_these s (Began lane places closing m ∷ h) legal i e is = given_these s h legal.0 i e is
given_these s (Ended lane reply m ∷ h) legal i e is = given_these s h legal.0 i e is
given_these s (Tried lane places closing tries m ∷ h) legal i e is = given_these s h legal.0 i e is
given_these s (Closed lane window m ∷ h) legal i e is = given_these s h legal.0 i e is
given_these s (Replayed shard places m ∷ h) legal i e is = given_these s h legal.0 i e is
given_these s (Shut m ∷ h) legal i e is = given_these s h legal.0 i e is

found_or_given : (a : Option FoundDeletion) (g : Option Fate) (e : Fate) → ((f : FoundDeletion) → a ≡ Some f → is_redrive_fate f.fate ≡ true) → ((f : Fate) → g ≡ Some f → is_redrive_fate f ≡ true) → option_or (option_map (λ (f : FoundDeletion). f.fate) a) g ≡ Some e → is_redrive_fate e ≡ true
found_or_given None g e found gave is = gave e is
found_or_given (Some x) g e found gave is = ap is_redrive_fate (sym (same_Some x.fate e is)) ∙ found x refl

pub one_end : (s : RedriveSetting) (h : List Entry) → FoundForThese s → LegalRedrive s h → (i : ℕ) → i < queue_count h → HasOneEnd s h i
one_end s h found legal i low = record {
  deleted = deleted_is s.queue h (built_of s h legal) i low;
  ends = λ e is. found_or_given (found_deletion s.queue i) (given h 0 i) e (found i) (given_these s h legal i) is;
}

-- counts

abbrev bit : Bool → ℕ
bit b = cond b 1 0

filter_step : (p : ℕ → Bool) (x : ℕ) (xs : List ℕ) → length (filter p (x ∷ xs)) ≡ bit (p x) + length (filter p xs)
filter_step p x xs = elim (cases_Bool (p x)) [ inl is ↦ rw is (omega arith) | inr fails ↦ rw fails (omega arith) ]

three_parts : (p a b c : ℕ → Bool) (xs : List ℕ) → ((i : ℕ) → In xs i → bit (p i) ≡ bit (a i) + bit (b i) + bit (c i)) → length (filter p xs) ≡ length (filter a xs) + length (filter b xs) + length (filter c xs)
three_parts p a b c [] each = refl
three_parts p a b c (x ∷ xs) each =
    let here : bit (p x) ≡ bit (a x) + bit (b x) + bit (c x) = each x (In-here x xs x refl) in
    let rest : length (filter p xs) ≡ length (filter a xs) + length (filter b xs) + length (filter c xs) = three_parts p a b c xs (λ i member. each i (In-there x xs i member)) in
    let all = filter_step p x xs in
    let first = filter_step a x xs in
    let second = filter_step b x xs in
    let third = filter_step c x xs in
    omega (arith, here, rest, all, first, second, third)

one_of_three : (o : Option Fate) → ((f : Fate) → o ≡ Some f → is_redrive_fate f ≡ true) → bit (is_some o) ≡ bit (is_fate Succeeded o) + bit (is_fate Filtered o) + bit (is_fate Exhausted o)
one_of_three None ends = refl
one_of_three (Some Succeeded) ends = refl
one_of_three (Some Filtered) ends = refl
one_of_three (Some Exhausted) ends = refl
one_of_three (Some Expired) ends = absurd (both_ways false refl (ends Expired refl))

pub each_has_one_end_in : (s : RedriveSetting) (h : List Entry) → FoundForThese s → LegalRedrive s h → EachHasOneEnd s h
each_has_one_end_in s h found legal =
    let all = below (queue_count h) in
    let deleted = is_deleted s.queue h in
    let parted : length all ≡ length (filter deleted all) + length (waiting s.queue h) = length-parted deleted all in
    let fated : length (filter deleted all) ≡ deleted_with s.queue h Succeeded + deleted_with s.queue h Filtered + deleted_with s.queue h Exhausted
    = three_parts deleted (λ i. is_fate Succeeded (deletion_fate s.queue h i)) (λ i. is_fate Filtered (deletion_fate s.queue h i)) (λ i. is_fate Exhausted (deletion_fate s.queue h i)) all
    (λ i member.
    let end = one_end s h found legal i (In-below (queue_count h) i member) in
    ap bit end.deleted ∙ one_of_three (deletion_fate s.queue h i) end.ends) in
    let number : length all ≡ queue_count h = length-below (queue_count h) in
    record { each = one_end s h found legal; counted = omega (arith, parted, fated, number) }
