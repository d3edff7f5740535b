-- The queue counts the receives of each message.
use Rattle.std.proofs.Common.{◌≡◌, ℕ, zero, suc, ◌+◌, ◌-◌, ◌<◌, ◌≤◌, Bool, true, false, cond, List, [], ◌∷◌, ◌++◌, length, take, drop, refl, sym, ap, ◌∙◌, inl, inr, arith, Some, None}
use Rattle.std.specs.Prelude.{min, slice_get, option_map, unwrap_or}
use Rattle.std.proofs.lemmas.Bool.{cases_Bool, cases_lt}
use Rattle.esm_model.specs.declared.item.Message.{Message}
use Rattle.esm_model.specs.declared.entry.Entry.{Entry}
use Rattle.esm_model.specs.declared.entry.Entry.TheVariants.{Came, Began, Ended, Gave, Tried, Closed, Replayed, Shut}
use Rattle.esm_model.specs.Entries.{holds}
use Rattle.esm_queue_model.specs.declared.stored.Stored.{Stored}
use Rattle.esm_queue_model.specs.declared.stored.TheConstants.{MAX_COUNT}
use Rattle.esm_queue_model.specs.Queue.{changed_from, received_once, deleted_once}
use Rattle.esm_queue_model.specs.QueueSetting.{QueueSetting}
use Rattle.esm_queue_model.specs.QueueEntries.{coming_from, queue_of, queue_count}
use Rattle.esm_queue_model.proofs.MoreMessages.{count_grows}
use Rattle.esm_redrive_model.specs.RedriveSetting.{RedriveSetting}
use Rattle.esm_redrive_model.specs.Due.{receives}
use Rattle.esm_redrive_model.specs.RedriveStep.{LegalRedrive}
use Rattle.esm_redrive_model.specs.RedriveLaws.{ReceivesAreCounted}
use Rattle.esm_redrive_model.proofs.Built.{Built, length-changed, stored_count, called_came}
use Rattle.esm_redrive_model.proofs.Named.{built_of}
use Rattle.esm_redrive_model.proofs.Moves.{once_more}

-- the receive counts of a list of messages

abbrev count_in : List Stored → ℕ → ℕ
count_in xs i = unwrap_or (option_map (λ (x : Stored). x.count) (slice_get xs i)) 0

count_left : (xs ys : List Stored) (i : ℕ) → i < length xs → count_in (xs ++ ys) i ≡ count_in xs i
count_left [] ys i low = absurd (omega arith)
count_left (x ∷ xs) ys zero low = refl
count_left (x ∷ xs) ys (suc i) low = count_left xs ys i (omega arith)

count_right : (xs ys : List Stored) (i : ℕ) → count_in (xs ++ ys) (length xs + i) ≡ count_in ys i
count_right [] ys i = let e : 0 + i ≡ i = omega arith in rw e refl
count_right (x ∷ xs) ys i = let e : suc (length xs) + i ≡ suc (length xs + i) = omega arith in rw e (count_right xs ys i)

count_coming : (s : QueueSetting) (m k : ℕ) (xs : List Message) (i : ℕ) → count_in (coming_from s m k xs) i ≡ 0
count_coming s m k [] i = refl
count_coming s m k (x ∷ xs) zero = refl
count_coming s m k (x ∷ xs) (suc i) = count_coming s m (k + 1) xs i

kept_one : (b : Bool) (x : Stored) → (cond b (deleted_once x) x).count ≡ x.count
kept_one true x = refl
kept_one false x = refl

count_kept : (places : List ℕ) (k : ℕ) (xs : List Stored) (i : ℕ) → count_in (changed_from deleted_once places k xs) i ≡ count_in xs i
count_kept places k [] i = refl
count_kept places k (x ∷ xs) zero = kept_one (holds places k) x
count_kept places k (x ∷ xs) (suc i) = count_kept places (k + 1) xs i

more_one : (b : Bool) (m : ℕ) (x : Stored) → (cond b (received_once m x) x).count ≡ cond b (min (x.count + 1) MAX_COUNT) x.count
more_one true m x = refl
more_one false m x = refl

count_more : (m : ℕ) (places : List ℕ) (k : ℕ) (xs : List Stored) (i : ℕ) → i < length xs → count_in (changed_from (received_once m) places k xs) i ≡ cond (holds places (k + i)) (min (count_in xs i + 1) MAX_COUNT) (count_in xs i)
count_more m places k [] i low = absurd (omega arith)
count_more m places k (x ∷ xs) zero low = let e : k + 0 ≡ k = omega arith in rw e (more_one (holds places k) m x)
count_more m places k (x ∷ xs) (suc i) low = let e : k + suc i ≡ (k + 1) + i = omega arith in rw e (count_more m places (k + 1) xs i (omega arith))

past : (xs : List Stored) (i : ℕ) → length xs ≤ i → count_in xs i ≡ 0
past [] i high = refl
past (x ∷ xs) zero high = absurd (omega arith)
past (x ∷ xs) (suc i) high = past xs i (omega arith)

-- a message that did not come was not received
none_received : (s : QueueSetting) (h : List Entry) → Built s h → (i : ℕ) → queue_count h ≤ i → receives h i ≡ 0
none_received s [] built i high = refl
none_received s (Came shard first count m ∷ h) built i high = let grows = count_grows h (Came shard first count m) in none_received s h built.0 i (omega (arith, grows, high))
none_received s (Began lane places closing m ∷ h) built i high =
    elim (cases_Bool (holds places i)) [
      | inl is ↦ (let low = called_came s h places m i built.0 built.1 is in absurd (omega arith))
      | inr other ↦ rw other (none_received s h built.0 i high)
    ]
none_received s (Ended lane reply m ∷ h) built i high = none_received s h built.0 i high
none_received s (Gave by shard places f line state m ∷ h) built i high = none_received s h built.0 i high
none_received s (Tried lane places closing tries m ∷ h) built i high = none_received s h built.0 i high
none_received s (Closed lane window m ∷ h) built i high = none_received s h built.0 i high
none_received s (Replayed shard places m ∷ h) built i high = none_received s h built.0 i high
none_received s (Shut m ∷ h) built i high = none_received s h built.0 i high

one_receipt : (b : Bool) (n r : ℕ) → n ≡ r → (b ≡ true → r + 1 ≤ MAX_COUNT) → cond b (min (n + 1) MAX_COUNT) n ≡ cond b (suc r) r
one_receipt true n r same low = let few = low refl in omega (arith, same, few)
one_receipt false n r same low = same

pub receives_are_counted_in : (s : RedriveSetting) (h : List Entry) → s.max_receives ≤ MAX_COUNT → LegalRedrive s h → ReceivesAreCounted s h
receives_are_counted_in s [] few legal = λ i. refl
receives_are_counted_in s (Came shard first count m ∷ h) few legal = λ i.
    let old = (queue_of s.queue h).messages in
    let new = coming_from s.queue m first (take count (drop first s.queue.messages)) in
    let built = built_of s h legal.0 in
    let sized : length old ≡ queue_count h = stored_count s.queue h built in
    elim (cases_lt i (queue_count h)) [
      | inl before ↦ count_left old new i (omega (arith, sized, before)) ∙ receives_are_counted_in s h few legal.0 i
      | inr later ↦
          (let at : length old + (i - queue_count h) ≡ i = omega (arith, sized, later) in
          ap (count_in (old ++ new)) (sym at)
          ∙ (count_right old new (i - queue_count h)
          ∙ (count_coming s.queue m first (take count (drop first s.queue.messages)) (i - queue_count h)
          ∙ sym (none_received s.queue h built i later))))
    ]
receives_are_counted_in s (Began lane places None m ∷ h) few legal = λ i.
    let xs = (queue_of s.queue h).messages in
    let built = built_of s h legal.0 in
    let sized : length xs ≡ queue_count h = stored_count s.queue h built in
    let zero_first : 0 + i ≡ i = omega arith in
    elim (cases_lt i (queue_count h)) [
      | inl low ↦
          count_more m places 0 xs i (omega (arith, sized, low))
          ∙ (ap (λ (j : ℕ). cond (holds places j) (min (count_in xs i + 1) MAX_COUNT) (count_in xs i)) zero_first
          ∙ one_receipt (holds places i) (count_in xs i) (receives h i) (receives_are_counted_in s h few legal.0 i) (λ is. (let once = once_more s h lane places m i legal.1.1 is in omega (arith, once, few))))
      | inr high ↦
          past (changed_from (received_once m) places 0 xs) i (omega (arith, sized, high, length-changed (received_once m) places 0 xs))
          ∙ sym (none_received s.queue (Began lane places None m ∷ h) (built_of s (Began lane places None m ∷ h) legal) i high)
    ]
receives_are_counted_in s (Began lane places (Some window) m ∷ h) few legal = absurd legal.1.1
receives_are_counted_in s (Gave by shard places f line state m ∷ h) few legal = λ i. count_kept places 0 (queue_of s.queue h).messages i ∙ receives_are_counted_in s h few legal.0 i
receives_are_counted_in s (Ended lane reply m ∷ h) few legal = receives_are_counted_in s h few legal.0
receives_are_counted_in s (Tried lane places closing tries m ∷ h) few legal = receives_are_counted_in s h few legal.0
receives_are_counted_in s (Closed lane window m ∷ h) few legal = receives_are_counted_in s h few legal.0
receives_are_counted_in s (Replayed shard places m ∷ h) few legal = receives_are_counted_in s h few legal.0
receives_are_counted_in s (Shut m ∷ h) few legal = receives_are_counted_in s h few legal.0
