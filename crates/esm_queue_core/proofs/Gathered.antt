-- The messages that are gathered for a call are those that its event has, and their bytes are counted.
use Rattle.std.proofs.Common.{◌≡◌, ℕ, ◌+◌, ◌<◌, ◌≤◌, true, false, List, [], ◌∷◌, ◌++◌, length, length-append, get_or, take, min, sum_by, refl, sym, ap, ap₂, ◌∙◌, subst, inl, inr, arith, Option, Some, None}
use Rattle.std.specs.Prelude.{All, IfSome, option_map, unwrap_or}
use Rattle.std.specs.List.{cons_option}
use Rattle.std.specs.Option.{option_or}
use Rattle.std.proofs.lemmas.List.{length-take-le, take_more}
use Rattle.std.proofs.lemmas.List.Sums.{sum_by-append}
use Rattle.std.proofs.lemmas.List.Elements.{All-nil, All-cons, filter_map-append}
use Rattle.std.proofs.lemmas.Option.{none-some, same_Some, slice_get_cases}
use Rattle.std.proofs.lemmas.Bool.{and_from, and_left, and_right, le-leb, lt-leb}
use Rattle.esm_model.specs.declared.limits.TheConstants.{MAX_EVENT}
use Rattle.esm_model.specs.declared.moment.TheConstants.{MAX_MOMENT}
use Rattle.esm_model.specs.declared.config.Config.{Config}
use Rattle.esm_model.specs.declared.config.Kind.{Kind}
use Rattle.esm_model.specs.declared.item.Message.{Message}
use Rattle.esm_model.specs.declared.received.Received.{Received}
use Rattle.esm_model.specs.QueueEvent.{IsValidReceived, queue_record_text, queue_event_text}
use Rattle.esm_queue_model.specs.declared.stored.Stored.{Stored}
use Rattle.esm_queue_model.specs.declared.stored.TheConstants.{MAX_COUNT}
use Rattle.esm_queue_model.specs.Queue.{QueueState, stored_at, count_at, first_of, first_at, seen_at, received_once}
use Rattle.esm_event.proofs.QueueLengths.{empty_length, event_length}
use Rattle.esm_queue.proofs.Changing.{seen_after}
use Rattle.esm_queue_core.specs.Next.{IsValidStored}
use Rattle.esm_queue_core.specs.Choosing.{received_at, received, event_in, fits_in}

-- one message

same_first : (first : Option ℕ) (m : ℕ) → unwrap_or (option_or first (Some m)) 0 ≡ unwrap_or first m
same_first None m = refl
same_first (Some n) m = refl

-- what is told of a message one by one is what its receiver sees
pub received_is : (m : ℕ) (q : QueueState) (i : ℕ) (message copy : Message) (count first : ℕ) → Some message ≡ option_map (λ (x : Stored). x.message) (stored_at q i) → copy ≡ message → count ≡ min (count_at q i + 1) MAX_COUNT → first ≡ unwrap_or (first_at q i) m → received_at m q i ≡ Some (record { message = copy; place = i; count = count; first = first })
received_is m q i message copy count first there same counted begun = told (stored_at q i) refl
  where
    told : (o : Option Stored) → stored_at q i ≡ o → received_at m q i ≡ Some (record { message = copy; place = i; count = count; first = first })
    told None is = absurd (none-some message (sym (there ∙ ap (λ (p : Option Stored). option_map (λ (x : Stored). x.message) p) is)))
    told (Some x) is =
        let message_is : copy ≡ x.message = same ∙ same_Some message x.message (there ∙ ap (λ (p : Option Stored). option_map (λ (x : Stored). x.message) p) is) in
        let count_is : count ≡ min (x.count + 1) MAX_COUNT = counted ∙ ap (λ (p : Option Stored). min (unwrap_or (option_map (λ (x : Stored). x.count) p) 0 + 1) MAX_COUNT) is in
        let first_is : first ≡ unwrap_or (option_or x.first (Some m)) 0 = begun ∙ (ap (λ (p : Option Stored). unwrap_or (first_of p) m) is ∙ sym (same_first x.first m)) in
        let one : record { message = copy; place = i; count = count; first = first } ≡ seen_at i (received_once m x) =
        ap (λ (y : Message). record { message = y; place = i; count = count; first = first }) message_is
        ∙ ap₂ (λ (n f : ℕ). record { message = x.message; place = i; count = n; first = f }) count_is first_is in
        ap (λ (p : Option Stored). option_map (λ (x : Stored). seen_at i (received_once m x)) p) is ∙ ap Some (sym one)

early : (first : Option ℕ) (m : ℕ) → m ≤ MAX_MOMENT → IfSome first (λ n. n ≤ MAX_MOMENT) → unwrap_or (option_or first (Some m)) 0 ≤ MAX_MOMENT
early None m low before = low
early (Some n) m low before = before

-- a message that is received may be in an event
pub received_valid : (kind : Kind) (m : ℕ) (q : QueueState) (i : ℕ) (r : Received) → m ≤ MAX_MOMENT → All (IsValidStored kind) q.messages → received_at m q i ≡ Some r → IsValidReceived kind r
received_valid kind m q i r low stored at = elim (slice_get_cases q.messages i).1 [
  | inl found ↦
      (let x = found.0 in
      let within = found.1 in
      let here : received_at m q i ≡ Some (seen_at i (received_once m x)) = ap (λ (p : Option Stored). option_map (λ (x : Stored). seen_at i (received_once m x)) p) found.2 in
      let is : seen_at i (received_once m x) ≡ r = same_Some (seen_at i (received_once m x)) r (sym here ∙ at) in
      let valid : IsValidStored kind x = subst (IsValidStored kind) found.3 (stored i x within) in
      subst (IsValidReceived kind) is (record { message = valid.message; first = early x.first m low valid.first }))
  | inr past ↦ absurd (none-some r (sym (ap (λ (p : Option Stored). option_map (λ (x : Stored). seen_at i (received_once m x)) p) past.1) ∙ at))
]

valid_with : (kind : Kind) (o : Option Received) (rest : List Received) → ((r : Received) → o ≡ Some r → IsValidReceived kind r) → All (IsValidReceived kind) rest → All (IsValidReceived kind) (cons_option o rest)
valid_with kind None rest valid all = all
valid_with kind (Some r) rest valid all = All-cons (IsValidReceived kind) r rest (valid r refl) all

pub all_valid : (kind : Kind) (m : ℕ) (q : QueueState) (places : List ℕ) → m ≤ MAX_MOMENT → All (IsValidStored kind) q.messages → All (IsValidReceived kind) (received m q places)
all_valid kind m q [] low stored = All-nil (IsValidReceived kind)
all_valid kind m q (i ∷ places) low stored =
    valid_with kind (received_at m q i) (received m q places) (λ r at. received_valid kind m q i r low stored at) (all_valid kind m q places low stored)

-- one more of the places

pub received_more : (m : ℕ) (q : QueueState) (xs : List ℕ) (i : ℕ) (r : Received) → i < length xs → received_at m q (get_or xs i 0) ≡ Some r → received m q (take (i + 1) xs) ≡ received m q (take i xs) ++ r ∷ []
received_more m q xs i r h at =
    let one : received m q (get_or xs i 0 ∷ []) ≡ r ∷ [] = ap (λ (o : Option Received). cons_option o []) at in
    ap (received m q) (take_more xs i 0 h) ∙ (filter_map-append (received_at m q) (take i xs) (get_or xs i 0 ∷ []) ∙ ap (λ rs. received m q (take i xs) ++ rs) one)

-- bytes

abbrev pub message_bytes : Config → List Received → ℕ
message_bytes c rs = sum_by (λ (r : Received). length (queue_record_text c r)) rs

pub bytes_more : (c : Config) (rs : List Received) (r : Received) → message_bytes c (rs ++ r ∷ []) ≡ message_bytes c rs + length (queue_record_text c r)
bytes_more c rs r = let s = sum_by-append (λ (x : Received). length (queue_record_text c x)) rs (r ∷ []) in omega (arith, s)

event_more : (c : Config) (rs : List Received) (r : Received) → length (queue_event_text c (rs ++ r ∷ [])) ≡ 14 + (message_bytes c rs + length (queue_record_text c r)) + length rs
event_more c rs r =
    let e = event_length c (rs ++ r ∷ []) in
    let empty = empty_length c in
    let s = bytes_more c rs r in
    let l = length-append rs (r ∷ []) in
    omega (arith, e, empty, s, l)

-- the event of a call shows its messages as they are gathered
pub event_is : (c : Config) (q : QueueState) (m : ℕ) (places : List ℕ) → queue_event_text c (received m q places) ≡ event_in c q m places
event_is c q m places = ap (queue_event_text c) (seen_after m q.messages places places (λ i h. h))

module _ (c : Config) (q : QueueState) (m : ℕ) (xs : List ℕ) (i : ℕ) (h : i < length xs) where
  taken : length (take (i + 1) xs) ≡ i + 1
  taken = length-take-le (i + 1) xs (omega arith)

  -- the batch has its size
  pub fits_not_count : c.batch_size ≤ i → fits_in c q m (take (i + 1) xs) ≡ false
  fits_not_count full = and_left _ _ (let n = taken in lt-leb (length (take (i + 1) xs)) c.batch_size (omega (arith, n)))

  module _ (r : Received) (at : received_at m q (get_or xs i 0) ≡ Some r) (rs : List Received) (so_far : rs ≡ received m q (take i xs)) (count : length rs ≡ i) where
    event_at : length (event_in c q m (take (i + 1) xs)) ≡ 14 + (message_bytes c rs + length (queue_record_text c r)) + i
    event_at =
        let more : received m q (take (i + 1) xs) ≡ rs ++ r ∷ [] = received_more m q xs i r h at ∙ ap (λ ys. ys ++ r ∷ []) (sym so_far) in
        ap length (sym (event_is c q m (take (i + 1) xs))) ∙ (ap (λ ys. length (queue_event_text c ys)) more ∙ (event_more c rs r ∙ ap (λ k. 14 + (message_bytes c rs + length (queue_record_text c r)) + k) count))

    -- one more message makes the event too long
    pub fits_not_bytes : MAX_EVENT < 14 + (message_bytes c rs + length (queue_record_text c r)) + i → fits_in c q m (take (i + 1) xs) ≡ false
    fits_not_bytes big = and_right _ _ (lt-leb (length (event_in c q m (take (i + 1) xs))) MAX_EVENT (subst (λ k. MAX_EVENT < k) (sym event_at) big))

    -- it finds room
    pub fits_yes : i < c.batch_size → 14 + (message_bytes c rs + length (queue_record_text c r)) + i ≤ MAX_EVENT → fits_in c q m (take (i + 1) xs) ≡ true
    fits_yes few small =
        and_from _ _ (let n = taken in le-leb (length (take (i + 1) xs)) c.batch_size (omega (arith, n, few)))
        (le-leb (length (event_in c q m (take (i + 1) xs))) MAX_EVENT (subst (λ k. k ≤ MAX_EVENT) (sym event_at) small))
