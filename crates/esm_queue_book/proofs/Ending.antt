-- What the entries of other seats leave of a queue that is over, and of calls that are spent.
use Rattle.std.proofs.Common.{◌≡◌, ℕ, zero, suc, ◌+◌, ◌<◌, ◌≤◌, Bool, true, false, cond, List, [], ◌∷◌, ◌++◌, refl, sym, ap, ◌∙◌, subst, inl, inr, arith, append-nil, Some, None}
use Rattle.std.specs.Prelude.{◌||◌, slice_get, option_map, unwrap_or}
use Rattle.std.proofs.lemmas.Bool.{cases_Bool, both_ways}
use Rattle.esm_model.specs.declared.item.Message.{Message}
use Rattle.esm_model.specs.declared.entry.Entry.{Entry}
use Rattle.esm_model.specs.declared.entry.Entry.TheVariants.{Came, Began, Ended, Gave, Tried, Closed, Replayed, Shut}
use Rattle.esm_model.specs.declared.setup.Told.{Told}
use Rattle.esm_model.specs.declared.setup.Setup.{Setup}
use Rattle.esm_model.specs.Entries.{holds, is_shut, is_shut_entry, calls_begun}
use Rattle.esm_model.specs.Kept.{IsLegal}
use Rattle.esm_model.specs.Books.{entries_told}
use Rattle.esm_model.specs.GoingOn.{OthersFollow}
use Rattle.esm_queue_model.specs.declared.stored.Stored.{Stored}
use Rattle.esm_queue_model.specs.Queue.{changed_from, received_once, deleted_once}
use Rattle.esm_queue_model.specs.QueueSetting.{QueueSetting, over_messages}
use Rattle.esm_queue_model.specs.QueueEntries.{queue_of, queue_count, is_deleted}
use Rattle.esm_queue_model.specs.QueueStep.{QueueMayFollow, LegalQueue}
use Rattle.esm_queue_model.specs.QueueBooks.{messages_with, messages_told, queue_setting_told, queue_author, queue_may_follow}
use Rattle.esm_queue_book.specs.Left.{QueueFinished, QueueSpent}
use Rattle.esm_queue_book.proofs.Telling.{entries_more, messages-append, may_last}
use Rattle.esm_queue_book.proofs.AfterOthers.{AreLaws, legal_now, lasts}

-- deleted messages

abbrev gone_at : List Stored → ℕ → Bool
gone_at xs i = unwrap_or (option_map (λ (x : Stored). x.deleted) (slice_get xs i)) false

-- a change that leaves deleted messages deleted, whichever it is made of
still_gone : (f : Stored → Stored) → ((x : Stored) → x.deleted ≡ true → (f x).deleted ≡ true) → (places : List ℕ) (k : ℕ) (xs : List Stored) (i : ℕ) → gone_at xs i ≡ true → gone_at (changed_from f places k xs) i ≡ true
still_gone f keeps places k [] i is = is
still_gone f keeps places k (x ∷ xs) zero is = elim (cases_Bool (holds places k)) [
  | inl named ↦ ap (λ (b : Bool). (cond b (f x) x).deleted) named ∙ keeps x is
  | inr other ↦ ap (λ (b : Bool). (cond b (f x) x).deleted) other ∙ is
]
still_gone f keeps places k (x ∷ xs) (suc i) is = still_gone f keeps places (k + 1) xs i is

-- one more entry, after the input's end

-- it is no `Came`
abbrev IsNoArrival : Entry → Type 0
IsNoArrival (Came shard first count m) = ⊥
IsNoArrival _ = Unit {0}

no_arrival : (s : QueueSetting) (h : List Entry) (e : Entry) → QueueMayFollow s h e → is_shut h ≡ true → IsNoArrival e
no_arrival s h (Came shard first count m) may shut = both_ways (is_shut h) may.not_shut shut
no_arrival s h (Began lane places closing m) may shut = tt
no_arrival s h (Ended lane reply m) may shut = tt
no_arrival s h (Gave by shard places f line state m) may shut = tt
no_arrival s h (Tried lane places closing tries m) may shut = tt
no_arrival s h (Closed lane window m) may shut = tt
no_arrival s h (Replayed shard places m) may shut = tt
no_arrival s h (Shut m) may shut = tt

none_with : (messages : List Message) (e : Entry) → IsNoArrival e → messages_with messages e ≡ []
none_with messages (Came shard first count m) none = absurd none
none_with messages (Began lane places closing m) none = refl
none_with messages (Ended lane reply m) none = refl
none_with messages (Gave by shard places f line state m) none = refl
none_with messages (Tried lane places closing tries m) none = refl
none_with messages (Closed lane window m) none = refl
none_with messages (Replayed shard places m) none = refl
none_with messages (Shut m) none = refl

same_number : (h : List Entry) (e : Entry) → IsNoArrival e → queue_count (e ∷ h) ≡ queue_count h
same_number h (Came shard first count m) none = absurd none
same_number h (Began lane places closing m) none = refl
same_number h (Ended lane reply m) none = refl
same_number h (Gave by shard places f line state m) none = refl
same_number h (Tried lane places closing tries m) none = refl
same_number h (Closed lane window m) none = refl
same_number h (Replayed shard places m) none = refl
same_number h (Shut m) none = refl

still_deleted : (s : QueueSetting) (h : List Entry) (e : Entry) (i : ℕ) → IsNoArrival e → is_deleted s h i ≡ true → is_deleted s (e ∷ h) i ≡ true
still_deleted s h (Came shard first count m) i none is = absurd none
still_deleted s h (Began lane places closing m) i none is = still_gone (received_once m) (λ x is. is) places 0 (queue_of s h).messages i is
still_deleted s h (Ended lane reply m) i none is = is
still_deleted s h (Gave by shard places f line state m) i none is = still_gone deleted_once (λ x is. refl) places 0 (queue_of s h).messages i is
still_deleted s h (Tried lane places closing tries m) i none is = is
still_deleted s h (Closed lane window m) i none is = is
still_deleted s h (Replayed shard places m) i none is = is
still_deleted s h (Shut m) i none is = is

or_true : (b : Bool) → (b || true) ≡ true
or_true true = refl
or_true false = refl

still_shut : (h : List Entry) (e : Entry) → is_shut h ≡ true → is_shut (e ∷ h) ≡ true
still_shut h e shut = ap (λ (b : Bool). is_shut_entry e || b) shut ∙ or_true (is_shut_entry e)

-- as it is told

arrived_none : (setup : Setup) (h : List Told) (t : Told) → IsLegal (queue_may_follow setup) (h ++ t ∷ []) → is_shut (entries_told h) ≡ true → IsNoArrival t.entry
arrived_none setup h t kept shut =
    let all : List Message = messages_told (h ++ t ∷ []) in
    no_arrival (over_messages (queue_setting_told setup h) (messages_told (h ++ t ∷ []))) (entries_told h) t.entry ((may_last (queue_may_follow setup) [] h t kept).row all (λ i m at. at)) shut

same_setting : (setup : Setup) (h : List Told) (t : Told) → IsNoArrival t.entry → queue_setting_told setup (h ++ t ∷ []) ≡ queue_setting_told setup h
same_setting setup h t none =
    ap (over_messages (queue_setting_told setup h))
    (messages-append h (t ∷ [])
    ∙ (ap (λ (ms : List Message). messages_told h ++ (ms ++ [])) (none_with t.messages t.entry none)
    ∙ append-nil (messages_told h)))

finished_more : (setup : Setup) (k : ℕ) (h : List Told) (t : Told) → IsLegal (queue_may_follow setup) (h ++ t ∷ []) → QueueFinished setup h k → QueueFinished setup (h ++ t ∷ []) k
finished_more setup k h t kept over =
    let none : IsNoArrival t.entry = arrived_none setup h t kept over.shut in
    let s : QueueSetting = queue_setting_told setup h in
    let more : entries_told (h ++ t ∷ []) ≡ t.entry ∷ entries_told h = entries_more h t in
    record {
      shut = ap is_shut more ∙ still_shut (entries_told h) t.entry over.shut;
      deleted = λ i came.
          let low : i < queue_count (entries_told h) = subst (λ (n : ℕ). i < n) (ap queue_count more ∙ same_number (entries_told h) t.entry none) came in
          ap (λ (r : QueueSetting). is_deleted r (entries_told (h ++ t ∷ [])) i) (same_setting setup h t none)
          ∙ (ap (λ (es : List Entry). is_deleted s es i) more
          ∙ still_deleted s (entries_told h) t.entry i none (over.deleted i low));
    }

-- calls

pub begun_within : (s : QueueSetting) (h : List Entry) → LegalQueue s h → calls_begun h ≤ s.calls
begun_within s [] legal = omega arith
begun_within s (Began lane places None m ∷ h) legal = (let left : calls_begun h < s.calls = legal.1.1.calls_left in omega (arith, left))
begun_within s (Began lane places (Some window) m ∷ h) legal = absurd legal.1.1
begun_within s (Came shard first count m ∷ h) legal = begun_within s h legal.0
begun_within s (Ended lane reply m ∷ h) legal = begun_within s h legal.0
begun_within s (Gave by shard places f line state m ∷ h) legal = begun_within s h legal.0
begun_within s (Tried lane places closing tries m ∷ h) legal = begun_within s h legal.0
begun_within s (Closed lane window m ∷ h) legal = begun_within s h legal.0
begun_within s (Replayed shard places m ∷ h) legal = begun_within s h legal.0
begun_within s (Shut m ∷ h) legal = begun_within s h legal.0

begun_more : (h : List Entry) (e : Entry) → calls_begun h ≤ calls_begun (e ∷ h)
begun_more h (Began lane places closing m) = omega arith
begun_more h (Came shard first count m) = omega arith
begun_more h (Ended lane reply m) = omega arith
begun_more h (Gave by shard places f line state m) = omega arith
begun_more h (Tried lane places closing tries m) = omega arith
begun_more h (Closed lane window m) = omega arith
begun_more h (Replayed shard places m) = omega arith
begun_more h (Shut m) = omega arith

spent_more : AreLaws → (setup : Setup) (h : List Told) (t : Told) → IsLegal (queue_may_follow setup) (h ++ t ∷ []) → QueueSpent setup h → QueueSpent setup (h ++ t ∷ [])
spent_more laws setup h t kept spent =
    let most : calls_begun (entries_told (h ++ t ∷ [])) ≤ setup.calls = begun_within (queue_setting_told setup (h ++ t ∷ [])) (entries_told (h ++ t ∷ [])) (legal_now laws setup (h ++ t ∷ []) kept) in
    let least : calls_begun (entries_told h) ≤ calls_begun (entries_told (h ++ t ∷ [])) = subst (λ (es : List Entry). calls_begun (entries_told h) ≤ calls_begun es) (sym (entries_more h t)) (begun_more (entries_told h) t.entry) in
    omega (arith, most, least, spent)

-- all that follow

pub finished_last : (s : Setup) (h es : List Told) (k : ℕ) → OthersFollow queue_author queue_may_follow s (k + 1) h es → QueueFinished s h k → QueueFinished s (h ++ es) k
finished_last s h es k follow over = lasts (λ (g : List Told). QueueFinished s g k) s (k + 1) (λ g t kept ne is. finished_more s k g t kept is) h es follow over

pub spent_last : AreLaws → (s : Setup) (h es : List Told) (n : ℕ) → OthersFollow queue_author queue_may_follow s n h es → QueueSpent s h → QueueSpent s (h ++ es)
spent_last laws s h es n follow spent = lasts (λ (g : List Told). QueueSpent s g) s n (λ g t kept ne is. spent_more laws s g t kept is) h es follow spent
