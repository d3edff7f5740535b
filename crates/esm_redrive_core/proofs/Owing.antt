-- The places of messages that come, and what a decision owes.
use Rattle.std.proofs.Common.{◌≡◌, ℕ, ◌+◌, ◌<◌, ◌≤◌, ◌^◌, Bool, true, List, [], ◌∷◌, ◌++◌, length, reverse, refl, sym, ap, ap₂, ◌∙◌, subst, inl, inr, arith, Option, Some, None}
use Rattle.std.specs.List.{All, cons_option}
use Rattle.std.proofs.lemmas.List.{length-append, reverse-append}
use Rattle.std.proofs.lemmas.List.Elements.{All-nil, All-cons, All-append}
use Rattle.std.proofs.lemmas.Bool.{cases_Bool}
use Rattle.esm_model.specs.declared.limits.TheConstants.{MAX_BATCH, MAX_PAYLOAD}
use Rattle.esm_model.specs.declared.moment.TheConstants.{MAX_MOMENT}
use Rattle.esm_model.specs.declared.config.Kind.{Kind}
use Rattle.esm_model.specs.declared.item.Message.{Message}
use Rattle.esm_model.specs.declared.entry.Fate.{Fate}
use Rattle.esm_model.specs.declared.lane.LaneId.{LaneId}
use Rattle.esm_model.specs.declared.entry.Entry.{Entry}
use Rattle.esm_model.specs.declared.entry.Entry.TheVariants as entry
use Rattle.esm_model.specs.ValidMessage.{IsValidMessage}
use Rattle.esm_journal_record.specs.declared.said.Said.TheVariants.{Deleted}
use Rattle.esm_journal_record.specs.Payload.{payload_of, is_deletion}
use Rattle.esm_journal_record.specs.EntryPayload.{ids_at}
use Rattle.esm_queue_model.specs.QueueSetting.{ExtendsMessages, over_messages}
use Rattle.esm_model.specs.Entries.{last_call, batch_of}
use Rattle.esm_queue_model.specs.Queue.{QueueState, stored_at}
use Rattle.esm_queue_model.specs.QueueEntries.{queue_lane}
use Rattle.esm_queue_core.specs.Next.{deleted_number, IsValidStored}
use Rattle.esm_book.specs.Decided.{written_of}
use Rattle.esm_queue_core.specs.declared.owed.First.{First}
use Rattle.esm_queue_core.specs.Coming.{gave_entries}
use Rattle.esm_queue_core.specs.Kept.{IsRisingFrom, MayBeGiven, messages_stored}
use Rattle.esm_queue_core.proofs.Named.{rising_lower, may_be_given, deletion_short}
use Rattle.esm_redrive.specs.declared.limited.TheConstants.{MAX_RECEIVES}
use Rattle.esm_redrive.specs.Limited.{Limited}
use Rattle.esm_redrive.specs.ReadsBack.{IsUtf8Message}
use Rattle.esm_redrive_core.specs.declared.owed.Gift.{Gift}
use Rattle.esm_redrive_core.specs.Coming.{places_from}
use Rattle.esm_redrive_core.specs.RedriveView.{RedriveView, owing, forgotten}
use Rattle.esm_redrive_core.specs.Kept.{Parts, IsKept, IsBatch, IsGiftOf, IsCovered, CanAddFirst, own, seen_of, HaveLineFirst, gift_line, gift_entry, gift_entries, owed_entries, cost}
use Rattle.esm_redrive_core.proofs.Keeping.{own_valid, own_texts}

-- places of messages that come

rising_places : (test : ℕ → Message → Bool) (k : ℕ) (xs : List Message) → IsRisingFrom k (places_from test k xs)
rising_places test k [] = tt
rising_places test k (x ∷ xs) =
    elim (cases_Bool (test k x)) [
      | inl is ↦ rw is (omega arith, rising_places test (k + 1) xs)
      | inr fails ↦ rw fails (rising_lower k (k + 1) (places_from test (k + 1) xs) (omega arith) (rising_places test (k + 1) xs))
    ]

few_places : (test : ℕ → Message → Bool) (k : ℕ) (xs : List Message) → length (places_from test k xs) ≤ length xs
few_places test k [] = omega arith
few_places test k (x ∷ xs) =
    let rest = few_places test (k + 1) xs in
    elim (cases_Bool (test k x)) [ inl is ↦ rw is (omega (arith, rest)) | inr fails ↦ rw fails (omega (arith, rest)) ]

within_places : (test : ℕ → Message → Bool) (k : ℕ) (xs : List Message) (n : ℕ) → k + length xs ≤ n → All (λ i. i < n) (places_from test k xs)
within_places test k [] n le = All-nil (λ i. i < n)
within_places test k (x ∷ xs) n le =
    let low : k < n = omega (arith, le) in
    let rest = within_places test (k + 1) xs n (omega (arith, le)) in
    elim (cases_Bool (test k x)) [ inl is ↦ rw is (All-cons (λ i. i < n) k (places_from test (k + 1) xs) low rest) | inr fails ↦ rw fails rest ]

-- they may be told as deleted
pub places_given : (kind : Kind) (test : ℕ → Message → Bool) (old xs : List Message) (places : List ℕ) (fate : Fate) (k m : ℕ) → All (IsValidMessage kind) (old ++ xs) → length (old ++ xs) < 2 ^ 32 → length xs ≤ MAX_BATCH → is_deletion fate ≡ true → m ≤ MAX_MOMENT → k ≡ length old → places ≡ places_from test k xs → MayBeGiven (old ++ xs) places fate m
places_given kind test old xs places fate k m valid few short deletes within at is =
    let start : places ≡ places_from test (length old) xs = is ∙ ap (λ (n : ℕ). places_from test n xs) at in
    let fewer = few_places test (length old) xs in
    subst (λ (ps : List ℕ). MayBeGiven (old ++ xs) ps fate m) (sym start)
    (may_be_given kind (old ++ xs) (places_from test (length old) xs) fate m valid few
    (within_places test (length old) xs (length (old ++ xs)) (let n = length-append old xs in omega (arith, n)))
    (rising_lower 0 (length old) (places_from test (length old) xs) (omega arith) (rising_places test (length old) xs)) (omega (arith, fewer, short)) deletes within)

-- nothing is owed

pub owed_none : (first : Option First) (gifts : List Gift) → owed_entries first gifts ≡ [] → (first ≡ None) × (gifts ≡ [])
owed_none None [] is = (refl, refl)
owed_none None (g ∷ gifts) is = absurd (cc)
owed_none (Some f) gifts is = absurd (cc)

-- a decision owes this, with room that was made

abbrev pub deciding : Parts → Limited → ℕ → List Message → Option First → List Gift → Parts
deciding p q capacity coming first gifts = record p { limited = q; capacity = capacity; coming = coming; first = first; gifts = gifts }

-- what it needs
pub record Decides (p : Parts) (q : Limited) (capacity : ℕ) (coming : List Message) (first : Option First) (gifts : List Gift) : Type 0 where
  pub same : q.state ≡ p.limited.state
  pub limit : q.max_receives ≡ p.limited.max_receives
  pub valid : All (IsValidMessage p.config.kind) coming
  pub texts : All IsUtf8Message coming
  pub few : length (messages_stored p.limited.state ++ coming) < 2 ^ 32
  pub room : p.number + cost first gifts p.running p.shut ≤ capacity
  pub short : p.number + cost first gifts p.running p.shut ≤ 2 ^ 40
  pub can : CanAddFirst q coming first
  pub given : All (IsGiftOf (messages_stored p.limited.state ++ coming)) gifts
  pub lines : HaveLineFirst gifts

pub kept_decided : (p : Parts) (q : Limited) (capacity : ℕ) (coming : List Message) (first : Option First) (gifts : List Gift) → IsKept p → Decides p q capacity coming first gifts → IsKept (deciding p q capacity coming first gifts)
kept_decided p q capacity coming first gifts k d =
    let back = sym d.same in
    record {
      config = k.config;
      criteria = k.criteria;
      valid = subst (λ (r : QueueState). All (IsValidMessage p.config.kind) (messages_stored r ++ coming)) back (All-append (IsValidMessage p.config.kind) (messages_stored p.limited.state) coming (own_valid p k) d.valid);
      texts = subst (λ (r : QueueState). All IsUtf8Message (messages_stored r ++ coming)) back (All-append IsUtf8Message (messages_stored p.limited.state) coming (own_texts p k) d.texts);
      few = subst (λ (r : QueueState). length (messages_stored r ++ coming) < 2 ^ 32) back d.few;
      queue = λ messages goes. d.same ∙ k.queue messages (subst (λ (r : QueueState). ExtendsMessages (messages_stored r) messages) d.same goes);
      stored = subst (λ (r : QueueState). All (IsValidStored p.config.kind) r.messages) back k.stored;
      count = ap (λ (r : QueueState). length r.messages) d.same ∙ k.count;
      arrivals = λ i x at. k.arrivals i x (ap (λ (r : QueueState). stored_at r i) back ∙ at);
      covered = subst (λ (r : QueueState). All (IsCovered (length r.messages)) p.past) back k.covered;
      last = k.last;
      in_time = k.in_time;
      shut = k.shut;
      begun = k.begun;
      deleted = k.deleted ∙ ap deleted_number back;
      running = k.running;
      batch = subst (λ (r : QueueState). IsBatch (length r.messages) (batch_of (last_call p.past (queue_lane 0)))) back k.batch;
      room = d.room;
      short = d.short;
      some_receives = subst (λ (n : ℕ). 1 ≤ n) (sym d.limit) k.some_receives;
      few_receives = subst (λ (n : ℕ). n ≤ MAX_RECEIVES) (sym d.limit) k.few_receives;
      first = d.can;
      gifts = subst (λ (r : QueueState). All (IsGiftOf (messages_stored r ++ coming)) gifts) back d.given;
      lines = d.lines;
    }

-- and is seen so
pub seen_decided : (p : Parts) (q : Limited) (capacity : ℕ) (coming : List Message) (first : Option First) (gifts : List Gift) (es : List Entry) → q.state ≡ p.limited.state → q.max_receives ≡ p.limited.max_receives → owed_entries first gifts ≡ es → seen_of (deciding p q capacity coming first gifts) ≡ owing (seen_of p) coming es
seen_decided p q capacity coming first gifts es same limit is =
    ap₂ (λ (st : QueueState) (n : ℕ). record { setting = record { queue = over_messages (own p) (messages_stored st); max_receives = n; dead_ids = p.dead }; past = p.past; coming = coming; owed = owed_entries first gifts }) same limit
    ∙ ap (λ (owed : List Entry). owing (seen_of p) coming owed) is

-- where nothing was owed, forgetting leads back
pub undone : (v : RedriveView) (coming : List Message) (es : List Entry) → v.coming ≡ [] → v.owed ≡ [] → forgotten (owing v coming es) ≡ v
undone v coming es none nothing = ap₂ (λ (ms : List Message) (owed : List Entry). record { setting = v.setting; past = v.past; coming = ms; owed = owed }) (sym none) (sym nothing)

-- a deletion with its payload
pub gift_from : (messages : List Message) (ps : List ℕ) (gift : Gift) → MayBeGiven messages ps gift.fate gift.moment → 1 ≤ length ps → gift.places ≡ ps → gift.payload.items ≡ payload_of (Deleted gift.fate gift.moment ps (ids_at messages ps)) → IsGiftOf messages gift
gift_from messages ps gift may some places_are payload_is = record {
  within = subst (All (λ i. i < length messages)) (sym places_are) may.within;
  payload = ap (λ (xs : List ℕ). Some (payload_of (Deleted gift.fate gift.moment xs (ids_at messages xs)))) places_are ∙ ap Some (sym payload_is);
  short = subst (λ (bytes : List ℕ). length bytes ≤ MAX_PAYLOAD) (sym payload_is) (deletion_short gift.fate gift.moment ps (ids_at messages ps) (may.said some) may.few);
  in_time = may.in_time;
}

-- deletions that are put before those that are owed

pub before_owed : (gifts : List Gift) (gift : Gift) (new : List Gift) → new ≡ gifts ++ gift ∷ [] → reverse new ≡ gift ∷ reverse gifts
before_owed gifts gift new is = ap reverse is ∙ reverse-append gifts (gift ∷ [])

pub owed_before : (gifts new : List Gift) (gift : Gift) (by : Option LaneId) (places : List ℕ) (fate : Fate) (m : ℕ) → new ≡ gifts ++ gift ∷ [] → 1 ≤ length places → gift_entry gift ≡ entry.Gave by 0 places fate None None m → gift_entries (reverse new) ≡ gave_entries by places fate m ++ gift_entries (reverse gifts)
owed_before gifts new gift by places fate m is some given =
    ap gift_entries (before_owed gifts gift new is)
    ∙ (ap (λ (e : Entry). e ∷ gift_entries (reverse gifts)) given ∙ some_gave by places fate m (gift_entries (reverse gifts)) some)
  where
    some_gave : (by : Option LaneId) (places : List ℕ) (fate : Fate) (m : ℕ) (es : List Entry) → 1 ≤ length places → entry.Gave by 0 places fate None None m ∷ es ≡ gave_entries by places fate m ++ es
    some_gave by [] fate m es some = absurd (omega (arith, some))
    some_gave by (i ∷ places) fate m es some = refl

pub all_before : (messages : List Message) (gifts new : List Gift) (gift : Gift) → new ≡ gifts ++ gift ∷ [] → IsGiftOf messages gift → All (IsGiftOf messages) (reverse gifts) → All (IsGiftOf messages) (reverse new)
all_before messages gifts new gift is one all = subst (All (IsGiftOf messages)) (sym (before_owed gifts gift new is)) (All-cons (IsGiftOf messages) gift (reverse gifts) one all)

pub lines_before : (gifts new : List Gift) (gift : Gift) → new ≡ gifts ++ gift ∷ [] → gift_line gift ≡ None → written_of gift_line (reverse new) ≡ written_of gift_line (reverse gifts)
lines_before gifts new gift is none =
    ap (λ (gs : List Gift). written_of gift_line gs) (before_owed gifts gift new is)
    ∙ ap (λ (o : Option (List ℕ)). cons_option o (written_of gift_line (reverse gifts))) none

pub nothing_gave : (by : Option LaneId) (places : List ℕ) (fate : Fate) (m : ℕ) (es : List Entry) → length places ≡ 0 → es ≡ gave_entries by places fate m ++ es
nothing_gave by [] fate m es none = refl
nothing_gave by (i ∷ places) fate m es none = absurd (omega (arith, none))
