-- What is promised of the core of a redrive after each decision.
use Rattle.std.proofs.Common.{◌≡◌, ℕ, ◌+◌, ◌<◌, ◌≤◌, ◌^◌, Bool, true, false, cond, List, [], ◌∷◌, ◌++◌, length, max, min, reverse, refl, sym, ap, ap₂, ◌∙◌, subst, arith, Option, Some, None}
use Rattle.std.specs.Prelude.{filter, slice_get, option_map, not, nat_le}
use Rattle.std.proofs.lemmas.Bool.{and_parts, leb-true}
use Rattle.std.specs.List.{All}
use Rattle.std.proofs.lemmas.List.{append-nil, length-append, length-map}
use Rattle.std.proofs.lemmas.List.Elements.{All-nil, All-cons}
use Rattle.esm_model.specs.declared.limits.TheConstants.{MAX_BATCH, MAX_EVENT, MAX_LINE}
use Rattle.esm_model.specs.declared.moment.TheConstants.{MAX_MOMENT}
use Rattle.esm_model.specs.declared.item.Message.{Message}
use Rattle.esm_model.specs.declared.book.Job.{Job}
use Rattle.esm_model.specs.declared.book.Next.{Next}
use Rattle.esm_model.specs.declared.book.Next.TheVariants as next
use Rattle.esm_model.specs.declared.lane.LaneId.{LaneId}
use Rattle.esm_model.specs.declared.entry.Fate.TheVariants.{Succeeded, Exhausted}
use Rattle.esm_model.specs.declared.entry.Reply.{Reply}
use Rattle.esm_model.specs.declared.entry.Entry.{Entry}
use Rattle.esm_model.specs.declared.entry.Entry.TheVariants as entry
use Rattle.esm_model.specs.declared.verdict.QueueReading.{QueueReading}
use Rattle.esm_model.specs.Moment.{moment_after, capped_moment}
use Rattle.esm_model.specs.Entries.{last_call, batch_of}
use Rattle.esm_model.specs.QueueReading.{queue_reading}
use Rattle.esm_model.specs.ValidMessage.{IsValidMessage}
use Rattle.esm_book.specs.Decided.{written_of, IsLineWithin}
use Rattle.esm_journal_record.specs.EntryPayload.{ids_at}
use Rattle.esm_queue_model.specs.declared.stored.Stored.{Stored}
use Rattle.esm_queue_model.specs.Queue.{QueueState, receivable, is_deleted_at}
use Rattle.esm_queue_model.specs.QueueSetting as settings
use Rattle.esm_queue_model.specs.QueueSetting.{QueueSetting}
use Rattle.esm_queue_model.specs.QueueEntries.{queue_lane, queue_of, is_deleted}
use Rattle.esm_queue_model.specs.QueueBatch.{queue_event, queue_fits, queue_batch, eligible_after}
use Rattle.esm_queue_model.specs.QueueStep.{succeeded_by}
use Rattle.esm_queue_core.specs.declared.next.Counts.{Counts}
use Rattle.esm_queue_core.specs.declared.owed.First.{First}
use Rattle.esm_queue_core.specs.declared.owed.First.TheVariants.{Came, Ended}
use Rattle.esm_queue_core.specs.CoreView.{moment_for}
use Rattle.esm_queue_core.specs.Coming.{gave_entries}
use Rattle.esm_queue_core.specs.Next.{IsToldBy, next_for, next_entries}
use Rattle.esm_queue_core.specs.Kept.{MayBeGiven, IsBegunBy, IsRisingFrom, messages_stored}
use Rattle.esm_queue_core.proofs.Named.{longest_few, may_be_given, rising-filter, rising-succeeded, few-succeeded, few-filter, ids_long}
use Rattle.esm_queue_core.proofs.Beginning.{called_by, batch_receivable}
use Rattle.esm_queue_core.proofs.Giving.{all_in}
use Rattle.esm_queue_core.proofs.Choosing.{queue_size}
use Rattle.esm_queue_core.proofs.Settling.{ended_is, In-succeeded}
use Rattle.esm_queue_model.proofs.Places.{In-filter}
use Rattle.esm_redrive_core.specs.Sound.{ended_places}
use Rattle.esm_redrive_model.specs.DeadLetter.{dead_letter}
use Rattle.esm_redrive.specs.Limited.{Limited, due_in}
use Rattle.esm_redrive.specs.ReadsBack.{IsUtf8Message}
use Rattle.esm_redrive_core.specs.declared.owed.Gift.{Gift}
use Rattle.esm_redrive_core.specs.RedriveView.{RedriveView, IsRunningJob, owing}
use Rattle.esm_redrive_core.specs.Ready.{IsReadyFor}
use Rattle.esm_redrive_core.specs.Adding.{moved_entry, ended_entries}
use Rattle.esm_redrive_core.specs.Kept.{Parts, IsKept, IsGiftOf, CanAddFirst, CanBegin, own, setting_of, seen_of, gift_line, gift_entry, gift_entries, owed_entries, cost, first_cost}
use Rattle.esm_redrive_core.proofs.Keeping.{within_of, none_coming, own_valid, goes_itself, cost_low}
use Rattle.esm_redrive_core.proofs.Owing.{Decides, deciding, owed_none, kept_decided, seen_decided}
use Rattle.esm_redrive_core.proofs.Lines.{one_line_first, no_lines_first, first_of}

-- the parts after it, the entries of whose history stand so, oldest first
abbrev pub left_with : Parts → Limited → ℕ → List Entry → List Message → Option First → List Gift → Parts
left_with p q capacity items coming first gifts = record p { limited = q; capacity = capacity; past = reverse items; number = length items; coming = coming; first = first; gifts = gifts }

pub record IsDecided (q : Parts) (v : RedriveView) (coming : List Message) (es : List Entry) : Type 0 where
  pub kept : IsKept q
  pub owes : seen_of q ≡ owing v coming es

left_is : (p : Parts) (q : Limited) (capacity : ℕ) (old new : List Entry) (coming : List Message) (first : Option First) (gifts : List Gift) → p.past ≡ reverse old → p.number ≡ length old → new ≡ old → left_with p q capacity new coming first gifts ≡ deciding p q capacity coming first gifts
left_is p q capacity old new coming first gifts past_is number_is same =
    ap (λ (items : List Entry). left_with p q capacity items coming first gifts) same
    ∙ ap₂ (λ (h : List Entry) (n : ℕ). record p { limited = q; capacity = capacity; past = h; number = n; coming = coming; first = first; gifts = gifts }) (sym past_is) (sym number_is)

pub is_decided : (p : Parts) (v : RedriveView) (q : Limited) (capacity : ℕ) (old new : List Entry) (coming : List Message) (first : Option First) (gifts : List Gift) (es : List Entry) → IsKept p → seen_of p ≡ v → Decides p q capacity coming first gifts → owed_entries first gifts ≡ es
    → p.past ≡ reverse old → p.number ≡ length old → new ≡ old → IsDecided (left_with p q capacity new coming first gifts) v coming es
is_decided p v q capacity old new coming first gifts es k seen d owed past_is number_is same =
    let is = left_is p q capacity old new coming first gifts past_is number_is same in
    subst (λ (r : Parts). IsDecided r v coming es) (sym is) (record {
      kept = kept_decided p q capacity coming first gifts k d;
      owes = seen_decided p q capacity coming first gifts es d.same d.limit owed ∙ ap (λ (w : RedriveView). owing w coming es) seen;
    })

-- as its fields stand
pub decided_so : (p : Parts) (v : RedriveView) (q : Limited) (capacity : ℕ) (new : List Entry) (coming coming' : List Message) (first first' : Option First) (gifts gifts' : List Gift) (es : List Entry) → coming' ≡ coming → first' ≡ first → gifts' ≡ gifts
    → IsDecided (left_with p q capacity new coming first gifts) v coming es → IsDecided (left_with p q capacity new coming' first' gifts') v coming es
decided_so p v q capacity new coming coming' first first' gifts gifts' es coming_is first_is gifts_are d =
    subst (λ (ms : List Message). IsDecided (left_with p q capacity new ms first' gifts') v coming es) (sym coming_is)
    (subst (λ (f : Option First). IsDecided (left_with p q capacity new coming f gifts') v coming es) (sym first_is)
    (subst (λ (gs : List Gift). IsDecided (left_with p q capacity new coming first gs) v coming es) (sym gifts_are) d))

-- room

flag_low : (b : Bool) → cond b 1 0 ≤ 1
flag_low true = omega arith
flag_low false = omega arith

open_low : (b : Bool) → cond b 0 1 ≤ 1
open_low true = omega arith
open_low false = omega arith

pub cost_few : (p : Parts) (first : Option First) (gifts : List Gift) (room : ℕ) → first_cost first + length gifts ≤ 3 → p.number + 5 ≤ room → p.number + cost first gifts p.running p.shut ≤ room
cost_few p first gifts room low le =
    let runs = flag_low p.running in
    let ends = open_low p.shut in
    omega (arith, low, le, runs, ends)

few_own : (p : Parts) → IsKept p → length (messages_stored p.limited.state ++ []) < 2 ^ 32
few_own p k = let f = k.few in omega (arith, f, length-append (messages_stored p.limited.state) p.coming, length-append (messages_stored p.limited.state) [])

pub short_own : (p : Parts) → IsKept p → length (messages_stored p.limited.state) < 2 ^ 32
short_own p k = let f = k.few in omega (arith, f, length-append (messages_stored p.limited.state) p.coming)

-- the queue's history over the messages that came alone
pub own_queue : (p : Parts) → IsKept p → p.limited.state ≡ queue_of (own p) p.past
own_queue p k = k.queue (messages_stored p.limited.state) (goes_itself (messages_stored p.limited.state))

-- it rests, with room that was made
pub kept_rest : (p : Parts) (q : Limited) (capacity : ℕ) → IsKept p → p.first ≡ None → p.gifts ≡ [] → q.state ≡ p.limited.state → q.max_receives ≡ p.limited.max_receives → p.capacity ≤ capacity → IsKept (record p { limited = q; capacity = capacity })
kept_rest p q capacity k none nothing same limit grown =
    let coming = none_coming p k none in
    let low = cost_low p.first p.gifts p.running p.shut in
    let room = k.room in
    let short = k.short in
    let kept : IsKept (deciding p q capacity [] None []) = kept_decided p q capacity [] None [] k (record {
      same = same;
      limit = limit;
      valid = All-nil (IsValidMessage p.config.kind);
      texts = All-nil IsUtf8Message;
      few = few_own p k;
      room = omega (arith, low, room, grown);
      short = omega (arith, low, short);
      can = refl;
      given = All-nil (IsGiftOf (messages_stored p.limited.state ++ []));
      lines = tt;
    }) in
    subst (λ (f : Option First). IsKept (record p { limited = q; capacity = capacity; first = f })) (sym none)
    (subst (λ (gs : List Gift). IsKept (record p { limited = q; capacity = capacity; first = None; gifts = gs })) (sym nothing)
    (subst (λ (ms : List Message). IsKept (record p { limited = q; capacity = capacity; coming = ms; first = None; gifts = [] })) (sym coming) kept))

-- as its fields stand
pub kept_grown : (p : Parts) (q : Limited) (capacity : ℕ) (old new : List Entry) → IsKept p → owed_entries p.first p.gifts ≡ [] → q.state ≡ p.limited.state → q.max_receives ≡ p.limited.max_receives → p.capacity ≤ capacity → p.past ≡ reverse old → p.number ≡ length old → new ≡ old
    → IsKept (record p { limited = q; capacity = capacity; past = reverse new; number = length new })
kept_grown p q capacity old new k owed same limit grown past_is number_is new_is =
    let none = owed_none p.first p.gifts owed in
    subst (λ (items : List Entry). IsKept (record p { limited = q; capacity = capacity; past = reverse items; number = length items })) (sym new_is)
    (subst (λ (h : List Entry). IsKept (record p { limited = q; capacity = capacity; past = h; number = length old })) past_is
    (subst (λ (n : ℕ). IsKept (record p { limited = q; capacity = capacity; number = n })) number_is (kept_rest p q capacity k none.0 none.1 same limit grown)))

-- a message is moved

pub moved_given : (p : Parts) (place m : ℕ) → IsKept p → place < length p.limited.state.messages → m ≤ MAX_MOMENT → MayBeGiven (messages_stored p.limited.state ++ []) (place ∷ []) Exhausted m
moved_given p place m k low within =
    let all = messages_stored p.limited.state in
    let long : length all ≡ length p.limited.state.messages = length-map p.limited.state.messages (λ (x : Stored). x.message) in
    subst (λ (ms : List Message). MayBeGiven ms (place ∷ []) Exhausted m) (sym (append-nil all))
    (may_be_given p.config.kind all (place ∷ []) Exhausted m (own_valid p k) (short_own p k)
    (All-cons (λ i. i < length all) place [] (omega (arith, low, long)) (All-nil (λ i. i < length all)))
    (omega arith, tt) (omega arith) refl within)

pub moved_decides : (p : Parts) (q : Limited) (capacity : ℕ) (gift : Gift) → IsKept p → p.coming ≡ [] → q.state ≡ p.limited.state → q.max_receives ≡ p.limited.max_receives → IsGiftOf (messages_stored p.limited.state ++ []) gift → IsLineWithin (written_of gift_line (gift ∷ [])) MAX_LINE → p.number + 5 ≤ capacity → p.number + 5 ≤ 2 ^ 40 → Decides p q capacity [] None (gift ∷ [])
moved_decides p q capacity gift k none same limit written line room short =
    record {
      same = same;
      limit = limit;
      valid = All-nil (IsValidMessage p.config.kind);
      texts = All-nil IsUtf8Message;
      few = few_own p k;
      room = cost_few p None (gift ∷ []) capacity (omega arith) room;
      short = cost_few p None (gift ∷ []) (2 ^ 40) (omega arith) short;
      can = refl;
      given = All-cons (IsGiftOf (messages_stored p.limited.state ++ [])) gift [] written (All-nil (IsGiftOf (messages_stored p.limited.state ++ [])));
      lines = one_line_first gift line;
    }

-- what is promised of the core
pub moved_decided : (p : Parts) (v : RedriveView) (capacity : ℕ) (old new : List Entry) (gift : Gift) (gifts : List Gift) (state : QueueState) (place m : ℕ) → IsKept p → seen_of p ≡ v → p.first ≡ None → state ≡ p.limited.state → gifts ≡ [] ++ gift ∷ [] → IsGiftOf (messages_stored state ++ []) gift → IsLineWithin (written_of gift_line (gift ∷ [])) MAX_LINE
    → gift_entry gift ≡ entry.Gave (Some (queue_lane 0)) 0 (place ∷ []) Exhausted (option_map dead_letter (slice_get (messages_stored state) place)) None m → p.number + 5 ≤ capacity → p.number + 5 ≤ 2 ^ 40 → p.past ≡ reverse old → p.number ≡ length old → new ≡ old
    → IsDecided (left_with p p.limited capacity new p.coming p.first (reverse gifts)) v [] (moved_entry v.setting place m ∷ [])
moved_decided p v capacity old new gift gifts state place m k seen none state_is gifts_are written line given room short past_is number_is new_is =
    let coming = none_coming p k none in
    let es : List Entry = moved_entry v.setting place m ∷ [] in
    let decides = moved_decides p p.limited capacity gift k coming refl refl (subst (λ (r : QueueState). IsGiftOf (messages_stored r ++ []) gift) state_is written) line room short in
    let owed : owed_entries None (gift ∷ []) ≡ es = ap (λ (e : Entry). e ∷ []) (given ∙ (ap (λ (r : QueueState). entry.Gave (Some (queue_lane 0)) 0 (place ∷ []) Exhausted (option_map dead_letter (slice_get (messages_stored r) place)) None m) state_is
    ∙ ap (λ (w : RedriveView). moved_entry w.setting place m) seen)) in
    decided_so p v p.limited capacity new [] p.coming None p.first (gift ∷ []) (reverse gifts) es coming none (first_of gifts [] gift gifts_are)
    (is_decided p v p.limited capacity old new [] None (gift ∷ []) es k seen decides owed past_is number_is new_is)

-- a call begins, or none does

pub told_by : (p : Parts) (counts : Counts) → IsKept p → counts.calls ≡ p.calls → counts.begun ≡ p.begun → counts.shut ≡ p.shut → IsToldBy p.config p.limited.state counts (own p) p.past
told_by p counts k calls begun shut = record {
  config_is = refl;
  queue_is = own_queue p k;
  calls_are = calls;
  begun_is = begun ∙ k.begun;
  shut_is = shut ∙ k.shut;
  came_is = k.count;
  arrivals = k.arrivals;
}

-- a batch is within the batch size
batch_size : (s : QueueSetting) (h : List Entry) (m : ℕ) → length (queue_batch s h m) ≤ s.config.batch_size
batch_size s h m =
    longest_few (queue_fits s h m) s.config.batch_size [] (eligible_after s h m)
    (λ ys passes. leb-true (length ys) s.config.batch_size (and_parts (nat_le (length ys) s.config.batch_size) (nat_le (length (queue_event s (queue_of s h) m ys)) MAX_EVENT) passes).0) (omega arith)

-- what a decision leaves, with room that was made
pub record Follows (p : Parts) (q : Limited) (capacity : ℕ) (answer : Next) (began : Option First) (m : ℕ) : Type 0 where
  pub none : p.coming ≡ []
  pub is : answer ≡ next_for (own p) p.past 0 m
  pub begun : IsBegunBy answer m began
  pub none_due : due_in p.limited.max_receives p.limited.state m ≡ []
  pub in_time : m ≤ MAX_MOMENT
  pub same : q.state ≡ p.limited.state
  pub limit : q.max_receives ≡ p.limited.max_receives
  pub ready : IsReadyFor began q m
  pub room : p.number + 5 ≤ capacity
  pub short : p.number + 5 ≤ 2 ^ 40

module _ (p : Parts) (q : Limited) (capacity m : ℕ) (k : IsKept p) where
  with_first : (answer : Next) (began : Option First) → Follows p q capacity answer began m → CanAddFirst q [] began → first_cost began ≤ 3 → Decides p q capacity [] began []
  with_first answer began f can low = record {
    same = f.same;
    limit = f.limit;
    valid = All-nil (IsValidMessage p.config.kind);
    texts = All-nil IsUtf8Message;
    few = few_own p k;
    room = cost_few p began [] capacity (omega (arith, low)) f.room;
    short = cost_few p began [] (2 ^ 40) (omega (arith, low)) f.short;
    can = can;
    given = All-nil (IsGiftOf (messages_stored p.limited.state ++ []));
    lines = tt;
  }

  quiet : (answer : Next) (began : Option First) → Follows p q capacity answer began m → began ≡ None → Decides p q capacity [] began []
  quiet answer began f none = with_first answer began f (subst (λ (first : Option First). CanAddFirst q [] first) (sym none) refl) (subst (λ (first : Option First). first_cost first ≤ 3) (sym none) (omega arith))

  call_begins : (job : Job) (began : Option First) → Follows p q capacity (next.Call job) began m → CanBegin q job.places m
  call_begins job began f =
      let called = called_by (own p) p.past 0 m job (sym f.is) in
      let within = f.in_time in
      let capped : capped_moment m ≡ m = omega (arith, within) in
      let ready : q.ready ≡ moment_after (capped_moment m) q.state.visibility = subst (λ (first : Option First). IsReadyFor first q m) f.begun f.ready in
      let size = queue_size p.config k.config in
      let few = batch_size (own p) p.past m in
      record {
        ready = ready ∙ ap (λ (n : ℕ). moment_after n q.state.visibility) capped;
        receives = called.places ∙ (batch_receivable (own p) p.past m
            ∙ (ap (λ (r : QueueState). receivable r m (length (queue_batch (own p) p.past m))) (sym (own_queue p k) ∙ sym f.same)
            ∙ ap (λ (ps : List ℕ). receivable q.state m (length ps)) (sym called.places)));
        none_due = ap₂ (λ (n : ℕ) (r : QueueState). due_in n r m) f.limit f.same ∙ f.none_due;
        few = subst (λ (ps : List ℕ). length ps ≤ MAX_BATCH) (sym called.places) (omega (arith, size, few));
        in_time = within;
      }

  -- it is kept
  pub follows_decides : (answer : Next) (began : Option First) → Follows p q capacity answer began m → Decides p q capacity [] began []
  follows_decides (next.Call job) began f =
      let called = called_by (own p) p.past 0 m job (sym f.is) in
      with_first (next.Call job) began f (subst (λ (first : Option First). CanAddFirst q [] first) (sym f.begun) (refl, called.lane, call_begins job began f)) (subst (λ (first : Option First). first_cost first ≤ 3) (sym f.begun) (omega arith))
  follows_decides (next.Gave n) began f = quiet (next.Gave n) began f f.begun
  follows_decides (next.Idle until) began f = quiet (next.Idle until) began f f.begun
  follows_decides next.Spent began f = quiet next.Spent began f f.begun
  follows_decides next.Finished began f = quiet next.Finished began f f.begun

  -- and a call that begins is owed
  pub follows_owed : (answer : Next) (began : Option First) → Follows p q capacity answer began m → owed_entries began [] ≡ next_entries answer m
  follows_owed (next.Call job) began f =
      let called = called_by (own p) p.past 0 m job (sym f.is) in
      ap (λ (first : Option First). owed_entries first []) f.begun ∙ ap (λ (closing : Option ℕ). entry.Began job.lane job.places closing m ∷ []) (sym called.closing)
  follows_owed (next.Gave n) began f = ap (λ (first : Option First). owed_entries first []) f.begun
  follows_owed (next.Idle until) began f = ap (λ (first : Option First). owed_entries first []) f.begun
  follows_owed next.Spent began f = ap (λ (first : Option First). owed_entries first []) f.begun
  follows_owed next.Finished began f = ap (λ (first : Option First). owed_entries first []) f.begun

-- what is promised of the core
pub begun_decided : (p : Parts) (v : RedriveView) (q : Limited) (capacity m : ℕ) (old new : List Entry) (answer : Next) (began : Option First) → IsKept p → seen_of p ≡ v → p.gifts ≡ [] → Follows p q capacity answer began m → p.past ≡ reverse old → p.number ≡ length old → new ≡ old
    → IsDecided (left_with p q capacity new p.coming began p.gifts) v [] (next_entries (next_for v.setting.queue v.past 0 m) m)
begun_decided p v q capacity m old new answer began k seen nothing f past_is number_is new_is =
    let es = next_entries (next_for v.setting.queue v.past 0 m) m in
    let answered : answer ≡ next_for v.setting.queue v.past 0 m = f.is ∙ ap (λ (w : RedriveView). next_for w.setting.queue w.past 0 m) seen in
    let owed : owed_entries began [] ≡ es = follows_owed p q capacity m k answer began f ∙ ap (λ (n : Next). next_entries n m) answered in
    decided_so p v q capacity new [] p.coming began began [] p.gifts es f.none refl nothing
    (is_decided p v q capacity old new [] began [] es k seen (follows_decides p q capacity m k answer began f) owed past_is number_is new_is)

-- messages come

pub came_decides : (p : Parts) (q : Limited) (capacity : ℕ) (items : List Message) (gifts : List Gift) (from count m : ℕ) → IsKept p → from ≡ length p.limited.state.messages → count ≡ length items
    → q.state ≡ p.limited.state → q.max_receives ≡ p.limited.max_receives → All (IsValidMessage p.config.kind) items → All IsUtf8Message items → length (messages_stored p.limited.state ++ items) < 2 ^ 32 → length items ≤ q.spare → m ≤ MAX_MOMENT
    → All (IsGiftOf (messages_stored p.limited.state ++ items)) gifts → written_of gift_line gifts ≡ [] → length gifts ≤ 2 → p.number + 5 ≤ capacity → p.number + 5 ≤ 2 ^ 40 → Decides p q capacity items (Some (Came from count m)) gifts
came_decides p q capacity items gifts from count m k at many same limit valid texts few spare within written no_lines low room short = record {
  same = same;
  limit = limit;
  valid = valid;
  texts = texts;
  few = few;
  room = cost_few p (Some (Came from count m)) gifts capacity (omega (arith, low)) room;
  short = cost_few p (Some (Came from count m)) gifts (2 ^ 40) (omega (arith, low)) short;
  can = (at ∙ ap (λ (r : QueueState). length r.messages) (sym same), many, spare, within);
  given = written;
  lines = no_lines_first gifts no_lines;
}

-- the call ends

module _ (p : Parts) (v : RedriveView) (job : Job) (slice : List ℕ) (none : List Message) (k : IsKept p) (seen : seen_of p ≡ v) (runs : IsRunningJob v.past job) (same : slice ≡ job.places) (nothing : none ≡ []) where
  abbrev batch : List ℕ
  batch = batch_of (last_call p.past (queue_lane 0))

  batch_is : slice ≡ batch
  batch_is = same ∙ (runs.places ∙ ap (λ (w : RedriveView). batch_of (last_call w.past (queue_lane 0))) (sym seen))

  stored_is : messages_stored p.limited.state ++ none ≡ messages_stored p.limited.state
  stored_is = ap (λ (ms : List Message). messages_stored p.limited.state ++ ms) nothing ∙ append-nil (messages_stored p.limited.state)

  long : length (messages_stored p.limited.state) ≡ length p.limited.state.messages
  long = length-map p.limited.state.messages (λ (x : Stored). x.message)

  none_more : length none ≡ 0
  none_more = ap (λ (ms : List Message). length ms) nothing

  -- its messages came
  pub batch_within : All (λ i. i < length p.limited.state.messages + length none) slice
  batch_within =
      let size : length p.limited.state.messages ≡ length p.limited.state.messages + length none = (let n = none_more in omega (arith, n)) in
      subst (λ (n : ℕ). All (λ i. i < n) slice) size (subst (All (λ i. i < length p.limited.state.messages)) (sym batch_is) k.batch.within)

  -- and are few
  pub ids_few : (ids : List (List ℕ)) → ids ≡ ids_at (messages_stored p.limited.state ++ none) slice → length ids ≤ MAX_BATCH
  ids_few ids is =
      let all = messages_stored p.limited.state ++ none in
      let size : length all ≡ length p.limited.state.messages + length none = (let n = none_more in let l = long in length-append (messages_stored p.limited.state) none ∙ ap (λ (i : ℕ). i + length none) l) in
      let within : All (λ i. i < length all) slice = subst (λ (n : ℕ). All (λ i. i < n) slice) (sym size) batch_within in
      let count : length ids ≡ length batch = ap (λ (xs : List (List ℕ)). length xs) is ∙ (ids_long all slice within ∙ ap (λ (ps : List ℕ). length ps) batch_is) in
      let few = k.batch.few in
      omega (arith, count, few)

  -- what succeeded
  pub succeeded_is : (ids : List (List ℕ)) (reply : Reply) (reading : QueueReading) (places : List ℕ) (m : ℕ) → ids ≡ ids_at (messages_stored p.limited.state ++ none) slice → reading ≡ queue_reading p.config ids reply
      → places ≡ filter (λ i. not (is_deleted_at p.limited.state i)) (succeeded_by reading slice) → places ≡ ended_places (setting_of p) p.past reply m
  succeeded_is ids reply reading places m ids_are reading_is is =
      let own_ids : ids ≡ settings.ids_at (own p) batch = ids_are ∙ (ap (λ (ms : List Message). ids_at ms slice) stored_is ∙ ap (λ (ps : List ℕ). ids_at (messages_stored p.limited.state) ps) batch_is) in
      let read : reading ≡ queue_reading p.config (settings.ids_at (own p) batch) reply = reading_is ∙ ap (λ (xs : List (List ℕ)). queue_reading p.config xs reply) own_ids in
      is
      ∙ (ap₂ (λ (r : QueueState) (w : QueueReading). filter (λ i. not (is_deleted_at r i)) (succeeded_by w slice)) (own_queue p k) read
      ∙ (ap (λ (ps : List ℕ). filter (λ i. not (is_deleted (own p) p.past i)) (succeeded_by (queue_reading p.config (settings.ids_at (own p) batch) reply) ps)) batch_is
      ∙ sym (ended_is (own p) p.past (queue_lane 0) reply m)))

  -- may be deleted
  pub success_given : (reading : QueueReading) (places : List ℕ) (m : ℕ) → m ≤ MAX_MOMENT → places ≡ filter (λ i. not (is_deleted_at p.limited.state i)) (succeeded_by reading slice) → MayBeGiven (messages_stored p.limited.state ++ none) places Succeeded m
  success_given reading places m within is =
      let test : ℕ → Bool = λ i. not (is_deleted_at p.limited.state i) in
      let all = succeeded_by reading slice in
      let a = few-filter test all in
      let b = few-succeeded reading slice in
      let c = k.batch.few in
      let size = ap (λ (ps : List ℕ). length ps) batch_is in
      let l = long in
      let rising : IsRisingFrom 0 slice = subst (IsRisingFrom 0) (sym batch_is) k.batch.rising in
      subst (λ (ms : List Message). MayBeGiven ms places Succeeded m) (sym stored_is)
      (subst (λ (ps : List ℕ). MayBeGiven (messages_stored p.limited.state) ps Succeeded m) (sym is)
      (may_be_given p.config.kind (messages_stored p.limited.state) (filter test all) Succeeded m (own_valid p k) (short_own p k)
      (all_in (filter test all) (length (messages_stored p.limited.state)) (λ i member.
      let low : i < length p.limited.state.messages = within_of (length p.limited.state.messages) slice i (subst (All (λ j. j < length p.limited.state.messages)) (sym batch_is) k.batch.within) (In-succeeded reading slice i (In-filter test all i member).0) in
      omega (arith, low, l)))
      (rising-filter test 0 all (rising-succeeded reading slice rising)) (omega (arith, a, b, c, size)) refl within))

  pub ended_decides : (q : Limited) (capacity : ℕ) (reply : Reply) (gifts : List Gift) (m : ℕ) → q.state ≡ p.limited.state → q.max_receives ≡ p.limited.max_receives → m ≤ MAX_MOMENT → All (IsGiftOf (messages_stored p.limited.state ++ none)) gifts → written_of gift_line gifts ≡ [] → length gifts ≤ 1 → p.number + 5 ≤ capacity → p.number + 5 ≤ 2 ^ 40 → Decides p q capacity [] (Some (Ended job.lane reply m)) gifts
  ended_decides q capacity reply gifts m same_state limit within written no_lines low room short = record {
    same = same_state;
    limit = limit;
    valid = All-nil (IsValidMessage p.config.kind);
    texts = All-nil IsUtf8Message;
    few = few_own p k;
    room = cost_few p (Some (Ended job.lane reply m)) gifts capacity (omega (arith, low)) room;
    short = cost_few p (Some (Ended job.lane reply m)) gifts (2 ^ 40) (omega (arith, low)) short;
    can = (refl, runs.lane, within);
    given = subst (λ (ms : List Message). All (IsGiftOf (messages_stored p.limited.state ++ ms)) gifts) nothing written;
    lines = no_lines_first gifts no_lines;
  }

  -- the answer
  pub count_answers : (reply : Reply) (places : List ℕ) (count m moment : ℕ) → count ≡ length places → places ≡ ended_places (setting_of p) p.past reply m → m ≡ min (max moment p.last) MAX_MOMENT → count ≡ length (ended_places v.setting v.past reply (moment_for v.past moment))
  count_answers reply places count m moment count_is is now =
      count_is
      ∙ (ap (λ (ps : List ℕ). length ps) is
      ∙ (ap (λ (i : ℕ). length (ended_places (setting_of p) p.past reply i)) (now ∙ ap (λ (i : ℕ). min (max moment i) MAX_MOMENT) k.last)
      ∙ ap (λ (w : RedriveView). length (ended_places w.setting w.past reply (moment_for w.past moment))) seen))

  -- what is promised of the core
  pub ended_decided : (capacity : ℕ) (old new : List Entry) (reply : Reply) (places : List ℕ) (gifts given : List Gift) (state : QueueState) (m moment : ℕ) → p.first ≡ None → state ≡ p.limited.state → m ≡ min (max moment p.last) MAX_MOMENT → places ≡ ended_places (setting_of p) p.past reply m → given ≡ []
      → gift_entries (reverse gifts) ≡ gave_entries (Some job.lane) places Succeeded m ++ gift_entries (reverse given) → All (IsGiftOf (messages_stored state ++ none)) (reverse gifts) → written_of gift_line (reverse gifts) ≡ written_of gift_line (reverse given) → length gifts ≤ length given + 1 → length (reverse gifts) ≡ length gifts
      → p.number + 5 ≤ capacity → p.number + 5 ≤ 2 ^ 40 → p.past ≡ reverse old → p.number ≡ length old → new ≡ old
      → IsDecided (left_with p p.limited capacity new p.coming (Some (Ended job.lane reply m)) (reverse gifts)) v [] (ended_entries v.setting v.past reply (moment_for v.past moment))
  ended_decided capacity old new reply places gifts given state m moment first_none state_is now is given_is entries written lines low sized room short past_is number_is new_is =
      let within : m ≤ MAX_MOMENT = omega (arith, now) in
      let moment_is : m ≡ moment_for p.past moment = now ∙ ap (λ (i : ℕ). min (max moment i) MAX_MOMENT) k.last in
      let all : All (IsGiftOf (messages_stored p.limited.state ++ none)) (reverse gifts) = subst (λ (r : QueueState). All (IsGiftOf (messages_stored r ++ none)) (reverse gifts)) state_is written in
      let no_lines : written_of gift_line (reverse gifts) ≡ [] = lines ∙ ap (λ (gs : List Gift). written_of gift_line (reverse gs)) given_is in
      let few = ap (λ (gs : List Gift). length gs) given_is in
      let gave : gift_entries (reverse gifts) ≡ gave_entries (Some (queue_lane 0)) (ended_places (setting_of p) p.past reply m) Succeeded m =
      entries
      ∙ (ap (λ (gs : List Gift). gave_entries (Some job.lane) places Succeeded m ++ gift_entries (reverse gs)) given_is
      ∙ (append-nil (gave_entries (Some job.lane) places Succeeded m)
      ∙ ap₂ (λ (l : LaneId) (ps : List ℕ). gave_entries (Some l) ps Succeeded m) runs.lane is)) in
      let owed : owed_entries (Some (Ended job.lane reply m)) (reverse gifts) ≡ ended_entries v.setting v.past reply (moment_for v.past moment) =
      ap₂ (λ (l : LaneId) (es : List Entry). entry.Ended l reply m ∷ es) runs.lane gave
      ∙ (ap (λ (i : ℕ). ended_entries (setting_of p) p.past reply i) moment_is
      ∙ ap (λ (w : RedriveView). ended_entries w.setting w.past reply (moment_for w.past moment)) seen) in
      let es = ended_entries v.setting v.past reply (moment_for v.past moment) in
      decided_so p v p.limited capacity new [] p.coming (Some (Ended job.lane reply m)) (Some (Ended job.lane reply m)) (reverse gifts) (reverse gifts) es (none_coming p k first_none) refl refl
      (is_decided p v p.limited capacity old new [] (Some (Ended job.lane reply m)) (reverse gifts) es k seen
      (ended_decides p.limited capacity reply (reverse gifts) m refl refl within all no_lines (omega (arith, low, sized, few)) room short) owed past_is number_is new_is)
