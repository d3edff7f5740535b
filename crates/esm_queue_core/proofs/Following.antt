-- What the core decides for a batcher follows its history, and is kept.
use Rattle.std.proofs.Common.{◌≡◌, ℕ, ◌+◌, ◌≤◌, ◌^◌, false, List, [], ◌∷◌, ◌++◌, length, max, min, reverse, refl, sym, ap, ap₂, ◌∙◌, subst, Option, None}
use Rattle.std.specs.List.{All}
use Rattle.std.proofs.lemmas.List.Elements.{All-head, All-tail, All-cons, All-nil}
use Rattle.esm_model.specs.declared.moment.TheConstants.{MAX_MOMENT}
use Rattle.esm_model.specs.declared.config.Kind.{Kind}
use Rattle.esm_model.specs.declared.item.Message.{Message}
use Rattle.esm_model.specs.declared.book.Job.{Job}
use Rattle.esm_model.specs.declared.book.Next.{Next}
use Rattle.esm_model.specs.declared.book.Next.TheVariants as next
use Rattle.esm_model.specs.declared.entry.Entry.{Entry}
use Rattle.esm_model.specs.declared.entry.Entry.TheVariants as entry
use Rattle.esm_model.specs.Entries.{is_running}
use Rattle.esm_model.specs.Moment.{moment_after, capped_moment}
use Rattle.esm_model.specs.ValidMessage.{IsValidMessage}
use Rattle.esm_queue.specs.Held.{Held}
use Rattle.esm_queue_model.specs.Queue.{QueueState, receivable, stored_at}
use Rattle.esm_queue_model.specs.QueueEntries.{queue_lane}
use Rattle.esm_queue_model.specs.QueueBatch.{queue_batch}
use Rattle.esm_queue_model.proofs.MoreMessages.{stored_count}
use Rattle.esm_queue_core.specs.declared.next.Counts.{Counts}
use Rattle.esm_queue_core.specs.declared.owed.First.{First}
use Rattle.esm_queue_core.specs.declared.owed.Gift.{Gift}
use Rattle.esm_queue_core.specs.declared.standing.Standing.TheVariants.{Whole}
use Rattle.esm_queue_core.specs.CoreView.{CoreView, moment_for, LegalAhead, SettledAhead, owing}
use Rattle.esm_queue_core.specs.Next.{IsToldBy, IsValidStored, next_for, next_entries}
use Rattle.esm_queue_core.specs.Kept.{Parts, IsKept, IsBegunBy, own, messages_stored, owed_entries, seen_of}
use Rattle.esm_queue_core.specs.Ready.{IsReadyFor}
use Rattle.esm_queue_core.proofs.StoredMessages.{all_stored}
use Rattle.esm_queue_core.proofs.Arrivals.{arrival_is}
use Rattle.esm_queue_core.proofs.Beginning.{called_by, may_begin, batch_receivable}
use Rattle.esm_queue_core.proofs.Keeping.{Decides, Begins, deciding, own_sound, begins_decides, none_decides, kept_decided, seen_decided, nothing_coming, moment_is, legal_ahead, settled_ahead}

-- of the messages that came and those that are coming the first ones came
front_valid : (kind : Kind) (xs ys : List Message) → All (IsValidMessage kind) (xs ++ ys) → All (IsValidMessage kind) xs
front_valid kind [] ys all = All-nil (IsValidMessage kind)
front_valid kind (x ∷ xs) ys all = All-cons (IsValidMessage kind) x xs (All-head (IsValidMessage kind) x (xs ++ ys) all) (front_valid kind xs ys (All-tail (IsValidMessage kind) x (xs ++ ys) all))

module _ (p : Parts) (k : IsKept p) (whole : p.standing ≡ Whole) where
  -- what is stored may be called
  pub stored_valid : All (IsValidStored p.config.kind) p.held.state.messages
  stored_valid =
      subst (λ (q : QueueState). All (IsValidStored p.config.kind) q.messages) (sym k.queue)
      (all_stored (own p) p.past (own_sound p k whole).legal (front_valid p.config.kind (messages_stored p.held.state) p.coming k.valid))

  -- what a decision looks at is what the history says
  pub told_by : (counts : Counts) → counts.calls ≡ p.calls → counts.begun ≡ p.begun → counts.shut ≡ p.shut → IsToldBy p.config p.held.state counts (own p) p.past
  told_by counts calls begun shut =
      let legal = (own_sound p k whole).legal in
      record {
        config_is = refl;
        queue_is = k.queue;
        calls_are = calls;
        begun_is = begun ∙ k.begun;
        shut_is = shut ∙ k.shut;
        came_is = ap (λ (q : QueueState). length q.messages) k.queue ∙ stored_count (own p) p.past legal;
        arrivals = λ i x at. arrival_is (own p) p.past legal i x (ap (λ (q : QueueState). stored_at q i) (sym k.queue) ∙ at);
      }

-- what a batcher's decision leaves, with room that was made
pub record Follows (p : Parts) (held : Held) (capacity : ℕ) (b : ℕ) (answer : Next) (began : Option First) (m moment : ℕ) : Type 0 where
  pub none : p.first ≡ None
  pub nothing : p.gift ≡ None
  pub rests : is_running p.past (queue_lane b) ≡ false
  pub is : answer ≡ next_for (own p) p.past b m
  pub begun : IsBegunBy answer m began
  pub now : m ≡ min (max moment p.last) MAX_MOMENT
  pub same : held.state ≡ p.held.state
  pub ready : IsReadyFor began held m
  pub grown : p.capacity ≤ capacity
  pub room : p.number + p.running + 3 ≤ capacity
  pub short : p.number + p.running + 3 ≤ 2 ^ 40

module _ (p : Parts) (held : Held) (capacity : ℕ) (b m moment : ℕ) (k : IsKept p) (whole : p.standing ≡ Whole) where
  call_begins : (job : Job) (began : Option First) → Follows p held capacity b (next.Call job) began m moment → Begins p held capacity job.lane job.places m moment
  call_begins job began f =
      let called = called_by (own p) p.past b m job (sym f.is) in
      let ready : held.ready ≡ moment_after (capped_moment m) held.state.visibility = subst (λ (first : Option First). IsReadyFor first held m) f.begun f.ready in
      record {
        may = may_begin (own p) p.past b m job (own_sound p k whole).settled f.rests called;
        same = f.same;
        ready = ready ∙ ap (λ (q : QueueState). moment_after (capped_moment m) q.visibility) f.same;
        receives = called.places ∙ (batch_receivable (own p) p.past m
            ∙ (ap (λ (q : QueueState). receivable q m (length (queue_batch (own p) p.past m))) (sym k.queue)
            ∙ ap (λ (ps : List ℕ). receivable p.held.state m (length ps)) (sym called.places)));
        now = f.now;
        room = f.room;
        short = f.short;
      }

  quiet : (began : Option First) (answer : Next) → Follows p held capacity b answer began m moment → began ≡ None → Decides p held capacity [] began None
  quiet began answer f none = subst (λ (first : Option First). Decides p held capacity [] first None) (sym none) (none_decides p held capacity k whole f.none f.nothing f.same f.grown)

  -- it is kept
  pub follows_decides : (answer : Next) (began : Option First) → Follows p held capacity b answer began m moment → Decides p held capacity [] began None
  follows_decides (next.Call job) began f =
      subst (λ (first : Option First). Decides p held capacity [] first None) (sym f.begun)
      (begins_decides p held capacity job.lane job.places m moment k whole (call_begins job began f))
  follows_decides (next.Gave n) began f = quiet began (next.Gave n) f f.begun
  follows_decides (next.Idle until) began f = quiet began (next.Idle until) f f.begun
  follows_decides next.Spent began f = quiet began next.Spent f f.begun
  follows_decides next.Finished began f = quiet began next.Finished f f.begun

  -- and a call that begins is owed
  pub follows_owed : (answer : Next) (began : Option First) → Follows p held capacity b answer began m moment → owed_entries began None ≡ next_entries answer m
  follows_owed (next.Call job) began f =
      let called = called_by (own p) p.past b m job (sym f.is) in
      ap (λ (first : Option First). owed_entries first None) f.begun ∙ ap (λ (closing : Option ℕ). entry.Began job.lane job.places closing m ∷ []) (sym called.closing)
  follows_owed (next.Gave n) began f = ap (λ (first : Option First). owed_entries first None) f.begun
  follows_owed (next.Idle until) began f = ap (λ (first : Option First). owed_entries first None) f.begun
  follows_owed next.Spent began f = ap (λ (first : Option First). owed_entries first None) f.begun
  follows_owed next.Finished began f = ap (λ (first : Option First). owed_entries first None) f.begun

-- the parts of a core after a decision, the entries of whose history stand so, oldest first
abbrev pub after : Parts → Held → ℕ → List Entry → List Message → Option First → Option Gift → Parts
after p held capacity items coming first gift = record p { held = held; capacity = capacity; past = reverse items; number = length items; coming = coming; first = first; gift = gift }

after_is : (p : Parts) (held : Held) (capacity : ℕ) (old new : List Entry) (coming : List Message) (first : Option First) (gift : Option Gift) → p.past ≡ reverse old → p.number ≡ length old → new ≡ old → coming ≡ [] → gift ≡ None → after p held capacity new coming first gift ≡ deciding p held capacity [] first None
after_is p held capacity old new coming first gift past_is number_is same none nothing =
    ap₂ (λ (items : List Entry) (ms : List Message). after p held capacity items ms first gift) same none
    ∙ (ap (λ (g : Option Gift). after p held capacity old [] first g) nothing
    ∙ ap₂ (λ (h : List Entry) (n : ℕ). record p { held = held; capacity = capacity; past = h; number = n; coming = []; first = first; gift = None }) (sym past_is) (sym number_is))

-- what is promised of the core after it
pub record Decided (q : Parts) (v : CoreView) (answer : Next) (b moment : ℕ) : Type 0 where
  pub kept : IsKept q
  pub answer_is : answer ≡ next_for v.setting v.past b (moment_for v.past moment)
  pub owes : seen_of q ≡ owing v [] (next_entries answer (moment_for v.past moment))
  pub legal : LegalAhead (seen_of q)
  pub settled : SettledAhead (seen_of q)

pub decided : (p : Parts) (v : CoreView) (held : Held) (capacity : ℕ) (old new : List Entry) (b m moment : ℕ) (answer : Next) (began : Option First) → IsKept p → p.standing ≡ Whole → seen_of p ≡ v → Follows p held capacity b answer began m moment → p.past ≡ reverse old → p.number ≡ length old → new ≡ old
    → Decided (after p held capacity new p.coming began p.gift) v answer b moment
decided p v held capacity old new b m moment answer began k whole seen f past_is number_is same =
    let none : p.coming ≡ [] = nothing_coming p k f.none in
    let is : after p held capacity new p.coming began p.gift ≡ deciding p held capacity [] began None = after_is p held capacity old new p.coming began p.gift past_is number_is same none f.nothing in
    let kept : IsKept (deciding p held capacity [] began None) = kept_decided p held capacity [] began None k whole none (follows_decides p held capacity b m moment k whole answer began f) in
    let now : m ≡ moment_for p.past moment = moment_is p m moment k f.now in
    let owes : seen_of (deciding p held capacity [] began None) ≡ owing (seen_of p) [] (next_entries answer m) = seen_decided p held capacity [] began None (next_entries answer m) f.same (follows_owed p held capacity b m moment k whole answer began f) in
    record {
      kept = subst IsKept (sym is) kept;
      answer_is = f.is ∙ (ap (λ (n : ℕ). next_for (own p) p.past b n) now ∙ ap (λ (w : CoreView). next_for w.setting w.past b (moment_for w.past moment)) seen);
      owes = ap seen_of is ∙ (owes ∙ (ap (λ (n : ℕ). owing (seen_of p) [] (next_entries answer n)) now ∙ ap (λ (w : CoreView). owing w [] (next_entries answer (moment_for w.past moment))) seen));
      legal = subst (λ (q : Parts). LegalAhead (seen_of q)) (sym is) (legal_ahead (deciding p held capacity [] began None) kept whole);
      settled = subst (λ (q : Parts). SettledAhead (seen_of q)) (sym is) (settled_ahead (deciding p held capacity [] began None) kept whole);
    }
