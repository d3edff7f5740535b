-- The first message that is due, as the queue of a core tells it.
use Rattle.std.proofs.Common.{◌≡◌, ℕ, ◌+◌, ◌<◌, ◌≤◌, ◌^◌, List, [], ◌∷◌, length, max, min, reverse, refl, sym, ap, ◌∙◌, subst, arith, Option, Some, None}
use Rattle.std.specs.Prelude.{slice_get}
use Rattle.std.proofs.lemmas.List.{length-map, length-reverse}
use Rattle.std.proofs.lemmas.Option.{none-some, same_Some}
use Rattle.esm_model.specs.declared.moment.TheConstants.{MAX_MOMENT}
use Rattle.esm_model.specs.declared.book.Next.TheVariants as next
use Rattle.esm_model.specs.declared.entry.Entry.{Entry}
use Rattle.esm_model.specs.Fates.{below}
use Rattle.esm_model.specs.Moment.{capped_moment}
use Rattle.esm_queue_model.specs.declared.stored.Stored.{Stored}
use Rattle.esm_queue_model.specs.Queue.{QueueState, eligible, is_eligible}
use Rattle.esm_queue_model.specs.QueueEntries.{queue_of}
use Rattle.esm_queue_model.proofs.Places.{In, In-here, In-filter, In-below}
use Rattle.esm_queue_core.specs.CoreView.{moment_for}
use Rattle.esm_queue_core.specs.Next.{next_for, next_entries}
use Rattle.esm_redrive.specs.Limited.{due_in, is_spent}
use Rattle.esm_redrive_core.specs.Adding.{next_due, entries_due, moved_entry, redrive_next, redrive_next_entries}
use Rattle.esm_redrive_core.specs.Kept.{Parts, IsKept, own, setting_of, seen_of}
use Rattle.esm_redrive_core.specs.RedriveView.{RedriveView}
use Rattle.esm_redrive_core.proofs.Deciding.{own_queue}

-- the message at the place is the first that is due
pub record IsDueAt (v : RedriveView) (m i : ℕ) : Type 0 where
  pub within : i < length v.setting.queue.messages
  pub answers : redrive_next v.setting v.past m ≡ next.Gave 1
  pub adds : redrive_next_entries v.setting v.past m ≡ moved_entry v.setting i m ∷ []

-- none is
pub record IsNoneDue (v : RedriveView) (m : ℕ) : Type 0 where
  pub none : due_in v.setting.max_receives (queue_of v.setting.queue v.past) m ≡ []
  pub answers : redrive_next v.setting v.past m ≡ next_for v.setting.queue v.past 0 m
  pub adds : redrive_next_entries v.setting v.past m ≡ next_entries (next_for v.setting.queue v.past 0 m) m

first_is : (ps : List ℕ) (i : ℕ) → slice_get ps 0 ≡ Some i → (rest : List ℕ) × (ps ≡ i ∷ rest)
first_is [] i at = absurd (none-some i at)
first_is (p ∷ ps) i at = (ps, ap (λ (j : ℕ). j ∷ ps) (same_Some p i at))

none_is : (ps : List ℕ) → slice_get ps 0 ≡ None → ps ≡ []
none_is [] at = refl
none_is (p ∷ ps) at = absurd (none-some p (sym at))

due_within : (max : ℕ) (q : QueueState) (m i : ℕ) (rest : List ℕ) → due_in max q m ≡ i ∷ rest → i < length q.messages
due_within max q m i rest is =
    let here : In (i ∷ rest) i = In-here i rest i refl in
    let spent = In-filter (is_spent max q) (eligible q m) i (subst (λ (ps : List ℕ). In ps i) (sym is) here) in
    In-below (length q.messages) i (In-filter (is_eligible q m) (below (length q.messages)) i spent.0).0

module _ (p : Parts) (v : RedriveView) (m : ℕ) (o : Option ℕ) (k : IsKept p) (seen : seen_of p ≡ v) (within : m ≤ MAX_MOMENT) (told : o ≡ slice_get (due_in p.limited.max_receives p.limited.state (capped_moment m)) 0) where
  told_now : slice_get (due_in p.limited.max_receives p.limited.state m) 0 ≡ o
  told_now = let capped : capped_moment m ≡ m = omega (arith, within) in ap (λ (n : ℕ). slice_get (due_in p.limited.max_receives p.limited.state n) 0) (sym capped) ∙ sym told

  pub due_at : (i : ℕ) → o ≡ Some i → IsDueAt v m i
  due_at i is =
      let first = first_is (due_in p.limited.max_receives p.limited.state m) i (told_now ∙ is) in
      let low = due_within p.limited.max_receives p.limited.state m i first.0 first.1 in
      let long = length-map p.limited.state.messages (λ (x : Stored). x.message) in
      let due : due_in p.limited.max_receives (queue_of (own p) p.past) m ≡ i ∷ first.0 = ap (λ (q : QueueState). due_in p.limited.max_receives q m) (sym (own_queue p k)) ∙ first.1 in
      subst (λ (w : RedriveView). IsDueAt w m i) seen (record {
        within = omega (arith, low, long);
        answers = ap (λ (ps : List ℕ). next_due ps (next_for (own p) p.past 0 m)) due;
        adds = ap (λ (ps : List ℕ). entries_due (setting_of p) m ps (next_entries (next_for (own p) p.past 0 m) m)) due;
      })

  pub none_due : o ≡ None → IsNoneDue v m
  none_due is =
      let due : due_in p.limited.max_receives (queue_of (own p) p.past) m ≡ [] = ap (λ (q : QueueState). due_in p.limited.max_receives q m) (sym (own_queue p k)) ∙ none_is (due_in p.limited.max_receives p.limited.state m) (told_now ∙ is) in
      subst (λ (w : RedriveView). IsNoneDue w m) seen (record {
        none = due;
        answers = ap (λ (ps : List ℕ). next_due ps (next_for (own p) p.past 0 m)) due;
        adds = ap (λ (ps : List ℕ). entries_due (setting_of p) m ps (next_entries (next_for (own p) p.past 0 m) m)) due;
      })

-- none is, as the queue has it
pub none_due_own : (p : Parts) (v : RedriveView) (m : ℕ) → IsKept p → seen_of p ≡ v → due_in v.setting.max_receives (queue_of v.setting.queue v.past) m ≡ [] → due_in p.limited.max_receives p.limited.state m ≡ []
none_due_own p v m k seen none =
    ap (λ (q : QueueState). due_in p.limited.max_receives q m) (own_queue p k)
    ∙ (ap (λ (w : RedriveView). due_in w.setting.max_receives (queue_of w.setting.queue w.past) m) seen ∙ none)

-- the moment of what is decided
pub moment_is : (p : Parts) (v : RedriveView) (m moment : ℕ) → IsKept p → seen_of p ≡ v → m ≡ min (max moment p.last) MAX_MOMENT → m ≡ moment_for v.past moment
moment_is p v m moment k seen now = now ∙ (ap (λ (n : ℕ). min (max moment n) MAX_MOMENT) k.last ∙ ap (λ (w : RedriveView). moment_for w.past moment) seen)

-- its history finds place for more
pub short_by : (p : Parts) (v : RedriveView) (old : List Entry) → seen_of p ≡ v → p.past ≡ reverse old → p.number ≡ length old → length v.past + 5 ≤ 2 ^ 40 → p.number + 5 ≤ 2 ^ 40
short_by p v old seen past_is number_is short =
    let a = ap (λ (w : RedriveView). length w.past) seen in
    let b = ap (λ (h : List Entry). length h) past_is in
    let d = length-reverse old in
    omega (arith, a, b, d, number_is, short)

pub short_of : (p : Parts) (v : RedriveView) (old : List Entry) (n : ℕ) → seen_of p ≡ v → p.past ≡ reverse old → n ≡ length old → n + 5 ≤ 2 ^ 40 → length v.past + 5 ≤ 2 ^ 40
short_of p v old n seen past_is n_is short =
    let a = ap (λ (w : RedriveView). length w.past) seen in
    let b = ap (λ (h : List Entry). length h) past_is in
    let d = length-reverse old in
    omega (arith, a, b, d, n_is, short)
