-- What is kept of the core of a redrive stays true where an entry is noted.
use Rattle.std.proofs.Common.{◌≡◌, ℕ, ◌+◌, ◌<◌, ◌≤◌, Bool, true, false, cond, ◌∷◌, length, refl, sym, ◌∙◌, subst, arith, Option}
use Rattle.std.proofs.lemmas.List.Elements.{All-cons}
use Rattle.esm_model.specs.declared.moment.TheConstants.{MAX_MOMENT}
use Rattle.esm_model.specs.declared.entry.Reply.{Reply}
use Rattle.esm_model.specs.declared.entry.Entry.{Entry}
use Rattle.esm_model.specs.declared.entry.Entry.TheVariants as entry
use Rattle.esm_model.specs.Entries.{Call, is_shut, is_running, calls_begun, moment_of, last_call, batch_of, came_moment}
use Rattle.esm_queue_model.specs.QueueSetting.{QueueSetting, over_messages}
use Rattle.esm_queue_model.specs.QueueEntries.{queue_lane, queue_of, queue_count}
use Rattle.esm_redrive_core.specs.Kept.{Parts, IsKept, IsBatch, IsCovered, own, cost, first_cost}

-- noting

abbrev pub noting : Parts → Entry → Bool → Bool → Parts
noting p e shut running = record p { past = e ∷ p.past; number = p.number + 1; last = moment_of e; shut = shut; running = running }

pub record Notes (p : Parts) (e : Entry) (shut running : Bool) : Type 0 where
  pub plain : (s : QueueSetting) → queue_of s (e ∷ p.past) ≡ queue_of s p.past
  pub count : queue_count (e ∷ p.past) ≡ queue_count p.past
  pub arrivals : (i : ℕ) → came_moment (e ∷ p.past) 0 i ≡ came_moment p.past 0 i
  pub covers : IsCovered (length p.limited.state.messages) e
  pub calls : calls_begun (e ∷ p.past) ≡ calls_begun p.past
  pub batch : last_call (e ∷ p.past) (queue_lane 0) ≡ last_call p.past (queue_lane 0)
  pub in_time : moment_of e ≤ MAX_MOMENT
  pub shut_is : shut ≡ is_shut (e ∷ p.past)
  pub running_is : running ≡ is_running (e ∷ p.past) (queue_lane 0)
  pub cost_is : cost p.first p.gifts running shut + 1 ≤ cost p.first p.gifts p.running p.shut

pub kept_noted : (p : Parts) (e : Entry) (shut running : Bool) → IsKept p → Notes p e shut running → IsKept (noting p e shut running)
kept_noted p e shut running k n = record {
  config = k.config;
  criteria = k.criteria;
  valid = k.valid;
  texts = k.texts;
  few = k.few;
  queue = λ messages goes. k.queue messages goes ∙ sym (n.plain (over_messages (own p) messages));
  stored = k.stored;
  count = k.count ∙ sym n.count;
  arrivals = λ i x at. k.arrivals i x at ∙ sym (n.arrivals i);
  covered = All-cons (IsCovered (length p.limited.state.messages)) e p.past n.covers k.covered;
  last = refl;
  in_time = n.in_time;
  shut = n.shut_is;
  begun = k.begun ∙ sym n.calls;
  deleted = k.deleted;
  running = n.running_is;
  batch = subst (λ (c : Option Call). IsBatch (length p.limited.state.messages) (batch_of c)) (sym n.batch) k.batch;
  room = (let r = k.room in let c = n.cost_is in omega (arith, r, c));
  short = (let r = k.short in let c = n.cost_is in omega (arith, r, c));
  some_receives = k.some_receives;
  few_receives = k.few_receives;
  first = k.first;
  gifts = k.gifts;
  lines = k.lines;
}

shut_cost : (f g r : ℕ) (s : Bool) → s ≡ false → f + g + r + 0 + 1 ≤ f + g + r + cond s 0 1
shut_cost f g r s going = subst (λ (b : Bool). f + g + r + 0 + 1 ≤ f + g + r + cond b 0 1) (sym going) (omega arith)

pub shut_notes : (p : Parts) (m : ℕ) → IsKept p → is_shut p.past ≡ false → m ≤ MAX_MOMENT → Notes p (entry.Shut m) true p.running
shut_notes p m k going within = record {
  plain = λ s. refl;
  count = refl;
  arrivals = λ i. refl;
  covers = tt;
  calls = refl;
  batch = refl;
  in_time = within;
  shut_is = refl;
  running_is = k.running;
  cost_is = shut_cost (first_cost p.first) (length p.gifts) (cond p.running 1 0) p.shut (k.shut ∙ going);
}

pub shut_room : (p : Parts) → IsKept p → is_shut p.past ≡ false → p.number < p.capacity
shut_room p k going =
    let room = k.room in
    let less = shut_cost (first_cost p.first) (length p.gifts) (cond p.running 1 0) p.shut (k.shut ∙ going) in
    omega (arith, room, less)

end_cost : (f g s : ℕ) (r : Bool) → r ≡ true → f + g + 0 + s + 1 ≤ f + g + cond r 1 0 + s
end_cost f g s r runs = subst (λ (b : Bool). f + g + 0 + s + 1 ≤ f + g + cond b 1 0 + s) (sym runs) (omega arith)

pub end_notes : (p : Parts) (reply : Reply) (m : ℕ) → IsKept p → is_running p.past (queue_lane 0) ≡ true → m ≤ MAX_MOMENT → Notes p (entry.Ended (queue_lane 0) reply m) p.shut false
end_notes p reply m k runs within = record {
  plain = λ s. refl;
  count = refl;
  arrivals = λ i. refl;
  covers = tt;
  calls = refl;
  batch = refl;
  in_time = within;
  shut_is = k.shut;
  running_is = refl;
  cost_is = end_cost (first_cost p.first) (length p.gifts) (cond p.shut 0 1) p.running (k.running ∙ runs);
}

pub end_room : (p : Parts) → IsKept p → is_running p.past (queue_lane 0) ≡ true → p.number < p.capacity
end_room p k runs =
    let room = k.room in
    let less = end_cost (first_cost p.first) (length p.gifts) (cond p.shut 0 1) p.running (k.running ∙ runs) in
    omega (arith, room, less)
