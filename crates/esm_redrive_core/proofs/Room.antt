-- A history has room for what is owed, and its counts fit.
use Rattle.std.proofs.Common.{◌≡◌, ◌∙◌, ◌+◌, ◌<◌, ◌≤◌, ◌^◌, Bool, List, [], ◌∷◌, length, Option, Some, None, ap, arith, subst, sym}
use Rattle.std.proofs.lemmas.List.{length-map}
use Rattle.std.proofs.lemmas.List.Sums.{count_by-le-length}
use Rattle.esm_model.specs.declared.entry.Entry.{Entry}
use Rattle.esm_model.specs.declared.entry.Entry.TheVariants as entry
use Rattle.esm_model.specs.declared.item.Message.{Message}
use Rattle.esm_model.specs.Entries.{calls_begun}
use Rattle.esm_queue_model.specs.declared.stored.Stored.{Stored}
use Rattle.esm_queue_core.specs.declared.owed.First.{First}
use Rattle.esm_queue_core.specs.declared.owed.First.TheVariants.{Came, Began, Ended}
use Rattle.esm_queue_core.specs.Kept.{messages_stored}
use Rattle.esm_queue_core.specs.Next.{deleted_number}
use Rattle.esm_redrive.specs.Limited.{Limited}
use Rattle.esm_redrive_core.specs.declared.owed.Gift.{Gift}
use Rattle.esm_redrive_core.specs.Kept.{IsKept, Parts, all_of, cost}

pub first_room : (p : Parts) (f : First) → IsKept p → p.first ≡ Some f → p.number < p.capacity
first_room p f k is =
    let room : p.number + cost (Some f) p.gifts p.running p.shut ≤ p.capacity = subst (λ (o : Option First). p.number + cost o p.gifts p.running p.shut ≤ p.capacity) is k.room in
    let some = some_cost f p.gifts p.running p.shut in
    omega (arith, room, some)
  where
    some_cost : (f : First) (g : List Gift) (r s : Bool) → 1 ≤ cost (Some f) g r s
    some_cost (Came from count m) g r s = omega arith
    some_cost (Began lane places m) g r s = omega arith
    some_cost (Ended lane reply m) g r s = omega arith

pub gift_room : (p : Parts) (g : Gift) (rest : List Gift) → IsKept p → p.first ≡ None → p.gifts ≡ g ∷ rest → p.number < p.capacity
gift_room p g rest k none is =
    let room : p.number + cost None (g ∷ rest) p.running p.shut ≤ p.capacity = subst (λ (gs : List Gift). p.number + cost None gs p.running p.shut ≤ p.capacity) is (subst (λ (o : Option First). p.number + cost o p.gifts p.running p.shut ≤ p.capacity) none k.room) in
    let some : 1 ≤ cost None (g ∷ rest) p.running p.shut = omega arith in
    omega (arith, room, some)

-- so many deletions fit 32 bits
pub deleted_within : (p : Parts) (q : Limited) → IsKept p → messages_stored q.state ≡ all_of p → deleted_number q.state < 2 ^ 32
deleted_within p q k is =
    let few = k.few in
    let sized : length (all_of p) ≡ length q.state.messages = sym (ap (λ (ms : List Message). length ms) is) ∙ length-map q.state.messages (λ (x : Stored). x.message) in
    let most = count_by-le-length (λ (x : Stored). x.deleted) q.state.messages in
    omega (arith, few, sized, most)

-- as many calls began as fit 64 bits
calls_few : (h : List Entry) → calls_begun h ≤ length h
calls_few [] = omega arith
calls_few (entry.Came shard first count m ∷ h) = let rest = calls_few h in omega arith
calls_few (entry.Began lane places closing m ∷ h) = let rest = calls_few h in omega arith
calls_few (entry.Ended lane reply m ∷ h) = let rest = calls_few h in omega arith
calls_few (entry.Gave by shard places fate line state m ∷ h) = let rest = calls_few h in omega arith
calls_few (entry.Tried lane places closing tries m ∷ h) = let rest = calls_few h in omega arith
calls_few (entry.Closed lane window m ∷ h) = let rest = calls_few h in omega arith
calls_few (entry.Replayed shard places m ∷ h) = let rest = calls_few h in omega arith
calls_few (entry.Shut m ∷ h) = let rest = calls_few h in omega arith

pub begun_few : (p : Parts) → IsKept p → length p.past ≡ p.number → p.begun ≤ 2 ^ 40
begun_few p k number_is =
    let few = calls_few p.past in
    let begun = k.begun in
    let short = k.short in
    omega (arith, few, begun, short, number_is)
