-- What a queue keeps while messages come, are received and are deleted.
use Rattle.std.proofs.Common.{◌≡◌, ℕ, ◌+◌, ◌<◌, Bool, true, false, cond, List, [], ◌∷◌, ◌++◌, length, set, get_or, refl, sym, ap, ◌∙◌, subst, Option, Some, None}
use Rattle.std.specs.Prelude.{slice_get, option_map}
use Rattle.std.proofs.lemmas.List.{set-get_or}
use Rattle.esm_model.specs.Entries.{holds}
use Rattle.esm_queue_model.specs.declared.stored.Stored.{Stored}
use Rattle.esm_queue_model.specs.Queue.{received_once, deleted_once, changed_from}
use Rattle.esm_queue.specs.declared.groups.Groups.{Groups}
use Rattle.esm_queue.specs.declared.links.Link.{Link}
use Rattle.esm_queue.specs.Moments.{leaf, leaves}
use Rattle.esm_queue.specs.Links.{alive_at, group_at, group_in, IsFounded, IsLinked}
use Rattle.esm_queue.specs.Names.{IsChained}
use Rattle.esm_queue.specs.Groups.{IsGrouped}
use Rattle.esm_queue.proofs.Places.{alive_in}
use Rattle.esm_queue.proofs.Removing.{founded_same, chained_same, linked_same}
use Rattle.esm_queue.proofs.Changing.{slice_get-changed_from, length-changed_from, changed_one}

-- a message comes
pub leaves_push : (v : ℕ) (xs : List Stored) (x : Stored) → leaf v x ≡ 0 → leaves v (xs ++ x ∷ []) ≡ leaves v xs ++ 0 ∷ []
leaves_push v [] x zero = ap (λ n. n ∷ []) zero
leaves_push v (y ∷ xs) x zero = ap (λ ns. leaf v y ∷ ns) (leaves_push v xs x zero)

-- messages are received

alive_received : (m : ℕ) (b : Bool) (o : Option Stored) → alive_in (option_map (λ (x : Stored). cond b (received_once m x) x) o) ≡ alive_in o
alive_received m b None = refl
alive_received m true (Some x) = refl
alive_received m false (Some x) = refl

group_received : (m : ℕ) (b : Bool) (o : Option Stored) → group_in (option_map (λ (x : Stored). cond b (received_once m x) x) o) ≡ group_in o
group_received m b None = refl
group_received m true (Some x) = refl
group_received m false (Some x) = refl

pub grouped_received : (m : ℕ) (places : List ℕ) (xs ys : List Stored) (g : Groups) → ys ≡ changed_from (received_once m) places 0 xs → IsGrouped xs g → IsGrouped ys g
grouped_received m places xs ys g is h =
    let f = received_once m in
    let size : length ys ≡ length xs = ap length is ∙ length-changed_from f places 0 xs in
    let alive : (k : ℕ) → alive_at ys k ≡ alive_at xs k = λ k. ap (λ (zs : List Stored). alive_at zs k) is ∙ (ap alive_in (slice_get-changed_from f places 0 xs k) ∙ alive_received m (holds places (0 + k)) (slice_get xs k)) in
    let group : (k : ℕ) → group_at ys k ≡ group_at xs k = λ k. ap (λ (zs : List Stored). group_at zs k) is ∙ (ap group_in (slice_get-changed_from f places 0 xs k) ∙ group_received m (holds places (0 + k)) (slice_get xs k)) in
    record {
      founded = founded_same g.fifo xs ys g.links.items g.links.items size refl group (λ k. refl) h.founded;
      linked = linked_same xs ys g.links.items size alive h.linked;
      chained = chained_same (length g.buckets.items) xs ys g.links.items g.links.items g.buckets.items size group (λ k. refl) (λ k. refl) h.chained;
    }

-- only the heads move
pub grouped_moved : (xs : List Stored) (g new : Groups) → new.fifo ≡ g.fifo → new.links ≡ g.links → new.buckets ≡ g.buckets → IsGrouped xs g → IsGrouped xs new
grouped_moved xs g new kind links buckets h =
    let ls : new.links.items ≡ g.links.items = ap (λ v. v.items) links in
    let bs : new.buckets.items ≡ g.buckets.items = ap (λ v. v.items) buckets in
    record {
      founded = subst (λ (k : List Link). IsFounded new.fifo xs k) (sym ls) (subst (λ b. IsFounded b xs g.links.items) (sym kind) h.founded);
      linked = subst (λ (k : List Link). IsLinked xs k) (sym ls) h.linked;
      chained = subst (λ (k : List Link). IsChained (length new.buckets.items) xs k new.buckets.items) (sym ls) (subst (λ (b : List ℕ). IsChained (length b) xs g.links.items b) (sym bs) h.chained);
    }

-- a message that is deleted is deleted again
pub deleted_again : (xs : List Stored) (i : ℕ) (x : Stored) → i < length xs → x ≡ get_or xs i x → x.deleted ≡ true → xs ≡ changed_from deleted_once (i ∷ []) 0 xs
deleted_again xs i x low here gone =
    let same : deleted_once x ≡ get_or xs i x = ap (λ b. record x { deleted = b }) (sym gone) ∙ here in
    sym (set-get_or xs i x) ∙ (ap (λ (y : Stored). set xs i y) (sym same) ∙ changed_one deleted_once xs i x low here)
