use Rattle.std.proofs.Common.{◌≡◌, ℕ, List, [], ◌∷◌, ◌++◌, length, refl, sym, ap, ◌∙◌, subst, rules}
use Rattle.std.proofs.lemmas.List.{length-map}
use Rattle.esm_queue_model.specs.declared.stored.Stored.{Stored}
use Rattle.esm_queue_model.specs.Queue.{arrived}
use Rattle.esm_queue.specs.Moments.{leaf, leaves}
use Rattle.esm_queue.specs.Groups.{IsGrouped, IsHeadedBy}
use Rattle.esm_queue.proofs.Keeping.{leaves_push}
use Rattle.esm_queue.proofs.queue.Queue.came.Goals as goal

pub invariant_of-self-2 : goal.invariant_of-self-2
invariant_of-self-2 c =
    let q = c.self.inside in
    let v = q.visibility_ms in
    let g = c.append.new.self in
    let xs = q.messages.items in
    let x : Stored = arrived c.args.message c.min.result in
    let kept : c.reserve.new.self.items ≡ xs = c.reserve.ensures.items in
    let lent : c.as_slice.result.now ≡ xs = c.as_slice.ensures.value ∙ kept in
    let items : c.push_reserved.new.self.items ≡ xs ++ x ∷ [] = c.push_reserved.ensures.items ∙ ap (λ (ms : List Stored). ms ++ x ∷ []) kept in
    let moments : leaves v c.push_reserved.new.self.items ≡ leaves v xs ++ 0 ∷ [] = ap (λ (ms : List Stored). leaves v ms) items ∙ leaves_push v xs x refl in
    let size : length (leaves v xs) ≡ length c.as_slice.result.now = length-map xs (leaf v) ∙ ap length (sym lent) in
    record {
      few = search rules;
      shown = c.push.ensures.moments ∙ (ap (λ (ns : List ℕ). ns ++ 0 ∷ []) (c.reserve-2.ensures.moments ∙ c.self.invariant.shown) ∙ sym moments);
      grouped = subst (λ (ms : List Stored). IsGrouped ms g) (ap (λ (ms : List Stored). ms ++ x ∷ []) lent ∙ sym items) (c.append.ensures.grouped x refl refl);
      headed = subst (λ (ns : List ℕ). IsHeadedBy ns g) (sym moments) (c.append.ensures.headed (leaves v xs) size (c.reserve-3.ensures.headed (leaves v xs) c.self.invariant.headed));
    }
