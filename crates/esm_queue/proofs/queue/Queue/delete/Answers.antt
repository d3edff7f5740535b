use Rattle.std.proofs.Common.{◌≡◌, List, ℕ, not, false, ap, ap₂, sym, ◌∙◌, ◌∷◌, [], ◌<◌, length, set, subst, Bool, Option, Some}
use Rattle.std.specs.Prelude.{slice_get, unwrap_or, option_map}
use Rattle.std.proofs.lemmas.Bool.{not_from_false}
use Rattle.std.proofs.lemmas.List.{map-set}
use Rattle.std.proofs.lemmas.Option.{slice_get-get_or}
use Rattle.esm_queue_model.specs.declared.stored.Stored.{Stored}
use Rattle.esm_queue_model.specs.Queue.{QueueState, after_deletion, deleted_once, is_deleted_at}
use Rattle.esm_queue.specs.Held.{Held}
use Rattle.esm_queue.specs.declared.moment_tree.TheConstants.{NEVER}
use Rattle.esm_queue.specs.Moments.{leaf, leaves}
use Rattle.esm_queue.specs.Links.{alive_at}
use Rattle.esm_queue.specs.Groups.{IsGrouped, IsHeadedBy}
use Rattle.esm_queue.proofs.Places.{alive_in}
use Rattle.esm_queue.proofs.Changing.{changed_one}
use Rattle.esm_queue.proofs.Keeping.{deleted_again}
use Rattle.esm_queue.proofs.queue.Queue.delete.Goals as goal

pub returns-then-index-clause-state : goal.returns-then-index-clause-state
returns-then-index-clause-state c =
    let q = c.self.inside in
    let of : List Stored → QueueState = λ ms. record { fifo = q.groups.fifo; visibility = q.visibility_ms; messages = ms } in
    let known : c.args.place < length q.messages.items = subst (λ (h : Held). c.args.place < length h.state.messages) (sym c.self.view_is) c.requires.known in
    ap (λ (h : Held). h.state) (sym c.self.view_is)
    ∙ (ap of (deleted_again q.messages.items c.args.place c.index.result.now known c.index.ensures c.if-index.true)
    ∙ ap (λ (h : Held). after_deletion (c.args.place ∷ []) h.state) c.self.view_is)

pub remove-requires-clause-alive : goal.remove-requires-clause-alive
remove-requires-clause-alive c =
    let xs = c.self.inside.messages.items in
    let x = c.index.result.now in
    let known : c.args.place < length xs = subst (λ (h : Held). c.args.place < length h.state.messages) (sym c.self.view_is) c.requires.known in
    let at : slice_get xs c.args.place ≡ Some x = slice_get-get_or xs c.args.place x known ∙ ap (λ (y : Stored). Some y) (sym c.index.ensures) in
    ap (λ (ms : List Stored). alive_at ms c.args.place) c.as_slice.ensures.value ∙ (ap alive_in at ∙ not_from_false x.deleted c.if-index.false)

pub invariant_of-self : goal.invariant_of-self
invariant_of-self c =
    let q = c.self.inside in
    let v = q.visibility_ms in
    let xs = q.messages.items in
    let p = c.args.place in
    let x = c.index_mut.result.now in
    let known : p < length xs = subst (λ (h : Held). p < length h.state.messages) (sym c.self.view_is) c.requires.known in
    let lent : c.as_slice.result.now ≡ xs = c.as_slice.ensures.value in
    let at : slice_get xs p ≡ Some x = slice_get-get_or xs p x known ∙ ap (λ (y : Stored). Some y) (sym c.index_mut.ensures.value) in
    let moments : leaves v (set xs p (deleted_once x)) ≡ set (leaves v xs) p NEVER = map-set (leaf v) xs p (deleted_once x) in
    record {
      few = c.self.invariant.few;
      shown = c.clear.ensures.moments ∙ (ap (λ (ms : List ℕ). set ms p NEVER) c.self.invariant.shown ∙ sym moments);
      grouped = subst (λ (ms : List Stored). IsGrouped (set ms p (deleted_once x)) c.remove.new.self) lent (c.remove.ensures.grouped x (ap (λ (ms : List Stored). slice_get ms p) lent ∙ at));
      headed = subst (λ (ms : List ℕ). IsHeadedBy ms c.remove.new.self) (ap (λ (ms : List Stored). set (leaves v ms) p NEVER) lent ∙ sym moments) c.remove.ensures.headed;
    }

pub returns-clause-answer : goal.returns-clause-answer
returns-clause-answer c =
    let q = c.self.inside in
    let x = c.index.result.now in
    let known : c.args.place < length q.messages.items = subst (λ (h : Held). c.args.place < length h.state.messages) (sym c.self.view_is) c.requires.known in
    let at : slice_get q.messages.items c.args.place ≡ Some x = slice_get-get_or q.messages.items c.args.place x known ∙ ap (λ (y : Stored). Some y) (sym c.index.ensures) in
    sym (not_from_false x.deleted c.if-index.false)
    ∙ (ap (λ (o : Option Stored). not (unwrap_or (option_map (λ (y : Stored). y.deleted) o) false)) (sym at)
    ∙ ap (λ (h : Held). not (is_deleted_at h.state c.args.place)) c.self.view_is)

pub returns-clause-state : goal.returns-clause-state
returns-clause-state c =
    let q = c.self.inside in
    let of : Bool → List Stored → QueueState = λ kind ms. record { fifo = kind; visibility = q.visibility_ms; messages = ms } in
    let known : c.args.place < length q.messages.items = subst (λ (h : Held). c.args.place < length h.state.messages) (sym c.self.view_is) c.requires.known in
    ap₂ of c.remove.ensures.kind (changed_one deleted_once q.messages.items c.args.place c.index_mut.result.now known c.index_mut.ensures.value)
    ∙ ap (λ (h : Held). after_deletion (c.args.place ∷ []) h.state) c.self.view_is
