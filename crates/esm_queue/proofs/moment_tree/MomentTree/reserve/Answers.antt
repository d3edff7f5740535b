use Rattle.std.proofs.Common.{◌≡◌, ℕ, List, ◌+◌, ◌-◌, ◌≤◌, take, drop, length, ap, ap₂, sym, ◌∙◌, arith, subst, length-drop}
use Rattle.std.specs.Prelude.{slice_index, ◌<◌}
use Rattle.std.proofs.lemmas.List.{length-take}
use Rattle.esm_queue.specs.Moments.{Moments}
use Rattle.esm_queue.proofs.Trees.{leaves_are}
use Rattle.esm_queue.proofs.moment_tree.MomentTree.reserve.Goals as goal

pub returns-clause-moments : goal.returns-clause-moments
returns-clause-moments c =
    let t = c.self.inside in
    let inv = c.self.invariant in
    let k : t.width + t.len - t.width ≡ t.len = omega arith in
    let old : List ℕ = take t.len (drop t.width t.nodes.items) in
    let is : take (t.width + t.len - t.width) (drop t.width c.deref.result.now) ≡ old = ap₂ (λ n xs. take n (drop t.width xs)) k c.deref.ensures.value in
    let sized : length old ≡ t.len = length-take t.len (drop t.width t.nodes.items) ∙ omega (arith, length-drop {A = ℕ} t.width t.nodes.items) in
    let e = c.in_ok-nodes.ensures in
    let leaves = subst (λ (xs : List ℕ). (i : ℕ) → i < length xs → slice_index c.in_ok-nodes.nodes.items (c.width_of-width.result + i) ≡ slice_index xs i) is e.leaves in
    let room : c.width_of-width.result + length old ≤ length c.in_ok-nodes.nodes.items = omega arith in
    ap (λ n. take n (drop c.width_of-width.result c.in_ok-nodes.nodes.items)) (sym sized)
    ∙ (leaves_are c.in_ok-nodes.nodes.items old c.width_of-width.result room leaves
    ∙ ap (λ (m : Moments). m.moments) c.self.view_is)
