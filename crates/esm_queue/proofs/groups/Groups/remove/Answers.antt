use Rattle.std.proofs.Common.{◌≡◌, ℕ, ◌<◌, ◌==◌, List, cond, length, set, sym, ap, ◌∙◌, subst, arith}
use Rattle.std.specs.Prelude.{slice_index}
use Rattle.std.proofs.lemmas.List.{get_or_read, length-set, length-map}
use Rattle.esm_queue_model.specs.declared.stored.Stored.{Stored}
use Rattle.esm_queue_model.specs.Queue.{deleted_once}
use Rattle.esm_queue.specs.declared.links.Link.{Link}
use Rattle.esm_queue.specs.declared.links.TheConstants.{NONE}
use Rattle.esm_queue.specs.declared.moment_tree.TheConstants.{NEVER}
use Rattle.esm_queue.specs.Links.{blank, link_at, founder_at, next_at, prev_at, with_next, with_prev, with_last, head_moment}
use Rattle.esm_queue.specs.Moments.{leaf, leaves}
use Rattle.esm_queue.proofs.Places.{alive_within, group_kept}
use Rattle.esm_queue.proofs.Linking.{Removed, removed_is}
use Rattle.esm_queue.proofs.Removing.{Removal, linked_remove, founded_same, chained_same}
use Rattle.esm_queue.proofs.Heads.{headed_remove}
use Rattle.esm_queue.proofs.groups.Groups.remove.Goals as goal

made : (n : ℕ) (l : Link) (g p : ℕ) (links one two three : List Link) → length links ≡ n → l ≡ link_at links p → one ≡ with_next links l.prev l.next → two ≡ with_prev one l.next l.prev → three ≡ with_last two g l.prev → Removed n (prev_at links p) (next_at links p) g links three
made n l g p links one two three sized is is1 is2 is3 =
    subst (λ (k : Link). Removed n k.prev k.next g links three) is
    (subst (λ (ls : List Link). Removed n l.prev l.next g links ls)
    (sym (is3 ∙ ap (λ (ls : List Link). with_last ls g l.prev) (is2 ∙ ap (λ (ls : List Link). with_prev ls l.next l.prev) is1)))
    (removed_is n l.prev l.next g links sized))

pub returns-clause-grouped : goal.returns-clause-grouped
returns-clause-grouped c = λ x at.
    let xs = c.args.messages.now in
    let g = c.args.self.now in
    let links = g.links.items in
    let p = c.args.place in
    let l = c.index.result.now in
    let new = c.set_last.new.links.items in
    let old = c.requires.grouped in
    let few = c.requires.few in
    let sized : length links ≡ length xs = old.founded.sized in
    let inside : p < length xs = alive_within xs p c.requires.alive in
    let low : p < length links = omega arith in
    let is : l ≡ link_at links p = get_or_read links p l low c.index.ensures blank in
    let last : c.shortened.result ≡ cond (next_at links p == NONE) (founder_at links p) NONE = c.shortened.ensures ∙ ap (λ (k : Link). cond (k.next == NONE) k.founder NONE) is in
    let m : Removed (length xs) (prev_at links p) (next_at links p) c.shortened.result links new =
    made (length xs) l c.shortened.result p links c.set_next.new.links.items c.set_prev.new.links.items new sized is c.set_next.ensures.items c.set_prev.ensures.items c.set_last.ensures.items in
    let r : Removal g.fifo xs p c.shortened.result links new = record { alive = c.requires.alive; few = few; founded = old.founded; linked = old.linked; last = last; made = m } in
    let ys : List Stored = set xs p (deleted_once x) in
    let size : length ys ≡ length xs = length-set xs p (deleted_once x) in
    record {
      founded = founded_same g.fifo xs ys links new size (m.size ∙ sym sized) (λ k. group_kept xs p k x at) m.founder_same old.founded;
      linked = linked_remove g.fifo xs x p c.shortened.result links new r;
      chained = chained_same (length g.buckets.items) xs ys links new g.buckets.items size (λ k. group_kept xs p k x at) m.founder_same m.earlier_same old.chained;
    }

pub returns-clause-headed : goal.returns-clause-headed
returns-clause-headed c =
    let xs = c.args.messages.now in
    let v = c.args.visibility_ms in
    let g = c.args.self.now in
    let links = g.links.items in
    let p = c.args.place in
    let l = c.index.result.now in
    let new = c.set_last.new.links.items in
    let old = c.requires.grouped in
    let few = c.requires.few in
    let sized : length links ≡ length xs = old.founded.sized in
    let inside : p < length xs = alive_within xs p c.requires.alive in
    let low : p < length links = omega arith in
    let is : l ≡ link_at links p = get_or_read links p l low c.index.ensures blank in
    let m : Removed (length xs) (prev_at links p) (next_at links p) c.shortened.result links new =
    made (length xs) l c.shortened.result p links c.set_next.new.links.items c.set_prev.new.links.items new sized is c.set_next.ensures.items c.set_prev.ensures.items c.set_last.ensures.items in
    let apart : next_at links p ≡ p → ⊥ = λ e. (let on = old.linked.next_is p c.requires.alive (λ none. omega arith) in let o0 = on.0 in omega arith) in
    let after : c.pass_head.new.heads.moments ≡ set (set g.heads.moments p NEVER) (next_at links p) (head_moment (prev_at links p) (slice_index (leaves v xs) (next_at links p)))
    = c.pass_head.ensures.moments ∙ (ap (λ (hs : List ℕ). set hs l.next (head_moment l.prev (slice_index (leaves v xs) l.next))) c.set.ensures.moments
    ∙ ap (λ (k : Link). set (set g.heads.moments p NEVER) k.next (head_moment k.prev (slice_index (leaves v xs) k.next))) is) in
    headed_remove (length xs) (prev_at links p) (next_at links p) c.shortened.result p links new (leaves v xs) g.heads.moments c.pass_head.new.heads.moments m (length-map xs (leaf v)) inside apart after c.requires.headed
