use Rattle.std.proofs.Common.{◌≡◌, ℕ, ◌<◌, ◌≤◌, ◌&&◌, ◌||◌, ◌==◌, not, ◌++◌, ◌∷◌, [], Bool, length, length-append, sym, ap, ◌∙◌, arith, rules}
use Rattle.std.specs.Ordering.{nat_cmp}
use Rattle.std.specs.BTreeSet.{contains}
use Rattle.std.proofs.lemmas.List.{get_or_read}
use Rattle.esm_queue_model.specs.Queue.{is_eligible}
use Rattle.esm_queue.specs.declared.links.Link.{Link}
use Rattle.esm_queue.specs.Links.{blank, link_at, next_at}
use Rattle.esm_queue.specs.Moments.{leaves}
use Rattle.esm_queue.specs.Waiting.{is_place, next_shown}
use Rattle.esm_queue.proofs.Fronts.{filter_next, front_full, front_whole}
use Rattle.esm_queue.proofs.Eligible.{Chain, queue_of}
use Rattle.esm_queue.proofs.Waiting.{Front, front_some, front_none, waits_more}
use Rattle.esm_queue.proofs.fifo.first_places.Goals as goal

pub returns-in-None : goal.returns-in-None
returns-in-None c =
    let g = c.args.groups.now in
    let xs = c.args.messages.now in
    let v = c.args.visibility_ms in
    let m = c.args.now in
    let links = g.links.items in
    let heads = g.heads.moments in
    let inv = c.loop-waiting.invariant in
    let from = c.loop-waiting.from in
    let w : ℕ → Bool = contains nat_cmp c.loop-waiting.waiting in
    let chain : Chain g.fifo v m xs links heads = record { early = c.requires.early; few = c.requires.few; founded = c.requires.grouped.founded; linked = c.requires.grouped.linked; headed = c.requires.headed } in
    front_whole (is_eligible (queue_of g.fifo v xs) m) from (length xs) c.args.max c.loop-waiting.places.items inv.within inv.so_far inv.few
    (front_none g.fifo v m xs links heads from w c.first_from.result chain inv.waits c.first_from.ensures.none c.in-None.ensures)

pub loop-waiting-preserved : goal.loop-waiting-preserved
loop-waiting-preserved c =
    let g = c.args.groups.now in
    let xs = c.args.messages.now in
    let v = c.args.visibility_ms in
    let m = c.args.now in
    let links = g.links.items in
    let heads = g.heads.moments in
    let inv = c.loop-waiting.invariant in
    let from = c.loop-waiting.from in
    let p = c.in-Some.place in
    let places = c.loop-waiting.places.items in
    let w : ℕ → Bool = contains nat_cmp c.loop-waiting.waiting in
    let test = is_eligible (queue_of g.fifo v xs) m in
    let chain : Chain g.fifo v m xs links heads = record { early = c.requires.early; few = c.requires.few; founded = c.requires.grouped.founded; linked = c.requires.grouped.linked; headed = c.requires.headed } in
    let least = c.in-Some.ensures in
    let f : Front g.fifo v m xs from p = front_some g.fifo v m xs links heads from p w c.first_from.result chain inv.waits c.first_from.ensures.none c.first_from.ensures.some least in
    let inside = f.within in
    let sized = c.requires.grouped.founded.sized in
    let l = c.index.result.now in
    let is : l ≡ link_at links p = get_or_read links p l (omega arith) c.index.ensures blank in
    let next : c.next_shown-next.result ≡ next_shown m (leaves v xs) (next_at links p) = c.next_shown-next.ensures ∙ ap (λ (k : Link). next_shown m (leaves v xs) k.next) is in
    let passed : (k : ℕ) → contains nat_cmp c.pass.new.waiting k ≡ (is_place (next_shown m (leaves v xs) (next_at links p)) k || (w k && not (k == p)))
    = λ k. c.in_ok-pass-in-Some.ensures k ∙ ap (λ o. is_place o k || (w k && not (k == p))) next in
    let items : c.push.new.self.items ≡ places ++ p ∷ [] = c.in_ok-push-in-Some.ensures.items in
    let size = ap length items ∙ length-append places (p ∷ []) in
    let room : length places < c.args.max = search rules in
    record {
      within = omega arith;
      few = omega arith;
      so_far = items ∙ (ap (λ ys. ys ++ p ∷ []) inv.so_far ∙ sym (filter_next test from p f.not_before f.none f.given));
      waits = waits_more g.fifo v m xs links heads from p w (contains nat_cmp c.pass.new.waiting) chain inv.waits f least.2 passed;
    }

pub returns : goal.returns
returns c =
    let g = c.args.groups.now in
    let xs = c.args.messages.now in
    let inv = c.loop-waiting.invariant in
    let few = inv.few in
    let many : c.args.max ≤ length c.loop-waiting.places.items = search rules in
    front_full (is_eligible (queue_of g.fifo c.args.visibility_ms xs) c.args.now) c.loop-waiting.from (length xs) c.args.max c.loop-waiting.places.items inv.within inv.so_far (omega arith)
