use Rattle.std.proofs.Common.{◌≡◌, ℕ, ◌<◌, ◌≤◌, ◌&&◌, ◌==◌, cond, List, [], ◌∷◌, ◌++◌, length, set, refl, sym, ap, ◌∙◌, subst, arith, rules, Option}
use Rattle.std.specs.Prelude.{slice_index}
use Rattle.std.proofs.lemmas.List.{get_or_read}
use Rattle.esm_queue_model.specs.Queue.{is_group}
use Rattle.esm_queue.specs.declared.links.Link.{Link}
use Rattle.esm_queue.specs.declared.links.TheConstants.{NONE}
use Rattle.esm_queue.specs.Links.{group_at, last_at, with_last, with_next, head_moment}
use Rattle.esm_queue.specs.Names.{bucket_of, IsChained}
use Rattle.esm_queue.proofs.Linking.{Appended, appended_is}
use Rattle.esm_queue.proofs.Grouping.{Arrival, linked_append, founded_append}
use Rattle.esm_queue.proofs.Naming.{chained_append}
use Rattle.esm_queue.proofs.Heads.{headed_append}
use Rattle.esm_queue.proofs.groups.Groups.append.Goals as goal

made : (n f t e e' : ℕ) (size : ℕ) (links one two three : List Link) → size ≡ n → length links ≡ n → f ≤ n → one ≡ with_next links t size → two ≡ one ++ (record { founder = f; next = NONE; prev = t; last = NONE; earlier = e' }) ∷ [] → three ≡ with_last two f size → e' ≡ e → Appended n f t e links three
made n f t e e' size links one two three sized length_is low is1 is2 is3 is_e =
    subst (λ k. Appended n f t k links three) is_e
    (subst (λ (ls : List Link). Appended n f t e' links ls)
    (sym (is3 ∙ (ap (λ (ls : List Link). with_last ls f size) (is2 ∙ ap (λ (ls : List Link). ls ++ (record { founder = f; next = NONE; prev = t; last = NONE; earlier = e' }) ∷ []) is1)
    ∙ ap (λ k. with_last (with_next links t k ++ (record { founder = f; next = NONE; prev = t; last = NONE; earlier = e' }) ∷ []) f k) sized)))
    (appended_is n f t e' links length_is low))

pub returns-clause-grouped : goal.returns-clause-grouped
returns-clause-grouped c = λ x named fresh.
    let xs = c.args.messages.now in
    let links = c.args.self.now.links.items in
    let fifo = c.args.self.now.fifo in
    let buckets = c.args.self.now.buckets.items in
    let f = c.founder_for-founder.result in
    let t = c.last_of-prev.result in
    let b = c.bucket_of-bucket.result in
    let old = c.requires.grouped in
    let few = c.requires.few in
    let low : f ≤ length xs = c.founder_for-founder.ensures.low in
    let sized = old.chained.sized in
    let bucket_is : b ≡ bucket_of (length buckets) c.args.group.now = search rules in
    let within : b < length buckets = search rules in
    let earlier_is : c.index-earlier.result.now ≡ slice_index buckets b = get_or_read buckets b c.index-earlier.result.now within (search rules) 0 in
    let tail : t ≡ last_at links f = c.last_of-prev.ensures ∙ ap (λ (ls : List Link). last_at ls f) c.as_slice.ensures.value in
    let m : Appended (length xs) f t (slice_index buckets b) links c.set_last.new.links.items =
    made (length xs) f t (slice_index buckets b) c.index-earlier.result.now (length xs) links c.set_next.new.links.items c.push_reserved.new.self.items c.set_last.new.links.items refl old.founded.sized low c.set_next.ensures.items c.push_reserved.ensures.items c.set_last.ensures.items earlier_is in
    let a : Arrival fifo xs x f t (slice_index buckets b) links c.set_last.new.links.items = record {
      fresh = fresh;
      few = few;
      founded = old.founded;
      linked = old.linked;
      low = low;
      own = λ l. c.founder_for-founder.ensures.founder (omega arith);
      same = λ i l. ap (λ (g : Option (List ℕ)). fifo && is_group (group_at xs i) g) named ∙ c.founder_for-founder.ensures.same i (omega arith);
      tail = tail;
      made = m;
    } in
    let after : c.enter.new.buckets.items ≡ cond (f == length xs) (set buckets b (length xs)) buckets = c.enter.ensures in
    let chained : IsChained (length buckets) (xs ++ x ∷ []) c.set_last.new.links.items c.enter.new.buckets.items
    = chained_append (length buckets) xs x f t b links c.set_last.new.links.items buckets c.enter.new.buckets.items old.chained few low (bucket_is ∙ ap (λ (g : Option (List ℕ)). bucket_of (length buckets) g) (sym named)) within m after in
    record {
      founded = founded_append fifo xs x f t (slice_index buckets b) links c.set_last.new.links.items a;
      linked = linked_append fifo xs x f t (slice_index buckets b) links c.set_last.new.links.items a;
      chained = subst (λ n. IsChained n (xs ++ x ∷ []) c.set_last.new.links.items c.enter.new.buckets.items) (sym chained.sized) chained;
    }

pub returns-clause-headed : goal.returns-clause-headed
returns-clause-headed c = λ moments sized_moments h.
    let xs = c.args.messages.now in
    let links = c.args.self.now.links.items in
    let f = c.founder_for-founder.result in
    let t = c.last_of-prev.result in
    let old = c.requires.grouped in
    let low : f ≤ length xs = c.founder_for-founder.ensures.low in
    let e = c.index-earlier.result.now in
    let m : Appended (length xs) f t e links c.set_last.new.links.items =
    made (length xs) f t e e (length xs) links c.set_next.new.links.items c.push_reserved.new.self.items c.set_last.new.links.items refl old.founded.sized low c.set_next.ensures.items c.push_reserved.ensures.items c.set_last.ensures.items refl in
    let after : c.push.new.self.moments ≡ c.args.self.now.heads.moments ++ head_moment t 0 ∷ [] = c.push.ensures.moments ∙ ap (λ v. c.args.self.now.heads.moments ++ v ∷ []) c.head_moment.ensures in
    headed_append (length xs) f t e links c.set_last.new.links.items moments c.args.self.now.heads.moments c.push.new.self.moments sized_moments m after h
