-- A list of records that comes to a legal and settled history.
use Rattle.std.proofs.Common.{◌≡◌, ℕ, zero, suc, ◌+◌, false, List, [], ◌∷◌, ◌++◌, length, refl, sym, ap, ◌∙◌, subst, inl, inr, append_assoc, Some, None}
use Rattle.std.specs.Prelude.{◌==◌, slice_get}
use Rattle.std.proofs.lemmas.Bool.{cases_Bool, or_from}
use Rattle.esm_model.specs.Records.{Record}
use Rattle.esm_model.specs.declared.entry.Entry.{Entry}
use Rattle.esm_model.specs.Setting.{Setting, Stream, Extends, over, records_in}
use Rattle.esm_model.specs.Entries.{holds, came_count}
use Rattle.esm_model.specs.Step.{Legal}
use Rattle.esm_model.specs.Owed.{unsorted}
use Rattle.esm_model.proofs.Lists.{Distinct}
use Rattle.esm_ledger.specs.Coming.{with_list}
use Rattle.esm_ingest.specs.Coming.{with_records}
use Rattle.esm_ingest.specs.Parts.{Part, parts_of, grown_by}
use Rattle.esm_ingest.specs.Changes.{kept_otherwise}
use Rattle.esm_ingest.specs.Entries.{with_entries, came_part, came_parts, filtered_parts, arrival_entries}
use Rattle.esm_ingest.specs.Sound.{MayArrive, PartsCome, ArrivalIsLegal, ArrivalIsSettled, RefusedAreUnsorted, PartsAreKept}
use Rattle.esm_ingest.proofs.Places.{shards, Every, every_both, every_front, every_at, distinct_front, IsPartOf, parts_are, parts_distinct, Stands, in_list, parts_stand, stands_within}
use Rattle.esm_ingest.proofs.Shards.{or_off, apart_back}
use Rattle.esm_ingest.proofs.Streams.{grown_parts}
use Rattle.esm_ingest.proofs.Unchanged.{unchanged_at, part_kept}
use Rattle.esm_ingest.proofs.Arriving.{Comes, after_parts, parts_legal, debts_after, last_some, count_off, count_after, unsorted_off, unsorted_part, refused_over}
use Rattle.esm_ingest.proofs.Filtering.{entries_append, legal_front, IsSettledBy, parts_filtered}

-- the streams go on

get_left : (xs ys : List Record) (i : ℕ) (r : Record) → slice_get xs i ≡ Some r → slice_get (xs ++ ys) i ≡ Some r
get_left [] ys i r at = cc
get_left (x ∷ xs) ys zero r at = at
get_left (x ∷ xs) ys (suc i) r at = get_left xs ys i r at

list_extends : (ts : List Stream) (n : ℕ) (xs : List Record) → Extends ts (with_list ts n xs)
list_extends ts n xs k i r at = subst (λ (ys : List Record). slice_get ys i ≡ Some r) (sym (in_list ts n xs k)) (elim (cases_Bool (n == k)) [
  | inl same ↦ rw same (get_left (records_in ts k) xs i r at)
  | inr off ↦ rw off at
])

grown_extends : (ts : List Stream) (ps : List Part) → Extends ts (grown_by ts ps)
grown_extends ts [] n i r at = at
grown_extends ts (p ∷ ps) n i r at = grown_extends (with_list ts p.shard p.records) ps n i r (list_extends ts p.shard p.records n i r at)

-- each of the first parts may come, over lists that go on from those with them

module _ (s : Setting) (h : List Entry) (rs : List Record) (m : ℕ) (may : MayArrive s h rs m) where
  kept_part : (p : Part) → IsPartOf s h rs p → (k : ℕ) (r : Record) → slice_get p.records k ≡ Some r → kept_otherwise s p.shard (p.first + k) r.seq ≡ None
  kept_part p is k r at =
      subst (λ (c : ℕ). kept_otherwise s p.shard (c + k) r.seq ≡ None) (sym is.first)
      (unchanged_at s h rs may.unchanged p.shard k r (subst (λ (xs : List Record). slice_get xs k ≡ Some r) is.records at))

  parts_may : (ps : List Part) (streams : List Stream) → Distinct (shards ps) → Every (IsPartOf s h rs) ps → Extends (grown_by s.streams ps) streams → Every (Comes (over s streams) h) ps
  parts_may ps streams d are goes =
      every_both (Stands (over s streams)) (IsPartOf s h rs) (Comes (over s streams) h) ps
      (λ p stands is. record {
        first = is.first;
        some = is.some;
        within = stands_within (over s streams) p is.some stands;
        kept = part_kept (over s streams) p stands (kept_part p is);
      })
      (parts_stand s h rs ps streams may.all d are goes) are

  legal_so_far : (ps : List Part) (streams : List Stream) → Distinct (shards ps) → Every (IsPartOf s h rs) ps → Extends (grown_by s.streams ps) streams → Legal (over s streams) (after_parts h m ps)
  legal_so_far ps streams d are goes =
      parts_legal (over s streams) h m ps (may.legal streams (λ n i r at. goes n i r (grown_extends s.streams ps n i r at))) may.going may.later d (parts_may ps streams d are goes)

  grown_last : (ts : List Stream) (ps : List Part) (p : Part) → grown_by ts (ps ++ p ∷ []) ≡ with_list (grown_by ts ps) p.shard p.records
  grown_last ts [] p = refl
  grown_last ts (q ∷ ps) p = grown_last (with_list ts q.shard q.records) ps p

  came_last : (g : List Entry) (ps : List Part) (p : Part) → after_parts g m (ps ++ p ∷ []) ≡ came_part m p ∷ after_parts g m ps
  came_last g [] p = refl
  came_last g (q ∷ ps) p = came_last (came_part m q ∷ g) ps p

  front_of : (before : List Part) (p : Part) (left : List Part) → before ++ p ∷ left ≡ parts_of s h rs → (before ++ p ∷ []) ++ left ≡ parts_of s h rs
  front_of before p left is = append_assoc before (p ∷ []) left ∙ is

  all_are : (before : List Part) (p : Part) (left : List Part) → before ++ p ∷ left ≡ parts_of s h rs → Every (IsPartOf s h rs) (before ++ p ∷ left)
  all_are before p left is = subst (Every (IsPartOf s h rs)) (sym is) (parts_are s h rs)

  no_shard : (before : List Part) (p : Part) (left : List Part) → Distinct (shards (before ++ p ∷ left)) → holds (shards before) p.shard ≡ false
  no_shard [] p left d = refl
  no_shard (q ∷ before) p left d = or_from (q.shard == p.shard) (holds (shards before) p.shard) (off_at before d.0) (no_shard before p left d.1)
    where
      off_at : (xs : List Part) → holds (shards (xs ++ p ∷ left)) q.shard ≡ false → (q.shard == p.shard) ≡ false
      off_at [] none = apart_back p.shard q.shard (or_off (p.shard == q.shard) (holds (shards left) q.shard) none).0
      off_at (x ∷ xs) none = off_at xs (or_off (x.shard == q.shard) (holds (shards (xs ++ p ∷ left)) q.shard) none).1

  pub comes_next : PartsCome s h rs m
  comes_next before p left is =
      let whole = front_of before p left is in
      let ps = before ++ p ∷ [] in
      let d : Distinct (shards (before ++ p ∷ [])) = distinct_front (before ++ p ∷ []) left (subst (λ (qs : List Part). Distinct (shards qs)) (sym whole) (parts_distinct s h rs)) in
      let are : Every (IsPartOf s h rs) (before ++ p ∷ []) = every_front (IsPartOf s h rs) (before ++ p ∷ []) left (subst (Every (IsPartOf s h rs)) (sym whole) (parts_are s h rs)) in
      let part = every_at (IsPartOf s h rs) before p left (all_are before p left is) in
      record {
        first = part.first ∙ sym (count_off h m before p.shard (no_shard before p left (subst (λ (qs : List Part). Distinct (shards qs)) (sym is) (parts_distinct s h rs))));
        legal = λ streams goes. subst (Legal (over s streams)) (came_last h before p)
            (legal_so_far ps streams d are (subst (λ (ts : List Stream). Extends ts streams) (sym (grown_last s.streams before p)) goes));
      }

  -- all parts

  module _ (streams : List Stream) (goes : Extends (with_records s.streams rs) streams) where
    parts_go : Extends (grown_by s.streams (parts_of s h rs)) streams
    parts_go = subst (λ (ts : List Stream). Extends ts streams) (sym (grown_parts s h rs s.streams)) goes

    own_go : Extends s.streams streams
    own_go n i r at = parts_go n i r (grown_extends s.streams (parts_of s h rs) n i r at)

    stand : Every (Stands (over s streams)) (parts_of s h rs)
    stand = parts_stand s h rs (parts_of s h rs) streams may.all (parts_distinct s h rs) (parts_are s h rs) parts_go

    legal_parts : Legal (over s streams) (after_parts h m (parts_of s h rs))
    legal_parts = legal_so_far (parts_of s h rs) streams (parts_distinct s h rs) (parts_are s h rs) parts_go

    sorted_before : (n : ℕ) → unsorted (over s streams) h n ≡ []
    sorted_before n = (may.settled streams own_go).sorted n

    pub unsorted_parts : Every (λ (p : Part). unsorted (over s streams) (after_parts h m (parts_of s h rs)) p.shard ≡ p.refused) (parts_of s h rs)
    unsorted_parts =
        every_both (λ (p : Part). came_count (after_parts h m (parts_of s h rs)) p.shard ≡ length p.records + came_count h p.shard) (λ (p : Part). IsPartOf s h rs p × Stands (over s streams) p) (λ (p : Part). unsorted (over s streams) (after_parts h m (parts_of s h rs)) p.shard ≡ p.refused) (parts_of s h rs)
        (λ p count is.
        unsorted_part (over s streams) h m (parts_of s h rs) p (may.legal streams own_go) (sorted_before p.shard) is.0.first is.1 count
        ∙ (refused_over s streams p.shard p.first p.records ∙ sym is.0.refused))
        (count_after h m (parts_of s h rs) (parts_distinct s h rs))
        (every_both (IsPartOf s h rs) (Stands (over s streams)) (λ (p : Part). IsPartOf s h rs p × Stands (over s streams) p) (parts_of s h rs) (λ p is stands. (is, stands)) (parts_are s h rs) stand)

    pub all_settled : IsSettledBy (over s streams) (with_entries h (arrival_entries s h rs m))
    all_settled =
        subst (IsSettledBy (over s streams)) (sym (entries_append h (came_parts m (parts_of s h rs)) (filtered_parts m (parts_of s h rs))))
        (parts_filtered (over s streams) (after_parts h m (parts_of s h rs)) m (parts_of s h rs) legal_parts
        (λ some. last_some h m (parts_of s h rs) some) may.later.within (parts_distinct s h rs) unsorted_parts
        (λ n none. unsorted_off (over s streams) h m (parts_of s h rs) n none ∙ sorted_before n)
        (λ lane. debts_after (over s streams) h m (parts_of s h rs) lane ∙ (may.settled streams own_go).paid lane))

  split_entries : (before : List Entry) (e : Entry) (left : List Entry) → with_entries h (before ++ e ∷ left) ≡ with_entries (e ∷ with_entries h before) left
  split_entries before e left = entries_append h before (e ∷ left)

  pub arrives_legally : ArrivalIsLegal s h rs m
  arrives_legally before e left is = λ streams goes.
      legal_front (over s streams) (e ∷ with_entries h before) left
      (subst (Legal (over s streams)) (sym (ap (with_entries h) is) ∙ split_entries before e left) (all_settled streams goes).legal)

  pub arrives_settled : ArrivalIsSettled s h rs m
  arrives_settled = λ streams goes. (all_settled streams goes).settled

  pub refused_unsorted : RefusedAreUnsorted s h rs m
  refused_unsorted before p left is =
      let own = with_records s.streams rs in
      let all = unsorted_parts (with_records s.streams rs) (λ n i r at. at) in
      sym (every_at (λ (q : Part). unsorted (over s own) (after_parts h m (parts_of s h rs)) q.shard ≡ q.refused) before p left
      (subst (Every (λ (q : Part). unsorted (over s own) (after_parts h m (parts_of s h rs)) q.shard ≡ q.refused)) (sym is) all))

  pub all_kept : PartsAreKept s h rs
  all_kept before p left is streams goes =
      (every_at (Comes (over s streams) h) before p left (subst (Every (Comes (over s streams) h)) (sym is)
      (parts_may (parts_of s h rs) streams (parts_distinct s h rs) (parts_are s h rs) (parts_go streams goes)))).kept
