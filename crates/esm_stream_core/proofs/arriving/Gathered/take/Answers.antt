use Rattle.std.proofs.Common.{◌≡◌, ◌∙◌, ◌++◌, ◌∷◌, [], ℕ, List, length, sym, ap, ap₂, subst, rules}
use Rattle.std.specs.Prelude.{All}
use Rattle.esm_model.specs.Records.{Record}
use Rattle.esm_ledger.specs.declared.coming.Coming.{Coming}
use Rattle.esm_ledger.specs.Ledger.{setting_of}
use Rattle.esm_ledger.specs.Coming.{TellsPassing}
use Rattle.esm_model.specs.Setting.{Stream}
use Rattle.esm_ingest.specs.Parts.{part, refused_from}
use Rattle.esm_stream_core.specs.declared.arriving.Gathered.{Gathered}
use Rattle.esm_stream_core.specs.Gathered.{IsFrom, filtered_owed}
use Rattle.esm_stream_core.proofs.Places.{refused_within, tells_passing}
use Rattle.esm_stream_core.proofs.Parts.{filtered_more, filtered_none}
use Rattle.esm_stream_core.proofs.arriving.Gathered.take.Goals as goal
use Rattle.esm_stream_core.proofs.arriving.Gathered.take.Goals.{then-not-is_empty+in_ok-gift+in_ok-push, else-not-is_empty}

pub passing_of-requires : goal.passing_of-requires
passing_of-requires c =
    let p = c.args.next in
    let s = setting_of c.args.ledger.now in
    let count : c.len-count.result ≡ length c.args.next.records.items = search rules in
    let places : c.as_slice.result.now ≡ refused_from s p.shard p.first p.records.items = c.as_slice.ensures ∙ c.requires.can.refused in
    subst (λ (n : ℕ). All (IsFrom p.first n) c.as_slice.result.now) (sym count)
    (subst (All (IsFrom p.first (length p.records.items))) (sym places) (refused_within s p.shard p.first p.records.items))

pub filtered-requires-clause-within : goal.filtered-requires-clause-within
filtered-requires-clause-within c =
    let p = c.args.next in
    let s = setting_of c.args.ledger.now in
    subst (λ (rs : List Record). All (IsFrom p.first (length rs)) p.refused) (sym c.as_slice-then-not-is_empty.ensures.value)
    (subst (All (IsFrom p.first (length p.records.items))) (sym c.requires.can.refused) (refused_within s p.shard p.first p.records.items))

pub prepare_came-requires-clause-passing : goal.prepare_came-requires-clause-passing
prepare_came-requires-clause-passing c =
    let p = c.args.next in
    let s = setting_of c.args.ledger.now in
    let count : c.len-count.result ≡ length c.args.next.records.items = search rules in
    let places : c.as_slice.result.now ≡ refused_from s p.shard p.first p.records.items = c.as_slice.ensures ∙ c.requires.can.refused in
    let passing = c.in_ok-passing.passing.items in
    let tells = tells_passing s p.shard p.first c.len-count.result p.records.items c.as_slice.result.now passing places count c.in_ok-passing.ensures.all c.in_ok-passing.ensures.each in
    subst (TellsPassing s p.shard _ p.records.items) (sym c.as_slice-3.ensures.value)
    (subst (λ (n : ℕ). TellsPassing s p.shard n p.records.items passing) c.requires.can.can.first tells)

pub returns-clause-coming : goal.returns-clause-coming
returns-clause-coming c =
    let x = c.in_ok-coming.coming in
    let before : c.if-not-is_empty.self.coming.items ≡ c.args.self.now.coming.items = elim c.if-not-is_empty.branch [
      | then-not-is_empty+in_ok-gift+in_ok-push w ↦ ap (λ (g : Gathered). g.coming.items) w.self-is
      | else-not-is_empty w ↦ ap (λ (g : Gathered). g.coming.items) w.self-is
    ] in
    record {
      item = x;
      items = c.in_ok-push-2.ensures.items ∙ ap (λ (xs : List Coming). xs ++ x ∷ []) before;
      coming = c.in_ok-coming.ensures.ok;
      part = ap₂ (λ (n : ℕ) (rs : List Record). let t : Stream = record { shard = n; records = rs } in t) c.in_ok-coming.ensures.shard c.in_ok-coming.ensures.records;
    }

pub returns-clause-filtered : goal.returns-clause-filtered
returns-clause-filtered c =
    let m = c.args.moment in
    let p = part c.args.next in
    let old = c.args.self.now.filtered.items in
    elim c.if-not-is_empty.branch [
      | then-not-is_empty+in_ok-gift+in_ok-push w ↦
          filtered_more m p c.as_slice-2.result.now c.is_empty.result w.in_ok-gift.gift old c.if-not-is_empty.self.filtered.items c.as_slice-2.ensures c.is_empty.ensures w.if-not-is_empty.true
          (w.in_ok-gift.ensures ∙ ap (λ (rs : List Record). filtered_owed m (record { shard = c.args.next.shard; first = c.args.next.first; records = rs; refused = c.args.next.refused })) w.as_slice-then-not-is_empty.ensures.value)
          (ap (λ (g : Gathered). g.filtered.items) w.self-is ∙ w.in_ok-push.ensures.items)
      | else-not-is_empty w ↦
          filtered_none m p c.as_slice-2.result.now c.is_empty.result old c.if-not-is_empty.self.filtered.items c.as_slice-2.ensures c.is_empty.ensures w.if-not-is_empty.false
          (ap (λ (g : Gathered). g.filtered.items) w.self-is)
    ]
