use Rattle.std.proofs.Common.{◌≡◌, ◌∙◌, ◌++◌, ◌∷◌, [], List, suc, map, length, vec_len, rules, sym, ap, ap₂, subst, arith, append-nil}
use Rattle.std.specs.Vec.Iter.{into_iter_items}
use Rattle.esm_ledger.specs.Ledger.{past_of, setting_of}
use Rattle.esm_ingest.specs.declared.group.Group.{Group}
use Rattle.esm_ingest.specs.declared.parts.ShardRecords.{ShardRecords}
use Rattle.esm_ingest.specs.Parts.{part, parts_of}
use Rattle.esm_ingest.specs.Inside.{stream_in, AllFit, next_of_stream}
use Rattle.esm_ingest.proofs.Groups.{no_group}
use Rattle.esm_ingest.proofs.Partwise.{parts_from_streams, streams_fit, parts_can, parts_grow, part_more}
use Rattle.esm_ingest.proofs.parts.by_shard.Goals as goal

pub loop-group-init : goal.loop-group-init
loop-group-init c =
    let s = setting_of c.args.ledger.now in
    let h = past_of c.args.ledger.now in
    let rs = c.args.items.items in
    let gives = c.into_iter-group-iterator.ensures.into_iter_gives in
    let all : vec_len c.in_ok-groups.groups ≡ length c.in_ok-groups.groups.items = search rules in
    let same = ap (λ (xs : List Group). length xs) gives.0 in
    record {
      so_far = ap₂ (λ (ps : List ShardRecords) (gs : List Group). map part ps ++ map (next_of_stream s h) (map stream_in gs)) c.new-parts.ensures.items gives.0 ∙ (ap (map (next_of_stream s h)) c.in_ok-groups.ensures ∙ parts_from_streams s h rs);
      fit = subst (λ (gs : List Group). AllFit h (map stream_in gs)) (sym gives.0) (subst (AllFit h) (sym c.in_ok-groups.ensures) (streams_fit h rs c.requires.places));
      left = gives.1 ∙ (all ∙ sym same);
    }

pub part_of-requires-clause-few : goal.part_of-requires-clause-few
part_of-requires-clause-few c =
    let steps : into_iter_items c.loop-group.group-iterator ≡ c.in-Some.group ∷ into_iter_items c.next.new.self = c.in-Some.ensures.steps.0 in
    (subst (λ (gs : List Group). AllFit (past_of c.args.ledger.now) (map stream_in gs)) steps c.loop-group.invariant.fit).0

pub loop-group-preserved : goal.loop-group-preserved
loop-group-preserved c =
    let s = setting_of c.args.ledger.now in
    let h = past_of c.args.ledger.now in
    let at = c.loop-group in
    let inv = at.invariant in
    let x = c.in-Some.group in
    let steps : into_iter_items at.group-iterator ≡ x ∷ into_iter_items c.next.new.self = c.in-Some.ensures.steps.0 in
    let gone = c.in-Some.ensures.steps.1 in
    let short : length (into_iter_items at.group-iterator) ≡ suc (length (into_iter_items c.next.new.self)) = ap (λ (xs : List Group). length xs) steps in
    let left = inv.left in
    record {
      so_far = part_more s h at.parts.items c.push.new.self.items c.in_ok-made.made (stream_in x) (map stream_in (into_iter_items at.group-iterator)) (map stream_in (into_iter_items c.next.new.self)) (parts_of s h c.args.items.items)
          c.in_ok-push.ensures.items c.in_ok-made.ensures (ap (map stream_in) steps) inv.so_far;
      fit = (subst (λ (gs : List Group). AllFit h (map stream_in gs)) steps inv.fit).1;
      left = omega (arith, short, left, gone);
    }

pub returns : goal.returns
returns c =
    let s = setting_of c.args.ledger.now in
    let h = past_of c.args.ledger.now in
    let rs = c.args.items.items in
    let at = c.loop-group in
    let none = c.in-None.ensures.steps in
    let empty : into_iter_items at.group-iterator ≡ [] = no_group (into_iter_items at.group-iterator) (sym at.invariant.left ∙ none.0) in
    let whole : map part at.parts.items ≡ parts_of s h rs
    = sym (append-nil (map part at.parts.items)) ∙ (ap (λ (gs : List Group). map part at.parts.items ++ map (next_of_stream s h) (map stream_in gs)) (sym empty) ∙ at.invariant.so_far) in
    record {
      parts = whole;
      each = parts_can s h rs (map part at.parts.items) c.requires.places whole;
      streams = parts_grow s h rs (map part at.parts.items) s.streams whole;
    }
