use Rattle.std.proofs.Common.{◌≡◌, ◌∙◌, ◌∷◌, List, suc, map, length, ap, subst, arith}
use Rattle.std.specs.Vec.Iter.{into_iter_items}
use Rattle.esm_model.specs.declared.entry.Entry.{Entry}
use Rattle.esm_model.specs.Setting.{Setting}
use Rattle.esm_ledger.specs.Ledger.{past_of, setting_of}
use Rattle.esm_ingest.specs.declared.parts.ShardRecords.{ShardRecords}
use Rattle.esm_ingest.specs.Parts.{part}
use Rattle.esm_stream_core.specs.Gathered.{CanTake}
use Rattle.esm_stream_core.proofs.Deciding.{moved}
use Rattle.esm_stream_core.proofs.Parts.{IsHalf, half_more, parts_taken, parts_apart, next_taken}
use Rattle.esm_stream_core.proofs.arriving.gather.Goals as goal

pub take-requires-clause-can : goal.take-requires-clause-can
take-requires-clause-can c =
    let a = c.args.ledger.now in
    let at = c.loop-next in
    let all = map part c.args.parts.items in
    let steps : into_iter_items at.next-iterator ≡ c.in-Some.next ∷ into_iter_items c.next.new.self = c.in-Some.ensures.steps.0 in
    let half = subst (λ (xs : List ShardRecords). IsHalf at.ledger c.args.moment all (map part xs) at.gathered) steps at.invariant.half in
    let can = parts_taken (setting_of a) (past_of a) all c.args.moment c.requires.may c.requires.bounds c.requires.kept.config in
    moved a at.ledger (λ (s : Setting) (h : List Entry). CanTake s h c.args.moment (part c.in-Some.next)) at.invariant.same
    (next_taken (setting_of a) (past_of a) c.args.moment at.ledger all (part c.in-Some.next) (map part (into_iter_items c.next.new.self)) at.gathered can half)

pub loop-next-preserved : goal.loop-next-preserved
loop-next-preserved c =
    let a = c.args.ledger.now in
    let at = c.loop-next in
    let inv = at.invariant in
    let m = c.args.moment in
    let all = map part c.args.parts.items in
    let steps : into_iter_items at.next-iterator ≡ c.in-Some.next ∷ into_iter_items c.next.new.self = c.in-Some.ensures.steps.0 in
    let gone = c.in-Some.ensures.steps.1 in
    let short : length (into_iter_items at.next-iterator) ≡ suc (length (into_iter_items c.next.new.self)) = ap (λ (xs : List ShardRecords). length xs) steps in
    let left = inv.left in
    let half = subst (λ (xs : List ShardRecords). IsHalf at.ledger m all (map part xs) at.gathered) steps inv.half in
    let ok = c.in_ok-take.ensures in
    record {
      same = record { keeps = ok.same.keeps; past = ok.same.past ∙ inv.same.past; setting = ok.same.setting ∙ inv.same.setting };
      room = λ n room. ok.room n (inv.room n room);
      shards = λ n room. ok.shards n (inv.shards n room);
      half = half_more at.ledger c.take.new.ledger m all (part c.in-Some.next) (map part (into_iter_items c.next.new.self)) at.gathered c.take.new.self
          (parts_apart (setting_of a) (past_of a) all m c.requires.may) half ok.elsewhere ok.coming ok.came ok.filtered;
      left = omega (arith, short, left, gone);
    }

pub returns-in_err-take-clause-room : goal.returns-in_err-take-clause-room
returns-in_err-take-clause-room c = λ n room. c.in_err-take.ensures.room n (c.loop-next.invariant.room n room)

pub returns-in_err-take-clause-shards : goal.returns-in_err-take-clause-shards
returns-in_err-take-clause-shards c = λ n room. c.in_err-take.ensures.shards n (c.loop-next.invariant.shards n room)
