use Rattle.std.proofs.Common.{◌≡◌, ◌∙◌, ◌+◌, ℕ, Bool, List, [], length, get_or, arith, sym, ap, subst, inl, inr}
use Rattle.std.specs.Prelude.{◌==◌}
use Rattle.std.specs.Ordering.{nat_cmp}
use Rattle.std.specs.BTreeMap.{get}
use Rattle.std.proofs.lemmas.Bool.{cases_Bool, eqb-true}
use Rattle.esm_model.specs.Records.{Record}
use Rattle.esm_replay.specs.Records.{names, are_named, setting_with}
use Rattle.esm_replay.specs.Rows.{count_in, came_in, IsGrownAt, IsRowAt}
use Rattle.esm_replay.proofs.Naming.{named_at}
use Rattle.esm_replay.proofs.Gathering.{count_within, row_grows, row_stays, came_grows, came_stays}
use Rattle.esm_replay.proofs.rows.rows_of.Goals as goal

pub add-requires : goal.add-requires
add-requires c =
    let item : Record = c.index-records-i.result in
    let came : came_in (get nat_cmp c.loop-i.rows item.shard) ≡ count_in item.shard c.args.records.now c.loop-i.i = c.loop-i.invariant.came item.shard in
    let within = count_within item.shard c.args.records.now c.loop-i.i in
    rw c.shard.ensures (omega (arith, came, within, c.loop-i-test.true, c.requires.few))

pub loop-i-preserved : goal.loop-i-preserved
loop-i-preserved c =
    let rs : List Record = c.args.records.now in
    let i : ℕ = c.loop-i.i in
    let item : Record = c.index-records-i.result in
    let is_named : Bool = c.named_at-is_named.result in
    let came = c.loop-i.invariant.came item.shard in
    record {
      came = λ q. elim (cases_Bool (item.shard == q)) [
        | inl same ↦ subst (λ (n : ℕ). came_in (get nat_cmp c.add.new.rows n) ≡ count_in n rs (i + 1)) (eqb-true item.shard q same)
            (came_grows is_named rs i item (get nat_cmp c.loop-i.rows item.shard) (get nat_cmp c.add.new.rows item.shard) c.loop-i-test.true c.index-records-i.is came (rw c.shard.ensures at c.in_ok-add.ensures.here))
        | inr other ↦ came_stays rs i q item (get nat_cmp c.loop-i.rows q) (get nat_cmp c.add.new.rows q) c.loop-i-test.true c.index-records-i.is other (c.in_ok-add.ensures.others q (rw c.shard.ensures other)) (c.loop-i.invariant.came q)
      ];
      rows = λ told ranges are config calls q.
          let at : is_named ≡ get_or (are_named told ranges [] rs) i is_named = c.named_at-is_named.ensures ∙ ap (λ (bs : List Bool). get_or bs i is_named) are in
          let test : is_named ≡ names told ranges item (came_in (get nat_cmp c.loop-i.rows item.shard)) = named_at told ranges [] rs i item is_named c.loop-i-test.true c.index-records-i.is at ∙ ap (names told ranges item) (sym came) in
          elim (cases_Bool (item.shard == q)) [
            | inl same ↦ subst (λ (n : ℕ). IsRowAt (setting_with config calls told ranges rs) rs n (count_in n rs (i + 1)) (get nat_cmp c.add.new.rows n)) (eqb-true item.shard q same)
                (row_grows config calls told ranges rs i item (get nat_cmp c.loop-i.rows item.shard) (get nat_cmp c.add.new.rows item.shard) c.loop-i-test.true c.index-records-i.is (c.loop-i.invariant.rows told ranges are config calls item.shard)
                (subst (λ (b : Bool). IsGrownAt b i (get nat_cmp c.loop-i.rows item.shard) (get nat_cmp c.add.new.rows item.shard)) test (rw c.shard.ensures at c.in_ok-add.ensures.here)))
            | inr other ↦ row_stays config calls told ranges rs i q item (get nat_cmp c.loop-i.rows q) (get nat_cmp c.add.new.rows q) c.loop-i-test.true c.index-records-i.is other (c.in_ok-add.ensures.others q (rw c.shard.ensures other)) (c.loop-i.invariant.rows told ranges are config calls q)
          ];
    }

pub returns : goal.returns
returns c = λ told ranges are config calls q.
    let rs : List Record = c.args.records.now in
    let ended : c.loop-i.i ≡ length rs = omega (arith, c.loop-i-test.false) in
    subst (λ (k : ℕ). IsRowAt (setting_with config calls told ranges rs) rs q (count_in q rs k) (get nat_cmp c.loop-i.rows q)) ended (c.loop-i.invariant.rows told ranges are config calls q)
