use Rattle.std.proofs.Common.{◌≡◌, ◌+◌, ◌<◌, length, get_or, true, false, ap, sym, subst, ◌∙◌, arith}
use Rattle.esm_shard_index.specs.FateCounts.{total, count_in}
use Rattle.esm_shard_index.specs.Progress.{Tally, front_of}
use Rattle.esm_shard_index.proofs.Tallies.{number_short, front-set, number-set, total-with_one, count-with_one}
use Rattle.std.proofs.lemmas.List.{get_or_default}
use Rattle.std.proofs.Math.ListN.{length-set}
use Rattle.esm_shard_index.proofs.progress.Progress.give_one.Goals as goal

pub plus-self-inside-requires : goal.plus-self-inside-requires
plus-self-inside-requires c =
    let low : c.args.place < length c.self.inside.fated.items = subst (λ (v : Tally). c.args.place < length v.fated) (sym c.self.view_is) c.requires.came in
    let none : get_or c.self.inside.fated.items c.args.place false ≡ false =
    get_or_default c.self.inside.fated.items c.args.place false c.index.result.now low ∙ sym c.index.ensures ∙ c.if-index.false in
    omega (arith, number_short c.self.inside.fated.items c.args.place low none)

pub frontier_from-self-inside-requires-clause-known : goal.frontier_from-self-inside-requires-clause-known
frontier_from-self-inside-requires-clause-known c =
    rw c.as_slice.ensures.value (omega (arith, front-set c.self.inside.fated.items c.args.place))

pub invariant_of-self : goal.invariant_of-self
invariant_of-self c =
    let low : c.args.place < length c.self.inside.fated.items = subst (λ (v : Tally). c.args.place < length v.fated) (sym c.self.view_is) c.requires.came in
    let none : get_or c.self.inside.fated.items c.args.place false ≡ false =
    get_or_default c.self.inside.fated.items c.args.place false c.index.result.now low ∙ sym c.index.ensures ∙ c.if-index.false in
    record {
      front = c.frontier_from-self-inside.ensures ∙ ap front_of c.as_slice.ensures.value;
      all = (let counted : total c.plus-self-inside.result ≡ total c.self.inside.counts + 1 = ap total c.plus-self-inside.ensures ∙ total-with_one c.self.inside.counts c.args.fate in
          omega (arith, number-set c.self.inside.fated.items c.args.place low none));
      few = omega (arith, length-set c.self.inside.fated.items c.args.place true);
    }

pub returns-clause-given : goal.returns-clause-given
returns-clause-given c =
    let low : c.args.place < length c.self.inside.fated.items = subst (λ (v : Tally). c.args.place < length v.fated) (sym c.self.view_is) c.requires.came in
    let none : get_or c.self.inside.fated.items c.args.place false ≡ false =
    get_or_default c.self.inside.fated.items c.args.place false c.index.result.now low ∙ sym c.index.ensures ∙ c.if-index.false in
    let counted : count_in c.plus-self-inside.result c.args.fate ≡ count_in c.self.inside.counts c.args.fate + 1 =
    ap (λ x. count_in x c.args.fate) c.plus-self-inside.ensures ∙ count-with_one c.self.inside.counts c.args.fate in
    rw (← c.self.view_is) (omega (arith, number-set c.self.inside.fated.items c.args.place low none))
