use Rattle.std.proofs.Common.{refl, arith}
use Rattle.std.specs.BTreeMap.{is_at}
use Rattle.esm_journal_state.specs.Table.{known_in, pair_cmp}
use Rattle.esm_journal_state.proofs.Fresh.{first_to_last, empty_lookup, none_spent}
use Rattle.esm_journal_state.proofs.judge.are_new.Goals as goal

pub none_between-requires : goal.none_between-requires
none_between-requires c = first_to_last c.args.places.now (omega (arith, c.if-places-lt2.false)) c.requires

pub returns : goal.returns
returns c = λ yes texts.
    none_spent (known_in c.args.table.now) c.args.shard c.args.places.now texts (omega (arith, c.if-places-lt2.false)) c.requires
    (c.none_between.ensures yes) (λ i. empty_lookup (is_at (pair_cmp (c.args.shard, i))) c.args.table.now.tries.entries (c.if-not-is_empty.ensures.0 refl))
