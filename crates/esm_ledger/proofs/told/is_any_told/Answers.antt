use Rattle.std.proofs.Common.{◌≡◌, ◌∙◌, ◌<◌, length, sym, arith}
use Rattle.esm_ledger.proofs.Untold.{none_listed, some_listed, untold}
use Rattle.esm_ledger.proofs.told.is_any_told.Goals as goal

pub returns-in-empty-clause-fates : goal.returns-in-empty-clause-fates
returns-in-empty-clause-fates c = λ is n.
    let empty : length c.shards.result.now ≡ 0 = omega arith in
    (untold c.args.found.now n (sym (c.shards.ensures.all n) ∙ none_listed c.shards.result.now n empty)).0

pub returns-in-empty-clause-tries : goal.returns-in-empty-clause-tries
returns-in-empty-clause-tries c = λ is n.
    let empty : length c.shards.result.now ≡ 0 = omega arith in
    (untold c.args.found.now n (sym (c.shards.ensures.all n) ∙ none_listed c.shards.result.now n empty)).1

pub returns-in_default-clause-some : goal.returns-in_default-clause-some
returns-in_default-clause-some c = λ is.
    let many = c.in_default.len_at_least in
    let some : 0 < length c.shards.result.now = omega (arith, many) in
    let listed = some_listed c.shards.result.now some in
    (listed.0, sym (c.shards.ensures.all listed.0) ∙ listed.1)
