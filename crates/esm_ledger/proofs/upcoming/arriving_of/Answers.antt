use Rattle.std.proofs.Common.{◌≡◌, ℕ, ◌+◌, Bool, List, Option, length, ap, sym, ◌∙◌, subst}
use Rattle.std.specs.Prelude.{All}
use Rattle.std.proofs.lemmas.Result.{IfOk-weaker}
use Rattle.esm_model.specs.declared.config.Config.{Config}
use Rattle.esm_model.specs.Records.{Record}
use Rattle.esm_model.specs.declared.entry.Fate.{Fate}
use Rattle.esm_journal_state.specs.SaidLists.{SaidLists}
use Rattle.esm_shard_index.specs.Progress.{AreFound}
use Rattle.esm_ledger.specs.declared.arriving.Landing.{Landing}
use Rattle.esm_ledger.specs.Arriving.{IsLanding, IsWithin, landing_at}
use Rattle.esm_ledger.specs.Measuring.{fates_from, landings_from}
use Rattle.esm_ledger.proofs.Founds.{length_fates, length_landings, fates_found, landings_told, landings_within}
use Rattle.esm_ledger.proofs.NextRecords.{factor_is}
use Rattle.esm_ledger.proofs.upcoming.arriving_of.Goals as goal

-- what was found of the shard is what was found of all

fates_same : (t u : SaidLists) (n m first : ℕ) (rs : List Record) → t ≡ u → n ≡ m → fates_from t n first rs ≡ fates_from u m first rs
fates_same t u n m first rs said shard = cc

landings_same : (factor : ℕ) (t u : SaidLists) (n m first : ℕ) (rs : List Record) (ps : List Bool) → t ≡ u → n ≡ m → landings_from factor t n first rs ps ≡ landings_from factor u m first rs ps
landings_same factor t u n m first rs ps said shard = cc

pub found_records-requires-clause-some : goal.found_records-requires-clause-some
found_records-requires-clause-some c = (factor_is c.args.config.now c.requires.config).some

pub found_records-requires-clause-most : goal.found_records-requires-clause-most
found_records-requires-clause-most c = (factor_is c.args.config.now c.requires.config).most

pub new-requires-clause-fates : goal.new-requires-clause-fates
new-requires-clause-fates c =
    ap length (c.in_ok-fated.ensures.fates ∙ fates_same c.of-here.result.said.now c.args.found.now c.of-here.result.shard c.args.shard c.args.first c.as_slice.result.now c.of-here.ensures.said c.of-here.ensures.shard) ∙ length_fates c.args.found.now c.args.shard c.args.first c.as_slice.result.now ∙ ap length c.as_slice.ensures.value

pub new-requires-clause-landings : goal.new-requires-clause-landings
new-requires-clause-landings c =
    ap length (c.in_ok-fated.ensures.landings ∙ landings_same c.args.config.now.factor c.of-here.result.said.now c.args.found.now c.of-here.result.shard c.args.shard c.args.first c.as_slice.result.now c.args.passing.now c.of-here.ensures.said c.of-here.ensures.shard)
    ∙ length_landings c.args.config.now.factor c.args.found.now c.args.shard c.args.first c.as_slice.result.now c.args.passing.now (c.requires.all ∙ sym (ap length c.as_slice.ensures.value))
    ∙ ap length c.as_slice.ensures.value

pub returns-clause-within : goal.returns-clause-within
returns-clause-within c =
    IfOk-weaker c.new.result _ _ (λ a e s tells found.
    subst (λ (ls : List (Option Landing)). All (IsWithin c.args.config.now.factor) ls) (sym (e ∙ (c.in_ok-fated.ensures.landings ∙ landings_same c.args.config.now.factor c.of-here.result.said.now c.args.found.now c.of-here.result.shard c.args.shard c.args.first c.as_slice.result.now c.args.passing.now c.of-here.ensures.said c.of-here.ensures.shard)))
    (landings_within s c.args.config.now.factor c.args.found.now c.args.shard c.args.first c.as_slice.result.now c.args.passing.now (factor_is c.args.config.now c.requires.config).some tells.tries found))
    c.new.ensures.landings

pub returns-clause-stand : goal.returns-clause-stand
returns-clause-stand c =
    let t = c.args.found.now in
    let n = c.args.shard in
    let first = c.args.first in
    let rs = c.args.records.items in
    let ps = c.args.passing.now in
    IfOk-weaker c.new.result _ _ (λ a goes s tells before stand passing.
    goes s n first tells.config before stand
    (subst (λ (fs : List (Option Fate)). AreFound s n first fs) (sym ((c.in_ok-fated.ensures.fates ∙ fates_same c.of-here.result.said.now c.args.found.now c.of-here.result.shard c.args.shard c.args.first c.as_slice.result.now c.of-here.ensures.said c.of-here.ensures.shard) ∙ ap (λ (qs : List Record). fates_from t n first qs) c.as_slice.ensures.value)) (fates_found s t n first rs tells.fates))
    (λ k low. subst (λ (ls : List (Option Landing)). IsLanding s n (first + k) (landing_at ls k))
    (sym ((c.in_ok-fated.ensures.landings ∙ landings_same c.args.config.now.factor c.of-here.result.said.now c.args.found.now c.of-here.result.shard c.args.shard c.args.first c.as_slice.result.now c.args.passing.now c.of-here.ensures.said c.of-here.ensures.shard) ∙ ap (λ (qs : List Record). landings_from c.args.config.now.factor t n first qs ps) c.as_slice.ensures.value ∙ ap (λ (x : Config). landings_from x.factor t n first rs ps) (sym tells.config)))
    (landings_told s t n first rs ps tells.fates tells.tries stand passing k low)))
    c.new.ensures.stand
