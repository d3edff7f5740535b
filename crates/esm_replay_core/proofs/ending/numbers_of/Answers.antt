use Rattle.std.proofs.Common.{◌≡◌, ◌∙◌, ℕ, List, true, sym, subst}
use Rattle.std.proofs.lemmas.List.Sums.{AllPass-from_list_all}
use Rattle.esm_model.specs.Sequence.{is_sequence}
use Rattle.esm_replay_core.proofs.ending.numbers_of.Goals as goal

pub of_digits-requires : goal.of_digits-requires
of_digits-requires c =
    subst (λ (digits : List ℕ). is_sequence digits ≡ true) (sym (c.as_slice.ensures.value ∙ c.name-item.is))
    (AllPass-from_list_all is_sequence c.args.names.now c.requires c.loop-name.name-index c.name-item.result c.loop-name-test.true)
