use Rattle.std.proofs.Common.{◌∙◌, List, refl, sym, ap, subst}
use Rattle.std.proofs.lemmas.List.Sorted.{list_any-IsPermutation}
use Rattle.esm_replay_model.specs.declared.range.Range.{Range}
use Rattle.esm_replay_model.specs.ReplaySetting.{is_in_range, is_in_ranges}
use Rattle.esm_replay.specs.Ranges.{AllLead}
use Rattle.esm_replay.proofs.Reaching.{sorted_start, all_lead, reaching_same}
use Rattle.esm_replay.proofs.ranges.Ranges.new.Goals as goal

pub invariant_of-result : goal.invariant_of-result
invariant_of-result c = (
  subst (λ (rs : List Range). AllLead rs) (sym c.in_ok-reaching.ensures) (all_lead _ (sorted_start _ c.sort.ensures.sorted)),
  λ n seq.
      ap (λ (rs : List Range). is_in_ranges rs n seq) c.in_ok-reaching.ensures
      ∙ reaching_same n seq _ (sorted_start _ c.sort.ensures.sorted)
      ∙ sym (list_any-IsPermutation (is_in_range n seq) _ _ c.sort.ensures.permutation)
      ∙ rw c.of-given.ensures refl,
)
