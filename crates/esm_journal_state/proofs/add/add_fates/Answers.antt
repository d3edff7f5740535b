use Rattle.std.proofs.Common.{◌≡◌, ◌∙◌, ◌&&◌, ◌++◌, true, cond, eqb, None, sym, ap, subst}
use Rattle.std.specs.Prelude.{option_map}
use Rattle.std.specs.Option.{option_or}
use Rattle.std.specs.Ordering.{nat_cmp}
use Rattle.std.specs.BTreeMap as map
use Rattle.esm_model.specs.Entries.{holds}
use Rattle.esm_journal_state.specs.Growing.{fates_named, is_above}
use Rattle.esm_journal_state.specs.Meaning.{text_named, only_at, fate_kept, fate_said, state_in}
use Rattle.esm_journal_state.specs.Table.{pair_cmp}
use Rattle.esm_journal_state.proofs.Recent.{fates_more, none_still}
use Rattle.esm_journal_state.proofs.add.add_fates.Goals as goal

pub returns : goal.returns
returns c = λ h moment old.
    let g = c.args.growing.now in
    let shard = c.args.shard in
    let places = c.args.places.now in
    let pushed = c.in_ok-push_fates.ensures
    ∙ ap (λ ps. g.recent.items ++ fates_named shard c.args.fate ps c.into_vec.result.items) c.as_slice-places.ensures
    ∙ ap (λ ts. g.recent.items ++ fates_named shard c.args.fate places ts) c.into_vec.ensures in
    record {
      fates = λ n i.
          fates_more g.table.fates g.recent.items c.push_fates.new.recent.items shard c.args.fate places c.args.texts n i c.requires.rising pushed
          ∙ ap (λ o. option_or (only_at (eqb shard n) (option_map (fate_kept c.args.fate) (text_named places c.args.texts i))) o) (old.fates n i);
      tries = λ n i.
          c.drop_tries.ensures n i
          ∙ ap (λ ps. cond (eqb shard n && holds ps i) None (map.get pair_cmp g.table.tries (n, i))) c.as_slice-places.ensures
          ∙ ap (λ o. cond (eqb shard n && holds places i) None o) (old.tries n i);
      states = λ n w. c.in_ok-keep_some_state.ensures n w ∙ ap (λ o. option_or (only_at (eqb shard n) (state_in c.args.state w)) o) (old.states n w);
      window_tries = old.window_tries;
      replays = old.replays;
      deletions = old.deletions;
      tops = λ n i above.
          none_still shard n i c.args.fate places c.args.texts (fate_said h n i)
          (λ same. ap (λ ps. holds ps i) (sym c.as_slice-places.ensures) ∙ c.in_ok-raise.ensures.passed i (subst (λ m. is_above (map.get nat_cmp c.raise.new.tops m) i ≡ true) (sym same) above))
          (old.tops n i (c.in_ok-raise.ensures.kept n i above));
    }
