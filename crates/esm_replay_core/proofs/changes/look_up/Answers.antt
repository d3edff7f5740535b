use Rattle.std.proofs.Common.{◌∙◌, sym, ap, Some, None}
use Rattle.std.specs.Prelude.{option_map}
use Rattle.esm_model.specs.declared.setup.FoundFate.{FoundFate}
use Rattle.esm_journal_state.specs.Meaning.{fate_kept}
use Rattle.esm_journal_state.specs.SaidLists.{fate_told}
use Rattle.esm_replay.proofs.Naming.{named_by}
use Rattle.esm_replay_core.proofs.Differing.{fate_kept_text, fate_kept_fate, no_fate, change_by, not_named}
use Rattle.esm_replay_core.proofs.changes.look_up.Goals as goal

pub returns-in_ok-change-in-None-clause-change : goal.returns-in_ok-change-in-None-clause-change
returns-in_ok-change-in-None-clause-change c =
    let none = no_fate (fate_told c.args.said.now c.args.item.now.shard c.args.place) (rw c.shard.ensures at c.in-None.ensures) in
    change_by c.args.said.now c.args.item.now c.args.place None _ c.in_ok-change-in-None.change (ap (option_map (λ (f : FoundFate). f.text)) (sym none)) c.kept_otherwise-kept.ensures c.in_ok-change-in-None.ensures

pub returns-in_ok-change-in-None-clause-named : goal.returns-in_ok-change-in-None-clause-named
returns-in_ok-change-in-None-clause-named c =
    not_named c.args.said.now c.args.ranges.now c.args.item.now c.args.place (no_fate (fate_told c.args.said.now c.args.item.now.shard c.args.place) (rw c.shard.ensures at c.in-None.ensures))

pub returns-in_ok-change-in-Some-clause-change : goal.returns-in_ok-change-in-Some-clause-change
returns-in_ok-change-in-Some-clause-change c =
    let text = fate_kept_text (fate_told c.args.said.now c.args.item.now.shard c.args.place) (Some (fate_kept c.in-Some.found.fate c.in-Some.found.text.now)) (rw c.shard.ensures at c.in-Some.ensures) in
    change_by c.args.said.now c.args.item.now c.args.place (Some c.in-Some.found.text.now) _ c.in_ok-change-in-Some.change text c.kept_otherwise-kept-in-Some.ensures c.in_ok-change-in-Some.ensures

pub returns-in_ok-change-in-Some-clause-named : goal.returns-in_ok-change-in-Some-clause-named
returns-in_ok-change-in-Some-clause-named c =
    let fate = fate_kept_fate (fate_told c.args.said.now c.args.item.now.shard c.args.place) (Some (fate_kept c.in-Some.found.fate c.in-Some.found.text.now)) (rw c.shard.ensures at c.in-Some.ensures) in
    c.names_near-is_named.ensures ∙ named_by c.args.said.now c.args.ranges.now c.args.item.now c.args.place c.in-Some.found.fate (sym fate)
