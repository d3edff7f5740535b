use Rattle.std.proofs.Common.{◌≡◌, List, ℕ, Some, sym, ap, ◌∙◌}
use Rattle.std.specs.Prelude.{slice_get, option_map}
use Rattle.std.specs.String.{string_bytes}
use Rattle.std.specs.BTreeSet.{contains_text}
use Rattle.std.proofs.lemmas.List.{take_all}
use Rattle.std.proofs.lemmas.Option.{slice_get-get_or}
use Rattle.esm_redrive_model.specs.RedriveSetting.{stands_among}
use Rattle.esm_redrive.specs.DeadFile.{dead_id, dead_ids}
use Rattle.esm_redrive.proofs.PayloadIds.{ids_more, letters_more, stands_in}
use Rattle.esm_redrive.proofs.dead_file.dead_ids.Goals as goal

pub loop-place-preserved : goal.loop-place-preserved
loop-place-preserved c =
    let n = c.loop-place.place in
    let payloads = c.args.payloads.now in
    let x = c.index-payloads-place.result in
    let id = string_bytes c.in-Some.id in
    let inv = c.loop-place.invariant in
    let at : slice_get payloads n ≡ Some x = slice_get-get_or payloads n x c.loop-place-test.true ∙ ap Some (sym c.index-payloads-place.is) in
    let has : dead_id c.args.fifo x ≡ Some id = ap (dead_id c.args.fifo) (sym c.as_slice.ensures) ∙ (sym c.in_ok-found.ensures ∙ ap (option_map string_bytes) c.in-Some.is) in
    record {
      ids = λ other. ids_more c.args.fifo payloads n x id other (contains_text c.loop-place.ids other) (contains_text c.add_id.new.ids other) at has (inv.ids other) (c.in_ok-add_id-in-Some.ensures other);
      good = letters_more c.args.fifo payloads n x id inv.good at has;
    }

pub returns-clause-ids : goal.returns-clause-ids
returns-clause-ids c = λ id.
    sym (stands_in c.loop-place.ids id)
    ∙ (c.loop-place.invariant.ids id
    ∙ ap (λ (xs : List (List ℕ)). stands_among (dead_ids c.args.fifo xs) id) (take_all c.loop-place.place c.args.payloads.now c.loop-place-test.false))
