use Rattle.std.proofs.Common.{◌≡◌, ◌∙◌, ℕ, List, length, None, map, ap, refl, subst, sym}
use Rattle.esm_model.specs.Records.{Record}
use Rattle.esm_model.specs.EventText.{event_text}
use Rattle.esm_replay.specs.Batch.{IsRowWithin, batch_records, records_in}
use Rattle.esm_replay_core.proofs.Choices.{call_of}
use Rattle.esm_replay_core.proofs.choosing.begin.Goals as goal

pub into_records-requires : goal.into_records-requires
into_records-requires c = subst (λ (places : List ℕ). IsRowWithin (length c.args.records.now) (length places) c.args.batch.records) (sym c.as_slice.ensures) c.requires.among

pub returns : goal.returns
returns c =
    let are : c.in_ok-called.called.items ≡ batch_records c.args.records.now c.args.batch =
    c.in_ok-called.ensures ∙ ap (λ (places : List ℕ). records_in c.args.records.now (length places) c.args.batch.records) c.as_slice.ensures in (
      ap (call_of c.args.batch.shard c.args.batch.places) (c.in_ok-event.ensures ∙ ap (λ (rs : List Record). event_text c.args.config.now rs None) are),
      refl,
      c.in_ok-copy.ensures,
      c.in_ok-names.ensures ∙ ap (λ (rs : List Record). map (λ (r : Record). r.seq) rs) (c.as_slice-2.ensures.value ∙ are),
      refl,
    )
