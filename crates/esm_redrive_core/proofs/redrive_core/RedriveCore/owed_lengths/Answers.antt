use Rattle.std.proofs.Common.{◌∙◌, List, reverse, sym, ap, subst}
use Rattle.std.specs.List.{All}
use Rattle.esm_journal_record.specs.EntryPayload.{queue_payload}
use Rattle.esm_book.specs.Decided.{written_of, lengths_of}
use Rattle.esm_redrive_core.specs.declared.owed.Gift.{Gift}
use Rattle.esm_redrive_core.specs.RedriveView.{RedriveView, all_messages}
use Rattle.esm_redrive_core.specs.Kept.{HasShortPayload, all_of, payloads_in}
use Rattle.esm_redrive_core.specs.Inside.{parts_of}
use Rattle.esm_redrive_core.proofs.Lines.{payloads_owed, short_payloads}
use Rattle.esm_redrive_core.proofs.redrive_core.RedriveCore.owed_lengths.Goals as goal

pub lengths_in-requires : goal.lengths_in-requires
lengths_in-requires c =
    let p = parts_of c.self.inside in
    subst (λ (xs : List Gift). All HasShortPayload xs) (sym c.as_slice.ensures.value) (short_payloads (all_of p) c.self.inside.gifts.items c.self.invariant.gifts)

pub returns : goal.returns
returns c =
    let p = parts_of c.self.inside in
    c.in_ok-lengths.ensures
    ∙ ap (λ (xs : List Gift). lengths_of (payloads_in (reverse xs))) c.as_slice.ensures.value
    ∙ ap lengths_of (sym (payloads_owed (all_of p) p.first (reverse c.self.inside.gifts.items) c.self.invariant.gifts))
    ∙ ap (λ (v : RedriveView). lengths_of (written_of (queue_payload (all_messages v)) v.owed)) c.self.view_is
