use Rattle.std.proofs.Common.{◌++◌, List, ℕ, ap, ap₂, ◌∙◌}
use Rattle.esm_journal_record.specs.declared.said.Said.TheVariants.{Deleted}
use Rattle.esm_journal_record.specs.Payload.{payload_of}
use Rattle.esm_journal_record.specs.EntryPayload.{ids_at}
use Rattle.esm_queue_core.specs.Kept.{messages_stored}
use Rattle.esm_redrive_core.proofs.Owing.{gift_from}
use Rattle.esm_redrive_core.proofs.giving.gift_of.Goals as goal

pub returns-clause-written : goal.returns-clause-written
returns-clause-written c =
    let messages = messages_stored c.args.queue.now.state ++ c.args.coming.now in
    gift_from messages c.args.places.items (record { by = c.args.by; places = c.from_vec-2.result; fate = c.args.fate; line = c.args.line; moment = c.args.moment; payload = c.in_ok-payload.payload }) c.requires.may c.requires.some
    c.from_vec-2.ensures
    (c.in_ok-payload.ensures ∙ ap₂ (λ (xs : List ℕ) (ids : List (List ℕ)). payload_of (Deleted c.args.fate c.args.moment xs ids))
    (c.from_vec.ensures ∙ (c.in_ok-copy.ensures.items ∙ c.as_slice-2.ensures.value)) (c.in_ok-ids.ensures ∙ ap (ids_at messages) c.as_slice.ensures.value))
