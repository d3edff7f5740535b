use Rattle.std.proofs.Common.{◌∙◌, ap}
use Rattle.esm_registry.specs.Payload.{change_of, payload_of}
use Rattle.esm_registry.proofs.PayloadFacts.{deleted_reads}
use Rattle.esm_registry.proofs.payload.deleted.Goals as goal

pub returns-clause-reads : goal.returns-clause-reads
unfolding payload_of
returns-clause-reads c =
    ap change_of c.in_ok-payload.ensures.bytes ∙ deleted_reads c.args.id.now c.args.moment c.in_ok-payload.ensures.sixteen c.requires
