use Rattle.std.proofs.Common.{◌∙◌, ap}
use Rattle.esm_registry.specs.Payload.{change_of, payload_of}
use Rattle.esm_registry.proofs.PayloadFacts.{created_reads}
use Rattle.esm_registry.proofs.payload.created.Goals as goal

pub returns-clause-reads : goal.returns-clause-reads
unfolding payload_of
returns-clause-reads c =
    ap change_of c.in_ok-payload.ensures.bytes
    ∙ created_reads c.args.id.now c.args.moment c.args.config.now c.in_ok-payload.ensures.sixteen c.requires.moment
    (c.text_is_read.ensures c.args.config.now c.requires.given) c.in_ok-payload.ensures.utf8
