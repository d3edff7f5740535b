use Rattle.std.proofs.Common.{◌∙◌}
use Rattle.base64.specs.Engines.{standard}
use Rattle.esm_record.proofs.EncodedLengths.{group_counted}
use Rattle.esm_record.proofs.encoded.group_length.Goals as goal

pub returns-clause-count : goal.returns-clause-count
returns-clause-count c = c.ok.ensures.value ∙ group_counted standard c.args.group.now c.decode_slice.result c.requires c.decode_slice.ensures.value
