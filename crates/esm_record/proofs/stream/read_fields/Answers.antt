use Rattle.std.proofs.Common.{sym, ◌∙◌}
use Rattle.esm_record.specs.Line.{record_of}
use Rattle.esm_record.specs.Leaf.{record_in}
use Rattle.esm_record.proofs.Records.{record_says, line_says}
use Rattle.esm_record.proofs.stream.read_fields.Goals as goal

pub returns-in-Ok-fields_of : goal.returns-in-Ok-fields_of
returns-in-Ok-fields_of c =
    let object = c.in-Ok.ensures in
    sym (line_says record_of (record_in c.read_line.new.found) c.args.line.now object.0 object.1 (record_says object.0 c.read_line.new.found object.2))
    ∙ c.in-Ok-fields_of.ensures

pub returns-in-Err-fields_of : goal.returns-in-Err-fields_of
returns-in-Err-fields_of c =
    let object = c.in-Ok.ensures in
    sym (line_says record_of (record_in c.read_line.new.found) c.args.line.now object.0 object.1 (record_says object.0 c.read_line.new.found object.2))
    ∙ c.in-Err-fields_of.ensures
