use Rattle.std.proofs.Common.{Result, subst}
use Rattle.esm_model.specs.declared.item.Message.{Message}
use Rattle.esm_record.specs.declared.error.LineError.{LineError}
use Rattle.esm_record.specs.Gives.{Gives}
use Rattle.esm_record.specs.Line.{message_of}
use Rattle.esm_record.specs.Leaf.{message_in}
use Rattle.esm_record.proofs.Records.{message_says, line_says, line_fails}
use Rattle.esm_record.proofs.queue.read_message.Goals as goal

pub returns-in-Ok : goal.returns-in-Ok
returns-in-Ok c =
    let object = c.in-Ok.ensures in
    let says = line_says (message_of c.args.fifo) (message_in c.args.fifo c.read_line.new.found) c.args.line.now object.0 object.1 (message_says c.args.fifo object.0 c.read_line.new.found object.2) in
    subst (λ (r : Result Message LineError). Gives c.message_of.result r) says c.message_of.ensures

pub returns-in-Err : goal.returns-in-Err
returns-in-Err c = line_fails (message_of c.args.fifo) c.args.line.now c.in-Err.refusal c.in-Err.ensures
