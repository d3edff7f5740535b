use Rattle.std.proofs.Common.{rules, Err}
use Rattle.std.specs.Result.{IsErrOf}
use Rattle.esm_model.specs.declared.book.BookError.TheVariants as why
use Rattle.esm_serial.proofs.Leading.{leads_by}
use Rattle.esm_serial.proofs.calling.make_call.Goals as goal

pub returns-in-Err : goal.returns-in-Err
returns-in-Err g c =
    let other : IsErrOf (Err c.in-Err.field-0) why.OutOfMemory → ⊥ = search rules in
    let led = leads_by g.B.Serial g.C.Clock.gave g.F.Caller.sends c.now-moment.result c.now-moment.ensures c.args.book.now c.end_call.new.self (g.F.Caller.log c.args.caller.now) (g.F.Caller.log c.call_written.new.caller)
    c.args.name.now c.requires.name c.args.job c.in_ok-reply.reply c.in_ok-reply.ensures.logged in
    record {
      called = led (c.in-Err.ensures.called other);
      rests = c.in-Err.ensures.rests other;
      same = record { function = c.end_call.ensures.function; items = c.end_call.ensures.items; change = c.end_call.ensures.change; shut = c.end_call.ensures.shut };
      ended = search rules;
      stopped = tt;
    }
