use Rattle.std.proofs.Common.{◌∙◌, subst}
use Rattle.esm_run.specs.Endings.{IsTold}
use Rattle.esm_run.proofs.Alone.{whole_report}
use Rattle.esm_run.proofs.commands.tell_alone.Goals as goal

pub returns-clause-told : goal.returns-clause-told
returns-clause-told g c = λ known.
    subst (λ t. IsTold (g.K.Sink.faults c.args.out.now) (g.K.Sink.faults c.tell.new.out)
    (g.K.Sink.written c.args.out.now) (g.K.Sink.written c.tell.new.out) t c.args.ending.now c.tell.result)
    (c.deref.ensures.value ∙ whole_report c.args.ending.now c.in-Ok.text.items c.requires c.in-Ok.ensures) c.tell.ensures.told
