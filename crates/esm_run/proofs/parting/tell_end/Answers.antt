use Rattle.std.proofs.Common.{◌∙◌, subst}
use Rattle.esm_run.specs.Endings.{IsTold}
use Rattle.esm_run.proofs.Results.{at_ok}
use Rattle.esm_run.proofs.parting.tell_end.Goals as goal

pub text_of-requires : goal.text_of-requires
text_of-requires g c = λ nothing. at_ok _ c.args.end.now c.in-Ok.ending c.in-Ok.is (c.requires nothing)

pub returns-clause-told : goal.returns-clause-told
returns-clause-told g c = λ known. (
  c.in-Ok.ending,
  c.in-Ok.is,
  λ text report. subst (λ t. IsTold (g.K.Sink.faults c.args.out.now) (g.K.Sink.faults c.tell.new.out)
      (g.K.Sink.written c.args.out.now) (g.K.Sink.written c.tell.new.out) t c.in-Ok.ending c.tell.result)
      (c.deref.ensures.value ∙ c.in-Ok-text_of.ensures text report) c.tell.ensures.told,
)
