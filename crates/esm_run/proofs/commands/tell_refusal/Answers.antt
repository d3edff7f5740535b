use Rattle.esm_run.proofs.commands.tell_refusal.Goals as goal

pub returns-in-BadWords-clause-told : goal.returns-in-BadWords-clause-told
returns-in-BadWords-clause-told g c = λ known. (c.in-BadWords.is, c.tell_alone.ensures.told known)
