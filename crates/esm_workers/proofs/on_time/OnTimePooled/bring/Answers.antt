use Rattle.esm_workers.proofs.on_time.OnTimePooled.bring.Goals as goal

pub returns-clause-some : goal.returns-clause-some
returns-clause-some g c = rw (← c.self.view_is) c.bring.ensures.some
