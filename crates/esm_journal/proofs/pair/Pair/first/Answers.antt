use Rattle.std.proofs.Common.{[], refl, sym, subst}
use Rattle.esm_journal.specs.File.{header_of, blank_file}
use Rattle.esm_journal.specs.Pair.{PairOpensTo}
use Rattle.esm_journal.proofs.pair.Pair.first.Goals as goal

pub returns-in-Ok-clause-opens : goal.returns-in-Ok-clause-opens
returns-in-Ok-clause-opens g c = λ h. subst (λ bytes. PairOpensTo (header_of 2) 1 [] bytes (blank_file (header_of 2) 0)) (sym (c.in-Ok.ensures.made h)) (refl, refl)
