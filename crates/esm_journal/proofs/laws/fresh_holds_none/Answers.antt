use Rattle.esm_journal.proofs.FreshFiles.{file_holds_none, pair_holds_none}
use Rattle.esm_journal.proofs.laws.fresh_holds_none.Goals as goal

pub returns : goal.returns
returns c = record { single = λ header bytes none. file_holds_none header bytes none; pair = λ header one other none none'. pair_holds_none header one other none none' }
