use Rattle.std.proofs.Common.{◌-◌, List, ℕ, length, take, drop, arith, ap, ◌∙◌}
use Rattle.std.proofs.lemmas.List.{take-take}
use Rattle.esm_journal.proofs.Aheads.{cut}
use Rattle.esm_journal.proofs.ahead.Ahead.part.Goals as goal

pub returns-clause-part : goal.returns-clause-part
returns-clause-part c = λ content is.
    let ahead = c.args.self.now in
    let bytes = c.as_slice.result.now in
    let passed = c.args.place - ahead.start in
    let same = c.as_slice.ensures in
    take-take c.args.count (length bytes - passed) (drop passed bytes) (omega (arith, ap (λ (l : List ℕ). length l) same))
    ∙ ap (λ l. take c.args.count (drop passed l)) same
    ∙ cut content ahead.bytes ahead.start c.args.place c.args.count is c.requires.from c.requires.to
