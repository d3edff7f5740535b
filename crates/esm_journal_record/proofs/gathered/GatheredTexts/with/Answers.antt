use Rattle.esm_journal_record.proofs.Gathers.{texts_grown, parts_grown}
use Rattle.esm_journal_record.proofs.gathered.GatheredTexts.with.Goals as goal

pub invariant_of-result : goal.invariant_of-result
invariant_of-result c = texts_grown _ _ _ _ _ _ c.in_ok-part.ensures.text c.in_ok-push.ensures.items c.self.invariant c.in_ok-part.ensures.part c.requires

pub returns : goal.returns
returns c = parts_grown c.args.self _ _ _ _ _ _ c.in_ok-part.ensures.text c.in_ok-push.ensures.items c.self.invariant c.in_ok-part.ensures.part c.self.view_is
