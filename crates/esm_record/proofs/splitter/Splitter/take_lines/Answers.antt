use Rattle.esm_record.proofs.Blocks.{taken_more}
use Rattle.esm_record.proofs.splitter.Splitter.take_lines.Goals as goal

pub loop-parsed-preserved : goal.loop-parsed-preserved
loop-parsed-preserved c =
    taken_more c.args.items.now.items c.loop-parsed.items.items c.take_line.new.items.items c.args.self.now c.loop-parsed.self c.take_line.new.self c.loop-parsed.yielded c.in-Some.parsed c.loop-parsed.invariant c.in_ok-take_line.ensures.stands c.in_ok-take_line.ensures.begun c.in_ok-take_line.ensures.kind
