use Rattle.std.proofs.lemmas.List.Elements.{All-push}
use Rattle.esm_io.specs.Forms.{IsUnused}
use Rattle.esm_tests_commands.proofs.worlds.door.Goals as goal

pub loop-text-preserved : goal.loop-text-preserved
loop-text-preserved c = rw c.in_ok-push.ensures.items (All-push IsUnused c.loop-text.links.items c.new-link.result c.loop-text.invariant c.new-link.ensures.unused)
