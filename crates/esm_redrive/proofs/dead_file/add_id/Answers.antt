use Rattle.std.specs.Prelude.{true}
use Rattle.std.specs.String.{string_bytes}
use Rattle.std.specs.BTreeSet.{contains_text}
use Rattle.std.proofs.lemmas.Map.Text.{btree_set_updates_text}
use Rattle.esm_redrive.proofs.PayloadIds.{stands_with}
use Rattle.esm_redrive.proofs.dead_file.add_id.Goals as goal

pub returns : goal.returns
returns c = λ other. stands_with (string_bytes c.args.id) other (contains_text c.args.ids.now other) (contains_text c.insert.new.self other) (btree_set_updates_text (string_bytes c.args.id) c.args.ids.now c.insert.new.self true c.in_ok-insert.ensures.updates other)
