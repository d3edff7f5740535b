use Rattle.std.proofs.Common.{◌≡◌, length, vec_len, rules, arith}
use Rattle.std.proofs.lemmas.List.{length-drop}
use Rattle.esm_replay_core.specs.Kept.{parts_of}
use Rattle.esm_replay_core.proofs.Due.{due_number}
use Rattle.esm_replay_core.proofs.replay_core.ReplayCore.owed_count.Goals as goal

pub returns : goal.returns
returns c =
    let p = parts_of c.self.inside in
    let n = due_number p c.args.self.now c.self.view_is in
    let all : vec_len c.self.inside.records ≡ length c.self.inside.records.items = search rules in
    omega (arith, n, all, length-drop c.self.inside.came c.self.inside.records.items, c.len.ensures, c.entries_owed.ensures)
