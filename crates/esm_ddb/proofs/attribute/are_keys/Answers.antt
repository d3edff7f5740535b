use Rattle.std.proofs.Common.{rules, ◌≡◌, ◌∙◌, ◌<◌, arith, length, sym, vec_len}
use Rattle.esm_ddb.proofs.Loops.{some_keys}
use Rattle.esm_ddb.proofs.attribute.are_keys.Goals as goal

pub returns-then-len-ne0 : goal.returns-then-len-ne0
returns-then-len-ne0 c =
    let all : vec_len c.args.members.now ≡ length c.args.members.now.items = search rules in
    let some : 0 < length c.args.members.now.items = omega (arith, c.len.ensures, all) in
    c.are_key_values.ensures ∙ sym (some_keys c.args.members.now.items some)
