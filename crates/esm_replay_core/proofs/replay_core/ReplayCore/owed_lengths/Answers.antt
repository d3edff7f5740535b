use Rattle.std.proofs.Common.{◌≡◌, ◌∙◌, ◌∷◌, [], length, vec_len, rules, arith, sym, ap, None, Some}
use Rattle.esm_replay_core.specs.Kept.{parts_of}
use Rattle.esm_replay_core.proofs.Due.{due_short, due_lengths}
use Rattle.esm_replay_core.proofs.replay_core.ReplayCore.owed_lengths.Goals as goal

pub overflow_cast-len : goal.overflow_cast-len
overflow_cast-len c =
    let p = parts_of c.self.inside in
    let short = due_short p c.in-Some.replay.now c.self.invariant.0 (sym c.in-Some.ensures) in
    let all : vec_len c.in-Some.replay.now.payload ≡ length c.in-Some.replay.now.payload.items = search rules in
    omega (arith, short, all)

pub returns-in-None : goal.returns-in-None
returns-in-None c =
    c.new.ensures.items ∙ sym (due_lengths (parts_of c.self.inside) c.args.self.now None c.self.invariant.0 c.self.view_is (sym c.in-None.ensures))

pub returns-in_ok-push-in-Some : goal.returns-in_ok-push-in-Some
returns-in_ok-push-in-Some c =
    let r = c.in-Some.replay.now in
    let written = due_lengths (parts_of c.self.inside) c.args.self.now (Some r) c.self.invariant.0 c.self.view_is (sym c.in-Some.ensures) in
    let all : vec_len r.payload ≡ length r.payload.items = search rules in
    let long : c.len.result ≡ length r.payload.items = c.len.ensures ∙ all in
    let items : c.push.new.self.items ≡ c.len.result ∷ [] = search rules in
    items ∙ ap (λ n. n ∷ []) long ∙ sym written
