use Rattle.std.proofs.Common.{◌≡◌, ℕ, ◌≤◌, List, length, take, refl, sym, subst, rules, arith}
use Rattle.std.proofs.lemmas.List.{length-take-le}
use Rattle.esm_model.specs.declared.limits.TheConstants.{MAX_BATCH, MAX_PAYLOAD}
use Rattle.esm_replay_core.proofs.Saying.{payload_short}
use Rattle.esm_replay_core.proofs.ending.replay_of.Goals as goal

pub returns : goal.returns
returns c =
    let places : List ℕ = take c.args.count c.args.places.now in
    let texts : List (List ℕ) = take c.args.count c.args.names.now in
    let any : 1 ≤ c.args.count = omega arith in
    let taken : length places ≡ c.args.count = length-take-le c.args.count c.args.places.now c.requires.places in
    let some : 1 ≤ length places = omega (arith, taken, any) in
    let few : length places ≤ MAX_BATCH = omega (arith, taken, c.requires.places, c.requires.few) in
    let short = payload_short c.args.shard c.args.moment places texts (c.requires.said any) few in
    (some, refl, search rules, refl, c.in_ok-payload.ensures, subst (λ (bytes : List ℕ). length bytes ≤ MAX_PAYLOAD) (sym c.in_ok-payload.ensures) short)
