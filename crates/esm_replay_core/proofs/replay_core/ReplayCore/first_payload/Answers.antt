use Rattle.std.proofs.Common.{◌∙◌, ◌≤◌, ◌∷◌, [], List, ℕ, length, sym, ap, subst, Some, None}
use Rattle.esm_model.specs.declared.limits.TheConstants.{MAX_PAYLOAD}
use Rattle.esm_replay_core.specs.Kept.{parts_of}
use Rattle.esm_replay_core.proofs.Due.{due_first, first_short}
use Rattle.esm_replay_core.proofs.replay_core.ReplayCore.first_payload.Goals as goal

pub returns-in-None-clause-none : goal.returns-in-None-clause-none
returns-in-None-clause-none c = due_first (parts_of c.self.inside) c.args.self.now None c.self.invariant.0 c.self.view_is (sym c.in-None.ensures)

pub returns-in-Some-clause-payload : goal.returns-in-Some-clause-payload
returns-in-Some-clause-payload c =
    due_first (parts_of c.self.inside) c.args.self.now (Some c.in-Some.replay.now) c.self.invariant.0 c.self.view_is (sym c.in-Some.ensures)
    ∙ ap (λ (bytes : List ℕ). bytes ∷ []) (sym c.as_slice.ensures.value)

pub returns-in-Some-clause-short : goal.returns-in-Some-clause-short
returns-in-Some-clause-short c =
    subst (λ (bytes : List ℕ). length bytes ≤ MAX_PAYLOAD) (sym c.as_slice.ensures.value)
    (first_short (parts_of c.self.inside) c.in-Some.replay.now c.self.invariant.0 (sym c.in-Some.ensures))
