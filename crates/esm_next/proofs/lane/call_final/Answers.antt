use Rattle.std.proofs.Common.{◌≡◌, ◌∙◌, ℕ, ◌≤◌, true, ◌&&◌, List, length, refl, Option, Some, None}
use Rattle.std.specs.Prelude.{nat_lt, is_some}
use Rattle.std.proofs.lemmas.Bool.{and_parts}
use Rattle.esm_model.specs.declared.limits.TheConstants.{MAX_DATA}
use Rattle.esm_model.specs.declared.moment.TheConstants.{MAX_MOMENT}
use Rattle.esm_model.specs.declared.entry.Entry.{Entry}
use Rattle.esm_model.specs.Setting.{Setting}
use Rattle.esm_model.specs.Entries.{came_count}
use Rattle.esm_model.specs.Windows.{has_windows, kept_state, is_due}
use Rattle.esm_ledger.specs.Ledger.{past_of, setting_of}
use Rattle.esm_next.proofs.Told.{due_outstanding}
use Rattle.esm_next.proofs.Bounds.{call_final}
use Rattle.esm_next.proofs.lane.call_final.Goals as goal

state_of : (s : Setting) (h : List Entry) (n w : ℕ) (o : Option (List ℕ)) → kept_state s h n w ≡ o → is_some o ≡ true → ((v : ℕ) (text : List ℕ) → kept_state s h n v ≡ Some text → (v ≤ MAX_MOMENT) × (length text ≤ MAX_DATA)) → w ≤ MAX_MOMENT
state_of s h n w None is some each = cc
state_of s h n w (Some text) is some each = (each w text is).0

-- a window that is due has a state
due_low : (s : Setting) (h : List Entry) (n w : ℕ) → is_due s h n w ≡ true → ((v : ℕ) (text : List ℕ) → kept_state s h n v ≡ Some text → (v ≤ MAX_MOMENT) × (length text ≤ MAX_DATA)) → w ≤ MAX_MOMENT
due_low s h n w due each =
    let some = (and_parts (has_windows s.config && nat_lt 0 (came_count h n)) (is_some (kept_state s h n w)) (due_outstanding s h n w due)).1 in
    state_of s h n w (kept_state s h n w) refl some each

pub window_call_of-requires-clause-moment : goal.window_call_of-requires-clause-moment
window_call_of-requires-clause-moment c =
    due_low (setting_of c.args.ledger.now) (past_of c.args.ledger.now) c.args.lane.shard c.args.window c.requires.due (λ v text is. c.requires.bounds.states c.args.lane.shard v text is)

pub job-requires-clause-window : goal.job-requires-clause-window
job-requires-clause-window c =
    c.as_ref.ensures.value ∙ c.in_ok-call.ensures.value ∙ call_final (setting_of c.args.ledger.now) (past_of c.args.ledger.now) c.args.lane.shard c.args.window
