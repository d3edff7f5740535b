use Rattle.std.proofs.Common.{◌≡◌, ◌∙◌, ◌+◌, ◌<◌, ℕ, List, ◌∷◌, length, drop, get_or, sym, ap, arith}
use Rattle.std.proofs.lemmas.List.{at_drop_more}
use Rattle.esm_model.specs.declared.entry.Entry.{Entry}
use Rattle.esm_replay_model.specs.ReplayReport.{replayed_in}
use Rattle.esm_replay_run.proofs.report.replayed_in.Goals as goal

-- the next entry of the rest
next_entry : (trace : List Entry) (i : ℕ) (e : Entry) → i < length trace → e ≡ get_or trace i e → replayed_in (drop i trace) ≡ replayed_in (e ∷ drop (i + 1) trace)
next_entry trace i e low is = at_drop_more replayed_in trace i e low ∙ ap (λ (x : Entry). replayed_in (x ∷ drop (i + 1) trace)) (sym is)

pub overflow_cast-count : goal.overflow_cast-count
overflow_cast-count c =
    let trace = c.args.trace.now in
    let i = c.loop-entry.entry-index in
    let step = next_entry trace i c.entry-item.result c.loop-entry-test.true c.entry-item.is ∙ ap (λ (x : Entry). replayed_in (x ∷ drop (i + 1) trace)) c.in-Replayed.is in
    let long = ap (λ (xs : List ℕ). length xs) c.as_slice.ensures in
    omega (arith, step, long, c.loop-entry.invariant, c.requires, c.ranges.named)

pub overflow_add-count : goal.overflow_add-count
overflow_add-count c =
    let trace = c.args.trace.now in
    let i = c.loop-entry.entry-index in
    let step = next_entry trace i c.entry-item.result c.loop-entry-test.true c.entry-item.is ∙ ap (λ (x : Entry). replayed_in (x ∷ drop (i + 1) trace)) c.in-Replayed.is in
    let long = ap (λ (xs : List ℕ). length xs) c.as_slice.ensures in
    omega (arith, step, long, c.loop-entry.invariant, c.requires, c.ranges.named)
