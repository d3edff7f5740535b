-- The report that is told of a finished run.
use Rattle.std.proofs.Common.{◌≡◌, ℕ, List, [], Result, Ok, Err, sym, ap, ◌∙◌}
use Rattle.std.specs.Prelude.{IfOk}
use Rattle.esm_model.specs.declared.entry.Entry.{Entry}
use Rattle.esm_model.specs.Setting.{Setting}
use Rattle.esm_journal_state.specs.SaidLists.{SaidLists}
use Rattle.esm_gen.specs.Report.{generated_report}
use Rattle.esm_gen.specs.Run.{HasFinished, HasTold}

-- what two facts on an answer come to
pub both_ok : {A E : Type 0} (P Q S : A → Type 0) (r : Result A E) → IfOk r P → IfOk r Q → ((x : A) → P x → Q x → S x) → IfOk r S
both_ok P Q S (Ok x) p q f = f x p q
both_ok P Q S (Err e) p q f = tt

pub has_told : (records : ℕ) (h told : List Entry) (said : SaidLists) (text : List ℕ) → told ≡ h → said.fates ≡ [] → HasFinished records h
    → ((s : Setting) → s.fates ≡ said.fates → text ≡ generated_report s h) → HasTold records told text
has_told records h told said text same none finished reports =
    rw same (record { finished = finished; text_is = reports finished.setting (ap (λ (s : Setting). s.fates) finished.run.setting ∙ sym none) })
