-- How `gen` ended: which generated stream ran, what was written, and the exit status. This product's own.
use Rattle.std.specs.Prelude.{◌≡◌, ◌⊎◌, ℕ, List, []}
use Rattle.esm_gen.specs.Run.{HasRun, HasTold}
use Rattle.esm_model.specs.declared.entry.Entry.{Entry}
use Rattle.esm_run.specs.Endings.{IsToldWith}
use Rattle.esm_run.specs.Initialized.{OUTPUT_FAULT}
use Rattle.esm_run.specs.World.{Written}

-- a generated stream of `records` records left this history, each of them has its fate, and its report was written
pub record GenOutcome (records : ℕ) (output : Written) (h : List Entry) (status : ℕ) : Type 0 where
  pub text : List ℕ
  pub ran : HasTold records h text
  pub told : IsToldWith output.faults_before output.faults_now output.before output.after text 0 OUTPUT_FAULT status

-- out of memory: nothing ran, or this history is what ran before that
abbrev pub IsGenCut : ℕ → List Entry → Type 0
IsGenCut records h = (h ≡ []) ⊎ HasRun records h
