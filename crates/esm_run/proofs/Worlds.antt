-- What was told of the devices of a run is told of the worlds before and after.
use Rattle.std.proofs.Common.{◌≡◌, ◌∙◌, ℕ, List, Option, Result, Ok, ap, refl, subst}
use Rattle.std.specs.Prelude.{IfOk}
use Rattle.esm_model.specs.declared.entry.Entry.{Entry}
use Rattle.esm_model.specs.declared.memory.OutOfMemory.{OutOfMemory}
use Rattle.esm_report.specs.declared.ending.Ending.{Ending}
use Rattle.esm_run.specs.Answers.{HasTold}
use Rattle.esm_run.specs.Endings.{IsTold}
use Rattle.esm_run.specs.Ran.{EndsWith, IsReportBehind}
use Rattle.esm_run.specs.World.{Seen, written_of}
use Rattle.esm_run.specs.declared.left.Began.{Began}
use Rattle.esm_run.specs.declared.world.World.{World}
use Rattle.esm_run.proofs.Results.{at_ok}
use Rattle.esm_run.proofs.RunEndings.{told_run}

pub of_worlds : {S D F : Type 0} (P : List Entry → Seen S D F → Seen S D F → Type 0) (es h : List Entry) (a old b new : Seen S D F) → es ≡ h → a ≡ old → b ≡ new → P es a b → P h old new
of_worlds P es h a old b new histories olds news is =
    subst (λ h. P h old new) histories (subst (λ old. P es old new) olds (subst (λ new. P es a new) news is))

pub told_of_worlds : {S D F K : Type 0} (faults : K → ℕ) (written : K → Option (List ℕ)) (cause : List Entry → Seen S D F → Seen S D F → List ℕ → Ending → Type 0)
    (es h : List Entry) (a old b new : Seen S D F) (rest_out out new_out : K) (front : List ℕ) (began : Began) (status : ℕ) (end : Result Ending OutOfMemory)
    → es ≡ h → a ≡ old → b ≡ new → rest_out ≡ out → IfOk end (EndsWith (cause es a b) front es began)
    → (e : Ending) × (end ≡ Ok e) × ((text : List ℕ) → IsReportBehind front es e began text → IsTold (faults rest_out) (faults new_out) (written rest_out) (written new_out) text e status)
    → HasTold (cause h old new) (written_of faults written out new_out) status
told_of_worlds faults written cause es h a old b new rest_out out new_out front began status end histories olds news outs ends is =
    of_worlds (λ h old new. HasTold (cause h old new) (written_of faults written out new_out) status) es h a old b new histories olds news
    (subst (λ k. HasTold (cause es a b) (written_of faults written k new_out) status) outs
    (told_run (cause es a b) es (written_of faults written rest_out new_out) status began is.0 front es (at_ok _ end is.0 is.1 ends) refl is.2))

-- a world whose clock and door are those of another
pub same_rest : {S K D C F L : Type 0} (w v : World S K D C F L) → w.clock ≡ v.clock → w.door ≡ v.door → w ≡ record w { clock = v.clock; door = v.door }
same_rest w v clock door = ap (λ c. record w { clock = c }) clock ∙ ap (λ d. record w { clock = v.clock; door = d }) door
