-- Two outcomes of `init` over the same disks have one status, where the disks are honest and neither they nor the output failed.
use Rattle.std.proofs.Common.{◌≡◌, ◌∙◌, ℕ, List, Option, inl, inr, refl, sym}
use Rattle.esm_io.specs.Faults.{Rose}
use Rattle.esm_io.specs.Meanings.{DiskMeaning}
use Rattle.esm_folder.specs.Init.{IsInitEnd, IsFirstNotEmpty, size_in}
use Rattle.esm_folder.specs.declared.disks.Disks.{Disks}
use Rattle.esm_model.specs.declared.names.FileName.{FileName}
use Rattle.esm_folder.specs.declared.files.InitEnd.{InitEnd}
use Rattle.esm_folder.specs.declared.files.InitEnd.TheVariants.{Done, NotEmpty, DiskFault}
use Rattle.esm_run.specs.Endings.{IsToldWith}
use Rattle.esm_run.specs.Initialized.{AreSound, InitOutcome, init_status}
use Rattle.esm_run.specs.World.{Written}
use Rattle.esm_run.proofs.OneCommand.{OneStatus}

made_not_empty : {D : Type 0} (m : DiskMeaning D) (old new : Disks D) (f : FileName) (size : ℕ) → AreSound m old new
    → IsInitEnd m old new Done → IsInitEnd m old new (NotEmpty f size) → ⊥
made_not_empty m old new f size sound made found =
    let here : IsFirstNotEmpty m old f size = (found sound.honest).0 in
    let none : size_in m old f ≡ 0 = (made f (sound.honest f)).0 in
    here.not_empty (here.size_is ∙ none)

no_fault : {D : Type 0} (m : DiskMeaning D) (old new : Disks D) → AreSound m old new → IsInitEnd m old new DiskFault → ⊥
no_fault m old new sound fault = sound.no_fault fault.0 fault.1

same_status : {D : Type 0} (m : DiskMeaning D) (old new : Disks D) (e d : InitEnd) → AreSound m old new → IsInitEnd m old new e → IsInitEnd m old new d
    → init_status e ≡ init_status d
same_status m old new Done Done sound one other = refl
same_status m old new Done (NotEmpty f size) sound one other = absurd (made_not_empty m old new f size sound one other)
same_status m old new Done DiskFault sound one other = absurd (no_fault m old new sound other)
same_status m old new (NotEmpty f size) Done sound one other = absurd (made_not_empty m old new f size sound other one)
same_status m old new (NotEmpty f size) (NotEmpty g more) sound one other = refl
same_status m old new (NotEmpty f size) DiskFault sound one other = absurd (no_fault m old new sound other)
same_status m old new DiskFault d sound one other = absurd (no_fault m old new sound one)

pub told_with : (faults_before faults_now : ℕ) (before after : Option (List ℕ)) (text : List ℕ) (told failed status : ℕ)
    → (Rose faults_before faults_now → ⊥) → IsToldWith faults_before faults_now before after text told failed status → status ≡ told
told_with faults_before faults_now before after text told failed status sound (inl is) = is.0
told_with faults_before faults_now before after text told failed status sound (inr cut) = absurd (sound cut.1.fault)

pub one_init : {D : Type 0} (m : DiskMeaning D) (old new : Disks D) (output : Written) → (Rose output.faults_before output.faults_now → ⊥) → AreSound m old new
    → OneStatus (InitOutcome m old new output)
one_init m old new output sound disks_sound a b one other =
    told_with output.faults_before output.faults_now output.before output.after _ _ _ a sound one.told
    ∙ same_status m old new one.end other.end disks_sound one.cause other.cause
    ∙ sym (told_with output.faults_before output.faults_now output.before output.after _ _ _ b sound other.told)
