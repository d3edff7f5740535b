-- A run of which the headline holds is a redrive over what was found.
use Rattle.std.proofs.Common.{◌≡◌, ◌⊎◌, ℕ, Bool, List, Option, ap, inl, inr, subst, sym}
use Rattle.std.specs.List.{All}
use Rattle.esm_io.specs.Meanings.{DiskMeaning}
use Rattle.esm_model.specs.declared.book.Trouble.{Trouble}
use Rattle.esm_model.specs.declared.entry.Entry.{Entry}
use Rattle.esm_model.specs.declared.item.Message.{Message}
use Rattle.esm_queue_model.specs.QueueSetting.{is_fifo}
use Rattle.esm_redrive.specs.ReadsBack.{HasLetter}
use Rattle.esm_redrive_life.specs.Life.{IsKept}
use Rattle.esm_redrive_model.specs.RedriveSetting.{RedriveSetting}
use Rattle.esm_redrive_model.specs.RedriveStep.{LegalRedrive}
use Rattle.esm_redrive_model.proofs.Named.{legal_before}
use Rattle.esm_runner.specs.Files.{FilesState}
use Rattle.esm_redrive_run.specs.Headline.{Disks, Words}
use Rattle.esm_redrive_run.specs.Stages.{IsLeftOf, IsStage}

kept_legal : (s : RedriveSetting) (h further kept : List Entry) → LegalRedrive s h → IsLeftOf s h further kept → LegalRedrive s kept
kept_legal s h further kept legal (inl front) = legal_before s front.0 kept (subst (LegalRedrive s) front.1 legal)
kept_legal s h further kept legal (inr more) = subst (LegalRedrive s) (sym more.2.1) (more.2.0.follows s.queue.messages (λ i m at. at))

is_kept : (s : RedriveSetting) (h further kept : List Entry) → IsLeftOf s h further kept → IsKept h kept
is_kept s h further kept (inl front) = inl front
is_kept s h further kept (inr more) = inr (record { hand = more.0; before = more.2.0.before; later = more.2.0.later; kept_is = more.2.1; happened_is = more.2.0.split })

either_legal : (s : RedriveSetting) (h hand tried kept : List Entry) → LegalRedrive s h → IsLeftOf s h hand kept ⊎ IsLeftOf s h tried kept → LegalRedrive s kept
either_legal s h hand tried kept legal (inl of) = kept_legal s h hand kept legal of
either_legal s h hand tried kept legal (inr of) = kept_legal s h tried kept legal of

either_kept : (s : RedriveSetting) (h hand tried kept : List Entry) → IsLeftOf s h hand kept ⊎ IsLeftOf s h tried kept → IsKept h kept
either_kept s h hand tried kept (inl of) = is_kept s h hand kept of
either_kept s h hand tried kept (inr of) = is_kept s h tried kept of

pub stage : {D : Type 0} (m : DiskMeaning D) (gave : ℕ → Bool) (w : Words) (f : FilesState D) (messages : List Message) (s : RedriveSetting) (h : List Entry) (trouble : Option Trouble) (hand tried : List Entry) (new : Disks D) (recorded lined : List Entry)
    → IsStage m gave w f messages s h trouble hand tried new recorded lined
stage m gave w f messages s h trouble hand tried new recorded lined opened setting headline left =
    let legal : LegalRedrive s h = headline.legal_trace s.queue.messages (λ i x at. at) in
    let kind : is_fifo s.queue.config.kind ≡ is_fifo w.config.kind = ap (λ (v : RedriveSetting). is_fifo v.queue.config.kind) setting.opened in
    record {
      kind = kind;
      opened = record { told = f.said; tells = opened.tells; found = ap (λ (v : RedriveSetting). v.queue.deletions) setting.opened };
      ids = ap (λ (v : RedriveSetting). v.dead_ids) setting.opened;
      messages = headline.valid;
      letters = subst (λ (b : Bool). All (HasLetter b) s.queue.messages) kind headline.letters;
      different = headline.different;
      legal = legal;
      legal_recorded = kept_legal s h hand recorded legal left.recorded_is;
      legal_lined = either_legal s h hand tried lined legal left.lined_is;
      recorded = is_kept s h hand recorded left.recorded_is;
      lined = either_kept s h hand tried lined left.lined_is;
      line_first = left.line_first;
    }
