-- What stays of a redrive's book while it goes on.
use Rattle.std.proofs.Common.{◌≡◌, List, ℕ, ap}
use Rattle.std.specs.Prelude.{Result, Ok, Err, OnOk}
use Rattle.esm_model.specs.declared.called.Called.{Called}
use Rattle.esm_model.specs.declared.item.LineKind.TheVariants as kinds
use Rattle.esm_queue_model.specs.QueueSetting.{is_fifo}
use Rattle.esm_redrive_model.specs.RedriveSetting.{RedriveSetting}
use Rattle.esm_redrive_run.specs.Book.{Book, lines_in}
use Rattle.esm_redrive_run.proofs.Stepping.{HasStepped}

pub kind_stays : {D : Type 0} (t : ℕ) (old new : Book D) (more : (List ℕ → List ℕ) → List Called) → HasStepped t old new more → lines_in new ≡ lines_in old
kind_stays t old new more step = ap (λ (s : RedriveSetting). kinds.Queue (is_fifo s.queue.config.kind)) step.opened

pub function_stays : {D : Type 0} (t : ℕ) (old new : Book D) (more : (List ℕ → List ℕ) → List Called) → HasStepped t old new more → new.core.setting.queue.config.function ≡ old.core.setting.queue.config.function
function_stays t old new more step = ap (λ (s : RedriveSetting). s.queue.config.function) step.opened

pub if_ok : {T E : Type 0} (P Q : Type 0) (r : Result T E) → (P → Q) → OnOk r P → OnOk r Q
if_ok P Q (Ok x) then is = then is
if_ok P Q (Err e) then is = tt
