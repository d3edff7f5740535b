-- What a batcher knows of a shared history: whether it rests or runs a call, and how a call is logged. This product's own.
use Rattle.std.specs.Prelude.{ℕ, List}
use Rattle.esm_model.specs.declared.book.Job.{Job}
use Rattle.esm_model.specs.declared.book.Next.{Next}
use Rattle.esm_model.specs.declared.book.Next.TheVariants.{Call}
use Rattle.esm_model.specs.declared.called.Called.{Called}
use Rattle.esm_model.specs.declared.entry.Reply.{Reply}
use Rattle.esm_model.specs.declared.setup.Setup.{Setup}
use Rattle.esm_model.specs.declared.setup.Told.{Told}

-- a call of the function with this event and this reply, as its caller logs it
abbrev pub call_of : Setup → (List ℕ → List ℕ) → (event : List ℕ) → Reply → Called
call_of setup sends event reply = record { name = setup.config.function; event = sends event; reply = reply }

-- what holds of the batcher after this answer: its call runs, or it rests
abbrev pub Answers : (rests : Setup → List Told → ℕ → Type 0) (runs : Setup → List Told → ℕ → Job → Type 0) → Setup → List Told → ℕ → Next → Type 0
Answers rests runs setup h k (Call job) = runs setup h k job
Answers rests runs setup h k _ = rests setup h k
