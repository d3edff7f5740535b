-- The change that a book was told: there is none where it is up, nor where a device failed.
use Rattle.std.proofs.Common.{◌≡◌, true, List, refl, Option, Some, None}
use Rattle.std.specs.Prelude.{is_some}
use Rattle.esm_model.specs.declared.book.Trouble.{Trouble}
use Rattle.esm_model.specs.declared.book.Trouble.TheVariants.{Disk, Dest, Changed}
use Rattle.esm_model.specs.declared.entry.Entry.{Entry}
use Rattle.esm_model.specs.Kept.{change_of}
use Rattle.esm_model.specs.Setting.{Setting}
use Rattle.esm_stream_book.specs.Calls.{WasWriting}

pub none_while_up : (o : Option Trouble) → (is_some o ≡ true → ⊥) → change_of o ≡ None
none_while_up None up = refl
none_while_up (Some t) up = absurd (up refl)

pub none_by_fault : (t : Trouble) (s : Setting) (rest : List Entry) → WasWriting t s rest → change_of (Some t) ≡ None
none_by_fault Disk s rest writing = refl
none_by_fault Dest s rest writing = refl
none_by_fault (Changed change) s rest writing = absurd writing
