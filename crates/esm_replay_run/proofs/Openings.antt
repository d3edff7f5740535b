-- Why a run does not begin, by what its failure file says.
use Rattle.std.proofs.Common.{ℕ, List}
use Rattle.std.specs.Prelude.{IfOk}
use Rattle.esm_replay_book.specs.Opening.{IsBadLines}
use Rattle.esm_replay_book.specs.declared.opening.ReplayOpen.{ReplayOpen}
use Rattle.esm_replay_book.specs.declared.opening.ReplayOpen.TheVariants.{BadPayload, BadLine, OutOfMemory}
use Rattle.esm_replay_run.specs.Runs.{IsRefusal, IsOfLine, refusal_of}

pub of_line : (lines : List (List ℕ)) (why : ReplayOpen) → IsBadLines lines why → IsOfLine why
of_line lines (BadPayload i) bad = absurd bad
of_line lines (BadLine i) bad = tt
of_line lines OutOfMemory bad = tt

pub refused_so : (lines : List (List ℕ)) (why : ReplayOpen) → IsBadLines lines why → IfOk (refusal_of why) (IsRefusal lines)
refused_so lines (BadPayload i) bad = absurd bad
refused_so lines (BadLine i) bad = bad
refused_so lines OutOfMemory bad = tt
