-- The sizes of the four files by their names. Only this crate's proofs cite this.
use Rattle.std.specs.Prelude.{ℕ}
use Rattle.esm_model.specs.declared.names.FileName.{FileName}
use Rattle.esm_model.specs.declared.names.FileName.TheVariants.{Journal, Spare, Failures, Registry}
use Rattle.esm_folder.specs.declared.lengths.Sizes.{Sizes}

abbrev pub size_at : Sizes → FileName → ℕ
size_at sizes Journal = sizes.journal
size_at sizes Spare = sizes.spare
size_at sizes Failures = sizes.failures
size_at sizes Registry = sizes.registry
