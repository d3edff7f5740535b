-- What a generated stream's run begins with. Only this crate's proofs cite this.
use Rattle.std.specs.Prelude.{◌≡◌, ℕ, true, [], length, is_ok}
use Rattle.std.specs.List.{All}
use Rattle.esm_gen.specs.Generated.{generated_lines, generated_mapping, generated_records}
use Rattle.esm_gen.specs.Reads.{ReadsAs}
use Rattle.esm_io.specs.Caller.{CallerState}
use Rattle.esm_model.specs.declared.limits.TheConstants.{MAX_LANES}
use Rattle.esm_model.specs.Pattern.{read_patterns}
use Rattle.esm_model.specs.Valid.{IsStreamConfig, is_stream}
use Rattle.esm_gen.specs.Nothing.{SaysNothing}
use Rattle.esm_gen.specs.declared.run.Prepared.{Prepared}

pub record IsPrepared (records : ℕ) (p : Prepared) : Type 0 where
  pub config : p.config ≡ generated_mapping
  pub said : SaysNothing p.files.said
  pub lines : p.input.left ≡ generated_lines records
  pub reads : ReadsAs p.input.left (generated_records records)
  pub count : length p.callers.items ≡ MAX_LANES
  pub unused : All (λ (f : CallerState). f.log ≡ []) p.callers.items

-- it may run
pub record MayRun (p : Prepared) : Type 0 where
  pub valid : IsStreamConfig p.config
  pub patterns : is_ok (read_patterns (is_stream p.config.kind) p.config.filters) ≡ true
  pub count : length p.callers.items ≡ MAX_LANES
