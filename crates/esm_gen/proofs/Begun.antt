-- What a generated stream's run begins with: files that say nothing, and no history.
use Rattle.std.proofs.Common.{◌≡◌, ℕ, true, false, List, [], ◌∷◌, ◌++◌, refl, ap, subst, ◌∙◌, arith}
use Rattle.std.specs.Prelude.{reverse}
use Rattle.esm_gen.specs.Generated.{generated_lines}
use Rattle.esm_folder.specs.Init.{fresh_bytes}
use Rattle.esm_model.specs.declared.names.FileName.TheVariants.{Journal, Spare}
use Rattle.esm_io.specs.Meanings.{DiskMeaning}
use Rattle.esm_model.specs.declared.entry.Entry.{Entry}
use Rattle.esm_journal_state.specs.Meaning.{history}
use Rattle.esm_journal_state.specs.Tells.{Tells}
use Rattle.esm_runner.specs.Files.{FilesState, IsOpenedFiles}
use Rattle.esm_gen.specs.Nothing.{SaysNothing}
use Rattle.esm_gen.specs.Run.{HasRun, generated_setting}
use Rattle.esm_gen.proofs.Fresh.{fresh_none}
use Rattle.esm_gen.proofs.Nothing.{says_nothing}

pub files_nothing : {D : Type 0} (m : DiskMeaning D) (f : FilesState D) (journal spare : D) → IsOpenedFiles m f → f.journal ≡ journal → f.spare ≡ spare
    → m.honest journal ≡ true → m.honest spare ≡ true → m.content journal ≡ fresh_bytes Journal → m.content spare ≡ fresh_bytes Spare → SaysNothing f.said
files_nothing m f journal spare is j s honest_journal honest_spare first second =
    let opens = is.opens (ap m.honest j ∙ honest_journal, ap m.honest s ∙ honest_spare) in
    let none = fresh_none (m.content f.journal) (m.content f.spare) f.pair.epoch f.pair.payloads (ap m.content j ∙ first) (ap m.content s ∙ second) opens in
    says_nothing f.said (subst (λ (payloads : List (List ℕ)). Tells f.said (history (reverse payloads))) none is.tells)

no_entry : (later : List Entry) (e : Entry) (before : List Entry) → [] ≡ later ++ e ∷ before → ⊥
no_entry [] e before is = cc is
no_entry (l ∷ later) e before is = cc is

-- nothing came yet
pub nothing_run : (records : ℕ) → HasRun records []
nothing_run records = record {
  setting = generated_setting [];
  run = record {
    setting = refl;
    have_come = record { bytes = []; rest = generated_lines records; front = refl; whole = false; came = λ n. (_, refl) };
    legal_trace = λ streams extends. tt;
    order_per_key = λ later before lane places closing m is. absurd (no_entry later _ before is);
    no_repeat = λ later before lane places closing m is. absurd (no_entry later _ before is);
    every_record_counted = λ n. refl;
    replies = λ k below i d within. absurd (omega arith);
  };
}
