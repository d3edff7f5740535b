-- What the words ask for, by what the command works on. Only this crate's proofs cite this.
use Rattle.std.specs.Prelude.{◌≡◌, List, ℕ}
use Rattle.esm_cli.specs.declared.command.Command.{Command}
use Rattle.esm_cli.specs.declared.command.Command.TheVariants as command
use Rattle.esm_cli.specs.declared.command.WordsError.TheVariants.{BadWords}
use Rattle.esm_run.specs.Built.{SpellsBuilt}
use Rattle.esm_run.specs.Tended.{command_of}
use Rattle.esm_run.specs.declared.asked.Asked.{Asked}
use Rattle.esm_run.specs.declared.asked.Asked.TheVariants.{Files, Serve, Gen, Run, Ddb, Redrive, Replay, Nothing}

-- the command asks for this
abbrev pub AsksFor : Command → Asked → Type 0
AsksFor c (Files files) = c ≡ command_of files
AsksFor c (Serve requests) = c ≡ command.Serve requests
AsksFor c (Gen records) = c ≡ command.Gen records
AsksFor c (Run options) = c ≡ command.Run options
AsksFor c (Ddb config calls timeout traced) = c ≡ command.Ddb config calls timeout traced
AsksFor c (Redrive w) = c ≡ command.Redrive w.config w.max_receives w.calls w.visibility w.timeout w.trace
AsksFor c (Replay config calls timeout traced) = c ≡ command.Replay config calls timeout traced
AsksFor c (Nothing why) = ⊥

-- the words ask for this, or spell no command that is built
abbrev pub IsAsked : List (List ℕ) → Asked → Type 0
IsAsked words (Files files) = SpellsBuilt words (command_of files)
IsAsked words (Serve requests) = SpellsBuilt words (command.Serve requests)
IsAsked words (Gen records) = SpellsBuilt words (command.Gen records)
IsAsked words (Run options) = SpellsBuilt words (command.Run options)
IsAsked words (Ddb config calls timeout traced) = SpellsBuilt words (command.Ddb config calls timeout traced)
IsAsked words (Redrive w) = SpellsBuilt words (command.Redrive w.config w.max_receives w.calls w.visibility w.timeout w.trace)
IsAsked words (Replay config calls timeout traced) = SpellsBuilt words (command.Replay config calls timeout traced)
IsAsked words (Nothing why) = why ≡ BadWords → (c : Command) → ¬ SpellsBuilt words c
