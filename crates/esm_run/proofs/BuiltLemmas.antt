-- Words that spell a command which is not built spell none that is.
use Rattle.std.proofs.Common.{◌≡◌, ◌∙◌, ℕ, false, List, subst, sym, ap, true≢false}
use Rattle.esm_cli.specs.Words.{spells}
use Rattle.esm_cli.specs.declared.command.Command.{Command}
use Rattle.esm_run.specs.Asked.{AsksFor, IsAsked}
use Rattle.esm_run.specs.Built.{is_built, SpellsBuilt}
use Rattle.esm_run.specs.declared.asked.Asked.{Asked}
use Rattle.esm_run.specs.declared.asked.Asked.TheVariants.{Files, Serve, Gen, Run, Ddb, Redrive, Replay, Nothing}
use Rattle.esm_run.proofs.OneCommand.{OneCommand}

pub none_built : (words : List (List ℕ)) (c : Command) → OneCommand → spells words c → is_built c ≡ false → (d : Command) → SpellsBuilt words d → ⊥
none_built words c one spelled unbuilt d is =
    let same : c ≡ d = one words c d spelled is.0 in
    true≢false (sym is.1 ∙ sym (ap is_built same) ∙ unbuilt)

-- the words ask for what their command asks for
pub is_asked : (words : List (List ℕ)) (c : Command) (a : Asked) → SpellsBuilt words c → AsksFor c a → IsAsked words a
is_asked words c (Files files) spelled asks = subst (SpellsBuilt words) asks spelled
is_asked words c (Serve requests) spelled asks = subst (SpellsBuilt words) asks spelled
is_asked words c (Gen records) spelled asks = subst (SpellsBuilt words) asks spelled
is_asked words c (Run options) spelled asks = subst (SpellsBuilt words) asks spelled
is_asked words c (Ddb config calls timeout traced) spelled asks = subst (SpellsBuilt words) asks spelled
is_asked words c (Redrive w) spelled asks = subst (SpellsBuilt words) asks spelled
is_asked words c (Replay config calls timeout traced) spelled asks = subst (SpellsBuilt words) asks spelled
is_asked words c (Nothing why) spelled asks = absurd asks
