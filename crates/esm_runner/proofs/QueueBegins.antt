-- A run that is to begin, over what its journal says.
use Rattle.std.proofs.Common.{◌≡◌, ◌∙◌, ℕ, List, ap, reverse}
use Rattle.esm_model.specs.declared.config.Config.{Config}
use Rattle.esm_journal_state.specs.Meaning.{history}
use Rattle.esm_journal_state.specs.SaidLists.{SaidLists, IsInOrder}
use Rattle.esm_journal_state.specs.Tells.{Tells}
use Rattle.esm_queue_core.specs.CoreView.{CoreView, new_setting, new_view}
use Rattle.esm_queue_book.specs.Opening.{IsCoreOver}
use Rattle.esm_runner.proofs.Begins.{SameTold, says_itself}

-- the book's core is opened with what the journal was found to say
pub core_begun : (config : Config) (calls visibility : ℕ) (said : SaidLists) (payloads : List (List ℕ)) (v : CoreView) → SameTold → Tells said (history (reverse payloads)) → IsInOrder said
    → IsCoreOver config calls visibility payloads v → v ≡ new_view (new_setting config calls visibility said.deletions)
core_begun config calls visibility said payloads v told tells order core =
    let h = history (reverse payloads) in
    core.is ∙ ap (λ (t : SaidLists). new_view (new_setting config calls visibility t.deletions)) (told core.said said h h core.tells tells (says_itself h) core.order order)
