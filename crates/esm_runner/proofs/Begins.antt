-- A run that is to begin, over what its journal says.
use Rattle.std.proofs.Common.{◌≡◌, ◌∙◌, ℕ, List, ap, refl, reverse}
use Rattle.esm_model.specs.declared.config.Config.{Config}
use Rattle.esm_journal_record.specs.declared.said.Said.{Said}
use Rattle.esm_journal_state.specs.Compact.{SameSaid}
use Rattle.esm_journal_state.specs.Meaning.{history}
use Rattle.esm_journal_state.specs.SaidLists.{SaidLists, IsInOrder}
use Rattle.esm_journal_state.specs.Tells.{Tells}
use Rattle.esm_ledger.specs.Ledger.{opened_with}
use Rattle.esm_stream_core.specs.CoreView.{CoreView, new_view}
use Rattle.esm_stream_book.specs.Opening.{IsCoreOver}

-- lists in order that tell of histories that say the same are equal
abbrev pub SameTold : Type 0
SameTold = (t u : SaidLists) (g h : List Said) → Tells t g → Tells u h → SameSaid g h → IsInOrder t → IsInOrder u → t ≡ u

pub says_itself : (h : List Said) → SameSaid h h
says_itself h = record {
  fates = λ n i. refl;
  tries = λ n i. refl;
  states = λ n w. refl;
  window_tries = λ n w. refl;
  replays = λ n i. refl;
  deletions = λ i. refl;
}

-- the book's core is opened with what the journal was found to say
pub core_begun : (config : Config) (calls : ℕ) (said : SaidLists) (payloads : List (List ℕ)) (v : CoreView) → SameTold → Tells said (history (reverse payloads)) → IsInOrder said
    → IsCoreOver config calls payloads v → v ≡ new_view (opened_with config calls said)
core_begun config calls said payloads v told tells order core =
    let h = history (reverse payloads) in
    core.is ∙ ap (λ (t : SaidLists). new_view (opened_with config calls t)) (told core.said said h h core.tells tells (says_itself h) core.order order)
