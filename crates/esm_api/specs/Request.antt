-- What a list of bytes is as a request: it is not whole yet, a row of the table refuses it, or it asks for a command. The
-- order of the rows, and when a request is whole, are this product's own; its body is JSON (Lambda API Reference of
-- 2015-03-31).
use Rattle.std.specs.Prelude.{◌≡◌, ◌⊎◌, ℕ, nat_lt, List, length, take, Option, Some, None, if◌then◌else◌}
use Rattle.serde_json.specs.Data.{Data}
use Rattle.httparse.specs.Grammar.{RequestHead}
use Rattle.esm_model.specs.Json.{read_json}
use Rattle.esm_registry.specs.Machine.{Asked, Create, Listing, Get, Update, Delete}
use Rattle.esm_api.specs.declared.refusal.Refusal.{Refusal}
use Rattle.esm_api.specs.declared.refusal.Refusal.TheVariants as row
use Rattle.esm_api.specs.declared.plan.Change.{Change}
use Rattle.esm_api.specs.declared.plan.Change.TheVariants as change
use Rattle.esm_api.specs.declared.plan.Plan.{Plan}
use Rattle.esm_api.specs.declared.plan.Plan.TheVariants as plan
use Rattle.esm_api.specs.Head.{BeginsWith, HasBadHead, AwaitsHead}
use Rattle.esm_api.specs.Plan.{plan_of}

pub data Judgement : Type 0 where
  Unfinished : Judgement
  Refused : Refusal → Judgement
  Asks : Asked → Judgement

-- the change with the value of its body; the body's JSON is judged before a missing UUID
abbrev pub changing : Change → Option Data → Judgement
changing what None = Refused row.Json
changing change.Create (Some value) = Asks (Create value)
changing (change.Update None) (Some value) = Refused row.Mapping
changing (change.Update (Some id)) (Some value) = Asks (Update id value)

-- what a head's plan decides of the bytes behind the head
abbrev pub judged : Plan → List ℕ → Judgement
judged (plan.Refuse row) after = Refused row
judged plan.List after = Asks Listing
judged (plan.Get id) after = Asks (Get id)
judged (plan.Delete id) after = Asks (Delete id)
judged (plan.Read what count) after =
    if nat_lt (length after) count then Unfinished else changing what (read_json (take count after))

-- what the bytes are
abbrev pub IsJudged : List ℕ → Judgement → Type 0
IsJudged bytes judgement =
    (HasBadHead bytes × (judgement ≡ Refused row.Head))
    ⊎ ((AwaitsHead bytes × (judgement ≡ Unfinished))
    ⊎ ((tree : RequestHead) × (after : List ℕ) × BeginsWith bytes tree after × (judgement ≡ judged (plan_of tree) after)))
