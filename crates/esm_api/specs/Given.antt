-- What the program does with a judged request. Only this crate's proofs cite this.
use Rattle.std.specs.Prelude.{◌≡◌, ◌⊎◌, ℕ, Bool}
use Rattle.esm_io.specs.Meanings.{DiskMeaning}
use Rattle.esm_registry.specs.Machine.{Asked}
use Rattle.esm_registry.specs.State.{RegistryState}
use Rattle.esm_api.specs.declared.respond.Response.{Response}
use Rattle.esm_api.specs.Request.{Judgement, Asks}
use Rattle.esm_api.specs.Response.{response}
use Rattle.esm_api.specs.Serving.{IsApplied, Leaves}

-- the answer given is the response, and the registry is left as the response says
pub record Gives {D : Type 0} (m : DiskMeaning D) (old new : RegistryState D) (judgement : Judgement) (moment : ℕ) (given : Response) : Type 0 where
  pub failed : Bool
  pub status : given.status ≡ (response old.mappings judgement moment failed).status
  pub text : given.text.items ≡ (response old.mappings judgement moment failed).text
  pub leaves : Leaves m old new judgement moment failed

-- nothing is answered: the registry is as before, or a command was applied to it
abbrev pub Stands : {D : Type 0} → DiskMeaning D → RegistryState D → RegistryState D → Judgement → ℕ → Type 0
Stands m old new judgement moment =
    (new ≡ old) ⊎ ((asked : Asked) × (failed : Bool) × (judgement ≡ Asks asked) × IsApplied m old new asked moment failed)
