-- What serving one connection does to the link, where it shows its talk, and to the registry. This product's own.
use Rattle.std.specs.Prelude.{◌≡◌, ◌≢◌, ◌≤◌, ◌+◌, ◌⊎◌, ℕ, List, ◌++◌, length, Bool, true, false, Option}
use Rattle.std.specs.Option.{option_to_list}
use Rattle.esm_io.specs.Faults.{Rose}
use Rattle.esm_io.specs.Images.{LeavesOnly}
use Rattle.esm_io.specs.Meanings.{DiskMeaning}
use Rattle.esm_io.specs.Talks.{Talk, Reads, Writes}
use Rattle.esm_model.specs.declared.limits.TheConstants.{MAX_HEAD}
use Rattle.esm_journal.specs.State.{KeepsWhileUp, KeepsWhileDown}
use Rattle.esm_registry.specs.Machine.{Asked, step}
use Rattle.esm_registry.specs.State.{RegistryState, OpensToStep}
use Rattle.esm_api.specs.declared.length.TheConstants.{MAX_REQUEST_BODY}
use Rattle.esm_api.specs.Request.{Judgement, Unfinished, Refused, Asks, IsJudged}
use Rattle.esm_api.specs.Response.{response, asked_response}

-- A command was applied, or the disk failed during it: the mappings and payloads are those of the response. A crash at
-- any moment of the call leaves the old payloads, or these and the one that is written.
pub record IsApplied {D : Type 0} (m : DiskMeaning D) (old new : RegistryState D) (asked : Asked) (moment : ℕ) (failed : Bool) : Type 0 where
  pub mappings : new.mappings ≡ (asked_response old.mappings asked moment failed).after
  pub payloads : new.journal.payloads ≡ old.journal.payloads ++ option_to_list (asked_response old.mappings asked moment failed).payload
  pub down : new.journal.down ≡ failed
  pub cause : failed ≡ true → Rose (m.faults old.journal.disk) (m.faults new.journal.disk)
  pub any_moment : m.honest old.journal.disk ≡ true
      → LeavesOnly m.moment m.since old.journal.disk new.journal.disk (OpensToStep old.journal.payloads (step old.mappings asked moment).payload)
  pub kept : KeepsWhileUp m new.journal
  pub stopped : KeepsWhileDown m new.journal

-- what a judged request does to the registry
abbrev pub Leaves : {D : Type 0} → DiskMeaning D → RegistryState D → RegistryState D → Judgement → ℕ → Bool → Type 0
Leaves m old new Unfinished moment failed = new ≡ old
Leaves m old new (Refused row) moment failed = (new ≡ old) × (failed ≡ false)
Leaves m old new (Asks asked) moment failed = IsApplied m old new asked moment failed

-- A whole request was read and took effect, and all bytes of its answer were written except these. The link in between is
-- named as a link, and not by its talk alone: of a link that shows no talk, a call can only name the one that its own
-- reads and writes left.
pub record Responds {L D : Type 0} (told : L → Option Talk) (link link' : L) (m : DiskMeaning D) (old new : RegistryState D) (moment status : ℕ) (unsent : List ℕ) : Type 0 where
  pub read : List ℕ
  pub judgement : Judgement
  pub judged : IsJudged read judgement
  pub whole : judgement ≢ Unfinished
  pub within : length read ≤ MAX_HEAD + MAX_REQUEST_BODY
  pub failed : Bool
  pub middle : L
  pub reads : Reads (told link) (told middle) read
  pub sent : List ℕ
  pub parts : (response old.mappings judgement moment failed).text ≡ sent ++ unsent
  pub writes : Writes (told middle) (told link') sent
  pub status_is : status ≡ (response old.mappings judgement moment failed).status
  pub failed_is : status ≡ 500 → failed ≡ true
  pub leaves : Leaves m old new judgement moment failed

-- bytes were read that are not a whole request, and nothing else happened
pub record Waits {D : Type 0} (link link' : Option Talk) (old new : RegistryState D) : Type 0 where
  pub read : List ℕ
  pub reads : Reads link link' read
  pub unfinished : IsJudged read Unfinished
  pub same : new ≡ old

-- bytes were read and none was written; a whole request may have taken effect
pub record IsUnanswered {D : Type 0} (link link' : Option Talk) (m : DiskMeaning D) (old new : RegistryState D) (moment : ℕ) : Type 0 where
  pub read : List ℕ
  pub reads : Reads link link' read
  pub leaves : (new ≡ old) ⊎ ((asked : Asked) × (failed : Bool) × IsJudged read (Asks asked) × IsApplied m old new asked moment failed)
