-- What contracts see of a journal.
use Rattle.std.specs.Prelude.{◌≡◌, ◌⊎◌, ℕ, Bool, true, false, List, [], ◌∷◌, ◌++◌, refl}
use Rattle.std.specs.Coded.{Coded, code_by, coded×, coded_ℕ, coded_bool, coded_list}
use Rattle.esm_io.specs.Meanings.{DiskMeaning}
use Rattle.esm_io.specs.Images.{Only}
use Rattle.esm_journal.specs.File.{header_of, Holding, opened}

-- a journal: its payloads in order; whether a call of its disk failed; the lengths of the next payloads for which there
-- is memory; and its disk
pub record JournalState (D : Type 0) : Type 0 where
  pub payloads : List (List ℕ)
  pub down : Bool
  pub room : List ℕ
  pub disk : D

-- a state is stored as the tuple of its fields
abbrev pub state_code : {D : Type 0} → Coded D → Coded (JournalState D)
state_code {D} code =
    code_by (List (List ℕ) × (Bool × (List ℕ × D))) (coded× (coded_list (coded_list coded_ℕ)) (coded× coded_bool (coded× (coded_list coded_ℕ) code)))
    (λ s. (s.payloads, (s.down, (s.room, s.disk))))
    (λ p. record { payloads = p.0; down = p.1.0; room = p.1.1.0; disk = p.1.1.1 }) (λ _. refl)

-- a file with this header opens to these payloads
abbrev pub OpensTo : List ℕ → List (List ℕ) → List ℕ → Type 0
OpensTo header payloads bytes = (epoch : ℕ) × (opened header bytes ≡ Holding epoch payloads)

-- it opens to these payloads, or to these and one more
abbrev pub OpensToEither : List ℕ → List (List ℕ) → List ℕ → List ℕ → Type 0
OpensToEither header payloads payload bytes = OpensTo header payloads bytes ⊎ OpensTo header (payloads ++ payload ∷ []) bytes

-- a disk reads as these payloads, and so does each image
pub record Keeps {D : Type 0} (m : DiskMeaning D) (header : List ℕ) (payloads : List (List ℕ)) (disk : D) : Type 0 where
  pub opens : OpensTo header payloads (m.content disk)
  pub durable : Only (m.content disk) (m.image disk)

-- a call failed while a payload was added: each image of the disk opens to the payloads, or to these and that one
abbrev pub StillOpens : {D : Type 0} → DiskMeaning D → List ℕ → List (List ℕ) → D → Type 0
StillOpens m header payloads disk = (payload : List ℕ) × ((bytes : List ℕ) → m.image disk bytes → OpensToEither header payloads payload bytes)

-- if the disk is honest and no call of it failed, it keeps the payloads
abbrev pub KeepsWhileUp : {D : Type 0} → DiskMeaning D → JournalState D → Type 0
KeepsWhileUp m journal = m.honest journal.disk ≡ true → journal.down ≡ false → Keeps m (header_of 1) journal.payloads journal.disk

-- and if a call failed, a crash leaves the payloads, or these and the one that was being added
abbrev pub KeepsWhileDown : {D : Type 0} → DiskMeaning D → JournalState D → Type 0
KeepsWhileDown m journal = m.honest journal.disk ≡ true → journal.down ≡ true → StillOpens m (header_of 1) journal.payloads journal.disk
