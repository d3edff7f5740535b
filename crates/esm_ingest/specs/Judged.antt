-- What records that come are judged by, and which of them stay open. Only this crate's proofs cite this.
use Rattle.std.specs.Prelude.{◌≡◌, ℕ, ◌+◌, ◌<◌, ◌≤◌, Bool, true, false, not, ◌&&◌, is_none, List, [], ◌∷◌, if◌then◌else◌}
use Rattle.esm_model.specs.Records.{Record}
use Rattle.esm_model.specs.Valid.{is_stream}
use Rattle.esm_model.specs.Setting.{Setting, found_fate}
use Rattle.esm_model.specs.Owed.{is_refused}
use Rattle.esm_filter.specs.Criteria.{JudgesRecords}
use Rattle.esm_filter.specs.declared.criteria.Criteria.{Criteria}
use Rattle.esm_journal_state.specs.SaidLists.{SaidLists}
use Rattle.esm_ingest.specs.declared.judging.Standing.{Standing}
use Rattle.esm_ingest.specs.declared.judging.Standing.TheVariants.{Fated, Refused, Staying}

-- the setting has what was found, and the criteria are those of its filters
pub record IsJudgedBy (s : Setting) (said : SaidLists) (criteria : Criteria) : Type 0 where
  pub fates : s.fates ≡ said.fates
  pub judges : JudgesRecords s.config.kind s.config.filters criteria
  pub stream : is_stream s.config.kind ≡ true

-- the record fails the filter
abbrev pub is_refusal : Standing → Bool
is_refusal Fated = false
is_refusal Refused = true
is_refusal Staying = false

-- the record stays open
abbrev pub is_staying : Standing → Bool
is_staying Fated = false
is_staying Refused = false
is_staying Staying = true

-- the shard's record at the place has no found fate and passes the filter
abbrev pub is_staying_at : Setting → ℕ → ℕ → Record → Bool
is_staying_at s n place r = is_none (found_fate s n place) && not (is_refused s r)

-- the places of such records, of those that stand from the place on
abbrev pub staying_from : Setting → ℕ → ℕ → List Record → List ℕ
staying_from s n place [] = []
staying_from s n place (r ∷ rs) = if is_staying_at s n place r then place ∷ staying_from s n (place + 1) rs else staying_from s n (place + 1) rs

-- the place is one of so many in a row
pub record IsInRow (first count place : ℕ) : Type 0 where
  pub from : first ≤ place
  pub below : place < first + count
