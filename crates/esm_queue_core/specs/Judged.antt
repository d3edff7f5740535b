-- What messages that come are judged by. Only this crate's proofs cite this.
use Rattle.std.specs.Prelude.{◌≡◌, false}
use Rattle.esm_model.specs.Valid.{is_stream}
use Rattle.esm_filter.specs.Criteria.{JudgesMessages}
use Rattle.esm_filter.specs.declared.criteria.Criteria.{Criteria}
use Rattle.esm_journal_state.specs.SaidLists.{SaidLists}
use Rattle.esm_queue_model.specs.QueueSetting.{QueueSetting}

-- the setting has the deletions that were found, and the criteria are those of its filters
pub record IsJudgedBy (s : QueueSetting) (said : SaidLists) (criteria : Criteria) : Type 0 where
  pub deletions : s.deletions ≡ said.deletions
  pub judges : JudgesMessages s.config.kind s.config.filters criteria
  pub queue : is_stream s.config.kind ≡ false
