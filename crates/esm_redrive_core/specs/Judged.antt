-- By what messages that arrive at a redrive are judged. Only this crate's proofs cite this.
use Rattle.std.specs.Prelude.{◌≡◌, ℕ, List, false}
use Rattle.esm_model.specs.Valid.{is_stream}
use Rattle.esm_filter.specs.Criteria.{JudgesMessages}
use Rattle.esm_filter.specs.declared.criteria.Criteria.{Criteria}
use Rattle.esm_journal_state.specs.SaidLists.{SaidLists}
use Rattle.esm_redrive_model.specs.RedriveSetting.{RedriveSetting}

-- the setting has these deletions and ids, and the criteria are those of its filters
pub record IsJudgedBy (s : RedriveSetting) (said : SaidLists) (dead : List (List ℕ)) (criteria : Criteria) : Type 0 where
  pub deletions : s.queue.deletions ≡ said.deletions
  pub dead_ids : s.dead_ids ≡ dead
  pub judges : JudgesMessages s.queue.config.kind s.queue.config.filters criteria
  pub queue : is_stream s.queue.config.kind ≡ false
