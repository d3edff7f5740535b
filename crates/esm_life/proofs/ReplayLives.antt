-- A life as one of replays, to which each run added further payloads.
use Rattle.std.proofs.Common.{◌≡◌, ◌∙◌, ℕ, ◌≤◌, Bool, true, List, [], ◌∷◌, ◌++◌, Option, ap, refl, subst, sym}
use Rattle.std.specs.Prelude.{option_map, reverse}
use Rattle.esm_history.proofs.GoodContent.{stays_good}
use Rattle.esm_journal_record.specs.EntryPayload.{history_payloads}
use Rattle.esm_journal_state.specs.declared.kept.KeptFate.{KeptFate}
use Rattle.esm_journal_state.specs.Meaning.{are_good, fate_said, history, replayed_said}
use Rattle.esm_model.specs.declared.entry.Fate.{Fate}
use Rattle.esm_replay_life.specs.ReplayLife.{Added, EachIsAnswered, IsLife as IsReplayLife, IsReplayRunOver, Replay as OneReplay, ReplayRun, Rewritten as WrittenAnew, SaysTheSame as SaysAlike, Stage as ReplayStage, content as replay_content, replays_naming}
use Rattle.esm_life.specs.Life.{EachReplayedOnce, IsLife, NoneIsReplayedAgain, Ran, Replay, ReplaysStay, Rewritten, Stage, content, recorded_fate}
use Rattle.esm_life.specs.ReplayLaws.{AreReplayLaws}
use Rattle.esm_life.specs.Replays.{IsUnderReplays, under_replays}

pub same_content : (life : List Stage) → replay_content (under_replays life) ≡ content life
same_content [] = refl
same_content (Ran r ∷ stages) = ap (λ (old : List (List ℕ)). old ++ history_payloads r.setting r.recorded) (same_content stages)
same_content (Replay r ∷ stages) = ap (λ (old : List (List ℕ)). old ++ r.left) (same_content stages)
same_content (Rewritten list ∷ stages) = refl

pub split : (later before : List Stage) → under_replays (later ++ before) ≡ under_replays later ++ under_replays before
split [] before = refl
split (Ran r ∷ later) before = ap (λ (life : List ReplayStage). Added (history_payloads r.setting r.recorded) ∷ life) (split later before)
split (Replay r ∷ later) before = ap (λ (life : List ReplayStage). OneReplay r ∷ life) (split later before)
split (Rewritten list ∷ later) before = ap (λ (life : List ReplayStage). WrittenAnew list ∷ life) (split later before)

-- what this content tells of a replay of the place
abbrev replayed_by : List (List ℕ) → ℕ → ℕ → Bool
replayed_by list n i = replayed_said (history (reverse list)) n i

-- the fate of a place by this content
abbrev fate_by : List (List ℕ) → ℕ → ℕ → Option Fate
fate_by list n i = option_map (λ (k : KeptFate). k.fate) (fate_said (history (reverse list)) n i)

module _ (laws : AreReplayLaws) where
  good_by : (life : List Stage) → IsReplayLife (under_replays life) → are_good (reverse (content life)) ≡ true
  good_by life is = subst (λ (list : List (List ℕ)). are_good (reverse list) ≡ true) (same_content life) (laws.good (under_replays life) is)

  pub is_one : (life : List Stage) → IsLife life → IsReplayLife (under_replays life)
  is_one [] life = tt
  is_one (Ran r ∷ stages) life =
      let before = is_one stages life.0 in
      let good_again : are_good (reverse (content stages ++ history_payloads r.setting r.recorded)) ≡ true =
      stays_good r.setting r.recorded (content stages) (good_by stages before) life.1.legal_recorded life.1.may_be_said life.1.opened in (
        before,
        record {
          no_replay = laws.none r.setting r.recorded life.1.legal_recorded life.1.may_be_said;
          good = subst (λ (old : List (List ℕ)). are_good (reverse (old ++ history_payloads r.setting r.recorded)) ≡ true) (sym (same_content stages)) good_again;
        },
      )
  is_one (Replay r ∷ stages) life = (is_one stages life.0, subst (IsReplayRunOver r) (sym (same_content stages)) life.1)
  is_one (Rewritten list ∷ stages) life = (is_one stages life.0, subst (SaysAlike list) (sym (same_content stages)) (record { same = life.1.same; good = life.1.good }))

  pub good : (life : List Stage) → IsLife life → are_good (reverse (content life)) ≡ true
  good life is = good_by life (is_one life is)

  pub is_under_replays : (life : List Stage) → IsLife life → IsUnderReplays life
  is_under_replays life is = record { is_life = is_one life is; content_is = same_content life }

  pub replayed_once : (life : List Stage) → IsLife life → EachReplayedOnce life
  replayed_once life is n i =
      subst (λ (list : List (List ℕ)). replays_naming (history (reverse list)) n i ≤ 1) (same_content life) (laws.once (under_replays life) (is_one life is) n i)

  pub replays_stay : (later before : List Stage) → IsLife (later ++ before) → ReplaysStay later before
  replays_stay later before life n i at =
      let is : IsReplayLife (under_replays later ++ under_replays before) = subst IsReplayLife (split later before) (is_one (later ++ before) life) in
      let was : replayed_by (replay_content (under_replays before)) n i ≡ true = ap (λ (list : List (List ℕ)). replayed_by list n i) (same_content before) ∙ at in
      ap (λ (list : List (List ℕ)). replayed_by list n i) (sym (same_content (later ++ before)) ∙ ap replay_content (split later before))
      ∙ laws.replays (under_replays later) (under_replays before) is n i was

  pub not_replayed_again : (r : ReplayRun) (before : List Stage) → IsLife (Replay r ∷ before) → NoneIsReplayedAgain r before
  not_replayed_again r before life later earlier lane places closing m at i member =
      let free = laws.called r [] (under_replays before) (is_one (Replay r ∷ before) life) later earlier lane places closing m at i member in
      (ap (λ (list : List (List ℕ)). replayed_by list lane.shard i) (sym (same_content before)) ∙ free.0, free.1)

  pub answered : (r : ReplayRun) (before : List Stage) → IsLife (Replay r ∷ before) → EachIsAnswered r
  answered r before life = laws.answered r (under_replays before) (is_one (Replay r ∷ before) life)

  pub replay_fate : (r : ReplayRun) (before : List Stage) → IsLife (Replay r ∷ before) → (n i : ℕ) → recorded_fate (Replay r ∷ before) n i ≡ recorded_fate before n i
  replay_fate r before life n i =
      let stay = laws.stay (OneReplay r ∷ []) (under_replays before) (is_one (Replay r ∷ before) life) tt in
      ap (λ (list : List (List ℕ)). fate_by list n i) (sym (same_content (Replay r ∷ before)))
      ∙ (ap (λ (o : Option KeptFate). option_map (λ (k : KeptFate). k.fate) o) (stay.fates n i)
      ∙ ap (λ (list : List (List ℕ)). fate_by list n i) (same_content before))
