-- Of a legal history of a redrive: no message is deleted twice, no batch overtakes an earlier message of a group, and each reply
-- stands among the calls.
use Rattle.std.proofs.Common.{◌≡◌, ◌∙◌, ℕ, true, List, [], ◌∷◌, ◌++◌, length, take, ap, append_assoc, inl, inr, subst, sym}
use Rattle.esm_model.specs.declared.called.Called.{Called}
use Rattle.esm_model.specs.declared.entry.Entry.{Entry}
use Rattle.esm_model.specs.declared.entry.Entry.TheVariants.{Began, Ended, Gave}
use Rattle.esm_model.specs.declared.entry.Reply.{Reply}
use Rattle.esm_model.specs.declared.lane.LaneId.{LaneId}
use Rattle.esm_queue_model.specs.Queue.{is_eligible, eligible}
use Rattle.esm_queue_model.specs.QueueBatch.{last_queue_event, queue_calls_since}
use Rattle.esm_queue_model.specs.QueueEntries.{queue_lane, queue_of}
use Rattle.esm_queue_model.specs.QueueSetting.{QueueSetting}
use Rattle.esm_queue_model.specs.HistoryLaws.{DeletedOnce, OrderPerGroup, QueueCallsKept}
use Rattle.esm_queue_model.proofs.EligibleFacts.{eligible_by_group}
use Rattle.esm_queue_model.proofs.Places.{In, In-filter, In-take, front_closed}
use Rattle.esm_queue_model.proofs.QueueHistories.{fifo_is}
use Rattle.esm_model.specs.Fates.{below}
use Rattle.esm_redrive_model.specs.RedriveSetting.{RedriveSetting}
use Rattle.esm_redrive_model.specs.RedriveReport.{redrive_calls}
use Rattle.esm_redrive_model.specs.RedriveStep.{LegalRedrive}
use Rattle.esm_redrive_model.proofs.Built.{Builds}
use Rattle.esm_redrive_model.proofs.Named.{built_of, follows_at, legal_before}
use Rattle.esm_redrive_run.specs.Headline.{RepliesAreLogged}

built_at : (s : RedriveSetting) (later before : List Entry) (e : Entry) → LegalRedrive s (later ++ e ∷ before) → Builds s.queue before e
built_at s later before e legal = (built_of s (e ∷ before) (legal_before s later (e ∷ before) legal)).1

pub deleted_once_in : (s : RedriveSetting) (h : List Entry) → LegalRedrive s h → DeletedOnce s.queue h
deleted_once_in s h legal later before by shard places f line state m split i member =
    (built_at s later before (Gave by shard places f line state m) (subst (LegalRedrive s) split legal)).wait i member

pub order_per_group_in : (s : RedriveSetting) (h : List Entry) → LegalRedrive s h → OrderPerGroup s.queue h
order_per_group_in s h legal later before lane places closing m split fifo i j x y at_i at_j group member earlier =
    let q = queue_of s.queue before in
    let n = length q.messages in
    let front = built_at s later before (Began lane places closing m) (subst (LegalRedrive s) split legal) in
    let here : In (take front.0 (eligible q m)) i = subst (λ (ps : List ℕ). In ps i) front.1 member in
    let passes : is_eligible q m i ≡ true = (In-filter (is_eligible q m) (below n) i (In-take front.0 (eligible q m) i here)).1 in
    let is_fifo_queue : q.fifo ≡ true = fifo_is s.queue before ∙ fifo in
    elim ((eligible_by_group q m i x at_i).earlier passes is_fifo_queue j y earlier at_j group) [
      | inl deleted ↦ inl deleted
      | inr waits ↦ inr (subst (λ (ps : List ℕ). In ps j) (sym front.1) (front_closed (is_eligible q m) n front.0 i j here earlier waits))
    ]

-- of batcher 0
replies_there : ((s : QueueSetting) (sends : List ℕ → List ℕ) (later before : List Entry) (k : ℕ) → QueueCallsKept s sends later before k) → (s : RedriveSetting) (sends : List ℕ → List ℕ) (h later before : List Entry) (reply : Reply) (m : ℕ)
    → h ≡ later ++ Ended (queue_lane 0) reply m ∷ before
    → (earlier rest : List Called) × (redrive_calls s sends h ≡ earlier ++ record { name = s.queue.config.function; event = sends (last_queue_event s.queue before (queue_lane 0)); reply = reply } ∷ rest)
replies_there law s sends h later before reply m split =
    let made : Called = record { name = s.queue.config.function; event = sends (last_queue_event s.queue before (queue_lane 0)); reply = reply } in
    let ended : List Entry = Ended (queue_lane 0) reply m ∷ before in
    let since : List Called = queue_calls_since s.queue sends later ended 0 in (
      redrive_calls s sends before,
      since,
      ap (λ (g : List Entry). redrive_calls s sends g) split
          ∙ (law s.queue sends later ended 0
          ∙ append_assoc (redrive_calls s sends before) (made ∷ []) since),
    )

pub replies_logged : ((s : QueueSetting) (sends : List ℕ → List ℕ) (later before : List Entry) (k : ℕ) → QueueCallsKept s sends later before k) → (s : RedriveSetting) (h : List Entry) → LegalRedrive s h → RepliesAreLogged s h
replies_logged law s h legal sends later before lane reply m split =
    let own : lane ≡ queue_lane 0 = (follows_at s later before (Ended lane reply m) (subst (LegalRedrive s) split legal)).batcher in
    subst (λ (l : LaneId). (earlier rest : List Called) × (redrive_calls s sends h ≡ earlier ++ record { name = s.queue.config.function; event = sends (last_queue_event s.queue before l); reply = reply } ∷ rest)) (sym own)
    (replies_there law s sends h later before reply m (split ∙ ap (λ (l : LaneId). later ++ Ended l reply m ∷ before) own))
