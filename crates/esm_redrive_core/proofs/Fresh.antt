-- What is kept of a core in which no message came.
use Rattle.std.proofs.Common.{◌≡◌, ℕ, ◌<◌, ◌≤◌, ◌^◌, false, List, [], ◌++◌, length, refl, sym, ap, ◌∙◌, subst, arith, None}
use Rattle.std.specs.List.{All}
use Rattle.std.proofs.lemmas.List.Elements.{All-nil}
use Rattle.std.proofs.lemmas.Option.{none-some}
use Rattle.esm_model.specs.declared.config.Config.{Config}
use Rattle.esm_model.specs.declared.item.Message.{Message}
use Rattle.esm_model.specs.declared.entry.Entry.{Entry}
use Rattle.esm_model.specs.declared.setup.FoundDeletion.{FoundDeletion}
use Rattle.esm_model.specs.QueueEvent.{IsQueueConfig}
use Rattle.esm_model.specs.ValidMessage.{IsValidMessage}
use Rattle.esm_filter.specs.Criteria.{JudgesMessages}
use Rattle.esm_filter.specs.declared.criteria.Criteria.{Criteria}
use Rattle.esm_queue_model.specs.Queue.{QueueState, empty_queue, stored_at}
use Rattle.esm_queue_model.specs.QueueSetting.{is_fifo}
use Rattle.esm_queue_core.specs.Next.{deleted_number, IsValidStored}
use Rattle.esm_queue_core.specs.Kept.{messages_stored}
use Rattle.esm_redrive.specs.declared.limited.TheConstants.{MAX_RECEIVES}
use Rattle.esm_redrive.specs.Limited.{Limited}
use Rattle.esm_redrive.specs.ReadsBack.{IsUtf8Message}
use Rattle.esm_redrive_core.specs.declared.owed.Gift.{Gift}
use Rattle.esm_redrive_core.specs.Kept.{Parts, IsKept, IsCovered, IsGiftOf}

abbrev pub fresh : Config → ℕ → ℕ → List FoundDeletion → List (List ℕ) → Criteria → Limited → ℕ → Parts
fresh config calls visibility deletions dead criteria q capacity = record {
  config = config;
  calls = calls;
  visibility = visibility;
  deletions = deletions;
  dead = dead;
  criteria = criteria;
  limited = q;
  past = [];
  number = 0;
  capacity = capacity;
  last = 0;
  shut = false;
  begun = 0;
  deleted = 0;
  running = false;
  coming = [];
  first = None;
  gifts = [];
}

module _ (config : Config) (calls visibility : ℕ) (deletions : List FoundDeletion) (dead : List (List ℕ)) (criteria : Criteria) (q : Limited) (capacity : ℕ)
    (is : q.state ≡ empty_queue (is_fifo config.kind) visibility) where
  kept_fresh : IsQueueConfig config → JudgesMessages config.kind config.filters criteria → 1 ≤ q.max_receives → q.max_receives ≤ MAX_RECEIVES → 1 ≤ capacity → IsKept (fresh config calls visibility deletions dead criteria q capacity)
  kept_fresh good judges some few room = record {
    config = good;
    criteria = judges;
    valid = subst (λ (r : QueueState). All (IsValidMessage config.kind) (messages_stored r ++ [])) (sym is) (All-nil (IsValidMessage config.kind));
    texts = subst (λ (r : QueueState). All IsUtf8Message (messages_stored r ++ [])) (sym is) (All-nil IsUtf8Message);
    few = subst (λ (r : QueueState). length (messages_stored r ++ []) < 2 ^ 32) (sym is) (omega arith);
    queue = λ messages goes. is;
    stored = subst (λ (r : QueueState). All (IsValidStored config.kind) r.messages) (sym is) (All-nil (IsValidStored config.kind));
    count = ap (λ (r : QueueState). length r.messages) is;
    arrivals = λ i x at. absurd (none-some x (ap (λ (r : QueueState). stored_at r i) (sym is) ∙ at));
    covered = All-nil (IsCovered (length q.state.messages));
    last = refl;
    in_time = omega arith;
    shut = refl;
    begun = refl;
    deleted = ap deleted_number (sym is);
    running = refl;
    batch = record { within = All-nil (λ i. i < length q.state.messages); rising = tt; few = omega arith };
    room = omega (arith, room);
    short = omega arith;
    some_receives = some;
    few_receives = few;
    first = refl;
    gifts = All-nil (IsGiftOf (messages_stored q.state ++ []));
    lines = tt;
  }

  -- as its fields stand
  pub kept_new : (past : List Entry) (number : ℕ) (coming : List Message) (gifts : List Gift) → IsQueueConfig config → JudgesMessages config.kind config.filters criteria → 1 ≤ q.max_receives → q.max_receives ≤ MAX_RECEIVES → 1 ≤ capacity → past ≡ [] → number ≡ 0 → coming ≡ [] → gifts ≡ []
      → IsKept (record (fresh config calls visibility deletions dead criteria q capacity) { past = past; number = number; coming = coming; gifts = gifts })
  kept_new past number coming gifts good judges some few room past_is number_is coming_is gifts_are =
      subst (λ (h : List Entry). IsKept (record (fresh config calls visibility deletions dead criteria q capacity) { past = h; number = number; coming = coming; gifts = gifts })) (sym past_is)
      (subst (λ (n : ℕ). IsKept (record (fresh config calls visibility deletions dead criteria q capacity) { number = n; coming = coming; gifts = gifts })) (sym number_is)
      (subst (λ (ms : List Message). IsKept (record (fresh config calls visibility deletions dead criteria q capacity) { coming = ms; gifts = gifts })) (sym coming_is)
      (subst (λ (gs : List Gift). IsKept (record (fresh config calls visibility deletions dead criteria q capacity) { gifts = gs })) (sym gifts_are) (kept_fresh good judges some few room))))
