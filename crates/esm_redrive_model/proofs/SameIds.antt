-- What a redrive knows and may do depends on which ids stood in the dead-letter file alone.
use Rattle.std.proofs.Common.{◌≡◌, ℕ, Bool, false, not, ◌&&◌, List, [], ◌∷◌, refl, sym, ap, ◌∙◌, Option, Some, None}
use Rattle.std.specs.Prelude.{option_map, unwrap_or}
use Rattle.esm_model.specs.declared.item.Message.{Message}
use Rattle.esm_model.specs.declared.lane.LaneId.{LaneId}
use Rattle.esm_model.specs.declared.entry.Fate.{Fate}
use Rattle.esm_model.specs.declared.entry.Fate.TheVariants.{Succeeded, Filtered, Expired, Exhausted}
use Rattle.esm_model.specs.declared.entry.WindowState.{WindowState}
use Rattle.esm_model.specs.declared.entry.Entry.{Entry}
use Rattle.esm_model.specs.declared.entry.Entry.TheVariants.{Came, Began, Ended, Gave, Tried, Closed, Replayed, Shut}
use Rattle.esm_model.specs.Fates.{below}
use Rattle.esm_model.proofs.Records.{filter_same}
use Rattle.esm_queue_model.specs.QueueSetting.{message_at}
use Rattle.esm_queue_model.specs.QueueEntries.{queue_count, is_deleted}
use Rattle.esm_redrive_model.specs.RedriveSetting.{RedriveSetting, has_dead_id, HaveSameIds, with_dead_ids}
use Rattle.esm_redrive_model.specs.Due.{is_known, known}
use Rattle.esm_redrive_model.specs.RedriveStep.{SettledRedrive, MayGiveRedrive, RedriveMayFollow, LegalRedrive}

one_same : (s : RedriveSetting) (ids : List (List ℕ)) → HaveSameIds s.dead_ids ids → (waits : Bool) (o : Option Message)
    → (waits && unwrap_or (option_map (has_dead_id (with_dead_ids s ids)) o) false) ≡ (waits && unwrap_or (option_map (has_dead_id s) o) false)
one_same s ids same waits None = refl
one_same s ids same waits (Some m) = ap (λ (b : Bool). waits && b) (sym (same m.id))

pub known_same : (s : RedriveSetting) (ids : List (List ℕ)) (h : List Entry) → HaveSameIds s.dead_ids ids → known (with_dead_ids s ids) h ≡ known s h
known_same s ids h same =
    filter_same (is_known (with_dead_ids s ids) h) (is_known s h) (below (queue_count h)) (λ i member. one_same s ids same (not (is_deleted s.queue h i)) (message_at s.queue i))

settled_same : (s : RedriveSetting) (ids : List (List ℕ)) (h : List Entry) → HaveSameIds s.dead_ids ids → SettledRedrive s h → SettledRedrive (with_dead_ids s ids) h
settled_same s ids h same settled = record { recorded = known_same s ids h same ∙ settled.recorded; sorted = settled.sorted; paid = settled.paid }

give_same : (s : RedriveSetting) (ids : List (List ℕ)) (h : List Entry) (by : Option LaneId) (shard : ℕ) (places : List ℕ) (f : Fate) (line : Option (List ℕ)) (state : Option WindowState) (m : ℕ) → HaveSameIds s.dead_ids ids → MayGiveRedrive s h by shard places f line state m → MayGiveRedrive (with_dead_ids s ids) h by shard places f line state m
give_same s ids h None shard places Exhausted line state m same may = record {
  queue = may.queue;
  exact = may.exact ∙ sym (known_same s ids h same);
  some = may.some;
  no_line = may.no_line;
  no_state = may.no_state;
  same_moment = may.same_moment;
}
give_same s ids h None shard places Filtered line state m same may = record { recorded = known_same s ids h same ∙ may.recorded; filters = may.filters }
give_same s ids h (Some lane) shard places Exhausted line state m same may = record {
  settled = settled_same s ids h same may.settled;
  batcher = may.batcher;
  rests = may.rests;
  queue = may.queue;
  place = may.place;
  first = may.first;
  exact = may.exact;
  message = may.message;
  is_there = may.is_there;
  line_is = may.line_is;
  no_state = may.no_state;
}
give_same s ids h (Some lane) shard places Succeeded line state m same may = record { batcher = may.batcher; deletes = may.deletes }
give_same s ids h None shard places Succeeded line state m same may = absurd may
give_same s ids h None shard places Expired line state m same may = absurd may
give_same s ids h (Some lane) shard places Filtered line state m same may = absurd may
give_same s ids h (Some lane) shard places Expired line state m same may = absurd may

follows_same : (s : RedriveSetting) (ids : List (List ℕ)) (h : List Entry) (e : Entry) → HaveSameIds s.dead_ids ids → RedriveMayFollow s h e → RedriveMayFollow (with_dead_ids s ids) h e
follows_same s ids h (Came shard first count m) same may = record { recorded = known_same s ids h same ∙ may.recorded; comes = may.comes }
follows_same s ids h (Began lane places None m) same may = record {
  settled = settled_same s ids h same may.settled;
  batcher = may.batcher;
  rests = may.rests;
  calls_left = may.calls_left;
  none_due = may.none_due;
  exact = may.exact;
  some = may.some;
  ready = may.ready;
}
follows_same s ids h (Began lane places (Some window) m) same may = absurd may
follows_same s ids h (Ended lane reply m) same may = may
follows_same s ids h (Gave by shard places f line state m) same may = give_same s ids h by shard places f line state m same may
follows_same s ids h (Tried lane places closing tries m) same may = absurd may
follows_same s ids h (Closed lane window m) same may = absurd may
follows_same s ids h (Replayed shard places m) same may = absurd may
follows_same s ids h (Shut m) same may = (settled_same s ids h same may.0, may.1)

pub legal_same : (s : RedriveSetting) (ids : List (List ℕ)) (h : List Entry) → HaveSameIds s.dead_ids ids → LegalRedrive s h → LegalRedrive (with_dead_ids s ids) h
legal_same s ids [] same legal = tt
legal_same s ids (e ∷ h) same legal = (legal_same s ids h same legal.0, (legal.1.0, follows_same s ids h e same legal.1.1))
