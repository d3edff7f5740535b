-- What a list of messages that comes is refused for, and what is promised of the core where it is taken.
use Rattle.std.proofs.Common.{◌≡◌, ℕ, ◌+◌, ◌<◌, ◌≤◌, ◌^◌, false, true, List, ◌++◌, length, get_or, max, min, reverse, sym, ap, ap₂, ◌∙◌, subst, arith, Option, Some, None}
use Rattle.std.specs.List.{All}
use Rattle.std.proofs.lemmas.Option.{same_Some}
use Rattle.std.proofs.lemmas.List.{append-nil, length-append, length-map}
use Rattle.std.proofs.lemmas.List.Elements.{All-append}
use Rattle.esm_model.specs.declared.limits.TheConstants.{MAX_BATCH}
use Rattle.esm_model.specs.declared.moment.TheConstants.{MAX_MOMENT}
use Rattle.esm_model.specs.declared.item.Message.{Message}
use Rattle.esm_model.specs.declared.book.Change.{Change}
use Rattle.esm_model.specs.declared.entry.Fate.TheVariants.{Filtered}
use Rattle.esm_model.specs.declared.entry.Entry.{Entry}
use Rattle.esm_model.specs.declared.setup.FoundDeletion.{FoundDeletion}
use Rattle.esm_model.specs.Entries.{is_shut}
use Rattle.esm_model.specs.ValidMessage.{IsValidMessage}
use Rattle.esm_book.specs.Decided.{IsRefused}
use Rattle.esm_book.specs.declared.error.Refusal.TheVariants as refusal
use Rattle.esm_queue.specs.Held.{Held}
use Rattle.esm_journal_state.specs.SaidLists.{SaidLists}
use Rattle.esm_queue_model.specs.declared.stored.Stored.{Stored}
use Rattle.esm_queue_model.specs.QueueSetting.{QueueSetting}
use Rattle.esm_queue_core.specs.declared.owed.First.TheVariants.{Came}
use Rattle.esm_queue_core.specs.declared.owed.Gift.{Gift}
use Rattle.esm_queue_core.specs.declared.standing.Standing.TheVariants.{Whole}
use Rattle.esm_queue_core.specs.CoreView.{CoreView}
use Rattle.esm_queue_core.specs.Coming.{came_entries, gave_entries, refused_from, has_changed, HasChangedFirst, NoneHasChanged, IsChangeOf, IsFirstChange}
use Rattle.esm_queue_core.specs.Judged.{IsJudgedBy}
use Rattle.esm_queue_core.specs.Kept.{Parts, IsKept, IsGift, MayBeGiven, gift_entries, own, messages_stored, seen_of}
use Rattle.esm_queue_core.proofs.Judging.{at_of}
use Rattle.esm_queue_core.proofs.Giving.{refused_given}
use Rattle.esm_queue_core.proofs.Added.{kept_forgotten}
use Rattle.esm_queue_core.proofs.Keeping.{Arrives, arrives_decides, came_owed}
use Rattle.esm_queue_core.proofs.Deciding.{IsDecided, left_with, is_decided}

-- the first message that has changed

pub changed_there : (ds : List FoundDeletion) (k : ℕ) (items : List Message) (j : ℕ) (x : Message) → j < length items → x ≡ get_or items j x → HasChangedFirst ds k items j → has_changed ds (k + j) x ≡ true
changed_there ds k items j x l at h = subst (λ (m : Message). has_changed ds (k + j) m ≡ true) (same_Some h.message x (sym h.at ∙ at_of items j x l at)) h.changed

abbrev change_with : ℕ → ℕ → List ℕ → List ℕ → Change
change_with shard place kept given = record { shard = shard; place = place; kept = kept; given = given }

-- one place has one change
change_same : (ds : List FoundDeletion) (place : ℕ) (m : Message) (a b : Change) → IsChangeOf ds place m a → IsChangeOf ds place m b → b ≡ a
change_same ds place m a b x y =
    let text : y.found.text ≡ x.found.text = ap (λ (g : FoundDeletion). g.text) (same_Some y.found x.found (sym y.deletion ∙ x.deletion)) in
    let ends : change_with b.shard b.place b.kept b.given ≡ change_with a.shard a.place b.kept b.given = ap₂ (λ (s p : ℕ). change_with s p b.kept b.given) (y.queue ∙ sym x.queue) (y.place_is ∙ sym x.place_is) in
    let texts : change_with a.shard a.place b.kept b.given ≡ change_with a.shard a.place a.kept a.given = ap₂ (λ (k g : List ℕ). change_with a.shard a.place k g) (y.kept ∙ (text ∙ sym x.kept)) (y.given ∙ sym x.given) in
    ends ∙ texts

module _ (p : Parts) (items : List Message) (from j : ℕ) (x : Message) (from_is : from ≡ length p.held.state.messages) (l : j < length items) (at : x ≡ get_or items j x) (first : HasChangedFirst p.deletions from items j) where
  first_change : (change : Change) → IsChangeOf p.deletions (from + j) x change → IsFirstChange (seen_of p) items change
  first_change change is =
      let start : from ≡ length (messages_stored p.held.state) = from_is ∙ sym (length-map p.held.state.messages (λ (y : Stored). y.message)) in
      let same : x ≡ first.message = same_Some x first.message (sym (at_of items j x l at) ∙ first.at) in
      record {
        position = j;
        message = first.message;
        at = first.at;
        change_is = subst (λ (n : ℕ). IsChangeOf p.deletions (n + j) first.message change) start (subst (λ (m : Message). IsChangeOf p.deletions (from + j) m change) same is);
        before = subst (λ (n : ℕ). NoneHasChanged p.deletions n items j) start first.before;
      }

  -- it is told, twice alike
  pub refused_for : (v : CoreView) (y : Message) (told kept : Change) → seen_of p ≡ v → y ≡ get_or items j y → IsChangeOf p.deletions (from + j) x told → IsChangeOf p.deletions (from + j) y kept → IsRefused (IsFirstChange v items) (refusal.Changed told kept)
  refused_for v y told kept seen again one other =
      let same : y ≡ x = same_Some y x (sym (at_of items j y l again) ∙ at_of items j x l at) in
      subst (λ (w : CoreView). IsRefused (IsFirstChange w items) (refusal.Changed told kept)) seen
      (first_change told one, change_same p.deletions (from + j) x told kept one (subst (λ (m : Message). IsChangeOf p.deletions (from + j) m kept) same other))

-- what comes may be deleted

pub front_valid : (p : Parts) → IsKept p → All (IsValidMessage p.config.kind) (messages_stored p.held.state)
front_valid p k = subst (All (IsValidMessage p.config.kind)) (append-nil (messages_stored p.held.state)) (kept_forgotten p k).valid

module _ (p : Parts) (v : CoreView) (items slice : List Message) (from m : ℕ) (k : IsKept p) (seen : seen_of p ≡ v) (same : slice ≡ items) (from_is : from ≡ length p.held.state.messages)
    (valid : All (IsValidMessage v.setting.config.kind) items) (few : length v.setting.messages + length items < 2 ^ 32) where
  own_valid : All (IsValidMessage p.config.kind) items
  own_valid = subst (λ (w : CoreView). All (IsValidMessage w.setting.config.kind) items) (sym seen) valid

  own_few : length (messages_stored p.held.state) + length items < 2 ^ 32
  own_few = subst (λ (w : CoreView). length w.setting.messages + length items < 2 ^ 32) (sym seen) few

  start : from ≡ length (messages_stored p.held.state)
  start = from_is ∙ sym (length-map p.held.state.messages (λ (y : Stored). y.message))

  -- the places are numbers of 32 bits
  pub places_few : from + length slice < 2 ^ 32
  places_few = subst (λ (xs : List Message). from + length xs < 2 ^ 32) (sym same) (subst (λ (n : ℕ). n + length items < 2 ^ 32) (sym start) own_few)

  -- the places that are refused
  own_refused : (said : SaidLists) (places : List ℕ) → p.deletions ≡ said.deletions → ((s : QueueSetting) → IsJudgedBy s said p.criteria → places ≡ refused_from s from slice) → places ≡ refused_from (own p) (length (messages_stored p.held.state)) items
  own_refused said places deletions judged =
      judged (own p) (record { deletions = deletions; judges = k.criteria; queue = k.config.kind })
      ∙ ap₂ (λ (n : ℕ) (xs : List Message). refused_from (own p) n xs) start same

  pub came_given : (said : SaidLists) (places : List ℕ) → length items ≤ MAX_BATCH → m ≤ MAX_MOMENT → p.deletions ≡ said.deletions → ((s : QueueSetting) → IsJudgedBy s said p.criteria → places ≡ refused_from s from slice) → MayBeGiven (messages_stored p.held.state ++ slice) places Filtered m
  came_given said places short within deletions judged =
      let old = messages_stored p.held.state in
      subst (λ (xs : List Message). MayBeGiven (old ++ xs) places Filtered m) (sym same)
      (refused_given (own p) old items places m
      (All-append (IsValidMessage p.config.kind) old items (front_valid p k) own_valid)
      (let f = own_few in omega (arith, length-append old items))
      short within (own_refused said places deletions judged))

  -- what is promised where the list is taken
  pub came_decided : (held : Held) (capacity : ℕ) (old new : List Entry) (said : SaidLists) (places : List ℕ) (gift : Option Gift) (count moment : ℕ) → p.standing ≡ Whole → p.first ≡ None → count ≡ length items
      → 1 ≤ length items → is_shut v.past ≡ false → NoneHasChanged p.deletions from slice (length slice) → held.state ≡ p.held.state → length items ≤ held.spare → m ≡ min (max moment p.last) MAX_MOMENT
      → p.deletions ≡ said.deletions → ((s : QueueSetting) → IsJudgedBy s said p.criteria → places ≡ refused_from s from slice)
      → gift_entries gift ≡ gave_entries None places Filtered m → IsGift (messages_stored p.held.state ++ slice) gift
      → p.number + p.running + 3 ≤ capacity → p.number + p.running + 3 ≤ 2 ^ 40 → p.past ≡ reverse old → p.number ≡ length old → new ≡ old
      → IsDecided (left_with p held capacity new items (Some (Came from count m)) gift) v items (came_entries v items moment)
  came_decided held capacity old new said places gift count moment whole none count_is some going unchanged held_is spare now deletions judged gift_is written room short past_is number_is new_is =
      let front = messages_stored p.held.state in
      let arrives : Arrives p held capacity items gift m moment = record {
        some = some;
        going = subst (λ (w : CoreView). is_shut w.past ≡ false) (sym seen) going;
        valid = own_valid;
        few = own_few;
        unchanged = subst (λ (n : ℕ). NoneHasChanged p.deletions n items (length items)) start (subst (λ (xs : List Message). NoneHasChanged p.deletions from xs (length xs)) same unchanged);
        same = held_is;
        spare = spare;
        now = now;
        gift_is = gift_is ∙ ap (λ (ps : List ℕ). gave_entries None ps Filtered m) (own_refused said places deletions judged);
        written = subst (λ (xs : List Message). IsGift (front ++ xs) gift) same written;
        room = room;
        short = short;
      } in
      let owed = came_owed p held capacity items gift from count m moment k from_is count_is arrives ∙ ap (λ (w : CoreView). came_entries w items moment) seen in
      is_decided p v held capacity old new items (Some (Came from count m)) gift (came_entries v items moment) k whole none seen
      (arrives_decides p held capacity items gift from count m moment k whole from_is count_is arrives) owed past_is number_is new_is
