-- Each message that came in a legal history of a redrive has the id that the journal kept of its place, where it kept a deletion.
use Rattle.std.proofs.Common.{◌≡◌, ◌∙◌, ℕ, zero, suc, ◌+◌, ◌-◌, ◌<◌, Bool, false, List, [], ◌∷◌, ◌++◌, length, Option, Some, None, ap, arith, inl, inr, refl, subst, sym}
use Rattle.std.specs.Prelude.{◌==◌, not, slice_get, option_map, unwrap_or, if◌then◌else◌}
use Rattle.std.specs.Str.{bytes_eq}
use Rattle.std.proofs.lemmas.Bool.Decides.{eqb_tells, leb_tells}
use Rattle.std.proofs.lemmas.Option.{slice_get_within}
use Rattle.std.proofs.lemmas.Slice.Eq.{bytes_eq-Decides}
use Rattle.esm_model.specs.declared.entry.Entry.{Entry}
use Rattle.esm_model.specs.declared.entry.Entry.TheVariants.{Came, Began, Ended, Gave, Tried, Closed, Replayed, Shut}
use Rattle.esm_model.specs.declared.item.Message.{Message}
use Rattle.esm_model.specs.declared.setup.FoundDeletion.{FoundDeletion}
use Rattle.esm_queue_core.specs.Coming.{deletion_at, has_changed, NoneHasChanged}
use Rattle.esm_queue_model.specs.QueueEntries.{queue_count}
use Rattle.esm_queue_model.specs.QueueSetting.{QueueSetting, found_deletion, message_at}
use Rattle.esm_queue_model.specs.QueueStep.{IsKeptMessage, MayComeQueue}
use Rattle.esm_redrive_model.specs.RedriveSetting.{RedriveSetting}
use Rattle.esm_redrive_model.specs.RedriveStep.{LegalRedrive}
use Rattle.esm_runner.proofs.QueueItems.{get_behind}

-- the message at the place has the id that was kept of it
record IsKeptAt (s : QueueSetting) (i : ℕ) : Type 0 where
  pub same : (f : FoundDeletion) (m : Message) → message_at s i ≡ Some m → found_deletion s i ≡ Some f → m.id ≡ f.text

kept_next : (s : QueueSetting) (h : List Entry) (i first count : ℕ) → first ≡ queue_count h → IsKeptMessage s first count → (i < queue_count h → IsKeptAt s i) → i < count + queue_count h → IsKeptAt s i
kept_next s h i first count next kept before came = elim (leb_tells first i) [
  | inl here ↦
      let within : i < first + count = omega (arith, came, next) in
      record { same = λ f m. kept i f m here.1 within }
  | inr earlier ↦ before (omega (arith, earlier.1, next))
]

kept_after : (s : QueueSetting) (h : List Entry) (shard i first count : ℕ) → MayComeQueue s h shard first count → (i < queue_count h → IsKeptAt s i)
    → i < (if shard == 0 then count + queue_count h else queue_count h) → IsKeptAt s i
kept_after s h shard i first count comes before came = elim (eqb_tells shard 0) [
  | inl mine ↦ kept_next s h i first count comes.next comes.kept before
      (subst (λ (b : Bool). i < (if b then count + queue_count h else queue_count h)) mine.0 came)
  | inr other ↦ before (subst (λ (b : Bool). i < (if b then count + queue_count h else queue_count h)) other.0 came)
]

kept_of_came : (s : RedriveSetting) (h : List Entry) (i : ℕ) → LegalRedrive s h → i < queue_count h → IsKeptAt s.queue i
kept_of_came s [] i legal came = absurd (omega (arith, came))
kept_of_came s (Came shard first count moment ∷ h) i legal came = kept_after s.queue h shard i first count legal.1.1.comes (kept_of_came s h i legal.0) came
kept_of_came s (Began lane places closing m ∷ h) i legal came = kept_of_came s h i legal.0 came
kept_of_came s (Ended lane reply m ∷ h) i legal came = kept_of_came s h i legal.0 came
kept_of_came s (Gave by shard places f line state m ∷ h) i legal came = kept_of_came s h i legal.0 came
kept_of_came s (Tried lane places closing tries m ∷ h) i legal came = kept_of_came s h i legal.0 came
kept_of_came s (Closed lane window m ∷ h) i legal came = kept_of_came s h i legal.0 came
kept_of_came s (Replayed shard places m ∷ h) i legal came = kept_of_came s h i legal.0 came
kept_of_came s (Shut m ∷ h) i legal came = kept_of_came s h i legal.0 came

same_id : (o : Option FoundDeletion) (message : Message) → ((f : FoundDeletion) → o ≡ Some f → message.id ≡ f.text) → unwrap_or (option_map (λ (f : FoundDeletion). not (bytes_eq f.text message.id)) o) false ≡ false
same_id None message kept = refl
same_id (Some f) message kept = ap not ((bytes_eq-Decides f.text message.id).1 (sym (kept f refl)))

came_same : (s : RedriveSetting) (h : List Entry) (j : ℕ) (message : Message) → LegalRedrive s h → j < queue_count h → message_at s.queue j ≡ Some message → has_changed s.queue.deletions j message ≡ false
came_same s h j message legal came at =
    let kept = kept_of_came s h j legal came in
    same_id (deletion_at s.queue.deletions j) message (λ f found. kept.same f message at found)

-- so none of those that came differs
pub none_came_changed : (s : RedriveSetting) (h : List Entry) → LegalRedrive s h → queue_count h ≡ length s.queue.messages → NoneHasChanged s.queue.deletions 0 s.queue.messages (length s.queue.messages)
none_came_changed s h legal count j message low at =
    let came : j < queue_count h = omega (arith, low, count) in
    let zero_is : 0 + j ≡ j = omega arith in
    ap (λ k. has_changed s.queue.deletions k message) zero_is ∙ came_same s h j message legal came at

get_back : (xs ys : List Message) (i : ℕ) (m : Message) → i < length xs → slice_get (xs ++ ys) i ≡ Some m → slice_get xs i ≡ Some m
get_back [] ys i m low at = absurd (omega (arith, low))
get_back (x ∷ xs) ys zero m low at = at
get_back (x ∷ xs) ys (suc i) m low at = get_back xs ys i m (omega (arith, low)) at

-- of messages that came and those behind them none before the place has changed
pub none_before : (deletions : List FoundDeletion) (told list rest : List Message) (position : ℕ) (message : Message) → NoneHasChanged deletions 0 told (length told) → slice_get list position ≡ Some message → NoneHasChanged deletions (length told) list position
    → NoneHasChanged deletions 0 (told ++ (list ++ rest)) (length told + position)
none_before deletions told list rest position message first here before j other low at = elim (leb_tells (length told) j) [
  | inl past ↦
      let p : ℕ = j - length told in
      let high = past.1 in
      let sum : length told + p ≡ j = omega (arith, high) in
      let few : p < position = omega (arith, sum, low) in
      let within : position < length list = slice_get_within list position message here in
      let there : slice_get (list ++ rest) p ≡ Some other = sym (get_behind told (list ++ rest) p) ∙ ap (slice_get (told ++ (list ++ rest))) sum ∙ at in
      let own : slice_get list p ≡ Some other = get_back list rest p other (omega (arith, few, within)) there in
      let zero_is : 0 + j ≡ length told + p = omega (arith, sum) in
      ap (λ k. has_changed deletions k other) zero_is ∙ before p other few own
  | inr came ↦
      let low_first = came.1 in
      let within : j < length told = omega (arith, low_first) in
      first j other within (get_back told (list ++ rest) j other within at)
]
