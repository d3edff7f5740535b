-- A move that stands in hand or was tried: its message waits after the history, and its id stands in no line.
use Rattle.std.proofs.Common.{◌≡◌, ◌∙◌, ℕ, ◌<◌, Bool, true, false, ◌||◌, List, [], ◌∷◌, ◌++◌, Option, Some, None, ap, append-nil, refl, subst, sym}
use Rattle.std.specs.Prelude.{is_some, option_map}
use Rattle.std.specs.List.{list_all}
use Rattle.std.specs.Option.{option_or}
use Rattle.std.specs.Str.{bytes_eq}
use Rattle.std.proofs.lemmas.Bool.{both_ways, false_from_ne_true}
use Rattle.std.proofs.lemmas.List.Folds.{list_any-append}
use Rattle.std.proofs.lemmas.Option.{none-some}
use Rattle.esm_book.specs.Hand.{is_end}
use Rattle.esm_model.specs.declared.entry.Entry.{Entry}
use Rattle.esm_model.specs.declared.entry.Entry.TheVariants.{Came, Began, Ended, Gave, Tried, Closed, Replayed, Shut}
use Rattle.esm_model.specs.declared.entry.Fate.{Fate}
use Rattle.esm_model.specs.declared.entry.Fate.TheVariants.{Succeeded, Filtered, Expired, Exhausted}
use Rattle.esm_model.specs.declared.entry.WindowState.{WindowState}
use Rattle.esm_model.specs.declared.item.Message.{Message}
use Rattle.esm_model.specs.declared.lane.LaneId.{LaneId}
use Rattle.esm_model.specs.declared.setup.FoundDeletion.{FoundDeletion}
use Rattle.esm_model.specs.Books.{entry_line}
use Rattle.esm_model.specs.Entries.{moment_of}
use Rattle.esm_model.specs.Fates.{given}
use Rattle.esm_queue_model.specs.Queue.{QueueState, eligible, is_deleted_at}
use Rattle.esm_queue_model.specs.QueueBatch.{eligible_after}
use Rattle.esm_queue_model.specs.QueueEntries.{is_deleted, queue_count, queue_of}
use Rattle.esm_queue_model.specs.QueueSetting.{QueueSetting, found_deletion, ids_at, message_at}
use Rattle.esm_queue_model.proofs.Groups.{at_any, bytes_eq-true}
use Rattle.esm_queue_model.proofs.Places.{In, In-filter, In-here, In-take}
use Rattle.esm_redrive_model.specs.Due.{due, is_at_limit, known, moved_ids, moved_places}
use Rattle.esm_redrive_model.specs.RedriveLaws.{HaveDifferentIds}
use Rattle.esm_redrive_model.specs.RedriveLines.{IsLineOfDue, is_lined}
use Rattle.esm_redrive_model.specs.RedriveSetting.{RedriveSetting, stands_among}
use Rattle.esm_redrive_model.specs.RedriveStep.{LegalRedrive, MayGiveRedrive}
use Rattle.esm_redrive_model.proofs.Built.{eligible_came}
use Rattle.esm_redrive_model.proofs.Ends.{deleted_is}
use Rattle.esm_redrive_model.proofs.Lined.{moved_given, not_known}
use Rattle.esm_redrive_model.proofs.Moves.{id_there, place_of}
use Rattle.esm_redrive_model.proofs.Named.{built_of, eligible_waits}
use Rattle.esm_redrive_book.specs.Keeping.{FollowsFront}
use Rattle.esm_redrive_run.specs.Headline.{IsTriedMove}

-- what ends a call or the input deletes nothing and adds no line

none_ends : {A : Type 0} → false ≡ true → A
none_ends end = absurd (let clash : false ≡ true = end in cc)

same_queue : (s : QueueSetting) (later before : List Entry) → list_all is_end later ≡ true → queue_of s (later ++ before) ≡ queue_of s before
same_queue s [] before ends = refl
same_queue s (Ended lane reply m ∷ later) before ends = same_queue s later before ends
same_queue s (Shut m ∷ later) before ends = same_queue s later before ends
same_queue s (Came shard first count m ∷ later) before ends = none_ends ends
same_queue s (Began lane places closing m ∷ later) before ends = none_ends ends
same_queue s (Gave by shard places f line state m ∷ later) before ends = none_ends ends
same_queue s (Tried lane places closing tries m ∷ later) before ends = none_ends ends
same_queue s (Closed lane window m ∷ later) before ends = none_ends ends
same_queue s (Replayed shard places m ∷ later) before ends = none_ends ends

same_places : (later before : List Entry) → list_all is_end later ≡ true → moved_places (later ++ before) ≡ moved_places before
same_places [] before ends = refl
same_places (Ended lane reply m ∷ later) before ends = append-nil (moved_places (later ++ before)) ∙ same_places later before ends
same_places (Shut m ∷ later) before ends = append-nil (moved_places (later ++ before)) ∙ same_places later before ends
same_places (Came shard first count m ∷ later) before ends = none_ends ends
same_places (Began lane places closing m ∷ later) before ends = none_ends ends
same_places (Gave by shard places f line state m ∷ later) before ends = none_ends ends
same_places (Tried lane places closing tries m ∷ later) before ends = none_ends ends
same_places (Closed lane window m ∷ later) before ends = none_ends ends
same_places (Replayed shard places m ∷ later) before ends = none_ends ends

-- before a line is added nothing is to be recorded

give_recorded : (s : RedriveSetting) (h : List Entry) (by : Option LaneId) (shard : ℕ) (places : List ℕ) (f : Fate) (own : Option (List ℕ)) (state : Option WindowState) (m : ℕ) (line : List ℕ) → MayGiveRedrive s h by shard places f own state m → own ≡ Some line → known s h ≡ []
give_recorded s h (Some lane) shard places Exhausted own state m line may is = may.settled.recorded
give_recorded s h None shard places Exhausted own state m line may is = absurd (none-some line (sym may.no_line ∙ is))
give_recorded s h None shard places Filtered own state m line may is = may.recorded
give_recorded s h (Some lane) shard places Succeeded own state m line may is = absurd (none-some line (sym may.deletes.no_line ∙ is))
give_recorded s h None shard places Succeeded own state m line may is = absurd may
give_recorded s h None shard places Expired own state m line may is = absurd may
give_recorded s h (Some lane) shard places Filtered own state m line may is = absurd may
give_recorded s h (Some lane) shard places Expired own state m line may is = absurd may

recorded_before : (s : RedriveSetting) (h : List Entry) (e : Entry) (line : List ℕ) → LegalRedrive s (e ∷ h) → entry_line e ≡ Some line → known s h ≡ []
recorded_before s h (Gave by shard places f own state m) line legal is = give_recorded s h by shard places f own state m line legal.1.1 is
recorded_before s h (Came shard first count m) line legal is = absurd (none-some line is)
recorded_before s h (Began lane places closing m) line legal is = absurd (none-some line is)
recorded_before s h (Ended lane reply m) line legal is = absurd (none-some line is)
recorded_before s h (Tried lane places closing tries m) line legal is = absurd (none-some line is)
recorded_before s h (Closed lane window m) line legal is = absurd (none-some line is)
recorded_before s h (Replayed shard places m) line legal is = absurd (none-some line is)
recorded_before s h (Shut m) line legal is = absurd (none-some line is)

-- the id of a message that waits stands in no line

found_or : (o : Option FoundDeletion) (g : Option Fate) → g ≡ Some Exhausted → is_some (option_or (option_map (λ (f : FoundDeletion). f.fate) o) g) ≡ true
found_or None g is = ap is_some is
found_or (Some f) g is = refl

-- the history moved a message with such an id only where it is deleted
moved_there : (s : RedriveSetting) (h : List Entry) (i : ℕ) (message : Message) → HaveDifferentIds s.queue.messages → LegalRedrive s h → message_at s.queue i ≡ Some message → i < queue_count h → stands_among (moved_ids s h) message.id ≡ true → is_deleted s.queue h i ≡ true
moved_there s h i message different legal at came stands =
    let there = at_any (bytes_eq message.id) (moved_ids s h) stands in
    let same_id : there.1 ≡ message.id = sym (bytes_eq-true message.id there.1 there.3) in
    let other = place_of s.queue (moved_places h) there.0 there.1 there.2 in
    let same : other.place ≡ i = different other.place i message.id (id_there s.queue.messages other.place other.message message.id other.is_there (other.id_is ∙ same_id)) (id_there s.queue.messages i message message.id at refl) in
    let gave : given h 0 i ≡ Some Exhausted = subst (λ (j : ℕ). given h 0 j ≡ Some Exhausted) same (moved_given s h legal other.place other.member) in
    deleted_is s.queue h (built_of s h legal) i came ∙ found_or (found_deletion s.queue i) (given h 0 i) gave

neither : (a b : Bool) → a ≡ false → b ≡ false → (a || b) ≡ false
neither a b one other = ap (λ (x : Bool). x || b) one ∙ other

not_lined : (s : RedriveSetting) (h : List Entry) (i : ℕ) (message : Message) → HaveDifferentIds s.queue.messages → LegalRedrive s h → known s h ≡ [] → message_at s.queue i ≡ Some message → i < queue_count h → is_deleted s.queue h i ≡ false → is_lined s h message.id ≡ false
not_lined s h i message different legal none at came waits =
    list_any-append (bytes_eq message.id) s.dead_ids (moved_ids s h)
    ∙ neither (stands_among s.dead_ids message.id) (stands_among (moved_ids s h) message.id)
    (false_from_ne_true (stands_among s.dead_ids message.id) (λ stands. not_known s h i message at stands came waits none))
    (false_from_ne_true (stands_among (moved_ids s h) message.id) (λ stands. both_ways (is_deleted s.queue h i) waits (moved_there s h i message different legal at came stands)))

pub further_moves : (s : RedriveSetting) (h : List Entry) (e : Entry) (line : List ℕ) → ((h : List Entry) (e : Entry) (line : List ℕ) → LegalRedrive s (e ∷ h) → entry_line e ≡ Some line → IsLineOfDue s h e line)
    → HaveDifferentIds s.queue.messages → FollowsFront s h e → entry_line e ≡ Some line → IsTriedMove s h e line
further_moves s h e line law different front has =
    let before : List Entry = front.before in
    let m : ℕ = moment_of e in
    let legal : LegalRedrive s (e ∷ before) = front.follows s.queue.messages (λ i x at. at) in
    let first : IsLineOfDue s before e line = law before e line legal has in
    let member : In (due s before m) first.place = In-take 1 (due s before m) first.place (subst (λ (ps : List ℕ). In ps first.place) (sym first.first) (In-here first.place [] first.place refl)) in
    let shows : In (eligible (queue_of s.queue before) m) first.place = (In-filter (is_at_limit s before) (eligible_after s.queue before m) first.place member).0 in
    let waits : is_deleted s.queue before first.place ≡ false = eligible_waits s.queue before m first.place shows in
    let came : first.place < queue_count before = eligible_came s.queue before m first.place (built_of s before legal.0) shows in
    let unlined : is_lined s before first.message.id ≡ false = not_lined s before first.place first.message different legal.0 (recorded_before s before e line legal has) first.is_there came waits in
    record {
      front = front;
      due = first;
      waits = ap (λ (q : QueueState). is_deleted_at q first.place) (ap (queue_of s.queue) front.split ∙ same_queue s.queue front.later before front.ends) ∙ waits;
      fresh = ap (λ (places : List ℕ). stands_among (s.dead_ids ++ ids_at s.queue places) first.message.id) (ap moved_places front.split ∙ same_places front.later before front.ends) ∙ unlined;
    }
