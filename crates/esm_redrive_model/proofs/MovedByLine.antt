-- A message is moved exactly where its line stands and it was not found deleted for another reason.
use Rattle.std.proofs.Common.{◌≡◌, ℕ, zero, suc, ◌+◌, ◌<◌, Bool, true, false, ◌||◌, List, [], ◌∷◌, ◌++◌, length, refl, sym, ap, ◌∙◌, subst, ◌⊎◌, inl, inr, arith, Option, Some, None}
use Rattle.std.specs.Prelude.{slice_get, option_map, is_some}
use Rattle.std.specs.Option.{option_or}
use Rattle.std.specs.Str.{bytes_eq}
use Rattle.std.proofs.lemmas.List.Folds.{list_any-append}
use Rattle.std.proofs.lemmas.Bool.{cases_Bool, both_ways}
use Rattle.std.proofs.lemmas.Option.{none-some, same_Some}
use Rattle.esm_model.specs.declared.item.Message.{Message}
use Rattle.esm_model.specs.declared.entry.Fate.{Fate}
use Rattle.esm_model.specs.declared.entry.Fate.TheVariants.{Succeeded, Filtered, Expired, Exhausted}
use Rattle.esm_model.specs.declared.entry.WindowState.{WindowState}
use Rattle.esm_model.specs.declared.lane.LaneId.{LaneId}
use Rattle.esm_model.specs.declared.entry.Entry.{Entry}
use Rattle.esm_model.specs.declared.entry.Entry.TheVariants.{Came, Began, Ended, Gave, Tried, Closed, Replayed, Shut}
use Rattle.esm_model.specs.declared.setup.FoundDeletion.{FoundDeletion}
use Rattle.esm_model.specs.Books.{entry_line}
use Rattle.esm_model.specs.Fates.{given}
use Rattle.esm_queue_model.specs.QueueSetting.{message_at, found_deletion}
use Rattle.esm_queue_model.specs.QueueEntries.{queue_count, is_deleted}
use Rattle.esm_queue_model.proofs.Groups.{any_at, at_any, bytes_eq-true, bytes_eq-refl}
use Rattle.esm_redrive_model.specs.RedriveSetting.{RedriveSetting, stands_among}
use Rattle.esm_redrive_model.specs.DeadLetter.{dead_letter}
use Rattle.esm_redrive_model.specs.Due.{known, moved_places, moved_ids}
use Rattle.esm_redrive_model.specs.RedriveStep.{MayGiveRedrive, LegalRedrive}
use Rattle.esm_redrive_model.specs.RedriveLaws.{EachOnce, HaveDifferentIds}
use Rattle.esm_redrive_model.specs.RedriveLines.{is_lined, FoundMovesAreLined, NotFoundOtherwise, MovedWhereLined, AddsOnce, IsLineOfDue}
use Rattle.esm_redrive_model.proofs.Named.{built_of}
use Rattle.esm_redrive_model.proofs.Ends.{deleted_is}
use Rattle.esm_redrive_model.proofs.Moves.{place_of, id_there, moved_once_in}
use Rattle.esm_redrive_model.proofs.Lined.{found_lined, given_lined, given_recorded, moved_given, kept_id, not_known}

abbrev fate_of : FoundDeletion → Fate
fate_of f = f.fate

-- by what the journal told, and by what the history gives

lined_by : (s : RedriveSetting) (h : List Entry) (i : ℕ) (message : Message) (o : Option FoundDeletion) → FoundMovesAreLined s → LegalRedrive s h → i < queue_count h → message_at s.queue i ≡ Some message → found_deletion s.queue i ≡ o
    → option_or (option_map fate_of o) (given h 0 i) ≡ Some Exhausted → is_lined s h message.id ≡ true
lined_by s h i message None lined legal came at is fate = given_lined s h legal i message fate at
lined_by s h i message (Some f) lined legal came at is fate =
    found_lined s h message.id (ap (stands_among s.dead_ids) (kept_id s.queue h (built_of s h legal) i f message came at is) ∙ lined i f is (same_Some f.fate Exhausted fate))

not_otherwise_by : (o : Option FoundDeletion) (g : Option Fate) (f : FoundDeletion) → o ≡ Some f → option_or (option_map fate_of o) g ≡ Some Exhausted → f.fate ≡ Exhausted
not_otherwise_by None g f is fate = absurd (none-some f is)
not_otherwise_by (Some x) g f is fate = ap fate_of (sym (same_Some x f is)) ∙ same_Some x.fate Exhausted fate

-- a fate is given where the message is deleted
some_fate : (g : Option Fate) → is_some g ≡ true → (f : Fate) × (g ≡ Some f)
some_fate (Some f) some = (f, refl)
some_fate None some = absurd (both_ways false refl some)

-- the place of an id that stands among those of the moved messages
moved_there : (s : RedriveSetting) (h : List Entry) (i : ℕ) (message : Message) → HaveDifferentIds s.queue.messages → LegalRedrive s h → message_at s.queue i ≡ Some message → stands_among (moved_ids s h) message.id ≡ true → given h 0 i ≡ Some Exhausted
moved_there s h i message different legal at stands =
    let there = at_any (bytes_eq message.id) (moved_ids s h) stands in
    let same_id : there.1 ≡ message.id = sym (bytes_eq-true message.id there.1 there.3) in
    let other = place_of s.queue (moved_places h) there.0 there.1 there.2 in
    let same : other.place ≡ i = different other.place i message.id (id_there s.queue.messages other.place other.message message.id other.is_there (other.id_is ∙ same_id)) (id_there s.queue.messages i message message.id at refl) in
    subst (λ (j : ℕ). given h 0 j ≡ Some Exhausted) same (moved_given s h legal other.place other.member)

found_there : (s : RedriveSetting) (h : List Entry) (i : ℕ) (message : Message) → LegalRedrive s h → known s h ≡ [] → i < queue_count h → message_at s.queue i ≡ Some message → found_deletion s.queue i ≡ None → stands_among s.dead_ids message.id ≡ true → given h 0 i ≡ Some Exhausted
found_there s h i message legal none came at unfound stands =
    elim (cases_Bool (is_deleted s.queue h i)) [
      | inl gone ↦
          (let fated : is_some (given h 0 i) ≡ true = sym (ap (λ (o : Option FoundDeletion). is_some (option_or (option_map fate_of o) (given h 0 i))) unfound) ∙ (sym (deleted_is s.queue h (built_of s h legal) i came) ∙ gone) in
          let it = some_fate (given h 0 i) fated in
          it.1 ∙ ap Some (given_recorded s i message at stands h it.0 legal it.1))
      | inr waits ↦ absurd (not_known s h i message at stands came waits none)
    ]

either_way : (a b : Bool) → (a || b) ≡ true → (a ≡ true) ⊎ (b ≡ true)
either_way true b is = inl refl
either_way false b is = inr is

given_by_line : (s : RedriveSetting) (h : List Entry) (i : ℕ) (message : Message) → HaveDifferentIds s.queue.messages → LegalRedrive s h → known s h ≡ [] → i < queue_count h → message_at s.queue i ≡ Some message → found_deletion s.queue i ≡ None → is_lined s h message.id ≡ true → given h 0 i ≡ Some Exhausted
given_by_line s h i message different legal none came at unfound lined =
    elim (either_way (stands_among s.dead_ids message.id) (stands_among (moved_ids s h) message.id) (sym (list_any-append (bytes_eq message.id) s.dead_ids (moved_ids s h)) ∙ lined)) [
      | inl found ↦ found_there s h i message legal none came at unfound found
      | inr moved ↦ moved_there s h i message different legal at moved
    ]

moved_by : (s : RedriveSetting) (h : List Entry) (i : ℕ) (message : Message) (o : Option FoundDeletion) → HaveDifferentIds s.queue.messages → LegalRedrive s h → known s h ≡ [] → i < queue_count h → message_at s.queue i ≡ Some message → found_deletion s.queue i ≡ o
    → is_lined s h message.id ≡ true → NotFoundOtherwise s i → option_or (option_map fate_of o) (given h 0 i) ≡ Some Exhausted
moved_by s h i message None different legal none came at is lined other = given_by_line s h i message different legal none came at is lined
moved_by s h i message (Some f) different legal none came at is lined other = ap Some (other f is)

pub moved_where_lined_in : (s : RedriveSetting) (h : List Entry) → FoundMovesAreLined s → HaveDifferentIds s.queue.messages → LegalRedrive s h → known s h ≡ [] → MovedWhereLined s h
moved_where_lined_in s h lined different legal none i message came at = record {
  lined = lined_by s h i message (found_deletion s.queue i) lined legal came at refl;
  not_otherwise = λ fate f found. not_otherwise_by (found_deletion s.queue i) (given h 0 i) f found fate;
  moved = moved_by s h i message (found_deletion s.queue i) different legal none came at refl;
}

-- ids that were added by redrives one after the other

joined : (xs ys : List (List ℕ)) (i : ℕ) (id : List ℕ) → slice_get (xs ++ ys) i ≡ Some id → (slice_get xs i ≡ Some id) ⊎ ((k : ℕ) × ((i ≡ length xs + k) × (slice_get ys k ≡ Some id)))
joined [] ys i id at = inr (i, (omega arith, at))
joined (x ∷ xs) ys zero id at = inl at
joined (x ∷ xs) ys (suc i) id at =
    elim (joined xs ys i id at) [
      | inl here ↦ inl here
      | inr there ↦ (let e = there.1.0 in inr (there.0, (omega (arith, e), there.1.1)))
    ]

stands_at : (ids : List (List ℕ)) (i : ℕ) (id : List ℕ) → slice_get ids i ≡ Some id → stands_among ids id ≡ true
stands_at ids i id at = any_at (bytes_eq id) ids i id at (bytes_eq-refl id)

once_joined : (xs ys : List (List ℕ)) → EachOnce xs → EachOnce ys → ((id : List ℕ) → stands_among xs id ≡ true → stands_among ys id ≡ true → ⊥) → EachOnce (xs ++ ys)
once_joined xs ys first second apart i j id at_i at_j =
    elim (joined xs ys i id at_i) [
      | inl a ↦ elim (joined xs ys j id at_j) [
        | inl b ↦ first i j id a b
        | inr b ↦ absurd (apart id (stands_at xs i id a) (stands_at ys b.0 id b.1.1))
      ]
      | inr a ↦ elim (joined xs ys j id at_j) [
        | inl b ↦ absurd (apart id (stands_at xs j id b) (stands_at ys a.0 id a.1.1))
        | inr b ↦ (let e = second a.0 b.0 id a.1.1 b.1.1 in let p = a.1.0 in let q = b.1.0 in omega (arith, e, p, q))
      ]
    ]

pub adds_once_in : (s : RedriveSetting) (h : List Entry) (earlier : List (List ℕ)) → HaveDifferentIds s.queue.messages → LegalRedrive s h → AddsOnce s h earlier
adds_once_in s h earlier different legal each found =
    let moved = moved_once_in s h legal in
    once_joined earlier (moved_ids s h) each (moved.once different) (λ id before now. both_ways (stands_among s.dead_ids id) (moved.fresh id now) (found id before))

-- the message of a line

give_due : (s : RedriveSetting) (h : List Entry) (by : Option LaneId) (shard : ℕ) (places : List ℕ) (f : Fate) (own : Option (List ℕ)) (state : Option WindowState) (m : ℕ) (line : List ℕ) → MayGiveRedrive s h by shard places f own state m → own ≡ Some line
    → IsLineOfDue s h (Gave by shard places f own state m) line
give_due s h (Some lane) shard places Exhausted own state m line may is =
    record { place = may.place; message = may.message; first = may.first; is_there = may.is_there; line_is = same_Some line (dead_letter may.message) (sym is ∙ may.line_is) }
give_due s h None shard places Exhausted own state m line may is = absurd (none-some line (sym may.no_line ∙ is))
give_due s h None shard places Filtered own state m line may is = absurd (none-some line (sym may.filters.no_line ∙ is))
give_due s h (Some lane) shard places Succeeded own state m line may is = absurd (none-some line (sym may.deletes.no_line ∙ is))
give_due s h None shard places Succeeded own state m line may is = absurd may
give_due s h None shard places Expired own state m line may is = absurd may
give_due s h (Some lane) shard places Filtered own state m line may is = absurd may
give_due s h (Some lane) shard places Expired own state m line may is = absurd may

pub line_of_due_in : (s : RedriveSetting) (h : List Entry) (e : Entry) (line : List ℕ) → LegalRedrive s (e ∷ h) → entry_line e ≡ Some line → IsLineOfDue s h e line
line_of_due_in s h (Gave by shard places f own state m) line legal is = give_due s h by shard places f own state m line legal.1.1 is
line_of_due_in s h (Came shard first count m) line legal is = absurd (none-some line is)
line_of_due_in s h (Began lane places closing m) line legal is = absurd (none-some line is)
line_of_due_in s h (Ended lane reply m) line legal is = absurd (none-some line is)
line_of_due_in s h (Tried lane places closing tries m) line legal is = absurd (none-some line is)
line_of_due_in s h (Closed lane window m) line legal is = absurd (none-some line is)
line_of_due_in s h (Replayed shard places m) line legal is = absurd (none-some line is)
line_of_due_in s h (Shut m) line legal is = absurd (none-some line is)
