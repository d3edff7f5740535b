-- The deletions that the journal's content says are those that it said, and those of the history.
use Rattle.std.proofs.Common.{◌≡◌, ◌∙◌, ℕ, ◌<◌, ◌≤◌, Bool, true, false, cond, List, [], ◌∷◌, ◌++◌, length, Option, Some, None, ap, ap₂, arith, inl, inr, refl, sym}
use Rattle.std.specs.Prelude.{◌==◌, ◌&&◌, ◌||◌, filter_map, find, is_some, option_map, reverse, slice_get}
use Rattle.std.specs.List.{All}
use Rattle.std.specs.Option.{option_or}
use Rattle.std.proofs.lemmas.Bool.{and_from, and_parts, both_ways, cases_Bool, cases_lt, eq-eqb, eqb-true, false_from_ne_true}
use Rattle.std.proofs.lemmas.List.Elements.{All-head, All-tail}
use Rattle.esm_model.specs.declared.entry.Entry.{Entry}
use Rattle.esm_model.specs.declared.entry.Entry.TheVariants.{Came, Began, Ended, Gave, Tried, Closed, Replayed, Shut}
use Rattle.esm_model.specs.declared.entry.Fate.{Fate}
use Rattle.esm_model.specs.declared.entry.WindowState.{WindowState}
use Rattle.esm_model.specs.declared.item.Message.{Message}
use Rattle.esm_model.specs.declared.lane.LaneId.{LaneId}
use Rattle.esm_model.specs.declared.setup.FoundDeletion.{FoundDeletion}
use Rattle.esm_model.specs.Entries.{holds}
use Rattle.esm_model.specs.Fates.{given}
use Rattle.esm_journal_record.specs.declared.said.Said.{Said}
use Rattle.esm_journal_record.specs.declared.said.Said.TheVariants.{Deleted}
use Rattle.esm_journal_record.specs.EntryPayload.{ids_at, queue_payload, queue_said}
use Rattle.esm_journal_record.specs.Parsing.{said_of}
use Rattle.esm_journal_record.specs.Payload.{payload_of}
use Rattle.esm_journal_state.specs.declared.kept.KeptFate.{KeptFate}
use Rattle.esm_journal_state.specs.Meaning.{Known, any_named, are_good, deletion_said, fate_kept, history, is_bad, is_deleted as is_gone, is_good, is_good_said, known, text_named}
use Rattle.esm_journal_state.specs.Tells.{deletion_of_found}
use Rattle.esm_queue_model.specs.QueueEntries.{deletion_fate, is_deleted, queue_count}
use Rattle.esm_queue_model.specs.QueueSetting.{QueueSetting, found_deletion, message_at}
use Rattle.esm_queue_model.proofs.MoreMessages.{count_grows}
use Rattle.esm_queue_model.proofs.Places.{In, In-here, In-there}
use Rattle.esm_redrive_model.proofs.Built.{Built, count_within}
use Rattle.esm_redrive_model.proofs.Ends.{deleted_is}
use Rattle.esm_redrive_life.specs.Content.{DeletionsAreRecorded, HasValidMessages, IsOpenedOver, content_after, deletion_in, given_deletion, kept_of}
use Rattle.esm_redrive_life.proofs.Rising.{IsTellable}
use Rattle.esm_redrive_life.proofs.Saying.{ReadAgain, all_said, content_turned, given_within, history_said, one_id, within_at}

abbrev fate_only : Option KeptFate → Option Fate
fate_only o = option_map (λ (k : KeptFate). k.fate) o

-- the ids of places that stand in the list

-- the place has the id of its message where it is one of them
pub text_there : (messages : List Message) (places : List ℕ) (i : ℕ) (x : Message) → All (λ j. j < length messages) places → slice_get messages i ≡ Some x → holds places i ≡ true → text_named places (ids_at messages places) i ≡ Some x.id
text_there messages [] i x within at named = absurd (both_ways false refl named)
text_there messages (j ∷ places) i x within at named =
    let there = within_at messages j (All-head (λ k. k < length messages) j places within) in
    ap (λ (ids : List (List ℕ)). text_named (j ∷ places) ids i) (one_id messages j places there.0 there.1)
    ∙ elim (cases_Bool (j == i)) [
      | inl same ↦
          (let own : Some there.0 ≡ Some x = sym there.1 ∙ ap (slice_get messages) (eqb-true j i same) ∙ at in
          rw same (ap (option_map (λ (m : Message). m.id)) own))
      | inr other ↦ rw other (text_there messages places i x (All-tail (λ k. k < length messages) j places within) at (rest_named (j == i) (holds places i) other named))
    ]
  where
    rest_named : (a b : Bool) → a ≡ false → (a || b) ≡ true → b ≡ true
    rest_named a b out either = rw out at either

-- and none where it is not
pub text_none : (messages : List Message) (places : List ℕ) (i : ℕ) → All (λ j. j < length messages) places → holds places i ≡ false → text_named places (ids_at messages places) i ≡ None
text_none messages [] i within out = refl
text_none messages (j ∷ places) i within out =
    let there = within_at messages j (All-head (λ k. k < length messages) j places within) in
    ap (λ (ids : List (List ℕ)). text_named (j ∷ places) ids i) (one_id messages j places there.0 there.1)
    ∙ elim (cases_Bool (j == i)) [
      | inl same ↦ absurd (both_ways ((j == i) || holds places i) out (rw same refl))
      | inr other ↦ rw other (text_none messages places i (All-tail (λ k. k < length messages) j places within) (rest_out (j == i) (holds places i) other out))
    ]
  where
    rest_out : (a b : Bool) → a ≡ false → (a || b) ≡ false → b ≡ false
    rest_out a b first either = rw first at either

-- one entry

or_nothing : (a : Option KeptFate) → option_or a None ≡ a
or_nothing None = refl
or_nothing (Some x) = refl

no_fate : (g : Option Fate) → option_or g None ≡ g
no_fate None = refl
no_fate (Some x) = refl

none_fated : (a g : Option Fate) → is_some (option_or a g) ≡ false → (a ≡ None) × (g ≡ None)
none_fated None None none = (refl, refl)
none_fated None (Some x) none = absurd (both_ways true none refl)
none_fated (Some x) g none = absurd (both_ways true none refl)

none_only : (o : Option KeptFate) → fate_only o ≡ None → o ≡ None
none_only None is = refl
none_only (Some k) is = cc

-- a deletion that is given to a message that waits
first_given : (old : Option KeptFate) (f : Fate) (x : Message) (g : Option Fate) (o : Option Message) (t : Option (List ℕ)) → old ≡ None → g ≡ None → o ≡ Some x → t ≡ Some x.id
    → option_or (option_map (fate_kept f) t) (option_or old (kept_of g o)) ≡ option_or old (kept_of (option_or g (Some f)) o)
first_given old f x g o t no_old no_given at text = rw (no_old, no_given, at, text) refl

-- of no message of these
none_given : (old : Option KeptFate) (f : Fate) (g : Option Fate) (o : Option Message) (t : Option (List ℕ)) → t ≡ None
    → option_or (option_map (fate_kept f) t) (option_or old (kept_of g o)) ≡ option_or old (kept_of (option_or g None) o)
none_given old f g o t none = rw (none, no_fate g) refl

-- the history

module _ (s : QueueSetting) (old : List Said) (are : HasValidMessages s) (found : (i : ℕ) → fate_only (deletion_said old i) ≡ option_map (λ (f : FoundDeletion). f.fate) (found_deletion s i)) where
  abbrev stood : List Entry → ℕ → Option KeptFate
  stood h i = deletion_said (filter_map (queue_said s.messages) h ++ old) i

  -- nothing was said of a message that an entry deletes
  pub none_stood : (h : List Entry) (by : Option LaneId) (shard : ℕ) (places : List ℕ) (f : Fate) (line : Option (List ℕ)) (state : Option WindowState) (m i : ℕ) → IsTellable s (Gave by shard places f line state m ∷ h) → In places i
      → (deletion_said old i ≡ None) × (given h 0 i ≡ None)
  none_stood h by shard places f line state m i legal member =
      let built = legal.0 in
      let low : i < queue_count h = built.1.came i member in
      let waits : is_deleted s h i ≡ false = built.1.wait i member in
      let none = none_fated (option_map (λ (f : FoundDeletion). f.fate) (found_deletion s i)) (given h 0 i) (sym (deleted_is s h built.0 i low) ∙ waits) in
      (none_only (deletion_said old i) (found i ∙ none.0), none.1)

  gave_stands : (h : List Entry) (by : Option LaneId) (shard : ℕ) (places : List ℕ) (f : Fate) (line : Option (List ℕ)) (state : Option WindowState) (m i : ℕ) → IsTellable s (Gave by shard places f line state m ∷ h) → stood h i ≡ option_or (deletion_said old i) (given_deletion s h i)
      → stood (Gave by shard places f line state m ∷ h) i ≡ option_or (deletion_said old i) (given_deletion s (Gave by shard places f line state m ∷ h) i)
  gave_stands h by shard places f line state m i legal before =
      let built = legal.0 in
      let within = given_within s h by shard places f line state m legal in
      let o = message_at s i in
      let t = text_named places (ids_at s.messages places) i in
      let own : (shard == 0) ≡ true = eq-eqb shard 0 built.1.queue in
      ap (λ (k : Option KeptFate). option_or (option_map (fate_kept f) t) k) before
      ∙ elim (cases_Bool (holds places i)) [
        | inl member ↦
            (let none = none_stood h by shard places f line state m i legal member in
            let low = built.1.came i member in
            let all = count_within s h built.0 in
            let there = within_at s.messages i (omega (arith, low, all)) in
            first_given (deletion_said old i) f there.0 (given h 0 i) o t none.0 none.1 there.1 (text_there s.messages places i there.0 within there.1 member)
            ∙ ap (λ (b : Bool). option_or (deletion_said old i) (kept_of (option_or (given h 0 i) (cond b (Some f) None)) o)) (sym (and_from (shard == 0) (holds places i) own member)))
        | inr out ↦
            none_given (deletion_said old i) f (given h 0 i) o t (text_none s.messages places i within out)
            ∙ ap (λ (b : Bool). option_or (deletion_said old i) (kept_of (option_or (given h 0 i) (cond b (Some f) None)) o)) (sym (ap (λ (b : Bool). (shard == 0) && b) out ∙ ap (λ (b : Bool). b && false) own))
      ]

  pub said_stands : (h : List Entry) → IsTellable s h → (i : ℕ) → stood h i ≡ option_or (deletion_said old i) (given_deletion s h i)
  said_stands [] legal i = sym (or_nothing (deletion_said old i))
  said_stands (Gave by shard places f line state m ∷ h) legal i = gave_stands h by shard places f line state m i legal (said_stands h (legal.0.0, legal.1.0) i)
  said_stands (Came shard first count m ∷ h) legal i = said_stands h (legal.0.0, legal.1.0) i
  said_stands (Began lane places closing m ∷ h) legal i = said_stands h (legal.0.0, legal.1.0) i
  said_stands (Ended lane reply m ∷ h) legal i = said_stands h (legal.0.0, legal.1.0) i
  said_stands (Tried lane places closing tries m ∷ h) legal i = said_stands h (legal.0.0, legal.1.0) i
  said_stands (Closed lane window m ∷ h) legal i = said_stands h (legal.0.0, legal.1.0) i
  said_stands (Replayed shard places m ∷ h) legal i = said_stands h (legal.0.0, legal.1.0) i
  said_stands (Shut m ∷ h) legal i = said_stands h (legal.0.0, legal.1.0) i

-- all of it

pub found_told : (s : QueueSetting) (old : List (List ℕ)) → IsOpenedOver s old → (i : ℕ) → option_map deletion_of_found (found_deletion s i) ≡ deletion_in old i
found_told s old is i = ap (λ (ds : List FoundDeletion). option_map deletion_of_found (find (λ (f : FoundDeletion). f.place == i) ds)) is.found ∙ is.tells.deletions i

pub found_fates : (s : QueueSetting) (old : List (List ℕ)) → IsOpenedOver s old → (i : ℕ) → fate_only (deletion_in old i) ≡ option_map (λ (f : FoundDeletion). f.fate) (found_deletion s i)
found_fates s old is i = ap fate_only (sym (found_told s old is i)) ∙ alike (found_deletion s i)
  where
    alike : (o : Option FoundDeletion) → fate_only (option_map deletion_of_found o) ≡ option_map (λ (f : FoundDeletion). f.fate) o
    alike None = refl
    alike (Some f) = refl

-- what did not come was given no fate

not_named : (g : Option Fate) (b : Bool) (f : Fate) → g ≡ None → b ≡ false → option_or g (cond b (Some f) None) ≡ None
not_named g b f none out = rw (none, out) refl

given_none : (s : QueueSetting) (h : List Entry) → Built s h → (i : ℕ) → queue_count h ≤ i → given h 0 i ≡ None
given_none s [] built i high = refl
given_none s (Came shard first count m ∷ h) built i high =
    let grows = count_grows h (Came shard first count m) in
    given_none s h built.0 i (omega (arith, grows, high))
given_none s (Gave by shard places f line state m ∷ h) built i high =
    not_named (given h 0 i) ((shard == 0) && holds places i) f (given_none s h built.0 i high)
    (false_from_ne_true ((shard == 0) && holds places i) (λ named. (let low = built.1.came i (and_parts (shard == 0) (holds places i) named).1 in omega (arith, low, high))))
given_none s (Began lane places closing m ∷ h) built i high = given_none s h built.0 i high
given_none s (Ended lane reply m ∷ h) built i high = given_none s h built.0 i high
given_none s (Tried lane places closing tries m ∷ h) built i high = given_none s h built.0 i high
given_none s (Closed lane window m ∷ h) built i high = given_none s h built.0 i high
given_none s (Replayed shard places m ∷ h) built i high = given_none s h built.0 i high
given_none s (Shut m ∷ h) built i high = given_none s h built.0 i high

given_only : (g : Option Fate) (o : Option Message) (x : Message) → o ≡ Some x → fate_only (kept_of g o) ≡ g
given_only None o x at = refl
given_only (Some f) o x at = rw at refl

given_fate : (s : QueueSetting) (h : List Entry) → IsTellable s h → (i : ℕ) → fate_only (given_deletion s h i) ≡ given h 0 i
given_fate s h legal i =
    let built = legal.0 in
    elim (cases_lt i (queue_count h)) [
      | inl low ↦
          (let all = count_within s h built in
          let there = within_at s.messages i (omega (arith, low, all)) in
          given_only (given h 0 i) (message_at s i) there.0 there.1)
      | inr high ↦ (let none = given_none s h built i high in rw none refl)
    ]

either_fate : (a b : Option KeptFate) → fate_only (option_or a b) ≡ option_or (fate_only a) (fate_only b)
either_fate None b = refl
either_fate (Some k) b = refl

there_too : (o : Option KeptFate) → is_some o ≡ is_some (fate_only o)
there_too None = refl
there_too (Some k) = refl

pub recorded : ReadAgain → (s : QueueSetting) (h : List Entry) (old : List (List ℕ)) → IsOpenedOver s old → HasValidMessages s → IsTellable s h → DeletionsAreRecorded old s h
recorded again s h old opened are legal =
    let found = found_fates s old opened in
    let said : (i : ℕ) → deletion_in (content_after s h old) i ≡ option_or (deletion_in old i) (given_deletion s h i) =
    λ i. ap (λ (g : List Said). deletion_said g i) (history_said again s h old are legal) ∙ said_stands s (history (reverse old)) are found h legal i in
    let fates : (i : ℕ) → fate_only (deletion_in (content_after s h old) i) ≡ deletion_fate s h i =
    λ i. ap fate_only (said i) ∙ (either_fate (deletion_in old i) (given_deletion s h i) ∙ ap₂ (λ (a b : Option Fate). option_or a b) (found i) (given_fate s h legal i)) in
    record {
      said = said;
      fates = fates;
      deleted = λ i low. there_too (deletion_in (content_after s h old) i) ∙ (ap is_some (fates i) ∙ sym (deleted_is s h legal.0 i low));
    }

-- no payload of it is bad

any_none : (k : Known) (places : List ℕ) (texts : List (List ℕ)) → ((i : ℕ) → In places i → is_some (k.deletions i) ≡ false) → any_named (is_gone k) places texts ≡ false
any_none k [] texts none = refl
any_none k (i ∷ places) [] none = refl
any_none k (i ∷ places) (text ∷ texts) none = neither (is_some (k.deletions i)) (any_named (is_gone k) places texts) (none i (In-here i places i refl)) (any_none k places texts (λ j member. none j (In-there i places j member)))
  where
    neither : (a b : Bool) → a ≡ false → b ≡ false → (a || b) ≡ false
    neither a b first second = rw (first, second) refl

is_good_read : (h : List Said) (o : Option Said) (said : Said) → o ≡ Some said → is_bad (known h) said ≡ false → is_good_said h o ≡ true
is_good_read h o said read good = rw (read, good) refl

good_content : ReadAgain → (s : QueueSetting) (h : List Entry) (old : List (List ℕ)) → IsOpenedOver s old → HasValidMessages s → IsTellable s h → are_good (reverse old) ≡ true → are_good (filter_map (queue_payload s.messages) h ++ reverse old) ≡ true
good_content again s [] old opened are legal good = good
good_content again s (Gave by shard places f line state m ∷ h) old opened are legal good =
    let payloads = filter_map (queue_payload s.messages) h ++ reverse old in
    let e = Gave by shard places f line state m in
    let found = found_fates s old opened in
    let said = Deleted f m places (ids_at s.messages places) in
    let before : history payloads ≡ filter_map (queue_said s.messages) h ++ history (reverse old) = sym (ap history (content_turned s h old)) ∙ history_said again s h old are (legal.0.0, legal.1.0) in
    and_from (are_good payloads) (is_good (history payloads) (payload_of said)) (good_content again s h old opened are (legal.0.0, legal.1.0) good)
    (is_good_read (history payloads) (said_of (payload_of said)) said (again said (all_said s (e ∷ h) are legal).1)
    (any_none (known (history payloads)) places (ids_at s.messages places)
    (λ i member. (let none = none_stood s (history (reverse old)) are found h by shard places f line state m i legal member in
    ap (λ (g : List Said). is_some (deletion_said g i)) before
    ∙ (ap is_some (said_stands s (history (reverse old)) are found h (legal.0.0, legal.1.0) i) ∙ nothing (deletion_said (history (reverse old)) i) (given h 0 i) (message_at s i) none.0 none.1)))))
  where
    nothing : (k : Option KeptFate) (g : Option Fate) (o : Option Message) → k ≡ None → g ≡ None → is_some (option_or k (kept_of g o)) ≡ false
    nothing k g o first second = rw (first, second) refl
good_content again s (Came shard first count m ∷ h) old opened are legal good = good_content again s h old opened are (legal.0.0, legal.1.0) good
good_content again s (Began lane places closing m ∷ h) old opened are legal good = good_content again s h old opened are (legal.0.0, legal.1.0) good
good_content again s (Ended lane reply m ∷ h) old opened are legal good = good_content again s h old opened are (legal.0.0, legal.1.0) good
good_content again s (Tried lane places closing tries m ∷ h) old opened are legal good = good_content again s h old opened are (legal.0.0, legal.1.0) good
good_content again s (Closed lane window m ∷ h) old opened are legal good = good_content again s h old opened are (legal.0.0, legal.1.0) good
good_content again s (Replayed shard places m ∷ h) old opened are legal good = good_content again s h old opened are (legal.0.0, legal.1.0) good
good_content again s (Shut m ∷ h) old opened are legal good = good_content again s h old opened are (legal.0.0, legal.1.0) good

pub stays_good : ReadAgain → (s : QueueSetting) (h : List Entry) (old : List (List ℕ)) → IsOpenedOver s old → HasValidMessages s → IsTellable s h → are_good (reverse old) ≡ true → are_good (reverse (content_after s h old)) ≡ true
stays_good again s h old opened are legal good = ap are_good (content_turned s h old) ∙ good_content again s h old opened are legal good
