-- The deletions that the journal's content says are those of the history.
use Rattle.std.proofs.Common.{◌≡◌, ◌∙◌, ◌⊎◌, ℕ, ◌<◌, ◌^◌, Bool, true, false, cond, List, [], ◌∷◌, ◌++◌, length, Option, Some, None, ap, arith, inl, inr, refl, sym}
use Rattle.std.specs.Prelude.{◌==◌, ◌&&◌, ◌||◌, filter_map, find, is_some, option_map, reverse}
use Rattle.std.specs.List.{All}
use Rattle.std.specs.Option.{option_or}
use Rattle.std.proofs.lemmas.Bool.{and_from, and_parts, both_ways, eq-eqb, false_from_ne_true}
use Rattle.std.proofs.lemmas.List.Elements.{All-head, All-tail}
use Rattle.esm_model.specs.declared.entry.Entry.{Entry}
use Rattle.esm_model.specs.declared.entry.Entry.TheVariants.{Came, Began, Ended, Gave, Tried, Closed, Replayed, Shut}
use Rattle.esm_model.specs.declared.entry.Fate.{Fate}
use Rattle.esm_model.specs.declared.entry.WindowState.{WindowState}
use Rattle.esm_model.specs.declared.item.Message.{Message}
use Rattle.esm_model.specs.declared.lane.LaneId.{LaneId}
use Rattle.esm_model.specs.declared.setup.FoundDeletion.{FoundDeletion}
use Rattle.esm_model.specs.Entries.{holds}
use Rattle.esm_model.specs.Fates.{given}
use Rattle.esm_model.specs.ValidMessage.{IsValidMessage}
use Rattle.esm_journal_record.specs.declared.said.Said.{Said}
use Rattle.esm_journal_record.specs.EntryPayload.{ids_at, queue_said}
use Rattle.esm_journal_state.specs.declared.kept.KeptFate.{KeptFate}
use Rattle.esm_journal_state.specs.Meaning.{deletion_said, fate_kept, history, text_named}
use Rattle.esm_journal_state.specs.SaidLists.{SaidLists, deletion_told}
use Rattle.esm_journal_state.specs.Tells.{Tells, deletion_of_found}
use Rattle.esm_queue_model.specs.QueueEntries.{deletion_fate, is_deleted, queue_count, queue_of}
use Rattle.esm_queue_model.specs.QueueSetting.{QueueSetting, found_deletion}
use Rattle.esm_queue_model.specs.QueueStep.{LegalQueue}
use Rattle.esm_queue_model.proofs.MoreMessages.{stored_count}
use Rattle.esm_queue_core.proofs.Named.{within_at}
use Rattle.esm_queue_core.proofs.Settling.{gave_deletes}
use Rattle.esm_runner.specs.Files.{FilesState}
use Rattle.esm_runner.specs.QueueHeadline.{DeletionsAreRecorded, said_after}
use Rattle.esm_runner.specs.QueueLaws.{AreLaws}
use Rattle.esm_runner.proofs.Deletions.{come_or_was, given_or_was, received_was, stays_deleted}
use Rattle.esm_runner.proofs.Earned.{found_deleted}
use Rattle.esm_runner.proofs.Saying.{given_low, given_within, gives, history_said, one_id}

-- what is deleted has the fate of a deletion

abbrev found_fate : QueueSetting → ℕ → Option Fate
found_fate s i = option_map (λ (f : FoundDeletion). f.fate) (found_deletion s i)

fated_more : (a g x : Option Fate) → is_some (option_or a g) ≡ true → is_some (option_or a (option_or g x)) ≡ true
fated_more (Some f) g x is = refl
fated_more None (Some f) x is = refl
fated_more None None x is = absurd (both_ways false refl is)

fated_found : (o : Option FoundDeletion) (g : Option Fate) → is_some o ≡ true → is_some (option_or (option_map (λ (f : FoundDeletion). f.fate) o) g) ≡ true
fated_found None g is = absurd (both_ways false refl is)
fated_found (Some f) g is = refl

fated_named : (a g : Option Fate) (b : Bool) (f : Fate) → b ≡ true → is_some (option_or a (option_or g (cond b (Some f) None))) ≡ true
fated_named (Some x) g b f is = refl
fated_named None (Some x) b f is = refl
fated_named None None true f is = refl
fated_named None None false f is = absurd (both_ways false refl is)

deleted_fated : (s : QueueSetting) (h : List Entry) → LegalQueue s h → (i : ℕ) → is_deleted s h i ≡ true → is_some (deletion_fate s h i) ≡ true
deleted_fated s [] legal i is = absurd (both_ways false refl is)
deleted_fated s (Came shard first count m ∷ h) legal i is =
    elim (come_or_was s h shard first count m legal.0 legal.1.1 i is) [
      | inl before ↦ deleted_fated s h legal.0 i before
      | inr found ↦ fated_found (found_deletion s i) (given h 0 i) found
    ]
deleted_fated s (Began lane places closing m ∷ h) legal i is = deleted_fated s h legal.0 i (received_was s h places m i is)
deleted_fated s (Gave by shard places f line state m ∷ h) legal i is =
    let named = (shard == 0) && holds places i in
    elim (given_or_was s h places i is) [
      | inl before ↦ fated_more (found_fate s i) (given h 0 i) (cond named (Some f) None) (deleted_fated s h legal.0 i before)
      | inr member ↦ fated_named (found_fate s i) (given h 0 i) named f
          (and_from (shard == 0) (holds places i) (eq-eqb shard 0 (gives s h by shard places f line state m legal.0 legal.1.1).queue) member)
    ]
deleted_fated s (Ended lane reply m ∷ h) legal i is = deleted_fated s h legal.0 i is
deleted_fated s (Tried lane places closing tries m ∷ h) legal i is = deleted_fated s h legal.0 i is
deleted_fated s (Closed lane window m ∷ h) legal i is = deleted_fated s h legal.0 i is
deleted_fated s (Replayed shard places m ∷ h) legal i is = deleted_fated s h legal.0 i is
deleted_fated s (Shut m ∷ h) legal i is = deleted_fated s h legal.0 i is

-- and what has one and came is deleted

given_or_named : (g : Option Fate) (b : Bool) (f : Fate) → is_some (option_or g (cond b (Some f) None)) ≡ true → (is_some g ≡ true) ⊎ (b ≡ true)
given_or_named (Some x) b f is = inl refl
given_or_named None true f is = inr refl
given_or_named None false f is = absurd (both_ways false refl is)

given_deleted : (s : QueueSetting) (h : List Entry) → LegalQueue s h → (i : ℕ) → is_some (given h 0 i) ≡ true → is_deleted s h i ≡ true
given_deleted s [] legal i is = absurd (both_ways false refl is)
given_deleted s (Gave by shard places f line state m ∷ h) legal i is =
    elim (given_or_named (given h 0 i) ((shard == 0) && holds places i) f is) [
      | inl before ↦ stays_deleted s h (Gave by shard places f line state m) i (given_deleted s h legal.0 i before)
      | inr named ↦
          (let member = (and_parts (shard == 0) (holds places i) named).1 in
          let low = given_low s h by shard places f line state m i legal member in
          let n = stored_count s h legal.0 in
          gave_deletes (queue_of s h) places i member (omega (arith, low, n)))
    ]
given_deleted s (Came shard first count m ∷ h) legal i is = stays_deleted s h (Came shard first count m) i (given_deleted s h legal.0 i is)
given_deleted s (Began lane places closing m ∷ h) legal i is = stays_deleted s h (Began lane places closing m) i (given_deleted s h legal.0 i is)
given_deleted s (Ended lane reply m ∷ h) legal i is = given_deleted s h legal.0 i is
given_deleted s (Tried lane places closing tries m ∷ h) legal i is = given_deleted s h legal.0 i is
given_deleted s (Closed lane window m ∷ h) legal i is = given_deleted s h legal.0 i is
given_deleted s (Replayed shard places m ∷ h) legal i is = given_deleted s h legal.0 i is
given_deleted s (Shut m ∷ h) legal i is = given_deleted s h legal.0 i is

found_or_given : (o : Option FoundDeletion) (g : Option Fate) → is_some (option_or (option_map (λ (f : FoundDeletion). f.fate) o) g) ≡ true → (is_some o ≡ true) ⊎ (is_some g ≡ true)
found_or_given (Some f) g is = inl refl
found_or_given None g is = inr is

fated_deleted : (s : QueueSetting) (h : List Entry) → LegalQueue s h → (i : ℕ) → i < queue_count h → is_some (deletion_fate s h i) ≡ true → is_deleted s h i ≡ true
fated_deleted s h legal i low is =
    elim (found_or_given (found_deletion s i) (given h 0 i) is) [
      | inl found ↦ found_deleted s h legal i low found
      | inr named ↦ given_deleted s h legal i named
    ]

both_or_none : (a b : Bool) → (a ≡ true → b ≡ true) → (b ≡ true → a ≡ true) → a ≡ b
both_or_none true b to from = sym (to refl)
both_or_none false true to from = from refl
both_or_none false false to from = refl

fated_is : (s : QueueSetting) (h : List Entry) → LegalQueue s h → (i : ℕ) → i < queue_count h → is_some (deletion_fate s h i) ≡ is_deleted s h i
fated_is s h legal i low = both_or_none (is_some (deletion_fate s h i)) (is_deleted s h i) (fated_deleted s h legal i low) (deleted_fated s h legal i)

-- the ids of places that stand in the list

or_named : (b held : Bool) (text : List ℕ) (o : Option (List ℕ)) → is_some o ≡ held → is_some (cond b (Some text) o) ≡ (b || held)
or_named true held text o is = refl
or_named false held text o is = is

text_there : (messages : List Message) (places : List ℕ) → All (λ j. j < length messages) places → (i : ℕ) → is_some (text_named places (ids_at messages places) i) ≡ holds places i
text_there messages [] within i = refl
text_there messages (j ∷ places) within i =
    let there = within_at messages j (All-head (λ k. k < length messages) j places within) in
    ap (λ (ids : List (List ℕ)). is_some (text_named (j ∷ places) ids i)) (one_id messages j places there.0 there.1)
    ∙ or_named (j == i) (holds places i) there.0.id (text_named places (ids_at messages places) i) (text_there messages places (All-tail (λ k. k < length messages) j places within) i)

-- one entry

abbrev fate_only : Option KeptFate → Option Fate
fate_only o = option_map (λ (k : KeptFate). k.fate) o

or_nothing : (a : Option Fate) → option_or a None ≡ a
or_nothing None = refl
or_nothing (Some x) = refl

fresh : (a g : Option Fate) (f : Fate) → is_some (option_or a g) ≡ false → Some f ≡ option_or a (option_or g (Some f))
fresh None None f none = refl
fresh None (Some x) f none = absurd (both_ways true none refl)
fresh (Some x) g f none = absurd (both_ways true none refl)

-- a payload of a deletion says the fate of the entry, where none stood before
deletion_more : (t : Option (List ℕ)) (named : Bool) (before : Option KeptFate) (found was : Option Fate) (f : Fate) → is_some t ≡ named → fate_only before ≡ option_or found was → (named ≡ true → is_some (option_or found was) ≡ false)
    → fate_only (option_or (option_map (fate_kept f) t) before) ≡ option_or found (option_or was (cond named (Some f) None))
deletion_more None named before found was f is same free =
    same ∙ ap (option_or found) (sym (or_nothing was)) ∙ ap (λ (b : Bool). option_or found (option_or was (cond b (Some f) None))) is
deletion_more (Some text) named before found was f is same free =
    fresh found was f (free (sym is)) ∙ ap (λ (b : Bool). option_or found (option_or was (cond b (Some f) None))) is

-- the history

module _ (laws : AreLaws) (s : QueueSetting) (old : List Said) (found : (i : ℕ) → fate_only (deletion_said old i) ≡ found_fate s i) where
  abbrev stood : List Entry → ℕ → Option Fate
  stood h i = fate_only (deletion_said (filter_map (queue_said s.messages) h ++ old) i)

  gave_stands : (h : List Entry) (by : Option LaneId) (shard : ℕ) (places : List ℕ) (f : Fate) (line : Option (List ℕ)) (state : Option WindowState) (m i : ℕ) → LegalQueue s (Gave by shard places f line state m ∷ h) → stood h i ≡ deletion_fate s h i
      → stood (Gave by shard places f line state m ∷ h) i ≡ deletion_fate s (Gave by shard places f line state m ∷ h) i
  gave_stands h by shard places f line state m i legal before =
      let e = Gave by shard places f line state m in
      let named = (shard == 0) && holds places i in
      let own = eq-eqb shard 0 (gives s h by shard places f line state m legal.0 legal.1.1).queue in
      deletion_more (text_named places (ids_at s.messages places) i) named (deletion_said (filter_map (queue_said s.messages) h ++ old) i) (found_fate s i) (given h 0 i) f
      (text_there s.messages places (given_within s h by shard places f line state m legal) i ∙ ap (λ (b : Bool). b && holds places i) (sym own))
      before
      (λ both. (let member = (and_parts (shard == 0) (holds places i) both).1 in
      let waits : is_deleted s h i ≡ false = laws.once s (e ∷ h) legal [] h by shard places f line state m refl i member in
      false_from_ne_true (is_some (deletion_fate s h i)) (λ is. both_ways (is_deleted s h i) waits (fated_deleted s h legal.0 i (given_low s h by shard places f line state m i legal member) is))))

  fate_stands : (h : List Entry) → LegalQueue s h → (i : ℕ) → stood h i ≡ deletion_fate s h i
  fate_stands [] legal i = found i ∙ sym (or_nothing (found_fate s i))
  fate_stands (Gave by shard places f line state m ∷ h) legal i = gave_stands h by shard places f line state m i legal (fate_stands h legal.0 i)
  fate_stands (Came shard first count m ∷ h) legal i = fate_stands h legal.0 i
  fate_stands (Began lane places closing m ∷ h) legal i = fate_stands h legal.0 i
  fate_stands (Ended lane reply m ∷ h) legal i = fate_stands h legal.0 i
  fate_stands (Tried lane places closing tries m ∷ h) legal i = fate_stands h legal.0 i
  fate_stands (Closed lane window m ∷ h) legal i = fate_stands h legal.0 i
  fate_stands (Replayed shard places m ∷ h) legal i = fate_stands h legal.0 i
  fate_stands (Shut m ∷ h) legal i = fate_stands h legal.0 i

-- all of it

found_told : (s : QueueSetting) (t : SaidLists) (g : List Said) → Tells t g → s.deletions ≡ t.deletions → (i : ℕ) → fate_only (deletion_said g i) ≡ found_fate s i
found_told s t g tells same i =
    ap fate_only (sym (tells.deletions i))
    ∙ alike (deletion_told t i)
    ∙ ap (λ (ds : List FoundDeletion). option_map (λ (f : FoundDeletion). f.fate) (find (λ (f : FoundDeletion). f.place == i) ds)) (sym same)
  where
    alike : (o : Option FoundDeletion) → fate_only (option_map deletion_of_found o) ≡ option_map (λ (f : FoundDeletion). f.fate) o
    alike None = refl
    alike (Some f) = refl

there_too : (o : Option KeptFate) → is_some o ≡ is_some (fate_only o)
there_too None = refl
there_too (Some k) = refl

pub recorded : {D : Type 0} (f : FilesState D) (s : QueueSetting) (h : List Entry) → AreLaws → LegalQueue s h → All (IsValidMessage s.config.kind) s.messages → length s.messages < 2 ^ 32 → Tells f.said (history (reverse f.pair.payloads)) → s.deletions ≡ f.said.deletions
    → DeletionsAreRecorded f s h
recorded f s h laws legal valid few tells same =
    let old = history (reverse f.pair.payloads) in
    let fates : (i : ℕ) → fate_only (deletion_said (said_after f s h) i) ≡ deletion_fate s h i =
    λ i. ap (λ (g : List Said). fate_only (deletion_said g i)) (history_said laws s h f.pair.payloads valid few legal) ∙ fate_stands laws s old (found_told s f.said old tells same) h legal i in
    record {
      fates = fates;
      deleted = λ i low. there_too (deletion_said (said_after f s h) i) ∙ (ap is_some (fates i) ∙ fated_is s h legal i low);
    }
