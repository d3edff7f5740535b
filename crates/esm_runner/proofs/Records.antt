-- As many records came to a book as its setting has, and they are few; so each entry of its history may be said.
use Rattle.std.proofs.Common.{◌≡◌, ◌∙◌, ◌≤◌, ℕ, List, [], ◌∷◌, ◌++◌, map, length, ap, arith, refl, subst, sym}
use Rattle.std.specs.Prelude.{◌==◌, not, reverse, IfSome}
use Rattle.std.specs.List.{All}
use Rattle.std.proofs.lemmas.List.{length-append, reverse-reverse}
use Rattle.std.proofs.lemmas.List.Filters.{length-filter_both}
use Rattle.esm_model.specs.Records.{Record}
use Rattle.esm_model.specs.declared.entry.Entry.{Entry}
use Rattle.esm_model.specs.declared.entry.Entry.TheVariants.{Came, Began, Ended, Gave, Tried, Closed, Replayed, Shut}
use Rattle.esm_model.specs.declared.setup.Told.{Told}
use Rattle.esm_model.specs.Setting.{Setting, Stream, records_in, records_of}
use Rattle.esm_model.specs.Entries.{came_count}
use Rattle.esm_model.specs.Books.{IsOfStream, entries_told, records_told, streams_told}
use Rattle.esm_model.specs.Step.{Legal}
use Rattle.esm_model.proofs.BookLaws.{count_told}
use Rattle.esm_model.proofs.Steps.{came_grows}
use Rattle.esm_model.proofs.TellingFacts.{records_in_told}
use Rattle.esm_book.specs.State.{in_hand}
use Rattle.esm_journal_record.specs.EntryPayload.{AllMayBeSaid, entry_said}
use Rattle.esm_journal_record.specs.Payload.{IsSaid}
use Rattle.esm_record_bounds.specs.Bounds.{AreCountedInFourBytes, AreWithinBounds}
use Rattle.esm_ingest.specs.Coming.{of_shard}
use Rattle.esm_stream_core.specs.CoreView.{CoreView, full_setting}
use Rattle.esm_stream_core.specs.Told.{told_entries, told_of}
use Rattle.esm_journal.specs.State.{JournalState}
use Rattle.esm_model.specs.declared.item.Item.{Item}
use Rattle.esm_model.specs.declared.item.Item.TheVariants.{Queue, Stream as StreamItem}
use Rattle.esm_stream_book.specs.Books.{BookState}
use Rattle.esm_stream_book.specs.Keeping.{IsSound}
use Rattle.esm_runner.specs.Coming.{SomeCame, records_in_items}
use Rattle.esm_runner.specs.Laws.{AreLaws}
use Rattle.esm_runner.proofs.Payloads.{coming_extends, own_legal}

entries_same : (s : Setting) (es : List Entry) → map (λ (t : Told). t.entry) (told_entries s es) ≡ es
entries_same s [] = refl
entries_same s (e ∷ es) = ap (λ (xs : List Entry). e ∷ xs) (entries_same s es)

entries_of : (v : CoreView) → entries_told (told_of v) ≡ v.past
entries_of v = ap reverse (entries_same (full_setting v) (reverse v.past)) ∙ reverse-reverse v.past

pub came_all : (v : CoreView) → v.setting.streams ≡ streams_told (told_of v) → All IsOfStream (told_of v) → (n : ℕ) → came_count v.past n ≡ length (records_of v.setting n)
came_all v records of_stream n =
    let counted : came_count (entries_told (told_of v)) n ≡ length (records_told n (told_of v)) = count_told (told_of v) n of_stream in
    let stand : records_in v.setting.streams n ≡ records_told n (told_of v) = ap (λ (ts : List Stream). records_in ts n) records ∙ records_in_told (told_of v) n in
    sym (ap (λ (h : List Entry). came_count h n) (entries_of v)) ∙ (counted ∙ ap length (sym stand))

-- the records that came are no more than the items of the input

records_few : (xs : List Item) → length (records_in_items xs) ≤ length xs
records_few [] = omega arith
records_few (StreamItem r ∷ xs) = let more = records_few xs in omega (arith, more)
records_few (Queue m ∷ xs) = let more = records_few xs in omega (arith, more)

of_shard_few : (n : ℕ) (rs : List Record) → length (of_shard n rs) ≤ length rs
of_shard_few n rs =
    let both = length-filter_both (λ (r : Record). r.shard == n) (λ (r : Record). not (r.shard == n)) (λ r. refl) rs in
    omega (arith, both)

some_few : {D : Type 0} (b : BookState D (JournalState D)) (xs : List Item) → SomeCame b (records_in_items xs) → (n : ℕ) → length (records_of b.core.setting n) ≤ length xs
some_few b xs came n =
    let records = records_in_items xs in
    let some = came n in
    let long : length (of_shard n records) ≡ length (records_of b.core.setting n ++ some.0) = ap length some.1 in
    let both = length-append (records_of b.core.setting n) some.0 in
    let few = of_shard_few n records in
    let fewer = records_few xs in
    omega (arith, long, both, few, fewer)

pub counted : {D : Type 0} (b : BookState D (JournalState D)) (xs : List Item) → IsSound b → length xs ≤ 1000000 → SomeCame b (records_in_items xs) → AreCountedInFourBytes b.core.past
counted b xs sound few came n =
    let all = came_all b.core sound.records sound.of_stream n in
    let some = some_few b xs came n in
    omega (arith, all, some, few)

-- the bounds of all that came or is coming are those of what came
own_bounds : (v : CoreView) → AreWithinBounds (full_setting v) → AreWithinBounds v.setting
own_bounds v all = record {
  own_shard = λ n i r at. all.own_shard n i r (coming_extends v.setting.streams v.coming n i r at);
  valid = λ n i r at. all.valid n i r (coming_extends v.setting.streams v.coming n i r at);
  states = λ n w text is. all.states n w text is;
}

pub may_be_said : {D : Type 0} (b : BookState D (JournalState D)) → AreLaws → IsSound b → AreWithinBounds (full_setting b.core) → AreCountedInFourBytes b.core.past → AllMayBeSaid b.core.setting b.core.past
may_be_said b laws sound bounds few = laws.said b.core.setting b.core.past (own_bounds b.core bounds) (own_legal b.core.setting b.core.past sound.legal) few

-- of the entry in hand

counted_before : (later before : List Entry) (n : ℕ) → came_count before n ≤ came_count (later ++ before) n
counted_before [] before n = omega arith
counted_before (e ∷ later) before n =
    let less = counted_before later before n in
    let grows = came_grows e (later ++ before) n in
    omega (arith, less, grows)

one_said : (s : Setting) (h : List Entry) (e : Entry) → AreLaws → AreWithinBounds s → AreCountedInFourBytes h → Legal s (e ∷ h) → IfSome (entry_said s e) IsSaid
one_said s h (Came shard first count moment) laws bounds few legal = tt
one_said s h (Began lane places closing moment) laws bounds few legal = tt
one_said s h (Ended lane reply moment) laws bounds few legal = tt
one_said s h (Gave by shard places fate line state moment) laws bounds few legal = (laws.said s (Gave by shard places fate line state moment ∷ h) bounds legal few).1
one_said s h (Tried lane places closing tries moment) laws bounds few legal = (laws.said s (Tried lane places closing tries moment ∷ h) bounds legal few).1
one_said s h (Closed lane window moment) laws bounds few legal = (laws.said s (Closed lane window moment ∷ h) bounds legal few).1
one_said s h (Replayed shard places moment) laws bounds few legal = (laws.said s (Replayed shard places moment ∷ h) bounds legal few).1
one_said s h (Shut moment) laws bounds few legal = tt

pub hand_said : {D : Type 0} (b : BookState D (JournalState D)) → AreLaws → IsSound b → AreWithinBounds (full_setting b.core) → AreCountedInFourBytes b.core.past
    → (e : Entry) → in_hand b.trouble b.core.owed ≡ e ∷ [] → IfSome (entry_said b.core.setting e) IsSaid
hand_said b laws sound bounds few e some =
    let to = sound.hand_follows e some in
    let all : AreCountedInFourBytes (to.later ++ to.before) = subst AreCountedInFourBytes to.split few in
    one_said b.core.setting to.before e laws (own_bounds b.core bounds) (λ n. (let less = counted_before to.later to.before n in let fits = all n in omega (arith, less, fits)))
    (own_legal b.core.setting (e ∷ to.before) to.follows)
