-- A core's entries as they are told: the same over more records; and what its calls decide by what is told.
use Rattle.std.proofs.Common.{◌≡◌, ℕ, zero, suc, ◌+◌, ◌<◌, ◌≤◌, List, [], ◌∷◌, length, take, drop, refl, sym, ap, ap₂, ◌∙◌, subst, arith, Option, Some, None}
use Rattle.std.specs.Prelude.{filter_map, slice_get, slice_index_or}
use Rattle.std.specs.List.{cons_option}
use Rattle.esm_model.specs.Records.{Record}
use Rattle.esm_model.specs.declared.entry.Entry.{Entry}
use Rattle.esm_model.specs.declared.entry.Entry.TheVariants.{Came, Began, Ended, Gave, Tried, Closed, Replayed, Shut}
use Rattle.esm_model.specs.Setting.{Setting, Stream, Extends, over, records_of}
use Rattle.esm_model.specs.Entries.{came_count}
use Rattle.esm_model.specs.Step.{Legal}
use Rattle.esm_model.specs.Books.{entry_line, HaveCome, NamesCame}
use Rattle.esm_model.proofs.Lists.{In, In-here, In-there}
use Rattle.esm_model.proofs.Records.{came_within}
use Rattle.esm_model.proofs.NamedPlaces.{names_came}
use Rattle.esm_journal_record.specs.EntryPayload.{entry_payload, StandIn, NamesStand}
use Rattle.esm_journal_record.proofs.EntryFacts.{payload_stays}
use Rattle.esm_ledger.specs.Ledger.{LegalOver}
use Rattle.esm_book.specs.Decided.{written_of}
use Rattle.esm_stream_core.specs.CoreView.{CoreView, with_coming, setting_with, LegalAhead, SettledAhead, lines_of, owing, forgotten}
use Rattle.esm_stream_core.specs.declared.decisions.StreamEntry.{StreamEntry}
use Rattle.esm_stream_core.specs.Told.{covered, stream_entry, stream_entries, history_of, owed_of, Adds}
use Rattle.esm_stream_core.proofs.Settling.{coming_extends}

-- over more records

front_stays : (xs ys : List Record) → ((i : ℕ) (r : Record) → slice_get xs i ≡ Some r → slice_get ys i ≡ Some r) → (first count : ℕ) → first + count ≤ length xs → take count (drop first ys) ≡ take count (drop first xs)
front_stays xs ys extends first zero low = refl
front_stays [] ys extends first (suc count) low = absurd (omega (arith, low))
front_stays (x ∷ xs) [] extends first (suc count) low =
    let at : ◌≡◌ {A = Option Record} None (Some x) = extends 0 x refl in absurd (cc)
front_stays (x ∷ xs) (y ∷ ys) extends zero (suc count) low =
    let at : ◌≡◌ {A = Option Record} (Some y) (Some x) = extends 0 x refl in
    let same : y ≡ x = cc in
    ap₂ (λ (r : Record) (rs : List Record). r ∷ rs) same (front_stays xs ys (λ i r got. extends (suc i) r got) zero count (omega (arith, low)))
front_stays (x ∷ xs) (y ∷ ys) extends (suc first) (suc count) low = front_stays xs ys (λ i r got. extends (suc i) r got) first (suc count) (omega (arith, low))

covered_stays : (s : Setting) (after : List Stream) (h : List Entry) (e : Entry) → Extends s.streams after → Legal s (e ∷ h) → covered (over s after) e ≡ covered s e
covered_stays s after h (Came n first count m) extends legal = front_stays (records_of s n) (records_of (over s after) n) (extends n) first count legal.1.1.within
covered_stays s after h (Began lane places closing m) extends legal = refl
covered_stays s after h (Ended lane reply m) extends legal = refl
covered_stays s after h (Gave by n places fate line state m) extends legal = refl
covered_stays s after h (Tried lane places closing tries m) extends legal = refl
covered_stays s after h (Closed lane window m) extends legal = refl
covered_stays s after h (Replayed n places m) extends legal = refl
covered_stays s after h (Shut m) extends legal = refl

element_In : (xs : List ℕ) (k d : ℕ) → k < length xs → In xs (slice_index_or xs k d)
element_In [] k d within = absurd (omega (arith, within))
element_In (x ∷ xs) zero d within = In-here x xs x refl
element_In (x ∷ xs) (suc k) d within = In-there x xs (slice_index_or xs k d) (element_In xs k d (omega (arith, within)))

named_stand : (s : Setting) (h : List Entry) → Legal s h → (n : ℕ) (places : List ℕ) → HaveCome h n places → StandIn s n places
named_stand s h legal n places came k d within =
    let there : slice_index_or places k d < came_count h n = came (slice_index_or places k d) (element_In places k d within) in
    let all : came_count h n ≤ length (records_of s n) = came_within s h legal n in
    omega (arith, there, all)

names_stand : (s : Setting) (h : List Entry) (e : Entry) → Legal s h → NamesCame h e → NamesStand s e
names_stand s h (Gave by n places fate line state m) legal came = named_stand s h legal n places came
names_stand s h (Tried lane places closing tries m) legal came = named_stand s h legal lane.shard places came
names_stand s h (Replayed n places m) legal came = named_stand s h legal n places came
names_stand s h (Began lane places closing m) legal came = tt
names_stand s h (Came n first count m) legal came = tt
names_stand s h (Ended lane reply m) legal came = tt
names_stand s h (Closed lane window m) legal came = tt
names_stand s h (Shut m) legal came = tt

entry_stays : (s : Setting) (after : List Stream) (h : List Entry) (e : Entry) → Extends s.streams after → Legal s (e ∷ h) → stream_entry (over s after) e ≡ stream_entry s e
entry_stays s after h e extends legal =
    ap₂ (λ (rs : List Record) (text : Option (List ℕ)). record { told = record { entry = e; records = rs; messages = [] }; payload = text; line = entry_line e })
    (covered_stays s after h e extends legal) (payload_stays s after e extends (names_stand s h e legal.0 (names_came s h e legal)))

entries_stay : (s : Setting) (after : List Stream) (h : List Entry) → Extends s.streams after → Legal s h → stream_entries (over s after) h ≡ stream_entries s h
entries_stay s after [] extends legal = refl
entries_stay s after (e ∷ h) extends legal = ap₂ (λ (x : StreamEntry) (xs : List StreamEntry). x ∷ xs) (entry_stays s after h e extends legal) (entries_stay s after h extends legal.0)

-- the history is told as before

none_was : (v w : CoreView) → forgotten w ≡ v → v.coming ≡ []
none_was v w undone = sym (ap (λ (u : CoreView). u.coming) undone)

-- where records come
pub told_coming : (v w : CoreView) (coming : List Stream) (es : List Entry) → w ≡ owing v coming es → forgotten w ≡ v → LegalOver v.setting v.past → history_of w ≡ history_of v
told_coming v w coming es is undone legal =
    ap history_of is
    ∙ (entries_stay v.setting (with_coming v.setting.streams coming) v.past (coming_extends v.setting.streams coming) (legal v.setting.streams (λ n i r at. at))
    ∙ ap (λ (parts : List Stream). stream_entries (setting_with v.setting parts) v.past) (sym (none_was v w undone)))

-- where none come
pub told_alone : (v w : CoreView) (es : List Entry) → w ≡ owing v [] es → forgotten w ≡ v → history_of w ≡ history_of v
told_alone v w es is undone = ap history_of is ∙ ap (λ (parts : List Stream). stream_entries (setting_with v.setting parts) v.past) (sym (none_was v w undone))

-- what is added

pub adds_of : (v w : CoreView) (coming : List Stream) (es : List Entry) → w ≡ owing v coming es → LegalAhead w → SettledAhead w → Adds v coming es (owed_of w)
adds_of v w coming es is legal settled = record { entries_are = ap owed_of is; legal = subst LegalAhead is legal; settled = subst SettledAhead is settled }

-- where nothing is told nothing is owed
pub none_owed : (s : Setting) (es : List Entry) → stream_entries s es ≡ [] → es ≡ []
none_owed s [] is = refl
none_owed s (e ∷ es) is = absurd (cc)

-- what is written of entries

abbrev pub payload_in : StreamEntry → Option (List ℕ)
payload_in e = e.payload

abbrev pub line_in : StreamEntry → Option (List ℕ)
line_in e = e.line

pub payloads_told : (s : Setting) (es : List Entry) → written_of payload_in (stream_entries s es) ≡ filter_map (entry_payload s) es
payloads_told s [] = refl
payloads_told s (e ∷ es) = ap (λ (bytes : List (List ℕ)). cons_option (entry_payload s e) bytes) (payloads_told s es)

pub lines_told : (s : Setting) (es : List Entry) → written_of line_in (stream_entries s es) ≡ lines_of es
lines_told s [] = refl
lines_told s (e ∷ es) = ap (λ (bytes : List (List ℕ)). cons_option (entry_line e) bytes) (lines_told s es)
