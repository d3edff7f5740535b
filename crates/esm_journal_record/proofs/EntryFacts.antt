-- Payloads of entries and of histories over lists of records that go on.
use Rattle.std.proofs.Common.{◌≡◌, ℕ, zero, suc, ◌<◌, ◌≤◌, List, [], ◌∷◌, ◌++◌, length, map, refl, sym, ap, ◌∙◌, inl, inr, Option, Some, None, arith}
use Rattle.std.specs.Prelude.{filter_map, reverse, slice_index_or}
use Rattle.std.specs.List.{cons_option}
use Rattle.std.proofs.lemmas.List.{append-nil, reverse-reverse}
use Rattle.std.proofs.lemmas.List.Elements.{filter_map-append}
use Rattle.std.proofs.lemmas.Grind.{reverse_onto}
use Rattle.std.proofs.lemmas.Option.{slice_get_cases}
use Rattle.esm_model.specs.Records.{Record}
use Rattle.esm_model.specs.declared.entry.Entry.{Entry}
use Rattle.esm_model.specs.declared.entry.Entry.TheVariants.{Came, Began, Ended, Gave, Tried, Closed, Replayed, Shut}
use Rattle.esm_model.specs.declared.setup.Told.{Told}
use Rattle.esm_model.specs.declared.setup.Setup.{Setup}
use Rattle.esm_model.specs.Entries.{came_count}
use Rattle.esm_model.specs.Step.{Legal}
use Rattle.esm_model.specs.Kept.{IsLegal}
use Rattle.esm_model.specs.Books.{entries_told, streams_told, setting_told, HaveCome, NamesCame, stream_may_follow}
use Rattle.esm_model.proofs.Lists.{In, In-here, In-there}
use Rattle.esm_model.proofs.Records.{came_within}
use Rattle.esm_model.proofs.NamedPlaces.{names_came}
use Rattle.esm_model.proofs.TellingFacts.{told_extends}
use Rattle.esm_model.proofs.BookLaws.{kept_legal}
use Rattle.esm_model.specs.Setting.{Setting, Stream, over, Extends, records_of, record_at, records_at, sequences_at}
use Rattle.esm_journal_record.specs.declared.said.Said.TheVariants as said
use Rattle.esm_journal_record.specs.Payload.{payload_of}
use Rattle.esm_journal_record.specs.EntryPayload.{entry_payload, history_payloads, payloads_told, StandIn, NamesStand}

record_stays : (s : Setting) (after : List Stream) → Extends s.streams after → (n i : ℕ) → i < length (records_of s n) → record_at (over s after) n i ≡ record_at s n i
record_stays s after extends n i within =
    elim (slice_get_cases (records_of s n) i).1 [
      | inl there ↦ extends n i there.0 there.2 ∙ sym there.2
      | inr past ↦ absurd (omega (arith, within, past.0))
    ]

records_stay : (s : Setting) (after : List Stream) → Extends s.streams after → (n : ℕ) (places : List ℕ) → StandIn s n places → records_at (over s after) n places ≡ records_at s n places
records_stay s after extends n [] stand = refl
records_stay s after extends n (i ∷ places) stand =
    ap (λ o. cons_option o (records_at (over s after) n places)) (record_stays s after extends n i (stand 0 i (omega arith)))
    ∙ ap (cons_option (record_at s n i)) (records_stay s after extends n places (λ k d within. stand (suc k) d (omega (arith, within))))

sequences_stay : (s : Setting) (after : List Stream) → Extends s.streams after → (n : ℕ) (places : List ℕ) → StandIn s n places → sequences_at (over s after) n places ≡ sequences_at s n places
sequences_stay s after extends n places stand = ap (map (λ (r : Record). r.seq)) (records_stay s after extends n places stand)

pub payload_stays : (s : Setting) (after : List Stream) (e : Entry) → Extends s.streams after → NamesStand s e → entry_payload (over s after) e ≡ entry_payload s e
payload_stays s after (Gave by n places fate line state m) extends stand = ap (λ texts. Some (payload_of (said.Fates n fate m state places texts))) (sequences_stay s after extends n places stand)
payload_stays s after (Tried lane places None tries m) extends stand = ap (λ texts. Some (payload_of (said.Tried lane.shard m tries places texts))) (sequences_stay s after extends lane.shard places stand)
payload_stays s after (Tried lane places (Some window) tries m) extends stand = refl
payload_stays s after (Closed lane window m) extends stand = refl
payload_stays s after (Replayed n places m) extends stand = ap (λ texts. Some (payload_of (said.Replayed n m places texts))) (sequences_stay s after extends n places stand)
payload_stays s after (Came n first count m) extends stand = refl
payload_stays s after (Began lane places closing m) extends stand = refl
payload_stays s after (Ended lane reply m) extends stand = refl
payload_stays s after (Shut m) extends stand = refl

-- legal histories

named_stand : (s : Setting) (h : List Entry) → Legal s h → (n : ℕ) (places : List ℕ) → HaveCome h n places → StandIn s n places
named_stand s h legal n places came k d within =
    let there : slice_index_or places k d < came_count h n = came (slice_index_or places k d) (element_In places k d within) in
    let all : came_count h n ≤ length (records_of s n) = came_within s h legal n in
    omega (arith, there, all)
  where
    element_In : (xs : List ℕ) (k d : ℕ) → k < length xs → In xs (slice_index_or xs k d)
    element_In [] k d within = absurd (omega (arith, within))
    element_In (x ∷ xs) zero d within = In-here x xs x refl
    element_In (x ∷ xs) (suc k) d within = In-there x xs (slice_index_or xs k d) (element_In xs k d (omega (arith, within)))

names_stand : (s : Setting) (h : List Entry) (e : Entry) → Legal s h → NamesCame h e → NamesStand s e
names_stand s h (Gave by n places fate line state m) legal came = named_stand s h legal n places came
names_stand s h (Tried lane places closing tries m) legal came = named_stand s h legal lane.shard places came
names_stand s h (Replayed n places m) legal came = named_stand s h legal n places came
names_stand s h (Began lane places closing m) legal came = tt
names_stand s h (Came n first count m) legal came = tt
names_stand s h (Ended lane reply m) legal came = tt
names_stand s h (Closed lane window m) legal came = tt
names_stand s h (Shut m) legal came = tt

kept_stay : (s : Setting) (after : List Stream) (h : List Entry) → Extends s.streams after → Legal s h → filter_map (entry_payload (over s after)) h ≡ filter_map (entry_payload s) h
kept_stay s after [] extends legal = refl
kept_stay s after (e ∷ h) extends legal =
    ap (λ o. cons_option o (filter_map (entry_payload (over s after)) h)) (payload_stays s after e extends (names_stand s h e legal.0 (names_came s h e legal)))
    ∙ ap (cons_option (entry_payload s e)) (kept_stay s after h extends legal.0)

pub reversed : (f : Entry → Option (List ℕ)) (h : List Entry) → filter_map f (reverse h) ≡ reverse (filter_map f h)
reversed f [] = refl
reversed f (e ∷ h) =
    ap (filter_map f) (reverse_onto h e [])
    ∙ filter_map-append f (reverse h) (e ∷ [])
    ∙ ap (λ xs. xs ++ cons_option (f e) []) (reversed f h)
    ∙ one (f e) (filter_map f h)
  where
    one : (o : Option (List ℕ)) (xs : List (List ℕ)) → reverse xs ++ cons_option o [] ≡ reverse (cons_option o xs)
    one None xs = append-nil (reverse xs)
    one (Some x) xs = sym (reverse_onto xs x [])

pub payloads_stay : (s : Setting) (after : List Stream) (h : List Entry) → Extends s.streams after → Legal s h → history_payloads (over s after) h ≡ history_payloads s h
payloads_stay s after h extends legal =
    reversed (entry_payload (over s after)) h ∙ ap reverse (kept_stay s after h extends legal) ∙ sym (reversed (entry_payload s) h)

-- histories of threads

told_map : (s : Setting) (history : List Told) → filter_map (entry_payload s) (map (λ (t : Told). t.entry) history) ≡ filter_map (λ (t : Told). entry_payload s t.entry) history
told_map s [] = refl
told_map s (t ∷ history) = ap (cons_option (entry_payload s t.entry)) (told_map s history)

pub payloads_are_told : (setup : Setup) (history : List Told) → history_payloads (setting_told setup history) (entries_told history) ≡ payloads_told setup history
payloads_are_told setup history = ap (filter_map (entry_payload (setting_told setup history))) (reverse-reverse (map (λ (t : Told). t.entry) history)) ∙ told_map (setting_told setup history) history

-- what was told stays, and each entry that follows adds its payload over the longer history
pub payloads_go_on : (setup : Setup) (history more : List Told) → IsLegal (stream_may_follow setup) history → payloads_told setup (history ++ more) ≡ payloads_told setup history ++ filter_map (λ (t : Told). entry_payload (setting_told setup (history ++ more)) t.entry) more
payloads_go_on setup history more kept =
    let now = setting_told setup history in
    let later = setting_told setup (history ++ more) in
    filter_map-append (λ (t : Told). entry_payload (setting_told setup (history ++ more)) t.entry) history more
    ∙ ap (λ ps. ps ++ filter_map (λ (t : Told). entry_payload (setting_told setup (history ++ more)) t.entry) more)
    (sym (told_map later history)
    ∙ sym (ap (filter_map (entry_payload later)) (reverse-reverse (map (λ (t : Told). t.entry) history)))
    ∙ payloads_stay now (streams_told (history ++ more)) (entries_told history) (told_extends history more) (kept_legal setup history (streams_told history) kept (λ n i r at. at))
    ∙ payloads_are_told setup history)
