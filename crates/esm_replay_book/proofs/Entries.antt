-- Entries as a core tells them: the records that came, and the entries that were added.
use Rattle.std.proofs.Common.{◌≡◌, ℕ, ◌<◌, List, [], ◌∷◌, ◌++◌, length, map, take, reverse, refl, sym, ap, ap₂, ◌∙◌, subst, arith, append-nil, Option, Some, None}
use Rattle.std.specs.List.{cons_option}
use Rattle.std.proofs.lemmas.List.{map-append, reverse-append}
use Rattle.std.proofs.lemmas.List.Elements.{filter_map-append}
use Rattle.esm_model.specs.declared.book.Trouble.{Trouble}
use Rattle.esm_model.specs.declared.book.Trouble.TheVariants.{Disk, Dest, Changed}
use Rattle.esm_model.specs.Records.{Record}
use Rattle.esm_model.specs.declared.entry.Entry.{Entry}
use Rattle.esm_journal_record.specs.EntryPayload.{entry_payload}
use Rattle.esm_book.specs.Decided.{written_of}
use Rattle.esm_book.specs.State.{in_hand}
use Rattle.esm_replay_model.specs.ReplaySetting.{ReplaySetting}
use Rattle.esm_replay_core.specs.declared.decisions.ReplayEntry.{ReplayEntry}
use Rattle.esm_replay_core.specs.declared.decisions.ReplayEntry.TheVariants.{Came, Added}
use Rattle.esm_replay_core.specs.View.{ReplayView, setting_of}
use Rattle.esm_replay_core.specs.Told.{came_entries, added_entry, added_entries, history_of, owed_of, payload_in}
use Rattle.esm_replay_book.specs.Books.{payloads_in}

-- lists

pub reversed_back : {A : Type 0} (xs : List A) → reverse (reverse xs) ≡ xs
reversed_back [] = refl
reversed_back {A} (x ∷ xs) =
    ap reverse (reverse-append (x ∷ []) xs)
    ∙ (reverse-append (reverse xs) (x ∷ [])
    ∙ ap (λ (ys : List A). x ∷ ys) (reversed_back xs))

map-reverse : {A B : Type 0} (f : A → B) (xs : List A) → map f (reverse xs) ≡ reverse (map f xs)
map-reverse f [] = refl
map-reverse {A} {B} f (x ∷ xs) =
    ap (map f) (reverse-append (x ∷ []) xs)
    ∙ (map-append f (reverse xs) (x ∷ [])
    ∙ (ap (λ (ys : List B). ys ++ f x ∷ []) (map-reverse f xs)
    ∙ sym (reverse-append (f x ∷ []) (map f xs))))

pub both_none : {A : Type 0} (xs ys : List A) → xs ++ ys ≡ [] → (xs ≡ []) × (ys ≡ [])
both_none [] ys is = (refl, is)
both_none (x ∷ xs) ys is = absurd (cc)

-- what entries tell

abbrev pub records_in : List ReplayEntry → List Record
records_in [] = []
records_in (Came r ∷ xs) = r ∷ records_in xs
records_in (Added e payload ∷ xs) = records_in xs

abbrev pub entries_in : List ReplayEntry → List Entry
entries_in [] = []
entries_in (Came r ∷ xs) = entries_in xs
entries_in (Added e payload ∷ xs) = e ∷ entries_in xs

pub records-append : (xs ys : List ReplayEntry) → records_in (xs ++ ys) ≡ records_in xs ++ records_in ys
records-append [] ys = refl
records-append (Came r ∷ xs) ys = ap (λ (rs : List Record). r ∷ rs) (records-append xs ys)
records-append (Added e payload ∷ xs) ys = records-append xs ys

pub entries-append : (xs ys : List ReplayEntry) → entries_in (xs ++ ys) ≡ entries_in xs ++ entries_in ys
entries-append [] ys = refl
entries-append (Came r ∷ xs) ys = entries-append xs ys
entries-append (Added e payload ∷ xs) ys = ap (λ (es : List Entry). e ∷ es) (entries-append xs ys)

records-reverse : (xs : List ReplayEntry) → records_in (reverse xs) ≡ reverse (records_in xs)
records-reverse [] = refl
records-reverse (Came r ∷ xs) =
    ap records_in (reverse-append (Came r ∷ []) xs)
    ∙ (records-append (reverse xs) (Came r ∷ [])
    ∙ (ap (λ (rs : List Record). rs ++ r ∷ []) (records-reverse xs)
    ∙ sym (reverse-append (r ∷ []) (records_in xs))))
records-reverse (Added e payload ∷ xs) =
    ap records_in (reverse-append (Added e payload ∷ []) xs)
    ∙ (records-append (reverse xs) (Added e payload ∷ [])
    ∙ (append-nil (records_in (reverse xs))
    ∙ records-reverse xs))

entries-reverse : (xs : List ReplayEntry) → entries_in (reverse xs) ≡ reverse (entries_in xs)
entries-reverse [] = refl
entries-reverse (Added e payload ∷ xs) =
    ap entries_in (reverse-append (Added e payload ∷ []) xs)
    ∙ (entries-append (reverse xs) (Added e payload ∷ [])
    ∙ (ap (λ (es : List Entry). es ++ e ∷ []) (entries-reverse xs)
    ∙ sym (reverse-append (e ∷ []) (entries_in xs))))
entries-reverse (Came r ∷ xs) =
    ap entries_in (reverse-append (Came r ∷ []) xs)
    ∙ (entries-append (reverse xs) (Came r ∷ [])
    ∙ (append-nil (entries_in (reverse xs))
    ∙ entries-reverse xs))

pub records_came : (rs : List Record) → records_in (came_entries rs) ≡ rs
records_came [] = refl
records_came (r ∷ rs) = ap (λ (xs : List Record). r ∷ xs) (records_came rs)

pub entries_came : (rs : List Record) → entries_in (came_entries rs) ≡ []
entries_came [] = refl
entries_came (r ∷ rs) = entries_came rs

pub records_added : (s : ReplaySetting) (es : List Entry) → records_in (added_entries s es) ≡ []
records_added s [] = refl
records_added s (e ∷ es) = records_added s es

pub entries_added : (s : ReplaySetting) (es : List Entry) → entries_in (added_entries s es) ≡ es
entries_added s [] = refl
entries_added s (e ∷ es) = ap (λ (xs : List Entry). e ∷ xs) (entries_added s es)

-- of a core

history_records : (v : ReplayView) → records_in (history_of v) ≡ reverse v.records
history_records v =
    records-append (added_entries (setting_of v) v.past) (came_entries (reverse v.records))
    ∙ ap₂ (λ (xs ys : List Record). xs ++ ys) (records_added (setting_of v) v.past) (records_came (reverse v.records))

history_entries : (v : ReplayView) → entries_in (history_of v) ≡ v.past
history_entries v =
    entries-append (added_entries (setting_of v) v.past) (came_entries (reverse v.records))
    ∙ (ap₂ (λ (xs ys : List Entry). xs ++ ys) (entries_added (setting_of v) v.past) (entries_came (reverse v.records))
    ∙ append-nil v.past)

pub owed_records : (v : ReplayView) → records_in (owed_of v) ≡ v.coming
owed_records v =
    records-append (came_entries v.coming) (added_entries (setting_of v) v.owed)
    ∙ (ap₂ (λ (xs ys : List Record). xs ++ ys) (records_came v.coming) (records_added (setting_of v) v.owed)
    ∙ append-nil v.coming)

pub owed_entries : (v : ReplayView) → entries_in (owed_of v) ≡ v.owed
owed_entries v =
    entries-append (came_entries v.coming) (added_entries (setting_of v) v.owed)
    ∙ ap₂ (λ (xs ys : List Entry). xs ++ ys) (entries_came v.coming) (entries_added (setting_of v) v.owed)

pub none_coming : (v : ReplayView) → owed_of v ≡ [] → v.coming ≡ []
none_coming v none = sym (owed_records v) ∙ ap records_in none

pub none_owed : (v : ReplayView) → owed_of v ≡ [] → v.owed ≡ []
none_owed v none = sym (owed_entries v) ∙ ap entries_in none

-- entries that were put before a history

pub past_grows : (old new : ReplayView) (X : List ReplayEntry) → history_of new ≡ reverse X ++ history_of old → new.past ≡ reverse (entries_in X) ++ old.past
past_grows old new X is =
    sym (history_entries new)
    ∙ (ap entries_in is
    ∙ (entries-append (reverse X) (history_of old)
    ∙ ap₂ (λ (xs ys : List Entry). xs ++ ys) (entries-reverse X) (history_entries old)))

reversed_records : (old new : ReplayView) (X : List ReplayEntry) → history_of new ≡ reverse X ++ history_of old → reverse new.records ≡ reverse (records_in X) ++ reverse old.records
reversed_records old new X is =
    sym (history_records new)
    ∙ (ap records_in is
    ∙ (records-append (reverse X) (history_of old)
    ∙ ap₂ (λ (xs ys : List Record). xs ++ ys) (records-reverse X) (history_records old)))

pub records_grow : (old new : ReplayView) (X : List ReplayEntry) → history_of new ≡ reverse X ++ history_of old → new.records ≡ old.records ++ records_in X
records_grow old new X is =
    sym (reversed_back new.records)
    ∙ (ap reverse (reversed_records old new X is)
    ∙ (reverse-append (reverse (records_in X)) (reverse old.records)
    ∙ ap₂ (λ (xs ys : List Record). xs ++ ys) (reversed_back old.records) (reversed_back (records_in X))))

-- what is written

pub written_came : (rs : List Record) → written_of payload_in (came_entries rs) ≡ []
written_came [] = refl
written_came (r ∷ rs) = written_came rs

pub written_added : (s : ReplaySetting) (es : List Entry) → written_of payload_in (added_entries s es) ≡ payloads_in s es
written_added s [] = refl
written_added s (e ∷ es) = ap (cons_option (entry_payload s.base e)) (written_added s es)

pub written-append : (xs ys : List ReplayEntry) → written_of payload_in (xs ++ ys) ≡ written_of payload_in xs ++ written_of payload_in ys
written-append xs ys = filter_map-append payload_in xs ys

pub payloads-append : (s : ReplaySetting) (xs ys : List Entry) → payloads_in s (xs ++ ys) ≡ payloads_in s xs ++ payloads_in s ys
payloads-append s xs ys = filter_map-append (entry_payload s.base) xs ys

-- of a whole history, oldest entry first
pub written_history : (v : ReplayView) → written_of payload_in (reverse (history_of v)) ≡ payloads_in (setting_of v) (reverse v.past)
written_history v =
    let s = setting_of v in
    ap (written_of payload_in) (reverse-append (added_entries s v.past) (came_entries (reverse v.records)))
    ∙ (written-append (reverse (came_entries (reverse v.records))) (reverse (added_entries s v.past))
    ∙ ap₂ (λ (xs ys : List (List ℕ)). xs ++ ys)
    (ap (written_of payload_in) (sym (map-reverse (λ (r : Record). Came r) (reverse v.records))) ∙ written_came (reverse (reverse v.records)))
    (ap (written_of payload_in) (sym (map-reverse (added_entry s) v.past)) ∙ written_added s (reverse v.past)))

-- the first of entries of which nothing is written

first_none : (x : ReplayEntry) (xs : List ReplayEntry) (written : Option (List ℕ)) → payload_in x ≡ written → cons_option written (written_of payload_in xs) ≡ [] → written_of payload_in (x ∷ []) ≡ []
first_none x xs None is none = ap (λ (o : Option (List ℕ)). cons_option o []) is
first_none x xs (Some payload) is none = absurd (cc)

first_unwritten : (xs : List ReplayEntry) → written_of payload_in xs ≡ [] → written_of payload_in (take 1 xs) ≡ []
first_unwritten [] none = refl
first_unwritten (x ∷ xs) none = first_none x xs (payload_in x) refl none

-- where nothing is written of all of them, nothing was being written
pub none_writing : (X Y : List ReplayEntry) → written_of payload_in (X ++ Y) ≡ [] → 0 < length (written_of payload_in (take 1 Y)) → ⊥
none_writing X Y none writing =
    let rest = (both_none (written_of payload_in X) (written_of payload_in Y) (sym (written-append X Y) ∙ none)).1 in
    let short : length (written_of payload_in (take 1 Y)) ≡ 0 = ap (λ (texts : List (List ℕ)). length texts) (first_unwritten Y rest) in
    omega (arith, writing, short)

-- entries that are added, in two parts

pub parts_of : (s : ReplaySetting) (X Y : List ReplayEntry) (es : List Entry) → X ++ Y ≡ added_entries s es → (X ≡ added_entries s (entries_in X)) × (Y ≡ added_entries s (entries_in Y))
parts_of s [] Y es is = (refl, is ∙ ap (added_entries s) (sym (entries_added s es) ∙ ap entries_in (sym is)))
parts_of s (x ∷ X) Y [] is = absurd (cc)
parts_of s (x ∷ X) Y (e ∷ es) is =
    let head : added_entry s e ≡ x = cc in
    let tail : X ++ Y ≡ added_entries s es = cc in
    let rest = parts_of s X Y es tail in
    (subst (λ (y : ReplayEntry). y ∷ X ≡ added_entries s (entries_in (y ∷ X))) head (ap (λ (xs : List ReplayEntry). added_entry s e ∷ xs) rest.0), rest.1)

pub take-added : (s : ReplaySetting) (es : List Entry) → take 1 (added_entries s es) ≡ added_entries s (take 1 es)
take-added s [] = refl
take-added s (e ∷ es) = refl

-- what is in hand

hand_added : (t : Option Trouble) (s : ReplaySetting) (es : List Entry) → in_hand t (added_entries s es) ≡ added_entries s (in_hand t es)
hand_added None s es = refl
hand_added (Some Disk) s es = take-added s es
hand_added (Some Dest) s es = refl
hand_added (Some (Changed change)) s es = refl

pub written_hand : (t : Option Trouble) (v : ReplayView) → v.coming ≡ [] → written_of payload_in (in_hand t (owed_of v)) ≡ payloads_in (setting_of v) (in_hand t v.owed)
written_hand t v none =
    let s = setting_of v in
    ap (λ (rs : List Record). written_of payload_in (in_hand t (came_entries rs ++ added_entries s v.owed))) none
    ∙ (ap (written_of payload_in) (hand_added t s v.owed)
    ∙ written_added s (in_hand t v.owed))
