-- Entries as they are told, and lists that are joined.
use Rattle.std.proofs.Common.{◌≡◌, List, [], ◌∷◌, ◌++◌, length, map, take, reverse, refl, sym, ap, ap₂, ◌∙◌, arith}
use Rattle.std.proofs.lemmas.List.{map-append, reverse-append, length-map}
use Rattle.esm_model.specs.Setting.{Setting}
use Rattle.esm_model.specs.declared.entry.Entry.{Entry}
use Rattle.esm_model.specs.declared.setup.Told.{Told}
use Rattle.esm_stream_core.specs.declared.decisions.StreamEntry.{StreamEntry}
use Rattle.esm_stream_core.specs.CoreView.{CoreView, full_setting}
use Rattle.esm_stream_core.specs.Told.{stream_entry, stream_entries, history_of, owed_of, told_entries, told_of}

-- lists

pub map-reverse : {A B : Type 0} (f : A → B) (xs : List A) → map f (reverse xs) ≡ reverse (map f xs)
map-reverse f [] = refl
map-reverse {A} {B} f (x ∷ xs) =
    ap (map f) (reverse-append (x ∷ []) xs)
    ∙ (map-append f (reverse xs) (x ∷ [])
    ∙ (ap (λ (ys : List B). ys ++ f x ∷ []) (map-reverse f xs)
    ∙ sym (reverse-append (f x ∷ []) (map f xs))))

-- two lists that are joined alike, the fronts as long as one another
pub joined_alike : {A : Type 0} (a b c d : List A) → a ++ b ≡ c ++ d → length a ≡ length c → (a ≡ c) × (b ≡ d)
joined_alike [] b [] d is same = (refl, is)
joined_alike [] b (y ∷ c) d is same = absurd (omega arith)
joined_alike (x ∷ a) b [] d is same = absurd (omega arith)
joined_alike {A} (x ∷ a) b (y ∷ c) d is same =
    let heads : x ≡ y = cc in
    let tails : a ++ b ≡ c ++ d = cc in
    let rest = joined_alike a b c d tails (omega arith) in
    (ap₂ (λ (z : A) (zs : List A). z ∷ zs) heads rest.0, rest.1)

pub both_none : {A : Type 0} (xs ys : List A) → xs ++ ys ≡ [] → (xs ≡ []) × (ys ≡ [])
both_none [] ys is = (refl, is)
both_none (x ∷ xs) ys is = absurd (cc)

-- entries

abbrev pub entry_in : StreamEntry → Entry
entry_in x = x.told.entry

abbrev pub told_in : StreamEntry → Told
told_in x = x.told

pub entries_in : (s : Setting) (es : List Entry) → map entry_in (stream_entries s es) ≡ es
entries_in s [] = refl
entries_in s (e ∷ es) = ap (λ (xs : List Entry). e ∷ xs) (entries_in s es)

-- the history of a core, oldest entry first
told_reversed : (v : CoreView) → told_of v ≡ map told_in (reverse (history_of v))
told_reversed v = ap (map told_in) (map-reverse (stream_entry (full_setting v)) v.past)

-- entries that were put before a history
pub past_grows : (old new : CoreView) (s : Setting) (es : List Entry) (X : List StreamEntry) → history_of new ≡ reverse X ++ history_of old → X ≡ stream_entries s es → new.past ≡ reverse es ++ old.past
past_grows old new s es X is added =
    sym (entries_in (full_setting new) new.past)
    ∙ (ap (map entry_in) is
    ∙ (map-append entry_in (reverse X) (history_of old)
    ∙ ap₂ (λ (xs ys : List Entry). xs ++ ys)
    (map-reverse entry_in X ∙ ap reverse (ap (map entry_in) added ∙ entries_in s es))
    (entries_in (full_setting old) old.past)))

pub reversed_back : {A : Type 0} (xs : List A) → reverse (reverse xs) ≡ xs
reversed_back [] = refl
reversed_back {A} (x ∷ xs) =
    ap reverse (reverse-append (x ∷ []) xs)
    ∙ (reverse-append (reverse xs) (x ∷ [])
    ∙ ap (λ (ys : List A). x ∷ ys) (reversed_back xs))

pub told_grows : (old new : CoreView) (s : Setting) (es : List Entry) (X : List StreamEntry) → history_of new ≡ reverse X ++ history_of old → X ≡ stream_entries s es → told_of new ≡ told_of old ++ told_entries s es
told_grows old new s es X is added =
    told_reversed new
    ∙ (ap (λ (h : List StreamEntry). map told_in (reverse h)) is
    ∙ (ap (map told_in) (reverse-append (reverse X) (history_of old))
    ∙ (map-append told_in (reverse (history_of old)) (reverse (reverse X))
    ∙ ap₂ (λ (xs ys : List Told). xs ++ ys) (sym (told_reversed old))
    (ap (map told_in) (reversed_back X ∙ added)))))

-- what is owed
pub owed_entries : (v : CoreView) → map entry_in (owed_of v) ≡ v.owed
owed_entries v = entries_in (full_setting v) v.owed

-- a list of entries in two parts

pub parted : (s : Setting) (es : List Entry) (X Y : List StreamEntry) → X ++ Y ≡ stream_entries s es → map entry_in X ++ map entry_in Y ≡ es
parted s es X Y is = sym (map-append entry_in X Y) ∙ (ap (map entry_in) is ∙ entries_in s es)

pub parts_are : (s : Setting) (es : List Entry) (X Y : List StreamEntry) → X ++ Y ≡ stream_entries s es → (X ≡ stream_entries s (map entry_in X)) × (Y ≡ stream_entries s (map entry_in Y))
parts_are s es X Y is =
    joined_alike X Y (stream_entries s (map entry_in X)) (stream_entries s (map entry_in Y))
    (is ∙ (ap (stream_entries s) (sym (parted s es X Y is)) ∙ map-append (stream_entry s) (map entry_in X) (map entry_in Y)))
    (sym (length-map (map entry_in X) (stream_entry s) ∙ length-map X entry_in))

pub take-entries : (s : Setting) (es : List Entry) → take 1 (stream_entries s es) ≡ stream_entries s (take 1 es)
take-entries s [] = refl
take-entries s (e ∷ es) = refl
