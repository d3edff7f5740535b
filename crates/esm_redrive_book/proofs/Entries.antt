-- Entries as they are told, and lists that are joined.
use Rattle.std.proofs.Common.{◌≡◌, List, [], ◌∷◌, ◌++◌, length, map, take, reverse, refl, sym, ap, ap₂, ◌∙◌, arith}
use Rattle.std.specs.List.{All}
use Rattle.std.proofs.lemmas.List.{map-append, reverse-append, length-map}
use Rattle.std.proofs.lemmas.List.Elements.{All-nil, All-cons, All-head, All-tail}
use Rattle.esm_model.specs.declared.item.Message.{Message}
use Rattle.esm_model.specs.declared.entry.Entry.{Entry}
use Rattle.esm_model.specs.declared.setup.Told.{Told}
use Rattle.esm_redrive_core.specs.declared.decisions.RedriveEntry.{RedriveEntry}
use Rattle.esm_redrive_core.specs.RedriveView.{RedriveView, all_messages}
use Rattle.esm_redrive_core.specs.Told.{redrive_entry, redrive_entries, history_of, owed_of, told_entries, told_of}

-- lists

pub map-reverse : {A B : Type 0} (f : A → B) (xs : List A) → map f (reverse xs) ≡ reverse (map f xs)
map-reverse f [] = refl
map-reverse {A} {B} f (x ∷ xs) =
    ap (map f) (reverse-append (x ∷ []) xs)
    ∙ (map-append f (reverse xs) (x ∷ [])
    ∙ (ap (λ (ys : List B). ys ++ f x ∷ []) (map-reverse f xs)
    ∙ sym (reverse-append (f x ∷ []) (map f xs))))

-- two lists that are joined alike, the fronts as long as one another
pub joined_alike : {A : Type 0} (a b c d : List A) → a ++ b ≡ c ++ d → length a ≡ length c → (a ≡ c) × (b ≡ d)
joined_alike [] b [] d is same = (refl, is)
joined_alike [] b (y ∷ c) d is same = absurd (omega arith)
joined_alike (x ∷ a) b [] d is same = absurd (omega arith)
joined_alike {A} (x ∷ a) b (y ∷ c) d is same =
    let heads : x ≡ y = cc in
    let tails : a ++ b ≡ c ++ d = cc in
    let rest = joined_alike a b c d tails (omega arith) in
    (ap₂ (λ (z : A) (zs : List A). z ∷ zs) heads rest.0, rest.1)

pub All-front : {A : Type 0} (P : A → Type 0) (xs ys : List A) → All P (xs ++ ys) → All P xs
All-front P [] ys all = All-nil P
All-front P (x ∷ xs) ys all = All-cons P x xs (All-head P x (xs ++ ys) all) (All-front P xs ys (All-tail P x (xs ++ ys) all))

pub both_none : {A : Type 0} (xs ys : List A) → xs ++ ys ≡ [] → (xs ≡ []) × (ys ≡ [])
both_none [] ys is = (refl, is)
both_none (x ∷ xs) ys is = absurd (cc)

-- entries

abbrev pub entry_in : RedriveEntry → Entry
entry_in x = x.told.entry

abbrev pub told_in : RedriveEntry → Told
told_in x = x.told

pub entries_in : (messages : List Message) (es : List Entry) → map entry_in (redrive_entries messages es) ≡ es
entries_in messages [] = refl
entries_in messages (e ∷ es) = ap (λ (xs : List Entry). e ∷ xs) (entries_in messages es)

-- the history of a core, oldest entry first
told_reversed : (v : RedriveView) → told_of v ≡ map told_in (reverse (history_of v))
told_reversed v = ap (map told_in) (map-reverse (redrive_entry (all_messages v)) v.past)

-- entries that were put before a history
pub past_grows : (old new : RedriveView) (messages : List Message) (es : List Entry) (X : List RedriveEntry) → history_of new ≡ reverse X ++ history_of old → X ≡ redrive_entries messages es → new.past ≡ reverse es ++ old.past
past_grows old new messages es X is added =
    sym (entries_in (all_messages new) new.past)
    ∙ (ap (map entry_in) is
    ∙ (map-append entry_in (reverse X) (history_of old)
    ∙ ap₂ (λ (xs ys : List Entry). xs ++ ys)
    (map-reverse entry_in X ∙ ap reverse (ap (map entry_in) added ∙ entries_in messages es))
    (entries_in (all_messages old) old.past)))

pub reversed_back : {A : Type 0} (xs : List A) → reverse (reverse xs) ≡ xs
reversed_back [] = refl
reversed_back {A} (x ∷ xs) =
    ap reverse (reverse-append (x ∷ []) xs)
    ∙ (reverse-append (reverse xs) (x ∷ [])
    ∙ ap (λ (ys : List A). x ∷ ys) (reversed_back xs))

pub told_grows : (old new : RedriveView) (messages : List Message) (es : List Entry) (X : List RedriveEntry) → history_of new ≡ reverse X ++ history_of old → X ≡ redrive_entries messages es → told_of new ≡ told_of old ++ told_entries messages es
told_grows old new messages es X is added =
    told_reversed new
    ∙ (ap (λ (h : List RedriveEntry). map told_in (reverse h)) is
    ∙ (ap (map told_in) (reverse-append (reverse X) (history_of old))
    ∙ (map-append told_in (reverse (history_of old)) (reverse (reverse X))
    ∙ ap₂ (λ (xs ys : List Told). xs ++ ys) (sym (told_reversed old))
    (ap (map told_in) (reversed_back X ∙ added)))))

-- what is owed
pub owed_entries : (v : RedriveView) → map entry_in (owed_of v) ≡ v.owed
owed_entries v = entries_in (all_messages v) v.owed

-- what was added and what is owed, together these
pub parted : (v : RedriveView) (messages : List Message) (es : List Entry) (X : List RedriveEntry) → X ++ owed_of v ≡ redrive_entries messages es → map entry_in X ++ v.owed ≡ es
parted v messages es X is =
    ap (λ (xs : List Entry). map entry_in X ++ xs) (sym (owed_entries v))
    ∙ (sym (map-append entry_in X (owed_of v)) ∙ (ap (map entry_in) is ∙ entries_in messages es))

pub parts_are : (v : RedriveView) (messages : List Message) (es : List Entry) (X : List RedriveEntry) → X ++ owed_of v ≡ redrive_entries messages es → (X ≡ redrive_entries messages (map entry_in X)) × (owed_of v ≡ redrive_entries messages v.owed)
parts_are v messages es X is =
    joined_alike X (owed_of v) (redrive_entries messages (map entry_in X)) (redrive_entries messages v.owed)
    (is ∙ (ap (redrive_entries messages) (sym (parted v messages es X is)) ∙ map-append (redrive_entry messages) (map entry_in X) v.owed))
    (sym (length-map (map entry_in X) (redrive_entry messages) ∙ length-map X entry_in))

pub take-entries : (messages : List Message) (es : List Entry) → take 1 (redrive_entries messages es) ≡ redrive_entries messages (take 1 es)
take-entries messages [] = refl
take-entries messages (e ∷ es) = refl
