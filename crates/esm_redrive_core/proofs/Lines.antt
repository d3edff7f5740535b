-- What is written of the deletions that are owed: their payloads, and the line of the first.
use Rattle.std.proofs.Common.{◌≡◌, ℕ, ◌+◌, ◌-◌, ◌<◌, ◌≤◌, true, false, is_some, take, List, [], ◌∷◌, ◌++◌, length, drop, get_or, reverse, refl, sym, ap, ap₂, ◌∙◌, subst, arith, Option, Some, None}
use Rattle.std.specs.Prelude.{suc, slice_get}
use Rattle.std.specs.List.{All, cons_option}
use Rattle.std.proofs.lemmas.Option.{none-some, same_Some}
use Rattle.std.proofs.lemmas.List.{reverse-append, map-append, at_drop_more}
use Rattle.std.proofs.lemmas.List.Elements.{All-nil, All-cons, All-head, All-tail}
use Rattle.esm_model.specs.declared.limits.TheConstants.{MAX_LINE}
use Rattle.esm_model.specs.declared.item.Message.{Message}
use Rattle.esm_model.specs.declared.entry.Entry.{Entry}
use Rattle.esm_model.specs.Books.{entry_line}
use Rattle.esm_journal_record.specs.EntryPayload.{queue_payload}
use Rattle.esm_book.specs.Decided.{written_of, lengths_of, IsLineWithin}
use Rattle.esm_queue_core.specs.declared.owed.First.{First}
use Rattle.esm_queue_core.specs.declared.owed.First.TheVariants.{Came, Began, Ended}
use Rattle.esm_redrive_core.specs.declared.owed.Gift.{Gift}
use Rattle.esm_redrive_core.specs.Kept.{IsGiftOf, HasShortPayload, HaveLineFirst, IsShortLine, payloads_in, gift_line, gift_entries, owed_entries}

-- lines

none_of_both : (line : Option (List ℕ)) (lines : List (List ℕ)) → cons_option line lines ≡ [] → (line ≡ None) × (lines ≡ [])
none_of_both None lines none = (refl, none)
none_of_both (Some line) lines none = absurd (cc)

pub one_line_first : (g : Gift) → IsLineWithin (written_of gift_line (g ∷ [])) MAX_LINE → HaveLineFirst (g ∷ [])
one_line_first g is = (short_line g.line is, refl)
  where
    short_line : (line : Option (List ℕ)) → IsLineWithin (cons_option line []) MAX_LINE → IsShortLine line
    short_line None is = tt
    short_line (Some line) is = is.0

pub no_lines_first : (gifts : List Gift) → written_of gift_line gifts ≡ [] → HaveLineFirst gifts
no_lines_first [] none = tt
no_lines_first (g ∷ gifts) none =
    let parts = none_of_both g.line (written_of gift_line gifts) none in
    (subst IsShortLine (sym parts.0) tt, parts.1)

-- behind the first one no line is owed
pub fewer_lines : (g : Gift) (gifts : List Gift) → HaveLineFirst (g ∷ gifts) → HaveLineFirst gifts
fewer_lines g gifts is = no_lines_first gifts is.1

-- the lines of what is owed are those of the deletions
lines_given : (gifts : List Gift) → written_of entry_line (gift_entries gifts) ≡ written_of gift_line gifts
lines_given [] = refl
lines_given (g ∷ gifts) = ap (λ (lines : List (List ℕ)). cons_option g.line lines) (lines_given gifts)

lines_owed : (first : Option First) (gifts : List Gift) → written_of entry_line (owed_entries first gifts) ≡ written_of gift_line gifts
lines_owed None gifts = lines_given gifts
lines_owed (Some (Came from count m)) gifts = lines_given gifts
lines_owed (Some (Began lane places m)) gifts = lines_given gifts
lines_owed (Some (Ended lane reply m)) gifts = lines_given gifts

-- the first deletion is the last one of those that are kept
pub first_of : (xs ys : List Gift) (g : Gift) → xs ≡ ys ++ g ∷ [] → reverse xs ≡ g ∷ reverse ys
first_of xs ys g is = ap reverse is ∙ reverse-append ys (g ∷ [])

-- the last one of those that are kept
last_split : (xs : List Gift) (g : Gift) → slice_get xs (length xs - 1) ≡ Some g → (ys : List Gift) × (xs ≡ ys ++ g ∷ [])
last_split [] g at = absurd (none-some g at)
last_split (x ∷ []) g at = ([], ap (λ (y : Gift). y ∷ []) (same_Some x g at))
last_split (x ∷ y ∷ xs) g at =
    let e : suc (length (y ∷ xs) - 1) ≡ length (x ∷ y ∷ xs) - 1 = omega arith in
    let rest = last_split (y ∷ xs) g (ap (slice_get (x ∷ y ∷ xs)) e ∙ at) in
    (x ∷ rest.0, ap (λ (zs : List Gift). x ∷ zs) rest.1)

-- is paid first
pub last_first : (xs : List Gift) (g : Gift) → slice_get xs (length xs - 1) ≡ Some g → (rest : List Gift) × (reverse xs ≡ g ∷ rest)
last_first xs g at = let split = last_split xs g at in (reverse split.0, first_of xs split.0 g split.1)

within_line : (line : Option (List ℕ)) → IsShortLine line → IsLineWithin (cons_option line []) MAX_LINE
within_line None is = tt
within_line (Some line) is = (is, refl)

-- one line is owed at most
pub one_owed : (first : Option First) (gifts : List Gift) → HaveLineFirst gifts → IsLineWithin (written_of entry_line (owed_entries first gifts)) MAX_LINE
one_owed first [] is = subst (λ (lines : List (List ℕ)). IsLineWithin lines MAX_LINE) (sym (lines_owed first [])) tt
one_owed first (g ∷ gifts) is =
    let lines : written_of entry_line (owed_entries first (g ∷ gifts)) ≡ cons_option g.line [] = lines_owed first (g ∷ gifts) ∙ ap (cons_option g.line) is.1 in
    subst (λ (lines : List (List ℕ)). IsLineWithin lines MAX_LINE) (sym lines) (within_line g.line is.0)

-- none is where the first deletion has none
pub none_owed : (first : Option First) (g : Gift) (gifts : List Gift) → HaveLineFirst (g ∷ gifts) → g.line ≡ None → written_of entry_line (owed_entries first (g ∷ gifts)) ≡ []
none_owed first g gifts is none = lines_owed first (g ∷ gifts) ∙ (ap (cons_option g.line) is.1 ∙ ap (λ (line : Option (List ℕ)). cons_option line []) none)

pub nothing_owed : (first : Option First) → written_of entry_line (owed_entries first []) ≡ []
nothing_owed first = lines_owed first []

-- of the first entry

pub first_silent : (messages : List Message) (first : Option First) (gifts : List Gift) → is_some first ≡ true → written_of (queue_payload messages) (take 1 (owed_entries first gifts)) ≡ []
first_silent messages None gifts some = absurd (cc)
first_silent messages (Some (Came from count m)) gifts some = refl
first_silent messages (Some (Began lane places m)) gifts some = refl
first_silent messages (Some (Ended lane reply m)) gifts some = refl

pub first_unlined : (first : Option First) (gifts : List Gift) → is_some first ≡ true → written_of entry_line (take 1 (owed_entries first gifts)) ≡ []
first_unlined None gifts some = absurd (cc)
first_unlined (Some (Came from count m)) gifts some = refl
first_unlined (Some (Began lane places m)) gifts some = refl
first_unlined (Some (Ended lane reply m)) gifts some = refl

pub gift_payload : (messages : List Message) (first : Option First) (g : Gift) (gifts : List Gift) → is_some first ≡ false → All (IsGiftOf messages) (g ∷ gifts) → written_of (queue_payload messages) (take 1 (owed_entries first (g ∷ gifts))) ≡ g.payload.items ∷ []
gift_payload messages None g gifts none all = ap (λ (o : Option (List ℕ)). cons_option o []) (All-head (IsGiftOf messages) g gifts all).payload
gift_payload messages (Some f) g gifts none all = absurd (cc)

pub gift_lined : (first : Option First) (g : Gift) (gifts : List Gift) → is_some first ≡ false → written_of entry_line (take 1 (owed_entries first (g ∷ gifts))) ≡ cons_option g.line []
gift_lined None g gifts none = refl
gift_lined (Some f) g gifts none = absurd (cc)

pub none_left : (text : Entry → Option (List ℕ)) (first : Option First) (gifts : List Gift) → is_some first ≡ false → gifts ≡ [] → written_of text (take 1 (owed_entries first gifts)) ≡ []
none_left text None gifts none nothing = ap (λ (gs : List Gift). written_of text (take 1 (gift_entries gs))) nothing
none_left text (Some f) gifts none nothing = absurd (cc)

-- payloads

pub payloads_given : (messages : List Message) (gifts : List Gift) → All (IsGiftOf messages) gifts → written_of (queue_payload messages) (gift_entries gifts) ≡ payloads_in gifts
payloads_given messages [] all = refl
payloads_given messages (g ∷ gifts) all =
    ap₂ (λ (p : Option (List ℕ)) (ps : List (List ℕ)). cons_option p ps) (All-head (IsGiftOf messages) g gifts all).payload (payloads_given messages gifts (All-tail (IsGiftOf messages) g gifts all))

pub payloads_owed : (messages : List Message) (first : Option First) (gifts : List Gift) → All (IsGiftOf messages) gifts → written_of (queue_payload messages) (owed_entries first gifts) ≡ payloads_in gifts
payloads_owed messages None gifts all = payloads_given messages gifts all
payloads_owed messages (Some (Came from count m)) gifts all = payloads_given messages gifts all
payloads_owed messages (Some (Began lane places m)) gifts all = payloads_given messages gifts all
payloads_owed messages (Some (Ended lane reply m)) gifts all = payloads_given messages gifts all

short_split : (messages : List Message) (xs : List Gift) (x : Gift) → All (IsGiftOf messages) (xs ++ x ∷ []) → All (IsGiftOf messages) xs × IsGiftOf messages x
short_split messages [] x all = (All-nil (IsGiftOf messages), All-head (IsGiftOf messages) x [] all)
short_split messages (y ∷ ys) x all =
    let rest = short_split messages ys x (All-tail (IsGiftOf messages) y (ys ++ x ∷ []) all) in
    (All-cons (IsGiftOf messages) y ys (All-head (IsGiftOf messages) y (ys ++ x ∷ []) all) rest.0, rest.1)

pub short_payloads : (messages : List Message) (xs : List Gift) → All (IsGiftOf messages) (reverse xs) → All HasShortPayload xs
short_payloads messages [] all = All-nil HasShortPayload
short_payloads messages (x ∷ xs) all =
    let parts = short_split messages (reverse xs) x (subst (All (IsGiftOf messages)) (reverse-append (x ∷ []) xs) all) in
    All-cons HasShortPayload x xs parts.1.short (short_payloads messages xs parts.0)

-- their lengths, one more from the front

lengths-append : (xs ys : List (List ℕ)) → lengths_of (xs ++ ys) ≡ lengths_of xs ++ lengths_of ys
lengths-append [] ys = refl
lengths-append (x ∷ xs) ys = ap (λ (ns : List ℕ). length x ∷ ns) (lengths-append xs ys)

lengths_more : (g : Gift) (rest : List Gift) → lengths_of (payloads_in (reverse (g ∷ rest))) ≡ lengths_of (payloads_in (reverse rest)) ++ length g.payload.items ∷ []
lengths_more g rest =
    ap (λ (xs : List Gift). lengths_of (payloads_in xs)) (reverse-append (g ∷ []) rest)
    ∙ ap lengths_of (map-append (λ (x : Gift). x.payload.items) (reverse rest) (g ∷ []))
    ∙ lengths-append (payloads_in (reverse rest)) (g.payload.items ∷ [])

pub lengths_step : (xs : List Gift) (i : ℕ) (d g : Gift) (ns ns' : List ℕ) → 0 < i → i ≤ length xs → g ≡ get_or xs (i - 1) d → ns ≡ lengths_of (payloads_in (reverse (drop i xs)))
    → ns' ≡ ns ++ length g.payload.items ∷ [] → ns' ≡ lengths_of (payloads_in (reverse (drop (i - 1) xs)))
lengths_step xs i d g ns ns' some within is told more =
    let k = i - 1 in
    let next : i ≡ k + 1 = omega arith in
    let low : k < length xs = omega arith in
    more
    ∙ ap (λ (ms : List ℕ). ms ++ length g.payload.items ∷ []) told
    ∙ ap₂ (λ (m : ℕ) (x : Gift). lengths_of (payloads_in (reverse (drop m xs))) ++ length x.payload.items ∷ []) next is
    ∙ sym (lengths_more (get_or xs k d) (drop (k + 1) xs))
    ∙ sym (at_drop_more (λ (ys : List Gift). lengths_of (payloads_in (reverse ys))) xs k d low)
