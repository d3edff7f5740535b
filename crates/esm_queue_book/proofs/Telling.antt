-- A queue's history with one more entry: its entries, its messages, and that what stands before is legal.
use Rattle.std.proofs.Common.{◌≡◌, ◌≢◌, ℕ, zero, suc, eqb, List, [], ◌∷◌, ◌++◌, refl, sym, ap, ◌∙◌, subst, inl, inr, append_assoc, append-nil, Some}
use Rattle.std.specs.Prelude.{map, reverse, slice_get}
use Rattle.std.proofs.lemmas.List.{map-append, reverse-append}
use Rattle.std.proofs.lemmas.Bool.{cond-true, cond-false}
use Rattle.std.proofs.lemmas.Bool.Decides.{eqb_tells}
use Rattle.std.proofs.lemmas.Option.{none-some}
use Rattle.esm_model.specs.declared.item.Message.{Message}
use Rattle.esm_model.specs.declared.entry.Entry.{Entry}
use Rattle.esm_model.specs.declared.setup.Told.{Told}
use Rattle.esm_model.specs.Kept.{MayFollowAll, entries_after}
use Rattle.esm_model.specs.Books.{entries_told}
use Rattle.esm_queue_model.specs.QueueSetting.{ExtendsMessages}
use Rattle.esm_queue_model.specs.QueueBooks.{messages_with, messages_told}

abbrev entry_told : Told → Entry
entry_told t = t.entry

pub entries_more : (h : List Told) (t : Told) → entries_told (h ++ t ∷ []) ≡ t.entry ∷ entries_told h
entries_more h t = ap reverse (map-append entry_told h (t ∷ [])) ∙ reverse-append (map entry_told h) (t.entry ∷ [])

pub messages-append : (h more : List Told) → messages_told (h ++ more) ≡ messages_told h ++ messages_told more
messages-append [] more = refl
messages-append (t ∷ h) more =
    ap (λ ms. messages_with t.messages t.entry ++ ms) (messages-append h more)
    ∙ sym (append_assoc (messages_with t.messages t.entry) (messages_told h) (messages_told more))

get_first : (xs ys : List Message) (i : ℕ) (m : Message) → slice_get xs i ≡ Some m → slice_get (xs ++ ys) i ≡ Some m
get_first [] ys i m at = absurd (none-some m at)
get_first (x ∷ xs) ys zero m at = at
get_first (x ∷ xs) ys (suc i) m at = get_first xs ys i m at

-- the messages told go on from those told before
pub told_extends : (h more : List Told) → ExtendsMessages (messages_told h) (messages_told (h ++ more))
told_extends h more i m at = ap (λ ms. slice_get ms i) (messages-append h more) ∙ get_first (messages_told h) (messages_told more) i m at

-- the beginning of a history may follow where the whole may
pub may_front : (may : List Told → Told → Type 0) (g h more : List Told) → MayFollowAll may g (h ++ more) → MayFollowAll may g h
may_front may g [] more all = tt
may_front may g (t ∷ h) more all = (all.0, may_front may (g ++ t ∷ []) h more all.1)

-- and its last entry may follow what stands before it
pub may_last : (may : List Told → Told → Type 0) (g h : List Told) (t : Told) → MayFollowAll may g (h ++ t ∷ []) → may (g ++ h) t
may_last may g [] t all = subst (λ (l : List Told). may l t) (sym (append-nil g)) all.0
may_last may g (u ∷ h) t all = subst (λ (l : List Told). may l t) (append_assoc g (u ∷ []) h) (may_last may (g ++ u ∷ []) h t all.1)

-- where none of the entries is of the author, neither is the first of them, nor any after it
pub none_of_author : (author : List Told → Told → ℕ) (n : ℕ) (h : List Told) (t : Told) (es : List Told) → entries_after author n h (t ∷ es) ≡ [] → (author h t ≢ n) × (entries_after author n (h ++ t ∷ []) es ≡ [])
none_of_author author n h t es none =
    let rest : List Told = entries_after author n (h ++ t ∷ []) es in
    elim (eqb_tells (author h t) n) [
      | inl own ↦ (let some : t ∷ rest ≡ [] = sym (cond-true (eqb (author h t) n) (t ∷ rest) rest own.0) ∙ none in absurd (cc))
      | inr other ↦ (other.1, sym (cond-false (eqb (author h t) n) (t ∷ rest) rest other.0) ∙ none)
    ]
