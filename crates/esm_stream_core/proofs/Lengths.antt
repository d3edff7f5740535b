-- The lengths of what is owed.
use Rattle.std.proofs.Common.{◌≡◌, ℕ, ◌+◌, ◌<◌, ◌≤◌, List, [], ◌∷◌, ◌++◌, drop, reverse, length, refl, sym, ap, ap₂, ◌∙◌, subst, Option, arith}
use Rattle.std.proofs.lemmas.Bool.{eqb-true}
use Rattle.std.specs.Prelude.{◌==◌, true, All, ◌-◌, get_or}
use Rattle.std.specs.List.{filter_map, cons_option}
use Rattle.std.proofs.lemmas.List.{reverse-append, at_drop_more}
use Rattle.std.proofs.lemmas.List.Elements.{All-nil, All-cons, filter_map-append}
use Rattle.esm_model.specs.Setting.{Setting}
use Rattle.esm_journal_record.specs.EntryPayload.{entry_payload}
use Rattle.esm_stream_core.specs.declared.owed.Owed.{Owed}
use Rattle.esm_book.specs.Decided.{lengths_of}
use Rattle.esm_stream_core.specs.Acts.{entries_of, payloads_in, HasShortPayload, AreWritten}

-- what is written of the owed entries is their payloads
pub payloads_written : (s : Setting) (owed : List Owed) → AreWritten s owed → filter_map (entry_payload s) (entries_of owed) ≡ payloads_in owed
payloads_written s [] written = refl
payloads_written s (o ∷ owed) written =
    ap₂ (λ (p : Option (List ℕ)) (rest : List (List ℕ)). cons_option p rest) written.0.payload (payloads_written s owed written.1)

lengths-append : (xs ys : List (List ℕ)) → lengths_of (xs ++ ys) ≡ lengths_of xs ++ lengths_of ys
lengths-append [] ys = refl
lengths-append (x ∷ xs) ys = ap (λ (ns : List ℕ). length x ∷ ns) (lengths-append xs ys)

-- one more from the front
pub lengths_more : (o : Owed) (rest : List Owed) → lengths_of (payloads_in (reverse (o ∷ rest))) ≡ lengths_of (payloads_in (reverse rest)) ++ lengths_of (cons_option o.payload [])
lengths_more o rest =
    ap (λ (xs : List Owed). lengths_of (payloads_in xs)) (reverse-append (o ∷ []) rest)
    ∙ ap lengths_of (filter_map-append (λ (x : Owed). x.payload) (reverse rest) (o ∷ []))
    ∙ lengths-append (payloads_in (reverse rest)) (cons_option o.payload [])

written_split : (s : Setting) (xs : List Owed) (x : Owed) → AreWritten s (xs ++ x ∷ []) → AreWritten s xs × HasShortPayload x
written_split s [] x written = (tt, written.0.short)
written_split s (y ∷ ys) x written = let rest = written_split s ys x written.1 in ((written.0, rest.0), rest.1)

pub short_payloads : (s : Setting) (xs : List Owed) → AreWritten s (reverse xs) → All HasShortPayload xs
short_payloads s [] written = All-nil HasShortPayload
short_payloads s (x ∷ xs) written =
    let parts = written_split s (reverse xs) x (subst (AreWritten s) (reverse-append (x ∷ []) xs) written) in
    All-cons HasShortPayload x xs parts.1 (short_payloads s xs parts.0)

pub lengths_step : (xs : List Owed) (i : ℕ) (d o : Owed) (ns ns' : List ℕ) → 0 < i → i ≤ length xs → o ≡ get_or xs (i - 1) d → ns ≡ lengths_of (payloads_in (reverse (drop i xs)))
    → ns' ≡ ns ++ lengths_of (cons_option o.payload []) → ns' ≡ lengths_of (payloads_in (reverse (drop (i - 1) xs)))
lengths_step xs i d o ns ns' some within is told more =
    let k = i - 1 in
    let next : i ≡ k + 1 = omega arith in
    let low : k < length xs = omega arith in
    more
    ∙ ap (λ (ms : List ℕ). ms ++ lengths_of (cons_option o.payload [])) told
    ∙ ap₂ (λ (m : ℕ) (x : Owed). lengths_of (payloads_in (reverse (drop m xs))) ++ lengths_of (cons_option x.payload [])) next is
    ∙ sym (lengths_more (get_or xs k d) (drop (k + 1) xs))
    ∙ sym (at_drop_more (λ (ys : List Owed). lengths_of (payloads_in (reverse ys))) xs k d low)

pub empty_list : (xs : List Owed) → (length xs == 0) ≡ true → xs ≡ []
empty_list [] is = refl
empty_list (x ∷ xs) is = absurd (omega (arith, eqb-true (length (x ∷ xs)) 0 is))
