-- Reading places with their texts one after the other, as a loop does.
use Rattle.std.proofs.Common.{◌≡◌, ℕ, suc, ◌-◌, ◌+◌, ◌≤◌, ◌<◌, Bool, List, [], ◌∷◌, ◌++◌, Option, Some, None, refl, sym, ap, ◌∙◌, append_assoc, arith}
use Rattle.std.proofs.lemmas.List.{append-nil}
use Rattle.esm_journal_record.specs.declared.field.ReadError.{ReadError}
use Rattle.esm_journal_record.specs.declared.field.ReadError.TheVariants.{Memory, NoPayload}
use Rattle.esm_journal_record.specs.declared.names.Named.{Named}
use Rattle.esm_journal_record.specs.Parsing.{◌>>=◌, Fails, name_at, names_at}

-- what was read before, and what is still read
abbrev pub with_front : List ℕ → List (List ℕ) → Option (Named × List ℕ) → Option (Named × List ℕ)
with_front places texts read = read >>= λ x. Some (record { places = places ++ x.0.places; texts = texts ++ x.0.texts }, x.1)

abbrev named : List ℕ → List (List ℕ) → List ℕ → Option (Named × List ℕ)
named places texts rest = Some (record { places = places; texts = texts }, rest)

regroup : (places : List ℕ) (texts : List (List ℕ)) (place : ℕ) (text : List ℕ) (read : Option (Named × List ℕ))
    → with_front places texts (read >>= λ x. Some (record { places = place ∷ x.0.places; texts = text ∷ x.0.texts }, x.1)) ≡ with_front (places ++ place ∷ []) (texts ++ text ∷ []) read
regroup places texts place text (Some x) =
    ap (λ ps. named ps (texts ++ text ∷ x.0.texts) x.1) (sym (append_assoc places (place ∷ []) x.0.places))
    ∙ ap (λ ts. named ((places ++ place ∷ []) ++ x.0.places) ts x.1) (sym (append_assoc texts (text ∷ []) x.0.texts))
regroup places texts place text None = refl

pub goes_on : (is_text : List ℕ → Bool) (places : List ℕ) (texts : List (List ℕ)) (count i : ℕ) (bytes : List ℕ) (place : ℕ) (text after : List ℕ) (total : Option (Named × List ℕ)) → i < count → name_at is_text bytes ≡ Some ((place, text), after)
    → with_front places texts (names_at is_text (count - i) bytes) ≡ total → with_front (places ++ place ∷ []) (texts ++ text ∷ []) (names_at is_text (count - (i + 1)) after) ≡ total
unfolding names_at
goes_on is_text places texts count i bytes place text after total lt h so_far =
    let k : count - i ≡ suc (count - (i + 1)) = omega arith in
    let one : with_front places texts (names_at is_text (count - i) bytes) ≡ with_front (places ++ place ∷ []) (texts ++ text ∷ []) (names_at is_text (count - (i + 1)) after) = rw (k, h) (regroup places texts place text (names_at is_text (count - (i + 1)) after)) in
    sym one ∙ so_far

pub ends : (e : ReadError) (is_text : List ℕ → Bool) (places : List ℕ) (texts : List (List ℕ)) (count i : ℕ) (bytes : List ℕ) (total : Option (Named × List ℕ)) → i < count → Fails e (name_at is_text bytes)
    → with_front places texts (names_at is_text (count - i) bytes) ≡ total → Fails e total
unfolding names_at
ends Memory is_text places texts count i bytes total lt h so_far = tt
ends NoPayload is_text places texts count i bytes total lt h so_far =
    let k : count - i ≡ suc (count - (i + 1)) = omega arith in
    let one : with_front places texts (names_at is_text (count - i) bytes) ≡ None = rw (k, h) refl in
    sym so_far ∙ one

pub is_done : (is_text : List ℕ → Bool) (places : List ℕ) (texts : List (List ℕ)) (count i : ℕ) (bytes : List ℕ) (total : Option (Named × List ℕ)) → count ≤ i
    → with_front places texts (names_at is_text (count - i) bytes) ≡ total → total ≡ Some (record { places = places; texts = texts }, bytes)
unfolding names_at
is_done is_text places texts count i bytes total le so_far =
    let k : count - i ≡ 0 = omega arith in
    let one : with_front places texts (names_at is_text (count - i) bytes) ≡ named places texts bytes =
    rw k (ap (λ ps. named ps (texts ++ []) bytes) (append-nil places) ∙ ap (λ ts. named places ts bytes) (append-nil texts)) in
    sym so_far ∙ one
