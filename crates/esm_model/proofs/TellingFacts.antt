-- What the history of a stream's book tells as entries and as records, and what one more entry does to it.
use Rattle.std.proofs.Common.{◌≡◌, ℕ, zero, suc, Bool, true, false, cond, ◌||◌, List, [], ◌∷◌, ◌++◌, map, refl, sym, ap, ◌∙◌, subst, inl, inr, Some, append_assoc}
use Rattle.std.specs.Prelude.{◌==◌, reverse, slice_get, filter_map}
use Rattle.std.specs.List.{list_any, cons_option}
use Rattle.std.proofs.lemmas.List.{map-append, reverse-append, reverse-reverse}
use Rattle.std.proofs.lemmas.List.Folds.{list_any-append}
use Rattle.std.proofs.lemmas.Bool.{cases_Bool, eqb-true}
use Rattle.std.proofs.lemmas.Grind.{reverse_onto}
use Rattle.esm_model.specs.Records.{Record}
use Rattle.esm_model.specs.declared.entry.Entry.{Entry}
use Rattle.esm_model.specs.declared.entry.Entry.TheVariants.{Came, Began, Ended, Gave, Tried, Closed, Replayed, Shut}
use Rattle.esm_model.specs.declared.setup.Told.{Told}
use Rattle.esm_model.specs.Setting.{Stream, Extends, records_in}
use Rattle.esm_model.specs.Entries.{holds, shards_that_came}
use Rattle.esm_model.specs.Books.{entries_told, came_with, records_told, streams_told, entry_line, lines_of, lines_told}

abbrev entry_told : Told → Entry
entry_told t = t.entry

-- entries

-- the entries of more come before those of less
pub entries-append : (history more : List Told) → entries_told (history ++ more) ≡ entries_told more ++ entries_told history
entries-append history more = ap reverse (map-append entry_told history more) ∙ reverse-append (map entry_told history) (map entry_told more)

pub entries_more : (history : List Told) (t : Told) → entries_told (history ++ t ∷ []) ≡ t.entry ∷ entries_told history
entries_more history t = entries-append history (t ∷ [])

-- records

pub records-append : (n : ℕ) (history more : List Told) → records_told n (history ++ more) ≡ records_told n history ++ records_told n more
records-append n [] more = refl
records-append n (t ∷ history) more =
    ap (λ rs. came_with n t.records t.entry ++ rs) (records-append n history more)
    ∙ sym (append_assoc (came_with n t.records t.entry) (records_told n history) (records_told n more))

-- shards

-- it is a `Came` of the shard
abbrev is_came : ℕ → Entry → Bool
is_came n (Came shard first count moment) = shard == n
is_came n _ = false

or_swapped : (a b : Bool) → (a || (b || false)) ≡ (b || a)
or_swapped true true = refl
or_swapped true false = refl
or_swapped false true = refl
or_swapped false false = refl

any_reverse : (p : Entry → Bool) (es : List Entry) → list_any p (reverse es) ≡ list_any p es
any_reverse p [] = refl
any_reverse p (e ∷ es) =
    ap (list_any p) (reverse_onto es e [])
    ∙ list_any-append p (reverse es) (e ∷ [])
    ∙ ap (λ b. b || (p e || false)) (any_reverse p es)
    ∙ or_swapped (list_any p es) (p e)

-- a shard came where an entry is a `Came` of it
shards_hold : (h : List Entry) (n : ℕ) → holds (shards_that_came h) n ≡ list_any (is_came n) h
shards_hold [] n = refl
shards_hold (Came k first count m ∷ h) n = at_shard (shards_hold h n) (holds (shards_that_came h) k) refl
  where
    held : holds (shards_that_came h) n ≡ list_any (is_came n) h → (b : Bool) → (k == n) ≡ b → holds (shards_that_came h) k ≡ true → holds (shards_that_came h) n ≡ (b || list_any (is_came n) h)
    held before true is there = subst (λ j. holds (shards_that_came h) j ≡ true) (eqb-true k n is) there
    held before false is there = before

    joined : (a b : Bool) → a ≡ list_any (is_came n) h → (a || (b || false)) ≡ (b || list_any (is_came n) h)
    joined true true e = refl
    joined true false e = e
    joined false true e = refl
    joined false false e = e

    at_shard : holds (shards_that_came h) n ≡ list_any (is_came n) h → (b : Bool) → holds (shards_that_came h) k ≡ b → holds (cond b (shards_that_came h) (shards_that_came h ++ k ∷ [])) n ≡ ((k == n) || list_any (is_came n) h)
    at_shard before true there = held before (k == n) refl there
    at_shard before false there = list_any-append (λ p. p == n) (shards_that_came h) (k ∷ []) ∙ joined (holds (shards_that_came h) n) (k == n) before
shards_hold (Began lane places closing m ∷ h) n = shards_hold h n
shards_hold (Ended lane reply m ∷ h) n = shards_hold h n
shards_hold (Gave by k places f line state m ∷ h) n = shards_hold h n
shards_hold (Tried lane places closing t m ∷ h) n = shards_hold h n
shards_hold (Closed lane w m ∷ h) n = shards_hold h n
shards_hold (Replayed k places m ∷ h) n = shards_hold h n
shards_hold (Shut m ∷ h) n = shards_hold h n

-- an entry that is no `Came` of the shard has no records of it
no_records : (n : ℕ) (rs : List Record) (e : Entry) → is_came n e ≡ false → came_with n rs e ≡ []
no_records n rs (Came k first count m) not' = rw not' refl
no_records n rs (Began lane places closing m) not' = refl
no_records n rs (Ended lane reply m) not' = refl
no_records n rs (Gave by k places f line state m) not' = refl
no_records n rs (Tried lane places closing t m) not' = refl
no_records n rs (Closed lane w m) not' = refl
no_records n rs (Replayed k places m) not' = refl
no_records n rs (Shut m) not' = refl

or_false : (a b : Bool) → (a || b) ≡ false → (a ≡ false) × (b ≡ false)
or_false true b e = cc
or_false false b e = (refl, e)

none_told : (n : ℕ) (history : List Told) → list_any (is_came n) (map entry_told history) ≡ false → records_told n history ≡ []
none_told n [] none = refl
none_told n (t ∷ history) none =
    let parts = or_false (is_came n t.entry) (list_any (is_came n) (map entry_told history)) none in
    ap (λ rs. rs ++ records_told n history) (no_records n t.records t.entry parts.0) ∙ none_told n history parts.1

-- streams

records_among : (records : ℕ → List Record) (ns : List ℕ) (n : ℕ) → records_in (map (λ (k : ℕ). let s : Stream = record { shard = k; records = records k } in s) ns) n ≡ cond (holds ns n) (records n) []
records_among records [] n = refl
records_among records (k ∷ ns) n =
    elim (cases_Bool (k == n)) [
      | inl is ↦ rw is (ap records (eqb-true k n is))
      | inr other ↦ rw other (records_among records ns n)
    ]

-- the records of a shard are those told
pub records_in_told : (history : List Told) (n : ℕ) → records_in (streams_told history) n ≡ records_told n history
records_in_told history n = records_among (λ k. records_told k history) (shards_that_came (entries_told history)) n ∙ at_shard (holds (shards_that_came (entries_told history)) n) refl
  where
    at_shard : (b : Bool) → holds (shards_that_came (entries_told history)) n ≡ b → cond b (records_told n history) [] ≡ records_told n history
    at_shard true is = refl
    at_shard false is = sym (none_told n history (sym (any_reverse (is_came n) (map entry_told history)) ∙ sym (shards_hold (entries_told history) n) ∙ is))

get_front : (xs ys : List Record) (i : ℕ) (r : Record) → slice_get xs i ≡ Some r → slice_get (xs ++ ys) i ≡ Some r
get_front [] ys i r at = cc
get_front (x ∷ xs) ys zero r at = at
get_front (x ∷ xs) ys (suc i) r at = get_front xs ys i r at

-- a longer history goes on from the records of a shorter one
pub told_extends : (history more : List Told) → Extends (streams_told history) (streams_told (history ++ more))
told_extends history more n i r at =
    let before : slice_get (records_told n history) i ≡ Some r = ap (λ rs. slice_get rs i) (sym (records_in_told history n)) ∙ at in
    ap (λ rs. slice_get rs i) (records_in_told (history ++ more) n ∙ records-append n history more)
    ∙ get_front (records_told n history) (records_told n more) i r before

pub extends_then : (a b c : List Stream) → Extends a b → Extends b c → Extends a c
extends_then a b c first second n i r at = second n i r (first n i r at)

-- failure lines

lines_map : (history : List Told) → filter_map entry_line (map entry_told history) ≡ lines_told history
lines_map [] = refl
lines_map (t ∷ history) = ap (cons_option (entry_line t.entry)) (lines_map history)

pub lines_same : (history : List Told) → lines_of (entries_told history) ≡ lines_told history
lines_same history = ap (filter_map entry_line) (reverse-reverse (map entry_told history)) ∙ lines_map history
