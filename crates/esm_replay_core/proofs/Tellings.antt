-- A core's entries as they are told, and what its calls decide by what is told.
use Rattle.std.proofs.Common.{◌≡◌, ℕ, ◌+◌, ◌≤◌, List, [], ◌∷◌, ◌++◌, length, take, drop, reverse, refl, sym, ap, ◌∙◌, subst, arith, Option, Some, None}
use Rattle.std.specs.Prelude.{option_map}
use Rattle.std.specs.Option.{option_or}
use Rattle.std.proofs.lemmas.Option.{same_Some}
use Rattle.std.proofs.lemmas.List.{length-append, length-map, reverse-append}
use Rattle.esm_model.specs.Records.{Record}
use Rattle.esm_model.specs.declared.book.Change.{Change}
use Rattle.esm_model.specs.declared.entry.Entry.{Entry}
use Rattle.esm_journal_state.specs.SaidLists.{SaidLists}
use Rattle.esm_book.specs.Decided.{written_of}
use Rattle.esm_replay.specs.Records.{of_shard}
use Rattle.esm_replay_core.specs.declared.decisions.Opened.{Opened}
use Rattle.esm_replay.specs.Coming.{kept_otherwise, change_of, change_at, first_change, IsKeptChange}
use Rattle.esm_replay_core.specs.declared.decisions.ReplayEntry.{ReplayEntry}
use Rattle.esm_replay_core.specs.declared.decisions.ReplayEntry.TheVariants as told
use Rattle.esm_replay_core.specs.View.{ReplayView, setting_of, owing, paid, RunAhead}
use Rattle.esm_replay_core.specs.Told.{came_entries, added_entries, added_entry, history_of, owed_of, payload_in, no_line, IsPayable, Adds}

pub owed_number : (v : ReplayView) → length (owed_of v) ≡ length v.coming + length v.owed
owed_number v =
    let c : length (came_entries v.coming) ≡ length v.coming = length-map v.coming (λ (r : Record). told.Came r) in
    let a : length (added_entries (setting_of v) v.owed) ≡ length v.owed = length-map v.owed (added_entry (setting_of v)) in
    omega (arith, length-append (came_entries v.coming) (added_entries (setting_of v) v.owed), c, a)

-- nothing is told to be coming of what is written
written_coming : (rs : List Record) (es : List ReplayEntry) → written_of payload_in (came_entries rs ++ es) ≡ written_of payload_in es
written_coming [] es = refl
written_coming (r ∷ rs) es = written_coming rs es

pub no_lines : (es : List ReplayEntry) → written_of no_line es ≡ []
no_lines [] = refl
no_lines (e ∷ es) = no_lines es

-- what is added
pub adds_of : (v w : ReplayView) (es : List Entry) → w ≡ owing v [] es → RunAhead w → Adds v es (owed_of w)
adds_of v w es is run = record { entries_are = ap owed_of is; run = subst RunAhead is run }

pub owes_coming : (v w : ReplayView) (items : List Record) → w ≡ owing v items [] → owed_of w ≡ came_entries items
owes_coming v w items is = ap owed_of is ∙ append_none (came_entries items)
  where
    append_none : (xs : List ReplayEntry) → xs ++ [] ≡ xs
    append_none [] = refl
    append_none (x ∷ xs) = ap (λ (ys : List ReplayEntry). x ∷ ys) (append_none xs)

pub payable_decided : (v w : ReplayView) (items : List Record) (es : List Entry) → w ≡ owing v items es → (1 ≤ length items → (v.past ≡ []) × (es ≡ [])) → IsPayable w
payable_decided v w items es is early = subst IsPayable (sym is) early

pub payable_none : (v w : ReplayView) (es : List Entry) → w ≡ owing v [] es → IsPayable w
payable_none v w es is = payable_decided v w [] es is (λ some. absurd (omega arith))

-- where the first of what is owed is added

abbrev seen : Opened → List Record → List Entry → List Record → List Entry → ReplayView
seen o rs h coming owed = record { opened = o; records = rs; past = h; coming = coming; owed = owed }

payable_by : (o : Opened) (rs coming : List Record) (h owed : List Entry) → IsPayable (seen o rs h coming owed) → IsPayable (paid (seen o rs h coming owed))
payable_by o rs [] h owed can some = absurd (omega arith)
payable_by o rs (r ∷ coming) h owed can some = can (omega arith)

pub payable_paid : (v : ReplayView) → IsPayable v → IsPayable (paid v)
payable_paid v can = payable_by v.opened v.records v.coming v.past v.owed can

came_last : (rs : List Record) (r : Record) → came_entries (reverse (rs ++ r ∷ [])) ≡ told.Came r ∷ came_entries (reverse rs)
came_last rs r = ap came_entries (reverse-append rs (r ∷ []))

history_by : (o : Opened) (rs coming : List Record) (h owed : List Entry) → IsPayable (seen o rs h coming owed)
    → history_of (paid (seen o rs h coming owed)) ≡ take 1 (owed_of (seen o rs h coming owed)) ++ history_of (seen o rs h coming owed)
history_by o rs [] h [] can = refl
history_by o rs [] h (e ∷ owed) can = refl
history_by o rs (r ∷ coming) h owed can =
    let none : (h ≡ []) × (owed ≡ []) = can (omega arith) in
    ap (λ (x : List Entry). history_of (paid (seen o rs x (r ∷ coming) owed))) none.0
    ∙ came_last rs r
    ∙ ap (λ (x : List Entry). told.Came r ∷ history_of (seen o rs x (r ∷ coming) owed)) (sym none.0)

pub history_paid : (v : ReplayView) → IsPayable v → history_of (paid v) ≡ take 1 (owed_of v) ++ history_of v
history_paid v can = history_by v.opened v.records v.coming v.past v.owed can

owed_by : (o : Opened) (rs coming : List Record) (h owed : List Entry) → IsPayable (seen o rs h coming owed) → owed_of (paid (seen o rs h coming owed)) ≡ drop 1 (owed_of (seen o rs h coming owed))
owed_by o rs [] h [] can = refl
owed_by o rs [] h (e ∷ owed) can = refl
owed_by o rs (r ∷ coming) h owed can =
    let none : (h ≡ []) × (owed ≡ []) = can (omega arith) in
    ap (λ (x : List Entry). owed_of (paid (seen o rs h (r ∷ coming) x))) none.1
    ∙ ap (λ (x : List Entry). drop 1 (owed_of (seen o rs h (r ∷ coming) x))) (sym none.1)

pub owed_paid : (v : ReplayView) → IsPayable v → owed_of (paid v) ≡ drop 1 (owed_of v)
owed_paid v can = owed_by v.opened v.records v.coming v.past v.owed can

opened_by : (o : Opened) (rs coming : List Record) (h owed : List Entry) → (paid (seen o rs h coming owed)).opened ≡ o
opened_by o rs [] h owed = refl
opened_by o rs (r ∷ coming) h owed = refl

pub opened_paid : (v : ReplayView) → (paid v).opened ≡ v.opened
opened_paid v = opened_by v.opened v.records v.coming v.past v.owed

-- a change that is told is one of what was kept

kept_by : (told : SaidLists) (r : Record) (place : ℕ) (o : Option (List ℕ)) (change : Change) → o ≡ kept_otherwise told r.shard place r.seq → option_map (change_of r place) o ≡ Some change → IsKeptChange told change
kept_by told r place None change is found = absurd (cc)
kept_by told r place (Some kept) change is found =
    subst (IsKeptChange told) (same_Some (change_of r place kept) change found) (record { found = sym is })

either_by : (o rest : Option Change) (change : Change) (P : Change → Type 0) → (o ≡ Some change → P change) → (rest ≡ Some change → P change) → option_or o rest ≡ Some change → P change
either_by None rest change P here there is = there is
either_by (Some c) rest change P here there is = here is

pub kept_change : (told : SaidLists) (before items : List Record) (change : Change) → first_change told before items ≡ Some change → IsKeptChange told change
kept_change told before [] change is = absurd (cc)
kept_change told before (r ∷ rs) change is =
    either_by (change_at told before r) (first_change told (before ++ r ∷ []) rs) change (IsKeptChange told)
    (λ here. kept_by told r (length (of_shard r.shard before)) (kept_otherwise told r.shard (length (of_shard r.shard before)) r.seq) change refl here)
    (λ there. kept_change told (before ++ r ∷ []) rs change there) is
