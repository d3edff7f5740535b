-- The front of an input's bytes reads as the front of all of them, and where its reading ended, so does that of all.
use Rattle.std.proofs.Common.{◌≡◌, ◌∙◌, ℕ, Bool, true, false, cond, ltb, List, [], ◌∷◌, ◌++◌, length, refl, sym, ap, subst, append_assoc, Option, Some, None, Result, Ok, Err}
use Rattle.std.specs.Prelude.{fold, is_some, IsSome}
use Rattle.std.proofs.lemmas.List.{append-nil}
use Rattle.std.proofs.lemmas.List.Sums.{fold-append}
use Rattle.esm_input.specs.Limits.{Limited, limited_after}
use Rattle.esm_input.specs.Reading.{EndsBy, items_read}
use Rattle.esm_input.specs.declared.ending.InputEnd.{InputEnd}
use Rattle.esm_input.specs.declared.ending.InputEnd.TheVariants as ends
use Rattle.esm_io.specs.Faults.{Rose}
use Rattle.esm_model.specs.declared.item.Item.{Item}
use Rattle.esm_model.specs.declared.item.LineKind.{LineKind}
use Rattle.esm_model.specs.declared.names.LimitName.{LimitName}
use Rattle.esm_record.specs.Input.{Input, add_line, after_line, begun, ended, input_so_far, lines_of, nothing_read, read_after, read_lines}
use Rattle.esm_record.specs.declared.error.BadLine.{BadLine}
use Rattle.esm_record.specs.declared.error.LineError.{LineError}
use Rattle.esm_record.proofs.Inputs.{bad_for_ever, read_push}
use Rattle.esm_record.proofs.Splits.{goes_on, settled}
use Rattle.esm_run.proofs.Fronts.{IsFront, front_same, limit_stays, limited_more}
use Rattle.esm_run.proofs.OneReading.{WholeGoesOn, at_end, end_at, front_of_all}

pub front_then : {A : Type 0} (xs ys zs : List A) → IsFront xs ys → IsFront ys zs → IsFront xs zs
front_then xs ys zs one other = (one.0 ++ other.0, other.1 ∙ ap (λ l. l ++ other.0) one.1 ∙ append_assoc xs one.0 other.0)

-- the items of the first lines are a front of those of all lines

said_front : (i : Input) (said : Result (Option Item) LineError) → IsFront i.items (after_line i said).items
said_front i (Ok None) = front_same i.items
said_front i (Ok (Some item)) = (item ∷ [], refl)
said_front i (Err why) = front_same i.items

stop_front : (stop : Bool) (i j : Input) → IsFront i.items j.items → IsFront i.items (cond stop i j).items
stop_front true i j front = front_same i.items
stop_front false i j front = front

line_front : (kind : LineKind) (i : Input) (line : List ℕ) → IsFront i.items (add_line kind i line).items
line_front kind i line = stop_front (is_some i.bad) i (after_line i (read_after kind i.items line)) (said_front i (read_after kind i.items line))

lines_front : (kind : LineKind) (i : Input) (ls : List (List ℕ)) → IsFront i.items (fold (add_line kind) i ls).items
lines_front kind i [] = front_same i.items
lines_front kind i (l ∷ ls) =
    front_then i.items (add_line kind i l).items (fold (add_line kind) (add_line kind i l) ls).items (line_front kind i l) (lines_front kind (add_line kind i l) ls)

read_front : (kind : LineKind) (ls more : List (List ℕ)) → IsFront (read_lines kind ls).items (read_lines kind (ls ++ more)).items
read_front kind ls more =
    subst (λ (i : Input). IsFront (read_lines kind ls).items i.items) (sym (fold-append (add_line kind) nothing_read ls more)) (lines_front kind (read_lines kind ls) more)

-- a line that is too long is bad

stopped_bad : (o : Option BadLine) (i j : Input) → i.bad ≡ o → IsSome j.bad → IsSome (cond (is_some o) i j).bad
stopped_bad (Some b) i j is some = subst IsSome (sym is) refl
stopped_bad None i j is some = some

long_bad : (kind : LineKind) (i : Input) (line : List ℕ) → ltb 8388608 (length line) ≡ true → IsSome (add_line kind i line).bad
long_bad kind i line long = stopped_bad i.bad i (after_line i (read_after kind i.items line)) refl (rw long refl)

bad_line : (o : Option BadLine) → IsSome o → (b : BadLine) × (o ≡ Some b)
bad_line (Some b) some = (b, refl)
bad_line None some = absurd (cc)

-- so the items of the first bytes are a front of those of all bytes

more_by : (kind : LineKind) (bytes more : List ℕ) (long : Bool) → ltb 8388608 (length (begun (lines_of bytes))) ≡ long
    → input_so_far kind bytes ≡ read_lines kind (ended (lines_of bytes) ++ cond long (begun (lines_of bytes) ∷ []) [])
    → IsFront (input_so_far kind bytes).items (input_so_far kind (bytes ++ more)).items
unfolding input_so_far
more_by kind bytes more false short is =
    let (part, others, e) = goes_on bytes more in
    let ls : List (List ℕ) = ended (lines_of bytes) in
    subst (λ (i : Input). IsFront (input_so_far kind bytes).items i.items) (sym (ap (read_lines kind) e))
    (subst (λ (i : Input). IsFront i.items (read_lines kind (ls ++ settled ((begun (lines_of bytes) ++ part) ∷ others))).items) (sym (is ∙ ap (read_lines kind) (append-nil ls)))
    (read_front kind ls (settled ((begun (lines_of bytes) ++ part) ∷ others))))
more_by kind bytes more true long is =
    let ls : List (List ℕ) = ended (lines_of bytes) in
    let last : List ℕ = begun (lines_of bytes) in
    let some : IsSome (input_so_far kind bytes).bad =
    subst (λ (i : Input). IsSome i.bad) (sym (is ∙ read_push kind ls last)) (long_bad kind (read_lines kind ls) last long) in
    let bad = bad_line (input_so_far kind bytes).bad some in
    subst (λ (i : Input). IsFront (input_so_far kind bytes).items i.items) (sym (bad_for_ever kind bytes more bad.0 bad.1)) (front_same (input_so_far kind bytes).items)

more_items : (kind : LineKind) (bytes more : List ℕ) → IsFront (input_so_far kind bytes).items (input_so_far kind (bytes ++ more)).items
unfolding input_so_far
more_items kind bytes more = more_by kind bytes more (ltb 8388608 (length (begun (lines_of bytes)))) refl refl

-- a reading that ended in the first bytes would have ended so in all of them

record GoesOnSo (kind : LineKind) (factor before now : ℕ) (bytes more : List ℕ) (e : InputEnd) : Type 0 where
  pub ends : EndsBy kind factor before now false (bytes ++ more) e
  pub items : items_read kind factor false bytes ≡ items_read kind factor false (bytes ++ more)

bad_goes : (kind : LineKind) (factor before now : ℕ) (bytes more : List ℕ) (bad : BadLine) → EndsBy kind factor before now false bytes (ends.BadLine bad) → GoesOnSo kind factor before now bytes more (ends.BadLine bad)
bad_goes kind factor before now bytes more bad cause =
    let same : input_so_far kind (bytes ++ more) ≡ input_so_far kind bytes = bad_for_ever kind bytes more bad cause.first in
    record {
      ends = record { first = ap (λ (i : Input). i.bad) same ∙ cause.first; no_limit = ap (λ (i : Input). (limited_after factor [] i.items).limit) same ∙ cause.no_limit };
      items = sym (ap (λ (i : Input). limited_after factor [] i.items) same);
    }

limit_goes : (kind : LineKind) (factor before now : ℕ) (bytes more : List ℕ) (limit : LimitName) → EndsBy kind factor before now false bytes (ends.Limit limit) → GoesOnSo kind factor before now bytes more (ends.Limit limit)
limit_goes kind factor before now bytes more limit cause =
    let front = more_items kind bytes more in
    let same : items_read kind factor false (bytes ++ more) ≡ items_read kind factor false bytes =
    ap (limited_after factor []) front.1 ∙ limit_stays factor [] (input_so_far kind bytes).items front.0 limit cause in
    record { ends = ap (λ (v : Limited). v.limit) same ∙ cause; items = sym same }

goes_so : (kind : LineKind) (factor before now : ℕ) (bytes more : List ℕ) (e : InputEnd) → ¬ Rose before now → EndsBy kind factor before now false bytes e → GoesOnSo kind factor before now bytes more e
goes_so kind factor before now bytes more ends.End sound cause = (let untrue : false ≡ true = cause.0 in absurd (cc))
goes_so kind factor before now bytes more (ends.BadLine bad) sound cause = bad_goes kind factor before now bytes more bad cause
goes_so kind factor before now bytes more ends.Fault sound cause = absurd (sound cause.1)
goes_so kind factor before now bytes more (ends.Limit limit) sound cause = limit_goes kind factor before now bytes more limit cause

-- so the bytes that were read of a text tell how its reading ends

pub ends_in : (kind : LineKind) (factor before now : ℕ) (whole : Bool) (bytes rest text : List ℕ) (e : InputEnd) → WholeGoesOn → ¬ Rose before now → text ≡ bytes ++ rest → (whole ≡ true → rest ≡ [])
    → EndsBy kind factor before now whole bytes e → (e ≡ end_at kind factor true text) × (items_read kind factor whole bytes ≡ items_read kind factor true text)
ends_in kind factor before now true bytes rest text e goes sound is at_end' cause =
    let same : text ≡ bytes = is ∙ ap (λ r. bytes ++ r) (at_end' refl) ∙ append-nil bytes in
    subst (λ l. (e ≡ end_at kind factor true l) × (items_read kind factor true bytes ≡ items_read kind factor true l)) (sym same)
    (at_end kind factor before now true bytes e sound (goes kind bytes) cause)
ends_in kind factor before now false bytes rest text e goes sound is at_end' cause =
    let on = goes_so kind factor before now bytes rest e sound cause in
    let all = at_end kind factor before now false (bytes ++ rest) e sound (goes kind (bytes ++ rest)) on.ends in
    subst (λ l. (e ≡ end_at kind factor true l) × (items_read kind factor false bytes ≡ items_read kind factor true l)) (sym is) (all.0, on.items ∙ all.1)

pub front_in : (kind : LineKind) (factor : ℕ) (whole : Bool) (bytes rest text : List ℕ) → WholeGoesOn → text ≡ bytes ++ rest → (whole ≡ true → rest ≡ [])
    → IsFront (items_read kind factor whole bytes).items (items_read kind factor true text).items
front_in kind factor true bytes rest text goes is at_end' =
    let same : text ≡ bytes = is ∙ ap (λ r. bytes ++ r) (at_end' refl) ∙ append-nil bytes in
    subst (λ l. IsFront (items_read kind factor true bytes).items (items_read kind factor true l).items) (sym same) (front_same (items_read kind factor true bytes).items)
front_in kind factor false bytes rest text goes is at_end' =
    let front = more_items kind bytes rest in
    let first : IsFront (items_read kind factor false bytes).items (items_read kind factor false (bytes ++ rest)).items =
    subst (λ items. IsFront (items_read kind factor false bytes).items (limited_after factor [] items).items) (sym front.1) (limited_more factor [] (input_so_far kind bytes).items front.0) in
    subst (λ l. IsFront (items_read kind factor false bytes).items (items_read kind factor true l).items) (sym is)
    (front_then (items_read kind factor false bytes).items (items_read kind factor false (bytes ++ rest)).items (items_read kind factor true (bytes ++ rest)).items first
    (front_of_all kind factor false (bytes ++ rest) (goes kind (bytes ++ rest))))
