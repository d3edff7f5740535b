-- A whole input, after the lines of it that ended.
use Rattle.std.proofs.Common.{◌≡◌, ℕ, Bool, true, false, cond, ltb, List, [], ◌∷◌, ◌++◌, length, Option, Some, None, Result, Ok, Err, refl, sym, ap, ◌∙◌}
use Rattle.std.specs.Prelude.{is_some, IsSome}
use Rattle.std.proofs.lemmas.List.{append-nil}
use Rattle.esm_record.specs.declared.error.LineError.{LineError}
use Rattle.esm_record.specs.declared.error.BadLine.{BadLine}
use Rattle.esm_model.specs.declared.item.LineKind.{LineKind}
use Rattle.esm_model.specs.declared.item.Item.{Item}
use Rattle.esm_record.specs.Input.{Input, add_line, after_line, read_after, read_lines, lines_of, ended, begun, input_so_far, input_of}
use Rattle.esm_record.specs.GoesOn.{GoesOnFrom}
use Rattle.esm_record.proofs.Splits.{lines_are}
use Rattle.esm_record.proofs.Inputs.{read_push, bad_whole}

abbrev More : List Item → List Item → Type 0
More front whole = (more : List Item) × (whole ≡ front ++ more)

more_none : (items : List Item) → More items items
more_none items = ([], sym (append-nil items))

more_said : (i : Input) (said : Result (Option Item) LineError) → More i.items (after_line i said).items
more_said i (Ok None) = more_none i.items
more_said i (Ok (Some item)) = (item ∷ [], refl)
more_said i (Err why) = more_none i.items

more_by : (stop : Bool) (i j : Input) → More i.items j.items → More i.items (cond stop i j).items
more_by true i j more = more_none i.items
more_by false i j more = more

more_line : (kind : LineKind) (i : Input) (line : List ℕ) → More i.items (add_line kind i line).items
more_line kind i line = more_by (is_some i.bad) i (after_line i (read_after kind i.items line)) (more_said i (read_after kind i.items line))

-- the last line is read so far where it is too long already, and else it is read now
more_by_long : (kind : LineKind) (ls : List (List ℕ)) (last : List ℕ) (long : Bool) → More (read_lines kind (ls ++ cond long (last ∷ []) [])).items (read_lines kind (ls ++ last ∷ [])).items
more_by_long kind ls last true = more_none (read_lines kind (ls ++ last ∷ [])).items
more_by_long kind ls last false =
    let more = more_line kind (read_lines kind ls) last in
    let before : read_lines kind (ls ++ []) ≡ read_lines kind ls = ap (read_lines kind) (append-nil ls) in
    (more.0, ap (λ (i : Input). i.items) (read_push kind ls last) ∙ more.1 ∙ ap (λ (i : Input). i.items ++ more.0) (sym before))

more_items : (kind : LineKind) (bytes : List ℕ) → More (input_so_far kind bytes).items (input_of kind bytes).items
unfolding input_so_far input_of
more_items kind bytes =
    let more = more_by_long kind (ended (lines_of bytes)) (begun (lines_of bytes)) (ltb 8388608 (length (begun (lines_of bytes)))) in
    (more.0, ap (λ (ls : List (List ℕ)). (read_lines kind ls).items) (lines_are bytes) ∙ more.1)

bad_then : (o : Option BadLine) (P : Type 0) → ((b : BadLine) → o ≡ Some b → P) → IsSome o → P
bad_then (Some b) P then some = then b refl
bad_then None P then some = absurd (cc)

pub whole_goes_on : (kind : LineKind) (bytes : List ℕ) → GoesOnFrom (input_so_far kind bytes) (input_of kind bytes)
whole_goes_on kind bytes = record {
  more = (more_items kind bytes).0;
  items = (more_items kind bytes).1;
  stopped = bad_then (input_so_far kind bytes).bad (input_of kind bytes ≡ input_so_far kind bytes) (bad_whole kind bytes);
}
