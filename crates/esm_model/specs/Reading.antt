-- How a stream's answer is read. Source: the Lambda Developer Guide, "Reporting batch item failures" for Kinesis
-- (`batchItemFailures`, `itemIdentifier`; the lowest sequence number counts). That every status other than 200 counts as
-- not run is this product's own.
use Rattle.std.specs.Prelude.{ℕ, zero, suc, min, ◌==◌, List, [], ◌∷◌, codes, Bool, true, false, not, ◌&&◌, ◌||◌, if◌then◌else◌, Option, Some, None, option_map, option_and_then}
use Rattle.std.specs.List.{fold, position}
use Rattle.std.specs.Str.{bytes_eq}
use Rattle.serde_json.specs.Data.{Data, null, array, object, Items, no_items, item}
use Rattle.serde_json.specs.Find.{get, get_member, as_str}
use Rattle.esm_model.specs.Json.{read_json}
use Rattle.esm_model.specs.State.{state_read}
use Rattle.esm_model.specs.declared.config.Config.{Config}
use Rattle.esm_model.specs.declared.entry.Reply.{Reply}
use Rattle.esm_model.specs.declared.entry.Reply.TheVariants.{Answered, Garbled, Lost}
use Rattle.esm_model.specs.declared.verdict.Reading.{Reading}
use Rattle.esm_model.specs.declared.verdict.Reading.TheVariants.{Whole, NotRun, Failed, UpTo}
use Rattle.esm_model.specs.declared.verdict.StateRead.{StateRead}
use Rattle.esm_model.specs.declared.verdict.StateRead.TheVariants.{Empty, Span, Bad}

-- ---- item failures

-- the position in the batch that an element of `batchItemFailures` reports
abbrev pub reported : List (List ℕ) → Data → Option ℕ
reported ids failure = option_and_then (λ id. position (λ i. bytes_eq i id) ids) (option_and_then as_str (get (codes "itemIdentifier") failure))

-- the positions that the elements report; none where one of them reports no record of the batch
abbrev pub all_reported : List (List ℕ) → Items → Option (List ℕ)
all_reported ids no_items = Some []
all_reported ids (item d ds) = option_and_then (λ p. option_map (λ ps. p ∷ ps) (all_reported ids ds)) (reported ids d)

-- the records before the position succeeded
abbrev pub reading_before : ℕ → Reading
reading_before zero = Failed
reading_before (suc p) = UpTo (suc p)

-- from the positions reported: the least counts
abbrev pub least_reading : Option (List ℕ) → Reading
least_reading None = Failed
least_reading (Some []) = Whole
least_reading (Some (p ∷ ps)) = reading_before (fold min p ps)

-- from the value of `batchItemFailures`
abbrev pub failures_reading : List (List ℕ) → Option Data → Reading
failures_reading ids None = Whole
failures_reading ids (Some null) = Whole
failures_reading ids (Some (array ds)) = least_reading (all_reported ids ds)
failures_reading ids (Some _) = Failed

-- from the whole answer
abbrev pub body_reading : List (List ℕ) → Option Data → Reading
body_reading ids (Some null) = Whole
body_reading ids (Some (object ms)) = failures_reading ids (get_member (codes "batchItemFailures") ms)
body_reading ids _ = Failed

-- from the batch's sequence numbers and the answer's body
unfoldable pub item_reading : List (List ℕ) → List ℕ → Reading
item_reading ids [] = Whole
item_reading ids (x ∷ xs) = body_reading ids (read_json (x ∷ xs))

-- ---- the whole reply

abbrev pub is_bad : StateRead → Bool
is_bad Empty = false
is_bad (Span from to) = false
is_bad Bad = true

-- tumbling windows are configured, and the state is none that a window can have
abbrev pub has_bad_state : Config → List ℕ → Bool
has_bad_state c body = not (c.tumbling_ms == 0) && is_bad (state_read body)

-- the reading of an answer with status 200 and no error
abbrev pub run_reading : Config → List (List ℕ) → Bool → List ℕ → Reading
run_reading c ids closing body = if has_bad_state c body then Failed else (if not c.item_failures || closing then Whole else item_reading ids body)

-- From the batch's sequence numbers, in order, and the reply. `closing` says that the call was a window's final one.
abbrev pub reading : Config → List (List ℕ) → Bool → Reply → Reading
reading c ids closing Lost = Failed
reading c ids closing (Garbled bytes) = Failed
reading c ids closing (Answered status error body) = if not (status == 200) then NotRun else (if error then Failed else run_reading c ids closing body)
