-- The meaning of filter criteria: the patterns in the texts.
use Rattle.std.specs.Prelude.{◌≡◌, true, false, ℕ, List, map, String, Vec, Result, Ok, Err}
use Rattle.std.specs.declared.alloc.Global.{Global}
use Rattle.esm_model.specs.Pattern.{Fields, Refusal, Reads}
use Rattle.serde_json.specs.Read.{read}
use Rattle.esm_model.specs.Json.{read_json}
use Rattle.esm_model.specs.Valid.{is_stream}
use Rattle.esm_model.specs.Filter.{patterns_pass, in_record, in_message, passes, passes_message}
use Rattle.esm_model.specs.declared.config.Kind.{Kind}
use Rattle.esm_model.specs.Records.{Record}
use Rattle.esm_model.specs.declared.item.Message.{Message}
use Rattle.esm_filter.specs.ReadOutcome.{refusal_view}
use Rattle.esm_filter.specs.View.{fields_view}
use Rattle.esm_filter.specs.declared.pattern.Rule.{Rule}
use Rattle.esm_filter.specs.declared.criteria.Criteria.{Criteria}
use Rattle.esm_filter.specs.declared.error.FilterError.{FilterError}
use Rattle.esm_filter.specs.declared.error.FilterError.TheVariants.{BadPattern, OutOfMemory}

abbrev pub patterns_view : List (Vec (String Global × Rule) Global) → List Fields
patterns_view ps = map (λ p. fields_view p.items) ps

abbrev pub patterns_of : Criteria → List Fields
patterns_of c = patterns_view c.patterns.items

-- the text with this index is the pattern, or is refused
abbrev pub IsOneRead : ℕ → Result (Vec (String Global × Rule) Global) FilterError → Reads Fields → Type 0
IsOneRead place (Ok p) r = r ≡ Ok (fields_view p.items)
IsOneRead place (Err (BadPattern filter why)) r = (filter ≡ place) × (r ≡ Err (refusal_view why))
IsOneRead place (Err OutOfMemory) r = Unit {0}

-- all texts are patterns, or the first that is none is named; `OutOfMemory` says nothing
abbrev pub IsRead : Result Criteria FilterError → Result (List Fields) (ℕ × Refusal) → Type 0
IsRead (Ok c) r = r ≡ Ok (patterns_of c)
IsRead (Err (BadPattern filter why)) r = r ≡ Err (filter, refusal_view why)
IsRead (Err OutOfMemory) r = Unit {0}

-- criteria of a stream: a record passes them if and only if it passes the texts
abbrev pub JudgesRecords : Kind → List (List ℕ) → Criteria → Type 0
JudgesRecords kind texts c = (r : Record) → is_stream kind ≡ true → patterns_pass (patterns_of c) (in_record r (read_json r.payload)) ≡ passes texts r

-- criteria of a queue: a message passes them if and only if it passes the texts
abbrev pub JudgesMessages : Kind → List (List ℕ) → Criteria → Type 0
JudgesMessages kind texts c = (m : Message) → is_stream kind ≡ false → patterns_pass (patterns_of c) (in_message m (read m.body)) ≡ passes_message texts m
