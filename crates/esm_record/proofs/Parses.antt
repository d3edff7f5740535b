-- Reading a line is parsing it and then judging what it says.
use Rattle.std.proofs.Common.{◌≡◌, ℕ, Bool, true, false, cond, ltb, List, [], ◌∷◌, length, Option, None, Result, Ok, Err, refl, ap, ◌∙◌}
use Rattle.std.specs.Prelude.{fold, map, is_some}
use Rattle.esm_model.specs.declared.item.LineKind.{LineKind}
use Rattle.esm_model.specs.declared.item.LineKind.TheVariants as kinds
use Rattle.esm_model.specs.declared.item.Item.{Item}
use Rattle.esm_model.specs.declared.item.Item.TheVariants.{Stream, Queue}
use Rattle.esm_model.specs.Records.{Record}
use Rattle.esm_model.specs.declared.item.Message.{Message}
use Rattle.esm_record.specs.declared.error.LineError.{LineError}
use Rattle.esm_record.specs.declared.error.LineError.TheVariants.{LineTooLong}
use Rattle.esm_record.specs.Line.{◌>>=◌, line_of, record_of, message_of}
use Rattle.esm_record.specs.Input.{Input, is_blank, in_order, last_number, as_new, has_stood, some_item, item_of, read_after, after_line, add_line}
use Rattle.esm_record.specs.Parsing.{item_alone, parse_line, judge, add_parsed}

record_judged : (items : List Item) (said : Result Record LineError) → some_item Stream (said >>= λ r. in_order (last_number r.shard items) r) ≡ judge items (some_item Stream said)
record_judged items (Ok r) = refl
record_judged items (Err why) = refl

message_judged : (items : List Item) (said : Result Message LineError) → some_item Queue (said >>= λ m. as_new (has_stood m.id items) m) ≡ judge items (some_item Queue said)
message_judged items (Ok m) = refl
message_judged items (Err why) = refl

item_judged : (kind : LineKind) (items : List Item) (line : List ℕ) → item_of kind items line ≡ judge items (item_alone kind line)
item_judged kinds.Stream items line = record_judged items (line_of record_of line)
item_judged (kinds.Queue fifo) items line = message_judged items (line_of (message_of fifo) line)

either_judged : (long blank : Bool) (items : List Item) (a b : Result (Option Item) LineError) → a ≡ judge items b → cond long (Err LineTooLong) (cond blank (Ok None) a) ≡ judge items (cond long (Err LineTooLong) (cond blank (Ok None) b))
either_judged true blank items a b same = refl
either_judged false true items a b same = refl
either_judged false false items a b same = same

pub read_judged : (kind : LineKind) (items : List Item) (line : List ℕ) → read_after kind items line ≡ judge items (parse_line kind line)
read_judged kind items line = either_judged (ltb 8388608 (length line)) (is_blank line) items (item_of kind items line) (item_alone kind line) (item_judged kind items line)

pub add_judged : (kind : LineKind) (input : Input) (line : List ℕ) → add_line kind input line ≡ add_parsed input (parse_line kind line)
add_judged kind input line = ap (λ (said : Result (Option Item) LineError). cond (is_some input.bad) input (after_line input said)) (read_judged kind input.items line)

pub all_judged : (kind : LineKind) (input : Input) (lines : List (List ℕ)) → fold (add_line kind) input lines ≡ fold add_parsed input (map (parse_line kind) lines)
all_judged kind input [] = refl
all_judged kind input (line ∷ lines) =
    ap (λ (i : Input). fold (add_line kind) i lines) (add_judged kind input line) ∙ all_judged kind (add_parsed input (parse_line kind line)) lines
