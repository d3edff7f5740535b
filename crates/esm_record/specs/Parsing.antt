-- What a line is by itself, and how the items before it judge that. Only this crate's proofs cite this.
use Rattle.std.specs.Prelude.{ℕ, nat_lt, List, map, length, Option, Some, None, is_some, Result, Ok, Err, if◌then◌else◌}
use Rattle.esm_model.specs.declared.limits.TheConstants.{MAX_LINE}
use Rattle.esm_model.specs.declared.item.LineKind.{LineKind}
use Rattle.esm_model.specs.declared.item.LineKind.TheVariants as kinds
use Rattle.esm_model.specs.declared.item.Item.{Item}
use Rattle.esm_model.specs.declared.item.Item.TheVariants.{Stream, Queue}
use Rattle.esm_record.specs.declared.error.LineError.{LineError}
use Rattle.esm_record.specs.declared.error.LineError.TheVariants.{LineTooLong}
use Rattle.esm_record.specs.Line.{line_of, record_of, message_of}
use Rattle.esm_record.specs.Input.{Input, is_blank, lines_of, ended, in_order, last_number, as_new, has_stood, some_item, after_line}

-- the item of a line that is neither blank nor too long, regardless of the lines before
abbrev pub item_alone : LineKind → List ℕ → Result (Option Item) LineError
item_alone kinds.Stream line = some_item Stream (line_of record_of line)
item_alone (kinds.Queue fifo) line = some_item Queue (line_of (message_of fifo) line)

-- what a line is, regardless of the lines before: blank, an item, or unreadable
abbrev pub parse_line : LineKind → List ℕ → Result (Option Item) LineError
parse_line kind line =
    if nat_lt MAX_LINE (length line) then Err LineTooLong
    else (if is_blank line then Ok None else item_alone kind line)

-- the lines that a line feed ends
abbrev pub parsed_lines : LineKind → List ℕ → List (Result (Option Item) LineError)
parsed_lines kind bytes = map (parse_line kind) (ended (lines_of bytes))

-- the item after these items, or why it is refused
abbrev pub judge_item : List Item → Item → Result (Option Item) LineError
judge_item items (Stream r) = some_item Stream (in_order (last_number r.shard items) r)
judge_item items (Queue m) = some_item Queue (as_new (has_stood m.id items) m)

-- what a line is after these items, from what it is by itself
abbrev pub judge : List Item → Result (Option Item) LineError → Result (Option Item) LineError
judge items (Ok None) = Ok None
judge items (Ok (Some item)) = judge_item items item
judge items (Err why) = Err why

-- the input with the next line, from what that is by itself; after a bad line nothing is read
abbrev pub add_parsed : Input → Result (Option Item) LineError → Input
add_parsed input parsed = if is_some input.bad then input else after_line input (judge input.items parsed)
