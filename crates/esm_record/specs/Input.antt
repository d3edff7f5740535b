-- The items of an input, and its first bad line. Sources: JSON Lines for the lines; the Kinesis API Reference,
-- `SequenceNumber` (a shard's numbers rise); the SQS API Reference, `MessageId` (a queue's ids differ). The limit of a line
-- and the names of the refusals are this product's own.
use Rattle.std.specs.Prelude.{ℕ, ◌+◌, ◌==◌, nat_lt, Bool, false, ◌||◌, List, [], ◌∷◌, ◌++◌, length, fold, Option, Some, None, is_some, Result, Ok, Err, if◌then◌else◌}
use Rattle.std.specs.List.{list_all, list_any, slice_split}
use Rattle.std.specs.Str.{bytes_eq}
use Rattle.std.specs.Ordering.{is_lt}
use Rattle.esm_model.specs.declared.limits.TheConstants.{MAX_LINE}
use Rattle.esm_model.specs.Sequence.{sequence_order}
use Rattle.esm_model.specs.Records.{Record}
use Rattle.esm_model.specs.declared.item.Message.{Message}
use Rattle.esm_record.specs.declared.error.LineError.{LineError}
use Rattle.esm_record.specs.declared.error.LineError.TheVariants.{LineTooLong, Backwards, Repeated}
use Rattle.esm_record.specs.declared.error.BadLine.{BadLine}
use Rattle.esm_model.specs.declared.item.LineKind.{LineKind}
use Rattle.esm_model.specs.declared.item.LineKind.TheVariants as kinds
use Rattle.esm_model.specs.declared.item.Item.{Item}
use Rattle.esm_model.specs.declared.item.Item.TheVariants.{Stream, Queue}
use Rattle.esm_record.specs.Line.{◌>>=◌, line_of, record_of, message_of}

abbrev pub is_line_feed : ℕ → Bool
is_line_feed b = b == 10

-- space, tab, carriage return
abbrev pub is_blank_byte : ℕ → Bool
is_blank_byte b = (b == 32) || (b == 9) || (b == 13)

abbrev pub is_blank : List ℕ → Bool
is_blank line = list_all is_blank_byte line

-- the parts between line feeds; the last part has no line feed after it
abbrev pub lines_of : List ℕ → List (List ℕ)
lines_of bytes = slice_split is_line_feed bytes

-- the lines that a line feed ends
abbrev pub ended : List (List ℕ) → List (List ℕ)
ended [] = []
ended (line ∷ []) = []
ended (line ∷ next ∷ more) = line ∷ ended (next ∷ more)

-- what comes after the last line feed
abbrev pub begun : List (List ℕ) → List ℕ
begun [] = []
begun (line ∷ []) = line
begun (line ∷ next ∷ more) = begun (next ∷ more)

-- the last sequence number of the shard, by the items in order
abbrev pub number_after : ℕ → Option (List ℕ) → Item → Option (List ℕ)
number_after shard last (Stream r) = if r.shard == shard then Some r.seq else last
number_after shard last (Queue m) = last

abbrev pub last_number : ℕ → List Item → Option (List ℕ)
last_number shard items = fold (number_after shard) None items

-- the record's number is greater than the shard's last one
abbrev pub in_order : Option (List ℕ) → Record → Result Record LineError
in_order None r = Ok r
in_order (Some kept) r = if is_lt (sequence_order kept r.seq) then Ok r else Err (Backwards kept r.seq)

-- the record of a line, given the shards' last numbers
abbrev pub next_record : (ℕ → Option (List ℕ)) → List ℕ → Result Record LineError
next_record last line = line_of record_of line >>= λ r. in_order (last r.shard) r

-- the item is a message of this id
abbrev pub has_id : List ℕ → Item → Bool
has_id id (Stream r) = false
has_id id (Queue m) = bytes_eq m.id id

-- the id occurred before
abbrev pub has_stood : List ℕ → List Item → Bool
has_stood id items = list_any (has_id id) items

-- the message, if its id did not occur before
abbrev pub as_new : Bool → Message → Result Message LineError
as_new stood m = if stood then Err (Repeated m.id) else Ok m

-- the message of a line, given the ids that occurred before and whether the queue is FIFO
abbrev pub next_message : (List ℕ → Bool) → Bool → List ℕ → Result Message LineError
next_message stood fifo line = line_of (message_of fifo) line >>= λ m. as_new (stood m.id) m

abbrev pub some_item : {A : Type 0} → (A → Item) → Result A LineError → Result (Option Item) LineError
some_item make (Ok x) = Ok (Some (make x))
some_item make (Err why) = Err why

-- the item of a line that is neither blank nor too long, after these items
abbrev pub item_of : LineKind → List Item → List ℕ → Result (Option Item) LineError
item_of kinds.Stream items line = some_item Stream (next_record (λ shard. last_number shard items) line)
item_of (kinds.Queue fifo) items line = some_item Queue (next_message (λ id. has_stood id items) fifo line)

-- what a line is after these items: blank, an item, or refused
abbrev pub read_after : LineKind → List Item → List ℕ → Result (Option Item) LineError
read_after kind items line =
    if nat_lt MAX_LINE (length line) then Err LineTooLong
    else (if is_blank line then Ok None else item_of kind items line)

-- the number of good lines so far, their items, and the first bad line
pub record Input : Type 0 where
  pub lines : ℕ
  pub items : List Item
  pub bad : Option BadLine

abbrev pub nothing_read : Input
nothing_read = record { lines = 0; items = []; bad = None }

abbrev pub after_line : Input → Result (Option Item) LineError → Input
after_line input (Ok None) = record input { lines = input.lines + 1 }
after_line input (Ok (Some item)) = record input { lines = input.lines + 1; items = input.items ++ item ∷ [] }
after_line input (Err why) = record input { bad = Some (record { line = input.lines + 1; why = why }) }

-- the input with the next line; after a bad line nothing is read
abbrev pub add_line : LineKind → Input → List ℕ → Input
add_line kind input line = if is_some input.bad then input else after_line input (read_after kind input.items line)

abbrev pub read_lines : LineKind → List (List ℕ) → Input
read_lines kind lines = fold (add_line kind) nothing_read lines

-- all lines of the bytes, including a last one without a line feed
unfoldable pub input_of : LineKind → List ℕ → Input
input_of kind bytes = read_lines kind (lines_of bytes)

-- the line, which has no line feed yet, if it is too long already
abbrev pub too_long : List ℕ → List (List ℕ)
too_long line = if nat_lt MAX_LINE (length line) then line ∷ [] else []

-- the lines of the bytes that a line feed ends, and a last one that is too long already
unfoldable pub input_so_far : LineKind → List ℕ → Input
input_so_far kind bytes = read_lines kind (ended (lines_of bytes) ++ too_long (begun (lines_of bytes)))

-- what a reader of lines was fed
pub record Feeding : Type 0 where
  pub kind : LineKind
  pub bytes : List ℕ
  -- one of its calls ran out of memory
  pub failed : Bool
  pub finished : Bool
