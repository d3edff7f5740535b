-- The dead-letter file: which message each of its payloads has. This product's own.
use Rattle.std.specs.Prelude.{◌≡◌, ℕ, ◌<◌, Bool, true, List, [], ◌∷◌, ◌++◌, filter_map, map, Option, Some, None, option_map, is_some, length, slice_get, Result, Ok, Err, if◌then◌else◌}
use Rattle.std.specs.List.{list_any}
use Rattle.std.specs.String.{string_bytes}
use Rattle.std.specs.BTreeSet.{BTreeSet, keys}
use Rattle.std.specs.declared.string.String.{String}
use Rattle.esm_model.specs.declared.item.Message.{Message}
use Rattle.esm_record.specs.declared.error.LineError.{LineError}
use Rattle.esm_model.specs.declared.item.Item.{Item}
use Rattle.esm_model.specs.declared.item.Item.TheVariants.{Stream, Queue}
use Rattle.esm_model.specs.declared.item.LineKind.TheVariants as kinds
use Rattle.esm_record.specs.Input.{is_line_feed, read_after, input_so_far, input_of}
use Rattle.esm_redrive.specs.declared.dead_file.DeadFileError.{DeadFileError}
use Rattle.esm_redrive.specs.declared.dead_file.DeadFileError.TheVariants.{BadLine, OutOfMemory}

-- the message that a line reads as, if it reads as one
abbrev pub message_read : Result (Option Item) LineError → Option Message
message_read (Ok (Some (Queue m))) = Some m
message_read (Ok (Some (Stream r))) = None
message_read (Ok None) = None
message_read (Err why) = None

-- what the payload reads as on its own: these items, behind those that are read before its end
abbrev pub AreItemsAlone : Bool → List ℕ → List Item → Type 0
AreItemsAlone fifo payload items = (input_so_far (kinds.Queue fifo) payload).items ++ items ≡ (input_of (kinds.Queue fifo) payload).items

-- the message of the first item, if it has one
abbrev pub message_in : List Item → Option Message
message_in [] = None
message_in (Queue m ∷ items) = Some m
message_in (Stream r ∷ items) = None

-- the message of a payload that is one line and, on its own, reads as a message of a queue of this kind
abbrev pub dead_message : Bool → List ℕ → Option Message
dead_message fifo payload = if list_any is_line_feed payload then None else message_read (read_after (kinds.Queue fifo) [] payload)

-- its id
abbrev pub dead_id : Bool → List ℕ → Option (List ℕ)
dead_id fifo payload = option_map (λ (m : Message). m.id) (dead_message fifo payload)

-- the ids of all payloads, in order
abbrev pub dead_ids : Bool → List (List ℕ) → List (List ℕ)
dead_ids fifo payloads = filter_map (dead_id fifo) payloads

-- each of the first n payloads has a message
abbrev pub AreLetters : Bool → List (List ℕ) → ℕ → Type 0
AreLetters fifo payloads n = (j : ℕ) (payload : List ℕ) → j < n → slice_get payloads j ≡ Some payload → is_some (dead_message fifo payload) ≡ true

-- these lines, behind the payloads that were found, also have messages, and the messages have these ids
pub record GoesOnWith (fifo : Bool) (found lines ids : List (List ℕ)) : Type 0 where
  pub letters : AreLetters fifo (found ++ lines) (length (found ++ lines))
  pub ids_are : dead_ids fifo (found ++ lines) ≡ dead_ids fifo found ++ ids

-- the payload with this index is the first that has no message
pub record IsFirstBad (fifo : Bool) (payloads : List (List ℕ)) (i : ℕ) : Type 0 where
  pub payload : List ℕ
  pub at : slice_get payloads i ≡ Some payload
  pub bad : dead_message fifo payload ≡ None
  pub before : AreLetters fifo payloads i

abbrev pub IsNoFile : Bool → List (List ℕ) → DeadFileError → Type 0
IsNoFile fifo payloads (BadLine i) = IsFirstBad fifo payloads i
IsNoFile fifo payloads OutOfMemory = Unit {0}

-- the ids in a set of texts
abbrev pub ids_in : {Y : Type 0} → BTreeSet (String Y) → List (List ℕ)
ids_in ids = map string_bytes (keys ids)
