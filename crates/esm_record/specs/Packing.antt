-- Lines whose records are in one text that is not shared yet. Only this crate's proofs cite this.
use Rattle.std.specs.Prelude.{◌≡◌, ℕ, List, map, length, true, Option, Some, option_map, Result, Ok, IsUtf8}
use Rattle.std.specs.List.{AllByRecursion}
use Rattle.std.specs.Result.{result_ok}
use Rattle.base64.specs.Engines.{standard}
use Rattle.base64.specs.GeneralPurpose.{decode_of}
use Rattle.esm_model.specs.Records.{Record, IsWithin, part_of, record_in}
use Rattle.esm_model.specs.Sequence.{is_sequence}
use Rattle.esm_model.specs.declared.item.Item.{Item}
use Rattle.esm_model.specs.declared.item.Item.TheVariants.{Stream}
use Rattle.esm_record.specs.declared.error.LineError.{LineError}
use Rattle.esm_record.specs.declared.packed.Placed.{Placed}
use Rattle.esm_record.specs.declared.packed.Row.{Row}
use Rattle.esm_record.specs.declared.packed.Row.TheVariants as row

-- the record whose texts are these parts of the text
abbrev pub placed_record : List ℕ → Placed → Record
placed_record text p = record_in text p.shard p.seq p.key p.payload p.arrival

-- the parts are those of a record
pub record ArePlaced (text : List ℕ) (p : Placed) : Type 0 where
  pub seq_within : IsWithin text p.seq
  pub key_within : IsWithin text p.key
  pub payload_within : IsWithin text p.payload
  pub number : is_sequence (part_of text p.seq) ≡ true
  pub utf8 : IsUtf8 (part_of text p.key)
  pub encoded : option_map length (result_ok (decode_of standard (part_of text p.payload))) ≡ Some p.len

-- what the line is, with this text
abbrev pub said_over : List ℕ → Row → Result (Option Item) LineError
said_over text (row.Record p) = Ok (Some (Stream (placed_record text p)))
said_over text (row.Said said) = said

-- the line's parts, if it has any, are those of a record
abbrev pub IsRowOf : List ℕ → Row → Type 0
IsRowOf text (row.Record p) = ArePlaced text p
IsRowOf text (row.Said said) = Unit {0}

abbrev pub all_said : List ℕ → List Row → List (Result (Option Item) LineError)
all_said text rows = map (said_over text) rows

abbrev pub AreRowsOf : List ℕ → List Row → Type 0
AreRowsOf text rows = AllByRecursion (IsRowOf text) rows
