-- A record of a stream, and the text that has its sequence number, its key and the base64 of its data. Sources: the Kinesis
-- API Reference, `Record`; RFC 4648, section 4 (base64).
use Rattle.std.specs.Prelude.{◌≡◌, ◌≤◌, ℕ, List, [], Ok, true, length, slice_range, unwrap_or, IsUtf8}
use Rattle.std.specs.Result.{result_ok}
use Rattle.base64.specs.Engines.{standard}
use Rattle.base64.specs.GeneralPurpose.{decode_of, encode_of}
use Rattle.esm_model.specs.Sequence.{is_sequence}
use Rattle.esm_model.specs.declared.part.Part.{Part}

-- a record: its shard's number, its sequence number and partition key as texts, its data, and its approximate arrival in
-- milliseconds since 1970
pub record Record : Type 0 where
  pub shard : ℕ
  pub seq : List ℕ
  pub key : List ℕ
  pub payload : List ℕ
  pub arrival : ℕ

-- the part lies within the text
abbrev pub IsWithin : List ℕ → Part → Type 0
IsWithin text p = (p.from ≤ p.to) × (p.to ≤ length text)

-- the bytes of the part
abbrev pub part_of : List ℕ → Part → List ℕ
part_of text p = slice_range text p.from p.to

-- this part of the text is these bytes
pub record IsPart (text : List ℕ) (p : Part) (bytes : List ℕ) : Type 0 where
  pub within : IsWithin text p
  pub is : part_of text p ≡ bytes

-- the bytes that the base64 text encodes; empty where it is no base64
abbrev pub encoded_in : List ℕ → List ℕ
encoded_in text = unwrap_or (result_ok (decode_of standard text)) []

-- the record whose sequence number, key and base64 of the data are these parts of the text
abbrev pub record_in : List ℕ → ℕ → Part → Part → Part → ℕ → Record
record_in text shard seq key payload arrival =
    record {
      shard = shard;
      seq = part_of text seq;
      key = part_of text key;
      payload = encoded_in (part_of text payload);
      arrival = arrival;
    }

-- the text is the base64 of n bytes
abbrev pub IsBase64Of : ℕ → List ℕ → Type 0
IsBase64Of n text = (decode_of standard text ≡ Ok (encoded_in text)) × (text ≡ encode_of standard (encoded_in text)) × (length (encoded_in text) ≡ n)

-- a sequence number, a key and the base64 of `len` bytes of data are these parts of the text
pub record ArePartsOf (text : List ℕ) (seq key payload : Part) (len : ℕ) : Type 0 where
  pub seq_within : IsWithin text seq
  pub key_within : IsWithin text key
  pub payload_within : IsWithin text payload
  pub number : is_sequence (part_of text seq) ≡ true
  pub utf8 : IsUtf8 (part_of text key)
  pub encoded : IsBase64Of len (part_of text payload)
