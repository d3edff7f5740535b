-- The meaning of a record line's fields. Only this crate's proofs cite this.
use Rattle.std.specs.Prelude.{◌≡◌, Result, Ok, Err}
use Rattle.esm_model.specs.Records.{Record, encoded_in}
use Rattle.esm_record.specs.declared.error.LineError.{LineError}
use Rattle.esm_record.specs.declared.fields.Fields.{Fields}

-- the record with these fields
abbrev pub record_at : Fields → Record
record_at f = record { shard = f.shard; seq = f.seq.now; key = f.key.now; payload = encoded_in f.payload.text.now; arrival = f.arrival }

-- the answer agrees with the reading: it has what that means, or the same refusal
abbrev pub Tells : {A B : Type 0} → (A → B) → Result A LineError → Result B LineError → Type 0
Tells says (Ok x) reading = reading ≡ Ok (says x)
Tells says (Err why) reading = reading ≡ Err why
