-- The code's changes, as the definitions have them. Only this crate's proofs cite this.
use Rattle.std.specs.Borrow.{Bor}
use Rattle.std.specs.Prelude.{Option, option_map}
use Rattle.std.specs.declared.alloc.Global.{Global}
use Rattle.json.specs.Value.{value_view}
use Rattle.json.specs.declared.value.Value.{Value}
use Rattle.serde_json.specs.Data.{Data}
use Rattle.esm_ddb.specs.Change as spec
use Rattle.esm_ddb.specs.Tree.{data_in}
use Rattle.esm_ddb.specs.declared.change.Change.{Change}
use Rattle.esm_ddb.specs.declared.change.StreamRecord.{StreamRecord}

abbrev pub data_of : Option (Bor (Value Global)) → Option Data
data_of o = option_map (λ v. data_in (value_view v.now)) o

abbrev pub record_view : StreamRecord → spec.StreamRecord
record_view r = record {
  keys = data_in (value_view r.keys.now);
  new_image = data_of r.new_image;
  old_image = data_of r.old_image;
  seq = r.seq.now;
  size = r.size;
  view = r.view.now;
}

abbrev pub change_view : Change → spec.Change
change_view c = record { shard = c.shard; arrival = c.arrival; id = c.id.now; name = c.name.now; item = record_view c.item }
