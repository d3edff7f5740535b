-- The order of an item's names, computed.
use Rattle.std.proofs.Common.{refl}
use Rattle.std.specs.Str.{is_utf8, chars}
use Rattle.serde_json.proofs.OnLiterals.{serde_json_on_literals}
use Rattle.esm_model.specs.JsonText.{escaped_byte}
use Rattle.esm_ddb.specs.ItemText.{AreNamesInOrder}

pub names_in_order : AreNamesInOrder
unfolding serde_json_on_literals is_utf8 chars escaped_byte
names_in_order = refl
