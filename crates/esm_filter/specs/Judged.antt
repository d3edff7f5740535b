-- The meaning of what the code judges, as the fields of an object.
use Rattle.std.specs.Prelude.{ℕ, List, Option, option_map}
use Rattle.std.specs.Borrow.{Bor}
use Rattle.serde_json.specs.Data.{Data, string}
use Rattle.esm_model.specs.Filter.{Seen, members_in, in_object, in_record, in_message}
use Rattle.esm_filter.specs.Found.{value_of}
use Rattle.esm_filter.specs.declared.judge.Judged.{Judged}
use Rattle.esm_filter.specs.declared.judge.Judged.TheVariants.{Within, OfRecord, OfMessage}

abbrev pub text_of : Option (Bor (List ℕ)) → Option Data
text_of t = option_map (λ s. string s.now) t

abbrev pub judged_view : Judged → List ℕ → Seen
judged_view (Within v) = in_object (members_in (value_of v))
judged_view (OfRecord r json) = in_record r.now (value_of json)
judged_view (OfMessage m json) = in_message m.now (value_of json)
