use Rattle.std.proofs.Common.{◌≡◌, ◌+◌, min, true, take}
use Rattle.std.specs.Char.{is_ascii_digit}
use Rattle.std.specs.List.{list_all}
use Rattle.std.specs.Str.Parse.{digits_value}
use Rattle.esm_api.specs.declared.length.TheConstants.{MAX_REQUEST_BODY}
use Rattle.esm_api.proofs.length.number.Given as goal

abbrev pub invariant-loop-digit : goal.invariant-loop-digit
invariant-loop-digit l = record {
  value : l.count ≡ min (digits_value 10 (take l.digit-index l.text)) (MAX_REQUEST_BODY + 1);
  digits : list_all is_ascii_digit (take l.digit-index l.text) ≡ true;
}
