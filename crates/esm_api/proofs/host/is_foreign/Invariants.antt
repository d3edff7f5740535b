use Rattle.std.proofs.Common.{◌≡◌, false, take}
use Rattle.std.specs.List.{list_any}
use Rattle.httparse.specs.Spans.{header_bytes}
use Rattle.esm_api.specs.Host.{is_foreign_field}
use Rattle.esm_api.proofs.host.is_foreign.Given as goal

abbrev pub invariant-loop-field : goal.invariant-loop-field
invariant-loop-field l = record {
  none : list_any (λ field. is_foreign_field (header_bytes l.bytes field)) (take l.field-index l.fields) ≡ false;
}
