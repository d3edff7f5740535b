use Rattle.std.proofs.Common.{length, map, take}
use Rattle.httparse.specs.Spans.{header_bytes}
use Rattle.http1.specs.Fields.{values_named}
use Rattle.esm_api.specs.HeadRead.{IsNamed, IsNamedWithin}
use Rattle.esm_api.proofs.length.headers_named.Given as goal

abbrev pub invariant-loop-field : goal.invariant-loop-field
invariant-loop-field l = record {
  values : IsNamed l.bytes (values_named l.name (map (header_bytes l.bytes) (take l.field-index l.fields))) l.found;
  within : IsNamedWithin (length l.bytes) l.found;
}
