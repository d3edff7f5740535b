use Rattle.std.proofs.Common.{◌∙◌, length, ap, sym}
use Rattle.esm_stream_core.specs.Gathered.{names_in}
use Rattle.esm_stream_core.proofs.arriving.filtered_payload.Goals as goal

pub push_names-requires : goal.push_names-requires
push_names-requires c = rw c.as_slice-places.ensures c.requires.within

pub returns : goal.returns
returns c =
    let x = c.args in
    let names = names_in x.first x.records.now x.places.now in
    let written = rw c.as_slice-places.ensures at c.in_ok-push_names.ensures in
    written ∙ c.in_ok-out.ensures x.places.now names (ap length (sym c.as_slice-places.ensures))
