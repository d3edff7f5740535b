use Rattle.std.proofs.Common.{◌∙◌, length, ap, sym}
use Rattle.esm_model.specs.Setting.{sequences_at}
use Rattle.esm_ledger.specs.Ledger.{setting_of}
use Rattle.esm_stream_core.proofs.payload.fates_payload.Goals as goal

pub push_names-requires-clause-open : goal.push_names-requires-clause-open
push_names-requires-clause-open c = rw c.as_slice-places.ensures c.requires.open

pub push_names-requires-clause-stand : goal.push_names-requires-clause-stand
push_names-requires-clause-stand c = rw c.as_slice-places.ensures c.requires.said.4.same

pub returns : goal.returns
returns c =
    let x = c.args in
    let names = sequences_at (setting_of x.ledger.now) x.shard x.places.now in
    let written = rw c.as_slice-places.ensures at c.in_ok-push_names.ensures in
    written ∙ c.in_ok-out.ensures x.places.now names (ap length (sym c.as_slice-places.ensures))
