use Rattle.esm_ledger.specs.Ledger.{setting_of}
use Rattle.esm_stream_core.specs.declared.owed.Act.TheVariants as act
use Rattle.esm_stream_core.proofs.Payloads.{written_with}
use Rattle.esm_stream_core.proofs.payload.tried.Goals as goal

pub returns-clause-written : goal.returns-clause-written
returns-clause-written c =
    let x = c.args in
    written_with (setting_of x.ledger.now) c.owed_with.result (act.Tried x.lane x.places x.closing x.tries x.moment) c.in_ok-payload.payload.items c.requires.writable c.in_ok-payload.ensures c.owed_with.ensures.act c.owed_with.ensures.payload
