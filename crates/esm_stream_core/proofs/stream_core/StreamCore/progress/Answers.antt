use Rattle.std.proofs.Common.{◌∙◌, sym}
use Rattle.esm_stream_core.proofs.Deciding.{ledger_of}
use Rattle.esm_stream_core.proofs.stream_core.StreamCore.progress.Goals as goal

pub in_calls-requires : goal.in_calls-requires
in_calls-requires c = record { kept = (ledger_of c.args.self.now c.self.inside c.self.view_is c.self.invariant (sym c.is_whole.ensures ∙ c.if-not-is_whole.false)).keeps }
