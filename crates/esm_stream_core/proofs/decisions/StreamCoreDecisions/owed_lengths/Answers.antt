use Rattle.std.proofs.Common.{◌≡◌, List, ℕ, IfOk, sym, subst}
use Rattle.esm_book.specs.Decided.{lengths_of}
use Rattle.esm_stream_core.specs.CoreView.{full_setting}
use Rattle.esm_stream_core.proofs.Tellings.{payloads_told}
use Rattle.esm_stream_core.proofs.decisions.StreamCoreDecisions.owed_lengths.Goals as goal

pub returns : goal.returns
returns c =
    let v = c.args.self.now in
    subst (λ (bytes : List (List ℕ)). IfOk c.owed_lengths.result (λ lengths. lengths.items ≡ lengths_of bytes)) (sym (payloads_told (full_setting v) v.owed)) c.owed_lengths.ensures
