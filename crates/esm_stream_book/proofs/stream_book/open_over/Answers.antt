use Rattle.std.proofs.Common.{reverse}
use Rattle.esm_stream_book.proofs.Founds.{found_tries, found_states}
use Rattle.esm_stream_book.proofs.stream_book.open_over.Goals as goal

pub new-requires-clause-tries : goal.new-requires-clause-tries
new-requires-clause-tries g c =
    found_tries c.args.config c.args.calls c.in_ok-said.said (reverse c.payloads.result.now) c.in_ok-said.ensures.told

pub new-requires-clause-states : goal.new-requires-clause-states
new-requires-clause-states g c =
    found_states c.in_ok-said.said (reverse c.payloads.result.now) c.in_ok-said.ensures.told c.in_ok-said.ensures.order
