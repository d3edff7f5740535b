use Rattle.std.proofs.Common.{sym, ◌∙◌, arith}
use Rattle.esm_journal_record.proofs.Payloads.{said_takes, said_is}
use Rattle.esm_journal_record.proofs.parsing.read_said.Goals as goal

pub returns-in-Ok-clause-found : goal.returns-in-Ok-clause-found
returns-in-Ok-clause-found c = said_takes c.args.bytes.now c.in-Ok.said (λ i. omega (arith, c.type_inv.bytes i)) c.in-Ok.ensures

pub returns-in-Ok-clause-only : goal.returns-in-Ok-clause-only
returns-in-Ok-clause-only c = λ s holds e. sym c.in-Ok.ensures ∙ said_is c.args.bytes.now s holds e

pub returns-in-Err-NoPayload-clause-only : goal.returns-in-Err-NoPayload-clause-only
returns-in-Err-NoPayload-clause-only c = λ s holds e. sym (rw c.in-Err-NoPayload.field-0-is at c.in-Err-NoPayload.ensures) ∙ said_is c.args.bytes.now s holds e
