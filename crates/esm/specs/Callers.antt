-- What answers the calls, for each way in which the command line names the functions. This product's own.
use Rattle.std.specs.Prelude.{◌≡◌, ◌*◌, ℕ, List, [], false}
use Rattle.std.specs.List.{All}
use Rattle.esm_io.specs.Caller.{CallerState, new_caller}
use Rattle.esm_io.specs.Script.{plain_reply}
use Rattle.esm_io.specs.declared.script.Script.TheVariants as script
use Rattle.esm_invoke.specs.declared.program_caller.ProgramCaller.{ProgramCaller}
use Rattle.esm_invoke.specs.declared.program_caller.ProgramCaller.TheVariants as kind
use Rattle.esm.specs.Timeouts.{IsTimeout}
use Rattle.esm.specs.declared.functions.Functions.{Functions}
use Rattle.esm.specs.declared.functions.Functions.TheVariants.{Succeed, Poison, Port}

-- what a caller is: one in memory, or one that calls a port of 127.0.0.1 and limits each call to `limit` nanoseconds
pub data Answerer : Type 0 where
  InMemory : (caller : CallerState) → Answerer
  OverHttp : (port limit : ℕ) → Answerer

abbrev pub answerer : {R S L : Type 0} → ProgramCaller R S L → Answerer
answerer (kind.Script caller) = InMemory caller
answerer (kind.Http caller) = OverHttp caller.port caller.limit

-- A caller in memory has made no call and fails none. It answers with status 200 and no body; for `Poison` it sets the
-- function error if the event contains the text. For a port the caller calls the server there, and limits each call to
-- `timeout` seconds.
abbrev pub IsCaller : Functions → ℕ → Answerer → Type 0
IsCaller Succeed timeout (OverHttp at limit) = ⊥
IsCaller Succeed timeout (InMemory caller) = caller ≡ new_caller (script.Always plain_reply) [] false
IsCaller (Poison text) timeout (OverHttp at limit) = ⊥
IsCaller (Poison text) timeout (InMemory caller) = caller ≡ new_caller (script.Poison text.now) [] false
IsCaller (Port port) timeout (OverHttp at limit) = (at ≡ port) × (limit ≡ timeout * 1_000_000_000)
IsCaller (Port port) timeout (InMemory caller) = ⊥

-- the callers answer as the functions say, and each call has the time that the words of the command give it
abbrev pub AreCallers : {R S L : Type 0} → Functions → List (List ℕ) → List (ProgramCaller R S L) → Type 0
AreCallers functions words callers =
    (timeout : ℕ) × IsTimeout words timeout × All (λ c. IsCaller functions timeout (answerer c)) callers
