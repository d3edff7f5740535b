-- The function of a generated stream: it fails each event that holds a record of the poisoned key. This product's own.
use Rattle.std.specs.Prelude.{◌≡◌, ℕ, List, []}
use Rattle.std.specs.List.{All}
use Rattle.esm_model.specs.declared.called.Called.{Called}
use Rattle.esm_model.specs.declared.entry.Reply.{Reply}
use Rattle.esm_io.specs.Caller.{CallerState}
use Rattle.esm_io.specs.Script.{error_reply, is_within}
use Rattle.esm_io.specs.declared.script.Script.TheVariants.{Poison}
use Rattle.esm_gen.specs.Generated.{poisoned_key}

-- its reply to an event: status 200 with no body, and the function error if the event holds a record of the key
abbrev pub reply_to : List ℕ → Reply
reply_to event = error_reply (is_within poisoned_key event)

-- each of the calls got the reply to its event
abbrev pub AreAnswered : List Called → Type 0
AreAnswered calls = All (λ (c : Called). c.reply ≡ reply_to c.event) calls

-- a caller of the function, which loses no call
pub record IsFunction (c : CallerState) : Type 0 where
  pub script : c.script ≡ Poison poisoned_key
  pub never_lost : c.schedule.fails ≡ []
  pub answered : AreAnswered c.log
