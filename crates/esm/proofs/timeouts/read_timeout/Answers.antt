use Rattle.std.proofs.Common.{◌∙◌, ap, map, Err}
use Rattle.std.specs.String.{string_bytes}
use Rattle.esm.specs.Timeouts.{timeout_of}
use Rattle.esm.proofs.timeouts.read_timeout.Goals as goal

pub returns-in-Ok : goal.returns-in-Ok
returns-in-Ok c = λ d spelled.
    c.timeout_of.ensures ∙ ap timeout_of (c.one_command.ensures (map string_bytes c.args.words.now) c.in-Ok.command d c.in-Ok.ensures.spelled spelled)

pub returns-in-Err-BadWords : goal.returns-in-Err-BadWords
returns-in-Err-BadWords c = λ d spelled. absurd (c.in-Err-BadWords.ensures.bad (ap Err c.in-Err-BadWords.field-0-is) d spelled)
