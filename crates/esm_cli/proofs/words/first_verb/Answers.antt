use Rattle.std.proofs.Common.{◌∙◌, ap, map, sym}
use Rattle.std.specs.Option.{option_copied}
use Rattle.std.specs.String.{string_bytes}
use Rattle.esm_cli.proofs.Refused.{first_named, first_word}
use Rattle.esm_cli.proofs.words.first_verb.Goals as goal

pub returns-in-Some-clause-named : goal.returns-in-Some-clause-named
returns-in-Some-clause-named c =
    first_named (map string_bytes c.args.words.now) c.as_str.result.now _ c.named.result
    (first_word string_bytes c.args.words.now c.in-Some.word.now c.as_str.result.now (sym c.first.ensures.value ∙ ap option_copied c.in-Some.is) c.as_str.ensures.value)
    c.named.ensures
