use Rattle.std.proofs.lemmas.Str.{IsUtf8-from_is_utf8, is_utf8-from_IsUtf8}
use Rattle.esm_ddb.proofs.Trees.{gives_line, no_text}
use Rattle.esm_ddb.proofs.turned.turned_object.Goals as goal

pub returns-in-Ok : goal.returns-in-Ok
returns-in-Ok c =
    gives_line (λ v. v.items) c.args.source.now c.args.line.now c.in-Ok.text.now c.turned_line.result (is_utf8-from_IsUtf8 c.args.line.now c.in-Ok.ensures.cases.1) c.in-Ok.ensures.cases.0 c.turned_line.ensures

pub returns-in-Err : goal.returns-in-Err
returns-in-Err c = no_text c.args.source.now c.args.line.now (λ is. c.in-Err.ensures.cases.0 (IsUtf8-from_is_utf8 c.args.line.now is))
