use Rattle.std.proofs.Common.{[], Some, None, refl, sym, ap, ◌∙◌, arith}
use Rattle.json.specs.Lex.{tokens}
use Rattle.json.specs.Json.{value, parse_map}
use Rattle.serde_json.specs.Data.{object}
use Rattle.esm_record.specs.Line.{only_object}
use Rattle.esm_record.specs.Leaf.{opens_object}
use Rattle.esm_record.proofs.LineTokens.{sole_value_is}
use Rattle.esm_record.proofs.Tokens.{no_object, opened_object, more_follows}
use Rattle.esm_record.proofs.object.read_object.Goals as goal

pub returns-then-not-opens_object : goal.returns-then-not-opens_object
returns-then-not-opens_object c =
    no_object 127 (tokens c.args.text.now) (ap opens_object (sym c.in-Ok.ensures.ok) ∙ c.if-not-opens_object.ensures)

pub returns-in_default-read_members : goal.returns-in_default-read_members
returns-in_default-read_members c =
    let opened = opened_object 127 c.opens_object.new.reader (tokens c.args.text.now) (sym c.in-Ok.ensures.ok ∙ c.if-not-opens_object.ensures) (omega arith) in
    ap only_object (sole_value_is (value 127 (tokens c.args.text.now)) None (opened ∙ ap (parse_map object) c.in_default-read_members.ensures.err))

pub returns-in-Some : goal.returns-in-Some
returns-in-Some c =
    let opened = opened_object 127 c.opens_object.new.reader (tokens c.args.text.now) (sym c.in-Ok.ensures.ok ∙ c.if-not-opens_object.ensures) (omega arith) in
    let found = c.in-Ok-read_members.ensures.ok in
    more_follows 127 (tokens c.args.text.now) (object found.members_read) c.read_members.new.reader c.next.new.self (Some c.in-Some.field-0) refl c.in-Some.ensures.value (opened ∙ ap (parse_map object) found.reads)

pub returns-in-None : goal.returns-in-None
returns-in-None c =
    let opened = opened_object 127 c.opens_object.new.reader (tokens c.args.text.now) (sym c.in-Ok.ensures.ok ∙ c.if-not-opens_object.ensures) (omega arith) in
    let found = c.in-Ok-read_members.ensures.ok in
    (found.members_read, sole_value_is (value 127 (tokens c.args.text.now)) (Some (object found.members_read, [])) (opened ∙ ap (parse_map object) found.reads ∙ ap (λ r. Some (object found.members_read, r)) c.in-None.ensures.value.0), found.are)
