use Rattle.std.proofs.Common.{List, ℕ, Bool, sym, ap, subst, ◌∙◌}
use Rattle.std.proofs.lemmas.Str.{IsUtf8-from_is_utf8, is_utf8-from_IsUtf8}
use Rattle.std.specs.Str.{is_utf8}
use Rattle.serde_json.specs.Read.{read}
use Rattle.esm_record.specs.Leaf.{IsObjectRead}
use Rattle.esm_record.proofs.Records.{object_is, no_text_is}
use Rattle.esm_record.proofs.line.read_line.Goals as goal

pub returns-in_default : goal.returns-in_default
returns-in_default c = no_text_is (is_utf8 c.args.line.now) (read c.args.line.now) (λ is. c.in_default.ensures.cases.0 (IsUtf8-from_is_utf8 c.args.line.now is))

pub returns-in-Ok-true : goal.returns-in-Ok-true
returns-in-Ok-true c =
    let line : List ℕ = c.args.line.now in
    let P : Bool → Type 0 = λ is. IsObjectRead (read c.in-Ok.text.now) is c.read_object.new.found in
    let found = subst P c.in-Ok-true.field-0-test c.in-Ok-true.ensures in
    (found.0, object_is (is_utf8 line) (read line) found.0 (is_utf8-from_IsUtf8 line c.in-Ok.ensures.cases.1) (ap read (sym c.in-Ok.ensures.cases.0) ∙ found.1), found.2)
