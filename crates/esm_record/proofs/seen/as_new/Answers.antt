use Rattle.std.proofs.Common.{◌≡◌, Bool, ap, ◌∙◌}
use Rattle.std.specs.Prelude.{not}
use Rattle.std.specs.String.{string_bytes}
use Rattle.esm_record.specs.Ids.{front_of}
use Rattle.esm_record.specs.Input.{as_new}
use Rattle.esm_record.proofs.IdSets.{stood_by, stood_after}
use Rattle.esm_record.proofs.seen.as_new.Goals as goal

pub returns-then-added-clause-item : goal.returns-then-added-clause-item
returns-then-added-clause-item c =
    let front : c.front_of-front.result ≡ front_of c.args.given.id = c.front_of-front.ensures ∙ ap front_of c.as_slice.ensures in
    let text : string_bytes c.in_ok-id.id ≡ c.args.given.id = c.in_ok-id.ensures.ok ∙ c.as_str.ensures in
    ap (λ (stood : Bool). as_new stood c.args.given) (stood_by c.args.ids.now c.args.given.id c.front_of-front.result c.in_ok-id.id c.in-Ok.added front text c.in-Ok.ensures.added ∙ ap not c.if-added.true)

pub returns-else-added-clause-item : goal.returns-else-added-clause-item
returns-else-added-clause-item c =
    let front : c.front_of-front.result ≡ front_of c.args.given.id = c.front_of-front.ensures ∙ ap front_of c.as_slice.ensures in
    let text : string_bytes c.in_ok-id.id ≡ c.args.given.id = c.in_ok-id.ensures.ok ∙ c.as_str.ensures in
    ap (λ (stood : Bool). as_new stood c.args.given) (stood_by c.args.ids.now c.args.given.id c.front_of-front.result c.in_ok-id.id c.in-Ok.added front text c.in-Ok.ensures.added ∙ ap not c.if-added.false)

pub returns-then-added-clause-kept : goal.returns-then-added-clause-kept
returns-then-added-clause-kept c =
    let front : c.front_of-front.result ≡ front_of c.args.given.id = c.front_of-front.ensures ∙ ap front_of c.as_slice.ensures in
    let text : string_bytes c.in_ok-id.id ≡ c.args.given.id = c.in_ok-id.ensures.ok ∙ c.as_str.ensures in
    stood_after c.args.ids.now c.insert.new.self c.args.given.id c.front_of-front.result c.in_ok-id.id front text c.in-Ok.ensures.updates
