use Rattle.std.proofs.Common.{◌∙◌, ◌++◌, List, ℕ, ap, arith, drop, refl, sym}
use Rattle.std.proofs.lemmas.List.{take-append-drop}
use Rattle.base64.specs.Engines.{standard}
use Rattle.base64.proofs.EngineFacts.{decode_of_strict}
use Rattle.esm_ddb.proofs.OwnParts.{decoded}
use Rattle.esm_ddb.proofs.own_element.push_decoded.Goals as goal

pub returns-in-Ok : goal.returns-in-Ok
returns-in-Ok c = λ _.
    let text = c.args.text.now in
    let old = c.args.out.now.items in
    let new = c.decode_vec.new.buffer.items in
    let n = c.args.out.now.len in
    let payload = drop n new in
    decoded text payload old new c.in-Ok.ensures.ok
    (decode_of_strict standard text payload (refl, refl) (λ i. let f = c.type_inv.text i in omega arith) c.in-Ok.ensures.ok)
    c.in-Ok.ensures.bytes
    (sym (take-append-drop n new) ∙ ap (λ (l : List ℕ). l ++ payload) c.in-Ok.ensures.front)
