use Rattle.std.proofs.Common.{◌≡◌, true}
use Rattle.esm_ddb.specs.Attribute.{is_text_type}
use Rattle.esm_ddb.proofs.OwnItems.{attribute_passed}
use Rattle.esm_ddb.proofs.own_item.split_attribute.Goals as goal

pub returns-then-is_text_type : goal.returns-then-is_text_type
returns-then-is_text_type c =
    let typed : is_text_type c.in_ok-tag.tag.now ≡ true = cc in
    attribute_passed c.args.text.now c.in_ok-begun.begun.now c.in_ok-name.name.now c.in_ok-name.behind_name.now c.in_ok-typed.typed.now c.in_ok-tag.tag.now c.in_ok-tag.behind_tag.now
    c.in_ok-content.content.now _ c.in_ok-_content.behind_content.now c.in_ok-rest.rest.now
    c.in_ok-begun.ensures c.in_ok-name.ensures c.in_ok-typed.ensures c.in_ok-tag.ensures c.in_ok-content.ensures c.in_ok-_content.ensures c.in_ok-rest.ensures typed
