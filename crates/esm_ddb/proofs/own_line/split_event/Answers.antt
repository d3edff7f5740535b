use Rattle.std.proofs.Common.{◌≡◌, true}
use Rattle.esm_model.specs.Valid.{is_word}
use Rattle.esm_ddb.specs.Change.{is_event_name, is_visible}
use Rattle.esm_ddb.proofs.OwnPieces.{event_passed}
use Rattle.esm_ddb.proofs.own_line.split_event.Goals as goal

pub returns-then-is_event_name : goal.returns-then-is_event_name
returns-then-is_event_name c =
    let id : is_word is_visible 1 100 c.in_ok-id.id.now ≡ true = cc in
    let name : is_event_name c.in_ok-name.name.now ≡ true = cc in
    event_passed c.args.text.now c.in_ok-begun.begun.now c.in_ok-id.id.now c.in_ok-id.behind_id.now c.in_ok-named.named.now c.in_ok-name.name.now c.in_ok-name.rest.now c.front_of.result.now
    c.in_ok-begun.ensures c.in_ok-id.ensures c.in_ok-named.ensures c.in_ok-name.ensures id name c.front_of.ensures
