use Rattle.std.proofs.Common.{◌≡◌, false, sym, ◌∙◌}
use Rattle.std.specs.List.{list_any}
use Rattle.esm_record.specs.Input.{is_line_feed}
use Rattle.esm_redrive.proofs.DeadLines.{payload_is, payload_few}
use Rattle.esm_redrive.proofs.dead_file.dead_message.Goals as goal

pub only_message-requires : goal.only_message-requires
only_message-requires c =
    let none : list_any is_line_feed c.args.payload.now ≡ false = sym c.has_line_feed.ensures ∙ c.if-has_line_feed.false in
    payload_few c.args.fifo c.args.payload.now c.in_ok-items.items.items none c.in_ok-items.ensures

pub returns : goal.returns
returns c =
    let none : list_any is_line_feed c.args.payload.now ≡ false = sym c.has_line_feed.ensures ∙ c.if-has_line_feed.false in
    c.only_message.ensures ∙ payload_is c.args.fifo c.args.payload.now c.in_ok-items.items.items none c.in_ok-items.ensures
