use Rattle.esm_record.proofs.UsualParts.{moment_passed}
use Rattle.esm_record.proofs.usual.last_moment.Goals as goal

pub returns-then-is_whole : goal.returns-then-is_whole
returns-then-is_whole c =
    moment_passed c.args.text.now c.in_ok-begun.begun.now c.in_ok-digits.digits.now c.number_of.result c.in_ok-begun.ensures c.in_ok-digits.ensures (c.is_whole.ensures (cc)) c.number_of.ensures
