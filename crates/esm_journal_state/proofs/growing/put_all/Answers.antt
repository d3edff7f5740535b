use Rattle.std.proofs.Common.{◌≡◌, length, rules}
use Rattle.esm_journal_state.proofs.Recent.{put_at_once}
use Rattle.esm_journal_state.proofs.growing.put_all.Goals as goal

pub returns : goal.returns
returns c = λ n i.
    let empty : length c.args.fates.now.entries ≡ 0 = search rules in
    put_at_once c.args.fates.now c.in_ok-made.made c.args.recent.items n i empty (c.in_ok-made.ensures.0 (n, i))
