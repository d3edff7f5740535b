use Rattle.std.proofs.Common.{◌≡◌, true}
use Rattle.std.specs.List.{list_all}
use Rattle.esm_ddb.specs.OwnForm.{is_kept}
use Rattle.esm_ddb.proofs.RecordText.{quoted_kept}
use Rattle.esm_ddb.proofs.quoted.push_quoted.Goals as goal

pub returns : goal.returns
returns c =
    let kept : list_all is_kept c.args.text.now ≡ true = cc in
    quoted_kept c.args.out.now.items c.push_bytes.new.out.items c.push_bytes-2.new.out.items c.push_bytes-3.new.out.items c.args.text.now kept
    c.in_ok-push_bytes.ensures c.in_ok-push_bytes-2.ensures c.in_ok-push_bytes-3.ensures
