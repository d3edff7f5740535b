use Rattle.std.proofs.Common.{ℕ, ap}
use Rattle.std.specs.Prelude.{Result, is_some}
use Rattle.esm_io.specs.Meanings.{DiskMeaning, disk}
use Rattle.esm_model.specs.declared.book.BookError.{BookError}
use Rattle.esm_model.specs.Kept.{change_of}
use Rattle.esm_redrive_run.specs.Book.{Book, IsLegalBook}
use Rattle.esm_redrive_run.proofs.Bringing.{ShutDid, HasShut, has_shut, legal_book, is_up}
use Rattle.esm_redrive_run.proofs.Following.{arrivals_open}
use Rattle.esm_redrive_run.proofs.Items.{stay_as}
use Rattle.esm_redrive_run.specs.Runs.{dead_file}
use Rattle.esm_redrive_run.proofs.Stays.{function_stays}
use Rattle.esm_redrive_run.proofs.Stepping.{StaysTimed, gone_none, no_calls}
use Rattle.esm_redrive_run.proofs.Timed.{shut_timed}
use Rattle.esm_redrive_run.proofs.book.SerialRedriveSerial.end_input.Goals as goal

pub shut-ended-requires : goal.shut-ended-requires
shut-ended-requires g c = record { going = arrivals_open c.args.self.now.redrive.core.past c.requires.going }

pub returns : goal.returns
returns g c =
    let m : DiskMeaning g.row.D.Denot = disk g.D.Disk in
    let t : ℕ = c.args.moment in
    let old : Book g.row.D.Denot = c.args.self.now.redrive in
    let new : Book g.row.D.Denot = c.shut-ended.new.self in
    let r : Result (Unit {0}) BookError = c.shut-ended.result in
    let e = c.shut-ended.ensures in
    let did : ShutDid t old new r = record { added = e.added; down = e.down; only_down = e.only_down; left = e.left } in
    let legal : IsLegalBook new = legal_book new c.know-2.ensures.sound c.know-2.ensures.consistent in
    let has : HasShut t old new = has_shut t old new r did c.requires.going legal in
    let stays : StaysTimed t old new = shut_timed m (dead_file m) c.moments_hold.ensures t old new r did in
    record {
      since = λ gave sends first calls clock before. gone_none t old new gave sends first.redrive calls has.step stays clock before;
      rests = record { idle = has.idle; shut = has.shut };
      shut = λ up. has.shut (is_up new.trouble up);
      down = ap is_some has.trouble_same;
      items = stay_as old new has.messages;
      change = ap change_of has.trouble_same;
      function = function_stays t old new no_calls has.step;
    }
