use Rattle.std.proofs.Common.{ℕ, [], ◌∷◌, ap}
use Rattle.std.specs.Prelude.{Result}
use Rattle.esm_io.specs.Meanings.{DiskMeaning, disk}
use Rattle.esm_model.specs.declared.book.BookError.{BookError}
use Rattle.esm_redrive_model.specs.RedriveSetting.{RedriveSetting}
use Rattle.esm_serial.specs.Adding.{call_to}
use Rattle.esm_redrive_run.specs.Book.{Book, IsLegalBook}
use Rattle.esm_redrive_run.proofs.Bringing.{legal_book}
use Rattle.esm_redrive_run.proofs.Ending.{DoneDid, HasEnded, ended, is_running_job}
use Rattle.esm_redrive_run.proofs.Items.{stay_as}
use Rattle.esm_redrive_run.specs.Runs.{dead_file}
use Rattle.esm_redrive_run.proofs.Stepping.{StaysTimed, gone_none, gone_on}
use Rattle.esm_redrive_run.proofs.Timed.{done_timed}
use Rattle.esm_redrive_run.proofs.book.SerialRedriveSerial.end_call.Goals as goal

pub done-answer-requires : goal.done-answer-requires
done-answer-requires g c = record { runs = is_running_job c.args.self.now.redrive c.args.job c.requires.runs }

pub returns : goal.returns
returns g c =
    let m : DiskMeaning g.row.D.Denot = disk g.D.Disk in
    let t : ℕ = c.args.moment in
    let old : Book g.row.D.Denot = c.args.self.now.redrive in
    let new : Book g.row.D.Denot = c.done-answer.new.self in
    let r : Result ℕ BookError = c.done-answer.result in
    let e = c.done-answer.ensures in
    let did : DoneDid m (dead_file m) t c.args.job c.args.reply old new r = record {
      added = e.added;
      stopped = e.stopped;
      noted = e.noted;
      no_dest = e.no_dest;
      down = e.down;
      no_memory = e.no_memory;
    } in
    let after : IsLegalBook new = legal_book new c.know-2.ensures.sound c.know-2.ensures.consistent in
    let has : HasEnded t c.args.job c.args.reply old new r = ended m (dead_file m) t c.args.job c.args.reply old new r did c.requires.runs after in
    let stays : StaysTimed t old new = done_timed m (dead_file m) c.moments_hold.ensures t old new c.args.job c.args.reply r did in
    record {
      called = λ other gave sends first calls clock before.
          gone_on t old new (λ sends. call_to old.core.setting.queue.config.function sends c.args.job.event c.args.reply ∷ []) gave sends first.redrive calls (has.called other) stays clock before;
      rests = has.rests;
      items = stay_as old new has.messages;
      change = has.change;
      function = ap (λ (s : RedriveSetting). s.queue.config.function) has.config;
      shut = has.shut;
      no_end = λ is gave sends first calls clock before. gone_none t old new gave sends first.redrive calls (has.no_end is) stays clock before;
      runs = has.runs;
      down = has.down;
    }
