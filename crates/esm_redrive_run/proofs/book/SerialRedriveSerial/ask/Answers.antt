use Rattle.std.proofs.Common.{ℕ}
use Rattle.std.specs.Prelude.{Result}
use Rattle.esm_io.specs.Meanings.{DiskMeaning, disk}
use Rattle.esm_model.specs.declared.book.BookError.{BookError}
use Rattle.esm_model.specs.declared.book.Next.{Next}
use Rattle.esm_redrive_run.specs.Book.{Book, IsLegalBook}
use Rattle.esm_redrive_run.proofs.Asking.{NextDid, HasAsked, IsQueueBefore, asked, few_counted}
use Rattle.esm_redrive_run.proofs.Bringing.{legal_book}
use Rattle.esm_redrive_run.proofs.Items.{stay_as}
use Rattle.esm_redrive_run.proofs.Stays.{function_stays}
use Rattle.esm_redrive_run.specs.Runs.{dead_file}
use Rattle.esm_redrive_run.proofs.Stepping.{StaysTimed, gone_none, no_calls}
use Rattle.esm_redrive_run.proofs.Timed.{next_timed}
use Rattle.esm_redrive_run.proofs.book.SerialRedriveSerial.ask.Goals as goal

pub next-answer-requires : goal.next-answer-requires
next-answer-requires g c = record { rests = c.requires.rests.idle }

pub returns : goal.returns
returns g c =
    let m : DiskMeaning g.row.D.Denot = disk g.D.Disk in
    let t : ℕ = c.args.moment in
    let old : Book g.row.D.Denot = c.args.self.now.redrive in
    let new : Book g.row.D.Denot = c.next-answer.new.self in
    let r : Result Next BookError = c.next-answer.result in
    let e = c.next-answer.ensures in
    let did : NextDid m (dead_file m) t old new r = record {
      answer = e.answer;
      added = e.added;
      stopped = e.stopped;
      undelivered = e.undelivered;
      runs = e.runs;
      down = e.down;
      left = e.left;
      no_memory = e.no_memory;
    } in
    let sound = c.know.ensures.sound in
    let consistent = c.know.ensures.consistent in
    let before : IsQueueBefore old = record {
      legal = sound.legal;
      due = c.due_by_queue.ensures old.core.setting old.core.past (few_counted old.core.setting.max_receives consistent.few_receives) sound.legal;
      in_time = consistent.in_time;
    } in
    let after : IsLegalBook new = legal_book new c.know-2.ensures.sound c.know-2.ensures.consistent in
    let has : HasAsked t old new r = asked m (dead_file m) t old new r did c.requires.rests before after in
    let stays : StaysTimed t old new = next_timed m (dead_file m) c.moments_hold.ensures t old new r did in
    record {
      since = λ gave sends first calls clock earlier. gone_none t old new gave sends first.redrive calls has.step stays clock earlier;
      items = stay_as old new has.messages;
      change = has.change;
      function = function_stays t old new no_calls has.step;
      shut = has.shut;
      answer = has.answer;
      finished = has.finished;
      spent = has.spent;
      rests = has.rests;
      up = has.up;
      down = has.down;
    }
