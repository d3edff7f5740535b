use Rattle.std.proofs.Common.{◌∙◌, ◌+◌, ℕ, List, [], ◌∷◌, ◌++◌, refl, sym, ap}
use Rattle.std.specs.Prelude.{Result}
use Rattle.std.specs.Coded.{Coded}
use Rattle.esm_io.specs.Meanings.{DiskMeaning, disk}
use Rattle.esm_model.specs.declared.book.BookError.{BookError}
use Rattle.esm_model.specs.declared.book.Job.{Job}
use Rattle.esm_model.specs.declared.called.Called.{Called}
use Rattle.esm_model.specs.Batching.{call_of}
use Rattle.esm_queue_book.specs.Books.{BookState, setup_of}
use Rattle.esm_queue_book.specs.Keeping.{IsSound}
use Rattle.esm_queue_book.proofs.Pooling.{RunsAt, gone, goes_on, moments, calls_at, running_at, runs_past}
use Rattle.esm_queue_book.proofs.PoolingDone.{DoneDid, HasEnded, ended, is_running_job}
use Rattle.esm_queue_book.proofs.PoolingTimed.{done_timed}
use Rattle.esm_queue_book.proofs.pooled.QueueBookPooled.end_call.Goals as goal

pub done-answer-requires : goal.done-answer-requires
done-answer-requires g c =
    let old : BookState g.row.D.Denot = c.args.self.now in
    record { runs = is_running_job old.core.setting old.core.past c.args._batcher c.args.job (runs_past g.row.D.coded old old refl c.know.ensures.sound c.args._batcher c.args.job c.requires.runs) }

pub returns : goal.returns
returns g c =
    let d : DiskMeaning g.row.D.Denot = disk g.D.Disk in
    let code : Coded g.row.D.Denot = g.row.D.coded in
    let k : ℕ = c.args._batcher in
    let job : Job = c.args.job in
    let old : BookState g.row.D.Denot = c.args.self.now in
    let new : BookState g.row.D.Denot = c.done-answer.new.self in
    let r : Result ℕ BookError = c.done-answer.result in
    let e = c.done-answer.ensures in
    let before : IsSound c.args.self.now = c.know.ensures.sound in
    let after : IsSound c.done-answer.new.self = c.know-2.ensures.sound in
    let runs : RunsAt old.core.setting old.core.past k job = runs_past code old old refl before k job c.requires.runs in
    let did : DoneDid d c.args.moment job c.args.reply old new r = record {
      added = e.added;
      stopped = e.stopped;
      noted = e.noted;
      no_dest = e.no_dest;
      down = e.down;
      no_memory = e.no_memory;
    } in
    let all : HasEnded k c.args.moment job c.args.reply old new r = ended d k c.args.moment job c.args.reply old new r did runs before after in
    let same = all.has.setting in
    record {
      goes_on = goes_on code (k + 1) c.args.moment old.core.setting.messages old new all.es (gone k c.args.moment old new all.es all.has) c.know-2.ensures.legal;
      moments = moments code (k + 1) c.args.moment old.core.setting.messages old new all.es (gone k c.args.moment old new all.es all.has);
      timed = λ gave clock timed. done_timed gave d c.args.moment old new clock timed job c.args.reply r did;
      called = λ other sends. calls_at code old new same after sends k ∙ (all.calls other sends
          ∙ ap (λ (cs : List Called). cs ++ call_of (setup_of code old) sends job.event c.args.reply ∷ []) (sym (calls_at code old old refl before sends k)));
      rests = λ other. running_at code old new k ∙ all.rests other;
      unchanged = all.unchanged;
      down = all.down;
    }
