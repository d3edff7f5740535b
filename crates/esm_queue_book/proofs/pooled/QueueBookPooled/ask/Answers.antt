use Rattle.std.proofs.Common.{◌≡◌, ◌∙◌, ◌+◌, ℕ, false, refl, sym}
use Rattle.std.specs.Prelude.{Result}
use Rattle.std.specs.Coded.{Coded}
use Rattle.esm_io.specs.Meanings.{DiskMeaning, disk}
use Rattle.esm_model.specs.declared.book.BookError.{BookError}
use Rattle.esm_model.specs.declared.book.Next.{Next}
use Rattle.esm_model.specs.declared.book.Next.TheVariants as next
use Rattle.esm_model.specs.Entries.{is_running, calls_begun}
use Rattle.esm_model.specs.Batching.{Answers}
use Rattle.esm_queue_model.specs.QueueEntries.{queue_lane}
use Rattle.esm_queue_core.specs.Told.{told_of}
use Rattle.esm_queue_book.specs.Batchers.{QueueRests, RunsQueueJob}
use Rattle.esm_queue_book.specs.Left.{QueueFinished, QueueSpent}
use Rattle.esm_queue_book.specs.Books.{BookState, setup_of}
use Rattle.esm_queue_book.specs.Keeping.{IsSound}
use Rattle.esm_queue_book.proofs.Over.{FinishedAt}
use Rattle.esm_queue_book.proofs.Pooling.{gone, goes_on, moments, calls_at, running_at, finished_told, spent_told, ok_then, err_then}
use Rattle.esm_queue_book.proofs.PoolingNext.{NextDid, AnswersAt, HasAsked, asked, answers_told}
use Rattle.esm_queue_book.proofs.PoolingTimed.{next_timed}
use Rattle.esm_queue_book.proofs.pooled.QueueBookPooled.ask.Goals as goal

pub next-answer-requires : goal.next-answer-requires
next-answer-requires g c = record { rests = sym (running_at g.row.D.coded c.args.self.now c.args.self.now c.args.batcher) ∙ c.requires.rests }

pub returns : goal.returns
returns g c =
    let d : DiskMeaning g.row.D.Denot = disk g.D.Disk in
    let code : Coded g.row.D.Denot = g.row.D.coded in
    let k : ℕ = c.args.batcher in
    let old : BookState g.row.D.Denot = c.args.self.now in
    let new : BookState g.row.D.Denot = c.next-answer.new.self in
    let r : Result Next BookError = c.next-answer.result in
    let e = c.next-answer.ensures in
    let before : IsSound c.args.self.now = c.know.ensures.sound in
    let after : IsSound c.next-answer.new.self = c.know-2.ensures.sound in
    let rest : is_running c.args.self.now.core.past (queue_lane c.args.batcher) ≡ false = sym (running_at code old old k) ∙ c.requires.rests in
    let did : NextDid d k c.args.moment old new r = record {
      answer = e.answer;
      added = e.added;
      stopped = e.stopped;
      runs = e.runs;
      no_dest = e.no_dest;
      down = e.down;
      left = e.left;
      no_memory = e.no_memory;
    } in
    let all : HasAsked k c.args.moment old new r = asked d k c.args.moment old new r did rest before after in
    let same = all.has.setting in
    record {
      goes_on = goes_on code (k + 1) c.args.moment old.core.setting.messages old new all.es (gone k c.args.moment old new all.es all.has) c.know-2.ensures.legal;
      moments = moments code (k + 1) c.args.moment old.core.setting.messages old new all.es (gone k c.args.moment old new all.es all.has);
      timed = λ gave clock timed. next_timed gave d c.args.moment old new clock timed k r did;
      no_end = λ sends. calls_at code old new same after sends k ∙ (all.no_end sends ∙ sym (calls_at code old old refl before sends k));
      answer = ok_then (AnswersAt old.core.setting new.core.past k) (Answers QueueRests RunsQueueJob (setup_of code old) (told_of new.core) k) r (answers_told code k old new same after) all.answer;
      finished = ok_then (λ (x : Next). x ≡ next.Finished → FinishedAt old.core.setting new.core.past) (λ (x : Next). x ≡ next.Finished → QueueFinished (setup_of code old) (told_of new.core) k) r (λ x over is. finished_told code old new same after k (over is)) all.finished;
      spent = ok_then (λ (x : Next). x ≡ next.Spent → calls_begun new.core.past ≡ old.core.setting.calls) (λ (x : Next). x ≡ next.Spent → QueueSpent (setup_of code old) (told_of new.core)) r (λ x spent is. spent_told code old new (spent is)) all.spent;
      rests = err_then (is_running new.core.past (queue_lane k) ≡ false) (QueueRests (setup_of code old) (told_of new.core) k) r (λ is. running_at code old new k ∙ is) all.rests;
      down = all.down;
    }
