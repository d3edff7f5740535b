use Rattle.std.proofs.Common.{◌∙◌, ℕ, sym, ap}
use Rattle.std.specs.Prelude.{Result}
use Rattle.std.specs.Coded.{Coded}
use Rattle.esm_io.specs.Meanings.{DiskMeaning, disk}
use Rattle.esm_model.specs.declared.book.BookError.{BookError}
use Rattle.esm_model.specs.Entries.{is_shut}
use Rattle.esm_queue_core.specs.Told.{told_of}
use Rattle.esm_queue_book.specs.Books.{BookState}
use Rattle.esm_queue_book.proofs.Standing.{past_told}
use Rattle.esm_queue_book.proofs.Items.{stay_as}
use Rattle.esm_queue_book.proofs.Pooling.{goes_on, moments}
use Rattle.esm_queue_book.proofs.PoolingCame.{ShutDid, HasShut, has_shut}
use Rattle.esm_queue_book.proofs.PoolingTimed.{shut_timed}
use Rattle.esm_queue_book.proofs.pooled.QueueBookPooled.end_input.Goals as goal

pub shut-ended-requires : goal.shut-ended-requires
shut-ended-requires g c = record { going = ap is_shut (sym (past_told c.args.self.now.core)) ∙ c.requires.going }

pub returns : goal.returns
returns g c =
    let d : DiskMeaning g.row.D.Denot = disk g.D.Disk in
    let code : Coded g.row.D.Denot = g.row.D.coded in
    let t : ℕ = c.args.moment in
    let old : BookState g.row.D.Denot = c.args.self.now in
    let new : BookState g.row.D.Denot = c.shut-ended.new.self in
    let r : Result (Unit {0}) BookError = c.shut-ended.result in
    let e = c.shut-ended.ensures in
    let did : ShutDid t old new r = record { added = e.added; down = e.down; only_down = e.only_down; left = e.left } in
    let has : HasShut t old new = has_shut t old new r did in
    record {
      goes_on = goes_on code 0 t old.core.setting.messages old new has.es has.gone c.know-2.ensures.legal;
      moments = moments code 0 t old.core.setting.messages old new has.es has.gone;
      timed = λ gave clock timed. shut_timed gave d t old new clock timed r did;
      same = stay_as (told_of old.core) (told_of new.core) has.same;
      change = has.change;
      shut = λ up. ap is_shut (past_told new.core) ∙ has.shut up;
    }
