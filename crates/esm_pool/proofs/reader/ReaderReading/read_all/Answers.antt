use Rattle.esm_input.specs.Reading.{handed}
use Rattle.esm_turn.specs.Seats.{SeatView}
use Rattle.esm_pool.proofs.Reading.{some_as}
use Rattle.esm_pool.proofs.Stopping.{read_so, changed_so, cut_so, on_ok, on_err}
use Rattle.esm_pool.proofs.reader.ReaderReading.read_all.Goals as goal

pub returns-clause-read : goal.returns-clause-read
returns-clause-read g c =
    let i = c.read_on-read.new.input in
    let old : SeatView = c.read_on-read.new.seat in
    let new : SeatView = c.note_end.new.seat in
    let read = c.read_on-read.ensures in
    let end = c.note_end.ensures in
    let items = g.B.Pooled.items in
    on_ok c.memory_of.result _ _ (λ long. record {
      same = read.input;
      read = λ _. read.read long;
      good = λ _. read.good long;
      some = λ _. some_as (items old.seen) (items new.seen) end.same (handed i) (read.some long);
      whole = λ _. read_so g.S.Source.left items g.B.Pooled.differs g.B.Pooled.spent c.args.turn.now.setup i old.seen new.seen old.mark new.mark old.change new.change end.same c.read_on-read.result long read.came read.end read.stop end.marked end.spent end.shut;
      changed = λ _. changed_so g.S.Source.left items g.B.Pooled.differs g.B.Pooled.spent c.args.turn.now.setup i old.seen new.seen old.mark new.mark old.change new.change end.same c.read_on-read.result long read.unchanged read.stop end.unchanged end.grows;
      cut = λ short. absurd (cc);
    }) c.memory_of.ensures.long

pub returns-clause-stopped : goal.returns-clause-stopped
returns-clause-stopped g c =
    let i = c.read_on-read.new.input in
    let old : SeatView = c.read_on-read.new.seat in
    let new : SeatView = c.note_end.new.seat in
    let read = c.read_on-read.ensures in
    let end = c.note_end.ensures in
    let items = g.B.Pooled.items in
    on_err c.memory_of.result _ _ (λ short. record {
      same = read.input;
      read = λ long. absurd (cc);
      good = λ long. absurd (cc);
      some = λ long. absurd (cc);
      whole = λ long. absurd (cc);
      changed = λ long. absurd (cc);
      cut = λ _. cut_so g.S.Source.left items g.B.Pooled.differs g.B.Pooled.spent c.args.turn.now.setup i old.seen new.seen old.mark new.mark old.change new.change end.same c.read_on-read.result short read.stop end.unchanged;
    }) c.memory_of.ensures.short
