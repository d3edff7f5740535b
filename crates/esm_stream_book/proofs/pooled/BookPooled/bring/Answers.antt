use Rattle.std.proofs.Common.{◌≡◌, ◌≤◌, false, List, length, sym, subst, arith}
use Rattle.std.specs.Prelude.{All, OnOk}
use Rattle.esm_io.specs.Meanings.{disk, destination}
use Rattle.esm_model.specs.Records.{Record}
use Rattle.esm_model.specs.Valid.{IsValidRecord}
use Rattle.esm_stream_book.specs.Items.{records_in_items}
use Rattle.esm_stream_core.specs.Calls.{Differs}
use Rattle.esm_stream_core.specs.Told.{told_of}
use Rattle.esm_stream_book.proofs.PoolingCame.{come_by, AreAdded, SomeAdded, has_come, came_tells}
use Rattle.esm_stream_book.proofs.PoolingRead.{read_goes_on, read_moments, read_shut, shut_read, records_valid, records_few, come_if, some_items, none_items, differs_told}
use Rattle.esm_stream_book.proofs.PoolingTimed.{came_timed}
use Rattle.esm_stream_book.proofs.pooled.BookPooled.bring.Goals as goal

pub returns-in_default-clause-some : goal.returns-in_default-clause-some
returns-in_default-clause-some g c = none_items (told_of c.args.self.now.core) c.args.list.items

pub came-answer-requires : goal.came-answer-requires
came-answer-requires g c =
    let same : c.in-Ok.records.items ≡ records_in_items c.args.list.items = c.in-Ok.ensures in
    let few : length (records_in_items c.args.list.items) ≤ length c.args.list.items = records_few c.args.list.items in
    record {
      may = record {
        going = shut_read c.args.self.now false c.requires.going;
        few = subst (λ (rs : List Record). length rs ≤ 10000) (sym same) (omega (arith, few, c.requires.few));
        valid = subst (All IsValidRecord) (sym same) (records_valid c.args.list.items c.requires.valid);
      };
    }

pub returns-clause-goes_on : goal.returns-clause-goes_on
returns-clause-goes_on g c =
    let e = c.came-answer.ensures in
    let so = has_come (disk g.D.Disk) (destination g.T.Dest)
    c.in-Ok.records.items c.args.moment c.args.self.now c.came-answer.new.self c.came-answer.result
    (record { added = e.added; stopped = e.stopped; changed = e.changed; down = e.down; left = e.left; no_memory = e.no_memory }) c.trouble-before.ensures.sound (shut_read c.args.self.now false c.requires.going) in
    read_goes_on g.row.D.coded g.row.T.coded g.T.Dest.lines c.args.moment c.args.self.now c.came-answer.new.self so.brought c.trouble-after.ensures.legal

pub returns-clause-moments : goal.returns-clause-moments
returns-clause-moments g c =
    let e = c.came-answer.ensures in
    let so = has_come (disk g.D.Disk) (destination g.T.Dest)
    c.in-Ok.records.items c.args.moment c.args.self.now c.came-answer.new.self c.came-answer.result
    (record { added = e.added; stopped = e.stopped; changed = e.changed; down = e.down; left = e.left; no_memory = e.no_memory }) c.trouble-before.ensures.sound (shut_read c.args.self.now false c.requires.going) in
    read_moments g.row.D.coded g.row.T.coded g.T.Dest.lines c.args.moment c.args.self.now c.came-answer.new.self so.brought

pub returns-clause-timed : goal.returns-clause-timed
returns-clause-timed g c = λ gave.
    let e = c.came-answer.ensures in
    came_timed gave (disk g.D.Disk) (destination g.T.Dest) c.in-Ok.records.items c.args.moment c.args.self.now c.came-answer.new.self c.came-answer.result
    (record { added = e.added; stopped = e.stopped; changed = e.changed; down = e.down; left = e.left; no_memory = e.no_memory })

pub returns-clause-going : goal.returns-clause-going
returns-clause-going g c =
    let e = c.came-answer.ensures in
    let so = has_come (disk g.D.Disk) (destination g.T.Dest)
    c.in-Ok.records.items c.args.moment c.args.self.now c.came-answer.new.self c.came-answer.result
    (record { added = e.added; stopped = e.stopped; changed = e.changed; down = e.down; left = e.left; no_memory = e.no_memory }) c.trouble-before.ensures.sound (shut_read c.args.self.now false c.requires.going) in
    read_shut c.came-answer.new.self false so.going

pub returns-clause-came : goal.returns-clause-came
returns-clause-came g c =
    let e = c.came-answer.ensures in
    let so = has_come (disk g.D.Disk) (destination g.T.Dest)
    c.in-Ok.records.items c.args.moment c.args.self.now c.came-answer.new.self c.came-answer.result
    (record { added = e.added; stopped = e.stopped; changed = e.changed; down = e.down; left = e.left; no_memory = e.no_memory }) c.trouble-before.ensures.sound (shut_read c.args.self.now false c.requires.going) in
    let a = told_of c.args.self.now.core in
    let b = told_of c.came-answer.new.self.core in
    come_if a b c.args.list.items c.came-answer.result c.requires.valid
    (subst (λ (rs : List Record). OnOk c.came-answer.result (AreAdded (come_by a) (come_by b) rs)) c.in-Ok.ensures so.all)

pub returns-clause-some : goal.returns-clause-some
returns-clause-some g c =
    let e = c.came-answer.ensures in
    let so = has_come (disk g.D.Disk) (destination g.T.Dest)
    c.in-Ok.records.items c.args.moment c.args.self.now c.came-answer.new.self c.came-answer.result
    (record { added = e.added; stopped = e.stopped; changed = e.changed; down = e.down; left = e.left; no_memory = e.no_memory }) c.trouble-before.ensures.sound (shut_read c.args.self.now false c.requires.going) in
    let a = told_of c.args.self.now.core in
    let b = told_of c.came-answer.new.self.core in
    some_items a b c.args.list.items c.requires.valid (subst (λ (rs : List Record). SomeAdded (come_by a) (come_by b) rs) c.in-Ok.ensures so.some)

pub returns-clause-changed : goal.returns-clause-changed
returns-clause-changed g c = λ change is.
    differs_told g.row.D.coded g.row.T.coded g.T.Dest.lines c.args.self.now c.args.list.items change c.trouble-before.ensures.sound
    (subst (λ (rs : List Record). Differs c.args.self.now.core rs change) c.in-Ok.ensures (c.came-answer.ensures.changed change is).1)

pub returns-clause-tells : goal.returns-clause-tells
returns-clause-tells g c =
    let e = c.came-answer.ensures in
    came_tells (disk g.D.Disk) (destination g.T.Dest)
    c.in-Ok.records.items c.args.moment c.args.self.now c.came-answer.new.self c.came-answer.result
    (record { added = e.added; stopped = e.stopped; changed = e.changed; down = e.down; left = e.left; no_memory = e.no_memory })
