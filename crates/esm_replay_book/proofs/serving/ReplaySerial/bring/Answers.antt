use Rattle.std.proofs.Common.{List, sym, subst, refl}
use Rattle.std.specs.Prelude.{All, Result}
use Rattle.esm_io.specs.Meanings.{disk}
use Rattle.esm_model.specs.declared.book.CameError.{CameError}
use Rattle.esm_model.specs.declared.item.Item.{Item}
use Rattle.esm_model.specs.Records.{Record}
use Rattle.esm_model.specs.Valid.{IsValidRecord}
use Rattle.esm_replay_book.specs.Books.{BookState}
use Rattle.esm_replay_book.specs.Serving.{records_in_items}
use Rattle.esm_replay_book.proofs.Items.{are_records, valid_records}
use Rattle.esm_replay_book.proofs.Knowing.{CameBy, brought, not_brought}
use Rattle.esm_replay_book.proofs.serving.ReplaySerial.bring.Goals as goal

pub records_of-requires : goal.records_of-requires
records_of-requires g c = are_records c.args.list.items c.requires.valid

pub came-came-requires-clause-valid : goal.came-came-requires-clause-valid
came-came-requires-clause-valid g c = subst (All IsValidRecord) (sym c.in-Ok.ensures) (valid_records c.args.list.items c.requires.valid)

pub returns-in_default : goal.returns-in_default
returns-in_default g c =
    let b = not_brought c.args.moment c.args.self.now c.args.list.items c.requires.going in
    record { since = b.since; going = b.going; came = b.came; some = b.some; kind = refl; function = b.function; up = b.up; down = b.down; changed = b.changed; refused = b.refused; tells = b.tells }

pub returns : goal.returns
returns g c =
    let old : BookState g.row.D.Denot = c.args.self.now in
    let new : BookState g.row.D.Denot = c.came-came.new.self in
    let list : List Item = c.args.list.items in
    let r : Result (Unit {0}) CameError = c.came-came.result in
    let e = c.came-came.ensures in
    let given : CameBy (disk g.D.Disk) old new c.in-Ok.records.items r = record { added = e.added; no_fault = e.no_fault; changed = e.changed; down = e.down; left = e.left; no_memory = e.no_memory } in
    let by : CameBy (disk g.D.Disk) old new (records_in_items list) r = subst (λ (rs : List Record). CameBy (disk g.D.Disk) old new rs r) c.in-Ok.ensures given in
    let b = brought (disk g.D.Disk) c.args.moment old new list (are_records list c.requires.valid) c.requires.going c.know.ensures.unchanged r by in
    record { since = b.since; going = b.going; came = b.came; some = b.some; kind = refl; function = b.function; up = b.up; down = b.down; changed = b.changed; refused = b.refused; tells = b.tells }
