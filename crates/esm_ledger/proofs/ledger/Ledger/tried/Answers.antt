use Rattle.std.proofs.Common.{refl, arith, ◌∷◌, ◌≡◌, ap}
use Rattle.esm_model.specs.declared.entry.Entry.TheVariants.{Tried}
use Rattle.esm_ledger.specs.Ledger.{past_of, setting_of}
use Rattle.esm_ledger.proofs.Ledgers.{own_legal}
use Rattle.esm_ledger.proofs.KeptLedgers.{note_room}
use Rattle.esm_ledger.proofs.ShardChanges.{changed_nowhere, shards_stay}
use Rattle.esm_ledger.proofs.Additions.{quiet_added, quiet_tried}
use Rattle.esm_ledger.proofs.Prepared.{room_as, all_over}
use Rattle.esm_ledger.specs.declared.ledger.Ledger.{Ledger}
use Rattle.esm_ledger.proofs.ledger.Ledger.tried.Goals as goal

pub note-requires : goal.note-requires
note-requires c = note_room c.args.self.now c.args.self.now 1 refl c.requires.room (omega arith)

pub returns : goal.returns
returns c =
    let self = c.args.self.now in
    let a = c.args in
    let e = Tried a.lane a.places a.closing a.tries a.moment in
    let legal = own_legal (setting_of self) (e ∷ past_of self) c.requires.legal in
    let done = quiet_added self self c.note.new.self e (quiet_tried a.lane a.places a.closing a.tries a.moment) c.requires.kept c.requires.room c.requires.legal
    refl c.note.ensures.others c.note.ensures.history c.note.ensures.len c.note.ensures.capacity (changed_nowhere self) (shards_stay self e c.requires.kept legal (λ n. tt)) in
    let shards : c.note.new.self.shards ≡ c.args.self.now.shards = ap (λ (z : Ledger). z.shards) c.note.ensures.others in
    record {
      kept = done.kept;
      past = done.past;
      setting = done.setting;
      room = done.room;
      shards = λ n r. room_as c.args.self.now c.note.new.self n shards r;
      stays = all_over c.args.self.now c.note.new.self (e) c.requires.kept legal done.past done.setting (record { shards = refl; count = λ n. refl }) (λ n. tt) shards;
    }
