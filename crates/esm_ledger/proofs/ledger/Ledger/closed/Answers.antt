use Rattle.std.proofs.Common.{arith, ◌∷◌, ◌≡◌, ap, refl}
use Rattle.esm_model.specs.declared.entry.Entry.TheVariants.{Closed}
use Rattle.esm_ledger.specs.Ledger.{past_of, setting_of}
use Rattle.esm_ledger.proofs.Ledgers.{own_legal}
use Rattle.esm_ledger.proofs.KeptLedgers.{note_room}
use Rattle.esm_ledger.proofs.Additions.{quiet_added, quiet_closed}
use Rattle.esm_ledger.proofs.Prepared.{room_kept, elsewhere_over, off_shard, splits_over}
use Rattle.esm_ledger.specs.declared.ledger.Ledger.{Ledger}
use Rattle.esm_ledger.proofs.ledger.Ledger.closed.Goals as goal

pub note-requires : goal.note-requires
note-requires c = note_room c.args.self.now c.shard_closed.new.self 1 c.shard_closed.ensures.before c.requires.room (omega arith)

pub returns : goal.returns
returns c =
    let self = c.args.self.now in
    let w = c.shard_closed.new.self in
    let a = c.args in
    let e = Closed a.lane a.window a.moment in
    let legal = own_legal (setting_of self) (e ∷ past_of self) c.requires.legal in
    let done = quiet_added self c.shard_closed.new.self c.note.new.self e (quiet_closed a.lane a.window a.moment) c.requires.kept c.requires.room c.requires.legal
    c.shard_closed.ensures.before c.note.ensures.others c.note.ensures.history c.note.ensures.len c.note.ensures.capacity c.shard_closed.ensures.changed (c.shard_closed.ensures.goes_on a.moment legal) in
    let shards : c.note.new.self.shards ≡ c.shard_closed.new.self.shards = ap (λ (z : Ledger). z.shards) c.note.ensures.others in
    record {
      kept = done.kept;
      past = done.past;
      setting = done.setting;
      room = done.room;
      shards = λ n r. room_kept self w c.note.new.self c.args.lane.shard n shards c.shard_closed.ensures.others r;
      elsewhere = elsewhere_over self w c.note.new.self c.args.lane.shard (Closed c.args.lane c.args.window c.args.moment) c.requires.kept legal done.past done.setting (record { shards = refl; count = λ n. refl })
          (λ k off. off_shard c.args.lane.shard k off) shards c.shard_closed.ensures.others;
      splits = λ other has. splits_over self w c.note.new.self other shards c.shard_closed.ensures.changed has;
    }
