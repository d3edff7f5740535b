use Rattle.std.proofs.Common.{ℕ, ◌+◌, refl, arith, ◌≡◌, ap, ◌∷◌}
use Rattle.esm_ledger.specs.declared.ledger.Ledger.{Ledger}
use Rattle.esm_ledger.specs.Ledger.{HasRoom, past_of, setting_of}
use Rattle.esm_ledger.proofs.KeptLedgers.{note_room}
use Rattle.esm_ledger.proofs.Additions.{shut_added, shut_spare}
use Rattle.esm_ledger.proofs.Prepared.{room_as, all_over}
use Rattle.esm_ledger.proofs.Ledgers.{own_legal}
use Rattle.esm_model.specs.declared.entry.Entry.TheVariants.{Shut}
use Rattle.esm_ledger.proofs.ledger.Ledger.ended_input.Goals as goal

-- no entry more
with_none : (c : Ledger) (n : ℕ) → HasRoom c n → HasRoom c (n + 0)
with_none c n r = (let a = r.room in let b = r.short in record { room = omega (arith, a); short = omega (arith, b) })

pub note-requires : goal.note-requires
note-requires c = note_room c.args.self.now c.args.self.now 0 refl c.requires.kept.rests.room (shut_spare c.args.self.now c.args.moment c.requires.legal)

pub returns : goal.returns
returns c =
    let done = shut_added c.args.self.now c.note.new.self c.args.moment c.requires.kept c.requires.legal c.note.ensures.others c.note.ensures.history c.note.ensures.len c.note.ensures.capacity in
    let shards : c.note.new.self.shards ≡ c.args.self.now.shards = ap (λ (z : Ledger). z.shards) c.note.ensures.others in
    record {
      kept = done.kept;
      past = done.past;
      setting = done.setting;
      room = λ n r. done.room n (with_none c.args.self.now n r);
      shards = λ n r. room_as c.args.self.now c.note.new.self n shards r;
      stays = all_over c.args.self.now c.note.new.self (Shut c.args.moment) c.requires.kept (own_legal (setting_of c.args.self.now) (Shut c.args.moment ∷ past_of c.args.self.now) c.requires.legal) done.past done.setting (record { shards = refl; count = λ n. refl }) (λ n. tt) shards;
    }
