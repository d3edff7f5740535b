use Rattle.std.proofs.Common.{ℕ, ◌+◌, sym, arith, [], ◌∷◌, ◌++◌, ◌≡◌, ap, refl, subst}
use Rattle.esm_model.specs.declared.entry.Entry.TheVariants.{Ended}
use Rattle.esm_model.specs.declared.entry.Reply.{Reply}
use Rattle.esm_ledger.specs.declared.ledger.Ledger.{Ledger}
use Rattle.esm_ledger.specs.Ledger.{past_of, setting_of, HasRoom}
use Rattle.esm_ledger.proofs.Fitting.{end_may_come}
use Rattle.esm_ledger.proofs.Ledgers.{own_legal}
use Rattle.esm_ledger.proofs.KeptLedgers.{note_room}
use Rattle.esm_ledger.proofs.Additions.{ended_added, ended_states, end_spare}
use Rattle.esm_ledger.proofs.Prepared.{room_kept, elsewhere_over, off_shard, splits_besides}
use Rattle.esm_ledger.proofs.ledger.Ledger.ended.Goals as goal

-- no entry more
with_none : (c : Ledger) (n : ℕ) → HasRoom c n → HasRoom c (n + 0)
with_none c n r = (let a = r.room in let b = r.short in record { room = omega (arith, a); short = omega (arith, b) })

pub shard_ended-requires-clause-fits : goal.shard_ended-requires-clause-fits
shard_ended-requires-clause-fits c = λ x at.
    let self = c.args.self.now in
    let lane = c.args.lane in
    let legal = own_legal (setting_of self) (Ended lane c.args.reply c.args.moment ∷ past_of self) c.requires.legal in
    end_may_come (setting_of self) (past_of self) lane c.args.reply c.args.moment x legal c.requires.kept.calls (sym at.2) (c.requires.kept.each lane.shard x at)

pub shard_ended-requires-clause-splits : goal.shard_ended-requires-clause-splits
shard_ended-requires-clause-splits c = λ x at.
    let self = c.args.self.now in
    let lane = c.args.lane in
    let legal = own_legal (setting_of self) (Ended lane c.args.reply c.args.moment ∷ past_of self) c.requires.legal in
    c.requires.kept.splits lane x at legal.1.1

pub note-requires : goal.note-requires
note-requires c =
    let self = c.args.self.now in
    note_room self c.shard_ended.new.self 0 c.shard_ended.ensures.before c.requires.kept.rests.room (end_spare self c.args.lane c.args.reply c.args.moment c.requires.legal)

pub returns : goal.returns
returns c =
    let self = c.args.self.now in
    let w = c.shard_ended.new.self in
    let lane = c.args.lane in
    let reply = c.args.reply in
    let m = c.args.moment in
    let legal = own_legal (setting_of self) (Ended lane reply m ∷ past_of self) c.requires.legal in
    let each = c.shard_ended.ensures.goes_on reply legal c.requires.verdict c.response_of-response.ensures in
    let items : c.note.new.self.history.items ≡ w.history.items ++ Ended lane reply m ∷ []
    = subst (λ (r : Reply). c.note.new.self.history.items ≡ w.history.items ++ Ended lane r m ∷ []) c.of.ensures c.note.ensures.history in
    let done = ended_added self w c.note.new.self lane reply m c.saturating_sub-self.result c.requires.kept c.requires.legal
    c.shard_ended.ensures.before c.saturating_sub-self.ensures c.note.ensures.others items c.note.ensures.len c.note.ensures.capacity c.shard_ended.ensures.changed each in
    let shards : c.note.new.self.shards ≡ c.shard_ended.new.self.shards = ap (λ (z : Ledger). z.shards) c.note.ensures.others in
    record {
      kept = done.kept;
      past = done.past;
      setting = done.setting;
      room = λ n r. done.room n (with_none c.args.self.now n r);
      shards = λ n r. room_kept self w c.note.new.self lane.shard n shards c.shard_ended.ensures.others r;
      elsewhere = elsewhere_over self w c.note.new.self lane.shard (Ended lane reply m) c.requires.kept legal done.past done.setting (record { shards = refl; count = λ n. refl })
          (λ k off. off_shard lane.shard k off) shards c.shard_ended.ensures.others;
      splits = λ other off has. splits_besides self w c.note.new.self lane other shards c.shard_ended.ensures.changed off has;
      states = ended_states self w c.note.new.self lane c.note.ensures.others c.shard_ended.ensures.changed;
    }
