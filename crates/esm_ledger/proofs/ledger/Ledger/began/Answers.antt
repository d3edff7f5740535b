use Rattle.std.proofs.Common.{ℕ, List, sym, subst, arith, ◌∷◌, ◌≡◌, ap, refl}
use Rattle.esm_model.specs.declared.entry.Entry.TheVariants.{Began}
use Rattle.esm_model.specs.Step.{Legal}
use Rattle.esm_ledger.specs.ShardLaws.{CallFits}
use Rattle.esm_ledger.specs.Ledger.{past_of, setting_of}
use Rattle.esm_ledger.specs.Adding.{AreShards}
use Rattle.esm_ledger.proofs.Fitting.{call_may_begin}
use Rattle.esm_ledger.proofs.Ledgers.{own_legal}
use Rattle.esm_ledger.proofs.KeptLedgers.{note_room}
use Rattle.esm_ledger.proofs.Additions.{began_added, call_counts}
use Rattle.esm_ledger.proofs.Prepared.{room_kept, elsewhere_over, off_shard, splits_over, states_over}
use Rattle.esm_ledger.specs.declared.ledger.Ledger.{Ledger}
use Rattle.esm_ledger.proofs.ledger.Ledger.began.Goals as goal

pub shard_began-requires-clause-fits : goal.shard_began-requires-clause-fits
shard_began-requires-clause-fits c = λ x at.
    let self = c.args.self.now in
    let lane = c.args.lane in
    let legal = own_legal (setting_of self) (Began lane c.args.places c.args.closing c.args.moment ∷ past_of self) c.requires.legal in
    subst (λ (ps : List ℕ). CallFits x lane.lane ps) (sym c.as_slice.ensures)
    (call_may_begin (setting_of self) (past_of self) lane c.args.places c.args.closing c.args.moment x legal c.requires.kept.calls (c.requires.kept.few x.shard) (sym at.2) (c.requires.kept.each lane.shard x at))

pub overflow_add-self : goal.overflow_add-self
overflow_add-self c =
    let counts = call_counts c.args.self.now c.shard_began.new.self c.args.lane c.args.places c.args.closing c.args.moment c.requires.kept c.shard_began.ensures.before c.requires.legal in
    omega (arith, counts.begun)

pub overflow_add-self-2 : goal.overflow_add-self-2
overflow_add-self-2 c =
    let counts = call_counts c.args.self.now c.shard_began.new.self c.args.lane c.args.places c.args.closing c.args.moment c.requires.kept c.shard_began.ensures.before c.requires.legal in
    omega (arith, counts.unended)

pub note-requires : goal.note-requires
note-requires c = note_room c.args.self.now c.shard_began.new.self 2 c.shard_began.ensures.before c.requires.room (omega arith)

pub returns : goal.returns
returns c =
    let self = c.args.self.now in
    let w = c.shard_began.new.self in
    let lane = c.args.lane in
    let closing = c.args.closing in
    let m = c.args.moment in
    let legal = own_legal (setting_of self) (Began lane c.args.places closing m ∷ past_of self) c.requires.legal in
    let each = subst (λ (ps : List ℕ). AreShards self w (Began lane ps closing m ∷ past_of self)) c.as_slice.ensures
    (c.shard_began.ensures.goes_on m (subst (λ (ps : List ℕ). Legal (setting_of self) (Began lane ps closing m ∷ past_of self)) (sym c.as_slice.ensures) legal)) in
    let done = began_added self w c.note.new.self lane c.args.places closing m c.requires.kept c.requires.room c.requires.splits c.requires.legal
    c.shard_began.ensures.before c.note.ensures.others c.note.ensures.history c.note.ensures.len c.note.ensures.capacity c.shard_began.ensures.changed each in
    let shards : c.note.new.self.shards ≡ c.shard_began.new.self.shards = ap (λ (z : Ledger). z.shards) c.note.ensures.others in
    record {
      kept = done.kept;
      past = done.past;
      setting = done.setting;
      room = done.room;
      shards = λ n r. room_kept self w c.note.new.self lane.shard n shards c.shard_began.ensures.others r;
      elsewhere = elsewhere_over self w c.note.new.self lane.shard (Began lane c.args.places closing m) c.requires.kept legal done.past done.setting (record { shards = refl; count = λ n. refl })
          (λ k off. off_shard lane.shard k off) shards c.shard_began.ensures.others;
      splits = λ other has. splits_over self w c.note.new.self other shards c.shard_began.ensures.changed has;
      states = λ n v has. states_over self w c.note.new.self n v shards c.shard_began.ensures.states has;
    }
