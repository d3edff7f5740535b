use Rattle.std.proofs.Common.{ℕ, List, Some, None, sym, subst, arith, ◌∷◌, ◌≡◌, ap, refl}
use Rattle.esm_model.specs.declared.entry.Fate.TheVariants.{Expired}
use Rattle.esm_model.specs.declared.entry.Entry.TheVariants.{Gave}
use Rattle.esm_model.specs.Step.{Legal}
use Rattle.esm_ledger.specs.ShardLaws.{ExpiryFits}
use Rattle.esm_ledger.specs.Ledger.{past_of, setting_of}
use Rattle.esm_ledger.specs.Adding.{AreShards}
use Rattle.esm_ledger.proofs.Fitting.{expiry_may_come}
use Rattle.esm_ledger.proofs.Ledgers.{own_legal}
use Rattle.esm_ledger.proofs.KeptLedgers.{note_room}
use Rattle.esm_ledger.proofs.Additions.{quiet_added, quiet_gave}
use Rattle.esm_ledger.proofs.Prepared.{room_kept, elsewhere_over, off_shard, splits_over, states_over}
use Rattle.esm_ledger.specs.declared.ledger.Ledger.{Ledger}
use Rattle.esm_ledger.proofs.ledger.Ledger.expired.Goals as goal

pub shard_expired-requires-clause-fits : goal.shard_expired-requires-clause-fits
shard_expired-requires-clause-fits c = λ x at.
    let self = c.args.self.now in
    let a = c.args in
    let legal = own_legal (setting_of self) (Gave (Some a.lane) a.lane.shard a.places Expired a.line None a.moment ∷ past_of self) c.requires.legal in
    subst (λ (ps : List ℕ). ExpiryFits x a.lane.lane ps) (sym c.as_slice.ensures)
    (expiry_may_come (setting_of self) (past_of self) a.lane a.places a.line None a.moment x
    (subst (λ (n : ℕ). Legal (setting_of self) (Gave (Some a.lane) n a.places Expired a.line None a.moment ∷ past_of self)) (sym at.2) legal)
    (c.requires.kept.few x.shard) c.requires.known (c.requires.kept.each a.lane.shard x at))

pub note-requires : goal.note-requires
note-requires c = note_room c.args.self.now c.shard_expired.new.self 1 c.shard_expired.ensures.before c.requires.room (omega arith)

pub returns : goal.returns
returns c =
    let self = c.args.self.now in
    let w = c.shard_expired.new.self in
    let a = c.args in
    let h = past_of self in
    let legal = own_legal (setting_of self) (Gave (Some a.lane) a.lane.shard a.places Expired a.line None a.moment ∷ h) c.requires.legal in
    let each = subst (λ (ps : List ℕ). AreShards self w (Gave (Some a.lane) a.lane.shard ps Expired a.line None a.moment ∷ h)) c.as_slice.ensures
    (c.shard_expired.ensures.goes_on a.line a.moment
    (subst (λ (ps : List ℕ). Legal (setting_of self) (Gave (Some a.lane) a.lane.shard ps Expired a.line None a.moment ∷ h)) (sym c.as_slice.ensures) legal)) in
    let done = quiet_added self w c.note.new.self (Gave (Some a.lane) a.lane.shard a.places Expired a.line None a.moment) (quiet_gave (Some a.lane) a.lane.shard a.places Expired a.line None a.moment) c.requires.kept c.requires.room c.requires.legal
    c.shard_expired.ensures.before c.note.ensures.others c.note.ensures.history c.note.ensures.len c.note.ensures.capacity c.shard_expired.ensures.changed each in
    let shards : c.note.new.self.shards ≡ c.shard_expired.new.self.shards = ap (λ (z : Ledger). z.shards) c.note.ensures.others in
    record {
      kept = done.kept;
      past = done.past;
      setting = done.setting;
      room = done.room;
      shards = λ n r. room_kept self w c.note.new.self a.lane.shard n shards c.shard_expired.ensures.others r;
      elsewhere = elsewhere_over self w c.note.new.self a.lane.shard (Gave (Some a.lane) a.lane.shard a.places Expired a.line None a.moment) c.requires.kept legal done.past done.setting (record { shards = refl; count = λ n. refl })
          (λ k off. off_shard a.lane.shard k off) shards c.shard_expired.ensures.others;
      splits = λ other has. splits_over self w c.note.new.self other shards c.shard_expired.ensures.changed has;
      states = λ n v has. states_over self w c.note.new.self n v shards c.shard_expired.ensures.states has;
    }
