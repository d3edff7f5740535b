use Rattle.std.proofs.Common.{ℕ, List, Option, sym, subst, arith, ◌∷◌, ◌≡◌, ap, refl, ◌∙◌}
use Rattle.std.specs.Prelude.{IfSome}
use Rattle.esm_model.specs.declared.entry.WindowState.{WindowState}
use Rattle.esm_model.specs.declared.entry.Entry.TheVariants.{Gave}
use Rattle.esm_model.specs.Step.{Legal}
use Rattle.esm_ledger.specs.ShardLaws.{GiftFits}
use Rattle.esm_ledger.specs.Ledger.{past_of, setting_of, HasState}
use Rattle.esm_ledger.specs.Adding.{AreShards}
use Rattle.esm_ledger.proofs.Fitting.{gift_may_come}
use Rattle.esm_ledger.proofs.Ledgers.{own_legal}
use Rattle.esm_ledger.proofs.KeptLedgers.{note_room}
use Rattle.esm_ledger.proofs.Additions.{quiet_added, quiet_gave}
use Rattle.esm_ledger.proofs.Prepared.{room_kept, elsewhere_over, off_shard, splits_over, states_over, closings_over, when_none}
use Rattle.esm_ledger.specs.declared.ledger.Ledger.{Ledger}
use Rattle.esm_ledger.proofs.ledger.Ledger.gave.Goals as goal

pub shard_gave-requires-clause-fits : goal.shard_gave-requires-clause-fits
shard_gave-requires-clause-fits c = λ x at.
    let self = c.args.self.now in
    let a = c.args in
    let legal = own_legal (setting_of self) (Gave a.by a.shard a.places a.fate a.line a.state a.moment ∷ past_of self) c.requires.legal in
    subst (λ (ps : List ℕ). GiftFits x ps) (sym c.as_slice.ensures)
    (gift_may_come (setting_of self) (past_of self) a.by a.places a.fate a.line a.state a.moment x
    (subst (λ (n : ℕ). Legal (setting_of self) (Gave a.by n a.places a.fate a.line a.state a.moment ∷ past_of self)) (sym at.2) legal) (c.requires.kept.each a.shard x at))

pub shard_gave-requires-clause-state : goal.shard_gave-requires-clause-state
shard_gave-requires-clause-state c = subst (λ (o : Option WindowState). IfSome o (λ x. HasState c.args.self.now c.args.shard x.window)) (sym c.requires.copy) c.requires.state

pub note-requires : goal.note-requires
note-requires c = note_room c.args.self.now c.shard_gave.new.self 1 c.shard_gave.ensures.before c.requires.room (omega arith)

pub returns : goal.returns
returns c =
    let self = c.args.self.now in
    let w = c.shard_gave.new.self in
    let a = c.args in
    let h = past_of self in
    let legal = own_legal (setting_of self) (Gave a.by a.shard a.places a.fate a.line a.state a.moment ∷ h) c.requires.legal in
    let each = subst (λ (o : Option WindowState). AreShards self w (Gave a.by a.shard a.places a.fate a.line o a.moment ∷ h)) c.requires.copy
    (subst (λ (ps : List ℕ). AreShards self w (Gave a.by a.shard ps a.fate a.line a.copy a.moment ∷ h)) c.as_slice.ensures
    (c.shard_gave.ensures.goes_on a.by a.line a.moment
    (subst (λ (ps : List ℕ). Legal (setting_of self) (Gave a.by a.shard ps a.fate a.line a.copy a.moment ∷ h)) (sym c.as_slice.ensures)
    (subst (λ (o : Option WindowState). Legal (setting_of self) (Gave a.by a.shard a.places a.fate a.line o a.moment ∷ h)) (sym c.requires.copy) legal)))) in
    let done = quiet_added self w c.note.new.self (Gave a.by a.shard a.places a.fate a.line a.state a.moment) (quiet_gave a.by a.shard a.places a.fate a.line a.state a.moment) c.requires.kept c.requires.room c.requires.legal
    c.shard_gave.ensures.before c.note.ensures.others c.note.ensures.history c.note.ensures.len c.note.ensures.capacity c.shard_gave.ensures.changed each in
    let shards : c.note.new.self.shards ≡ c.shard_gave.new.self.shards = ap (λ (z : Ledger). z.shards) c.note.ensures.others in
    record {
      kept = done.kept;
      past = done.past;
      setting = done.setting;
      room = done.room;
      shards = λ n r. room_kept self w c.note.new.self a.shard n shards c.shard_gave.ensures.others r;
      elsewhere = elsewhere_over self w c.note.new.self a.shard (Gave a.by a.shard a.places a.fate a.line a.state a.moment) c.requires.kept legal done.past done.setting (record { shards = refl; count = λ n. refl })
          (λ k off. off_shard a.shard k off) shards c.shard_gave.ensures.others;
      splits = λ other has. splits_over self w c.note.new.self other shards c.shard_gave.ensures.changed has;
      states = λ none n v has. states_over self w c.note.new.self n v shards (when_none c.args.copy c.shard_gave.ensures.states (c.requires.copy ∙ none)) has;
      closings = λ other has. closings_over self w c.note.new.self other shards c.shard_gave.ensures.closings has;
    }
