-- What is read of the fates that are kept of a shard.
use Rattle.std.proofs.Common.{◌≡◌, ℕ, true, List, refl, sym, ap, Some, None, arith}
use Rattle.std.specs.Prelude.{nat_lt}
use Rattle.std.proofs.lemmas.Bool.{lt-ltb}
use Rattle.esm_model.specs.declared.entry.Entry.{Entry}
use Rattle.esm_model.specs.Setting.{Setting}
use Rattle.esm_model.specs.Entries.{came_count}
use Rattle.esm_shard_index.specs.Progress.{Tally, IsProgress, front_of, past_of as spread_in}
use Rattle.esm_shard_index.specs.ProgressLaws.{ProgressTells}
use Rattle.esm_ledger.specs.declared.ledger.Ledger.{Ledger}
use Rattle.esm_ledger.specs.declared.coming.Coming.{Coming}
use Rattle.esm_ledger.specs.declared.shard.ShardLedger.{ShardLedger}
use Rattle.esm_ledger.specs.Ledger.{past_of, setting_of, IsAt}
use Rattle.esm_ledger.specs.Reading.{checkpoint_of, spread_of}
use Rattle.esm_stream_core.specs.declared.owed.Owed.{Owed}
use Rattle.esm_stream_core.specs.declared.standing.Standing.{Standing}
use Rattle.esm_stream_core.specs.Kept.{AreCounted, IsKept}
use Rattle.esm_stream_core.proofs.Leaving.{left_in}

pub counted_in : (c : Ledger) (xs : List Coming) (owed : List Owed) (st : Standing) → IsKept c xs owed st → AreCounted c
counted_in c xs owed st k = (left_in c xs owed st k.stands).counted

pub checkpoint_absent : (c : Ledger) (n : ℕ) → AreCounted c → ((x : ShardLedger) → IsAt c n x → ⊥) → None ≡ checkpoint_of (setting_of c) (past_of c) n
checkpoint_absent c n counted none = rw (counted.none n none) refl

pub spread_absent : (c : Ledger) (n : ℕ) → AreCounted c → ((x : ShardLedger) → IsAt c n x → ⊥) → None ≡ spread_of (setting_of c) (past_of c) n
spread_absent c n counted none = rw (counted.none n none) refl

has_come : (c : Ledger) (n : ℕ) (x : ShardLedger) → AreCounted c → IsAt c n x → nat_lt 0 (came_count (past_of c) n) ≡ true
has_come c n x counted at = lt-ltb 0 (came_count (past_of c) n) (let some = counted.some n x at in omega (arith, some))

module _ (tells : (s : Setting) (h : List Entry) (n : ℕ) (t : Tally) → IsProgress s h n t → ProgressTells s h n t) where
  pub checkpoint_here : (c : Ledger) (n : ℕ) (x : ShardLedger) → AreCounted c → IsAt c n x → Some (front_of x.progress.fated) ≡ checkpoint_of (setting_of c) (past_of c) n
  checkpoint_here c n x counted at =
      rw (has_come c n x counted at) (ap Some (sym (tells (setting_of c) (past_of c) n x.progress (counted.each n x at)).checkpoint_is))

  pub spread_here : (c : Ledger) (n : ℕ) (x : ShardLedger) → AreCounted c → IsAt c n x → Some (spread_in x.progress.fated) ≡ spread_of (setting_of c) (past_of c) n
  spread_here c n x counted at =
      rw (has_come c n x counted at) (ap Some (sym (tells (setting_of c) (past_of c) n x.progress (counted.each n x at)).spread_is))
