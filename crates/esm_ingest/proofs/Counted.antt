-- The records of a ledger's shards.
use Rattle.std.proofs.Common.{◌≡◌, ℕ, ◌<◌, false, List, [], ◌∷◌, map, length, refl, sym, ap, ◌∙◌, subst, inl, inr, get_or}
use Rattle.std.specs.Prelude.{◌==◌}
use Rattle.std.proofs.lemmas.Bool.{cases_Bool}
use Rattle.std.proofs.lemmas.Option.{slice_get_read}
use Rattle.esm_model.specs.Records.{Record}
use Rattle.esm_model.specs.Setting.{records_in, records_of}
use Rattle.esm_model.specs.Entries.{holds, came_count}
use Rattle.esm_model.proofs.Lists.{Distinct}
use Rattle.esm_ledger.specs.declared.ledger.Ledger.{Ledger}
use Rattle.esm_ledger.specs.declared.shard.ShardLedger.{ShardLedger}
use Rattle.esm_ledger.specs.Ledger.{past_of, setting_of, stream_of, Keeps}
use Rattle.esm_ledger.proofs.Ledgers.{names, shards_distinct, came_none, shard_found, records_at_place}
use Rattle.esm_ingest.proofs.Shards.{or_off}

-- what no shard has
records_nowhere : (xs : List ShardLedger) (n : ℕ) → holds (names xs) n ≡ false → records_in (map stream_of xs) n ≡ []
records_nowhere [] n none = refl
records_nowhere (x ∷ xs) n none = (let off = or_off (x.shard == n) (holds (names xs) n) none in rw off.0 (records_nowhere xs n off.1))

pub all_counted : (c : Ledger) → Keeps c → (n : ℕ) → came_count (past_of c) n ≡ length (records_of (setting_of c) n)
all_counted c k n = elim (cases_Bool (holds (names c.shards.items) n)) [
  | inl known ↦ (
      let f = shard_found c.shards.items n known in
      let d : Distinct (names c.shards.items) = subst Distinct (sym k.rests.shards) (shards_distinct (past_of c)) in
      let is : records_in (map stream_of c.shards.items) f.kept.shard ≡ f.kept.records.items = records_at_place c.shards.items f.place f.kept d f.at in
      let came : length f.kept.records.items ≡ came_count (past_of c) f.kept.shard = (k.each f.kept.shard f.kept (f.place, f.at, refl)).records.came in
      subst (λ (i : ℕ). came_count (past_of c) i ≡ length (records_of (setting_of c) i)) f.shard (sym came ∙ ap (λ (rs : List Record). length rs) (sym is)))
  | inr new ↦ came_none (past_of c) n (ap (λ (ns : List ℕ). holds ns n) (sym k.rests.shards) ∙ new) ∙ ap (λ (rs : List Record). length rs) (sym (records_nowhere c.shards.items n new))
]

-- a shard is where a search finds it

pub counted_at : (c : Ledger) → Keeps c → (n i : ℕ) (x : ShardLedger) → i < length c.shards.items → x ≡ get_or c.shards.items i x → x.shard ≡ n → length x.records.items ≡ came_count (past_of c) n
counted_at c k n i x low is same = (k.each n x (i, slice_get_read c.shards.items (length c.shards.items) i x refl low is, same)).records.came ∙ ap (came_count (past_of c)) same
