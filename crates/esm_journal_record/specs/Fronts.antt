-- What precedes the names of a payload. Only this crate's proofs cite this.
use Rattle.std.specs.Prelude.{ℕ, List, ◌∷◌, ◌++◌, Option}
use Rattle.esm_model.specs.declared.entry.Fate.{Fate}
use Rattle.esm_model.specs.declared.entry.WindowState.{WindowState}
use Rattle.esm_journal_record.specs.Payload.{eight, four, fate_byte, flagged_bytes}

-- what precedes the names of `count` records that get a fate, or that failed
abbrev pub fates_front : ℕ → Fate → ℕ → Option WindowState → ℕ → List ℕ
fates_front shard fate moment state count = 1 ∷ (eight shard ++ (fate_byte fate ∷ (eight moment ++ (flagged_bytes state ++ four count))))

abbrev pub tried_front : ℕ → ℕ → ℕ → ℕ → List ℕ
tried_front shard moment tries count = 5 ∷ (eight shard ++ (eight moment ++ (four tries ++ four count)))
