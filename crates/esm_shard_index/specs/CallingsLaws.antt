-- What each entry does to the calls of a shard's records as they are kept.
use Rattle.std.specs.Prelude.{ℕ, suc, ◌≡◌, ◌+◌, List, [], ◌∷◌, length, Option, if◌then◌else◌}
use Rattle.esm_model.specs.declared.lane.LaneId.{LaneId}
use Rattle.esm_model.specs.declared.entry.Reply.{Reply}
use Rattle.esm_model.specs.declared.entry.Entry.{Entry}
use Rattle.esm_model.specs.declared.entry.Entry.TheVariants.{Came, Began, Ended}
use Rattle.esm_model.specs.Setting.{Setting}
use Rattle.esm_model.specs.Entries.{holds, last_call, batch_of}
use Rattle.esm_model.specs.FailureLine.{response_in}
use Rattle.esm_model.specs.Step.{Legal}
use Rattle.esm_shard_index.specs.Callings.{Called, IsCallings, LeavesCallings, StandOnce, calls_at, response_at}

-- before anything came
abbrev pub CallingsBegin : ℕ → Called → Type 0
CallingsBegin n c = c.records ≡ [] → IsCallings [] n c

-- records of the shard come
abbrev pub CallingsCome : List Entry → ℕ → Called → Type 0
CallingsCome h n c =
    (after : Called) (first count m : ℕ) → IsCallings h n c
    → length after.records ≡ length c.records + count
    → ((i : ℕ) → calls_at after i ≡ calls_at c i)
    → ((i : ℕ) → response_at after i ≡ response_at c i)
    → IsCallings (Came n first count m ∷ h) n after

-- a call of one of its lanes begins
abbrev pub CallBegins : List Entry → LaneId → Called → Type 0
CallBegins h lane c =
    (after : Called) (places : List ℕ) (closing : Option ℕ) (m : ℕ) → IsCallings h lane.shard c
    → length after.records ≡ length c.records
    → ((i : ℕ) → calls_at after i ≡ (if holds places i then suc (calls_at c i) else calls_at c i))
    → ((i : ℕ) → response_at after i ≡ response_at c i)
    → IsCallings (Began lane places closing m ∷ h) lane.shard after

-- it ends
abbrev pub CallEnds : List Entry → LaneId → Called → Type 0
CallEnds h lane c =
    (after : Called) (places : List ℕ) (reply : Reply) (m : ℕ) → IsCallings h lane.shard c
    → batch_of (last_call h lane) ≡ places
    → length after.records ≡ length c.records
    → ((i : ℕ) → calls_at after i ≡ calls_at c i)
    → ((i : ℕ) → response_at after i ≡ (if holds places i then response_in reply else response_at c i))
    → IsCallings (Ended lane reply m ∷ h) lane.shard after

-- another entry follows
abbrev pub CallingsStay : List Entry → ℕ → Called → Type 0
CallingsStay h n c = (e : Entry) → LeavesCallings n e → IsCallings h n c → IsCallings (e ∷ h) n c

-- the batch of a call that begins has each place once
abbrev pub BatchStandsOnce : Setting → List Entry → Type 0
BatchStandsOnce s h = (lane : LaneId) (places : List ℕ) (closing : Option ℕ) (m : ℕ) → Legal s (Began lane places closing m ∷ h) → StandOnce places
