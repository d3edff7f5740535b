-- What a ledger needs to add an owed entry, and what adding one leaves. Only this crate's proofs cite this.
use Rattle.std.specs.Prelude.{◌≡◌, ◌≢◌, ℕ, ◌+◌, ◌<◌, List, [], ◌∷◌, length, drop, IfSome, ⊤, vec_len, vec_capacity}
use Rattle.esm_model.specs.declared.entry.Fate.TheVariants as fates
use Rattle.esm_model.specs.declared.entry.Entry.{Entry}
use Rattle.esm_model.specs.declared.entry.Entry.TheVariants as entry
use Rattle.esm_model.specs.declared.entry.WindowState.{WindowState}
use Rattle.esm_model.specs.Entries.{moment_of, came_count, is_shut}
use Rattle.esm_model.specs.Tries.{verdict_after}
use Rattle.esm_ledger.specs.declared.ledger.Ledger.{Ledger}
use Rattle.esm_ledger.specs.declared.coming.Coming.{Coming}
use Rattle.esm_ledger.specs.Ledger.{past_of, setting_of, LegalOver, HasRoom, HasShardRoom, Keeps, HasSplits, HasState, IsClosingPrepared}
use Rattle.esm_ledger.specs.Prepared.{StaysElsewhere}
use Rattle.esm_ledger.specs.Coming.{IsComing}
use Rattle.esm_stream_core.specs.declared.owed.Act.{Act}
use Rattle.esm_stream_core.specs.declared.owed.Act.TheVariants as act
use Rattle.esm_stream_core.specs.declared.owed.Owed.{Owed}
use Rattle.esm_stream_core.specs.CoreView.{setting_after}
use Rattle.esm_stream_core.specs.Acts.{act_entry, parts_of}

-- the entries in the history that need room: its own, and that of the end of a call that begins
abbrev pub cost_of : Act → ℕ
cost_of (act.Began lane places closing moment) = 2
cost_of _ = 1

abbrev pub costs : List Owed → ℕ
costs [] = 0
costs (o ∷ owed) = cost_of o.act + costs owed

-- what the ledger needs to add it

-- the records that come with a `Came`
pub record IsArriving (c : Ledger) (x : Coming) (shard first count : ℕ) : Type 0 where
  pub coming : IsComing c x
  pub room : HasShardRoom c 1
  pub shard_is : shard ≡ x.shard
  pub first_is : first ≡ came_count (past_of c) x.shard
  pub count_is : count ≡ length x.arriving.records.items

abbrev pub ComesBy : Ledger → Coming → Act → Type 0
ComesBy c x (act.Came shard first count moment) = IsArriving c x shard first count
ComesBy c x _ = ⊥

-- any other entry: the ruling of an end and the memory for it, the memory for a state, or a lane that exists
abbrev pub IsReadyAlone : Ledger → Act → Type 0
IsReadyAlone c (act.Came shard first count moment) = ⊥
IsReadyAlone c (act.Began lane places closing moment) = HasSplits c lane
IsReadyAlone c (act.Ended lane reply verdict moment) = (verdict ≡ verdict_after (setting_of c) (past_of c) lane reply) × IsClosingPrepared c lane
IsReadyAlone c (act.Gave by shard places fate line state copy moment) = (fate ≢ fates.Expired) × (copy ≡ state) × IfSome state (λ (x : WindowState). HasState c shard x.window)
IsReadyAlone c (act.Expired lane places line moment) = lane.lane < c.config.factor
IsReadyAlone c _ = ⊤

-- the next records that are coming come with it, if any are
abbrev pub IsReady : Ledger → List Coming → Act → Type 0
IsReady c [] a = IsReadyAlone c a
IsReady c (x ∷ xs) a = ComesBy c x a

-- what stays prepared after it
abbrev pub StaysAfter : Ledger → Ledger → Act → Type 0
StaysAfter c d (act.Ended lane reply verdict moment) = (n w : ℕ) → HasState c n w → HasState d n w
StaysAfter c d _ = ⊤

pub record StaysOver (c d : Ledger) (x : Coming) : Type 0 where
  pub elsewhere : StaysElsewhere c d x.shard
  pub shards : (n : ℕ) → HasShardRoom c (n + 1) → HasShardRoom d n

abbrev pub StaysPrepared : Ledger → Ledger → List Coming → Act → Type 0
StaysPrepared c d [] a = StaysAfter c d a
StaysPrepared c d (x ∷ xs) a = StaysOver c d x

-- a ledger took an entry, and the next records with it, for which all was prepared
pub record IsAdded (c d : Ledger) (xs : List Coming) (a : Act) : Type 0 where
  pub keeps : Keeps d
  pub past : past_of d ≡ act_entry a ∷ past_of c
  pub setting : setting_of d ≡ setting_after (setting_of c) (parts_of xs)
  pub room : (n : ℕ) → HasRoom c (n + cost_of a) → HasRoom d n
  pub stays : StaysPrepared c d xs a

-- each is ready when those before it were added, and all that is coming comes with them
abbrev pub ArePayable : Ledger → List Coming → List Owed → Type 0
ArePayable c xs [] = xs ≡ []
ArePayable c xs (o ∷ owed) = IsReady c xs o.act × ((d : Ledger) → IsAdded c d xs o.act → ArePayable d (drop 1 xs) owed)

-- all is prepared for the entry
pub record CanAdd (c : Ledger) (xs : List Coming) (a : Act) : Type 0 where
  pub keeps : Keeps c
  pub ready : IsReady c xs a
  pub room : HasRoom c (cost_of a)
  pub legal : LegalOver (setting_after (setting_of c) (parts_of xs)) (act_entry a ∷ past_of c)

-- the input may end
pub record CanShut (c : Ledger) (m : ℕ) : Type 0 where
  pub keeps : Keeps c
  pub legal : LegalOver (setting_of c) (entry.Shut m ∷ past_of c)

-- the ledger's input ended
pub record IsShut (c d : Ledger) (m : ℕ) : Type 0 where
  pub keeps : Keeps d
  pub past : past_of d ≡ entry.Shut m ∷ past_of c
  pub setting : setting_of d ≡ setting_of c

-- entries that are noted

-- an entry was appended to the history alone
pub record IsPushed (c d : Ledger) (e : Entry) : Type 0 where
  pub past : past_of d ≡ e ∷ past_of c
  pub shards : d.shards ≡ c.shards
  pub setting : setting_of d ≡ setting_of c
  pub last : d.last ≡ moment_of e
  pub shut : c.shut ≡ is_shut (past_of c) → d.shut ≡ is_shut (past_of d)
  pub begun : d.begun ≡ c.begun
  pub len : vec_len d.history ≡ vec_len c.history + 1
  pub capacity : vec_capacity d.history ≡ vec_capacity c.history
