-- The records that come with a `Came`, and what an entry leaves of the room.
use Rattle.std.proofs.Common.{◌≡◌, ℕ, ◌+◌, List, [], ◌∷◌, length, ap, ap₂, ◌∙◌, subst, arith}
use Rattle.esm_model.specs.declared.entry.Entry.{Entry}
use Rattle.esm_model.specs.declared.entry.Entry.TheVariants as entry
use Rattle.esm_model.specs.Setting.{Setting}
use Rattle.esm_model.specs.Entries.{came_count}
use Rattle.esm_ledger.specs.declared.ledger.Ledger.{Ledger}
use Rattle.esm_ledger.specs.declared.coming.Coming.{Coming}
use Rattle.esm_ledger.specs.Ledger.{past_of, setting_of, LegalOver, HasRoom}
use Rattle.esm_stream_core.specs.declared.owed.Act.{Act}
use Rattle.esm_stream_core.specs.Acts.{act_entry}
use Rattle.esm_stream_core.specs.Adding.{IsArriving, IsAdded, CanAdd}

-- the records of the shard come next to those that it has
abbrev pub next_came : Ledger → Coming → ℕ → Entry
next_came c x m = entry.Came x.shard (came_count (past_of c) x.shard) (length x.arriving.records.items) m

pub came_is : (c : Ledger) (x : Coming) (shard first count m : ℕ) → IsArriving c x shard first count → entry.Came shard first count m ≡ next_came c x m
came_is c x shard first count m a =
    ap (λ (n : ℕ). entry.Came n first count m) a.shard_is
    ∙ ap₂ (λ (k l : ℕ). entry.Came x.shard k l m) a.first_is a.count_is

pub come_legal : (c : Ledger) (s : Setting) (x : Coming) (shard first count m : ℕ) → IsArriving c x shard first count → LegalOver s (entry.Came shard first count m ∷ past_of c) → LegalOver s (next_came c x m ∷ past_of c)
come_legal c s x shard first count m a legal = subst (λ (e : Entry). LegalOver s (e ∷ past_of c)) (came_is c x shard first count m a) legal

-- an entry that takes no room takes no more than one
pub less_room : (c d : Ledger) → ((n : ℕ) → HasRoom c n → HasRoom d n) → (n : ℕ) → HasRoom c (n + 1) → HasRoom d n
less_room c d keeps n r = keeps n (record {
  room = (let q = r.room in omega (arith, q));
  short = (let q = r.short in omega (arith, q));
})

-- the entry of an act may be added
pub act_legal : (c : Ledger) (a b : Act) → a ≡ b → LegalOver (setting_of c) (act_entry a ∷ past_of c) → LegalOver (setting_of c) (act_entry b ∷ past_of c)
act_legal c a b is legal = subst (λ (x : Act). LegalOver (setting_of c) (act_entry x ∷ past_of c)) is legal

-- only the next of the records that are coming come with an entry

pub can_add_next : (c : Ledger) (x : Coming) (xs : List Coming) (a : Act) → CanAdd c (x ∷ xs) a → CanAdd c (x ∷ []) a
can_add_next c x xs a can = record { keeps = can.keeps; ready = can.ready; room = can.room; legal = can.legal }

pub added_next : (c d : Ledger) (x : Coming) (xs : List Coming) (a : Act) → IsAdded c d (x ∷ []) a → IsAdded c d (x ∷ xs) a
added_next c d x xs a added = record { keeps = added.keeps; past = added.past; setting = added.setting; room = added.room; stays = added.stays }
