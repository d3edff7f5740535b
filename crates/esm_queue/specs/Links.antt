-- Messages that are linked within their groups. This product's own; cited by this crate's proofs alone.
use Rattle.std.specs.Prelude.{◌≡◌, ℕ, ◌<◌, ◌≤◌, ◌==◌, ◌&&◌, Bool, true, false, not, List, length, Option, None, Some, option_map, unwrap_or, slice_get, slice_index, slice_index_or, slice_set, if◌then◌else◌}
use Rattle.esm_queue_model.specs.declared.stored.Stored.{Stored}
use Rattle.esm_queue_model.specs.Queue.{is_group}
use Rattle.esm_queue.specs.declared.links.Link.{Link}
use Rattle.esm_queue.specs.declared.links.TheConstants.{NONE}
use Rattle.esm_queue.specs.declared.moment_tree.TheConstants.{NEVER}

-- the link of a place that no message has
abbrev pub blank : Link
blank = record { founder = NONE; next = NONE; prev = NONE; last = NONE; earlier = NONE }

abbrev pub link_at : List Link → ℕ → Link
link_at links i = slice_index_or links i blank

abbrev pub founder_at : List Link → ℕ → ℕ
founder_at links i = (link_at links i).founder

abbrev pub next_at : List Link → ℕ → ℕ
next_at links i = (link_at links i).next

abbrev pub prev_at : List Link → ℕ → ℕ
prev_at links i = (link_at links i).prev

abbrev pub last_at : List Link → ℕ → ℕ
last_at links i = (link_at links i).last

abbrev pub earlier_at : List Link → ℕ → ℕ
earlier_at links i = (link_at links i).earlier

-- another next, previous or last message beside a place
abbrev pub with_next : List Link → ℕ → ℕ → List Link
with_next links i next = slice_set links i (record (link_at links i) { next = next })

abbrev pub with_prev : List Link → ℕ → ℕ → List Link
with_prev links i prev = slice_set links i (record (link_at links i) { prev = prev })

abbrev pub with_last : List Link → ℕ → ℕ → List Link
with_last links i last = slice_set links i (record (link_at links i) { last = last })

-- the place has a message that is not deleted
abbrev pub alive_at : List Stored → ℕ → Bool
alive_at messages i = unwrap_or (option_map (λ (x : Stored). not x.deleted) (slice_get messages i)) false

-- the group of the message at the place
abbrev pub group_in : Option Stored → Option (List ℕ)
group_in None = None
group_in (Some x) = x.message.group

abbrev pub group_at : List Stored → ℕ → Option (List ℕ)
group_at messages i = group_in (slice_get messages i)

-- two messages have the same founder if and only if the queue is FIFO and they are of one group
pub record IsFounded (fifo : Bool) (messages : List Stored) (links : List Link) : Type 0 where
  pub sized : length links ≡ length messages
  pub low : (i : ℕ) → i < length messages → founder_at links i ≤ i
  pub founder : (i : ℕ) → i < length messages → founder_at links (founder_at links i) ≡ founder_at links i
  pub same : (i j : ℕ) → i < length messages → j < length messages → (i ≡ j → ⊥) → (fifo && is_group (group_at messages i) (group_at messages j)) ≡ (founder_at links i == founder_at links j)

-- the links lead from each message that is not deleted to the next and the one before of its group
pub record IsLinked (messages : List Stored) (links : List Link) : Type 0 where
  pub next_is : (i : ℕ) → alive_at messages i ≡ true → (next_at links i ≡ NONE → ⊥) → (i < next_at links i) × (alive_at messages (next_at links i) ≡ true) × (founder_at links (next_at links i) ≡ founder_at links i)
  pub next_low : (i j : ℕ) → alive_at messages i ≡ true → alive_at messages j ≡ true → founder_at links i ≡ founder_at links j → i < j → (next_at links i ≤ j) × (i < next_at links i)
  pub prev_is : (i : ℕ) → alive_at messages i ≡ true → (prev_at links i ≡ NONE → ⊥) → (prev_at links i < i) × (alive_at messages (prev_at links i) ≡ true) × (founder_at links (prev_at links i) ≡ founder_at links i)
  pub prev_high : (i j : ℕ) → alive_at messages i ≡ true → alive_at messages j ≡ true → founder_at links j ≡ founder_at links i → j < i → (j ≤ prev_at links i) × (prev_at links i < i)
  pub last_is : (f : ℕ) → f < length messages → (last_at links f ≡ NONE → ⊥) → (alive_at messages (last_at links f) ≡ true) × (founder_at links (last_at links f) ≡ f)
  pub last_high : (j : ℕ) → alive_at messages j ≡ true → (j ≤ last_at links (founder_at links j)) × (last_at links (founder_at links j) < length messages)

-- what the tree of heads has for a place: the moment of its message if that is the first of its group that is not deleted
abbrev pub head_moment : ℕ → ℕ → ℕ
head_moment prev moment = if prev == NONE then moment else NEVER

pub record IsHeaded (moments : List ℕ) (links : List Link) (heads : List ℕ) : Type 0 where
  pub sized : length heads ≡ length moments
  pub are : (i : ℕ) → i < length moments → slice_index heads i ≡ head_moment (prev_at links i) (slice_index moments i)
