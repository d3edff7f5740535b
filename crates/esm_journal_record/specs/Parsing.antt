-- Reading a payload from left to right. A field is a value and the bytes after it.
use Rattle.std.specs.Prelude.{◌≡◌, ℕ, zero, suc, Bool, ◌==◌, nat_lt, nat_le, List, [], ◌∷◌, length, take, drop, Option, Some, None, Result, Ok, Err, if◌then◌else◌}
use Rattle.std.specs.Int.{Width, w32, w64, byte_len, from_be_bytes}
use Rattle.esm_model.specs.declared.limits.TheConstants.{MAX_SHARD, MAX_DATA, MAX_TRIES}
use Rattle.esm_model.specs.declared.moment.TheConstants.{MAX_MOMENT}
use Rattle.esm_model.specs.Sequence.{is_sequence}
use Rattle.esm_model.specs.Valid.{is_between}
use Rattle.esm_model.specs.declared.entry.Fate.{Fate}
use Rattle.esm_model.specs.declared.entry.Fate.TheVariants.{Succeeded, Filtered, Expired, Exhausted}
use Rattle.esm_model.specs.declared.entry.WindowState.{WindowState}
use Rattle.esm_journal_record.specs.declared.said.Said.{Said}
use Rattle.esm_journal_record.specs.declared.said.Said.TheVariants.{Fates, Closed, Deleted, State, Tried, WindowTried, Replayed}
use Rattle.esm_journal_record.specs.declared.field.ReadError.{ReadError}
use Rattle.esm_journal_record.specs.declared.field.ReadError.TheVariants.{Memory, NoPayload}
use Rattle.esm_journal_record.specs.declared.names.Named.{Named}
use Rattle.esm_journal_record.specs.Payload.{rises, is_message_id, may_keep, is_deletion}

infixl 10 ◌>>=◌
abbrev pub ◌>>=◌ : {A B : Type 0} → Option A → (A → Option B) → Option B
None >>= f = None
(Some x) >>= f = f x

-- what a function returned, seen through `view`, is what reading gives, unless memory ran out
abbrev pub Fails : {Y : Type 0} → ReadError → Option Y → Type 0
Fails Memory read = Unit {0}
Fails NoPayload read = read ≡ None

abbrev pub Gives : {X Y : Type 0} → (X → Y) → Result X ReadError → Option Y → Type 0
Gives view (Ok x) read = read ≡ Some (view x)
Gives view (Err e) read = Fails e read

-- reading in general

-- a field and then another one
infixr 12 ◌⊗◌
abbrev pub ◌⊗◌ : {A B : Type 0} → (List ℕ → Option (A × List ℕ)) → (List ℕ → Option (B × List ℕ)) → List ℕ → Option ((A × B) × List ℕ)
(first ⊗ second) bytes = do
  x ← first bytes
  y ← second x.1
  Some ((x.0, y.0), y.1)

-- a field whose value passes a test
abbrev pub only : {A : Type 0} → (A → Bool) → (List ℕ → Option (A × List ℕ)) → List ℕ → Option (A × List ℕ)
only passes field bytes = do
  x ← field bytes
  if passes x.0 then Some x else None

-- a field, with a function applied to its value
abbrev pub made : {A B : Type 0} → (A → B) → (List ℕ → Option (A × List ℕ)) → List ℕ → Option (B × List ℕ)
made make field bytes = do
  x ← field bytes
  Some (make x.0, x.1)

-- fields

unfoldable pub number_at : Width → List ℕ → Option (ℕ × List ℕ)
number_at w bytes = if nat_lt (length bytes) (byte_len w) then None else Some (from_be_bytes w (take (byte_len w) bytes), drop (byte_len w) bytes)

unfoldable pub byte_at : List ℕ → Option (ℕ × List ℕ)
byte_at [] = None
byte_at (b ∷ rest) = Some (b, rest)

unfoldable pub shard_at : List ℕ → Option (ℕ × List ℕ)
shard_at = only (λ n. nat_le n MAX_SHARD) (number_at w64)

unfoldable pub moment_at : List ℕ → Option (ℕ × List ℕ)
moment_at = only (λ n. nat_le n MAX_MOMENT) (number_at w64)

unfoldable pub tries_at : List ℕ → Option (ℕ × List ℕ)
tries_at = only (is_between 1 MAX_TRIES) (number_at w32)

abbrev pub fate_of : ℕ → Option Fate
fate_of b = if b == 1 then Some Succeeded else (if b == 2 then Some Filtered else (if b == 3 then Some Expired else (if b == 4 then Some Exhausted else None)))

unfoldable pub fate_at : List ℕ → Option (Fate × List ℕ)
fate_at bytes = do
  b ← byte_at bytes
  fate ← fate_of b.0
  Some (fate, b.1)

-- `n` bytes
unfoldable pub taken : ℕ → List ℕ → Option (List ℕ × List ℕ)
taken n bytes = if nat_lt (length bytes) n then None else Some (take n bytes, drop n bytes)

-- the length of a text, then the text
unfoldable pub text_at : List ℕ → Option (List ℕ × List ℕ)
text_at bytes = do
  n ← only (λ n. nat_le n MAX_DATA) (number_at w32) bytes
  taken n.0 n.1

abbrev pub state_of : ℕ × List ℕ → WindowState
state_of x = record { window = x.0; text = x.1 }

-- a flag, and if it is 1 the window and its state
unfoldable pub flagged_at : List ℕ → Option (Option WindowState × List ℕ)
flagged_at bytes = do
  flag ← byte_at bytes
  if flag.0 == 0 then Some (None, flag.1) else (if flag.0 == 1 then made (λ x. Some (state_of x)) (moment_at ⊗ text_at) flag.1 else None)

-- places with their texts

unfoldable pub name_at : (List ℕ → Bool) → List ℕ → Option ((ℕ × List ℕ) × List ℕ)
name_at is_text bytes = do
  place ← number_at w32 bytes
  count ← byte_at place.1
  text ← taken count.0 count.1
  if is_text text.0 then Some ((place.0, text.0), text.1) else None

unfoldable pub names_at : (List ℕ → Bool) → ℕ → List ℕ → Option (Named × List ℕ)
names_at is_text zero bytes = Some (record { places = []; texts = [] }, bytes)
names_at is_text (suc n) bytes = do
  name ← name_at is_text bytes
  others ← names_at is_text n name.1
  Some (record { places = name.0.0 ∷ others.0.places; texts = name.0.1 ∷ others.0.texts }, others.1)

unfoldable pub named_at : (List ℕ → Bool) → List ℕ → Option (Named × List ℕ)
named_at is_text bytes = do
  count ← only (nat_le 1) (number_at w32) bytes
  only (λ named. rises named.places) (names_at is_text count.0) count.1

-- payloads

unfoldable pub fates_at : List ℕ → Option (Said × List ℕ)
fates_at = made (λ x. Fates x.0 x.1.0 x.1.1.0 x.1.1.1.0 x.1.1.1.1.places x.1.1.1.1.texts)
    (only (λ x. may_keep x.1.0 x.1.1.1.0) (shard_at ⊗ fate_at ⊗ moment_at ⊗ flagged_at ⊗ named_at is_sequence))

unfoldable pub closed_at : List ℕ → Option (Said × List ℕ)
closed_at = made (λ x. Closed x.0 x.1.0 x.1.1) (shard_at ⊗ moment_at ⊗ moment_at)

unfoldable pub deleted_at : List ℕ → Option (Said × List ℕ)
deleted_at = made (λ x. Deleted x.0 x.1.0 x.1.1.places x.1.1.texts) (only is_deletion fate_at ⊗ moment_at ⊗ named_at is_message_id)

unfoldable pub state_at : List ℕ → Option (Said × List ℕ)
state_at = made (λ x. State x.0 x.1.1.0 (state_of (x.1.0, x.1.1.1))) (shard_at ⊗ moment_at ⊗ moment_at ⊗ text_at)

unfoldable pub tried_at : List ℕ → Option (Said × List ℕ)
tried_at = made (λ x. Tried x.0 x.1.0 x.1.1.0 x.1.1.1.places x.1.1.1.texts) (shard_at ⊗ moment_at ⊗ tries_at ⊗ named_at is_sequence)

unfoldable pub window_tried_at : List ℕ → Option (Said × List ℕ)
window_tried_at = made (λ x. WindowTried x.0 x.1.0 x.1.1.0 x.1.1.1) (shard_at ⊗ moment_at ⊗ moment_at ⊗ tries_at)

unfoldable pub replayed_at : List ℕ → Option (Said × List ℕ)
replayed_at = made (λ x. Replayed x.0 x.1.0 x.1.1.places x.1.1.texts) (shard_at ⊗ moment_at ⊗ named_at is_sequence)

-- by the kind
unfoldable pub said_at : ℕ → List ℕ → Option (Said × List ℕ)
said_at kind bytes =
    if kind == 1 then fates_at bytes else (
    if kind == 2 then closed_at bytes else (
    if kind == 3 then deleted_at bytes else (
    if kind == 4 then state_at bytes else (
    if kind == 5 then tried_at bytes else (
    if kind == 6 then window_tried_at bytes else (
    if kind == 7 then replayed_at bytes else None))))))

-- what all of the bytes say, if they are a payload
unfoldable pub said_of : List ℕ → Option Said
said_of bytes = do
  kind ← byte_at bytes
  said ← said_at kind.0 kind.1
  if length said.1 == 0 then Some said.0 else None
