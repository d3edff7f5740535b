-- What came is within the bounds of an event.
use Rattle.std.proofs.Common.{◌≡◌, ℕ, zero, suc, ◌+◌, ◌-◌, ◌<◌, ◌≤◌, Bool, true, false, not, List, [], ◌∷◌, length, codes, refl, sym, ap, subst, inl, inr, Option, Some, None, arith}
use Rattle.std.specs.Prelude.{◌==◌, All, max, is_some, unwrap_or, slice_get}
use Rattle.std.specs.Option.{ForSome}
use Rattle.std.proofs.lemmas.Bool.{cases_Bool, eqb-true}
use Rattle.std.proofs.lemmas.Option.{slice_get_cases}
use Rattle.std.proofs.lemmas.List.Elements.{All-cons, All-nil}
use Rattle.esm_model.specs.declared.limits.TheConstants.{MAX_EVENT, MAX_DATA, MAX_SHARD}
use Rattle.esm_model.specs.declared.moment.TheConstants.{MAX_MOMENT}
use Rattle.esm_model.specs.Records.{Record}
use Rattle.esm_model.specs.declared.entry.Entry.{Entry}
use Rattle.esm_model.specs.declared.event.WindowCall.{WindowCall}
use Rattle.esm_model.specs.Valid.{IsValidRecord}
use Rattle.esm_model.specs.ValidCall.{IsValidWindowCall}
use Rattle.esm_model.specs.JsonText.{truth_text}
use Rattle.esm_model.specs.EventText.{record_text, state_text}
use Rattle.esm_model.specs.Setting.{Setting, record_at, records_at, records_of}
use Rattle.esm_model.specs.Entries.{came_count}
use Rattle.esm_model.specs.Windows.{has_windows, window_floor, window_from, window_of, kept_state, window_state}
use Rattle.esm_model.specs.Calls.{window_call}
use Rattle.esm_model.specs.Step.{Legal}
use Rattle.esm_model.proofs.Records.{came_within}
use Rattle.esm_event.proofs.LengthLemmas.{length-record_text, window_length, frame_length}
use Rattle.esm_next.specs.Gathering.{element_bytes, window_in, call_in, frame_of}

-- the records that came stand in their list
pub came_stands : (s : Setting) (h : List Entry) → Legal s h → (n i : ℕ) → i < came_count h n → is_some (record_at s n i) ≡ true
came_stands s h legal n i came =
    let within = came_within s h legal n in
    elim (slice_get_cases (records_of s n) i).1 [
      | inl there ↦ ap is_some there.2
      | inr past ↦ (let out : length (records_of s n) ≤ i = past.0 in absurd (omega arith))
    ]

-- each record of the shard is valid
abbrev pub AreValid : Setting → ℕ → Type 0
AreValid s n = (i : ℕ) (r : Record) → record_at s n i ≡ Some r → IsValidRecord r

valid_more : (s : Setting) (n x : ℕ) (xs : List ℕ) (o : Option Record) → record_at s n x ≡ o → ((r : Record) → o ≡ Some r → IsValidRecord r) → All IsValidRecord (records_at s n xs) → All IsValidRecord (records_at s n (x ∷ xs))
valid_more s n x xs None is each before =
    let same : records_at s n (x ∷ xs) ≡ records_at s n xs = rw is refl in
    subst (λ (rs : List Record). All IsValidRecord rs) (sym same) before
valid_more s n x xs (Some r) is each before =
    let more : records_at s n (x ∷ xs) ≡ r ∷ records_at s n xs = rw is refl in
    subst (λ (rs : List Record). All IsValidRecord rs) (sym more) (All-cons IsValidRecord r (records_at s n xs) (each r refl) before)

pub records_valid : (s : Setting) (n : ℕ) (places : List ℕ) → AreValid s n → All IsValidRecord (records_at s n places)
records_valid s n [] each = All-nil IsValidRecord
records_valid s n (x ∷ xs) each = valid_more s n x xs (record_at s n x) refl (λ r is. each x r is) (records_valid s n xs each)

-- windows

max_low : (a b m : ℕ) → a ≤ m → b ≤ m → max a b ≤ m
max_low a b m x y = omega arith

floor_low : (width a m : ℕ) → a ≤ m → window_floor width a ≤ m
floor_low width a m x = omega arith

window_from_low : (width before : ℕ) (rs : List Record) (i m : ℕ) → before ≤ m → ((j : ℕ) (r : Record) → slice_get rs j ≡ Some r → r.arrival ≤ m) → window_from width before rs i ≤ m
window_from_low width before [] i m low each = low
window_from_low width before (r ∷ rs) zero m low each = max_low before (window_floor width r.arrival) m low (floor_low width r.arrival m (each 0 r refl))
window_from_low width before (r ∷ rs) (suc i) m low each =
    window_from_low width (max before (window_floor width r.arrival)) rs i m (max_low before (window_floor width r.arrival) m low (floor_low width r.arrival m (each 0 r refl))) (λ j q is. each (suc j) q is)

pub window_low : (s : Setting) (n i : ℕ) → AreValid s n → window_of s n i ≤ MAX_MOMENT
window_low s n i each = window_from_low s.config.tumbling_ms 0 (records_of s n) i MAX_MOMENT (omega arith) (λ j r is. (each j r is).arrival)

pub window_in_low : (s : Setting) (n i : ℕ) → AreValid s n → window_in s n i ≤ MAX_MOMENT
window_in_low s n i each = elim (cases_Bool (has_windows s.config)) [
  | inl has ↦ rw has (window_low s n i each)
  | inr none ↦ rw none (omega arith)
]

-- what an event says of its window

pub call_first : (s : Setting) (h : List Entry) (n x : ℕ) (xs : List ℕ) → call_in s h n (window_in s n x) false ≡ window_call s h n (x ∷ xs) None
call_first s h n x xs = elim (cases_Bool (has_windows s.config)) [
  | inl has ↦ rw has refl
  | inr none ↦ rw none refl
]

pub call_final : (s : Setting) (h : List Entry) (n w : ℕ) → call_in s h n w true ≡ window_call s h n [] (Some w)
call_final s h n w = refl

-- where windows are configured, and where they are not

pub windows_off : (s : Setting) → s.config.tumbling_ms ≡ 0 → has_windows s.config ≡ false
windows_off s none = ap (λ (k : ℕ). not (k == 0)) none

pub windows_on : (s : Setting) → (s.config.tumbling_ms ≡ 0 → ⊥) → has_windows s.config ≡ true
windows_on s some = elim (cases_Bool (s.config.tumbling_ms == 0)) [
  | inl none ↦ absurd (some (eqb-true s.config.tumbling_ms 0 none))
  | inr is ↦ ap not is
]

pub call_off : (s : Setting) (h : List Entry) (n w : ℕ) (closing : Bool) → s.config.tumbling_ms ≡ 0 → None ≡ call_in s h n w closing
call_off s h n w closing none = (let off : has_windows s.config ≡ false = windows_off s none in rw off refl)

pub call_on : (s : Setting) (h : List Entry) (n w : ℕ) (closing : Bool) (text : List ℕ) → (s.config.tumbling_ms ≡ 0 → ⊥) → text ≡ window_state s h n w
    → Some (record { shard = n; state = record { window = w; text = text }; closing = closing }) ≡ call_in s h n w closing
call_on s h n w closing text some is =
    let on : has_windows s.config ≡ true = windows_on s some in
    rw on (ap (λ (t : List ℕ). Some (record { shard = n; state = record { window = w; text = t }; closing = closing })) is)

pub window_off : (s : Setting) (n i : ℕ) → s.config.tumbling_ms ≡ 0 → 0 ≡ window_in s n i
window_off s n i none = (let off : has_windows s.config ≡ false = windows_off s none in rw off refl)

pub window_on : (s : Setting) (n i w : ℕ) → (s.config.tumbling_ms ≡ 0 → ⊥) → w ≡ window_of s n i → w ≡ window_in s n i
window_on s n i w some is = (let on : has_windows s.config ≡ true = windows_on s some in rw on is)

text_low : (o : Option (List ℕ)) → ((text : List ℕ) → o ≡ Some text → length text ≤ MAX_DATA) → length (unwrap_or o (codes "{}")) ≤ MAX_DATA
text_low None each = omega arith
text_low (Some text) each = each text refl

same_call : (a b : WindowCall) → Some a ≡ Some b → a ≡ b
same_call a b e = cc

no_call : (b : WindowCall) → None ≡ Some b → ⊥
no_call b e = cc

pub call_valid : (s : Setting) (h : List Entry) (n w : ℕ) (closing : Bool) → n ≤ MAX_SHARD → w ≤ MAX_MOMENT → ((text : List ℕ) → kept_state s h n w ≡ Some text → length text ≤ MAX_DATA) → ForSome (call_in s h n w closing) IsValidWindowCall
call_valid s h n w closing shard moment each = elim (cases_Bool (has_windows s.config)) [
  | inr none ↦ rw none (λ x e. absurd (no_call x e))
  | inl has ↦ rw has (λ x e. subst IsValidWindowCall (same_call (record { shard = n; state = record { window = w; text = window_state s h n w }; closing = closing }) x e) (record { shard = shard; window = moment; text = text_low (kept_state s h n w) each }))
]

-- one record fits an event with any window

state_low : (text : List ℕ) → length text ≤ MAX_DATA → length (state_text text) ≤ MAX_DATA
state_low [] low = omega arith
state_low (b ∷ bytes) low = low

truth_low : (b : Bool) → length (truth_text b) ≤ 5
truth_low true = omega arith
truth_low false = omega arith

frame_low : (s : Setting) (w : Option WindowCall) → ForSome w IsValidWindowCall → frame_of s w ≤ 1048786 + length s.config.source_arn
frame_low s None valid = omega (arith, frame_length s.config None)
frame_low s (Some w) valid =
    let is : IsValidWindowCall w = valid w refl in
    omega (arith, frame_length s.config (Some w), window_length s.config w, state_low w.state.text is.text, truth_low w.closing)

source_low : (s : Setting) (n x : ℕ) (o : Option Record) → record_at s n x ≡ o → is_some o ≡ true → element_bytes s n x ≤ 2000000 → length s.config.source_arn ≤ 2000000
source_low s n x None is some low = cc
source_low s n x (Some r) is some low =
    let bytes : element_bytes s n x ≡ length (record_text s.config r) = rw is refl in
    omega (arith, bytes, low, length-record_text s.config r)

pub record FitsAlone (s : Setting) (n x : ℕ) (w : Option WindowCall) : Type 0 where
  pub element : element_bytes s n x ≤ MAX_EVENT - frame_of s w
  pub frame : frame_of s w ≤ MAX_EVENT

pub fits_alone : (s : Setting) (n x : ℕ) (w : Option WindowCall) → is_some (record_at s n x) ≡ true → element_bytes s n x ≤ 2000000 → ForSome w IsValidWindowCall → FitsAlone s n x w
fits_alone s n x w stands low valid =
    let source = source_low s n x (record_at s n x) refl stands low in
    let frame = frame_low s w valid in
    record { element = omega (arith, source, frame, low); frame = omega (arith, source, frame) }
