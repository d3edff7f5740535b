use Rattle.std.proofs.Common.{◌≡◌, ◌∙◌, ℕ, ◌<◌, ◌≤◌, true, false, List, [], ◌∷◌, length, map, sym, subst, Option, arith}
use Rattle.std.specs.Prelude.{All, slice_index, is_some}
use Rattle.std.specs.Option.{option_copied, ForSome}
use Rattle.esm_model.specs.declared.entry.Entry.{Entry}
use Rattle.esm_model.specs.declared.event.WindowCall.{WindowCall}
use Rattle.esm_model.specs.ValidCall.{IsValidWindowCall}
use Rattle.esm_model.specs.Setting.{Setting, record_at}
use Rattle.esm_model.specs.Entries.{came_count}
use Rattle.esm_model.specs.Batches.{is_expired}
use Rattle.esm_model.specs.Step.{Legal}
use Rattle.esm_next.specs.declared.piece.SizedItem.{SizedItem}
use Rattle.esm_next.specs.declared.piece.Limits.{Limits}
use Rattle.esm_next.specs.Cuts.{CanBegin}
use Rattle.esm_ledger.specs.Ledger.{past_of, setting_of}
use Rattle.esm_ledger.proofs.Ledgers.{own_legal}
use Rattle.esm_next.specs.Gathering.{element_bytes, piece_of, limits_of}
use Rattle.esm_next.proofs.Bounds.{came_stands, FitsAlone, fits_alone}
use Rattle.esm_next.proofs.Batches.{can_begin}
use Rattle.esm_next.proofs.batch.cut_front.Goals as goal

first_low : (k : ℕ) (few : List ℕ) → 1 ≤ length few → All (λ p. p < k) few → slice_index few 0 < k
first_low k [] some all = absurd (omega arith)
first_low k (x ∷ xs) some all = all 0 0 (omega arith)

-- the first record stands in its list
first_stands : (s : Setting) (h : List Entry) (n : ℕ) (few : List ℕ) → Legal s h → 1 ≤ length few → All (λ p. p < came_count h n) few → is_some (record_at s n (slice_index few 0)) ≡ true
first_stands s h n few legal some came = came_stands s h legal n (slice_index few 0) (first_low (came_count h n) few some came)

first_fits : (s : Setting) (h : List Entry) (n : ℕ) (few : List ℕ) (w : Option WindowCall) → Legal s h → 1 ≤ length few → All (λ p. p < came_count h n) few → element_bytes s n (slice_index few 0) ≤ 2000000 → ForSome w IsValidWindowCall → FitsAlone s n (slice_index few 0) w
first_fits s h n few w legal some came low valid = fits_alone s n (slice_index few 0) w (first_stands s h n few legal some came) low valid

first_begins : (s : Setting) (h : List Entry) (n m : ℕ) (few : List ℕ) (w : Option WindowCall) → Legal s h → 1 ≤ length few → All (λ p. p < came_count h n) few → element_bytes s n (slice_index few 0) ≤ 2000000 → ForSome w IsValidWindowCall → is_expired s n m (slice_index few 0) ≡ false
    → CanBegin (limits_of s h w) m (map (piece_of s h n) few)
first_begins s h n m few w legal some came low valid young =
    can_begin s h n m few w some (first_stands s h n few legal some came) (first_fits s h n few w legal some came low valid) young

pub cut-requires : goal.cut-requires
cut-requires c =
    let s = setting_of c.args.ledger.now in
    let h = past_of c.args.ledger.now in
    let few = c.args.front.now in
    let w = option_copied c.args.window in
    let low : element_bytes s c.args.shard (slice_index few 0) ≤ 2000000 = subst (λ (k : ℕ). k ≤ 2000000) c.first_bytes-alone.ensures.value c.first_bytes-alone.ensures.bound in
    let begins = first_begins s h c.args.shard c.args.now few w (own_legal s h c.requires.kept.rests.legal) c.requires.some c.requires.came low c.requires.valid c.requires.young in
    subst (λ (ps : List SizedItem). CanBegin c.limits-limits.result c.args.now ps) (sym (c.as_slice.ensures.value ∙ c.in_ok-pieces.ensures))
    (subst (λ (l : Limits). CanBegin l c.args.now (map (piece_of s h c.args.shard) few)) (sym c.limits-limits.ensures) begins)

pub returns-clause-framed : goal.returns-clause-framed
returns-clause-framed c =
    let s = setting_of c.args.ledger.now in
    let h = past_of c.args.ledger.now in
    let few = c.args.front.now in
    let low : element_bytes s c.args.shard (slice_index few 0) ≤ 2000000 = subst (λ (k : ℕ). k ≤ 2000000) c.first_bytes-alone.ensures.value c.first_bytes-alone.ensures.bound in
    (first_fits s h c.args.shard few (option_copied c.args.window) (own_legal s h c.requires.kept.rests.legal) c.requires.some c.requires.came low c.requires.valid).frame
