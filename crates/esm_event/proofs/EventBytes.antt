-- The bytes of a stream's event are those that are counted for it.
use Rattle.std.proofs.Common.{◌≡◌, ℕ, ◌+◌, ◌-◌, ◌≤◌, ◌==◌, true, false, List, [], ◌∷◌, length, take, min, sum_by, Option, arith}
use Rattle.std.proofs.lemmas.List.{take_all}
use Rattle.esm_model.specs.EventText.{record_text, event_text}
use Rattle.esm_model.specs.declared.event.WindowCall.{WindowCall}
use Rattle.esm_model.specs.declared.config.Config.{Config}
use Rattle.esm_model.specs.Records.{Record}
use Rattle.esm_model.proofs.EventLength.{length-event_text}
use Rattle.esm_event.proofs.LengthLemmas.{frame_length, is_zero, is_some}

pub none_counted : (c : Config) (rs : List Record) (w : Option WindowCall) (frame : ℕ) → (length rs == 0) ≡ true → frame ≡ length (event_text c [] w) → frame ≤ 18446744073709551615 → frame ≡ min (length (event_text c rs w)) 18446744073709551615
none_counted c [] w frame none is short = omega arith
none_counted c (r ∷ rs) w frame none is short = let zero_long : length (r ∷ rs) ≡ 0 = is_zero (length (r ∷ rs)) none in absurd (omega arith)

pub frame_some : (c : Config) (w : Option WindowCall) → 1 ≤ length (event_text c [] w)
frame_some c w = omega (arith, frame_length c w)

pub all_counted : (c : Config) (rs : List Record) (w : Option WindowCall) (i frame total : ℕ) → i ≡ length rs → (length rs == 0) ≡ false → frame ≡ length (event_text c [] w) → total ≡ min (frame - 1 + sum_by (λ (r : Record). length (record_text c r)) (take i rs) + i) 18446744073709551615 → total ≡ min (length (event_text c rs w)) 18446744073709551615
all_counted c rs w i frame total end some is h =
    let not_none : length rs ≡ 0 → ⊥ = is_some (length rs) some in
    let whole : take i rs ≡ rs = take_all i rs (omega arith) in
    let long : length (event_text c rs w) ≡ frame - 1 + sum_by (λ (r : Record). length (record_text c r)) (take i rs) + i = rw whole (omega (arith, length-event_text c rs w, frame_some c w)) in
    rw long h
