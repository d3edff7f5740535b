-- How long a queue's texts and their parts are.
use Rattle.std.proofs.Common.{◌≡◌, ℕ, ◌+◌, ◌*◌, ◌-◌, true, false, ◌==◌, List, [], ◌∷◌, length, take, min, Some, sum_by, refl, arith, length-append}
use Rattle.std.specs.List.{flat_map}
use Rattle.std.proofs.lemmas.List.{take_all}
use Rattle.md5.proofs.StandardFacts.{length-md5}
use Rattle.esm_model.specs.declared.config.Config.{Config}
use Rattle.esm_model.specs.declared.received.Received.{Received}
use Rattle.esm_model.specs.Numbers.{decimal, padded_hexadecimal}
use Rattle.esm_model.specs.JsonText.{escaped_byte}
use Rattle.esm_model.specs.QueueEvent.{hexadecimal, group_part, queue_record_text, queue_event_text}
use Rattle.esm_event.proofs.LengthLemmas.{is_zero, is_some}
use Rattle.esm_model.proofs.NumberLemmas.{length-last_digits}
use Rattle.esm_model.proofs.EventLength.{length-join_by}

two_digits : (bytes : List ℕ) → length (flat_map (padded_hexadecimal 2) bytes) ≡ 2 * length bytes
two_digits [] = refl
two_digits (b ∷ bytes) = simp (length-append, length-last_digits) (omega (arith, two_digits bytes))

length-hexadecimal : (bytes : List ℕ) → length (hexadecimal bytes) ≡ 2 * length bytes
unfolding hexadecimal
length-hexadecimal bytes = two_digits bytes

pub group_length : (text : List ℕ) → length (group_part (Some text)) ≡ 20 + length (flat_map escaped_byte text)
group_length text = simp length-append (omega arith)

pub record_length : (c : Config) (r : Received) → length (queue_record_text c r) ≡ 279 + length r.message.id + (length (decimal r.place) + 2 * length (decimal r.count) + length (decimal r.message.sent) + length (decimal r.first)) + length (flat_map escaped_byte r.message.body) + length (group_part r.message.group) + (length c.source_arn + length c.region)
unfolding queue_record_text
record_length c r = simp (length-append, length-hexadecimal, length-md5) (omega arith)

pub empty_length : (c : Config) → length (queue_event_text c []) ≡ 14
unfolding queue_event_text
empty_length c = refl

pub event_length : (c : Config) (rs : List Received) → length (queue_event_text c rs) ≡ length (queue_event_text c []) + sum_by (λ r. length (queue_record_text c r)) rs + (length rs - 1)
unfolding queue_event_text
event_length c rs = simp length-append (omega (arith, length-join_by (queue_record_text c) rs))

pub none_long : (c : Config) (rs : List Received) → (length rs == 0) ≡ true → 14 ≡ min (length (queue_event_text c rs)) 18446744073709551615
none_long c [] e = rw (empty_length c) refl
none_long c (r ∷ rs) e = let none : length (r ∷ rs) ≡ 0 = is_zero (length (r ∷ rs)) e in absurd (omega arith)

pub all_long : (c : Config) (rs : List Received) (i total : ℕ) → i ≡ length rs → (length rs == 0) ≡ false → total ≡ min (13 + sum_by (λ (r : Received). length (queue_record_text c r)) (take i rs) + i) 18446744073709551615 → total ≡ min (length (queue_event_text c rs)) 18446744073709551615
all_long c rs i total end some h =
    let not_none : length rs ≡ 0 → ⊥ = is_some (length rs) some in
    let whole : take i rs ≡ rs = take_all i rs (omega arith) in
    let long : length (queue_event_text c rs) ≡ 13 + sum_by (λ (r : Received). length (queue_record_text c r)) (take i rs) + i = rw whole (omega (arith, event_length c rs, empty_length c)) in
    rw long h
