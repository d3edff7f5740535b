-- The texts of a generated stream's records: neither quotes, backslashes nor control characters stand in them.
use Rattle.std.proofs.Common.{◌≡◌, ℕ, zero, suc, ◌+◌, ◌%◌, ◌^◌, ◌<◌, Bool, true, ◌&&◌, ◌==◌, nat_le, nat_lt, not, List, [], ◌∷◌, ◌++◌, length, codes, Some, refl, arith}
use Rattle.std.specs.List.{list_all}
use Rattle.std.specs.Fmt.{decimal, digits}
use Rattle.std.proofs.lemmas.Bool.{and_parts}
use Rattle.std.proofs.lemmas.Bool.Decides.{nat_tests}
use Rattle.std.proofs.lemmas.Fmt.{decimal_by_steps}
use Rattle.std.proofs.lemmas.List.Folds.{list_all-append}
use Rattle.base64.specs.Decode.{groups_error, groups_bytes, scan_steps}
use Rattle.base64.specs.Rfc4648.{encode_symbols}
use Rattle.json.specs.Print.{escape, escape_byte}
use Rattle.json.proofs.Printed.Strings.{escape_byte_plain}
use Rattle.esm_model.specs.EventText.{shard_id, base64_text}
use Rattle.esm_model.specs.Numbers.{last_digits}
use Rattle.esm_record.specs.Line.{shard_number, payload}

-- a character of a line that needs no escape in a text
abbrev pub is_plain : ℕ → Bool
is_plain b = nat_le 32 b && nat_lt b 128

abbrev pub is_unescaped : ℕ → Bool
is_unescaped b = is_plain b && not (b == 34) && not (b == 92)

escape_one : (x : ℕ) → is_unescaped x ≡ true → escape_byte x ≡ x ∷ []
escape_one x h = escape_byte_plain x (grind (arith, nat_tests)) (grind (arith, nat_tests)) (grind (arith, nat_tests))

pub escape_unescaped : (ds : List ℕ) → list_all is_unescaped ds ≡ true → escape ds ≡ ds
escape_unescaped [] h = refl
escape_unescaped (x ∷ xs) h =
    let p = and_parts (is_unescaped x) (list_all is_unescaped xs) h in
    rw (escape_one x p.0, escape_unescaped xs p.1) refl

plain_one : (x : ℕ) → is_unescaped x ≡ true → is_plain x ≡ true
plain_one x h = grind (arith, nat_tests)

pub plain_unescaped : (ds : List ℕ) → list_all is_unescaped ds ≡ true → list_all is_plain ds ≡ true
plain_unescaped [] h = refl
plain_unescaped (x ∷ xs) h =
    let p = and_parts (is_unescaped x) (list_all is_unescaped xs) h in
    rw (plain_one x p.0, plain_unescaped xs p.1) refl

digit_unescaped : (n : ℕ) → n < 10 → is_unescaped (48 + n) ≡ true
digit_unescaped n h = grind (arith, nat_tests)

pub decimal_unescaped : (n : ℕ) → n < 2 ^ 64 → list_all is_unescaped (decimal n) ≡ true
decimal_unescaped n h =
    decimal_by_steps (λ m ds. list_all is_unescaped ds ≡ true)
    (λ m low. rw (digit_unescaped m low) refl)
    (λ m ds high before. rw (list_all-append is_unescaped ds ((48 + m % 10) ∷ []), before, digit_unescaped (m % 10) (omega arith)) refl)
    n h

-- the shards and the data, each by its few cases

pub record IsShard (n : ℕ) : Type 0 where
  pub unescaped : list_all is_unescaped (shard_id n) ≡ true
  pub size : length (shard_id n) ≡ 20
  pub reads : shard_number (shard_id n) ≡ Some n

pub is_shard : (n : ℕ) → n < 2 → IsShard n
unfolding last_digits
is_shard zero h = record { unescaped = refl; size = refl; reads = refl }
is_shard (suc zero) h = record { unescaped = refl; size = refl; reads = refl }
is_shard (suc (suc n)) h = absurd (omega arith)

abbrev pub data_text : ℕ → List ℕ
data_text v = codes "{\"n\":" ++ decimal v ++ codes "}"

pub record IsCoded (v : ℕ) : Type 0 where
  pub unescaped : list_all is_unescaped (base64_text (data_text v)) ≡ true
  pub size : length (base64_text (data_text v)) ≡ 12
  pub reads : payload (base64_text (data_text v)) ≡ Some (data_text v)

pub is_coded : (v : ℕ) → v < 10 → IsCoded v
unfolding base64_text encode_symbols digits groups_error groups_bytes scan_steps
is_coded zero h = record { unescaped = refl; size = refl; reads = refl }
is_coded (suc zero) h = record { unescaped = refl; size = refl; reads = refl }
is_coded (suc (suc zero)) h = record { unescaped = refl; size = refl; reads = refl }
is_coded (suc (suc (suc zero))) h = record { unescaped = refl; size = refl; reads = refl }
is_coded (suc (suc (suc (suc zero)))) h = record { unescaped = refl; size = refl; reads = refl }
is_coded (suc (suc (suc (suc (suc zero))))) h = record { unescaped = refl; size = refl; reads = refl }
is_coded (suc (suc (suc (suc (suc (suc zero)))))) h = record { unescaped = refl; size = refl; reads = refl }
is_coded (suc (suc (suc (suc (suc (suc (suc zero))))))) h = record { unescaped = refl; size = refl; reads = refl }
is_coded (suc (suc (suc (suc (suc (suc (suc (suc zero)))))))) h = record { unescaped = refl; size = refl; reads = refl }
is_coded (suc (suc (suc (suc (suc (suc (suc (suc (suc zero))))))))) h = record { unescaped = refl; size = refl; reads = refl }
is_coded (suc (suc (suc (suc (suc (suc (suc (suc (suc (suc n)))))))))) h = absurd (omega arith)
