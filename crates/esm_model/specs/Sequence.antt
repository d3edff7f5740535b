-- Sequence numbers. Source: the Kinesis API Reference, `SequenceNumber` (`0|([1-9]\d{0,128})`).
use Rattle.std.specs.Prelude.{ℕ, Bool, List, length, slice_index, ◌==◌, nat_le, ◌&&◌, ◌||◌, not}
use Rattle.std.specs.Char.{is_ascii_digit}
use Rattle.std.specs.List.{list_all}
use Rattle.std.specs.declared.cmp.Ordering.{Ordering}
use Rattle.std.specs.Ordering.{ordering_then, nat_cmp}
use Rattle.std.specs.Cmp.Lexicographic.{slice_cmp}

-- one digit, or 2 to 129 digits that do not begin with 0
abbrev pub is_sequence : List ℕ → Bool
is_sequence text =
    not (length text == 0)
    && nat_le (length text) 129
    && list_all is_ascii_digit text
    && ((length text == 1) || not (slice_index text 0 == 48))

-- the order of two sequence numbers: by the number of digits, then digit by digit
abbrev pub sequence_order : List ℕ → List ℕ → Ordering
sequence_order a b = ordering_then (nat_cmp (length a) (length b)) (slice_cmp nat_cmp a b)
