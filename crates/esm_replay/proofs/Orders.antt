-- The order of sequence numbers, and that of the starts of ranges.
use Rattle.std.proofs.Common.{◌≡◌, ℕ, ◌<◌, ◌≤◌, true, false, List, length, refl, sym, ap, ◌∙◌, arith}
use Rattle.std.specs.Cmp.{IsTotalOrder}
use Rattle.std.specs.Ordering.{nat_cmp, ordering_then, ordering_reverse, is_le, is_lt, is_gt}
use Rattle.std.specs.declared.cmp.Ordering.{Ordering}
use Rattle.std.specs.declared.cmp.Ordering.TheVariants.{Less, Equal, Greater}
use Rattle.std.proofs.lemmas.Cmp.{ranked, by_ranked, upto, tied_itself, nat_cmp_total, nat_list_cmp_total, on_total, then_total}
use Rattle.esm_model.specs.Sequence.{sequence_order}
use Rattle.esm_replay_model.specs.declared.range.Range.{Range}
use Rattle.esm_replay_model.specs.ReplaySetting.{is_up_to}
use Rattle.esm_replay.specs.Ranges.{Start, start_of, start_cmp, starts_before}

pub sequence_total : IsTotalOrder sequence_order
sequence_total = then_total (on_total (λ (x : List ℕ). length x) nat_cmp_total) nat_list_cmp_total

pub start_total : IsTotalOrder start_cmp
start_total = then_total (on_total (λ (x : Start). x.0) nat_cmp_total) (on_total (λ (x : Start). x.1) sequence_total)

-- answers

not_gt : (o : Ordering) → is_le o ≡ true → is_gt o ≡ false
not_gt Less is = refl
not_gt Equal is = refl
not_gt Greater is = cc

le_of : (o : Ordering) → is_gt o ≡ false → is_le o ≡ true
le_of Less is = refl
le_of Equal is = refl
le_of Greater is = cc

le_back : (o : Ordering) → is_le o ≡ false → is_le (ordering_reverse o) ≡ true
le_back Less is = cc
le_back Equal is = cc
le_back Greater is = refl

lt_back : (o : Ordering) → is_gt (ordering_reverse o) ≡ is_lt o
lt_back Less = refl
lt_back Equal = refl
lt_back Greater = refl

-- sequence numbers

pub up_to_trans : (a b c : List ℕ) → is_up_to a b ≡ true → is_up_to b c ≡ true → is_up_to a c ≡ true
up_to_trans a b c first second = le_of (sequence_order a c) (upto sequence_total a b c (not_gt (sequence_order a b) first) (not_gt (sequence_order b c) second))

pub up_to_total : (a b : List ℕ) → is_up_to a b ≡ false → is_up_to b a ≡ true
up_to_total a b fails = ap (λ (o : Ordering). is_le o) (sequence_total.antisymm b a) ∙ le_back (sequence_order a b) fails

pub up_to_itself : (a : List ℕ) → is_up_to a a ≡ true
up_to_itself a = ap (λ (o : Ordering). is_le o) (tied_itself sequence_total a)

-- starts

-- the one is not greater than the other
abbrev pub IsBy : Start → Start → Type 0
IsBy x y = is_gt (start_cmp x y) ≡ false

pub by_trans : (x y z : Start) → IsBy x y → IsBy y z → IsBy x z
by_trans x y z first second = upto start_total x y z first second

pub by_itself : (x : Start) → IsBy x x
by_itself x = ap (λ (o : Ordering). is_gt o) (tied_itself start_total x)

-- that a range does not start before another, said the other way round
pub by_not_before : (a b : Range) → starts_before b a ≡ false → IsBy (start_of a) (start_of b)
by_not_before a b fails = ap (λ (o : Ordering). is_gt o) (start_total.antisymm (start_of a) (start_of b)) ∙ lt_back (start_cmp (start_of b) (start_of a)) ∙ fails

pub not_before_by : (a b : Range) → IsBy (start_of a) (start_of b) → starts_before b a ≡ false
not_before_by a b by = sym (lt_back (start_cmp (start_of b) (start_of a))) ∙ sym (ap (λ (o : Ordering). is_gt o) (start_total.antisymm (start_of a) (start_of b))) ∙ by

shard_le : (a b : ℕ) (s : Ordering) → is_gt (ordering_then (nat_cmp a b) s) ≡ false → a ≤ b
shard_le a b s by =
    by_ranked (a < b) (a ≡ b) (b < a) (nat_cmp a b) (ranked a b (nat_cmp a b) refl)
    (λ e l. omega arith)
    (λ e l. omega arith)
    (λ e l. let clash : true ≡ false = sym (ap (λ (o : Ordering). is_gt (ordering_then o s)) e) ∙ by in cc)

pub shards_by : (x y : Start) → IsBy x y → x.0 ≤ y.0
shards_by x y by = shard_le x.0 y.0 (sequence_order x.1 y.1) by

-- in one shard the numbers decide
in_shard : (n : ℕ) (a b : List ℕ) → start_cmp (n, a) (n, b) ≡ sequence_order a b
in_shard n a b = ap (λ (o : Ordering). ordering_then o (sequence_order a b)) (tied_itself nat_cmp_total n)

pub up_to_by : (n : ℕ) (a b : List ℕ) → IsBy (n, a) (n, b) → is_up_to a b ≡ true
up_to_by n a b by = le_of (sequence_order a b) (sym (ap (λ (o : Ordering). is_gt o) (in_shard n a b)) ∙ by)

pub by_up_to : (n : ℕ) (a b : List ℕ) → is_up_to a b ≡ true → IsBy (n, a) (n, b)
by_up_to n a b up = ap (λ (o : Ordering). is_gt o) (in_shard n a b) ∙ not_gt (sequence_order a b) up
