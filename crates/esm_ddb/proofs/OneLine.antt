-- A record's line is read as one line of an input.
use Rattle.std.proofs.Common.{◌≡◌, ℕ, ◌≤◌, arith, true, false, ◌&&◌, ◌||◌, ◌==◌, nat_le, not, refl, sym, subst, List, [], ◌∷◌, codes, length, length-append}
use Rattle.std.specs.Char.{is_ascii_digit}
use Rattle.std.specs.Fmt.{decimal}
use Rattle.std.specs.List.{All, list_all}
use Rattle.std.specs.Prelude.{slice_index}
use Rattle.std.proofs.lemmas.Bool.{and_parts}
use Rattle.std.proofs.lemmas.Bool.Decides.{nat_tests}
use Rattle.std.proofs.lemmas.Fmt.{length-decimal-le}
use Rattle.std.proofs.lemmas.List.Elements.{All-cons, All-nil}
use Rattle.std.proofs.lemmas.List.Splits.{slice_split_none}
use Rattle.esm_event.proofs.LengthLemmas.{base64_length}
use Rattle.esm_model.specs.EventText.{base64_text, shard_id}
use Rattle.esm_model.specs.Numbers.{last_digits}
use Rattle.esm_model.specs.Sequence.{is_sequence}
use Rattle.esm_model.specs.Records.{Record}
use Rattle.esm_model.proofs.NumberLemmas.{length-last_digits}
use Rattle.esm_record.specs.Input.{is_blank, is_line_feed}
use Rattle.esm_ddb.specs.OwnForm.{is_plain}
use Rattle.esm_ddb.specs.ReadsBack.{IsOneLine}
use Rattle.esm_ddb.specs.Turned.{record_line}
use Rattle.esm_ddb.proofs.ReadBack.{IsWritten, line_is, line_of_texts, plain_line}

feed_one : (x : ℕ) → is_plain x ≡ true → is_line_feed x ≡ false
feed_one x h = grind (arith, nat_tests)

pub no_feed : (xs : List ℕ) → list_all is_plain xs ≡ true → All (λ b. is_line_feed b ≡ false) xs
no_feed [] h = All-nil (λ b. is_line_feed b ≡ false)
no_feed (x ∷ xs) h =
    let p = and_parts (is_plain x) (list_all is_plain xs) h in
    All-cons (λ b. is_line_feed b ≡ false) x xs (feed_one x p.0) (no_feed xs p.1)

seq_short : (q : List ℕ) → is_sequence q ≡ true → length q ≤ 129
seq_short q h =
    let p = and_parts (not (length q == 0) && nat_le (length q) 129 && list_all is_ascii_digit q) ((length q == 1) || not (slice_index q 0 == 48)) h in
    let within : nat_le (length q) 129 ≡ true = (and_parts (not (length q == 0)) (nat_le (length q) 129) (and_parts (not (length q == 0) && nat_le (length q) 129) (list_all is_ascii_digit q) p.0).0).1 in
    grind (arith, nat_tests)

shard_size : (n : ℕ) → length (shard_id n) ≡ 20
shard_size n =
    let front : length (codes "shardId-") ≡ 8 = refl in
    omega (arith, front, length-append (codes "shardId-") (last_digits 10 12 n), length-last_digits 10 12 n)

data_short : (m : List ℕ) → length m ≤ 1048576 → length (base64_text m) ≤ 1398104
data_short m h = omega (arith, base64_length m, h)

text_short : (s q k d m : List ℕ) → length s ≡ 20 → length q ≤ 129 → length k ≡ 32 → length d ≤ 1398104 → length m ≤ 15 → length (line_of_texts s q k d m) ≤ 8388608
text_short s q k d m hs hq hk hd hm = simp length-append (omega arith)

is_seen : (r : Record) → is_blank (record_line r) ≡ false
unfolding record_line
is_seen r = refl

pub one_line : (r : Record) → IsWritten r → IsOneLine (record_line r)
one_line r w =
    let moment : length (decimal r.arrival) ≤ 15 = length-decimal-le 15 r.arrival (omega arith) (omega (arith, w.arrival)) (omega (arith, w.arrival)) in
    record {
      one = slice_split_none is_line_feed (record_line r) (no_feed (record_line r) (plain_line r w));
      seen = is_seen r;
      short = subst (λ l. length l ≤ 8388608) (sym (line_is r))
          (text_short (shard_id r.shard) r.seq r.key (base64_text r.payload) (decimal r.arrival) (shard_size r.shard) (seq_short r.seq w.seq) w.key.size (data_short r.payload w.short) moment);
    }
