-- The line of a generated record is JSON text, and reads as that record.
use Rattle.std.proofs.Common.{◌≡◌, ℕ, suc, ◌+◌, ◌%◌, ◌^◌, ◌<◌, ◌≤◌, lit<, lit≤, Bool, true, false, cond, nat_le, nat_lt, not, List, [], ◌∷◌, ◌++◌, length, codes, Some, refl, sym, ap, ◌∙◌, arith, append_assoc, length-append}
use Rattle.std.specs.Prelude.{filter, Ok, slice_index}
use Rattle.std.specs.Char.{is_ascii_digit}
use Rattle.std.specs.Fmt.{decimal}
use Rattle.std.specs.List.{All, list_all}
use Rattle.std.specs.Option.{ok_or}
use Rattle.std.specs.Str.{is_utf8}
use Rattle.std.proofs.lemmas.Bool.{and_parts}
use Rattle.std.proofs.lemmas.Bool.Decides.{nat_tests}
use Rattle.std.proofs.lemmas.Fmt.{decimal_by_steps, decimal_nonempty, first_decimal, length-decimal-le}
use Rattle.std.proofs.lemmas.List.Folds.{list_all-append}
use Rattle.std.proofs.lemmas.List.Sums.{AllPass-from_list_all}
use Rattle.std.proofs.lemmas.Str.{is_utf8-from_IsUtf8}
use Rattle.json.specs.Print.{escape, escape_byte}
use Rattle.json.proofs.Printed.Utf8.{are_ascii, IsUtf8-are_ascii}
use Rattle.serde_json.specs.Data.{Members, member, no_members, number, object, string, unsigned}
use Rattle.serde_json.specs.Read.{read}
use Rattle.serde_json.specs.Written.{compact_text}
use Rattle.esm_config.proofs.ReadBack.{put_all, get_last, reads_object, sound_string, sound_whole}
use Rattle.esm_model.specs.EventText.{shard_id, base64_text}
use Rattle.esm_model.specs.Sequence.{is_sequence}
use Rattle.esm_model.specs.Valid.{begins_char, is_between}
use Rattle.esm_record.specs.Input.{is_line_feed}
use Rattle.esm_record.specs.Line.{object_of, record_of, line_of, field_of, judged, of_text, shard_number, sequence_number, partition_key, payload, moment, only_if}
use Rattle.esm_record.specs.declared.error.Field.TheVariants as field
use Rattle.esm_record.specs.declared.error.LineError.TheVariants.{BadField}
use Rattle.esm_gen.specs.Generated.{generated_record, input_line}
use Rattle.esm_gen.proofs.Plain.{is_plain, is_unescaped, escape_unescaped, plain_unescaped, decimal_unescaped, is_shard, is_coded, data_text}

-- the text of a line, by the texts of its fields

abbrev pub line_of_texts : (s q k d m : List ℕ) → List ℕ
line_of_texts s q k d m =
    codes "{\"shardId\":\"" ++ s ++ codes "\",\"sequenceNumber\":\"" ++ q ++ codes "\",\"partitionKey\":\"" ++ k
    ++ codes "\",\"data\":\"" ++ d ++ codes "\",\"approximateArrivalTimestamp\":" ++ m ++ codes "}"

-- the texts of the record with this number

abbrev shard_text : ℕ → List ℕ
shard_text i = shard_id (i % 2)

abbrev key_text : ℕ → List ℕ
key_text i = codes "k" ++ decimal (i % 50)

abbrev coded_text : ℕ → List ℕ
coded_text i = base64_text (data_text (i % 10))

abbrev pub line_text : ℕ → List ℕ
line_text i = line_of_texts (shard_text i) (decimal (i + 1)) (key_text i) (coded_text i) (decimal i)

regrouped : (a s b q c k e d f m g feed : List ℕ) → (a ++ s ++ b ++ q) ++ (c ++ k ++ e ++ d ++ f ++ m ++ (g ++ feed)) ≡ (a ++ s ++ b ++ q ++ c ++ k ++ e ++ d ++ f ++ m ++ g) ++ feed
regrouped a s b q c k e d f m g feed = simp append_assoc

pub line_is : (i : ℕ) → input_line (generated_record i) ≡ line_text i ++ 10 ∷ []
unfolding input_line
line_is i =
    regrouped (codes "{\"shardId\":\"") (shard_text i) (codes "\",\"sequenceNumber\":\"") (decimal (i + 1)) (codes "\",\"partitionKey\":\"") (key_text i)
    (codes "\",\"data\":\"") (coded_text i) (codes "\",\"approximateArrivalTimestamp\":") (decimal i) (codes "}") (10 ∷ [])

-- as JSON text

abbrev pub members_of : ℕ → Members
members_of i =
    member (codes "shardId") (string (shard_text i))
    (member (codes "sequenceNumber") (string (decimal (i + 1)))
    (member (codes "partitionKey") (string (key_text i))
    (member (codes "data") (string (coded_text i))
    (member (codes "approximateArrivalTimestamp") (number (unsigned i)) no_members))))

-- the quotation mark that ends a text goes with what follows it
joined : (a s x b q c k e d f m g : List ℕ)
    → a ++ ((s ++ x) ++ (b ++ ((q ++ x) ++ (c ++ ((k ++ x) ++ (e ++ ((d ++ x) ++ (f ++ (m ++ g)))))))))
    ≡ a ++ s ++ (x ++ b) ++ q ++ (x ++ c) ++ k ++ (x ++ e) ++ d ++ (x ++ f) ++ m ++ g
joined a s x b q c k e d f m g = simp append_assoc

compact_of : (s q k d : List ℕ) (i : ℕ) → escape s ≡ s → escape q ≡ q → escape k ≡ k → escape d ≡ d
    → compact_text (object (member (codes "shardId") (string s) (member (codes "sequenceNumber") (string q) (member (codes "partitionKey") (string k) (member (codes "data") (string d) (member (codes "approximateArrivalTimestamp") (number (unsigned i)) no_members))))))
    ≡ line_of_texts s q k d (decimal i)
unfolding escape_byte
compact_of s q k d i es eq ek ed =
    rw (es, eq, ek, ed)
    (joined (codes "{\"shardId\":\"") s (codes "\"") (codes ",\"sequenceNumber\":\"") q (codes ",\"partitionKey\":\"") k
    (codes ",\"data\":\"") d (codes ",\"approximateArrivalTimestamp\":") (decimal i) (codes "}"))

key_unescaped : (i : ℕ) → list_all is_unescaped (key_text i) ≡ true
key_unescaped i = rw (decimal_unescaped (i % 50) (omega arith)) refl

compact_is : (i : ℕ) → i < 2 ^ 32 → compact_text (object (members_of i)) ≡ line_text i
compact_is i h =
    compact_of (shard_text i) (decimal (i + 1)) (key_text i) (coded_text i) i
    (escape_unescaped (shard_text i) (is_shard (i % 2) (omega arith)).unescaped)
    (escape_unescaped (decimal (i + 1)) (decimal_unescaped (i + 1) (omega arith)))
    (escape_unescaped (key_text i) (key_unescaped i))
    (escape_unescaped (coded_text i) (is_coded (i % 10) (omega arith)).unescaped)

reads_line : (i : ℕ) → i < 2 ^ 32 → read (line_text i) ≡ Some (object (put_all (members_of i) no_members))
reads_line i h =
    ap read (sym (compact_is i h))
    ∙ reads_object (members_of i) (sound_string _, (sound_string _, (sound_string _, (sound_string _, (sound_whole i (omega arith), tt)))))

-- its characters

plain_texts : (s q k d m : List ℕ) → list_all is_plain s ≡ true → list_all is_plain q ≡ true → list_all is_plain k ≡ true → list_all is_plain d ≡ true → list_all is_plain m ≡ true
    → list_all is_plain (line_of_texts s q k d m) ≡ true
plain_texts s q k d m hs hq hk hd hm = simp (list_all-append, hs, hq, hk, hd, hm)

pub line_plain : (i : ℕ) → i < 2 ^ 32 → list_all is_plain (line_text i) ≡ true
line_plain i h =
    plain_texts (shard_text i) (decimal (i + 1)) (key_text i) (coded_text i) (decimal i)
    (plain_unescaped (shard_text i) (is_shard (i % 2) (omega arith)).unescaped)
    (plain_unescaped (decimal (i + 1)) (decimal_unescaped (i + 1) (omega arith)))
    (plain_unescaped (key_text i) (key_unescaped i))
    (plain_unescaped (coded_text i) (is_coded (i % 10) (omega arith)).unescaped)
    (plain_unescaped (decimal i) (decimal_unescaped i (omega arith)))

ascii_one : (x : ℕ) → is_plain x ≡ true → nat_lt x 128 ≡ true
ascii_one x h = grind (arith, nat_tests)

plain_ascii : (xs : List ℕ) → list_all is_plain xs ≡ true → are_ascii xs ≡ true
plain_ascii [] h = refl
plain_ascii (x ∷ xs) h =
    let p = and_parts (is_plain x) (list_all is_plain xs) h in
    rw (ascii_one x p.0, plain_ascii xs p.1) refl

no_feed_one : (x : ℕ) → is_plain x ≡ true → not (is_line_feed x) ≡ true
no_feed_one x h = grind (arith, nat_tests)

none_feeds : (xs : List ℕ) → list_all is_plain xs ≡ true → list_all (λ b. not (is_line_feed b)) xs ≡ true
none_feeds [] h = refl
none_feeds (x ∷ xs) h =
    let p = and_parts (is_plain x) (list_all is_plain xs) h in
    rw (no_feed_one x p.0, none_feeds xs p.1) refl

is_not : (b : Bool) → not b ≡ true → b ≡ false
is_not true h = cc h
is_not false h = refl

pub plain_no_feed : (xs : List ℕ) → list_all is_plain xs ≡ true → All (λ b. is_line_feed b ≡ false) xs
plain_no_feed xs h = λ k d below. is_not _ (AllPass-from_list_all (λ b. not (is_line_feed b)) xs (none_feeds xs h) k d below)

-- its length

sizes : (s q k d m : List ℕ) → length s ≤ 20 → length q ≤ 20 → length k ≤ 21 → length d ≤ 12 → length m ≤ 20 → length (line_of_texts s q k d m) ≤ 1000
sizes s q k d m hs hq hk hd hm = simp length-append (omega arith)

pub line_short : (i : ℕ) → i < 2 ^ 32 → length (line_text i) ≤ 1000
line_short i h =
    let s = (is_shard (i % 2) (omega arith)).size in
    let d = (is_coded (i % 10) (omega arith)).size in
    let k = length-decimal-le 20 (i % 50) (lit< tt) (omega arith) (omega arith) in
    sizes (shard_text i) (decimal (i + 1)) (key_text i) (coded_text i) (decimal i)
    (omega arith) (length-decimal-le 20 (i + 1) (lit< tt) (omega arith) (omega arith)) (omega arith) (omega arith) (length-decimal-le 20 i (lit< tt) (omega arith) (omega arith))

-- its object

utf8_line : (i : ℕ) → i < 2 ^ 32 → is_utf8 (line_text i) ≡ true
utf8_line i h = is_utf8-from_IsUtf8 (line_text i) (IsUtf8-are_ascii (line_text i) (plain_ascii (line_text i) (line_plain i h)))

object_is : (i : ℕ) → i < 2 ^ 32 → object_of (line_text i) ≡ Some (object (put_all (members_of i) no_members))
object_is i h = rw (utf8_line i h, reads_line i h) refl

-- its fields

only_true : {A : Type 0} (b : Bool) (x : A) → b ≡ true → only_if b x ≡ Some x
only_true b x h = rw h refl

digit_one : (n : ℕ) → n < 10 → is_ascii_digit (48 + n) ≡ true
digit_one n h = grind (arith, nat_tests)

decimal_digits : (n : ℕ) → n < 2 ^ 64 → list_all is_ascii_digit (decimal n) ≡ true
decimal_digits n h =
    decimal_by_steps (λ m ds. list_all is_ascii_digit ds ≡ true)
    (λ m low. rw (digit_one m low) refl)
    (λ m ds high before. rw (list_all-append is_ascii_digit ds ((48 + m % 10) ∷ []), before, digit_one (m % 10) (omega arith)) refl)
    n h

sequence_of : (text : List ℕ) → 0 < length text → length text ≤ 129 → list_all is_ascii_digit text ≡ true → 48 < slice_index text 0 → is_sequence text ≡ true
sequence_of text some few digits first = grind (arith, nat_tests, digits)

decimal_sequence : (n : ℕ) → 0 < n → n < 2 ^ 64 → is_sequence (decimal n) ≡ true
decimal_sequence n some h =
    let few = length-decimal-le 20 n (lit< tt) (omega arith) h in
    sequence_of (decimal n) (decimal_nonempty n h) (omega arith) (decimal_digits n h) (first_decimal n some h)

short_or : (b : Bool) (x : ℕ) (xs : List ℕ) (n : ℕ) → length xs ≤ n → length (cond b (x ∷ xs) xs) ≤ suc n
short_or true x xs n h = omega arith
short_or false x xs n h = omega arith

filter_short : (xs : List ℕ) → length (filter begins_char xs) ≤ length xs
filter_short [] = lit≤ tt
filter_short (x ∷ xs) = short_or (begins_char x) x (filter begins_char xs) (length xs) (filter_short xs)

is_between_of : (n : ℕ) → 1 ≤ n → n ≤ 256 → is_between 1 256 n ≡ true
is_between_of n low high = grind (arith, nat_tests)

key_read : (i : ℕ) → partition_key (key_text i) ≡ Some (key_text i)
key_read i =
    let few = length-decimal-le 20 (i % 50) (lit< tt) (omega arith) (omega arith) in
    let short = filter_short (decimal (i % 50)) in
    only_true (is_between 1 256 (suc (length (filter begins_char (decimal (i % 50)))))) (key_text i)
    (is_between_of (suc (length (filter begins_char (decimal (i % 50))))) (omega arith) (omega arith))

shard_field : (i : ℕ) → field_of field.ShardId (of_text shard_number) (object (put_all (members_of i) no_members)) ≡ Ok (i % 2)
shard_field i =
    ap (judged field.ShardId (of_text shard_number)) (get_last (codes "shardId") (members_of i) no_members)
    ∙ ap (λ o. ok_or o (BadField field.ShardId)) (is_shard (i % 2) (omega arith)).reads

sequence_field : (i : ℕ) → i < 2 ^ 32 → field_of field.SequenceNumber (of_text sequence_number) (object (put_all (members_of i) no_members)) ≡ Ok (decimal (i + 1))
sequence_field i h =
    ap (judged field.SequenceNumber (of_text sequence_number)) (get_last (codes "sequenceNumber") (members_of i) no_members)
    ∙ ap (λ o. ok_or o (BadField field.SequenceNumber)) (only_true (is_sequence (decimal (i + 1))) (decimal (i + 1)) (decimal_sequence (i + 1) (omega arith) (omega arith)))

key_field : (i : ℕ) → field_of field.PartitionKey (of_text partition_key) (object (put_all (members_of i) no_members)) ≡ Ok (key_text i)
key_field i =
    ap (judged field.PartitionKey (of_text partition_key)) (get_last (codes "partitionKey") (members_of i) no_members)
    ∙ ap (λ o. ok_or o (BadField field.PartitionKey)) (key_read i)

data_field : (i : ℕ) → field_of field.Data (of_text payload) (object (put_all (members_of i) no_members)) ≡ Ok (data_text (i % 10))
data_field i =
    ap (judged field.Data (of_text payload)) (get_last (codes "data") (members_of i) no_members)
    ∙ ap (λ o. ok_or o (BadField field.Data)) (is_coded (i % 10) (omega arith)).reads

arrival_field : (i : ℕ) → i < 2 ^ 32 → field_of field.ApproximateArrivalTimestamp moment (object (put_all (members_of i) no_members)) ≡ Ok i
arrival_field i h =
    ap (judged field.ApproximateArrivalTimestamp moment) (get_last (codes "approximateArrivalTimestamp") (members_of i) no_members)
    ∙ ap (λ o. ok_or o (BadField field.ApproximateArrivalTimestamp)) (only_true (nat_le i 253402300799999) i (grind (arith, nat_tests)))

record_is : (i : ℕ) → i < 2 ^ 32 → record_of (object (put_all (members_of i) no_members)) ≡ Ok (generated_record i)
record_is i h = rw (shard_field i, sequence_field i h, key_field i, data_field i, arrival_field i h) refl

pub line_reads : (i : ℕ) → i < 2 ^ 32 → line_of record_of (line_text i) ≡ Ok (generated_record i)
line_reads i h = rw (object_is i h) (record_is i h)
