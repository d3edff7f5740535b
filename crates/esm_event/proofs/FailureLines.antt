-- A failure line is UTF-8.
use Rattle.std.proofs.Common.{◌≡◌, ℕ, zero, suc, ◌/◌, ◌%◌, ◌<◌, Bool, true, false, List, [], ◌∷◌, ◌++◌, get_or, refl, inl, inr, Option, Some, None, arith, IsUtf8}
use Rattle.std.specs.Prelude.{◌==◌, nat_lt, codes}
use Rattle.std.specs.List.{list_all}
use Rattle.std.specs.Fmt.{digit_glyph, digits_onto, digits, decimal}
use Rattle.std.proofs.lemmas.Bool.{cases_Bool, and_parts, and_from, lt-ltb, ltb-true}
use Rattle.std.proofs.lemmas.List.{get_or_past}
use Rattle.std.proofs.lemmas.Str.{IsUtf8-nil, IsUtf8-append, IsUtf8-from_ascii}
use Rattle.esm_model.specs.declared.config.Config.{Config}
use Rattle.esm_model.specs.declared.event.Failure.{Failure}
use Rattle.esm_model.specs.declared.event.Response.{Response}
use Rattle.esm_model.specs.Numbers.{last_digits, padded_decimal, padded_hexadecimal}
use Rattle.esm_model.specs.Dates.{date_text, second_of_day_text, day_text, date_in_year, clock_text}
use Rattle.esm_model.specs.EventText.{shard_id}
use Rattle.esm_model.specs.FailureText.{request_id, condition_text, request_part, error_part, answer_part, response_part, batch_part, arrivals_part, failure_text}

-- of ASCII bytes

abbrev is_low : ℕ → Bool
is_low b = nat_lt b 128

low_bytes : (bs : List ℕ) → list_all is_low bs ≡ true → (i : ℕ) → get_or bs i 0 < 128
low_bytes [] all i = omega (arith, get_or_past {X = ℕ} [] i 0 (omega arith))
low_bytes (b ∷ bs) all zero = ltb-true b 128 (and_parts (is_low b) (list_all is_low bs) all).0
low_bytes (b ∷ bs) all (suc i) = low_bytes bs (and_parts (is_low b) (list_all is_low bs) all).1 i

plain : (bs : List ℕ) → list_all is_low bs ≡ true → IsUtf8 bs
plain bs all = IsUtf8-from_ascii bs (low_bytes bs all)

byte : (b : ℕ) → b < 128 → IsUtf8 (b ∷ [])
byte b low = plain (b ∷ []) (and_from (is_low b) true (lt-ltb b 128 low) refl)

both : {bs ds : List ℕ} → IsUtf8 bs → IsUtf8 ds → IsUtf8 (bs ++ ds)
both {bs} {ds} a b = IsUtf8-append bs ds a b

-- of digits

glyph_low : (d : ℕ) → d < 16 → digit_glyph false d < 128
glyph_low d low = elim (cases_Bool (nat_lt d 10)) [ inl is ↦ rw is (let small = ltb-true d 10 is in omega (arith, small)) | inr high ↦ rw high (omega (arith, low)) ]

last_low : (base : ℕ) → ((n : ℕ) → n % base < 16) → (width n : ℕ) → IsUtf8 (last_digits base width n)
unfolding last_digits
last_low base small zero n = IsUtf8-nil
last_low base small (suc width) n =
    IsUtf8-append (last_digits base width (n / base)) (digit_glyph false (n % base) ∷ []) (last_low base small width (n / base)) (byte (digit_glyph false (n % base)) (glyph_low (n % base) (small n)))

padded : (width n : ℕ) → IsUtf8 (padded_decimal width n)
padded width n = last_low 10 (λ k. omega arith) width n

hexadecimal : (width n : ℕ) → IsUtf8 (padded_hexadecimal width n)
hexadecimal width n = last_low 16 (λ k. omega arith) width n

onto_low : (k n : ℕ) (bs : List ℕ) → IsUtf8 bs → IsUtf8 (digits_onto k 10 false n bs)
onto_low zero n bs is = is
onto_low (suc k) n bs is =
    let glyph = digit_glyph false (n % 10) in
    let more : IsUtf8 (glyph ∷ bs) = IsUtf8-append (glyph ∷ []) bs (byte glyph (glyph_low (n % 10) (omega arith))) is in
    elim (cases_Bool (n / 10 == 0)) [ inl last ↦ rw last more | inr other ↦ rw other (onto_low k (n / 10) (glyph ∷ bs) more) ]

number : (n : ℕ) → IsUtf8 (decimal n)
unfolding digits
number n = onto_low 64 n [] IsUtf8-nil

-- of dates

in_year : (y days : ℕ) → IsUtf8 (date_in_year y days)
in_year y days = both (both (both (both (padded 4 _) (plain (codes "-") refl)) (padded 2 _)) (plain (codes "-") refl)) (padded 2 _)

day : (n : ℕ) → IsUtf8 (day_text n)
unfolding day_text
day n = in_year _ _

clock : (s : ℕ) → IsUtf8 (clock_text s)
clock s = both (both (both (both (padded 2 _) (plain (codes ":") refl)) (padded 2 _)) (plain (codes ":") refl)) (padded 2 _)

second : (ms : ℕ) → IsUtf8 (second_of_day_text ms)
second ms = both (both (day _) (plain (codes "T") refl)) (clock _)

date : (ms : ℕ) → IsUtf8 (date_text ms)
unfolding date_text
date ms = both (both (both (second ms) (plain (codes ".") refl)) (padded 3 _)) (plain (codes "Z") refl)

-- the parts of a line

condition : (expired : Bool) → IsUtf8 (condition_text expired)
condition true = plain (codes "RecordAgeExceeded") refl
condition false = plain (codes "RetryAttemptsExhausted") refl

error_text : (error : Bool) → IsUtf8 (error_part error)
error_text true = plain (codes ",\"functionError\":\"Unhandled\"") refl
error_text false = IsUtf8-nil

answer : (a : Response) → IsUtf8 (answer_part a)
answer a =
    both (both (both (both
    (plain (codes "\"responseContext\":{\"statusCode\":") refl) (number a.status))
    (plain (codes ",\"executedVersion\":\"$LATEST\"") refl)) (error_text a.error)) (plain (codes "},") refl)

response : (r : Option Response) → IsUtf8 (response_part r)
response None = IsUtf8-nil
response (Some a) = answer a

id : (f : Failure) → IsUtf8 (request_id f)
id f = both (both (hexadecimal 8 f.place) (plain (codes "-0000-8000-8000-") refl)) (hexadecimal 12 f.shard)

request : (c : Config) (f : Failure) → IsUtf8 c.function_arn → IsUtf8 (request_part c f)
request c f arn =
    both (both (both (both (both (both (both (both
    (plain (codes "{\"requestContext\":{\"requestId\":\"") refl) (id f))
    (plain (codes "\",\"functionArn\":\"") refl)) arn)
    (plain (codes "\",\"condition\":\"") refl)) (condition f.expired))
    (plain (codes "\",\"approximateInvokeCount\":") refl)) (number f.calls)) (plain (codes "},") refl)

shard : (n : ℕ) → IsUtf8 (shard_id n)
shard n = both (plain (codes "shardId-") refl) (padded 12 n)

batch : (f : Failure) → IsUtf8 f.first → IsUtf8 f.last → IsUtf8 (batch_part f)
batch f first last =
    both (both (both (both (both (both (both
    (plain (codes "\"version\":\"1.0\",\"timestamp\":\"") refl) (date f.moment))
    (plain (codes "\",\"KinesisBatchInfo\":{\"shardId\":\"") refl)) (shard f.shard))
    (plain (codes "\",\"startSequenceNumber\":\"") refl)) first)
    (plain (codes "\",\"endSequenceNumber\":\"") refl)) last

arrivals : (c : Config) (f : Failure) → IsUtf8 c.source_arn → IsUtf8 (arrivals_part c f)
arrivals c f arn =
    both (both (both (both (both (both (both (both
    (plain (codes "\",\"approximateArrivalOfFirstRecord\":\"") refl) (date f.first_arrival))
    (plain (codes "\",\"approximateArrivalOfLastRecord\":\"") refl)) (date f.last_arrival))
    (plain (codes "\",\"batchSize\":") refl)) (number f.count))
    (plain (codes ",\"streamArn\":\"") refl)) arn) (plain (codes "\"}}") refl)

pub line_utf8 : (c : Config) (f : Failure) → IsUtf8 c.function_arn → IsUtf8 c.source_arn → IsUtf8 f.first → IsUtf8 f.last → IsUtf8 (failure_text c f)
unfolding failure_text
line_utf8 c f function source first last = both (both (both (request c f function) (response f.response)) (batch f first last)) (arrivals c f source)
