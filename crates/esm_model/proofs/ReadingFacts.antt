-- Worked examples of how answers are read, computed.
use Rattle.std.proofs.Common.{◌≡◌, ℕ, List, [], ◌∷◌, codes, refl}
use Rattle.std.specs.Str.{is_utf8, chars}
use Rattle.serde_json.proofs.OnLiterals.{serde_json_on_literals}
use Rattle.esm_model.specs.State.{places, state_read, answered_state}
use Rattle.esm_model.specs.Reading.{item_reading}
use Rattle.esm_model.specs.declared.verdict.Reading.{Reading}
use Rattle.esm_model.specs.declared.verdict.Reading.TheVariants.{Whole, Failed, UpTo}
use Rattle.esm_model.specs.declared.verdict.StateRead.TheVariants.{Empty, Span, Bad}

-- ---- the bodies of `answer-bodies`, for a batch of the record 1

abbrev one_record : List ℕ → Reading
one_record body = item_reading (codes "1" ∷ []) body

null_failures : one_record (codes "{\"batchItemFailures\":null}") ≡ Whole
unfolding serde_json_on_literals is_utf8 chars item_reading
null_failures = refl

no_failures : one_record (codes "{\"batchItemFailures\":[]}") ≡ Whole
unfolding serde_json_on_literals is_utf8 chars item_reading
no_failures = refl

empty_object : one_record (codes "{}") ≡ Whole
unfolding serde_json_on_literals is_utf8 chars item_reading
empty_object = refl

null_body : one_record (codes "null") ≡ Whole
unfolding serde_json_on_literals is_utf8 chars item_reading
null_body = refl

no_body : one_record (codes "") ≡ Whole
unfolding serde_json_on_literals is_utf8 chars item_reading
no_body = refl

empty_identifier : one_record (codes "{\"batchItemFailures\":[{\"itemIdentifier\":\"\"}]}") ≡ Failed
unfolding serde_json_on_literals is_utf8 chars item_reading
empty_identifier = refl

unknown_identifier : one_record (codes "{\"batchItemFailures\":[{\"itemIdentifier\":\"9\"}]}") ≡ Failed
unfolding serde_json_on_literals is_utf8 chars item_reading
unknown_identifier = refl

number_body : one_record (codes "7") ≡ Failed
unfolding serde_json_on_literals is_utf8 chars item_reading
number_body = refl

-- ---- the bodies of `hostile-bodies`

number_identifier : one_record (codes "{\"batchItemFailures\":[{\"itemIdentifier\":7}]}") ≡ Failed
unfolding serde_json_on_literals is_utf8 chars item_reading
number_identifier = refl

object_failures : one_record (codes "{\"batchItemFailures\":{}}") ≡ Failed
unfolding serde_json_on_literals is_utf8 chars item_reading
object_failures = refl

array_body : one_record (codes "[]") ≡ Failed
unfolding serde_json_on_literals is_utf8 chars item_reading
array_body = refl

no_identifier : one_record (codes "{\"batchItemFailures\":[{}]}") ≡ Failed
unfolding serde_json_on_literals is_utf8 chars item_reading
no_identifier = refl

other_member : one_record (codes "{\"other\":1}") ≡ Whole
unfolding serde_json_on_literals is_utf8 chars item_reading
other_member = refl

no_json : one_record (codes "x") ≡ Failed
unfolding serde_json_on_literals is_utf8 chars item_reading
no_json = refl

first_record : one_record (codes "{\"batchItemFailures\":[{\"itemIdentifier\":\"1\"}]}") ≡ Failed
unfolding serde_json_on_literals is_utf8 chars item_reading
first_record = refl

-- ---- the body of `partial-failure`: the least position counts, whatever the order

abbrev eight_records : List (List ℕ)
eight_records = codes "101" ∷ codes "102" ∷ codes "103" ∷ codes "104" ∷ codes "105" ∷ codes "106" ∷ codes "107" ∷ codes "108" ∷ []

least_counts : item_reading eight_records (codes "{\"batchItemFailures\":[{\"itemIdentifier\":\"107\"},{\"itemIdentifier\":\"104\"}]}") ≡ UpTo 3
unfolding serde_json_on_literals is_utf8 chars item_reading
least_counts = refl

-- ---- the bodies of `state-spans`

span_in_spaces : state_read (codes "{\"state\": {\"a\" : 1},\"x\":2}") ≡ Span 10 19
unfolding serde_json_on_literals is_utf8 chars state_read places
span_in_spaces = refl

number_state : state_read (codes "{\"state\":7}") ≡ Bad
unfolding serde_json_on_literals is_utf8 chars state_read places
number_state = refl

no_json_state : state_read (codes "x") ≡ Bad
unfolding serde_json_on_literals is_utf8 chars state_read places
no_json_state = refl

null_state_body : state_read (codes "null") ≡ Empty
unfolding serde_json_on_literals is_utf8 chars state_read places
null_state_body = refl

no_state : state_read (codes "{}") ≡ Empty
unfolding serde_json_on_literals is_utf8 chars state_read places
no_state = refl

null_state : state_read (codes "{\"state\":null}") ≡ Empty
unfolding serde_json_on_literals is_utf8 chars state_read places
null_state = refl

last_state_counts : state_read (codes "{\"state\":{\"n\":1},\"x\":[\"state\",{\"state\":3}],\"st\\u0061te\" : { } }") ≡ Span 58 61
unfolding serde_json_on_literals is_utf8 chars state_read places
last_state_counts = refl

null_last : state_read (codes "{\"state\":{\"n\":1},\"state\":null}") ≡ Empty
unfolding serde_json_on_literals is_utf8 chars state_read places
null_last = refl

escaped_key : state_read (codes "{\"\\u0073tate\":{},\"x\":{\"state\":1}}") ≡ Span 14 16
unfolding serde_json_on_literals is_utf8 chars state_read places
escaped_key = refl

nested_states : state_read (codes "{\"x\":{\"state\":{}},\"y\":[{\"state\":{}}]}") ≡ Empty
unfolding serde_json_on_literals is_utf8 chars state_read places
nested_states = refl

state_in_a_text : state_read (codes "{\"x\":\"\\\"state\\\":{}\",\"state\":{\"}\":\"{\"}}") ≡ Span 28 37
unfolding serde_json_on_literals is_utf8 chars state_read places
state_in_a_text = refl

white_space : state_read (codes " { \"state\" : { } , \"x\" : [ ] } ") ≡ Span 13 16
unfolding serde_json_on_literals is_utf8 chars state_read places
white_space = refl

state_bytes : answered_state (codes "{\"state\":{\"n\":2}}") ≡ codes "{\"n\":2}"
unfolding serde_json_on_literals is_utf8 chars answered_state state_read places
state_bytes = refl

no_state_bytes : answered_state [] ≡ codes "{}"
unfolding serde_json_on_literals is_utf8 chars answered_state state_read places
no_state_bytes = refl
