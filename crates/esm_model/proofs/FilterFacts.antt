-- Worked examples of filter patterns, computed.
use Rattle.std.proofs.Common.{◌≡◌, ℕ, List, [], ◌∷◌, replicate, codes, Bool, true, false, Err, None, refl}
use Rattle.std.specs.Str.{is_utf8, chars}
use Rattle.serde_json.proofs.OnLiterals.{serde_json_on_literals}
use Rattle.esm_model.specs.Pattern.{Refusal, too_long, not_json, not_object, empty, bad_test, Reads, read_pattern}
use Rattle.esm_model.specs.Filter.{passes, passes_message}
use Rattle.esm_model.specs.Records.{Record}

abbrev one_record : List ℕ → Record
one_record payload = record { shard = 0; seq = codes "1"; key = codes "1"; payload = payload; arrival = 0 }

abbrev passes_data : List ℕ → List ℕ → Bool
passes_data pattern payload = passes (pattern ∷ []) (one_record payload)

abbrev refused : {A : Type 0} → Reads A → Refusal → Type 0
refused r why = r ≡ Err why

-- ---- the rows of `pattern-table`

prefix_in_list : passes_data (codes "{\"data\":{\"a\":[{\"prefix\":\"x\"}]}}") (codes "{\"a\":[\"no\",\"xy\"]}") ≡ true
unfolding serde_json_on_literals is_utf8 chars read_pattern passes
prefix_in_list = refl

absent_leaf : passes_data (codes "{\"data\":{\"a\":[{\"exists\":false}]}}") (codes "{\"a\":{}}") ≡ true
unfolding serde_json_on_literals is_utf8 chars read_pattern passes
absent_leaf = refl

no_leaf : passes_data (codes "{\"data\":{\"a\":[{\"exists\":true}]}}") (codes "{\"a\":{}}") ≡ false
unfolding serde_json_on_literals is_utf8 chars read_pattern passes
no_leaf = refl

anything_but_fraction : passes_data (codes "{\"data\":{\"a\":[{\"anything-but\":[1]}]}}") (codes "{\"a\":1.5}") ≡ true
unfolding serde_json_on_literals is_utf8 chars read_pattern passes
anything_but_fraction = refl

within_bounds : passes_data (codes "{\"data\":{\"a\":[{\"numeric\":[\">\",0,\"<=\",5]}]}}") (codes "{\"a\":5}") ≡ true
unfolding serde_json_on_literals is_utf8 chars read_pattern passes
within_bounds = refl

or_fields : passes_data (codes "{\"data\":{\"$or\":[{\"a\":[1]},{\"b\":[2]}]}}") (codes "{\"b\":2}") ≡ true
unfolding serde_json_on_literals is_utf8 chars read_pattern passes
or_fields = refl

no_object : passes_data (codes "{\"data\":{\"a\":{\"b\":[{\"exists\":false}]}}}") (codes "{\"a\":7}") ≡ true
unfolding serde_json_on_literals is_utf8 chars read_pattern passes
no_object = refl

other_case : passes_data (codes "{\"data\":{\"a\":[{\"equals-ignore-case\":\"Ab\"}]}}") (codes "{\"a\":\"aB\"}") ≡ true
unfolding serde_json_on_literals is_utf8 chars read_pattern passes
other_case = refl

-- ---- `filtered-data`

no_json_data : passes_data (codes "{\"data\":{\"n\":[1]}}") (codes "Hello") ≡ false
unfolding serde_json_on_literals is_utf8 chars read_pattern passes
no_json_data = refl

json_data : passes_data (codes "{\"data\":{\"n\":[1]}}") (codes "{\"n\":1}") ≡ true
unfolding serde_json_on_literals is_utf8 chars read_pattern passes
json_data = refl

key_alone : passes_data (codes "{\"partitionKey\":[\"1\"]}") (codes "Hello") ≡ true
unfolding serde_json_on_literals is_utf8 chars read_pattern passes
key_alone = refl

-- ---- further rows

above_bound : passes_data (codes "{\"data\":{\"a\":[{\"numeric\":[\">\",0,\"<=\",5]}]}}") (codes "{\"a\":6}") ≡ false
unfolding serde_json_on_literals is_utf8 chars read_pattern passes
above_bound = refl

not_above : passes_data (codes "{\"data\":{\"a\":[{\"numeric\":[\">\",0,\"<=\",5]}]}}") (codes "{\"a\":0}") ≡ false
unfolding serde_json_on_literals is_utf8 chars read_pattern passes
not_above = refl

least_whole : passes_data (codes "{\"data\":{\"a\":[-9223372036854775808]}}") (codes "{\"a\":-9223372036854775808}") ≡ true
unfolding serde_json_on_literals is_utf8 chars read_pattern passes
least_whole = refl

greatest_whole : passes_data (codes "{\"data\":{\"a\":[9223372036854775807]}}") (codes "{\"a\":9223372036854775807}") ≡ true
unfolding serde_json_on_literals is_utf8 chars read_pattern passes
greatest_whole = refl

with_exponent : passes_data (codes "{\"data\":{\"a\":[1000]}}") (codes "{\"a\":1e3}") ≡ false
unfolding serde_json_on_literals is_utf8 chars read_pattern passes
with_exponent = refl

minus_zero : passes_data (codes "{\"data\":{\"a\":[0]}}") (codes "{\"a\":-0}") ≡ false
unfolding serde_json_on_literals is_utf8 chars read_pattern passes
minus_zero = refl

absent_but : passes_data (codes "{\"data\":{\"a\":[{\"anything-but\":[1]}]}}") (codes "{}") ≡ false
unfolding serde_json_on_literals is_utf8 chars read_pattern passes
absent_but = refl

empty_list : passes_data (codes "{\"data\":{\"a\":[{\"exists\":false}]}}") (codes "{\"a\":[]}") ≡ true
unfolding serde_json_on_literals is_utf8 chars read_pattern passes
empty_list = refl

last_value : passes_data (codes "{\"data\":{\"a\":[1]}}") (codes "{\"a\":1,\"a\":2}") ≡ false
unfolding serde_json_on_literals is_utf8 chars read_pattern passes
last_value = refl

too_deep_data : passes_data (codes "{\"data\":{\"a\":[{\"exists\":false}]}}") (codes "[[[[[[[[[[[[[[[[[[[[[[[[[[[[[[[[[[[[[[[[[[[[[[[[[[[[[[[[[[[[[[[[[[[[[[[[[[[[[[[[[[[[[[[[[[[[[[[[[[[[[[[[[[[[[[[[[[[[[[[[[[[[[[[[[[[[[[[[[[[[[[[[[[[[[[[[[[[[[[[[[[[[[[[[[[[[[[[[[[[[[[[[[[[[[[[[[[[[[[[[]]]]]]]]]]]]]]]]]]]]]]]]]]]]]]]]]]]]]]]]]]]]]]]]]]]]]]]]]]]]]]]]]]]]]]]]]]]]]]]]]]]]]]]]]]]]]]]]]]]]]]]]]]]]]]]]]]]]]]]]]]]]]]]]]]]]]]]]]]]]]]]]]]]]]]]]]]]]]]]]]]]]]]]]]]]]]]]]]]]]]]]]]]]]]]]]]]]]]]]]") ≡ false
unfolding serde_json_on_literals is_utf8 chars read_pattern passes
too_deep_data = refl

or_at_top : passes_data (codes "{\"$or\":[{\"data\":{\"n\":[1]}},{\"partitionKey\":[\"1\"]}]}") (codes "Hello") ≡ true
unfolding serde_json_on_literals is_utf8 chars read_pattern passes
or_at_top = refl

schema_version : passes_data (codes "{\"kinesisSchemaVersion\":[\"1.0\"],\"sequenceNumber\":[\"1\"],\"eventName\":[{\"exists\":false}]}") (codes "Hello") ≡ true
unfolding serde_json_on_literals is_utf8 chars read_pattern passes
schema_version = refl

no_patterns : passes [] (one_record (codes "Hello")) ≡ true
unfolding passes
no_patterns = refl

-- ---- `refused-patterns`

no_members : refused (read_pattern true (codes "{}")) empty
unfolding serde_json_on_literals read_pattern
no_members = refl

a_list : refused (read_pattern true (codes "[1]")) not_object
unfolding serde_json_on_literals read_pattern
a_list = refl

no_such_test : refused (read_pattern true (codes "{\"a\":[{\"cidr\":\"x\"}]}")) bad_test
unfolding serde_json_on_literals read_pattern
no_such_test = refl

test_of_data : refused (read_pattern true (codes "{\"data\":[\"x\"]}")) bad_test
unfolding serde_json_on_literals read_pattern
test_of_data = refl

no_json : refused (read_pattern true (codes "{")) not_json
unfolding serde_json_on_literals read_pattern
no_json = refl

no_tests : refused (read_pattern true (codes "{\"a\":[]}")) empty
unfolding serde_json_on_literals read_pattern
no_tests = refl

two_tests : refused (read_pattern true (codes "{\"a\":[{\"prefix\":\"x\",\"suffix\":\"y\"}]}")) bad_test
unfolding serde_json_on_literals read_pattern
two_tests = refl

first_in_key_order : refused (read_pattern true (codes "{\"b\":[],\"a\":5}")) bad_test
unfolding serde_json_on_literals read_pattern
first_in_key_order = refl

fraction : refused (read_pattern true (codes "{\"a\":[1.5]}")) bad_test
unfolding serde_json_on_literals read_pattern
fraction = refl

beyond_whole : refused (read_pattern true (codes "{\"a\":[9223372036854775808]}")) bad_test
unfolding serde_json_on_literals read_pattern
beyond_whole = refl

lower_twice : refused (read_pattern true (codes "{\"a\":[{\"numeric\":[\">\",0,\">\",5]}]}")) bad_test
unfolding serde_json_on_literals read_pattern
lower_twice = refl

no_choices : refused (read_pattern true (codes "{\"$or\":[]}")) empty
unfolding serde_json_on_literals read_pattern
no_choices = refl

data_in_or : refused (read_pattern true (codes "{\"$or\":[{\"data\":[\"x\"]}]}")) bad_test
unfolding serde_json_on_literals read_pattern
data_in_or = refl

too_many_characters : refused (read_pattern true (replicate 4097 32)) too_long
unfolding serde_json_on_literals read_pattern
too_many_characters = refl

-- ---- messages

body_text : passes_message ((codes "{\"body\":[\"hello\"]}") ∷ []) (record { id = codes "m1"; group = None; body = codes "hello"; sent = 0 }) ≡ true
unfolding serde_json_on_literals read_pattern passes_message
body_text = refl

body_object_as_text : passes_message ((codes "{\"body\":[{\"exists\":true}]}") ∷ []) (record { id = codes "m1"; group = None; body = codes "{\"a\":1}"; sent = 0 }) ≡ false
unfolding serde_json_on_literals read_pattern passes_message
body_object_as_text = refl

body_members : passes_message ((codes "{\"body\":{\"a\":[1]}}") ∷ []) (record { id = codes "m1"; group = None; body = codes "{\"a\":1}"; sent = 0 }) ≡ true
unfolding serde_json_on_literals read_pattern passes_message
body_members = refl

body_no_json : passes_message ((codes "{\"body\":{\"a\":[{\"exists\":false}]}}") ∷ []) (record { id = codes "m1"; group = None; body = codes "hello"; sent = 0 }) ≡ false
unfolding serde_json_on_literals read_pattern passes_message
body_no_json = refl

body_number : passes_message ((codes "{\"body\":[\"7\"]}") ∷ []) (record { id = codes "m1"; group = None; body = codes "7"; sent = 0 }) ≡ true
unfolding serde_json_on_literals read_pattern passes_message
body_number = refl

message_id : passes_message ((codes "{\"messageId\":[{\"prefix\":\"m\"}]}") ∷ []) (record { id = codes "m1"; group = None; body = codes "x"; sent = 0 }) ≡ true
unfolding serde_json_on_literals read_pattern passes_message
message_id = refl

data_of_message : passes_message ((codes "{\"data\":[{\"exists\":false}]}") ∷ []) (record { id = codes "m1"; group = None; body = codes "x"; sent = 0 }) ≡ true
unfolding serde_json_on_literals read_pattern passes_message
data_of_message = refl
