-- A stream's elements from the pieces that they are written by, and an event from its elements.
use Rattle.std.proofs.Common.{◌≡◌, ◌==◌, true, ℕ, List, [], ◌++◌, length, codes, refl, ap, append_assoc, ◌∙◌}
use Rattle.std.specs.List.{flat_map}
use Rattle.std.proofs.lemmas.List.{append-nil, nil_from_length}
use Rattle.esm_model.specs.Numbers.{padded_decimal}
use Rattle.esm_model.specs.JsonText.{escaped_byte}
use Rattle.esm_model.specs.EventText.{base64_text, seconds_text, event_in}
use Rattle.esm_model.specs.Records.{Record}
use Rattle.esm_event.specs.Elements.{content_text, identity_text, element_text, ending_in, following_record}
use Rattle.esm_event.proofs.LengthLemmas.{is_zero}

-- the pieces of an element, grouped otherwise
regrouped : (opening quote key middle seq words payload arrival seconds close event shards shard colon source : List ℕ) → (opening ++ quote) ++ (key ++ (quote ++ middle) ++ seq ++ words ++ payload ++ arrival ++ seconds) ++ ((close ++ event ++ shards) ++ shard ++ colon) ++ seq ++ source ≡ (opening ++ (quote ++ key ++ quote) ++ middle ++ seq ++ words ++ payload ++ arrival ++ seconds ++ close) ++ (event ++ (shards ++ shard) ++ colon ++ seq) ++ source
regrouped opening quote key middle seq words payload arrival seconds close event shards shard colon source = simp append_assoc refl

pub first_element : (source : List ℕ) (r : Record) → element_text (codes "{\"kinesis\":{\"kinesisSchemaVersion\":\"1.0\",\"partitionKey\":\"") (identity_text r.shard) source r ≡ ending_in source r
unfolding element_text content_text identity_text ending_in
first_element source r =
    regrouped (codes "{\"kinesis\":{\"kinesisSchemaVersion\":\"1.0\",\"partitionKey\":") (codes "\"") (flat_map escaped_byte r.key)
    (codes ",\"sequenceNumber\":\"") r.seq (codes "\",\"data\":\"") (base64_text r.payload)
    (codes "\",\"approximateArrivalTimestamp\":") (seconds_text r.arrival) (codes "}")
    (codes ",\"eventSource\":\"aws:kinesis\",\"eventVersion\":\"1.0\",\"eventID\":\"") (codes "shardId-") (padded_decimal 12 r.shard)
    (codes ":") source

pub next_element : (source : List ℕ) (r : Record) → element_text (codes ",{\"kinesis\":{\"kinesisSchemaVersion\":\"1.0\",\"partitionKey\":\"") (identity_text r.shard) source r ≡ following_record source r
unfolding element_text following_record
next_element source r = ap (λ (text : List ℕ). codes "," ++ text) (first_element source r)

-- an event that is no more than what it begins with

pub head_alone : (head source tail : List ℕ) (rs : List Record) → (length rs == 0) ≡ true → (length tail == 0) ≡ true → event_in head rs source tail ≡ head
unfolding event_in
head_alone head source tail rs none empty =
    let no_records : rs ≡ [] = nil_from_length rs (is_zero (length rs) none) in
    let no_end : tail ≡ [] = nil_from_length tail (is_zero (length tail) empty) in
    rw (no_records, no_end) (append-nil (head ++ []) ∙ append-nil head)
