-- An event in the form in which this engine writes a stream's events, cut into the texts of its elements. Only this
-- crate's proofs cite this.
use Rattle.std.specs.Prelude.{◌≡◌, ◌≤◌, ◌<◌, ℕ, List, ◌∷◌, ◌++◌, codes, get_or, length, Bool, true, ◌&&◌, ◌||◌, ◌==◌, nat_le, nat_lt, not, Some}
use Rattle.std.specs.Char.{is_ascii_digit}
use Rattle.std.specs.List.{All, flat_map, list_all}
use Rattle.std.specs.Result.{result_ok}
use Rattle.base64.specs.Engines.{standard}
use Rattle.base64.specs.GeneralPurpose.{decode_of}
use Rattle.esm_ddb.specs.Event.{ddb_event}

-- ---- characters

abbrev pub is_plain : ℕ → Bool
is_plain b = nat_le 32 b && nat_lt b 128

-- a byte that a JSON string has as it is
abbrev pub is_kept : ℕ → Bool
is_kept b = nat_le 32 b && not (b == 34) && not (b == 92)

-- an ASCII byte that needs no escape
abbrev pub is_unescaped : ℕ → Bool
is_unescaped b = is_plain b && not (b == 34) && not (b == 92)

abbrev pub is_number_byte : ℕ → Bool
is_number_byte b = is_ascii_digit b || (b == 46)

-- ---- an element

abbrev pub part_a : List ℕ
part_a = codes "{\"kinesis\":{\"kinesisSchemaVersion\":\"1.0\",\"partitionKey\":\""

abbrev pub part_b : List ℕ
part_b = codes "\",\"sequenceNumber\":\""

abbrev pub part_c : List ℕ
part_c = codes "\",\"data\":\""

abbrev pub part_d : List ℕ
part_d = codes "\",\"approximateArrivalTimestamp\":"

abbrev pub part_e : List ℕ
part_e = codes ",\"eventSource\":\"aws:kinesis\",\"eventVersion\":\"1.0\",\"eventID\":\""

abbrev pub part_f : List ℕ
part_f = codes "\",\"eventName\":\"aws:kinesis:record\",\"invokeIdentityArn\":\""

abbrev pub part_g : List ℕ
part_g = codes "\",\"awsRegion\":\""

abbrev pub part_h : List ℕ
part_h = codes "\",\"eventSourceARN\":\""

-- the texts of an element, and its moment
pub record Texts : Type 0 where
  pub key : List ℕ
  pub seq : List ℕ
  pub bytes : List ℕ
  pub moment : List ℕ
  pub id : List ℕ
  pub role : List ℕ
  pub region : List ℕ
  pub arn : List ℕ

abbrev pub whole_text : Texts → List ℕ
whole_text t = part_a ++ t.key ++ part_b ++ t.seq ++ part_c ++ t.bytes ++ part_d ++ (t.moment ++ 125 ∷ part_e) ++ t.id ++ part_f ++ t.role ++ part_g ++ t.region ++ part_h ++ t.arn ++ codes "\"" ++ codes "}"

-- seconds, a point and three digits
pub record IsMoment (m : List ℕ) : Type 0 where
  pub whole : List ℕ
  pub fraction : List ℕ
  pub is : m ≡ whole ++ 46 ∷ fraction
  pub digits : list_all is_ascii_digit whole ≡ true
  pub some : 0 < length whole
  pub few : length whole ≤ 12
  pub no_zero : get_or whole 0 0 ≡ 48 → length whole ≡ 1
  pub fraction_digits : list_all is_ascii_digit fraction ≡ true
  pub three : length fraction ≡ 3

-- the seconds and the milliseconds of a moment of one second or later
pub record AreParts (whole fraction : List ℕ) : Type 0 where
  pub digits : list_all is_ascii_digit whole ≡ true
  pub some : 0 < length whole
  pub few : length whole ≤ 12
  pub no_zero : get_or whole 0 0 ≡ 48 → ⊥
  pub fraction_digits : list_all is_ascii_digit fraction ≡ true
  pub three : length fraction ≡ 3

-- none of its texts needs an escape
pub record AreUnescaped (t : Texts) : Type 0 where
  pub key : list_all is_unescaped t.key ≡ true
  pub seq : list_all is_unescaped t.seq ≡ true
  pub bytes : list_all is_unescaped t.bytes ≡ true
  pub id : list_all is_unescaped t.id ≡ true
  pub role : list_all is_unescaped t.role ≡ true
  pub region : list_all is_unescaped t.region ≡ true
  pub arn : list_all is_unescaped t.arn ≡ true
  pub moment : IsMoment t.moment

-- an element in this form, and the bytes of its data
pub record Own : Type 0 where
  pub texts : Texts
  pub payload : List ℕ

pub record IsOwn (o : Own) : Type 0 where
  pub plain : AreUnescaped o.texts
  pub data_is : result_ok (decode_of standard o.texts.bytes) ≡ Some o.payload

-- ---- the event

abbrev pub head_text : List ℕ
head_text = codes "{\"Records\":["

abbrev pub other_texts : List Own → List ℕ
other_texts os = flat_map (λ (o : Own). codes "," ++ whole_text o.texts) os

abbrev pub other_payloads : List Own → List ℕ
other_payloads os = flat_map (λ (o : Own). codes "," ++ o.payload) os

-- Up to what is left of it, the event is turned into `out`; the data of whatever elements are left follows.
pub record Becomes (event out left : List ℕ) : Type 0 where
  pub when : (os : List Own) → All IsOwn os → left ≡ other_texts os ++ codes "]}" → ddb_event event ≡ out ++ (other_payloads os ++ codes "]}")

-- ---- what is read of the event

-- the text begins with bytes that pass the test, before the rest
pub record Passes (test : ℕ → Bool) (text rest : List ℕ) : Type 0 where
  pub passed : List ℕ
  pub is : text ≡ passed ++ rest
  pub all : list_all test passed ≡ true

pub record PassesMoment (text rest : List ℕ) : Type 0 where
  pub moment : List ℕ
  pub is : text ≡ moment ++ rest
  pub read : IsMoment moment

-- how an element ends, which is the same for each element of an event
abbrev pub tail_text : (role region arn : List ℕ) → List ℕ
tail_text role region arn = part_f ++ (role ++ (part_g ++ (region ++ (part_h ++ (arn ++ codes "\"}")))))

pub record IsTail (tail : List ℕ) : Type 0 where
  pub role : List ℕ
  pub region : List ℕ
  pub arn : List ℕ
  pub is : tail ≡ tail_text role region arn
  pub role_plain : list_all is_unescaped role ≡ true
  pub region_plain : list_all is_unescaped region ≡ true
  pub arn_plain : list_all is_unescaped arn ≡ true

-- the text begins with an element up to its data
pub record PassesNumber (text rest : List ℕ) : Type 0 where
  pub key : List ℕ
  pub seq : List ℕ
  pub is : text ≡ part_a ++ (key ++ (part_b ++ (seq ++ (part_c ++ rest))))
  pub key_plain : list_all is_unescaped key ≡ true
  pub seq_plain : list_all is_unescaped seq ≡ true

-- the text is standard padded base64 of what was written
pub record IsDecoded (text before after : List ℕ) : Type 0 where
  pub payload : List ℕ
  pub plain : list_all is_unescaped text ≡ true
  pub data_is : result_ok (decode_of standard text) ≡ Some payload
  pub written : after ≡ before ++ payload

-- the text begins with an element's data, which was decoded and written
pub record PassesData (text rest before after : List ℕ) : Type 0 where
  pub bytes : List ℕ
  pub payload : List ℕ
  pub is : text ≡ bytes ++ rest
  pub plain : list_all is_unescaped bytes ≡ true
  pub data_is : result_ok (decode_of standard bytes) ≡ Some payload
  pub written : after ≡ before ++ payload

-- the text begins with the members between an element's data and its end
pub record PassesId (text rest : List ℕ) : Type 0 where
  pub moment : List ℕ
  pub id : List ℕ
  pub is : text ≡ part_d ++ (moment ++ (125 ∷ part_e ++ (id ++ rest)))
  pub moment_is : IsMoment moment
  pub id_plain : list_all is_unescaped id ≡ true

-- the text begins with an element up to its end
pub record PassesFront (text rest before after : List ℕ) : Type 0 where
  pub key : List ℕ
  pub seq : List ℕ
  pub bytes : List ℕ
  pub moment : List ℕ
  pub id : List ℕ
  pub payload : List ℕ
  pub is : text ≡ part_a ++ (key ++ (part_b ++ (seq ++ (part_c ++ (bytes ++ (part_d ++ (moment ++ (125 ∷ part_e ++ (id ++ rest)))))))))
  pub key_plain : list_all is_unescaped key ≡ true
  pub seq_plain : list_all is_unescaped seq ≡ true
  pub bytes_plain : list_all is_unescaped bytes ≡ true
  pub id_plain : list_all is_unescaped id ≡ true
  pub moment_is : IsMoment moment
  pub data_is : result_ok (decode_of standard bytes) ≡ Some payload
  pub written : after ≡ before ++ payload

pub record PassesTail (text tail rest : List ℕ) : Type 0 where
  pub is : text ≡ tail ++ rest
  pub tail_is : IsTail tail

-- the text begins with a whole element, whose data was written
pub record PassesOwn (text rest before after : List ℕ) : Type 0 where
  pub own : Own
  pub is_own : IsOwn own
  pub is : text ≡ whole_text own.texts ++ rest
  pub written : after ≡ before ++ own.payload
