-- The form in which programs write a stream's line: five members in one order, with no white space and no escape. Only this
-- crate's proofs cite this.
use Rattle.std.specs.Prelude.{◌≡◌, ◌≤◌, ◌<◌, ◌^◌, ℕ, ◌==◌, nat_le, nat_lt, not, Bool, true, ◌&&◌, List, ◌∷◌, ◌++◌, codes, get_or, length}
use Rattle.std.specs.Char.{is_ascii_digit}
use Rattle.std.specs.Fmt.{decimal}
use Rattle.std.specs.List.{list_all}
use Rattle.esm_record.specs.declared.usual.UsualLine.{UsualLine}

-- an ASCII character that represents itself in a JSON text
abbrev pub is_plain : ℕ → Bool
is_plain b = nat_le 32 b && nat_lt b 128 && not (b == 34) && not (b == 92)

-- the text begins with the literal, a plain text and its quotation mark, before the rest
pub record PassesMember (text literal passed rest : List ℕ) : Type 0 where
  pub is : text ≡ literal ++ (passed ++ 34 ∷ rest)
  pub plain : list_all is_plain passed ≡ true

-- the digits of a number below 10 ^ 19, without a leading zero
pub record IsWhole (digits : List ℕ) : Type 0 where
  pub some : 0 < length digits
  pub few : length digits ≤ 19
  pub no_zero : get_or digits 0 0 ≡ 48 → length digits ≡ 1
  pub all : list_all is_ascii_digit digits ≡ true

abbrev pub moment_text : ℕ → List ℕ
moment_text moment = codes ",\"approximateArrivalTimestamp\":" ++ (decimal moment ++ codes "}")

pub record PassesMoment (text : List ℕ) (moment : ℕ) : Type 0 where
  pub is : text ≡ moment_text moment
  pub fits : moment < 2 ^ 64

abbrev pub usual_text : (shard seq key payload : List ℕ) → ℕ → List ℕ
usual_text shard seq key payload moment =
    codes "{\"shardId\":\"" ++ (shard ++ 34 ∷ (codes ",\"sequenceNumber\":\"" ++ (seq ++ 34 ∷ (codes ",\"partitionKey\":\"" ++ (key ++ 34 ∷ (codes ",\"data\":\""
    ++ (payload ++ 34 ∷ moment_text moment)))))))

pub record IsUsual (line : List ℕ) (u : UsualLine) : Type 0 where
  pub is : line ≡ usual_text u.shard.bytes.now u.seq.bytes.now u.key.bytes.now u.payload.bytes.now u.arrival
  pub shard : list_all is_plain u.shard.bytes.now ≡ true
  pub seq : list_all is_plain u.seq.bytes.now ≡ true
  pub key : list_all is_plain u.key.bytes.now ≡ true
  pub payload : list_all is_plain u.payload.bytes.now ≡ true
  pub fits : u.arrival < 2 ^ 64
