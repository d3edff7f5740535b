-- What is read of a line in the form in which programs write it, part by part.
use Rattle.std.proofs.Common.{◌≡◌, ◌∙◌, ℕ, sym, ap, List, ◌∷◌, ◌++◌, codes, Option, Some, None, arith}
use Rattle.std.specs.Prelude.{IfSome, MatchOption}
use Rattle.std.specs.Fmt.{decimal}
use Rattle.std.specs.Str.Parse.{digits_value}
use Rattle.esm_record.specs.Usual.{IsWhole, PassesMember, PassesMoment, IsUsual}
use Rattle.esm_record.specs.declared.usual.UsualLine.{UsualLine}
use Rattle.esm_record.proofs.UsualDigits.{whole_fits, whole_written}

pub if_matched : {A : Type 0} (N : Type 0) (P : A → Type 0) (r : Option A) → MatchOption r N P → IfSome r P
if_matched N P None h = tt
if_matched N P (Some x) h = h

pub moment_passed : (text begun digits : List ℕ) (moment : ℕ) → text ≡ codes ",\"approximateArrivalTimestamp\":" ++ begun → begun ≡ digits ++ codes "}"
    → IsWhole digits → moment ≡ digits_value 10 digits → PassesMoment text moment
moment_passed text begun digits moment a b whole value =
    let fits = whole_fits digits whole in
    record {
      is = a ∙ ap (λ l. codes ",\"approximateArrivalTimestamp\":" ++ l) (b ∙ ap (λ l. l ++ codes "}") (sym (whole_written digits whole) ∙ ap decimal (sym value)));
      fits = omega (arith, fits, value);
    }

pub line_passed : (line behind_shard behind_seq behind_key behind_payload : List ℕ) (u : UsualLine)
    → PassesMember line (codes "{\"shardId\":\"") u.shard.bytes.now behind_shard → PassesMember behind_shard (codes ",\"sequenceNumber\":\"") u.seq.bytes.now behind_seq
    → PassesMember behind_seq (codes ",\"partitionKey\":\"") u.key.bytes.now behind_key → PassesMember behind_key (codes ",\"data\":\"") u.payload.bytes.now behind_payload
    → PassesMoment behind_payload u.arrival → IsUsual line u
line_passed line behind_shard behind_seq behind_key behind_payload u s q k d m = record {
  is =
      s.is ∙ ap (λ l. codes "{\"shardId\":\"" ++ (u.shard.bytes.now ++ 34 ∷ l)) (q.is ∙ ap (λ l. codes ",\"sequenceNumber\":\"" ++ (u.seq.bytes.now ++ 34 ∷ l))
      (k.is ∙ ap (λ l. codes ",\"partitionKey\":\"" ++ (u.key.bytes.now ++ 34 ∷ l)) (d.is ∙ ap (λ l. codes ",\"data\":\"" ++ (u.payload.bytes.now ++ 34 ∷ l)) m.is)));
  shard = s.plain;
  seq = q.plain;
  key = k.plain;
  payload = d.plain;
  fits = m.fits;
}
