-- What the parts of an ARN say of its text.
use Rattle.std.proofs.Common.{◌≡◌, ◌∙◌, ◌<◌, ℕ, ◌==◌, Bool, cond, true, false, ◌&&◌, refl, ap, subst, List, [], ◌∷◌, ◌++◌, append_assoc, drop, length, get_or, codes, Option, Some, None, option_map, option_and_then, nat_eq, nat_lt}
use Rattle.std.specs.List.{after_first, before_first, ends_with, position_or_len, starts_with}
use Rattle.std.specs.Option.{option_or}
use Rattle.std.proofs.lemmas.Bool.{and_parts, eqb-true, ltb-true}
use Rattle.std.proofs.lemmas.Bool.Decides.{Decides-eqb}
use Rattle.std.proofs.lemmas.List.Sums.{passes_at_first, split_at_first}
use Rattle.std.proofs.lemmas.Slice.Eq.{starts_is}
use Rattle.serde_json.specs.Data.{Data}
use Rattle.serde_json.specs.Find.{as_str}
use Rattle.esm_model.specs.Valid.{IsFunctionArn, IsKinesisSource, IsTableSource, arn_of, is_account, is_label_byte, is_name_byte, is_queue_name, is_region, is_stream_byte, is_word}
use Rattle.esm_model.specs.declared.config.Kind.{Kind}
use Rattle.esm_model.specs.declared.config.Kind.TheVariants.{Stream, Standard, Fifo}
use Rattle.esm_config.specs.Arn.{Owned, Source, cut, cut_at, function_arn_of, is_function, is_label, is_queue, is_slash, is_stream, is_table, is_table_path, kept, owned, owned_account, owned_name, owned_region, owned_rest, queue_kind, queue_of, queue_source, source_among, source_of, stream_of, stream_source, strip, table_of}
use Rattle.esm_config.specs.Fields.{source_in}
use Rattle.esm_config.specs.Given.{IsGivenSource}
use Rattle.esm_config.specs.declared.sources.Sources.{Sources}
use Rattle.esm_config.specs.declared.sources.Sources.TheVariants.{KinesisOrSqs, DynamoDb}

pub inner : {X : Type 0} (a b : X) → Some a ≡ Some b → a ≡ b
inner a b h = cc

pub some_of : {X : Type 0} (b : Bool) (a o : X) → cond b (Some a) None ≡ Some o → (b ≡ true) × (a ≡ o)
some_of true a o h = (refl, inner a o h)
some_of false a o h = absurd (cc)

-- an ARN is made of its parts

prefix_then : (prefix text rest : List ℕ) → strip prefix text ≡ Some rest → text ≡ prefix ++ rest
prefix_then prefix text rest h =
    let t = some_of (starts_with nat_eq text prefix) (drop (length prefix) text) rest h in
    subst (λ (r : List ℕ). text ≡ prefix ++ r) t.1 ((starts_is Decides-eqb text prefix (starts_with nat_eq text prefix) refl).0 t.0)

cut_then : (c : ℕ) (text a b : List ℕ) → cut_at (λ k. k == c) text ≡ Some (a, b) → text ≡ a ++ (c ∷ b)
cut_then c text a b h =
    let is_it : ℕ → Bool = λ k. k == c in
    let t = some_of (nat_lt (position_or_len is_it text) (length text)) (before_first is_it text, after_first is_it text) (a, b) h in
    let inside : position_or_len is_it text < length text = ltb-true (position_or_len is_it text) (length text) t.0 in
    let colon : get_or text (position_or_len is_it text) 0 ≡ c = eqb-true (get_or text (position_or_len is_it text) 0) c (passes_at_first is_it text 0 inside) in
    let before : before_first is_it text ≡ a = ap (λ (p : List ℕ × List ℕ). p.0) t.1 in
    let after : after_first is_it text ≡ b = ap (λ (p : List ℕ × List ℕ). p.1) t.1 in
    let split : text ≡ before_first is_it text ++ (get_or text (position_or_len is_it text) 0 ∷ after_first is_it text) = split_at_first is_it text 0 inside in
    split ∙ (ap (λ (p : List ℕ). p ++ (get_or text (position_or_len is_it text) 0 ∷ after_first is_it text)) before
    ∙ (ap (λ (k : ℕ). a ++ (k ∷ after_first is_it text)) colon ∙ ap (λ (q : List ℕ). a ++ (c ∷ q)) after))

colon_then : (text a b : List ℕ) → cut text ≡ Some (a, b) → text ≡ a ++ (58 ∷ b)
colon_then text a b h = cut_then 58 text a b h

abbrev pub whole : List ℕ → Owned → List ℕ
whole resource o = o.region ++ (58 ∷ (o.account ++ (58 ∷ (resource ++ o.name))))

name_is : (resource region account rest : List ℕ) (n : Option (List ℕ)) (o : Owned) → strip resource rest ≡ n → owned_name region account n ≡ Some o → region ++ (58 ∷ (account ++ (58 ∷ rest))) ≡ whole resource o
name_is resource region account rest None o e h = absurd (cc)
name_is resource region account rest (Some name) o e h =
    subst (λ (p : Owned). region ++ (58 ∷ (account ++ (58 ∷ rest))) ≡ whole resource p) (inner _ o h)
    (ap (λ (r : List ℕ). region ++ (58 ∷ (account ++ (58 ∷ r)))) (prefix_then resource rest name e))

account_is : (resource region rest : List ℕ) (p : Option (List ℕ × List ℕ)) (o : Owned) → cut rest ≡ p → owned_account resource region p ≡ Some o → region ++ (58 ∷ rest) ≡ whole resource o
account_is resource region rest None o e h = absurd (cc)
account_is resource region rest (Some q) o e h =
    ap (λ (r : List ℕ). region ++ (58 ∷ r)) (colon_then rest q.0 q.1 e) ∙ name_is resource region q.0 q.1 (strip resource q.1) o refl h

region_is : (resource rest : List ℕ) (p : Option (List ℕ × List ℕ)) (o : Owned) → cut rest ≡ p → owned_region resource p ≡ Some o → rest ≡ whole resource o
region_is resource rest None o e h = absurd (cc)
region_is resource rest (Some q) o e h = colon_then rest q.0 q.1 e ∙ account_is resource q.0 q.1 (cut q.1) o refl h

rest_is : (prefix resource text : List ℕ) (r : Option (List ℕ)) (o : Owned) → strip prefix text ≡ r → owned_rest resource r ≡ Some o → text ≡ prefix ++ whole resource o
rest_is prefix resource text None o e h = absurd (cc)
rest_is prefix resource text (Some rest) o e h =
    prefix_then prefix text rest e ∙ ap (λ (r : List ℕ). prefix ++ r) (region_is resource rest (cut rest) o refl h)

owned_is : (prefix resource text : List ℕ) (o : Owned) → owned prefix resource text ≡ Some o → text ≡ prefix ++ whole resource o
owned_is prefix resource text o h = rest_is prefix resource text (strip prefix text) o refl h

pub kept_is : {X : Type 0} (passes : X → Bool) (r : Option X) (o : X) → kept passes r ≡ Some o → (r ≡ Some o) × (passes o ≡ true)
kept_is passes None o h = absurd (cc)
kept_is {X} passes (Some p) o h =
    let t = some_of (passes p) p o h in
    (ap (λ (q : X). Some q) t.1, subst (λ (q : X). passes q ≡ true) t.1 t.0)

pub stream_whole : (o : Owned) → codes "arn:aws:kinesis:" ++ whole (codes "stream/") o ≡ arn_of (codes "kinesis") o.region o.account (codes "stream/" ++ o.name)
stream_whole o = simp append_assoc

stream_is : (text : List ℕ) (o : Owned) → stream_of text ≡ Some o → (is_region o.region ≡ true) × (is_account o.account ≡ true) × IsKinesisSource o.region o.account text
stream_is text o h =
    let k = kept_is is_stream (owned (codes "arn:aws:kinesis:") (codes "stream/") text) o h in
    let a = and_parts (is_region o.region) (is_account o.account && is_word is_stream_byte 1 128 o.name) k.1 in
    let b = and_parts (is_account o.account) (is_word is_stream_byte 1 128 o.name) a.1 in
    (a.0, b.0, (o.name, b.1, owned_is (codes "arn:aws:kinesis:") (codes "stream/") text o k.0 ∙ stream_whole o))

pub function_whole : (o : Owned) → codes "arn:aws:lambda:" ++ whole (codes "function:") o ≡ arn_of (codes "lambda") o.region o.account (codes "function:" ++ o.name)
function_whole o = simp append_assoc

pub function_is : (text : List ℕ) (o : Owned) → function_arn_of text ≡ Some o → (is_word is_name_byte 1 64 o.name ≡ true) × IsFunctionArn o.name text
function_is text o h =
    let k = kept_is is_function (owned (codes "arn:aws:lambda:") (codes "function:") text) o h in
    let a = and_parts (is_region o.region) (is_account o.account && is_word is_name_byte 1 64 o.name) k.1 in
    let b = and_parts (is_account o.account) (is_word is_name_byte 1 64 o.name) a.1 in
    (b.1, (o.region, o.account, a.0, b.0, owned_is (codes "arn:aws:lambda:") (codes "function:") text o k.0 ∙ function_whole o))

pub queue_whole : (o : Owned) → codes "arn:aws:sqs:" ++ whole [] o ≡ arn_of (codes "sqs") o.region o.account o.name
queue_whole o = simp append_assoc

record IsQueue (arn : List ℕ) (o : Owned) : Type 0 where
  region : is_region o.region ≡ true
  account : is_account o.account ≡ true
  name : is_queue_name (queue_kind o.name) o.name ≡ true
  text : arn ≡ arn_of (codes "sqs") o.region o.account o.name

queue_is : (text : List ℕ) (o : Owned) → queue_of text ≡ Some o → IsQueue text o
queue_is text o h =
    let k = kept_is is_queue (owned (codes "arn:aws:sqs:") [] text) o h in
    let a = and_parts (is_region o.region) (is_account o.account && is_queue_name (queue_kind o.name) o.name) k.1 in
    let b = and_parts (is_account o.account) (is_queue_name (queue_kind o.name) o.name) a.1 in
    record { region = a.0; account = b.0; name = b.1; text = owned_is (codes "arn:aws:sqs:") [] text o k.0 ∙ queue_whole o }

-- the stream of a table

label_is : (r : Option (List ℕ)) → is_label r ≡ true → (label : List ℕ) × (r ≡ Some label) × (is_word is_label_byte 1 64 label ≡ true)
label_is None h = absurd (cc)
label_is (Some label) h = (label, refl, h)

record IsPath (path : List ℕ) : Type 0 where
  name : List ℕ
  label : List ℕ
  is_name : is_word is_stream_byte 3 255 name ≡ true
  is_label : is_word is_label_byte 1 64 label ≡ true
  is : path ≡ name ++ (codes "/stream/" ++ label)

path_is : (path : List ℕ) (p : Option (List ℕ × List ℕ)) → cut_at is_slash path ≡ p → is_table_path p ≡ true → IsPath path
path_is path None e h = absurd (cc)
path_is path (Some p) e h =
    let parts = and_parts (is_word is_stream_byte 3 255 p.0) (is_label (strip (codes "stream/") p.1)) h in
    let label = label_is (strip (codes "stream/") p.1) parts.1 in
    record {
      name = p.0;
      label = label.0;
      is_name = parts.0;
      is_label = label.2;
      is = cut_then 47 path p.0 p.1 e ∙ ap (λ (r : List ℕ). p.0 ++ (47 ∷ r)) (prefix_then (codes "stream/") p.1 label.0 label.1);
    }

table_whole : (o : Owned) → codes "arn:aws:dynamodb:" ++ whole (codes "table/") o ≡ arn_of (codes "dynamodb") o.region o.account (codes "table/" ++ o.name)
table_whole o = simp append_assoc

table_path : (name label : List ℕ) → codes "table/" ++ (name ++ (codes "/stream/" ++ label)) ≡ codes "table/" ++ name ++ codes "/stream/" ++ label
table_path name label = simp append_assoc

table_is : (text : List ℕ) (o : Owned) → table_of text ≡ Some o → (is_region o.region ≡ true) × (is_account o.account ≡ true) × IsTableSource o.region o.account text
table_is text o h =
    let k = kept_is is_table (owned (codes "arn:aws:dynamodb:") (codes "table/") text) o h in
    let a = and_parts (is_region o.region) (is_account o.account && is_table_path (cut_at is_slash o.name)) k.1 in
    let b = and_parts (is_account o.account) (is_table_path (cut_at is_slash o.name)) a.1 in
    let p = path_is o.name (cut_at is_slash o.name) refl b.1 in
    let path : codes "table/" ++ o.name ≡ codes "table/" ++ p.name ++ codes "/stream/" ++ p.label =
    ap (λ (n : List ℕ). codes "table/" ++ n) p.is ∙ table_path p.name p.label in
    let whole_is : text ≡ codes "arn:aws:dynamodb:" ++ whole (codes "table/") o = owned_is (codes "arn:aws:dynamodb:") (codes "table/") text o k.0 in
    let arn_is = whole_is ∙ (table_whole o ∙ ap (λ (r : List ℕ). arn_of (codes "dynamodb") o.region o.account r) path) in
    (a.0, b.0, (p.name, p.label, p.is_name, p.is_label, arn_is))

-- a source is a stream, or a queue of its kind; or the stream of a table

abbrev pub IsAmong : Sources → Kind → List ℕ → List ℕ → List ℕ → Type 0
IsAmong KinesisOrSqs kind region account arn = IsGivenSource kind region account arn
IsAmong DynamoDb kind region account arn = (kind ≡ Stream) × IsTableSource region account arn

pub record IsFrom (sources : Sources) (s : Source) : Type 0 where
  pub region : is_region s.parts.region ≡ true
  pub account : is_account s.parts.account ≡ true
  pub arn : IsAmong sources s.kind s.parts.region s.parts.account s.arn

from_stream : (text : List ℕ) (o : Owned) → stream_of text ≡ Some o → IsFrom KinesisOrSqs (stream_source text o)
from_stream text o h = let s = stream_is text o h in record { region = s.0; account = s.1; arn = s.2 }

queue_arn : (b : Bool) (region account name text : List ℕ) → is_queue_name (cond b Fifo Standard) name ≡ true → text ≡ arn_of (codes "sqs") region account name
    → IsGivenSource (cond b Fifo Standard) region account text
queue_arn true region account name text hn ht = (name, hn, ht)
queue_arn false region account name text hn ht = (name, hn, ht)

from_queue : (text : List ℕ) (o : Owned) → queue_of text ≡ Some o → IsFrom KinesisOrSqs (queue_source text o)
from_queue text o h =
    let q = queue_is text o h in
    record { region = q.region; account = q.account; arn = queue_arn (ends_with nat_eq o.name (codes ".fifo")) o.region o.account o.name text q.name q.text }

from_either : (text : List ℕ) (a b : Option Owned) (s : Source) → stream_of text ≡ a → queue_of text ≡ b
    → option_or (option_map (stream_source text) a) (option_map (queue_source text) b) ≡ Some s → IsFrom KinesisOrSqs s
from_either text None None s ha hb h = absurd (cc)
from_either text None (Some o) s ha hb h = subst (λ (r : Source). IsFrom KinesisOrSqs r) (inner (queue_source text o) s h) (from_queue text o hb)
from_either text (Some o) b s ha hb h = subst (λ (r : Source). IsFrom KinesisOrSqs r) (inner (stream_source text o) s h) (from_stream text o ha)

source_at : (t : Option (List ℕ)) (s : Source) → option_and_then source_of t ≡ Some s → IsFrom KinesisOrSqs s
source_at None s h = absurd (cc)
source_at (Some text) s h = from_either text (stream_of text) (queue_of text) s refl refl h

from_table : (text : List ℕ) (r : Option Owned) (s : Source) → table_of text ≡ r → option_map (stream_source text) r ≡ Some s → IsFrom DynamoDb s
from_table text None s e h = absurd (cc)
from_table text (Some o) s e h =
    let is = table_is text o e in
    subst (λ (r : Source). IsFrom DynamoDb r) (inner (stream_source text o) s h) (record { region = is.0; account = is.1; arn = (refl, is.2) })

table_at : (t : Option (List ℕ)) (s : Source) → option_and_then (source_among DynamoDb) t ≡ Some s → IsFrom DynamoDb s
table_at None s h = absurd (cc)
table_at (Some text) s h = from_table text (table_of text) s refl h

pub source_is : (sources : Sources) (d : Option Data) (s : Source) → source_in sources d ≡ Some s → IsFrom sources s
source_is sources None s h = absurd (cc)
source_is KinesisOrSqs (Some d) s h = source_at (as_str d) s h
source_is DynamoDb (Some d) s h = table_at (as_str d) s h
