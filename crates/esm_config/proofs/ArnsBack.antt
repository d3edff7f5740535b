-- The ARN of a source or a function is read as its parts.
use Rattle.std.proofs.Common.{◌≡◌, ◌∙◌, ℕ, zero, suc, ◌+◌, ◌-◌, Bool, cond, true, false, not, ◌&&◌, refl, sym, ap, subst, arith, List, [], ◌∷◌, ◌++◌, length, length-append, take, drop, codes, Option, Some, None, option_map, nat_eq, nat_lt, lt-ltb}
use Rattle.std.specs.Option.{option_or}
use Rattle.std.specs.List.{after_first, before_first, ends_with, list_all, position_or_len}
use Rattle.std.proofs.lemmas.Bool.{and_from, and_parts, and_right, eqb-true, false≢true}
use Rattle.serde_json.specs.Data.{string}
use Rattle.esm_model.specs.Valid.{IsFunctionArn, is_account, is_between, is_name_byte, is_queue_name, is_region, is_region_byte, is_stream_byte, is_word}
use Rattle.std.specs.Char.{is_ascii_digit}
use lib.Pointwise.{pointwise}
use Rattle.esm_model.specs.declared.config.Kind.{Kind}
use Rattle.esm_model.specs.declared.config.Kind.TheVariants.{Stream, Standard, Fifo}
use Rattle.esm_config.specs.Arn.{Owned, Source, cut, function_arn_of, is_colon, is_function, is_queue, is_stream, kept, owned, owned_account, owned_name, owned_region, owned_rest, queue_kind, queue_of, queue_source, source_of, stream_of, stream_source, strip}
use Rattle.esm_config.specs.Fields.{Named, function_in, named_by, named_by_arn}
use Rattle.esm_config.specs.Given.{IsGivenSource}
use Rattle.esm_config.proofs.Arns.{function_whole, queue_whole, stream_whole, whole}

-- the first colon

colon_at : (p : ℕ → Bool) (x : ℕ) (b : Bool) → p 58 ≡ false → p x ≡ true → is_colon x ≡ b → b ≡ false
colon_at p x true not' is e = absurd (false≢true (sym not' ∙ (ap p (sym (eqb-true x 58 e)) ∙ is)))
colon_at p x false not' is e = refl

colon_is : (p : ℕ → Bool) (x : ℕ) → p 58 ≡ false → p x ≡ true → is_colon x ≡ false
colon_is p x not' is = colon_at p x (is_colon x) not' is refl

first_colon : (p : ℕ → Bool) (xs b : List ℕ) → p 58 ≡ false → list_all p xs ≡ true → position_or_len is_colon (xs ++ 58 ∷ b) ≡ length xs
first_colon p [] b not' all = refl
first_colon p (x ∷ xs) b not' all =
    let parts = and_parts (p x) (list_all p xs) all in
    let more : 1 + position_or_len is_colon (xs ++ 58 ∷ b) ≡ suc (length xs) = let ih = first_colon p xs b not' parts.1 in omega arith in
    ap (λ c. cond (not c) (1 + position_or_len is_colon (xs ++ 58 ∷ b)) 0) (colon_is p x not' parts.0) ∙ more

take_front : (xs ys : List ℕ) → take (length xs) (xs ++ ys) ≡ xs
take_front [] ys = refl
take_front (x ∷ xs) ys = ap (λ zs. x ∷ zs) (take_front xs ys)

drop_suc : (xs ys : List ℕ) → drop (suc (length xs)) (xs ++ 58 ∷ ys) ≡ ys
drop_suc [] ys = refl
drop_suc (x ∷ xs) ys = drop_suc xs ys

drop_colon : (xs ys : List ℕ) → drop (length xs + 1) (xs ++ 58 ∷ ys) ≡ ys
drop_colon xs ys = let n : length xs + 1 ≡ suc (length xs) = omega arith in ap (λ k. drop k (xs ++ 58 ∷ ys)) n ∙ drop_suc xs ys

cut_colon : (p : ℕ → Bool) (xs ys : List ℕ) → p 58 ≡ false → list_all p xs ≡ true → cut (xs ++ 58 ∷ ys) ≡ Some (xs, ys)
cut_colon p xs ys not' all =
    let at = first_colon p xs ys not' all in
    let inside : nat_lt (position_or_len is_colon (xs ++ 58 ∷ ys)) (length (xs ++ 58 ∷ ys)) ≡ true =
    lt-ltb (position_or_len is_colon (xs ++ 58 ∷ ys)) (length (xs ++ 58 ∷ ys)) (omega (arith, at, length-append xs (58 ∷ ys))) in
    let before : before_first is_colon (xs ++ 58 ∷ ys) ≡ xs = ap (λ n. take n (xs ++ 58 ∷ ys)) at ∙ take_front xs (58 ∷ ys) in
    let after : after_first is_colon (xs ++ 58 ∷ ys) ≡ ys = ap (λ n. drop (n + 1) (xs ++ 58 ∷ ys)) at ∙ drop_colon xs ys in
    ap (λ b. cond b (Some (before_first is_colon (xs ++ 58 ∷ ys), after_first is_colon (xs ++ 58 ∷ ys))) None) inside
    ∙ (ap (λ (a : List ℕ). Some (a, after_first is_colon (xs ++ 58 ∷ ys))) before ∙ ap (λ (b : List ℕ). Some (xs, b)) after)

word_all : (p : ℕ → Bool) (low high : ℕ) (xs : List ℕ) → is_word p low high xs ≡ true → list_all p xs ≡ true
word_all p low high xs h = (and_parts (is_between low high (length xs)) (list_all p xs) h).1

-- the parts after a prefix

parts_back : (resource : List ℕ) (o : Owned) → is_region o.region ≡ true → is_account o.account ≡ true → strip resource (resource ++ o.name) ≡ Some o.name
    → owned_rest resource (Some (whole resource o)) ≡ Some o
parts_back resource o hr ha hn =
    ap (λ p. owned_region resource p) (cut_colon is_region_byte o.region (o.account ++ (58 ∷ (resource ++ o.name))) refl (word_all is_region_byte 1 32 o.region hr))
    ∙ (ap (λ p. owned_account resource o.region p) (cut_colon is_ascii_digit o.account (resource ++ o.name) refl (word_all is_ascii_digit 12 12 o.account ha))
    ∙ ap (λ n. owned_name o.region o.account n) hn)

kept_back : {X : Type 0} (passes : X → Bool) (o : Option X) (x : X) → o ≡ Some x → passes x ≡ true → kept passes o ≡ Some x
kept_back {X} passes o x e h = ap (λ (p : Option X). kept passes p) e ∙ ap (λ b. cond b (Some x) None) h

stream_back : (o : Owned) → is_region o.region ≡ true → is_account o.account ≡ true → is_word is_stream_byte 1 128 o.name ≡ true
    → stream_of (codes "arn:aws:kinesis:" ++ whole (codes "stream/") o) ≡ Some o
stream_back o hr ha hn =
    kept_back is_stream (owned (codes "arn:aws:kinesis:") (codes "stream/") (codes "arn:aws:kinesis:" ++ whole (codes "stream/") o)) o (parts_back (codes "stream/") o hr ha refl)
    (and_from (is_region o.region) (is_account o.account && is_word is_stream_byte 1 128 o.name) hr (and_from (is_account o.account) (is_word is_stream_byte 1 128 o.name) ha hn))

queue_back : (o : Owned) → is_region o.region ≡ true → is_account o.account ≡ true → is_queue_name (queue_kind o.name) o.name ≡ true
    → queue_of (codes "arn:aws:sqs:" ++ whole [] o) ≡ Some o
queue_back o hr ha hn =
    kept_back is_queue (owned (codes "arn:aws:sqs:") [] (codes "arn:aws:sqs:" ++ whole [] o)) o (parts_back [] o hr ha refl)
    (and_from (is_region o.region) (is_account o.account && is_queue_name (queue_kind o.name) o.name) hr (and_from (is_account o.account) (is_queue_name (queue_kind o.name) o.name) ha hn))

function_back : (o : Owned) → is_region o.region ≡ true → is_account o.account ≡ true → is_word is_name_byte 1 64 o.name ≡ true
    → function_arn_of (codes "arn:aws:lambda:" ++ whole (codes "function:") o) ≡ Some o
function_back o hr ha hn =
    kept_back is_function (owned (codes "arn:aws:lambda:") (codes "function:") (codes "arn:aws:lambda:" ++ whole (codes "function:") o)) o (parts_back (codes "function:") o hr ha refl)
    (and_from (is_region o.region) (is_account o.account && is_word is_name_byte 1 64 o.name) hr (and_from (is_account o.account) (is_word is_name_byte 1 64 o.name) ha hn))

-- a source

pub record IsBack (k : Kind) (r a t : List ℕ) : Type 0 where
  pub source : Source
  pub found : source_of t ≡ Some source
  pub kind : source.kind ≡ k
  pub arn : source.arn ≡ t
  pub region : source.parts.region ≡ r
  pub account : source.parts.account ≡ a

stream_found : (o : Owned) → is_region o.region ≡ true → is_account o.account ≡ true → is_word is_stream_byte 1 128 o.name ≡ true
    → IsBack Stream o.region o.account (codes "arn:aws:kinesis:" ++ whole (codes "stream/") o)
stream_found o hr ha hn =
    let t = codes "arn:aws:kinesis:" ++ whole (codes "stream/") o in
    record {
      source = stream_source t o;
      found = ap (λ x. option_or (option_map (stream_source t) x) (option_map (queue_source t) (queue_of t))) (stream_back o hr ha hn);
      kind = refl;
      arn = refl;
      region = refl;
      account = refl;
    }

queue_found : (k : Kind) (o : Owned) → is_region o.region ≡ true → is_account o.account ≡ true → queue_kind o.name ≡ k → is_queue_name k o.name ≡ true
    → IsBack k o.region o.account (codes "arn:aws:sqs:" ++ whole [] o)
queue_found k o hr ha hk hn =
    let t = codes "arn:aws:sqs:" ++ whole [] o in
    let name = subst (λ (j : Kind). is_queue_name j o.name ≡ true) (sym hk) hn in
    record {
      source = queue_source t o;
      found = ap (λ x. option_map (queue_source t) x) (queue_back o hr ha name);
      kind = hk;
      arn = refl;
      region = refl;
      account = refl;
    }

all_drop : (p : ℕ → Bool) (n : ℕ) (xs : List ℕ) → list_all p xs ≡ true → list_all p (drop n xs) ≡ true
all_drop p zero xs h = h
all_drop p (suc n) [] h = h
all_drop p (suc n) (x ∷ xs) h = all_drop p n xs (and_parts (p x) (list_all p xs) h).1

not_dot : (b : Bool) (y : ℕ) → nat_eq 46 y ≡ b → is_name_byte y ≡ true → b ≡ false
not_dot true y e h = absurd (false≢true (ap is_name_byte (eqb-true 46 y e) ∙ h))
not_dot false y e h = refl

no_ending : (ys : List ℕ) → list_all is_name_byte ys ≡ true → pointwise nat_eq (codes ".fifo") ys ≡ false
no_ending [] h = refl
no_ending (y ∷ ys) h =
    ap (λ b. b && pointwise nat_eq (codes "fifo") ys) (not_dot (nat_eq 46 y) y refl (and_parts (is_name_byte y) (list_all is_name_byte ys) h).0)

standard_kind : (name : List ℕ) → is_queue_name Standard name ≡ true → queue_kind name ≡ Standard
standard_kind name h =
    ap (λ b. cond b Fifo Standard) (no_ending (drop (length name - 5) name) (all_drop is_name_byte (length name - 5) name (word_all is_name_byte 1 80 name h)))

fifo_kind : (name : List ℕ) → is_queue_name Fifo name ≡ true → queue_kind name ≡ Fifo
fifo_kind name h =
    ap (λ b. cond b Fifo Standard) (and_parts (ends_with nat_eq name (codes ".fifo")) (is_word is_name_byte 1 75 (take (length name - 5) name)) h).0

pub source_back : (k : Kind) (region account arn : List ℕ) → is_region region ≡ true → is_account account ≡ true → IsGivenSource k region account arn → IsBack k region account arn
source_back Stream region account arn hr ha h =
    let o : Owned = record { region = region; account = account; name = h.0 } in
    subst (λ (t : List ℕ). IsBack Stream region account t) (stream_whole o ∙ sym h.2) (stream_found o hr ha h.1)
source_back Standard region account arn hr ha h =
    let o : Owned = record { region = region; account = account; name = h.0 } in
    subst (λ (t : List ℕ). IsBack Standard region account t) (queue_whole o ∙ sym h.2) (queue_found Standard o hr ha (standard_kind h.0 h.1) h.1)
source_back Fifo region account arn hr ha h =
    let o : Owned = record { region = region; account = account; name = h.0 } in
    subst (λ (t : List ℕ). IsBack Fifo region account t) (queue_whole o ∙ sym h.2) (queue_found Fifo o hr ha (fifo_kind h.0 h.1) h.1)

-- a function

abbrev named : List ℕ → List ℕ → Named
named name arn = record { name = name; arn = Some arn }

function_found : (o : Owned) → is_region o.region ≡ true → is_account o.account ≡ true → is_word is_name_byte 1 64 o.name ≡ true
    → named_by (codes "arn:aws:lambda:" ++ whole (codes "function:") o) ≡ Some (named o.name (codes "arn:aws:lambda:" ++ whole (codes "function:") o))
function_found o hr ha hn =
    let t = codes "arn:aws:lambda:" ++ whole (codes "function:") o in
    let not' : is_word is_name_byte 1 64 t ≡ false = and_right (is_between 1 64 (length t)) (list_all is_name_byte t) refl in
    ap (λ b. cond b (Some (record { name = t; arn = None })) (named_by_arn t (function_arn_of t))) not'
    ∙ ap (λ x. named_by_arn t x) (function_back o hr ha hn)

pub function_arn_back : (name arn : List ℕ) → is_word is_name_byte 1 64 name ≡ true → IsFunctionArn name arn → function_in (Some (string arn)) ≡ Some (record { name = name; arn = Some arn })
function_arn_back name arn hn h =
    let o : Owned = record { region = h.0; account = h.1; name = name } in
    subst (λ (t : List ℕ). named_by t ≡ Some (named name t)) (function_whole o ∙ sym h.4) (function_found o h.2 h.3 hn)
