-- What the first tokens of a value say.
use Rattle.std.proofs.Common.{◌≡◌, ℕ, ◌-◌, ◌<◌, length, true, false, true≢false, List, [], ◌∷◌, Option, Some, None, Result, Ok, Err, OnErr, option_map, refl, sym, ap, ◌∙◌}
use Rattle.std.specs.Prelude.{is_some, MatchOption}
use Rattle.json.specs.Token.{Token}
use Rattle.json.specs.Json as json
use Rattle.json.specs.Json.{Parse, parse_map, value, members, value_with}
use Rattle.json.specs.Reads.{token_of}
use Rattle.json.specs.declared.token.Token as token
use Rattle.json.proofs.Grammar.{value_is, value-begin_object}
use Rattle.serde_json.specs.Data.{Num, Data, number, array, object, Items, no_members}
use Rattle.serde_json.specs.Find.{as_u64}
use Rattle.serde_json.specs.Read.{number_of, of_json, of_items, of_members, converted}
use Rattle.esm_record.specs.declared.object.Leaf.{Leaf}
use Rattle.esm_record.specs.Line.{only_object}
use Rattle.esm_record.specs.Leaf.{text_in, whole_in, ReadsLeaf, opens_object}
use Rattle.esm_record.proofs.LineTokens.{sole_value, sole_value_is, in_object}

pub on_err : {T E P : Type 0} (r : Result T E) → P → OnErr r P
on_err (Ok x) p = tt
on_err (Err e) p = p

-- ---- numbers

number_some : (o : Option Num) (w : Option ℕ) → Some w ≡ option_map as_u64 o → (n : Num) × (o ≡ Some n) × (as_u64 n ≡ w)
number_some None w e = absurd (cc)
number_some (Some n) w e = (n, refl, cc)

number_none : (o : Option Num) → None ≡ option_map as_u64 o → o ≡ None
number_none None e = refl
number_none (Some n) e = absurd (cc)

number_reads : (o : Option Num) (n : Num) (rest : List Token) → o ≡ Some n → option_map {U = Data × List Token} (λ d. (d, rest)) (option_map number o) ≡ Some (number n, rest)
number_reads o n rest e = ap (λ (m : Option Num). option_map {U = Data × List Token} (λ d. (d, rest)) (option_map number m)) e

pub number_leaf : (depth : ℕ) (s : List ℕ) (rest old : List Token) (w : Option ℕ) (l : Leaf) → old ≡ Token.number s ∷ rest → Some w ≡ option_map as_u64 (number_of s) → text_in l ≡ None → whole_in l ≡ w → ReadsLeaf depth old l rest
number_leaf depth s rest old w l is says no_text is_whole =
    let n = number_some (number_of s) w says in
    let read : converted of_json (value depth old) ≡ Some (number n.0, rest) = ap (converted of_json) (ap (value depth) is ∙ value_is depth (Token.number s ∷ rest)) ∙ number_reads (number_of s) n.0 rest n.1 in
    record { data_read = number n.0; reads = read; is = record { text = sym no_text; whole = n.2 ∙ sym is_whole } }

pub number_refused : (depth : ℕ) (s : List ℕ) (rest old : List Token) → old ≡ Token.number s ∷ rest → None ≡ option_map as_u64 (number_of s) → converted of_json (value depth old) ≡ None
number_refused depth s rest old is says =
    let none : number_of s ≡ None = number_none (number_of s) says in
    ap (converted of_json) (ap (value depth) is ∙ value_is depth (Token.number s ∷ rest)) ∙ rw none refl

-- ---- what is no object

array_by : (o : Option Items) → only_object (option_map array o) ≡ None
array_by None = refl
array_by (Some ds) = refl

no_array : (o : Option (json.Items × List Token)) → only_object (sole_value (parse_map json.array o)) ≡ None
no_array None = refl
no_array (Some (js, [])) = array_by (of_items js)
no_array (Some (js, t ∷ ts)) = refl

number_by : (o : Option Num) → only_object (option_map number o) ≡ None
number_by None = refl
number_by (Some n) = refl

no_leaf : (j : json.Json) (ts : List Token) → only_object (of_json j) ≡ None → only_object (sole_value (Some (j, ts))) ≡ None
no_leaf j [] none = none
no_leaf j (t ∷ ts) none = refl

no_object_with : (a : Parse json.Items) (o : Parse json.Members) (ts : List Token) → opens_object ts ≡ false → only_object (sole_value (value_with a o ts)) ≡ None
no_object_with a o [] e = refl
no_object_with a o (Token.begin_object ∷ ts) e = absurd (true≢false e)
no_object_with a o (Token.end_object ∷ ts) e = refl
no_object_with a o (Token.begin_array ∷ ts) e = no_array (a ts)
no_object_with a o (Token.end_array ∷ ts) e = refl
no_object_with a o (Token.key s ∷ ts) e = refl
no_object_with a o (Token.string s ∷ ts) e = no_leaf (json.string s) ts refl
no_object_with a o (Token.number s ∷ ts) e = no_leaf (json.number s) ts (number_by (number_of s))
no_object_with a o (Token.boolean b ∷ ts) e = no_leaf (json.boolean b) ts refl
no_object_with a o (Token.null ∷ ts) e = no_leaf json.null ts refl
no_object_with a o (Token.bad ∷ ts) e = refl

pub no_object : (depth : ℕ) (ts : List Token) → opens_object ts ≡ false → only_object (sole_value (value depth ts)) ≡ None
no_object depth ts e = ap (λ (o : Option (json.Json × List Token)). only_object (sole_value o)) (value_is depth ts) ∙ no_object_with _ _ ts e

-- ---- an object

pub opened_object : (depth : ℕ) (ts all : List Token) → all ≡ Token.begin_object ∷ ts → 0 < depth
    → converted of_json (value depth all) ≡ parse_map object (converted (λ ms. of_members ms no_members) (members (value (depth - 1)) (length ts) ts))
opened_object depth ts all e some = ap (converted of_json) (ap (value depth) e ∙ value-begin_object depth ts some) ∙ in_object (members (value (depth - 1)) (length ts) ts)

-- a token follows the value
pub more_follows : (depth : ℕ) (ts : List Token) (d : Data) (rest later : List Token) (next : Option token.Token) → is_some next ≡ true → MatchOption next ((rest ≡ []) × (later ≡ [])) (λ t. rest ≡ token_of t ∷ later)
    → converted of_json (value depth ts) ≡ Some (d, rest) → only_object (sole_value (value depth ts)) ≡ None
more_follows depth ts d rest later None some follows e = absurd (true≢false (sym some))
more_follows depth ts d rest later (Some t) some follows e = ap only_object (sole_value_is (value depth ts) (Some (d, token_of t ∷ later)) (e ∙ ap (λ r. Some (d, r)) follows))
