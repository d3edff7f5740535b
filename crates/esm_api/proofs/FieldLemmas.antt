-- The values of the headers with one name, one header at a time, and the number that digits write.
use Rattle.std.proofs.Common.{◌≡◌, ◌≢◌, ℕ, ◌+◌, ◌<◌, Bool, true, false, cond, List, [], ◌∷◌, ◌++◌, length, take, map, get_or, sym, refl, ap, ◌∙◌, subst, arith, append-nil}
use Rattle.std.proofs.lemmas.List.{map_more, length-append}
use Rattle.std.proofs.lemmas.List.Concat.{flat_map-append}
use Rattle.std.proofs.lemmas.Bool.{cond-true, cond-false}
use Rattle.httparse.specs.declared.spans.HeaderSpan.{HeaderSpan}
use Rattle.httparse.specs.declared.spans.Span.{Span}
use Rattle.httparse.specs.Spans.{span_bytes, header_bytes}
use Rattle.http1.specs.Fields.{Header, is_named, values_named}
use Rattle.esm_api.specs.declared.length.BodyLength.{BodyLength}
use Rattle.esm_api.specs.declared.length.BodyLength.TheVariants.{Missing}
use Rattle.esm_api.specs.declared.length.Named.{Named}
use Rattle.esm_api.specs.declared.length.Named.TheVariants as named
use Rattle.esm_api.specs.HeadRead.{IsNamed}
use Rattle.esm_api.specs.Plan.{length_of, length_by_values}

-- the value of a header where it has the name
abbrev pub value_if : Bool → List ℕ → List (List ℕ)
value_if is value = cond is (value ∷ []) []

pub values_more : (bytes name : List ℕ) (fields : List HeaderSpan) (i : ℕ) (d : HeaderSpan) → i < length fields
    → values_named name (map (header_bytes bytes) (take (i + 1) fields))
    ≡ values_named name (map (header_bytes bytes) (take i fields)) ++ value_if (is_named name (header_bytes bytes (get_or fields i d))) (header_bytes bytes (get_or fields i d)).1
values_more bytes name fields i d lt =
    let value : Header → List (List ℕ) = λ h. value_if (is_named name h) h.1 in
    ap (values_named name) (map_more (header_bytes bytes) fields i d lt)
    ∙ flat_map-append value (map (header_bytes bytes) (take i fields)) (header_bytes bytes (get_or fields i d) ∷ [])
    ∙ ap (λ t. values_named name (map (header_bytes bytes) (take i fields)) ++ t) (append-nil (value (header_bytes bytes (get_or fields i d))))

-- a header with another name changes nothing
pub named_other : (bytes : List ℕ) (values : List (List ℕ)) (found : Named) (is : Bool) (value : List ℕ) → is ≡ false → IsNamed bytes values found → IsNamed bytes (values ++ value_if is value) found
named_other bytes values found is value other named =
    subst (λ t. IsNamed bytes t found) (sym (ap (λ v. values ++ v) (cond-false is (value ∷ []) [] other) ∙ append-nil values)) named

-- the first one
pub named_first : (bytes : List ℕ) (values : List (List ℕ)) (is : Bool) (span : Span) → is ≡ true → values ≡ [] → values ++ value_if is (span_bytes bytes span) ≡ span_bytes bytes span ∷ []
named_first bytes values is span this none =
    ap (λ t. t ++ value_if is (span_bytes bytes span)) none ∙ cond-true is (span_bytes bytes span ∷ []) [] this

-- one behind others
pub named_several : (bytes : List ℕ) (values : List (List ℕ)) (found : Named) (is : Bool) (value : List ℕ) → is ≡ true → IsNamed bytes values found → found ≢ named.None
    → 1 < length (values ++ value_if is value)
named_several bytes values named.None is value this named other = absurd (other refl)
named_several bytes values (named.One span) is value this named other =
    omega (arith, ap length named, length-append values (value_if is value), ap length (cond-true is (value ∷ []) [] this))
named_several bytes values named.Several is value this named other =
    omega (arith, named, length-append values (value_if is value))

-- ---- the length by both

pub missing_if_several : (bytes : List ℕ) (texts others : List (List ℕ)) (lengths : Named) → IsNamed bytes texts lengths → ((span : Span) → lengths ≢ named.One span) → Missing ≡ length_by_values texts others
missing_if_several bytes [] others lengths named many = refl
missing_if_several bytes (text ∷ other ∷ texts) others lengths named many = refl
missing_if_several bytes (text ∷ []) others named.None named many = absurd (omega (arith, ap length named))
missing_if_several bytes (text ∷ []) others (named.One span) named many = absurd (many span refl)
missing_if_several bytes (text ∷ []) others named.Several named many = absurd (omega (arith, named))

pub missing_if_coded : (bytes : List ℕ) (texts others : List (List ℕ)) (codings : Named) → IsNamed bytes others codings → codings ≢ named.None → Missing ≡ length_by_values texts others
missing_if_coded bytes [] others codings named some = refl
missing_if_coded bytes (text ∷ other ∷ texts) others codings named some = refl
missing_if_coded bytes (text ∷ []) (coding ∷ others) codings named some = refl
missing_if_coded bytes (text ∷ []) [] named.None named some = absurd (some refl)
missing_if_coded bytes (text ∷ []) [] (named.One span) named some = absurd (omega (arith, ap length named))
missing_if_coded bytes (text ∷ []) [] named.Several named some = absurd (omega (arith, named))

pub stated_length : (texts others : List (List ℕ)) (value : List ℕ) (length : BodyLength) → texts ≡ value ∷ [] → others ≡ [] → length ≡ length_of value → length ≡ length_by_values texts others
stated_length texts others value length one none is =
    is ∙ sym (ap (λ t. length_by_values t others) one ∙ ap (λ t. length_by_values (value ∷ []) t) none)
