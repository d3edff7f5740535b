-- What a record's own fields decide holds whatever its data is.
use Rattle.std.proofs.Common.{◌≡◌, ℕ, List, [], ◌∷◌, codes, Bool, true, false, true≢false, if◌then◌else◌, ◌&&◌, ◌||◌, Option, Some, None, bytes_eq, refl, sym, ap, ap₂, ◌∙◌}
use Rattle.std.specs.List.{list_any}
use Rattle.serde_json.specs.Data.{Data}
use Rattle.esm_model.specs.Filter.{Seen, plain, in_object, json_members, record_field, in_record, rule_passes, fields_pass, one_passes, patterns_pass}
use Rattle.esm_model.specs.Leaves.{some_passes, tests_pass}
use Rattle.esm_model.specs.Pattern.{Rule, tests, nested, one_of, Fields, no_fields, field, Choices, no_choices, choice}
use Rattle.esm_model.specs.Records.{Record}
use Rattle.esm_filter.specs.Own.{decided_by_own, rule_may_pass, fields_may_pass, one_may_pass}

or_parts : (a b : Bool) → (a || b) ≡ false → (a ≡ false) × (b ≡ false)
or_parts true b no' = absurd (true≢false no')
or_parts false b no' = (refl, no')

or_refused : (a b c d : Bool) → (a || b) ≡ false → (a ≡ false → c ≡ false) → (b ≡ false → d ≡ false) → (c || d) ≡ false
or_refused a b c d no' f g = let p = or_parts a b no' in ap₂ (λ x y. x || y) (f p.0) (g p.1)

and_no : (c : Bool) → (c && false) ≡ false
and_no true = refl
and_no false = refl

and_refused : (a b c d : Bool) → (a && b) ≡ false → (a ≡ false → c ≡ false) → (b ≡ false → d ≡ false) → (c && d) ≡ false
and_refused true b c d no' f g = ap (λ x. c && x) (g no') ∙ and_no c
and_refused false b c d no' f g = ap (λ x. x && d) (f refl)

or_yes : (c : Bool) → (c || true) ≡ true
or_yes true = refl
or_yes false = refl

or_accepted : (a b c d : Bool) → (a || b) ≡ true → (a ≡ true → c ≡ true) → (b ≡ true → d ≡ true) → (c || d) ≡ true
or_accepted true b c d holds f g = ap (λ x. x || d) (f refl)
or_accepted false b c d holds f g = ap (λ x. c || x) (g holds) ∙ or_yes c

and_accepted : (a b c d : Bool) → (a && b) ≡ true → (a ≡ true → c ≡ true) → (b ≡ true → d ≡ true) → (c && d) ≡ true
and_accepted true b c d holds f g = ap₂ (λ x y. x && y) (f refl) (g holds)
and_accepted false b c d holds f g = absurd (true≢false (sym holds))

module _ (x : Record) (json : Option Data) where
  abbrev seen_at : Option Data → List ℕ → Bool → Seen
  seen_at o key b = if b then record { leaves = None; members = json_members o } else plain (record_field x key)

  elsewhere : (key : List ℕ) → bytes_eq key (codes "data") ≡ false → in_record x json key ≡ in_record x None key
  elsewhere key other = ap (seen_at json key) other ∙ sym (ap (seen_at None key) other)

  leaves_at : (key : List ℕ) (b : Bool) → (seen_at json key b).leaves ≡ (seen_at None key b).leaves
  leaves_at key true = refl
  leaves_at key false = refl

  nested_at : (fs : Fields) (key : List ℕ) (b : Bool) → some_passes (λ ms. fields_pass fs (in_object ms)) (seen_at None key b).members ≡ true → some_passes (λ ms. fields_pass fs (in_object ms)) (seen_at json key b).members ≡ true
  nested_at fs key true holds = absurd (true≢false (sym holds))
  nested_at fs key false holds = holds

  mutual
    rule_refused : (r : Rule) (key : List ℕ) → rule_may_pass r key (in_record x None) ≡ false → rule_passes r key (in_record x json) ≡ false
    rule_refused (tests ts) key no' =
        let p = or_parts (bytes_eq key (codes "data")) (rule_passes (tests ts) key (in_record x None)) no' in
        ap (λ (s : Seen). some_passes (tests_pass ts) s.leaves) (elsewhere key p.0) ∙ p.1
    rule_refused (nested fs) key no' =
        let p = or_parts (bytes_eq key (codes "data")) (rule_passes (nested fs) key (in_record x None)) no' in
        ap (λ (s : Seen). some_passes (λ ms. fields_pass fs (in_object ms)) s.members) (elsewhere key p.0) ∙ p.1
    rule_refused (one_of cs) key no' = one_refused cs no'

    fields_refused : (fs : Fields) → fields_may_pass fs (in_record x None) ≡ false → fields_pass fs (in_record x json) ≡ false
    fields_refused no_fields no' = no'
    fields_refused (field key r fs) no' =
        and_refused (rule_may_pass r key (in_record x None)) (fields_may_pass fs (in_record x None)) (rule_passes r key (in_record x json)) (fields_pass fs (in_record x json)) no' (rule_refused r key) (fields_refused fs)

    one_refused : (cs : Choices) → one_may_pass cs (in_record x None) ≡ false → one_passes cs (in_record x json) ≡ false
    one_refused no_choices no' = refl
    one_refused (choice fs cs) no' =
        or_refused (fields_may_pass fs (in_record x None)) (one_may_pass cs (in_record x None)) (fields_pass fs (in_record x json)) (one_passes cs (in_record x json)) no' (fields_refused fs) (one_refused cs)

  mutual
    rule_accepted : (r : Rule) (key : List ℕ) → rule_passes r key (in_record x None) ≡ true → rule_passes r key (in_record x json) ≡ true
    rule_accepted (tests ts) key holds = ap (some_passes (tests_pass ts)) (leaves_at key (bytes_eq key (codes "data"))) ∙ holds
    rule_accepted (nested fs) key holds = nested_at fs key (bytes_eq key (codes "data")) holds
    rule_accepted (one_of cs) key holds = one_accepted cs holds

    fields_accepted : (fs : Fields) → fields_pass fs (in_record x None) ≡ true → fields_pass fs (in_record x json) ≡ true
    fields_accepted no_fields holds = refl
    fields_accepted (field key r fs) holds =
        and_accepted (rule_passes r key (in_record x None)) (fields_pass fs (in_record x None)) (rule_passes r key (in_record x json)) (fields_pass fs (in_record x json)) holds (rule_accepted r key) (fields_accepted fs)

    one_accepted : (cs : Choices) → one_passes cs (in_record x None) ≡ true → one_passes cs (in_record x json) ≡ true
    one_accepted no_choices holds = holds
    one_accepted (choice fs cs) holds =
        or_accepted (fields_pass fs (in_record x None)) (one_passes cs (in_record x None)) (fields_pass fs (in_record x json)) (one_passes cs (in_record x json)) holds (fields_accepted fs) (one_accepted cs)

  any_refused : (ps : List Fields) → list_any (λ fs. fields_may_pass fs (in_record x None)) ps ≡ false → list_any (λ fs. fields_pass fs (in_record x json)) ps ≡ false
  any_refused [] no' = refl
  any_refused (p ∷ ps) no' =
      or_refused (fields_may_pass p (in_record x None)) (list_any (λ fs. fields_may_pass fs (in_record x None)) ps) (fields_pass p (in_record x json)) (list_any (λ fs. fields_pass fs (in_record x json)) ps) no' (fields_refused p) (any_refused ps)

  any_accepted : (ps : List Fields) → list_any (λ fs. fields_pass fs (in_record x None)) ps ≡ true → list_any (λ fs. fields_pass fs (in_record x json)) ps ≡ true
  any_accepted [] holds = holds
  any_accepted (p ∷ ps) holds =
      or_accepted (fields_pass p (in_record x None)) (list_any (λ fs. fields_pass fs (in_record x None)) ps) (fields_pass p (in_record x json)) (list_any (λ fs. fields_pass fs (in_record x json)) ps) holds (fields_accepted p) (any_accepted ps)

  pub patterns_accepted : (ps : List Fields) → patterns_pass ps (in_record x None) ≡ true → patterns_pass ps (in_record x json) ≡ true
  patterns_accepted [] holds = refl
  patterns_accepted (p ∷ ps) holds = any_accepted (p ∷ ps) holds

  pub patterns_refused : (ps : List Fields) → patterns_pass ps (in_record x None) ≡ false → list_any (λ fs. fields_may_pass fs (in_record x None)) ps ≡ false → patterns_pass ps (in_record x json) ≡ false
  patterns_refused [] fails no' = absurd (true≢false fails)
  patterns_refused (p ∷ ps) fails no' = any_refused (p ∷ ps) no'

-- ---- the answer, at each way out

abbrev answer : Bool → Bool → Option Bool
answer passes may_pass = if passes then Some true else (if may_pass then None else Some false)

module _ (ps : List Fields) (x : Record) where
  abbrev passes_alone : Bool
  passes_alone = patterns_pass ps (in_record x None)

  abbrev may_pass_alone : Bool
  may_pass_alone = list_any (λ fs. fields_may_pass fs (in_record x None)) ps

  pub own_passes : passes_alone ≡ true → Some true ≡ decided_by_own ps x
  own_passes holds = sym (ap (λ (a : Bool). answer a may_pass_alone) holds)

  pub own_refused : passes_alone ≡ false → may_pass_alone ≡ false → Some false ≡ decided_by_own ps x
  own_refused fails no' = sym (ap₂ answer fails no')

  pub own_waits : passes_alone ≡ false → may_pass_alone ≡ true → None ≡ decided_by_own ps x
  own_waits fails may_pass = sym (ap₂ answer fails may_pass)
