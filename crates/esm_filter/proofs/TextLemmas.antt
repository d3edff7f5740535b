-- Criteria judge as the texts that they were read from.
use Rattle.std.proofs.Common.{◌≡◌, ℕ, List, [], ◌∷◌, Bool, ◌||◌, Result, Ok, Err, IfOk, refl, ap, sym, ◌∙◌}
use Rattle.std.specs.List.{list_any}
use Rattle.serde_json.specs.Read.{read}
use Rattle.esm_model.specs.Json.{read_json}
use Rattle.esm_model.specs.Valid.{is_stream}
use Rattle.esm_model.specs.Filter.{Seen, fields_pass, patterns_pass, read_passes, texts_pass, in_record, in_message, passes, passes_message}
use Rattle.esm_model.specs.Pattern.{Fields, Refusal, Reads, read_pattern, read_patterns, with_first}
use Rattle.esm_model.specs.declared.config.Kind.{Kind}
use Rattle.esm_filter.specs.Criteria.{IsRead, patterns_of, JudgesRecords, JudgesMessages}
use Rattle.esm_filter.specs.declared.criteria.Criteria.{Criteria}
use Rattle.esm_filter.specs.declared.error.FilterError.{FilterError}

abbrev All : Type 0
All = Result (List Fields) (ℕ × Refusal)

record Parts (o : Reads Fields) (r : All) (ps : List Fields) : Type 0 where
  p : Fields
  qs : List Fields
  one : o ≡ Ok p
  others : r ≡ Ok qs
  all : ps ≡ p ∷ qs

parts : (o : Reads Fields) (r : All) (ps : List Fields) → with_first o r ≡ Ok ps → Parts o r ps
parts (Err e) r ps h = absurd (cc)
parts (Ok p) (Err e) ps h = absurd (cc)
parts (Ok p) (Ok qs) ps h = let same : ps ≡ p ∷ qs = cc in record { p = p; qs = qs; one = refl; others = refl; all = same }

module _ (found : List ℕ → Seen) (s : Bool) where
  any_are : (ts : List (List ℕ)) (ps : List Fields) → read_patterns s ts ≡ Ok ps → list_any (λ fs. fields_pass fs found) ps ≡ list_any (λ t. read_passes found (read_pattern s t)) ts
  any_are [] ps h = let same : ps ≡ [] = cc in ap (list_any (λ fs. fields_pass fs found)) same
  any_are (t ∷ ts) ps h =
      let f = parts (read_pattern s t) (read_patterns s ts) ps h in
      ap (list_any (λ fs. fields_pass fs found)) f.all
      ∙ ap (λ b. fields_pass f.p found || b) (any_are ts f.qs f.others)
      ∙ ap (λ o. read_passes found o || list_any (λ u. read_passes found (read_pattern s u)) ts) (sym f.one)

  some_are : (t : List ℕ) (ts : List (List ℕ)) (ps : List Fields) → Parts (read_pattern s t) (read_patterns s ts) ps → patterns_pass ps found ≡ list_any (λ fs. fields_pass fs found) ps
  some_are t ts ps f = ap (λ qs. patterns_pass qs found) f.all ∙ ap (list_any (λ fs. fields_pass fs found)) (sym f.all)

  texts_are : (ts : List (List ℕ)) (ps : List Fields) → read_patterns s ts ≡ Ok ps → patterns_pass ps found ≡ texts_pass s ts found
  texts_are [] ps h = let same : ps ≡ [] = cc in ap (λ qs. patterns_pass qs found) same
  texts_are (t ∷ ts) ps h = some_are t ts ps (parts (read_pattern s t) (read_patterns s ts) ps h) ∙ any_are (t ∷ ts) ps h

pub judges_records : (kind : Kind) (ts : List (List ℕ)) (r : Result Criteria FilterError) → IsRead r (read_patterns (is_stream kind) ts) → IfOk r (λ c. JudgesRecords kind ts c)
unfolding passes
judges_records kind ts (Ok c) h = λ x stream. texts_are (in_record x (read_json x.payload)) (is_stream kind) ts (patterns_of c) h ∙ ap (λ b. texts_pass b ts (in_record x (read_json x.payload))) stream
judges_records kind ts (Err e) h = tt

pub judges_messages : (kind : Kind) (ts : List (List ℕ)) (r : Result Criteria FilterError) → IsRead r (read_patterns (is_stream kind) ts) → IfOk r (λ c. JudgesMessages kind ts c)
unfolding passes_message
judges_messages kind ts (Ok c) h = λ m queue. texts_are (in_message m (read m.body)) (is_stream kind) ts (patterns_of c) h ∙ ap (λ b. texts_pass b ts (in_message m (read m.body))) queue
judges_messages kind ts (Err e) h = tt
