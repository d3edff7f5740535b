-- How an answer is read, by what it lists.
use Rattle.std.proofs.Common.{◌≡◌, ℕ, ◌+◌, List, [], ◌∷◌, ◌++◌, length, filter, Bool, true, false, if◌then◌else◌, Option, Some, None, refl, ap, ◌∙◌, sym, arith, add-one, append-nil, codes}
use Rattle.std.specs.Option.{option_and_then}
use Rattle.std.proofs.lemmas.List.Elements.{filter-append}
use Rattle.serde_json.specs.Data.{Data, null, boolean, number, string, array, object, Items, no_items}
use Rattle.serde_json.specs.Find.{get_member}
use Rattle.serde_json.specs.View.{items_view}
use Rattle.serde_json.specs.declared.value.Value.{Value}
use Rattle.esm_model.specs.Json.{read_json}
use Rattle.esm_model.specs.Entries.{holds}
use Rattle.esm_model.specs.Fates.{below}
use Rattle.esm_model.specs.QueueReading.{reported_reading, queue_failures_reading, queue_body_reading, queue_item_reading}
use Rattle.esm_model.specs.Reading.{all_reported, least_reading, failures_reading, body_reading, item_reading}
use Rattle.esm_model.specs.declared.verdict.Reading.TheVariants as reading
use Rattle.esm_model.specs.declared.verdict.QueueReading.TheVariants as queue
use Rattle.esm_verdict.specs.Reported.{listed, listed_at}

-- ---- a stream's

by_failures : (ids : List (List ℕ)) (value : Option Data) → failures_reading ids value ≡ least_reading (option_and_then (all_reported ids) (listed_at value))
by_failures ids None = refl
by_failures ids (Some null) = refl
by_failures ids (Some (boolean b)) = refl
by_failures ids (Some (number n)) = refl
by_failures ids (Some (string s)) = refl
by_failures ids (Some (array ds)) = refl
by_failures ids (Some (object ms)) = refl

by_listed : (ids : List (List ℕ)) (answer : Data) → body_reading ids (Some answer) ≡ least_reading (option_and_then (all_reported ids) (listed answer))
by_listed ids null = refl
by_listed ids (boolean b) = refl
by_listed ids (number n) = refl
by_listed ids (string s) = refl
by_listed ids (array ds) = refl
by_listed ids (object ms) = by_failures ids (get_member (codes "batchItemFailures") ms)

-- the answer lists these failures
pub reads_listed : (ids : List (List ℕ)) (answer : Data) (failures : Items) (found : Option (List ℕ)) → Some failures ≡ listed answer → found ≡ all_reported ids failures → least_reading found ≡ body_reading ids (Some answer)
reads_listed ids answer failures found lists finds =
    ap least_reading (finds ∙ ap (option_and_then (all_reported ids)) lists) ∙ sym (by_listed ids answer)

pub empty_item_reading : (ids : List (List ℕ)) (body : List ℕ) → length body ≡ 0 → item_reading ids body ≡ reading.Whole
unfolding item_reading
empty_item_reading ids [] none = refl
empty_item_reading ids (x ∷ xs) none = absurd (omega arith)

pub some_item_reading : (ids : List (List ℕ)) (body : List ℕ) → (length body ≡ 0 → ⊥) → item_reading ids body ≡ body_reading ids (read_json body)
unfolding item_reading
some_item_reading ids [] some = absurd (some refl)
some_item_reading ids (x ∷ xs) some = refl

-- ---- a queue's

none_hold : (is : List ℕ) → filter (holds []) is ≡ []
none_hold [] = refl
none_hold (i ∷ is) = none_hold is

no_failed : (ids : List (List ℕ)) → reported_reading ids (Some []) ≡ queue.Done []
no_failed ids = ap queue.Done (none_hold (below (length ids)))

by_queue_failures : (ids : List (List ℕ)) (value : Option Data) → queue_failures_reading ids value ≡ reported_reading ids (option_and_then (all_reported ids) (listed_at value))
by_queue_failures ids None = sym (no_failed ids)
by_queue_failures ids (Some null) = sym (no_failed ids)
by_queue_failures ids (Some (boolean b)) = refl
by_queue_failures ids (Some (number n)) = refl
by_queue_failures ids (Some (string s)) = refl
by_queue_failures ids (Some (array ds)) = refl
by_queue_failures ids (Some (object ms)) = refl

by_queue_listed : (ids : List (List ℕ)) (answer : Data) → queue_body_reading ids (Some answer) ≡ reported_reading ids (option_and_then (all_reported ids) (listed answer))
by_queue_listed ids null = sym (no_failed ids)
by_queue_listed ids (boolean b) = refl
by_queue_listed ids (number n) = refl
by_queue_listed ids (string s) = refl
by_queue_listed ids (array ds) = refl
by_queue_listed ids (object ms) = by_queue_failures ids (get_member (codes "batchItemFailures") ms)

-- the answer lists these failures
pub reads_queue_listed : (ids : List (List ℕ)) (answer : Data) (failures : Items) (found : Option (List ℕ)) → Some failures ≡ listed answer → found ≡ all_reported ids failures → reported_reading ids found ≡ queue_body_reading ids (Some answer)
reads_queue_listed ids answer failures found lists finds =
    ap (reported_reading ids) (finds ∙ ap (option_and_then (all_reported ids)) lists) ∙ sym (by_queue_listed ids answer)

-- the answer lists no failure
pub reads_none_listed : (ids : List (List ℕ)) (answer : Data) (failures : List Value) → length failures ≡ 0 → Some (items_view failures) ≡ listed answer → queue_body_reading ids (Some answer) ≡ queue.Done []
reads_none_listed ids answer [] none lists = sym (reads_queue_listed ids answer no_items (Some []) lists refl) ∙ no_failed ids
reads_none_listed ids answer (v ∷ vs) none lists = absurd (omega arith)

pub empty_queue_reading : (ids : List (List ℕ)) (body : List ℕ) → length body ≡ 0 → queue_item_reading ids body ≡ queue.Done []
unfolding queue_item_reading
empty_queue_reading ids [] none = refl
empty_queue_reading ids (x ∷ xs) none = absurd (omega arith)

pub some_queue_reading : (ids : List (List ℕ)) (body : List ℕ) → (length body ≡ 0 → ⊥) → queue_item_reading ids body ≡ queue_body_reading ids (read_json body)
unfolding queue_item_reading
some_queue_reading ids [] some = absurd (some refl)
some_queue_reading ids (x ∷ xs) some = refl

-- ---- flagged positions

kept_or_not : (xs : List ℕ) (i : ℕ) (b : Bool) → xs ++ (if b then i ∷ [] else []) ≡ (if b then xs ++ i ∷ [] else xs)
kept_or_not xs i true = refl
kept_or_not xs i false = append-nil xs

pub next_below : (test : ℕ → Bool) (i : ℕ) → filter test (below (i + 1)) ≡ (if test i then filter test (below i) ++ i ∷ [] else filter test (below i))
next_below test i = ap (λ n. filter test (below n)) (add-one i) ∙ filter-append test (below i) (i ∷ []) ∙ kept_or_not (filter test (below i)) i (test i)
