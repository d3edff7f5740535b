-- Each call makes the pieces of a replay lighter, where a piece weighs one less than twice its records.
use Rattle.std.proofs.Common.{◌≡◌, ℕ, zero, suc, ◌+◌, ◌*◌, ◌-◌, ◌<◌, ◌≤◌, Bool, true, false, not, cond, ◌&&◌, ◌||◌, List, [], ◌∷◌, ◌++◌, length, take, drop, refl, sym, ap, ◌∙◌, inl, inr, arith, Option, Some, None}
use Rattle.std.specs.Prelude.{◌==◌, ◌/◌, nat_lt, min, codes}
use Rattle.std.specs.List.{fold}
use Rattle.std.proofs.Math.Seq.{drop-append_seam}
use Rattle.std.proofs.lemmas.List.{take-append-drop, length-append, length-drop}
use Rattle.std.proofs.lemmas.Bool.{cases_Bool, ltb-true}
use Rattle.serde_json.specs.Data.{Data, null, boolean, number, string, array, object}
use Rattle.serde_json.specs.Find.{get_member}
use Rattle.esm_model.specs.Json.{read_json}
use Rattle.esm_model.specs.declared.config.Config.{Config}
use Rattle.esm_model.specs.declared.entry.Reply.{Reply}
use Rattle.esm_model.specs.declared.entry.Reply.TheVariants.{Answered, Garbled, Lost}
use Rattle.esm_model.specs.declared.verdict.Reading.{Reading}
use Rattle.esm_model.specs.declared.verdict.Reading.TheVariants.{Whole, NotRun, Failed, UpTo}
use Rattle.esm_model.specs.declared.verdict.Rest.TheVariants.{Split}
use Rattle.esm_model.specs.declared.verdict.Verdict.{Verdict}
use Rattle.esm_model.specs.Reading.{reading_before, least_reading, all_reported, failures_reading, body_reading, item_reading, has_bad_state, run_reading, reading}
use Rattle.esm_model.specs.Ruling.{after_try, ruling}
use Rattle.esm_replay_model.specs.Pieces.{ReplayPiece, ahead, split_ahead}
use Rattle.esm_replay_model.specs.ReplayReport.{records_in}

-- a reading that counts records before a position counts some

abbrev pub CountsSome : Reading → Type 0
CountsSome (UpTo p) = 1 ≤ p
CountsSome Whole = Unit {0}
CountsSome NotRun = Unit {0}
CountsSome Failed = Unit {0}

before_counts : (p : ℕ) → CountsSome (reading_before p)
before_counts zero = tt
before_counts (suc p) = omega arith

least_counts : (o : Option (List ℕ)) → CountsSome (least_reading o)
least_counts None = tt
least_counts (Some []) = tt
least_counts (Some (p ∷ ps)) = before_counts (fold min p ps)

failures_count : (ids : List (List ℕ)) (value : Option Data) → CountsSome (failures_reading ids value)
failures_count ids None = tt
failures_count ids (Some null) = tt
failures_count ids (Some (boolean b)) = tt
failures_count ids (Some (number n)) = tt
failures_count ids (Some (string s)) = tt
failures_count ids (Some (array ds)) = least_counts (all_reported ids ds)
failures_count ids (Some (object ms)) = tt

body_counts : (ids : List (List ℕ)) (d : Option Data) → CountsSome (body_reading ids d)
body_counts ids None = tt
body_counts ids (Some null) = tt
body_counts ids (Some (boolean b)) = tt
body_counts ids (Some (number n)) = tt
body_counts ids (Some (string s)) = tt
body_counts ids (Some (array ds)) = tt
body_counts ids (Some (object ms)) = failures_count ids (get_member (codes "batchItemFailures") ms)

item_counts : (ids : List (List ℕ)) (body : List ℕ) → CountsSome (item_reading ids body)
unfolding item_reading
item_counts ids [] = tt
item_counts ids (x ∷ xs) = body_counts ids (read_json (x ∷ xs))

either_counts : (b : Bool) (r q : Reading) → CountsSome r → CountsSome q → CountsSome (cond b r q)
either_counts true r q here there = here
either_counts false r q here there = there

pub reading_counts : (c : Config) (ids : List (List ℕ)) (closing : Bool) (reply : Reply) → CountsSome (reading c ids closing reply)
reading_counts c ids closing Lost = tt
reading_counts c ids closing (Garbled bytes) = tt
reading_counts c ids closing (Answered status error body) =
    either_counts (not (status == 200)) NotRun (cond error Failed (run_reading c ids closing body)) tt
    (either_counts error Failed (run_reading c ids closing body) tt
    (either_counts (has_bad_state c body) Failed (cond (not c.item_failures || closing) Whole (item_reading ids body)) tt
    (either_counts (not c.item_failures || closing) Whole (item_reading ids body) tt (item_counts ids body))))

-- weights

abbrev pub weight : List ReplayPiece → ℕ
weight [] = 0
weight (p ∷ others) = (2 * length p.places - 1) + weight others

weight-ahead : (n : ℕ) (places : List ℕ) (others : List ReplayPiece) → weight (ahead n places others) ≡ (2 * length places - 1) + weight others
weight-ahead n [] others = omega arith
weight-ahead n (x ∷ places) others = refl

length-cut : (k : ℕ) (xs : List ℕ) → length (take k xs) + length (drop k xs) ≡ length xs
length-cut k xs = sym (length-append (take k xs) (drop k xs)) ∙ ap length (take-append-drop k xs)

weight-split : (k n : ℕ) (remaining : List ℕ) (others : List ReplayPiece) →
    weight (ahead n (take k remaining) (ahead n (drop k remaining) others)) ≡ (2 * length (take k remaining) - 1) + ((2 * length (drop k remaining) - 1) + weight others)
weight-split k n remaining others = weight-ahead n (take k remaining) (ahead n (drop k remaining) others) ∙ ap (λ w. (2 * length (take k remaining) - 1) + w) (weight-ahead n (drop k remaining) others)

-- what is called again of a batch is lighter than twice the batch by two
abbrev IsLighter : Verdict → ℕ → List ℕ → List ReplayPiece → Type 0
IsLighter v n batch others = weight (split_ahead v.rest n (drop v.succeeded batch) others) + 2 ≤ 2 * length batch + weight others

tried_lighter : (retries : Option ℕ) (n : ℕ) (k : ℕ) (batch : List ℕ) (others : List ReplayPiece) → 1 ≤ length batch →
    weight (split_ahead (after_try retries 0) n (drop k batch) others) + 2 ≤ 2 * length batch + weight others
tried_lighter None n k batch others some = omega arith
tried_lighter (Some r) n k batch others some = elim (cases_Bool (nat_lt r (0 + 1))) [ inl is ↦ rw is (omega arith) | inr fails ↦ rw fails (omega arith) ]

halves_lighter : (n k : ℕ) (batch : List ℕ) (others : List ReplayPiece) → 1 ≤ k → k < length batch →
    weight (split_ahead (Split k) n (drop 0 batch) others) + 2 ≤ 2 * length batch + weight others
halves_lighter n k batch others low high =
    let weights = weight-split k n batch others in
    let both : length (take k batch) + length (drop k batch) ≡ length batch = length-cut k batch in
    let back : length (drop k batch) ≡ length batch - k = length-drop k batch in
    omega arith

rest_lighter : (n k p : ℕ) (batch : List ℕ) (others : List ReplayPiece) → 1 ≤ length batch → 1 ≤ p →
    weight (split_ahead (Split k) n (drop p batch) others) + 2 ≤ 2 * length batch + weight others
rest_lighter n k p batch others some low =
    let weights = weight-split k n (drop p batch) others in
    let both : length (take k (drop p batch)) + length (drop k (drop p batch)) ≡ length (drop p batch) = length-cut k (drop p batch) in
    let back : length (drop p batch) ≡ length batch - p = length-drop p batch in
    omega arith

half_within : (b : ℕ) → 1 < b → (1 ≤ b - b / 2) × (b - b / 2 < b)
half_within b l = (omega arith, omega arith)

failed_lighter : (c : Config) (n : ℕ) (batch : List ℕ) (others : List ReplayPiece) → 1 ≤ length batch → IsLighter (ruling c (length batch) 0 Failed) n batch others
failed_lighter c n batch others some =
    elim (cases_Bool (c.bisect && nat_lt 1 (length batch))) [
      | inl is ↦ rw is
          (let long : 1 < length batch = longer c.bisect (length batch) is in
          let within = half_within (length batch) long in
          halves_lighter n (length batch - length batch / 2) batch others within.0 within.1)
      | inr fails ↦ rw fails (tried_lighter c.retries n 0 batch others some)
    ]
  where
    longer : (b : Bool) (m : ℕ) → (b && nat_lt 1 m) ≡ true → 1 < m
    longer true m is = ltb-true 1 m is
    longer false m is = cc

ruled_lighter : (c : Config) (n : ℕ) (batch : List ℕ) (others : List ReplayPiece) (r : Reading) → 1 ≤ length batch → CountsSome r → IsLighter (ruling c (length batch) 0 r) n batch others
ruled_lighter c n batch others Whole some counts = omega arith
ruled_lighter c n batch others NotRun some counts = omega arith
ruled_lighter c n batch others Failed some counts = failed_lighter c n batch others some
ruled_lighter c n batch others (UpTo p) some counts =
    elim (cases_Bool c.bisect) [
      | inl is ↦ rw is (rest_lighter n (length batch - p) p batch others some counts)
      | inr fails ↦ rw fails (tried_lighter c.retries n p batch others some)
    ]

-- the end of a call of the front of the first piece makes the pieces lighter
pub lighter : (c : Config) (n : ℕ) (batch back : List ℕ) (others : List ReplayPiece) (r : Reading) → 1 ≤ length batch → CountsSome r →
    weight (split_ahead (ruling c (length batch) 0 r).rest n (drop (ruling c (length batch) 0 r).succeeded batch) (ahead n (drop (length batch) (batch ++ back)) others)) + 1 ≤ (2 * length (batch ++ back) - 1) + weight others
lighter c n batch back others r some counts =
    rw (drop-append_seam batch back)
    (let less : weight (split_ahead (ruling c (length batch) 0 r).rest n (drop (ruling c (length batch) 0 r).succeeded batch) (ahead n back others)) + 2 ≤ 2 * length batch + weight (ahead n back others) = ruled_lighter c n batch (ahead n back others) r some counts in
    let behind : weight (ahead n back others) ≡ (2 * length back - 1) + weight others = weight-ahead n back others in
    let long : length (batch ++ back) ≡ length batch + length back = length-append batch back in
    omega arith)

-- the first list weighs at most twice its records
pub weight_within : (ps : List ReplayPiece) → weight ps ≤ 2 * records_in ps
weight_within [] = omega arith
weight_within (p ∷ others) = let behind : weight others ≤ 2 * records_in others = weight_within others in omega arith
