-- How long a failure line of a DynamoDB stream is.
use Rattle.std.proofs.Common.{◌≡◌, ℕ, suc, ◌+◌, ◌≤◌, arith, Bool, true, false, cond, refl, ap, List, [], ◌∷◌, ◌++◌, length, length-append, length-drop, take, drop, Option, Some, None, option_map}
use Rattle.std.specs.Prelude.{nat_eq, nat_lt}
use Rattle.std.specs.List.{starts_with}
use Rattle.std.proofs.lemmas.Bool.Decides.{Decides-eqb, nat_tests}
use Rattle.std.proofs.lemmas.List.{length-take}
use Rattle.std.proofs.lemmas.Slice.Eq.{starts_is}
use Rattle.esm_model.specs.declared.limits.TheConstants.{MAX_PAYLOAD}
use Rattle.esm_ddb.specs.FailureLine.{ddb_line, first_place, renamed_at, stream_part, table_part}

begins_within : (line part : List ℕ) → starts_with nat_eq line part ≡ true → length part ≤ length line
begins_within line part h =
    let is : line ≡ part ++ drop (length part) line = (starts_is Decides-eqb line part (starts_with nat_eq line part) refl).0 h in
    omega (arith, ap length is, length-append part (drop (length part) line))

inner : {X : Type 0} (a b : X) → Some a ≡ Some b → a ≡ b
inner a b h = cc

map_some : (o : Option ℕ) (at : ℕ) → option_map suc o ≡ Some at → (k : ℕ) × (o ≡ Some k) × (suc k ≡ at)
map_some None at h = absurd (cc)
map_some (Some k) at h = (k, refl, inner (suc k) at h)

place_by : (t : Bool) (part : List ℕ) (b : ℕ) (bytes : List ℕ) (at : ℕ) → starts_with nat_eq (b ∷ bytes) part ≡ t
    → ((k : ℕ) → first_place part bytes ≡ Some k → k + length part ≤ length bytes)
    → cond t (Some 0) (option_map suc (first_place part bytes)) ≡ Some at → at + length part ≤ length (b ∷ bytes)
place_by true part b bytes at e further h = let w = begins_within (b ∷ bytes) part e in let z = inner 0 at h in omega arith
place_by false part b bytes at e further h =
    let m = map_some (first_place part bytes) at h in
    let w = further m.0 m.1 in
    let s = m.2 in
    omega arith

pub place_within : (part line : List ℕ) (at : ℕ) → first_place part line ≡ Some at → at + length part ≤ length line
place_within part [] at h = absurd (cc)
place_within part (b ∷ bytes) at h = place_by (starts_with nat_eq (b ∷ bytes) part) part b bytes at refl (λ k e. place_within part bytes k e) h

renamed_size : (line : List ℕ) (at : ℕ) → at + 19 ≤ length line → length (renamed_at line (Some at)) ≡ length line + 2
renamed_size line at h =
    omega (arith, length-append (take at line) (table_part ++ drop (at + 19) line), length-append table_part (drop (at + 19) line), length-take at line, length-drop (at + 19) line)

renamed_by : (line : List ℕ) (o : Option ℕ) → first_place stream_part line ≡ o → length (renamed_at line o) ≤ length line + 2
renamed_by line None e = omega arith
renamed_by line (Some at) e = let s = renamed_size line at (place_within stream_part line at e) in omega arith

size_by : (b : Bool) (line renamed : List ℕ) → length renamed ≤ length line + 2 → length (cond b line renamed) ≤ length line + 2
size_by true line renamed h = omega arith
size_by false line renamed h = h

pub ddb_line_size : (line : List ℕ) → length (ddb_line line) ≤ length line + 2
unfolding ddb_line
ddb_line_size line =
    size_by (nat_lt MAX_PAYLOAD (length line + 2)) line (renamed_at line (first_place stream_part line)) (renamed_by line (first_place stream_part line) refl)

short_by : (b : Bool) (line renamed : List ℕ) → nat_lt MAX_PAYLOAD (length line + 2) ≡ b → length renamed ≤ length line + 2 → length line ≤ MAX_PAYLOAD → length (cond b line renamed) ≤ MAX_PAYLOAD
short_by true line renamed e h short = short
short_by false line renamed e h short = grind (arith, nat_tests)

pub ddb_line_short : (line : List ℕ) → length line ≤ MAX_PAYLOAD → length (ddb_line line) ≤ MAX_PAYLOAD
unfolding ddb_line
ddb_line_short line short =
    short_by (nat_lt MAX_PAYLOAD (length line + 2)) line (renamed_at line (first_place stream_part line)) refl (renamed_by line (first_place stream_part line) refl) short
