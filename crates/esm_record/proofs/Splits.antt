-- The lines of bytes that go on.
use Rattle.std.proofs.Common.{◌≡◌, ℕ, ◌+◌, Bool, true, false, cond, ltb, List, [], ◌∷◌, ◌++◌, length, refl, sym, ap, ◌∙◌, append_assoc, arith}
use Rattle.std.specs.List.{onto_first}
use Rattle.std.proofs.lemmas.List.{append-nil}
use Rattle.std.proofs.lemmas.List.Splits.{slice_split_none, slice_split_at}
use Rattle.esm_record.specs.Input.{is_line_feed, lines_of, ended, begun, too_long}
use Rattle.esm_record.specs.LineBlocks.{NoLineFeed}

-- what has begun goes on with the first part
abbrev pub follow : List ℕ → List (List ℕ) → List (List ℕ)
follow front [] = front ∷ []
follow front (part ∷ parts) = (front ++ part) ∷ parts

abbrev pub HasFirst : List (List ℕ) → Type 0
HasFirst parts = (part : List ℕ) × (others : List (List ℕ)) × (parts ≡ part ∷ others)

first_either : (b : Bool) (x : ℕ) (parts : List (List ℕ)) → HasFirst (cond b ([] ∷ parts) (onto_first x parts))
first_either true x parts = ([], parts, refl)
first_either false x [] = (x ∷ [], [], refl)
first_either false x (part ∷ parts) = (x ∷ part, parts, refl)

-- bytes have at least one line, which may be empty
pub first_line : (bytes : List ℕ) → HasFirst (lines_of bytes)
first_line [] = ([], [], refl)
first_line (x ∷ bytes) = first_either (is_line_feed x) x (lines_of bytes)

pub follow_nil : (parts : List (List ℕ)) → HasFirst parts → parts ≡ follow [] parts
follow_nil parts (part, others, e) = e ∙ ap (follow []) (sym e)

one_more : (b : Bool) (x : ℕ) (p : List ℕ) (ps next : List (List ℕ)) → cond b ([] ∷ (ended (p ∷ ps) ++ follow (begun (p ∷ ps)) next)) (onto_first x (ended (p ∷ ps) ++ follow (begun (p ∷ ps)) next)) ≡ ended (cond b ([] ∷ p ∷ ps) (onto_first x (p ∷ ps))) ++ follow (begun (cond b ([] ∷ p ∷ ps) (onto_first x (p ∷ ps)))) next
one_more true x p ps next = refl
one_more false x p [] [] = refl
one_more false x p [] (q ∷ qs) = refl
one_more false x p (p2 ∷ ps) next = refl

one_more_of : (b : Bool) (x : ℕ) (parts next : List (List ℕ)) → HasFirst parts → cond b ([] ∷ (ended parts ++ follow (begun parts) next)) (onto_first x (ended parts ++ follow (begun parts) next)) ≡ ended (cond b ([] ∷ parts) (onto_first x parts)) ++ follow (begun (cond b ([] ∷ parts) (onto_first x parts))) next
one_more_of b x parts next (p, ps, e) = rw e (one_more b x p ps next)

-- the lines of bytes that go on with others
pub lines_of-append : (xs ys : List ℕ) → lines_of (xs ++ ys) ≡ ended (lines_of xs) ++ follow (begun (lines_of xs)) (lines_of ys)
lines_of-append [] ys = follow_nil (lines_of ys) (first_line ys)
lines_of-append (x ∷ xs) ys =
    ap (λ (parts : List (List ℕ)). cond (is_line_feed x) ([] ∷ parts) (onto_first x parts)) (lines_of-append xs ys)
    ∙ one_more_of (is_line_feed x) x (lines_of xs) (lines_of ys) (first_line xs)

pub ended-append : (ls : List (List ℕ)) (p : List ℕ) (ps : List (List ℕ)) → ended (ls ++ p ∷ ps) ≡ ls ++ ended (p ∷ ps)
ended-append [] p ps = refl
ended-append (l ∷ []) p ps = refl
ended-append (l ∷ m ∷ ls) p ps = ap (λ (xs : List (List ℕ)). l ∷ xs) (ended-append (m ∷ ls) p ps)

pub begun-append : (ls : List (List ℕ)) (p : List ℕ) (ps : List (List ℕ)) → begun (ls ++ p ∷ ps) ≡ begun (p ∷ ps)
begun-append [] p ps = refl
begun-append (l ∷ []) p ps = refl
begun-append (l ∷ m ∷ ls) p ps = begun-append (m ∷ ls) p ps

-- all parts: those that ended, and the last
pub ended_begun : (p : List ℕ) (ps : List (List ℕ)) → p ∷ ps ≡ ended (p ∷ ps) ++ begun (p ∷ ps) ∷ []
ended_begun p [] = refl
ended_begun p (q ∷ ps) = ap (λ (xs : List (List ℕ)). p ∷ xs) (ended_begun q ps)

pub lines_are : (bytes : List ℕ) → lines_of bytes ≡ ended (lines_of bytes) ++ begun (lines_of bytes) ∷ []
lines_are bytes = let (p, ps, e) = first_line bytes in rw e (ended_begun p ps)

-- bytes without a line feed go on with the line that has begun
lines_in_line : (bytes more : List ℕ) → NoLineFeed more → lines_of (bytes ++ more) ≡ ended (lines_of bytes) ++ (begun (lines_of bytes) ++ more) ∷ []
lines_in_line bytes more none = lines_of-append bytes more ∙ ap (λ (parts : List (List ℕ)). ended (lines_of bytes) ++ follow (begun (lines_of bytes)) parts) (slice_split_none is_line_feed more none)

pub ended_in_line : (bytes more : List ℕ) → NoLineFeed more → ended (lines_of (bytes ++ more)) ≡ ended (lines_of bytes)
ended_in_line bytes more none = ap ended (lines_in_line bytes more none) ∙ ended-append (ended (lines_of bytes)) (begun (lines_of bytes) ++ more) [] ∙ append-nil (ended (lines_of bytes))

pub begun_in_line : (bytes more : List ℕ) → NoLineFeed more → begun (lines_of (bytes ++ more)) ≡ begun (lines_of bytes) ++ more
begun_in_line bytes more none = ap begun (lines_in_line bytes more none) ∙ begun-append (ended (lines_of bytes)) (begun (lines_of bytes) ++ more) []

-- a line feed ends it
lines_at_end : (bytes more : List ℕ) → NoLineFeed more → lines_of (bytes ++ (more ++ 10 ∷ [])) ≡ ended (lines_of bytes) ++ (begun (lines_of bytes) ++ more) ∷ [] ∷ []
lines_at_end bytes more none = lines_of-append bytes (more ++ 10 ∷ []) ∙ ap (λ (parts : List (List ℕ)). ended (lines_of bytes) ++ follow (begun (lines_of bytes)) parts) (slice_split_at is_line_feed more 10 [] none refl)

pub ended_at_end : (bytes more : List ℕ) → NoLineFeed more → ended (lines_of (bytes ++ (more ++ 10 ∷ []))) ≡ ended (lines_of bytes) ++ (begun (lines_of bytes) ++ more) ∷ []
ended_at_end bytes more none = ap ended (lines_at_end bytes more none) ∙ ended-append (ended (lines_of bytes)) (begun (lines_of bytes) ++ more) ([] ∷ [])

pub begun_at_end : (bytes more : List ℕ) → NoLineFeed more → begun (lines_of (bytes ++ (more ++ 10 ∷ []))) ≡ []
begun_at_end bytes more none = ap begun (lines_at_end bytes more none) ∙ begun-append (ended (lines_of bytes)) (begun (lines_of bytes) ++ more) ([] ∷ [])

-- the lines that are settled: they ended, or the last is too long
abbrev pub settled : List (List ℕ) → List (List ℕ)
settled parts = ended parts ++ too_long (begun parts)

settled-append : (ls : List (List ℕ)) (p : List ℕ) (ps : List (List ℕ)) → settled (ls ++ p ∷ ps) ≡ ls ++ settled (p ∷ ps)
settled-append ls p ps = rw (ended-append ls p ps, begun-append ls p ps) (append_assoc ls (ended (p ∷ ps)) (too_long (begun (p ∷ ps))))

-- what follows a first part that is too long
abbrev pub after_first : List (List ℕ) → List (List ℕ)
after_first [] = []
after_first (p ∷ ps) = settled (p ∷ ps)

settled_first : (p : List ℕ) (ps : List (List ℕ)) → ltb 8388608 (length p) ≡ true → settled (p ∷ ps) ≡ p ∷ after_first ps
settled_first p [] long = rw long refl
settled_first p (q ∷ ps) long = refl

longer : (front part : List ℕ) → ltb 8388608 (length front) ≡ true → ltb 8388608 (length (front ++ part)) ≡ true
longer front part long = grind (arith, Rattle.std.proofs.lemmas.Bool.Decides.nat_tests, Rattle.std.proofs.Common.length-append)

-- bytes that go on: the settled lines of the first, less a long one, and then what the line that has begun became
abbrev pub GoesOn : List ℕ → List ℕ → Type 0
GoesOn bytes more = (part : List ℕ) × (others : List (List ℕ)) × (settled (lines_of (bytes ++ more)) ≡ ended (lines_of bytes) ++ settled ((begun (lines_of bytes) ++ part) ∷ others))

pub goes_on : (bytes more : List ℕ) → GoesOn bytes more
goes_on bytes more =
    let (part, others, e) = first_line more in
    (part, others, ap settled (lines_of-append bytes more ∙ ap (λ (parts : List (List ℕ)). ended (lines_of bytes) ++ follow (begun (lines_of bytes)) parts) e) ∙ settled-append (ended (lines_of bytes)) (begun (lines_of bytes) ++ part) others)

pub long_goes_on : (front part : List ℕ) (others : List (List ℕ)) → ltb 8388608 (length front) ≡ true → settled ((front ++ part) ∷ others) ≡ (front ++ part) ∷ after_first others
long_goes_on front part others long = settled_first (front ++ part) others (longer front part long)

pub still_long : (front part : List ℕ) → ltb 8388608 (length front) ≡ true → ltb 8388608 (length (front ++ part)) ≡ true
still_long front part long = longer front part long
