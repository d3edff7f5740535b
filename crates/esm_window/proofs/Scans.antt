-- One mark more, and one byte more, of a scan for the last member `state`.
use Rattle.std.proofs.Common.{◌≡◌, ℕ, ◌+◌, ◌<◌, List, [], ◌∷◌, length, drop, get_or, Bool, true, false, if◌then◌else◌, Option, Some, None, codes, refl, drop-cons, drop_of_length-le, add-one, arith, ◌≤◌, ◌++◌}
use Rattle.esm_window.specs.Marks.{pending, finds, AreBefore, IsBefore}
use Rattle.esm_window.specs.declared.marks.Marks.{Marks}
use Rattle.esm_window.specs.declared.marks.Marks.TheVariants.{Nothing, Opened, Keyed}
use Rattle.esm_window.specs.declared.marks.Scan.{Scan}
use Rattle.std.specs.Option.{option_or, IfSome}
use Rattle.esm_model.specs.Json.{read_json}
use Rattle.esm_window.specs.Scan.{Part, is_mark, part_after, depth_after, marks, is_text, between, last_state}

or_inner : {X : Type 0} (rest : Option X) (b : Bool) (this found : Option X) → option_or (option_or rest (if b then this else None)) found ≡ option_or rest (if b then option_or this found else found)
or_inner (Some x) b this found = refl
or_inner None true this found = refl
or_inner None false this found = refl

-- the end of a member whose key was read
pub member_ends : (text : List ℕ) (start colon place : ℕ) (found : Option (ℕ × ℕ)) (more : List ℕ) (b : Bool) → b ≡ is_text (codes "state") (read_json (between text start colon))
    → option_or (last_state text (start ∷ colon ∷ place ∷ more)) found ≡ option_or (last_state text (place ∷ more)) (if b then Some (colon, place) else found)
unfolding last_state
member_ends text start colon place found more b is =
    rw (← is) (or_inner (last_state text (place ∷ more)) b (Some (colon, place)) found)

-- the marks from the place on
pub marks_from : (text : List ℕ) (part : Part) (depth place : ℕ) → place < length text
    → marks part depth place (drop place text)
    ≡ (if is_mark part depth (get_or text place 0)
    then place ∷ marks (part_after part (get_or text place 0)) (depth_after part depth (get_or text place 0)) (place + 1) (drop (place + 1) text)
    else marks (part_after part (get_or text place 0)) (depth_after part depth (get_or text place 0)) (place + 1) (drop (place + 1) text))
unfolding marks
marks_from text part depth place below =
    let e : drop place text ≡ get_or text place 0 ∷ drop (place + 1) text = rw add-one (drop-cons text place 0 below) in
    rw e refl

pub marked : (text : List ℕ) (part : Part) (depth place : ℕ) → place < length text → is_mark part depth (get_or text place 0) ≡ true
    → marks part depth place (drop place text) ≡ place ∷ marks (part_after part (get_or text place 0)) (depth_after part depth (get_or text place 0)) (place + 1) (drop (place + 1) text)
marked text part depth place below is = rw is at (marks_from text part depth place below)

pub unmarked : (text : List ℕ) (part : Part) (depth place : ℕ) → place < length text → is_mark part depth (get_or text place 0) ≡ false
    → marks part depth place (drop place text) ≡ marks (part_after part (get_or text place 0)) (depth_after part depth (get_or text place 0)) (place + 1) (drop (place + 1) text)
unmarked text part depth place below is = rw is at (marks_from text part depth place below)

-- at the end of the text no member ends any more
no_more : (text : List ℕ) (m : Marks) (found : Option (ℕ × ℕ)) → option_or (last_state text (pending m ++ [])) found ≡ found
unfolding last_state
no_more text Nothing found = refl
no_more text (Opened start) found = refl
no_more text (Keyed start colon) found = refl

pub found_at_end : (text : List ℕ) (scan : Scan) (part : Part) (depth place : ℕ) → length text ≤ place → finds text scan (marks part depth place (drop place text)) ≡ scan.found
unfolding marks
found_at_end text scan part depth place past = rw (drop_of_length-le text past) (no_more text scan.marks scan.found)

before_next : (place : ℕ) (m : Marks) → AreBefore place m → AreBefore (place + 1) m
before_next place Nothing before = tt
before_next place (Opened start) before = omega arith
before_next place (Keyed start colon) before = (before.0, omega arith)

found_before_next : (place : ℕ) (found : Option (ℕ × ℕ)) → IfSome found (λ p. (p.0 < p.1) × (p.1 < place)) → IfSome found (λ p. (p.0 < p.1) × (p.1 < place + 1))
found_before_next place None before = tt
found_before_next place (Some p) before = (before.0, omega arith)

pub still_before : (place : ℕ) (scan : Scan) → IsBefore place scan → IsBefore (place + 1) scan
still_before place scan before = record { marks = before_next place scan.marks before.marks; found = found_before_next place scan.found before.found }
