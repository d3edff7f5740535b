-- What one more place, a split and a cut do to runs, and that the pieces of the runs follow.
use Rattle.std.proofs.Common.{◌≡◌, ℕ, ◌+◌, ◌-◌, ◌<◌, ◌≤◌, ◌==◌, Bool, true, false, if◌then◌else◌, List, [], ◌∷◌, ◌++◌, length, take, drop, refl, sym, ap, ap₂, ◌∙◌, inl, inr, arith, length-append, length-take, length-drop, take-append-drop, drop-drop}
use Rattle.std.proofs.lemmas.List.{take_all, take-take, take_at, drop_at, take-append-le, drop-append-le, drop-take, nil_from_length}
use Rattle.std.proofs.lemmas.List.Elements.{All-nil, All-cons}
use Rattle.std.specs.Prelude.{All}
use Rattle.std.proofs.lemmas.Bool.{cases_lt, lt-ltb, le-ltb, eq-eqb, ne_eqb}
use Rattle.esm_lanes.specs.declared.standing.Standing.{Standing}
use Rattle.esm_lanes.specs.declared.standing.Standing.TheVariants.{Split}
use Rattle.esm_lanes.specs.declared.run.Run.{Run}
use Rattle.esm_lanes.specs.Piece as piece
use Rattle.esm_lanes.specs.Piece.{Piece, takes}
use Rattle.esm_lanes.specs.Run.{pieces_of, total, AllFilled, IsLaid, one, longer, one_added_behind, one_added, first_count, ahead_of, first_split, first_shortened}

-- the last run, by the test

behind-joins : (s : Standing) (q : Run) (ms : List Run) (r : Run) → takes r.standing s ≡ true → one_added_behind s q (ms ++ r ∷ []) ≡ q ∷ (ms ++ longer r ∷ [])
behind-joins s q [] r h = ap (λ (b : Bool). q ∷ (if b then longer r ∷ [] else r ∷ one s ∷ [])) h
behind-joins s q (m ∷ ms) r h = ap (λ (xs : List Run). q ∷ xs) (behind-joins s m ms r h)

behind-opens : (s : Standing) (q : Run) (ms : List Run) (r : Run) → takes r.standing s ≡ false → one_added_behind s q (ms ++ r ∷ []) ≡ q ∷ (ms ++ r ∷ [] ++ one s ∷ [])
behind-opens s q [] r h = ap (λ (b : Bool). q ∷ (if b then longer r ∷ [] else r ∷ one s ∷ [])) h
behind-opens s q (m ∷ ms) r h = ap (λ (xs : List Run). q ∷ xs) (behind-opens s m ms r h)

-- the last run takes the place
pub one_added-joins : (s : Standing) (ms : List Run) (r : Run) → takes r.standing s ≡ true → one_added s (ms ++ r ∷ []) ≡ ms ++ longer r ∷ []
one_added-joins s [] r h = ap (λ (b : Bool). if b then longer r ∷ [] else r ∷ one s ∷ []) h
one_added-joins s (m ∷ ms) r h = behind-joins s m ms r h

-- it does not
pub one_added-opens : (s : Standing) (ms : List Run) (r : Run) → takes r.standing s ≡ false → one_added s (ms ++ r ∷ []) ≡ ms ++ r ∷ [] ++ one s ∷ []
one_added-opens s [] r h = ap (λ (b : Bool). if b then longer r ∷ [] else r ∷ one s ∷ []) h
one_added-opens s (m ∷ ms) r h = behind-opens s m ms r h

-- a run at the end has no more places than all
pub count_le-total : (ms : List Run) (r : Run) → r.count ≤ total (ms ++ r ∷ [])
count_le-total [] r = omega arith
count_le-total (m ∷ ms) r = omega (arith, count_le-total ms r)

-- the pieces of the runs

-- what a place does to the last run, it does to the last piece
last_piece : (b : Bool) (s : Standing) (x : ℕ) (r : Run) (places : List ℕ) → r.count ≡ length places → pieces_of (places ++ x ∷ []) (if b then longer r ∷ [] else r ∷ one s ∷ []) ≡ (if b then piece.joined x (record { places = take r.count places; standing = r.standing }) ∷ [] else record { places = take r.count places; standing = r.standing } ∷ piece.opened s x ∷ [])
last_piece true s x r places h =
    let before : take r.count places ≡ places = take_all r.count places (omega arith) in
    let after : take (r.count + 1) (places ++ x ∷ []) ≡ places ++ x ∷ [] = take_all (r.count + 1) (places ++ x ∷ []) (omega (arith, length-append places (x ∷ []))) in
    ap (λ (ys : List ℕ). record { places = ys; standing = r.standing } ∷ []) (after ∙ ap (λ (ys : List ℕ). ys ++ x ∷ []) (sym before))
last_piece false s x r places h =
    let before : take r.count places ≡ places = take_all r.count places (omega arith) in
    let kept : take r.count (places ++ x ∷ []) ≡ places = take_at places (x ∷ []) r.count (sym h) in
    let new : drop r.count (places ++ x ∷ []) ≡ x ∷ [] = drop_at places (x ∷ []) r.count (sym h) in
    ap₂ (λ (ys zs : List ℕ). record { places = ys; standing = r.standing } ∷ record { places = take 1 zs; standing = s } ∷ []) (kept ∙ sym before) new

pieces_of-behind : (s : Standing) (x : ℕ) (r : Run) (rest : List Run) (places : List ℕ) → r.count + total rest ≡ length places → pieces_of (places ++ x ∷ []) (one_added_behind s r rest) ≡ piece.added_behind s x (record { places = take r.count places; standing = r.standing }) (pieces_of (drop r.count places) rest)
pieces_of-behind s x r [] places h = last_piece (takes r.standing s) s x r places (omega arith)
pieces_of-behind s x r (q ∷ rest) places h =
    let left : q.count + total rest ≡ length (drop r.count places) = omega (arith, length-drop r.count places) in
    let front : take r.count (places ++ x ∷ []) ≡ take r.count places = take-append-le r.count places (x ∷ []) (omega arith) in
    let back : drop r.count (places ++ x ∷ []) ≡ drop r.count places ++ x ∷ [] = drop-append-le r.count places (x ∷ []) (omega arith) in
    ap₂ (λ (ys zs : List ℕ). record { places = ys; standing = r.standing } ∷ pieces_of zs (one_added_behind s q rest)) front back
    ∙ ap (λ (ps : List Piece). record { places = take r.count places; standing = r.standing } ∷ ps) (pieces_of-behind s x q rest (drop r.count places) left)

pub pieces_of-one_added : (s : Standing) (x : ℕ) (runs : List Run) (places : List ℕ) → total runs ≡ length places → pieces_of (places ++ x ∷ []) (one_added s runs) ≡ piece.added s x (pieces_of places runs)
pieces_of-one_added s x [] [] h = refl
pieces_of-one_added s x [] (y ∷ places) h = absurd (omega arith)
pieces_of-one_added s x (r ∷ rest) places h = pieces_of-behind s x r rest places h

-- what is left of the front run is what is left of the front piece
pieces_of-ahead : (n : ℕ) (r : Run) (rest : List Run) (places : List ℕ) → n ≤ r.count → r.count ≤ length places → pieces_of (drop n places) (ahead_of n r rest) ≡ piece.ahead_of (piece.rest_of n (record { places = take r.count places; standing = r.standing })) (pieces_of (drop r.count places) rest)
pieces_of-ahead n r rest places within fits = elim (cases_lt n r.count) [
  | inl some ↦
      let m = r.count - n in
      let whole : n + m ≡ r.count = omega arith in
      let shorter : length (drop n (take r.count places)) ≡ m = length-drop n (take r.count places) ∙ omega (arith, length-take r.count places) in
      let stays : (length (drop n (take r.count places)) == 0) ≡ false = ne_eqb _ _ (λ e. omega arith) in
      let here : take m (drop n places) ≡ drop n (take r.count places) = sym (drop-take n m places) ∙ ap (λ k. drop n (take k places)) whole in
      let there : drop m (drop n places) ≡ drop r.count places = drop-drop m n places ∙ ap (λ k. drop k places) whole in
      ap (λ (b : Bool). pieces_of (drop n places) (if b then record { count = m; standing = r.standing } ∷ rest else rest)) (lt-ltb n r.count some)
      ∙ ap₂ (λ (ys zs : List ℕ). record { places = ys; standing = r.standing } ∷ pieces_of zs rest) here there
      ∙ sym (ap (λ (b : Bool). if b then pieces_of (drop r.count places) rest else record { places = drop n (take r.count places); standing = r.standing } ∷ pieces_of (drop r.count places) rest) stays)
  | inr none ↦
      let same : n ≡ r.count = omega arith in
      let gone : (length (drop n (take r.count places)) == 0) ≡ true = eq-eqb _ _ (length-drop n (take r.count places) ∙ omega (arith, length-take r.count places)) in
      ap (λ (b : Bool). pieces_of (drop n places) (if b then record { count = r.count - n; standing = r.standing } ∷ rest else rest)) (le-ltb n r.count none)
      ∙ ap (λ k. pieces_of (drop k places) rest) same
      ∙ sym (ap (λ (b : Bool). if b then pieces_of (drop r.count places) rest else record { places = drop n (take r.count places); standing = r.standing } ∷ pieces_of (drop r.count places) rest) gone)
]

pub pieces_of-first_shortened : (n : ℕ) (runs : List Run) (places : List ℕ) → n ≤ first_count runs → total runs ≡ length places → pieces_of (drop n places) (first_shortened n runs) ≡ piece.shortened n (pieces_of places runs)
pieces_of-first_shortened n [] places within h = refl
pieces_of-first_shortened n (r ∷ rest) places within h = pieces_of-ahead n r rest places within (omega arith)

pub pieces_of-first_split : (n tries : ℕ) (runs : List Run) (places : List ℕ) → n ≤ first_count runs → total runs ≡ length places → pieces_of places (first_split n tries runs) ≡ piece.split n tries (pieces_of places runs)
pieces_of-first_split n tries [] places within h = refl
pieces_of-first_split n tries (r ∷ rest) places within h =
    ap₂ (λ (ys : List ℕ) (ps : List Piece). record { places = ys; standing = Split tries } ∷ ps) (sym (take-take n r.count places within)) (pieces_of-ahead n r rest places within (omega arith))

-- the places of the pieces are the places
pub open_places-pieces_of : (runs : List Run) (places : List ℕ) → total runs ≡ length places → piece.open_places (pieces_of places runs) ≡ places
open_places-pieces_of [] places h = sym (nil_from_length places (sym h))
open_places-pieces_of (r ∷ rest) places h =
    let left : total rest ≡ length (drop r.count places) = omega (arith, length-drop r.count places) in
    ap (λ (ys : List ℕ). take r.count places ++ ys) (open_places-pieces_of rest (drop r.count places) left) ∙ take-append-drop r.count places

-- what stays true of the runs

total-behind : (b : Bool) (s : Standing) (r : Run) → total (if b then longer r ∷ [] else r ∷ one s ∷ []) ≡ r.count + 1
total-behind true s r = omega arith
total-behind false s r = omega arith

total-one_added_behind : (s : Standing) (r : Run) (rest : List Run) → total (one_added_behind s r rest) ≡ r.count + total rest + 1
total-one_added_behind s r [] = total-behind (takes r.standing s) s r ∙ omega arith
total-one_added_behind s r (q ∷ rest) = omega (arith, total-one_added_behind s q rest)

total-one_added : (s : Standing) (runs : List Run) → total (one_added s runs) ≡ total runs + 1
total-one_added s [] = refl
total-one_added s (r ∷ rest) = total-one_added_behind s r rest

filled-last : (b : Bool) (s : Standing) (r : Run) → 0 < r.count → AllFilled (if b then longer r ∷ [] else r ∷ one s ∷ [])
filled-last true s r h = (omega arith, tt)
filled-last false s r h = (h, (omega arith, tt))

filled-behind : (s : Standing) (r : Run) (rest : List Run) → 0 < r.count → AllFilled rest → AllFilled (one_added_behind s r rest)
filled-behind s r [] h f = filled-last (takes r.standing s) s r h
filled-behind s r (q ∷ rest) h f = (h, filled-behind s q rest f.0 f.1)

filled-one_added : (s : Standing) (runs : List Run) → AllFilled runs → AllFilled (one_added s runs)
filled-one_added s [] f = (omega arith, tt)
filled-one_added s (r ∷ rest) f = filled-behind s r rest f.0 f.1

pub laid-one_added : (s : Standing) (x : ℕ) (runs : List Run) (places : List ℕ) → IsLaid places runs → IsLaid (places ++ x ∷ []) (one_added s runs)
laid-one_added s x runs places laid = record {
  covered = total-one_added s runs ∙ omega (arith, laid.covered, length-append places (x ∷ []));
  filled = filled-one_added s runs laid.filled;
}

pub total-filled : (runs : List Run) → AllFilled runs → 0 < length runs → 0 < total runs
total-filled [] f h = absurd (omega arith)
total-filled (r ∷ rest) f h = let here : 0 < r.count = f.0 in omega arith

pub front_length-pieces_of : (runs : List Run) (places : List ℕ) → total runs ≡ length places → piece.front_length (pieces_of places runs) ≡ first_count runs
front_length-pieces_of [] places h = refl
front_length-pieces_of (r ∷ rest) places h = length-take r.count places ∙ omega arith

-- no piece is without a place
pub pieces_of-filled : (runs : List Run) (places : List ℕ) → AllFilled runs → total runs ≡ length places → All piece.HasPlaces (pieces_of places runs)
pieces_of-filled [] places f h = All-nil piece.HasPlaces
pieces_of-filled (r ∷ rest) places f h =
    let here : 0 < r.count = f.0 in
    let some : 0 < length (take r.count places) = omega (arith, length-take r.count places) in
    let left : total rest ≡ length (drop r.count places) = omega (arith, length-drop r.count places) in
    All-cons piece.HasPlaces (record { places = take r.count places; standing = r.standing }) (pieces_of (drop r.count places) rest) some (pieces_of-filled rest (drop r.count places) f.1 left)
