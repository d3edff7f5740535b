-- What the end of a call makes of its lane.
use Rattle.std.proofs.Common.{◌≡◌, ℕ, zero, suc, ◌+◌, ◌-◌, ◌≤◌, true, false, cond, ◌&&◌, List, [], ◌∷◌, ◌++◌, length, take, drop, refl, sym, ap, ◌∙◌, subst, inl, inr, Option, Some, None, arith, min, append_assoc}
use Rattle.std.specs.Prelude.{◌==◌, is_some}
use Rattle.std.proofs.lemmas.Bool.Decides.{eqb_tells}
use Rattle.std.proofs.lemmas.List.{take-append-drop}
use Rattle.esm_model.specs.declared.lane.LaneId.{LaneId}
use Rattle.esm_model.specs.declared.entry.Reply.{Reply}
use Rattle.esm_model.specs.declared.entry.Entry.{Entry}
use Rattle.esm_model.specs.declared.entry.Entry.TheVariants.{Ended}
use Rattle.esm_model.specs.declared.verdict.Rest.{Rest}
use Rattle.esm_model.specs.declared.verdict.Rest.TheVariants as rest
use Rattle.esm_model.specs.declared.verdict.Verdict.{Verdict}
use Rattle.esm_model.specs.Setting.{Setting}
use Rattle.esm_model.specs.Entries.{holds, last_call, batch_of}
use Rattle.esm_model.specs.Ruling.{capped_tries, is_counted}
use Rattle.esm_model.specs.Tries.{tries, tries_sum, counts_in_call, verdict_after, side}
use Rattle.esm_model.specs.Batches.{failures_by}
use Rattle.esm_model.specs.Owed.{debts}
use Rattle.esm_model.specs.Step.{Legal}
use Rattle.esm_model.proofs.Lists.{In, In-none, In-take, In-drop, Distinct, Distinct-apart, not_in, apart}
use Rattle.esm_model.proofs.Steps.{same_lane-refl, tries_ended, tries_kept, mark_ended, mark_kept, debts_ended, running_ended}
use Rattle.esm_model.proofs.Sound.{sound}
use Rattle.esm_lanes.specs.Piece.{Piece, Lane, shortened, split, front_length, after_shorten}
use Rattle.esm_lanes.specs.Piece as piece
use Rattle.esm_lanes.proofs.Pieces.{open_places-shortened}
use Rattle.esm_shard_index.specs.declared.lane_state.Running.{Running}
use Rattle.esm_shard_index.specs.LaneView.{LaneView, front_tries, set_apart, after_rest, after_batch, after_ended, front_places}
use Rattle.esm_shard_index.specs.LaneHistory.{Tags, tags, ArePieces, owed_places, sorted_places, IsCall, IsLane}
use Rattle.esm_shard_index.proofs.LanePieces.{SameTag, pieces_kept, shortened_pieces}
use Rattle.esm_shard_index.proofs.LaneMarks.{outside_side}
use Rattle.esm_shard_index.proofs.LaneEntries.{sorted_distinct}
use Rattle.esm_shard_index.proofs.LaneGroups.{tries_at}
use Rattle.esm_shard_index.proofs.LaneCalls.{front_of_all}
use Rattle.esm_shard_index.proofs.LaneSplits.{IsSplit, IsLeft, split_pieces, halved_pieces}
use Rattle.esm_shard_index.proofs.LaneEnds.{take_of, drop_of, distinct_drop, left_within, older_mark, and_false, counts_are, given_up, owed_end, rest_keeps}

pub front_tries_are : (g : Tags) (ps : List Piece) → ArePieces g ps → (i : ℕ) → In (front_places ps) i → g.tries i ≡ front_tries ps
front_tries_are g [] are i m = absurd (In-none i m)
front_tries_are g (p ∷ rest) are i m = tries_at g p.standing i (are.0.standing i m)

distinct_take : (k : ℕ) (xs : List ℕ) → Distinct xs → Distinct (take k xs)
distinct_take zero xs d = tt
distinct_take (suc k) [] d = tt
distinct_take (suc k) (x ∷ xs) d = (not_in (take k xs) x (λ m. apart xs x d.0 (In-take k xs x m)), distinct_take k xs d.1)

one_more_try : (n t : ℕ) → capped_tries n ≡ t → capped_tries (suc n) ≡ capped_tries (t + 1)
one_more_try n t e = omega arith

module _ (s : Setting) (h : List Entry) (lane : LaneId) (reply : Reply) (m : ℕ) (v : LaneView) (r : Running) (legal : Legal s (Ended lane reply m ∷ h)) (is : IsLane s h lane v) (runs : v.state.running ≡ Some r) where
  abbrev verdict : Verdict
  verdict = verdict_after s h lane reply

  -- the numbers of places that succeeded, and of the others
  abbrev done : ℕ
  done = min (verdict_after s h lane reply).succeeded r.count

  abbrev left : ℕ
  left = r.count - min (verdict_after s h lane reply).succeeded r.count

  abbrev all : List ℕ
  all = piece.open_places v.kept.pieces

  abbrev cut : List Piece
  cut = shortened (min (verdict_after s h lane reply).succeeded r.count) v.kept.pieces

  abbrev before : Tags
  before = tags s h lane.shard

  abbrev after : Tags
  after = tags s (Ended lane reply m ∷ h) lane.shard

  -- the places of the call behind those that succeeded
  abbrev behind : List ℕ
  behind = drop (verdict_after s h lane reply).succeeded (batch_of (last_call h lane))

  call : IsCall h lane v.kept.pieces r
  call = is.call r runs

  done_within : done ≤ front_length v.kept.pieces
  done_within = (let within = call.within in omega arith)

  left_is_within : left ≤ front_length cut
  left_is_within = left_within done left v.kept.pieces (let within = call.within in omega arith)

  batch_is : batch_of (last_call h lane) ≡ take r.count all
  batch_is = ap batch_of call.last ∙ call.places ∙ front_of_all r.count v.kept.pieces call.within

  cut_is : piece.open_places cut ≡ drop done all
  cut_is = open_places-shortened done v.kept.pieces done_within

  behind_is : behind ≡ take left (piece.open_places cut)
  behind_is = ap (drop (verdict_after s h lane reply).succeeded) batch_is ∙ drop_of (verdict_after s h lane reply).succeeded r.count all ∙ ap (take left) (sym cut_is)

  front_is : take left (front_places cut) ≡ behind
  front_is = front_of_all left cut left_is_within ∙ sym behind_is

  all_are : all ≡ sorted_places s h lane
  all_are = ap (λ ds. owed_places ds ++ all) (sym ((sound s h legal.0 lane).quiet legal.1.1)) ∙ is.places

  cut_distinct : Distinct (piece.open_places cut)
  cut_distinct = subst Distinct (sym cut_is) (distinct_drop done all (subst Distinct (sym all_are) (sorted_distinct s h lane)))

  cut_pieces : ArePieces before cut
  cut_pieces = shortened_pieces before done v.kept.pieces is.pieces

  -- what the end says of a place

  counted_is : (i : ℕ) → counts_in_call s lane.shard (last_call h lane) (tries_sum s h lane.shard) reply i ≡ (is_counted (verdict_after s h lane reply).rest && holds behind i)
  counted_is i = counts_are s h lane reply call.call i call.last (λ w closes. call.places ∙ ap (λ n. take n (front_places v.kept.pieces)) (call.final w (sym call.closing ∙ closes)))

  tag_same : (i : ℕ) → side (verdict_after s h lane reply).rest behind i ≡ None → (is_counted (verdict_after s h lane reply).rest && holds behind i) ≡ false → SameTag before after i
  tag_same i no_side no_try = record {
    mark = mark_kept s lane reply m h i no_side;
    tries = ap capped_tries (tries_kept s lane reply m h i (counted_is i ∙ no_try));
    found = refl;
  }

  outside : (i : ℕ) → holds behind i ≡ false → SameTag before after i
  outside i none = tag_same i (outside_side (verdict_after s h lane reply).rest behind i none) (and_false (is_counted (verdict_after s h lane reply).rest) (holds behind i) none)

  -- the places behind the call
  later : (i : ℕ) → In (piece.open_places (shortened left cut)) i → IsLeft before after (length h) i
  later i member = record {
    same = outside i (not_in behind i (λ inside.
        Distinct-apart (take left (piece.open_places cut)) (drop left (piece.open_places cut)) i (subst Distinct (sym (take-append-drop left (piece.open_places cut))) cut_distinct)
        (subst (λ xs. In xs i) behind_is inside) (subst (λ xs. In xs i) (open_places-shortened left cut left_is_within) member)));
    older = older_mark s h lane.shard i;
  }

  -- where no place is behind what succeeded, all is as before
  none_behind : left ≡ 0 → ArePieces after cut
  none_behind none = pieces_kept before after cut (λ i member. outside i (ap (λ xs. holds xs i) (behind_is ∙ ap (λ n. take n (piece.open_places cut)) none))) cut_pieces

  -- where no place gets a mark or a try, all is as before
  unmarked : (ps : List Piece) → ((i : ℕ) → side (verdict_after s h lane reply).rest behind i ≡ None) → is_counted (verdict_after s h lane reply).rest ≡ false → ArePieces before ps → ArePieces after ps
  unmarked ps no_side no_try are = pieces_kept before after ps (λ i member. tag_same i (no_side i) (ap (λ b. b && holds behind i) no_try)) are

  old_tries : (i : ℕ) → In behind i → tries s h lane.shard i ≡ front_tries cut
  old_tries i inside = front_tries_are before cut cut_pieces i (In-take left (front_places cut) i (subst (λ xs. In xs i) (sym front_is) inside))

  -- one more try
  more_tries : (i : ℕ) → (verdict_after s h lane reply).rest ≡ rest.Counted → In behind i → IsSplit after (length h) 0 (capped_tries (front_tries cut + 1)) i
  more_tries i counted inside = record {
    mark = mark_ended s lane reply m h i 0 (ap (λ q. side q behind i) counted ∙ ap (λ b. cond b (Some 0) None) inside);
    tries = ap capped_tries (tries_ended s lane reply m h i (counted_is i ∙ ap (λ q. is_counted q && holds behind i) counted ∙ inside))
        ∙ one_more_try (tries_sum s h lane.shard i) (front_tries cut) (old_tries i inside);
  }

  -- one of two sides
  halved : (n i k : ℕ) → (verdict_after s h lane reply).rest ≡ rest.Split n → In behind i → cond (holds (take n behind) i) (Some 0) (Some 1) ≡ Some k → IsSplit after (length h) k (front_tries cut) i
  halved n i k splits inside at = record {
    mark = mark_ended s lane reply m h i k (ap (λ q. side q behind i) splits ∙ ap (λ b. cond b (cond (holds (take n behind) i) (Some 0) (Some 1)) None) inside ∙ at);
    tries = ap capped_tries (tries_kept s lane reply m h i (counted_is i ∙ ap (λ q. is_counted q && holds behind i) splits)) ∙ old_tries i inside;
  }

  -- the pieces, by the rest

  quiet_nothing : (verdict_after s h lane reply).rest ≡ rest.Nothing → ArePieces after cut
  quiet_nothing is = unmarked cut (λ i. ap (λ q. side q behind i) is) (ap is_counted is) cut_pieces

  quiet_again : (verdict_after s h lane reply).rest ≡ rest.Again → ArePieces after cut
  quiet_again is = unmarked cut (λ i. ap (λ q. side q behind i) is) (ap is_counted is) cut_pieces

  given_up_pieces : (verdict_after s h lane reply).rest ≡ rest.Exhausted → ArePieces after (shortened left cut)
  given_up_pieces is = unmarked (shortened left cut) (λ i. ap (λ q. side q behind i) is) (ap is_counted is) (shortened_pieces before left cut cut_pieces)

  counted_pieces : (verdict_after s h lane reply).rest ≡ rest.Counted → (l : Lane) → l.pieces ≡ cut → ArePieces after (set_apart left (capped_tries (front_tries cut + 1)) l).pieces
  counted_pieces is l same = elim (eqb_tells left 0) [
    | inl none ↦ rw none.0 (subst (ArePieces after) (sym same) (none_behind none.1))
    | inr some ↦ rw some.0 (subst (λ ps. ArePieces after (split left (capped_tries (front_tries cut + 1)) ps)) (sym same)
        (split_pieces before after (length h) 0 (capped_tries (front_tries cut + 1)) left cut (let more = some.1 in omega arith) left_is_within cut_pieces
        (λ i inside. more_tries i is (subst (λ xs. In xs i) front_is inside)) later))
  ]

  -- the first part of the rest
  first_is : (n : ℕ) → take (min n left) (take left (front_places cut)) ≡ take n behind
  first_is n =
      let e : min (min n left) left ≡ min n left = omega arith in
      ap (take (min n left)) (front_is ∙ behind_is) ∙ take_of (min n left) left (piece.open_places cut) ∙ ap (λ k. take k (piece.open_places cut)) e
      ∙ sym (ap (take n) behind_is ∙ take_of n left (piece.open_places cut))

  -- and the second: none of it is in the first
  second_out : (n i : ℕ) → In (drop (min n left) (take left (front_places cut))) i → holds (take n behind) i ≡ false
  second_out n i member = not_in (take n behind) i (λ inside.
      let distinct : Distinct (take (min n left) (take left (front_places cut)) ++ drop (min n left) (take left (front_places cut)))
      = subst Distinct (sym (take-append-drop (min n left) (take left (front_places cut)))) (subst Distinct (sym (front_is ∙ behind_is)) (distinct_take left (piece.open_places cut) cut_distinct)) in
      Distinct-apart (take (min n left) (take left (front_places cut))) (drop (min n left) (take left (front_places cut))) i distinct (subst (λ xs. In xs i) (sym (first_is n)) inside) member)

  first_half : (n : ℕ) → (verdict_after s h lane reply).rest ≡ rest.Split n → (i : ℕ) → In (take (min n left) (take left (front_places cut))) i → IsSplit after (length h) 0 (front_tries cut) i
  first_half n is i member =
      let inside : In (take n behind) i = subst (λ xs. In xs i) (first_is n) member in
      halved n i 0 is (In-take n behind i inside) (ap (λ b. cond b (Some 0) (Some 1)) inside)

  second_half : (n : ℕ) → (verdict_after s h lane reply).rest ≡ rest.Split n → (i : ℕ) → In (drop (min n left) (take left (front_places cut))) i → IsSplit after (length h) 1 (front_tries cut) i
  second_half n is i member =
      halved n i 1 is (subst (λ xs. In xs i) front_is (In-drop (min n left) (take left (front_places cut)) i member)) (ap (λ b. cond b (Some 0) (Some 1)) (second_out n i member))

  split_pieces_are : (n : ℕ) → (verdict_after s h lane reply).rest ≡ rest.Split n → (l : Lane) → l.pieces ≡ cut
      → ArePieces after (set_apart (min n left) (front_tries cut) (set_apart left (front_tries cut) l)).pieces
  split_pieces_are n is l same = elim (eqb_tells left 0) [
    | inl none ↦ (let e : min n left ≡ 0 = (let zero' = none.1 in omega arith) in let f : (min n left == 0) ≡ true = ap (λ k. k == 0) e in
        rw (f, none.0) (subst (ArePieces after) (sym same) (none_behind none.1)))
    | inr some ↦ elim (eqb_tells (min n left) 0) [
      | inl empty ↦ rw (empty.0, some.0) (subst (λ ps. ArePieces after (split left (front_tries cut) ps)) (sym same)
          (split_pieces before after (length h) 1 (front_tries cut) left cut (let more = some.1 in omega arith) left_is_within cut_pieces
          (λ i inside. second_half n is i (subst (λ k. In (drop k (take left (front_places cut))) i) (sym empty.1) inside)) later))
      | inr both ↦ rw (both.0, some.0) (subst (λ ps. ArePieces after (split (min n left) (front_tries cut) (split left (front_tries cut) ps))) (sym same)
          (halved_pieces before after (length h) (front_tries cut) (min n left) left cut (let more = both.1 in omega arith) (omega arith) left_is_within cut_pieces (first_half n is) (second_half n is) later))
    ]
  ]

  rest_pieces : (q : Rest) → (verdict_after s h lane reply).rest ≡ q → ArePieces after (after_rest q left (after_shorten done v.kept)).pieces
  rest_pieces rest.Nothing is = quiet_nothing is
  rest_pieces rest.Again is = quiet_again is
  rest_pieces rest.Counted is = counted_pieces is (after_shorten done v.kept) refl
  rest_pieces (rest.Split n) is = split_pieces_are n is (after_shorten done v.kept) refl
  rest_pieces rest.Exhausted is = given_up_pieces is

  -- the places that are owed, and those that are left

  owed_is : owed_places (debts s (Ended lane reply m ∷ h) lane) ≡ take done all ++ given_up (verdict_after s h lane reply).rest (take left (piece.open_places cut))
  owed_is =
      ap owed_places (debts_ended s lane reply m h) ∙ owed_end s h lane reply call.call call.last
      ∙ ap (λ xs. take (verdict_after s h lane reply).succeeded xs ++ given_up (verdict_after s h lane reply).rest behind) batch_is
      ∙ ap (λ xs. xs ++ given_up (verdict_after s h lane reply).rest behind) (take_of (verdict_after s h lane reply).succeeded r.count all)
      ∙ ap (λ xs. take done all ++ given_up (verdict_after s h lane reply).rest xs) behind_is

  places_are : owed_places (debts s (Ended lane reply m ∷ h) lane) ++ piece.open_places (after_rest (verdict_after s h lane reply).rest left (after_shorten done v.kept)).pieces ≡ all
  places_are =
      let given = given_up (verdict_after s h lane reply).rest (take left (piece.open_places cut)) in
      let now = piece.open_places (after_rest (verdict_after s h lane reply).rest left (after_shorten done v.kept)).pieces in
      ap (λ xs. xs ++ now) owed_is ∙ append_assoc (take done all) given now
      ∙ ap (λ xs. take done all ++ xs) (rest_keeps (verdict_after s h lane reply).rest left (after_shorten done v.kept) left_is_within ∙ cut_is)
      ∙ take-append-drop done all

  ended_is : IsLane s (Ended lane reply m ∷ h) lane (record { kept = after_batch (verdict_after s h lane reply) r.count v.kept; state = record { running = None; failures = failures_by (verdict_after s h lane reply).rest v.state.failures; last_end = m } })
  ended_is = record {
    places = places_are ∙ all_are;
    pieces = rest_pieces (verdict_after s h lane reply).rest refl;
    runs = running_ended lane reply m h;
    call = λ q never. absurd cc;
    failures = ap (failures_by (verdict_after s h lane reply).rest) is.failures ∙ rw (same_lane-refl lane) refl;
    last_end = rw (same_lane-refl lane) refl;
  }

-- the call of the lane that runs ends with the verdict on its reply
pub lane_ended : (s : Setting) (h : List Entry) (lane : LaneId) (reply : Reply) (m : ℕ) (v : LaneView) → Legal s (Ended lane reply m ∷ h) → IsLane s h lane v
    → IsLane s (Ended lane reply m ∷ h) lane (after_ended (verdict_after s h lane reply) m v)
lane_ended s h lane reply m v legal is = at v.state.running refl
  where
    at : (o : Option Running) → v.state.running ≡ o → IsLane s (Ended lane reply m ∷ h) lane (after_ended (verdict_after s h lane reply) m v)
    at None none = absurd (let never : false ≡ true = ap is_some (sym none) ∙ sym is.runs ∙ legal.1.1 in cc)
    at (Some r) runs = rw runs (ended_is s h lane reply m v r legal is runs)
