-- Records of a lane come.
use Rattle.std.proofs.Common.{◌≡◌, ℕ, zero, suc, ◌+◌, ◌<◌, ◌≤◌, Bool, ◌&&◌, List, [], ◌∷◌, ◌++◌, length, take, refl, sym, ap, ◌∙◌, subst, inl, inr, Option, Some, None, arith, append_assoc, zero-add}
use Rattle.std.specs.Prelude.{filter, option_map, unwrap_or, is_some, is_none}
use Rattle.std.specs.Option.{option_or}
use Rattle.std.proofs.lemmas.Bool.{cases_Bool, eq-eqb}
use Rattle.std.proofs.lemmas.List.{append-nil, take-append-le}
use Rattle.std.proofs.lemmas.List.Elements.{filter-append}
use Rattle.esm_model.specs.declared.lane.LaneId.{LaneId}
use Rattle.esm_model.specs.declared.setup.FoundFate.{FoundFate}
use Rattle.esm_model.specs.declared.setup.FoundTries.{FoundTries}
use Rattle.esm_model.specs.declared.entry.Entry.{Entry}
use Rattle.esm_model.specs.declared.entry.Entry.TheVariants.{Came}
use Rattle.esm_model.specs.Setting.{Setting, is_in_lane, found_fate, found_try}
use Rattle.esm_model.specs.Entries.{came_count}
use Rattle.esm_model.specs.Fates.{below, given, lacks_fate}
use Rattle.esm_model.specs.Ruling.{capped_tries}
use Rattle.esm_model.specs.Owed.{debts}
use Rattle.esm_model.specs.Step.{Legal}
use Rattle.esm_model.proofs.Lists.{In, In-none, In-one, In-append_cases, In-filter, In-here, In-there, filter_both}
use Rattle.esm_model.proofs.Records.{filter_same}
use Rattle.esm_lanes.specs.declared.standing.Standing.{Standing}
use Rattle.esm_lanes.specs.Piece.{Piece, takes, opened, added_behind, added, front_length}
use Rattle.esm_lanes.specs.Piece as piece
use Rattle.esm_lanes.proofs.Pieces.{open_places-added}
use Rattle.esm_shard_index.specs.declared.lane_state.Running.{Running}
use Rattle.esm_shard_index.specs.LaneView.{LaneView, standing_of, after_came, after_arrivals, front_places}
use Rattle.esm_shard_index.specs.LaneHistory.{Tags, tags, HasStanding, ArePieces, owed_places, is_passing, sorted_places, IsCall, IsLane, places_from, arrives, arriving, standing_at, HasFoundTries}
use Rattle.esm_shard_index.proofs.LanePieces.{IsNew, pieces_kept, added_pieces}
use Rattle.esm_shard_index.proofs.LaneMarks.{IsUnnamed, unnamed}

-- places from the first on

below_from : (c k : ℕ) → below (k + c) ≡ below c ++ places_from c k
below_from c zero = rw zero-add (sym (append-nil (below c)))
below_from c (suc k) =
    let e : suc k + c ≡ suc (k + c) = omega arith in
    let f : k + c ≡ c + k = omega arith in
    rw e (ap (λ xs. xs ++ (k + c) ∷ []) (below_from c k) ∙ append_assoc (below c) (places_from c k) ((k + c) ∷ []) ∙ ap (λ m. below c ++ (places_from c k ++ m ∷ [])) f)

pub from_first : (c k i : ℕ) → In (places_from c k) i → (c ≤ i) × (i < c + k)
from_first c zero i m = absurd (In-none i m)
from_first c (suc k) i m = elim (In-append_cases (places_from c k) ((c + k) ∷ []) i m) [
  | inl front ↦ (let low = from_first c k i front in let a : c ≤ i = low.0 in let b : i < c + k = low.1 in (a, omega (arith, b)))
  | inr last ↦ (let e : c + k ≡ i = In-one (c + k) i last in (omega (arith, e), omega (arith, e)))
]

-- what a `Came` opens that passes

lacks_is : (s : Setting) (h : List Entry) (n i : ℕ) → given h n i ≡ None → lacks_fate s h n i ≡ is_none (found_fate s n i)
lacks_is s h n i none = ap (λ o. is_none (option_or (option_map (λ (f : FoundFate). f.fate) (found_fate s n i)) o)) none ∙ at (found_fate s n i)
  where
    at : (o : Option FoundFate) → is_none (option_or (option_map (λ (f : FoundFate). f.fate) o) None) ≡ is_none o
    at None = refl
    at (Some f) = refl

pub sorted_came : (s : Setting) (h : List Entry) (lane : LaneId) (n first count m : ℕ) → Legal s (Came n first count m ∷ h) → n ≡ lane.shard
    → sorted_places s (Came n first count m ∷ h) lane ≡ sorted_places s h lane ++ arriving s lane first count
sorted_came s h lane n first count m legal same =
    let passes = is_passing s lane.shard in
    let opens : ℕ → Bool = λ i. is_in_lane s lane i && lacks_fate s h lane.shard i in
    let c = came_count h lane.shard in
    let more : came_count (Came n first count m ∷ h) lane.shard ≡ count + c = rw (eq-eqb n lane.shard same) refl in
    let next : first ≡ came_count h lane.shard = legal.1.1.next ∙ ap (came_count h) same in
    ap (λ k. filter (is_passing s lane.shard) (filter (λ i. is_in_lane s lane i && lacks_fate s h lane.shard i) (below k))) more
    ∙ ap (λ xs. filter passes (filter opens xs)) (below_from c count)
    ∙ ap (filter passes) (filter-append opens (below c) (places_from c count))
    ∙ filter-append passes (filter opens (below c)) (filter opens (places_from c count))
    ∙ ap (λ xs. sorted_places s h lane ++ xs) (
    sym (filter_both opens passes (places_from c count))
    ∙ filter_same (λ i. opens i && passes i) (arrives s lane) (places_from c count) (λ i member.
    ap (λ b. is_in_lane s lane i && b && is_passing s lane.shard i)
    (lacks_is s h lane.shard i (unnamed s h legal.0 lane.shard i (from_first c count i member).0).given))
    ∙ ap (λ k. filter (arrives s lane) (places_from k count)) (sym next))

-- how a record comes

new_standing : (o : Option ℕ) → IsNew (standing_of o)
new_standing None = tt
new_standing (Some t) = tt

standing_from : (g : Tags) (i : ℕ) (o : Option FoundTries) → g.mark i ≡ None → g.found i ≡ is_some o → g.tries i ≡ capped_tries (unwrap_or (option_map (λ (f : FoundTries). f.tries) o) 0) → ((f : FoundTries) → o ≡ Some f → 1 ≤ f.tries)
    → HasStanding g (standing_of (option_map (λ (f : FoundTries). capped_tries f.tries) o)) i
standing_from g i None marks found tries some = (marks, found, tries)
standing_from g i (Some f) marks found tries some = (let one : 1 ≤ f.tries = some f refl in (marks, found, tries, omega arith))

pub came_standing : (s : Setting) (h : List Entry) (n i : ℕ) → IsUnnamed s h n i → ((f : FoundTries) → found_try s n i ≡ Some f → 1 ≤ f.tries) → HasStanding (tags s h n) (standing_at s n i) i
came_standing s h n i is some = standing_from (tags s h n) i (found_try s n i) is.mark refl (ap capped_tries is.tries) some

-- the places come one after the other

arrived_state : (standing : ℕ → Standing) (is : List ℕ) (v : LaneView) → (after_arrivals standing is v).state ≡ v.state
arrived_state standing [] v = refl
arrived_state standing (i ∷ is) v = arrived_state standing is (after_came (standing i) i v)

pub arrived_places : (standing : ℕ → Standing) (is : List ℕ) (v : LaneView) → piece.open_places (after_arrivals standing is v).kept.pieces ≡ piece.open_places v.kept.pieces ++ is
arrived_places standing [] v = sym (append-nil (piece.open_places v.kept.pieces))
arrived_places standing (i ∷ is) v =
    arrived_places standing is (after_came (standing i) i v) ∙ ap (λ xs. xs ++ is) (open_places-added (standing i) i v.kept.pieces) ∙ append_assoc (piece.open_places v.kept.pieces) (i ∷ []) is

arrived_pieces : (g : Tags) (standing : ℕ → Standing) (is : List ℕ) (v : LaneView) → ((i : ℕ) → In is i → IsNew (standing i) × HasStanding g (standing i) i) → ArePieces g v.kept.pieces → ArePieces g (after_arrivals standing is v).kept.pieces
arrived_pieces g standing [] v all are = are
arrived_pieces g standing (i ∷ is) v all are =
    let here = all i (In-here i is i refl) in
    arrived_pieces g standing is (after_came (standing i) i v) (λ j m. all j (In-there i is j m)) (added_pieces g (standing i) i v.kept.pieces here.0 here.1 are)

-- the front piece goes on

pub record GoesOn (before after : List Piece) : Type 0 where
  pub more : front_length before ≤ front_length after
  pub front : (k : ℕ) → k ≤ front_length before → take k (front_places after) ≡ take k (front_places before)

goes_nowhere : (p : Piece) (xs ys : List Piece) → GoesOn (p ∷ xs) (p ∷ ys)
goes_nowhere p xs ys = record { more = omega arith; front = λ k low. refl }

goes_on : (standing : Standing) (i : ℕ) (ps : List Piece) → GoesOn ps (added standing i ps)
goes_on standing i [] = record { more = omega arith; front = λ k low. (let none : k ≡ 0 = omega arith in rw none refl) }
goes_on standing i (p ∷ q ∷ rest) = goes_nowhere p (q ∷ rest) (added_behind standing i q rest)
goes_on standing i (p ∷ []) = elim (cases_Bool (takes p.standing standing)) [
  | inr other ↦ rw other (goes_nowhere p [] (opened standing i ∷ []))
  | inl same ↦ rw same (record { more = longer p.places; front = λ k low. take-append-le k p.places (i ∷ []) low })
]
  where
    longer : (xs : List ℕ) → length xs ≤ length (xs ++ i ∷ [])
    longer [] = omega arith
    longer (x ∷ xs) = (let rest : length xs ≤ length (xs ++ i ∷ []) = longer xs in omega arith)

call_goes_on : (h : List Entry) (lane : LaneId) (before after : List Piece) (r : Running) → GoesOn before after → IsCall h lane before r → IsCall h lane after r
call_goes_on h lane before after r goes c = record {
  call = c.call;
  last = c.last;
  places = c.places ∙ sym (goes.front r.count c.within);
  within = (let a = goes.more in let b = c.within in omega arith);
  closing = c.closing;
  final = c.final;
}

arrived_call : (h : List Entry) (lane : LaneId) (standing : ℕ → Standing) (is : List ℕ) (v : LaneView) (r : Running) → IsCall h lane v.kept.pieces r → IsCall h lane (after_arrivals standing is v).kept.pieces r
arrived_call h lane standing [] v r c = c
arrived_call h lane standing (i ∷ is) v r c = arrived_call h lane standing is (after_came (standing i) i v) r (call_goes_on h lane v.kept.pieces (added (standing i) i v.kept.pieces) r (goes_on (standing i) i v.kept.pieces) c)

pub lane_came : (s : Setting) (h : List Entry) (lane : LaneId) (n first count m : ℕ) (v : LaneView) → Legal s (Came n first count m ∷ h) → n ≡ lane.shard → HasFoundTries s n → IsLane s h lane v
    → IsLane s (Came n first count m ∷ h) lane (after_arrivals (standing_at s n) (arriving s lane first count) v)
lane_came s h lane n first count m v legal same some is =
    let state = arrived_state (standing_at s n) (arriving s lane first count) v in
    let next : first ≡ came_count h lane.shard = legal.1.1.next ∙ ap (came_count h) same in
    record {
      places = ap (λ xs. owed_places (debts s h lane) ++ xs) (arrived_places (standing_at s n) (arriving s lane first count) v)
          ∙ sym (append_assoc (owed_places (debts s h lane)) (piece.open_places v.kept.pieces) (arriving s lane first count))
          ∙ ap (λ xs. xs ++ arriving s lane first count) is.places ∙ sym (sorted_came s h lane n first count m legal same);
      pieces = pieces_kept (tags s h lane.shard) (tags s (Came n first count m ∷ h) lane.shard) (after_arrivals (standing_at s n) (arriving s lane first count) v).kept.pieces (λ i member. record { mark = refl; tries = refl; found = refl })
          (arrived_pieces (tags s h lane.shard) (standing_at s n) (arriving s lane first count) v (λ i member.
          let place = from_first first count i (In-filter (arrives s lane) (places_from first count) i member).0 in
          let low : first ≤ i = place.0 in
          let past : came_count h lane.shard ≤ i = omega (arith, next, low) in
          subst (λ k. IsNew (standing_at s k i) × HasStanding (tags s h lane.shard) (standing_at s k i) i) (sym same)
          (new_standing (option_map (λ (f : FoundTries). capped_tries f.tries) (found_try s lane.shard i)), came_standing s h lane.shard i (unnamed s h legal.0 lane.shard i past) (λ f found. some i f (ap (λ k. found_try s k i) same ∙ found)))) is.pieces);
      runs = is.runs ∙ ap (λ st. is_some st.running) (sym state);
      call = λ r runs. arrived_call_at (is.call r (sym (ap (λ st. st.running) state) ∙ runs));
      failures = ap (λ st. st.failures) state ∙ is.failures;
      last_end = ap (λ st. st.last_end) state ∙ is.last_end;
    }
  where
    arrived_call_at : {r : Running} → IsCall h lane v.kept.pieces r → IsCall (Came n first count m ∷ h) lane (after_arrivals (standing_at s n) (arriving s lane first count) v).kept.pieces r
    arrived_call_at {r} c =
        let d = arrived_call h lane (standing_at s n) (arriving s lane first count) v r c in
        record { call = d.call; last = d.last; places = d.places; within = d.within; closing = d.closing; final = d.final }
