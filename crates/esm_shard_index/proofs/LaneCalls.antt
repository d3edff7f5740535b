-- A call of a lane begins, and records of a lane expire.
use Rattle.std.proofs.Common.{◌≡◌, ℕ, zero, suc, ◌≤◌, Bool, true, false, cond, List, [], ◌∷◌, ◌++◌, length, take, drop, refl, sym, ap, ◌∙◌, subst, Option, Some, None, arith}
use Rattle.std.specs.Prelude.{is_some}
use Rattle.std.specs.List.{prefix_len}
use Rattle.std.proofs.lemmas.List.{take-append-drop, take-append-le}
use Rattle.esm_model.specs.declared.limits.TheConstants.{MAX_EXPIRED}
use Rattle.esm_model.specs.declared.lane.LaneId.{LaneId}
use Rattle.esm_model.specs.declared.entry.Fate.TheVariants.{Expired}
use Rattle.esm_model.specs.declared.entry.WindowState.{WindowState}
use Rattle.esm_model.specs.declared.entry.Entry.{Entry}
use Rattle.esm_model.specs.declared.entry.Entry.TheVariants.{Began, Gave}
use Rattle.esm_model.specs.Setting.{Setting}
use Rattle.esm_model.specs.Batches.{group, fits, is_expired}
use Rattle.esm_model.specs.Owed.{Debt, debts, pays}
use Rattle.esm_model.specs.Step.{Legal, MayBegin, MayExpire}
use Rattle.esm_model.proofs.Steps.{longest_front, same_lane-refl}
use Rattle.esm_lanes.specs.Piece.{Piece, front_length, shortened}
use Rattle.esm_lanes.specs.Piece as piece
use Rattle.esm_lanes.proofs.Pieces.{open_places-shortened}
use Rattle.esm_shard_index.specs.declared.lane_state.Running.{Running}
use Rattle.esm_shard_index.specs.LaneView.{LaneView, after_began, after_expired, front_places}
use Rattle.esm_shard_index.specs.LaneHistory.{tags, owed_places, sorted_places, IsCall, IsLane}
use Rattle.esm_shard_index.proofs.LanePieces.{shortened_pieces, pieces_kept}
use Rattle.esm_shard_index.proofs.LaneEntries.{sorted_fronted}
use Rattle.esm_shard_index.proofs.LaneGroups.{group_is}

-- fronts

pub front_long : (ps : List Piece) → length (front_places ps) ≡ front_length ps
front_long [] = refl
front_long (p ∷ rest) = refl

-- a front of the front piece
pub record IsCut (ps : List Piece) (places : List ℕ) : Type 0 where
  pub is : places ≡ take (length places) (front_places ps)
  pub within : length places ≤ front_length ps

take_own : (k : ℕ) (xs : List ℕ) → take k xs ≡ take (length (take k xs)) xs
take_own zero xs = refl
take_own (suc k) [] = refl
take_own (suc k) (x ∷ xs) = ap (λ ys. x ∷ ys) (take_own k xs)

take_short : (k : ℕ) (xs : List ℕ) → length (take k xs) ≤ length xs
take_short zero xs = omega arith
take_short (suc k) [] = omega arith
take_short (suc k) (x ∷ xs) = (let rest : length (take k xs) ≤ length xs = take_short k xs in omega arith)

pub cut_of : (ps : List Piece) (places : List ℕ) (k : ℕ) → places ≡ take k (front_places ps) → IsCut ps places
cut_of ps places k is = record {
  is = is ∙ take_own k (front_places ps) ∙ ap (λ n. take n (front_places ps)) (ap length (sym is));
  within = (let short : length (take k (front_places ps)) ≤ length (front_places ps) = take_short k (front_places ps) in let e : length places ≡ length (take k (front_places ps)) = ap length is in let long : length (front_places ps) ≡ front_length ps = front_long ps in omega arith);
}

-- they are a front of all places too
pub front_of_all : (n : ℕ) (ps : List Piece) → n ≤ front_length ps → take n (front_places ps) ≡ take n (piece.open_places ps)
front_of_all n [] within = refl
front_of_all n (p ∷ rest) within = sym (take-append-le n p.places (piece.open_places rest) within)

-- a call begins

-- the call that runs then
pub call_begun : (s : Setting) (h : List Entry) (lane : LaneId) (places : List ℕ) (closing : Option ℕ) (m : ℕ) (v : LaneView)
    → debts s h lane ≡ [] → IsCut v.kept.pieces places → ((w : ℕ) → closing ≡ Some w → length places ≡ 0) → IsLane s h lane v
    → IsLane s (Began lane places closing m ∷ h) lane (after_began (record { count = length places; closing = closing }) v)
call_begun s h lane places closing m v owes cut final is = record {
  places = ap (λ ds. owed_places ds ++ piece.open_places v.kept.pieces) (none_owed ∙ sym owes) ∙ is.places;
  pieces = pieces_kept (tags s h lane.shard) (tags s (Began lane places closing m ∷ h) lane.shard) v.kept.pieces (λ i member. record { mark = refl; tries = refl; found = refl }) is.pieces;
  runs = rw (same_lane-refl lane) refl;
  call = λ r runs. call_at r (the_one r runs);
  failures = is.failures;
  last_end = is.last_end;
}
  where
    none_owed : debts s (Began lane places closing m ∷ h) lane ≡ []
    none_owed = rw (same_lane-refl lane) refl

    the_one : (r : Running) → Some (record { count = length places; closing = closing }) ≡ Some r → record { count = length places; closing = closing } ≡ r
    the_one r is = cc

    here : IsCall (Began lane places closing m ∷ h) lane v.kept.pieces (record { count = length places; closing = closing })
    here = record {
      call = record { places = places; closing = closing; moment = m };
      last = rw (same_lane-refl lane) refl;
      places = cut.is;
      within = cut.within;
      closing = refl;
      final = final;
    }

    call_at : (r : Running) → record { count = length places; closing = closing } ≡ r → IsCall (Began lane places closing m ∷ h) lane v.kept.pieces r
    call_at r same = subst (IsCall (Began lane places closing m ∷ h) lane v.kept.pieces) same here

-- of a batch: a front of the front piece
pub batch_cut : (s : Setting) (h : List Entry) (lane : LaneId) (m : ℕ) (v : LaneView) (places : List ℕ) → MayBegin s h lane places m → IsLane s h lane v → IsCut v.kept.pieces places
batch_cut s h lane m v places may is =
    let front = longest_front (fits s h lane.shard m) [] (group s h lane) in
    cut_of v.kept.pieces places front.0 (may.exact ∙ front.1 ∙ ap (take front.0) (group_is s h lane v (may.call.settled.paid lane) (may.call.settled.sorted lane.shard) is))

pub lane_began : (s : Setting) (h : List Entry) (lane : LaneId) (places : List ℕ) (m : ℕ) (v : LaneView) → Legal s (Began lane places None m ∷ h) → IsLane s h lane v
    → IsLane s (Began lane places None m ∷ h) lane (after_began (record { count = length places; closing = None }) v)
lane_began s h lane places m v legal is =
    call_begun s h lane places None m v (legal.1.1.call.settled.paid lane) (batch_cut s h lane m v places legal.1.1 is) (λ w never. absurd cc) is

-- a final call
pub lane_began_final : (s : Setting) (h : List Entry) (lane : LaneId) (places : List ℕ) (window m : ℕ) (v : LaneView) → Legal s (Began lane places (Some window) m ∷ h) → IsLane s h lane v
    → IsLane s (Began lane places (Some window) m ∷ h) lane (after_began (record { count = length places; closing = Some window }) v)
lane_began_final s h lane places window m v legal is =
    let none : places ≡ [] = legal.1.1.no_places in
    call_begun s h lane places (Some window) m v (legal.1.1.call.settled.paid lane) (cut_of v.kept.pieces places 0 none) (λ w same. ap length none) is

-- records expire

take_of_take : (j k : ℕ) (xs : List ℕ) → (n : ℕ) × (take j (take k xs) ≡ take n xs)
take_of_take zero k xs = (0, refl)
take_of_take (suc j) zero xs = (0, refl)
take_of_take (suc j) (suc k) [] = (0, refl)
take_of_take (suc j) (suc k) (x ∷ xs) = (suc (take_of_take j k xs).0, ap (λ ys. x ∷ ys) (take_of_take j k xs).1)

pub expired_cut : (s : Setting) (h : List Entry) (lane : LaneId) (n : ℕ) (places : List ℕ) (line : Option (List ℕ)) (state : Option WindowState) (m : ℕ) (v : LaneView) → MayExpire s h lane n places line state m → IsLane s h lane v → IsCut v.kept.pieces places
expired_cut s h lane n places line state m v may is =
    let cut = take_of_take MAX_EXPIRED (prefix_len (is_expired s lane.shard m) (group s h lane)) (group s h lane) in
    cut_of v.kept.pieces places cut.0 (may.exact ∙ cut.1 ∙ ap (take cut.0) (group_is s h lane v (may.settled.paid lane) (may.settled.sorted lane.shard) is))

pub lane_expired : (s : Setting) (h : List Entry) (lane : LaneId) (n : ℕ) (places : List ℕ) (line : Option (List ℕ)) (state : Option WindowState) (m : ℕ) (v : LaneView)
    → Legal s (Gave (Some lane) n places Expired line state m ∷ h) → IsLane s h lane v → IsLane s (Gave (Some lane) n places Expired line state m ∷ h) lane (after_expired (length places) v)
lane_expired s h lane n places line state m v legal is = record {
  places = ap (λ ds. owed_places ds ++ piece.open_places (shortened (length places) v.kept.pieces)) owes
      ∙ open_places-shortened (length places) v.kept.pieces cut.within
      ∙ sym (sorted_fronted s (Some lane) n places Expired line state m h lane [] (drop (length places) kept) may.shard parts);
  pieces = pieces_kept (tags s h lane.shard) (tags s (Gave (Some lane) n places Expired line state m ∷ h) lane.shard) (shortened (length places) v.kept.pieces) (λ i member. record { mark = refl; tries = refl; found = refl })
      (shortened_pieces (tags s h lane.shard) (length places) v.kept.pieces is.pieces);
  runs = is.runs;
  call = λ r runs. clash (sym is.runs ∙ may.rests) (ap is_some runs);
  failures = is.failures;
  last_end = is.last_end;
}
  where
    may : MayExpire s h lane n places line state m
    may = legal.1.1

    cut : IsCut v.kept.pieces places
    cut = expired_cut s h lane n places line state m v may is

    kept : List ℕ
    kept = piece.open_places v.kept.pieces

    dropped : (b : Bool) (ds : List Debt) → ds ≡ [] → cond b (drop 1 ds) ds ≡ []
    dropped true ds none = ap (drop 1) none
    dropped false ds none = none

    owes : debts s (Gave (Some lane) n places Expired line state m ∷ h) lane ≡ []
    owes = dropped (pays lane (debts s h lane) (Gave (Some lane) n places Expired line state m)) (debts s h lane) (may.settled.paid lane)

    parts : sorted_places s h lane ≡ places ++ ([] ++ drop (length places) (piece.open_places v.kept.pieces))
    parts = sym is.places ∙ ap (λ ds. owed_places ds ++ piece.open_places v.kept.pieces) (may.settled.paid lane)
        ∙ sym (take-append-drop (length places) (piece.open_places v.kept.pieces))
        ∙ ap (λ xs. xs ++ drop (length places) (piece.open_places v.kept.pieces)) (sym (cut.is ∙ front_of_all (length places) v.kept.pieces cut.within))

    clash : {A : Type 0} {b : Bool} → b ≡ false → b ≡ true → A
    clash no' yes' = (let e : false ≡ true = sym no' ∙ yes' in absurd cc)
