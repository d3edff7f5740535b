-- Entries that leave the pieces of a lane.
use Rattle.std.proofs.Common.{◌≡◌, ℕ, Bool, true, false, not, ◌&&◌, List, [], ◌∷◌, ◌++◌, drop, refl, sym, ap, ◌∙◌, subst, Option, Some, None, append_assoc}
use Rattle.std.specs.Prelude.{◌==◌, filter, option_map, unwrap_or}
use Rattle.std.proofs.lemmas.Bool.{and_parts, eqb-true, eq-eqb}
use Rattle.std.proofs.lemmas.List.Elements.{filter_agree}
use Rattle.esm_model.specs.declared.lane.LaneId.{LaneId}
use Rattle.esm_model.specs.declared.entry.Fate.{Fate}
use Rattle.esm_model.specs.declared.entry.Fate.TheVariants.{Succeeded, Filtered, Exhausted}
use Rattle.esm_model.specs.declared.entry.WindowState.{WindowState}
use Rattle.esm_model.specs.declared.entry.Entry.{Entry}
use Rattle.esm_model.specs.declared.entry.Entry.TheVariants.{Gave, Tried, Closed, Shut}
use Rattle.esm_model.specs.Setting.{Setting, record_at, is_in_lane}
use Rattle.esm_model.specs.Entries.{holds, came_count, is_running, last_call}
use Rattle.esm_model.specs.Fates.{below, lacks_fate, open_places}
use Rattle.esm_model.specs.Tries.{tries, mark}
use Rattle.esm_model.specs.Batches.{failures, last_end}
use Rattle.esm_model.specs.Owed.{Debt, Success, GiveUp, Try, Close, debts, is_refused, is_unsorted, unsorted, IsOwed}
use Rattle.esm_model.specs.Step.{Legal}
use Rattle.esm_model.proofs.Lists.{In, In-filter, In-append_right, Distinct, Distinct-filter, filter_both, front_removed}
use Rattle.esm_model.proofs.Records.{filter_same}
use Rattle.esm_model.proofs.Steps.{open_gave}
use Rattle.esm_model.proofs.Debts.{places_of, gave_places, first_debt, debt_paid}
use Rattle.esm_model.proofs.Sound.{open_In, open_distinct}
use Rattle.esm_model.proofs.Paid.{gave_In}
use Rattle.esm_model.proofs.OtherShards.{IsElsewhere, elsewhere_same}
use Rattle.esm_model.proofs.OtherLanes.{IsOfOther, IsUntouched, other_untouched}
use Rattle.esm_model.proofs.Unchanged.{open_elsewhere}
use Rattle.esm_lanes.specs.Piece as piece
use Rattle.esm_shard_index.specs.LaneView.{LaneView}
use Rattle.esm_shard_index.specs.LaneHistory.{tags, fated_by, owed_places, is_passing, sorted_places, IsLane}
use Rattle.esm_shard_index.proofs.LanePieces.{pieces_kept}

-- the places of the pieces are open, in the lane
pub kept_open : (s : Setting) (h : List Entry) (lane : LaneId) (v : LaneView) → IsLane s h lane v → (i : ℕ) → In (piece.open_places v.kept.pieces) i → In (open_places s h lane) i
kept_open s h lane v is i member =
    (In-filter (is_passing s lane.shard) (open_places s h lane) i
    (subst (λ xs. In xs i) is.places (In-append_right (owed_places (debts s h lane)) (piece.open_places v.kept.pieces) i member))).0

pub kept_in_lane : (s : Setting) (h : List Entry) (lane : LaneId) (v : LaneView) → IsLane s h lane v → (i : ℕ) → In (piece.open_places v.kept.pieces) i → is_in_lane s lane i ≡ true
kept_in_lane s h lane v is i member = (open_In s h lane i (kept_open s h lane v is i member)).1

-- what an entry leaves of a lane, beside what is open and owed
pub record IsSteady (s : Setting) (h : List Entry) (e : Entry) (lane : LaneId) : Type 0 where
  pub tries : (i : ℕ) → is_in_lane s lane i ≡ true → tries s (e ∷ h) lane.shard i ≡ tries s h lane.shard i
  pub marks : (i : ℕ) → is_in_lane s lane i ≡ true → mark s (e ∷ h) lane.shard i ≡ mark s h lane.shard i
  pub runs : is_running (e ∷ h) lane ≡ is_running h lane
  pub call : last_call (e ∷ h) lane ≡ last_call h lane
  pub failures : failures s (e ∷ h) lane ≡ failures s h lane
  pub end : last_end (e ∷ h) lane ≡ last_end h lane

-- a lane whose pieces, as the entry leaves them, are all that passes and is not owed
pub lane_kept : (s : Setting) (h : List Entry) (e : Entry) (lane : LaneId) (v : LaneView) → IsSteady s h e lane
    → owed_places (debts s (e ∷ h) lane) ++ piece.open_places v.kept.pieces ≡ sorted_places s (e ∷ h) lane → IsLane s h lane v → IsLane s (e ∷ h) lane v
lane_kept s h e lane v steady places is = record {
  places = places;
  pieces = pieces_kept (tags s h lane.shard) (tags s (e ∷ h) lane.shard) v.kept.pieces
      (λ i m. (let here = kept_in_lane s h lane v is i m in record { mark = steady.marks i here; tries = steady.tries i here; found = refl })) is.pieces;
  runs = steady.runs ∙ is.runs;
  call = λ r running. (let c = is.call r running in record { call = c.call; last = steady.call ∙ c.last; places = c.places; within = c.within; closing = c.closing; final = c.final });
  failures = is.failures ∙ sym steady.failures;
  last_end = is.last_end ∙ sym steady.end;
}

-- an entry that leaves what is open and owed too

pub lane_untouched : (s : Setting) (h : List Entry) (e : Entry) (lane : LaneId) (v : LaneView) → IsUntouched s h e lane → IsLane s h lane v → IsLane s (e ∷ h) lane v
lane_untouched s h e lane v same is =
    lane_kept s h e lane v (record { tries = same.tries; marks = same.marks; runs = same.runs; call = same.call; failures = same.failures; end = same.end })
    (ap (λ ds. owed_places ds ++ piece.open_places v.kept.pieces) same.debts ∙ is.places ∙ ap (filter (is_passing s lane.shard)) (sym same.opens)) is

pub lane_of_other : (s : Setting) (h : List Entry) (e : Entry) (lane : LaneId) (v : LaneView) → Legal s (e ∷ h) → IsOfOther lane e → IsLane s h lane v → IsLane s (e ∷ h) lane v
lane_of_other s h e lane v legal other is = lane_untouched s h e lane v (other_untouched s h e lane legal other) is

pub lane_elsewhere : (s : Setting) (h : List Entry) (e : Entry) (lane : LaneId) (v : LaneView) → IsElsewhere lane.shard e → IsLane s h lane v → IsLane s (e ∷ h) lane v
lane_elsewhere s h e lane v off is =
    let same = elsewhere_same s h e lane off in
    lane_untouched s h e lane v (record {
      opens = open_elsewhere s h e lane off;
      tries = λ i here. same.tries i;
      marks = λ i here. same.marks i;
      runs = same.runs;
      call = same.call;
      failures = same.failures;
      end = same.end;
      debts = same.debts;
    }) is

pub lane_shut : (s : Setting) (h : List Entry) (m : ℕ) (lane : LaneId) (v : LaneView) → IsLane s h lane v → IsLane s (Shut m ∷ h) lane v
lane_shut s h m lane v is = lane_untouched s h (Shut m) lane v (record { opens = refl; tries = λ i here. refl; marks = λ i here. refl; runs = refl; call = refl; failures = refl; end = refl; debts = refl }) is

-- what is owed

pub fated_is : (d : Debt) → fated_by d ≡ places_of d
fated_is (Success places state) = refl
fated_is (GiveUp places) = refl
fated_is (Try places closing tries) = refl
fated_is (Close window) = refl

-- the first entry that is owed gives the first of the places a fate
owed_first : (s : Setting) (h : List Entry) (lane : LaneId) (e : Entry) → IsOwed s h lane e → owed_places (debts s h lane) ≡ gave_places e ++ owed_places (drop 1 (debts s h lane))
owed_first s h lane e owed =
    let first = first_debt s h lane e owed in
    ap owed_places first.parts ∙ ap (λ xs. xs ++ owed_places (drop 1 (debts s h lane))) (fated_is first.first ∙ first.places)

-- an entry that gives no fate and is owed
lane_noted : (s : Setting) (h : List Entry) (e : Entry) (lane : LaneId) (v : LaneView) → IsSteady s h e lane → sorted_places s (e ∷ h) lane ≡ sorted_places s h lane → gave_places e ≡ [] → IsOwed s h lane e
    → IsLane s h lane v → IsLane s (e ∷ h) lane v
lane_noted s h e lane v steady same none owed is =
    let owes : owed_places (debts s (e ∷ h) lane) ≡ owed_places (debts s h lane)
    = ap owed_places (debt_paid s h lane e owed) ∙ sym (owed_first s h lane e owed ∙ ap (λ xs. xs ++ owed_places (drop 1 (debts s h lane))) none) in
    lane_kept s h e lane v steady (ap (λ xs. xs ++ piece.open_places v.kept.pieces) owes ∙ is.places ∙ sym same) is

pub lane_tried : (s : Setting) (h : List Entry) (lane : LaneId) (places : List ℕ) (closing : Option ℕ) (t m : ℕ) (v : LaneView) → Legal s (Tried lane places closing t m ∷ h) → IsLane s h lane v → IsLane s (Tried lane places closing t m ∷ h) lane v
lane_tried s h lane places closing t m v legal is =
    lane_noted s h (Tried lane places closing t m) lane v (record { tries = λ i here. refl; marks = λ i here. refl; runs = refl; call = refl; failures = refl; end = refl }) refl refl legal.1.1 is

pub lane_closed : (s : Setting) (h : List Entry) (lane : LaneId) (w m : ℕ) (v : LaneView) → Legal s (Closed lane w m ∷ h) → IsLane s h lane v → IsLane s (Closed lane w m ∷ h) lane v
lane_closed s h lane w m v legal is =
    lane_noted s h (Closed lane w m) lane v (record { tries = λ i here. refl; marks = λ i here. refl; runs = refl; call = refl; failures = refl; end = refl }) refl refl legal.1.1 is

-- fates

-- what is open and passes loses the places
sorted_gave : (s : Setting) (by : Option LaneId) (n : ℕ) (places : List ℕ) (f : Fate) (line : Option (List ℕ)) (state : Option WindowState) (m : ℕ) (h : List Entry) (lane : LaneId)
    → sorted_places s (Gave by n places f line state m ∷ h) lane ≡ filter (λ i. not ((n == lane.shard) && holds places i)) (sorted_places s h lane)
sorted_gave s by n places f line state m h lane =
    let left : ℕ → Bool = λ i. not ((n == lane.shard) && holds places i) in
    ap (filter (is_passing s lane.shard)) (open_gave s by n places f line state m h lane)
    ∙ sym (filter_both left (is_passing s lane.shard) (open_places s h lane))
    ∙ filter_same (λ i. left i && is_passing s lane.shard i) (λ i. is_passing s lane.shard i && left i) (open_places s h lane) (λ i m. either_way (left i) (is_passing s lane.shard i))
    ∙ filter_both (is_passing s lane.shard) left (open_places s h lane)
  where
    either_way : (a b : Bool) → (a && b) ≡ (b && a)
    either_way true true = refl
    either_way true false = refl
    either_way false true = refl
    either_way false false = refl

pub sorted_distinct : (s : Setting) (h : List Entry) (lane : LaneId) → Distinct (sorted_places s h lane)
sorted_distinct s h lane = Distinct-filter (is_passing s lane.shard) (open_places s h lane) (open_distinct s h lane)

-- in the lane's shard, where they stand in front
pub sorted_fronted : (s : Setting) (by : Option LaneId) (n : ℕ) (places : List ℕ) (f : Fate) (line : Option (List ℕ)) (state : Option WindowState) (m : ℕ) (h : List Entry) (lane : LaneId) (ys zs : List ℕ)
    → n ≡ lane.shard → sorted_places s h lane ≡ places ++ (ys ++ zs) → sorted_places s (Gave by n places f line state m ∷ h) lane ≡ ys ++ zs
sorted_fronted s by n places f line state m h lane ys zs same parts =
    sorted_gave s by n places f line state m h lane
    ∙ filter_agree (λ i. not ((n == lane.shard) && holds places i)) (λ i. not (holds places i)) (λ i. ap (λ b. not (b && holds places i)) (eq-eqb n lane.shard same)) (sorted_places s h lane)
    ∙ ap (filter (λ i. not (holds places i))) parts
    ∙ front_removed places ys zs (subst Distinct parts (sorted_distinct s h lane))

gave_steady : (s : Setting) (by : Option LaneId) (n : ℕ) (places : List ℕ) (f : Fate) (line : Option (List ℕ)) (state : Option WindowState) (m : ℕ) (h : List Entry) (lane : LaneId) → IsSteady s h (Gave by n places f line state m) lane
gave_steady s by n places f line state m h lane = record { tries = λ i here. refl; marks = λ i here. refl; runs = refl; call = refl; failures = refl; end = refl }

-- that the lane owes
lane_paid : (s : Setting) (h : List Entry) (lane : LaneId) (n : ℕ) (places : List ℕ) (f : Fate) (line : Option (List ℕ)) (state : Option WindowState) (m : ℕ) (v : LaneView)
    → n ≡ lane.shard → IsOwed s h lane (Gave (Some lane) n places f line state m) → IsLane s h lane v → IsLane s (Gave (Some lane) n places f line state m ∷ h) lane v
lane_paid s h lane n places f line state m v shard owed is =
    let e = Gave (Some lane) n places f line state m in
    let left = owed_places (drop 1 (debts s h lane)) in
    let kept = piece.open_places v.kept.pieces in
    let parts : sorted_places s h lane ≡ places ++ (left ++ kept) = sym is.places ∙ ap (λ xs. xs ++ kept) (owed_first s h lane e owed) ∙ append_assoc places left kept in
    lane_kept s h e lane v (gave_steady s (Some lane) n places f line state m h lane)
    (ap (λ ds. owed_places ds ++ kept) (debt_paid s h lane e owed) ∙ sym (sorted_fronted s (Some lane) n places f line state m h lane left kept shard parts)) is

pub lane_succeeded : (s : Setting) (h : List Entry) (lane : LaneId) (n : ℕ) (places : List ℕ) (line : Option (List ℕ)) (state : Option WindowState) (m : ℕ) (v : LaneView)
    → Legal s (Gave (Some lane) n places Succeeded line state m ∷ h) → IsLane s h lane v → IsLane s (Gave (Some lane) n places Succeeded line state m ∷ h) lane v
lane_succeeded s h lane n places line state m v legal is = lane_paid s h lane n places Succeeded line state m v (gave_In s h lane n places Succeeded line state m legal).0 legal.1.1 is

pub lane_exhausted : (s : Setting) (h : List Entry) (lane : LaneId) (n : ℕ) (places : List ℕ) (line : Option (List ℕ)) (state : Option WindowState) (m : ℕ) (v : LaneView)
    → Legal s (Gave (Some lane) n places Exhausted line state m ∷ h) → IsLane s h lane v → IsLane s (Gave (Some lane) n places Exhausted line state m ∷ h) lane v
lane_exhausted s h lane n places line state m v legal is = lane_paid s h lane n places Exhausted line state m v (gave_In s h lane n places Exhausted line state m legal).0 legal.1.1 is

-- of records that do not pass
pub lane_filtered : (s : Setting) (h : List Entry) (lane : LaneId) (n : ℕ) (places : List ℕ) (line : Option (List ℕ)) (state : Option WindowState) (m : ℕ) (v : LaneView)
    → Legal s (Gave None n places Filtered line state m ∷ h) → IsLane s h lane v → IsLane s (Gave None n places Filtered line state m ∷ h) lane v
lane_filtered s h lane n places line state m v legal is =
    lane_kept s h (Gave None n places Filtered line state m) lane v (gave_steady s None n places Filtered line state m h lane)
    (is.places ∙ sym (ap (filter (is_passing s lane.shard)) (open_gave s None n places Filtered line state m h lane)
    ∙ sym (filter_both (λ i. not ((n == lane.shard) && holds places i)) (is_passing s lane.shard) (open_places s h lane))
    ∙ filter_same (λ i. not ((n == lane.shard) && holds places i) && is_passing s lane.shard i) (is_passing s lane.shard) (open_places s h lane) (λ i m. at ((n == lane.shard) && holds places i) (is_passing s lane.shard i) (refused i)))) is
  where
    at : (a b : Bool) → (a ≡ true → b ≡ false) → (not a && b) ≡ b
    at true b h = sym (h refl)
    at false b h = refl

    refused : (i : ℕ) → ((n == lane.shard) && holds places i) ≡ true → is_passing s lane.shard i ≡ false
    refused i both =
        let parts = and_parts (n == lane.shard) (holds places i) both in
        let e : n ≡ lane.shard = eqb-true n lane.shard parts.0 in
        let inside : In (unsorted s h lane.shard) i = subst (λ k. In (unsorted s h k) i) e (subst (λ xs. In xs i) legal.1.1.exact parts.1) in
        ap not (and_parts (lacks_fate s h lane.shard i) (unwrap_or (option_map (is_refused s) (record_at s lane.shard i)) false) (In-filter (is_unsorted s h lane.shard) (below (came_count h lane.shard)) i inside).1).1
