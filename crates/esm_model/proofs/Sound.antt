-- What holds of each legal history: what a lane runs or owes is a front of its open records.
use Rattle.std.proofs.Common.{◌≡◌, ℕ, ◌+◌, ◌<◌, Bool, true, false, not, cond, ◌&&◌, List, [], ◌∷◌, ◌++◌, take, drop, refl, sym, ap, ◌∙◌, subst, inl, inr, Option, Some, None, append_assoc}
use Rattle.std.specs.Prelude.{◌==◌, filter, option_map, unwrap_or, slice_index}
use Rattle.std.specs.List.{prefix_len}
use Rattle.std.proofs.lemmas.List.Elements.{filter_agree}
use Rattle.std.proofs.lemmas.Bool.{cases_Bool, and_parts, and_from, eq-eqb, eqb-true}
use Rattle.esm_model.specs.declared.limits.TheConstants.{MAX_EXPIRED}
use Rattle.esm_model.specs.Lane.{lane_of, same_lane}
use Rattle.esm_model.specs.Filter.{passes}
use Rattle.esm_model.specs.Records.{Record}
use Rattle.esm_model.specs.declared.lane.LaneId.{LaneId}
use Rattle.esm_model.specs.declared.entry.Fate.{Fate}
use Rattle.esm_model.specs.declared.entry.Fate.TheVariants.{Succeeded, Filtered, Expired, Exhausted}
use Rattle.esm_model.specs.declared.entry.Reply.{Reply}
use Rattle.esm_model.specs.declared.entry.WindowState.{WindowState}
use Rattle.esm_model.specs.declared.entry.Entry.{Entry}
use Rattle.esm_model.specs.declared.entry.Entry.TheVariants.{Came, Began, Ended, Gave, Tried, Closed, Replayed, Shut}
use Rattle.esm_model.specs.Setting.{Setting, is_in_lane, record_at}
use Rattle.esm_model.specs.Entries.{holds, came_count, is_running, last_call, batch_of}
use Rattle.esm_model.specs.Fates.{below, lacks_fate, open_places}
use Rattle.esm_model.specs.Batches.{is_expired, group, same_piece}
use Rattle.esm_model.specs.Owed.{Debt, debts, end_debts, is_refused, is_unsorted, unsorted, pays, IsOwed}
use Rattle.esm_model.specs.Step.{Legal, MayFollow, MayBegin, MayBeginFinal, MayFilter, MayExpire}
use Rattle.esm_model.proofs.Lists.{In, IsFront, Distinct, Distinct-filter, Distinct-below, In-filter, filter-In, In-below, below-In, front_filter, front_removed, front_front, front_In, take_front, filter_all, In-append_right, In-none}
use Rattle.esm_model.proofs.Steps.{lane_from, same_lane-refl, open_gave, open_came, batch_front, span}
use Rattle.esm_model.proofs.Debts.{debt_places, gave_places, end_places, IsFirstDebt, first_debt, debt_paid, gives_in_shard}

-- what the lane runs, or owes
abbrev pub pending : Setting → List Entry → LaneId → List ℕ
pending s h lane = cond (is_running h lane) (batch_of (last_call h lane)) (debt_places (debts s h lane))

abbrev pub is_sorted_place : Setting → ℕ → ℕ → Bool
is_sorted_place s n i = unwrap_or (option_map (λ (r : Record). passes s.config.filters r) (record_at s n i)) true

pub record IsSoundAt (s : Setting) (h : List Entry) (lane : LaneId) : Type 0 where
  pub front : IsFront (pending s h lane) (open_places s h lane)
  pub sorted : (i : ℕ) → In (pending s h lane) i → is_sorted_place s lane.shard i ≡ true
  pub quiet : is_running h lane ≡ true → debts s h lane ≡ []

abbrev pub Sound : Setting → List Entry → Type 0
Sound s h = (lane : LaneId) → IsSoundAt s h lane

pub same_lane-true : (a b : LaneId) → same_lane a b ≡ true → a ≡ b
same_lane-true a b h =
    let parts = and_parts (a.shard == b.shard) (a.lane == b.lane) h in
    let shards : a.shard ≡ b.shard = eqb-true a.shard b.shard parts.0 in
    let lanes : a.lane ≡ b.lane = eqb-true a.lane b.lane parts.1 in
    lane_from a b shards lanes

-- an open place came, is in the lane, and has no fate
pub open_In : (s : Setting) (h : List Entry) (lane : LaneId) (i : ℕ) → In (open_places s h lane) i → (i < came_count h lane.shard) × (is_in_lane s lane i ≡ true) × (lacks_fate s h lane.shard i ≡ true)
open_In s h lane i m =
    let both = In-filter (λ k. is_in_lane s lane k && lacks_fate s h lane.shard k) (below (came_count h lane.shard)) i m in
    let parts = and_parts (is_in_lane s lane i) (lacks_fate s h lane.shard i) both.1 in
    (In-below (came_count h lane.shard) i both.0, parts.0, parts.1)

pub open_distinct : (s : Setting) (h : List Entry) (lane : LaneId) → Distinct (open_places s h lane)
open_distinct s h lane = Distinct-filter (λ k. is_in_lane s lane k && lacks_fate s h lane.shard k) (below (came_count h lane.shard)) (Distinct-below (came_count h lane.shard))

-- a place is in one lane of its shard
one_lane_at : (o : Option Record) (f : ℕ) (a b : ℕ) → unwrap_or (option_map (λ (r : Record). lane_of r.key f == a) o) false ≡ true → unwrap_or (option_map (λ (r : Record). lane_of r.key f == b) o) false ≡ true → a ≡ b
one_lane_at None f a b x y = cc
one_lane_at (Some r) f a b x y = sym (eqb-true (lane_of r.key f) a x) ∙ eqb-true (lane_of r.key f) b y

pub one_lane : (s : Setting) (a b : LaneId) (i : ℕ) → a.shard ≡ b.shard → is_in_lane s a i ≡ true → is_in_lane s b i ≡ true → a ≡ b
one_lane s a b i same x y =
    let there : unwrap_or (option_map (λ (r : Record). lane_of r.key s.config.factor == a.lane) (record_at s b.shard i)) false ≡ true = subst (λ n. unwrap_or (option_map (λ (r : Record). lane_of r.key s.config.factor == a.lane) (record_at s n i)) false ≡ true) same x in
    lane_from a b same (one_lane_at (record_at s b.shard i) s.config.factor a.lane b.lane there y)

-- each step keeps it

sound_came : (s : Setting) (h : List Entry) (n first count m : ℕ) → Sound s h → Sound s (Came n first count m ∷ h)
sound_came s h n first count m sound lane =
    let was = sound lane in
    record {
      front = elim (cases_Bool (n == lane.shard)) [
        | inl same ↦ (let more = open_came s n first count m h lane (eqb-true n lane.shard same) in
            (was.front.0 ++ new_in s h lane count, more ∙ ap (λ zs. zs ++ new_in s h lane count) was.front.1 ∙ append_assoc (pending s h lane) was.front.0 (new_in s h lane count)))
        | inr other ↦ (was.front.0, ap (λ k. filter (λ i. is_in_lane s lane i && lacks_fate s h lane.shard i) (below k)) (cond_at (n == lane.shard) (count + came_count h lane.shard) (came_count h lane.shard) other) ∙ was.front.1)
      ];
      sorted = was.sorted;
      quiet = was.quiet;
    }
  where
    cond_at : (b : Bool) (x y : ℕ) → b ≡ false → cond b x y ≡ y
    cond_at b x y e = rw e refl

    new_in : (s : Setting) (h : List Entry) (lane : LaneId) (count : ℕ) → List ℕ
    new_in s h lane count = filter (λ i. is_in_lane s lane i && lacks_fate s h lane.shard i) (span (came_count h lane.shard) count)

sound_shut : (s : Setting) (h : List Entry) (m : ℕ) → Sound s h → Sound s (Shut m ∷ h)
sound_shut s h m sound lane = let was = sound lane in record { front = was.front; sorted = was.sorted; quiet = was.quiet }

-- an open place that is settled passes the filter
settled_sorted : (s : Setting) (h : List Entry) (n i : ℕ) → unsorted s h n ≡ [] → i < came_count h n → lacks_fate s h n i ≡ true → is_sorted_place s n i ≡ true
settled_sorted s h n i none came lacks =
    elim (cases_Bool (is_sorted_place s n i)) [
      | inl good ↦ good
      | inr bad ↦ absurd (In-none i (subst (λ xs. In xs i) none
          (filter-In (is_unsorted s h n) (below (came_count h n)) i (below-In (came_count h n) i came)
          (and_from (lacks_fate s h n i) (unwrap_or (option_map (is_refused s) (record_at s n i)) false) lacks (bad_at (record_at s n i) bad)))))
    ]
  where
    bad_at : (o : Option Record) → unwrap_or (option_map (λ (r : Record). passes s.config.filters r) o) true ≡ false → unwrap_or (option_map (is_refused s) o) false ≡ true
    bad_at None e = cc
    bad_at (Some r) e = ap not e

sound_began : (s : Setting) (h : List Entry) (at : LaneId) (places : List ℕ) (m : ℕ) → MayBegin s h at places m → Sound s h → Sound s (Began at places None m ∷ h)
sound_began s h at places m may sound lane =
    let was = sound lane in
    elim (cases_Bool (same_lane at lane)) [
      | inl same ↦ (
          let e : at ≡ lane = same_lane-true at lane same in
          let cut = batch_front s h at m in
          let exact : places ≡ take cut.0 (open_places s h lane) = may.exact ∙ cut.1 ∙ ap (λ l. take cut.0 (open_places s h l)) e in
          let front : IsFront places (open_places s h lane) = subst (λ xs. IsFront xs (open_places s h lane)) (sym exact) (take_front cut.0 (open_places s h lane)) in
          let sorted : (i : ℕ) → In places i → is_sorted_place s lane.shard i ≡ true =
          λ i member. (let facts = open_In s h lane i (front_In places (open_places s h lane) i front member) in
          settled_sorted s h lane.shard i (may.call.settled.sorted lane.shard) facts.0 facts.2) in
          record { front = rw same front; sorted = rw same sorted; quiet = rw same (λ _. refl) })
      | inr other ↦ record { front = rw other was.front; sorted = rw other was.sorted; quiet = rw other was.quiet }
    ]

sound_final : (s : Setting) (h : List Entry) (at : LaneId) (places : List ℕ) (w m : ℕ) → MayBeginFinal s h at places w m → Sound s h → Sound s (Began at places (Some w) m ∷ h)
sound_final s h at places w m may sound lane =
    let was = sound lane in
    elim (cases_Bool (same_lane at lane)) [
      | inl same ↦ (
          let front : IsFront places (open_places s h lane) = subst (λ xs. IsFront xs (open_places s h lane)) (sym may.no_places) (open_places s h lane, refl) in
          let sorted : (i : ℕ) → In places i → is_sorted_place s lane.shard i ≡ true = λ i member. absurd (In-none i (subst (λ xs. In xs i) may.no_places member)) in
          record { front = rw same front; sorted = rw same sorted; quiet = rw same (λ _. refl) })
      | inr other ↦ record { front = rw other was.front; sorted = rw other was.sorted; quiet = rw other was.quiet }
    ]

sound_ended : (s : Setting) (h : List Entry) (at : LaneId) (reply : Reply) (m : ℕ) → is_running h at ≡ true → Sound s h → Sound s (Ended at reply m ∷ h)
sound_ended s h at reply m runs sound lane =
    let was = sound lane in
    let batch = batch_of (last_call h lane) in
    let owes = debt_places (end_debts s h lane reply) in
    elim (cases_Bool (same_lane at lane)) [
      | inl same ↦ (
          let e : at ≡ lane = same_lane-true at lane same in
          let ran : is_running h lane ≡ true = subst (λ l. is_running h l ≡ true) e runs in
          let batch_front : IsFront batch (open_places s h lane) = rw ran at was.front in
          let batch_sorted : (i : ℕ) → In batch i → is_sorted_place s lane.shard i ≡ true = rw ran at was.sorted in
          let of_batch : IsFront owes batch = end_places s h lane reply in
          let front : IsFront owes (open_places s h lane) = front_front owes batch (open_places s h lane) of_batch batch_front in
          let sorted : (i : ℕ) → In owes i → is_sorted_place s lane.shard i ≡ true = λ i member. batch_sorted i (front_In owes batch i of_batch member) in
          record { front = rw same front; sorted = rw same sorted; quiet = rw same (λ never. cc) })
      | inr other ↦ record { front = rw other was.front; sorted = rw other was.sorted; quiet = rw other was.quiet }
    ]

-- in a lane that has none of the places, nothing changes
pub untouched : (s : Setting) (h : List Entry) (by : Option LaneId) (n : ℕ) (places : List ℕ) (f : Fate) (line : Option (List ℕ)) (state : Option WindowState) (m : ℕ) (lane : LaneId)
    → ((i : ℕ) → n ≡ lane.shard → In places i → In (open_places s h lane) i → ⊥)
    → open_places s (Gave by n places f line state m ∷ h) lane ≡ open_places s h lane
untouched s h by n places f line state m lane none =
    open_gave s by n places f line state m h lane
    ∙ filter_all (λ i. not ((n == lane.shard) && holds places i)) (open_places s h lane)
    (λ i member. ap not (and_apart (n == lane.shard) (holds places i) (λ e inside. none i (eqb-true n lane.shard e) inside member)))
  where
    and_apart : (a b : Bool) → (a ≡ true → b ≡ true → ⊥) → (a && b) ≡ false
    and_apart true true h = absurd (h refl refl)
    and_apart true false h = refl
    and_apart false b h = refl

-- in the lane itself the front goes
fronted : (s : Setting) (h : List Entry) (by : Option LaneId) (n : ℕ) (places : List ℕ) (f : Fate) (line : Option (List ℕ)) (state : Option WindowState) (m : ℕ) (lane : LaneId) (ys zs : List ℕ)
    → n ≡ lane.shard → open_places s h lane ≡ places ++ (ys ++ zs)
    → open_places s (Gave by n places f line state m ∷ h) lane ≡ ys ++ zs
fronted s h by n places f line state m lane ys zs same parts =
    open_gave s by n places f line state m h lane
    ∙ filter_agree (λ i. not ((n == lane.shard) && holds places i)) (λ i. not (holds places i)) (λ i. ap (λ b. not (b && holds places i)) (eq-eqb n lane.shard same)) (open_places s h lane)
    ∙ ap (filter (λ i. not (holds places i))) parts
    ∙ front_removed places ys zs (subst Distinct parts (open_distinct s h lane))

-- the places of a front of a lane's open records are in no other lane
pub elsewhere : (s : Setting) (h : List Entry) (at lane : LaneId) (places : List ℕ) → same_lane at lane ≡ false → IsFront places (open_places s h at) → (i : ℕ) → at.shard ≡ lane.shard → In places i → In (open_places s h lane) i → ⊥
elsewhere s h at lane places other front i same a b =
    let there = open_In s h at i (front_In places (open_places s h at) i front a) in
    let here = open_In s h lane i b in
    let e : at ≡ lane = one_lane s at lane i same there.1 here.1 in
    let equal : same_lane at lane ≡ true = subst (λ l. same_lane at l ≡ true) e (same_lane-refl at) in
    (let clash : true ≡ false = sym equal ∙ other in cc)

sound_filtered : (s : Setting) (h : List Entry) (n : ℕ) (places : List ℕ) (line : Option (List ℕ)) (state : Option WindowState) (m : ℕ) → MayFilter s h n places line state m → Sound s h → Sound s (Gave None n places Filtered line state m ∷ h)
sound_filtered s h n places line state m may sound lane =
    let was = sound lane in
    record {
      front = subst (IsFront (pending s h lane)) (sym (open_gave s None n places Filtered line state m h lane))
          (front_filter (λ i. not ((n == lane.shard) && holds places i)) (pending s h lane) (open_places s h lane) (λ i member. ap not (kept i member)) was.front);
      sorted = was.sorted;
      quiet = was.quiet;
    }
  where
    both_apart : (a b : Bool) → (a ≡ true → b ≡ true → ⊥) → (a && b) ≡ false
    both_apart true true h = absurd (h refl refl)
    both_apart true false h = refl
    both_apart false b h = refl

    clash_at : (o : Option Record) (lacks : Bool) → unwrap_or (option_map (λ (r : Record). passes s.config.filters r) o) true ≡ true → (lacks && unwrap_or (option_map (is_refused s) o) false) ≡ true → ⊥
    clash_at None true a b = cc
    clash_at None false a b = cc
    clash_at (Some r) false a b = cc
    clash_at (Some r) true a b = (let c : false ≡ true = sym (ap not a) ∙ b in cc)

    was_sorted : (i : ℕ) → In (pending s h lane) i → is_sorted_place s lane.shard i ≡ true
    was_sorted i member = (sound lane).sorted i member

    kept : (i : ℕ) → In (pending s h lane) i → ((n == lane.shard) && holds places i) ≡ false
    kept i member = both_apart (n == lane.shard) (holds places i) (λ same inside.
        let e : n ≡ lane.shard = eqb-true n lane.shard same in
        let unsorted_too : In (unsorted s h lane.shard) i = subst (λ k. In (unsorted s h k) i) e (subst (λ xs. In xs i) may.exact inside) in
        clash_at (record_at s lane.shard i) (lacks_fate s h lane.shard i) (was_sorted i member) (In-filter (is_unsorted s h lane.shard) (below (came_count h lane.shard)) i unsorted_too).1)

-- a lane that owes something rests
no_debt : (ds : List Debt) (d : Debt) → ds ≡ [] → ds ≡ d ∷ drop 1 ds → ⊥
no_debt ds d none some = cc

pub record IsPaid (s : Setting) (h : List Entry) (at : LaneId) (e : Entry) : Type 0 where
  pub first : IsFirstDebt s h at e
  pub rests : is_running h at ≡ false
  pub pend : pending s h at ≡ gave_places e ++ debt_places (drop 1 (debts s h at))

pub paid : (s : Setting) (h : List Entry) (at : LaneId) (e : Entry) → IsOwed s h at e → IsSoundAt s h at → IsPaid s h at e
paid s h at e owed was =
    let first = first_debt s h at e owed in
    let rests : is_running h at ≡ false = elim (cases_Bool (is_running h at)) [
      | inl runs ↦ absurd (no_debt (debts s h at) first.first (was.quiet runs) first.parts)
      | inr rests ↦ rests
    ] in
    record {
      first = first;
      rests = rests;
      pend = rw rests (ap debt_places first.parts ∙ ap (λ xs. xs ++ debt_places (drop 1 (debts s h at))) first.places);
    }

-- a `Gave` that the lane owes
sound_paid : (s : Setting) (h : List Entry) (at : LaneId) (n : ℕ) (places : List ℕ) (f : Fate) (line : Option (List ℕ)) (state : Option WindowState) (m : ℕ)
    → IsOwed s h at (Gave (Some at) n places f line state m) → Sound s h → Sound s (Gave (Some at) n places f line state m ∷ h)
sound_paid s h at n places f line state m owed sound lane =
    let was = sound at in
    let is = paid s h at (Gave (Some at) n places f line state m) owed was in
    let in_shard : n ≡ at.shard = gives_in_shard s h at _ is.first.first (Some at) n places f line state m is.first.brings in
    let rest = debt_places (drop 1 (debts s h at)) in
    let parts : open_places s h at ≡ places ++ (rest ++ was.front.0) = was.front.1 ∙ ap (λ xs. xs ++ was.front.0) is.pend ∙ append_assoc places rest was.front.0 in
    let owes : debts s (Gave (Some at) n places f line state m ∷ h) at ≡ drop 1 (debts s h at) = debt_paid s h at (Gave (Some at) n places f line state m) owed in
    let pend : pending s (Gave (Some at) n places f line state m ∷ h) at ≡ rest = rw is.rests (ap debt_places owes) in
    let here : IsSoundAt s (Gave (Some at) n places f line state m ∷ h) at = record {
      front = subst (λ xs. IsFront xs (open_places s (Gave (Some at) n places f line state m ∷ h) at)) (sym pend) (was.front.0, fronted s h (Some at) n places f line state m at rest was.front.0 in_shard parts);
      sorted = λ i member. was.sorted i (subst (λ xs. In xs i) (sym is.pend) (In-append_right places rest i (subst (λ xs. In xs i) pend member)));
      quiet = λ runs. (let clash : true ≡ false = sym runs ∙ is.rests in cc);
    } in
    elim (cases_Bool (same_lane at lane)) [
      | inl same ↦ subst (λ l. IsSoundAt s (Gave (Some at) n places f line state m ∷ h) l) (same_lane-true at lane same) here
      | inr other ↦ (
          let front_at : IsFront places (open_places s h at) = (rest ++ was.front.0, parts) in
          let same_open = untouched s h (Some at) n places f line state m lane (λ i k inside. elsewhere s h at lane places other front_at i (sym in_shard ∙ k) inside) in
          let there = sound lane in
          let owes_there : debts s (Gave (Some at) n places f line state m ∷ h) lane ≡ debts s h lane = rw other in
          let pend_there : pending s (Gave (Some at) n places f line state m ∷ h) lane ≡ pending s h lane = ap (λ es. cond (is_running h lane) (batch_of (last_call h lane)) (debt_places es)) owes_there in
          record {
            front = (there.front.0, same_open ∙ there.front.1 ∙ ap (λ xs. xs ++ there.front.0) (sym pend_there));
            sorted = λ i member. there.sorted i (subst (λ xs. In xs i) pend_there member);
            quiet = λ runs. owes_there ∙ there.quiet runs;
          })
    ]

pub expired_front : (s : Setting) (h : List Entry) (at : LaneId) (n : ℕ) (places : List ℕ) (line : Option (List ℕ)) (state : Option WindowState) (m : ℕ) → MayExpire s h at n places line state m → IsFront places (open_places s h at)
expired_front s h at n places line state m may =
    let p = prefix_len (is_expired s at.shard m) (group s h at) in
    let q = prefix_len (same_piece s h at.shard (slice_index (open_places s h at) 0)) (open_places s h at) in
    let inner : IsFront (take p (group s h at)) (open_places s h at) = front_front (take p (group s h at)) (group s h at) (open_places s h at) (take_front p (group s h at)) (take_front q (open_places s h at)) in
    subst (λ xs. IsFront xs (open_places s h at)) (sym may.exact) (front_front (take MAX_EXPIRED (take p (group s h at))) (take p (group s h at)) (open_places s h at) (take_front MAX_EXPIRED (take p (group s h at))) inner)

sound_expired : (s : Setting) (h : List Entry) (at : LaneId) (n : ℕ) (places : List ℕ) (line : Option (List ℕ)) (state : Option WindowState) (m : ℕ)
    → MayExpire s h at n places line state m → Sound s h → Sound s (Gave (Some at) n places Expired line state m ∷ h)
sound_expired s h at n places line state m may sound lane =
    let front_at : IsFront places (open_places s h at) = expired_front s h at n places line state m may in
    let there = sound lane in
    let paid_up : debts s h lane ≡ [] = may.settled.paid lane in
    let owes : debts s (Gave (Some at) n places Expired line state m ∷ h) lane ≡ [] = dropped (pays lane (debts s h lane) (Gave (Some at) n places Expired line state m)) (debts s h lane) paid_up in
    elim (cases_Bool (same_lane at lane)) [
      | inl is ↦ (
          let rests : is_running h lane ≡ false = subst (λ l. is_running h l ≡ false) (same_lane-true at lane is) may.rests in
          let pend : pending s (Gave (Some at) n places Expired line state m ∷ h) lane ≡ [] = rw rests (ap debt_places owes) in
          record {
            front = subst (λ xs. IsFront xs (open_places s (Gave (Some at) n places Expired line state m ∷ h) lane)) (sym pend) (open_places s (Gave (Some at) n places Expired line state m ∷ h) lane, refl);
            sorted = λ i member. absurd (In-none i (subst (λ xs. In xs i) pend member));
            quiet = λ runs. owes;
          })
      | inr other ↦ (
          let same_open = untouched s h (Some at) n places Expired line state m lane (λ i k inside. elsewhere s h at lane places other front_at i (sym may.shard ∙ k) inside) in
          let pend_there : pending s (Gave (Some at) n places Expired line state m ∷ h) lane ≡ pending s h lane = ap (λ es. cond (is_running h lane) (batch_of (last_call h lane)) (debt_places es)) (owes ∙ sym paid_up) in
          record {
            front = (there.front.0, same_open ∙ there.front.1 ∙ ap (λ xs. xs ++ there.front.0) (sym pend_there));
            sorted = λ i member. there.sorted i (subst (λ xs. In xs i) pend_there member);
            quiet = λ runs. owes;
          })
    ]
  where
    dropped : (b : Bool) (es : List Debt) → es ≡ [] → cond b (drop 1 es) es ≡ []
    dropped true es e = ap (drop 1) e
    dropped false es e = e

-- an entry that gives no fate, and that the lane owes
sound_noted_at : (s : Setting) (h : List Entry) (at : LaneId) (e : Entry) (lane : LaneId)
    → IsOwed s h at e → gave_places e ≡ [] → open_places s (e ∷ h) lane ≡ open_places s h lane → is_running (e ∷ h) lane ≡ is_running h lane → batch_of (last_call (e ∷ h) lane) ≡ batch_of (last_call h lane)
    → (same_lane at lane ≡ false → debts s (e ∷ h) lane ≡ debts s h lane)
    → Sound s h → IsSoundAt s (e ∷ h) lane
sound_noted_at s h at e lane owed none same_open same_run same_batch owes sound =
    let there = sound lane in
    elim (cases_Bool (same_lane at lane)) [
      | inl same ↦ (
          let k : at ≡ lane = same_lane-true at lane same in
          let here : IsOwed s h lane e = subst (λ l. IsOwed s h l e) k owed in
          let is = paid s h lane e here there in
          let left : debts s (e ∷ h) lane ≡ drop 1 (debts s h lane) = debt_paid s h lane e here in
          let rests : is_running (e ∷ h) lane ≡ false = same_run ∙ is.rests in
          let pend : pending s (e ∷ h) lane ≡ pending s h lane = ap (λ b. cond b (batch_of (last_call (e ∷ h) lane)) (debt_places (debts s (e ∷ h) lane))) rests ∙ ap debt_places left ∙ ap (λ xs. xs ++ debt_places (drop 1 (debts s h lane))) (sym none) ∙ sym is.pend in
          record {
            front = (there.front.0, same_open ∙ there.front.1 ∙ ap (λ xs. xs ++ there.front.0) (sym pend));
            sorted = λ i member. there.sorted i (subst (λ xs. In xs i) pend member);
            quiet = λ runs. (let clash : true ≡ false = sym runs ∙ rests in cc);
          })
      | inr other ↦ (
          let left : debts s (e ∷ h) lane ≡ debts s h lane = owes other in
          let pend : pending s (e ∷ h) lane ≡ pending s h lane = pend_at (is_running (e ∷ h) lane) (is_running h lane) (batch_of (last_call (e ∷ h) lane)) (batch_of (last_call h lane)) (debts s (e ∷ h) lane) (debts s h lane) same_run same_batch left in
          record {
            front = (there.front.0, same_open ∙ there.front.1 ∙ ap (λ xs. xs ++ there.front.0) (sym pend));
            sorted = λ i member. there.sorted i (subst (λ xs. In xs i) pend member);
            quiet = λ runs. left ∙ there.quiet (sym same_run ∙ runs);
          })
    ]
  where
    pend_at : (a b : Bool) (xs ys : List ℕ) (es fs : List Debt) → a ≡ b → xs ≡ ys → es ≡ fs → cond a xs (debt_places es) ≡ cond b ys (debt_places fs)
    pend_at a b xs ys es fs p q r = cc

-- each legal history is sound
pub sound_step : (s : Setting) (h : List Entry) (e : Entry) → MayFollow s h e → Sound s h → Sound s (e ∷ h)
sound_step s h (Came n first count m) may sound = sound_came s h n first count m sound
sound_step s h (Began at places None m) may sound = sound_began s h at places m may sound
sound_step s h (Began at places (Some w) m) may sound = sound_final s h at places w m may sound
sound_step s h (Ended at reply m) may sound = sound_ended s h at reply m may sound
sound_step s h (Gave None n places Filtered line state m) may sound = sound_filtered s h n places line state m may sound
sound_step s h (Gave None n places Succeeded line state m) may sound = absurd may
sound_step s h (Gave None n places Expired line state m) may sound = absurd may
sound_step s h (Gave None n places Exhausted line state m) may sound = absurd may
sound_step s h (Gave (Some at) n places Filtered line state m) may sound = absurd may
sound_step s h (Gave (Some at) n places Succeeded line state m) may sound = sound_paid s h at n places Succeeded line state m may sound
sound_step s h (Gave (Some at) n places Expired line state m) may sound = sound_expired s h at n places line state m may sound
sound_step s h (Gave (Some at) n places Exhausted line state m) may sound = sound_paid s h at n places Exhausted line state m may sound
sound_step s h (Tried at places c t m) may sound = λ lane. sound_noted_at s h at (Tried at places c t m) lane may refl refl refl refl (λ other. rw other refl) sound
sound_step s h (Closed at w m) may sound = λ lane. sound_noted_at s h at (Closed at w m) lane may refl refl refl refl (λ other. rw other refl) sound
sound_step s h (Replayed n places m) may sound = absurd may
sound_step s h (Shut m) may sound = sound_shut s h m sound

pub sound : (s : Setting) (h : List Entry) → Legal s h → Sound s h
sound s [] legal = λ lane. record { front = ([], refl); sorted = λ i member. absurd (In-none i member); quiet = λ runs. refl }
sound s (e ∷ h) legal = sound_step s h e legal.1.1 (sound s h legal.0)
