-- What becomes of a named record: it waits to be called, is replayed or owed, or its last call left it.
use Rattle.std.proofs.Common.{◌≡◌, ◌⊎◌, ℕ, zero, suc, ◌+◌, ◌<◌, ◌≤◌, Bool, true, false, ◌&&◌, List, [], ◌∷◌, ◌++◌, length, take, drop, refl, sym, ap, ◌∙◌, subst, inl, inr, arith, Option, Some, None}
use Rattle.std.specs.Prelude.{◌==◌, nat_lt, not, filter, option_map, unwrap_or}
use Rattle.std.proofs.Math.Seq.{drop-append_seam}
use Rattle.std.proofs.lemmas.Bool.{cases_Bool, cases_lt, and_parts, eqb-true, or_left, or_right}
use Rattle.std.proofs.lemmas.Option.{slice_get_cases}
use Rattle.esm_model.specs.Records.{Record}
use Rattle.esm_model.specs.declared.lane.LaneId.{LaneId}
use Rattle.esm_model.specs.declared.verdict.Rest.{Rest}
use Rattle.esm_model.specs.declared.verdict.Rest.TheVariants.{Nothing, Again, Counted, Split, Exhausted}
use Rattle.esm_model.specs.declared.entry.Reply.{Reply}
use Rattle.esm_model.specs.declared.entry.Entry.{Entry}
use Rattle.esm_model.specs.declared.entry.Entry.TheVariants.{Came, Began, Ended, Gave, Tried, Closed, Replayed, Shut}
use Rattle.esm_model.specs.Setting.{Stream, records_in as listed, records_of}
use Rattle.esm_model.specs.Entries.{holds}
use Rattle.esm_model.specs.Fates.{below}
use Rattle.esm_model.proofs.Lists.{In, In-here, In-there, In-cases, In-append_left}
use Rattle.esm_replay_model.specs.ReplaySetting.{ReplaySetting, is_given_up, is_in_lines, is_found_replayed, is_in_ranges, is_named, named_places}
use Rattle.esm_replay_model.specs.Pieces.{ReplayPiece, piece, ahead, inserted, rising_shards, named_pieces, first_pieces, next_call, replay_verdict, succeeded_of, remaining_of, split_ahead, pieces_after_call}
use Rattle.esm_replay_model.specs.ReplayRun.{replay_lane, call_out, owed_replay, pieces_left, MayBeginReplay, MayEndReplay, MayReplay, IsReplay}
use Rattle.esm_replay_model.specs.ReplayReport.{is_replayed}
use Rattle.esm_replay_model.specs.ReplayLaws.{IsNoSplit, LeftByLast, ReplayedOrLeft}
use Rattle.esm_replay_model.proofs.Counting.{times, times-append, In-times, in_piece, in_pieces, in_piece-own, in_piece-append, in_piece-cut, in_ahead}
use Rattle.esm_replay_model.proofs.Runs.{IsFirstOf, first_of, Keeps, keeps}

-- a named record stands in the first list

times-filter_there : (p : ℕ → Bool) (xs : List ℕ) (i : ℕ) → p i ≡ true → times xs i ≤ times (filter p xs) i
times-filter_there p [] i is = omega arith
times-filter_there p (x ∷ xs) i is =
    let behind : times xs i ≤ times (filter p xs) i = times-filter_there p xs i is in
    elim (cases_Bool (p x)) [
      | inl passes ↦ rw passes (omega arith)
      | inr fails ↦ elim (cases_Bool (x == i)) [
        | inl same ↦ absurd (let clash : true ≡ false = sym is ∙ (ap p (sym (eqb-true x i same)) ∙ fails) in cc)
        | inr other ↦ rw (fails, other) (omega arith)
      ]
    ]

times-below_there : (n i : ℕ) → i < n → 1 ≤ times (below n) i
times-below_there zero i low = absurd (omega arith)
times-below_there (suc n) i low =
    let both : times (below n ++ n ∷ []) i ≡ times (below n) i + times (n ∷ []) i = times-append (below n) (n ∷ []) i in
    elim (cases_lt i n) [
      | inl less ↦ (let some : 1 ≤ times (below n) i = times-below_there n i less in omega arith)
      | inr more ↦
          (let same : n ≡ i = omega arith in
          let here : 1 ≤ times (n ∷ []) i = In-times (n ∷ []) i (In-here n [] i same) in
          omega arith)
    ]

inserted_here : (n : ℕ) (ms : List ℕ) → In (inserted n ms) n
inserted_here n [] = In-here n [] n refl
inserted_here n (m ∷ ms) =
    elim (cases_Bool (n == m)) [
      | inl same ↦ rw same (In-here m ms n (sym (eqb-true n m same)))
      | inr other ↦ rw other (elim (cases_Bool (nat_lt n m)) [
        | inl less ↦ rw less (In-here n (m ∷ ms) n refl)
        | inr more ↦ rw more (In-there m (inserted n ms) n (inserted_here n ms))
      ])
    ]

inserted_there : (n k : ℕ) (ms : List ℕ) → In ms k → In (inserted n ms) k
inserted_there n k [] member = absurd (cc)
inserted_there n k (m ∷ ms) member =
    elim (cases_Bool (n == m)) [
      | inl same ↦ rw same member
      | inr other ↦ rw other (elim (cases_Bool (nat_lt n m)) [
        | inl less ↦ rw less (In-there n (m ∷ ms) k member)
        | inr more ↦ rw more (elim (In-cases m ms k member) [
          | inl here ↦ In-here m (inserted n ms) k here
          | inr there ↦ In-there m (inserted n ms) k (inserted_there n k ms there)
        ])
      ])
    ]

-- a shard with a record is among those of the streams
shard_there : (ts : List Stream) (n i : ℕ) → i < length (listed ts n) → In (rising_shards ts) n
shard_there [] n i low = absurd (omega arith)
shard_there (t ∷ ts) n i low =
    elim (cases_Bool (t.shard == n)) [
      | inl same ↦ subst (λ (k : ℕ). In (inserted t.shard (rising_shards ts)) k) (eqb-true t.shard n same) (inserted_here t.shard (rising_shards ts))
      | inr other ↦
          (let behind : listed (t ∷ ts) n ≡ listed ts n = rw other refl in
          let less : i < length (listed ts n) = subst (λ (rs : List Record). i < length rs) behind low in
          inserted_there t.shard n (rising_shards ts) (shard_there ts n i less))
    ]

pieces_there : (s : ReplaySetting) (ns : List ℕ) (n i : ℕ) → In ns n → 1 ≤ times (named_places s n) i → 1 ≤ in_pieces (named_pieces s ns) n i
pieces_there s [] n i member some = absurd (cc)
pieces_there s (m ∷ ns) n i member some =
    let both : in_pieces (ahead m (named_places s m) (named_pieces s ns)) n i ≡ in_piece (piece m (named_places s m)) n i + in_pieces (named_pieces s ns) n i = in_ahead m (named_places s m) (named_pieces s ns) n i in
    elim (In-cases m ns n member) [
      | inl here ↦
          (let same : in_piece (piece m (named_places s m)) n i ≡ in_piece (piece n (named_places s n)) n i = ap (λ (k : ℕ). in_piece (piece k (named_places s k)) n i) here in
          let own : in_piece (piece n (named_places s n)) n i ≡ times (named_places s n) i = in_piece-own n (named_places s n) i in
          omega arith)
      | inr there ↦ (let behind : 1 ≤ in_pieces (named_pieces s ns) n i = pieces_there s ns n i there some in omega arith)
    ]

-- a record that a failure line names stands in its list
placed : (s : ReplaySetting) (n i : ℕ) → is_in_lines s n i ≡ true → i < length (records_of s.base n)
placed s n i is =
    elim (slice_get_cases (records_of s.base n) i).1 [
      | inl there ↦ there.1
      | inr past ↦
          (let none : is_in_lines s n i ≡ false = ap (λ (o : Option Record). unwrap_or (option_map (λ (r : Record). is_in_ranges s.ranges n r.seq) o) false) past.1 in
          absurd (let clash : true ≡ false = sym is ∙ none in cc))
    ]

named_there : (s : ReplaySetting) (n i : ℕ) → is_named s n i ≡ true → 1 ≤ in_pieces (first_pieces s) n i
named_there s n i named =
    let lines = and_parts (is_in_lines s n i) (not (is_found_replayed s n i)) (and_parts (is_given_up s n i) (is_in_lines s n i && not (is_found_replayed s n i)) named).1 in
    let low : i < length (records_of s.base n) = placed s n i lines.0 in
    let all : 1 ≤ times (below (length (records_of s.base n))) i = times-below_there (length (records_of s.base n)) i low in
    let few : times (below (length (records_of s.base n))) i ≤ times (named_places s n) i = times-filter_there (is_named s n) (below (length (records_of s.base n))) i named in
    pieces_there s (rising_shards s.base.streams) n i (shard_there s.base.streams n i low) (omega arith)

-- records of pieces

times-In : (xs : List ℕ) (i : ℕ) → 1 ≤ times xs i → In xs i
times-In [] i some = absurd (omega arith)
times-In (x ∷ xs) i some =
    elim (cases_Bool (x == i)) [
      | inl same ↦ In-here x xs i (eqb-true x i same)
      | inr other ↦ (let is : times (x ∷ xs) i ≡ times xs i = rw other (omega arith) in In-there x xs i (times-In xs i (omega arith)))
    ]

piece_holds : (m : ℕ) (places : List ℕ) (n i : ℕ) → 1 ≤ in_piece (piece m places) n i → ((m == n) ≡ true) × In places i
piece_holds m places n i some =
    elim (cases_Bool (m == n)) [
      | inl same ↦ (let is : in_piece (piece m places) n i ≡ times places i = rw same refl in (same, times-In places i (omega arith)))
      | inr other ↦ absurd (let none : in_piece (piece m places) n i ≡ 0 = rw other refl in omega arith)
    ]

none_held : (p : ReplayPiece) (n i : ℕ) → p.places ≡ [] → in_piece p n i ≡ 0
none_held p n i none = elim (cases_Bool (p.shard == n)) [ inl same ↦ rw same (ap (λ (places : List ℕ). times places i) none) | inr other ↦ rw other refl ]

-- after the end of a call

one_of : (a b c : ℕ) → 1 ≤ a + (b + c) → (1 ≤ a) ⊎ ((1 ≤ b) ⊎ (1 ≤ c))
one_of (suc a) b c some = inl (omega arith)
one_of zero (suc b) c some = inr (inl (omega arith))
one_of zero zero c some = inr (inr (omega arith))

-- of what waited: it still waits, succeeded, or remained and was not split
abbrev IsAfter : Rest → (m k : ℕ) (batch : List ℕ) → List ReplayPiece → (n i : ℕ) → Type 0
IsAfter r m k batch behind n i =
    (1 ≤ in_pieces (split_ahead r m (drop k batch) behind) n i) ⊎ ((1 ≤ in_piece (piece m (take k batch)) n i) ⊎ ((1 ≤ in_piece (piece m (drop k batch)) n i) × IsNoSplit r))

unsplit : (P : Type 0) → P → (a b c : ℕ) → (1 ≤ a) ⊎ ((1 ≤ b) ⊎ (1 ≤ c)) → (1 ≤ a) ⊎ ((1 ≤ b) ⊎ ((1 ≤ c) × P))
unsplit P holds a b c (inl waits) = inl waits
unsplit P holds a b c (inr (inl succeeded)) = inr (inl succeeded)
unsplit P holds a b c (inr (inr remains)) = inr (inr (remains, holds))

after_by : (r : Rest) (m k : ℕ) (batch : List ℕ) (behind : List ReplayPiece) (n i : ℕ) → 1 ≤ in_pieces behind n i + (in_piece (piece m (take k batch)) n i + in_piece (piece m (drop k batch)) n i) → IsAfter r m k batch behind n i
after_by Nothing m k batch behind n i some = unsplit (Unit {0}) tt (in_pieces behind n i) (in_piece (piece m (take k batch)) n i) (in_piece (piece m (drop k batch)) n i) (one_of (in_pieces behind n i) (in_piece (piece m (take k batch)) n i) (in_piece (piece m (drop k batch)) n i) some)
after_by Again m k batch behind n i some = unsplit (Unit {0}) tt (in_pieces behind n i) (in_piece (piece m (take k batch)) n i) (in_piece (piece m (drop k batch)) n i) (one_of (in_pieces behind n i) (in_piece (piece m (take k batch)) n i) (in_piece (piece m (drop k batch)) n i) some)
after_by Counted m k batch behind n i some = unsplit (Unit {0}) tt (in_pieces behind n i) (in_piece (piece m (take k batch)) n i) (in_piece (piece m (drop k batch)) n i) (one_of (in_pieces behind n i) (in_piece (piece m (take k batch)) n i) (in_piece (piece m (drop k batch)) n i) some)
after_by Exhausted m k batch behind n i some = unsplit (Unit {0}) tt (in_pieces behind n i) (in_piece (piece m (take k batch)) n i) (in_piece (piece m (drop k batch)) n i) (one_of (in_pieces behind n i) (in_piece (piece m (take k batch)) n i) (in_piece (piece m (drop k batch)) n i) some)
after_by (Split j) m k batch behind n i some =
    let rest : List ℕ = drop k batch in
    let first : in_pieces (ahead m (take j rest) (ahead m (drop j rest) behind)) n i ≡ in_piece (piece m (take j rest)) n i + in_pieces (ahead m (drop j rest) behind) n i = in_ahead m (take j rest) (ahead m (drop j rest) behind) n i in
    let second : in_pieces (ahead m (drop j rest) behind) n i ≡ in_piece (piece m (drop j rest)) n i + in_pieces behind n i = in_ahead m (drop j rest) behind n i in
    let cut : in_piece (piece m (take j rest)) n i + in_piece (piece m (drop j rest)) n i ≡ in_piece (piece m rest) n i = in_piece-cut m j rest n i in
    elim (cases_lt 0 (in_piece (piece m (take k batch)) n i)) [
      | inl succeeded ↦ inr (inl (omega arith))
      | inr none ↦ inl (omega arith)
    ]

after_call : (r : Rest) (m k : ℕ) (batch back : List ℕ) (others : List ReplayPiece) (n i : ℕ) → 1 ≤ in_piece (piece m (batch ++ back)) n i + in_pieces others n i → IsAfter r m k batch (ahead m (drop (length batch) (batch ++ back)) others) n i
after_call r m k batch back others n i some =
    subst (λ (places : List ℕ). IsAfter r m k batch (ahead m places others) n i) (sym (drop-append_seam batch back))
    (let behind : in_pieces (ahead m back others) n i ≡ in_piece (piece m back) n i + in_pieces others n i = in_ahead m back others n i in
    let cut : in_piece (piece m (take k batch)) n i + in_piece (piece m (drop k batch)) n i ≡ in_piece (piece m batch) n i = in_piece-cut m k batch n i in
    let whole : in_piece (piece m (batch ++ back)) n i ≡ in_piece (piece m batch) n i + in_piece (piece m back) n i = in_piece-append m batch back n i in
    after_by r m k batch (ahead m back others) n i (omega arith))

abbrev StandsAfter : ReplaySetting → ReplayPiece → Reply → List ReplayPiece → (n i : ℕ) → Type 0
StandsAfter s call reply ps n i =
    1 ≤ in_pieces ps n i → (1 ≤ in_pieces (pieces_after_call s call reply ps) n i)
    ⊎ ((1 ≤ in_piece (succeeded_of s call reply) n i) ⊎ ((1 ≤ in_piece (piece call.shard (remaining_of s call reply)) n i) × IsNoSplit (replay_verdict s call reply).rest))

after_first : (s : ReplaySetting) (call : ReplayPiece) (reply : Reply) (back : List ℕ) (others : List ReplayPiece) (n i : ℕ) → StandsAfter s call reply (piece call.shard (call.places ++ back) ∷ others) n i
after_first s call reply back others n i some = after_call (replay_verdict s call reply).rest call.shard (replay_verdict s call reply).succeeded call.places back others n i some

after_end : (s : ReplaySetting) (h : List Entry) (reply : Reply) (n i : ℕ) → Keeps s h → 1 ≤ length (call_out h).places → StandsAfter s (call_out h) reply (pieces_left s h) n i
after_end s h reply n i k some =
    let is = k.call some in
    let first : IsFirstOf (call_out h) (pieces_left s h) = subst (λ (c : ReplayPiece). IsFirstOf c (pieces_left s h)) (sym is) (first_of s (pieces_left s h) (subst (λ (c : ReplayPiece). 1 ≤ length c.places) is some)) in
    subst (λ (ps : List ReplayPiece). StandsAfter s (call_out h) reply ps n i) (sym first.pieces) (after_first s (call_out h) reply first.back first.others n i)

-- a record that its last call left

-- the entry is no call of it
abbrev CallsOther : Entry → (n i : ℕ) → Type 0
CallsOther e n i = (lane : LaneId) (places : List ℕ) (closing : Option ℕ) (m : ℕ) → e ≡ Began lane places closing m → lane.shard ≡ n → In places i → ⊥

abbrev NoneCalls : List Entry → (n i : ℕ) → Type 0
NoneCalls later n i = (after between : List Entry) (lane : LaneId) (places : List ℕ) (closing : Option ℕ) (m : ℕ) → later ≡ after ++ Began lane places closing m ∷ between → lane.shard ≡ n → In places i → ⊥

none_calls : (n i : ℕ) → NoneCalls [] n i
none_calls n i [] between lane places closing m is shard member = absurd (cc)
none_calls n i (e ∷ after) between lane places closing m is shard member = absurd (cc)

still_none : (e : Entry) (later : List Entry) (n i : ℕ) → CallsOther e n i → NoneCalls later n i → NoneCalls (e ∷ later) n i
still_none e later n i other none [] between lane places closing m is shard member =
    let same : e ≡ Began lane places closing m = cc in
    other lane places closing m same shard member
still_none e later n i other none (x ∷ after) between lane places closing m is shard member =
    let rest : later ≡ after ++ Began lane places closing m ∷ between = cc in
    none after between lane places closing m rest shard member

still_left : (s : ReplaySetting) (h : List Entry) (e : Entry) (n i : ℕ) → CallsOther e n i → LeftByLast s h n i → LeftByLast s (e ∷ h) n i
still_left s h e n i other left = record {
  later = e ∷ left.later;
  before = left.before;
  reply = left.reply;
  moment = left.moment;
  is = ap (λ (es : List Entry). e ∷ es) left.is;
  remains = left.remains;
  no_split = left.no_split;
  last = still_none e left.later n i other left.last;
}

left_now : (s : ReplaySetting) (h : List Entry) (lane : LaneId) (reply : Reply) (m n i : ℕ) → MayEndReplay s h lane → 1 ≤ in_piece (piece (call_out h).shard (remaining_of s (call_out h) reply)) n i → IsNoSplit (replay_verdict s (call_out h) reply).rest
    → LeftByLast s (Ended lane reply m ∷ h) n i
left_now s h lane reply m n i may remains no_split =
    let parts = piece_holds (call_out h).shard (remaining_of s (call_out h) reply) n i remains in
    let shard : (call_out h).shard ≡ n = eqb-true (call_out h).shard n parts.0 in
    record {
      later = [];
      before = h;
      reply = reply;
      moment = m;
      is = ap (λ (l : LaneId). Ended l reply m ∷ h) (may.lane_is ∙ ap replay_lane shard);
      remains = parts.1;
      no_split = no_split;
      last = none_calls n i;
    }

-- how a named record stands: it waits, was replayed, is owed, or was left

abbrev Stands : ReplaySetting → List Entry → (n i : ℕ) → Type 0
Stands s h n i = (1 ≤ in_pieces (pieces_left s h) n i) ⊎ ((is_replayed h n i ≡ true) ⊎ ((1 ≤ in_piece (owed_replay s h) n i) ⊎ LeftByLast s h n i))

none_waits : (s : ReplaySetting) (h : List Entry) (lane : LaneId) (places : List ℕ) (n i : ℕ) → MayBeginReplay s h lane places → in_pieces (pieces_left s h) n i ≡ 0 → lane.shard ≡ n → In places i → ⊥
none_waits s h lane places n i may none shard member =
    let call : piece lane.shard places ≡ next_call s (pieces_left s h) = ap (λ (k : ℕ). piece k places) (ap (λ (l : LaneId). l.shard) may.lane_is) ∙ ap (λ (xs : List ℕ). piece (next_call s (pieces_left s h)).shard xs) may.exact in
    let first : IsFirstOf (piece lane.shard places) (pieces_left s h) = subst (λ (c : ReplayPiece). IsFirstOf c (pieces_left s h)) (sym call) (first_of s (pieces_left s h) (subst (λ (c : ReplayPiece). 1 ≤ length c.places) call may.some)) in
    let all : in_pieces (pieces_left s h) n i ≡ in_piece (piece lane.shard (places ++ first.back)) n i + in_pieces first.others n i = ap (λ (ps : List ReplayPiece). in_pieces ps n i) first.pieces in
    let own : in_piece (piece lane.shard (places ++ first.back)) n i ≡ times (places ++ first.back) i = subst (λ (k : ℕ). in_piece (piece k (places ++ first.back)) n i ≡ times (places ++ first.back) i) (sym shard) (in_piece-own n (places ++ first.back) i) in
    let one : 1 ≤ times (places ++ first.back) i = In-times (places ++ first.back) i (In-append_left places first.back i member) in
    omega arith

began_other : (s : ReplaySetting) (h : List Entry) (lane : LaneId) (places : List ℕ) (m n i : ℕ) → MayBeginReplay s h lane places → in_pieces (pieces_left s h) n i ≡ 0 → CallsOther (Began lane places None m) n i
began_other s h lane places m n i may none lane' places' closing w same shard member =
    let own_lane : lane ≡ lane' = cc in
    let own_places : places ≡ places' = cc in
    none_waits s h lane places n i may none (ap (λ (l : LaneId). l.shard) own_lane ∙ shard) (subst (λ (xs : List ℕ). In xs i) (sym own_places) member)

stands_began : (s : ReplaySetting) (h : List Entry) (lane : LaneId) (places : List ℕ) (m n i : ℕ) → MayBeginReplay s h lane places → Stands s h n i → Stands s (Began lane places None m ∷ h) n i
stands_began s h lane places m n i may (inl waits) = inl waits
stands_began s h lane places m n i may (inr (inl replayed)) = inr (inl replayed)
stands_began s h lane places m n i may (inr (inr (inl owed))) = absurd (let none : in_piece (owed_replay s h) n i ≡ 0 = none_held (owed_replay s h) n i may.paid in omega arith)
stands_began s h lane places m n i may (inr (inr (inr left))) =
    elim (cases_lt 0 (in_pieces (pieces_left s h) n i)) [
      | inl some ↦ inl (omega arith)
      | inr none ↦ (let empty : in_pieces (pieces_left s h) n i ≡ 0 = omega arith in inr (inr (inr (still_left s h (Began lane places None m) n i (began_other s h lane places m n i may empty) left))))
    ]

-- where a call is out nothing is owed
none_owed : (s : ReplaySetting) (h : List Entry) → 1 ≤ length (call_out h).places → (owed_replay s h).places ≡ []
none_owed s [] some = refl
none_owed s (Began lane places closing m ∷ h) some = refl
none_owed s (Ended lane reply m ∷ h) some = absurd (omega arith)
none_owed s (Came shard first count m ∷ h) some = refl
none_owed s (Gave by shard places f line state m ∷ h) some = refl
none_owed s (Tried lane places closing tries m ∷ h) some = refl
none_owed s (Closed lane window m ∷ h) some = refl
none_owed s (Replayed shard places m ∷ h) some = refl
none_owed s (Shut m ∷ h) some = refl

ended_other : (lane : LaneId) (reply : Reply) (m n i : ℕ) → CallsOther (Ended lane reply m) n i
ended_other lane reply m n i lane' places closing w same shard member = absurd (cc)

stands_ended : (s : ReplaySetting) (h : List Entry) (lane : LaneId) (reply : Reply) (m n i : ℕ) → MayEndReplay s h lane → Keeps s h → Stands s h n i → Stands s (Ended lane reply m ∷ h) n i
stands_ended s h lane reply m n i may k (inl waits) =
    elim (after_end s h reply n i k may.runs waits) [
      | inl still ↦ inl still
      | inr other ↦ elim other [
        | inl succeeded ↦ inr (inr (inl succeeded))
        | inr remains ↦ inr (inr (inr (left_now s h lane reply m n i may remains.0 remains.1)))
      ]
    ]
stands_ended s h lane reply m n i may k (inr (inl replayed)) = inr (inl replayed)
stands_ended s h lane reply m n i may k (inr (inr (inl owed))) = absurd (let none : in_piece (owed_replay s h) n i ≡ 0 = none_held (owed_replay s h) n i (none_owed s h may.runs) in omega arith)
stands_ended s h lane reply m n i may k (inr (inr (inr left))) = inr (inr (inr (still_left s h (Ended lane reply m) n i (ended_other lane reply m n i) left)))

replayed_other : (shard : ℕ) (places : List ℕ) (m n i : ℕ) → CallsOther (Replayed shard places m) n i
replayed_other shard places m n i lane places' closing w same here member = absurd (cc)

stands_replayed : (s : ReplaySetting) (h : List Entry) (shard : ℕ) (places : List ℕ) (m n i : ℕ) → MayReplay s h shard places m → Stands s h n i → Stands s (Replayed shard places m ∷ h) n i
stands_replayed s h shard places m n i may (inl waits) = inl waits
stands_replayed s h shard places m n i may (inr (inl replayed)) = inr (inl (or_right ((shard == n) && holds places i) (is_replayed h n i) replayed))
stands_replayed s h shard places m n i may (inr (inr (inl owed))) =
    let is : piece shard places ≡ owed_replay s h = ap (λ (k : ℕ). piece k places) may.shard_is ∙ ap (λ (xs : List ℕ). piece (owed_replay s h).shard xs) may.exact in
    let same : in_piece (piece shard places) n i ≡ in_piece (owed_replay s h) n i = ap (λ (p : ReplayPiece). in_piece p n i) is in
    let parts = piece_holds shard places n i (omega arith) in
    let here : ((shard == n) && holds places i) ≡ true = rw (parts.0) (parts.1) in
    inr (inl (or_left ((shard == n) && holds places i) (is_replayed h n i) here))
stands_replayed s h shard places m n i may (inr (inr (inr left))) = inr (inr (inr (still_left s h (Replayed shard places m) n i (replayed_other shard places m n i) left)))

stands : (s : ReplaySetting) (h : List Entry) (n i : ℕ) → IsReplay s h → is_named s n i ≡ true → Stands s h n i
stands s [] n i run named = inl (named_there s n i named)
stands s (Began lane places None m ∷ h) n i run named = stands_began s h lane places m n i run.1.1 (stands s h n i run.0 named)
stands s (Began lane places (Some window) m ∷ h) n i run named = absurd run.1.1
stands s (Ended lane reply m ∷ h) n i run named = stands_ended s h lane reply m n i run.1.1 (keeps s h run.0) (stands s h n i run.0 named)
stands s (Replayed shard places m ∷ h) n i run named = stands_replayed s h shard places m n i run.1.1 (stands s h n i run.0 named)
stands s (Came shard first count m ∷ h) n i run named = absurd run.1.1
stands s (Gave by shard places f line state m ∷ h) n i run named = absurd run.1.1
stands s (Tried lane places closing tries m ∷ h) n i run named = absurd run.1.1
stands s (Closed lane window m ∷ h) n i run named = absurd run.1.1
stands s (Shut m ∷ h) n i run named = absurd run.1.1

at_last : (s : ReplaySetting) (h : List Entry) (n i : ℕ) → pieces_left s h ≡ [] → (owed_replay s h).places ≡ [] → Stands s h n i → (is_replayed h n i ≡ true) ⊎ LeftByLast s h n i
at_last s h n i none paid (inl waits) = absurd (let empty : in_pieces (pieces_left s h) n i ≡ 0 = ap (λ (ps : List ReplayPiece). in_pieces ps n i) none in omega arith)
at_last s h n i none paid (inr (inl replayed)) = inl replayed
at_last s h n i none paid (inr (inr (inl owed))) = absurd (let empty : in_piece (owed_replay s h) n i ≡ 0 = none_held (owed_replay s h) n i paid in omega arith)
at_last s h n i none paid (inr (inr (inr left))) = inr left

pub replayed_or_left : (s : ReplaySetting) (h : List Entry) → IsReplay s h → ReplayedOrLeft s h
replayed_or_left s h run none paid n i named = at_last s h n i none paid (stands s h n i run named)
