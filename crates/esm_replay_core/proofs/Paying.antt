-- What is kept of a core stays true where it adds what is owed, or gives it up.
use Rattle.std.proofs.Common.{◌≡◌, ℕ, suc, ◌+◌, ◌<◌, ◌≤◌, Bool, true, false, List, [], ◌∷◌, ◌++◌, length, take, drop, refl, sym, ap, ap₂, ◌∙◌, subst, inl, inr, arith, Option, Some, None}
use Rattle.std.specs.Prelude.{◌==◌, IsSome, if◌then◌else◌}
use Rattle.std.specs.List.{All}
use Rattle.std.specs.Ordering.{nat_cmp}
use Rattle.std.specs.Map.{count_at}
use Rattle.std.specs.BTreeMap.{BTreeMap, get}
use Rattle.std.proofs.lemmas.Bool.{cases_Bool}
use Rattle.std.proofs.lemmas.Option.{same_Some}
use Rattle.std.proofs.lemmas.List.{length-append}
use Rattle.std.proofs.lemmas.List.Elements.{All-nil, All-head, All-tail, All-push, All-weaker, filter-append}
use Rattle.esm_model.specs.Records.{Record}
use Rattle.esm_model.specs.declared.lane.LaneId.{LaneId}
use Rattle.esm_model.specs.declared.entry.Reply.{Reply}
use Rattle.esm_model.specs.declared.entry.Entry.{Entry}
use Rattle.esm_model.specs.declared.entry.Entry.TheVariants as entry
use Rattle.esm_model.specs.declared.verdict.Verdict.{Verdict}
use Rattle.esm_model.specs.Valid.{IsValidRecord}
use Rattle.esm_replay_model.specs.ReplaySetting.{ReplaySetting}
use Rattle.esm_replay_model.specs.ReplayReport.{named_count}
use Rattle.esm_replay_model.specs.Pieces.{ReplayPiece, replay_verdict, pieces_after_call}
use Rattle.esm_replay_model.specs.ReplayRun.{call_out, owed_replay, pieces_left, MayBeginReplay, MayEndReplay, MayReplay, IsReplay}
use Rattle.esm_replay.specs.declared.parts.Parts.{Parts as CallParts}
use Rattle.esm_replay.specs.Records.{of_shard, names}
use Rattle.esm_replay.specs.Waiting.{Waiting, seen_pieces}
use Rattle.esm_replay.specs.Ending.{front_call, ArePartsOf, EndsSo, StaysPlaced}
use Rattle.esm_replay_core.specs.declared.owed.Owed.{Owed}
use Rattle.esm_replay_core.specs.declared.owed.Owed.TheVariants.{Nothing, Coming, Began, Ended, Replayed, Left}
use Rattle.esm_replay_core.specs.declared.owed.Replay.{Replay}
use Rattle.esm_replay_core.specs.View.{ReplayView, paid, forgotten}
use Rattle.esm_replay_core.specs.Counts.{AreCounted, HasOneMore, HasCount}
use Rattle.esm_replay_core.specs.Owing.{owed_entries, replay_entries, replay_entry, given_up, owing_replay}
use Rattle.esm_replay_core.specs.Choosing.{IsWaitingFor, MayEndCall, IsEndedBy}
use Rattle.esm_replay_core.specs.Kept.{Parts, IsKept, MayOwe, OwesCall, OwesEnd, OwesReplay, own, seen_of, setting_for}
use Rattle.esm_replay_core.proofs.Fronts.{out_of}
use Rattle.esm_replay_core.proofs.Named.{one, named_more}
use Rattle.esm_replay_core.proofs.Keeping.{IsStill, entries_still}

-- a record comes

abbrev pub with_record : Parts → Record → List Record → BTreeMap ℕ ℕ → ℕ → Owed → Parts
with_record p r rs m named owed = record p { known = p.known ++ r ∷ []; coming = rs; counts = m; named = named; owed = owed }

pub one_low : (b : Bool) → one b ≤ 1
one_low true = omega arith
one_low false = omega arith

pub counted_more : (m m' : BTreeMap ℕ ℕ) (rs : List Record) (r : Record) → AreCounted m rs → HasOneMore r.shard m m' → AreCounted m' (rs ++ r ∷ [])
counted_more m m' rs r are more q =
    let was : count_at (get nat_cmp m) q ≡ length (of_shard q rs) = are q in
    let now : count_at (get nat_cmp m') q ≡ (if r.shard == q then count_at (get nat_cmp m) q + 1 else count_at (get nat_cmp m) q) = more.more q in
    let long : length (of_shard q (rs ++ r ∷ [])) ≡ length (of_shard q rs) + length (of_shard q (r ∷ [])) =
    ap (λ (xs : List Record). length xs) (filter-append (λ (x : Record). x.shard == q) rs (r ∷ [])) ∙ length-append (of_shard q rs) (of_shard q (r ∷ [])) in
    elim (cases_Bool (r.shard == q)) [
      | inl same ↦ (
          let here : length (of_shard q (r ∷ [])) ≡ 1 = rw same refl in
          let up : (if r.shard == q then count_at (get nat_cmp m) q + 1 else count_at (get nat_cmp m) q) ≡ count_at (get nat_cmp m) q + 1 = rw same refl in
          omega (arith, was, now, long, here, up))
      | inr other ↦ (
          let here : length (of_shard q (r ∷ [])) ≡ 0 = rw other refl in
          let up : (if r.shard == q then count_at (get nat_cmp m) q + 1 else count_at (get nat_cmp m) q) ≡ count_at (get nat_cmp m) q = rw other refl in
          omega (arith, was, now, long, here, up))
    ]

module _ (p : Parts) (r : Record) (rs : List Record) (m : BTreeMap ℕ ℕ) (named : ℕ) (owed : Owed) (k : IsKept p) (is : p.owed ≡ Coming) (next : p.coming ≡ r ∷ rs) (more : HasOneMore r.shard p.counts m)
    (named_is : named ≡ p.named + one (names p.opened.said p.opened.ranges r (count_at (get nat_cmp p.counts) r.shard))) (still : IsStill rs owed) where
  early : p.past ≡ []
  early = (subst (MayOwe p) is k.owed).1

  waits : p.waiting ≡ None
  waits = (subst (MayOwe p) is k.owed).2

  all_keys : All (HasCount p.counts) (r ∷ rs)
  all_keys = subst (All (HasCount p.counts)) next k.keys

  all_valid : All IsValidRecord (r ∷ rs)
  all_valid = subst (All IsValidRecord) next k.valid_coming

  long : length p.coming ≡ suc (length rs)
  long = ap (λ (xs : List Record). length xs) next

  more_named : named ≡ named_count (setting_for p.opened (p.known ++ r ∷ []))
  more_named =
      named_is
      ∙ ap₂ (λ (a c : ℕ). a + one (names p.opened.said p.opened.ranges r c)) k.named (k.counts r.shard)
      ∙ sym (named_more p.opened p.known r)

  owes : (xs : List Record) (o : Owed) → rs ≡ xs → IsStill xs o → MayOwe (with_record p r rs m named owed) o
  owes [] o none same = subst (MayOwe (with_record p r rs m named owed)) (sym same) (none, subst (λ (h : List Entry). (owed_replay (setting_for p.opened (p.known ++ r ∷ [])) h).places ≡ []) (sym early) refl)
  owes (x ∷ xs) o some same = subst (MayOwe (with_record p r rs m named owed)) (sym same) ((let l : length rs ≡ suc (length xs) = ap (λ (ys : List Record). length ys) some in omega arith), early, waits)

  pub kept_record : IsKept (with_record p r rs m named owed)
  kept_record = record {
    config = k.config;
    own_config = k.own_config;
    valid = All-push IsValidRecord p.known r k.valid (All-head IsValidRecord r rs all_valid);
    valid_coming = All-tail IsValidRecord r rs all_valid;
    few = let f = k.few in let l = long in omega (arith, length-append p.known (r ∷ []));
    counts = counted_more p.counts m p.known r k.counts more;
    keys = All-weaker (HasCount p.counts) (HasCount m) (λ x has. more.keys x.shard has) rs (All-tail (HasCount p.counts) r rs all_keys);
    named = more_named;
    named_few = let low = one_low (names p.opened.said p.opened.ranges r (count_at (get nat_cmp p.counts) r.shard)) in let f = k.named_few in omega (arith, length-append p.known (r ∷ []), named_is);
    run = subst (IsReplay (setting_for p.opened (p.known ++ r ∷ []))) (sym early) tt;
    last = k.last;
    in_time = k.in_time;
    begun = k.begun;
    waiting = subst (IsWaitingFor (setting_for p.opened (p.known ++ r ∷ [])) (p.known ++ r ∷ []) p.past) (sym waits) early;
    names_are = λ some. (let gone : 1 ≤ length (call_out []).places = subst (λ (h : List Entry). 1 ≤ length (call_out h).places) early some in absurd (omega arith));
    owed = owes rs owed refl still;
  }

  pub seen_record : seen_of (with_record p r rs m named owed) ≡ paid (seen_of p)
  seen_record =
      ap (λ (es : List Entry). record { opened = p.opened; records = p.known ++ r ∷ []; past = p.past; coming = rs; owed = es }) (entries_still rs owed still ∙ sym (ap owed_entries is))
      ∙ sym (ap (λ (xs : List Record). paid (record { opened = p.opened; records = p.known; past = p.past; coming = xs; owed = owed_entries p.owed })) next)

-- an entry is added

paid_none : (v : ReplayView) → v.coming ≡ [] → paid v ≡ record { opened = v.opened; records = v.records; past = take 1 v.owed ++ v.past; coming = []; owed = drop 1 v.owed }
paid_none v none = ap (λ (xs : List Record). paid (record { opened = v.opened; records = v.records; past = v.past; coming = xs; owed = v.owed })) none

seen_paid : (p : Parts) (e : Entry) (es : List Entry) (h : List Entry) (owed : Owed) → p.coming ≡ [] → owed_entries p.owed ≡ e ∷ es → h ≡ e ∷ p.past → owed_entries owed ≡ es
    → record { opened = p.opened; records = p.known; past = h; coming = p.coming; owed = owed_entries owed } ≡ paid (seen_of p)
seen_paid p e es h owed none is past rest =
    ap₂ (λ (xs : List Entry) (ys : List Entry). record { opened = p.opened; records = p.known; past = xs; coming = p.coming; owed = ys }) past rest
    ∙ ap (λ (xs : List Record). record { opened = p.opened; records = p.known; past = e ∷ p.past; coming = xs; owed = es }) none
    ∙ sym (ap (λ (xs : List Entry). record { opened = p.opened; records = p.known; past = take 1 xs ++ p.past; coming = []; owed = drop 1 xs }) is)
    ∙ sym (paid_none (seen_of p) none)

abbrev pub with_entry : Parts → Entry → Option Waiting → List (List ℕ) → ℕ → ℕ → Owed → Parts
with_entry p e w names last begun owed = record p { waiting = w; names = names; past = e ∷ p.past; last = last; begun = begun; owed = owed }

pub record IsPaid (q : Parts) (p : Parts) : Type 0 where
  pub kept : IsKept q
  pub seen : seen_of q ≡ paid (seen_of p)

-- where the pieces are the same after it
stays_waiting : (s : ReplaySetting) (rs : List Record) (e : Entry) (h : List Entry) (o : Option Waiting) → IsSome o → pieces_left s (e ∷ h) ≡ pieces_left s h → IsWaitingFor s rs h o → IsWaitingFor s rs (e ∷ h) o
stays_waiting s rs e h None there same waits = absurd (cc)
stays_waiting s rs e h (Some w) there same waits = (waits.0 ∙ sym same, waits.1)

pub begun_few : (p : Parts) (lane : LaneId) (places : List ℕ) (names : List (List ℕ)) (m : ℕ) → IsKept p → OwesCall p lane places names m → p.begun < p.opened.calls
begun_few p lane places names m k o = (let may : MayBeginReplay (own p) p.past lane places = o.run.1.1 in let left = may.calls_left in let b = k.begun in omega arith)

pub pay_began : (p : Parts) (lane : LaneId) (places : List ℕ) (names : List (List ℕ)) (m : ℕ) → IsKept p → OwesCall p lane places names m → owed_entries p.owed ≡ entry.Began lane places None m ∷ []
    → IsPaid (with_entry p (entry.Began lane places None m) p.waiting names m (p.begun + 1) Nothing) p
pay_began p lane places names m k o entries = record {
  kept = record {
    config = k.config;
    own_config = k.own_config;
    valid = k.valid;
    valid_coming = k.valid_coming;
    few = k.few;
    counts = k.counts;
    keys = k.keys;
    named = k.named;
    named_few = k.named_few;
    run = o.run;
    last = refl;
    in_time = o.in_time;
    begun = let b = k.begun in omega arith;
    waiting = stays_waiting (own p) p.known (entry.Began lane places None m) p.past p.waiting o.waits refl k.waiting;
    names_are = λ some. o.names_are;
    owed = (o.none, refl);
  };
  seen = seen_paid p (entry.Began lane places None m) [] (entry.Began lane places None m ∷ p.past) Nothing o.none entries refl refl;
}

first_run : (s : ReplaySetting) (d : Option Replay) (e : Entry) (h : List Entry) → IsReplay s (replay_entries d ++ e ∷ h) → IsReplay s (e ∷ h)
first_run s None e h run = run
first_run s (Some r) e h run = run.0

pub pay_ended : (p : Parts) (lane : LaneId) (reply : Reply) (m count : ℕ) (parts : CallParts) (d : Option Replay) (w w' : Waiting) → IsKept p → OwesEnd p lane reply m count parts d → p.waiting ≡ Some w
    → EndsSo count parts w.pieces w'.pieces → StaysPlaced count parts w.pieces w'.pieces → owed_entries p.owed ≡ entry.Ended lane reply m ∷ replay_entries d
    → IsPaid (with_entry p (entry.Ended lane reply m) (Some w') p.names m p.begun (owing_replay d)) p
pay_ended p lane reply m count parts d w w' k o waits_is ends stays entries =
    let same : o.ends.waiting ≡ w = same_Some o.ends.waiting w (sym o.ends.waits ∙ waits_is) in
    let waits : IsWaitingFor (own p) p.known p.past (Some w) = subst (IsWaitingFor (own p) p.known p.past) waits_is k.waiting in
    let call : front_call count w.pieces ≡ call_out p.past = subst (λ (x : Waiting). front_call count x.pieces ≡ call_out p.past) same o.ends.call in
    let v : Verdict = replay_verdict (own p) (call_out p.past) reply in
    let parted : ArePartsOf v count w.pieces parts = subst (λ (x : Waiting). ArePartsOf v count x.pieces parts) same o.ends.parted in
    let left : seen_pieces w'.pieces ≡ pieces_after_call (own p) (call_out p.past) reply (pieces_left (own p) p.past) =
    ends (own p) reply v parted (ap (λ (c : ReplayPiece). replay_verdict (own p) c reply) (sym call))
    ∙ ap₂ (λ (c : ReplayPiece) (ps : List ReplayPiece). pieces_after_call (own p) c reply ps) call waits.0 in
    record {
      kept = record {
        config = k.config;
        own_config = k.own_config;
        valid = k.valid;
        valid_coming = k.valid_coming;
        few = k.few;
        counts = k.counts;
        keys = k.keys;
        named = k.named;
        named_few = k.named_few;
        run = first_run (own p) d (entry.Ended lane reply m) p.past o.run;
        last = refl;
        in_time = o.in_time;
        begun = k.begun;
        waiting = (left, stays (own p) p.known v parted waits.1);
        names_are = λ some. absurd (omega arith);
        owed = owes d o;
      };
      seen = seen_paid p (entry.Ended lane reply m) (replay_entries d) (entry.Ended lane reply m ∷ p.past) (owing_replay d) o.none entries refl (rest d);
    }
  where
    owes : (x : Option Replay) → OwesEnd p lane reply m count parts x → MayOwe (with_entry p (entry.Ended lane reply m) (Some w') p.names m p.begun (owing_replay x)) (owing_replay x)
    owes None may = (may.none, may.none_left refl)
    owes (Some r) may = record { none = may.none; room = (let l = may.room in omega arith); run = may.run; written = may.written }

    rest : (x : Option Replay) → owed_entries (owing_replay x) ≡ replay_entries x
    rest None = refl
    rest (Some r) = refl

-- a call that ends
pub may_end_call : (p : Parts) (lane : LaneId) (reply : Reply) (m count : ℕ) (parts : CallParts) (d : Option Replay) → OwesEnd p lane reply m count parts d → MayEndCall count p.waiting
may_end_call p lane reply m count parts d o = subst (MayEndCall count) (sym o.ends.waits) (o.ends.room, o.ends.within)

pub pay_end : (p : Parts) (lane : LaneId) (reply : Reply) (m count : ℕ) (parts : CallParts) (d : Option Replay) (new : Option Waiting) → IsKept p → OwesEnd p lane reply m count parts d → IsEndedBy count parts p.waiting new
    → owed_entries p.owed ≡ entry.Ended lane reply m ∷ replay_entries d → IsPaid (with_entry p (entry.Ended lane reply m) new p.names m p.begun (owing_replay d)) p
pay_end p lane reply m count parts d new k o ended entries = by_new new (subst (λ (x : Option Waiting). IsEndedBy count parts x new) o.ends.waits ended)
  where
    by_new : (x : Option Waiting) → IsEndedBy count parts (Some o.ends.waiting) x → IsPaid (with_entry p (entry.Ended lane reply m) x p.names m p.begun (owing_replay d)) p
    by_new None both = absurd both
    by_new (Some w') both = pay_ended p lane reply m count parts d o.ends.waiting w' k o o.ends.waits both.0 both.1 entries

-- records are replayed

waits_some : (s : ReplaySetting) (rs : List Record) (h : List Entry) (o : Option Waiting) (shard : ℕ) (places : List ℕ) (m : ℕ) → MayReplay s h shard places m → IsWaitingFor s rs h o → IsSome o
waits_some s rs h (Some w) shard places m may waits = refl
waits_some s rs h None shard places m may waits =
    let none : places ≡ [] = may.exact ∙ ap (λ (x : List Entry). (owed_replay s x).places) waits in
    let some : 1 ≤ length places = may.some in
    let l : length places ≡ 0 = ap (λ (xs : List ℕ). length xs) none in
    absurd (omega arith)

pub pay_replayed : (p : Parts) (r : Replay) → IsKept p → OwesReplay p r → owed_entries p.owed ≡ replay_entry r ∷ [] → IsPaid (with_entry p (replay_entry r) p.waiting p.names r.moment p.begun Nothing) p
pay_replayed p r k o entries = record {
  kept = record {
    config = k.config;
    own_config = k.own_config;
    valid = k.valid;
    valid_coming = k.valid_coming;
    few = k.few;
    counts = k.counts;
    keys = k.keys;
    named = k.named;
    named_few = k.named_few;
    run = o.run;
    last = refl;
    in_time = o.written.in_time;
    begun = k.begun;
    waiting = stays_waiting (own p) p.known (replay_entry r) p.past p.waiting (waits_some (own p) p.known p.past p.waiting r.shard r.places r.moment o.run.1.1 k.waiting) refl k.waiting;
    names_are = λ some. absurd (omega arith);
    owed = (o.none, refl);
  };
  seen = seen_paid p (replay_entry r) [] (replay_entry r ∷ p.past) Nothing o.none entries refl refl;
}

-- what is owed is given up

abbrev pub forgetting : Parts → Parts
forgetting p = record p { coming = []; owed = given_up p.owed }

left_owed : (p : Parts) (o : Owed) → IsKept p → MayOwe p o → MayOwe (forgetting p) (given_up o)
left_owed p Nothing k may = (refl, may.1)
left_owed p Coming k may = (refl, subst (λ (h : List Entry). (owed_replay (own p) h).places ≡ []) (sym may.1) refl)
left_owed p (Began lane places names m) k may = (let begins : MayBeginReplay (own p) p.past lane places = may.run.1.1 in (refl, begins.paid))
left_owed p (Ended lane reply m count parts d) k may =
    let ends : MayEndReplay (own p) p.past lane = (first_run (own p) d (entry.Ended lane reply m) p.past may.run).1.1 in
    (refl, (out_of (own p) p.past k.run ends.runs).paid)
left_owed p (Replayed r) k may = refl
left_owed p Left k may = refl

pub kept_forgotten : (p : Parts) → IsKept p → IsKept (forgetting p)
kept_forgotten p k = record {
  config = k.config;
  own_config = k.own_config;
  valid = k.valid;
  valid_coming = All-nil IsValidRecord;
  few = let f = k.few in omega arith;
  counts = k.counts;
  keys = All-nil (HasCount p.counts);
  named = k.named;
  named_few = k.named_few;
  run = k.run;
  last = k.last;
  in_time = k.in_time;
  begun = k.begun;
  waiting = k.waiting;
  names_are = k.names_are;
  owed = left_owed p p.owed k k.owed;
}

pub seen_forgotten : (p : Parts) → seen_of (forgetting p) ≡ forgotten (seen_of p)
seen_forgotten p = ap (λ (es : List Entry). record { opened = p.opened; records = p.known; past = p.past; coming = []; owed = es }) (none p.owed)
  where
    none : (o : Owed) → owed_entries (given_up o) ≡ []
    none Nothing = refl
    none Coming = refl
    none (Began lane places names m) = refl
    none (Ended lane reply m count parts d) = refl
    none (Replayed r) = refl
    none Left = refl
