-- Records that come to a ledger.
use Rattle.std.proofs.Common.{◌≡◌, ℕ, zero, suc, ◌+◌, ◌<◌, ◌≤◌, Bool, true, false, not, ◌||◌, List, [], ◌∷◌, ◌++◌, length, map, set, refl, sym, ap, ◌∙◌, subst, ◌⊎◌, inl, inr, Option, Some, None, arith, Vec, Global, append-nil}
use Rattle.std.specs.Prelude.{◌==◌, slice_get, is_some, All, vec_len, vec_capacity, if◌then◌else◌}
use Rattle.std.proofs.Math.Seq.{map-set_same}
use Rattle.std.proofs.lemmas.Option.{get_or_from_slice_get}
use Rattle.std.proofs.lemmas.Bool.{cases_Bool, eq-eqb, eqb-true, false_from_ne_true}
use Rattle.esm_model.specs.declared.config.Config.{Config}
use Rattle.esm_model.specs.Records.{Record}
use Rattle.esm_model.specs.declared.lane.LaneId.{LaneId}
use Rattle.esm_model.specs.declared.entry.Entry.{Entry}
use Rattle.esm_model.specs.declared.entry.Entry.TheVariants.{Came}
use Rattle.esm_model.specs.Setting.{Setting, Stream, Extends, over}
use Rattle.esm_model.specs.Entries.{holds, came_count, shards_that_came, is_running}
use Rattle.esm_model.specs.Step.{Legal}
use Rattle.esm_model.proofs.Lists.{In, apart, Distinct}
use Rattle.esm_journal_state.specs.SaidLists.{SaidLists}
use Rattle.esm_shard_index.specs.LaneView.{lane_in}
use Rattle.esm_shard_index.proofs.LaneSteps.{unused}
use Rattle.esm_ledger.specs.declared.arriving.Arriving.{Arriving}
use Rattle.esm_ledger.specs.declared.coming.Coming.{Coming}
use Rattle.esm_ledger.specs.declared.ledger.Ledger.{Ledger}
use Rattle.esm_ledger.specs.declared.shard.ShardLedger.{ShardLedger}
use Rattle.esm_ledger.specs.Shard.{IsShard}
use Rattle.esm_ledger.specs.Arriving.{AreArriving, IsWithin, HasRoomFor}
use Rattle.esm_ledger.specs.Coming.{with_list, grown, listed, IsComing, CanTake, Takes}
use Rattle.esm_ledger.specs.Ledger.{past_of, setting_of, stream_of, LegalOver, HasRoom, Keeps, spare_of}
use Rattle.esm_ledger.proofs.Fitting.{records_may_come}
use Rattle.esm_ledger.proofs.Staying.{shard_stays, shard_over}
use Rattle.esm_ledger.proofs.Ledgers.{own_legal, names, shards_distinct, came_none, is_that, shard_in, shard_found, one_place, set_cases}
use Rattle.esm_ledger.proofs.KeptLedgers.{keeps_from, SameBase, config_same, calls_same, room_after, with_room}
use Rattle.esm_ledger.proofs.Additions.{past_added}

-- streams

make_stream : (a b : ℕ) (p q : List Record) → a ≡ b → p ≡ q → ◌≡◌ {A = Stream} (record { shard = a; records = p }) (record { shard = b; records = q })
make_stream a b p q x y = ap (λ (n : ℕ). let t : Stream = record { shard = n; records = p } in t) x ∙ ap (λ (rs : List Record). let t : Stream = record { shard = b; records = rs } in t) y

-- the streams of shards of which one took records
pub grown_set : (xs : List ShardLedger) (i : ℕ) (x y : ShardLedger) (rs : List Record) → Distinct (names xs) → slice_get xs i ≡ Some x → y.shard ≡ x.shard → y.records.items ≡ x.records.items ++ rs
    → map stream_of (set xs i y) ≡ with_list (map stream_of xs) x.shard rs
grown_set [] i x y rs d at same more = cc
grown_set (z ∷ xs) zero x y rs d at same more =
    let e : z ≡ x = is_that z x at in
    let here : stream_of y ≡ record { shard = z.shard; records = z.records.items ++ rs } =
    make_stream y.shard z.shard y.records.items (z.records.items ++ rs) (same ∙ sym (ap (λ (w : ShardLedger). w.shard) e)) (more ∙ ap (λ (w : ShardLedger). w.records.items ++ rs) (sym e)) in
    rw (eq-eqb z.shard x.shard (ap (λ (w : ShardLedger). w.shard) e)) (ap (λ (t : Stream). t ∷ map stream_of xs) here)
grown_set (z ∷ xs) (suc i) x y rs d at same more =
    let off : (z.shard == x.shard) ≡ false = false_from_ne_true (z.shard == x.shard)
    (λ equal. apart (names xs) z.shard d.0 (subst (λ n. In (names xs) n) (sym (eqb-true z.shard x.shard equal)) (shard_in xs i x at))) in
    rw off (ap (λ (ts : List Stream). stream_of z ∷ ts) (grown_set xs i x y rs d.1 at same more))

or_off : (a b : Bool) → (a || b) ≡ false → (a ≡ false) × (b ≡ false)
or_off true b e = absurd (let clash : true ≡ false = e in cc)
or_off false b e = (refl, e)

-- one of which no record came may stand at the end
pub grown_fresh : (xs : List ShardLedger) (y : ShardLedger) (rs : List Record) → y.records.items ≡ [] → holds (names xs) y.shard ≡ false
    → with_list (map stream_of (xs ++ y ∷ [])) y.shard rs ≡ with_list (map stream_of xs) y.shard rs
grown_fresh [] y rs empty none =
    rw (eq-eqb y.shard y.shard refl) (ap (λ (t : Stream). t ∷ []) (make_stream y.shard y.shard (y.records.items ++ rs) rs refl (ap (λ (qs : List Record). qs ++ rs) empty)))
grown_fresh (x ∷ xs) y rs empty none =
    let parts = or_off (x.shard == y.shard) (holds (names xs) y.shard) none in
    rw parts.0 (ap (λ (ts : List Stream). stream_of x ∷ ts) (grown_fresh xs y rs empty parts.1))

get_left : (xs ys : List Record) (i : ℕ) (r : Record) → slice_get xs i ≡ Some r → slice_get (xs ++ ys) i ≡ Some r
get_left [] ys i r at = cc
get_left (x ∷ xs) ys zero r at = at
get_left (x ∷ xs) ys (suc i) r at = get_left xs ys i r at

-- the lists go on
pub grown_extends : (ts : List Stream) (n : ℕ) (rs : List Record) → Extends ts (with_list ts n rs)
grown_extends [] n rs k i r at = cc
grown_extends (t ∷ ts) n rs k i r at = elim (cases_Bool (t.shard == n)) [
  | inl here ↦ elim (cases_Bool (t.shard == k)) [
    | inl mine ↦ rw (here, mine) (get_left t.records rs i r (rw mine at at))
    | inr other ↦ rw (here, other) (rw other at at)
  ]
  | inr there ↦ elim (cases_Bool (t.shard == k)) [
    | inl mine ↦ rw (there, mine) (rw mine at at)
    | inr other ↦ rw (there, other) (grown_extends ts n rs k i r (rw other at at))
  ]
]

-- shards that are ready

-- these shards, among them that of the records, are as the history says, and have what the records need
pub record AreReady (c : Ledger) (n : ℕ) (a : Arriving) (xs : List ShardLedger) : Type 0 where
  pub shards : names xs ≡ (if holds (shards_that_came (past_of c)) n then shards_that_came (past_of c) else shards_that_came (past_of c) ++ n ∷ [])
  pub streams : with_list (map stream_of xs) n a.records.items ≡ with_list (setting_of c).streams n a.records.items
  pub each : (i : ℕ) (z : ShardLedger) → slice_get xs i ≡ Some z → IsShard (setting_of c) (past_of c) z
  pub room : (i : ℕ) (z : ShardLedger) → slice_get xs i ≡ Some z → z.shard ≡ n → HasRoomFor z a
  pub splits : (lane : LaneId) (i : ℕ) (z : ShardLedger) → slice_get xs i ≡ Some z → z.shard ≡ lane.shard → is_running (past_of c) lane ≡ true → 2 ≤ (lane_in z.lanes lane.lane).kept.splits
  pub some : (i : ℕ) × (z : ShardLedger) × (slice_get xs i ≡ Some z) × (z.shard ≡ n)

pub push_cases : (xs : List ShardLedger) (y : ShardLedger) (i : ℕ) (z : ShardLedger) → slice_get (xs ++ y ∷ []) i ≡ Some z → (slice_get xs i ≡ Some z) ⊎ (z ≡ y)
push_cases [] y zero z at = inr (sym (is_that y z at))
push_cases [] y (suc i) z at = cc
push_cases (x ∷ xs) y zero z at = inl at
push_cases (x ∷ xs) y (suc i) z at = push_cases xs y i z at

push_at : (xs : List ShardLedger) (y : ShardLedger) → slice_get (xs ++ y ∷ []) (length xs) ≡ Some y
push_at [] y = refl
push_at (x ∷ xs) y = push_at xs y

names_push : (xs : List ShardLedger) (y : ShardLedger) → names (xs ++ y ∷ []) ≡ names xs ++ y.shard ∷ []
names_push [] y = refl
names_push (x ∷ xs) y = ap (λ (ns : List ℕ). x.shard ∷ ns) (names_push xs y)

pub known_of : (b : Bool) → false ≡ not b → b ≡ true
known_of true e = refl
known_of false e = (let clash : false ≡ true = e in cc)

new_of : (b : Bool) → true ≡ not b → b ≡ false
new_of true e = (let clash : true ≡ false = e in cc)
new_of false e = refl

none_left : (rs : List Record) → length rs ≡ 0 → rs ≡ []
none_left [] e = refl
none_left (r ∷ rs) e = absurd (omega (arith, e))

-- a shard that came before
ready_known : (c : Ledger) (x : Coming) → Keeps c → IsComing c x → x.fresh ≡ None → AreReady c x.shard x.arriving (c.shards.items ++ [])
ready_known c x k is none =
    let known : holds (shards_that_came (past_of c)) x.shard ≡ true = known_of (holds (shards_that_came (past_of c)) x.shard) (sym (ap is_some none) ∙ is.named) in
    let found = shard_found c.shards.items x.shard (subst (λ (ns : List ℕ). In ns x.shard) (sym k.rests.shards) known) in
    subst (λ (xs : List ShardLedger). AreReady c x.shard x.arriving xs) (sym (append-nil c.shards.items)) (record {
      shards = rw known k.rests.shards;
      streams = refl;
      each = λ i z at. k.each z.shard z (i, at, refl);
      room = λ i z at same. is.known z (i, at, same);
      splits = λ lane i z at same runs. k.splits lane z (i, at, same) runs;
      some = (found.place, found.kept, found.at, found.shard);
    })

-- one that comes for the first time
ready_new : (c : Ledger) (x : Coming) (y : ShardLedger) → Keeps c → IsComing c x → x.fresh ≡ Some y → AreReady c x.shard x.arriving (c.shards.items ++ y ∷ [])
ready_new c x y k is some =
    let s = setting_of c in
    let h = past_of c in
    let legal : Legal s h = own_legal s h k.rests.legal in
    let fresh = is.fresh y some in
    let new : holds (shards_that_came h) x.shard ≡ false = new_of (holds (shards_that_came h) x.shard) (sym (ap is_some some) ∙ is.named) in
    let nothing : came_count h y.shard ≡ 0 = ap (came_count h) fresh.0 ∙ came_none h x.shard new in
    let empty : y.records.items ≡ [] = none_left y.records.items (fresh.1.records.came ∙ nothing) in
    let apart' : holds (names c.shards.items) y.shard ≡ false = ap (λ (ns : List ℕ). holds ns y.shard) k.rests.shards ∙ ap (holds (shards_that_came h)) fresh.0 ∙ new in
    record {
      shards = rw new (names_push c.shards.items y ∙ ap (λ (ns : List ℕ). ns ++ y.shard ∷ []) k.rests.shards ∙ ap (λ (n : ℕ). shards_that_came h ++ n ∷ []) fresh.0);
      streams = subst (λ (n : ℕ). with_list (map stream_of (c.shards.items ++ y ∷ [])) n x.arriving.records.items ≡ with_list s.streams n x.arriving.records.items) fresh.0
          (grown_fresh c.shards.items y x.arriving.records.items empty apart');
      each = λ i z at. elim (push_cases c.shards.items y i z at) [
        | inl old ↦ k.each z.shard z (i, old, refl)
        | inr same ↦ subst (λ (w : ShardLedger). IsShard s h w) (sym same) fresh.1
      ];
      room = λ i z at there. elim (push_cases c.shards.items y i z at) [
        | inl old ↦ is.known z (i, old, there)
        | inr same ↦ subst (λ (w : ShardLedger). HasRoomFor w x.arriving) (sym same) fresh.2
      ];
      splits = λ lane i z at there runs. elim (push_cases c.shards.items y i z at) [
        | inl old ↦ k.splits lane z (i, old, there) runs
        | inr same ↦ absurd (
            let mine : came_count h lane.shard ≡ 0 = ap (came_count h) (sym there ∙ ap (λ (w : ShardLedger). w.shard) same) ∙ nothing in
            let rests = (unused s h lane legal mine).rests in
            let clash : true ≡ false = sym runs ∙ rests in cc)
      ];
      some = (length c.shards.items, y, push_at c.shards.items y, fresh.0);
    }

pub ready : (c : Ledger) (x : Coming) → Keeps c → IsComing c x → AreReady c x.shard x.arriving (c.shards.items ++ listed x.fresh)
ready c x k is = by x.fresh refl
  where
    by : (o : Option ShardLedger) → x.fresh ≡ o → AreReady c x.shard x.arriving (c.shards.items ++ listed o)
    by None e = ready_known c x k is e
    by (Some y) e = ready_new c x y k is e

-- the entry

-- what one of them is after it
pub record Took (c : Ledger) (n m : ℕ) (a : Arriving) (z w : ShardLedger) : Type 0 where
  pub shard : w.shard ≡ z.shard
  pub records : w.records.items ≡ z.records.items ++ a.records.items
  pub splits : (k : ℕ) → (lane_in w.lanes k).kept.splits ≡ (lane_in z.lanes k).kept.splits
  pub goes : IsShard (grown (setting_of c) n a.records.items) (past_of c) z → IsShard (grown (setting_of c) n a.records.items) (Came n (came_count (past_of c) n) (length a.records.items) m ∷ past_of c) w

-- what an addition of records leaves
pub record CameAdded (c d : Ledger) (n : ℕ) (a : Arriving) (e : Entry) : Type 0 where
  pub kept : Keeps d
  pub past : past_of d ≡ e ∷ past_of c
  pub setting : setting_of d ≡ grown (setting_of c) n a.records.items
  pub room : (k : ℕ) → HasRoom c (k + 1) → HasRoom d k

pub came_added : (c d : Ledger) (n m : ℕ) (a : Arriving) (xs : List ShardLedger) (i : ℕ) (z w : ShardLedger) → let e = Came n (came_count (past_of c) n) (length a.records.items) m in
    Keeps c → HasRoom c 1 → LegalOver (grown (setting_of c) n a.records.items) (e ∷ past_of c) → came_count (past_of c) n + length a.records.items < 4294967296
    → AreReady c n a xs → slice_get xs i ≡ Some z → z.shard ≡ n → Took c n m a z w
    → d ≡ record c { shards = d.shards; history = d.history; last = m } → d.shards.items ≡ set xs i w
    → d.history.items ≡ c.history.items ++ e ∷ [] → vec_len d.history ≡ vec_len c.history + 1 → vec_capacity d.history ≡ vec_capacity c.history
    → CameAdded c d n a e
came_added c d n m a xs i z w k room legal few is at there took after sets items len capacity =
    let s = setting_of c in
    let h = past_of c in
    let rs = a.records.items in
    let e = Came n (came_count h n) (length rs) m in
    let ts = with_list s.streams n rs in
    let g = grown s n rs in
    let before : Legal s h = own_legal s h k.rests.legal in
    let now : Legal g (e ∷ h) = own_legal g (e ∷ h) legal in
    let more : Extends s.streams ts = grown_extends s.streams n rs in
    let distinct : Distinct (names xs) = subst (λ (ns : List ℕ). Distinct ns) (sym is.shards) (shards_distinct (e ∷ h)) in
    let past : past_of d ≡ e ∷ h = past_added c d e items in
    let base : SameBase c d = record { config = ap (λ (y : Ledger). y.config) after; calls = ap (λ (y : Ledger). y.calls) after; found = ap (λ (y : Ledger). y.found) after } in
    let streams : map stream_of d.shards.items ≡ ts =
    ap (map stream_of) sets ∙ grown_set xs i z w rs distinct at took.shard took.records ∙ ap (λ (x : ℕ). with_list (map stream_of xs) x rs) there ∙ is.streams in
    let setting : setting_of d ≡ g = setting_grown c d base ts streams in
    let spare : spare_of (e ∷ h) ≡ spare_of h = refl in
    let leaves : (k' : ℕ) → HasRoom c (k' + 1) → HasRoom d k' = λ k' r. room_after c d e k' 1 past len capacity (omega (arith, spare)) r in
    let names' : names d.shards.items ≡ names xs =
    ap names sets ∙ map-set_same (λ (y : ShardLedger). y.shard) xs i w z (took.shard ∙ ap (λ (y : ShardLedger). y.shard) (sym (get_or_from_slice_get xs i z z at))) in
    record {
      kept = keeps_from d g (e ∷ h) setting past (config_same c d base k) (calls_same c d base k) (leaves 0 (with_room c 1 room)) (record {
        legal = legal;
        last = ap (λ (y : Ledger). y.last) after;
        shut = ap (λ (y : Ledger). y.shut) after ∙ k.rests.shut;
        unended = ap (λ (y : Ledger). y.unended) after ∙ k.rests.unended;
        shards = names' ∙ is.shards;
        found = k.found;
        each = λ x y here. elim (set_cases xs i here.0 w y (subst (λ (ys : List ShardLedger). slice_get ys here.0 ≡ Some y) sets here.1)) [
          | inl one ↦ subst (λ (v : ShardLedger). IsShard g (e ∷ h) v) (sym one) (took.goes (shard_over s ts h z more before (is.each i z at)))
          | inr other ↦ (
              let off : (n == y.shard) ≡ false = false_from_ne_true (n == y.shard) (λ same. other.0 (one_place xs i here.0 z y distinct at other.1 (there ∙ eqb-true n y.shard same))) in
              shard_stays g h e y (k.found y.shard) off now (shard_over s ts h y more before (is.each here.0 y other.1)))
        ];
        few = λ x. elim (cases_Bool (n == x)) [
          | inl same ↦ rw same (let equal : came_count h x ≡ came_count h n = ap (came_count h) (sym (eqb-true n x same)) in omega (arith, equal, few))
          | inr off ↦ rw off (k.few x)
        ];
        begun = ap (λ (y : Ledger). y.begun) after ∙ k.begun;
        splits = λ lane y here runs. elim (set_cases xs i here.0 w y (subst (λ (ys : List ShardLedger). slice_get ys here.0 ≡ Some y) sets here.1)) [
          | inl one ↦ (
              let mine : z.shard ≡ lane.shard = sym took.shard ∙ ap (λ (v : ShardLedger). v.shard) (sym one) ∙ here.2 in
              let low = is.splits lane i z at mine runs in
              let equal : (lane_in y.lanes lane.lane).kept.splits ≡ (lane_in z.lanes lane.lane).kept.splits = ap (λ (v : ShardLedger). (lane_in v.lanes lane.lane).kept.splits) one ∙ took.splits lane.lane in
              omega (arith, low, equal))
          | inr other ↦ is.splits lane here.0 y other.1 here.2 runs
        ];
      });
      past = past;
      setting = setting;
      room = leaves;
    }
  where
    setting_grown : (c d : Ledger) → SameBase c d → (ts : List Stream) → map stream_of d.shards.items ≡ ts → setting_of d ≡ over (setting_of c) ts
    setting_grown c d b ts streams =
        let make : Config → ℕ → List Stream → SaidLists → Setting = λ a n us f. record { config = a; calls = n; streams = us; fates = f.fates; tries = f.tries; states = f.states; window_tries = f.window_tries } in
        ap (λ (a : Config). make a d.calls (map stream_of d.shards.items) d.found) b.config
        ∙ ap (λ (n : ℕ). make c.config n (map stream_of d.shards.items) d.found) b.calls
        ∙ ap (λ (us : List Stream). make c.config c.calls us d.found) streams
        ∙ ap (λ (f : SaidLists). make c.config c.calls ts f) b.found

-- what the code needs

pub can_take : (c : Ledger) (x : Coming) (xs : List ShardLedger) (i : ℕ) (z : ShardLedger) → Keeps c → IsComing c x → AreReady c x.shard x.arriving xs → slice_get xs i ≡ Some z → z.shard ≡ x.shard → CanTake z x.arriving
can_take c x xs i z k is ready at there =
    let s = setting_of c in
    let h = past_of c in
    let kept = ready.each i z at in
    let few : came_count h z.shard + length x.arriving.records.items < 4294967296 = subst (λ (n : ℕ). came_count h n + length x.arriving.records.items < 4294967296) (sym there) is.few in
    record {
      room = ready.room i z at there;
      few = records_may_come s h x.arriving z (own_legal s h k.rests.legal) is.even few kept;
      within = subst (λ (n : ℕ). All (IsWithin n) x.arriving.landings.items) (sym kept.factor) is.within;
    }

-- one that took the records
pub took_here : (c : Ledger) (x : Coming) (m : ℕ) (xs ys : List ShardLedger) (t : Takes xs ys x.shard m x.arriving) → Keeps c → IsComing c x
    → Legal (grown (setting_of c) x.shard x.arriving.records.items) (Came x.shard (came_count (past_of c) x.shard) (length x.arriving.records.items) m ∷ past_of c)
    → Took c x.shard m x.arriving t.was t.now
took_here c x m xs ys t k is legal =
    let s = setting_of c in
    let h = past_of c in
    let a = x.arriving in
    let g = grown s x.shard a.records.items in
    record {
      shard = t.shard;
      records = t.records;
      splits = t.splits;
      goes = λ kept. subst (λ (n : ℕ). IsShard g (Came n (came_count h n) (length a.records.items) m ∷ h) t.now) t.there
          (t.goes g h (k.found t.was.shard)
          (subst (λ (n : ℕ). Legal g (Came n (came_count h n) (length a.records.items) m ∷ h)) (sym t.there) legal)
          (subst (λ (n : ℕ). AreArriving g n (came_count h n) a) (sym t.there) is.stand)
          kept);
    }

pub same_but : (c w d : Ledger) (m : ℕ) → w ≡ record c { shards = w.shards } → d ≡ record w { history = d.history; last = m } → d ≡ record c { shards = d.shards; history = d.history; last = m }
same_but c w d m before others =
    let shards : d.shards ≡ w.shards = ap (λ (y : Ledger). y.shards) others in
    others ∙ ap (λ (y : Ledger). let z : Ledger = record y { history = d.history; last = m } in z) before
    ∙ ap (λ (v : Vec ShardLedger Global). let z : Ledger = record c { shards = v; history = d.history; last = m } in z) (sym shards)
