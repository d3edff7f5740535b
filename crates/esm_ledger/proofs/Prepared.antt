-- What is prepared for entries that are to follow, and what of it stays.
use Rattle.std.proofs.Common.{◌≡◌, ℕ, zero, suc, ◌+◌, ◌<◌, ◌≤◌, Bool, true, false, not, ◌&&◌, ◌||◌, List, [], ◌∷◌, ◌++◌, length, map, filter, refl, sym, ap, ◌∙◌, subst, inl, inr, Option, Some, None, arith, Vec, Global, is_none, append-nil, ◌⊎◌}
use Rattle.std.specs.Prelude.{◌==◌, ◌≢◌, IfSome, IfNone, All, slice_get, option_map, unwrap_or, vec_len, vec_capacity, if◌then◌else◌}
use Rattle.std.proofs.lemmas.Bool.{cases_Bool, eq-eqb, eqb-true, false_from_ne_true}
use Rattle.std.proofs.lemmas.List.Folds.{list_any-append}
use Rattle.esm_model.specs.declared.config.Config.{Config}
use Rattle.esm_model.specs.Records.{Record}
use Rattle.esm_model.specs.declared.lane.LaneId.{LaneId}
use Rattle.esm_model.specs.declared.entry.Entry.{Entry}
use Rattle.esm_model.specs.declared.entry.Entry.TheVariants.{Came}
use Rattle.esm_model.specs.Setting.{Setting, Stream, over, records_in, found_fate, is_key_of}
use Rattle.esm_model.specs.Entries.{holds, came_count, shards_that_came}
use Rattle.esm_model.specs.Owed.{is_refused}
use Rattle.esm_model.specs.Windows.{window_from}
use Rattle.esm_model.specs.Step.{Legal}
use Rattle.esm_model.specs.Lane.{same_lane}
use Rattle.esm_shard_index.specs.LaneView.{LaneView, Table, lane_in}
use Rattle.esm_shard_index.specs.declared.lane_state.LaneState.{LaneState}
use Rattle.esm_shard_index.specs.Progress.{found_at}
use Rattle.esm_shard_index.specs.Places.{places_from}
use Rattle.esm_shard_index.specs.WindowEntries.{has_entry}
use Rattle.esm_shard_index.specs.Windows.{window_before}
use Rattle.esm_ledger.specs.declared.arriving.Arriving.{Arriving}
use Rattle.esm_ledger.specs.declared.coming.Coming.{Coming}
use Rattle.esm_ledger.specs.declared.ledger.Ledger.{Ledger}
use Rattle.esm_ledger.specs.declared.shard.ShardLedger.{ShardLedger}
use Rattle.esm_ledger.specs.Shard.{IsShard, LeavesShard, lane_id, closing_in}
use Rattle.esm_ledger.specs.Arriving.{AreArriving, IsWithin}
use Rattle.esm_ledger.specs.Coming.{with_list, grown, listed, IsComing, Takes}
use Rattle.esm_ledger.specs.Ledger.{past_of, setting_of, stream_of, IsAt, HasRoom, HasShardRoom, Keeps, HasSplits, HasState, IsClosingPrepared}
use Rattle.esm_ledger.specs.Prepared.{StaysAt, StaysElsewhere, Stays}
use Rattle.esm_ledger.specs.Adding.{IsChanged, KeepsOthers, KeepsSplits, KeepsStates, KeepsClosings, EndsAt}
use Rattle.esm_ledger.proofs.Staying.{shard_stays, shard_over}
use Rattle.esm_ledger.proofs.Ledgers.{own_legal, set_cases, IsSet}
use Rattle.esm_ledger.proofs.KeptLedgers.{SameBase, setting_same}
use Rattle.esm_ledger.proofs.ShardChanges.{keeps_prepared, HasAsMany}
use Rattle.esm_ledger.proofs.Comes.{grown_extends, push_cases}
use Rattle.esm_ledger.proofs.Additions.{BringsNone}

-- lanes and windows

pub stays_at : (c d : Ledger) (m : ℕ) → ((y : ShardLedger) → IsAt d m y → IsAt c m y) → StaysAt c d m
stays_at c d m to = record {
  splits = λ k has y at. has y (to y at);
  states = λ w has y at. has y (to y at);
  closings = λ k has y at. has y (to y at);
}

-- where the shards are the same
pub moved : (w d : Ledger) (m : ℕ) (y : ShardLedger) → d.shards ≡ w.shards → IsAt d m y → IsAt w m y
moved w d m y same at = (at.0, subst (λ (v : Vec ShardLedger Global). slice_get v.items at.0 ≡ Some y) same at.1, at.2)

pub room_same : (c d : Ledger) (n : ℕ) → vec_len d.shards ≡ vec_len c.shards → vec_capacity d.shards ≡ vec_capacity c.shards → HasShardRoom c n → HasShardRoom d n
room_same c d n len capacity room = omega (arith, len, capacity, room)

pub room_kept : (c w d : Ledger) (m n : ℕ) → d.shards ≡ w.shards → KeepsOthers c w m → HasShardRoom c n → HasShardRoom d n
room_kept c w d m n same kept room =
    room_same c d n (ap (λ (v : Vec ShardLedger Global). vec_len v) same ∙ kept.len) (ap (λ (v : Vec ShardLedger Global). vec_capacity v) same ∙ kept.capacity) room

pub room_as : (c d : Ledger) (n : ℕ) → d.shards ≡ c.shards → HasShardRoom c n → HasShardRoom d n
room_as c d n same room = room_same c d n (ap (λ (v : Vec ShardLedger Global). vec_len v) same) (ap (λ (v : Vec ShardLedger Global). vec_capacity v) same) room

pub splits_over : (c w d : Ledger) (other : LaneId) → d.shards ≡ w.shards → IsChanged c w KeepsSplits → HasSplits c other → HasSplits d other
splits_over c w d other same on has y at =
    let was = on.kept other.shard y (moved w d other.shard y same at) in
    let low : 2 ≤ (lane_in was.0.lanes other.lane).kept.splits = has was.0 was.1 in
    let equal : (lane_in y.lanes other.lane).kept.splits ≡ (lane_in was.0.lanes other.lane).kept.splits = was.2 other.lane in
    omega (arith, low, equal)

pub states_over : (c w d : Ledger) (n v : ℕ) → d.shards ≡ w.shards → IsChanged c w KeepsStates → HasState c n v → HasState d n v
states_over c w d n v same on has y at =
    let was = on.kept n y (moved w d n y same at) in
    subst (λ (es : List (ℕ × Option (List ℕ))). has_entry es v ≡ true) (sym was.2) (has was.0 was.1)

closing_same : (x y : ShardLedger) (k : ℕ) → (lane_in y.lanes k).state ≡ (lane_in x.lanes k).state → y.windows.tries ≡ x.windows.tries
    → IfSome (closing_in (lane_in x.lanes k).state.running) (λ w. has_entry x.windows.tries w ≡ true) → IfSome (closing_in (lane_in y.lanes k).state.running) (λ w. has_entry y.windows.tries w ≡ true)
closing_same x y k state tries has =
    subst (λ (st : LaneState). IfSome (closing_in st.running) (λ w. has_entry y.windows.tries w ≡ true)) (sym state)
    (subst (λ (es : List (ℕ × ℕ)). IfSome (closing_in (lane_in x.lanes k).state.running) (λ w. has_entry es w ≡ true)) (sym tries) has)

pub closings_over : (c w d : Ledger) (other : LaneId) → d.shards ≡ w.shards → IsChanged c w KeepsClosings → IsClosingPrepared c other → IsClosingPrepared d other
closings_over c w d other same on has y at =
    let was = on.kept other.shard y (moved w d other.shard y same at) in
    closing_same was.0 y other.lane (ap (λ (t : Table). (lane_in t other.lane).state) was.2.lanes) was.2.tries (has was.0 was.1)

pub splits_besides : (c w d : Ledger) (lane other : LaneId) → d.shards ≡ w.shards → IsChanged c w (EndsAt lane) → same_lane lane other ≡ false → HasSplits c other → HasSplits d other
splits_besides c w d lane other same on off has y at =
    let here = moved w d other.shard y same at in
    let was = on.kept other.shard y here in
    let low : 2 ≤ (lane_in was.0.lanes other.lane).kept.splits = has was.0 was.1 in
    let away : same_lane lane (lane_id y.shard other.lane) ≡ false = subst (λ (n : ℕ). same_lane lane (lane_id n other.lane) ≡ false) (sym here.2) off in
    let equal : (lane_in y.lanes other.lane).kept.splits ≡ (lane_in was.0.lanes other.lane).kept.splits = ap (λ (v : LaneView). v.kept.splits) (was.2.others other.lane away) in
    omega (arith, low, equal)

-- one shard is another
pub others_set : (c d : Ledger) (n i : ℕ) (x y : ShardLedger) → IsSet c.shards.items d.shards.items i x y → x.shard ≡ n → vec_len d.shards ≡ vec_len c.shards → vec_capacity d.shards ≡ vec_capacity c.shards → KeepsOthers c d n
others_set c d n i x y is there len capacity = record {
  others = λ m z off at. elim (set_cases c.shards.items i at.0 y z (subst (λ (l : List ShardLedger). slice_get l at.0 ≡ Some z) is.now at.1)) [
    | inl one ↦ absurd (off (sym at.2 ∙ ap (λ (w : ShardLedger). w.shard) one ∙ is.shard ∙ there))
    | inr other ↦ (at.0, other.1, at.2)
  ];
  len = len;
  capacity = capacity;
}

pub others_none : (c : Ledger) (n : ℕ) → KeepsOthers c c n
others_none c n = record { others = λ m y off at. at; len = refl; capacity = refl }

pub always_if_none : {A : Type 0} {P : Type 0} (o : Option A) → P → IfNone o P
always_if_none None p = p
always_if_none (Some x) p = tt

pub if_none : {A : Type 0} {P Q : Type 0} (o : Option A) → (P → Q) → IfNone o P → IfNone o Q
if_none None f p = f p
if_none (Some x) f p = tt

pub when_none : {A : Type 0} {P : Type 0} (o : Option A) → IfNone o P → o ≡ None → P
when_none None p e = p
when_none (Some x) p e = absurd cc

-- records of other shards that are to come

pub records_grown : (ts : List Stream) (n : ℕ) (rs : List Record) → records_in (with_list ts n rs) n ≡ records_in ts n ++ rs
records_grown [] n rs = rw (eq-eqb n n refl) refl
records_grown (t ∷ ts) n rs = elim (cases_Bool (t.shard == n)) [
  | inl here ↦ rw (here, here) refl
  | inr off ↦ rw (off, off) (records_grown ts n rs)
]

records_elsewhere : (ts : List Stream) (n k : ℕ) (rs : List Record) → (n == k) ≡ false → records_in (with_list ts n rs) k ≡ records_in ts k
records_elsewhere [] n k rs off = rw off refl
records_elsewhere (t ∷ ts) n k rs off = elim (cases_Bool (t.shard == n)) [
  | inl here ↦ (let e : t.shard ≡ n = eqb-true t.shard n here in
      let away : (t.shard == k) ≡ false = ap (λ (m : ℕ). m == k) e ∙ off in
      rw (here, away) refl)
  | inr there ↦ elim (cases_Bool (t.shard == k)) [
    | inl mine ↦ rw (there, mine) refl
    | inr other ↦ rw (there, other) (records_elsewhere ts n k rs off)
  ]
]

before_same : (s : Setting) (ts us : List Stream) (n i : ℕ) → records_in us n ≡ records_in ts n → window_before (over s us) n i ≡ window_before (over s ts) n i
before_same s ts us n zero same = refl
before_same s ts us n (suc i) same = ap (λ (rs : List Record). window_from s.config.tumbling_ms 0 rs i) same

pub arriving_same : (s : Setting) (ts us : List Stream) (n first : ℕ) (a : Arriving) → records_in us n ≡ records_in ts n → AreArriving (over s ts) n first a → AreArriving (over s us) n first a
arriving_same s ts us n first a same is = record {
  stand = λ k r at. ap (λ (rs : List Record). slice_get rs (first + k)) same ∙ is.stand k r at;
  lengths = is.lengths;
  measured = λ k low. is.measured k low ∙ sym (ap (λ (rs : List Record). window_from s.config.tumbling_ms 0 rs (first + k)) same);
  fates = is.fates;
  landings = λ k low. let l = is.landings k low in record {
    lanes = λ j small. l.lanes j small
        ∙ sym (ap (λ (rs : List Record). unwrap_or (option_map (is_key_of s (lane_id n j)) (slice_get rs (first + k))) false && is_none (found_fate s n (first + k)) && not (unwrap_or (option_map (is_refused s) (slice_get rs (first + k))) false)) same);
    tries = l.tries;
  };
  windows = is.windows
      ∙ sym (ap (λ (rs : List Record). map (window_from s.config.tumbling_ms 0 rs) (filter (λ i. is_none (found_at s n i)) (places_from first (length a.records.items)))) same);
  last = is.last ∙ sym (before_same s ts us n (first + length a.records.items) same);
}

-- what records that are to come need of two ledgers
pub record SameFor (c d : Ledger) (x : Coming) : Type 0 where
  pub config : d.config ≡ c.config
  pub count : came_count (past_of d) x.shard ≡ came_count (past_of c) x.shard
  pub named : holds (shards_that_came (past_of d)) x.shard ≡ holds (shards_that_came (past_of c)) x.shard
  pub known : (y : ShardLedger) → IsAt d x.shard y → IsAt c x.shard y
  pub fresh : (y : ShardLedger) → y.shard ≡ x.shard → IsShard (setting_of c) (past_of c) y → IsShard (setting_of d) (past_of d) y
  pub stand : AreArriving (grown (setting_of c) x.shard x.arriving.records.items) x.shard (came_count (past_of c) x.shard) x.arriving
      → AreArriving (grown (setting_of d) x.shard x.arriving.records.items) x.shard (came_count (past_of c) x.shard) x.arriving

pub coming_stays : (c d : Ledger) (x : Coming) → SameFor c d x → IsComing c x → IsComing d x
coming_stays c d x same is = record {
  some = is.some;
  shard = is.shard;
  even = is.even;
  few = subst (λ (n : ℕ). n + length x.arriving.records.items < 4294967296) (sym same.count) is.few;
  within = subst (λ (a : Config). All (IsWithin a.factor) x.arriving.landings.items) (sym same.config) is.within;
  stand = subst (λ (n : ℕ). AreArriving (grown (setting_of d) x.shard x.arriving.records.items) x.shard n x.arriving) (sym same.count) (same.stand is.stand);
  known = λ y at. is.known y (same.known y at);
  named = is.named ∙ ap not (sym same.named);
  fresh = λ y some. let f = is.fresh y some in (f.0, same.fresh y f.0 f.1, f.2);
}

-- nothing but room is another
pub coming_prepared : (c d : Ledger) (x : Coming) → setting_of d ≡ setting_of c → past_of d ≡ past_of c → ((y : ShardLedger) → IsAt d x.shard y → IsAt c x.shard y) → IsComing c x → IsComing d x
coming_prepared c d x setting past known is = coming_stays c d x (record {
  config = ap (λ (s : Setting). s.config) setting;
  count = ap (λ (h : List Entry). came_count h x.shard) past;
  named = ap (λ (h : List Entry). holds (shards_that_came h) x.shard) past;
  known = known;
  fresh = λ y at shard. subst (λ (s : Setting). IsShard s (past_of d) y) (sym setting) (subst (λ (h : List Entry). IsShard (setting_of c) h y) (sym past) shard);
  stand = λ stand. subst (λ (s : Setting). AreArriving (grown s x.shard x.arriving.records.items) x.shard (came_count (past_of c) x.shard) x.arriving) (sym setting) stand;
}) is

pub prepared_elsewhere : (c d : Ledger) (n : ℕ) → setting_of d ≡ setting_of c → past_of d ≡ past_of c → KeepsOthers c d n → StaysElsewhere c d n
prepared_elsewhere c d n setting past kept = record {
  shards = λ m off. stays_at c d m (λ y at. kept.others m y off at);
  comings = λ x off is. coming_prepared c d x setting past (λ y at. kept.others x.shard y off at) is;
}

-- where the shards are the same in other memory
pub seen : (w d : Ledger) (m : ℕ) (y : ShardLedger) → d.shards.items ≡ w.shards.items → IsAt d m y → IsAt w m y
seen w d m y same at = (at.0, subst (λ (l : List ShardLedger). slice_get l at.0 ≡ Some y) same at.1, at.2)

pub all_stays : (c d : Ledger) → setting_of d ≡ setting_of c → past_of d ≡ past_of c → d.shards.items ≡ c.shards.items → Stays c d
all_stays c d setting past same = record {
  shards = λ m. stays_at c d m (λ y at. seen c d m y same at);
  comings = λ x is. coming_prepared c d x setting past (λ y at. seen c d x.shard y same at) is;
}

-- a list of shards with other room
pub record Widened (c d : Ledger) : Type 0 where
  pub kept : Keeps d
  pub setting : setting_of d ≡ setting_of c
  pub room : (n : ℕ) → HasRoom c n → HasRoom d n
  pub stays : Stays c d

pub widened : (c d : Ledger) → Keeps c → d ≡ record c { shards = d.shards } → d.shards.items ≡ c.shards.items → Widened c d
widened c d k is items =
    let on : IsChanged c d KeepsSplits = record {
      names = ap (map (λ (x : ShardLedger). x.shard)) items;
      streams = ap (map stream_of) items;
      kept = λ n y at. (y, seen c d n y items at, λ j. refl);
    } in
    let base : SameBase c d = record { config = ap (λ (z : Ledger). z.config) is; calls = ap (λ (z : Ledger). z.calls) is; found = ap (λ (z : Ledger). z.found) is } in
    let setting = setting_same c d base on.streams in
    let past : past_of d ≡ past_of c = ap (λ (z : Ledger). past_of z) is in
    record {
      kept = keeps_prepared c d KeepsSplits k is on (λ n x at. k.each n x (seen c d n x items at)) (λ lane y at runs. k.splits lane y (seen c d lane.shard y items at) runs);
      setting = setting;
      room = λ m r. subst (λ (z : Ledger). HasRoom z m) (sym is) (record { room = r.room; short = r.short });
      stays = all_stays c d setting past items;
    }

pub splits_more : (c d : Ledger) (other : LaneId) → IsChanged c d HasAsMany → HasSplits c other → HasSplits d other
splits_more c d other on has y at = (let was = on.kept other.shard y at in was.2 other.lane (has was.0 was.1))

-- one more entry that brings no records

pub coming_over : (c d : Ledger) (e : Entry) (x : Coming) → Keeps c → Legal (setting_of c) (e ∷ past_of c) → past_of d ≡ e ∷ past_of c → setting_of d ≡ setting_of c → BringsNone e (past_of c) → LeavesShard x.shard e
    → ((y : ShardLedger) → IsAt d x.shard y → IsAt c x.shard y) → IsComing c x → IsComing d x
coming_over c d e x k legal past setting none leaves known is = coming_stays c d x (record {
  config = ap (λ (s : Setting). s.config) setting;
  count = ap (λ (h : List Entry). came_count h x.shard) past ∙ none.count x.shard;
  named = ap (λ (h : List Entry). holds (shards_that_came h) x.shard) past ∙ ap (λ (ns : List ℕ). holds ns x.shard) none.shards;
  known = known;
  fresh = λ y at shard. subst (λ (s : Setting). IsShard s (past_of d) y) (sym setting) (subst (λ (h : List Entry). IsShard (setting_of c) h y) (sym past)
      (shard_stays (setting_of c) (past_of c) e y (k.found y.shard) (subst (λ (n : ℕ). LeavesShard n e) (sym at) leaves) legal shard));
  stand = λ stand. subst (λ (s : Setting). AreArriving (grown s x.shard x.arriving.records.items) x.shard (came_count (past_of c) x.shard) x.arriving) (sym setting) stand;
}) is

pub elsewhere_over : (c w d : Ledger) (n : ℕ) (e : Entry) → Keeps c → Legal (setting_of c) (e ∷ past_of c) → past_of d ≡ e ∷ past_of c → setting_of d ≡ setting_of c → BringsNone e (past_of c)
    → ((m : ℕ) → m ≢ n → LeavesShard m e) → d.shards ≡ w.shards → KeepsOthers c w n → StaysElsewhere c d n
elsewhere_over c w d n e k legal past setting none leaves same kept = record {
  shards = λ m off. stays_at c d m (λ y at. kept.others m y off (moved w d m y same at));
  comings = λ x off is. coming_over c d e x k legal past setting none (leaves x.shard off) (λ y at. kept.others x.shard y off (moved w d x.shard y same at)) is;
}

pub all_over : (c d : Ledger) (e : Entry) → Keeps c → Legal (setting_of c) (e ∷ past_of c) → past_of d ≡ e ∷ past_of c → setting_of d ≡ setting_of c → BringsNone e (past_of c)
    → ((m : ℕ) → LeavesShard m e) → d.shards ≡ c.shards → Stays c d
all_over c d e k legal past setting none leaves same = record {
  shards = λ m. stays_at c d m (λ y at. moved c d m y same at);
  comings = λ x is. coming_over c d e x k legal past setting none (leaves x.shard) (λ y at. moved c d x.shard y same at) is;
}

-- an entry of another shard leaves this one
pub off_shard : (n m : ℕ) → m ≢ n → (n == m) ≡ false
off_shard n m off = false_from_ne_true (n == m) (λ same. off (sym (eqb-true n m same)))

-- records come

holds_pushed : (ns : List ℕ) (b : Bool) (n k : ℕ) → (n == k) ≡ false → holds (if b then ns else ns ++ n ∷ []) k ≡ holds ns k
holds_pushed ns true n k off = refl
holds_pushed ns false n k off = list_any-append (λ p. p == k) ns (n ∷ []) ∙ rw off (or_none (holds ns k))
  where
    or_none : (b : Bool) → (b || false) ≡ b
    or_none true = refl
    or_none false = refl

pub coming_beside : (c d : Ledger) (n m : ℕ) (rs : List Record) (x : Coming) → let e = Came n (came_count (past_of c) n) (length rs) m in
    Keeps c → Legal (grown (setting_of c) n rs) (e ∷ past_of c) → past_of d ≡ e ∷ past_of c → setting_of d ≡ grown (setting_of c) n rs → x.shard ≢ n
    → ((y : ShardLedger) → IsAt d x.shard y → IsAt c x.shard y) → IsComing c x → IsComing d x
coming_beside c d n m rs x k legal past setting off known is =
    let s = setting_of c in
    let h = past_of c in
    let e = Came n (came_count h n) (length rs) m in
    let g = grown s n rs in
    let ts = with_list s.streams n rs in
    let qs = x.arriving.records.items in
    let apart' : (n == x.shard) ≡ false = off_shard n x.shard off in
    let before : Legal s h = own_legal s h k.rests.legal in
    let records : records_in (with_list ts x.shard qs) x.shard ≡ records_in (with_list s.streams x.shard qs) x.shard =
    records_grown ts x.shard qs ∙ ap (λ (ps : List Record). ps ++ qs) (records_elsewhere s.streams n x.shard rs apart') ∙ sym (records_grown s.streams x.shard qs) in
    coming_stays c d x (record {
      config = ap (λ (t : Setting). t.config) setting;
      count = ap (λ (l : List Entry). came_count l x.shard) past ∙ rw apart' refl;
      named = ap (λ (l : List Entry). holds (shards_that_came l) x.shard) past ∙ holds_pushed (shards_that_came h) (holds (shards_that_came h) n) n x.shard apart';
      known = known;
      fresh = λ y at shard. subst (λ (t : Setting). IsShard t (past_of d) y) (sym setting) (subst (λ (l : List Entry). IsShard g l y) (sym past)
          (shard_stays g h e y (k.found y.shard) (subst (λ (j : ℕ). (n == j) ≡ false) (sym at) apart') legal (shard_over s ts h y (grown_extends s.streams n rs) before shard)));
      stand = λ stand. subst (λ (t : Setting). AreArriving (grown t x.shard qs) x.shard (came_count h x.shard) x.arriving) (sym setting)
          (arriving_same s (with_list s.streams x.shard qs) (with_list ts x.shard qs) x.shard (came_count h x.shard) x.arriving records stand);
    }) is

-- another shard than that of the records was there before
pub took_others : (c d : Ledger) (n m : ℕ) (fresh : Option ShardLedger) (a : Arriving) (t : Takes (c.shards.items ++ listed fresh) d.shards.items n m a) → ((y : ShardLedger) → fresh ≡ Some y → y.shard ≡ n)
    → (k : ℕ) (z : ShardLedger) → k ≢ n → IsAt d k z → IsAt c k z
took_others c d n m fresh a t named k z off at =
    elim (set_cases (c.shards.items ++ listed fresh) t.place at.0 t.now z (subst (λ (l : List ShardLedger). slice_get l at.0 ≡ Some z) t.items at.1)) [
      | inl one ↦ absurd (off (sym at.2 ∙ ap (λ (w : ShardLedger). w.shard) one ∙ t.shard ∙ t.there))
      | inr other ↦ old fresh named other.1
    ]
  where
    old : (o : Option ShardLedger) → ((y : ShardLedger) → o ≡ Some y → y.shard ≡ n) → slice_get (c.shards.items ++ listed o) at.0 ≡ Some z → IsAt c k z
    old None named' there = (at.0, subst (λ (l : List ShardLedger). slice_get l at.0 ≡ Some z) (append-nil c.shards.items) there, at.2)
    old (Some y) named' there = elim (push_cases c.shards.items y at.0 z there) [
      | inl here ↦ (at.0, here, at.2)
      | inr same ↦ absurd (off (sym at.2 ∙ ap (λ (w : ShardLedger). w.shard) same ∙ named' y refl))
    ]

-- a shard of which records came before
pub took_own : (c d : Ledger) (n m : ℕ) (a : Arriving) (t : Takes (c.shards.items ++ []) d.shards.items n m a) → StaysAt c d n
took_own c d n m a t = record {
  splits = λ k has z at. elim (was z at) [
    | inl one ↦ (let low : 2 ≤ (lane_in t.was.lanes k).kept.splits = has t.was here in
        let equal : (lane_in z.lanes k).kept.splits ≡ (lane_in t.was.lanes k).kept.splits = ap (λ (w : ShardLedger). (lane_in w.lanes k).kept.splits) one ∙ t.splits k in
        omega (arith, low, equal))
    | inr other ↦ has z other
  ];
  states = λ v has z at. elim (was z at) [
    | inl one ↦ subst (λ (es : List (ℕ × Option (List ℕ))). has_entry es v ≡ true) (sym (ap (λ (w : ShardLedger). w.windows.states) one ∙ t.states)) (has t.was here)
    | inr other ↦ has z other
  ];
  closings = λ k has z at. elim (was z at) [
    | inl one ↦ closing_same t.was z k (ap (λ (w : ShardLedger). (lane_in w.lanes k).state) one ∙ t.running k) (ap (λ (w : ShardLedger). w.windows.tries) one ∙ t.tries) (has t.was here)
    | inr other ↦ has z other
  ];
}
  where
    plain : (i : ℕ) (z : ShardLedger) → slice_get (c.shards.items ++ []) i ≡ Some z → slice_get c.shards.items i ≡ Some z
    plain i z at = subst (λ (l : List ShardLedger). slice_get l i ≡ Some z) (append-nil c.shards.items) at

    here : IsAt c n t.was
    here = (t.place, plain t.place t.was t.at, t.there)

    was : (z : ShardLedger) → IsAt d n z → (z ≡ t.now) ⊎ IsAt c n z
    was z at = elim (set_cases (c.shards.items ++ []) t.place at.0 t.now z (subst (λ (l : List ShardLedger). slice_get l at.0 ≡ Some z) t.items at.1)) [
      | inl one ↦ inl one
      | inr other ↦ inr (at.0, plain at.0 z other.1, at.2)
    ]

few_listed : (o : Option ShardLedger) → length (listed o) ≤ 1
few_listed None = omega arith
few_listed (Some y) = omega arith

pub room_taken : (c d : Ledger) (o : Option ShardLedger) (n : ℕ) → vec_len d.shards ≡ vec_len c.shards + length (listed o) → vec_capacity d.shards ≡ vec_capacity c.shards → HasShardRoom c (n + 1) → HasShardRoom d n
room_taken c d o n len capacity room = (let few = few_listed o in omega (arith, few, len, capacity, room))

pub push_room : (c : Ledger) (o : Option ShardLedger) → IfSome o (λ (y : ShardLedger). HasShardRoom c 1) → IfSome o (λ (y : ShardLedger). vec_len c.shards < vec_capacity c.shards)
push_room c None room = tt
push_room c (Some y) room = omega (arith, room)

-- the code adds the records to one of the shards
pub room_came : (c w d : Ledger) (v : Vec ShardLedger Global) (o : Option ShardLedger) (n : ℕ) → d.shards ≡ w.shards → vec_len w.shards ≡ vec_len v → vec_capacity w.shards ≡ vec_capacity v
    → vec_len v ≡ vec_len c.shards + length (listed o) → vec_capacity v ≡ vec_capacity c.shards → HasShardRoom c (n + 1) → HasShardRoom d n
room_came c w d v o n same len capacity more as_much room =
    room_taken c d o n (ap (λ (u : Vec ShardLedger Global). vec_len u) same ∙ len ∙ more) (ap (λ (u : Vec ShardLedger Global). vec_capacity u) same ∙ capacity ∙ as_much) room

pub room_known : (c w d : Ledger) (v : Vec ShardLedger Global) (o : Option ShardLedger) (n : ℕ) → d.shards ≡ w.shards → vec_len w.shards ≡ vec_len v → vec_capacity w.shards ≡ vec_capacity v
    → vec_len v ≡ vec_len c.shards + length (listed o) → vec_capacity v ≡ vec_capacity c.shards → o ≡ None → HasShardRoom c n → HasShardRoom d n
room_known c w d v o n same len capacity more as_much known room =
    let none : length (listed o) ≡ 0 = ap (λ (q : Option ShardLedger). length (listed q)) known in
    let a : vec_len d.shards ≡ vec_len c.shards + length (listed o) = ap (λ (u : Vec ShardLedger Global). vec_len u) same ∙ len ∙ more in
    let b : vec_capacity d.shards ≡ vec_capacity c.shards = ap (λ (u : Vec ShardLedger Global). vec_capacity u) same ∙ capacity ∙ as_much in
    omega (arith, none, a, b, room)

pub came_elsewhere : (c d : Ledger) (m : ℕ) (x : Coming) (t : Takes (c.shards.items ++ listed x.fresh) d.shards.items x.shard m x.arriving) → Keeps c → IsComing c x
    → Legal (grown (setting_of c) x.shard x.arriving.records.items) (Came x.shard (came_count (past_of c) x.shard) (length x.arriving.records.items) m ∷ past_of c)
    → past_of d ≡ Came x.shard (came_count (past_of c) x.shard) (length x.arriving.records.items) m ∷ past_of c → setting_of d ≡ grown (setting_of c) x.shard x.arriving.records.items
    → StaysElsewhere c d x.shard
came_elsewhere c d m x t k is legal past setting =
    let named : (y : ShardLedger) → x.fresh ≡ Some y → y.shard ≡ x.shard = λ y some. (is.fresh y some).0 in
    record {
      shards = λ j off. stays_at c d j (λ y at. took_others c d x.shard m x.fresh x.arriving t named j y off at);
      comings = λ z off here. coming_beside c d x.shard m x.arriving.records.items z k legal past setting off (λ y at. took_others c d x.shard m x.fresh x.arriving t named z.shard y off at) here;
    }

pub came_own : (c d : Ledger) (m : ℕ) (x : Coming) (t : Takes (c.shards.items ++ listed x.fresh) d.shards.items x.shard m x.arriving) → x.fresh ≡ None → StaysAt c d x.shard
came_own c d m x t known = took_own c d x.shard m x.arriving (subst (λ (o : Option ShardLedger). Takes (c.shards.items ++ listed o) d.shards.items x.shard m x.arriving) known t)
