-- What a change of one shard makes of a ledger.
use Rattle.std.proofs.Common.{◌≡◌, ℕ, ◌<◌, ◌≤◌, true, false, List, ◌∷◌, length, set, get_or, refl, sym, ap, ◌∙◌, subst, inl, inr, Option, Some, arith}
use Rattle.std.specs.Prelude.{◌==◌, ◌≢◌, OnOk, OnErr, Ok, Err, Result, slice_get}
use Rattle.std.proofs.lemmas.Bool.{cases_eq, eqb-true, false_from_ne_true}
use Rattle.std.proofs.lemmas.Option.{slice_get_read}
use Rattle.esm_model.specs.declared.lane.LaneId.{LaneId}
use Rattle.esm_model.specs.declared.entry.Fate.{Fate}
use Rattle.esm_model.specs.declared.entry.Reply.{Reply}
use Rattle.esm_model.specs.declared.entry.WindowState.{WindowState}
use Rattle.esm_model.specs.declared.entry.Entry.{Entry}
use Rattle.esm_model.specs.declared.entry.Entry.TheVariants.{Began, Ended, Gave, Closed}
use Rattle.esm_model.specs.Setting.{Setting}
use Rattle.esm_model.specs.Entries.{is_running}
use Rattle.esm_model.specs.Lane.{same_lane}
use Rattle.esm_model.specs.Step.{Legal}
use Rattle.esm_model.proofs.Steps.{same_lane-refl}
use Rattle.esm_shard_index.specs.LaneView.{LaneView, Table, lane_in}
use Rattle.esm_shard_index.specs.LaneHistory.{HasFoundTries}
use Rattle.esm_ledger.specs.declared.ledger.Ledger.{Ledger}
use Rattle.esm_ledger.specs.declared.shard.ShardLedger.{ShardLedger}
use Rattle.esm_ledger.specs.Shard.{IsShard, LeavesShard, lane_id}
use Rattle.esm_ledger.specs.Held.{Held}
use Rattle.esm_ledger.specs.Ledger.{past_of, setting_of, IsAt, HasRoom, Rests, Keeps}
use Rattle.esm_ledger.specs.Adding.{IsChanged, AreShards, KeepsSplits, EndsAt, RestsAt}
use Rattle.esm_ledger.proofs.Staying.{shard_stays}
use Rattle.esm_ledger.proofs.Ledgers.{own_legal, one_place, IsSet, names_set, streams_set, set_cases, ledger_distinct, IsNowhere}
use Rattle.esm_ledger.proofs.KeptLedgers.{SameBase, calls_same, config_same, keeps_from, setting_same}

-- one shard changes

abbrev pub Leaves : ℕ → List Entry → List Entry → Type 0
Leaves n g h = (s : Setting) (x : ShardLedger) → (x.shard ≡ n → ⊥) → HasFoundTries s x.shard → Legal s g → IsShard s h x → IsShard s g x

abbrev pub StaysSo : ℕ → (ShardLedger → ShardLedger → Type 0) → Type 0
StaysSo n P = (x : ShardLedger) → (x.shard ≡ n → ⊥) → P x x

pub changed_none : (c : Ledger) (n : ℕ) (P : ShardLedger → ShardLedger → Type 0) → IsNowhere c n → StaysSo n P → IsChanged c c P
changed_none c n P none same = record {
  names = refl;
  streams = refl;
  kept = λ m y at. (y, at, same y (λ e. none y (at.0, at.1, e)));
}

pub shards_none : (c : Ledger) (n : ℕ) (g : List Entry) → Keeps c → Legal (setting_of c) g → Leaves n g (past_of c) → IsNowhere c n → AreShards c c g
shards_none c n g k legal leaves none = λ m x at. leaves (setting_of c) x (λ e. none x (at.0, at.1, e)) (k.found x.shard) legal (k.each m x at)

pub changed_set : (c d : Ledger) (n i : ℕ) (x y : ShardLedger) (P : ShardLedger → ShardLedger → Type 0) → Rests c
    → IsSet c.shards.items d.shards.items i x y → x.shard ≡ n → P x y → StaysSo n P → IsChanged c d P
changed_set c d n i x y P r is there here same =
    let distinct = ledger_distinct c r in
    record {
      names = names_set c.shards.items d.shards.items i x y is;
      streams = streams_set c.shards.items d.shards.items i x y is;
      kept = λ m z at. elim (set_cases c.shards.items i at.0 y z (subst (λ (l : List ShardLedger). slice_get l at.0 ≡ Some z) is.now at.1)) [
        | inl one ↦ (x, (i, is.at, sym is.shard ∙ ap (λ (w : ShardLedger). w.shard) (sym one) ∙ at.2), subst (λ (w : ShardLedger). P x w) (sym one) here)
        | inr other ↦ (z, (at.0, other.1, at.2), same z (λ e. other.0 (one_place c.shards.items i at.0 x z distinct is.at other.1 (there ∙ sym e))))
      ];
    }

pub shards_set : (c d : Ledger) (n i : ℕ) (x y : ShardLedger) (g : List Entry) → Keeps c → Legal (setting_of c) g → Leaves n g (past_of c)
    → IsSet c.shards.items d.shards.items i x y → x.shard ≡ n → (IsShard (setting_of c) (past_of c) x → IsShard (setting_of c) g y) → AreShards c d g
shards_set c d n i x y g k legal leaves is there goes = λ m z at.
    let distinct = ledger_distinct c k.rests in
    elim (set_cases c.shards.items i at.0 y z (subst (λ (l : List ShardLedger). slice_get l at.0 ≡ Some z) is.now at.1)) [
      | inl one ↦ subst (λ (w : ShardLedger). IsShard (setting_of c) g w) (sym one) (goes (k.each x.shard x (i, is.at, refl)))
      | inr other ↦ leaves (setting_of c) z (λ e. other.0 (one_place c.shards.items i at.0 x z distinct is.at other.1 (there ∙ sym e))) (k.found z.shard) legal (k.each z.shard z (at.0, other.1, refl))
    ]

-- nothing but a shard's room changes
pub keeps_prepared : (c d : Ledger) (P : ShardLedger → ShardLedger → Type 0) → Keeps c → d ≡ record c { shards = d.shards } → IsChanged c d P → AreShards c d (past_of c)
    → ((lane : LaneId) (y : ShardLedger) → IsAt d lane.shard y → is_running (past_of c) lane ≡ true → 2 ≤ (lane_in y.lanes lane.lane).kept.splits) → Keeps d
keeps_prepared c d P k is on each splits =
    let base : SameBase c d = record { config = ap (λ (z : Ledger). z.config) is; calls = ap (λ (z : Ledger). z.calls) is; found = ap (λ (z : Ledger). z.found) is } in
    let same : d.history ≡ c.history = ap (λ (z : Ledger). z.history) is in
    let past : past_of d ≡ past_of c = ap (λ (z : Ledger). past_of z) is in
    let r = k.rests in
    let room : HasRoom d 0 = subst (λ (z : Ledger). HasRoom z 0) (sym is) (record { room = r.room.room; short = r.room.short }) in
    keeps_from d (setting_of c) (past_of c) (setting_same c d base on.streams) past (config_same c d base k) (calls_same c d base k) room (record {
      legal = r.legal;
      last = ap (λ (z : Ledger). z.last) is ∙ r.last;
      shut = ap (λ (z : Ledger). z.shut) is ∙ r.shut;
      unended = ap (λ (z : Ledger). z.unended) is ∙ r.unended;
      shards = on.names ∙ r.shards;
      found = k.found;
      each = each;
      few = k.few;
      begun = ap (λ (z : Ledger). z.begun) is ∙ k.begun;
      splits = splits;
    })

-- shards elsewhere

elsewhere : (n k : ℕ) → (k ≡ n → ⊥) → (n == k) ≡ false
elsewhere n k off = false_from_ne_true (n == k) (λ same. off (sym (eqb-true n k same)))

pub leaves_began : (lane : LaneId) (places : List ℕ) (closing : Option ℕ) (m : ℕ) (h : List Entry) → Leaves lane.shard (Began lane places closing m ∷ h) h
leaves_began lane places closing m h s x off found legal is = shard_stays s h (Began lane places closing m) x found (elsewhere lane.shard x.shard off) legal is

pub leaves_ended : (lane : LaneId) (reply : Reply) (m : ℕ) (h : List Entry) → Leaves lane.shard (Ended lane reply m ∷ h) h
leaves_ended lane reply m h s x off found legal is = shard_stays s h (Ended lane reply m) x found (elsewhere lane.shard x.shard off) legal is

pub leaves_gave : (by : Option LaneId) (n : ℕ) (places : List ℕ) (f : Fate) (line : Option (List ℕ)) (state : Option WindowState) (m : ℕ) (h : List Entry) → Leaves n (Gave by n places f line state m ∷ h) h
leaves_gave by n places f line state m h s x off found legal is = shard_stays s h (Gave by n places f line state m) x found (elsewhere n x.shard off) legal is

pub leaves_closed : (lane : LaneId) (window m : ℕ) (h : List Entry) → Leaves lane.shard (Closed lane window m ∷ h) h
leaves_closed lane window m h s x off found legal is = shard_stays s h (Closed lane window m) x found (elsewhere lane.shard x.shard off) legal is

-- the lane that is named stands at its shard
pub named_lane : (lane : LaneId) (x : ShardLedger) → x.shard ≡ lane.shard → lane_id x.shard lane.lane ≡ lane
named_lane lane x there = ap (λ (n : ℕ). lane_id n lane.lane) there

pub relabel : (s : Setting) (h : List Entry) (n : ℕ) (x y : ShardLedger) (make : ℕ → Entry) → x.shard ≡ n → (Legal s (make x.shard ∷ h) → IsShard s (make x.shard ∷ h) y) → Legal s (make n ∷ h) → IsShard s (make n ∷ h) y
relabel s h n x y make there goes legal = subst (λ (m : ℕ). IsShard s (make m ∷ h) y) there (goes (subst (λ (m : ℕ). Legal s (make m ∷ h)) (sym there) legal))

-- what the code reads and writes at a place

pub read_at : (xs : List ShardLedger) (i : ℕ) (x : ShardLedger) → i < length xs → x ≡ get_or xs i x → slice_get xs i ≡ Some x
read_at xs i x low is = slice_get_read xs (length xs) i x refl low is

pub set_at : (xs ys : List ShardLedger) (i : ℕ) (x y : ShardLedger) → i < length xs → x ≡ get_or xs i x → ys ≡ set xs i y → y.shard ≡ x.shard → y.records ≡ x.records → IsSet xs ys i x y
set_at xs ys i x y low is now shard records = record { at = read_at xs i x low is; now = now; shard = shard; records = ap (λ (v : Held). v.items) records }

pub set_items_at : (xs ys : List ShardLedger) (i : ℕ) (x y : ShardLedger) → i < length xs → x ≡ get_or xs i x → ys ≡ set xs i y → y.shard ≡ x.shard → y.records.items ≡ x.records.items → IsSet xs ys i x y
set_items_at xs ys i x y low is now shard records = record { at = read_at xs i x low is; now = now; shard = shard; records = records }

pub splits_stay : (n : ℕ) → StaysSo n KeepsSplits
splits_stay n x off k = refl

pub ends_stay : (lane : LaneId) → StaysSo lane.shard (EndsAt lane)
ends_stay lane x off = record { others = λ k away. refl; states = refl }

pub rests_stay : (lane : LaneId) → StaysSo lane.shard (RestsAt lane)
rests_stay lane x off = record { others = λ k away. refl; rests = λ here. absurd (off here); lanes = refl }

-- another lane of the shard has another number
pub other_number : (lane : LaneId) (n k : ℕ) → n ≡ lane.shard → same_lane lane (lane_id n k) ≡ false → k ≢ lane.lane
other_number lane n k there away e =
    let itself : same_lane lane (lane_id lane.shard lane.lane) ≡ true = same_lane-refl lane in
    let here : same_lane lane (lane_id n k) ≡ true = subst (λ (j : ℕ). same_lane lane (lane_id n j) ≡ true) (sym e) (subst (λ (m : ℕ). same_lane lane (lane_id m lane.lane) ≡ true) (sym there) itself) in
    (let clash : true ≡ false = sym here ∙ away in cc)

-- no shard changes

pub changed_nowhere : (c : Ledger) → IsChanged c c KeepsSplits
changed_nowhere c = record { names = refl; streams = refl; kept = λ m y at. (y, at, λ k. refl) }

pub shards_stay : (c : Ledger) (e : Entry) → Keeps c → Legal (setting_of c) (e ∷ past_of c) → ((n : ℕ) → LeavesShard n e) → AreShards c c (e ∷ past_of c)
shards_stay c e k legal leaves = λ m x at. shard_stays (setting_of c) (past_of c) e x (k.found x.shard) (leaves x.shard) legal (k.each m x at)

-- room that is prepared

pub at_set : (c d : Ledger) (n i : ℕ) (x y : ShardLedger) (Q : ShardLedger → Type 0) → Rests c → IsSet c.shards.items d.shards.items i x y → x.shard ≡ n → Q y → (z : ShardLedger) → IsAt d n z → Q z
at_set c d n i x y Q r is there q z at =
    elim (set_cases c.shards.items i at.0 y z (subst (λ (l : List ShardLedger). slice_get l at.0 ≡ Some z) is.now at.1)) [
      | inl one ↦ subst Q (sym one) q
      | inr other ↦ absurd (other.0 (one_place c.shards.items i at.0 x z (ledger_distinct c r) is.at other.1 (there ∙ sym at.2)))
    ]

-- where a lane had the splits of an end it has them
abbrev pub HasAsMany : ShardLedger → ShardLedger → Type 0
HasAsMany x y = (k : ℕ) → 2 ≤ (lane_in x.lanes k).kept.splits → 2 ≤ (lane_in y.lanes k).kept.splits

pub prepared_splits : {A E : Type 0} (x y : ShardLedger) (lane : ℕ) (r : Result A E) → OnOk r (2 ≤ (lane_in y.lanes lane).kept.splits) → OnErr r (y ≡ x)
    → ((k : ℕ) → k ≢ lane → lane_in y.lanes k ≡ lane_in x.lanes k) → HasAsMany x y
prepared_splits x y lane (Ok u) ok err others k low = elim (cases_eq k lane) [
  | inl here ↦ subst (λ (j : ℕ). 2 ≤ (lane_in y.lanes j).kept.splits) (sym here) ok
  | inr off ↦ (let same : (lane_in y.lanes k).kept.splits ≡ (lane_in x.lanes k).kept.splits = ap (λ (v : LaneView). v.kept.splits) (others k off) in omega (arith, same, low))
]
prepared_splits x y lane (Err u) ok err others k low = subst (λ (z : ShardLedger). 2 ≤ (lane_in z.lanes k).kept.splits) (sym err) low

pub same_splits : (x y : ShardLedger) → y.lanes ≡ x.lanes → HasAsMany x y
same_splits x y same k low = subst (λ (t : Table). 2 ≤ (lane_in t k).kept.splits) (sym same) low

-- a shard that gets room
pub record Prepared (c d : Ledger) : Type 0 where
  pub kept : Keeps d
  pub setting : setting_of d ≡ setting_of c
  pub room : (n : ℕ) → HasRoom c n → HasRoom d n

pub prepared : (c d : Ledger) (n i : ℕ) (x y : ShardLedger) → Keeps c → d ≡ record c { shards = d.shards } → IsSet c.shards.items d.shards.items i x y → x.shard ≡ n
    → ((s : Setting) (h : List Entry) → IsShard s h x → IsShard s h y) → HasAsMany x y → Prepared c d
prepared c d n i x y k is set there goes many =
    let on = changed_set c d n i x y HasAsMany k.rests set there many (λ z off j low. low) in
    let base : SameBase c d = record { config = ap (λ (z : Ledger). z.config) is; calls = ap (λ (z : Ledger). z.calls) is; found = ap (λ (z : Ledger). z.found) is } in
    record {
      kept = keeps_prepared c d HasAsMany k is on
          (shards_set c d n i x y (past_of c) k (own_legal (setting_of c) (past_of c) k.rests.legal) (λ s z off found legal shard. shard) set there (λ shard. goes (setting_of c) (past_of c) shard))
          (λ lane z at runs. (let was = on.kept lane.shard z at in was.2 lane.lane (k.splits lane was.0 was.1 runs)));
      setting = setting_same c d base on.streams;
      room = λ m r. subst (λ (z : Ledger). HasRoom z m) (sym is) (record { room = r.room; short = r.short });
    }

pub found_at : (c : Ledger) (n i : ℕ) (x : ShardLedger) → (i < length c.shards.items) × ((y : ShardLedger) → slice_get c.shards.items i ≡ Some y → y.shard ≡ n) → x ≡ get_or c.shards.items i x → IsAt c n x
found_at c n i x found is = (i, read_at c.shards.items i x found.0 is, found.1 x (read_at c.shards.items i x found.0 is))
