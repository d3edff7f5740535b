-- Records that come next to their shard.
use Rattle.std.proofs.Common.{◌≡◌, ℕ, zero, suc, ◌+◌, ◌<◌, ◌≤◌, Bool, true, false, not, ◌&&◌, List, [], ◌∷◌, ◌++◌, length, refl, sym, ap, ◌∙◌, subst, inl, inr, Option, Some, arith, is_some}
use Rattle.std.specs.Prelude.{All, slice_get, nat_le}
use Rattle.std.proofs.lemmas.Bool.{cases_Bool, leb-true}
use Rattle.esm_model.specs.declared.config.Config.{Config}
use Rattle.esm_model.specs.declared.config.Kind.{Kind}
use Rattle.esm_model.specs.Records.{Record}
use Rattle.esm_model.specs.declared.entry.Entry.{Entry}
use Rattle.esm_model.specs.Valid.{IsStreamConfig, HasFieldsOf}
use Rattle.esm_model.specs.Setting.{Setting, Stream, Extends, over, records_in, record_at}
use Rattle.esm_model.specs.Entries.{holds, came_count, shards_that_came}
use Rattle.esm_model.specs.Step.{Legal}
use Rattle.esm_model.proofs.Lists.{In, not_in}
use Rattle.esm_model.proofs.Records.{same_records, window_same}
use Rattle.esm_shard_index.specs.Windows.{WindowTable, IsWindows, window_before}
use Rattle.esm_shard_index.specs.LaneHistory.{HasFoundTries}
use Rattle.esm_shard_index.proofs.WindowSteps.{windows_begin}
use Rattle.esm_model.specs.Windows.{window_of}
use Rattle.esm_ledger.specs.declared.arriving.Arriving.{Arriving}
use Rattle.esm_ledger.specs.declared.ledger.Ledger.{Ledger}
use Rattle.esm_ledger.specs.declared.measure.Measure.{Measure}
use Rattle.esm_ledger.specs.declared.shard.ShardLedger.{ShardLedger}
use Rattle.esm_ledger.specs.Shard.{IsShard, measure_at}
use Rattle.esm_ledger.specs.Arriving.{AreArriving, IsEven, IsWithin, HasRoomFor}
use Rattle.esm_ledger.specs.Ledger.{past_of, setting_of, IsAt, Keeps}
use Rattle.esm_ledger.specs.Coming.{with_list, grown, IsComing, TellsPassing}
use Rattle.esm_ledger.specs.Measuring.{last_window}
use Rattle.esm_ledger.specs.Found.{HasFoundWindows, TellsOf}
use Rattle.esm_ledger.proofs.Ledgers.{own_legal, names, shard_in, shard_found, records_here, records_absent, nowhere_none, IsNowhere}
use Rattle.esm_ledger.proofs.Comes.{grown_extends}
use Rattle.esm_ledger.proofs.Prepared.{records_grown}

-- the configuration's factor

and_parts : (a b : Bool) → (a && b) ≡ true → (a ≡ true) × (b ≡ true)
and_parts true b e = (refl, e)
and_parts false b e = absurd (let clash : false ≡ true = e in cc)

pub record IsFactor (n : ℕ) : Type 0 where
  pub some : 1 ≤ n
  pub most : n ≤ 10

pub factor_is : (a : Config) → IsStreamConfig a → IsFactor a.factor
factor_is a is =
    let fields = subst (λ (k : Kind). HasFieldsOf k a) is.kind is.valid.fields in
    let parts = and_parts (nat_le 1 a.factor) (nat_le a.factor 10) fields.factor in
    record { some = leb-true 1 a.factor parts.0; most = leb-true a.factor 10 parts.1 }

-- where a shard is

pub nowhere_new : (c : Ledger) (n : ℕ) → Keeps c → IsNowhere c n → holds (shards_that_came (past_of c)) n ≡ false
nowhere_new c n k none = not_in (shards_that_came (past_of c)) n (λ member.
    let f = shard_found c.shards.items n (subst (λ (ns : List ℕ). In ns n) (sym k.rests.shards) member) in
    none f.kept (f.place, f.at, f.shard))

pub somewhere_known : (c : Ledger) (n : ℕ) (x : ShardLedger) → Keeps c → IsAt c n x → holds (shards_that_came (past_of c)) n ≡ true
somewhere_known c n x k at =
    subst (λ (ns : List ℕ). In ns n) k.rests.shards (subst (λ (m : ℕ). In (names c.shards.items) m) at.2 (shard_in c.shards.items at.0 x at.1))

-- the records that came

records_count : (c : Ledger) (n : ℕ) → Keeps c → length (records_in (setting_of c).streams n) ≡ came_count (past_of c) n
records_count c n k = elim (cases_Bool (holds (shards_that_came (past_of c)) n)) [
  | inl known ↦ (
      let f = shard_found c.shards.items n (subst (λ (ns : List ℕ). In ns n) (sym k.rests.shards) known) in
      let at : IsAt c n f.kept = (f.place, f.at, f.shard) in
      ap length (records_here c n f.kept k.rests at) ∙ (k.each n f.kept at).records.came ∙ ap (came_count (past_of c)) f.shard)
  | inr new ↦ (
      let none : IsNowhere c n = λ x at. let clash : true ≡ false = sym (somewhere_known c n x k at) ∙ new in absurd cc in
      ap length (records_absent c n none) ∙ sym (nowhere_none c n k.rests none))
]

get_right : (xs ys : List Record) (k : ℕ) → slice_get (xs ++ ys) (length xs + k) ≡ slice_get ys k
get_right [] ys k = (let same : 0 + k ≡ k = omega arith in ap (λ (i : ℕ). slice_get ys i) same)
get_right (x ∷ xs) ys k = (let same : suc (length xs) + k ≡ suc (length xs + k) = omega arith in ap (λ (i : ℕ). slice_get (x ∷ (xs ++ ys)) i) same ∙ get_right xs ys k)

pub records_stand : (c : Ledger) (n : ℕ) (rs : List Record) → Keeps c → (k : ℕ) (r : Record) → slice_get rs k ≡ Some r → record_at (grown (setting_of c) n rs) n (came_count (past_of c) n + k) ≡ Some r
records_stand c n rs k i r at =
    let old = records_in (setting_of c).streams n in
    ap (λ (xs : List Record). slice_get xs (came_count (past_of c) n + i)) (records_grown (setting_of c).streams n rs)
    ∙ ap (λ (m : ℕ). slice_get (old ++ rs) (m + i)) (sym (records_count c n k))
    ∙ get_right old rs i ∙ at

-- the window of the last of them

pub last_is : (s : Setting) (n count : ℕ) (ms : List Measure) → length ms ≡ count → ((i : ℕ) → i < count → (measure_at ms i).window ≡ window_of s n i) → last_window ms ≡ window_before s n count
last_is s n count [] size tells = ap (window_before s n) size
last_is s n count (m ∷ ms) size tells = tells (length ms) (omega (arith, size)) ∙ ap (window_before s n) size

pub last_kept : (s : Setting) (h : List Entry) (x : ShardLedger) (n : ℕ) → x.shard ≡ n → IsShard s h x → last_window x.measures.items ≡ window_before s n (came_count h n)
last_kept s h x n there is =
    subst (λ (m : ℕ). last_window x.measures.items ≡ window_before s m (came_count h m)) there
    (last_is s x.shard (came_count h x.shard) x.measures.items is.records.measured is.records.windows)

over_before : (s : Setting) (ts : List Stream) (h : List Entry) (n i : ℕ) → Extends s.streams ts → Legal s h → i ≤ came_count h n → window_before (over s ts) n i ≡ window_before s n i
over_before s ts h n zero more legal low = refl
over_before s ts h n (suc i) more legal low = window_same s ts h (same_records s ts h more legal) n i (omega (arith, low))

pub before_grown : (c : Ledger) (n : ℕ) (rs : List Record) → Keeps c → window_before (grown (setting_of c) n rs) n (came_count (past_of c) n) ≡ window_before (setting_of c) n (came_count (past_of c) n)
before_grown c n rs k =
    let s = setting_of c in
    over_before s (with_list s.streams n rs) (past_of c) n (came_count (past_of c) n) (grown_extends s.streams n rs) (own_legal s (past_of c) k.rests.legal) (omega arith)

-- the windows before any record came

pub windows_found : (c : Ledger) (n : ℕ) (t : WindowTable) → HasFoundWindows c.found n t → IsWindows (setting_of c) [] n t
windows_found c n t is = windows_begin (setting_of c) n t is.opened is.states is.tries is.last

-- what is to come

pub record Readies (c d : Ledger) (n : ℕ) (a : Arriving) (o : Option ShardLedger) : Type 0 where
  pub kept : Keeps d
  pub past : past_of d ≡ past_of c
  pub setting : setting_of d ≡ setting_of c
  pub known : (y : ShardLedger) → IsAt d n y → HasRoomFor y a
  pub named : is_some o ≡ not (holds (shards_that_came (past_of d)) n)
  pub fresh : (y : ShardLedger) → o ≡ Some y → (y.shard ≡ n) × IsShard (setting_of d) (past_of d) y × HasRoomFor y a

pub coming_is : (c d : Ledger) (n : ℕ) (a : Arriving) (fresh : Option ShardLedger) → Keeps c → Readies c d n a fresh → 1 ≤ length a.records.items → All (λ (r : Record). r.shard ≡ n) a.records.items → IsEven a
    → came_count (past_of c) n + length a.records.items < 4294967296 → All (IsWithin c.config.factor) a.landings.items
    → AreArriving (grown (setting_of c) n a.records.items) n (came_count (past_of c) n) a → IsComing d (record { shard = n; fresh = fresh; arriving = a })
coming_is c d n a fresh k is some shard even few within stand = record {
  some = some;
  shard = shard;
  even = even;
  few = subst (λ (h : List Entry). came_count h n + length a.records.items < 4294967296) (sym is.past) few;
  within = subst (λ (s : Setting). All (IsWithin s.config.factor) a.landings.items) (sym is.setting) within;
  stand = subst (λ (s : Setting). AreArriving (grown s n a.records.items) n (came_count (past_of d) n) a) (sym is.setting)
      (subst (λ (h : List Entry). AreArriving (grown (setting_of c) n a.records.items) n (came_count h n) a) (sym is.past) stand);
  known = is.known;
  named = is.named;
  fresh = is.fresh;
}

pub coming_made : (c d : Ledger) (n first before : ℕ) (a : Arriving) (fresh : Option ShardLedger) (rs : List Record) (ps : List Bool) → Keeps c → Readies c d n a fresh → a.records.items ≡ rs
    → first ≡ came_count (past_of c) n → before ≡ window_before (setting_of c) n (came_count (past_of c) n) → 1 ≤ length rs → All (λ (r : Record). r.shard ≡ n) rs → IsEven a
    → came_count (past_of c) n + length rs ≤ 4294967295 → TellsPassing (setting_of c) n (came_count (past_of c) n) rs ps
    → ((s : Setting) → TellsOf s c.config c.found → HasFoundTries s n → All (IsWithin c.config.factor) a.landings.items)
    → ((s : Setting) → TellsOf s c.config c.found → before ≡ window_before s n first → ((j : ℕ) (r : Record) → slice_get rs j ≡ Some r → record_at s n (first + j) ≡ Some r) → TellsPassing s n first rs ps → AreArriving s n first a)
    → IsComing d (record { shard = n; fresh = fresh; arriving = a })
coming_made c d n first before a fresh rs ps k is same first_is before_is some shard even few passing within goes =
    let s = setting_of c in
    let g = grown s n rs in
    let count = came_count (past_of c) n in
    let told : TellsPassing g n (came_count (past_of c) n) rs ps = record { all = passing.all; each = passing.each } in
    let stands : AreArriving g n first a = goes g (record { config = refl; fates = refl; tries = refl })
    (before_is ∙ sym (before_grown c n rs k) ∙ ap (window_before g n) (sym first_is))
    (λ j r at. ap (λ (i : ℕ). record_at g n (i + j)) first_is ∙ records_stand c n rs k j r at)
    (subst (λ (m : ℕ). TellsPassing g n m rs ps) (sym first_is) told) in
    let fits : came_count (past_of c) n + length a.records.items < 4294967296 = (let size : length a.records.items ≡ length rs = ap length same in omega (arith, size, few)) in
    coming_is c d n a fresh k is
    (subst (λ (qs : List Record). 1 ≤ length qs) (sym same) some)
    (subst (λ (qs : List Record). All (λ (r : Record). r.shard ≡ n) qs) (sym same) shard)
    even fits (within s (record { config = refl; fates = refl; tries = refl }) (k.found n))
    (subst (λ (qs : List Record). AreArriving (grown s n qs) n count a) (sym same) (subst (λ (m : ℕ). AreArriving g n m a) first_is stands))
