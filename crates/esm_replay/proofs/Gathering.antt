-- The rows that are gathered from the records are those of the setting.
use Rattle.std.proofs.Common.{◌≡◌, ℕ, zero, suc, ◌+◌, ◌<◌, ◌≤◌, Bool, true, false, not, cond, ◌&&◌, ◌||◌, List, [], ◌∷◌, ◌++◌, length, get_or, take, refl, sym, ap, ◌∙◌, subst, inl, inr, arith, Option, Some, None, length-append}
use Rattle.std.specs.Prelude.{◌==◌, nat_lt, filter, map, slice_get, option_map, unwrap_or}
use Rattle.std.specs.List.{All, list_any}
use Rattle.std.proofs.lemmas.Bool.{cases_Bool, eqb-true, eq-eqb}
use Rattle.std.proofs.lemmas.List.{take_more, map-append, append-nil}
use Rattle.std.proofs.lemmas.List.Elements.{All-nil, All-cons, All-append, filter-append}
use Rattle.esm_model.specs.declared.config.Config.{Config}
use Rattle.esm_model.specs.Records.{Record}
use Rattle.esm_model.specs.Setting.{records_in, record_at}
use Rattle.esm_model.specs.Fates.{below}
use Rattle.esm_journal_state.specs.SaidLists.{SaidLists}
use Rattle.esm_replay_model.specs.declared.range.Range.{Range}
use Rattle.esm_replay_model.specs.ReplaySetting.{ReplaySetting, is_named, is_in_ranges, is_given_up, is_found_replayed}
use Rattle.esm_replay_model.specs.Pieces.{inserted}
use Rattle.esm_replay.specs.declared.rows.Named.{Named}
use Rattle.esm_replay.specs.declared.rows.Row.{Row}
use Rattle.esm_replay.specs.Records.{shards_of, of_shard, stream_of, streams_of, setting_with, names}
use Rattle.esm_replay.specs.Rows.{places_of, Stands, IsRow, IsRowAt, count_in, came_in, named_in, newly, IsGrown, IsGrownAt}

-- the records of a shard

pub held_inserted : (k n : ℕ) (ms : List ℕ) → list_any (λ m. m == n) (inserted k ms) ≡ ((k == n) || list_any (λ m. m == n) ms)
held_inserted k n [] = refl
held_inserted k n (m ∷ ms) =
    elim (cases_Bool (k == m)) [
      | inl same ↦ rw same (let e : k ≡ m = eqb-true k m same in subst (λ (j : ℕ). ((m == n) || list_any (λ i. i == n) ms) ≡ ((j == n) || ((m == n) || list_any (λ i. i == n) ms))) (sym e) (twice (m == n) (list_any (λ i. i == n) ms)))
      | inr other ↦ rw other (elim (cases_Bool (nat_lt k m)) [
        | inl less ↦ rw less refl
        | inr more ↦ rw more (ap (λ (b : Bool). (m == n) || b) (held_inserted k n ms) ∙ swap (m == n) (k == n) (list_any (λ i. i == n) ms))
      ])
    ]
  where
    twice : (a b : Bool) → (a || b) ≡ (a || (a || b))
    twice true b = refl
    twice false b = refl

    swap : (a b c : Bool) → (a || (b || c)) ≡ (b || (a || c))
    swap true true c = refl
    swap true false c = refl
    swap false true c = refl
    swap false false c = refl

pub none_of_shard : (n : ℕ) (rs : List Record) → list_any (λ m. m == n) (shards_of rs) ≡ false → of_shard n rs ≡ []
none_of_shard n [] none = refl
none_of_shard n (r ∷ rs) none =
    let parts : ((r.shard == n) || list_any (λ m. m == n) (shards_of rs)) ≡ false = sym (held_inserted r.shard n (shards_of rs)) ∙ none in
    elim (cases_Bool (r.shard == n)) [
      | inl same ↦ (let clash : true ≡ false = sym (ap (λ (b : Bool). b || list_any (λ m. m == n) (shards_of rs)) same) ∙ parts in cc)
      | inr other ↦ rw other (none_of_shard n rs (sym (ap (λ (b : Bool). b || list_any (λ m. m == n) (shards_of rs)) other) ∙ parts))
    ]

in_streams : (rs : List Record) (ns : List ℕ) (n : ℕ) → records_in (map (stream_of rs) ns) n ≡ cond (list_any (λ m. m == n) ns) (of_shard n rs) []
in_streams rs [] n = refl
in_streams rs (m ∷ ns) n =
    elim (cases_Bool (m == n)) [
      | inl same ↦ rw same (ap (λ (k : ℕ). of_shard k rs) (eqb-true m n same))
      | inr other ↦ rw other (in_streams rs ns n)
    ]

pub records_are : (n : ℕ) (rs : List Record) → records_in (streams_of rs) n ≡ of_shard n rs
records_are n rs =
    elim (cases_Bool (list_any (λ m. m == n) (shards_of rs))) [
      | inl is ↦ in_streams rs (shards_of rs) n ∙ rw is refl
      | inr none ↦ in_streams rs (shards_of rs) n ∙ rw none (sym (none_of_shard n rs none))
    ]

-- one more record

pub shard_more : (n : ℕ) (rs : List Record) (i : ℕ) (r : Record) → i < length rs → r ≡ get_or rs i r → of_shard n (take (i + 1) rs) ≡ of_shard n (take i rs) ++ of_shard n (r ∷ [])
shard_more n rs i r l at =
    ap (of_shard n) (take_more rs i r l)
    ∙ filter-append (λ (x : Record). x.shard == n) (take i rs) (get_or rs i r ∷ [])
    ∙ ap (λ (x : Record). of_shard n (take i rs) ++ of_shard n (x ∷ [])) (sym at)

pub count_here : (rs : List Record) (i : ℕ) (r : Record) → i < length rs → r ≡ get_or rs i r → count_in r.shard rs (i + 1) ≡ count_in r.shard rs i + 1
count_here rs i r l at =
    let one : of_shard r.shard (r ∷ []) ≡ r ∷ [] = rw (eq-eqb r.shard r.shard refl) refl in
    ap (λ (xs : List Record). length xs) (shard_more r.shard rs i r l at ∙ ap (λ (xs : List Record). of_shard r.shard (take i rs) ++ xs) one)
    ∙ length-append (of_shard r.shard (take i rs)) (r ∷ [])

pub count_there : (n : ℕ) (rs : List Record) (i : ℕ) (r : Record) → i < length rs → r ≡ get_or rs i r → (r.shard == n) ≡ false → count_in n rs (i + 1) ≡ count_in n rs i
count_there n rs i r l at other =
    let none : of_shard n (r ∷ []) ≡ [] = rw other refl in
    ap (λ (xs : List Record). length xs) (shard_more n rs i r l at ∙ ap (λ (xs : List Record). of_shard n (take i rs) ++ xs) none ∙ append-nil (of_shard n (take i rs)))

pub count_within : (n : ℕ) (rs : List Record) (i : ℕ) → count_in n rs i ≤ i
count_within n rs zero = omega arith
count_within n [] (suc i) = omega arith
count_within n (r ∷ rs) (suc i) =
    let behind : count_in n rs i ≤ i = count_within n rs i in
    elim (cases_Bool (r.shard == n)) [ inl same ↦ rw same (omega arith) | inr other ↦ rw other (omega arith) ]

-- the record stands at its place of its shard
own_place : (n : ℕ) (rs : List Record) (i : ℕ) (r : Record) → r.shard ≡ n → i < length rs → r ≡ get_or rs i r → slice_get (of_shard n rs) (count_in n rs i) ≡ Some r
own_place n [] i r here l at = absurd (omega arith)
own_place n (x ∷ rs) zero r here l at =
    subst (λ (y : Record). slice_get (of_shard n (y ∷ rs)) 0 ≡ Some r) at (rw (eq-eqb r.shard n here) refl)
own_place n (x ∷ rs) (suc i) r here l at =
    let behind : slice_get (of_shard n rs) (count_in n rs i) ≡ Some r = own_place n rs i r here (omega arith) at in
    elim (cases_Bool (x.shard == n)) [ inl same ↦ rw same behind | inr other ↦ rw other behind ]

pub among : (rs : List Record) (i : ℕ) (r : Record) → i < length rs → r ≡ get_or rs i r → slice_get rs i ≡ Some r
among [] i r l at = absurd (omega arith)
among (x ∷ rs) zero r l at = ap Some (sym at)
among (x ∷ rs) (suc i) r l at = among rs i r (omega arith) at

-- the test of a record is that of the setting
named_is : (s : ReplaySetting) (n i : ℕ) (r : Record) → record_at s.base n i ≡ Some r → is_named s n i ≡ (is_given_up s n i && (is_in_ranges s.ranges n r.seq && not (is_found_replayed s n i)))
named_is s n i r at = ap (λ (o : Option Record). is_given_up s n i && (unwrap_or (option_map (λ (x : Record). is_in_ranges s.ranges n x.seq) o) false && not (is_found_replayed s n i))) at

-- rows

places-append : (xs ys : List Named) → places_of (xs ++ ys) ≡ places_of xs ++ places_of ys
places-append xs ys = map-append (λ (d : Named). d.place) xs ys

newly_places : (b : Bool) (k at : ℕ) → places_of (newly b k at) ≡ cond b (k ∷ []) []
newly_places true k at = refl
newly_places false k at = refl

newly_stand : (s : ReplaySetting) (rs : List Record) (n : ℕ) (b : Bool) (k at : ℕ) → Stands s rs n (record { place = k; at = at }) → All (Stands s rs n) (newly b k at)
newly_stand s rs n true k at stands = All-cons (Stands s rs n) (record { place = k; at = at }) [] stands (All-nil (Stands s rs n))
newly_stand s rs n false k at stands = All-nil (Stands s rs n)

-- what a row says of what the shard has
record HasRow (s : ReplaySetting) (rs : List Record) (n count : ℕ) (old : Option Row) : Type 0 where
  came : came_in old ≡ count
  places : places_of (named_in old) ≡ filter (is_named s n) (below count)
  stand : All (Stands s rs n) (named_in old)

has_row : (s : ReplaySetting) (rs : List Record) (n count : ℕ) (old : Option Row) → IsRowAt s rs n count old → HasRow s rs n count old
has_row s rs n count None none = record { came = sym none; places = ap (λ (k : ℕ). filter (is_named s n) (below k)) (sym none); stand = All-nil (Stands s rs n) }
has_row s rs n count (Some row) is = record { came = is.came; places = is.places; stand = is.stand }

filter_one : (p : ℕ → Bool) (k : ℕ) → filter p (k ∷ []) ≡ cond (p k) (k ∷ []) []
filter_one p k = refl

grows : (s : ReplaySetting) (rs : List Record) (i : ℕ) (r : Record) (b : Bool) (old : Option Row) (row : Row) → i < length rs → r ≡ get_or rs i r
    → record_at s.base r.shard (count_in r.shard rs i) ≡ Some r → b ≡ is_named s r.shard (count_in r.shard rs i)
    → HasRow s rs r.shard (count_in r.shard rs i) old → IsGrown b i old row → IsRow s rs r.shard (count_in r.shard rs (i + 1)) row
grows s rs i r b old row l at there is has grown =
    let k : ℕ = count_in r.shard rs i in
    let more : count_in r.shard rs (i + 1) ≡ k + 1 = count_here rs i r l at in
    let was : came_in old ≡ k = has.came in
    subst (λ (c : ℕ). IsRow s rs r.shard c row) (sym more) (record {
      came = grown.0 ∙ ap (λ (c : ℕ). c + 1) was;
      some = omega arith;
      places =
          ap places_of grown.1
          ∙ places-append (named_in old) (newly b (came_in old) i)
          ∙ ap (λ (xs : List ℕ). xs ++ places_of (newly b (came_in old) i)) has.places
          ∙ ap (λ (xs : List ℕ). filter (is_named s r.shard) (below k) ++ xs) (newly_places b (came_in old) i ∙ ap (λ (c : ℕ). cond b (c ∷ []) []) was ∙ ap (λ (a : Bool). cond a (k ∷ []) []) is)
          ∙ sym (filter-append (is_named s r.shard) (below k) (k ∷ []))
          ∙ ap (filter (is_named s r.shard)) (below_more k);
      stand = subst (λ (ds : List Named). All (Stands s rs r.shard) ds) (sym grown.1) (All-append (Stands s rs r.shard) (named_in old) (newly b (came_in old) i) has.stand
          (newly_stand s rs r.shard b (came_in old) i (record { own = r; among = among rs i r l at; there = ap (λ (c : ℕ). record_at s.base r.shard c) was ∙ there })));
    })
  where
    below_more : (k : ℕ) → below k ++ k ∷ [] ≡ below (k + 1)
    below_more k = let e : k + 1 ≡ suc k = omega arith in sym (ap below e)

-- the rows of the records before the i-th and of that record
pub row_grows : (config : Config) (calls : ℕ) (told : SaidLists) (ranges : List Range) (rs : List Record) (i : ℕ) (r : Record) (old new : Option Row) → i < length rs → r ≡ get_or rs i r
    → IsRowAt (setting_with config calls told ranges rs) rs r.shard (count_in r.shard rs i) old → IsGrownAt (names told ranges r (came_in old)) i old new
    → IsRowAt (setting_with config calls told ranges rs) rs r.shard (count_in r.shard rs (i + 1)) new
row_grows config calls told ranges rs i r old None l at is grown = absurd grown
row_grows config calls told ranges rs i r old (Some row) l at is grown =
    let s : ReplaySetting = setting_with config calls told ranges rs in
    let has : HasRow s rs r.shard (count_in r.shard rs i) old = has_row s rs r.shard (count_in r.shard rs i) old is in
    let there : record_at s.base r.shard (count_in r.shard rs i) ≡ Some r = ap (λ (xs : List Record). slice_get xs (count_in r.shard rs i)) (records_are r.shard rs) ∙ own_place r.shard rs i r refl l at in
    let test : names told ranges r (came_in old) ≡ is_named s r.shard (count_in r.shard rs i) = ap (names told ranges r) has.came ∙ sym (named_is s r.shard (count_in r.shard rs i) r there) in
    grows s rs i r (names told ranges r (came_in old)) old row l at there test has grown

pub row_stays : (config : Config) (calls : ℕ) (told : SaidLists) (ranges : List Range) (rs : List Record) (i q : ℕ) (r : Record) (old new : Option Row) → i < length rs → r ≡ get_or rs i r → (r.shard == q) ≡ false
    → new ≡ old → IsRowAt (setting_with config calls told ranges rs) rs q (count_in q rs i) old → IsRowAt (setting_with config calls told ranges rs) rs q (count_in q rs (i + 1)) new
row_stays config calls told ranges rs i q r old new l at other same is =
    subst (λ (o : Option Row). IsRowAt (setting_with config calls told ranges rs) rs q (count_in q rs (i + 1)) o) (sym same)
    (subst (λ (c : ℕ). IsRowAt (setting_with config calls told ranges rs) rs q c old) (sym (count_there q rs i r l at other)) is)

-- and so are all rows
pub came_grows : (b : Bool) (rs : List Record) (i : ℕ) (r : Record) (old new : Option Row) → i < length rs → r ≡ get_or rs i r → came_in old ≡ count_in r.shard rs i → IsGrownAt b i old new → came_in new ≡ count_in r.shard rs (i + 1)
came_grows b rs i r old None l at was grown = absurd grown
came_grows b rs i r old (Some row) l at was grown = grown.0 ∙ ap (λ (k : ℕ). k + 1) was ∙ sym (count_here rs i r l at)

pub came_stays : (rs : List Record) (i q : ℕ) (r : Record) (old new : Option Row) → i < length rs → r ≡ get_or rs i r → (r.shard == q) ≡ false → new ≡ old → came_in old ≡ count_in q rs i → came_in new ≡ count_in q rs (i + 1)
came_stays rs i q r old new l at other same was = ap came_in same ∙ was ∙ sym (count_there q rs i r l at other)
