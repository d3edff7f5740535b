-- The setting of a replay depends on the records of each shard alone, and lines give one list of ranges, where none is bad.
use Rattle.std.proofs.Common.{◌≡◌, ◌∙◌, ◌<◌, ℕ, Bool, true, false, ◌||◌, List, [], ◌∷◌, ◌++◌, Option, Some, None, ap, ap₂, arith, inl, inr, refl, subst, sym}
use Rattle.std.specs.Prelude.{◌==◌, map, option_map, slice_get}
use Rattle.std.specs.List.{list_any}
use Rattle.std.proofs.lemmas.Bool.{cases_Bool, cases_lt, eq-eqb, eqb-true, false_from_ne_true, or_cases}
use Rattle.std.proofs.lemmas.Option.{slice_get-map}
use Rattle.esm_model.specs.Setting.{Stream, over}
use Rattle.esm_model.specs.declared.config.Config.{Config}
use Rattle.esm_model.specs.declared.item.Item.{Item}
use Rattle.esm_model.specs.declared.item.Item.TheVariants as items
use Rattle.esm_model.specs.Records.{Record}
use Rattle.esm_replay.proofs.FirstPieces.{rising_records}
use Rattle.esm_replay.proofs.Gathering.{held_inserted, none_of_shard}
use Rattle.esm_replay.specs.Records.{of_shard, setting_with, shards_of, stream_of, streams_of}
use Rattle.esm_replay_book.specs.Opening.{GiveRanges, IsFirstBadLine}
use Rattle.esm_replay_book.specs.Serving.{records_in_items}
use Rattle.esm_replay_model.proofs.Counting.{Above, Rising}
use Rattle.esm_replay_model.specs.FailureRange.{failure_range}
use Rattle.esm_replay_model.specs.ReplaySetting.{ReplaySetting, replay_config}
use Rattle.esm_replay_model.specs.declared.range.Range.{Range}
use Rattle.esm_replay_run.specs.Headline.{IsSettingOf}
use Rattle.esm_runner.specs.Files.{FilesState}
use Rattle.esm_run.proofs.Fronts.{IsFront}

-- rising numbers are one list, where the same ones stand in it

abbrev are_in : List ℕ → ℕ → Bool
are_in ns n = list_any (λ m. m == n) ns

first_in : (n : ℕ) (ns : List ℕ) → are_in (n ∷ ns) n ≡ true
first_in n ns = rw (eq-eqb n n refl) refl

not_above : (n : ℕ) (ms : List ℕ) → Above n ms → are_in ms n ≡ true → ⊥
not_above n [] above is = cc
not_above n (m ∷ ms) above is =
    elim (or_cases (m == n) (are_in ms n) is) [
      | inl here ↦ (let same : m ≡ n = eqb-true m n here in let less : n < m = above.0 in absurd (omega arith))
      | inr there ↦ not_above n ms above.1 there
    ]

above_less : (n m : ℕ) (ms : List ℕ) → n < m → Above m ms → Above n ms
above_less n m [] less above = tt
above_less n m (k ∷ ms) less above = (let more : m < k = above.0 in (omega arith, above_less n m ms less above.1))

not_least : (n m : ℕ) (ms : List ℕ) → Rising (m ∷ ms) → n < m → are_in (m ∷ ms) n ≡ true → ⊥
not_least n m ms rising less is = not_above n (m ∷ ms) (less, above_less n m ms less rising.0) is

same_first : (n m : ℕ) (ns ms : List ℕ) → Rising (n ∷ ns) → Rising (m ∷ ms) → ((k : ℕ) → are_in (n ∷ ns) k ≡ are_in (m ∷ ms) k) → n ≡ m
same_first n m ns ms one other alike =
    elim (cases_lt n m) [
      | inl less ↦ absurd (not_least n m ms other less (sym (alike n) ∙ first_in n ns))
      | inr ge ↦ elim (cases_lt m n) [
        | inl more ↦ absurd (not_least m n ns one more (alike m ∙ first_in m ms))
        | inr le ↦ omega arith
      ]
    ]

same_rest : (n : ℕ) (ns ms : List ℕ) → Above n ns → Above n ms → ((k : ℕ) → are_in (n ∷ ns) k ≡ are_in (n ∷ ms) k) → (k : ℕ) → are_in ns k ≡ are_in ms k
same_rest n ns ms one other alike k =
    elim (cases_Bool (n == k)) [
      | inl here ↦
          (let same : n ≡ k = eqb-true n k here in
          false_from_ne_true (are_in ns k) (λ is. not_above k ns (subst (λ j. Above j ns) same one) is)
          ∙ sym (false_from_ne_true (are_in ms k) (λ is. not_above k ms (subst (λ j. Above j ms) same other) is)))
      | inr there ↦ sym (ap (λ (b : Bool). b || are_in ns k) there) ∙ alike k ∙ ap (λ (b : Bool). b || are_in ms k) there
    ]

rising_once : (ns ms : List ℕ) → Rising ns → Rising ms → ((k : ℕ) → are_in ns k ≡ are_in ms k) → ns ≡ ms
rising_once [] [] one other alike = refl
rising_once [] (m ∷ ms) one other alike = (let both : false ≡ true = alike m ∙ first_in m ms in absurd (cc))
rising_once (n ∷ ns) [] one other alike = (let both : true ≡ false = sym (first_in n ns) ∙ alike n in absurd (cc))
rising_once (n ∷ ns) (m ∷ ms) one other alike =
    let same : m ≡ n = sym (same_first n m ns ms one other alike) in
    let above : Above n ms = subst (λ j. Above j ms) same other.0 in
    let all : (k : ℕ) → are_in (n ∷ ns) k ≡ are_in (n ∷ ms) k = λ k. alike k ∙ ap (λ j. are_in (j ∷ ms) k) same in
    ap₂ (λ (k : ℕ) (ks : List ℕ). k ∷ ks) (sym same) (rising_once ns ms one.1 other.1 (same_rest n ns ms one.0 above all))

-- the shards of records, and their streams

abbrev AreAlike : (came come : List Record) → Type 0
AreAlike came come = (n : ℕ) → of_shard n came ≡ of_shard n come

some_of_shard : (n : ℕ) (rs : List Record) → are_in (shards_of rs) n ≡ true → of_shard n rs ≡ [] → ⊥
some_of_shard n [] is none = cc
some_of_shard n (r ∷ rs) is none =
    let parts : ((r.shard == n) || are_in (shards_of rs) n) ≡ true = sym (held_inserted r.shard n (shards_of rs)) ∙ is in
    elim (cases_Bool (r.shard == n)) [
      | inl here ↦ (let own : of_shard n (r ∷ rs) ≡ r ∷ of_shard n rs = rw here refl in let both : r ∷ of_shard n rs ≡ [] = sym own ∙ none in cc)
      | inr there ↦
          (let less : of_shard n (r ∷ rs) ≡ of_shard n rs = rw there refl in
          some_of_shard n rs (sym (ap (λ (b : Bool). b || are_in (shards_of rs) n) there) ∙ parts) (sym less ∙ none))
    ]

also_in : (came come : List Record) → AreAlike came come → (n : ℕ) → are_in (shards_of came) n ≡ true → are_in (shards_of come) n ≡ true
also_in came come alike n is =
    elim (cases_Bool (are_in (shards_of come) n)) [
      | inl also ↦ also
      | inr none ↦ absurd (some_of_shard n came is (alike n ∙ none_of_shard n come none))
    ]

in_both : (came come : List Record) → AreAlike came come → (n : ℕ) → are_in (shards_of came) n ≡ are_in (shards_of come) n
in_both came come alike n =
    elim (cases_Bool (are_in (shards_of came) n)) [
      | inl is ↦ is ∙ sym (also_in came come alike n is)
      | inr none ↦
          (let other : are_in (shards_of come) n ≡ false =
          false_from_ne_true (are_in (shards_of come) n) (λ is. let both : true ≡ false = sym (also_in come came (λ k. sym (alike k)) n is) ∙ none in cc) in
          none ∙ sym other)
    ]

same_shards : (came come : List Record) → AreAlike came come → shards_of came ≡ shards_of come
same_shards came come alike = rising_once (shards_of came) (shards_of come) (rising_records came) (rising_records come) (in_both came come alike)

streams_by : (came come : List Record) (ns : List ℕ) → AreAlike came come → map (stream_of came) ns ≡ map (stream_of come) ns
streams_by came come [] alike = refl
streams_by came come (n ∷ ns) alike =
    ap₂ (λ (t : Stream) (ts : List Stream). t ∷ ts) (ap (λ (rs : List Record). record { shard = n; records = rs }) (alike n)) (streams_by came come ns alike)

same_streams : (came come : List Record) → AreAlike came come → streams_of came ≡ streams_of come
same_streams came come alike = streams_by came come (shards_of came) alike ∙ ap (map (stream_of come)) (same_shards came come alike)

-- the ranges

some_once : (rs qs : List Range) → map Some rs ≡ map Some qs → rs ≡ qs
some_once [] [] same = refl
some_once [] (q ∷ qs) same = absurd (cc)
some_once (r ∷ rs) [] same = absurd (cc)
some_once (r ∷ rs) (q ∷ qs) same =
    let first : Some r ≡ Some q = cc in
    let head : r ≡ q = cc in
    let tail : map Some rs ≡ map Some qs = cc in
    ap₂ (λ (x : Range) (xs : List Range). x ∷ xs) head (some_once rs qs tail)

not_none : (o : Option Range) → option_map (λ (r : Range). Some r) o ≡ Some None → ⊥
not_none None is = cc
not_none (Some r) is = cc

-- lines that give ranges have no bad one
pub no_bad_line : (lines : List (List ℕ)) (ranges : List Range) (i : ℕ) → GiveRanges lines ranges → IsFirstBadLine lines i → ⊥
no_bad_line lines ranges i given bad =
    let here : slice_get (map failure_range lines) i ≡ Some None =
    slice_get-map failure_range lines i ∙ ap (option_map failure_range) bad.at ∙ ap (λ (o : Option Range). Some o) bad.bad in
    not_none (slice_get ranges i) (sym (slice_get-map (λ (r : Range). Some r) ranges i) ∙ ap (λ (os : List (Option Range)). slice_get os i) (sym given) ∙ here)

-- the setting

abbrev with_streams : ReplaySetting → List Stream → ReplaySetting
with_streams s streams = record s { base = over s.base streams }

pub same_setting : {D : Type 0} (c d : Config) (calls : ℕ) (f g : FilesState D) (came come : List Record) (s z : ReplaySetting) → c ≡ d → f.said ≡ g.said → f.dest.payloads ≡ g.dest.payloads
    → ((n : ℕ) → of_shard n came ≡ of_shard n come) → IsSettingOf c calls f came s → IsSettingOf d calls g come z → s ≡ z
same_setting c d calls f g came come s z configs saids lines alike one other =
    let ranges : one.ranges ≡ other.ranges = some_once one.ranges other.ranges (sym one.given ∙ ap (map failure_range) lines ∙ other.given) in
    one.is
    ∙ ap (λ config. setting_with (replay_config config) calls f.said one.ranges came) configs
    ∙ ap (λ said. setting_with (replay_config d) calls said one.ranges came) saids
    ∙ ap (λ rs. setting_with (replay_config d) calls g.said rs came) ranges
    ∙ ap (λ streams. with_streams (setting_with (replay_config d) calls g.said other.ranges came) streams) (same_streams came come alike)
    ∙ sym other.is

-- the records of the first items of an input are the first of its own

records_more : (xs ys : List Item) → records_in_items (xs ++ ys) ≡ records_in_items xs ++ records_in_items ys
records_more [] ys = refl
records_more (items.Stream r ∷ xs) ys = ap (λ rs. r ∷ rs) (records_more xs ys)
records_more (items.Queue m ∷ xs) ys = records_more xs ys

pub replay_records_front : (xs ys : List Item) → IsFront xs ys → IsFront (records_in_items xs) (records_in_items ys)
replay_records_front xs ys front = (records_in_items front.0, ap records_in_items front.1 ∙ records_more xs front.0)
